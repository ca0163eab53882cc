use Rattle.std.proofs.Common.{◌≡◌, ◌+◌, ◌++◌, ℕ, List, length, string_bytes, arith, rules}
use Rattle.std.proofs.lemmas.List.{length-append}
use Rattle.text_report.proofs.WrittenLines.Written.{two_texts}
use Rattle.text_wave.specs.WaveText.{time_line}
use Rattle.text_wave.specs.Inside.Changes.{all_changes}
use Rattle.text_wave.proofs.wave_text.put_end.Goals as goal

ended : (old time new line changes : List ℕ) → time ≡ old ++ line → length new ≡ length time + length changes →
    new ≡ time ++ changes → new ≡ old ++ (line ++ changes)
ended old time new line changes first long last = two_texts old time new line changes first last

-- how long the text is is asked first, so that one without the changes is refused by values
pub returns-clause-text : goal.returns-clause-text
returns-clause-text c =
    ended (string_bytes c.args.text.now) (string_bytes c.put_time.new.text) _ (time_line c.args.bits)
    (all_changes c.advance_all.new.probes) c.in_ok-put_time.ensures (grind (arith, length-append)) (search rules)
