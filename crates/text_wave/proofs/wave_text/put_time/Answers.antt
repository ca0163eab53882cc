use Rattle.std.proofs.Common.{◌≡◌, ◌*◌, ◌++◌, ◌∷◌, [], ◌∙◌, ℕ, List, codes, decimal, ap, arith}
use Rattle.std.proofs.lemmas.Result.{on_ok_weaker}
use Rattle.text_wave.specs.WaveText.{time_line}
use Rattle.text_wave.proofs.wave_text.put_time.Goals as goal

-- the time that is written is that of the bit
line_of : (was now : List ℕ) (time bit : ℕ) → now ≡ was ++ ((codes "#" ++ decimal time) ++ 10 ∷ []) → time ≡ 10 * bit →
    now ≡ was ++ time_line bit
line_of was now time bit wrote is = wrote ∙ ap (λ n. was ++ ((codes "#" ++ decimal n) ++ 10 ∷ [])) is

pub returns : goal.returns
returns c =
    on_ok_weaker c.writeln.result (λ wrote. line_of _ _ _ c.args.bit wrote (omega arith)) c.writeln.ensures.bytes
