use Rattle.std.proofs.Common.{◌++◌, codes, decimal, string_bytes, append_assoc}
use Rattle.text_report.proofs.WrittenLines.Written.{three_texts}
use Rattle.text_svg.proofs.signs.put_lost.Goals as goal

pub returns : goal.returns
returns c =
    three_texts (string_bytes c.args.text.now) (string_bytes c.write.new.self) _ _
    (codes "<path class='lost' d='M" ++ decimal c.args.x ++ codes " 42h8l-4 8z'><title>bit " ++ decimal c.args.bit
    ++ codes ": overrun, lost ") _ _ (simp append_assoc c.in_ok-write.ensures.bytes) c.in_ok-put_frame.ensures
    c.in_ok-push_str.ensures.bytes
