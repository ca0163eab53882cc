-- What is missing of a line, and what is over.
use Rattle.std.proofs.Common.{◌≡◌, ◌+◌, List}
use Rattle.std.proofs.Common.{◌++◌, length, ap, arith}
use Rattle.std.proofs.lemmas.List.{length-append}
use Rattle.can_frame.specs.Frame.{FrameValue}
use Rattle.can_levels.specs.declared.level.Level.{Level}
use Rattle.can_levels.specs.Line.{StuffedPart, Line}
use Rattle.can_levels.proofs.Ending.{line_at}
use Rattle.std.proofs.Common.{◌≡◌, ◌+◌, List, ◌++◌}
use Rattle.std.proofs.Common.{sym, subst, ◌∙◌}
use Rattle.std.proofs.lemmas.List.{append-nil}
use Rattle.std.proofs.lemmas.List.{nil_from_length}
use Rattle.can_levels.specs.Line.{tail}
use Rattle.can_levels.specs.Streaming.{IsOver}

-- what a part and some of its tail are missing
pub missing : {f g : FrameValue} {b c d e : List Level} {ack : Level} (part after rest : List Level) →
    StuffedPart f b c part →
    Line g d e ack ((part ++ after) ++ rest) → length after + length rest ≡ 10
missing part after rest h line =
    let on = line_at part after rest h line in
    let count = ap length on.tails in
    omega (arith, count, length-append after rest)

pub over_part : (l : List Level) (h : IsOver l) → l ≡ h.1.line.part ++ tail h.1.ack
over_part l h =
    let but = h.1 in
    let P : List Level → Type 0 = λ r. l ++ r ≡ but.line.part ++ tail but.ack in
    sym (append-nil l) ∙ subst P (nil_from_length but.rest but.count) but.line.whole
