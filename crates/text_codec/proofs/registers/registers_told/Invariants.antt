use Rattle.std.proofs.Common.{◌≡◌, take}
use Rattle.text_codec.specs.RegistersText.{registers_text}
use Rattle.text_codec.proofs.registers.registers_told.Given as goal

-- the lines so far
abbrev pub invariant-loop-row : goal.invariant-loop-row
invariant-loop-row l = l.text.items ≡ registers_text (take l.row-index l.rows)
