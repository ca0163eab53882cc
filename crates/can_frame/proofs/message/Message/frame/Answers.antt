use Rattle.std.proofs.Common.{◌≡◌, true, ap, arith}
use Rattle.std.proofs.lemmas.Grind.{common_steps}
use Rattle.can_frame.specs.Buffer.{id_in}
use Rattle.can_frame.proofs.message.Message.frame.Goals.{then-said_ext, else-said_ext}
use Rattle.can_frame.proofs.message.Message.frame.Goals as goal

-- the identifier is the one in the bytes, by their format
pub returns-clause-value : goal.returns-clause-value
returns-clause-value c =
    let m = c.as_slice-bytes.result.now in
    elim c.if-said_ext.branch [
      | then-said_ext w ↦
          let id : c.if-said_ext.id.0 ≡ id_in true m = omega (arith, ap (λ p. p.0) w.id-is) in
          grind (arith, common_steps)
      | else-said_ext w ↦ grind (arith, common_steps)
    ]
