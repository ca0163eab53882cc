use Rattle.std.proofs.Common.{refl}
use Rattle.sja_live.specs.Answering.{place_refusal}
use Rattle.sja_live.proofs.Replies.Placed.{told_came, told_away, told_no_way}
use Rattle.sja_session.specs.declared.place_refusal.PlaceRefusal.TheVariants.{NoNode, TurnsUsed}
use Rattle.sja_live.proofs.place_answers.run_to.Goals as goal

pub returns-in-Ok : goal.returns-in-Ok
returns-in-Ok c =
    told_came c.args.session.now c.to_place.new.self c.args.node c.args.limit c.in-Ok.reached.bits c.args.place
    c.in-Ok.ensures.may (rw c.if-reached.true at c.in-Ok.ensures.runs)

pub returns-in-Ok-2 : goal.returns-in-Ok-2
returns-in-Ok-2 c =
    told_away c.args.session.now c.to_place.new.self c.args.node c.args.limit c.in-Ok.reached.bits c.args.place
    c.in-Ok.ensures.may (rw c.if-reached.false at c.in-Ok.ensures.runs)

pub returns-in-Err-NoNode : goal.returns-in-Err-NoNode
returns-in-Err-NoNode c =
    told_no_way c.args.session.now c.to_place.new.self c.args.node c.args.limit c.args.place NoNode
    (place_refusal NoNode) (rw c.in-Err-NoNode.field-0-is at c.in-Err-NoNode.ensures.err) refl
    c.in-Err-NoNode.ensures.kept

pub returns-in-Err-TurnsUsed : goal.returns-in-Err-TurnsUsed
returns-in-Err-TurnsUsed c =
    told_no_way c.args.session.now c.to_place.new.self c.args.node c.args.limit c.args.place TurnsUsed
    (place_refusal TurnsUsed) (rw c.in-Err-TurnsUsed.field-0-is at c.in-Err-TurnsUsed.ensures.err) refl
    c.in-Err-TurnsUsed.ensures.kept
