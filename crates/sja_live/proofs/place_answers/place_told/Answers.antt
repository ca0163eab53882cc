use Rattle.sja_live.proofs.Replies.Placed.{told_place, told_nowhere}
use Rattle.sja_live.proofs.place_answers.place_told.Goals as goal

pub returns-in-Some : goal.returns-in-Some
returns-in-Some c =
    told_place c.args.session.now c.args.node c.place.result c.in-Some.place c.place.ensures.place c.in-Some.is

pub returns-in-None : goal.returns-in-None
returns-in-None c = told_nowhere c.args.session.now c.args.node c.place.result c.place.ensures.place c.in-None.is
