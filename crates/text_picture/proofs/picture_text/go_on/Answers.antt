use Rattle.std.proofs.Common.{arith}
use Rattle.text_picture.proofs.NodeRows.RestTold.{knows_rested}
use Rattle.text_picture.proofs.NodeRows.Stories.{knows_passed}
use Rattle.text_picture.proofs.WholePage.Pages.{room_fewer}
use Rattle.text_picture.proofs.picture_text.go_on.Goals as goal

pub returns-then-count-lt-MANY : goal.returns-then-count-lt-MANY
returns-then-count-lt-MANY c = record {
  further = omega arith;
  within = omega (arith, c.requires.within);
  draws = λ nodes k.
      knows_passed nodes c.args.bit c.args.node_traces.now c.pass_on_all.new.node_traces _ _ k c.pass_on_all.ensures
      c.in_ok-take.ensures;
}

pub rest_all-requires : goal.rest_all-requires
rest_all-requires c = λ k t less.
    (c.rest_for_all-count.ensures.rests (omega (arith, c.if-count-lt-MANY.false)) k t less).rests

pub rest-requires-clause-room : goal.rest-requires-clause-room
rest-requires-clause-room c =
    room_fewer c.args.span c.args.bit _ _ _ c.room.ensures c.rest_for_all-count.ensures.most

pub returns : goal.returns
returns c = record {
  further = omega (arith, c.if-count-lt-MANY.false);
  within = (let most = c.rest_for_all-count.ensures.most in let room = c.room.ensures.within in
      omega (arith, most, room));
  draws = λ nodes k.
      knows_rested nodes c.args.bit c.rest_for_all-count.result c.args.node_traces.now c.rest_all.new.node_traces _ _
      (omega (arith, c.if-count-lt-MANY.false)) k
      (c.rest_for_all-count.ensures.rests (omega (arith, c.if-count-lt-MANY.false))) c.rest_all.ensures
      c.in_ok-rest.ensures;
}
