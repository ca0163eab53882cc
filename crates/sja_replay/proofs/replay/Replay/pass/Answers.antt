use Rattle.std.proofs.Common.{◌≡◌, ◌+◌, ◌<◌, ◌^◌, refl, ◌∙◌, rules}
use Rattle.sja_replay.proofs.BitTaken.Passed.{same_node, passed_bit}
use Rattle.sja_replay.proofs.BitTaken.Silent.{shorter}
use Rattle.sja_replay.proofs.replay.Replay.pass.Goals as goal
use Rattle.sja_replay.proofs.replay.Replay.pass.Goals.{then-may_start-via-then-may_start}
use Rattle.sja_replay.proofs.replay.Replay.pass.Goals.{then-may_start-via-else-may_start+then-not-sample_quietly}

-- src/passing.rt
pub returns-then-may_start-clause-none : goal.returns-then-may_start-clause-none
returns-then-may_start-clause-none c = λ none. elim c.then-may_start.branch [
  | then-may_start-via-then-may_start w ↦ w.self-is ∙ same_node c.args.self.now _ _ refl
  | then-may_start-via-else-may_start+then-not-sample_quietly w ↦
      w.self-is
      ∙ same_node c.args.self.now _ _ (w.sample_quietly.ensures.same w.if-not-sample_quietly.true)
]

pub returns-clause-shorter : goal.returns-clause-shorter
returns-clause-shorter c =
    shorter c.args.self.now c.look_on.new.self _ c.in_ok-driven.ensures c.look_on.ensures.left

pub returns-clause-passed : goal.returns-clause-passed
returns-clause-passed c = λ before at.
    let bits : c.in_ok-bits.bits ≡ c.args.self.now.bits + 1 = search rules in
    let few : c.in_ok-bits.bits < 2 ^ 32 = search rules in
    passed_bit c.args.self.now _
    c.look_on.new.self c.in_ok-driven.driven c.in_ok-driven.seen c.drive.result c.short-bit.result
    c.segment-segment.result _ before at c.in_ok-driven.ensures c.if-self.false c.drive.ensures
    (c.is_same.ensures.yes c.if-not-is_same.false) c.short-bit.ensures
    (c.sample_quietly.ensures.quiet c.if-not-sample_quietly.false)
    (c.sample_quietly.ensures.shown c.if-not-sample_quietly.false) c.segment-segment.ensures
    (c.may_start.ensures.none c.if-may_start.false) (record {
      bits = bits;
      few = few;
      aborted = refl;
      off = refl;
      free = refl;
      entries = refl;
    }) c.look_on.ensures
