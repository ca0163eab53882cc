use Rattle.std.proofs.Common.{◌≡◌, rules, ◌∙◌, subst}
use Rattle.std.specs.Prelude.{IfOk}
use Rattle.sja_bus.specs.declared.bus_node.BusNode.{BusNode}
use Rattle.sja_bus.specs.Inside.BusNodeBits.{HadBit}
use Rattle.sja_bus.proofs.AtPorts.BusNodeBits.{had_quiet, keeps_quiet}
use Rattle.sja_bus.proofs.bus_node.BusNode.sample.Goals.{else-may_sample_quietly-via-else-may_sample_quietly}
use Rattle.sja_bus.proofs.bus_node.BusNode.sample.Goals as goal

pub returns-then-sample_quietly-clause-keeps : goal.returns-then-sample_quietly-clause-keeps
returns-then-sample_quietly-clause-keeps g c =
    keeps_quiet g.E.BusEnd g.B.Board g.met.E.BusEnd.same_refl g.met.B.Board.kept_refl c.args.self.now
    c.sample_quietly.new.self c.args.end.now c.args.board.now c.sample_quietly.ensures.node
    c.sample_quietly.ensures.room

pub returns-then-sample_quietly-clause-had : goal.returns-then-sample_quietly-clause-had
returns-then-sample_quietly-clause-had g c =
    had_quiet g.E.BusEnd g.B.Board g.met.E.BusEnd.same_refl g.met.B.Board.kept_refl c.args.seen c.args.self.now
    c.sample_quietly.new.self c.args.end.now c.args.board.now c.requires.at.ready
    c.sample_quietly.ensures.ready (c.sample_quietly.ensures.quiet (search rules))

-- where it didn't sample quietly nothing changed
pub returns-clause-had : goal.returns-clause-had
returns-clause-had g c =
    let E = g.E.BusEnd in let B = g.B.Board in let a = c.args.board.now in let z = c.sample_and_tell.new.board in
    let s = c.else-may_sample_quietly.self in let new = c.sample_and_tell.new.self in
    let end = c.args.end.now in let after = c.sample_and_tell.new.end in
    let is : s ≡ c.args.self.now = elim c.else-may_sample_quietly.branch [
      | goal.else-may_sample_quietly-via-then-may_sample_quietly+else-sample_quietly w ↦ w.self-is
          ∙ w.sample_quietly.ensures.same (search rules)
      | else-may_sample_quietly-via-else-may_sample_quietly w ↦ w.self-is
    ] in
    let H : BusNode → Type 0 = λ x. IfOk c.sample_and_tell.result (λ told. HadBit E B told c.args.seen x new end after
    a z) in
    subst H is c.sample_and_tell.ensures.had
