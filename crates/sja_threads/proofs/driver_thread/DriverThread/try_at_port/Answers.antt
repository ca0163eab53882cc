use Rattle.std.proofs.Common.{◌≡◌, true, false, Some, None, refl, sym, ap, ◌∙◌}
use Rattle.sja_regs.specs.DriverSettings.{settings_in}
use Rattle.sja_threads.proofs.Driver.AtPort.{has_as}
use Rattle.sja_threads.proofs.Driver.AtPort.NotesAct.{at_port}
use Rattle.sja_threads.proofs.Driver.Steps.{act_none, does_try, may_try}
use Rattle.sja_threads.proofs.driver_thread.DriverThread.try_at_port.Goals as goal

pub returns-then-not-is_of : goal.returns-then-not-is_of
returns-then-not-is_of g c = act_none g.D.DriverEnd g.met.D.DriverEnd.same_refl c.args.self.now c.args.act.now

pub try_act-requires-clause-may : goal.try_act-requires-clause-may
try_act-requires-clause-may g c = may_try g.D.DriverEnd c.args.self.now c.requires.may

pub returns-in_default : goal.returns-in_default
returns-in_default g c =
    let s = c.try_act in
    does_try g.D.DriverEnd g.met.D.DriverEnd.same_node c.args.self.now _ _ _ c.args.act.now s.result _ refl
    (has_as c.requires.may.set s.ensures.has)
    (λ a e. absurd (let two : None ≡ Some a = sym c.in_default.is ∙ e in cc)) (λ e. refl)
    (λ e. absurd (let two : true ≡ false = sym c.requires.at_port ∙ e in cc))
    (λ a e. absurd (let two : None ≡ Some a = sym c.in_default.is ∙ e in cc)) (λ e. refl)
    (at_port c.requires.at_port s.ensures.node.0 s.ensures.node.1 s.ensures.done
    (λ a e. absurd (let two : None ≡ Some a = sym c.in_default.is ∙ e in cc)) (λ e. c.in_default.ensures.waits))
    s.ensures.stays s.ensures.steps None c.in_default.is

pub returns : goal.returns
returns g c =
    let s = c.try_act in
    let left = c.settings-self.ensures ∙ ap (λ v. settings_in v.registers) c.deref-3.ensures in
    let bits = c.deref_mut.result.now.bits in
    let noted = c.bits-found.ensures.bits ∙ ap (λ v. v.bits) (c.deref-2.ensures ∙ sym c.deref_mut.ensures.value) in
    does_try g.D.DriverEnd g.met.D.DriverEnd.same_node c.args.self.now _ _ _ c.args.act.now s.result bits refl
    (has_as c.requires.may.set s.ensures.has)
    (λ a e. left) (λ e. absurd (let two : Some c.in-Some.answer ≡ None = sym c.in-Some.is ∙ e in cc))
    (λ e. absurd (let two : true ≡ false = sym c.requires.at_port ∙ e in cc)) (λ a e. noted)
    (λ e. absurd (let two : Some c.in-Some.answer ≡ None = sym c.in-Some.is ∙ e in cc))
    (at_port c.requires.at_port s.ensures.node.0 s.ensures.node.1 s.ensures.done
    (λ a e. c.in-Some.ensures.set ∙ sym left)
    (λ e. absurd (let two : Some c.in-Some.answer ≡ None = sym c.in-Some.is ∙ e in cc)))
    s.ensures.stays s.ensures.steps (Some c.in-Some.answer) c.in-Some.is
