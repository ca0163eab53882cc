use Rattle.std.proofs.Common.{refl}
use Rattle.sja_steps.specs.declared.step.Step.TheVariants.{Window, Release}
use Rattle.sja_threads.proofs.Driver.Settings.{registers_with, has_those}
use Rattle.sja_threads.proofs.Driver.AtPort.NotesAct.{elsewhere}
use Rattle.sja_threads.proofs.Driver.Steps.{does_try, may_release}
use Rattle.sja_threads.proofs.driver_thread.DriverThread.try_act.Goals as goal

pub step_window-requires : goal.step_window-requires
step_window-requires g c = may_release g.D.DriverEnd c.args.self.now c.requires

pub step_release-requires : goal.step_release-requires
step_release-requires g c = may_release g.D.DriverEnd c.args.self.now c.requires

pub returns-in-Window : goal.returns-in-Window
returns-in-Window g c =
    let s = c.step_window in
    let p = registers_with c.args.self.now.set in
    rw c.in-Window.is
    (does_try g.D.DriverEnd g.met.D.DriverEnd.same_node c.args.self.now _ p p Window s.result c.args.self.now.found refl
    (has_those c.args.self.now.set) (λ a e. refl) (λ e. refl) (λ e. refl) (λ a e. refl) (λ e. refl)
    (elsewhere refl refl refl) s.ensures.stays (s.ensures.steps p) s.result refl)

pub returns-in-Release : goal.returns-in-Release
returns-in-Release g c =
    let s = c.step_release in
    let p = registers_with c.args.self.now.set in
    rw c.in-Release.is
    (does_try g.D.DriverEnd g.met.D.DriverEnd.same_node c.args.self.now _ p p Release s.result c.args.self.now.found
    refl (has_those c.args.self.now.set) (λ a e. refl) (λ e. refl) (λ e. refl) (λ a e. refl) (λ e. refl)
    (elsewhere refl refl refl) s.ensures.stays (s.ensures.steps p) s.result refl)
