use Rattle.std.proofs.Common.{◌≡◌, Bool, false, map, sym, ◌∙◌, subst, arith}
use Rattle.std.proofs.lemmas.Bool.{le-ltb}
use Rattle.sja_driver.specs.StepRuns.{Answers, by_bytes, act_steps}
use Rattle.sja_driver.specs.TypedActs.{TypedAct}
use Rattle.sja_promises.proofs.OneNode.OneAct.{lead_one, one_act}
use Rattle.sja_promises.proofs.laws.a_step_of_versions_1_and_2_is_one_act.Goals as goal

pub returns : goal.returns
returns c = λ version j k p q seen before active kept kept_now a low when is on.
    let typed : by_bytes version ≡ false = le-ltb 2 version (omega (arith, low)) in
    let steps = subst (λ (b : Bool). map (λ (d : TypedAct). d.step) a.acts ≡ act_steps b p active a.step) typed
    is.steps in
    let answers = subst (λ (b : Bool). Answers b p seen kept a.bits a.step a.acts a.answer) typed is.answer in
    let one = one_act a.acts a.step a.answer steps answers in
    let port = lead_one on one.1 in (one.0, one.1, one.2, one.3, port.now ∙ sym when, port)
