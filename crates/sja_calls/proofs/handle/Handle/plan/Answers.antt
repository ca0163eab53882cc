use Rattle.std.proofs.Common.{subst, sym, inr}
use Rattle.std.specs.Prelude.{Result, Ok, Err, IfErr}
use Rattle.sja_calls.specs.Texts.{IsNoPlanText, IsPlanFault}
use Rattle.sja_calls.proofs.handle.Handle.plan.Goals as goal

err_by : {A X : Type 0} {P Q : X → Type 0} (r : Result A X) → ((x : X) → P x → Q x) → IfErr r P → IfErr r Q
err_by (Ok a) f p = tt
err_by (Err x) f p = f x p

pub returns-in-Ok-clause-err : goal.returns-in-Ok-clause-err
returns-in-Ok-clause-err c =
    err_by c.put_plan.result (λ fault p. subst (λ s. IsNoPlanText s c.args.text.now fault) (sym c.in-Going.is)
    (inr (c.in-Ok.ensures.end, subst (λ plan. IsPlanFault plan c.args.text.now fault) c.in-Ok.ensures.plan p)))
    c.put_plan.ensures.err
