use Rattle.std.specs.Prelude.{Result, Ok, Err, IfErr}
use Rattle.std.proofs.lemmas.Result.{on_ok_weaker}
use Rattle.sja_live.proofs.Talks.BreakingOff.{talk_unanswered}
use Rattle.sja_live.proofs.Talks.GoingOn.{talk_ends}
use Rattle.sja_live.proofs.talking.talk_on.Goals as goal

err_two : {A X : Type 0} {P Q R : X → Type 0} (r : Result A X) → ((x : X) → P x → Q x → R x) → IfErr r P →
    IfErr r Q → IfErr r R
err_two (Ok a) f p q = tt
err_two (Err x) f p q = f x p q

-- the talk is over
pub returns-in-Ok-clause-told : goal.returns-in-Ok-clause-told
returns-in-Ok-clause-told g c =
    on_ok_weaker c.put_report.result (λ wrote before begun.
    let o = c.in-Ok.ensures.over before begun in
    talk_ends _ _ _ _ _ _ o.last c.answer_lines.new.session o.goes o.ends wrote) c.put_report.ensures.told

-- or memory was refused for the report
pub returns-in-Ok-clause-broken : goal.returns-in-Ok-clause-broken
returns-in-Ok-clause-broken g c =
    err_two c.put_report.result (λ f memory kept other before begun.
    let o = c.in-Ok.ensures.over before begun in
    talk_unanswered _ _ _ _ _ _ o.last c.answer_lines.new.session _ f o.goes o.ends (memory other) (kept other))
    c.put_report.ensures.memory c.put_report.ensures.kept
