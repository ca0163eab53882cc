-- `sja_put_plan` meets its contract, as each function of C with a handle and a text: it calls `plan_of`.
use Rattle.sja_c.proofs.WithText.TextCall.{meets, asked}
use Rattle.sja_c.proofs.texts.plan_of.Met as call_met
use Rattle.sja_c.proofs.texts.plan_of.Symbol as call_is
use Rattle.sja_c.proofs.texts.sja_put_plan.Code as code
use Rattle.sja_c.proofs.texts.sja_put_plan.Statement.{statement}
use Rattle.sja_c.specs.Exports.{AnswersPlan}
use Rattle.sja_c.specs.contracts.texts.sja_put_plan.Key.{name}

pub sja_put_plan_spec : {M : Type 1} → statement M
sja_put_plan_spec 𝓤 𝓛 𝓜 𝓡 wired =
    meets 𝓤 𝓛 𝓜 𝓡 AnswersPlan (code.calls-sja_c::texts::no_text 𝓡.env wired) call_is.name name
    (code.unfolded 𝓤 𝓛.H 𝓜 𝓡 wired) (λ κ q x count h b o κ₁ γ u.
    call_met.met 𝓤 𝓛 𝓜 𝓡 (code.calls-sja_c::texts::plan_of 𝓡.env wired) (asked κ q x h b o κ₁ γ))
