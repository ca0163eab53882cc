-- `sja_place` meets its contract, as each function of C with a handle and one number: it calls `place_of`.
use Rattle.sja_c.proofs.WithNumbers.NumberContract.{meets, asked}
use Rattle.sja_c.proofs.placing.place_of.Met as call_met
use Rattle.sja_c.proofs.placing.place_of.Symbol as call_is
use Rattle.sja_c.proofs.placing.sja_place.Code as code
use Rattle.sja_c.proofs.placing.sja_place.Statement.{statement}
use Rattle.sja_c.specs.Exports.{AnswersPlace}
use Rattle.sja_c.specs.contracts.placing.sja_place.Key.{name}

pub sja_place_spec : {M : Type 1} → statement M
sja_place_spec 𝓤 𝓛 𝓜 𝓡 wired =
    meets 𝓤 𝓛 𝓜 𝓡 1 (λ a h z r. AnswersPlace h z a.0 r) (code.calls-sja_c::answer::no_handle 𝓡.env wired)
    call_is.name name (code.unfolded 𝓤 𝓛.H 𝓜 𝓡 wired) (λ a h b o κ γ u.
    call_met.met 𝓤 𝓛 𝓜 𝓡 (code.calls-sja_c::placing::place_of 𝓡.env wired) (asked 1 a h b o κ γ))
