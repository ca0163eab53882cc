-- `sja_strike_at` meets its contract, as each function of C with a handle and three numbers: it calls `strike_of`.
use Rattle.sja_c.proofs.WithNumbers.NumberContract.{meets, asked}
use Rattle.sja_c.proofs.bits.strike_of.Met as call_met
use Rattle.sja_c.proofs.bits.strike_of.Symbol as call_is
use Rattle.sja_c.proofs.bits.sja_strike_at.Code as code
use Rattle.sja_c.proofs.bits.sja_strike_at.Statement.{statement}
use Rattle.sja_c.specs.Exports.{AnswersStrike, whole_bit}
use Rattle.sja_c.specs.contracts.bits.sja_strike_at.Key.{name}

pub sja_strike_at_spec : {M : Type 1} → statement M
sja_strike_at_spec 𝓤 𝓛 𝓜 𝓡 wired =
    meets 𝓤 𝓛 𝓜 𝓡 3 (λ a h z r. AnswersStrike h z a.0 (whole_bit a.1.0 a.1.1.0) r)
    (code.calls-sja_c::answer::no_handle 𝓡.env wired) call_is.name name (code.unfolded 𝓤 𝓛.H 𝓜 𝓡 wired)
    (λ a h b o κ γ u.
    call_met.met 𝓤 𝓛 𝓜 𝓡 (code.calls-sja_c::bits::strike_of 𝓡.env wired) (asked 3 a h b o κ γ))
