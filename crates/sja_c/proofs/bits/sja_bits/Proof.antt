-- `sja_bits` meets its contract, as each function of C with a handle and two numbers: it calls `bits_of`.
use Rattle.sja_c.proofs.WithNumbers.NumberContract.{meets, asked}
use Rattle.sja_c.proofs.bits.bits_of.Met as call_met
use Rattle.sja_c.proofs.bits.bits_of.Symbol as call_is
use Rattle.sja_c.proofs.bits.sja_bits.Code as code
use Rattle.sja_c.proofs.bits.sja_bits.Statement.{statement}
use Rattle.sja_c.specs.Exports.{AnswersBits}
use Rattle.sja_c.specs.contracts.bits.sja_bits.Key.{name}

pub sja_bits_spec : {M : Type 1} → statement M
sja_bits_spec 𝓤 𝓛 𝓜 𝓡 wired =
    meets 𝓤 𝓛 𝓜 𝓡 2 (λ a h z r. AnswersBits h z a.0 a.1.0 r) (code.calls-sja_c::answer::no_handle 𝓡.env wired)
    call_is.name name (code.unfolded 𝓤 𝓛.H 𝓜 𝓡 wired) (λ a h b o κ γ u.
    call_met.met 𝓤 𝓛 𝓜 𝓡 (code.calls-sja_c::bits::bits_of 𝓡.env wired) (asked 2 a h b o κ γ))
