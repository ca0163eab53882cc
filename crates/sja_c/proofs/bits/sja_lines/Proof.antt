-- `sja_lines` meets its contract, as each function of C with a handle and no number: it calls `lines_of`.
use Rattle.sja_c.proofs.WithNumbers.NumberContract.{meets, asked}
use Rattle.sja_c.proofs.bits.lines_of.Met as call_met
use Rattle.sja_c.proofs.bits.lines_of.Symbol as call_is
use Rattle.sja_c.proofs.bits.sja_lines.Code as code
use Rattle.sja_c.proofs.bits.sja_lines.Statement.{statement}
use Rattle.sja_c.specs.Exports.{AnswersLines}
use Rattle.sja_c.specs.contracts.bits.sja_lines.Key.{name}

pub sja_lines_spec : {M : Type 1} → statement M
sja_lines_spec 𝓤 𝓛 𝓜 𝓡 wired =
    meets 𝓤 𝓛 𝓜 𝓡 0 (λ a h z r. AnswersLines h z r) (code.calls-sja_c::answer::no_handle 𝓡.env wired)
    call_is.name name (code.unfolded 𝓤 𝓛.H 𝓜 𝓡 wired) (λ a h b o κ γ u.
    call_met.met 𝓤 𝓛 𝓜 𝓡 (code.calls-sja_c::bits::lines_of 𝓡.env wired) (asked 0 a h b o κ γ))
