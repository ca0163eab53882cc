-- `sja_write` meets its contract, as each function of C with a handle and three numbers: it calls `write_of`.
use Rattle.sja_c.proofs.WithNumbers.NumberContract.{meets, asked}
use Rattle.sja_c.proofs.accesses.write_of.Met as call_met
use Rattle.sja_c.proofs.accesses.write_of.Symbol as call_is
use Rattle.sja_c.proofs.accesses.sja_write.Code as code
use Rattle.sja_c.proofs.accesses.sja_write.Statement.{statement}
use Rattle.sja_c.specs.Exports.{AnswersWrite}
use Rattle.sja_c.specs.contracts.accesses.sja_write.Key.{name}

pub sja_write_spec : {M : Type 1} → statement M
sja_write_spec 𝓤 𝓛 𝓜 𝓡 wired =
    meets 𝓤 𝓛 𝓜 𝓡 3 (λ a h z r. AnswersWrite h z a.0 a.1.0 a.1.1.0 r) (code.calls-sja_c::answer::no_handle 𝓡.env wired)
    call_is.name name (code.unfolded 𝓤 𝓛.H 𝓜 𝓡 wired) (λ a h b o κ γ u.
    call_met.met 𝓤 𝓛 𝓜 𝓡 (code.calls-sja_c::accesses::write_of 𝓡.env wired) (asked 3 a h b o κ γ))
