-- `sja_let_go` meets its contract, as each function of C with a handle and no number: it calls `let_go`.
use Rattle.sja_c.proofs.WithNumbers.NumberContract.{meets, asked}
use Rattle.sja_c.proofs.life.let_go.Met as call_met
use Rattle.sja_c.proofs.life.let_go.Symbol as call_is
use Rattle.sja_c.proofs.life.sja_let_go.Code as code
use Rattle.sja_c.proofs.life.sja_let_go.Statement.{statement}
use Rattle.sja_c.specs.Exports.{AnswersLetGo}
use Rattle.sja_c.specs.contracts.life.sja_let_go.Key.{name}

pub sja_let_go_spec : {M : Type 1} → statement M
sja_let_go_spec 𝓤 𝓛 𝓜 𝓡 wired =
    meets 𝓤 𝓛 𝓜 𝓡 0 (λ a h z r. AnswersLetGo z r) (code.calls-sja_c::answer::no_handle 𝓡.env wired)
    call_is.name name (code.unfolded 𝓤 𝓛.H 𝓜 𝓡 wired) (λ a h b o κ γ u.
    call_met.met 𝓤 𝓛 𝓜 𝓡 (code.calls-sja_c::life::let_go 𝓡.env wired) (asked 0 a h b o κ γ))
