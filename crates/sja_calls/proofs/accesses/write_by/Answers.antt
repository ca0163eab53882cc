use Rattle.std.proofs.Common.{◌≡◌, ℕ, List, subst, arith}
use Rattle.sja_driver.specs.StepRuns.{StepRun}
use Rattle.sja_session.specs.ByAddress.{IsWriteFault, MayWrite, Writes}
use Rattle.sja_session.specs.Sessions.{SessionValue, IsAt}
use Rattle.sja_session.specs.declared.step_fault.StepFault.{StepFault}
use Rattle.sja_session.specs.declared.step_fault.StepFault.TheVariants.{NoNode, StepsUsed, TurnsUsed}
use Rattle.sja_calls.proofs.accesses.write_by.Goals as goal

-- what a write of a session does where it is done, and why it isn't
abbrev Does : SessionValue → SessionValue → ℕ → ℕ → ℕ → Type 0
Does r s node address value =
    (step_runs : List (List StepRun)) → IsAt r step_runs →
    MayWrite r node address value step_runs × Writes r s node address value step_runs

abbrev Fails : SessionValue → StepFault → ℕ → ℕ → ℕ → Type 0
Fails r fault node address value =
    (step_runs : List (List StepRun)) → IsAt r step_runs → IsWriteFault r node address value step_runs fault

-- what holds of three numbers holds of equal ones
same : (P : ℕ → ℕ → ℕ → Type 0) (node node' address address' value value' : ℕ) → node ≡ node' →
    address ≡ address' → value ≡ value' → P node address value → P node' address' value'
same P node node' address address' value value' nodes addresses values holds =
    subst (λ v. P node' address' v) values
    (subst (λ a. P node' a value) addresses (subst (λ n. P n address value) nodes holds))

pub returns-in-Ok-write-clause-writes : goal.returns-in-Ok-write-clause-writes
returns-in-Ok-write-clause-writes c =
    let done = c.in-Ok-write.ensures in
    same (Does c.args.session.now c.write.new.self) _ _ _ _ _ _ c.in-Some.ensures.some c.in-Ok.ensures.1
    c.in-Ok-try_from.ensures.1 (λ step_runs at. (done.may step_runs at, done.writes step_runs at))

fails : (r : SessionValue) (fault told : StepFault) (node node' address address' value value' : ℕ) → fault ≡ told →
    node ≡ node' → address ≡ address' → value ≡ value' → Fails r fault node address value →
    Fails r told node' address' value'
fails r fault told node node' address address' value value' faults nodes addresses values holds =
    subst (λ f. Fails r f node' address' value') faults
    (same (Fails r fault) node node' address address' value value' nodes addresses values holds)

pub returns-in-Err-NoNode-clause-err : goal.returns-in-Err-NoNode-clause-err
returns-in-Err-NoNode-clause-err c =
    let few = c.in-Ok.ensures.0 in let byte = c.in-Ok-try_from.ensures.0 in let refused = c.in-Err-NoNode in
    let told = fails c.args.session.now _ NoNode _ _ _ _ _ _ refused.field-0-is c.in-Some.ensures.some
    c.in-Ok.ensures.1 c.in-Ok-try_from.ensures.1 refused.ensures.err in
    (omega (arith, few), omega (arith, byte), told)

pub returns-in-Err-StepsUsed-clause-err : goal.returns-in-Err-StepsUsed-clause-err
returns-in-Err-StepsUsed-clause-err c =
    let few = c.in-Ok.ensures.0 in let byte = c.in-Ok-try_from.ensures.0 in let refused = c.in-Err-StepsUsed in
    let told = fails c.args.session.now _ StepsUsed _ _ _ _ _ _ refused.field-0-is c.in-Some.ensures.some
    c.in-Ok.ensures.1 c.in-Ok-try_from.ensures.1 refused.ensures.err in
    (omega (arith, few), omega (arith, byte), told)

pub returns-in-Err-TurnsUsed-clause-err : goal.returns-in-Err-TurnsUsed-clause-err
returns-in-Err-TurnsUsed-clause-err c =
    let few = c.in-Ok.ensures.0 in let byte = c.in-Ok-try_from.ensures.0 in let refused = c.in-Err-TurnsUsed in
    let told = fails c.args.session.now _ TurnsUsed _ _ _ _ _ _ refused.field-0-is c.in-Some.ensures.some
    c.in-Ok.ensures.1 c.in-Ok-try_from.ensures.1 refused.ensures.err in
    (omega (arith, few), omega (arith, byte), told)
