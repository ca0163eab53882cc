-- Bits up to the first that a port is told of, behind bits in which no line rose.
use Rattle.std.proofs.Common.{◌≡◌, ℕ, ◌+◌, ◌<◌, ◌≤◌, Bool, true, false, List, length, sym, ◌∙◌, subst, arith, inl, inr}
use Rattle.std.specs.Prelude.{slice_index_or}
use Rattle.std.proofs.lemmas.Bool.{cases_lt}
use Rattle.sja_driver.specs.StepRuns.{StepRun}
use Rattle.sja_session.specs.Inside.UntilTold.{RunsUntilTold}
use Rattle.sja_session.specs.Lines.{IsStill, line_at}
use Rattle.sja_session.specs.Sessions.{SessionValue, IsAt}
use Rattle.sja_session.specs.Watching.{NoneRose, RoseLast, rises}
use Rattle.sja_session.specs.Inside.Risen.{risen}
use Rattle.sja_session.specs.Watching.NoneRose.{bit}
use Rattle.sja_session.proofs.WatchedBits.QuietBits.{nodes_same, quiet_at, rises_told, risen_now, rose_on}

module _ {watched : List Bool} (before now : List Bool) {start was after : SessionValue} {step_runs : List
    (List StepRun)}
    {n run : ℕ} (h : IsAt start step_runs) (q : NoneRose watched (length start.plan.nodes) step_runs start was n)
    (u : RunsUntilTold was after run step_runs)
    (told : (k : ℕ) → k < length start.plan.nodes → k < 8 → slice_index_or watched k false ≡ true →
    slice_index_or before k false ≡ line_at was step_runs k)
    (lines : (k : ℕ) → k < length after.plan.nodes → k < 8 → slice_index_or watched k false ≡ true →
    slice_index_or now k false ≡ line_at after step_runs k) where
  -- in none but the last a line rose
  earlier : NoneRose watched (length start.plan.nodes) step_runs start u.before (n + u.earlier)
  earlier = rose_on q (subst (λ (nodes : ℕ). NoneRose watched nodes step_runs was u.before u.earlier)
      (nodes_same h (quiet_at q)) (u.quiet watched))

  -- and in that one those that are told
  rises_last : (k : ℕ) → k < length start.plan.nodes → k < 8 →
      risen watched before now k ≡ rises watched u.before after step_runs k
  rises_last k less eight =
      let was_same = nodes_same h (quiet_at q) in let after_same = nodes_same h u.bit.at in
      rises_told watched before now u.before after step_runs k
      (λ on. told k less eight on ∙ sym (u.same k (omega (arith, was_same, less))))
      (λ on. lines k (omega (arith, after_same, less)) eight on)

  pub none_rises : (looked : SessionValue) → IsStill after looked step_runs → length start.plan.nodes ≤ 8 →
      ((k : ℕ) → k < 8 → risen watched before now k ≡ false) →
      NoneRose watched (length start.plan.nodes) step_runs start looked (n + run)
  none_rises looked still few none =
      let many = u.many in
      subst (λ (m : ℕ). NoneRose watched (length start.plan.nodes) step_runs start looked m) (omega (arith, many))
      (bit earlier u.bit (λ k less. let eight : k < 8 = omega (arith, less, few) in
      sym (rises_last k less eight) ∙ none k eight) still)

  pub one_rises : (looked : SessionValue) → IsStill after looked step_runs → (node : ℕ) → node < 8 →
      risen watched before now node ≡ true → ((k : ℕ) → k < node → risen watched before now k ≡ false) →
      (length after.plan.nodes ≤ node → slice_index_or now node false ≡ false) →
      RoseLast start looked (n + run) watched node step_runs
  one_rises looked still node eight lit first dark = record {
    before = u.before;
    after = after;
    others = n + u.earlier;
    earlier = earlier;
    bit = u.bit;
    still = still;
    many = let many = u.many in omega (arith, many);
    rose = sym (rises_last node there eight) ∙ lit;
    first = λ k less. let t = there in
        sym (rises_last k (omega (arith, t, less)) (omega (arith, eight, less))) ∙ first k less;
    there = there;
  }
    where
      there : node < length start.plan.nodes
      there = elim (cases_lt node (length start.plan.nodes)) [
        | inl less ↦ less
        | inr past ↦ let same = nodes_same h u.bit.at in let off = dark (omega (arith, same, past)) in
            let on = risen_now watched before now node lit in absurd cc
      ]
