use Rattle.std.proofs.Common.{◌≡◌, ◌+◌, ◌-◌, ◌<◌, ◌≤◌, true, false, Some, length, take, drop, [], ◌∷◌, ◌++◌}
use Rattle.std.proofs.Common.{ap, sym, subst, refl, ◌∙◌, arith}
use Rattle.std.proofs.lemmas.Grind.{common_steps}
use Rattle.std.proofs.lemmas.List.{take_all, take_rest, drop_all, drop-drop, drop-set-lt}
use Rattle.std.proofs.lemmas.Slice.{drop-put_mid}
use Rattle.std.specs.List.{slice_index_or}
use Rattle.std.specs.Option.{option_map}
use borrow.Rule.Slice.PartMut.{put_mid, same_len_mid}
use Rattle.toml.specs.Data.{same_key}
use Rattle.sja_plan_reading.specs.Inside.Items.{Item, first_of, at_first}
use Rattle.sja_plan_reading.specs.Inside.Judging.{next, ends, comes, behind, is_array, below, split}
use Rattle.sja_plan_reading.specs.Inside.Names.{texts_of}
use Rattle.sja_plan_reading.specs.Inside.Definitions.{item_of, items_of, FirstsAre, Splits, SplitsBad, AreGood, AreBad}
use Rattle.sja_plan_reading.specs.declared.tables.definition.Definition.{Definition}
use Rattle.sja_plan_reading.specs.declared.tables.what.What.TheVariants as whats
use Rattle.sja_plan_reading.specs.declared.tables.state.State.TheVariants.{Absent}
use Rattle.sja_plan_reading.proofs.BadItems.{run_refused, below_refused, last_refused}
use Rattle.sja_plan_reading.proofs.BareItems.{good_of_keys}
use Rattle.sja_plan_reading.proofs.Refusals.{refuses_err, on_refused}
use Rattle.sja_plan_reading.proofs.Judged.{keys_step, before_step, same_at, other_at, on_ok}
use Rattle.sja_plan_reading.proofs.OneRun.{few_good, pass_one, end_one, begin_one, good_push, splits_end, run_next}
use Rattle.sja_plan_reading.proofs.OneRun.{tail_step}
use Rattle.sja_plan_reading.proofs.OneRun.{kept_push, behind_new}
use Rattle.sja_plan_reading.proofs.tables.judging.+judging.Goals as goal
use Rattle.sja_plan_reading.proofs.tables.judging.+judging.Goals.{judge_key-then-not-ends+in_ok-run}
use Rattle.sja_plan_reading.proofs.tables.judging.+judging.Goals.{judge_key-else-not-ends+then-is_array+in_ok-judge}
use Rattle.sja_plan_reading.proofs.tables.judging.+judging.Goals.{judge_key-else-not-ends+else-is_array}

pub judge-returns-then-definitions-lt2-clause-good : goal.judge-returns-then-definitions-lt2-clause-good
judge-returns-then-definitions-lt2-clause-good t c =
    few_good (items_of (texts_of c.args.names.now) c.args.definitions.now) (grind (arith, common_steps))

pub judge-keys-init : goal.judge-keys-init
judge-keys-init t c = record {
  within = omega arith;
  long = refl;
  rest = refl;
  splits = λ k. ([] ∷ [], refl, (few_good [] (omega arith), tt));
  before = λ d h. tt;
}

pub judge-keys-preserved : goal.judge-keys-preserved
judge-keys-preserved t c =
    let ts = texts_of c.args.names.now in
    let defs = c.keys.definitions in
    let ys = c.sort.new.definitions in
    let at = c.keys.at in
    let n = c.run_length.result in
    let inv = c.keys.invariant in
    let new = c.judge_key.new.run in
    let tail : take (length defs - at) (drop at defs) ≡ drop at ys = take_rest defs at ∙ inv.rest in
    let some : 0 < n = c.run_length.ensures.some in
    let fits : at + n ≤ length defs = grind (arith, common_steps, c.run_length.ensures.within) in
    let count : at + n - at ≡ n = omega arith in
    let whole : length (put_mid at (at + n - at) defs new) ≡ length defs =
    same_len_mid at (at + n - at) defs new c.judge_key.ensures.len in
    let same : (d : Definition) → FirstsAre (same_key (first_of (item_of ts (slice_index_or ys at d)))) (items_of ts
    (take n (drop at ys))) =
    λ d. same_at ts ys at n d
    (subst (λ r. FirstsAre (same_key (first_of (item_of ts (slice_index_or r 0 d)))) (items_of ts (take n r)))
    tail (c.run_length.ensures.same d)) in
    let run_splits : Splits (items_of ts (take n (drop at ys))) =
    subst (λ r. Splits (items_of ts (take n r))) inv.rest
    (subst (λ m. Splits (items_of ts (take m (drop at defs)))) count c.in_ok-judge_key.ensures.good) in
    let first : Definition = slice_index_or ys at (record {
      path = record { first = 0; count = 0 };
      dots =
          record { first = 0; count = 0 };
      last = 0;
      what = whats.Pair;
    }) in
    record {
      within = rw whole fits;
      long = whole ∙ inv.long;
      rest = drop-put_mid at (at + n - at) defs new (at + n) (omega arith) (omega arith) (grind (
        arith,
        common_steps,
        c.judge_key.ensures.len,
      ))
          ∙ sym (drop-drop n at defs) ∙ ap (drop n) inv.rest ∙ drop-drop n at ys;
      splits = keys_step ts ys at n first inv.splits (inv.before first (omega arith)) (same first) run_splits;
      before = λ d more. before_step ts ys at n d some (grind (arith, whole, inv.long)) (inv.before d (omega arith))
          (same d)
          (other_at ts ys at n d (subst (λ r. n < length r → same_key (first_of (item_of ts (slice_index_or r 0 d)))
          (first_of (item_of ts (slice_index_or r n d))) ≡ false) tail
          (c.run_length.ensures.next d) (grind (arith, common_steps, whole, inv.long)))) c.in_ok-sort.ensures.sorted;
    }

pub judge-returns-clause-good : goal.judge-returns-clause-good
judge-returns-clause-good t c =
    let ts = texts_of c.args.names.now in
    let ys = c.sort.new.definitions in
    good_of_keys (items_of ts c.args.definitions.now) (λ k.
    subst Splits (ap (λ l. at_first k (items_of ts l)) (take_all c.keys.at ys (grind (arith, c.keys.invariant.long)))
    ∙ c.in_ok-sort.ensures.stable k)
    (c.keys.invariant.splits k))

pub judge_key-run-preserved : goal.judge_key-run-preserved
judge_key-run-preserved t c =
    let ts = texts_of c.args.names.now in
    let run = c.run.run in
    let at = c.run.at in
    let kept = c.run.kept in
    let inv = c.run.invariant in
    let (done, good, so) = inv.splits in
    let all = items_of ts c.args.run.now in
    let inner = items_of ts (take kept run) in
    let later = items_of ts (drop (at + 1) c.args.run.now) in
    let none : Definition = record {
      path = record { first = 0; count = 0 };
      dots = record {
        first = 0;
        count =
            0;
      };
      last = 0;
      what = whats.Pair;
    } in
    let i : Item = item_of ts (slice_index_or run at none) in
    let within : at < length run = grind (arith, inv.long) in
    let begins : split Absent [] all ≡ option_map (λ gs. done ++ gs) (split c.run.state inner (i ∷ later)) =
    so ∙ ap (λ l. option_map (λ gs. done ++ gs) (split c.run.state inner l)) (run_next ts run c.args.run.now at
    none within inv.rest) in
    let is_next : next c.run.state i ≡ Some c.in-Some.next =
    ap (λ w. behind c.run.state w (ends i)) (sym (c.comes.ensures ts))
    ∙ ap (λ e. behind c.run.state c.comes.result e) (sym (c.ends-ends.ensures ts)) ∙ sym c.behind.ensures
    ∙ c.in-Some.is in
    elim c.if-not-ends.branch [
      | judge_key-then-not-ends+in_ok-run w ↦
          let through : ends i ≡ false = sym (c.ends-ends.ensures ts) ∙ w.if-not-ends.true in
          let x = w.in_ok-run.field-0 in
          let pushed = kept_push ts run kept x (below i) (omega arith) (w.in_ok-run.ensures.below ts) in
          rw (w.kept-is, w.run-is) (record {
            within = omega arith;
            long = grind (arith, common_steps, inv.long);
            rest = drop-set-lt (at + 1) run kept x (omega arith) ∙ tail_step run c.args.run.now at inv.rest;
            splits = (
              done,
              good,
              pass_one all done c.run.state c.in-Some.next inner i later begins is_next through
                  ∙ ap (λ l. option_map (λ gs. done ++ gs) (split c.in-Some.next l later)) (sym pushed),
            );
          })
      | judge_key-else-not-ends+then-is_array+in_ok-judge w ↦
          let last : ends i ≡ true = sym (c.ends-ends.ensures ts) ∙ w.if-not-ends.false in
          let array : is_array i ≡ true = sym (w.is_array.ensures ts) ∙ w.if-is_array.true in
          let new = w.judge.new.definitions in
          let long_new : length new ≡ kept = grind (arith, common_steps, w.in_ok-judge.ensures.len) in
          rw (w.kept-is, w.run-is) (record {
            within = omega arith;
            long = grind (arith, common_steps, inv.long);
            rest = behind_new new run kept (at + 1) long_new (omega arith) (omega arith)
                ∙ tail_step run c.args.run.now at inv.rest;
            splits = (
              done ++ inner ∷ [],
              good_push done inner good w.in_ok-judge.ensures.good,
              begin_one all done c.run.state c.in-Some.next inner i later begins is_next last array,
            );
          })
      | judge_key-else-not-ends+else-is_array w ↦
          let last : ends i ≡ true = sym (c.ends-ends.ensures ts) ∙ w.if-not-ends.false in
          let other : is_array i ≡ false = sym (w.is_array.ensures ts) ∙ w.if-is_array.false in
          rw (w.kept-is, w.run-is) (record {
            within = omega arith;
            long = inv.long;
            rest = tail_step run c.args.run.now at inv.rest;
            splits = (done, good, end_one all done c.run.state c.in-Some.next inner i later begins is_next last other);
          })
    ]

pub judge_key-returns-clause-good : goal.judge_key-returns-clause-good
judge_key-returns-clause-good t c =
    let ts = texts_of c.args.names.now in
    let inv = c.run.invariant in
    let (done, good, so) = inv.splits in
    let all = items_of ts c.args.run.now in
    let inner = items_of ts (take c.run.kept c.run.run) in
    let over : items_of ts (drop c.run.at c.args.run.now) ≡ [] =
    ap (items_of ts) (drop_all c.run.at c.args.run.now (grind (arith, inv.long))) in
    let ended = so ∙ ap (λ l. option_map (λ gs. done ++ gs) (split c.run.state inner l)) over in
    on_ok {P = AreGood inner} {Q = Splits all} c.judge-2.result (λ last. splits_end all done c.run.state inner ended
    good last) c.judge-2.ensures.good

pub judge-returns-in_err-judge_key-clause-bad : goal.judge-returns-in_err-judge_key-clause-bad
judge-returns-in_err-judge_key-clause-bad t c =
    let ts = texts_of c.args.names.now in
    let defs = c.keys.definitions in
    let ys = c.sort.new.definitions in
    let at = c.keys.at in
    let n = c.run_length.result in
    let inv = c.keys.invariant in
    let tail : take (length defs - at) (drop at defs) ≡ drop at ys = take_rest defs at ∙ inv.rest in
    let count : at + n - at ≡ n = omega arith in
    let first : Definition = record {
      path = record { first = 0; count = 0 };
      dots = record { first = 0; count = 0 };
      last = 0;
      what = whats.Pair;
    } in
    let same = same_at ts ys at n first
    (subst (λ r. FirstsAre (same_key (first_of (item_of ts (slice_index_or r 0 first)))) (items_of ts (take n r)))
    tail (c.run_length.ensures.same first)) in
    refuses_err c.from_residual-in_err-judge_key.result c.in_err-judge_key.field-0.0 _
    c.from_residual-in_err-judge_key.ensures.1 λ refused.
    let run_bad : SplitsBad (items_of ts (take n (drop at ys))) =
    subst (λ r. SplitsBad (items_of ts (take n r))) inv.rest
    (subst (λ m. SplitsBad (items_of ts (take m (drop at defs)))) count (c.in_err-judge_key.ensures.bad refused)) in
    let f = first_of (item_of ts (slice_index_or ys at first)) in
    run_refused ts c.args.definitions.now ys at n f (c.in_ok-sort.ensures.stable f)
    (inv.before first (omega arith)) same run_bad

pub judge_key-returns-in_err-judge-clause-bad : goal.judge_key-returns-in_err-judge-clause-bad
judge_key-returns-in_err-judge-clause-bad t c =
    let ts = texts_of c.args.names.now in
    let run = c.run.run in
    let at = c.run.at in
    let inv = c.run.invariant in
    let (done, good, so) = inv.splits in
    let all = items_of ts c.args.run.now in
    let inner = items_of ts (take c.run.kept run) in
    let later = items_of ts (drop (at + 1) c.args.run.now) in
    let none : Definition = record {
      path = record { first = 0; count = 0 };
      dots = record {
        first = 0;
        count =
            0;
      };
      last = 0;
      what = whats.Pair;
    } in
    let i : Item = item_of ts (slice_index_or run at none) in
    let within : at < length run = grind (arith, inv.long) in
    let begins : split Absent [] all ≡ option_map (λ gs. done ++ gs) (split c.run.state inner (i ∷ later)) =
    so ∙ ap (λ l. option_map (λ gs. done ++ gs) (split c.run.state inner l)) (run_next ts run c.args.run.now at
    none within inv.rest) in
    let is_next : next c.run.state i ≡ Some c.in-Some.next =
    ap (λ w. behind c.run.state w (ends i)) (sym (c.comes.ensures ts))
    ∙ ap (λ e. behind c.run.state c.comes.result e) (sym (c.ends-ends.ensures ts)) ∙ sym c.behind.ensures
    ∙ c.in-Some.is in
    let last : ends i ≡ true = sym (c.ends-ends.ensures ts) ∙ c.if-not-ends.false in
    let array : is_array i ≡ true = sym (c.is_array.ensures ts) ∙ c.if-is_array.true in
    refuses_err c.from_residual-in_err-judge.result c.in_err-judge.field-0.0 _ c.from_residual-in_err-judge.ensures.1
    λ refused.
    below_refused all done c.in-Some.next inner later []
    (begin_one all done c.run.state c.in-Some.next inner i later begins is_next last array)
    (c.in_err-judge.ensures.bad refused)

pub judge_key-returns-clause-bad : goal.judge_key-returns-clause-bad
judge_key-returns-clause-bad t c =
    let ts = texts_of c.args.names.now in
    let inv = c.run.invariant in
    let (done, good, so) = inv.splits in
    let all = items_of ts c.args.run.now in
    let inner = items_of ts (take c.run.kept c.run.run) in
    let over : items_of ts (drop c.run.at c.args.run.now) ≡ [] =
    ap (items_of ts) (drop_all c.run.at c.args.run.now (grind (arith, inv.long))) in
    let ended = so ∙ ap (λ l. option_map (λ gs. done ++ gs) (split c.run.state inner l)) over in
    on_refused {P = AreBad inner} {Q = SplitsBad all} c.judge-2.result (λ bad. last_refused all done c.run.state inner
    ended bad) c.judge-2.ensures.bad
