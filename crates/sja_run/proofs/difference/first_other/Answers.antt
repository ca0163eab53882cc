use Rattle.std.proofs.Common.{rules, ◌≡◌, ◌<◌, ◌≤◌, ◌⊎◌, inl, inr, ℕ, List, Bor, length, map, true, false, sym, arith}
use Rattle.std.proofs.lemmas.List.{length-map}
use Rattle.sja_run.proofs.LinesCompared.{next_same, next_other, other_length}
use Rattle.sja_run.proofs.difference.first_other.Goals as goal
use Rattle.sja_run.proofs.difference.first_other.Goals.{then-loop-place-test+else-place-expected, else-loop-place-test}

-- the lines, as texts
abbrev texts : List (Bor (List ℕ)) → List (List ℕ)
texts lines = map (λ line. line.now) lines

within : (lines : List (Bor (List ℕ))) (n : ℕ) → n < length lines → n < length (texts lines)
within lines n less = let many = length-map lines (λ (line : Bor (List ℕ)). line.now) in omega (arith, less, many)

pub loop-place-preserved : goal.loop-place-preserved
loop-place-preserved c =
    let n = c.loop-place.place in
    let agrees : c.is_same.result ≡ true = search rules in
    let less : n < length c.args.printed.now = search rules in
    let fewer : n < length c.args.expected.now = search rules in
    record {
      within = omega (arith, less);
      both = omega (arith, fewer);
      same = next_same (texts c.args.printed.now) (texts c.args.expected.now) n c.is_same.result
          (within c.args.printed.now n less) (within c.args.expected.now n fewer) agrees c.is_same.ensures
          c.loop-place.invariant.same;
    }

pub returns-then-not-is_same-clause-other : goal.returns-then-not-is_same-clause-other
returns-then-not-is_same-clause-other c =
    let n = c.loop-place.place in
    let differs : c.is_same.result ≡ false = search rules in
    let less : n < length c.args.printed.now = search rules in
    let fewer : n < length c.args.expected.now = search rules in (
      c.loop-place.invariant.same,
      next_other (texts c.args.printed.now) (texts c.args.expected.now) n c.is_same.result
          (within c.args.printed.now n less) (within c.args.expected.now n fewer) differs c.is_same.ensures,
    )

-- the shorter text is over
over : (xs ys : List (Bor (List ℕ))) (n : ℕ) → (length xs ≤ n) ⊎ (length ys ≤ n) →
    (length (texts xs) ≤ n) ⊎ (length (texts ys) ≤ n)
over xs ys n (inl past) =
    let many = length-map xs (λ (line : Bor (List ℕ)). line.now) in inl (omega (arith, past, many))
over xs ys n (inr past) =
    let many = length-map ys (λ (line : Bor (List ℕ)). line.now) in inr (omega (arith, past, many))

pub returns-else-printed-expected-clause-other : goal.returns-else-printed-expected-clause-other
returns-else-printed-expected-clause-other c =
    let n = c.loop-place.place in
    let xs = c.args.printed.now in
    let ys = c.args.expected.now in
    let printed = length-map xs (λ (line : Bor (List ℕ)). line.now) in
    let expected = length-map ys (λ (line : Bor (List ℕ)). line.now) in
    let past : (length xs ≤ n) ⊎ (length ys ≤ n) = elim c.loop-place-test.branch [
      | then-loop-place-test+else-place-expected w ↦ inr (omega (arith, w.if-place-expected.false))
      | else-loop-place-test w ↦ inl (omega (arith, w.loop-place-test.false))
    ] in (
      c.loop-place.invariant.same,
      other_length (texts xs) (texts ys) n (over xs ys n past)
          (omega (arith, c.loop-place.invariant.within, printed)) (omega (arith, c.loop-place.invariant.both, expected))
          (omega (arith, c.if-printed-expected.false, printed, expected)),
    )
