use Rattle.std.proofs.Common.{◌≡◌, ◌≢◌, ◌≤◌, ◌<◌, List, ◌++◌, ◌∷◌, [], take, get_or, subst, arith, rules}
use Rattle.std.proofs.lemmas.List.{take_more, take_all}
use Rattle.can_levels.specs.declared.level.Level.{Level}
use Rattle.can_levels.specs.declared.level.Level.TheVariants.{Dominant}
use Rattle.can_levels.proofs.Stuffs.{Stands, Stands-same, Stands-other, Stands-stuffed, Stands-closed}
use Rattle.can_bits.proofs.stuffing.push_stuffed.Goals.{then-eq, else-eq, then-run-eq-RUN, else-run-eq-RUN}
use Rattle.can_bits.proofs.stuffing.push_stuffed.Goals as goal

pub loop-level-preserved : goal.loop-level-preserved
loop-level-preserved c =
    let w = take c.loop-level.level-index c.args.levels.now in
    let x : Level = get_or c.args.levels.now c.loop-level.level-index Dominant in
    let s = c.loop-level.line.items in
    let last : Level = c.loop-level.last in
    let more = take_more c.args.levels.now c.loop-level.level-index Dominant c.loop-level-test.true in
    let was = c.loop-level.invariant.stands in
    let small = c.loop-level.invariant.small in
    let kept : Stands (w ++ x ∷ []) (s ++ x ∷ []) x c.if-eq.run = elim c.if-eq.branch [
      | then-eq b ↦ let equal : x ≡ last = search rules in
          rw (b.run-is, equal) (Stands-same w s last c.loop-level.run was small)
      | else-eq b ↦ let other : x ≢ last = search rules in
          rw b.run-is (Stands-other w s last x c.loop-level.run was small other)
    ] in
    let few : c.if-eq.run ≤ 5 = elim c.if-eq.branch [ then-eq b ↦ omega arith | else-eq b ↦ omega arith ] in
    let short : c.if-run-eq-RUN.run < 5 =
    elim c.if-run-eq-RUN.branch [
      | then-run-eq-RUN b ↦ omega arith
      | else-run-eq-RUN b ↦ omega (arith, b.if-run-eq-RUN.false)
    ] in
    elim c.if-run-eq-RUN.branch [
      | then-run-eq-RUN b ↦ record {
        stands = rw (
          more,
          b.line-is,
          b.last-is,
          b.run-is,
          b.push_reserved-then-run-eq-RUN.ensures.items,
          c.push_reserved.ensures.items,
          b.opposite-last.ensures,
        )
            (Stands-stuffed (w ++ x ∷ []) (s ++ x ∷ []) x (rw (← b.if-run-eq-RUN.true) kept));
        small = short;
        room = search rules;
      }
      | else-run-eq-RUN b ↦ record {
        stands = rw (more, b.line-is, b.last-is, b.run-is, c.push_reserved.ensures.items) kept;
        small = short;
        room = search rules;
      }
    ]

pub returns-clause-stuffed : goal.returns-clause-stuffed
returns-clause-stuffed c =
    let all = take_all c.loop-level.level-index c.args.levels.now c.loop-level-test.false in
    let P = λ (w : List Level). Stands w c.loop-level.line.items c.loop-level.last c.loop-level.run in
    Stands-closed c.args.levels.now c.loop-level.line.items c.loop-level.last c.loop-level.run
    (subst P all c.loop-level.invariant.stands) c.loop-level.invariant.small
