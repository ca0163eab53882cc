use Rattle.std.proofs.Common.{rules, ◌≡◌, ◌==◌, ◌-◌, ◌++◌, ◌∷◌, [], suc, false, sym, subst, ◌∙◌}
use Rattle.std.proofs.Common.{inl, inr, length, arith}
use Rattle.std.proofs.lemmas.Bool.{false≢true}
use Rattle.std.proofs.lemmas.Grind.{common_steps}
use Rattle.toml_parser.specs.Lexical.{skip_blank}
use Rattle.sja_plan_reading.specs.Inside.Rooms.{items_in, section_in, item_behind}
use Rattle.sja_plan_reading.proofs.OddPairs.{odd_more}
use Rattle.sja_plan_reading.proofs.ReadLines.{ReadsFrom, reads_more, reads_end, bare_more}
use Rattle.sja_plan_reading.proofs.Refusals.{refuses_err}
use Rattle.sja_plan_reading.proofs.RefusedTexts.{reads_bad}
use Rattle.sja_plan_reading.proofs.tables.reading.read.Goals as goal

pub lines-init : goal.lines-init
lines-init c = (
  search rules,
  c.skip_bom-rest.ensures.within,
  c.new-room.ensures.sound,
  suc (length c.args.text.now),
  [],
  omega (arith, c.skip_bom-rest.ensures.within),
  sym c.new-room.ensures.items,
  rw (c.skip_bom-rest.ensures.rest, c.new-room.ensures.section),
  λ odd. absurd (false≢true (sym c.new-room.ensures.odd ∙ odd)),
)

pub returns-then-is_empty-clause-ok : goal.returns-then-is_empty-clause-ok
returns-then-is_empty-clause-ok c =
    let l = c.lines in
    let start_is = c.skip_blank-start.ensures.rest in
    let none : length (skip_blank l.rest.now) ≡ 0 = grind (arith, common_steps) in
    let m = l.invariant.3 in
    let is = l.invariant.4 in
    let room = l.invariant.5 in (
      is,
      l.invariant.6,
      reads_end c.args.text.now m is (section_in l.room) l.rest.now (omega arith) none l.invariant.7,
      l.invariant.8,
    )

pub lines-preserved : goal.lines-preserved
lines-preserved c =
    let l = c.lines in
    let start_is = c.skip_blank-start.ensures.rest in
    let other : (length (skip_blank l.rest.now) == 0) ≡ false = grind (arith, common_steps) in
    let shorter = c.in_ok-rest.ensures.shorter in
    let before = c.skip_blank-start.ensures.within in
    let (e, read, took) = c.in_ok-rest.ensures.ok in
    let m = l.invariant.3 in
    let is = l.invariant.4 in
    let room = l.invariant.5 in
    let section = section_in l.room in
    let more = is ++ item_behind section e ∷ [] in
    let after = c.in_ok-rest.rest.now in (
      search rules,
      omega (arith, l.invariant.1),
      took.sound,
      m - 1,
      more,
      omega arith,
      bare_more is (items_in l.room) (items_in c.read_line.new.room) (item_behind section e) l.invariant.6 took.items,
      subst (λ s. ReadsFrom c.args.text.now (m - 1) more s after) (sym took.section)
          (reads_more c.args.text.now m is section l.rest.now after e (omega arith) other (rw start_is at read)
          l.invariant.7),
      λ odd. odd_more is (item_behind section e) (elim (took.odd odd) [
        | inl before ↦ inl (l.invariant.8 before)
        | inr here ↦ inr here
      ]),
    )

pub returns-in_err-rest-clause-bad : goal.returns-in_err-rest-clause-bad
returns-in_err-rest-clause-bad c =
    let l = c.lines in
    let start_is = c.skip_blank-start.ensures.rest in
    let other : (length (skip_blank l.rest.now) == 0) ≡ false = grind (arith, common_steps) in
    let m = l.invariant.3 in
    let is = l.invariant.4 in
    let room = l.invariant.5 in
    refuses_err c.from_residual.result c.in_err-rest.field-0.0 _ c.from_residual.ensures.1 λ refused.
    reads_bad c.args.text.now m is (section_in l.room) l.rest.now (omega arith) other
    (rw start_is at (c.in_err-rest.ensures.bad refused)) l.invariant.7
