use Rattle.std.proofs.Common.{rules, ◌≡◌, ◌<◌, ◌-◌, ◌==◌, ◌||◌, true, false, [], ◌∷◌, ◌++◌, refl, sym, ap}
use Rattle.std.proofs.Common.{◌∙◌, length, arith}
use Rattle.std.proofs.lemmas.Grind.{common_steps}
use Rattle.toml_parser.specs.Lexical.{first, skip_blank}
use Rattle.toml_parser.specs.Reading.{key_view}
use Rattle.toml_parser.specs.Strings.{Key}
use Rattle.toml.specs.Data.{array, table, boolean, no_items, push_item}
use Rattle.toml.specs.Tables.{close}
use Rattle.toml.specs.Parse.{val}
use Rattle.toml.proofs.Turns.{items_end, items_more, items_bad, items_bad_end, val_atom, val_open_array, val_open_table}
use Rattle.toml.proofs.Turns.{val_deep, keyval_ok, keyval_no_key, keyval_no_value, members_bad}
use Rattle.sja_plan_reading.specs.Inside.Rooms.{items_in, pair_item}
use Rattle.sja_plan_reading.proofs.ReadLines.{bare_more}
use Rattle.sja_plan_reading.proofs.ReadMembers.{members_step, members_over}
use Rattle.sja_plan_reading.proofs.Refusals.{refuses_err, not_memory}
use Rattle.sja_plan_reading.proofs.RefusedTexts.{members_stop, members_unclosed, members_apart}
use Rattle.sja_plan_reading.proofs.tables.values.+passing.Goals as goal

pub pass_array-items-init : goal.pass_array-items-init
pass_array-items-init t c = (search rules, omega arith, λ n h found. (n, found, h, refl))

pub pass_array-returns-then-first-eq93-clause-value : goal.pass_array-returns-then-first-eq93-clause-value
pass_array-returns-then-first-eq93-clause-value t c n h found =
    let l = c.items in
    let (m, more, room, loop) = l.invariant.2 n h found in
    let closing : (first (skip_blank l.rest.now) == 93) ≡ true = grind (arith, common_steps) in (
      more,
      loop ∙ items_end (val c.args.depth) m more l.rest.now (omega arith) closing
          ∙ rw (c.skip.ensures.rest, c.skip_blank-start.ensures.rest),
    )

pub pass_array-items-preserved : goal.pass_array-items-preserved
pass_array-items-preserved t c =
    let l = c.items in
    let start_is = c.skip_blank-start.ensures.rest in
    let other : (first (skip_blank l.rest.now) == 93) ≡ false = grind (arith, common_steps) in
    let shorter = c.in_ok-after.ensures.shorter in
    let within = c.in_ok-rest.ensures.within in
    let before = c.skip_blank-start.ensures.within in
    let (d, read) = c.in_ok-after.ensures.value in (
      search rules,
      omega (arith, l.invariant.1),
      λ n h found.
          let (m, more, room, loop) = l.invariant.2 n h found in (
            m - 1,
            push_item more d,
            omega arith,
            loop ∙ items_more (val c.args.depth) m more l.rest.now d _ _
                (omega arith) other (rw start_is at read) c.in_ok-rest.ensures.value,
          ),
    )

pub pass_table-members-init : goal.pass_table-members-init
pass_table-members-init t c = (
  search rules,
  omega arith,
  c.new-room.ensures.sound,
  c.new-room.ensures.section,
  λ n h. (n, [], h, sym c.new-room.ensures.items, refl),
)

pub pass_table-returns-then-first-eq125-clause-value : goal.pass_table-returns-then-first-eq125-clause-value
pass_table-returns-then-first-eq125-clause-value t c n h =
    let l = c.members in
    let (m, is, room, same, so) = l.invariant.4 n h in
    let closing : (first (skip_blank l.rest.now) == 125) ≡ true = grind (arith, common_steps) in
    let (ns, goes) = c.in_ok-judge.ensures.good is same in (
      close ns,
      members_over (val c.args.depth) c.args.text.now n m is l.rest.now ns (omega arith) closing goes so
          ∙ rw (c.skip.ensures.rest, c.skip_blank-start.ensures.rest),
    )

pub pass_table-members-preserved : goal.pass_table-members-preserved
pass_table-members-preserved t c =
    let l = c.members in
    let start_is = c.skip_blank-start.ensures.rest in
    let other : (first (skip_blank l.rest.now) == 125) ≡ false = grind (arith, common_steps) in
    let shorter = c.in_ok-key.ensures.shorter in
    let shorter_again = c.in_ok-after.ensures.shorter in
    let within = c.in_ok-rest.ensures.within in
    let before = c.skip_blank-start.ensures.within in
    let k : Key = key_view c.in_ok-key.key in
    let (d, read) = c.in_ok-after.ensures.value in
    let pair_read = keyval_ok (val c.args.depth) c.skip_blank-start.result.now c.in_ok-key.value.now
    c.in_ok-after.after.now k d c.in_ok-key.ensures.value read in
    let old = l.room in
    let new = c.pair.new.self in
    let longer : items_in new ≡ items_in old ++ pair_item [] k (boolean false) ∷ [] =
    c.in_ok-pair.ensures.items ∙ ap (λ s. items_in old ++ pair_item s k (boolean false) ∷ []) l.invariant.3 in (
      search rules,
      omega (arith, l.invariant.1),
      c.in_ok-pair.ensures.sound,
      c.in_ok-pair.ensures.section ∙ l.invariant.3,
      λ n h.
          let (m, is, room, same, so) = l.invariant.4 n h in (
            m - 1,
            is ++ pair_item [] k d ∷ [],
            omega arith,
            bare_more is (items_in old) (items_in new)
                (pair_item [] k d) same longer,
            members_step (val c.args.depth) c.args.text.now n m is l.rest.now c.in_ok-after.after.now
                c.in_ok-rest.rest.now k d (omega arith) other (rw start_is at pair_read) c.in_ok-rest.ensures.value so,
          ),
    )

pub pass_value-returns-then-byte-ne123-clause-value : goal.pass_value-returns-then-byte-ne123-clause-value
pass_value-returns-then-byte-ne123-clause-value t c =
    let s = c.args.text.now in
    let a : (first s == 91) ≡ false = grind (arith, common_steps) in
    let b : (first s == 123) ≡ false = grind (arith, common_steps) in
    let (d, read) = c.in_ok-rest.ensures.value in
    (d, val_atom c.args.depth s a b ∙ read)

pub pass_value-returns-in_ok-array_end-clause-value : goal.pass_value-returns-in_ok-array_end-clause-value
pass_value-returns-in_ok-array_end-clause-value t c =
    let s = c.args.text.now in
    let some : 0 < c.args.depth = omega arith in
    let a : (first s == 91) ≡ true = grind (arith, common_steps) in
    let (ds, read) = c.in_ok-array_end.ensures.value (length s) c.skip.ensures.shorter no_items in
    (array ds, val_open_array c.args.depth s some a ∙ rw (← c.skip.ensures.rest, read))

pub pass_value-returns-in_ok-table_end-clause-value : goal.pass_value-returns-in_ok-table_end-clause-value
pass_value-returns-in_ok-table_end-clause-value t c =
    let s = c.args.text.now in
    let some : 0 < c.args.depth = omega arith in
    let a : (first s == 91) ≡ false = grind (arith, common_steps) in
    let b : (first s == 123) ≡ true = grind (arith, common_steps) in
    let (ms, read) = c.in_ok-table_end.ensures.value (length s) c.skip-else-byte-eq91.ensures.shorter in
    (table ms, val_open_table c.args.depth s some a b ∙ rw (← c.skip-else-byte-eq91.ensures.rest, read))

pub pass_array-returns-in_err-after-clause-bad : goal.pass_array-returns-in_err-after-clause-bad
pass_array-returns-in_err-after-clause-bad t c n h found =
    let l = c.items in
    let start_is = c.skip_blank-start.ensures.rest in
    let other : (first (skip_blank l.rest.now) == 93) ≡ false = grind (arith, common_steps) in
    let (m, more, room, loop) = l.invariant.2 n h found in
    refuses_err c.from_residual.result c.in_err-after.field-0.0 _ c.from_residual.ensures.1 λ is.
    loop ∙ items_bad (val c.args.depth) m more l.rest.now (omega arith) other
    (rw start_is at (c.in_err-after.ensures.bad is))

pub pass_array-returns-in_err-rest-clause-bad : goal.pass_array-returns-in_err-rest-clause-bad
pass_array-returns-in_err-rest-clause-bad t c n h found =
    let l = c.items in
    let start_is = c.skip_blank-start.ensures.rest in
    let other : (first (skip_blank l.rest.now) == 93) ≡ false = grind (arith, common_steps) in
    let (m, more, room, loop) = l.invariant.2 n h found in
    let (d, read) = c.in_ok-after.ensures.value in
    refuses_err c.from_residual-in_err-rest.result c.in_err-rest.field-0.0 _ c.from_residual-in_err-rest.ensures.1 λ is.
    loop ∙ items_bad_end (val c.args.depth) m more l.rest.now d _ (omega arith) other (rw start_is at read)
    (c.in_err-rest.ensures.value (not_memory _ is))

pub pass_table-returns-in_err-judge-clause-bad : goal.pass_table-returns-in_err-judge-clause-bad
pass_table-returns-in_err-judge-clause-bad t c n h =
    let l = c.members in
    let (m, is, room, same, so) = l.invariant.4 n h in
    refuses_err c.from_residual.result c.in_err-judge.field-0.0 _ c.from_residual.ensures.1 λ refused.
    members_apart (val c.args.depth) c.args.text.now n m is _ l.rest.now same (c.in_err-judge.ensures.bad refused) so

pub pass_table-returns-in_err-key-clause-bad : goal.pass_table-returns-in_err-key-clause-bad
pass_table-returns-in_err-key-clause-bad t c n h =
    let l = c.members in
    let start_is = c.skip_blank-start.ensures.rest in
    let other : (first (skip_blank l.rest.now) == 125) ≡ false = grind (arith, common_steps) in
    let (m, is, room, same, so) = l.invariant.4 n h in
    refuses_err c.from_residual-in_err-key.result c.in_err-key.field-0.0 _ c.from_residual-in_err-key.ensures.1
    λ refused.
    members_stop (val c.args.depth) c.args.text.now n m is l.rest.now
    (λ ns. members_bad (val c.args.depth) m ns l.rest.now (omega arith) other (keyval_no_key (val c.args.depth) _
    (rw start_is at (c.in_err-key.ensures.value (not_memory _ refused))))) so

pub pass_table-returns-in_err-after-clause-bad : goal.pass_table-returns-in_err-after-clause-bad
pass_table-returns-in_err-after-clause-bad t c n h =
    let l = c.members in
    let start_is = c.skip_blank-start.ensures.rest in
    let other : (first (skip_blank l.rest.now) == 125) ≡ false = grind (arith, common_steps) in
    let k : Key = key_view c.in_ok-key.key in
    let (m, is, room, same, so) = l.invariant.4 n h in
    refuses_err c.from_residual-in_err-after.result c.in_err-after.field-0.0 _ c.from_residual-in_err-after.ensures.1
    λ refused.
    members_stop (val c.args.depth) c.args.text.now n m is l.rest.now
    (λ ns. members_bad (val c.args.depth) m ns l.rest.now (omega arith) other (keyval_no_value (val c.args.depth) _ _ k
    (rw start_is at c.in_ok-key.ensures.value) (c.in_err-after.ensures.bad refused))) so

pub pass_table-returns-in_err-rest-clause-bad : goal.pass_table-returns-in_err-rest-clause-bad
pass_table-returns-in_err-rest-clause-bad t c n h =
    let l = c.members in
    let start_is = c.skip_blank-start.ensures.rest in
    let other : (first (skip_blank l.rest.now) == 125) ≡ false = grind (arith, common_steps) in
    let k : Key = key_view c.in_ok-key.key in
    let (d, read) = c.in_ok-after.ensures.value in
    let pair_read = keyval_ok (val c.args.depth) c.skip_blank-start.result.now c.in_ok-key.value.now
    c.in_ok-after.after.now k d c.in_ok-key.ensures.value read in
    let (m, is, room, same, so) = l.invariant.4 n h in
    refuses_err c.from_residual-in_err-rest.result c.in_err-rest.field-0.0 _ c.from_residual-in_err-rest.ensures.1
    λ refused.
    members_stop (val c.args.depth) c.args.text.now n m is l.rest.now
    (λ ns. members_unclosed (val c.args.depth) m ns l.rest.now c.in_ok-after.after.now k d (omega arith) other
    (rw start_is at pair_read) (c.in_err-rest.ensures.value (not_memory _ refused))) so

pub pass_value-returns-in_err-rest-clause-bad : goal.pass_value-returns-in_err-rest-clause-bad
pass_value-returns-in_err-rest-clause-bad t c =
    let s = c.args.text.now in
    let a : (first s == 91) ≡ false = grind (arith, common_steps) in
    let b : (first s == 123) ≡ false = grind (arith, common_steps) in
    refuses_err c.from_residual.result c.in_err-rest.field-0.0 _ c.from_residual.ensures.1 λ refused.
    val_atom c.args.depth s a b ∙ c.in_err-rest.ensures.bad refused

pub pass_value-returns-then-depth-eq0-clause-bad : goal.pass_value-returns-then-depth-eq0-clause-bad
pass_value-returns-then-depth-eq0-clause-bad t c refused =
    let s = c.args.text.now in
    let bracket : ((first s == 91) || (first s == 123)) ≡ true = grind (arith, common_steps) in
    let zero : c.args.depth ≡ 0 = omega arith in
    rw zero (val_deep s bracket)

pub pass_value-returns-in_err-array_end-clause-bad : goal.pass_value-returns-in_err-array_end-clause-bad
pass_value-returns-in_err-array_end-clause-bad t c =
    let s = c.args.text.now in
    let some : 0 < c.args.depth = omega arith in
    let a : (first s == 91) ≡ true = grind (arith, common_steps) in
    refuses_err c.from_residual-in_err-array_end.result c.in_err-array_end.field-0.0 _
    c.from_residual-in_err-array_end.ensures.1 λ refused.
    val_open_array c.args.depth s some a
    ∙ rw (← c.skip.ensures.rest, c.in_err-array_end.ensures.bad (length s) c.skip.ensures.shorter no_items refused)

pub pass_value-returns-in_err-table_end-clause-bad : goal.pass_value-returns-in_err-table_end-clause-bad
pass_value-returns-in_err-table_end-clause-bad t c =
    let s = c.args.text.now in
    let some : 0 < c.args.depth = omega arith in
    let a : (first s == 91) ≡ false = grind (arith, common_steps) in
    let b : (first s == 123) ≡ true = grind (arith, common_steps) in
    refuses_err c.from_residual-in_err-table_end.result c.in_err-table_end.field-0.0 _
    c.from_residual-in_err-table_end.ensures.1 λ refused.
    val_open_table c.args.depth s some a b
    ∙ rw (
      ← c.skip-else-byte-eq91.ensures.rest,
      c.in_err-table_end.ensures.bad (length s)
          c.skip-else-byte-eq91.ensures.shorter refused,
    )
