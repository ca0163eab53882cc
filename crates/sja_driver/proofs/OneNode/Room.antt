-- A journal has no more entries than are reserved for its run.
use Rattle.std.proofs.Common.{◌≡◌, ℕ, ◌+◌, ◌≤◌, Bool, true, false, List, [], ◌∷◌, ◌++◌, length, ap, arith}
use Rattle.std.specs.Prelude.{◌&&◌, not, if◌then◌else◌}
use Rattle.sja_journal.specs.declared.up.Up.{Up}
use Rattle.sja_journal.specs.declared.up.Up.TheVariants.{Start as StartItem, Credit, Send as SendItem, Stop as StopItem}
use Rattle.sja_journal.specs.declared.entry.Entry.{Entry}
use Rattle.sja_journal.specs.declared.entry.Entry.TheVariants.{Bit, Up as Item, Abort, Stored, Overrun, Off}
use Rattle.lemmas.specs.Gathering.{gathered, total}
use Rattle.lemmas.specs.Picking.{EachAfter}
use Rattle.sja_journal.specs.Judged.{judged_at}
use Rattle.sja_journal.specs.Places.{JournalPlace, first_place, past, past_all, place_of, placed, placed_from}
use Rattle.sja_journal.specs.Verdicts.{IsLawful}
use Rattle.sja_journal.specs.Written.{room_in}
use Rattle.sja_journal.proofs.JournalEntries.Entering.{bits_counted}
use Rattle.sja_journal.proofs.JournalEntries.Rooms.{HasFree, bits_apart}
use Rattle.sja_journal.proofs.Ledger.FewVerdicts.{verdicts_few}
use Rattle.sja_regs.specs.declared.registers.Registers.{Registers}
use Rattle.sja_regs.specs.Commands.{command_of, requests}
use Rattle.sja_steps.specs.declared.step.Step.{Step}
use Rattle.sja_steps.specs.declared.step.Step.TheVariants.{Start, Stop, Window, Release, Read, Write, Load, Command}
use Rattle.sja_steps.specs.declared.step.Step.TheVariants.{Await, Sent, Interrupt, At}
use Rattle.sja_steps.specs.declared.step_answer.StepAnswer.{StepAnswer}
use Rattle.sja_steps.specs.declared.step_answer.StepAnswer.TheVariants.{Done, Released}
use Rattle.sja_driver.specs.Carried.{asks_abort}
use Rattle.sja_driver.specs.TypedActs.{TypedAct, Gives, GivesSend}
use Rattle.sja_driver.specs.Counted.{item_in, off_in, abort_in, asks_by, gave_by, IsCounted}

-- ---- each entry is of one kind

entries_from : (p : JournalPlace) (es : List Entry) →
    p.bits + length es ≡ (((past_all p es).bits + total item_in es) + length (gathered judged_at (placed_from p es)))
    + (total off_in es + total abort_in es)
entries_from p [] = omega arith
entries_from p (Bit driven seen ∷ es) = let h = entries_from (past p (Bit driven seen)) es in omega (arith, h)
entries_from p (Item (StartItem config) ∷ es) =
    let h = entries_from (past p (Item (StartItem config))) es in omega (arith, h)
entries_from p (Item (Credit n) ∷ es) = let h = entries_from p es in omega (arith, h)
entries_from p (Item (SendItem request) ∷ es) = let h = entries_from p es in omega (arith, h)
entries_from p (Item StopItem ∷ es) = let h = entries_from p es in omega (arith, h)
entries_from p (Abort ∷ es) = let h = entries_from p es in omega (arith, h)
entries_from p (Stored m ∷ es) = let h = entries_from p es in omega (arith, h)
entries_from p (Overrun m ∷ es) = let h = entries_from p es in omega (arith, h)
entries_from p (Off ∷ es) = let h = entries_from (past p Off) es in omega (arith, h)

entries_counted : (j : List Entry) →
    length j ≡ (((place_of j).bits + total item_in j) + length (gathered judged_at (placed j)))
    + (total off_in j + total abort_in j)
entries_counted j = let h = entries_from first_place j in omega (arith, h)

-- each activation begins with an item that was taken
begun_from : (p : JournalPlace) (es : List Entry) → (past_all p es).activation ≤ p.activation + total item_in es
begun_from p [] = omega arith
begun_from p (Bit driven seen ∷ es) = let h = begun_from (past p (Bit driven seen)) es in omega (arith, h)
begun_from p (Item (StartItem config) ∷ es) =
    let h = begun_from (past p (Item (StartItem config))) es in omega (arith, h)
begun_from p (Item (Credit n) ∷ es) = let h = begun_from p es in omega (arith, h)
begun_from p (Item (SendItem request) ∷ es) = let h = begun_from p es in omega (arith, h)
begun_from p (Item StopItem ∷ es) = let h = begun_from p es in omega (arith, h)
begun_from p (Abort ∷ es) = let h = begun_from p es in omega (arith, h)
begun_from p (Stored m ∷ es) = let h = begun_from p es in omega (arith, h)
begun_from p (Overrun m ∷ es) = let h = begun_from p es in omega (arith, h)
begun_from p (Off ∷ es) = let h = begun_from (past p Off) es in omega (arith, h)

begun_few : (j : List Entry) → (place_of j).activation ≤ total item_in j
begun_few j = let h = begun_from first_place j in omega (arith, h)

-- ---- an act gives one item at most, or asks for an abort, and never both

asked_or_sent : (at asks : Bool) (gave : List Up) → GivesSend asks gave →
    length gave + (if (at && not asks) then 1 else 0) ≤ 1
asked_or_sent true true gave g = let e : length gave ≡ 1 = ap (λ l. length l) g.1 in omega (arith, e)
asked_or_sent true false gave g = let e : length gave ≡ 0 = ap (λ l. length l) g in omega (arith, e)
asked_or_sent false true gave g = let e : length gave ≡ 1 = ap (λ l. length l) g.1 in omega (arith, e)
asked_or_sent false false gave g = let e : length gave ≡ 0 = ap (λ l. length l) g in omega (arith, e)

none_given : (gave : List Up) → gave ≡ [] → length gave + 0 ≤ 1
none_given gave g = let e : length gave ≡ 0 = ap (λ l. length l) g in omega (arith, e)

one_given : (gave : List Up) (u : Up) → gave ≡ u ∷ [] → length gave + 0 ≤ 1
one_given gave u g = let e : length gave ≡ 1 = ap (λ l. length l) g in omega (arith, e)

one_each : (s : Step) (r : StepAnswer) (gave : List Up) → Gives s r gave →
    length gave + (if asks_abort s r then 1 else 0) ≤ 1
one_each Start Done gave g = one_given gave (StartItem g.0) g.1
one_each Release (Released n) gave g = one_given gave (Credit n) g
one_each (Command v) Done gave g = asked_or_sent (command_of v).at (requests (command_of v)) gave g
one_each Stop Done gave g = one_given gave StopItem g
one_each Start other gave g = none_given gave g
one_each Release other gave g = none_given gave g
one_each (Command v) other gave g = none_given gave g
one_each Stop other gave g = none_given gave g
one_each Window r gave g = none_given gave g
one_each (Read x) r gave g = none_given gave g
one_each (Write x y) r gave g = none_given gave g
one_each (Load m) r gave g = none_given gave g
one_each (Await k) r gave g = none_given gave g
one_each Sent r gave g = none_given gave g
one_each Interrupt r gave g = none_given gave g
one_each (At bits) r gave g = none_given gave g

all_each : (before ds : List TypedAct) → EachAfter (λ b (d : TypedAct). Gives d.step d.answer d.gave) before ds →
    total gave_by ds + total asks_by ds ≤ length ds
all_each before [] g = omega arith
all_each before (d ∷ ds) g =
    let one = one_each d.step d.answer d.gave g.0 in let rest =
    all_each (before ++ d ∷ []) ds g.1 in omega (arith, one, rest)

-- ---- all together: with room for an abort, a bit, a verdict and bus-off more

pub has_room : (j : List Entry) (acts : List TypedAct) (p : Registers) (bits steps : ℕ) → IsCounted j acts p →
    IsLawful j
    →
    EachAfter (λ b (d : TypedAct). Gives d.step d.answer d.gave) [] acts → length acts ≤ steps →
    (place_of j).bits ≤ bits → HasFree 4 (room_in bits steps) j
has_room j acts p bits steps h lawful gives most run =
    let all = entries_counted j in
    let i = h.items in let v = verdicts_few j lawful in let o = h.offs in let a = h.aborts lawful.found lawful.cut in
    let each = all_each [] acts gives in let begun = begun_few j in
    let apart = bits_apart j in let bits = bits_counted j in record {
      all = omega (arith, all, i, v, o, a, each, most, run, begun);
      others = omega (arith, all, i, v, o, a, each, most, run, begun, apart, bits);
    }
