-- In a journal that steps and bits made each abort stands right before a bit.
use Rattle.std.proofs.Common.{◌≡◌, ℕ, Bool, true, false, Option, Some, None, List, [], ◌∷◌, ◌++◌, refl, sym, ap}
use Rattle.std.proofs.Common.{subst, append_assoc}
use Rattle.can_levels.specs.declared.level.Level.{Level}
use Rattle.sja_journal.specs.declared.entry.Entry.{Entry}
use Rattle.sja_journal.specs.declared.entry.Entry.TheVariants.{Bit, Up as Item, Abort, Stored, Overrun, Off}
use Rattle.sja_journal.specs.declared.up.Up.{Up}
use Rattle.sja_journal.specs.declared.verdict.Verdict.{Verdict}
use Rattle.sja_journal.specs.declared.verdict.Verdict.TheVariants.{Stored as ToStore, Overrun as ToLose}
use Rattle.sja_journal.specs.BitEntries.{HasBit, abort_as, judged_as, off_as, entries_of_items}
use Rattle.sja_driver.specs.TypedActs.{TypedAct}
use Rattle.sja_regs.specs.declared.registers.Registers.{Registers}
use Rattle.sja_driver.specs.Moments.{BeginsWithBit}
use Rattle.sja_promises.specs.Registering.{LeadTo}
use Rattle.sja_promises.specs.Registering.LeadTo.{power_on, act, bit}

-- each abort stands there
abbrev Stand : List Entry → Type 0
Stand [] = Unit {0}
Stand (Abort ∷ j) = BeginsWithBit j × Stand j
Stand (Bit driven seen ∷ j) = Stand j
Stand (Item item ∷ j) = Stand j
Stand (Stored m ∷ j) = Stand j
Stand (Overrun m ∷ j) = Stand j
Stand (Off ∷ j) = Stand j

longer : (j k : List Entry) → BeginsWithBit j → BeginsWithBit (j ++ k)
longer j k h = record {
  driven = h.driven;
  seen = h.seen;
  rest = h.rest ++ k;
  whole = ap (λ l. l ++ k) h.whole;
}

both : (j k : List Entry) → Stand j → Stand k → Stand (j ++ k)
both [] k h g = g
both (Abort ∷ j) k h g = (longer j k h.0, both j k h.1 g)
both (Bit driven seen ∷ j) k h g = both j k h g
both (Item item ∷ j) k h g = both j k h g
both (Stored m ∷ j) k h g = both j k h g
both (Overrun m ∷ j) k h g = both j k h g
both (Off ∷ j) k h g = both j k h g

of_items : (items : List Up) → Stand (entries_of_items items)
of_items [] = tt
of_items (u ∷ items) = of_items items

of_bit : (changed : Bool) (driven seen : Level) → Stand (abort_as changed ++ Bit driven seen ∷ [])
of_bit true driven seen = (record { driven = driven; seen = seen; rest = []; whole = refl }, tt)
of_bit false driven seen = tt

of_verdict : (v : Option (Verdict × List ℕ)) → Stand (judged_as v)
of_verdict None = tt
of_verdict (Some (ToStore, m)) = tt
of_verdict (Some (ToLose, m)) = tt

of_off : (off : Bool) → Stand (off_as off)
of_off true = tt
of_off false = tt

after_bit : (j k : List Entry) (changed : Bool) (driven seen : Level) → HasBit (j ++ abort_as changed) driven seen k →
    Stand j → Stand k
after_bit j k changed driven seen b h = subst (λ (l : List Entry). Stand l) (sym b.whole)
    (both (((j ++ abort_as changed) ++ Bit driven seen ∷ []) ++ judged_as b.verdict) (off_as b.off)
    (both ((j ++ abort_as changed) ++ Bit driven seen ∷ []) (judged_as b.verdict)
    (subst (λ (l : List Entry). Stand l) (sym (append_assoc j (abort_as changed) (Bit driven seen ∷ [])))
    (both j (abort_as changed ++ Bit driven seen ∷ []) h (of_bit changed driven seen)))
    (of_verdict b.verdict)) (of_off b.off))

made : (version : ℕ) (j : List Entry) (acts : List TypedAct) (p : Registers) → LeadTo version j acts p → Stand j
made version j acts p power_on = tt
made version j acts p (act before _ done d was _ led is) =
    subst (λ (l : List Entry). Stand l) (sym is.taken)
    (both before (entries_of_items d.gave) (made version before done was led) (of_items d.gave))
made version j acts p (bit before _ _ was _ led b) =
    after_bit before j b.changed b.driven b.seen b.bit (made version before acts was led)

there : (before rest : List Entry) → Stand (before ++ Abort ∷ rest) → BeginsWithBit rest
there [] rest h = h.0
there (Abort ∷ before) rest h = there before rest h.1
there (Bit driven seen ∷ before) rest h = there before rest h
there (Item item ∷ before) rest h = there before rest h
there (Stored m ∷ before) rest h = there before rest h
there (Overrun m ∷ before) rest h = there before rest h
there (Off ∷ before) rest h = there before rest h

pub abort_first : (version : ℕ) (j : List Entry) (acts : List TypedAct) (p : Registers) → LeadTo version j acts p →
    (before rest : List Entry) → j ≡ before ++ Abort ∷ rest → BeginsWithBit rest
abort_first version j acts p led before rest e = there before rest (subst (λ (l : List Entry). Stand l) e
    (made version j acts p led))
