-- From entries, steps and registers on the way the entries and steps of a whole run are reached.
use Rattle.std.proofs.Common.{◌≡◌, ◌≤◌, ℕ, Bool, true, false, List, [], ◌∷◌, ◌++◌, refl, sym}
use Rattle.std.proofs.Common.{ap, ◌∙◌, arith, append-nil, append_assoc}
use Rattle.can_levels.specs.declared.level.Level.{Level}
use Rattle.sja_journal.specs.declared.entry.Entry.{Entry}
use Rattle.sja_journal.specs.declared.entry.Entry.TheVariants.{Bit, Up as Item, Abort, Stored, Overrun, Off}
use Rattle.sja_journal.specs.declared.up.Up.{Up}
use Rattle.sja_journal.specs.BitEntries.{abort_as, entries_of_items, judged_as, off_as}
use Rattle.sja_journal.specs.Places.{JournalPlace, place_of}
use Rattle.sja_journal.proofs.JournalEntries.EachInPart.{place_both}
use Rattle.sja_journal.proofs.JournalEntries.Entering.{all_rise}
use Rattle.sja_regs.specs.declared.registers.Registers.{Registers}
use Rattle.sja_regs.specs.Registers.{at_power_on}
use Rattle.sja_driver.specs.declared.unmodelled_registers.UnmodelledRegisters.{UnmodelledRegisters}
use Rattle.sja_driver.specs.StepRuns.{StepRun, IsStepRun, acts_in}
use Rattle.sja_driver.specs.TypedActs.{TypedAct, is_active}
use Rattle.sja_driver.specs.Kept.{at_power_on as kept_at_power_on}
use Rattle.sja_promises.specs.Registering.{StepRunsLeadTo, IsPortBit, LeadOn, seen_now}
use Rattle.sja_promises.specs.Registering.StepRunsLeadTo.{power_on, step_run, bit}
use Rattle.sja_promises.specs.Registering.LeadOn.{nothing_more, one_more}
use Rattle.sja_promises.proofs.NodeLog.Onward.{Extends, PutsLater}
use Rattle.sja_laws.specs.LongerJournals.{BringsLater, GoesOn}
use Rattle.sja_laws.proofs.Journals.LastBits.{bit_whole}
use Rattle.sja_laws.proofs.OneNode.OneStepRun.{bits_on}
use Rattle.sja_laws.proofs.OneNode.OnePort.{bits_with_bit}

-- ---- the way on

pub data Onward (version : ℕ) (whole : List Entry) (all : List StepRun) :
    List Entry → List StepRun → UnmodelledRegisters → Registers → Type 0 where
  arrived : (j : List Entry) (step_runs : List StepRun) (kept : UnmodelledRegisters) (p : Registers) → j ≡ whole →
      step_runs ≡ all → Onward version whole all j step_runs kept p
  does : (j k : List Entry) (step_runs : List StepRun) (a : StepRun) (kept kept_now : UnmodelledRegisters)
      (p q : Registers) →
      a.bits ≡ (place_of j).bits →
      IsStepRun version p (seen_now (is_active (acts_in step_runs)) j (acts_in step_runs))
      (is_active (acts_in step_runs)) kept a kept_now → LeadOn (acts_in step_runs) j p a.acts k q →
      Onward version whole all k (step_runs ++ a ∷ []) kept_now q → Onward version whole all j step_runs kept p
  runs : (j k : List Entry) (step_runs : List StepRun) (kept : UnmodelledRegisters) (p q : Registers) →
      IsPortBit p q j k →
      Onward version whole all k step_runs kept q → Onward version whole all j step_runs kept p

-- all of it from power-on
pub from_power_on : (version : ℕ) (whole : List Entry) (all : List StepRun) (j : List Entry) (step_runs : List StepRun)
    (kept : UnmodelledRegisters) (p : Registers) → StepRunsLeadTo version j step_runs kept p →
    Onward version whole all j step_runs kept p →
    Onward version whole all [] [] kept_at_power_on (at_power_on version)
from_power_on version whole all j _ _ _ power_on on = on
from_power_on version whole all k step_runs kept q (bit j _ _ _ p _ led is) on =
    from_power_on version whole all j step_runs kept p led (runs j k step_runs kept p q is on)
from_power_on version whole all k _ kept q (step_run j _ before a was _ p _ led now is leads) on =
    from_power_on version whole all j before was p led (does j k before a was kept p q now is leads on)

-- ---- the journal goes on

items_both : (us vs : List Up) → entries_of_items (us ++ vs) ≡ entries_of_items us ++ entries_of_items vs
items_both [] vs = refl
items_both (u ∷ us) vs = ap (λ l. Item u ∷ l) (items_both us vs)

pub items_on : (before : List TypedAct) (j : List Entry) (p : Registers) (k : List Entry) (q : Registers)
    (acts : List TypedAct) → LeadOn before j p acts k q → (us : List Up) × (k ≡ j ++ entries_of_items us)
items_on before j p k q _ nothing_more = ([], sym (append-nil j))
items_on before j p l r _ (one_more acts d k _ q _ on is) =
    let h = items_on before j p k q acts on in (
      h.0 ++ d.gave,
      is.taken ∙ ap (λ x. x ++ entries_of_items d.gave) h.1
          ∙ append_assoc j (entries_of_items h.0) (entries_of_items d.gave)
          ∙ ap (λ x. j ++ x) (sym (items_both h.0 d.gave)),
    )

later_items : (us : List Up) (es : List Entry) → BringsLater es → BringsLater (entries_of_items us ++ es)
later_items [] es h = h
later_items (u ∷ us) es h = later_items us es h

later_bit : (changed : Bool) (driven seen : Level) (es : List Entry) →
    BringsLater (abort_as changed ++ Bit driven seen ∷ es)
later_bit true driven seen es = tt
later_bit false driven seen es = tt

pub goes_on : (version : ℕ) (whole : List Entry) (all : List StepRun) (j : List Entry) (step_runs : List StepRun)
    (kept : UnmodelledRegisters) (p : Registers) → Onward version whole all j step_runs kept p → GoesOn j whole
goes_on version whole all j step_runs kept p (arrived _ _ _ _ is same) =
    record { rest = []; is = sym is ∙ sym (append-nil j); later = tt }
goes_on version whole all j step_runs kept p (does _ k _ a _ now _ q bits is on more) =
    let h = goes_on version whole all k (step_runs ++ a ∷ []) now q more in
    let us = items_on (acts_in step_runs) j p k q a.acts on in
    record {
      rest = entries_of_items us.0 ++ h.rest;
      is = h.is ∙ ap (λ l. l ++ h.rest) us.1 ∙ append_assoc j (entries_of_items us.0) h.rest;
      later = later_items us.0 h.rest h.later;
    }
goes_on version whole all j step_runs kept p (runs _ k _ _ _ q b more) =
    let h = goes_on version whole all k step_runs kept q more in
    let brought = judged_as b.bit.verdict ++ off_as b.bit.off in
    let opened = j ++ abort_as b.changed in
    record {
      rest = abort_as b.changed ++ Bit b.driven b.seen ∷ (brought ++ h.rest);
      is = h.is ∙ ap (λ l. l ++ h.rest) (bit_whole opened k b.driven b.seen b.bit)
          ∙ append_assoc opened (Bit b.driven b.seen ∷ brought) h.rest
          ∙ append_assoc j (abort_as b.changed) (Bit b.driven b.seen ∷ (brought ++ h.rest));
      later = later_bit b.changed b.driven b.seen (brought ++ h.rest);
    }

puts_later : (es : List Entry) → BringsLater es → PutsLater es
puts_later [] h = tt
puts_later (Bit driven seen ∷ es) h = tt
puts_later (Item u ∷ es) h = puts_later es h
puts_later (Abort ∷ es) h = puts_later es h
puts_later (Stored m ∷ es) h = absurd h
puts_later (Overrun m ∷ es) h = absurd h
puts_later (Off ∷ es) h = absurd h

pub extends : (j whole : List Entry) → GoesOn j whole → Extends j whole
extends j whole h = record { rest = h.rest; whole = h.is; later = puts_later h.rest h.later }

pub bits_rise : (j whole : List Entry) → GoesOn j whole → (place_of j).bits ≤ (place_of whole).bits
bits_rise j whole h =
    let n = ap (λ (l : List Entry). (place_of l).bits) h.is
    ∙ ap (λ (s : JournalPlace). s.bits) (place_both j h.rest) in
    let m = (all_rise (place_of j) h.rest).bits in
    omega (arith, n, m)

-- ---- the steps that come

abbrev pub AllLate : ℕ → List StepRun → Type 0
AllLate n [] = Unit {0}
AllLate n (a ∷ step_runs) = (n ≤ a.bits) × AllLate n step_runs

pub late_less : (n m : ℕ) (step_runs : List StepRun) → n ≤ m → AllLate m step_runs → AllLate n step_runs
late_less n m [] few h = tt
late_less n m (a ∷ step_runs) few h = let b = h.0 in (omega (arith, few, b), late_less n m step_runs few h.1)

pub record StepsCome (n : ℕ) (step_runs all : List StepRun) : Type 0 where
  pub more : List StepRun
  pub is : all ≡ step_runs ++ more
  pub late : AllLate n more

pub steps_come : (version : ℕ) (whole : List Entry) (all : List StepRun) (j : List Entry) (step_runs : List StepRun)
    (kept : UnmodelledRegisters) (p : Registers) → Onward version whole all j step_runs kept p →
    StepsCome (place_of j).bits step_runs all
steps_come version whole all j step_runs kept p (arrived _ _ _ _ is same) =
    record { more = []; is = sym same ∙ sym (append-nil step_runs); late = tt }
steps_come version whole all j step_runs kept p (does _ k _ a _ now _ q bits is on more) =
    let h = steps_come version whole all k (step_runs ++ a ∷ []) now q more in
    let b = (bits_on (acts_in step_runs) j p k q a.acts on).0 in
    record {
      more = a ∷ h.more;
      is = h.is ∙ append_assoc step_runs (a ∷ []) h.more;
      late = (omega (arith, bits), late_less (place_of j).bits (place_of k).bits h.more (omega (arith, b)) h.late);
    }
steps_come version whole all j step_runs kept p (runs _ k _ _ _ q b more) =
    let h = steps_come version whole all k step_runs kept q more in
    let n = bits_with_bit j k p q b in
    record {
      more = h.more;
      is = h.is;
      late = late_less (place_of j).bits (place_of k).bits h.more (omega (arith, n)) h.late;
    }
