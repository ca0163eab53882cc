-- Bits of a run, one after another.
use Rattle.std.specs.Prelude.{◌⊎◌, min, slice_index_or}
use Rattle.std.proofs.Common.{◌≡◌, ℕ, zero, suc, ◌+◌, ◌<◌, ◌≤◌, Bool, true, false, List, length}
use Rattle.std.proofs.Common.{sym, ◌∙◌, subst, arith, inl, inr}
use Rattle.std.proofs.lemmas.Bool.{cases_lt}
use Rattle.sja_journal.specs.declared.entry.Entry.{Entry}
use Rattle.sja_journal.specs.Records.{record_of}
use Rattle.sja_bus_rules.specs.Buses.{BusValue}
use Rattle.sja_bus.specs.BusRest.{RestsAs}
use Rattle.sja_bus.specs.Several.{AllRest as AllAtRest}
use Rattle.sja_bus_rules.specs.Lawful.{IsBusRun}
use Rattle.sja_bus_rules.specs.Wire.{journal_at}
use Rattle.sja_driver.specs.TypedActs.{TypedAct}
use Rattle.sja_serial.specs.Bits.{TakesBit, TakesBits, AllRestIn, SomeWorks, TakesBusTurn, TakesRest}
use Rattle.sja_regs.specs.declared.registers.Registers.{Registers}
use Rattle.sja_promises.specs.Registering.{IsPortBit}
use Rattle.sja_serial.specs.Inside.SerialProgress.{IsAsBefore, TakesAtOnce}
use Rattle.sja_journal.specs.BitEntries.{HasOneBit}
use Rattle.sja_serial.specs.Bits.TakesBits.{no_bit, one_more}
use Rattle.sja_serial.specs.Serial.{Setup, SerialValue, StandsAt}
use Rattle.sja_serial.proofs.WholeRun.GoingOn.{bits_run, stands_bits}

-- so many were run
pub record SomeBits (setup : Setup) (acts : List (List TypedAct)) (Before : SerialValue → Type 0) (r n : SerialValue)
    (count : ℕ) : Type 0 where
  pub bits : TakesBits setup acts Before r count n
  pub stands : StandsAt setup n acts
  pub many : n.bits ≡ r.bits + count

pub bits_none : (setup : Setup) (acts : List (List TypedAct)) (Before : SerialValue → Type 0) (r : SerialValue) →
    StandsAt setup r acts → SomeBits setup acts Before r r 0
bits_none setup acts Before r h = record { bits = no_bit r; stands = h; many = omega arith }

-- and so many more
pub bits_then : (setup : Setup) (acts : List (List TypedAct)) (Before : SerialValue → Type 0) (r m n : SerialValue)
    (count more : ℕ) → TakesBits setup acts Before r count m → TakesBits setup acts Before m more n →
    TakesBits setup acts Before r (more + count) n
bits_then setup acts Before r m n count zero s (no_bit _) = let e : count ≡ 0 + count = omega arith in
    subst (λ (c : ℕ). TakesBits setup acts Before r c m) e s
bits_then setup acts Before r m n count (suc more) s (one_more _ mid _ _ before holds bit) =
    let e : suc (more + count) ≡ suc more + count = omega arith in
    subst (λ (c : ℕ). TakesBits setup acts Before r c n) e
    (one_more r mid n (more + count) (bits_then setup acts Before r m mid count more s before) holds bit)

pub some_then : (setup : Setup) (acts : List (List TypedAct)) (Before : SerialValue → Type 0) (r m n : SerialValue)
    (count more : ℕ) → SomeBits setup acts Before r m count → TakesBits setup acts Before m more n →
    SomeBits setup acts Before r n (count + more)
some_then setup acts Before r m n count more s t =
    let both = bits_then setup acts Before r m n count more s.bits t in
    let k = s.many in let b = bits_run setup acts Before m n more t in
    let e : more + count ≡ count + more = omega arith in record {
      bits = subst (λ (c : ℕ). TakesBits setup acts Before r c n) e both;
      stands = stands_bits setup acts Before m n more t s.stands;
      many = omega (arith, k, b);
    }

-- so many to begin with
pub some_first : (setup : Setup) (acts : List (List TypedAct)) (Before : SerialValue → Type 0) (r n : SerialValue)
    (count : ℕ) → StandsAt setup r acts → TakesBits setup acts Before r count n →
    SomeBits setup acts Before r n count
some_first setup acts Before r n count h t = record {
  bits = t;
  stands = stands_bits setup acts Before r n count t h;
  many = bits_run setup acts Before r n count t;
}

-- whatever held before each of them
pub bits_freely : (setup : Setup) (acts : List (List TypedAct)) (Before : SerialValue → Type 0) (r n : SerialValue)
    (count : ℕ) → TakesBits setup acts Before r count n → TakesBits setup acts (λ x. Unit {0}) r count n
bits_freely setup acts Before r n count (no_bit _) = no_bit r
bits_freely setup acts Before r n count (one_more _ mid _ k before holds bit) =
    one_more r mid n k (bits_freely setup acts Before r mid k before) tt bit

-- so many while some node worked, and more since then
pub some_since : (setup : Setup) (acts : List (List TypedAct)) (r m n : SerialValue) (first run : ℕ) →
    StandsAt setup r acts → TakesBits setup acts (SomeWorks setup) r first m →
    (StandsAt setup m acts →
    (more : ℕ) × (run ≡ first + more) × SomeBits setup acts (λ x. Unit {0}) m n more) →
    SomeBits setup acts (λ x. Unit {0}) r n run
some_since setup acts r m n first run h t since =
    let s = some_first setup acts (λ x. Unit {0}) r m first h (bits_freely setup acts (SomeWorks setup) r m first t)
    in
    let x = since s.stands in
    subst (λ (k : ℕ). SomeBits setup acts (λ y. Unit {0}) r n k) (sym x.1)
    (some_then setup acts (λ y. Unit {0}) r m n first x.0 s x.2.bits)

-- no more bits are run than there are
pub bits_within : (setup : Setup) (r : SerialValue) (acts : List (List TypedAct)) → StandsAt setup r acts →
    r.bits ≤ setup.bits
bits_within setup r acts h = let a = h.all_bits in let b = h.bits in omega (arith, a, b)

-- ---- `bus`

pub bus_all : (setup : Setup) (acts : List (List TypedAct)) (r n : SerialValue) (run count : ℕ) → run ≡ count →
    SomeBits setup acts (λ x. Unit {0}) r n run → TakesBusTurn setup acts r n count true
bus_all setup acts r n run count all s = record { run = run; bits = s.bits; whole = λ yes. all; spent = λ no. cc no }

pub bus_spent : (setup : Setup) (acts : List (List TypedAct)) (r n : SerialValue) (run count : ℕ) → run < count →
    setup.bits ≤ n.bits → SomeBits setup acts (λ x. Unit {0}) r n run → TakesBusTurn setup acts r n count false
bus_spent setup acts r n run count few spent s =
    let w = bits_within setup n acts s.stands in
    record { run = run; bits = s.bits; whole = λ yes. cc yes; spent = λ no. (few, omega (arith, spent, w)) }

-- ---- `rest`

pub all_rest : (setup : Setup) (n : SerialValue) (acts : List (List TypedAct)) → StandsAt setup n acts →
    ((node : ℕ) → node < length n.bus.journals → RestsAs (record_of (journal_at n.bus.journals node)) true) →
    AllRestIn setup n
all_rest setup n acts h rest node less = let c = h.count.journals in rest node (omega (arith, c, less))

pub some_works : (setup : Setup) (n : SerialValue) (acts : List (List TypedAct)) → StandsAt setup n acts →
    ((node : ℕ) × (node < length n.bus.journals) × RestsAs (record_of (journal_at n.bus.journals node)) false) →
    SomeWorks setup n
some_works setup n acts h busy = let c = h.count.journals in let l = busy.1 in (busy.0, omega (arith, c, l), busy.2)

-- at most as many were run as are left of those that were asked for, so there were as many, or none is left, or every
-- node is at rest
pub busy_whole : (setup : Setup) (acts : List (List TypedAct)) (Before : SerialValue → Type 0) (r n : SerialValue)
    (many most count left : ℕ) {Asked : Type 0} → SomeBits setup acts Before r n many → r.bits + left ≡ setup.bits →
    most ≡ min count left →
    (many ≡ most) ⊎ (n.bus.left ≡ 0) ⊎ (Asked × AllAtRest n.bus.journals) →
    (many ≡ count) ⊎ (setup.bits ≤ n.bits) ⊎ AllRestIn setup n
busy_whole setup acts Before r n many most count left s left_is most_is whole =
    let ran = s.many in let all = s.stands.all_bits in let run = s.stands.bits in elim whole [
      | inl same ↦ elim (cases_lt count left) [
        | inl more ↦ inl (omega (arith, same, most_is, more))
        | inr few ↦ inr (inl (omega (arith, same, most_is, left_is, few, ran)))
      ]
      | inr (inl none) ↦ inr (inl (omega (arith, none, all, run)))
      | inr (inr rest) ↦ inr (inr (all_rest setup n acts s.stands rest.1))
    ]

-- not every node is at rest where some node works
pub not_both : (setup : Setup) (n : SerialValue) → AllRestIn setup n → SomeWorks setup n → ⊥
not_both setup n rest busy =
    let r = rest busy.0 busy.1 in let is = r.is in let no = busy.2.every r.found r.cut in cc (is, no)

-- it ran until all rest, or so many bits were run, or they were spent
pub rest_so : (setup : Setup) (acts : List (List TypedAct)) (r n : SerialValue) (run most : ℕ) (rests : Bool) →
    StandsAt setup r acts → TakesBits setup acts (SomeWorks setup) r run n → run ≤ most →
    (run ≡ most) ⊎ (setup.bits ≤ n.bits) ⊎ AllRestIn setup n → (rests ≡ true → AllRestIn setup n) →
    (rests ≡ false → SomeWorks setup n) → TakesRest setup acts r n most rests
rest_so setup acts r n run most rests h t few whole all busy =
    let s = some_first setup acts (SomeWorks setup) r n run h t in
    let w = bits_within setup n acts s.stands in record {
      run = run;
      few = few;
      bits = t;
      whole = all;
      spent = λ no. (
        busy no,
        elim whole [
          | inl asked ↦ inl asked
          | inr (inl spent) ↦ inr (omega (arith, spent, w))
          | inr (inr rest) ↦ absurd (not_both setup n rest (busy no))
        ],
      );
    }

-- ---- bits at once, or one

-- where none was run the bus has its laws still
pub still_lawful : (setup : Setup) (acts : List (List TypedAct)) (r m : SerialValue) → StandsAt setup r acts →
    StandsAt setup m acts → IsAsBefore r m →
    IsBusRun r.bus.script r.bus.run r.bus.journals → IsBusRun m.bus.script m.bus.run m.bus.journals
still_lawful setup acts r m h k same =
    let script : r.bus.script ≡ m.bus.script = h.script ∙ sym k.script in
    let run : r.bus.run ≡ m.bus.run = sym h.bits ∙ sym same.bits ∙ k.bits in
    let bus : r.bus ≡ record r.bus { script = m.bus.script; run = m.bus.run; journals = m.bus.journals } =
    λ i. record r.bus { script = script i; run = run i; journals = sym same.journals i } in
    subst (λ (b : BusValue). IsBusRun b.script b.run b.journals) bus

-- what one bit is of a run that it left as it was before
one_after : (setup : Setup) (acts : List (List TypedAct)) (r m n : SerialValue) →
    IsAsBefore r m → TakesBit setup acts m n → TakesBit setup acts r n
one_after setup acts r m n same t =
    let b = t.bits in let e = same.bits in record {
      stands = t.stands;
      bits = omega (arith, b, e);
      lawful = t.lawful;
      nodes = λ k less. subst (λ (l : List (List Entry)). HasOneBit (journal_at l k) (journal_at n.bus.journals k))
          same.journals (t.nodes k less);
      ports = λ k p less. subst (λ (l : List (List Entry)). IsPortBit (slice_index_or r.ports k p)
          (slice_index_or n.ports k p) (journal_at l k) (journal_at n.bus.journals k)) same.journals
          (subst (λ (l : List Registers). IsPortBit (slice_index_or l k p) (slice_index_or n.ports k p)
          (journal_at m.bus.journals k) (journal_at n.bus.journals k)) same.ports (t.ports k p less));
      drivers = t.drivers ∙ same.drivers;
    }

pub just_one : (setup : Setup) (acts : List (List TypedAct)) (Before : SerialValue → Type 0) (r n : SerialValue) →
    Before r → TakesBit setup acts r n → TakesBits setup acts Before r 1 n
just_one setup acts Before r n holds t = one_more r r n 0 (no_bit r) holds t

-- none could be run at once, and then one was run
pub none_then_one : (setup : Setup) (acts : List (List TypedAct)) (r m n : SerialValue) (most run : ℕ) →
    TakesAtOnce setup acts r m most run → run ≡ 0 → TakesBit setup acts m n →
    TakesBits setup acts (λ x. Unit {0}) r 1 n
none_then_one setup acts r m n most run once is_none t = just_one setup acts (λ x. Unit {0}) r n tt
    (one_after setup acts r m n (once.none is_none) t)
