-- Two runs of all nodes that have come to the same point, and bits more of both.
use Rattle.std.proofs.Common.{◌≡◌, ◌<◌, ◌≤◌, ◌+◌, ℕ, zero, suc, List, ◌∷◌, ◌++◌, length, sym, ap, ◌∙◌, subst, arith}
use Rattle.std.proofs.Common.{append_assoc}
use Rattle.std.specs.Prelude.{slice_index_or}
use Rattle.can_levels.specs.declared.level.Level.TheVariants.{Recessive}
use Rattle.can_node_rules.specs.Bits.{Bit as Levels, recessive_bit}
use Rattle.lemmas.proofs.Gathered.{gathered_append}
use Rattle.sja_journal.specs.declared.entry.Entry.{Entry}
use Rattle.sja_journal.specs.declared.entry.Entry.TheVariants.{Bit}
use Rattle.sja_journal.specs.BitEntries.{abort_as, judged_as, off_as}
use Rattle.sja_journal.specs.Carried.{bit_in, bits_of}
use Rattle.sja_journal.specs.Places.{JournalPlace, place_of}
use Rattle.sja_journal.proofs.JournalEntries.Entering.{bits_counted}
use Rattle.sja_regs.specs.declared.registers.Registers.{Registers}
use Rattle.sja_bus_rules.specs.Wire.{IsWired, bit_at, journal_at}
use Rattle.sja_plan.specs.Plan.{PlanValue, steps_at}
use Rattle.sja_driver.specs.declared.unmodelled_registers.UnmodelledRegisters.{UnmodelledRegisters}
use Rattle.sja_driver.specs.StepRuns.{StepRun, step_runs_at}
use Rattle.sja_driver.proofs.OneBit.BitAsked.{place_abort}
use Rattle.sja_laws.proofs.AllNodes.OneWire.{levels_once}
use Rattle.sja_laws.proofs.Journals.LastBits.{bit_whole}
use Rattle.sja_laws.proofs.OneNode.OneBit.{driven_alike}
use Rattle.sja_laws.proofs.OneNode.Coming.{NextBit, at_end, next_bit}
use Rattle.sja_laws.proofs.OneNode.Onward.{goes_on}
use Rattle.sja_laws.proofs.OneNode.Together.{IsOfRun, Together, bit_both}

-- ---- the bit of a journal that comes next

pub bit_there : (version : ℕ) (whole : List Entry) (all : List StepRun) (j : List Entry) (step_runs : List StepRun)
    (kept : UnmodelledRegisters) (p : Registers) (next : NextBit version whole all j step_runs kept p) (bits : ℕ) →
    (place_of j).bits ≡ bits → bit_at bits whole ≡ record { driven = next.bit.driven; seen = next.bit.seen }
bit_there version whole all j step_runs kept p next bits is =
    let b = next.bit in
    let opened = j ++ abort_as b.changed in
    let on = goes_on version whole all next.entries step_runs kept next.port next.onward in
    let brought = judged_as b.bit.verdict ++ off_as b.bit.off in
    let levels : Levels = record { driven = b.driven; seen = b.seen } in
    let split : whole ≡ opened ++ Bit b.driven b.seen ∷ (brought ++ on.rest) =
    on.is ∙ ap (λ l. l ++ on.rest) (bit_whole opened next.entries b.driven b.seen b.bit)
    ∙ append_assoc opened (Bit b.driven b.seen ∷ brought) on.rest in
    let parts : bits_of whole ≡ bits_of opened ++ levels ∷ bits_of (brought ++ on.rest) =
    ap bits_of split ∙ gathered_append bit_in opened (Bit b.driven b.seen ∷ (brought ++ on.rest)) in
    let long : bits ≡ length (bits_of opened) =
    sym is ∙ sym (ap (λ (s : JournalPlace). s.bits) (place_abort j b.changed)) ∙ bits_counted opened in
    ap (λ n. slice_index_or (bits_of whole) n (recessive_bit Recessive)) long
    ∙ ap (λ l. slice_index_or l (length (bits_of opened)) (recessive_bit Recessive)) parts
    ∙ at_end (bits_of opened) (bits_of (brought ++ on.rest)) levels (recessive_bit Recessive)

-- ---- all nodes

-- two runs of a plan: of each its journals, its steps and its bits, on one wire, and what holds of each node
pub record TwoRuns (plan : PlanValue) : Type 0 where
  pub first : List (List Entry)
  pub second : List (List Entry)
  pub all : List (List StepRun)
  pub others : List (List StepRun)
  pub most : ℕ
  pub limit : ℕ
  pub wired : IsWired plan.strikes most first
  pub again : IsWired plan.strikes limit second
  pub count : length first ≡ length plan.nodes
  pub number : length second ≡ length plan.nodes
  pub runs : (k : ℕ) → k < length plan.nodes →
      IsOfRun plan.version (steps_at plan k) (journal_at first k) (step_runs_at all k)
  pub too : (k : ℕ) → k < length plan.nodes →
      IsOfRun plan.version (steps_at plan k) (journal_at second k) (step_runs_at others k)

module _ (plan : PlanValue) (r : TwoRuns plan) where
  abbrev pub AllTogether : ℕ → (ℕ → ℕ) → Type 0
  AllTogether bits done = (k : ℕ) → k < length plan.nodes → Together plan.version (journal_at r.first k)
      (step_runs_at r.all k) (journal_at r.second k) (step_runs_at r.others k) bits (done k)

  -- the steps that aren't done yet come after so many bits, or more
  abbrev pub Later : List (List StepRun) → ℕ → (ℕ → ℕ) → Type 0
  Later x n done = (k i : ℕ) (d : StepRun) → k < length plan.nodes → done k ≤ i → i < length (step_runs_at x k) →
      n ≤ (slice_index_or (step_runs_at x k) i d).bits

  module _ (bits : ℕ) (done : ℕ → ℕ) (t : AllTogether bits done) (few : bits < r.most) (less : bits < r.limit)
      (late : Later r.all (bits + 1) done) (later : Later r.others (bits + 1) done) where
    next_one : (k : ℕ) (here : k < length plan.nodes) → NextBit plan.version (journal_at r.first k)
        (step_runs_at r.all k) (t k here).entries (t k here).steps (t k here).kept (t k here).port
    next_one k here =
        let x = t k here in
        let n = x.bits_are in
        let c = x.count_is in
        let m = bits_counted (journal_at r.first k) in
        let w = r.wired.count k (omega (arith, r.count, here)) in
        next_bit plan.version (journal_at r.first k) (step_runs_at r.all k) x.entries x.steps x.kept x.port x.one
        (omega (arith, n, m, w, few))
        (λ some d. (let f = late k (length x.steps) d here (omega (arith, c)) some in omega (arith, f, n)))

    next_two : (k : ℕ) (here : k < length plan.nodes) → NextBit plan.version (journal_at r.second k)
        (step_runs_at r.others k) (t k here).entries (t k here).steps (t k here).kept (t k here).port
    next_two k here =
        let x = t k here in
        let n = x.bits_are in
        let c = x.count_is in
        let m = bits_counted (journal_at r.second k) in
        let w = r.again.count k (omega (arith, r.number, here)) in
        next_bit plan.version (journal_at r.second k) (step_runs_at r.others k) x.entries x.steps x.kept x.port x.two
        (omega (arith, n, m, w, less))
        (λ some d. (let f = later k (length x.steps) d here (omega (arith, c)) some in omega (arith, f, n)))

    at_one : (k : ℕ) (here : k < length plan.nodes) → bit_at bits (journal_at r.first k)
        ≡ record { driven = (next_one k here).bit.driven; seen = (next_one k here).bit.seen }
    at_one k here =
        let x = t k here in
        bit_there plan.version (journal_at r.first k) (step_runs_at r.all k) x.entries x.steps x.kept x.port
        (next_one k here) bits x.bits_are

    at_two : (k : ℕ) (here : k < length plan.nodes) → bit_at bits (journal_at r.second k)
        ≡ record { driven = (next_two k here).bit.driven; seen = (next_two k here).bit.seen }
    at_two k here =
        let x = t k here in
        bit_there plan.version (journal_at r.second k) (step_runs_at r.others k) x.entries x.steps x.kept x.port
        (next_two k here) bits x.bits_are

    driven : (k : ℕ) (here : k < length plan.nodes) →
        (bit_at bits (journal_at r.first k)).driven ≡ (bit_at bits (journal_at r.second k)).driven
    driven k here =
        let x = t k here in
        let a = next_one k here in
        let b = next_two k here in
        ap (λ (l : Levels). l.driven) (at_one k here)
        ∙ driven_alike x.entries a.entries b.entries x.port a.port b.port a.bit b.bit (journal_at r.first k)
        (journal_at r.second k) (r.runs k here).lawful (r.too k here).lawful
        (goes_on plan.version (journal_at r.first k) (step_runs_at r.all k) a.entries x.steps x.kept a.port a.onward)
        (goes_on plan.version (journal_at r.second k) (step_runs_at r.others k) b.entries x.steps x.kept b.port
        b.onward)
        ∙ sym (ap (λ (l : Levels). l.driven) (at_two k here))

    seen : (k : ℕ) (here : k < length plan.nodes) → (next_one k here).bit.seen ≡ (next_two k here).bit.seen
    seen k here =
        sym (ap (λ (l : Levels). l.seen) (at_one k here))
        ∙ levels_once plan.strikes r.most r.limit bits k r.first r.second r.wired r.again
        (omega (arith, r.count, r.number)) few less (omega (arith, r.count, here)) (omega (arith, r.number, here))
        (λ n there. driven n (omega (arith, r.count, there)))
        ∙ ap (λ (l : Levels). l.seen) (at_two k here)

    pub one_bit : AllTogether (bits + 1) done
    one_bit k here =
        bit_both plan.version (steps_at plan k) (journal_at r.first k) (step_runs_at r.all k) (journal_at r.second k)
        (step_runs_at r.others k) (r.runs k here) (r.too k here) bits (done k) (t k here) (next_one k here)
        (next_two k here) (seen k here)

  later_less : (x : List (List StepRun)) (n m : ℕ) (done : ℕ → ℕ) → n ≤ m → Later x m done → Later x n done
  later_less x n m done few h k i d here from less =
      let f = h k i d here from less in omega (arith, f, few)

  pub many_bits : (n bits : ℕ) (done : ℕ → ℕ) → AllTogether bits done → bits + n ≤ r.most → bits + n ≤ r.limit →
      Later r.all (bits + n) done → Later r.others (bits + n) done → AllTogether (bits + n) done
  many_bits zero bits done t few less late later =
      let e : bits ≡ bits + 0 = omega arith in subst (λ b. AllTogether b done) e t
  many_bits (suc n) bits done t few less late later =
      let h = many_bits n bits done t (omega (arith, few)) (omega (arith, less))
      (later_less r.all (bits + n) (bits + suc n) done (omega arith) late)
      (later_less r.others (bits + n) (bits + suc n) done (omega arith) later) in
      let e : bits + n + 1 ≡ bits + suc n = omega arith in
      subst (λ b. AllTogether b done) e
      (one_bit (bits + n) done h (omega (arith, few)) (omega (arith, less))
      (later_less r.all (bits + n + 1) (bits + suc n) done (omega arith) late)
      (later_less r.others (bits + n + 1) (bits + suc n) done (omega arith) later))
