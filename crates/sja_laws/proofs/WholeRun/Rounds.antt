-- Of two rounds of bits from one run on, each ran as many bits as the other.
use Rattle.std.proofs.Common.{◌≡◌, ◌≢◌, ◌+◌, ◌<◌, ◌≤◌, ℕ, true, false, List, [], ◌∷◌, ◌++◌, length, refl, sym, ap}
use Rattle.std.proofs.Common.{◌∙◌, subst, arith, inl, inr}
use Rattle.std.proofs.lemmas.Bool.{cases_eq, cases_lt}
use Rattle.std.proofs.lemmas.List.{length-append}
use Rattle.sja_journal.specs.declared.entry.Entry.{Entry}
use Rattle.sja_journal.specs.declared.entry.Entry.TheVariants.{Bit}
use Rattle.sja_journal.specs.BitEntries.{HasOneBit, abort_as, judged_as, off_as}
use Rattle.sja_regs.specs.Registers.{at_power_on}
use Rattle.sja_regs.specs.declared.bus_turn.BusTurn.{BusTurn}
use Rattle.sja_regs.specs.declared.orders.Orders.{Orders}
use Rattle.sja_steps.specs.Striking.{Strikes}
use Rattle.sja_steps.specs.declared.strike.Strike.{Strike}
use Rattle.sja_bus_rules.specs.Lawful.{IsBusRun}
use Rattle.sja_bus_rules.specs.Reasons.{room_for}
use Rattle.sja_bus_rules.specs.Telling.{SaysAlone}
use Rattle.sja_bus_rules.specs.Wire.{journal_at}
use Rattle.sja_bus.specs.Boards.{HasOrders}
use Rattle.sja_bus.specs.UntilTold.{HasBitsMore, IsLastTurn, NoMore, RunsNone}
use Rattle.sja_bus.specs.UntilTold.HasBitsMore.{none, one_more as one_bit_more}
use Rattle.sja_bus.specs.UntilTold.NoMore.{all_run, spent, rests, struck, full}
use Rattle.sja_bus.specs.UntilTold.RunsNone.{no_more as none_more, untold, aborts}
use Rattle.sja_driver.specs.TypedActs.{TypedAct}
use Rattle.sja_serial.specs.Bits.{TakesBit, TakesBits}
use Rattle.sja_serial.specs.Bits.TakesBits.{no_bit, one_more}
use Rattle.sja_serial.specs.Serial.{Setup, SerialValue, StandsAt}
use Rattle.sja_serial.specs.UntilTold.{EndsUntilTold, NoneTold}
use Rattle.sja_serial.specs.UntilTold.EndsUntilTold.{no_more, told, alone}
use Rattle.sja_serial.proofs.ManyBits.Unstopped.{room}
use Rattle.sja_serial.proofs.WholeRun.GoingOn.{bits_run, stands_bits}
use Rattle.sja_laws.specs.Rounds.{IsRound}
use Rattle.sja_laws.proofs.AllNodes.OneRun.{AreAlike, alike_after}
use Rattle.sja_laws.proofs.Journals.LastBits.{bit_whole, last_bit}
use Rattle.sja_laws.proofs.OneNode.OneTurn.{turns}

-- ---- journals

-- where the last bit of a journal brought nothing, its turn isn't told
tells_last : {j l : List Entry} → HasBitsMore j l → length j < length l → (turn : BusTurn) → IsLastTurn l turn → ⊥
tells_last none longer turn last = omega (arith, longer)
tells_last (one_bit_more k driven seen h tells) longer turn last =
    let whole = k ++ Bit driven seen ∷ [] in
    let one = last_bit last.before k whole whole last.driven driven last.seen seen last.bit tells.bit refl in
    let same : turn ≡ tells.turn = turns false false last.before k whole whole last.driven driven last.seen seen
    last.bit tells.bit turn tells.turn refl one.before one.driven one.seen refl one.verdict_is last.is tells.is in
    last.more (subst (λ (j : List Entry). SaysAlone j turn) (sym one.before)
    (subst (λ (t : BusTurn). SaysAlone k t) (sym same) tells.alone))

longer_more : {j l : List Entry} → HasBitsMore j l → length j ≤ length l
longer_more none = omega arith
longer_more (one_bit_more k driven seen h tells) =
    let more = longer_more h in let one = length-append k (Bit driven seen ∷ []) in omega (arith, more, one)

longer_one : (j k : List Entry) → HasOneBit j k → length j < length k
longer_one j k h =
    let opened = j ++ abort_as h.changed in let brought = judged_as h.bit.verdict ++ off_as h.bit.off in
    let whole = ap (λ (l : List Entry). length l) (bit_whole opened k h.driven h.seen h.bit) in
    let one = length-append opened (Bit h.driven h.seen ∷ brought) in
    let front = length-append j (abort_as h.changed) in omega (arith, whole, one, front)

-- ---- bits of a run

module _ (setup : Setup) (acts : List (List TypedAct)) where
  -- after so many bits there was one more
  record IsPast (Before : SerialValue → Type 0) (was : SerialValue) (n : ℕ) : Type 0 where
    pub mid : SerialValue
    pub next : SerialValue
    pub front : TakesBits setup acts Before was n mid
    pub holds : Before mid
    pub bit : TakesBit setup acts mid next

  past : (Before : SerialValue → Type 0) (was now : SerialValue) (n m : ℕ) → n < m →
      TakesBits setup acts Before was m now → IsPast Before was n
  past Before was now n _ less (no_bit _) = absurd (omega (arith, less))
  past Before was now n _ less (one_more _ mid _ m bits holds bit) = elim (cases_eq n m) [
    | inl same ↦ record {
      mid = mid;
      next = now;
      front = subst (λ (k : ℕ). TakesBits setup acts Before was k mid) (sym same) bits;
      holds = holds;
      bit = bit;
    }
    | inr other ↦ past Before was mid n m (omega (arith, less, other)) bits
  ]

  alike_bits : (Before Also : SerialValue → Type 0) (was a b : SerialValue) (n m : ℕ) → n ≡ m →
      TakesBits setup acts Before was n a → TakesBits setup acts Also was m b → AreAlike a b
  alike_bits Before Also was a b _ _ same (no_bit _) (no_bit _) = record { journals = refl; ports = refl; bits = refl }
  alike_bits Before Also was a b _ _ same (no_bit _) (one_more _ mid _ m bits holds bit) = absurd (omega (arith, same))
  alike_bits Before Also was a b _ _ same (one_more _ mid _ n bits holds bit) (no_bit _) = absurd (omega (arith, same))
  alike_bits Before Also was a b _ _ same (one_more _ x _ n front early one) (one_more _ y _ m begun soon two) =
      alike_after (alike_bits Before Also was x y n m (omega (arith, same)) front begun) one two

  -- what holds of every bus holds after a bit
  lawful_at : (Before : SerialValue → Type 0) (was now : SerialValue) (n : ℕ) → n ≢ 0 →
      TakesBits setup acts Before was n now → IsBusRun now.bus.script now.bus.run now.bus.journals
  lawful_at Before was now _ some (no_bit _) = absurd (some refl)
  lawful_at Before was now _ some (one_more _ mid _ n bits holds bit) =
      subst (λ (l : List Strike). IsBusRun l now.bus.run now.bus.journals) (sym bit.stands.script)
      (subst (λ (k : ℕ). IsBusRun setup.strikes k now.bus.journals) bit.stands.bits bit.lawful)

  -- and each journal is longer
  longer : (was now : SerialValue) (n node : ℕ) → n ≢ 0 → StandsAt setup was acts → node < setup.nodes →
      TakesBits setup acts (NoneTold was) was n now →
      length (journal_at was.bus.journals node) < length (journal_at now.bus.journals node)
  longer was now _ node some stands few (no_bit _) = absurd (some refl)
  longer was now _ node some stands few (one_more _ mid _ n bits holds bit) =
      let count = stands.count.journals in
      let before = longer_more (holds.journals node (omega (arith, few, count))) in
      let last = longer_one (journal_at mid.bus.journals node) (journal_at now.bus.journals node)
      (bit.nodes node few) in
      omega (arith, before, last)

-- ---- two rounds

module _ (setup : Setup) (acts : List (List TypedAct)) (was now other : SerialValue) (count n m : ℕ)
    (stands : StandsAt setup was acts) (h : IsRound setup acts was count n now)
    (g : IsRound setup acts was count m other) (less : n < m) where
  abbrev Before : SerialValue → Type 0
  Before = NoneTold was

  after : StandsAt setup now acts
  after = stands_bits setup acts Before was now n h.bits stands

  bits_now : now.bits ≡ was.bits + n
  bits_now = bits_run setup acts Before was now n h.bits

  enough : was.bits + m ≤ setup.bits
  enough =
      let last = stands_bits setup acts Before was other m g.bits stands in
      let all = last.all_bits in let bits = last.bits in let run = bits_run setup acts Before was other m g.bits in
      omega (arith, all, bits, run)

  one_at_least : n ≢ 0
  one_at_least zero =
      let all = enough in let most = g.most in
      let some = h.some (omega (arith, most, less)) (omega (arith, all, less)) in omega (arith, some, zero)

  two : 2 ≤ m
  two = let some = one_at_least in omega (arith, some, less)

  -- no journal is full after those bits
  roomy : (node : ℕ) → node < length now.bus.journals →
      length (journal_at now.bus.journals node) + 4 ≤ (room_for (now.bus.run + now.bus.left) now.bus.steps node).all
  roomy node few =
      let bits = bits_now in let all = enough in
      (room setup now acts after (omega (arith, bits, all, less))
      (lawful_at setup acts Before was now n one_at_least h.bits) node few).all

  struck_not : (node : ℕ) → node < 8 → Strikes now.bus.script now.bus.run node → ⊥
  struck_not node low strikes =
      let run : now.bus.run ≡ was.bus.run + n = let bits = bits_now in let x = after.bits in let y = stands.bits in
      omega (arith, bits, x, y) in
      g.unstruck two n node less low (subst (λ (l : List Strike). Strikes l (was.bus.run + n) node)
      (after.script ∙ sym stands.script) (subst (λ (k : ℕ). Strikes now.bus.script k node) run strikes))

  told_not : (node : ℕ) (turn : BusTurn) → node < length now.bus.journals →
      IsLastTurn (journal_at now.bus.journals node) turn → ⊥
  told_not node turn few last =
      let x = past setup acts Before was other n m less g.bits in
      let alike = alike_bits setup acts Before Before was now x.mid n n refl h.bits x.front in
      let there = after.count.journals in let here = stands.count.journals in
      let low : node < setup.nodes = omega (arith, few, there) in
      tells_last (x.holds.journals node (omega (arith, low, here)))
      (longer setup acts was x.mid n node one_at_least stands low x.front) turn
      (subst (λ (l : List (List Entry)). IsLastTurn (journal_at l node) turn) alike.journals last)

  -- nothing stood in the way of the first bits
  none_before : RunsNone (HasOrders was.ports) false count was.bus → ⊥
  none_before (none_more (all_run is)) = let most = g.most in omega (arith, is, most, less)
  none_before (none_more (spent zero)) =
      let all = stands.all_bits in let bits = stands.bits in let e = enough in omega (arith, zero, all, bits, e, less)
  none_before (none_more (rests asked all)) = cc
  none_before (none_more (struck node low strikes)) =
      let run : was.bus.run ≡ was.bus.run + 0 = omega arith in let t = two in
      g.unstruck two 0 node (omega (arith, t)) low (subst (λ (k : ℕ). Strikes was.bus.script k node) run strikes)
  none_before (none_more (full node few is)) =
      let here = stands.count.journals in let there = after.count.journals in
      let low : node < setup.nodes = omega (arith, few, here) in
      let space = roomy node (omega (arith, low, there)) in
      let more = longer setup acts was now n node one_at_least stands low h.bits in
      let bits : now.bus.run + now.bus.left ≡ was.bus.run + was.bus.left = after.all_bits ∙ sym stands.all_bits in
      let steps : now.bus.steps ≡ was.bus.steps = after.steps ∙ sym stands.steps in
      let same : (room_for (now.bus.run + now.bus.left) now.bus.steps node).all
      ≡ (room_for (was.bus.run + was.bus.left) was.bus.steps node).all = λ i. (room_for (bits i) (steps i) node).all in
      omega (arith, space, more, same, is)
  none_before (untold node few is) = let wrong : true ≡ false = sym is ∙ (g.calm two).told node few in cc
  none_before (aborts node o few are wants) =
      let calm = (g.calm two).orders node few in let port = at_power_on 1 in
      let same : o ≡ calm.0 = are port ∙ sym (calm.1 port) in
      let wrong : true ≡ false = sym wants ∙ ap (λ (x : Orders). x.abort) same ∙ calm.2 in cc

  ends_not : EndsUntilTold count was n now → ⊥
  ends_not (no_more (all_run is)) = let most = g.most in omega (arith, is, most, less)
  ends_not (no_more (spent zero)) =
      let all = after.all_bits in let bits = after.bits in let run = bits_now in let e = enough in
      omega (arith, zero, all, bits, run, e, less)
  ends_not (no_more (rests asked all)) = cc
  ends_not (no_more (struck node low strikes)) = struck_not node low strikes
  ends_not (no_more (full node few is)) = let space = roomy node few in omega (arith, space, is)
  ends_not (told node turn few was_told last) = told_not node turn few last
  ends_not (alone one why) = none_before why

  -- the first one isn't shorter
  not_shorter : ⊥
  not_shorter = ends_not (h.longest one_at_least)

pub round_once : (setup : Setup) (acts : List (List TypedAct)) (was now other : SerialValue) (count n m : ℕ) →
    StandsAt setup was acts → IsRound setup acts was count n now → IsRound setup acts was count m other → n ≡ m
round_once setup acts was now other count n m stands h g = elim (cases_lt n m) [
  | inl less ↦ absurd (not_shorter setup acts was now other count n m stands h g less)
  | inr far ↦ elim (cases_lt m n) [
    | inl less ↦ absurd (not_shorter setup acts was other now count m n stands g h less)
    | inr near ↦ omega (arith, far, near)
  ]
]
