-- No bit of a run breaks off: nothing waits to be taken, no journal is full, and no link gives back what is put there.
use Rattle.std.proofs.Common.{◌≡◌, ℕ, suc, ◌+◌, ◌-◌, ◌<◌, ◌≤◌, Bool, true, false, List, [], ◌∷◌, ◌++◌, length, sym}
use Rattle.std.proofs.Common.{ap, ◌∙◌, subst, append_assoc, inl, inr, arith}
use Rattle.std.specs.Prelude.{◌⊎◌, None, slice_index_or}
use Rattle.std.proofs.lemmas.Bool.{cases_lt}
use Rattle.std.proofs.lemmas.List.{length-append, length-replicate}
use Rattle.can_levels.specs.declared.level.Level.TheVariants.{Recessive}
use Rattle.sja_journal.specs.NodeWords.{received}
use Rattle.sja_journal.specs.declared.down.Down.{Down}
use Rattle.sja_journal.specs.declared.up.Up.{Up}
use Rattle.sja_journal.specs.declared.entry.Entry.{Entry}
use Rattle.sja_journal.specs.declared.entry.Entry.TheVariants.{Bit, Abort}
use Rattle.sja_journal.specs.Accounts.{Account, account}
use Rattle.sja_link.specs.Deques.{Deques, IsAside, Lies, queues_on, up_on}
use Rattle.sja_journal.specs.OutOfOrder.{read_in}
use Rattle.sja_journal.specs.Lists.{Lists}
use Rattle.sja_link.specs.Looking.{one_if}
use Rattle.sja_journal.specs.Parts.{entry_at, part}
use Rattle.sja_journal.specs.Carried.{taken_of}
use Rattle.sja_journal.specs.Places.{place_of}
use Rattle.sja_journal.proofs.JournalEntries.Entering.{bits_counted}
use Rattle.sja_regs.specs.declared.orders.Orders.{Orders}
use Rattle.sja_regs.specs.declared.registers.Registers.{Registers}
use Rattle.sja_regs.specs.Registers.{at_power_on}
use Rattle.sja_journal.specs.declared.bus_fault.BusFault.{BusFault}
use Rattle.sja_journal.specs.declared.bus_fault.BusFault.TheVariants.{BitsSpent, BadCredit, Stuck, BadOrder}
use Rattle.sja_journal.specs.declared.bus_fault.BusFault.TheVariants.{JournalFull}
use Rattle.sja_bus_rules.specs.Buses.{BusValue}
use Rattle.sja_bus_rules.specs.Lawful.{IsBusRun}
use Rattle.sja_journal.specs.Links.{Kept, stops_of}
use Rattle.sja_journal.specs.BitEntries.{MayHaveItems, abort_as}
use Rattle.sja_journal.specs.Written.{room_in, IsFullFor}
use Rattle.sja_journal.proofs.JournalEntries.Rooms.{HasFree, free_aborted, free_not_full}
use Rattle.sja_bus.proofs.ItemsTaken.OutOfRoom.{short_never}
use Rattle.sja_bus_rules.specs.Reasons.{GivesBack, IsTakenAndRefused, IsNotAborted, IsBrokenOff, IsBrokenFor, StopsBit}
use Rattle.sja_bus_rules.specs.Reasons.{room_for}
use Rattle.sja_bus_rules.specs.Reasons.StopsBit.{spent, not_taken, not_aborted, broken_off}
use Rattle.sja_bus.specs.Stretches.{recessive_bits, IsFullInStretch}
use Rattle.sja_bus_rules.specs.Wire.{journal_at}
use Rattle.sja_driver.specs.declared.logged_driver.LoggedDriver.{LoggedDriver}
use Rattle.sja_driver.specs.TypedActs.{TypedAct, given_in, acts_of, acts_at, is_active}
use Rattle.sja_driver.specs.AnyDrivers.{held_of}
use Rattle.sja_driver.specs.LoggedDrivers.{driver_of, log_of}
use Rattle.sja_driver.specs.Logs.{left_in, leaves, released_of, releases_in}
use Rattle.sja_driver.proofs.Trace.Stepping.{given_taken}
use Rattle.sja_promises.specs.Nodes.{IsNode}
use Rattle.sja_serial.specs.Serial.{Setup, SerialValue, StandsAt, IsRunOf}
use Rattle.sja_serial.specs.Inside.SerialProgress.{run_now}
use Rattle.sja_driver.proofs.Account.Dry.{none_beyond, none_taken, none_taken_own}
use Rattle.sja_driver.proofs.Step.FewLeftDown.{few_left_down}
use Rattle.sja_driver.proofs.Account.Own.{AreOwn, own_stopped}
use Rattle.sja_serial.proofs.ManyBits.Borrowed.{stands_there, left_there, lawful_there}
use Rattle.sja_driver.proofs.OneNode.Room.{has_room}
use Rattle.lemmas.proofs.Lists.{none_back, some_of}
use Rattle.sja_journal.proofs.JournalEntries.Entering.{of_part_later}
use Rattle.sja_journal.proofs.JournalEntries.Openings.{Opens, part_opens}
use Rattle.sja_link.proofs.QueuedLinks.Ends.{ends}
use Rattle.sja_journal.proofs.Growing.Taking.{adds, some_none}
use Rattle.sja_link.proofs.Growing.Ordered.{no_off_put}

abort_own : (changed : Bool) → AreOwn (abort_as changed)
abort_own true = (tt, tt)
abort_own false = tt

one_most : (b : Bool) → one_if b ≤ 1
one_most true = omega arith
one_most false = omega arith

-- what was taken in an activation that has begun begins with its start
start_first : {p : List Entry} → Opens p → taken_of p ≡ [] → ⊥
start_first o none = let e = ap taken_of (sym o.opens) ∙ none in cc

module _ (setup : Setup) (r : SerialValue) (acts : List (List TypedAct)) (h : StandsAt setup r acts)
    (left : r.bits < setup.bits)
    (was : IsBusRun r.bus.script r.bus.run r.bus.journals) where
  module _ (m : ℕ) (few : m < length r.bus.journals) where
    less : m < setup.nodes
    less = let c = h.count.journals in omega (arith, c, few)

    driver : LoggedDriver
    driver = some_of r.drivers m (let c = h.count.drivers in let l = less in omega (arith, c, l))

    links : Deques
    links = some_of r.links m (let c = h.ends.count in let l = less in omega (arith, c, l))

    node : IsNode setup.version (slice_index_or setup.steps m 0) (journal_at r.bus.journals m) (acts_at acts m)
        (slice_index_or r.drivers m driver) (slice_index_or r.ports m (at_power_on setup.version))
        (slice_index_or r.links m links)
    node = h.nodes m driver (at_power_on setup.version) links less

    abbrev acc : ℕ → Account
    acc a = record { got = node.linked.holds.got a; given = given_in (acts_of (acts_at acts m) (suc a)) }

    kept_before : Kept Lies (journal_at r.bus.journals m) (slice_index_or r.links m links) acc
    kept_before = node.linked.holds.kept

    abbrev given : ℕ → List Up
    given a = given_in (acts_of (acts_at acts m) (suc a))

    before : (a : ℕ) → given a ≡ taken_of (part (journal_at r.bus.journals m) (suc a))
    before a = given_taken (acts_at acts m) (journal_at r.bus.journals m) (suc a) (node.in_time.when (suc a))

    entries : HasFree 4 (room_in r.bus.run (slice_index_or setup.steps m 0)) (journal_at r.bus.journals m)
    entries =
        let j = journal_at r.bus.journals m in let ds = acts_at acts m in
        let within = node.traced.within in
        let bits : (place_of j).bits ≡ r.bus.run = bits_counted j ∙ was.wired.count m few in
        has_room j ds (slice_index_or r.ports m (at_power_on setup.version)) r.bus.run
        (slice_index_or setup.steps m 0) node.counted (was.lawful m few) node.traced.traces.answered.gives within
        (omega (arith, bits))

    -- there is room for an abort, the bit, a verdict and bus-off
    pub room : HasFree 4 (room_for (r.bus.run + r.bus.left) r.bus.steps m) (journal_at r.bus.journals m)
    room =
        let all = entries.all in let others = entries.others in
        let steps = ap (λ (l : List ℕ). slice_index_or l m 0) h.steps in record {
          all = omega (arith, all, steps);
          others = omega (arith, others, steps);
        }

    -- an item that was refused would wait
    nothing_shown : (t : List Entry) (items : MayHaveItems (journal_at r.bus.journals m) t) (item : Up) (up : List Up) →
        given (stops_of t) ≡ (taken_of (part t (suc (stops_of t))) ++ item ∷ []) ++ up → ⊥
    nothing_shown t items item up shown =
        some_none item up (none_back (adds (journal_at r.bus.journals m) items.items (suc (stops_of t))) (item ∷ up)
        (none_beyond (journal_at r.bus.journals m) t items given before (stops_of t) (item ∷ up)
        (shown ∙ append_assoc (taken_of (part t (suc (stops_of t)))) (item ∷ []) up)))

    -- the link that is read has queues: something was taken on it; and if it had none any more, something would have
    -- been given on a later one
    in_use : (opened j : List Entry) (end : Deques) → stops_of opened ≡ stops_of (journal_at r.bus.journals m) →
        (b : GivesBack ends opened j end) → Kept Lies opened end acc → IsAside b.last (read_in j) → ⊥
    in_use opened j end same b kept (inr beyond) =
        let opens = b.is_open in let o = part_opens j (read_in j) (omega arith) (omega (arith, opens)) in
        start_first o (ap (λ (l : Lists). l.taken) ((b.stood acc kept (stops_of j)).later beyond))
    in_use opened j end same b kept (inl gone) =
        let ended = node.linked.level.ended in let begun = node.linked.level.begun in
        let one = one_most (is_active (acts_at acts m)) in let stops = b.ended in
        let s = b.last in let are = (b.stood acc kept (stops_of j)).links in let few = are.few in
        let many = are.many in let some : 0 < length s.others = omega (arith, many, gone, few) in
        let n = s.first + length s.others - 2 in
        let given_there = (b.stood acc kept n).begun (omega (arith, gone)) (omega (arith, gone, some)) in
        let none = ap taken_of (of_part_later entry_at (journal_at r.bus.journals m) (suc n)
        (omega (arith, begun, ended, one, same, stops, gone, some))) in
        absurd (given_there (before n ∙ none))

    -- no link is full: no bus-off lies there, and fewer than 22 messages fit in 64 bytes
    not_stuck : (opened j : List Entry) (end : Deques) → stops_of opened ≡ stops_of (journal_at r.bus.journals m) →
        Kept Lies opened end acc → GivesBack ends opened j end → ⊥
    not_stuck opened j end same kept b = elim b.is_full [ inl aside ↦ none_aside aside | inr full ↦ too_few full ]
      where
        none_aside : IsAside b.last (read_in j) → ⊥
        none_aside = in_use opened j end same b kept

        has_queues : b.last.first ≤ read_in j
        has_queues = elim (cases_lt (read_in j) b.last.first) [
          | inl gone ↦ absurd (none_aside (inl gone))
          | inr most ↦ most
        ]

        too_few : length (queues_on b.last (read_in j)).down ≡ 22 → ⊥
        too_few full =
            let ds = acts_at acts m in let d = slice_index_or r.drivers m driver in let a = stops_of j in
            let q = queues_on b.last (suc a) in let got = node.linked.holds.got a in
            let lies : Lies b.last (suc a) (account j (suc a) (acc a)) = b.stood acc kept a in
            let few = few_left_down j (suc a) (received b.found) ds got q.down (up_on b.last (suc a))
            (released_of (releases_in (log_of d)) (suc a))
            (slice_index_or (leaves (left_in (log_of d)) (held_of (driver_of d))) a []) b.verdicts
            (no_off_put (part j (suc a)) b.on)
            (lies.down ∙ ap (λ (l : List Down). got ++ (l ++ q.down)) (lies.links.none_left (suc a) (inr has_queues)))
            (node.linked.holds.told a) lies.up node.traced.traces.answered.gives
            (sym (node.traced.traces.released (suc a))) in
            omega (arith, few, full)

  no_item : (now : BusValue) (after : List Deques) (f : BusFault) →
      IsTakenAndRefused ends (r.bus.run + r.bus.left) r.bus.steps r.bus.journals now.journals r.links after f → ⊥
  no_item now after f x =
      let t = journal_at now.journals x.node in
      let K : Deques → Type 0 = λ s. Kept Lies (journal_at r.bus.journals x.node) s (acc x.node x.few) in
      let kept = subst K (x.is_end (links x.node x.few)) (kept_before x.node x.few) in
      nothing_shown x.node x.few t x.refuses.items x.refuses.item (up_on x.end_after (read_in t))
      (x.refuses.shown (acc x.node x.few) kept).up

  no_abort : (orders_are : ℕ → Orders → Type 0) (now : BusValue) (after : List Deques) (f : BusFault) →
      IsNotAborted ends orders_are (r.bus.run + r.bus.left) r.bus.steps r.bus.journals now.journals r.links after
      f → ⊥
  no_abort orders_are now after f x =
      let j = journal_at r.bus.journals x.node in
      let t = journal_at now.journals x.node in let d = links x.node x.few in
      let same : t ≡ j = none_taken j t x.items (given x.node x.few) (before x.node x.few)
      (λ a. up_on (slice_index_or after x.node d) (suc a))
      (λ a. (x.kept d (acc x.node x.few) (kept_before x.node x.few) a).up) in
      let most = room_for (r.bus.run + r.bus.left) r.bus.steps x.node in
      free_not_full 3 most j Abort (room x.node x.few) (subst (λ (s : List Entry). IsFullFor most s Abort) same x.full)

  never_broken : (node : ℕ) (few : node < length r.bus.journals) (opened j : List Entry) (end : Deques)
      (f : BusFault) → HasFree 3 (room_for (r.bus.run + r.bus.left) r.bus.steps node) opened →
      stops_of opened ≡ stops_of (journal_at r.bus.journals node) → Kept Lies opened end (acc node few) →
      IsBrokenFor ends node (room_for (r.bus.run + r.bus.left) r.bus.steps node) opened j end f → ⊥
  never_broken node few opened j end (JournalFull k) free same kept b =
      short_never (room_for (r.bus.run + r.bus.left) r.bus.steps node) opened j b.1 free
  never_broken node few opened j end (Stuck k) free same kept b = not_stuck node few opened j end same kept b.1
  never_broken node few opened j end (BadCredit k bytes) free same kept b = b
  never_broken node few opened j end (BadOrder k) free same kept b = b
  never_broken node few opened j end BitsSpent free same kept b = b

  not_broken : (orders_are : ℕ → Orders → Type 0) (now : BusValue) (f : BusFault) →
      IsBrokenOff ends orders_are (r.bus.run + r.bus.left) r.bus.steps r.bus.journals now.journals r.links f → ⊥
  not_broken orders_are now f x =
      let j = journal_at r.bus.journals x.node in let d = links x.node x.few in
      let changed = x.opens.aborts.changed in
      let between = x.kept d (acc x.node x.few) (kept_before x.node x.few) in
      let same : x.opens.taken ≡ j = none_taken_own j x.opens.taken x.opens.items (given x.node x.few)
      (before x.node x.few) x.opened (abort_as changed) (abort_own changed) x.opens.aborts.whole
      (λ a. up_on (slice_index_or x.between x.node d) (suc a)) (λ a. (between a).up) in
      let whole : x.opened ≡ j ++ abort_as changed
      = x.opens.aborts.whole ∙ ap (λ (s : List Entry). s ++ abort_as changed) same in
      let most = room_for (r.bus.run + r.bus.left) r.bus.steps x.node in
      let K : Deques → Type 0 = λ s. Kept Lies x.opened s (acc x.node x.few) in
      never_broken x.node x.few x.opened (journal_at now.journals x.node) x.end f
      (subst (λ (s : List Entry). HasFree 3 most s) (sym whole) (free_aborted 3 most j changed (room x.node x.few)))
      (ap (λ (s : List Entry). stops_of s) whole ∙ own_stopped j (abort_as changed) (abort_own changed))
      (subst K (x.is_end d) between) x.broken

  pub never_stops : (orders_are : ℕ → Orders → Type 0) (now : BusValue) (after : List Deques) (f : BusFault) →
      StopsBit ends orders_are r.bus now r.links after f → ⊥
  never_stops orders_are now after f (spent is none) =
      let a = h.all_bits in let b = h.bits in omega (arith, none, a, b, left)
  never_stops orders_are now after f (not_taken x) = no_item now after f x
  never_stops orders_are now after f (not_aborted x) = no_abort orders_are now after f x
  never_stops orders_are now after f (broken_off x) = not_broken orders_are now f x

  -- ---- bits that are run at once

  -- and there is room for all bits that are left
  never_full : (now : BusValue) (after : List Deques) (f : BusFault) →
      IsFullInStretch ends r.bus.starts (r.bus.run + r.bus.left) r.bus.steps r.bus.left r.bus.journals now.journals
      r.links after f → ⊥
  never_full now after f x =
      let o = x.out in let m = o.node in
      let small : m < length r.bus.journals = let l = o.few in let c = x.count in omega (arith, l, c) in
      let j = journal_at r.bus.journals m in
      let t = journal_at x.taken m in let d = links m small in
      let same : t ≡ j = none_taken j t (x.items m small) (given m small) (before m small)
      (λ a. up_on (slice_index_or after m d) (suc a))
      (λ a. (x.kept m d (acc m small) small (kept_before m small) a).up) in
      let l = ap (λ (s : List Entry). length s) same in
      let grown = ap (λ (s : List Entry). length s) o.grown ∙ length-append t (recessive_bits o.entered) in
      let bits : length (recessive_bits o.entered) ≡ o.entered = length-replicate o.entered (Bit Recessive Recessive) in
      let has = (entries m small).all in let early = o.early in let full = o.full in
      let steps = ap (λ (l : List ℕ). slice_index_or l m 0) h.steps in omega (
        arith,
        l,
        grown,
        bits,
        has,
        early,
        full,
        steps,
      )

  pub never_refused : (now : BusValue) (after : List Deques) (f : BusFault) →
      IsTakenAndRefused ends (r.bus.run + r.bus.left) r.bus.steps r.bus.journals now.journals r.links after f
      ⊎ IsFullInStretch ends r.bus.starts (r.bus.run + r.bus.left) r.bus.steps r.bus.left r.bus.journals now.journals
      r.links after f → ⊥
  never_refused now after f (inl x) = no_item now after f x
  never_refused now after f (inr x) = never_full now after f x

-- the same of a run whose links a call has as a slice
module _ {bus : BusValue} {drivers : List LoggedDriver} {ports : List Registers}
    {slice links : List Deques} {bits : ℕ} {r : SerialValue} (same : slice ≡ links)
    (view : run_now bus drivers ports links bits ≡ r) (setup : Setup) (run : IsRunOf setup r)
    (left : r.bits < setup.bits) (was : IsBusRun r.bus.script r.bus.run r.bus.journals) where
  there : StandsAt setup (run_now bus drivers ports slice bits) run.0
  there = stands_there same view setup run.0 run.1

  pub never_stops_there : (orders_are : ℕ → Orders → Type 0) (now : BusValue) (after : List Deques) (f : BusFault) →
      (bus.fault ≡ None → StopsBit ends orders_are bus now slice after f) → ⊥
  never_stops_there orders_are now after f stops =
      never_stops setup (run_now bus drivers ports slice bits) run.0 there (left_there same view setup left)
      (lawful_there same view was) orders_are now after f (stops there.right)

  pub never_refused_there : (now : BusValue) (after : List Deques) (f : BusFault) →
      (bus.fault ≡ None →
      IsTakenAndRefused ends (bus.run + bus.left) bus.steps bus.journals now.journals slice after f
      ⊎ IsFullInStretch ends bus.starts (bus.run + bus.left) bus.steps bus.left bus.journals now.journals slice after f)
      → ⊥
  never_refused_there now after f refused =
      never_refused setup (run_now bus drivers ports slice bits) run.0 there (left_there same view setup left)
      (lawful_there same view was) now after f (refused there.right)
