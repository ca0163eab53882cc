-- A node after a bit.
use Rattle.std.proofs.Common.{◌≡◌, ℕ, suc, ◌+◌, ◌≤◌, Bool, true, false, List, [], ◌++◌, refl, sym, ap, ◌∙◌, subst}
use Rattle.std.proofs.Common.{append_assoc, arith}
use Rattle.can_levels.specs.declared.level.Level.{Level}
use Rattle.sja_journal.specs.declared.entry.Entry.{Entry}
use Rattle.sja_journal.specs.Accounts.{Account}
use Rattle.sja_link.specs.Deques.{Deques, Lies, up_on}
use Rattle.sja_journal.specs.Parts.{part}
use Rattle.sja_journal.specs.Carried.{taken_of}
use Rattle.lemmas.specs.Picking.{EachAfter}
use Rattle.sja_journal.specs.Places.{place_of}
use Rattle.sja_regs.specs.declared.orders.Orders.{Orders}
use Rattle.sja_regs.specs.declared.registers.Registers.{Registers}
use Rattle.sja_regs.specs.Turns.{after_turn}
use Rattle.sja_journal.specs.Aborting.{IsApplied}
use Rattle.sja_bus_rules.specs.Buses.{IsNodeBit}
use Rattle.sja_journal.specs.Links.{Kept, stops_of}
use Rattle.sja_journal.specs.BitEntries.{HasBit, abort_as, HasOneBit}
use Rattle.sja_bus_rules.specs.Telling.{IsTurn}
use Rattle.sja_driver.specs.declared.logged_driver.LoggedDriver.{LoggedDriver}
use Rattle.sja_driver.specs.TypedActs.{TypedAct, opened_by, given_in, acts_of}
use Rattle.sja_driver.specs.Aborting.{IsCommanded, AbortIsDue, sends_taken}
use Rattle.sja_driver.specs.InTime.{IsInTime}
use Rattle.sja_promises.specs.Registering.{IsPortBit}
use Rattle.sja_promises.specs.Registering.LeadTo.{bit}
use Rattle.sja_driver.specs.Timing.{taken_when}
use Rattle.sja_driver.specs.Windows.{put_by, off_by}
use Rattle.sja_driver.proofs.Trace.Stepping.{given_taken}
use Rattle.sja_driver.specs.Linking.{IsLevel}
use Rattle.sja_promises.specs.Nodes.{IsNode}
use Rattle.sja_driver.specs.Porting.{IsPorted}
use Rattle.sja_driver.specs.Shown.{ShowsRecord}
use Rattle.sja_promises.proofs.NodeLog.Adding.{added, added_own, bit_whole, added_bits, added_put, added_due, added_off}
use Rattle.sja_driver.proofs.OneBit.BitAsked.{HasCut, bit_asked}
use Rattle.sja_driver.proofs.OneBit.BitCounted.{bit_counted}
use Rattle.sja_promises.proofs.Trace.TbsAndAbort.{tbs_right}
use Rattle.sja_driver.proofs.OneBit.BitPort.{ported_bit}
use Rattle.sja_driver.proofs.Account.Dry.{none_taken_own}
use Rattle.sja_driver.proofs.Trace.Later.{SameBy, done_more, all_see, all_carry, settings_by_then}
use Rattle.sja_promises.proofs.OneNode.Gathered.{lies_after, linked_after}
use Rattle.sja_driver.proofs.OneNode.Shown.{as_told, shows_told}
use Rattle.sja_driver.proofs.Account.Own.{AreOwn, own_activation, own_stopped, own_sends, own_when}

-- the orders of a port, and what it is told
abbrev pub OrdersOf : Registers → Orders → Type 0
OrdersOf p orders = orders ≡ record { abort = p.abort; ended = p.ended }

abbrev pub BitOf : Registers → Registers → Bool → List Entry → List Entry → Level → Level → Type 0
BitOf p q untold j k driven seen = IsNodeBit (OrdersOf p) (λ turn. q ≡ after_turn p turn) (q ≡ p) untold j k driven seen

module _ {version : ℕ} {size : ℕ} {j k : List Entry} {acts : List TypedAct} {driver : LoggedDriver}
    {p q : Registers} {links : Deques} (after : Deques) {untold : Bool} {driven seen : Level}
    (h : IsNode version size j acts driver p links) (b : BitOf p q untold j k driven seen)
    (kept : (acc : ℕ → Account) → Kept Lies j links acc → Kept Lies k after acc) where
  abbrev changed : Bool
  changed = b.opens.aborts.changed

  abbrev es : List Entry
  es = added changed driven seen b.bit.verdict b.bit.off

  own : AreOwn es
  own = added_own changed driven seen b.bit.verdict b.bit.off

  before : (a : ℕ) → given_in (acts_of acts a) ≡ taken_of (part j a)
  before a = given_taken acts j a (h.in_time.when a)

  from_taken : k ≡ b.opens.taken ++ es
  from_taken =
      bit_whole b.opened k driven seen b.bit ∙ ap
      (λ (l : List Entry). l ++ added false driven seen b.bit.verdict b.bit.off) b.opens.aborts.whole
      ∙ append_assoc b.opens.taken (abort_as changed) (added false driven seen b.bit.verdict b.bit.off)

  none_taken : b.opens.taken ≡ j
  none_taken =
      none_taken_own j b.opens.taken b.opens.items (λ a. given_in (acts_of acts (suc a)))
      (λ a. before (suc a)) k es own from_taken (λ a. up_on after (suc a))
      (λ a. (lies_after k after h.linked.holds kept a).up)

  opened_is : b.opened ≡ j ++ abort_as changed
  opened_is = b.opens.aborts.whole ∙ ap (λ (l : List Entry). l ++ abort_as changed) none_taken

  pub whole : k ≡ j ++ es
  whole = from_taken ∙ ap (λ (l : List Entry). l ++ es) none_taken

  -- the journal has one bit more
  pub one_bit : HasOneBit j k
  one_bit = record {
    changed = changed;
    driven = driven;
    seen = seen;
    bit = subst
        (λ (l : List Entry). HasBit l driven seen k) opened_is b.bit;
  }

  -- an abort that changed the node was commanded
  commanded : changed ≡ true → IsCommanded acts j
  commanded is = over p.abort (sym (ap (λ (o : Orders). o.abort) b.opens.are_orders)) (λ e. h.ported.commanded e)
    where
      over : (stands : Bool) → stands ≡ b.opens.orders.abort → (stands ≡ true → IsCommanded acts j) →
          IsCommanded acts j
      over true e c = c refl
      over false e c = let x = sym is ∙ b.opens.unasked (sym e) in absurd cc

  activation : (place_of k).activation ≡ (place_of j).activation
  activation = ap (λ (l : List Entry). (place_of l).activation) whole ∙ own_activation j es own

  bits : (place_of k).bits ≡ (place_of j).bits + 1
  bits = ap (λ (l : List Entry). (place_of l).bits) whole ∙ added_bits j changed driven seen b.bit.verdict b.bit.off

  more : (place_of j).bits ≤ (place_of k).bits
  more = let n = bits in omega (arith, n)

  same : SameBy (place_of j).bits j k
  same n a few = ap (λ (l : List Entry). put_by n l a) whole
      ∙ added_put j changed driven seen b.bit.verdict b.bit.off n a few

  level : IsLevel k acts
  level =
      let s = ap (λ (l : List Entry). stops_of l) whole ∙ own_stopped j es own in let e = h.linked.level.ended in
      record {
        begun = activation ∙ h.linked.level.begun;
        ended = omega (arith, s, e);
        asked = ap (λ (l : List Entry). sends_taken l) whole ∙ own_sends j es own ∙ h.linked.level.asked;
      }

  ported : IsPorted version k acts q
  ported =
      ported_bit untold changed j b.opened k driven seen b.bit b.turn b.is_turn p q b.port version acts
      (settings_by_then version (place_of j).bits j k same acts h.done) level.begun more
      (ap (λ (l : List Entry). sends_taken l) whole ∙ own_sends j es own)
      (ap (λ (l : List Entry). off_by (place_of l).bits l (opened_by acts)) whole
      ∙ added_off j changed driven seen b.bit.verdict b.bit.off (opened_by acts) h.linked.level.begun) h.ported

  in_time : IsInTime version k acts
  in_time = record {
    when = λ a. h.in_time.when a ∙ sym (ap (λ (l : List Entry). taken_when l a) whole ∙ own_when j es a own);
    sees = all_see (place_of j).bits j k same [] acts h.done h.in_time.sees;
    carries = all_carry version (place_of j).bits j k same [] acts tt h.done h.in_time.carries;
    aborts = subst (λ (l : List Entry). EachAfter (AbortIsDue acts) [] l) (sym whole)
        (added_due j changed driven seen b.bit.verdict b.bit.off acts commanded h.in_time.aborts);
    patient = h.in_time.patient;
  }

  -- where nothing was untold its port has shown what the record says
  module _ (shown : untold ≡ false → ShowsRecord j p) where
    told : q ≡ after_turn p b.turn
    told = as_told untold j b.opened p q b.turn b.port shown

    -- the port shows it after the bit, whatever is untold
    pub shows : ShowsRecord k q
    shows = shows_told changed b.opened k driven seen b.bit b.turn b.is_turn p q told

    -- an abort that stands is applied as the bit begins
    abort_is : p.abort ≡ b.opens.orders.abort
    abort_is = sym (ap (λ (o : Orders). o.abort) b.opens.are_orders)

    -- the bit and its turn, after the journal as it was
    came : (x : HasBit (j ++ abort_as changed) driven seen k)
        × IsTurn changed (j ++ abort_as changed) driven seen k x b.turn
    came = subst (λ (l : List Entry). (x : HasBit l driven seen k) × IsTurn changed l driven seen k x b.turn) opened_is
        (b.bit, b.is_turn)

    pub port_bit : IsPortBit p q j k
    port_bit = record {
      changed = changed;
      applied = λ stands. subst (λ (l : List Entry). IsApplied l changed) none_taken
          (b.opens.applied (sym abort_is ∙ stands));
      unasked = λ none. b.opens.unasked (sym abort_is ∙ none);
      driven = driven;
      seen = seen;
      bit = came.0;
      turn = b.turn;
      is_turn = came.1;
      told = told;
    }

    -- its record had a cut
    pub after_one_bit : HasCut j → IsNode version size k acts driver q after
    after_one_bit lawful = record {
      traced = h.traced;
      linked = linked_after driver h.linked.holds kept (λ a. given_taken acts k a (in_time.when a)) level;
      ported = ported;
      asked = bit_asked untold j k driven seen p q b none_taken (λ t e. e) (λ e. e) lawful
          (tbs_right version j acts p h.registers h.traced.traces.answered.states)
          (h.ported.activation ∙ sym h.linked.level.begun) h.asked;
      counted = bit_counted untold j k driven seen acts p q b none_taken (λ o e. ap (λ (x : Orders). x.abort) e)
          (λ t e. e) (λ e. e) lawful h.counted;
      done = done_more (place_of j).bits (place_of k).bits acts more h.done;
      in_time = in_time;
      registers = bit j k acts p q h.registers port_bit;
    }
