-- How a bus breaks off, bus node after bus node.
use Rattle.std.proofs.Common.{◌≡◌, ℕ, zero, suc, true, ◌+◌, ◌<◌, ◌≤◌, Option, List, [], ◌∷◌, length, inl, inr, sym}
use Rattle.std.proofs.Common.{ap, ◌∙◌, subst, arith}
use Rattle.std.specs.Prelude.{◌⊎◌, slice_index_or, slice_set}
use Rattle.std.proofs.lemmas.Slice.Zip.{AllZip-long as each_length}
use Rattle.std.proofs.lemmas.List.{get_or-set_same as set_here, get_or_default as or_same}
use Rattle.sja_regs.specs.declared.orders.Orders.{Orders}
use Rattle.sja_steps.specs.declared.strike.Strike.{Strike}
use Rattle.sja_journal.specs.declared.entry.Entry.{Entry}
use Rattle.sja_journal.specs.declared.entry.Entry.TheVariants.{Abort}
use Rattle.lemmas.specs.Related.{EachRelated}
use Rattle.sja_journal.specs.Written.{Room, IsFullFor}
use Rattle.sja_link.specs.declared.bus_end.BusEnd.{Ghosts as Ends}
use Rattle.sja_link.specs.BusLedgers.{link_of}
use Rattle.sja_journal.specs.declared.bus_fault.BusFault.{BusFault}
use Rattle.sja_journal.specs.declared.bus_fault.BusFault.TheVariants.{JournalFull, Stuck}
use Rattle.sja_bus.specs.declared.bus_node.BusNode.{BusNode}
use Rattle.sja_bus_rules.specs.Wire.{journal_at}
use Rattle.lemmas.proofs.Related.{each_at}
use Rattle.sja_journal.specs.Links.{HaveLinks, Kept}
use Rattle.sja_journal.specs.Activations.{HasActivations}
use Rattle.sja_journal.specs.Opening.{BeginsWithin, begun_in}
use Rattle.sja_journal.specs.OutOfOrder.{read_in}
use Rattle.sja_journal.proofs.Growing.Activations.{has_activations}
use Rattle.sja_journal.specs.Aborting.{IsApplied}
use Rattle.sja_bus_rules.specs.Opens.{Opens}
use Rattle.sja_journal.specs.BitEntries.{MayHaveItems}
use Rattle.sja_bus_rules.specs.Reasons.{IsBrokenFor, IsTakenAndRefused, IsNotAborted, IsBrokenOff, StopsBit, room_for}
use Rattle.sja_bus_rules.specs.Reasons.StopsBit.{not_taken as not_taken_bit, not_aborted as not_aborted_bit}
use Rattle.sja_bus_rules.specs.Reasons.StopsBit.{broken_off as broken_off_bit}
use Rattle.sja_bus.specs.Inside.BusNodeBits.{BreaksInBit}
use Rattle.sja_bus.specs.Inside.Taking.{FullForAbort}
use Rattle.sja_bus.specs.Inside.Refusing.{HaveRoom, BusNodeRefuses, BusNodeFull, BusNodeBreaks, BusNodeStops}
use Rattle.sja_bus.specs.Inside.Rows.{AreBegun, AreReady, GoesAll, Done, journals_of, untold_of}
use Rattle.sja_bus_rules.specs.Buses.{BusValue}
use Rattle.sja_bus.proofs.ItemsTaken.Refusing.{links_at, not_taken}
use Rattle.sja_bus.proofs.AllNodes.Running.{journal_is, count_is}
use Rattle.sja_bus.proofs.ItemsTaken.Breaking.{broken_from}

-- two lists of related ends, at one place
each_pair : {E : Type 0} (same : E → E → Type 0) (links here : List E) (k : ℕ) (d : E) → EachRelated same links here →
    k < length here → same (slice_index_or links k d) (slice_index_or here k d)
each_pair same [] [] k d p few = absurd (omega (arith, few))
each_pair same [] (y ∷ here) k d p few = absurd p
each_pair same (x ∷ links) [] k d p few = absurd p
each_pair same (x ∷ links) (y ∷ here) zero d p few = p.0
each_pair same (x ∷ links) (y ∷ here) (suc k) d p few = each_pair same links here k d p.1 (omega (arith, few))

pub full_bus_node : {E : Type 0} (e : Ends E) → ((x y : E) → e.same x y → e.links y ≡ e.links x) →
    (orders_are : ℕ → Orders → Type 0) (R : ℕ → BusNode → BusNode → Type 0) (bus_nodes now : List BusNode)
    (links here : List E)
    (k : ℕ) (s new : BusNode) (d end : E) (f : BusFault) → k < length bus_nodes → k < length here →
    length now ≡ length bus_nodes → AreReady now → GoesAll e.same e.stands bus_nodes now links here →
    Done R k bus_nodes now →
    FullForAbort e (orders_are (link_of (slice_index_or now k s).ledger).node) (slice_index_or now k s)
    new (slice_index_or here k d) end f →
    BusNodeFull e orders_are bus_nodes (slice_set now k new) links (slice_set here k end) f
full_bus_node {E} e same_links orders_are R bus_nodes now links here k s new d end f few there len ready goes done r =
    let near : k < length now = omega (arith, few, len) in
    let own = (ready k s near).own in let given = slice_index_or links k d in
    let there_too : k < length links = omega (arith, there, each_length e.same links here goes.sames) in record {
      node = k;
      few = few;
      is = r.is ∙ ap (λ n. JournalFull n) own;
      end = given;
      is_end = λ b. or_same links k b d there_too;
      end_after = end;
      is_after = λ b. set_here here k end b there;
      full = λ t.
          let same_bus_node : slice_index_or now k s ≡ slice_index_or bus_nodes k t = or_same now k s t near
          ∙ (done k t few).1 (omega arith) in
          let this : slice_index_or now k t ≡ slice_index_or bus_nodes k t = (done k t few).1 (omega arith) in
          let was = slice_index_or bus_nodes k t in
          let O : ℕ → Type 0 = λ n. FullForAbort e (orders_are n) (slice_index_or now k s) new
          (slice_index_or here k d) end f in
          let P : BusNode → Type 0 = λ x. FullForAbort e (orders_are k) x new (slice_index_or here k d) end f in
          let Q : BusNode → Type 0 = λ x. FullForAbort e (orders_are k) was x given end f in
          let q : FullForAbort e (orders_are k) was new (slice_index_or here k d) end f =
          subst P same_bus_node (subst O own r) in
          subst Q (sym (set_here now k new t near)) (record {
            is = q.is;
            items = q.items;
            orders = q.orders;
            are_orders = q.are_orders;
            ordered = q.ordered;
            due = q.due;
            full = q.full;
            kept = λ h kept. q.kept h (subst (λ (x : BusNode). Kept e.stands x.journal.entries
                (slice_index_or here k d) h)
                this (goes.kept k t d h few kept));
            within = let B : ℕ → Type 0 = λ n. BeginsWithin n was.journal.entries new.journal.entries in
                subst B (each_at e.same e.links same_links links here k d goes.sames) q.within;
          });
    }

pub breaks_bus_node : {E : Type 0} (e : Ends E) → ((x y z : E) → e.same x y → e.same y z → e.same x z) →
    (R : ℕ → BusNode → BusNode → Type 0) (bus_nodes now : List BusNode) (links here : List E) (k : ℕ)
    (s new : BusNode) (d : E)
    (f : BusFault) → k < length bus_nodes → k < length here → length now ≡ length bus_nodes → AreReady now →
    GoesAll e.same e.stands bus_nodes now links here → Done R k bus_nodes now →
    BreaksInBit e (slice_index_or now k s) new (slice_index_or here k d) f →
    BusNodeBreaks e bus_nodes (slice_set now k new) links f
breaks_bus_node {E} e same_trans R bus_nodes now links here k s new d f few there len ready goes done r =
    let near : k < length now = omega (arith, few, len) in
    let own = (ready k s near).own in
    let N : ℕ → Type 0 = λ n. IsBrokenFor e n (slice_index_or now k s).journal.room
    (slice_index_or now k s).journal.entries new.journal.entries (slice_index_or here k d) f in
    let given = slice_index_or links k d in
    let there_too : k < length links = omega (arith, there, each_length e.same links here goes.sames) in record {
      node = k;
      few = few;
      end = given;
      is_end = λ b. or_same links k b d there_too;
      broken = λ t.
          let same_bus_node : slice_index_or now k s ≡ slice_index_or bus_nodes k t = or_same now k s t near
          ∙ (done k t few).1 (omega arith) in
          let this : slice_index_or now k t ≡ slice_index_or bus_nodes k t = (done k t few).1 (omega arith) in
          let was = slice_index_or bus_nodes k t in
          let P : BusNode → Type 0 = λ x. IsBrokenFor e k x.journal.room x.journal.entries new.journal.entries
          (slice_index_or here k d) f in
          let Q : BusNode → Type 0 = λ x. IsBrokenFor e k was.journal.room was.journal.entries x.journal.entries given
          f in
          subst Q (sym (set_here now k new t near))
          (broken_from e same_trans k was.journal.room was.journal.entries new.journal.entries given
          (slice_index_or here k d) f (each_pair e.same links here k d goes.sames there)
          (λ h kept. subst (λ (x : BusNode). Kept e.stands x.journal.entries (slice_index_or here k d) h) this
          (goes.kept k t d h few kept))
          (subst P same_bus_node (subst N own r)));
    }

-- ---- by the journals of all

pub not_aborted : {E : Type 0} (e : Ends E) (orders_are : ℕ → Orders → Type 0) (starts bits : ℕ) (steps : List ℕ)
    (bus_nodes after : List BusNode) (links links_after : List E) (f : BusFault) → length after ≡ length bus_nodes →
    length links ≡ length bus_nodes → AreBegun starts bus_nodes → HaveLinks e.links starts links →
    HaveRoom (room_for bits steps) bus_nodes → BusNodeFull e orders_are bus_nodes after links links_after f →
    IsNotAborted e orders_are bits steps (journals_of bus_nodes) (journals_of after) links links_after f
not_aborted e orders_are starts bits steps [] after links links_after f len ends begun many rooms r =
    let none = r.few in absurd (omega (arith, none))
not_aborted {E} e orders_are starts bits steps (s ∷ bus_nodes) after links links_after f len ends begun many rooms r =
    let all = s ∷ bus_nodes in let cb = count_is all in let k = r.node in let few = r.few in
    let full = r.full s in let room = rooms k s few in
    let was = journal_is all k s few in let now = journal_is after k s (omega (arith, few, len)) in
    let F : List Entry → Type 0 = λ l. IsFullFor (room_for bits steps k) l Abort in
    let R : Room → Type 0 = λ r. IsFullFor r (slice_index_or after k s).journal.entries Abort in
    let P : List Entry → Type 0 = λ j. MayHaveItems j (journal_at (journals_of after) k) in
    let Q : List Entry → Type 0 = λ j. MayHaveItems (slice_index_or all k s).journal.entries j in record {
      node = k;
      few = omega (arith, few, cb);
      is = r.is;
      items = subst P (sym was) (subst Q (sym now) full.items);
      orders = full.orders;
      are_orders = full.are_orders;
      ordered = full.ordered;
      due = let D : List Entry → Type 0 = λ j. IsApplied j true in subst D (sym now) full.due;
      full = subst F (sym now) (subst R room full.full);
      kept = λ d h kept.
          let K : List Entry → Type 0 = λ j. Kept e.stands j (slice_index_or links k d) h in
          let L : List Entry → Type 0 = λ j. Kept e.stands j (slice_index_or links_after k d) h in
          let A : E → Type 0 = λ x. Kept e.stands (slice_index_or after k s).journal.entries x h in
          let B : E → Type 0 = λ x. Kept e.stands (slice_index_or all k s).journal.entries x h in
          subst L (sym now) (subst A (sym (r.is_after d)) (full.kept h (subst B (r.is_end d) (subst K was kept))));
      within = λ d.
          let so_many = links_at e.links starts links k r.end many (omega (arith, ends, few)) r.is_end in
          let before = begun k s few in
          let A : ℕ → Type 0 = λ n. HasActivations n (journal_at (journals_of after) k) in
          let L : List Entry → Type 0 = HasActivations (e.links r.end) in
          subst A (ap e.links (sym (r.is_end d))) (subst L (sym now) (has_activations (e.links r.end)
          (slice_index_or after k s).journal.entries
          (full.within (e.links r.end) (omega arith) (omega (arith, before, so_many)))));
    }

-- an item that was given back was so on the link that is read then, which is that of the activation that was open
back_on : {E : Type 0} (e : Ends E) (k most : ℕ) (room : Room) (opened j : List Entry) (end : E) (f : BusFault) →
    begun_in opened ≤ most → IsBrokenFor e k room opened j end f → f ≡ Stuck k → read_in j ≤ most
back_on e k most room opened j end f begun broken is =
    let F : BusFault → Type 0 = λ x. IsBrokenFor e k room opened j end x in
    let back = (subst F is broken).1 in let was_open = back.was_open in
    let ended = back.ended in omega (arith, begun, was_open, ended)

pub broken_off : {E : Type 0} (e : Ends E) (orders_are : ℕ → Orders → Type 0) (starts bits : ℕ) (steps : List ℕ)
    (bus_nodes after : List BusNode) (links : List E) (f : BusFault) → ((x y : E) → e.same x y →
    e.links y ≡ e.links x) →
    length after ≡ length bus_nodes → length links ≡ length bus_nodes → AreBegun starts bus_nodes →
    HaveLinks e.links starts links → HaveRoom (room_for bits steps) bus_nodes →
    BusNodeStops e orders_are bus_nodes after links f →
    IsBrokenOff e orders_are bits steps (journals_of bus_nodes) (journals_of after) links f
broken_off e orders_are starts bits steps [] after links f same_links len ends begun many rooms r =
    let none = r.breaks.few in let c = r.count in absurd (omega (arith, none, c))
broken_off e orders_are starts bits steps (s ∷ bus_nodes) after links f same_links len ends begun many rooms r =
    let all = s ∷ bus_nodes in let cb = count_is all in let k = r.breaks.node in let there =
    r.breaks.few in let c = r.count in
    let few : k < length all = omega (arith, there, c) in
    let opened = slice_index_or r.opened k s in
    let was = journal_is all k s few in let now = journal_is after k s (omega (arith, few, len)) in
    let P : List Entry → Type 0 = λ j. Opens (orders_are k) j opened.journal.entries in
    let N : Room → Type 0 = λ n. IsBrokenFor e k n opened.journal.entries (slice_index_or after k s).journal.entries
    r.breaks.end f in
    let Q : List Entry → Type 0 = λ j. IsBrokenFor e k (room_for bits steps k) opened.journal.entries j r.breaks.end
    f in
    let broken = subst Q (sym now) (subst N (r.rooms (room_for bits steps) rooms k s there) (r.breaks.broken s)) in
    let here = many k r.breaks.end (omega (arith, ends, few)) in
    let so_many : e.links r.breaks.end ≡ starts = ap e.links (sym (r.breaks.is_end r.breaks.end))
    ∙ each_at e.same e.links same_links links r.between k r.breaks.end r.goes.sames ∙ here in
    let within : begun_in opened.journal.entries ≤ e.links r.breaks.end =
    let then = r.begins k s few r.breaks.end starts (omega (arith, here)) (begun k s few) in
    omega (arith, then, so_many) in record {
      node = k;
      few = omega (arith, few, cb);
      opened = opened.journal.entries;
      between = r.between;
      sames = r.goes.sames;
      opens = subst P (sym was) (r.opens k s few);
      kept = λ d h kept. let K : List Entry → Type 0 = λ j. Kept e.stands j (slice_index_or links k d) h in
          r.goes.kept k s d h few (subst K was kept);
      end = r.breaks.end;
      is_end = r.breaks.is_end;
      within = has_activations (e.links r.breaks.end) opened.journal.entries within;
      on_link = back_on e k (e.links r.breaks.end) (room_for bits steps k) opened.journal.entries
          (journal_at (journals_of after) k) r.breaks.end f within broken;
      broken = broken;
    }

-- and of the bus
pub stops_bit : {E : Type 0} (e : Ends E) (orders_are : ℕ → Orders → Type 0) (script : List Strike) (starts : ℕ)
    (steps : List ℕ) (run left bits : ℕ) (fault : Option BusFault) (bus_nodes after : List BusNode)
    (links links_after : List E) (f : BusFault) (now : BusValue) →
    ((x y : E) → e.same x y → e.links y ≡ e.links x) → now.journals ≡ journals_of after → run + left ≡ bits →
    length after ≡ length bus_nodes → length links ≡ length bus_nodes → AreBegun starts bus_nodes →
    HaveLinks e.links starts links → HaveRoom (room_for bits steps) bus_nodes →
    (BusNodeRefuses e bus_nodes after links links_after f
    ⊎ BusNodeFull e orders_are bus_nodes after links links_after f)
    ⊎ BusNodeStops e orders_are bus_nodes after links f →
    StopsBit e orders_are (record {
      script = script;
      starts = starts;
      steps = steps;
      run = run;
      left = left;
      fault = fault;
      journals =
          journals_of bus_nodes;
      untold = untold_of bus_nodes;
    }) now links links_after f
stops_bit {E} e orders_are script starts steps run left bits fault bus_nodes after links links_after f now same_links
    journals all len ends begun many rooms r = elim r [
      | inl opening ↦ elim opening [
        | inl refused ↦
            let N : ℕ → Type 0 = λ n. IsTakenAndRefused e n steps (journals_of bus_nodes)
            (journals_of after) links links_after f in
            let J : List (List Entry) → Type 0 = λ l. IsTakenAndRefused e (run + left) steps (journals_of bus_nodes)
            l links links_after f in
            not_taken_bit (subst J (sym journals) (subst N (sym all)
            (not_taken e starts bits steps bus_nodes after links links_after f len ends begun many rooms refused)))
        | inr aborting ↦
            let N : ℕ → Type 0 = λ n. IsNotAborted e orders_are n steps (journals_of bus_nodes)
            (journals_of after) links links_after f in
            let J : List (List Entry) → Type 0 = λ l. IsNotAborted e orders_are (run + left) steps
            (journals_of bus_nodes) l links links_after f in
            not_aborted_bit (subst J (sym journals) (subst N (sym all) (not_aborted e orders_are starts bits steps
            bus_nodes after links links_after f len ends begun many rooms aborting)))
      ]
      | inr breaking ↦
          let was = journals_of bus_nodes in
          let N : ℕ → Type 0 = λ n. IsBrokenOff e orders_are n steps was (journals_of after) links f in
          let J : List (List Entry) → Type 0 = λ l. IsBrokenOff e orders_are (run + left) steps was l links f in
          broken_off_bit (subst J (sym journals) (subst N (sym all) (broken_off e orders_are starts bits steps bus_nodes
          after links f same_links len ends begun many rooms breaking)))
    ]
