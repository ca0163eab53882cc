-- An item that was refused, by the links of its node and by those of all.
use Rattle.std.proofs.Common.{◌≡◌, ℕ, suc, ◌+◌, ◌-◌, ◌<◌, ◌≤◌, List, [], ◌∷◌, ◌++◌, length, inl, inr, sym, ap, ◌∙◌}
use Rattle.std.proofs.Common.{subst, arith}
use Rattle.std.specs.Prelude.{slice_index_or, slice_set}
use Rattle.std.proofs.Math.ListN.{length-set}
use Rattle.std.proofs.lemmas.Bool.{cases_eq}
use Rattle.std.proofs.lemmas.Slice.Zip.{AllZip-long as each_length}
use Rattle.std.proofs.lemmas.List.{length-append, get_or-set_same as set_here, get_or-set_other as set_else}
use Rattle.std.proofs.lemmas.List.{get_or_append_left, get_or_default as or_same, get_or_push}
use Rattle.sja_journal.specs.Written.{Room}
use Rattle.sja_journal.specs.declared.entry.Entry.{Entry}
use Rattle.lemmas.proofs.Related.{each_at}
use Rattle.sja_link.specs.declared.bus_end.BusEnd.{Ghosts as Ends}
use Rattle.sja_journal.specs.Lists.{with_taken}
use Rattle.sja_journal.specs.Accounts.{Account, account}
use Rattle.sja_link.specs.BusLedgers.{link_of}
use Rattle.sja_journal.specs.declared.bus_fault.BusFault.{BusFault}
use Rattle.sja_bus.specs.declared.bus_node.BusNode.{BusNode}
use Rattle.sja_bus_rules.specs.Wire.{journal_at}
use Rattle.sja_journal.specs.Links.{HaveLinks, Kept}
use Rattle.sja_journal.specs.Activations.{HasActivations}
use Rattle.sja_journal.specs.Opening.{BeginsWithin}
use Rattle.sja_journal.specs.OutOfOrder.{read_in}
use Rattle.sja_link.specs.Moving.{Goes}
use Rattle.sja_journal.specs.BitEntries.{MayHaveItems}
use Rattle.sja_journal.proofs.Growing.Activations.{has_activations}
use Rattle.sja_bus_rules.specs.Reasons.{IsEndAt, IsRefusedFor, RefusesItem, IsTakenAndRefused, room_for}
use Rattle.sja_bus.specs.Inside.BusNodes.{IsSound}
use Rattle.sja_bus.specs.Inside.Taking.{RefusesHere}
use Rattle.sja_bus.specs.Inside.Refusing.{HaveRoom, BusNodeRefuses}
use Rattle.sja_bus.specs.Inside.Rows.{AreBegun, AreReady, GoesAll, Done, journals_of}
use Rattle.sja_bus.proofs.AllNodes.Running.{journal_is, count_is}

-- an item that the link of the activation read showed, after other items
pub refuses_here : {E : Type 0} (e : Ends E) → ((x y : E) → e.same x y → e.links y ≡ e.links x) →
    (before : List Entry) (old new : BusNode) (end here after : E) (room : Room) (node : ℕ) (f : BusFault) →
    IsSound old →
    (link_of old.ledger).node ≡ node → old.journal.room ≡ room → MayHaveItems before old.journal.entries →
    BeginsWithin (e.links end) before old.journal.entries →
    Goes e.same e.stands end here before old.journal.entries → RefusesHere e here after old new f →
    RefusesItem e room before new.journal.entries end after node f
refuses_here {E} e same_links before old new end here after room node f sound own reserved items within goes r =
    let a = old.ended in let j = old.journal.entries in
    let stopped = sound.reads.stopped in
    let P : ℕ → Type 0 = λ n. IsRefusedFor n old.journal.room j r.item f in
    let Q : Room → Type 0 = λ n. IsRefusedFor node n j r.item f in
    let R : List Entry → Type 0 = λ l. RefusesItem e room before l end after node f in
    let there = r.few in let links = same_links end here goes.is_same in
    subst R (sym r.refuses.0) (record {
      item = r.item;
      why = subst Q reserved (subst P own r.refuses.1);
      items = items;
      few = omega (arith, there, links, stopped);
      within = within;
      shown = λ h was.
          let S : ℕ → Type 0 = λ n. e.stands after (suc n) (with_taken (account j (suc n) (h n)) r.item) in
          subst S (sym stopped) (r.shown (account j (suc a) (h a)) (goes.kept h was a));
      others = λ h b was ne. r.others (suc b) (λ q. ne (omega (arith, q, stopped))) (account j (suc b) (h b))
          (goes.kept h was b);
    })

-- the links stood for the journal before also where they were earlier, and were as many
pub refuses_from : {E : Type 0} (e : Ends E) (room : Room) (before j : List Entry)
    (end here after : E) (node : ℕ) (f : BusFault) → e.links here ≡ e.links end →
    ((h : ℕ → Account) → Kept e.stands before end h → Kept e.stands before here h) →
    RefusesItem e room before j here after node f → RefusesItem e room before j end after node f
refuses_from e room before j end here after node f many back r = record {
  item = r.item;
  why = r.why;
  items = r.items;
  few = let P : ℕ → Type 0 = λ n. read_in j ≤ n in subst P many r.few;
  within = let P : ℕ → Type 0 = λ n. BeginsWithin n before j in subst P many r.within;
  shown = λ h was. r.shown h (back h was);
  others = λ h a was. r.others h a (back h was);
}

-- one of many, after those before it had their turn
pub refuses_bus_node : {E : Type 0} (e : Ends E) → ((x y : E) → e.same x y → e.links y ≡ e.links x) →
    (R : ℕ → BusNode → BusNode → Type 0) (bus_nodes now : List BusNode) (links here : List E) (k : ℕ)
    (s new : BusNode) (d end : E)
    (f : BusFault) → k < length bus_nodes → k < length here → length now ≡ length bus_nodes → AreReady now →
    GoesAll e.same e.stands bus_nodes now links here → Done R k bus_nodes now →
    RefusesItem e (slice_index_or now k s).journal.room (slice_index_or now k s).journal.entries
    new.journal.entries (slice_index_or here k d) end (link_of (slice_index_or now k s).ledger).node f →
    BusNodeRefuses e bus_nodes (slice_set now k new) links (slice_set here k end) f
refuses_bus_node {E} e same_links R bus_nodes now links here k s new d end f few there len ready goes done r =
    let near : k < length now = omega (arith, few, len) in
    let own = (ready k s near).own in
    let N : ℕ → Type 0 = λ n. RefusesItem e (slice_index_or now k s).journal.room
    (slice_index_or now k s).journal.entries new.journal.entries (slice_index_or here k d) end n f in
    let given = slice_index_or links k d in
    let there_too : k < length links = omega (arith, there, each_length e.same links here goes.sames) in
    record {
      node = k;
      few = few;
      end = given;
      is_end = λ b. or_same links k b d there_too;
      end_after = end;
      is_after = λ b. set_here here k end b there;
      refuses = λ t.
          let same_bus_node : slice_index_or now k s ≡ slice_index_or bus_nodes k t = or_same now k s t near
          ∙ (done k t few).1 (omega arith) in
          let this : slice_index_or now k t ≡ slice_index_or bus_nodes k t = (done k t few).1 (omega arith) in
          let was = slice_index_or bus_nodes k t in
          let P : BusNode → Type 0 = λ x. RefusesItem e x.journal.room x.journal.entries new.journal.entries
          (slice_index_or here k d) end k f in
          let Q : BusNode → Type 0 = λ x. RefusesItem e was.journal.room was.journal.entries x.journal.entries given
          end k f in
          subst Q (sym (set_here now k new t near))
          (refuses_from e was.journal.room was.journal.entries new.journal.entries given
          (slice_index_or here k d) end k f (each_at e.same e.links same_links links here k d goes.sames)
          (λ h kept. subst (λ (x : BusNode). Kept e.stands x.journal.entries (slice_index_or here k d) h) this
          (goes.kept k t d h few kept))
          (subst P same_bus_node (subst N own r)));
    }

-- the reserved entries, where one has as many as before
pub rooms_one : (n : ℕ → Room) (bus_nodes : List BusNode) (k : ℕ) (s new : BusNode) → k < length bus_nodes →
    new.journal.room ≡ (slice_index_or bus_nodes k s).journal.room → HaveRoom n bus_nodes →
    HaveRoom n (slice_set bus_nodes k new)
rooms_one n bus_nodes k s new few same was m t near = elim (cases_eq k m) [
  | inl eq ↦
      let e : slice_index_or (slice_set bus_nodes k new) m t ≡ new =
      ap (λ i. slice_index_or (slice_set bus_nodes k new) i t) (sym eq) ∙ set_here bus_nodes k new t few in
      ap (λ (x : BusNode). x.journal.room) e ∙ same ∙ was k s few ∙ ap n eq
  | inr ne ↦
      let e : slice_index_or (slice_set bus_nodes k new) m t ≡ slice_index_or bus_nodes m t =
      set_else bus_nodes k m new t (λ x. ne (sym x)) in
      ap (λ (x : BusNode). x.journal.room) e ∙ was m t (rw length-set at near)
]

pub rooms_push : (n : ℕ → Room) (bus_nodes : List BusNode) (x : BusNode) → x.journal.room ≡ n (length bus_nodes) →
    HaveRoom n bus_nodes →
    HaveRoom n (bus_nodes ++ x ∷ [])
rooms_push n bus_nodes x is was k s few = elim (cases_eq k (length bus_nodes)) [
  | inl e ↦ ap (λ (y : BusNode). y.journal.room) (get_or_push bus_nodes x s k (sym e)) ∙ is ∙ ap n (sym e)
  | inr ne ↦
      let near : k < length bus_nodes = let l = length-append bus_nodes (x ∷ []) in omega (arith, l, few, ne) in
      ap (λ (y : BusNode). y.journal.room) (get_or_append_left bus_nodes (x ∷ []) s k near) ∙ was k s near
]

-- ---- by the journals of all

-- how many links an end has that is at a place
pub links_at : {E : Type 0} (links_of : E → ℕ) (starts : ℕ) (links : List E) (k : ℕ) (end : E) →
    HaveLinks links_of starts links → k < length links → IsEndAt links k end → links_of end ≡ starts
links_at links_of starts links k end many few is = ap links_of (sym (is end)) ∙ many k end few

pub not_taken : {E : Type 0} (e : Ends E) (starts bits : ℕ) (steps : List ℕ) (bus_nodes after : List BusNode)
    (links links_after : List E) (f : BusFault) → length after ≡ length bus_nodes → length links ≡ length bus_nodes →
    AreBegun starts bus_nodes → HaveLinks e.links starts links → HaveRoom (room_for bits steps) bus_nodes →
    BusNodeRefuses e bus_nodes after links links_after f →
    IsTakenAndRefused e bits steps (journals_of bus_nodes) (journals_of after) links links_after f
not_taken e starts bits steps [] after links links_after f len ends begun many rooms r =
    let none = r.few in absurd (omega (arith, none))
not_taken e starts bits steps (s ∷ bus_nodes) after links links_after f len ends begun many rooms r =
    let all = s ∷ bus_nodes in let cb = count_is all in let k = r.node in let few = r.few in
    let was = slice_index_or all k s in let now = slice_index_or after k s in
    let P : List Entry → Type 0 = λ j. RefusesItem e (room_for bits steps k) j (journal_at (journals_of after) k)
    r.end r.end_after k f in
    let Q : List Entry → Type 0 = λ j. RefusesItem e (room_for bits steps k) was.journal.entries j r.end
    r.end_after k f in
    let N : Room → Type 0 = λ n. RefusesItem e n was.journal.entries now.journal.entries r.end r.end_after k f in
    let is = journal_is after k s (omega (arith, few, len)) in
    let so_many = links_at e.links starts links k r.end many (omega (arith, ends, few)) r.is_end in
    let before = begun k s few in
    record {
      node = k;
      few = omega (arith, few, cb);
      end = r.end;
      is_end = r.is_end;
      end_after = r.end_after;
      is_after = r.is_after;
      within = subst (HasActivations (e.links r.end)) (sym is) (has_activations (e.links r.end) now.journal.entries
          ((r.refuses s).within (e.links r.end) (omega arith) (omega (arith, before, so_many))));
      refuses = subst P (sym (journal_is all k s few)) (subst Q (sym is) (subst N (rooms k s few) (r.refuses s)));
    }
