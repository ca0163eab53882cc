-- Where a driver stands right after entries of an activation's part of a journal, and what an entry that carries no
-- credit changes of it. What the driver gives it gives right before it is taken.
use Rattle.std.proofs.Common.{◌≡◌, ℕ, ◌+◌, ◌-◌, ◌≤◌, Bool, List, [], ◌∷◌, ◌++◌, length, map, refl, sym, ap, ap₂, ◌∙◌}
use Rattle.std.proofs.Common.{subst, arith, append_assoc, append-nil}
use Rattle.sja_journal.specs.declared.down.Down.{Down}
use Rattle.sja_journal.specs.declared.down.Down.TheVariants.{Message, Off as OffDown}
use Rattle.sja_journal.specs.declared.up.Up.{Up}
use Rattle.sja_journal.specs.declared.entry.Entry.{Entry}
use Rattle.sja_journal.specs.declared.entry.Entry.TheVariants.{Up as Item, Stored, Off as OffEntry}
use Rattle.sja_link.specs.declared.event.Event.TheVariants.{Put, Off}
use Rattle.sja_journal.specs.Carried.{put_in, put_of, taken_in, taken_of}
use Rattle.can_frame.specs.Message.{IsMessage}
use Rattle.sja_journal.specs.Free.{free_of}
use Rattle.lemmas.specs.Gathering.{gathered, total}
use Rattle.sja_journal.specs.Lists.{messages}
use Rattle.sja_link.specs.World.{is_off, credits_of, free}
use Rattle.lemmas.proofs.Gathered.{gathered_push, total_append}
use Rattle.sja_link.proofs.JournalEntries.ListCounts.{credits_both}
use Rattle.sja_link.specs.Orderly.{IsOrderly}
use Rattle.sja_thread_promises.specs.Linked.{event_in}
use Rattle.sja_threads.proofs.Events.Comes.{world, comes_act}
use Rattle.sja_driver.proofs.Step.NextItem.{bytes_put, IsOffLast, off_last_push}
use Rattle.sja_threads.proofs.Events.Order.{Order, with_put, with_quiet, put_same, taken_same}
use Rattle.sja_driver.proofs.Step.Few.{credits_taken}

-- where the driver stands right after these entries: it got just the messages whose credits were taken; of what it
-- gets still these are released
pub record IsAt (got : List Down) (held : List (List ℕ)) (q es : List Entry) : Type 0 where
  pub send : Bool
  pub gone : List Down
  pub todo : List Down
  pub waits : List Down
  pub releases : List (List ℕ)
  pub order : Order q gone send
  pub got_is : got ≡ gone ++ todo
  pub put_is : put_of q ≡ gone ++ waits
  pub credits_are : credits_of (taken_of q) ≡ map (λ (m : List ℕ). length m) (messages gone)
  pub credits_left : credits_of (taken_of es) ≡ map (λ (m : List ℕ). length m) releases
  pub told : messages todo ≡ releases ++ held
  pub on : total is_off gone ≡ 0
  pub last : IsOffLast waits

module _ (got : List Down) (held : List (List ℕ)) where
  pub quiet_at : (q es : List Entry) (e : Entry) → event_in e ≡ [] → put_in e ≡ [] → taken_in e ≡ [] →
      IsAt got held q (e ∷ es) → IsAt got held (q ++ e ∷ []) es
  quiet_at q es e no_event no_put no_taken h = record {
    send = h.send;
    gone = h.gone;
    todo = h.todo;
    waits = h.waits;
    releases = h.releases;
    order = with_quiet q e h.gone h.send no_event no_put no_taken h.order;
    got_is = h.got_is;
    put_is = put_same q e no_put ∙ h.put_is;
    credits_are = ap credits_of (taken_same q e no_taken) ∙ h.credits_are;
    credits_left = ap (λ (l : List Up). credits_of (l ++ taken_of es)) (sym no_taken) ∙ h.credits_left;
    told = h.told;
    on = h.on;
    last = h.last;
  }

  -- something is put
  put_at : (q es : List Entry) (e : Entry) (x : Down) → put_in e ≡ x ∷ [] → taken_in e ≡ [] →
      total is_off (put_of q) ≡ 0 → (h : IsAt got held q (e ∷ es)) → Order (q ++ e ∷ []) h.gone h.send →
      IsAt got held (q ++ e ∷ []) es
  put_at q es e x puts no_taken none h order =
      let offs = total_append is_off h.gone h.waits in
      let all_off = ap (total is_off) h.put_is in record {
        send = h.send;
        gone = h.gone;
        todo = h.todo;
        waits = h.waits ++ x ∷ [];
        releases = h.releases;
        order = order;
        got_is = h.got_is;
        put_is = gathered_push put_in q e ∙ ap (λ (l : List Down). put_of q ++ l) puts
            ∙ ap (λ (l : List Down). l ++ x ∷ []) h.put_is ∙ append_assoc h.gone h.waits (x ∷ []);
        credits_are = ap credits_of (taken_same q e no_taken) ∙ h.credits_are;
        credits_left = ap (λ (l : List Up). credits_of (l ++ taken_of es)) (sym no_taken) ∙ h.credits_left;
        told = h.told;
        on = h.on;
        last = off_last_push h.waits x (omega (arith, offs, all_off, none));
      }

  -- an item is given and taken that is no credit
  pub item_at : (q es : List Entry) (u : Up) (send : Bool) → credits_of (u ∷ []) ≡ [] →
      credits_of (u ∷ taken_of es) ≡ credits_of (taken_of es) → (h : IsAt got held q (Item u ∷ es)) →
      Order (q ++ Item u ∷ []) h.gone send → IsAt got held (q ++ Item u ∷ []) es
  item_at q es u send none later h order = record {
    send = send;
    gone = h.gone;
    todo = h.todo;
    waits = h.waits;
    releases = h.releases;
    order = order;
    got_is = h.got_is;
    put_is = put_same q (Item u) refl ∙ h.put_is;
    credits_are = ap credits_of (gathered_push taken_in q (Item u)) ∙ credits_both (taken_of q) (u ∷ [])
        ∙ ap (λ (l : List ℕ). credits_of (taken_of q) ++ l) none ∙ append-nil (credits_of (taken_of q)) ∙ h.credits_are;
    credits_left = sym later ∙ h.credits_left;
    told = h.told;
    on = h.on;
    last = h.last;
  }

  free_same : (q : List Entry) (gone : List Down) (send : Bool) →
      free_of q ≡ free (world (put_of q) (taken_of q) gone (taken_of q) send)
  free_same q gone send = ap₂ (λ (a b : ℕ). (64 + a) - b) (credits_taken q) (sym (bytes_put q))

  pub stored_at : (q es : List Entry) (m : List ℕ) → IsMessage m → IsOrderly q (Stored m) →
      IsAt got held q (Stored m ∷ es) → IsAt got held (q ++ Stored m ∷ []) es
  stored_at q es m is o h =
      put_at q es (Stored m) (Message m) refl refl o.1 h
      (with_put q (Stored m) h.gone h.send refl
      (comes_act (gathered event_in q) (world (put_of q) (taken_of q) h.gone (taken_of q) h.send) (Put m) h.order is (
        record { started = o.0.started; running = o.0.running; on = o.1 },
        subst (λ (n : ℕ). length m ≤ n) (free_same q h.gone h.send) o.2,
      )))

  pub off_at : (q es : List Entry) → IsOrderly q OffEntry → IsAt got held q (OffEntry ∷ es) →
      IsAt got held (q ++ OffEntry ∷ []) es
  off_at q es o h =
      put_at q es OffEntry OffDown refl refl o.1 h
      (with_put q OffEntry h.gone h.send refl
      (comes_act (gathered event_in q) (world (put_of q) (taken_of q) h.gone (taken_of q) h.send) Off h.order tt
      (record { started = o.0.started; running = o.0.running; on = o.1 })))
