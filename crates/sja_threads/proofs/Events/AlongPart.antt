-- An order of the events of a link, made along an activation's part of a journal: before a stop, or else at the end,
-- the driver gets all that it gets.
use Rattle.std.proofs.Common.{◌≡◌, ℕ, true, false, List, [], ◌∷◌, ◌++◌, length, map, refl, ap, ◌∙◌, arith, append-nil}
use Rattle.sja_journal.specs.declared.down.Down.{Down}
use Rattle.sja_journal.specs.declared.up.Up.TheVariants.{Start as StartUp, Credit, Send as SendUp, Stop as StopUp}
use Rattle.sja_journal.specs.declared.entry.Entry.{Entry}
use Rattle.sja_journal.specs.declared.entry.Entry.TheVariants.{Bit, Up as Item, Abort, Stored, Overrun, Off as OffEntry}
use Rattle.sja_journal.specs.Carried.{stored_of, put_of, taken_in, taken_of}
use Rattle.sja_journal.proofs.Ledger.StoredMessages.{AreMessages}
use Rattle.lemmas.specs.Gathering.{gathered, total}
use Rattle.sja_journal.specs.Lists.{messages}
use Rattle.lemmas.specs.Picking.{EachAfter}
use Rattle.sja_link.specs.World.{is_stop, credits_of}
use Rattle.lemmas.proofs.Gathered.{gathered_push, total_append, total_push}
use Rattle.sja_link.specs.Orderly.{IsOrderly}
use Rattle.sja_thread_promises.specs.Linked.{event_in, IsLinked}
use Rattle.sja_threads.proofs.Events.Comes.{comes_first, comes_start, comes_stop, comes_send}
use Rattle.sja_threads.proofs.Events.Order.{with_taken, next_whole}
use Rattle.sja_threads.proofs.Events.AfterStop.{Ends, ended, Stopped, none_put, stopped}
use Rattle.sja_threads.proofs.Events.AtEntry.{IsAt, quiet_at, item_at, stored_at, off_at}
use Rattle.sja_threads.proofs.Events.AtCredit.{gets_all, credit_at}

module _ (p : List Entry) (got down : List Down) (held : List (List ℕ)) (all : put_of p ≡ got ++ down) where
  stop_taken : (q : List Entry) → Stopped (q ++ Item StopUp ∷ [])
  stop_taken q = λ zero.
      let e = ap (total is_stop) (gathered_push taken_in q (Item StopUp)) in
      let n = total_push is_stop (taken_of q) StopUp in omega (arith, e, n, zero)

  none_stopped : (q : List Entry) (e : Entry) → total is_stop (taken_in e) ≡ 0 → total is_stop (taken_of q) ≡ 0 →
      total is_stop (taken_of (q ++ e ∷ [])) ≡ 0
  none_stopped q e none running =
      let whole = ap (total is_stop) (gathered_push taken_in q e) in
      let n = total_append is_stop (taken_of q) (taken_in e) in omega (arith, whole, n, none, running)

  along : (q es : List Entry) → p ≡ q ++ es → EachAfter IsOrderly q es →
      AreMessages (stored_of es) → total is_stop (taken_of q) ≡ 0 → IsAt got held q es →
      Ends p got
  along q [] whole orderly real running h =
      ended p got q h.send (whole ∙ append-nil q) (gets_all p got down held all q [] h whole refl running)
  along q (Bit driven seen ∷ es) whole orderly real running h =
      along (q ++ Bit driven seen ∷ []) es (next_whole p q es (Bit driven seen) whole) orderly.1 real
      (none_stopped q (Bit driven seen) refl running) (quiet_at got held q es (Bit driven seen) refl refl refl h)
  along q (Abort ∷ es) whole orderly real running h =
      along (q ++ Abort ∷ []) es (next_whole p q es Abort whole) orderly.1 real
      (none_stopped q Abort refl running) (quiet_at got held q es Abort refl refl refl h)
  along q (Overrun m ∷ es) whole orderly real running h =
      along (q ++ Overrun m ∷ []) es (next_whole p q es (Overrun m) whole) orderly.1 real
      (none_stopped q (Overrun m) refl running) (quiet_at got held q es (Overrun m) refl refl refl h)
  along q (Stored m ∷ es) whole orderly real running h =
      along (q ++ Stored m ∷ []) es (next_whole p q es (Stored m) whole) orderly.1 real.1
      (none_stopped q (Stored m) refl running) (stored_at got held q es m real.0 orderly.0 h)
  along q (OffEntry ∷ es) whole orderly real running h =
      along (q ++ OffEntry ∷ []) es (next_whole p q es OffEntry whole) orderly.1 real
      (none_stopped q OffEntry refl running) (off_at got held q es orderly.0 h)
  along q (Item (StartUp config) ∷ es) whole orderly real running h =
      along (q ++ Item (StartUp config) ∷ []) es (next_whole p q es (Item (StartUp config)) whole) orderly.1 real
      (none_stopped q (Item (StartUp config)) refl running)
      (item_at got held q es (StartUp config) h.send refl refl h
      (with_taken q (Item (StartUp config)) h.gone h.send refl
      (comes_start (gathered event_in q) (put_of q) (taken_of q) h.gone h.send h.order config orderly.0)))
  along q (Item (Credit n) ∷ es) whole orderly real running h =
      along (q ++ Item (Credit n) ∷ []) es (next_whole p q es (Item (Credit n)) whole) orderly.1 real
      (none_stopped q (Item (Credit n)) refl running) (credit_at p got down held all q es n whole orderly.0 h)
  along q (Item (SendUp request) ∷ es) whole orderly real running h =
      along (q ++ Item (SendUp request) ∷ []) es (next_whole p q es (Item (SendUp request)) whole) orderly.1 real
      (none_stopped q (Item (SendUp request)) refl running)
      (item_at got held q es (SendUp request) false refl refl h
      (with_taken q (Item (SendUp request)) h.gone false refl
      (comes_send (gathered event_in q) (put_of q) (taken_of q) h.gone h.send request h.order orderly.0.started
      orderly.0.running)))
  along q (Item StopUp ∷ es) whole orderly real running h =
      let none = none_put (q ++ Item StopUp ∷ []) es orderly.1 (stop_taken q) in
      stopped p got (q ++ Item StopUp ∷ []) es h.send (next_whole p q es (Item StopUp) whole) orderly.1 (stop_taken q)
      (with_taken q (Item StopUp) got h.send refl
      (comes_stop (gathered event_in q) (put_of q) (taken_of q) got h.send
      (gets_all p got down held all q (Item StopUp ∷ es) h whole none running) orderly.0.started orderly.0.running))

-- the part of an activation is linked, where each of its entries may come where it comes, its driver got a front of
-- what was put, and the credits that were taken are those of the first messages that it got
pub linked_part : (p : List Entry) (got down : List Down) (released held : List (List ℕ)) →
    EachAfter IsOrderly [] p → AreMessages (stored_of p) → put_of p ≡ got ++ down → messages got ≡ released ++ held →
    credits_of (taken_of p) ≡ map (λ (m : List ℕ). length m) released →
    IsLinked p (record { put = put_of p; taken = taken_of p; got = got; given = taken_of p })
linked_part p got down released held orderly real all told credits =
    along p got down held all [] p refl orderly real refl (record {
      send = true;
      gone = [];
      todo = got;
      waits = [];
      releases = released;
      order = comes_first;
      got_is = refl;
      put_is = refl;
      credits_are = refl;
      credits_left = credits;
      told = told;
      on = refl;
      last = tt;
    })
