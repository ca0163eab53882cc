-- What an entry that carries a credit changes of where a driver stands: before the credit it gets the message. And it
-- gets the rest where nothing is put later.
use Rattle.std.proofs.Common.{◌≡◌, ℕ, List, [], ◌∷◌, ◌++◌, length, map, refl, sym, ap, ap₂, ◌∙◌, subst, arith}
use Rattle.std.proofs.Common.{append_assoc, append-nil}
use Rattle.std.proofs.lemmas.List.{length-map, map-append}
use Rattle.sja_journal.specs.declared.down.Down.{Down}
use Rattle.sja_journal.specs.declared.down.Down.TheVariants.{Message}
use Rattle.sja_journal.specs.declared.up.Up.TheVariants.{Credit}
use Rattle.sja_journal.specs.declared.entry.Entry.{Entry}
use Rattle.sja_journal.specs.declared.entry.Entry.TheVariants.{Up as Item}
use Rattle.sja_link.specs.declared.event.Event.TheVariants.{Take}
use Rattle.sja_journal.specs.Carried.{put_in, put_of, taken_in, taken_of}
use Rattle.lemmas.specs.Gathering.{gathered, total}
use Rattle.sja_journal.specs.Lists.{messages}
use Rattle.sja_link.specs.World.{is_off, is_stop, bytes_of, credits_of}
use Rattle.lemmas.proofs.Gathered.{gathered_append, gathered_push, total_append, total_push}
use Rattle.sja_link.proofs.JournalEntries.ListCounts.{messages_both, credits_both}
use Rattle.sja_link.specs.Orderly.{IsOrderly}
use Rattle.sja_thread_promises.specs.Linked.{event_in}
use Rattle.sja_threads.proofs.Events.Comes.{world, Comes, comes_get, comes_gets, comes_release}
use Rattle.sja_driver.proofs.Step.NextItem.{bytes_put, bytes_paid, IsOffLast, next_message}
use Rattle.sja_threads.proofs.Events.Order.{Order, with_taken, put_same}
use Rattle.sja_driver.proofs.Step.Few.{credits_taken}
use Rattle.sja_threads.proofs.Events.AtEntry.{IsAt}

module _ (p : List Entry) (got down : List Down) (held : List (List ℕ)) (all : put_of p ≡ got ++ down) where
  same_back : (xs a b : List Down) → xs ++ a ≡ xs ++ b → a ≡ b
  same_back [] a b e = e
  same_back (x ∷ xs) a b e = same_back xs a b cc

  -- what waits, and what is put later, is what it gets still, and what it leaves
  left_is : (q es : List Entry) (h : IsAt got held q es) → p ≡ q ++ es → h.waits ++ put_of es ≡ h.todo ++ down
  left_is q es h whole =
      same_back h.gone (h.waits ++ put_of es) (h.todo ++ down)
      (sym (append_assoc h.gone h.waits (put_of es)) ∙ ap (λ (l : List Down). l ++ put_of es) (sym h.put_is)
      ∙ sym (gathered_append put_in q es) ∙ ap put_of (sym whole) ∙ all
      ∙ ap (λ (l : List Down). l ++ down) h.got_is ∙ append_assoc h.gone h.todo down)

  -- it gets the rest, where nothing is put later
  pub gets_all : (q es : List Entry) (h : IsAt got held q es) → p ≡ q ++ es → put_of es ≡ [] →
      total is_stop (taken_of q) ≡ 0 → Order q got h.send
  gets_all q es h whole none running =
      let waits : h.waits ≡ h.todo ++ down =
      sym (append-nil h.waits) ∙ ap (λ (l : List Down). h.waits ++ l) (sym none) ∙ left_is q es h whole in
      subst (λ (l : List Down). Order q l h.send) (sym h.got_is)
      (comes_gets (gathered event_in q) (put_of q) (taken_of q) h.gone (taken_of q) h.send h.todo down h.order
      (h.put_is ∙ ap (λ (l : List Down). h.gone ++ l) waits) running)

  record IsFirst (n : ℕ) (ns : List ℕ) (releases : List (List ℕ)) : Type 0 where
    message : List ℕ
    others : List (List ℕ)
    whole : releases ≡ message ∷ others
    long : n ≡ length message
    rest : ns ≡ map (λ (m : List ℕ). length m) others

  first_release : (n : ℕ) (ns : List ℕ) (releases : List (List ℕ)) →
      n ∷ ns ≡ map (λ (m : List ℕ). length m) releases → IsFirst n ns releases
  first_release n ns [] e = absurd cc
  first_release n ns (m ∷ ms) e = record { message = m; others = ms; whole = refl; long = cc; rest = cc }

  same_tail : (m : List ℕ) (a b : List (List ℕ)) → m ∷ a ≡ m ∷ b → a ≡ b
  same_tail m a b e = cc

  pub credit_at : (q es : List Entry) (n : ℕ) → p ≡ q ++ Item (Credit n) ∷ es → IsOrderly q (Item (Credit n)) →
      IsAt got held q (Item (Credit n) ∷ es) → IsAt got held (q ++ Item (Credit n) ∷ []) es
  credit_at q es n whole o h =
      let lengths : List (List ℕ) → List ℕ = map (λ (m : List ℕ). length m) in
      let f = first_release n (credits_of (taken_of es)) h.releases h.credits_left in
      let m = f.message in
      let told : messages h.todo ≡ m ∷ (f.others ++ held) =
      h.told ∙ ap (λ (l : List (List ℕ)). l ++ held) f.whole in
      let paid = credits_taken q ∙ bytes_paid (taken_of q) (messages h.gone) h.credits_are in
      let stored = sym (bytes_put q) ∙ ap (λ (l : List Down). bytes_of (messages l)) h.put_is
      ∙ ap bytes_of (messages_both h.gone h.waits)
      ∙ total_append (λ (x : List ℕ). length x) (messages h.gone) (messages h.waits) in
      let big = o.1 in let fits = o.3 in
      let x = next_message h.waits h.todo (put_of es) down m (f.others ++ held) h.last
      (omega (arith, big, fits, paid, stored)) told (left_is q (Item (Credit n) ∷ es) h whole) in
      let gone = h.gone ++ Message m ∷ [] in
      let one : messages gone ≡ messages h.gone ++ m ∷ [] = messages_both h.gone (Message m ∷ []) in
      let offs = total_push is_off h.gone (Message m) in
      let none = h.on in
      let on : total is_off gone ≡ 0 = omega (arith, offs, none) in
      let many : length (credits_of (taken_of q)) ≡ length (messages h.gone) =
      ap (λ (l : List ℕ). length l) h.credits_are ∙ length-map (messages h.gone) (λ (y : List ℕ). length y) in
      let waits : put_of q ≡ h.gone ++ Message m ∷ x.later =
      h.put_is ∙ ap (λ (l : List Down). h.gone ++ l) x.waits_is in
      let got_one = comes_get (gathered event_in q) (put_of q) (taken_of q) h.gone (taken_of q) h.send h.order
      (Message m) x.later waits o.0.running in
      let released = comes_release (gathered event_in q) (put_of q) (taken_of q) gone h.send got_one m (messages h.gone)
      one many on o.0.running in
      let P : ℕ → Type 0 = λ k. Comes (gathered event_in q ++ Take ∷ [])
      (world (put_of q) (taken_of q ++ Credit k ∷ []) gone (taken_of q ++ Credit k ∷ []) h.send) in
      let taken : P n = subst P (sym f.long) released in
      record {
        send = h.send;
        gone = gone;
        todo = x.undone;
        waits = x.later;
        releases = f.others;
        order = with_taken q (Item (Credit n)) gone h.send refl taken;
        got_is = h.got_is ∙ ap (λ (l : List Down). h.gone ++ l) x.todo_is
            ∙ sym (append_assoc h.gone (Message m ∷ []) x.undone);
        put_is = put_same q (Item (Credit n)) refl ∙ h.put_is ∙ ap (λ (l : List Down). h.gone ++ l) x.waits_is
            ∙ sym (append_assoc h.gone (Message m ∷ []) x.later);
        credits_are = ap credits_of (gathered_push taken_in q (Item (Credit n)))
            ∙ credits_both (taken_of q) (Credit n ∷ [])
            ∙ ap₂ (λ (a : List ℕ) (k : ℕ). a ++ k ∷ []) h.credits_are f.long
            ∙ sym (map-append (λ (y : List ℕ). length y) (messages h.gone) (m ∷ [])) ∙ ap lengths (sym one);
        credits_left = f.rest;
        told = same_tail m (messages x.undone) (f.others ++ held)
            (ap messages (sym x.todo_is) ∙ told);
        on = on;
        last = subst (λ (l : List Down). IsOffLast l) x.waits_is h.last;
      }
