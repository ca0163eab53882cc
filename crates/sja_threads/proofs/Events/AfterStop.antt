-- After a stop nothing comes on a link.
use Rattle.std.proofs.Common.{◌≡◌, ◌≢◌, Bool, List, [], ◌∷◌, ◌++◌, refl, sym, ap, ◌∙◌, subst, append-nil}
use Rattle.sja_journal.specs.declared.down.Down.{Down}
use Rattle.sja_journal.specs.declared.up.Up.TheVariants.{Start as StartUp, Credit, Send as SendUp, Stop as StopUp}
use Rattle.sja_journal.specs.declared.entry.Entry.{Entry}
use Rattle.sja_journal.specs.declared.entry.Entry.TheVariants.{Bit, Up as Item, Abort, Stored, Overrun, Off as OffEntry}
use Rattle.sja_journal.specs.Carried.{put_of, taken_in, taken_of}
use Rattle.lemmas.specs.Gathering.{total}
use Rattle.lemmas.specs.Picking.{EachAfter}
use Rattle.sja_link.specs.World.{is_stop}
use Rattle.sja_link.specs.Orderly.{IsRunning, IsOrderly}
use Rattle.sja_thread_promises.specs.Linked.{IsLinked}
use Rattle.sja_threads.proofs.Events.Comes.{world}
use Rattle.sja_threads.proofs.Events.Order.{Order, with_quiet, taken_same, next_whole}

-- a stop was taken
abbrev pub Stopped : List Entry → Type 0
Stopped q = total is_stop (taken_of q) ≢ 0

still_stopped : (q : List Entry) (e : Entry) → taken_in e ≡ [] → Stopped q → Stopped (q ++ e ∷ [])
still_stopped q e none stop = λ zero. stop (sym (ap (total is_stop) (taken_same q e none)) ∙ zero)

not_running : (q : List Entry) → Stopped q → IsRunning q → ⊥
not_running q stop run = stop run.running

not_first : (q : List Entry) → Stopped q → taken_of q ≡ [] → ⊥
not_first q stop none = stop (ap (total is_stop) none)

-- nothing is put
pub none_put : (q es : List Entry) → EachAfter IsOrderly q es → Stopped q → put_of es ≡ []
none_put q [] orderly stop = refl
none_put q (Bit driven seen ∷ es) orderly stop =
    none_put (q ++ Bit driven seen ∷ []) es orderly.1 (still_stopped q (Bit driven seen) refl stop)
none_put q (Abort ∷ es) orderly stop = none_put (q ++ Abort ∷ []) es orderly.1 (still_stopped q Abort refl stop)
none_put q (Overrun m ∷ es) orderly stop =
    none_put (q ++ Overrun m ∷ []) es orderly.1 (still_stopped q (Overrun m) refl stop)
none_put q (Stored m ∷ es) orderly stop = absurd (not_running q stop orderly.0.0)
none_put q (OffEntry ∷ es) orderly stop = absurd (not_running q stop orderly.0.0)
none_put q (Item (StartUp config) ∷ es) orderly stop = absurd (not_first q stop orderly.0)
none_put q (Item (Credit n) ∷ es) orderly stop = absurd (not_running q stop orderly.0.0)
none_put q (Item (SendUp request) ∷ es) orderly stop = absurd (not_running q stop orderly.0)
none_put q (Item StopUp ∷ es) orderly stop = absurd (not_running q stop orderly.0)

module _ (p : List Entry) (got : List Down) where
  abbrev pub Ends : Type 0
  Ends = IsLinked p (record { put = put_of p; taken = taken_of p; got = got; given = taken_of p })

  -- all is got
  pub ended : (q : List Entry) (send : Bool) → p ≡ q → Order q got send → Ends
  ended q send e c =
      let o : Order p got send = subst (λ (l : List Entry). Order l got send) (sym e) c in record {
        events = o.events;
        world = world (put_of p) (taken_of p) got (taken_of p) send;
        reached = o.reached;
        ends = refl;
        order = o.order;
      }

  pub stopped : (q es : List Entry) (send : Bool) → p ≡ q ++ es → EachAfter IsOrderly q es → Stopped q →
      Order q got send → Ends
  stopped q [] send whole orderly stop c = ended q send (whole ∙ append-nil q) c
  stopped q (Bit driven seen ∷ es) send whole orderly stop c =
      stopped (q ++ Bit driven seen ∷ []) es send (next_whole p q es (Bit driven seen) whole) orderly.1
      (still_stopped q (Bit driven seen) refl stop) (with_quiet q (Bit driven seen) got send refl refl refl c)
  stopped q (Abort ∷ es) send whole orderly stop c =
      stopped (q ++ Abort ∷ []) es send (next_whole p q es Abort whole) orderly.1
      (still_stopped q Abort refl stop) (with_quiet q Abort got send refl refl refl c)
  stopped q (Overrun m ∷ es) send whole orderly stop c =
      stopped (q ++ Overrun m ∷ []) es send (next_whole p q es (Overrun m) whole) orderly.1
      (still_stopped q (Overrun m) refl stop) (with_quiet q (Overrun m) got send refl refl refl c)
  stopped q (Stored m ∷ es) send whole orderly stop c = absurd (not_running q stop orderly.0.0)
  stopped q (OffEntry ∷ es) send whole orderly stop c = absurd (not_running q stop orderly.0.0)
  stopped q (Item (StartUp config) ∷ es) send whole orderly stop c = absurd (not_first q stop orderly.0)
  stopped q (Item (Credit n) ∷ es) send whole orderly stop c = absurd (not_running q stop orderly.0.0)
  stopped q (Item (SendUp request) ∷ es) send whole orderly stop c = absurd (not_running q stop orderly.0)
  stopped q (Item StopUp ∷ es) send whole orderly stop c = absurd (not_running q stop orderly.0)
