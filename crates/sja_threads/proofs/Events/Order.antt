-- An order of the events of a link along an activation's part of a journal, with an entry more.
use Rattle.std.proofs.Common.{◌≡◌, Bool, List, [], ◌∷◌, ◌++◌, sym, ap, ◌∙◌, subst, append_assoc, append-nil}
use Rattle.sja_journal.specs.declared.down.Down.{Down}
use Rattle.sja_journal.specs.declared.up.Up.{Up}
use Rattle.sja_journal.specs.declared.entry.Entry.{Entry}
use Rattle.sja_link.specs.declared.event.Event.{Event}
use Rattle.sja_journal.specs.Carried.{put_in, put_of, taken_in, taken_of}
use Rattle.lemmas.specs.Gathering.{gathered}
use Rattle.lemmas.proofs.Gathered.{gathered_push}
use Rattle.sja_thread_promises.specs.Linked.{event_in}
use Rattle.sja_threads.proofs.Events.Comes.{world, Comes}

-- an order up to here, of a driver that got so much
abbrev pub Order : List Entry → List Down → Bool → Type 0
Order q done send = Comes (gathered event_in q) (world (put_of q) (taken_of q) done (taken_of q) send)

-- with an entry more
with_entry : (q : List Entry) (e : Entry) (done : List Down) (send : Bool) →
    Comes (gathered event_in q ++ event_in e)
    (world (put_of q ++ put_in e) (taken_of q ++ taken_in e) done (taken_of q ++ taken_in e) send) →
    Order (q ++ e ∷ []) done send
with_entry q e done send c =
    subst (λ (l : List Event). Comes l (world (put_of (q ++ e ∷ [])) (taken_of (q ++ e ∷ [])) done
    (taken_of (q ++ e ∷ [])) send)) (sym (gathered_push event_in q e))
    (subst (λ (l : List Up). Comes (gathered event_in q ++ event_in e)
    (world (put_of (q ++ e ∷ [])) l done l send)) (sym (gathered_push taken_in q e))
    (subst (λ (l : List Down). Comes (gathered event_in q ++ event_in e)
    (world l (taken_of q ++ taken_in e) done (taken_of q ++ taken_in e) send)) (sym (gathered_push put_in q e)) c))

-- one by which nothing was taken, and one by which nothing was put
pub with_put : (q : List Entry) (e : Entry) (done : List Down) (send : Bool) → taken_in e ≡ [] →
    Comes (gathered event_in q ++ event_in e) (world (put_of q ++ put_in e) (taken_of q) done (taken_of q) send) →
    Order (q ++ e ∷ []) done send
with_put q e done send none c =
    with_entry q e done send
    (subst (λ (l : List Up). Comes (gathered event_in q ++ event_in e) (world (put_of q ++ put_in e) l done l send))
    (sym (ap (λ (l : List Up). taken_of q ++ l) none ∙ append-nil (taken_of q))) c)

pub with_taken : (q : List Entry) (e : Entry) (done : List Down) (send : Bool) → put_in e ≡ [] →
    Comes (gathered event_in q ++ event_in e)
    (world (put_of q) (taken_of q ++ taken_in e) done (taken_of q ++ taken_in e) send) → Order (q ++ e ∷ []) done send
with_taken q e done send none c =
    with_entry q e done send
    (subst (λ (l : List Down). Comes (gathered event_in q ++ event_in e)
    (world l (taken_of q ++ taken_in e) done (taken_of q ++ taken_in e) send))
    (sym (ap (λ (l : List Down). put_of q ++ l) none ∙ append-nil (put_of q))) c)

-- one by which the bus did nothing on the link
pub with_quiet : (q : List Entry) (e : Entry) (done : List Down) (send : Bool) → event_in e ≡ [] → put_in e ≡ [] →
    taken_in e ≡ [] → Order q done send → Order (q ++ e ∷ []) done send
with_quiet q e done send no_event no_put no_taken c =
    with_put q e done send no_taken
    (subst (λ (l : List Event). Comes l (world (put_of q ++ put_in e) (taken_of q) done (taken_of q) send))
    (sym (ap (λ (l : List Event). gathered event_in q ++ l) no_event ∙ append-nil (gathered event_in q)))
    (subst (λ (l : List Down). Comes (gathered event_in q) (world l (taken_of q) done (taken_of q) send))
    (sym (ap (λ (l : List Down). put_of q ++ l) no_put ∙ append-nil (put_of q))) c))

pub put_same : (q : List Entry) (e : Entry) → put_in e ≡ [] → put_of (q ++ e ∷ []) ≡ put_of q
put_same q e none =
    gathered_push put_in q e ∙ ap (λ (l : List Down). put_of q ++ l) none ∙ append-nil (put_of q)

pub taken_same : (q : List Entry) (e : Entry) → taken_in e ≡ [] → taken_of (q ++ e ∷ []) ≡ taken_of q
taken_same q e none =
    gathered_push taken_in q e ∙ ap (λ (l : List Up). taken_of q ++ l) none ∙ append-nil (taken_of q)

pub next_whole : (p q es : List Entry) (e : Entry) → p ≡ q ++ e ∷ es → p ≡ (q ++ e ∷ []) ++ es
next_whole p q es e whole = whole ∙ sym (append_assoc q (e ∷ []) es)
