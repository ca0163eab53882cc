-- A replay after an entry between two bits.
use Rattle.std.proofs.Common.{◌≡◌, ◌≢◌, ℕ, ◌+◌, ◌≤◌, Bool, true, false, Ok, Err, Option, Some, None, List, [], ◌∷◌}
use Rattle.std.proofs.Common.{◌++◌, refl, sym, ap, ◌∙◌, subst, arith, append-nil, inl, inr}
use Rattle.can_node_rules.specs.declared.abort_outcome.AbortOutcome.{AbortOutcome}
use Rattle.can_node_rules.specs.declared.abort_outcome.AbortOutcome.TheVariants.{Unchanged, Marked, Dropped}
use Rattle.can_node_rules.specs.declared.config.Config.{Config}
use Rattle.can_node.specs.declared.node.Node.{Node}
use Rattle.can_node_rules.specs.declared.phase.Phase.{Phase}
use Rattle.can_node_rules.specs.declared.phase.Phase.TheVariants.{Reset}
use Rattle.can_node_rules.specs.declared.request.Request.{Request}
use Rattle.can_node_rules.specs.Context.{ContextValue, is_held}
use Rattle.can_node_rules.specs.Pieces.{Place}
use Rattle.can_node_rules.specs.Effects.{is_in_progress}
use Rattle.can_node_rules.specs.NextBit.{now_in}
use Rattle.can_node.specs.Stands.{StandsAt, Enters as NodeEnters, Requests, Aborts, ShowsPhase}
use Rattle.can_node_rules.specs.Outcomes.{abort_of}
use Rattle.sja_journal.specs.NodeWords.{NodeEntry, NodeStarted, NodeStopped, NodeAsked, NodeAborted, FinishedPiece}
use Rattle.sja_journal.specs.NodeWords.{IsCut}
use Rattle.sja_journal.specs.declared.up.Up.TheVariants.{Start, Credit, Send, Stop}
use Rattle.sja_journal.specs.declared.entry.Entry.{Entry}
use Rattle.sja_journal.specs.declared.entry.Entry.TheVariants.{Up as Item, Abort}
use Rattle.sja_journal.specs.Free.{credit_in, bytes_in, IsFree}
use Rattle.sja_journal.specs.Places.{place_of, past}
use Rattle.sja_journal.specs.Records.{told, record_of}
use Rattle.sja_replay.specs.declared.replay.Replay.{Replay}
use Rattle.sja_replay.specs.Replaying.{IsAt}
use Rattle.sja_replay.specs.Taking.{is_abort, TakesRequest, IsTaken, last_part}
use Rattle.can_node_rules.proofs.OneCut.SameCuts.{same_now, same_phase, same_place}
use Rattle.sja_replay.proofs.Knowledge.Places.{at_next, free_on, free_new}

-- no entry is passed, and no bit
pub record Keeps (old new : Replay) : Type 0 where
  pub bits : new.bits ≡ old.bits
  pub ahead : new.ahead ≡ old.ahead
  pub entries : new.entries ≡ old.entries

looked : (old new : Replay) → Keeps old new → (old.ahead ≡ None → old.entries ≡ []) → new.ahead ≡ None →
    new.entries ≡ []
looked old new k h none = k.entries ∙ h (sym k.ahead ∙ none)

-- an entry of which the node was told
enters : (old new : Replay) (j : List Entry) (e : Entry) (event : NodeEntry) (h : IsAt old j) → Keeps old new →
    told (place_of j).off e ≡ event ∷ [] → NodeEnters old.node new.node event →
    (past (place_of j) e).bits ≡ (place_of j).bits → new.off ≡ (past (place_of j) e).off → new.aborted ≡ is_abort e →
    IsFree (last_part (j ++ e ∷ [])) new.free → IsAt new (j ++ e ∷ [])
enters old new j e event h k is node bits off aborted free =
    let P : List NodeEntry → Type 0 = λ l. StandsAt new.node (record_of j ++ l) h.found in
    at_next new j e h.found (subst P (sym is) (node (record_of j) h.found h.stands))
    (k.bits ∙ h.bits ∙ sym bits) off aborted free (looked old new k h.looked)

-- one of which it wasn't
passes : (old new : Replay) (j : List Entry) (e : Entry) (h : IsAt old j) → Keeps old new →
    told (place_of j).off e ≡ [] → new.node ≡ old.node →
    (past (place_of j) e).bits ≡ (place_of j).bits → new.off ≡ (past (place_of j) e).off → new.aborted ≡ is_abort e →
    IsFree (last_part (j ++ e ∷ [])) new.free → IsAt new (j ++ e ∷ [])
passes old new j e h k is same bits off aborted free =
    let P : List NodeEntry → Type 0 = λ l. StandsAt new.node l h.found in
    let Q : Node → Type 0 = λ n. StandsAt n (record_of j) h.found in
    at_next new j e h.found
    (subst P (sym (ap (λ l. record_of j ++ l) is ∙ append-nil (record_of j))) (subst Q (sym same) h.stands))
    (k.bits ∙ h.bits ∙ sym bits) off aborted free (looked old new k h.looked)

-- the bytes that are free, where the entry changes nothing of them
free_same : (old new : Replay) (j : List Entry) (e : Entry) → IsAt old j →
    (past (place_of j) e).activation ≡ (place_of j).activation → bytes_in e ≡ 0 → credit_in e ≡ 0 →
    new.free ≡ old.free → IsFree (last_part (j ++ e ∷ [])) new.free
free_same old new j e h same bytes credit free =
    free_on j e old.free new.free same (omega (arith, bytes, credit, free)) h.free

-- ---- a start

pub starts : (old new : Replay) (j : List Entry) (config : Config) (h : IsAt old j) → Keeps old new →
    NodeEnters old.node new.node (NodeStarted config) → new.off ≡ false → new.aborted ≡ false → new.free ≡ 64 →
    IsAt new (j ++ Item (Start config) ∷ [])
starts old new j config h k node off aborted free =
    let e : Entry = Item (Start config) in
    let P : ℕ → Type 0 = λ n. IsFree (last_part (j ++ e ∷ [])) n in
    enters old new j e (NodeStarted config) h k refl node refl off aborted (subst P (sym free) (free_new j config))

pub start_taken : (r : Replay) (j : List Entry) (config : Config) (p : Phase) (h : IsAt r j) → ShowsPhase r.node p →
    p ≡ Reset → IsTaken j (Item (Start config))
start_taken r j config p h shown e = record {
  found = h.found;
  cut = h.stands.cut;
  takes = sym (shown (record_of j) h.found h.stands) ∙ e;
}

pub start_refused : (r : Replay) (j : List Entry) (config : Config) (p : Phase) (h : IsAt r j) → ShowsPhase r.node p →
    p ≢ Reset → IsTaken j (Item (Start config)) → ⊥
start_refused r j config p h shown ne t =
    ne (shown (record_of j) h.found h.stands ∙ same_phase (record_of j) h.found t.found h.stands.cut t.cut ∙ t.takes)

-- ---- a stop

pub stops : (old new : Replay) (j : List Entry) (h : IsAt old j) → Keeps old new →
    NodeEnters old.node new.node NodeStopped → new.off ≡ old.off → new.aborted ≡ false → new.free ≡ old.free →
    IsAt new (j ++ Item Stop ∷ [])
stops old new j h k node off aborted free =
    enters old new j (Item Stop) NodeStopped h k refl node refl (off ∙ h.off) aborted
    (free_same old new j (Item Stop) h refl refl refl free)

pub stop_taken : (r : Replay) (j : List Entry) (h : IsAt r j) → IsTaken j (Item Stop)
stop_taken r j h = record { found = h.found; cut = h.stands.cut; takes = tt }

-- ---- a credit

pub pays : (old new : Replay) (j : List Entry) (n : ℕ) (h : IsAt old j) → Keeps old new → new.node ≡ old.node →
    new.off ≡ old.off → new.aborted ≡ false → new.free ≡ old.free + n → IsAt new (j ++ Item (Credit n) ∷ [])
pays old new j n h k node off aborted free =
    passes old new j (Item (Credit n)) h k refl node refl (off ∙ h.off) aborted
    (free_on j (Item (Credit n)) old.free new.free refl (omega (arith, free)) h.free)

pub credit_taken : (r : Replay) (j : List Entry) (n : ℕ) (h : IsAt r j) → r.free + n ≤ 64 → IsTaken j (Item (Credit n))
credit_taken r j n h few =
    let f = h.free in record { found = h.found; cut = h.stands.cut; takes = omega (arith, f, few) }

pub credit_refused : (r : Replay) (j : List Entry) (n : ℕ) (h : IsAt r j) → (r.free + n ≤ 64 → ⊥) →
    IsTaken j (Item (Credit n)) → ⊥
credit_refused r j n h many t = let f = h.free in let s = t.takes in many (omega (arith, f, s))

-- ---- a request

pub asks : (old new : Replay) (j : List Entry) (request : Request) (h : IsAt old j) → Keeps old new → old.off ≡ false →
    NodeEnters old.node new.node (NodeAsked request) → new.off ≡ old.off → new.aborted ≡ false →
    new.free ≡ old.free → IsAt new (j ++ Item (Send request) ∷ [])
asks old new j request h k on node off aborted free =
    let e : Entry = Item (Send request) in
    enters old new j e (NodeAsked request) h k (ap (λ o. told o e) (sym h.off ∙ on)) node refl (off ∙ h.off) aborted
    (free_same old new j e h refl refl refl free)

pub asks_off : (old new : Replay) (j : List Entry) (request : Request) (h : IsAt old j) → Keeps old new →
    old.off ≡ true → new.node ≡ old.node → new.off ≡ old.off → new.aborted ≡ false → new.free ≡ old.free →
    IsAt new (j ++ Item (Send request) ∷ [])
asks_off old new j request h k on node off aborted free =
    let e : Entry = Item (Send request) in
    passes old new j e h k (ap (λ o. told o e) (sym h.off ∙ on)) node refl (off ∙ h.off) aborted
    (free_same old new j e h refl refl refl free)

-- whether a request is for a node
pub asks_takes : (r : Replay) (j : List Entry) (request : Request) (new : Node) (h : IsAt r j) → r.off ≡ false →
    Requests r.node new request (Ok tt) → IsTaken j (Item (Send request))
asks_takes r j request new h on requests = record {
  found = h.found;
  cut = h.stands.cut;
  takes = let P : Bool → Type 0 = λ off. TakesRequest off h.stands.cut in
      subst P (sym (sym h.off ∙ on)) (requests.1 (record_of j) h.found h.stands);
}

pub off_takes : (r : Replay) (j : List Entry) (request : Request) (h : IsAt r j) → r.off ≡ true →
    IsTaken j (Item (Send request))
off_takes r j request h off = record {
  found = h.found;
  cut = h.stands.cut;
  takes = let P : Bool → Type 0 = λ o. TakesRequest o h.stands.cut in subst P (sym (sym h.off ∙ off)) tt;
}

held_not : (held : Option Request) → is_held held ≡ true → held ≡ None → ⊥
held_not None is empty = cc
held_not (Some request) is empty = cc

pub send_refused : (r : Replay) (j : List Entry) (request back : Request) (new : Node) (h : IsAt r j) →
    r.off ≡ false → Requests r.node new request (Err back) → IsTaken j (Item (Send request)) → ⊥
send_refused r j request back new h on requests t =
    let P : Bool → Type 0 = λ off. TakesRequest off t.cut in
    let takes = subst P (sym h.off ∙ on) t.takes in
    elim (requests.2 (record_of j) h.found h.stands) [
      | inl reset ↦
          takes.0 (sym (same_place (record_of j) h.found t.found h.stands.cut t.cut) ∙ reset)
      | inr held ↦ held_not (now_in h.stands.cut).held held
          (ap (λ (c : ContextValue). c.held) (same_now (record_of j) h.found t.found h.stands.cut t.cut) ∙ takes.1)
    ]

-- ---- an abort

abbrev what_abort : {entries : List NodeEntry} {found : List FinishedPiece} → IsCut entries found → AbortOutcome
what_abort cut = abort_of (is_in_progress (now_in cut) cut.place) (now_in cut).held (now_in cut).aborted

same_abort : (entries : List NodeEntry) (found others : List FinishedPiece) (h : IsCut entries found)
    (k : IsCut entries others) → what_abort h ≡ what_abort k
same_abort entries found others h k =
    ap (λ (c : ContextValue). abort_of (is_in_progress c h.place) c.held c.aborted) (same_now entries found others h k)
    ∙ ap (λ (s : Place). abort_of (is_in_progress (now_in k) s) (now_in k).held (now_in k).aborted)
    (same_place entries found others h k)

-- one that changed the node enters it
abort_enters : (old new : Node) (result : AbortOutcome) → result ≢ Unchanged → Aborts old new result →
    NodeEnters old new NodeAborted
abort_enters old new Unchanged changed aborts = absurd (changed refl)
abort_enters old new Marked changed aborts = aborts.0
abort_enters old new Dropped changed aborts = aborts.0

pub aborts_on : (old new : Replay) (j : List Entry) (result : AbortOutcome) (h : IsAt old j) → Keeps old new →
    result ≢ Unchanged → Aborts old.node new.node result → new.off ≡ old.off → new.aborted ≡ true →
    new.free ≡ old.free → IsAt new (j ++ Abort ∷ [])
aborts_on old new j result h k changed node off aborted free =
    enters old new j Abort NodeAborted h k refl (abort_enters old.node new.node result changed node) refl
    (off ∙ h.off) aborted (free_same old new j Abort h refl refl refl free)

pub abort_taken : (r : Replay) (j : List Entry) (new : Node) (result : AbortOutcome) (h : IsAt r j) →
    result ≢ Unchanged →
    Aborts r.node new result → IsTaken j Abort
abort_taken r j new result h changed aborts = record {
  found = h.found;
  cut = h.stands.cut;
  takes = λ same. changed (aborts.1 (record_of j) h.found h.stands ∙ same);
}

pub abort_refused : (r : Replay) (j : List Entry) (new : Node) (result : AbortOutcome) (h : IsAt r j) →
    result ≡ Unchanged →
    Aborts r.node new result → IsTaken j Abort → ⊥
abort_refused r j new result h unchanged aborts t =
    t.takes (sym (same_abort (record_of j) h.found t.found h.stands.cut t.cut)
    ∙ sym (aborts.1 (record_of j) h.found h.stands) ∙ unchanged)
