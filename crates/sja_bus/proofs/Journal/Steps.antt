-- A node follows its journal, with each thing that the bus does.
use Rattle.std.proofs.Common.{◌≡◌, ◌≢◌, ℕ, true, false, List, [], ◌∷◌, ◌++◌, refl, sym, ap, ◌∙◌, subst, append-nil}
use Rattle.std.specs.Prelude.{Ok}
use Rattle.can_node_rules.specs.declared.config.Config.{Config}
use Rattle.can_node_rules.specs.declared.request.Request.{Request}
use Rattle.can_node_rules.specs.declared.abort_outcome.AbortOutcome.{AbortOutcome}
use Rattle.can_node_rules.specs.declared.abort_outcome.AbortOutcome.TheVariants.{Unchanged, Marked, Dropped}
use Rattle.can_node.specs.declared.node.Node.{Node}
use Rattle.can_node_rules.specs.Record.{RecordEntry as Event}
use Rattle.can_node_rules.specs.Record.RecordEntry.{Start as Started, Stop as Stopped, Send as Asked}
use Rattle.can_node_rules.specs.Record.RecordEntry.{Abort as AbortedNow}
use Rattle.can_node_rules.specs.FinishedPieces.{Count, received}
use Rattle.can_node.specs.Stands.{StandsAt, Enters, Requests, Aborts}
use Rattle.sja_journal.specs.declared.up.Up.TheVariants.{Start, Credit, Send, Stop}
use Rattle.sja_journal.specs.declared.entry.Entry.{Entry}
use Rattle.sja_journal.specs.declared.entry.Entry.TheVariants.{Up as Item, Abort}
use Rattle.sja_journal.specs.Places.{place_of}
use Rattle.sja_journal.specs.Records.{told, record_of}
use Rattle.sja_journal.specs.Judged.{judged_after}
use Rattle.sja_journal.specs.Verdicts.{IsDue}
use Rattle.lemmas.specs.Picking.Picks.{nothing}
use Rattle.sja_journal.proofs.JournalEntries.Entering.{record_push, record_counted}
use Rattle.sja_journal.proofs.Ledger.Judging.{StaysIn, HasBegun, verdicts_quiet, verdicts_start}
use Rattle.sja_bus.specs.Inside.Following.{Follows}
use Rattle.sja_journal.proofs.JournalEntries.Begun.{cut_begun}

-- ---- an entry that the node was told of, or that it isn't told of

-- a new node
pub follows_new : (node : Node) → StandsAt node [] [] → Follows node []
follows_new node stands = record {
  found = [];
  stands = stands;
  verdicts = record { are = λ a. nothing; due = λ a. tt };
}

-- told of this, and it is neither a start nor a verdict
entered : (old new : Node) (j : List Entry) (e : Entry) (event : Event) → told (place_of j).off e ≡ event ∷ [] →
    StaysIn e → ((n : ℕ) → judged_after n e ≡ []) →
    ((before : List Entry) → IsDue before e) → Enters old new event → Follows old j → Follows new (j ++ e ∷ [])
entered old new j e event is stays none due enters h =
    let P : List Event → Type 0 = λ r. StandsAt new r h.found in record {
      found = h.found;
      stands = subst P (sym (record_push j e ∙ ap (λ l. record_of j ++ l) is)) (enters (record_of j) h.found h.stands);
      verdicts = verdicts_quiet j e (received h.found) stays none due h.verdicts;
    }

-- not told of it, and it is no verdict
untold : (node : Node) (j : List Entry) (e : Entry) → told (place_of j).off e ≡ [] → StaysIn e →
    ((n : ℕ) → judged_after n e ≡ []) →
    ((before : List Entry) → IsDue before e) → Follows node j → Follows node (j ++ e ∷ [])
untold node j e none_told stays none due h =
    let P : List Event → Type 0 = λ r. StandsAt node r h.found in record {
      found = h.found;
      stands = subst P (sym (record_push j e ∙ ap (λ l. record_of j ++ l) none_told
          ∙ append-nil (record_of j))) h.stands;
      verdicts = verdicts_quiet j e (received h.found) stays none due h.verdicts;
    }

-- ---- what the bus takes

pub follows_start : (old new : Node) (j : List Entry) (config : Config) → Enters old new (Started config) →
    Follows old j → Follows new (j ++ Item (Start config) ∷ [])
follows_start old new j config enters h =
    let e : Entry = Item (Start config) in
    let P : List Event → Type 0 = λ r. StandsAt new r h.found in
    let Q : Count → Type 0 = λ k. HasBegun k.starts (received h.found) in record {
      found = h.found;
      stands = subst P (sym (record_push j e)) (enters (record_of j) h.found h.stands);
      verdicts = verdicts_start j config (received h.found)
          (subst Q (record_counted j) (cut_begun (record_of j) h.found h.stands.cut)) h.verdicts;
    }

pub follows_stop : (old new : Node) (j : List Entry) → Enters old new Stopped → Follows old j →
    Follows new (j ++ Item Stop ∷ [])
follows_stop old new j enters h = entered old new j (Item Stop) Stopped refl (λ p. refl) (λ n. refl)
    (λ b. (tt, tt)) enters h

pub follows_credit : (node : Node) (j : List Entry) (n : ℕ) → Follows node j → Follows node (j ++ Item (Credit n) ∷ [])
follows_credit node j n h = untold node j (Item (Credit n)) refl (λ p. refl) (λ m. refl) (λ b. (tt, tt)) h

-- a request that the node took
pub follows_send : (old new : Node) (j : List Entry) (request : Request) → (place_of j).off ≡ false →
    Requests old new request (Ok tt) → Follows old j →
    Follows new (j ++ Item (Send request) ∷ [])
follows_send old new j request on requests h =
    entered old new j (Item (Send request)) (Asked request) (ap (λ o. told o (Item (Send request))) on) (λ p. refl)
    (λ n. refl) (λ b. (tt, tt)) requests.0 h

-- one that is dropped, since the node is off
pub follows_drop : (node : Node) (j : List Entry) (request : Request) → (place_of j).off ≡ true → Follows node j →
    Follows node (j ++ Item (Send request) ∷ [])
follows_drop node j request off h =
    untold node j (Item (Send request)) (ap (λ o. told o (Item (Send request))) off) (λ p. refl)
    (λ n. refl) (λ b. (tt, tt)) h

-- ---- an abort

pub follows_abort : (old new : Node) (j : List Entry) (result : AbortOutcome) → result ≢ Unchanged →
    Aborts old new result →
    Follows old j → Follows new (j ++ Abort ∷ [])
follows_abort old new j Unchanged changed aborts h = absurd (changed refl)
follows_abort old new j Marked changed aborts h = entered old new j Abort AbortedNow refl (λ p. refl) (λ n. refl)
    (λ b. (tt, tt)) aborts.0 h
follows_abort old new j Dropped changed aborts h = entered old new j Abort AbortedNow refl (λ p. refl) (λ n. refl)
    (λ b. (tt, tt)) aborts.0 h

-- ---- a bit
