-- The nodes of a bus at the beginning and at the end of a run.
use Rattle.std.proofs.Common.{◌≡◌, ℕ, zero, suc, ◌+◌, ◌<◌, false, List, [], ◌∷◌, ◌++◌, length, map, refl, sym, ap, ◌∙◌}
use Rattle.std.proofs.Common.{subst, append_assoc, arith, inl, inr}
use Rattle.std.specs.Prelude.{slice_index_or, replicate}
use Rattle.std.specs.List.{All}
use Rattle.std.proofs.lemmas.Bool.{cases_eq}
use Rattle.std.proofs.lemmas.List.{get_or_append_left, get_or_push}
use Rattle.sja_journal.specs.declared.entry.Entry.{Entry}
use Rattle.lemmas.specs.Related.{EachRelated}
use Rattle.sja_steps.specs.declared.strike.Strike.{Strike}
use Rattle.sja_bus.specs.declared.bus_node.BusNode.{BusNode}
use Rattle.sja_bus_rules.specs.declared.node_log.NodeLog.{NodeLog}
use Rattle.sja_bus_rules.specs.Lawful.{CountersAre}
use Rattle.sja_bus.specs.Inside.Following.{Follows}
use Rattle.sja_bus.specs.Inside.Ending.{IsLog}
use Rattle.sja_bus.specs.declared.pending_event.PendingEvent.TheVariants.{Nothing, Dropped}
use Rattle.sja_bus.specs.Inside.Turning.{is_untold}
use Rattle.sja_bus.specs.Inside.Rows.{IsOf, AreReady, AreCalm, journals_of, untold_of, IsBus}
use Rattle.lemmas.proofs.Related.{related_push}
use Rattle.sja_bus_rules.proofs.Wires.{wired_none}
use Rattle.sja_bus.proofs.AllNodes.Running.{journal_is, count_is}

-- ---- the beginning

-- a bus node is ready, and nothing has happened to its node
pub record IsNew (s : BusNode) (node : ℕ) : Type 0 where
  pub is_of : IsOf s node
  pub empty : s.journal.entries ≡ []
  pub nothing : s.untold ≡ Nothing

abbrev pub AreNew : ℕ → List BusNode → Type 0
AreNew n bus_nodes = (k : ℕ) (s : BusNode) → k < n → IsNew (slice_index_or bus_nodes k s) k

pub new_push : (n : ℕ) (bus_nodes : List BusNode) (x : BusNode) → length bus_nodes ≡ n → IsNew x n →
    AreNew n bus_nodes →
    AreNew (n + 1) (bus_nodes ++ x ∷ [])
new_push n bus_nodes x len new was k s few = elim (cases_eq k n) [
  | inl e ↦
      let P : BusNode → Type 0 = λ y. IsNew y k in
      let Q : ℕ → Type 0 = λ m. IsNew x m in
      subst P (sym (get_or_push bus_nodes x s k (len ∙ sym e))) (subst Q (sym e) new)
  | inr ne ↦
      let P : BusNode → Type 0 = λ y. IsNew y k in
      subst P (sym (get_or_append_left bus_nodes (x ∷ []) s k (omega (arith, len, few, ne))))
      (was k s (omega (arith, few, ne)))
]

pub new_ready : (bus_nodes : List BusNode) → AreNew (length bus_nodes) bus_nodes → AreReady bus_nodes
new_ready bus_nodes new k s few = (new k s few).is_of

pub new_journals : (bus_nodes : List BusNode) → ((k : ℕ) (s : BusNode) → k < length bus_nodes →
    (slice_index_or bus_nodes k s).journal.entries ≡ []) → journals_of bus_nodes ≡ replicate (length bus_nodes) []
new_journals [] none = refl
new_journals (s ∷ bus_nodes) none =
    ap (λ (j : List Entry). j ∷ journals_of bus_nodes) (none 0 s (omega arith))
    ∙ ap (λ l. [] ∷ l) (new_journals bus_nodes (λ k d few. none (suc k) d (omega (arith, few))))

-- nothing is to be told of bus nodes of which that is so
pub none_untold : (bus_nodes : List BusNode) → ((k : ℕ) (s : BusNode) → k < length bus_nodes →
    (slice_index_or bus_nodes k s).untold ≡ Nothing) → untold_of bus_nodes ≡ replicate (length bus_nodes) false
none_untold [] none = refl
none_untold (s ∷ bus_nodes) none =
    ap (λ n. is_untold n ∷ untold_of bus_nodes) (none 0 s (omega arith))
    ∙ ap (λ l. false ∷ l) (none_untold bus_nodes (λ k d few. none (suc k) d (omega (arith, few))))

-- nor was a request dropped
pub calm_by : (bus_nodes : List BusNode) → ((k : ℕ) (s : BusNode) → k < length bus_nodes →
    (slice_index_or bus_nodes k s).untold ≡ Nothing) → AreCalm bus_nodes
calm_by bus_nodes none k s few e = let wrong : Nothing ≡ Dropped = sym (none k s few) ∙ e in cc

pub new_bus : (script : List Strike) (bus_nodes : List BusNode) → AreNew (length bus_nodes) bus_nodes →
    IsBus script 0 bus_nodes
new_bus script [] new = record {
  ready = λ k s few. absurd (omega arith);
  calm = λ k s few. absurd (omega arith);
  wired = wired_none script [] (λ node few. absurd (omega arith));
}
new_bus script (s ∷ bus_nodes) new =
    let all = s ∷ bus_nodes in let c = count_is all in record {
      ready = new_ready all new;
      calm = calm_by all (λ k d few. (new k d few).nothing);
      wired = wired_none script (journals_of all) (λ node few. let near : node < length all = omega (arith, few, c) in
          journal_is all node s near ∙ (new node s near).empty);
    }

-- ---- the end

-- of several bus nodes these logs were made, and these are left
pub record LogsSoFar (bus_nodes rest : List BusNode) (logs : List NodeLog) : Type 0 where
  pub done : List BusNode
  pub whole : bus_nodes ≡ done ++ rest
  pub each : EachRelated IsLog done logs

pub logs_push : (bus_nodes rest left : List BusNode) (logs : List NodeLog) (s : BusNode) (g : NodeLog) →
    rest ≡ s ∷ left →
    IsLog s g → LogsSoFar bus_nodes rest logs → LogsSoFar bus_nodes left (logs ++ g ∷ [])
logs_push bus_nodes rest left logs s g e log h = record {
  done = h.done ++ s ∷ [];
  whole = h.whole ∙ ap (λ l. h.done ++ l) e ∙ sym (append_assoc h.done (s ∷ []) left);
  each = related_push IsLog h.done logs s g h.each log;
}

pub logs_journals : (bus_nodes : List BusNode) (logs : List NodeLog) → EachRelated IsLog bus_nodes logs →
    map (λ (g : NodeLog). g.journal.entries) logs ≡ journals_of bus_nodes
logs_journals [] [] h = refl
logs_journals [] (g ∷ logs) h = absurd h
logs_journals (s ∷ bus_nodes) [] h = absurd h
logs_journals (s ∷ bus_nodes) (g ∷ logs) h =
    ap (λ (j : List Entry). j ∷ map (λ (x : NodeLog). x.journal.entries) logs)
    (let e = h.0.journal in ap (λ j. j.entries) e) ∙ ap (λ l. s.journal.entries ∷ l) (logs_journals bus_nodes logs h.1)

pub logs_counters : (bus_nodes : List BusNode) (logs : List NodeLog) → EachRelated IsLog bus_nodes logs →
    ((k : ℕ) (s : BusNode) → k < length bus_nodes → Follows (slice_index_or bus_nodes k s).node
    (slice_index_or bus_nodes k s).journal.entries) →
    (node : ℕ) (d : NodeLog) → node < length logs → CountersAre (slice_index_or logs node d).journal.entries
    (slice_index_or logs node d).txerr (slice_index_or logs node d).rxerr
logs_counters [] [] h follows node d few = absurd (omega arith)
logs_counters [] (g ∷ logs) h follows node d few = absurd h
logs_counters (s ∷ bus_nodes) [] h follows node d few = absurd h
logs_counters (s ∷ bus_nodes) (g ∷ logs) h follows zero d few =
    let P : List Entry → Type 0 = λ j. CountersAre j g.txerr g.rxerr in
    subst P (sym (ap (λ j. j.entries) h.0.journal)) (h.0.counters (follows 0 s (omega arith)))
logs_counters (s ∷ bus_nodes) (g ∷ logs) h follows (suc node) d few =
    logs_counters bus_nodes logs h.1 (λ k x near. follows (suc k) x (omega (arith, near))) node d (omega (arith, few))

-- what holds of each of a list holds of its first one and of each of the rest
pub all_of_rest : (P : BusNode → Type 0) (s : BusNode) (rest all : List BusNode) → all ≡ s ∷ rest → All P all →
    P s × All P rest
all_of_rest P s rest all is h =
    let here = subst (λ (l : List BusNode). All P l) is h in
    (here 0 s (omega arith), λ k d few. here (suc k) d (omega (arith, few)))

-- and the other way
pub all_with_rest : (P : BusNode → Type 0) (s : BusNode) (rest all : List BusNode) → all ≡ s ∷ rest → P s → All P rest →
    All P all
all_with_rest P s rest all is here later =
    let each : All P (s ∷ rest) = λ k d few. by k d few in subst (λ (l : List BusNode). All P l) (sym is) each
  where
    by : (k : ℕ) (d : BusNode) → k < length (s ∷ rest) → P (slice_index_or (s ∷ rest) k d)
    by zero d few = here
    by (suc k) d few = later k d (omega (arith, few))
