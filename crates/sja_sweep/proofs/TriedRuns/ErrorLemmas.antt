-- The errors of a journal, bit by bit.
use Rattle.std.proofs.Common.{◌≡◌, ◌+◌, ◌<◌, ◌++◌, ◌∷◌, ℕ, List, [], Option, length, map, take, get_or, sym, ap, ◌∙◌}
use Rattle.std.proofs.Common.{subst, append_assoc}
use Rattle.std.proofs.lemmas.List.{append-nil, map-append, take_more, get_or-map}
use Rattle.std.proofs.lemmas.Slice.Zip.{AllZip-long}
use Rattle.lemmas.proofs.Related.{related_push}
use Rattle.can_node_rules.specs.declared.cause.Cause.{Cause}
use Rattle.sja_journal.specs.declared.entry.Entry.{Entry}
use Rattle.sja_replay.specs.declared.bit_event.BitEvent.{BitEvent}
use Rattle.sja_replay.specs.declared.replay.Replay.{Replay}
use Rattle.sja_replay.specs.Happened.{Happened}
use Rattle.sja_replay.specs.Replaying.{left_of, IsAt, GoesOn}
use Rattle.sja_log.specs.Log.{NodeValue}
use Rattle.sja_plan.specs.Plan.{PlanValue}
use Rattle.sja_sweep.specs.Errors.{error_in, HasErrors, TrialRunValue, IsRan}
use Rattle.sja_sweep.specs.Inside.Reaching.{HaveErrors}

-- a replay has come through the journal up to an entry, and these are the errors of the bits so far
pub record AreErrorsSoFar (journal : List Entry) (r : Replay) (errors : List (Option Cause)) : Type 0 where
  pub before : List Entry
  pub at : IsAt r before
  pub told : List BitEvent
  pub are : errors ≡ map error_in told
  pub leads : (more : List BitEvent) → Happened before (left_of r) more → Happened [] journal (told ++ more)

-- before the first entry
pub errors_begun : (journal : List Entry) (r : Replay) (errors : List (Option Cause)) → IsAt r [] →
    left_of r ≡ journal → errors ≡ [] → AreErrorsSoFar journal r errors
errors_begun journal r errors at left none = record {
  before = [];
  at = at;
  told = [];
  are = none;
  leads = λ more happened. subst (λ (l : List Entry). Happened [] l more) left happened;
}

-- after a bit more
pub errors_more : (journal : List Entry) (old new : Replay) (errors longer : List (Option Cause)) (h : BitEvent) →
    AreErrorsSoFar journal old errors →
    ((before : List Entry) → IsAt old before → GoesOn old new before (h ∷ [])) → longer ≡ errors ++ error_in h ∷ [] →
    AreErrorsSoFar journal new longer
errors_more journal old new errors longer h so_far goes pushed =
    let on = goes so_far.before so_far.at in record {
      before = on.now;
      at = on.at;
      told = so_far.told ++ h ∷ [];
      are = pushed ∙ ap (λ l. l ++ error_in h ∷ []) so_far.are ∙ sym (map-append error_in so_far.told (h ∷ []));
      leads = λ more happened. subst (λ (l : List BitEvent). Happened [] journal l)
          (sym (append_assoc so_far.told (h ∷ []) more)) (so_far.leads (h ∷ more) (on.leads more happened));
    }

-- where no bit is left
pub errors_over : (journal : List Entry) (r : Replay) (errors : List (Option Cause)) →
    AreErrorsSoFar journal r errors →
    ((before : List Entry) → IsAt r before → Happened before (left_of r) []) → HasErrors journal errors
errors_over journal r errors so_far none = record {
  told = so_far.told ++ [];
  happened = so_far.leads [] (none so_far.before so_far.at);
  are = so_far.are ∙ ap (map error_in) (sym (append-nil so_far.told));
}

-- the errors of a node more
pub nodes_more : (nodes : List NodeValue) (old new : List (List (Option Cause))) (i : ℕ) (n : NodeValue)
    (errors : List (Option Cause)) → i < length nodes → n ≡ get_or nodes i n → new ≡ old ++ errors ∷ [] →
    HaveErrors (take i nodes) old → HasErrors n.journal errors → HaveErrors (take (i + 1) nodes) new
nodes_more nodes old new i n errors less is pushed so_far one =
    let One : NodeValue → List (Option Cause) → Type 0 = λ m es. HasErrors m.journal es in
    let there : take (i + 1) nodes ≡ take i nodes ++ n ∷ [] =
    take_more nodes i n less ∙ ap (λ m. take i nodes ++ m ∷ []) (sym is) in
    let P : List NodeValue → Type 0 = λ l. HaveErrors l new in
    let Q : List (List (Option Cause)) → Type 0 = λ l. HaveErrors (take i nodes ++ n ∷ []) l in
    subst P (sym there) (subst Q (sym pushed) (related_push One (take i nodes) old n errors so_far one))

-- two runs of plans with as many nodes
pub as_many_nodes : (p q : PlanValue) (a b : TrialRunValue) → IsRan p a → IsRan q b → length p.nodes ≡ length q.nodes →
    length a.log.nodes ≡ length b.log.nodes
as_many_nodes p q a b ran other same = ran.run.run.count ∙ same ∙ sym other.run.run.count

pub as_many_errors : (p q : PlanValue) (a b : TrialRunValue) → IsRan p a → IsRan q b → length p.nodes ≡ length q.nodes →
    length a.errors ≡ length b.errors
as_many_errors p q a b ran other same =
    let One : NodeValue → List (Option Cause) → Type 0 = λ m es. HasErrors m.journal es in
    AllZip-long One a.log.nodes a.errors ran.errors ∙ as_many_nodes p q a b ran other same
    ∙ sym (AllZip-long One b.log.nodes b.errors other.errors)

-- an element that was read, as it's seen
pub read_seen : {A B : Type 0} (g : A → B) (xs : List A) (k : ℕ) (x : A) (d : B) → k < length xs →
    x ≡ get_or xs k x → g x ≡ get_or (map g xs) k d
read_seen g xs k x d less is = ap g is ∙ sym (get_or-map g xs k x d less)
