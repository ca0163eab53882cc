-- The stories of nodes, one after another, and what their node traces have told of them.
use Rattle.std.proofs.Common.{◌≡◌, ℕ, ◌+◌, ◌<◌, ◌≤◌, zero, suc, List, [], ◌∷◌, ◌++◌, length, take, get_or}
use Rattle.std.proofs.Common.{◌==◌, Bool, refl, sym, ap, ◌∙◌, subst, arith}
use Rattle.std.specs.Prelude.{slice_index_or}
use Rattle.std.proofs.lemmas.List.{length-take-le, take_more, take_all, get_or_past}
use Rattle.lemmas.specs.Related.{EachRelated}
use Rattle.sja_log.specs.Log.{NodeValue}
use Rattle.sja_plan.specs.Plan.{PlanValue, steps_at}
use Rattle.sja_replay.specs.declared.bit_event.BitEvent.{BitEvent}
use Rattle.sja_steps.specs.declared.step.Step.{Step}
use Rattle.text_trace.specs.declared.node_trace.NodeTrace.{NodeTrace}
use Rattle.text_trace.specs.TraceText.{NodeStory, AreStories}
use Rattle.text_trace.specs.Telling.{HaveCome, IsUnderway}
use Rattle.text_trace.specs.TraceProgress.{HasTold, HaveTold, IsSameTo, NodeTraceEnds}
use Rattle.text_trace.specs.TraceProgress.{AreUnderway}

-- ---- the steps of a node that isn't there

pub no_steps : (plan : PlanValue) (node : ℕ) → length plan.nodes ≤ node → [] ≡ steps_at plan node
no_steps plan node h = sym (get_or_past plan.nodes node [] h)

-- ---- before the first bit

-- one node more
one_told : (k : ℕ) (plan : PlanValue) (ns : List NodeValue) (ts : List NodeTrace) (ss : List NodeStory) (n : NodeValue)
    (t : NodeTrace) (s : NodeStory) → HaveTold k plan 0 ns ts ss →
    HasTold (plan.version == 3) (steps_at plan (k + length ns)) n 0 t s →
    HaveTold k plan 0 (ns ++ n ∷ []) (ts ++ t ∷ []) (ss ++ s ∷ [])
one_told k plan [] [] [] n t s have has =
    let same : k + 0 ≡ k = omega arith in
    let P : ℕ → Type 0 = λ m. HasTold (plan.version == 3) (steps_at plan m) n 0 t s in (subst P same has, tt)
one_told k plan [] [] (r ∷ ss) n t s have has = absurd have
one_told k plan [] (u ∷ ts) ss n t s have has = absurd have
one_told k plan (m ∷ ns) [] ss n t s have has = absurd have
one_told k plan (m ∷ ns) (u ∷ ts) [] n t s have has = absurd have
one_told k plan (m ∷ ns) (u ∷ ts) (r ∷ ss) n t s have has =
    let same : k + suc (length ns) ≡ (k + 1) + length ns = omega arith in
    let P : ℕ → Type 0 = λ i. HasTold (plan.version == 3) (steps_at plan i) n 0 t s in
    (have.0, one_told (k + 1) plan ns ts ss n t s have.1 (subst P same has))

-- the nodes so far
pub record HaveBegun (plan : PlanValue) (nodes : List NodeValue) (node_traces : List NodeTrace) : Type 0 where
  pub stories : List NodeStory
  pub have : HaveTold 0 plan 0 nodes node_traces stories

-- none yet
pub begun_none : (plan : PlanValue) (nodes : List NodeValue) (ts : List NodeTrace) → ts ≡ [] →
    HaveBegun plan (take 0 nodes) ts
begun_none plan nodes ts none =
    let P : List NodeTrace → Type 0 = λ l. HaveBegun plan (take 0 nodes) l in
    subst P (sym none) (record { stories = []; have = tt })

pub begun_more : (plan : PlanValue) (nodes : List NodeValue) (i number : ℕ) (n : NodeValue) (by_bytes : Bool)
    (steps : List Step) (ts all : List NodeTrace) (t : NodeTrace) (s : NodeStory) → i < length nodes →
    n ≡ get_or nodes i n → number ≡ i → by_bytes ≡ (plan.version == 3) → steps ≡ steps_at plan number →
    HaveBegun plan (take i nodes) ts → HasTold by_bytes steps n 0 t s → all ≡ ts ++ t ∷ [] →
    HaveBegun plan (take (i + 1) nodes) all
begun_more plan nodes i number n by_bytes steps ts all t s less is same by_bytes_is steps_are begun has pushed =
    let P : List Step → Type 0 = λ l. HasTold by_bytes l n 0 t s in
    let N : Bool → Type 0 = λ r. HasTold r (steps_at plan number) n 0 t s in
    let Q : ℕ → Type 0 = λ k. HasTold (plan.version == 3) (steps_at plan k) n 0 t s in
    let taken = length-take-le i nodes (omega (arith, less)) in
    let count : number ≡ 0 + length (take i nodes) = omega (arith, same, taken) in
    let R : List NodeValue → Type 0 = λ l. HaveTold 0 plan 0 l (ts ++ t ∷ []) (begun.stories ++ s ∷ []) in
    let S : List NodeTrace → Type 0 = λ l. HaveBegun plan (take (i + 1) nodes) l in
    let next : take (i + 1) nodes ≡ take i nodes ++ n ∷ [] =
    take_more nodes i n less ∙ ap (λ x. take i nodes ++ x ∷ []) (sym is) in
    subst S (sym pushed) (record {
      stories = begun.stories ++ s ∷ [];
      have = subst R (sym next)
          (one_told 0 plan (take i nodes) ts begun.stories n t s begun.have
          (subst Q count (subst N by_bytes_is (subst P steps_are has))));
    })

pub begun_all : (plan : PlanValue) (nodes : List NodeValue) (i : ℕ) (ts : List NodeTrace) → length nodes ≤ i →
    HaveBegun plan (take i nodes) ts → HaveBegun plan nodes ts
begun_all plan nodes i ts past begun =
    let P : List NodeValue → Type 0 = λ l. HaveBegun plan l ts in subst P (take_all i nodes past) begun

-- ---- a bit more

-- so much is told of it then
pub has_more : (by_bytes : Bool) (steps : List Step) (n : NodeValue) (bits : ℕ) (old new : NodeTrace) (s : NodeStory)
    (told : List BitEvent) → HasTold by_bytes steps n bits old s → new.steps.by_bytes ≡ by_bytes →
    new.steps.steps.now ≡ steps →
    new.steps.done.now ≡ n.done → HaveCome n.journal (suc bits) new.bits told →
    HasTold by_bytes steps n (suc bits) new (record {
      by_bytes = s.by_bytes;
      steps = s.steps;
      done = s.done;
      bits =
          told;
    })
has_more by_bytes steps n bits old new s told h by_bytes_is steps_are done_are come = record {
  by_bytes_is = by_bytes_is;
  story_by_bytes = h.story_by_bytes;
  steps_are = steps_are;
  done_are = done_are;
  story_steps = h.story_steps;
  story_done = h.story_done;
  come = come;
  fresh = λ first. absurd (omega (arith, first));
}

-- ---- all bits

pub record HasLate (t : NodeTrace) (s : NodeStory) : Type 0 where
  pub steps : t.steps.steps.now ≡ s.steps
  pub done : t.steps.done.now ≡ s.done

pub record AllTold (k : ℕ) (plan : PlanValue) (bits : ℕ) (nodes : List NodeValue) (news : List NodeTrace)
    (ss : List NodeStory) : Type 0 where
  pub stories : List NodeStory
  pub are : AreStories k plan nodes stories
  pub late : EachRelated HasLate news stories
  pub same : EachRelated (IsSameTo bits) ss stories

pub all_told : (k : ℕ) (plan : PlanValue) (bits : ℕ) (nodes : List NodeValue) (olds news : List NodeTrace)
    (ss : List NodeStory) → HaveTold k plan bits nodes olds ss → EachRelated NodeTraceEnds olds news →
    AllTold k plan bits nodes news ss
all_told k plan bits [] [] [] [] have on = record { stories = []; are = tt; late = tt; same = tt }
all_told k plan bits [] [] (u ∷ news) ss have on = absurd on
all_told k plan bits [] [] [] (s ∷ ss) have on = absurd have
all_told k plan bits [] (t ∷ olds) news ss have on = absurd have
all_told k plan bits (n ∷ nodes) [] news ss have on = absurd have
all_told k plan bits (n ∷ nodes) (t ∷ olds) [] ss have on = absurd on
all_told k plan bits (n ∷ nodes) (t ∷ olds) (u ∷ news) [] have on = absurd have
all_told k plan bits (n ∷ nodes) (t ∷ olds) (u ∷ news) (s ∷ ss) have on =
    let h = have.0 in
    let all = on.0.bits.tells n.journal bits s.bits h.come.0 in
    let rest = all_told (k + 1) plan bits nodes olds news ss have.1 on.1 in
    let story : NodeStory = record { by_bytes = s.by_bytes; steps = s.steps; done = s.done; bits = all.told } in
    record {
      stories = story ∷ rest.stories;
      are = (
        record {
          by_bytes_is = h.story_by_bytes;
          steps_are = h.story_steps;
          done_are = h.story_done;
          bits_are = all.are;
        },
        rest.are,
      );
      late = (
        record {
          steps = on.0.same.steps ∙ h.steps_are ∙ sym h.story_steps;
          done = on.0.same.done ∙ h.done_are ∙ sym h.story_done;
        },
        rest.late,
      );
      same = (record { steps = refl; done = refl; by_bytes = refl; same = all.same }, rest.same);
    }

-- each one is underway
pub all_underway : (k : ℕ) (plan : PlanValue) (bits : ℕ) (nodes : List NodeValue) (ts : List NodeTrace)
    (ss : List NodeStory) → HaveTold k plan bits nodes ts ss → AreUnderway ts
all_underway k plan bits [] [] [] have = tt
all_underway k plan bits [] [] (s ∷ ss) have = absurd have
all_underway k plan bits [] (t ∷ ts) ss have = absurd have
all_underway k plan bits (n ∷ nodes) [] ss have = tt
all_underway k plan bits (n ∷ nodes) (t ∷ ts) [] have = absurd have
all_underway k plan bits (n ∷ nodes) (t ∷ ts) (s ∷ ss) have = (
  record { journal = n.journal; bits = bits; told = s.bits; come = have.0.come.0 },
  all_underway (k + 1) plan bits nodes ts ss have.1,
)

pub underway_at : (ts : List NodeTrace) (k : ℕ) (d : NodeTrace) → AreUnderway ts → k < length ts →
    IsUnderway (slice_index_or ts k d).bits
underway_at [] k d are less = absurd (omega (arith, less))
underway_at (t ∷ ts) zero d are less = are.0
underway_at (t ∷ ts) (suc k) d are less = underway_at ts k d are.1 (omega (arith, less))
