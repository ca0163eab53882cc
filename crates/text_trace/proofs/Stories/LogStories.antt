-- The stories of the nodes of a log.
use Rattle.std.proofs.Common.{◌≡◌, ℕ, ◌+◌, ◌<◌, zero, suc, List, [], ◌∷◌, ◌++◌, length, refl, ap, subst}
use Rattle.std.proofs.Common.{◌==◌, arith}
use Rattle.std.specs.Prelude.{slice_index_or}
use Rattle.sja_log.specs.Log.{NodeValue}
use Rattle.sja_plan.specs.Plan.{PlanValue, steps_at}
use Rattle.text_trace.specs.TraceText.{NodeStory, AreStories, IsStory}

-- the story of a node
pub record StoryAt (plan : PlanValue) (n : NodeValue) (k m : ℕ) (stories : List NodeStory) : Type 0 where
  pub before : List NodeStory
  pub story : NodeStory
  pub after : List NodeStory
  pub whole : stories ≡ before ++ story ∷ after
  pub count : length before ≡ k
  pub is : IsStory (plan.version == 3) (steps_at plan (m + k)) n story

pub story_split : (plan : PlanValue) (m k : ℕ) (nodes : List NodeValue) (stories : List NodeStory) (d : NodeValue) →
    AreStories m plan nodes stories → k < length nodes → StoryAt plan (slice_index_or nodes k d) k m stories
story_split plan m k [] stories d are less = absurd (omega (arith, less))
story_split plan m k (n ∷ nodes) [] d are less = absurd are
story_split plan m zero (n ∷ nodes) (s ∷ stories) d are less = record {
  before = [];
  story = s;
  after = stories;
  whole = refl;
  count = refl;
  is = subst (λ x. IsStory (plan.version == 3) (steps_at plan x) n s) (omega arith) are.0;
}
story_split plan m (suc k) (n ∷ nodes) (s ∷ stories) d are less =
    let h = story_split plan (m + 1) k nodes stories d are.1 (omega (arith, less)) in
    let c = h.count in record {
      before = s ∷ h.before;
      story = h.story;
      after = h.after;
      whole = ap (λ l. s ∷ l) h.whole;
      count = omega (arith, c);
      is = subst (λ x. IsStory (plan.version == 3) (steps_at plan x) (slice_index_or nodes k d) h.story) (omega arith)
          h.is;
    }
