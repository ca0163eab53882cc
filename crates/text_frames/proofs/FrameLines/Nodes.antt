-- The lines of several nodes.
use Rattle.std.proofs.Common.{◌≡◌, ◌≤◌, ◌<◌, ◌+◌, ℕ, suc, List, [], ◌∷◌, ◌++◌, length, take, get_or}
use Rattle.std.proofs.Common.{refl, sym, ap, ap₂, ◌∙◌, subst, append-nil, append_assoc, arith}
use Rattle.std.proofs.lemmas.List.{take_more, take_all, length_push}
use Rattle.lemmas.specs.Related.{EachRelated}
use Rattle.lemmas.proofs.Related.{related_push}
use Rattle.sja_log.specs.Log.{NodeValue}
use Rattle.sja_replay.specs.declared.bit_event.BitEvent.{BitEvent}
use Rattle.text_report.specs.ReportLines.{numbered}
use Rattle.text_frames.specs.declared.started_frame.StartedFrame.{StartedFrame}
use Rattle.text_frames.specs.FrameStories.{HasTold, stories_of, values_of}
use Rattle.text_frames.specs.Inside.Walking.{PutsFrames, HaveFrames}

numbered_more : {A B : Type 0} (f : ℕ → A → List B) (n : ℕ) (xs : List A) (x : A) →
    numbered f n (xs ++ x ∷ []) ≡ numbered f n xs ++ f (n + length xs) x
numbered_more f n [] x =
    let none : n ≡ n + 0 = omega arith in append-nil (f n x) ∙ ap (λ (k : ℕ). f k x) none
numbered_more f n (a ∷ xs) x =
    let one : (n + 1) + length xs ≡ n + suc (length xs) = omega arith in
    ap (λ l. f n a ++ l) (numbered_more f (n + 1) xs x ∙ ap (λ (k : ℕ). numbered f (n + 1) xs ++ f k x) one)
    ∙ sym (append_assoc (f n a) (numbered f (n + 1) xs) (f (n + suc (length xs)) x))

-- the nodes so far
pub record HaveSome (nodes : List NodeValue) (number : ℕ) (lines : List StartedFrame) : Type 0 where
  pub told : List (List BitEvent)
  pub have : EachRelated HasTold nodes told
  pub many : length told ≡ number
  pub are : values_of lines ≡ numbered stories_of 0 told

pub some_none : (nodes : List NodeValue) (lines : List StartedFrame) → lines ≡ [] → HaveSome (take 0 nodes) 0 lines
some_none nodes lines none = record { told = []; have = tt; many = refl; are = ap values_of none }

pub some_more : (nodes : List NodeValue) (i number next : ℕ) (n : NodeValue) (olds news : List StartedFrame) →
    i < length nodes → n ≡ get_or nodes i n → HaveSome (take i nodes) number olds →
    PutsFrames number n.journal olds news → next ≡ number + 1 → HaveSome (take (i + 1) nodes) next news
some_more nodes i number next n olds news less is some puts one =
    let P : List NodeValue → Type 0 = λ l. HaveSome l next news in
    let taken : take (i + 1) nodes ≡ take i nodes ++ n ∷ [] =
    take_more nodes i n less ∙ ap (λ x. take i nodes ++ x ∷ []) (sym is) in
    let many = some.many in
    let at : number ≡ 0 + length some.told = omega (arith, many) in
    let long = length_push some.told puts.told in
    subst P (sym taken) (record {
      told = some.told ++ puts.told ∷ [];
      have = related_push HasTold (take i nodes) some.told n puts.told some.have puts.have;
      many = omega (arith, many, long, one);
      are = puts.are ∙ ap₂ (λ a (k : ℕ). a ++ stories_of k puts.told) some.are at
          ∙ sym (numbered_more stories_of 0 some.told puts.told);
    })

pub some_all : (nodes : List NodeValue) (i number : ℕ) (lines : List StartedFrame) → length nodes ≤ i →
    HaveSome (take i nodes) number lines → HaveFrames nodes lines
some_all nodes i number lines past some =
    let P : List NodeValue → Type 0 = λ l. EachRelated HasTold l some.told in
    record { told = some.told; have = subst P (take_all i nodes past) some.have; are = some.are }
