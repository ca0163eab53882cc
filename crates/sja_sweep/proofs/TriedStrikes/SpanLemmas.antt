-- Runs of bits, one strike after another.
use Rattle.std.proofs.Common.{◌≡◌, ℕ, ◌+◌, Bool, true, false, cond, ◌&&◌, List, [], ◌∷◌, ◌++◌, refl, sym, ap, ap₂, ◌∙◌}
use Rattle.std.proofs.Common.{append_assoc, ◌<◌, length, map, drop, get_or}
use Rattle.std.specs.Str.{bytes_eq}
use Rattle.std.proofs.lemmas.Slice.Eq.{bytes_eq-Decides}
use Rattle.lemmas.specs.Gathering.{gathered}
use Rattle.std.proofs.lemmas.List.{drop_more}
use Rattle.std.proofs.lemmas.Bool.{and_parts}
use Rattle.sja_sweep.specs.declared.trial_outcome.TrialOutcome.{TrialOutcome}
use Rattle.sja_sweep.specs.Inside.Reaching.{outcome_value}
use Rattle.sja_sweep.specs.Spans.{SpanValue, is_next, are_next, span_of, goes_on, joined, before_all, spans}

-- where one goes on in another, both have one outcome
same_words : (a b : SpanValue) → goes_on a b ≡ true → a.words ≡ b.words
same_words a b h =
    (bytes_eq-Decides a.words b.words).0
    (and_parts (is_next a.last.first b.first.first && are_next a.last.second b.first.second)
    (bytes_eq a.words b.words) h).1

-- whether one goes on in two that are joined is whether it goes on in the first of them
joined_front : (o a b : SpanValue) → goes_on a b ≡ true → goes_on o (joined a b) ≡ goes_on o a
joined_front o a b h =
    ap (λ w. (is_next o.last.first a.first.first && are_next o.last.second a.first.second) && bytes_eq o.words w)
    (sym (same_words a b h))

-- one that goes on in the next, before all others
before_joined : (o n : SpanValue) (ss : List SpanValue) → goes_on o n ≡ true →
    before_all o (before_all n ss) ≡ before_all (joined o n) ss
before_joined o n [] h = ap (λ c. cond c (joined o n ∷ []) (o ∷ n ∷ [])) h
before_joined o n (s ∷ ss) h = by_test (goes_on n s) refl
  where
    by_test : (b : Bool) → goes_on n s ≡ b → before_all o (before_all n (s ∷ ss)) ≡ before_all (joined o n) (s ∷ ss)
    by_test true is =
        ap (λ c. before_all o (cond c (joined n s ∷ ss) (n ∷ s ∷ ss))) is
        ∙ ap (λ c. cond c (joined o (joined n s) ∷ ss) (o ∷ joined n s ∷ ss)) (joined_front o n s is ∙ h)
        ∙ sym (ap (λ c. cond c (joined (joined o n) s ∷ ss) (joined o n ∷ s ∷ ss)) is)
    by_test false is =
        ap (λ c. before_all o (cond c (joined n s ∷ ss) (n ∷ s ∷ ss))) is
        ∙ ap (λ c. cond c (joined o n ∷ s ∷ ss) (o ∷ n ∷ s ∷ ss)) h
        ∙ sym (ap (λ c. cond c (joined (joined o n) s ∷ ss) (joined o n ∷ s ∷ ss)) is)

-- one that doesn't
before_apart : (o n : SpanValue) (ss : List SpanValue) → goes_on o n ≡ false →
    before_all o (before_all n ss) ≡ o ∷ before_all n ss
before_apart o n [] h = ap (λ c. cond c (joined o n ∷ []) (o ∷ n ∷ [])) h
before_apart o n (s ∷ ss) h = by_test (goes_on n s) refl
  where
    by_test : (b : Bool) → goes_on n s ≡ b → before_all o (before_all n (s ∷ ss)) ≡ o ∷ before_all n (s ∷ ss)
    by_test true is =
        ap (λ c. before_all o (cond c (joined n s ∷ ss) (n ∷ s ∷ ss))) is
        ∙ ap (λ c. cond c (joined o (joined n s) ∷ ss) (o ∷ joined n s ∷ ss)) (joined_front o n s is ∙ h)
        ∙ sym (ap (λ c. o ∷ cond c (joined n s ∷ ss) (n ∷ s ∷ ss)) is)
    by_test false is =
        ap (λ c. before_all o (cond c (joined n s ∷ ss) (n ∷ s ∷ ss))) is
        ∙ ap (λ c. cond c (joined o n ∷ s ∷ ss) (o ∷ n ∷ s ∷ ss)) h
        ∙ sym (ap (λ c. o ∷ cond c (joined n s ∷ ss) (n ∷ s ∷ ss)) is)

-- what was written, and the lines of the rest: the open one goes on in the next
pub text_joined : (f : SpanValue → List ℕ) (text whole : List ℕ) (o n : SpanValue) (ss : List SpanValue) →
    goes_on o n ≡ true → text ++ gathered f (before_all o (before_all n ss)) ≡ whole →
    text ++ gathered f (before_all (joined o n) ss) ≡ whole
text_joined f text whole o n ss h so_far = ap (λ l. text ++ gathered f l) (sym (before_joined o n ss h)) ∙ so_far

-- it doesn't, and its line is written
pub text_apart : (f : SpanValue → List ℕ) (text new whole : List ℕ) (o n : SpanValue) (ss : List SpanValue) →
    goes_on o n ≡ false → new ≡ text ++ f o → text ++ gathered f (before_all o (before_all n ss)) ≡ whole →
    new ++ gathered f (before_all n ss) ≡ whole
text_apart f text new whole o n ss h wrote so_far =
    ap (λ t. t ++ gathered f (before_all n ss)) wrote
    ∙ append_assoc text (f o) (gathered f (before_all n ss))
    ∙ ap (λ l. text ++ gathered f l) (sym (before_apart o n ss h)) ∙ so_far

-- those of the outcomes that are left: the first one before the others
pub told_next : (rest : List TrialOutcome) (i : ℕ) (told : TrialOutcome) (n : SpanValue) → i < length rest →
    told ≡ get_or rest i told →
    n ≡ span_of (outcome_value told) →
    spans (map outcome_value (drop i rest)) ≡ before_all n (spans (map outcome_value (drop (i + 1) rest)))
told_next rest i told n less is seen =
    ap (λ l. spans (map outcome_value l)) (drop_more rest i told less ∙ ap (λ y. y ∷ drop (i + 1) rest) (sym is))
    ∙ ap (λ s. before_all s (spans (map outcome_value (drop (i + 1) rest)))) (sym seen)

-- the next one, by what a test of it said
pub step_joined : (f : SpanValue → List ℕ) (text text' whole : List ℕ) (o n o' : SpanValue) (ss all : List SpanValue)
    (t : Bool) → t ≡ true → t ≡ goes_on o n → o' ≡ joined o n → text' ≡ text → all ≡ before_all n ss →
    text ++ gathered f (before_all o all) ≡ whole → text' ++ gathered f (before_all o' ss) ≡ whole
step_joined f text text' whole o n o' ss all t holds tests both same_text first so_far =
    ap₂ (λ x a. x ++ gathered f (before_all a ss)) same_text both
    ∙ text_joined f text whole o n ss (sym tests ∙ holds)
    (ap (λ l. text ++ gathered f (before_all o l)) (sym first) ∙ so_far)

pub step_apart : (f : SpanValue → List ℕ) (text text' whole : List ℕ) (o n o' : SpanValue) (ss all : List SpanValue)
    (t : Bool) → t ≡ false → t ≡ goes_on o n → o' ≡ n → text' ≡ text ++ f o → all ≡ before_all n ss →
    text ++ gathered f (before_all o all) ≡ whole → text' ++ gathered f (before_all o' ss) ≡ whole
step_apart f text text' whole o n o' ss all t fails tests next wrote first so_far =
    ap (λ a. text' ++ gathered f (before_all a ss)) next
    ∙ text_apart f text text' whole o n ss (sym tests ∙ fails) wrote
    (ap (λ l. text ++ gathered f (before_all o l)) (sym first) ∙ so_far)
