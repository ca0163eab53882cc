-- Files that are done portion by portion.
use Rattle.std.proofs.Common.{◌≡◌, ◌≤◌, ◌++◌, ◌&&◌, ◌+◌, ◌-◌, ℕ, Bool, true, false, List, [], Option, length, map, take}
use Rattle.std.proofs.Common.{Result, drop, refl, sym, ap, ap₂, ◌∙◌, subst, append_assoc, arith, inl, inr, Some}
use Rattle.std.specs.Prelude.{slice_range}
use Rattle.std.specs.Borrow.{Bor}
use Rattle.std.specs.Io.KnownBytes.{Keeps}
use Rattle.std.specs.List.{list_all}
use Rattle.std.proofs.lemmas.List.{drop-drop, length-take, map-append}
use Rattle.std.proofs.lemmas.List.{take-append-drop, take-take}
use Rattle.std.proofs.lemmas.List.Folds.{list_all-append}
use Rattle.sja_command_line.specs.declared.plan_question.PlanQuestion.{PlanQuestion}
use Rattle.sja_program.specs.Answer.{IsLeft}
use Rattle.sja_run.specs.Files.{AreOutcomes, ShowsFiles, is_printed, of_each, printed_of, refused_of}
use Rattle.sja_run.specs.Inside.FileReads.{outcomes_in}
use Rattle.sja_run.specs.Inside.FileTexts.{AreDone, AreTold, Wrote}
use Rattle.sja_run.specs.declared.file_outcome.FileOutcome.{FileOutcome}
use Rattle.sja_run.proofs.FilesDone.FileReads.{as_many, outcomes_both}
use Rattle.sja_run.proofs.FilesDone.FileTexts.{of_both, wrote_more, wrote_nothing}

abbrev texts : List (Bor (List ℕ)) → List (List ℕ)
texts names = map (λ name. name.now) names

-- before the first portion
pub none_done : (Holds : List ℕ → Option (List ℕ) → Type 0) (q : PlanQuestion) (names : List (List ℕ))
    (a : Option (List ℕ)) (several out err : Bool) (o e : Option (List ℕ)) →
    AreDone Holds q names names a a (AreTold several true out out err err o o e e)
none_done Holds q names a several out err o e = record {
  done = [];
  outcomes = [];
  whole = refl;
  are = refl;
  told = (refl, wrote_nothing out o, wrote_nothing err e);
}

-- the texts of a portion more
wrote_both : (text : List ℕ → FileOutcome → List ℕ) (ns ms : List (List ℕ)) (os ps : List FileOutcome)
    (was now is : Bool) (old mid new : Option (List ℕ)) → length os ≡ length ns →
    Wrote was now old mid (of_each text ns os) → Wrote now is mid new (of_each text ms ps) →
    Wrote was is old new (of_each text (ns ++ ms) (os ++ ps))
wrote_both text ns ms os ps was now is old mid new len some more =
    subst (Wrote was is old new) (sym (of_both text ns ms os ps len))
    (wrote_more was now is old mid new (of_each text ns os) (of_each text ms ps) some more)

-- the names from one place to another, and those behind them
cut_names : (names : List (Bor (List ℕ))) (start end : ℕ) → start ≤ end →
    texts (drop start names) ≡ texts (slice_range names start end) ++ texts (drop end names)
cut_names names start end order =
    let on : start + (end - start) ≡ end = omega (arith, order) in
    let left : drop (end - start) (drop start names) ≡ drop end names =
    drop-drop (end - start) start names ∙ ap (λ (k : ℕ). drop k names) on in
    ap texts (sym (take-append-drop (end - start) (drop start names)))
    ∙ map-append (λ (name : Bor (List ℕ)). name.now) (take (end - start) (drop start names))
    (drop (end - start) (drop start names))
    ∙ ap (λ (l : List (Bor (List ℕ))). texts (slice_range names start end) ++ texts l) left

-- the first of a portion are no more than it has
pub few_taken : {A : Type 0} (names : List A) (start end many : ℕ) → many ≤ length (slice_range names start end) →
    many ≤ end - start
few_taken names start end many few = omega (arith, few, length-take (end - start) (drop start names))

-- and they are the portion up to the last of them
taken_range : {A : Type 0} (names : List A) (start end many : ℕ) → many ≤ length (slice_range names start end) →
    take many (slice_range names start end) ≡ slice_range names start (start + many)
taken_range names start end many few =
    let on : start + many - start ≡ many = omega arith in
    take-take many (end - start) (drop start names) (few_taken names start end many few)
    ∙ ap (λ (k : ℕ). take k (drop start names)) (sym on)

-- with the outcomes that they have
pub range_outcomes : {W E : Type 0} (items : W → List FileOutcome) (Holds : List ℕ → Option (List ℕ) → Type 0)
    (q : PlanQuestion) (names : List (Bor (List ℕ))) (start end many : ℕ) (a b : Option (List ℕ))
    (came : Result W E) → many ≤ length (slice_range names start end) →
    AreOutcomes Holds q (texts (take many (slice_range names start end))) a b
    (outcomes_in items (texts (take many (slice_range names start end))) came) →
    AreOutcomes Holds q (texts (slice_range names start (start + many))) a b
    (outcomes_in items (texts (slice_range names start (start + many))) came)
range_outcomes items Holds q names start end many a b came few are =
    subst (λ (l : List (Bor (List ℕ))). AreOutcomes Holds q (texts l) a b (outcomes_in items (texts l) came))
    (taken_range names start end many few) are

-- a portion of the names more
pub done_more : (Holds : List ℕ → Option (List ℕ) → Type 0) (q : PlanQuestion) (names : List (Bor (List ℕ)))
    (start end : ℕ) (a b c : Option (List ℕ)) (several all answered : Bool)
    (out_was out_now out_is err_was err_now err_is : Bool) (o p r e f h : Option (List ℕ)) (ps : List FileOutcome) →
    start ≤ end →
    AreDone Holds q (texts names) (texts (drop start names)) a b
    (AreTold several all out_was out_now err_was err_now o p e f) →
    AreOutcomes Holds q (texts (slice_range names start end)) b c ps → answered ≡ list_all is_printed ps →
    Wrote out_now out_is p r (of_each (printed_of several) (texts (slice_range names start end)) ps) →
    Wrote err_now err_is f h (of_each (refused_of several) (texts (slice_range names start end)) ps) →
    AreDone Holds q (texts names) (texts (drop end names)) a c
    (AreTold several (all && answered) out_was out_is err_was err_is o r e h)
done_more Holds q names start end a b c several all answered out_was out_now out_is err_was err_now err_is o p r e f h
    ps order so_far more is out err =
    let done = so_far.done in
    let outcomes = so_far.outcomes in
    let some = texts (slice_range names start end) in
    let len = as_many Holds q done a b outcomes so_far.are in
    record {
      done = done ++ some;
      outcomes = outcomes ++ ps;
      whole = so_far.whole ∙ ap (λ (l : List (List ℕ)). done ++ l) (cut_names names start end order)
          ∙ sym (append_assoc done some (texts (drop end names)));
      are = outcomes_both Holds q done some a b c outcomes ps so_far.are more;
      told = (
        ap₂ (λ (x y : Bool). x && y) so_far.told.0 is ∙ sym (list_all-append is_printed outcomes ps),
        wrote_both (printed_of several) done some outcomes ps out_was out_now out_is o p r len so_far.told.1 out,
        wrote_both (refused_of several) done some outcomes ps err_was err_now err_is e f h len so_far.told.2 err,
      );
    }

-- ---- of what words ask for

-- memory was refused while the words were read
pub files_unread : (Holds : List ℕ → Option (List ℕ) → Type 0) (q : PlanQuestion) (names : List (List ℕ)) (status : ℕ)
    (failed : Bool) (a b o r e h : Option (List ℕ)) → IsLeft (Some status) failed e h → b ≡ a → Keeps o r →
    failed ≡ false → ShowsFiles Holds q names status a b o r e h
files_unread Holds q names status failed a b o r e h (inl none) same keeps wrote = cc
files_unread Holds q names status failed a b o r e h (inr told) same keeps wrote =
    let is : status ≡ 1 = cc (told.0) in
    inr (is, same, keeps, told.1 wrote)

-- what is shown from where another call left all as it was
pub files_from : (Holds : List ℕ → Option (List ℕ) → Type 0) (q p : PlanQuestion) (ns ms : List (List ℕ)) (status : ℕ)
    (a b c x y z i o e : Option (List ℕ)) → q ≡ p → ns ≡ ms → x ≡ a → y ≡ b → z ≡ c →
    ShowsFiles Holds p ms status x i y o z e → ShowsFiles Holds q ns status a i b o c e
files_from Holds q p ns ms status a b c x y z i o e same_q same_n same_in same_out same_err shows =
    rw (same_q, same_n, sym same_in, sym same_out, sym same_err) shows
