-- What is written of files, one after another.
use Rattle.std.proofs.Common.{◌≡◌, ◌<◌, ◌++◌, ◌&&◌, ◌+◌, ℕ, Bool, List, [], ◌∷◌, Option, length, take, get_or, map}
use Rattle.std.proofs.Common.{refl, suc, zero, sym, ap, ap₂, ◌∙◌, subst, arith, false, append_assoc}
use Rattle.std.specs.Borrow.{Bor}
use Rattle.std.specs.List.{list_all}
use Rattle.std.proofs.KnownBytes.{Appends-nil, Appends-trans}
use Rattle.std.proofs.lemmas.List.{append-nil, take_more, map_more}
use Rattle.std.proofs.lemmas.List.Folds.{list_all-append}
use Rattle.sja_run.specs.Files.{is_printed, of_each}
use Rattle.sja_run.specs.Inside.FileReads.{all_refused}
use Rattle.sja_run.specs.Inside.FileTexts.{Wrote}
use Rattle.sja_run.specs.declared.file_outcome.FileOutcome.TheVariants.{Refused}
use Rattle.text_codec.specs.declared.command_refusal.CommandRefusal.TheVariants.{OutOfMemory}
use Rattle.sja_run.specs.declared.file_outcome.FileOutcome.{FileOutcome}

-- the names behind references
abbrev texts : List (Bor (List ℕ)) → List (List ℕ)
texts names = map (λ name. name.now) names

-- nothing
pub wrote_nothing : (was : Bool) (old : Option (List ℕ)) → Wrote was was old old []
wrote_nothing was old = λ fine. (fine, Appends-nil old)

-- one text, and then another
pub wrote_more : (was now is : Bool) (old mid new : Option (List ℕ)) (some more : List ℕ) →
    Wrote was now old mid some → Wrote now is mid new more → Wrote was is old new (some ++ more)
wrote_more was now is old mid new some more earlier later =
    λ fine. let last = later fine in
    let first = earlier last.0 in
    (first.0, Appends-trans old mid new some more first.1 last.1)

-- the texts of some files, and then of others
pub of_both : (text : List ℕ → FileOutcome → List ℕ) (ns ms : List (List ℕ)) (os ps : List FileOutcome) →
    length os ≡ length ns → of_each text (ns ++ ms) (os ++ ps) ≡ of_each text ns os ++ of_each text ms ps
of_both text [] ms [] ps len = refl
of_both text [] ms (o ∷ os) ps len = absurd (omega (arith, len))
of_both text (n ∷ ns) ms [] ps len = absurd (omega (arith, len))
of_both text (n ∷ ns) ms (o ∷ os) ps len =
    ap (λ (l : List ℕ). text n o ++ l) (of_both text ns ms os ps (omega (arith, len)))
    ∙ sym (append_assoc (text n o) (of_each text ns os) (of_each text ms ps))

-- the text of one file more
pub of_more : (text : List ℕ → FileOutcome → List ℕ) (ns : List (List ℕ)) (os : List FileOutcome) (n : List ℕ)
    (o : FileOutcome) → length os ≡ length ns →
    of_each text (ns ++ n ∷ []) (os ++ o ∷ []) ≡ of_each text ns os ++ text n o
of_more text ns os n o len =
    of_both text ns (n ∷ []) os (o ∷ []) len ∙ ap (λ (l : List ℕ). of_each text ns os ++ l) (append-nil (text n o))

-- there is one outcome of each of the first names
first_each : (names : List (Bor (List ℕ))) (os : List FileOutcome) (i : ℕ) → length os ≡ length names →
    length (take i os) ≡ length (texts (take i names))
first_each names os zero len = refl
first_each [] [] (suc i) len = refl
first_each [] (o ∷ os) (suc i) len = absurd (omega (arith, len))
first_each (n ∷ ns) [] (suc i) len = absurd (omega (arith, len))
first_each (n ∷ ns) (o ∷ os) (suc i) len = ap suc (first_each ns os i (omega (arith, len)))

-- what was written of the first files, and then of one more
wrote_one : (text : List ℕ → FileOutcome → List ℕ) (names : List (Bor (List ℕ))) (os : List FileOutcome) (i : ℕ)
    (d : Bor (List ℕ)) (e : FileOutcome) (was now is : Bool) (old mid new : Option (List ℕ)) → i < length names →
    length os ≡ length names → Wrote was now old mid (of_each text (texts (take i names)) (take i os)) →
    Wrote now is mid new (text (get_or names i d).now (get_or os i e)) →
    Wrote was is old new (of_each text (texts (take (i + 1) names)) (take (i + 1) os))
wrote_one text names os i d e was now is old mid new within len so_far this =
    let n = (get_or names i d).now in
    let o = get_or os i e in
    let more = ap₂ (of_each text) (map_more (λ (name : Bor (List ℕ)). name.now) names i d within)
    (take_more os i e (omega (arith, within, len)))
    ∙ of_more text (texts (take i names)) (take i os) n o (first_each names os i len) in
    subst (Wrote was is old new) (sym more)
    (wrote_more was now is old mid new (of_each text (texts (take i names)) (take i os)) (text n o) so_far this)

-- the same, of a file whose name and outcome were looked up
pub wrote_at : (text : List ℕ → FileOutcome → List ℕ) (names : List (Bor (List ℕ))) (os : List FileOutcome) (i : ℕ)
    (d : Bor (List ℕ)) (n : List ℕ) (o : FileOutcome) (was now is : Bool) (old mid new : Option (List ℕ)) →
    i < length names → length os ≡ length names → n ≡ (get_or names i d).now → o ≡ get_or os i o →
    Wrote was now old mid (of_each text (texts (take i names)) (take i os)) → Wrote now is mid new (text n o) →
    Wrote was is old new (of_each text (texts (take (i + 1) names)) (take (i + 1) os))
wrote_at text names os i d n o was now is old mid new within len named looked_up so_far this =
    wrote_one text names os i d o was now is old mid new within len so_far
    (subst (Wrote now is mid new) (ap₂ text named looked_up) this)

-- memory is refused for one more
refused_push : (ns : List (List ℕ)) (n : List ℕ) →
    all_refused (ns ++ n ∷ []) ≡ all_refused ns ++ Refused OutOfMemory ∷ []
refused_push [] n = refl
refused_push (m ∷ ns) n = ap (λ (l : List FileOutcome). Refused OutOfMemory ∷ l) (refused_push ns n)

as_many_refused : (ns : List (List ℕ)) → length (all_refused ns) ≡ length ns
as_many_refused [] = refl
as_many_refused (n ∷ ns) = ap suc (as_many_refused ns)

-- and that was written
pub wrote_refused : (text : List ℕ → FileOutcome → List ℕ) (names : List (Bor (List ℕ))) (i : ℕ) (d : Bor (List ℕ))
    (was now is : Bool) (old mid new : Option (List ℕ)) → i < length names →
    Wrote was now old mid (of_each text (texts (take i names)) (all_refused (texts (take i names)))) →
    Wrote now is mid new (text (get_or names i d).now (Refused OutOfMemory)) →
    Wrote was is old new (of_each text (texts (take (i + 1) names)) (all_refused (texts (take (i + 1) names))))
wrote_refused text names i d was now is old mid new within so_far this =
    let n = (get_or names i d).now in
    let ns = texts (take i names) in
    let more = ap (λ (l : List (List ℕ)). of_each text l (all_refused l))
    (map_more (λ (name : Bor (List ℕ)). name.now) names i d within)
    ∙ ap (of_each text (ns ++ n ∷ [])) (refused_push ns n)
    ∙ of_more text ns (all_refused ns) n (Refused OutOfMemory) (as_many_refused ns) in
    subst (Wrote was is old new) (sym more)
    (wrote_more was now is old mid new (of_each text ns (all_refused ns)) (text n (Refused OutOfMemory)) so_far this)

-- none of them is answered but where there are none
pub none_printed : (names : List (Bor (List ℕ))) (i : ℕ) (d : Bor (List ℕ)) (all : Bool) → i < length names →
    all ≡ list_all is_printed (all_refused (texts (take i names))) →
    (all && false) ≡ list_all is_printed (all_refused (texts (take (i + 1) names)))
none_printed names i d all within is =
    let n = (get_or names i d).now in
    let ns = texts (take i names) in
    sym (ap (λ (l : List (List ℕ)). list_all is_printed (all_refused l))
    (map_more (λ (name : Bor (List ℕ)). name.now) names i d within)
    ∙ ap (list_all is_printed) (refused_push ns n)
    ∙ list_all-append is_printed (all_refused ns) (Refused OutOfMemory ∷ [])
    ∙ ap (λ (b : Bool). b && false) (sym is))
