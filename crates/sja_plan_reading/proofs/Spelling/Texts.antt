-- Texts that say values, up to one that says none.
use Rattle.std.proofs.Common.{◌≡◌, ◌<◌, ◌+◌, ◌⊎◌, inl, inr, ℕ, List, [], ◌∷◌, ◌++◌, length, map, take, drop, get_or}
use Rattle.std.proofs.Common.{sym, ap, subst, ◌∙◌, Bor, take-append-drop, length-take-le, arith}
use Rattle.std.specs.List.{AllZip}
use Rattle.std.proofs.lemmas.List.{map-append, map_more, drop_more, length-map}
use Rattle.std.proofs.lemmas.Slice.Zip.{AllZip-long}
use Rattle.lemmas.proofs.Related.{related_push}
use Rattle.sja_plan_reading.specs.Words.{Text}
use Rattle.sja_plan_reading.specs.Texts.{IsFirstBad}
use Rattle.sja_plan_reading.specs.Inside.Views.{IsListFault, list_fault}
use Rattle.sja_plan_reading.specs.declared.text_fault.TextFault.{TextFault}
use Rattle.sja_plan_reading.specs.declared.text_fault.TextFault.TheVariants.{Bad, NoMemory}

-- the texts behind references
abbrev pub bytes_of : List (Bor Text) → List Text
bytes_of texts = map (λ t. t.now) texts

-- one text more was read
pub read_more : {A : Type 0} (Says : Text → A → Type 0) (texts : List (Bor Text)) (values : List A) (i : ℕ)
    (d : Bor Text) (x : A) →
    i < length texts → AllZip Says (bytes_of (take i texts)) values → Says (get_or texts i d).now x →
    AllZip Says (bytes_of (take (i + 1) texts)) (values ++ x ∷ [])
read_more Says texts values i d x within read this =
    let more = map_more (λ (t : Bor Text). t.now) texts i d within in
    subst (λ l. AllZip Says l (values ++ x ∷ [])) (sym more)
    (related_push Says (bytes_of (take i texts)) values (get_or texts i d).now x read this)

-- the first that isn't read; its number is one more than those that were
pub first_bad : {A : Type 0} (Says : Text → A → Type 0) (texts : List (Bor Text)) (values : List A)
    (i : ℕ) (d : Bor Text) →
    i < length texts → AllZip Says (bytes_of (take i texts)) values → ((x : A) → ¬ Says (get_or texts i d).now x) →
    IsFirstBad Says (bytes_of texts) (length values + 1)
first_bad Says texts values i d within read none = record {
  before = bytes_of (take i texts);
  text = (get_or texts i d).now;
  after = bytes_of (drop (i + 1) texts);
  whole = ap bytes_of (sym (take-append-drop i texts) ∙ ap (λ l. take i texts ++ l) (drop_more texts i d within))
      ∙ map-append (λ (t : Bor Text). t.now) (take i texts) (get_or texts i d ∷ drop (i + 1) texts);
  number_is = ap (λ n. n + 1) (AllZip-long Says (bytes_of (take i texts)) values read);
  values = values;
  good = read;
  bad = none;
}

-- how many were read so far
pub read_count : {A : Type 0} (Says : Text → A → Type 0) (texts : List (Bor Text)) (values : List A) (i : ℕ) →
    i < length texts → AllZip Says (bytes_of (take i texts)) values → length values ≡ i
read_count Says texts values i within read =
    AllZip-long Says (bytes_of (take i texts)) values read ∙ length-map (take i texts) (λ (t : Bor Text). t.now)
    ∙ length-take-le i texts (omega arith)

-- the fault of the first that isn't read, with its number
pub list_is_bad : {A : Type 0} (Says : Text → A → Type 0) (texts : List (Bor Text)) (values : List A)
    (i : ℕ) (d : Bor Text) (fault : TextFault) →
    i < length texts → AllZip Says (bytes_of (take i texts)) values →
    (fault ≡ NoMemory) ⊎ ((fault ≡ Bad) × ((x : A) → ¬ Says (get_or texts i d).now x)) →
    IsListFault Says (bytes_of texts) (list_fault fault (length values))
list_is_bad Says texts values i d fault within read (inl is) =
    subst (λ f. IsListFault Says (bytes_of texts) (list_fault f (length values))) (sym is) tt
list_is_bad Says texts values i d fault within read (inr (is, none)) =
    subst (λ f. IsListFault Says (bytes_of texts) (list_fault f (length values))) (sym is)
    (first_bad Says texts values i d within read none)
