-- The nodes of a plan, one after another.
use Rattle.std.proofs.Common.{◌≡◌, ◌<◌, ◌≤◌, ◌+◌, ℕ, suc, List, [], ◌∷◌, ◌++◌, length, map, take, drop, get_or}
use Rattle.std.proofs.Common.{sym, ap, subst, ◌∙◌, Bor, Vec, Global, take-append-drop, All, zero, arith}
use Rattle.std.specs.List.{AllZip, AllByRecursion}
use Rattle.std.proofs.lemmas.List.{map-append, map_more, drop_more, length-map}
use Rattle.std.proofs.lemmas.Slice.Zip.{AllZip-long}
use Rattle.lemmas.proofs.Related.{related_push}
use Rattle.sja_plan_reading.specs.Words.{Text}
use Rattle.sja_plan_reading.specs.StepTexts.{SaysStep}
use Rattle.sja_plan_reading.specs.Texts.{IsFirstBad, IsFirstBadIn}
use Rattle.sja_plan_reading.specs.Document.{DocumentValue}
use Rattle.sja_plan_reading.specs.Checks.{version_of, BeforeSteps}
use Rattle.sja_plan_reading.specs.Faults.{IsDocumentFault}
use Rattle.sja_plan_reading.specs.Inside.Views.{IsListFault, step_fault}
use Rattle.sja_plan_reading.specs.declared.list_fault.ListFault.{ListFault}
use Rattle.sja_plan_reading.specs.declared.list_fault.ListFault.TheVariants.{Bad, NoMemory}
use Rattle.sja_steps.specs.declared.step.Step.{Step}

-- the texts of a node
abbrev pub node_texts : Vec (Bor Text) Global → List Text
node_texts v = map (λ t. t.now) v.items

abbrev pub steps_of : Vec Step Global → List Step
steps_of v = v.items

-- one node more was read
pub node_more : (version : ℕ) (nodes : List (Vec (Bor Text) Global)) (values : List (Vec Step Global)) (i : ℕ)
    (d : Vec (Bor Text) Global) (x : Vec Step Global) →
    i < length nodes → AllZip (AllZip (SaysStep version)) (map node_texts (take i nodes)) (map steps_of values) →
    d ≡ get_or nodes i d → AllZip (SaysStep version) (node_texts d) (steps_of x) →
    AllZip (AllZip (SaysStep version)) (map node_texts (take (i + 1) nodes)) (map steps_of (values ++ x ∷ []))
node_more version nodes values i d x within read is this =
    let more = map_more node_texts nodes i d within in
    let last = map-append steps_of values (x ∷ []) in
    let here = subst (λ v. AllZip (SaysStep version) (node_texts v) (steps_of x)) is this in
    rw (more, last) (related_push (AllZip (SaysStep version)) (map node_texts (take i nodes)) (map steps_of values)
    (node_texts (get_or nodes i d)) (steps_of x) read here)

-- the first step that isn't read; its node is the number of those that were
pub first_bad_step : (version : ℕ) (nodes : List (Vec (Bor Text) Global)) (values : List (Vec Step Global))
    (i number : ℕ) (d : Vec (Bor Text) Global) →
    i < length nodes → AllZip (AllZip (SaysStep version)) (map node_texts (take i nodes)) (map steps_of values) →
    d ≡ get_or nodes i d → IsFirstBad (SaysStep version) (node_texts d) number →
    IsFirstBadIn (SaysStep version) (map node_texts nodes) (length values) number
first_bad_step version nodes values i number d within read is this = record {
  before = map node_texts (take i nodes);
  texts = node_texts (get_or nodes i d);
  after = map node_texts (drop (i + 1) nodes);
  whole =
      ap (map node_texts) (sym (take-append-drop i nodes) ∙ ap (λ l. take i nodes ++ l) (drop_more nodes i d within))
      ∙ map-append node_texts (take i nodes) (get_or nodes i d ∷ drop (i + 1) nodes);
  list_is = sym (length-map values steps_of)
      ∙ AllZip-long (AllZip (SaysStep version)) (map node_texts (take i nodes)) (map steps_of values) read;
  values = map steps_of values;
  good = read;
  bad = subst (λ v. IsFirstBad (SaysStep version) (node_texts v) number) is this;
}

-- the fault of a document for the first step that isn't read
pub step_is_bad : (d : DocumentValue) (version : ℕ) (nodes : List (Vec (Bor Text) Global))
    (values : List (Vec Step Global)) (i : ℕ) (x : Vec (Bor Text) Global) (fault : ListFault) →
    BeforeSteps d → version ≡ version_of d → d.nodes ≡ map node_texts nodes →
    i < length nodes → AllZip (AllZip (SaysStep version)) (map node_texts (take i nodes)) (map steps_of values) →
    x ≡ get_or nodes i x → IsListFault (SaysStep version) (node_texts x) fault →
    IsDocumentFault d (step_fault (length values) fault)
step_is_bad d version nodes values i x NoMemory before same is within read this unread = tt
step_is_bad d version nodes values i x (Bad number) before same is within read this unread = (
  before,
  subst (λ v. IsFirstBadIn (SaysStep v) d.nodes (length values) number) same
      (subst (λ l. IsFirstBadIn (SaysStep version) l (length values) number) (sym is)
      (first_bad_step version nodes values i number x within read this unread)),
)

-- each of these lists is short
pub all_few : (most : ℕ) (xs : List (Vec (Bor Text) Global)) → AllByRecursion (λ v. length v.items ≤ most) xs →
    All (λ (steps : List Text). length steps ≤ most) (map node_texts xs)
all_few most [] h k d w = absurd (omega arith)
all_few most (x ∷ xs) h zero d w = omega (arith, h.0, length-map x.items (λ (t : Bor Text). t.now))
all_few most (x ∷ xs) h (suc k) d w = all_few most xs h.1 k d (omega arith)

-- one of them isn't
pub not_few : (most : ℕ) (xs : List (Vec (Bor Text) Global)) (i : ℕ) (x : Vec (Bor Text) Global) → i < length xs →
    x ≡ get_or xs i x → most < length x.items →
    ¬ All (λ (steps : List Text). length steps ≤ most) (map node_texts xs)
not_few most [] i d w is h = absurd (omega arith)
not_few most (x ∷ xs) zero d w is h = λ all.
    let few = all 0 [] (omega arith) in
    let same : length d.items ≡ length x.items = ap (λ (v : Vec (Bor Text) Global). length v.items) is in
    omega (arith, few, h, same, length-map x.items (λ (t : Bor Text). t.now))
not_few most (x ∷ xs) (suc i) d w is h = λ all.
    not_few most xs i d (omega arith) is h (λ k e v. all (suc k) e (omega arith))
