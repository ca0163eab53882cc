-- The ends of a node's links, by activation.
use Rattle.std.proofs.Common.{◌≡◌, ◌≢◌, ◌⊎◌, ℕ, zero, suc, ◌+◌, ◌<◌, Option, Some, None, List, [], ◌∷◌, ◌++◌, length}
use Rattle.std.proofs.Common.{slice_index_or, slice_set, refl, ap, subst, sym, ◌∙◌, arith, inl, inr}
use Rattle.std.specs.Prelude.{slice_get, Result, Ok, Err, OnOk, OnErr, IfSome, IfNone}
use Rattle.lemmas.specs.Related.{EachRelated}
use Rattle.lemmas.proofs.Related.{each_one}
use Rattle.sja_link.specs.declared.link_id.LinkId.{LinkId}
use Rattle.sja_journal.specs.declared.sizes.TheConstants.{ITEMS_DOWN, ITEMS_UP}
use Rattle.sja_journal.specs.Lists.{Lists, nothing_yet}
use Rattle.sja_rings.specs.declared.ring_bus.RingBus.{RingBus}
use Rattle.sja_rings.specs.declared.ring_driver.RingDriver.{RingDriver}
use Rattle.sja_rings.specs.Ends.{BusLists, DriverLists, OneLink, link_of_bus, places_down, places_up}
use Rattle.sja_rings.specs.NodeRings.{ring_at, IsNewBus, IsNewDriver}

-- the one at a place
got : {R : Type 0} (rings : List R) (place : ℕ) (d : R) → place < length rings →
    slice_get rings place ≡ Some (slice_index_or rings place d)
got [] place d few = absurd (omega (arith, few))
got (r ∷ rings) zero d few = refl
got (r ∷ rings) (suc place) d few = got rings place d (omega (arith, few))

got_set : {R : Type 0} (rings : List R) (place : ℕ) (r : R) → place < length rings →
    slice_get (slice_set rings place r) place ≡ Some r
got_set [] place r few = absurd (omega (arith, few))
got_set (x ∷ rings) zero r few = refl
got_set (x ∷ rings) (suc place) r few = got_set rings place r (omega (arith, few))

got_else : {R : Type 0} (rings : List R) (place other : ℕ) (r : R) → other ≢ place →
    slice_get (slice_set rings place r) other ≡ slice_get rings other
got_else [] place other r differs = refl
got_else (x ∷ rings) zero zero r differs = absurd (differs refl)
got_else (x ∷ rings) zero (suc other) r differs = refl
got_else (x ∷ rings) (suc place) zero r differs = refl
got_else (x ∷ rings) (suc place) (suc other) r differs = got_else rings place other r (λ e. differs (ap suc e))

got_none : {R : Type 0} (rings : List R) (place : ℕ) → length rings < suc place → slice_get rings place ≡ None
got_none [] place many = refl
got_none (x ∷ rings) zero many = absurd (omega (arith, many))
got_none (x ∷ rings) (suc place) many = got_none rings place (omega (arith, many))

-- ---- by activation

pub here : {R : Type 0} (rings : List R) (place a : ℕ) (d : R) → suc place ≡ a → place < length rings →
    ring_at rings a ≡ Some (slice_index_or rings place d)
here rings place a d is few =
    subst (λ n. ring_at rings n ≡ Some (slice_index_or rings place d)) is (got rings place d few)

pub here_set : {R : Type 0} (rings : List R) (place a : ℕ) (r : R) → suc place ≡ a → place < length rings →
    ring_at (slice_set rings place r) a ≡ Some r
here_set rings place a r is few =
    subst (λ n. ring_at (slice_set rings place r) n ≡ Some r) is (got_set rings place r few)

pub elsewhere : {R : Type 0} (rings : List R) (place a b : ℕ) (r : R) → suc place ≡ a → b ≢ a →
    ring_at (slice_set rings place r) b ≡ ring_at rings b
elsewhere rings place a zero r is differs = refl
elsewhere rings place a (suc other) r is differs = got_else rings place other r (λ e. differs (ap suc e ∙ is))

pub nowhere : {R : Type 0} (rings : List R) (a : ℕ) → (a ≡ 0) ⊎ (length rings < a) → ring_at rings a ≡ None
nowhere rings zero h = refl
nowhere rings (suc place) (inl e) = absurd (omega (arith, e))
nowhere rings (suc place) (inr many) = got_none rings place many

-- what holds where there is none, and of each there is, holds whatever the activation is
got_all : {R : Type 0} (P : Option R → Type 0) → P None → (rings : List R) →
    ((place : ℕ) (x : R) → place < length rings → P (Some (slice_index_or rings place x))) → (place : ℕ) →
    P (slice_get rings place)
got_all P none [] each place = none
got_all P none (r ∷ rings) each zero = each zero r (omega arith)
got_all P none (r ∷ rings) each (suc place) =
    got_all P none rings (λ n x few. each (suc n) x (omega (arith, few))) place

pub all_at : {R : Type 0} (P : Option R → Type 0) → P None → (rings : List R) →
    ((place : ℕ) (x : R) → place < length rings → P (Some (slice_index_or rings place x))) → (a : ℕ) →
    P (ring_at rings a)
all_at P none rings each zero = none
all_at P none rings each (suc place) = got_all P none rings each place

-- ---- a call on the ring of an activation

-- that ring stands at this place, and became this one
pub record IsCall {R : Type 0} (rings : List R) (place a : ℕ) (old new : R) : Type 0 where
  pub is : suc place ≡ a
  pub few : place < length rings
  pub value : old ≡ slice_index_or rings place old

module _ {R : Type 0} (rings : List R) (place a : ℕ) (old new : R) (h : IsCall rings place a old new) where
  -- what holds of it before and after
  pub before : (P : Option R → Type 0) → P (Some old) → P (ring_at rings a)
  before P p = subst P (sym (here rings place a old h.is h.few)) (subst (λ (x : R). P (Some x)) h.value p)

  pub after : (P : Option R → Type 0) → P (Some new) → P (ring_at (slice_set rings place new) a)
  after P p = subst P (sym (here_set rings place a new h.is h.few)) p

  -- the lists that it stands for become these
  pub changed : (At : Option R → Lists → Type 0) (f : Lists → Lists) →
      ((l : Lists) → At (Some old) l → At (Some new) (f l)) →
      (l : Lists) → At (ring_at rings a) l → At (ring_at (slice_set rings place new) a) (f l)
  changed At f go l was = after (λ o. At o (f l)) (go l (subst (λ (x : R). At (Some x) l) (sym h.value)
      (subst (λ o. At o l) (here rings place a old h.is h.few) was)))

  -- those of the others stay
  pub others : (At : Option R → Lists → Type 0) (b : ℕ) → b ≢ a → (l : Lists) → At (ring_at rings b) l →
      At (ring_at (slice_set rings place new) b) l
  others At b n l was = subst (λ o. At o l) (sym (elsewhere rings place a b new h.is n)) was

  -- each is related to what it was
  pub each_set : (S : R → R → Type 0) → ((x : R) → S x x) → S old new → EachRelated S rings (slice_set rings place new)
  each_set S stays s =
      each_one S stays rings place old new h.few (subst (λ (x : R). S x new) h.value s)

-- where there is none
pub off : {R : Type 0} (rings : List R) (count a : ℕ) (P : Option R → Type 0) → count ≡ length rings →
    (a ≡ 0) ⊎ (count < a) → P None → P (ring_at rings a)
off rings count a P long none p =
    let N : ℕ → Type 0 = λ n. (a ≡ 0) ⊎ (n < a) in subst P (sym (nowhere rings a (subst N long none))) p

-- what an answer says of the ring
pub on_ok : {A X P Q : Type 0} (r : Result A X) → (P → Q) → OnOk r P → OnOk r Q
on_ok (Ok x) f p = f p
on_ok (Err e) f p = tt

pub on_err : {A X P Q : Type 0} (r : Result A X) → (P → Q) → OnErr r P → OnErr r Q
on_err (Ok x) f p = tt
on_err (Err e) f p = f p

pub if_some : {A : Type 0} {P Q : A → Type 0} (o : Option A) → ((x : A) → P x → Q x) → IfSome o P → IfSome o Q
if_some None f p = tt
if_some (Some x) f p = f x p

pub if_none : {A P Q : Type 0} (o : Option A) → (P → Q) → IfNone o P → IfNone o Q
if_none None f p = f p
if_none (Some x) f p = tt

-- ---- rings that are made one after another

-- one more, which is the last
pub new_push : {R : Type 0} (P : ℕ → R → Type 0) (rings : List R) (r : R) →
    ((place : ℕ) (x : R) → place < length rings → P place (slice_index_or rings place x)) → P (length rings) r →
    (place : ℕ) (x : R) → place < length (rings ++ r ∷ []) → P place (slice_index_or (rings ++ r ∷ []) place x)
new_push P [] r each last zero x few = last
new_push P [] r each last (suc place) x few = absurd (omega (arith, few))
new_push P (y ∷ rings) r each last zero x few = each zero x (omega arith)
new_push P (y ∷ rings) r each last (suc place) x few =
    new_push (λ n. P (suc n)) rings r (λ n z less. each (suc n) z (omega (arith, less))) last place x
    (omega (arith, few))

numbered : (node place long : ℕ) (id : LinkId) → place ≡ long →
    id ≡ record { node = node; activation = place + 1 } → id ≡ record { node = node; activation = suc long }
numbered node place long id same is =
    subst (λ n. id ≡ record { node = node; activation = n }) (omega (arith, same)) is

-- each end of a pair as it is made
pub new_bus : (node place long : ℕ) (b : RingBus) → place ≡ long →
    link_of_bus b ≡ record { node = node; activation = place + 1 } → BusLists b nothing_yet →
    places_down b ≡ ITEMS_DOWN → IsNewBus node (suc long) b
new_bus node place long b same link lists places =
    record { link = numbered node place long (link_of_bus b) same link; lists = lists; places = places }

pub new_driver : (node place long : ℕ) (b : RingBus) (d : RingDriver) → place ≡ long →
    link_of_bus b ≡ record { node = node; activation = place + 1 } → OneLink b d → DriverLists d nothing_yet →
    places_up d ≡ ITEMS_UP → IsNewDriver node (suc long) d
new_driver node place long b d same link one lists places = record {
  link = one.0 ∙ numbered node place long (link_of_bus b) same link;
  lists = lists;
  places = places;
}
