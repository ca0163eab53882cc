-- What becomes of frames whose transmitters start together.
use Rattle.std.proofs.Common.{◌≡◌, ◌≢◌, ◌<◌, ◌+◌, ℕ, zero, suc, List, [], ◌∷◌, length, take, get_or}
use Rattle.std.proofs.Common.{MatchOption, Contains, Option, Some, None, refl, ap, sym, subst, arith, inl, inr}
use Rattle.std.specs.List.{AllZip}
use Rattle.std.proofs.lemmas.List.Elements.{All-contains, All-cons, All-weaker, All-more, All-nil}
use Rattle.can_frame.specs.Frame.{FrameValue}
use Rattle.can_levels.specs.declared.level.Level.{Level}
use Rattle.can_node_rules.specs.Contending.{arbitration_field, LosesAt, IsLeast, LosesToLeast, Fares, IsContention}
use Rattle.can_node_rules.proofs.Contending.LostFields.{not_to_itself, one_place, loses_on, Compared, fields_compared}

-- a frame doesn't lose to this one
abbrev pub Stands : FrameValue → FrameValue → Type 0
Stands f g = (n : ℕ) → ¬ LosesAt (arbitration_field f) (arbitration_field g) n

-- a frame that doesn't lose to one that stands against a third one stands against it too
stands_by : (f w g : FrameValue) → Compared (arbitration_field f) (arbitration_field w) → Stands f w → Stands w g →
    Stands f g
stands_by f w g (inl same) first second n h =
    let P : List Level → Type 0 = λ l. LosesAt l (arbitration_field g) n in
    second n (subst P same h)
stands_by f w g (inr (inl loses)) first second n h = absurd (first loses.0 loses.1)
stands_by f w g (inr (inr wins)) first second n h =
    let on = loses_on (arbitration_field w) (arbitration_field f) (arbitration_field g) wins.0 n wins.1 h in
    second on.0 on.1

-- a frame that doesn't lose to a least one is least
pub least_by : (fs : List FrameValue) (f w : FrameValue) → IsLeast fs w → Stands f w → IsLeast fs f
least_by fs f w least stands =
    All-weaker (Stands w) (Stands f) (λ g. stands_by f w g (fields_compared f w) stands) fs least

-- a frame to which a context one loses stands too
pub overtakes : (fs : List FrameValue) (f w : FrameValue) (n : ℕ) → IsLeast fs w →
    LosesAt (arbitration_field w) (arbitration_field f) n → IsLeast fs f
overtakes fs f w n least loses =
    All-weaker (Stands w) (Stands f)
    (λ g stands m h.
    let on = loses_on (arbitration_field w) (arbitration_field f) (arbitration_field g) n m loses h in
    stands on.0 on.1)
    fs least

-- a frame stands against itself
pub stands_itself : (f : FrameValue) → Stands f f
stands_itself f n h = not_to_itself (arbitration_field f) n h

-- least ones have one field
one_field : (fs : List FrameValue) (v w : FrameValue) → IsLeast fs v → IsLeast fs w → Contains fs v → Contains fs w →
    Compared (arbitration_field v) (arbitration_field w) → arbitration_field v ≡ arbitration_field w
one_field fs v w lv lw cv cw (inl same) = same
one_field fs v w lv lw cv cw (inr (inl first)) = absurd (All-contains (Stands v) fs w lv cw first.0 first.1)
one_field fs v w lv lw cv cw (inr (inr second)) = absurd (All-contains (Stands w) fs v lw cv second.0 second.1)

-- a least frame loses to no least one
least_stays : (fs : List FrameValue) (f : FrameValue) (n : ℕ) → IsLeast fs f → LosesToLeast fs f n → ⊥
least_stays fs f n least h = All-contains (Stands f) fs h.least least h.among n h.at

-- a frame loses at one place
one_loss : (fs : List FrameValue) (f : FrameValue) (n m : ℕ) → LosesToLeast fs f n → LosesToLeast fs f m → n ≡ m
one_loss fs f n m x y =
    let same = one_field fs y.least x.least y.is_least x.is_least y.among x.among (fields_compared y.least x.least) in
    let P : List Level → Type 0 = λ l. LosesAt (arbitration_field f) l m in
    one_place (arbitration_field f) (arbitration_field x.least) n m x.at (subst P same y.at)

-- what becomes of a least frame
pub least_fares : (fs : List FrameValue) (f : FrameValue) → IsLeast fs f → Fares fs f None
least_fares fs f least = record {
  goes_on = (λ _. least, λ _. refl);
  loses = λ n. (λ e. cc, λ h. absurd (least_stays fs f n least h));
}

-- what becomes of a loser
pub loser_fares : (fs : List FrameValue) (f : FrameValue) (n : ℕ) → LosesToLeast fs f n → Fares fs f (Some n)
loser_fares fs f n h = record {
  goes_on = (λ e. cc, λ least. absurd (least_stays fs f n least h));
  loses = λ m. (
    λ e. let same : n ≡ m = cc in
        subst (λ k. LosesToLeast fs f k) same h,
    λ other. ap Some (one_loss fs f n m h other),
  );
}

-- what becomes of a frame, by its comparison with a least one
pub fares_by : (fs : List FrameValue) (f w : FrameValue) (lost : Option ℕ) → Contains fs w → IsLeast fs w →
    MatchOption lost (Stands f w) (λ n. LosesAt (arbitration_field f) (arbitration_field w) n) → Fares fs f lost
fares_by fs f w None among least stands = least_fares fs f (least_by fs f w least stands)
fares_by fs f w (Some n) among least loses =
    loser_fares fs f n (record { least = w; among = among; is_least = least; at = loses })

-- the least of some frames is the least with one frame more, to which it doesn't lose
pub stays_least : (fs : List FrameValue) (i : ℕ) (f g : FrameValue) → i < length fs → g ≡ get_or fs i g →
    IsLeast (take i fs) f → Stands f g → IsLeast (take (i + 1) fs) f
stays_least fs i f g within is least stands =
    let P : FrameValue → Type 0 = λ h. Stands f h in
    All-more (Stands f) fs i g within least (subst P is stands)

-- and one to which it loses is the least then
pub next_least : (fs : List FrameValue) (i n : ℕ) (f g : FrameValue) → i < length fs → g ≡ get_or fs i g →
    IsLeast (take i fs) f →
    LosesAt (arbitration_field f) (arbitration_field g) n → IsLeast (take (i + 1) fs) g
next_least fs i n f g within is least loses =
    stays_least fs i g g within is (overtakes (take i fs) g f n least loses) (stands_itself g)

-- among some frames one is least
pub least_exists : (fs : List FrameValue) → fs ≢ [] → (f : FrameValue) × Contains fs f × IsLeast fs f
least_exists [] some = absurd (some refl)
least_exists (f ∷ []) some = (
  f,
  (0, omega arith, refl),
  All-cons (Stands f) f [] (stands_itself f) (All-nil (Stands f)),
)
least_exists (f ∷ g ∷ fs) some =
    let rest = least_exists (g ∷ fs) (λ e. cc) in
    go rest.0 rest.1 rest.2 (fields_compared f rest.0)
  where
    behind : (w : FrameValue) → Contains (g ∷ fs) w → Contains (f ∷ g ∷ fs) w
    behind w among = (suc among.0, omega (arith, among.1), among.2)

    go : (w : FrameValue) → Contains (g ∷ fs) w → IsLeast (g ∷ fs) w →
        Compared (arbitration_field f) (arbitration_field w) →
        (v : FrameValue) × Contains (f ∷ g ∷ fs) v × IsLeast (f ∷ g ∷ fs) v
    go w among least (inl same) =
        let P : List Level → Type 0 = λ l. (n : ℕ) → ¬ LosesAt (arbitration_field w) l n in
        (w, behind w among, All-cons (Stands w) f (g ∷ fs) (subst P (sym same) (stands_itself w)) least)
    go w among least (inr (inl loses)) =
        let stands : Stands w f = λ n h.
        let on = loses_on (arbitration_field f) (arbitration_field w) (arbitration_field f) loses.0 n loses.1 h in
        not_to_itself (arbitration_field f) on.0 on.1 in
        (w, behind w among, All-cons (Stands w) f (g ∷ fs) stands least)
    go w among least (inr (inr wins)) = (
      f,
      (0, omega arith, refl),
      All-cons (Stands f) f (g ∷ fs) (stands_itself f)
          (overtakes (g ∷ fs) f w wins.0 least wins.1),
    )

-- the answer at the place of a frame that goes on
none_at : (fs rest : List FrameValue) (places : List (Option ℕ)) → AllZip (Fares fs) rest places →
    (f : FrameValue) → Contains rest f → IsLeast fs f → Contains places None
none_at fs [] places zip f (k, within, is) least = absurd (omega (arith, within))
none_at fs (g ∷ rest) [] zip f among least = absurd zip
none_at fs (g ∷ rest) (p ∷ places) zip f (zero, within, is) least =
    let P : FrameValue → Type 0 = λ h. IsLeast fs h in
    (0, omega arith, zip.0.goes_on.1 (subst P (sym is) least))
none_at fs (g ∷ rest) (p ∷ places) zip f (suc k, within, is) least =
    let later = none_at fs rest places zip.1 f (k, omega (arith, within), is) least in
    (suc later.0, omega (arith, later.1), later.2)

-- where there is a frame, some frame goes on
pub some_goes_on : (fs : List FrameValue) (places : List (Option ℕ)) → fs ≢ [] → IsContention fs places →
    Contains places None
some_goes_on fs places some zip =
    let least = least_exists fs some in
    none_at fs fs places zip least.0 least.1 least.2

-- one frame has one answer
one_answer : (fs : List FrameValue) (f : FrameValue) (a b : Option ℕ) → Fares fs f a → Fares fs f b → a ≡ b
one_answer fs f None b x y = sym (y.goes_on.1 (x.goes_on.0 refl))
one_answer fs f (Some n) b x y = sym ((y.loses n).1 ((x.loses n).0 refl))

one_by_one : (fs rest : List FrameValue) (a b : List (Option ℕ)) → AllZip (Fares fs) rest a → AllZip (Fares fs) rest b →
    a ≡ b
one_by_one fs [] [] [] x y = refl
one_by_one fs [] [] (q ∷ b) x y = absurd y
one_by_one fs [] (p ∷ a) b x y = absurd x
one_by_one fs (f ∷ rest) [] b x y = absurd x
one_by_one fs (f ∷ rest) (p ∷ a) [] x y = absurd y
one_by_one fs (f ∷ rest) (p ∷ a) (q ∷ b) x y =
    let first : p ≡ q = one_answer fs f p q x.0 y.0 in
    let later : a ≡ b = one_by_one fs rest a b x.1 y.1 in
    cc

-- contention has one answer
pub one_contention : (fs : List FrameValue) (a b : List (Option ℕ)) → IsContention fs a → IsContention fs b → a ≡ b
one_contention fs a b x y = one_by_one fs fs a b x y
