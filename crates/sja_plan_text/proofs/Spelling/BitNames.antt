-- The names of the bits that are set in a byte, and the byte that they name.
use Rattle.std.proofs.Common.{◌≡◌, ◌≢◌, ◌==◌, ◌&&◌, ◌<◌, ◌*◌, ◌/◌, ◌%◌, ℕ, Bool, true, false, not, nat_lt}
use Rattle.std.proofs.Common.{List, [], ◌∷◌, length, map, refl, sym, ap₂, subst, arith}
use Rattle.std.specs.List.{list_all, list_any}
use Rattle.std.specs.Str.{str_eq_ignore_ascii_case}
use Rattle.std.proofs.lemmas.Bool.{and_parts, not-true, eqb-true, eqb-false, false≢true}
use Rattle.std.proofs.lemmas.Bool.Decides.{nat_tests}
use Rattle.sja_plan_reading.specs.Words.{Text}
use Rattle.sja_plan_reading.specs.BitNames.{is_among, byte}
use Rattle.sja_plan_text.specs.Names.{set_names}

abbrev pub same : Text → Text → Bool
same a b = str_eq_ignore_ascii_case a b

abbrev pub is_name : Text → Bool
is_name name = nat_lt 0 (length name)

-- what holds of all names holds of those that are set
pub all_set : (q : Text → Bool) (names : List Text) (v : ℕ) → list_all q names ≡ true →
    list_all q (set_names names v) ≡ true
all_set q [] v all = refl
all_set q (n ∷ names) v all =
    let parts = and_parts (q n) (list_all q names) all in
    by_bit parts.0 (all_set q names (v / 2) parts.1) (v % 2 == 1) refl
  where
    by_bit : q n ≡ true → list_all q (set_names names (v / 2)) ≡ true → (b : Bool) → (v % 2 == 1) ≡ b →
        list_all q (set_names (n ∷ names) v) ≡ true
    by_bit here behind true is = rw (is, here, behind) refl
    by_bit here behind false is = rw is behind

-- a name that is none of these, and they aren't it
abbrev is_apart : Text → List Text → Bool
is_apart [] names = true
is_apart (c ∷ cs) names = list_all (λ m. not (same (c ∷ cs) m) && not (same m (c ∷ cs))) names

abbrev pub are_apart : List Text → Bool
are_apart [] = true
are_apart (n ∷ names) = is_apart n names && are_apart names

-- each name is one of these
abbrev pub are_known : List Text → List Text → Bool
are_known all names = list_all (λ n. list_any (λ m. same m n) all) names

abbrev pub are_themselves : List Text → Bool
are_themselves names = list_all (λ n. same n n) names

-- the first name isn't looked for behind it
skip_first : (n : Text) (set names : List Text) → list_all (λ m. not (same n m) && not (same m n)) names ≡ true →
    map (is_among (n ∷ set)) names ≡ map (is_among set) names
skip_first n set [] all = refl
skip_first n set (m ∷ names) all =
    let (here, rest) = and_parts (not (same n m) && not (same m n)) _ all in
    let other : same n m ≡ false = not-true _ (and_parts (not (same n m)) (not (same m n)) here).0 in
    ap₂ (λ a b. a ∷ b) (rw other refl) (skip_first n set names rest)

-- nor among those that are set behind it
none_set : (n : Text) (names : List Text) (v : ℕ) → list_all (λ m. not (same n m) && not (same m n)) names ≡ true →
    list_any (λ m. same m n) (set_names names v) ≡ false
none_set n [] v all = refl
none_set n (m ∷ names) v all =
    let (here, rest) = and_parts (not (same n m) && not (same m n)) _ all in
    let other : same m n ≡ false = not-true _ (and_parts (not (same n m)) (not (same m n)) here).1 in
    by_bit other (none_set n names (v / 2) rest) (v % 2 == 1) refl
  where
    by_bit : same m n ≡ false → list_any (λ m. same m n) (set_names names (v / 2)) ≡ false → (b : Bool) →
        (v % 2 == 1) ≡ b → list_any (λ m. same m n) (set_names (m ∷ names) v) ≡ false
    by_bit other behind true is = rw (is, other) behind
    by_bit other behind false is = rw is behind

-- how many bytes so many bits are
abbrev pub limit : List Text → ℕ
limit [] = 1
limit (n ∷ names) = 2 * limit names

-- the bits of the names that are set are the byte
pub byte_named : (names : List Text) (v : ℕ) → v < limit names → are_themselves names ≡ true →
    are_apart names ≡ true → list_all is_name (set_names names v) ≡ true →
    byte (map (is_among (set_names names v)) names) ≡ v
byte_named [] v small own apart all = omega arith
byte_named ([] ∷ names) v small own apart all =
    let (_, own_rest) = and_parts (same [] []) (are_themselves names) own in
    by_bit (λ behind. byte_named names (v / 2) (omega arith) own_rest apart behind) (v % 2 == 1) refl
  where
    set : List Text
    set = set_names names (v / 2)

    by_bit : (list_all is_name set ≡ true → byte (map (is_among set) names) ≡ v / 2) → (b : Bool) → (v % 2 == 1) ≡ b →
        byte (map (is_among (set_names ([] ∷ names) v)) ([] ∷ names)) ≡ v
    by_bit rest true is = absurd (false≢true (rw is at all))
    by_bit rest false is =
        let behind : list_all is_name set ≡ true = rw is at all in
        let whole : set_names ([] ∷ names) v ≡ set = rw is refl in
        let even : v % 2 ≢ 1 = eqb-false (v % 2) 1 is in
        subst (λ s. byte (map (is_among s) ([] ∷ names)) ≡ v) (sym whole) (omega (arith, rest behind, even))
byte_named ((c ∷ cs) ∷ names) v small own apart all =
    let (self, own_rest) = and_parts (same (c ∷ cs) (c ∷ cs)) (are_themselves names) own in
    let (first, apart_rest) = and_parts (is_apart (c ∷ cs) names) (are_apart names) apart in
    by_bit self first (λ behind. byte_named names (v / 2) (omega arith) own_rest apart_rest behind) (v % 2 == 1) refl
  where
    n : Text
    n = c ∷ cs

    set : List Text
    set = set_names names (v / 2)

    by_bit : same n n ≡ true → is_apart n names ≡ true →
        (list_all is_name set ≡ true → byte (map (is_among set) names) ≡ v / 2) → (b : Bool) → (v % 2 == 1) ≡ b →
        byte (map (is_among (set_names (n ∷ names) v)) (n ∷ names)) ≡ v
    by_bit self first rest true is =
        let whole : set_names (n ∷ names) v ≡ n ∷ set = rw is refl in
        let some_set : list_all is_name (n ∷ set) ≡ true = subst (λ s. list_all is_name s ≡ true) whole all in
        let (_, behind) = and_parts (is_name n) (list_all is_name set) some_set in
        let odd : v % 2 ≡ 1 = eqb-true (v % 2) 1 is in
        let some : nat_lt 0 (length n) ≡ true = grind (arith, nat_tests) in
        let skipped = skip_first n set names first in
        subst (λ s. byte (map (is_among s) (n ∷ names)) ≡ v) (sym whole)
        (rw (some, self, skipped) (omega (arith, rest behind, odd)))
    by_bit self first rest false is =
        let whole : set_names (n ∷ names) v ≡ set = rw is refl in
        let behind : list_all is_name set ≡ true = subst (λ s. list_all is_name s ≡ true) whole all in
        let even : v % 2 ≢ 1 = eqb-false (v % 2) 1 is in
        let some : nat_lt 0 (length n) ≡ true = grind (arith, nat_tests) in
        let none = none_set n names (v / 2) first in
        subst (λ s. byte (map (is_among s) (n ∷ names)) ≡ v) (sym whole)
        (rw (some, none) (omega (arith, rest behind, even)))

-- each name that is set is a name of the register
pub all_among : (all names : List Text) (v : ℕ) → are_known all names ≡ true →
    list_all is_name (set_names names v) ≡ true → list_all (is_among all) (set_names names v) ≡ true
all_among all names v known some = both (set_names names v) some (all_set _ names v known)
  where
    both : (set : List Text) → list_all is_name set ≡ true → are_known all set ≡ true →
        list_all (is_among all) set ≡ true
    both [] h k = refl
    both (n ∷ set) h k =
        let (a, b) = and_parts (is_name n) (list_all is_name set) h in
        let (c, d) = and_parts (list_any (λ m. same m n) all) (are_known all set) k in
        rw (a, c, both set b d) refl
