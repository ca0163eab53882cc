-- The words of addresses: decimal digits, and names of registers.
use Rattle.std.proofs.Common.{◌≡◌, ◌==◌, ◌&&◌, ◌<◌, ◌≤◌, ℕ, zero, suc, Bool, true, false, nat_lt, Option, Some, None}
use Rattle.std.proofs.Common.{option_map, List, [], ◌∷◌, drop, find, decimal, refl, subst, arith}
use Rattle.std.specs.Option.{option_or}
use Rattle.std.specs.List.{list_all}
use Rattle.std.proofs.lemmas.Bool.{and_parts, eqb-true}
use Rattle.std.proofs.lemmas.Bool.Decides.{nat_tests}
use Rattle.std.proofs.lemmas.Option.{none-some, same_Some}
use Rattle.sja_plan_reading.specs.Words.{Text, number_of}
use Rattle.sja_plan_reading.specs.Accesses.{prefixed_byte, SpellsAddress}
use Rattle.sja_plan_reading.specs.RegisterNames.{registers, register_address}
use Rattle.sja_plan_text.specs.Names.{name_in, register_name, name_or_number, address_word}
use Rattle.sja_plan_text.proofs.Spelling.Words.{is_word, decimal_word, spells}

-- in each version decimal digits spell an address
pub address_said : (version n : ℕ) → n < 256 → SpellsAddress version (decimal n) n
address_said version n h =
    let is = spells 0 255 n (omega arith) (omega arith) (omega arith) in (rw is.0 refl, omega arith)

-- ---- searches

-- what is found passes the test, and what all pass
pub found : {X : Type 0} (p q : X → Bool) (xs : List X) (x : X) → list_all q xs ≡ true → find p xs ≡ Some x →
    (p x ≡ true) × (q x ≡ true)
found p q [] x all is = absurd (none-some x is)
found p q (y ∷ ys) x all is =
    let parts = and_parts (q y) (list_all q ys) all in
    by_test (λ there. found p q ys x parts.1 there) parts.0 (p y) refl
  where
    by_test : (find p ys ≡ Some x → (p x ≡ true) × (q x ≡ true)) → q y ≡ true → (b : Bool) → p y ≡ b →
        (p x ≡ true) × (q x ≡ true)
    by_test behind here true passes =
        let same : y ≡ x = same_Some y x (rw passes at is) in
        (subst (λ z. p z ≡ true) same passes, subst (λ z. q z ≡ true) same here)
    by_test behind here false fails = behind (rw fails at is)

all_dropped : {X : Type 0} (q : X → Bool) (n : ℕ) (xs : List X) → list_all q xs ≡ true → list_all q (drop n xs) ≡ true
all_dropped q zero xs all = all
all_dropped q (suc n) [] all = refl
all_dropped q (suc n) (x ∷ xs) all = all_dropped q n xs (and_parts (q x) (list_all q xs) all).1

-- ---- names

-- the address that a word spells in version 3, where it spells one
abbrev address_in : Text → Option ℕ
address_in word = option_or (number_of word) (option_or (prefixed_byte word) (register_address word))

abbrev is_some : Option ℕ → ℕ → Bool
is_some None n = false
is_some (Some m) n = m == n

-- the name of a row is one word, and spells its address
abbrev is_own : Text × ℕ → Bool
is_own r = is_word r.0 && is_some (address_in r.0) r.1

all_own : list_all is_own registers ≡ true
unfolding register_address
all_own = refl

record IsNameOf (n : ℕ) (name : Text) : Type 0 where
  word : is_word name ≡ true
  address : address_in name ≡ Some n

some_is : (o : Option ℕ) (n : ℕ) → is_some o n ≡ true → o ≡ Some n
some_is None n h = absurd (cc)
some_is (Some m) n h = rw (eqb-true m n h) refl

own_name : (rows : List (Text × ℕ)) (n : ℕ) (name : Text) → list_all is_own rows ≡ true → name_in rows n ≡ Some name →
    IsNameOf n name
own_name rows n name all is = by_row (find (λ (r : Text × ℕ). r.1 == n) rows) refl is
  where
    by_row : (o : Option (Text × ℕ)) → find (λ (r : Text × ℕ). r.1 == n) rows ≡ o →
        option_map (λ (r : Text × ℕ). r.0) o ≡ Some name → IsNameOf n name
    by_row None there none = absurd (none-some name none)
    by_row (Some r) there some =
        let (at, own) = found (λ (r : Text × ℕ). r.1 == n) is_own rows r all there in
        let (word, spelled) = and_parts (is_word r.0) (is_some (address_in r.0) r.1) own in
        let same : r.0 ≡ name = same_Some r.0 name some in
        let is_n : r.1 ≡ n = eqb-true r.1 n at in
        subst (IsNameOf n) same
        (record { word = word; address = subst (λ k. address_in r.0 ≡ Some k) is_n (some_is _ r.1 spelled) })

either : (a b : Option Text) (P : Text → Type 0) → ((x : Text) → a ≡ Some x → P x) → ((x : Text) → b ≡ Some x → P x) →
    (x : Text) → option_or a b ≡ Some x → P x
either None b P left right x is = right x is
either (Some y) b P left right x is = left x is

name_said : (before n : ℕ) (name : Text) → register_name before n ≡ Some name → IsNameOf n name
unfolding register_name
name_said before n name is =
    either (name_in (drop before registers) n) (name_in registers n) (IsNameOf n)
    (λ x h. own_name (drop before registers) n x (all_dropped is_own before registers all_own) h)
    (λ x h. own_name registers n x all_own h) name is

-- in version 3 the word of an address is one word, and spells it
pub register_said : (version before n : ℕ) → 3 ≤ version → n < 256 →
    (is_word (address_word before n) ≡ true) × SpellsAddress version (address_word before n) n
register_said version before n raw small = by_name (register_name before n) refl
  where
    by_name : (o : Option Text) → register_name before n ≡ o →
        (is_word (name_or_number o n) ≡ true) × SpellsAddress version (name_or_number o n) n
    by_name None is = (decimal_word n (omega arith), address_said version n small)
    by_name (Some name) is =
        let own = name_said before n name is in
        let newer : nat_lt version 3 ≡ false = grind (arith, nat_tests) in
        (own.word, (rw (newer) own.address, omega arith))
