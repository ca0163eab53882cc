-- The words of values: hexadecimal digits, and names of bits.
use Rattle.std.proofs.Common.{◌≡◌, ◌==◌, ◌&&◌, ◌<◌, ◌≤◌, ◌+◌, ◌/◌, ◌%◌, ◌∙◌, ℕ, Bool, true, false, not, nat_lt, nat_le}
use Rattle.std.proofs.Common.{Option, Some, None, Ok, List, [], ◌∷◌, ◌++◌, length, find, refl, sym, ap, subst, arith}
use Rattle.std.proofs.lemmas.Bool.{and_parts, not-true, eqb-true}
use Rattle.std.proofs.lemmas.Bool.Decides.{nat_tests}
use Rattle.std.proofs.lemmas.Option.{none-some, same_Some}
use Rattle.std.proofs.Common.{length-append, option_map}
use Rattle.std.specs.List.{list_all, join_with_byte}
use Rattle.hex.specs.Hex.{encode_lower, decode_sized, decode_pairs}
use Rattle.hex.proofs.HexLemmas.{decode_of-encode_lower, decode_of-ok, decode_sized-twice}
use Rattle.sja_plan_reading.specs.Words.{Text}
use Rattle.sja_plan_reading.specs.Accesses.{byte_of, prefixed_byte, SpellsValue}
use Rattle.sja_plan_reading.specs.BitNames.{bits, bit_names, parts, byte_of_names}
use Rattle.sja_plan_text.specs.Names.{set_names, are_named, names_or_digits, value_by, value_word}
use Rattle.sja_plan_text.proofs.Spelling.Words.{is_without, are_without, parts_joined, without_both, is_word}
use Rattle.sja_plan_text.proofs.Spelling.Words.{encode_word, one_byte}
use Rattle.sja_plan_text.proofs.Spelling.Addresses.{found}
use Rattle.sja_plan_text.proofs.Spelling.BitNames.{is_name, all_set, are_apart, are_known, are_themselves, limit}
use Rattle.sja_plan_text.proofs.Spelling.BitNames.{byte_named, all_among}

-- two hexadecimal digits spell a value
pub value_said : (version address v : ℕ) → v < 256 → SpellsValue version address (encode_lower (v ∷ [])) v
value_said version address v h =
    let is = decode_of-encode_lower (v ∷ []) (one_byte v h) in
    let size = (decode_of-ok (encode_lower (v ∷ [])) (v ∷ []) is).2 in
    let sized : decode_sized (encode_lower (v ∷ [])) 1 ≡ Ok (v ∷ []) =
    decode_sized-twice (encode_lower (v ∷ [])) 1 size ∙ is in
    (rw sized refl, omega arith)

-- ---- names and bars

abbrev is_nothing : Option ℕ → Bool
is_nothing None = true
is_nothing (Some n) = false

nothing : (o : Option ℕ) → is_nothing o ≡ true → o ≡ None
nothing None h = refl
nothing (Some n) h = absurd (cc)

-- a name, where it isn't empty: no bar and no space is in it, and neither digits nor `0x` stand in front
abbrev is_plain : Text → Bool
is_plain [] = true
is_plain (b ∷ bs) =
    not (48 == b) && (nat_le 2 (length (b ∷ bs)) && (is_without 124 (b ∷ bs) && (is_without 32 (b ∷ bs)
    && is_nothing (byte_of (b ∷ bs)))))

record IsPlain (b : ℕ) (bs : Text) : Type 0 where
  first : (48 == b) ≡ false
  long : 2 ≤ length (b ∷ bs)
  one : is_without 124 (b ∷ bs) ≡ true
  word : is_word (b ∷ bs) ≡ true
  none : byte_of (b ∷ bs) ≡ None

plain_parts : (b : ℕ) (bs : Text) → is_plain (b ∷ bs) ≡ true → IsPlain b bs
plain_parts b bs h =
    let (first, h1) = and_parts (not (48 == b)) _ h in
    let (long, h2) = and_parts (nat_le 2 (length (b ∷ bs))) _ h1 in
    let (one, h3) = and_parts (is_without 124 (b ∷ bs)) _ h2 in
    let (word, none) = and_parts (is_without 32 (b ∷ bs)) _ h3 in
    record {
      first = not-true (48 == b) first;
      long = grind (arith, nat_tests, long);
      one = one;
      word = word;
      none = nothing _ none;
    }

-- a word of three characters and more is no two digits
long_is_none : (w : Text) → 3 ≤ length w → byte_of w ≡ None
long_is_none w long = by_odd (length w % 2 == 1) refl
  where
    by_odd : (b : Bool) → (length w % 2 == 1) ≡ b → byte_of w ≡ None
    by_odd true is = rw is refl
    by_odd false is =
        let other : (length w / 2 == 1) ≡ false = grind (arith, nat_tests, is) in rw (is, other) refl

-- in front of a word stands no `0x`
no_prefix : (b : ℕ) (rest : Text) → (48 == b) ≡ false → prefixed_byte (b ∷ rest) ≡ None
no_prefix b rest h = rw h refl

-- what is said of names with bars between them
record AreJoined (set : List Text) : Type 0 where
  bars : are_without 124 set ≡ true
  word : is_word (join_with_byte 124 set) ≡ true
  none : byte_of (join_with_byte 124 set) ≡ None
  plain : prefixed_byte (join_with_byte 124 set) ≡ None

joined_names : (n : Text) (set : List Text) → list_all is_name (n ∷ set) ≡ true → list_all is_plain (n ∷ set) ≡ true →
    AreJoined (n ∷ set)
joined_names [] set names plain = absurd (cc)
joined_names (b ∷ bs) [] names plain =
    let p = plain_parts b bs (and_parts (is_plain (b ∷ bs)) true plain).0 in
    record { bars = rw p.one refl; word = p.word; none = p.none; plain = no_prefix b bs p.first }
joined_names (b ∷ bs) (m ∷ set) names plain =
    let (here, behind) = and_parts (is_plain (b ∷ bs)) (list_all is_plain (m ∷ set)) plain in
    let p = plain_parts b bs here in
    let rest = joined_names m set (and_parts (is_name (b ∷ bs)) (list_all is_name (m ∷ set)) names).1 behind in
    let tail = join_with_byte 124 (m ∷ set) in
    let bar : is_word (124 ∷ tail) ≡ true = rest.word in
    let count : length ((b ∷ bs) ++ 124 ∷ tail) ≡ length (b ∷ bs) + length (124 ∷ tail) =
    length-append (b ∷ bs) (124 ∷ tail) in
    record {
      bars = rw (p.one, rest.bars) refl;
      word = without_both 32 (b ∷ bs) (124 ∷ tail) p.word bar;
      none = long_is_none ((b ∷ bs) ++ 124 ∷ tail) (omega (arith, count, p.long));
      plain = no_prefix b (bs ++ 124 ∷ tail) p.first;
    }

-- ---- the names of a register

-- all that is asked of the names of a register's bits
abbrev are_fit : List Text → Bool
are_fit names =
    list_all is_plain names && (are_themselves names && (are_apart names && (are_known names names
    && limit names == 256)))

all_fit : list_all (λ (r : ℕ × List Text). are_fit r.1) bits ≡ true
unfolding decode_pairs
all_fit = refl

names_fit : (address : ℕ) (names : List Text) → bit_names address ≡ Some names → are_fit names ≡ true
unfolding bit_names
names_fit address names is = by_row (find (λ (r : ℕ × List Text). r.0 == address) bits) refl is
  where
    by_row : (o : Option (ℕ × List Text)) → find (λ (r : ℕ × List Text). r.0 == address) bits ≡ o →
        option_map (λ (r : ℕ × List Text). r.1) o ≡ Some names → are_fit names ≡ true
    by_row None there none = absurd (none-some names none)
    by_row (Some r) there some =
        let (_, fit) = found (λ (r : ℕ × List Text). r.0 == address) (λ (r : ℕ × List Text). are_fit r.1) bits r
        all_fit there in
        subst (λ l. are_fit l ≡ true) (same_Some r.1 names some) fit

-- ---- a value by names

-- the names of the bits that are set, with bars between them, name the byte
byte_said : (names : List Text) (n : Text) (set : List Text) (v : ℕ) → set_names names v ≡ n ∷ set → v < 256 →
    are_fit names ≡ true → list_all is_name (n ∷ set) ≡ true → are_without 124 (n ∷ set) ≡ true →
    byte_of_names (join_with_byte 124 (n ∷ set)) names ≡ Some v
byte_said names n set v is small fit some bars =
    let (plain, f1) = and_parts (list_all is_plain names) _ fit in
    let (own, f2) = and_parts (are_themselves names) _ f1 in
    let (apart, f3) = and_parts (are_apart names) _ f2 in
    let (known, size) = and_parts (are_known names names) (limit names == 256) f3 in
    let count : limit names ≡ 256 = eqb-true (limit names) 256 size in
    let each : list_all is_name (set_names names v) ≡ true = rw is some in
    let split : parts (join_with_byte 124 (n ∷ set)) ≡ set_names names v =
    parts_joined 124 n set bars ∙ sym is in
    rw (split, all_among names names v known each) (ap Some (byte_named names v (omega (arith, count)) own apart each))

-- the word of a value is one word, and in version 3 spells the value
record IsSpelled (version address v : ℕ) (w : Text) : Type 0 where
  word : is_word w ≡ true
  said : SpellsValue version address w v

of_digits : (version address v : ℕ) → v < 256 → IsSpelled version address v (encode_lower (v ∷ []))
of_digits version address v small =
    record { word = encode_word (v ∷ []) (one_byte v small); said = value_said version address v small }

of_names : (version address v : ℕ) (names : List Text) → 3 ≤ version → v < 256 → bit_names address ≡ Some names →
    (set : List Text) → set_names names v ≡ set → are_named set ≡ true →
    IsSpelled version address v (join_with_byte 124 set)
of_names version address v names raw small has [] is named = absurd (cc)
of_names version address v names raw small has (n ∷ set) is named =
    let fit = names_fit address names has in
    let some : list_all is_name (n ∷ set) ≡ true =
    (and_parts (nat_lt 0 (length (n ∷ set))) (list_all is_name (n ∷ set)) named).1 in
    let plain : list_all is_plain (n ∷ set) ≡ true =
    subst (λ l. list_all is_plain l ≡ true) is
    (all_set is_plain names v (and_parts (list_all is_plain names) _ fit).0) in
    let joined = joined_names n set some plain in
    let value = byte_said names n set v is small fit some joined.bars in
    let newer : nat_lt version 3 ≡ false = grind (arith, nat_tests) in
    record { word = joined.word; said = (rw (joined.none, newer, joined.plain, has) value, omega arith) }

pub bits_said : (version address v : ℕ) → 3 ≤ version → v < 256 →
    (is_word (value_word address v) ≡ true) × SpellsValue version address (value_word address v) v
bits_said version address v raw small = by_names (bit_names address) refl
  where
    of_set : (names set : List Text) → bit_names address ≡ Some names → set_names names v ≡ set →
        (b : Bool) → are_named set ≡ b → IsSpelled version address v (names_or_digits set v)
    of_set names set has is true named = rw named (of_names version address v names raw small has set is named)
    of_set names set has is false named = rw named (of_digits version address v small)

    by_names : (o : Option (List Text)) → bit_names address ≡ o →
        (is_word (value_by o v) ≡ true) × SpellsValue version address (value_by o v) v
    by_names None has = let spelled = of_digits version address v small in (spelled.word, spelled.said)
    by_names (Some names) has =
        let spelled = of_set names (set_names names v) has refl (are_named (set_names names v)) refl in
        (spelled.word, spelled.said)
