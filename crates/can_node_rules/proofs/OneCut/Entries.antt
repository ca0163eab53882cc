-- Lists of entries: where a record has a start, a stop or bus-off, and where a slice ends.
use Rattle.std.proofs.Common.{◌≡◌, ◌≢◌, ◌⊎◌, inl, inr, List, [], ◌∷◌, ◌++◌, refl, ap, sym, subst, ◌∙◌, append_assoc}
use Rattle.std.proofs.lemmas.List.{append-nil, append_cancel_left, same_from_push}
use Rattle.lemmas.proofs.Lists.{fronts, last_of}
use Rattle.can_node_rules.specs.declared.config.Config.{Config}
use Rattle.can_node_rules.specs.Bits.{recessive_bit, recessive_bits}
use Rattle.can_node_rules.specs.Context.{ContextValue}
use Rattle.can_node_rules.specs.Pieces.{Place}
use Rattle.can_node_rules.specs.Record.{RecordEntry, bits_in, Inner, BeginsInBit, EndsInBit, IsSlice}
use Rattle.can_node_rules.specs.Record.RecordEntry.{Start, Stop, OneBit, BusOff}
use Rattle.can_node_rules.specs.Record.Inner.{none_left, samples, sends, aborts}
use Rattle.can_node_rules.specs.Cut.{IsOpenAt}
use Rattle.can_node_rules.specs.Cut.IsOpenAt.{rests, nothing, begun}
use Rattle.can_node_rules.proofs.Machine.Along.{bits_both}
use Rattle.can_node_rules.proofs.OneCut.Slices.{slice_of}

-- a start, a stop or bus-off: what no piece has between its bits
pub data IsOuter : RecordEntry → Type 0 where
  start : (config : Config) → IsOuter (Start config)
  stop : IsOuter Stop
  off : IsOuter BusOff

-- it isn't among the entries of a piece
pub outer_or_inner : (entry : RecordEntry) (l : List RecordEntry) → IsOuter entry → Inner (entry ∷ l) → ⊥
outer_or_inner entry l (start config) h = elim h [ ]
outer_or_inner entry l stop h = elim h [ ]
outer_or_inner entry l off h = elim h [ ]

-- the entries of a piece after the first
inner_rest : {entry : RecordEntry} {l : List RecordEntry} → Inner (entry ∷ l) → Inner l
inner_rest (samples b h) = h
inner_rest (sends request h) = h
inner_rest (aborts h) = h

-- the first start, stop or bus-off of a record is one entry at one place
pub outer_once : (a b x y : List RecordEntry) (e f : RecordEntry) → Inner a → Inner b → IsOuter e → IsOuter f →
    a ++ e ∷ x ≡ b ++ f ∷ y → (a ≡ b) × (e ≡ f)
outer_once [] [] x y e f h k out other same = (refl, cc)
outer_once [] (w ∷ b) x y e f h k out other same =
    let first : e ≡ w = cc in
    absurd (outer_or_inner w b (subst IsOuter first out) k)
outer_once (v ∷ a) [] x y e f h k out other same =
    let first : f ≡ v = cc in
    absurd (outer_or_inner v a (subst IsOuter first other) h)
outer_once (v ∷ a) (w ∷ b) x y e f h k out other same =
    let first : v ≡ w = cc in
    let rest : a ++ e ∷ x ≡ b ++ f ∷ y = cc in
    let once = outer_once a b x y e f (inner_rest h) (inner_rest k) out other rest in
    let fronts_same = once.0 in
    (cc, once.1)

-- the entries of a piece stand before it
pub inner_before : (a b x y : List RecordEntry) (f : RecordEntry) → Inner a → IsOuter f → a ++ x ≡ b ++ f ∷ y →
    (m : List RecordEntry) × (b ≡ a ++ m)
inner_before [] b x y f h out same = (b, refl)
inner_before (v ∷ a) [] x y f h out same =
    let first : f ≡ v = cc in
    absurd (outer_or_inner v a (subst IsOuter first out) h)
inner_before (v ∷ a) (w ∷ b) x y f h out same =
    let first : w ≡ v = cc in
    let rest : a ++ x ≡ b ++ f ∷ y = cc in
    let before = inner_before a b x y f (inner_rest h) out rest in
    let whole = before.1 in
    (before.0, cc)

-- no start, stop or bus-off stands within them
pub outer_not_within : (a b x : List RecordEntry) (entry : RecordEntry) → IsOuter entry →
    Inner b → b ≡ a ++ entry ∷ x → ⊥
outer_not_within [] b x entry out h e = outer_or_inner entry x out (subst Inner e h)
outer_not_within (v ∷ a) b x entry out h e =
    outer_not_within a (a ++ entry ∷ x) x entry out (inner_rest (subst Inner e h)) refl

-- a list with something in it isn't empty
pub some_not_none : {A : Type 0} (l : List A) (x : A) (rest : List A) → l ++ x ∷ rest ≢ []
some_not_none [] x rest h = cc
some_not_none (y ∷ l) x rest h = cc

-- a front of entries that end with this one comes before it, or is all of them
pub whole_or_front : (first more slice : List RecordEntry) (e : RecordEntry) → first ++ more ≡ slice ++ e ∷ [] →
    ((x : List RecordEntry) × (slice ≡ first ++ x)) ⊎ ((first ≡ slice ++ e ∷ []) × (more ≡ []))
whole_or_front first more slice e same = elim (last_of more) [
  | inl none ↦ inr (sym (append-nil first) ∙ ap (λ l. first ++ l) (sym none) ∙ same, none)
  | inr some ↦
      let whole : (first ++ some.0) ++ some.1 ∷ [] ≡ slice ++ e ∷ [] =
      append_assoc first some.0 (some.1 ∷ []) ∙ ap (λ l. first ++ l) (sym some.2) ∙ same in
      inl (some.0, sym (same_from_push (first ++ some.0) slice some.1 e whole).0)
]

-- which entry a list ends with
pub last_is : (before slice : List RecordEntry) (x e : RecordEntry) (first : List RecordEntry) →
    first ≡ before ++ x ∷ [] → first ≡ slice ++ e ∷ [] → x ≡ e
last_is before slice x e first is whole = (same_from_push before slice x e (sym is ∙ whole)).1

-- after the last bit of a slice that ends in a bit nothing is left
none_after : (a m : List RecordEntry) → EndsInBit (a ++ m) → bits_in m ≡ [] → m ≡ []
none_after a m ends none =
    elim (last_of m) [
      | inl empty ↦ empty
      | inr some ↦
          let whole = sym ends.whole ∙ ap (λ l. a ++ l) some.2 ∙ sym (append_assoc a some.0 (some.1 ∷ [])) in
          let last = same_from_push ends.before (a ++ some.0) (OneBit ends.bit) some.1 whole in
          let bits = bits_both some.0 (OneBit ends.bit ∷ []) in
          let back = ap (λ t. bits_in (some.0 ++ t ∷ [])) last.1 in
          absurd (some_not_none (bits_in some.0) ends.bit [] (sym bits ∙ back ∙ ap bits_in (sym some.2) ∙ none))
    ]

-- a slice with the bits of its front is that front
slice_front : (a b m : List RecordEntry) → b ≡ a ++ m → EndsInBit b → bits_in a ≡ bits_in b → a ≡ b
slice_front a b m whole ends same =
    let bits = sym (ap bits_in whole ∙ bits_both a m) ∙ sym same ∙ sym (append-nil (bits_in a)) in
    let none = none_after a m (subst EndsInBit whole ends) (append_cancel_left (bits_in a) (bits_in m) [] bits) in
    sym (append-nil a) ∙ ap (λ l. a ++ l) (sym none) ∙ sym whole

-- two slices of one record that begin at one place and have the same bits are the same
pub slices_once : (a b x y : List RecordEntry) → EndsInBit a → EndsInBit b → bits_in a ≡ bits_in b →
    a ++ x ≡ b ++ y → a ≡ b
slices_once a b x y h k same e =
    elim (fronts a b x y e) [
      | inl longer ↦ slice_front a b longer.0 longer.1 k same
      | inr shorter ↦ sym (slice_front b a shorter.0 shorter.1 h (sym same))
    ]

-- part of a piece: nothing, or entries of a piece from its first bit on
pub record IsPart (entries : List RecordEntry) : Type 0 where
  pub inner : Inner entries
  pub begins : (entries ≡ []) ⊎ BeginsInBit entries

-- less than a piece is part of one
pub open_part : {c : ContextValue} {place : Place} {slice : List RecordEntry} → IsOpenAt c place slice → IsPart slice
open_part (rests []) = record { inner = none_left; begins = inl refl }
open_part (rests (x ∷ l)) =
    let slice = slice_of (recessive_bit x) (recessive_bits l) in
    record { inner = slice.inner; begins = inr slice.begins }
open_part nothing = record { inner = none_left; begins = inl refl }
open_part (begun inner begins unfinished) = record { inner = inner; begins = inr begins }

-- so is a whole slice
pub slice_part : {slice : List RecordEntry} → IsSlice slice → IsPart slice
slice_part h = record { inner = h.inner; begins = inr h.begins }
