-- The first bit of a transmitter's piece that doesn't go well: there is one at most.
use Rattle.std.proofs.Common.{◌≡◌, ◌+◌, ◌<◌, inl, inr, Bool, List, [], ◌∷◌, ◌++◌}
use Rattle.std.proofs.Common.{length, refl, ap, sym, subst, ◌∙◌, arith, append_assoc}
use Rattle.std.proofs.lemmas.List.{append-nil, length-append}
use Rattle.can_levels.specs.declared.level.Level.{Level}
use Rattle.lemmas.proofs.Lists.{fronts, append-cancel}
use Rattle.can_node_rules.specs.Bits.{Bit}
use Rattle.can_node_rules.specs.Frames.{GoesWell}
use Rattle.can_node_rules.proofs.Transmission.SentBits.{well_front}

-- all goes well before this bit, and with it no more
pub record IsBad (self_test : Bool) (part : List Level) (before : List Bit) (bad : Bit) : Type 0 where
  pub well : GoesWell self_test part before
  pub wrong : GoesWell self_test part (before ++ bad ∷ []) → ⊥
  pub within : length before < length part + 10

-- what goes well and begins as what doesn't is no longer than what goes well of it
no_further : (self_test : Bool) (part : List Level) (before c other more rest : List Bit) (bad : Bit) →
    IsBad self_test part before bad →
    GoesWell self_test part other → other ≡ before ++ c → before ++ bad ∷ more ≡ other ++ rest → c ≡ []
no_further self_test part before [] other more rest bad h well longer e = refl
no_further self_test part before (u ∷ c) other more rest bad h well longer e =
    let all : before ++ bad ∷ more ≡ before ++ (u ∷ (c ++ rest)) =
    e ∙ ap (λ l. l ++ rest) longer ∙ append_assoc before (u ∷ c) rest in
    let after : bad ∷ more ≡ u ∷ (c ++ rest) = append-cancel before (bad ∷ more) (u ∷ (c ++ rest)) all in
    let same : u ≡ bad = cc in
    let joined : other ≡ (before ++ bad ∷ []) ++ c =
    longer ∙ ap (λ v. before ++ v ∷ c) same ∙ sym (append_assoc before (bad ∷ []) c) in
    let P : List Bit → Type 0 = λ l. GoesWell self_test part l in
    absurd (h.wrong (well_front self_test part (before ++ bad ∷ []) c (subst P joined well)))

-- a list has one such bit
pub bad_once : (self_test : Bool) (part : List Level) (before other more rest : List Bit) (bad worse : Bit) →
    IsBad self_test part before bad →
    IsBad self_test part other worse → before ++ bad ∷ more ≡ other ++ worse ∷ rest →
    (before ≡ other) × (bad ≡ worse) × (more ≡ rest)
bad_once self_test part before other more rest bad worse h k e =
    let same : before ≡ other = elim (fronts before other (bad ∷ more) (worse ∷ rest) e) [
      | inl longer ↦
          let none = no_further self_test part before longer.0 other more (worse ∷ rest) bad h k.well longer.1 e in
          sym (longer.1 ∙ ap (λ c. before ++ c) none ∙ append-nil before)
      | inr longer ↦
          let none = no_further self_test part other longer.0 before rest (bad ∷ more) worse k h.well longer.1
          (sym e) in
          longer.1 ∙ ap (λ c. other ++ c) none ∙ append-nil other
    ] in
    let after : bad ∷ more ≡ worse ∷ rest =
    append-cancel before (bad ∷ more) (worse ∷ rest) (e ∙ ap (λ l. l ++ worse ∷ rest) (sym same)) in
    (same, cc, cc)

-- a whole line that goes well has none
pub none_in_whole : (self_test : Bool) (part : List Level) (bits before more x : List Bit) (bad : Bit) →
    GoesWell self_test part bits →
    length bits ≡ length part + 10 → IsBad self_test part before bad → before ++ bad ∷ more ≡ bits ++ x → ⊥
none_in_whole self_test part bits before more x bad well count h e =
    let within = h.within in
    elim (fronts before bits (bad ∷ more) x e) [
      | inl longer ↦
          let none = no_further self_test part before longer.0 bits more x bad h well longer.1 e in
          let same : bits ≡ before = longer.1 ∙ ap (λ c. before ++ c) none ∙ append-nil before in
          omega (arith, ap length same)
      | inr shorter ↦ omega (arith, ap length shorter.1, length-append bits shorter.0)
    ]
