-- Where a transmitter has lost arbitration among the bits of its frame, and the role that it has then.
use Rattle.std.proofs.Common.{◌≡◌, ◌⊎◌, inl, inr, ℕ, Bool, Option, Some, None, is_some, List, [], ◌∷◌, ◌++◌, refl, sym}
use Rattle.std.proofs.Common.{ap, ◌∙◌, subst, append_assoc, if◌then◌else◌}
use Rattle.std.proofs.lemmas.List.{same_from_push}
use Rattle.lemmas.proofs.Lists.{last_of}
use Rattle.can_levels.specs.declared.level.Level.{Level}
use Rattle.can_levels.specs.declared.level.Level.TheVariants.{Dominant, Recessive}
use Rattle.can_levels.specs.Places.{place_code}
use Rattle.can_node_rules.specs.declared.request.Request.{Request}
use Rattle.can_node_rules.specs.declared.role.Role.{Role}
use Rattle.can_node_rules.specs.declared.role.Role.TheVariants.{Transmitter, Receiver}
use Rattle.can_node_rules.specs.Bits.{Bit, recessive_bit, seen_of}
use Rattle.can_node_rules.specs.Context.{ContextValue}
use Rattle.can_node_rules.specs.Counting.{frame_bit, lost_by, lose}
use Rattle.can_node_rules.proofs.Bits.FrameSites.{receives}

-- among these bits, from SOF on, is one in which arbitration was lost
pub record LostIn (ext : Bool) (done : List Bit) : Type 0 where
  pub before : List Bit
  pub more : List Bit
  pub code : ℕ
  pub whole : done ≡ before ++ recessive_bit Dominant ∷ more
  pub loses : place_code ext (seen_of before) ≡ Some code

lost_more : (ext : Bool) (done rest : List Bit) → LostIn ext done → LostIn ext (done ++ rest)
lost_more ext done rest h = record {
  before = h.before;
  more = h.more ++ rest;
  code = h.code;
  whole = ap (λ l. l ++ rest) h.whole ∙ append_assoc h.before (recessive_bit Dominant ∷ h.more) rest;
  loses = h.loses;
}

-- with one bit more: it was lost before, or is in that bit
pub lost_last : (ext : Bool) (done : List Bit) (b : Bit) → LostIn ext (done ++ b ∷ []) →
    LostIn ext done ⊎ ((b ≡ recessive_bit Dominant) × ((code : ℕ) × (place_code ext (seen_of done) ≡ Some code)))
lost_last ext done b h = elim (last_of h.more) [
  | inl none ↦
      let whole : done ++ b ∷ [] ≡ h.before ++ recessive_bit Dominant ∷ [] =
      h.whole ∙ ap (λ l. h.before ++ recessive_bit Dominant ∷ l) none in
      let same = same_from_push done h.before b (recessive_bit Dominant) whole in
      inr (same.1, (h.code, ap (λ l. place_code ext (seen_of l)) same.0 ∙ h.loses))
  | inr some ↦
      let front : List Bit = h.before ++ recessive_bit Dominant ∷ some.0 in
      let whole : done ++ b ∷ [] ≡ front ++ some.1 ∷ [] =
      h.whole ∙ ap (λ l. h.before ++ recessive_bit Dominant ∷ l) some.2
      ∙ sym (append_assoc h.before (recessive_bit Dominant ∷ some.0) (some.1 ∷ [])) in
      inl (record {
        before = h.before;
        more = some.0;
        code = h.code;
        whole = (same_from_push done front b some.1 whole).0;
        loses = h.loses;
      })
]

-- there is none without bits
pub none_lost : (ext : Bool) → LostIn ext [] → ⊥
none_lost ext h = by h.before h.whole
  where
    by : (before : List Bit) → [] ≡ before ++ recessive_bit Dominant ∷ h.more → ⊥
    by [] e = cc
    by (x ∷ before) e = cc

-- what is lost is a recessive level that is seen dominant
is_lost : (r : Request) (l : List Level) (driven seen : Level) (code : ℕ) → lost_by (Some r) l driven seen ≡ Some code →
    (driven ≡ Recessive) × (seen ≡ Dominant) × (place_code r.frame.ext l ≡ Some code)
is_lost r l Recessive Dominant code e = (refl, refl, e)
is_lost r l Recessive Recessive code e = absurd cc
is_lost r l Dominant Dominant code e = absurd cc
is_lost r l Dominant Recessive code e = absurd cc

-- ---- the role

-- in these bits of its own frame: it is transmitter of its request, or it has lost arbitration and is receiver
abbrev pub Stands : Request → ContextValue → List Bit → Type 0
Stands r c done = ((c.role ≡ Transmitter) × (c.held ≡ Some r) × (LostIn r.frame.ext done → ⊥))
    ⊎ ((c.role ≡ Receiver) × LostIn r.frame.ext done)

-- a transmitter's bit
transmitted : (r : Request) (c : ContextValue) (done : List Bit) (b : Bit) → c.role ≡ Transmitter →
    (LostIn r.frame.ext done → ⊥) → c.held ≡ Some r → (x : Option ℕ) →
    lost_by (Some r) (seen_of done) b.driven b.seen ≡ x →
    Stands r (if is_some x then lose c else c) (done ++ b ∷ [])
transmitted r c done b role none held None e = inl (
  role,
  held,
  λ k. elim (lost_last r.frame.ext done b k) [
    | inl before ↦ none before
    | inr here ↦
        let is : lost_by (Some r) (seen_of done) b.driven b.seen ≡ Some here.1.0 =
        ap (λ (v : Bit). lost_by (Some r) (seen_of done) v.driven v.seen) here.0 ∙ here.1.1 in
        let no : None ≡ Some here.1.0 = sym e ∙ is in cc
  ],
)
transmitted r c done b role none held (Some code) e =
    let is = is_lost r (seen_of done) b.driven b.seen code e in
    let driven = is.0 in
    let seen = is.1 in
    let same : b ≡ recessive_bit Dominant = λ i. record { driven = driven i; seen = seen i } in
    inr (
      refl,
      record {
        before = done;
        more = [];
        code = code;
        whole = ap (λ v. done ++ v ∷ []) same;
        loses = is.2;
      },
    )

-- with one bit more
pub stands_bit : (r : Request) (c : ContextValue) (done : List Bit) (b : Bit) → Stands r c done →
    Stands r (frame_bit c.role c (seen_of done) b) (done ++ b ∷ [])
stands_bit r c done b (inl h) =
    let P : Role → Type 0 = λ o. Stands r (frame_bit o c (seen_of done) b) (done ++ b ∷ []) in
    let x = lost_by (Some r) (seen_of done) b.driven b.seen in
    let Q : Option ℕ → Type 0 = λ y. Stands r (if is_some y then lose c else c) (done ++ b ∷ []) in
    subst P (sym h.0) (subst Q (ap (λ o. lost_by o (seen_of done) b.driven b.seen) (sym h.1))
    (transmitted r c done b h.0 h.2 h.1 x refl))
stands_bit r c done b (inr h) =
    let P : Role → Type 0 = λ o. Stands r (frame_bit o c (seen_of done) b) (done ++ b ∷ []) in
    subst P (sym h.0) (inr (receives c b.driven b.seen ∙ h.0, lost_more r.frame.ext done (b ∷ []) h.1))
