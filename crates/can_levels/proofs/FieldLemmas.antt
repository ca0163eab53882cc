-- What a body says of itself: the format, RTR and the DLC.
use Rattle.std.proofs.Common.{◌≡◌, ◌+◌, ◌-◌, ◌/◌, ◌^◌, ◌<◌, ℕ, Bool, true, false, List, []}
use Rattle.std.proofs.Common.{◌∷◌, ◌++◌, length, refl, ap, sym, subst, ◌∙◌, arith, append_assoc}
use Rattle.std.specs.List.{flat_map}
use Rattle.std.proofs.lemmas.List.{get_or-append_right}
use Rattle.can_frame.specs.Frame.{FrameValue, IsFrame}
use Rattle.can_levels.specs.declared.level.Level.{Level}
use Rattle.can_levels.specs.declared.level.Level.TheVariants.{Dominant, Recessive}
use Rattle.can_levels.specs.Digits.{digit, level_of, bits, value}
use Rattle.can_levels.specs.Body.{head_bits, IsBody}
use Rattle.can_levels.specs.Fields.{level_at, is_recessive, says_ext, rtr_place, dlc_place, says_rtr, four_from}
use Rattle.can_levels.specs.Fields.{says_dlc}
use Rattle.can_levels.specs.Spelling.{Spells}
use Rattle.can_levels.proofs.Values.{length-bits, value-bits}

-- what levels say of themselves: SOF, the format, RTR and the DLC
pub record Says (w : List Level) (format remote : Bool) (code : ℕ) : Type 0 where
  pub begins : level_at w 0 ≡ Dominant
  pub ext : says_ext w ≡ format
  pub rtr : says_rtr w ≡ remote
  pub dlc : says_dlc w ≡ code

-- the same, by equal values
says_as : {w : List Level} {format remote other : Bool} {code number : ℕ} → Says w format remote code →
    remote ≡ other → code ≡ number → Says w format other number
says_as told r n = record { begins = told.begins; ext = told.ext; rtr = told.rtr ∙ r; dlc = told.dlc ∙ n }

-- the level of a bit is recessive where the bit is 1
pub recessive-level : (b : Bool) → is_recessive (level_of b) ≡ b
recessive-level false = refl
recessive-level true = refl

-- a level past the first part of a list
pub level_after : (a b : List Level) (n p q : ℕ) → length a ≡ n → p ≡ n + q → level_at (a ++ b) p ≡ level_at b q
level_after a b n p q h e =
    let place : p - n ≡ q = omega arith in
    get_or-append_right a b n p Dominant h (omega arith) ∙ ap (λ k. level_at b k) place

-- equal levels write equal numbers
pub four-same : (v w : List Level) (p q : ℕ) → ((k : ℕ) → k < 4 → level_at v (p + k) ≡ level_at w (q + k)) →
    four_from v p ≡ four_from w q
four-same v w p q h =
    let p0 : p + 0 ≡ p = omega arith in
    let q0 : q + 0 ≡ q = omega arith in
    let first : level_at v p ≡ level_at w q =
    ap (λ k. level_at v k) (sym p0) ∙ h 0 (omega arith) ∙ ap (λ k. level_at w k) q0 in
    omega (
      arith,
      ap digit first,
      ap digit (h 1 (omega arith)),
      ap digit (h 2 (omega arith)),
      ap digit (h 3 (omega arith)),
    )

-- four levels past the first part of a list
four_after : (a b : List Level) (n p q : ℕ) → length a ≡ n → p ≡ n + q → four_from (a ++ b) p ≡ four_from b q
four_after a b n p q h e = four-same (a ++ b) b p q (λ k below. level_after a b n (p + k) (q + k) h (omega arith))

-- the number of the first four levels
pub four-value : (d rest : List Level) → length d ≡ 4 → four_from (d ++ rest) 0 ≡ value d
four-value (a ∷ b ∷ c ∷ e ∷ []) rest h = omega arith
four-value [] rest h = absurd (omega arith)
four-value (a ∷ []) rest h = absurd (omega arith)
four-value (a ∷ b ∷ []) rest h = absurd (omega arith)
four-value (a ∷ b ∷ c ∷ []) rest h = absurd (omega arith)
four-value (a ∷ b ∷ c ∷ e ∷ x ∷ more) rest h = absurd (omega arith)

-- the fields of a standard frame
pub says_standard : (i d rest : List Level) (r r0 : Level) → length i ≡ 11 → length d ≡ 4 →
    Says (Dominant ∷ (i ++ r ∷ Dominant ∷ r0 ∷ (d ++ rest))) false (is_recessive r) (value d)
says_standard i d rest r r0 hi hd =
    let after : List Level = r ∷ Dominant ∷ r0 ∷ (d ++ rest) in
    let w : List Level = Dominant ∷ (i ++ after) in
    let ext : says_ext w ≡ false = ap is_recessive (level_after i after 11 12 1 hi refl) in
    let remote : level_at w 12 ≡ r = level_after i after 11 11 0 hi refl in
    let code : four_from w 15 ≡ value d = four_after i after 11 14 3 hi refl ∙ four-value d rest hd in
    record {
      begins = refl;
      ext = ext;
      rtr = ap (λ e. is_recessive (level_at w (rtr_place e))) ext ∙ ap is_recessive remote;
      dlc = ap (λ e. four_from w (dlc_place e)) ext ∙ code;
    }

-- the fields of an extended frame
pub says_extended : (i j d rest : List Level) (srr r r1 r0 : Level) → length i ≡ 11 → length j ≡ 18 → length d ≡ 4 →
    Says (Dominant ∷ (i ++ srr ∷ Recessive ∷ (j ++ r ∷ r1 ∷ r0 ∷ (d ++ rest)))) true (is_recessive r) (value d)
says_extended i j d rest srr r r1 r0 hi hj hd =
    let last : List Level = r ∷ r1 ∷ r0 ∷ (d ++ rest) in
    let after : List Level = srr ∷ Recessive ∷ (j ++ last) in
    let w : List Level = Dominant ∷ (i ++ after) in
    let ext : says_ext w ≡ true = ap is_recessive (level_after i after 11 12 1 hi refl) in
    let remote : level_at w 32 ≡ r = level_after i after 11 31 20 hi refl ∙ level_after j last 18 18 0 hj refl in
    let code : four_from w 35 ≡ value d =
    four_after i after 11 34 23 hi refl ∙ four_after j last 18 21 3 hj refl ∙ four-value d rest hd in
    record {
      begins = refl;
      ext = ext;
      rtr = ap (λ e. is_recessive (level_at w (rtr_place e))) ext ∙ ap is_recessive remote;
      dlc = ap (λ e. four_from w (dlc_place e)) ext ∙ code;
    }

-- the fields that a transmitter wrote
says_head : (ext : Bool) (id : ℕ) (rtr : Bool) (srr r1 r0 : Level) (d t : List Level) → length d ≡ 4 →
    Says (head_bits ext id rtr srr r1 r0 ++ (d ++ t)) ext rtr (value d)
says_head false id rtr srr r1 r0 d t h =
    let told = says_standard (bits 11 id) d t (level_of rtr) r0 (length-bits 11 id) h in
    let whole : Dominant ∷ (bits 11 id ++ level_of rtr ∷ Dominant ∷ r0 ∷ (d ++ t))
    ≡ head_bits false id rtr srr r1 r0 ++ (d ++ t) =
    ap (λ l. Dominant ∷ l) (sym (append_assoc (bits 11 id) (level_of rtr ∷ Dominant ∷ r0 ∷ []) (d ++ t))) in
    says_as (subst (λ l. Says l false (is_recessive (level_of rtr)) (value d)) whole told) (recessive-level rtr) refl
says_head true id rtr srr r1 r0 d t h =
    let low : List Level = bits 18 id ++ level_of rtr ∷ r1 ∷ r0 ∷ [] in
    let told =
    says_extended (bits 11 (id / 2 ^ 18)) (bits 18 id) d t srr (level_of rtr) r1 r0 (length-bits 11 (id / 2 ^ 18))
    (length-bits 18 id) h in
    let whole : Dominant ∷ (bits 11 (id / 2 ^ 18) ++ srr ∷ Recessive
    ∷ (bits 18 id ++ level_of rtr ∷ r1 ∷ r0 ∷ (d ++ t)))
    ≡ head_bits true id rtr srr r1 r0 ++ (d ++ t) =
    ap (λ l. Dominant ∷ (bits 11 (id / 2 ^ 18) ++ srr ∷ Recessive ∷ l))
    (sym (append_assoc (bits 18 id) (level_of rtr ∷ r1 ∷ r0 ∷ []) (d ++ t)))
    ∙ ap (λ l. Dominant ∷ l) (sym (append_assoc (bits 11 (id / 2 ^ 18)) (srr ∷ Recessive ∷ low) (d ++ t))) in
    says_as (subst (λ l. Says l true (is_recessive (level_of rtr)) (value d)) whole told) (recessive-level rtr) refl

-- what a body of a frame says, whatever follows it
pub says_body : (f : FrameValue) (b t : List Level) → IsFrame f → IsBody f b → Says (b ++ t) f.ext f.rtr f.dlc
says_body f b t frame (srr, r1, r0, e) =
    let head : List Level = head_bits f.ext f.id f.rtr srr r1 r0 in
    let code : List Level = bits 4 f.dlc in
    let bytes : List Level = flat_map (bits 8) f.bytes in
    let whole : head ++ (code ++ (bytes ++ t)) ≡ b ++ t =
    sym (ap (λ l. l ++ t) e ∙ append_assoc head (code ++ bytes) t ∙ ap (λ l. head ++ l) (append_assoc code bytes t)) in
    let told = says_head f.ext f.id f.rtr srr r1 r0 code (bytes ++ t) (length-bits 4 f.dlc) in
    says_as (subst (λ l. Says l f.ext f.rtr (value code)) whole told) refl (value-bits 4 f.dlc frame.dlc)

-- what levels say that spell a frame
pub says_spelled : (f : FrameValue) (b c w : List Level) → Spells f b c w → Says w f.ext f.rtr f.dlc
says_spelled f b c w h = subst (λ l. Says l f.ext f.rtr f.dlc) (sym h.whole) (says_body f b c h.frame h.body)
