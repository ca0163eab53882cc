-- Levels spell one frame, with one body and one CRC sequence.
use Rattle.std.proofs.Common.{◌≡◌, ◌/◌, ◌^◌, ◌<◌, ℕ, Bool, true, false, List}
use Rattle.std.proofs.Common.{[], ◌∷◌, ◌++◌, length, ap, sym, subst, ◌∙◌, arith}
use Rattle.std.specs.List.{flat_map}
use Rattle.std.proofs.lemmas.List.{length-append}
use Rattle.can_frame.specs.Frame.{FrameValue, IsFrame, id_limit, data_count}
use Rattle.can_levels.specs.declared.level.Level.{Level}
use Rattle.can_levels.specs.declared.level.Level.TheVariants.{Dominant, Recessive}
use Rattle.can_levels.specs.Digits.{level_of, bits}
use Rattle.can_levels.specs.Body.{head_bits, IsBody}
use Rattle.can_levels.specs.Fields.{dlc_place}
use Rattle.can_levels.specs.Spelling.{Spells}
use Rattle.can_frame.proofs.FrameLemmas.{same_frame}
use Rattle.lemmas.proofs.Lists.{append-split}
use Rattle.can_levels.proofs.Values.{length-bits, bits-injective, bits-split}
use Rattle.can_levels.proofs.Whole.Bytes.{bytes-injective}
use Rattle.can_levels.proofs.FieldLemmas.{says_spelled}
use Rattle.can_levels.proofs.SaidCounts.{length_head}

-- equal levels before the DLC have one identifier
head-id : (e : Bool) (x y : ℕ) (r s : Bool) (a b c k l m : Level) → x < id_limit e → y < id_limit e →
    head_bits e x r a b c ≡ head_bits e y s k l m → x ≡ y
head-id false x y r s a b c k l m hx hy h =
    let low : bits 11 x ++ level_of r ∷ Dominant ∷ c ∷ [] ≡ bits 11 y ++ level_of s ∷ Dominant ∷ m ∷ [] = cc in
    let (same, _) =
    append-split (bits 11 x) (level_of r ∷ Dominant ∷ c ∷ []) (bits 11 y) (level_of s ∷ Dominant ∷ m ∷ [])
    (length-bits 11 x ∙ sym (length-bits 11 y)) low in
    bits-injective 11 x y hx hy same
head-id true x y r s a b c k l m hx hy h =
    let u : List Level = bits 18 x ++ level_of r ∷ b ∷ c ∷ [] in
    let v : List Level = bits 18 y ++ level_of s ∷ l ∷ m ∷ [] in
    let all : bits 11 (x / 2 ^ 18) ++ a ∷ Recessive ∷ u ≡ bits 11 (y / 2 ^ 18) ++ k ∷ Recessive ∷ v = cc in
    let (high, rest) =
    append-split (bits 11 (x / 2 ^ 18)) (a ∷ Recessive ∷ u) (bits 11 (y / 2 ^ 18)) (k ∷ Recessive ∷ v)
    (length-bits 11 (x / 2 ^ 18) ∙ sym (length-bits 11 (y / 2 ^ 18))) all in
    let part : u ≡ v = cc in
    let (low, _) = append-split (bits 18 x) (level_of r ∷ b ∷ c ∷ []) (bits 18 y) (level_of s ∷ l ∷ m ∷ [])
    (length-bits 18 x ∙ sym (length-bits 18 y)) part in
    bits-injective 29 x y hx hy (bits-split 11 18 x ∙ ap (λ t. t ++ bits 18 x) high
    ∙ ap (λ t. bits 11 (y / 2 ^ 18) ++ t) low ∙ sym (bits-split 11 18 y))

-- a body is that of one frame, where two frames agree in format, kind and code
body-same : (f g : FrameValue) (b : List Level) → IsFrame f → IsFrame g → IsBody f b → IsBody g b →
    f.ext ≡ g.ext → f.rtr ≡ g.rtr → f.dlc ≡ g.dlc → f ≡ g
body-same f g b hf hg (a, l, m, e) (a', l', m', e') ext rtr dlc =
    let fh : List Level = head_bits f.ext f.id f.rtr a l m in
    let gh : List Level = head_bits g.ext g.id g.rtr a' l' m' in
    let fd : List Level = flat_map (bits 8) f.bytes in
    let gd : List Level = flat_map (bits 8) g.bytes in
    let heads : length fh ≡ length gh =
    length_head f.ext f.id f.rtr a l m ∙ ap dlc_place ext ∙ sym (length_head g.ext g.id g.rtr a' l' m') in
    let (head, rest) = append-split fh (bits 4 f.dlc ++ fd) gh (bits 4 g.dlc ++ gd) heads (sym e ∙ e') in
    let (_, filled) =
    append-split (bits 4 f.dlc) fd (bits 4 g.dlc) gd (length-bits 4 f.dlc ∙ sym (length-bits 4 g.dlc)) rest in
    let counts : length f.bytes ≡ length g.bytes =
    hf.count ∙ ap (λ r. data_count r f.dlc) rtr ∙ ap (λ n. data_count g.rtr n) dlc ∙ sym hg.count in
    let limit : g.id < id_limit f.ext = subst (λ x. g.id < id_limit x) (sym ext) hg.id in
    let id : f.id ≡ g.id =
    head-id f.ext f.id g.id f.rtr g.rtr a l m a' l' m' hf.id limit
    (head ∙ ap (λ x. head_bits x g.id g.rtr a' l' m') (sym ext)) in
    same_frame f g ext id rtr dlc (bytes-injective f.bytes g.bytes hf.bytes hg.bytes counts filled)

-- levels spell one frame, with one body and one CRC sequence
pub Spells-unique : (f g : FrameValue) (b c d e w : List Level) → Spells f b c w → Spells g d e w →
    (f ≡ g) × (b ≡ d) × (c ≡ e)
Spells-unique f g b c d e w hf hg =
    let both : b ++ c ≡ d ++ e = sym hf.whole ∙ hg.whole in
    let count : length b ≡ length d =
    omega (arith, ap length both, length-append b c, length-append d e, hf.check, hg.check) in
    let (bodies, checks) = append-split b c d e count both in
    let ft = says_spelled f b c w hf in
    let gt = says_spelled g d e w hg in
    let body : IsBody g b = let P : List Level → Type 0 = λ l. IsBody g l in subst P (sym bodies) hg.body in (
      body-same f g b hf.frame hg.frame hf.body body (sym ft.ext ∙ gt.ext) (sym ft.rtr ∙ gt.rtr) (sym ft.dlc ∙ gt.dlc),
      bodies,
      checks,
    )
