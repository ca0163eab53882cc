-- Parts of keys stay what they are as more are read, and a path is its first part and the path behind it.
use Rattle.std.proofs.Common.{◌≡◌, ℕ, zero, suc, ◌+◌, ◌≤◌, List, [], ◌∷◌, ◌++◌, map, take, drop, length, refl}
use Rattle.std.proofs.Common.{sym, ap}
use Rattle.std.proofs.Common.{◌∙◌, add-one, append_assoc, arith}
use Rattle.std.specs.List.{All}
use Rattle.std.proofs.lemmas.Grind.{common_steps}
use Rattle.std.proofs.lemmas.List.{take-append-le, drop-append-le, get_or_append_left, map_push, length_push}
use Rattle.std.proofs.lemmas.List.Elements.{All-head, All-tail}
use Rattle.sja_plan_reading.specs.Words.{Text}
use Rattle.sja_plan_reading.specs.Inside.Names.{text_at, texts_from, part_text, IsWithin}
use Rattle.sja_plan_reading.specs.Inside.Definitions.{path_of}
use Rattle.sja_plan_reading.specs.declared.tables.path.Path.{Path}
use Rattle.sja_plan_reading.specs.declared.tables.names.Part.{Part}

-- a path is its first part, and the path behind it
pub path_step : (ts : List Text) (d p : Path) → d.first + 1 ≡ p.first → p.count + 1 ≡ d.count →
    path_of ts d ≡ text_at ts d.first ∷ path_of ts p
path_step ts d p f c =
    ap (λ n. texts_from d.first n ts) (sym c ∙ add-one p.count)
    ∙ ap (λ n. text_at ts d.first ∷ texts_from n p.count ts) (sym (add-one d.first) ∙ f)

pub path_none : (ts : List Text) (d : Path) → d.count ≡ 0 → path_of ts d ≡ []
path_none ts d c = ap (λ n. texts_from d.first n ts) c

-- more bytes behind those of a part
pub part_more : (bytes more : List ℕ) (p : Part) → IsWithin bytes p → part_text (bytes ++ more) p ≡ part_text bytes p
part_more bytes more p within =
    ap (take p.len) (drop-append-le p.start bytes more (omega arith))
    ∙ take-append-le p.len (drop p.start bytes) more (grind (arith, common_steps))

pub parts_more : (bytes more : List ℕ) (ps : List Part) → All (IsWithin bytes) ps →
    map (part_text (bytes ++ more)) ps ≡ map (part_text bytes) ps
parts_more bytes more [] within = refl
parts_more bytes more (p ∷ ps) within =
    rw (
      part_more bytes more p (All-head (IsWithin bytes) p ps within),
      parts_more bytes more ps
          (All-tail (IsWithin bytes) p ps within),
    )

-- the part that stands last
pub part_last : (bytes more : List ℕ) (p : Part) → p.start ≡ length bytes → p.len ≡ length more →
    part_text (bytes ++ more) p ≡ more
part_last bytes more p start len = rw (start, len) (grind (arith, common_steps))

-- the parts with one more
pub parts_push : (bytes more : List ℕ) (ps : List Part) (p : Part) → All (IsWithin bytes) ps → p.start ≡ length bytes →
    p.len ≡ length more → map (part_text (bytes ++ more)) (ps ++ p ∷ []) ≡ map (part_text bytes) ps ++ more ∷ []
parts_push bytes more ps p within start len =
    map_push (part_text (bytes ++ more)) ps p
    ∙ rw (parts_more bytes more ps within, part_last bytes more p start len)

-- more parts behind those of a path
pub texts_more : (first n : ℕ) (ts more : List Text) → first + n ≤ length ts →
    texts_from first n (ts ++ more) ≡ texts_from first n ts
texts_more first zero ts more within = refl
texts_more first (suc n) ts more within =
    rw (get_or_append_left ts more [] first (omega arith), texts_more (suc first) n ts more (omega arith))

-- the parts that stand last
pub texts_last : (ts more : List Text) → texts_from (length ts) (length more) (ts ++ more) ≡ more
texts_last ts [] = refl
texts_last ts (t ∷ more) =
    let again : ts ++ t ∷ more ≡ (ts ++ t ∷ []) ++ more = sym (append_assoc ts (t ∷ []) more) in
    let head : text_at (ts ++ t ∷ more) (length ts) ≡ t = grind (arith, common_steps) in
    let longer : length (ts ++ t ∷ []) ≡ suc (length ts) = length_push ts t ∙ add-one (length ts) in
    let tail : texts_from (suc (length ts)) (length more) (ts ++ t ∷ more) ≡ more =
    ap (λ n. texts_from n (length more) (ts ++ t ∷ more)) (sym longer)
    ∙ ap (λ l. texts_from (length (ts ++ t ∷ [])) (length more) l) again ∙ texts_last (ts ++ t ∷ []) more in
    ap (λ x. x ∷ texts_from (suc (length ts)) (length more) (ts ++ t ∷ more)) head ∙ ap (λ xs. t ∷ xs) tail

-- a path with the part behind it
pub texts_push : (first n : ℕ) (ts : List Text) → texts_from first (n + 1) ts ≡ texts_from first n ts ++ text_at ts
    (first + n) ∷ []
texts_push first zero ts = ap (λ m. text_at ts m ∷ []) (omega arith)
texts_push first (suc n) ts =
    ap (λ m. texts_from first m ts) (add-one (suc n))
    ∙ ap (λ xs. text_at ts first ∷ xs)
    (ap (λ m. texts_from (suc first) m ts) (sym (add-one n)) ∙ texts_push (suc first) n ts)
    ∙ ap (λ m. texts_from first (suc n) ts ++ text_at ts m ∷ []) (omega arith)
