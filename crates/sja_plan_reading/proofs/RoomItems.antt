-- What a room holds with one more key.
use Rattle.std.proofs.Common.{◌≡◌, ℕ, ◌+◌, ◌<◌, false, List, [], ◌∷◌, ◌++◌, length, refl, sym, ap, ◌∙◌, arith}
use Rattle.std.specs.List.{All}
use Rattle.std.proofs.lemmas.Grind.{common_steps}
use Rattle.std.proofs.lemmas.List.{append_assoc, map_push}
use Rattle.std.proofs.lemmas.List.Elements.{All-head, All-tail}
use Rattle.toml.specs.Data.{boolean}
use Rattle.sja_plan_reading.specs.Words.{Text}
use Rattle.sja_plan_reading.specs.Inside.Items.{Item}
use Rattle.sja_plan_reading.specs.Inside.Names.{text_at, texts_from}
use Rattle.sja_plan_reading.specs.Inside.Definitions.{path_of, item_of, items_of, definition_of}
use Rattle.sja_plan_reading.specs.Inside.Rooms.{IsInside, IsKnown, header_item, pair_item}
use Rattle.sja_plan_reading.specs.declared.tables.definition.Definition.{Definition}
use Rattle.sja_plan_reading.specs.declared.tables.path.Path.{Path}
use Rattle.sja_plan_reading.specs.declared.tables.what.What.{What}
use Rattle.sja_plan_reading.specs.declared.tables.what.What.TheVariants as whats
use Rattle.sja_plan_reading.proofs.KeyTexts.{texts_more, texts_last, texts_push}

text_more : (ts more : List Text) (i : ℕ) → i < length ts → text_at (ts ++ more) i ≡ text_at ts i
text_more ts more i within = grind (arith, common_steps)

path_more : (ts more : List Text) (p : Path) → IsInside (length ts) p → path_of (ts ++ more) p ≡ path_of ts p
path_more ts more p within = texts_more p.first p.count ts more within

item_more : (ts more : List Text) (d : Definition) → IsKnown (length ts) d → item_of (ts ++ more) d ≡ item_of ts d
item_more ts more d known = rw (
  path_more ts more d.path known.0,
  path_more ts more d.dots known.1,
  text_more ts more d.last known.2,
)

items_more : (ts more : List Text) (ds : List Definition) → All (IsKnown (length ts)) ds →
    items_of (ts ++ more) ds ≡ items_of ts ds
items_more ts more [] known = refl
items_more ts more (d ∷ ds) known =
    rw (
      item_more ts more d (All-head (IsKnown (length ts)) d ds known),
      items_more ts more ds (All-tail (IsKnown (length ts)) d ds known),
    )

-- the definitions with one more
pub items_push : (ts more : List Text) (ds : List Definition) (d : Definition) (i : Item) →
    All (IsKnown (length ts)) ds →
    item_of (ts ++ more) d ≡ i → items_of (ts ++ more) (ds ++ d ∷ []) ≡ items_of ts ds ++ i ∷ []
items_push ts more ds d i known is =
    map_push (item_of (ts ++ more)) ds d ∙ rw (items_more ts more ds known, is)

-- the parts of a key that was added
module _ (ts path : List Text) (last : Text) where
  added_path : texts_from (length ts) (length path) (ts ++ path ++ last ∷ []) ≡ path
  added_path = texts_more (length ts) (length path) (ts ++ path) (last ∷ []) (grind (arith, common_steps))
      ∙ texts_last ts path

  added_last : text_at (ts ++ path ++ last ∷ []) (length ts + length path) ≡ last
  added_last = grind (arith, common_steps)

  together : ts ++ path ++ last ∷ [] ≡ ts ++ (path ++ last ∷ [])
  together = append_assoc ts path (last ∷ [])

  pub section_stays : (p : Path) → IsInside (length ts) p → path_of (ts ++ path ++ last ∷ []) p ≡ path_of ts p
  section_stays p inside = ap (λ l. path_of l p) together ∙ path_more ts (path ++ last ∷ []) p inside

  pub items_added : (ds : List Definition) (d : Definition) (i : Item) → All (IsKnown (length ts)) ds →
      item_of (ts ++ path ++ last ∷ []) d ≡ i → items_of (ts ++ path ++ last ∷ []) (ds ++ d ∷ []) ≡ items_of ts ds
      ++ i ∷ []
  items_added ds d i known is =
      ap (λ l. items_of l (ds ++ d ∷ [])) together
      ∙ items_push ts (path ++ last ∷ []) ds d i known (ap (λ l. item_of l d) (sym together) ∙ is)

  module _ (p : Path) (n : ℕ) (first : p.first ≡ length ts) (count : p.count ≡ length path)
      (is : p.first + p.count ≡ n) where
    path_is : path_of (ts ++ path ++ last ∷ []) p ≡ path
    path_is =
        ap (λ k. texts_from k p.count (ts ++ path ++ last ∷ [])) first
        ∙ ap (λ k. texts_from (length ts) k (ts ++ path ++ last ∷ [])) count ∙ added_path

    last_at : n ≡ length ts + length path
    last_at = omega arith

    last_is : text_at (ts ++ path ++ last ∷ []) n ≡ last
    last_is = ap (text_at (ts ++ path ++ last ∷ [])) last_at ∙ added_last

    pub header_is : (what : What) →
        item_of (ts ++ path ++ last ∷ []) (record {
          path = p;
          dots = record { first = n; count = 0 };
          last = n;
          what =
              what;
        })
        ≡ header_item (path, last) (definition_of what)
    header_is what = rw (path_is, last_is)

    pub pair_is : (section : Path) → IsInside (length ts) section →
        item_of (ts ++ path ++ last ∷ []) (record { path = section; dots = p; last = n; what = whats.Pair })
        ≡ pair_item (path_of ts section) (path, last) (boolean false)
    pair_is section inside = rw (section_stays section inside, path_is, last_is)

    pub section_is : path_of (ts ++ path ++ last ∷ []) (record { first = p.first; count = p.count + 1 }) ≡ path
        ++ last ∷ []
    section_is =
        texts_push p.first p.count (ts ++ path ++ last ∷ [])
        ∙ ap (λ k. path_of (ts ++ path ++ last ∷ []) p ++ text_at (ts ++ path ++ last ∷ []) k ∷ []) is
        ∙ rw (path_is, last_is)
