-- The keys of a table.
use Rattle.std.proofs.Common.{◌≡◌, Bool, ◌&&◌, ◌||◌, refl, ap₂, map, List, [], ◌∷◌, string_bytes, Bor, String}
use Rattle.std.specs.List.{list_all, list_any}
use Rattle.std.specs.Str.{bytes_eq}
use Rattle.std.specs.Map.{keys_of}
use Rattle.std.specs.declared.alloc.Global.{Global}
use Rattle.toml.specs.View.{members_view}
use Rattle.toml.specs.declared.value.Value.{Value}
use Rattle.sja_plan_reading.specs.Words.{Text}
use Rattle.sja_plan_reading.specs.Document.{knows}

abbrev pub is_allowed : List (Bor Text) → String Global → Bool
is_allowed allowed k = list_any (λ name. bytes_eq name.now (string_bytes k)) allowed

pub knows-entries : (allowed : List (Bor Text)) (es : List (String Global × Value)) →
    list_all (is_allowed allowed) (keys_of es)
    ≡ knows (map (λ s. s.now) allowed) (members_view es)
knows-entries allowed [] = refl
knows-entries allowed (e ∷ es) = ap₂ (λ a b. a && b) (any allowed) (knows-entries allowed es)
  where
    any : (names : List (Bor Text)) → list_any (λ name. bytes_eq name.now (string_bytes e.0)) names
        ≡ list_any (λ k. bytes_eq k (string_bytes e.0)) (map (λ s. s.now) names)
    any [] = refl
    any (n ∷ ns) = ap₂ (λ a b. a || b) refl (any ns)
