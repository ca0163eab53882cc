-- What was left on the links of a node in one thread.
use Rattle.std.proofs.Common.{◌≡◌, ℕ, List, [], ◌∷◌, ◌++◌, refl, ap, ◌∙◌}
use Rattle.std.proofs.lemmas.Bool.{eq-eqb, ne_eqb}
use Rattle.std.proofs.lemmas.List.Elements.{filter_map-append}
use Rattle.sja_journal.specs.declared.down.Down.{Down}
use Rattle.sja_link.specs.declared.older_down.OlderDown.{OlderDown}
use Rattle.sja_link.specs.Deques.{left_on, on_link}

-- on the link of an activation, of two lists one after the other
pub left_both : (x y : List OlderDown) (a : ℕ) → left_on (x ++ y) a ≡ left_on x a ++ left_on y a
left_both x y a = filter_map-append _ x y

-- all of them, on the link on which they are left
pub left_here : (a : ℕ) (items : List Down) → left_on (on_link a items) a ≡ items
left_here a [] = refl
left_here a (x ∷ items) = rw (eq-eqb a a refl) (ap (λ l. x ∷ l) (left_here a items))

-- and on no other
pub left_else : (a b : ℕ) (items : List Down) → (a ≡ b → ⊥) → left_on (on_link a items) b ≡ []
left_else a b [] ne = refl
left_else a b (x ∷ items) ne = rw (ne_eqb a b ne) (left_else a b items ne)

-- what lies on a link is left there, and on each other link nothing more
pub left_more : (older : List OlderDown) (a b : ℕ) (items : List Down) → (a ≡ b → ⊥) →
    left_on older b ≡ [] → left_on (older ++ on_link a items) b ≡ []
left_more older a b items ne none =
    left_both older (on_link a items) b ∙ ap (λ l. l ++ left_on (on_link a items) b) none ∙ left_else a b items ne
