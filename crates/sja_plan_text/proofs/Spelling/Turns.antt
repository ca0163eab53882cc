-- The texts of turns.
use Rattle.std.proofs.Common.{ℕ, [], ◌∷◌, codes, decimal, refl, arith}
use Rattle.sja_plan_reading.specs.Words.{Text}
use Rattle.sja_plan_reading.specs.TurnTexts.{SaysTurn}
use Rattle.sja_plan.specs.Plan.{NamesNode}
use Rattle.sja_plan.specs.declared.turn.Turn.{Turn}
use Rattle.sja_plan.specs.declared.turn.Turn.TheVariants.{Bus, Rest, Node, All, Irq, Go}
use Rattle.sja_plan_text.specs.Texts.{turn_text}
use Rattle.sja_plan_text.specs.HasTexts.{HasTurnText}
use Rattle.sja_plan_text.proofs.Spelling.Words.{words_joined, decimal_word, spells}

-- a turn's text says it
pub turn_said : (version nodes : ℕ) (t : Turn) → NamesNode nodes t → HasTurnText version t →
    SaysTurn version nodes (turn_text t) t
turn_said version nodes Rest there h = words_joined (codes "rest") [] refl
turn_said version nodes (Bus n) there h =
    let said = words_joined (codes "bus") (decimal n ∷ []) (rw (decimal_word n h.1) refl) in
    (decimal n, said, spells 1 9999999 n h.1 h.0 h.1)
turn_said version nodes (Node k n) there h = (
  decimal k,
  decimal n,
  words_joined (codes "node") (decimal k ∷ decimal n ∷ []) (rw (decimal_word k h.0, decimal_word n h.1) refl),
  (spells 0 9999999 k h.0 (omega arith) h.0, there),
  spells 0 9999999 n h.1 (omega arith) h.1,
)
turn_said version nodes (All k) there h = (
  h.0,
  decimal k,
  words_joined (codes "node") (decimal k ∷ []) (rw (decimal_word k h.1) refl),
  (spells 0 9999999 k h.1 (omega arith) h.1, there),
)
turn_said version nodes (Irq k n) there h = (
  h.0,
  decimal k,
  decimal n,
  words_joined (codes "irq") (decimal k ∷ decimal n ∷ []) (rw (decimal_word k h.1, decimal_word n h.3) refl),
  (spells 0 9999999 k h.1 (omega arith) h.1, there),
  spells 1 9999999 n h.3 h.2 h.3,
)
turn_said version nodes Go there h = (h, words_joined (codes "go") [] refl)

-- a turn that a text says has a text
pub has_turn_text : (version nodes : ℕ) (text : Text) (t : Turn) → SaysTurn version nodes text t →
    NamesNode nodes t × HasTurnText version t
has_turn_text version nodes text Rest h = (tt, tt)
has_turn_text version nodes text (Bus n) (a, e, k) = (tt, (k.1, k.2))
has_turn_text version nodes text (Node k n) (a, b, e, i, j) = (i.1, (i.0.2, j.2))
has_turn_text version nodes text (All k) (v, a, e, i) = (i.1, (v, i.0.2))
has_turn_text version nodes text (Irq k n) (v, a, b, e, i, j) = (i.1, (v, i.0.2, j.1, j.2))
has_turn_text version nodes text Go h = (tt, h.0)
