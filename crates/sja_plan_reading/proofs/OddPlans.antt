-- A document is misshapen where a key of a plan holds what no plan has there.
use Rattle.std.proofs.Common.{◌≡◌, Option, Some, None, option_and_then, sym, ap, ◌∙◌, inl, inr, codes}
use Rattle.std.proofs.Common.{true, false, refl}
use Rattle.std.specs.List.{list_any}
use Rattle.std.specs.Str.{bytes_eq}
use Rattle.std.proofs.lemmas.Bool.{false≢true}
use Rattle.std.proofs.lemmas.Option.{none-some}
use Rattle.toml.specs.Data.{Data, Members, get_member, as_integer}
use Rattle.toml.specs.Tables.{Node, close_node}
use Rattle.sja_plan_reading.specs.Words.{Text}
use Rattle.sja_plan_reading.specs.Document.{IsMisshapen, HasShape, DocumentValue, nodes_in, turn_texts, strike_texts}
use Rattle.sja_plan_reading.specs.Inside.Strange.{all_keys, is_nodes}
use Rattle.sja_plan_reading.proofs.OddKeys.{Odd}
use Rattle.sja_plan_reading.proofs.OddNodes.{OddNode, Wrong, no_texts, no_number, no_nodes_in, known_is, either}

-- at each key of a plan
module _ (ms : Members) (d : DocumentValue) (shape : HasShape ms d) (x : Node) where
  at_version : get_member (codes "version") ms ≡ Some (close_node x) → Odd x → ⊥
  at_version is odd =
      none-some d.version (sym (ap (option_and_then as_integer) is ∙ no_number x odd) ∙ shape.version)

  at_bits : get_member (codes "bits") ms ≡ Some (close_node x) → Odd x → ⊥
  at_bits is odd = none-some d.bits (sym (ap (option_and_then as_integer) is ∙ no_number x odd) ∙ shape.bits)

  at_nodes : get_member (codes "node") ms ≡ Some (close_node x) → OddNode x → ⊥
  at_nodes is odd = none-some d.nodes (sym (ap (option_and_then nodes_in) is ∙ no_nodes_in x odd) ∙ shape.nodes)

  at_turns : get_member (codes "turns") ms ≡ Some (close_node x) → Odd x → ⊥
  at_turns is odd = none-some d.turns (sym (ap (turn_texts d.version) is ∙ no_texts x odd) ∙ shape.turns)

  no_faults : (o : Option Data) → Odd x → strike_texts (Some (close_node x)) o ≡ None
  no_faults None odd = no_texts x odd
  no_faults (Some e) odd = refl

  at_faults : get_member (codes "faults") ms ≡ Some (close_node x) → Odd x → ⊥
  at_faults is odd =
      none-some d.faults (sym (ap (λ o. strike_texts o (get_member (codes "strikes") ms)) is
      ∙ no_faults (get_member (codes "strikes") ms) odd) ∙ shape.faults)

  no_strikes : (o : Option Data) → Odd x → strike_texts o (Some (close_node x)) ≡ None
  no_strikes None odd = no_texts x odd
  no_strikes (Some e) odd = refl

  at_strikes : get_member (codes "strikes") ms ≡ Some (close_node x) → Odd x → ⊥
  at_strikes is odd =
      none-some d.faults (sym (ap (strike_texts (get_member (codes "faults") ms)) is
      ∙ no_strikes (get_member (codes "faults") ms) odd) ∙ shape.faults)

-- which key it is
by_key : (ms : Members) (d : DocumentValue) → HasShape ms d → (k : Text) (x : Node) →
    get_member k ms ≡ Some (close_node x) → Wrong (is_nodes k) x →
    list_any (λ known. bytes_eq known k) all_keys ≡ true → ⊥
by_key ms d shape k x is odd known =
    elim (either (bytes_eq (codes "version") k) _ known) [
      | inl same ↦
          let key = known_is (codes "version") k same in
          at_version ms d shape x (rw (← key) at is) (rw (← key) at odd)
      | inr others ↦ elim (either (bytes_eq (codes "bits") k) _ others) [
        | inl same ↦
            let key = known_is (codes "bits") k same in
            at_bits ms d shape x (rw (← key) at is) (rw (← key) at odd)
        | inr others ↦ elim (either (bytes_eq (codes "node") k) _ others) [
          | inl same ↦
              let key = known_is (codes "node") k same in
              at_nodes ms d shape x (rw (← key) at is) (rw (← key) at odd)
          | inr others ↦ elim (either (bytes_eq (codes "turns") k) _ others) [
            | inl same ↦
                let key = known_is (codes "turns") k same in
                at_turns ms d shape x (rw (← key) at is) (rw (← key) at odd)
            | inr others ↦ elim (either (bytes_eq (codes "faults") k) _ others) [
              | inl same ↦
                  let key = known_is (codes "faults") k same in
                  at_faults ms d shape x (rw (← key) at is) (rw (← key) at odd)
              | inr others ↦ elim (either (bytes_eq (codes "strikes") k) false others) [
                | inl same ↦
                    let key = known_is (codes "strikes") k same in
                    at_strikes ms d shape x (rw (← key) at is) (rw (← key) at odd)
                | inr none ↦ false≢true none
              ]
            ]
          ]
        ]
      ]
    ]

-- what a key of a plan holds is no plan's
pub wrong_misshapen : (ms : Members) (k : Text) (x : Node) → get_member k ms ≡ Some (close_node x) →
    Wrong (is_nodes k) x → list_any (λ known. bytes_eq known k) all_keys ≡ true → IsMisshapen ms
wrong_misshapen ms k x is odd known d shape = by_key ms d shape k x is odd known
