use Rattle.std.proofs.Common.{◌≡◌, sym, ◌∙◌, ap, subst, inl, inr}
use Rattle.std.proofs.lemmas.Bool.{and_cases, and_parts}
use Rattle.can_node_rules.specs.Outcomes.{nothing}
use Rattle.sja_regs.specs.declared.bus_turn.BusTurn.{BusTurn}
use Rattle.sja_bus.proofs.AtPorts.Turning.{says_same}
use Rattle.sja_bus.proofs.bus_node.BusNode.passes_over.Goals as goal

pub returns-in-Nothing-clause-yes : goal.returns-in-Nothing-clause-yes
returns-in-Nothing-clause-yes c = λ is.
    let both = and_parts c.is_nothing.result c.says_as.result is in
    let beside = c.says_as.ensures.yes both.1 in
    let events = c.is_nothing.ensures.yes both.0 ∙ ap nothing beside.receiving ∙ sym c.requires.nothing in (
      c.in-Nothing.is,
      says_same c.args.turn.now c.args.stands.now events beside,
    )

pub returns-in-Nothing-clause-no : goal.returns-in-Nothing-clause-no
returns-in-Nothing-clause-no c = λ no calm same. elim (and_cases c.is_nothing.result c.says_as.result no) [
  | inl happened ↦
      let P : BusTurn → Type 0 = λ t. t.events ≡ nothing t.events.receiving in
      c.is_nothing.ensures.no happened (subst P (sym same) c.requires.nothing)
  | inr other ↦ c.says_as.ensures.no other same
]
