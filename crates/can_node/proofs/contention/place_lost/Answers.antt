use Rattle.std.proofs.Common.{◌≡◌, ◌≢◌, true, false, Option, Some, None, refl, sym, ◌∙◌, arith, add-one}
use Rattle.std.specs.Option.{option_eq}
use Rattle.std.proofs.lemmas.Bool.{not-true, not-false, iff_false}
use Rattle.can_levels.specs.declared.level.Level.{Level}
use Rattle.can_levels.specs.declared.level.Level.TheVariants.{Dominant, Recessive}
use Rattle.can_levels.specs.contracts.level.LevelPartialEq.TheImpl.{eq-value}
use Rattle.can_node_rules.specs.Contending.{arbitration_field}
use Rattle.can_node_rules.proofs.Contending.FieldLevels.{length_field}
use Rattle.can_node_rules.proofs.Contending.LostFields.{same_more, loses_nowhere, loses_not_within}
use Rattle.can_node.proofs.contention.place_lost.Goals as goal

-- what the comparison of two levels says
same_levels : (a b : Option Level) → option_eq eq-value.it a b ≡ true → a ≡ b
same_levels None None h = refl
same_levels None (Some y) h = cc
same_levels (Some x) None h = cc
same_levels (Some Dominant) (Some Dominant) h = refl
same_levels (Some Recessive) (Some Recessive) h = refl
same_levels (Some Dominant) (Some Recessive) h = cc
same_levels (Some Recessive) (Some Dominant) h = cc

other_levels : (a b : Option Level) → option_eq eq-value.it a b ≡ false → a ≢ b
other_levels None None h = cc
other_levels None (Some y) h = λ e. cc
other_levels (Some x) None h = λ e. cc
other_levels (Some Dominant) (Some Dominant) h = cc
other_levels (Some Recessive) (Some Recessive) h = cc
other_levels (Some Dominant) (Some Recessive) h = λ e. cc
other_levels (Some Recessive) (Some Dominant) h = λ e. cc

pub returns-then-ne : goal.returns-then-ne
returns-then-ne c =
    let own = arbitration_field c.args.own.now in
    let other = arbitration_field c.args.other.now in
    let differ = other_levels _ _ (not-true _ (sym c.ne.ensures ∙ c.if-ne.true)) in
    let stands = iff_false c.is_lost.ensures c.if-is_lost.false in
    loses_nowhere own other c.loop-place.place c.loop-place.invariant
    (λ e. differ (c.field_level-driven.ensures ∙ e ∙ sym c.field_level-seen.ensures))
    (λ lost. stands (c.field_level-driven.ensures ∙ lost.0, c.field_level-seen.ensures ∙ lost.1))

pub loop-place-preserved : goal.loop-place-preserved
loop-place-preserved c =
    let own = arbitration_field c.args.own.now in
    let other = arbitration_field c.args.other.now in
    let here = same_levels _ _ (not-false _ (sym c.ne.ensures ∙ c.if-ne.false)) in
    let levels = sym c.field_level-driven.ensures ∙ here ∙ c.field_level-seen.ensures in
    rw add-one (same_more own other c.loop-place.place c.loop-place.invariant levels)

pub returns : goal.returns
returns c =
    let own = arbitration_field c.args.own.now in
    let other = arbitration_field c.args.other.now in
    loses_not_within own other c.loop-place.place (omega (arith, length_field c.args.own.now)) c.loop-place.invariant
