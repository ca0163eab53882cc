-- What the table of a plan says is that plan.
use Rattle.std.proofs.Common.{◌≡◌, ◌≤◌, ◌+◌, ◌∙◌, ℕ, Bool, true, List, [], ◌∷◌, length, map, All, Some}
use Rattle.std.proofs.Common.{refl, sym, ap₂, subst, arith}
use Rattle.std.proofs.lemmas.List.{length-map}
use Rattle.std.proofs.lemmas.List.Elements.{All-map, All-weaker, All-head, All-tail}
use Rattle.std.proofs.lemmas.List.Sums.{sum_by-cons}
use Rattle.std.specs.List.{AllZip}
use Rattle.toml.specs.Parse.{parse_document}
use Rattle.sja_plan_reading.specs.Words.{Text}
use Rattle.sja_plan_reading.specs.StepTexts.{SaysStep}
use Rattle.sja_plan_reading.specs.TurnTexts.{SaysTurn}
use Rattle.sja_plan_reading.specs.StrikeTexts.{SaysStrike, count_of, strikes_in}
use Rattle.sja_plan.specs.Limits.{most_steps}
use Rattle.sja_plan.specs.Plan.{PlanValue, IsInLimits, NamesNode, IsStrikeOn, times_in}
use Rattle.sja_plan_reading.specs.Checks.{SaysPlan}
use Rattle.sja_plan_reading.specs.Faults.{IsText, IsPlanOf}
use Rattle.sja_steps.specs.declared.step.Step.{Step}
use Rattle.sja_steps.specs.declared.strike.Strike.{Strike}
use Rattle.sja_plan_text.specs.Texts.{spelled_step, turn_text, strike_text}
use Rattle.sja_plan_text.specs.HasTexts.{HasStepText, HasTurnText, HasStrikeText, HasTexts}
use Rattle.sja_plan_text.specs.Document.{IsDocumentOf}
use Rattle.sja_plan_text.specs.Inside.Table.{plan_members, plan_document}
use Rattle.sja_plan_text.proofs.Tables.Lists.{said_of_each, both_of_each}
use Rattle.sja_plan_text.proofs.Spelling.Steps.{spelled_said}
use Rattle.sja_plan_text.proofs.Spelling.Turns.{turn_said}
use Rattle.sja_plan_text.proofs.Spelling.Strikes.{strike_said, count_is_times}
use Rattle.sja_plan_text.proofs.Tables.Shapes.{plan_shape}

-- the texts of strikes count as often as these strike
times_counted : (strikes : List Strike) → All HasStrikeText strikes →
    strikes_in (map strike_text strikes) ≡ times_in strikes
times_counted [] h = refl
times_counted (s ∷ strikes) h =
    sum_by-cons count_of (strike_text s) (map strike_text strikes)
    ∙ ap₂ (λ a b. a + b) (count_is_times s (All-head HasStrikeText s strikes h))
    (times_counted strikes (All-tail HasStrikeText s strikes h))
    ∙ sym (sum_by-cons (λ (s : Strike). s.times) s strikes)

few_texts : (named : Bool) (most : ℕ) (steps : List Step) → length steps ≤ most →
    length (map (spelled_step named) steps) ≤ most
few_texts named most steps h = omega (arith, h, length-map steps (spelled_step named))

-- with names in version 3 alone
abbrev pub HasVersion : Bool → PlanValue → Type 0
HasVersion named p = named ≡ true → 3 ≤ p.version

pub plan_said : (named : Bool) (p : PlanValue) → HasVersion named p → IsInLimits p → HasTexts p →
    SaysPlan (plan_document named p) p
plan_said named p third limits texts =
    let count = length-map p.nodes (λ steps. map (spelled_step named) steps) in
    let most = most_steps p.version in
    let says = SaysStep p.version in
    let has = HasStepText p.version in
    record {
      version = (refl, limits.version.0, limits.version.1);
      bits = (refl, limits.bits.0, limits.bits.1);
      node_count = (omega (arith, count, limits.nodes.0), omega (arith, count, limits.nodes.1));
      step_counts = All-map (λ (steps : List Text). length steps ≤ most) (map (spelled_step named)) p.nodes
          (All-weaker (λ (steps : List Step). length steps ≤ most)
          (λ (steps : List Step). length (map (spelled_step named) steps) ≤ most) (few_texts named most) p.nodes
          texts.step_counts);
      steps = said_of_each (map (spelled_step named)) (AllZip says) (λ (steps : List Step). All has steps)
          (λ steps h. said_of_each (spelled_step named) says has (spelled_said named p.version third) steps h) p.nodes
          texts.steps;
      turn_count = omega (arith, length-map p.turns turn_text, limits.turn_count);
      turns = subst (λ n. AllZip (SaysTurn p.version n) (map turn_text p.turns) p.turns) (sym count)
          (said_of_each turn_text (SaysTurn p.version (length p.nodes))
          (λ t. NamesNode (length p.nodes) t × HasTurnText p.version t)
          (λ t h. turn_said p.version (length p.nodes) t h.0 h.1) p.turns
          (both_of_each (NamesNode (length p.nodes)) (HasTurnText p.version) p.turns limits.turns texts.turns));
      strike_count = omega (arith, times_counted p.strikes texts.strikes, limits.strike_count);
      strikes = subst (λ n. AllZip (SaysStrike n) (map strike_text p.strikes) p.strikes) (sym count)
          (said_of_each strike_text (SaysStrike (length p.nodes)) (λ s. IsStrikeOn (length p.nodes) s × HasStrikeText s)
          (λ s h. strike_said (length p.nodes) s h.0 h.1) p.strikes
          (both_of_each (IsStrikeOn (length p.nodes)) HasStrikeText p.strikes limits.strikes texts.strikes));
    }

-- a text that parses as the table of a plan is a document of it
pub is_document : (named : Bool) (p : PlanValue) (text : Text) → HasVersion named p → IsInLimits p → HasTexts p →
    parse_document text ≡ Some (plan_members named p) → IsDocumentOf text p
is_document named p text third limits texts parsed = (
  plan_document named p,
  plan_members named p,
  parsed,
  plan_shape named p (λ e. let raw = third e in omega (arith, raw, limits.version.1)),
  plan_said named p third limits texts,
)

-- bytes are a plan where they are a document of it, and a text that isn't too long
pub is_plan : (bytes : Text) (p : PlanValue) → IsText bytes → IsDocumentOf bytes p → IsPlanOf bytes p
is_plan bytes p text (d, ms, parsed, shape, said) = (d, (ms, text, parsed, shape), said)

pub is_short_document : (bytes : Text) (p : PlanValue) → IsPlanOf bytes p → IsText bytes × IsDocumentOf bytes p
is_short_document bytes p (d, (ms, text, parsed, shape), said) = (text, (d, ms, parsed, shape, said))
