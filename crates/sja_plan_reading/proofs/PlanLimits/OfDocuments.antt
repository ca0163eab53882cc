-- The version of a document, by whose limits it is judged.
use Rattle.std.proofs.Common.{◌≡◌, ◌≤◌, ℕ, pos, List, ap, sym, subst}
use Rattle.std.specs.List.{AllZip}
use Rattle.sja_steps.specs.declared.step.Step.{Step}
use Rattle.sja_plan_reading.specs.StepTexts.{SaysStep}
use Rattle.sja_plan_reading.specs.Document.{DocumentValue}
use Rattle.sja_plan_reading.specs.Checks.{natural, version_of, HasBits, HasSteps}
use Rattle.sja_plan.specs.Limits.{most_bits}

-- the version that a document has within the limits is the one whose limits it keeps
pub version_is : (d : DocumentValue) (version : ℕ) → d.version ≡ pos version → version_of d ≡ version
version_is d version is = ap natural is

-- what was judged by the number of a version was judged by the document's
pub has_bits : (d : DocumentValue) (version bits : ℕ) → version_of d ≡ version → d.bits ≡ pos bits → 1 ≤ bits →
    bits ≤ most_bits version → HasBits d
has_bits d version bits same is some few = (bits, is, some, subst (λ v. bits ≤ most_bits v) (sym same) few)

pub has_steps : (d : DocumentValue) (version : ℕ) (nodes : List (List Step)) → version_of d ≡ version →
    AllZip (AllZip (SaysStep version)) d.nodes nodes → HasSteps d
has_steps d version nodes same says = (nodes, subst (λ v. AllZip (AllZip (SaysStep v)) d.nodes nodes) (sym same) says)
