-- A document that is a plan, however long it is (this project's own rule).
use Rattle.std.specs.Prelude.{◌≡◌, Some}
use Rattle.toml.specs.Data.{Members}
use Rattle.toml.specs.Parse.{parse_document}
use Rattle.sja_plan_reading.specs.Words.{Text}
use Rattle.sja_plan_reading.specs.Document.{DocumentValue, HasShape}
use Rattle.sja_plan.specs.Plan.{PlanValue}
use Rattle.sja_plan_reading.specs.Checks.{SaysPlan}

-- the text is a TOML document with a plan's keys, and says this plan
abbrev pub IsDocumentOf : Text → PlanValue → Type 0
IsDocumentOf text p =
    (d : DocumentValue) × (ms : Members) × (parse_document text ≡ Some ms) × HasShape ms d × SaysPlan d p
