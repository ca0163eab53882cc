use Rattle.std.proofs.Common.{◌≡◌, ◌∙◌, ℕ, None, Some, ap, sym, subst}
use Rattle.std.specs.Prelude.{option_map}
use Rattle.sja_journal.specs.Records.{record_of}
use Rattle.sja_bus.specs.BusPlaces.{HasPlace}
use Rattle.sja_serial.specs.SerialPlaces.{named}
use Rattle.sja_serial.specs.Serial.{SerialValue}
use Rattle.sja_bus_rules.specs.Wire.{journal_at}
use Rattle.sja_serial.proofs.serial_run.SerialRun.place.Given.{Over}
use Rattle.sja_serial.proofs.serial_run.SerialRun.place.Goals.{After-place}
use Rattle.sja_serial.proofs.serial_run.SerialRun.place.Goals as goal

-- the cut of the node's record has this place
has_place : (g : Over) (c : After-place g) →
    HasPlace (record_of (journal_at c.args.self.now.bus.journals c.args.node)) c.place.result
has_place g c =
    let b = c.self.inside in
    let P : SerialValue → Type 0 = λ r. r.bus.fault ≡ None →
    HasPlace (record_of (journal_at r.bus.journals c.args.node)) c.place.result in
    subst P c.self.view_is
    (subst (λ (n : ℕ). b.bus.fault ≡ None → HasPlace (record_of (journal_at b.bus.journals n)) c.place.result)
    c.from.ensures c.place.ensures) c.requires.0.1.right

pub returns-in-Some : goal.returns-in-Some
returns-in-Some g c = record {
  place = c.place.result;
  has = has_place g (goal.at.returns-in-Some g c).After-place;
  is = ap Some c.named.ensures ∙ sym (ap (option_map named) c.in-Some.is);
}

pub returns-in-None : goal.returns-in-None
returns-in-None g c = record {
  place = c.place.result;
  has = has_place g (goal.at.returns-in-None g c).After-place;
  is = sym (ap (option_map named) c.in-None.is);
}
