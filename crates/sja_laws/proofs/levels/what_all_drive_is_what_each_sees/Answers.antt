use Rattle.sja_laws.proofs.AllNodes.OneWire.{levels_once}
use Rattle.sja_laws.proofs.levels.what_all_drive_is_what_each_sees.Goals as goal

pub returns : goal.returns
returns c = levels_once
