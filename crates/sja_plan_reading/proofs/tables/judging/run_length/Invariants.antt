use Rattle.std.specs.List.{slice_index_or}
use Rattle.std.proofs.Common.{take}
use Rattle.toml.specs.Data.{same_key}
use Rattle.sja_plan_reading.specs.Inside.Items.{first_of}
use Rattle.sja_plan_reading.specs.Inside.Names.{texts_of}
use Rattle.sja_plan_reading.specs.Inside.Definitions.{item_of, items_of, FirstsAre}
use Rattle.sja_plan_reading.specs.declared.tables.definition.Definition.{Definition}
use Rattle.sja_plan_reading.proofs.tables.judging.run_length.Given as goal

abbrev pub invariant-loop-length : goal.invariant-loop-length
invariant-loop-length l =
    (d : Definition) → FirstsAre (same_key (first_of (item_of (texts_of l.names) (slice_index_or l.definitions 0 d))))
    (items_of (texts_of l.names) (take l.length l.definitions))
