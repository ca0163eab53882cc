use Rattle.std.proofs.Common.{subst, inl}
use Rattle.sja_plan_reading.specs.Inside.Names.{texts_of}
use Rattle.sja_plan_reading.specs.Inside.Definitions.{items_of}
use Rattle.sja_plan_reading.specs.Inside.Strange.{HasStrange}
use Rattle.sja_plan_reading.proofs.tables.strange.is_off.Goals as goal

pub returns : goal.returns
returns c found =
    let room = c.args.room.now in
    inl (subst (λ ds. HasStrange (items_of (texts_of room.names) ds)) c.deref.ensures.value
    (c.has_strange.ensures found))
