use Rattle.sja_threads.proofs.run.stop_run.Goals as goal

pub stopped-requires : goal.stopped-requires
stopped-requires g c = let r = c.requires.stops in (r.0, r.1 _ c.join_all-workeds.ensures)

pub returns : goal.returns
returns g c = λ plan stops. c.stopped.ensures plan (stops _ c.join_all-workeds.ensures)
