use Rattle.sja_replay.proofs.view.View.of.Goals as goal

pub returns : goal.returns
returns c = λ entries found h.
    let k = c.counters.ensures.counts entries found h in record {
      phase = c.phase.ensures.phase entries found h;
      segment = c.segment.ensures entries found h;
      transmits = c.is_transmitter.ensures entries found h;
      tec = k.0;
      rec = k.1;
      off = k.2;
      held = c.held.ensures entries found h;
      flag = c.flag.ensures entries found h;
    }
