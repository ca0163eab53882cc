-- What is written of a node's signals.
use Rattle.std.specs.Prelude.{ℕ, Bool, List, ◌++◌, [], map, codes, decimal}
use Rattle.can_levels.specs.declared.level.Level.{Level}
use Rattle.can_levels.specs.Fields.{is_recessive}
use Rattle.text_wave.specs.declared.gauges.Gauges.{Gauges}
use Rattle.text_wave.specs.declared.probe.Probe.{Probe}
use Rattle.text_wave.specs.declared.signals.Signals.{Signals}
use Rattle.can_levels.specs.BusLevel.{wired}
use Rattle.text_report.specs.ReportLines.{numbered}
use Rattle.text_wave.specs.Wires.{differ}
use Rattle.text_wave.specs.WaveText.{line, value_line, number_line, change, number_change}

-- ---- all values of node n, on a bus with this level

abbrev pub level_values : ℕ → Signals → List ℕ
level_values n s =
    value_line (codes "d" ++ decimal n) (is_recessive s.driven)
    ++ value_line (codes "s" ++ decimal n) (is_recessive s.seen)
    ++ value_line (codes "a" ++ decimal n) s.active
    ++ value_line (codes "f" ++ decimal n) s.off
    ++ value_line (codes "m" ++ decimal n) s.stored
    ++ value_line (codes "o" ++ decimal n) s.overrun

abbrev pub number_values : ℕ → Gauges → Bool → List ℕ
number_values n g struck =
    number_line (codes "t" ++ decimal n) g.tec
    ++ number_line (codes "r" ++ decimal n) g.rec
    ++ value_line (codes "x" ++ decimal n) struck
    ++ number_line (codes "p" ++ decimal n) g.phase

abbrev pub node_values : Bool → ℕ → Probe → List ℕ
node_values bus n p =
    level_values n p.cursor.shows
    ++ number_values n p.meter.shows (differ bus (is_recessive p.cursor.shows.seen))

-- ---- those that changed, where the bus had and has these levels

abbrev pub level_changes : ℕ → Signals → Signals → List ℕ
level_changes n old new =
    change (codes "d" ++ decimal n) (is_recessive old.driven) (is_recessive new.driven)
    ++ change (codes "s" ++ decimal n) (is_recessive old.seen) (is_recessive new.seen)
    ++ change (codes "a" ++ decimal n) old.active new.active
    ++ change (codes "f" ++ decimal n) old.off new.off
    ++ change (codes "m" ++ decimal n) old.stored new.stored
    ++ change (codes "o" ++ decimal n) old.overrun new.overrun

-- of them the levels, and the others
abbrev pub seen_changes : ℕ → Signals → Signals → List ℕ
seen_changes n old new =
    change (codes "d" ++ decimal n) (is_recessive old.driven) (is_recessive new.driven)
    ++ change (codes "s" ++ decimal n) (is_recessive old.seen) (is_recessive new.seen)

abbrev pub state_changes : ℕ → Signals → Signals → List ℕ
state_changes n old new =
    change (codes "a" ++ decimal n) old.active new.active
    ++ change (codes "f" ++ decimal n) old.off new.off
    ++ change (codes "m" ++ decimal n) old.stored new.stored
    ++ change (codes "o" ++ decimal n) old.overrun new.overrun

abbrev pub number_changes : ℕ → Gauges → Gauges → Bool → Bool → List ℕ
number_changes n old new was_struck is_struck =
    number_change (codes "t" ++ decimal n) old.tec new.tec
    ++ number_change (codes "r" ++ decimal n) old.rec new.rec
    ++ change (codes "x" ++ decimal n) was_struck is_struck
    ++ number_change (codes "p" ++ decimal n) old.phase new.phase

abbrev pub node_changes : Bool → Bool → ℕ → Probe → List ℕ
node_changes before now n p =
    level_changes n p.cursor.showed p.cursor.shows
    ++ number_changes n p.meter.showed p.meter.shows (differ before (is_recessive p.cursor.showed.seen))
    (differ now (is_recessive p.cursor.shows.seen))

-- ---- all nodes, counted from 0, and the bus

-- the levels that all nodes drove before, and drive now
abbrev pub driven_before : List Probe → List Level
driven_before probes = map (λ (p : Probe). p.cursor.showed.driven) probes

abbrev pub driven_now : List Probe → List Level
driven_now probes = map (λ (p : Probe). p.cursor.shows.driven) probes

abbrev pub values_on : Bool → List Probe → List ℕ
values_on bus probes =
    line (codes "#0") ++ line (codes "$dumpvars") ++ value_line (codes "w") bus
    ++ numbered (node_values bus) 0 probes ++ line (codes "$end")

abbrev pub all_values : List Probe → List ℕ
all_values probes = values_on (is_recessive (wired (driven_now probes))) probes

abbrev pub changes_on : Bool → Bool → List Probe → List ℕ
changes_on before now probes = change (codes "w") before now ++ numbered (node_changes before now) 0 probes

abbrev pub all_changes : List Probe → List ℕ
all_changes probes =
    changes_on (is_recessive (wired (driven_before probes))) (is_recessive (wired (driven_now probes))) probes
