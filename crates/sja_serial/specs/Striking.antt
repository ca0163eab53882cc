-- A run in one thread with a strike more (this project's own rule).
use Rattle.std.specs.Prelude.{[], ◌∷◌, ◌++◌}
use Rattle.sja_steps.specs.declared.strike.Strike.{Strike}
use Rattle.sja_serial.specs.Serial.{Setup, SerialValue}

-- the same run, but that its bus has one strike more, behind those that it had
abbrev pub struck_run : SerialValue → Strike → SerialValue
struck_run r strike = record r { bus = record r.bus { script = r.bus.script ++ strike ∷ [] } }

-- a run that is made so too, but for one strike more
abbrev pub struck_setup : Setup → Strike → Setup
struck_setup setup strike = record setup { strikes = setup.strikes ++ strike ∷ [] }
