-- What a key's state refuses, the key refuses.
use Rattle.std.proofs.Common.{◌≡◌, List, [], ◌∷◌, Option, None}
use Rattle.std.proofs.Common.{sym}
use Rattle.std.proofs.lemmas.Option.{none-some}
use Rattle.toml.specs.Tables.{Node}
use Rattle.toml.specs.Tables.{Definition, key_value, std_table, array_table}
use Rattle.sja_plan_reading.specs.Words.{Text}
use Rattle.sja_plan_reading.specs.Inside.Items.{Item, step}
use Rattle.sja_plan_reading.specs.Inside.Judging.{next, Holds}
use Rattle.sja_plan_reading.specs.declared.tables.state.State.{State}
use Rattle.sja_plan_reading.specs.declared.tables.state.State.TheVariants.{Absent, Value, Implicit, Dotted, Header}
use Rattle.sja_plan_reading.specs.declared.tables.state.State.TheVariants.{Array}

-- a definition that the state refuses is refused
refused_by : (path dots : List Text) (last : Text) (what : Definition) (s : State) (inner : List Item)
    (o : Option Node) → let i : Item = record { path = path; dots = dots; last = last; what = what } in
    Holds s inner o → next s i ≡ None → step i o ≡ None
refused_by (k ∷ path) dots last what Absent inner o h none = absurd (none-some _ (sym none))
refused_by (k ∷ path) dots last what Value inner o h none = rw h.2
refused_by (k ∷ path) dots last what Implicit inner o h none = absurd (none-some _ (sym none))
refused_by (k ∷ path) dots last what Dotted inner o h none = absurd (none-some _ (sym none))
refused_by (k ∷ path) dots last what Header inner o h none = absurd (none-some _ (sym none))
refused_by (k ∷ path) dots last what Array inner o h none = absurd (none-some _ (sym none))
refused_by [] (k ∷ dots) last what Absent inner o h none = absurd (none-some _ (sym none))
refused_by [] (k ∷ dots) last what Value inner o h none = rw h.2
refused_by [] (k ∷ dots) last what Implicit inner o h none = absurd (none-some _ (sym none))
refused_by [] (k ∷ dots) last what Dotted inner o h none = absurd (none-some _ (sym none))
refused_by [] (k ∷ dots) last what Header inner o h none = rw h.2
refused_by [] (k ∷ dots) last what Array inner o h none = rw h.3
refused_by [] [] last (key_value d) Absent inner o h none = absurd (none-some _ (sym none))
refused_by [] [] last (key_value d) Value inner o h none = rw h.2
refused_by [] [] last (key_value d) Implicit inner o h none = rw h.2
refused_by [] [] last (key_value d) Dotted inner o h none = rw h.2
refused_by [] [] last (key_value d) Header inner o h none = rw h.2
refused_by [] [] last (key_value d) Array inner o h none = rw h.3
refused_by [] [] last std_table Absent inner o h none = absurd (none-some _ (sym none))
refused_by [] [] last std_table Value inner o h none = rw h.2
refused_by [] [] last std_table Implicit inner o h none = absurd (none-some _ (sym none))
refused_by [] [] last std_table Dotted inner o h none = rw h.2
refused_by [] [] last std_table Header inner o h none = rw h.2
refused_by [] [] last std_table Array inner o h none = rw h.3
refused_by [] [] last array_table Absent inner o h none = absurd (none-some _ (sym none))
refused_by [] [] last array_table Value inner o h none = rw h.2
refused_by [] [] last array_table Implicit inner o h none = rw h.2
refused_by [] [] last array_table Dotted inner o h none = rw h.2
refused_by [] [] last array_table Header inner o h none = rw h.2
refused_by [] [] last array_table Array inner o h none = absurd (none-some _ (sym none))

pub refused : (i : Item) (s : State) (inner : List Item) (o : Option Node) → Holds s inner o → next s i ≡ None →
    step i o ≡ None
refused i s inner o h none = refused_by i.path i.dots i.last i.what s inner o h none
