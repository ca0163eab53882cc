-- What a definition makes of its key that no plan has there, and that the definitions behind keep it so.
use Rattle.std.proofs.Common.{◌≡◌, Bool, true, false, List, [], ◌∷◌, Option, Some, None, option_map, refl}
use Rattle.std.proofs.lemmas.Bool.{false≢true}
use Rattle.std.proofs.lemmas.Option.{none-some, same_Some}
use Rattle.toml.specs.Data.{as_integer}
use Rattle.toml.specs.Tables.{Node, Nodes, value, open_table, open_array, implicit, dotted, header}
use Rattle.toml.specs.Tables.{Definition, key_value, std_table, array_table}
use Rattle.sja_plan_reading.specs.Words.{Text}
use Rattle.sja_plan_reading.specs.Document.{texts_in}
use Rattle.sja_plan_reading.specs.Inside.Items.{Item, step}
use Rattle.sja_plan_reading.specs.Inside.Judging.{ends, comes}
use Rattle.sja_plan_reading.specs.Inside.Strange.{is_odd}
use Rattle.sja_plan_reading.proofs.Kept.{Stays}

-- what no key but that of the nodes holds
abbrev pub Odd : Node → Type 0
Odd (value d) = (texts_in d ≡ None) × (as_integer d ≡ None)
Odd (open_table origin ns) = Unit {0}
Odd (open_array done ns) = Unit {0}

-- that holds a table, which no key of a plan does
abbrev pub IsTable : Node → Type 0
IsTable (value d) = ⊥
IsTable (open_table origin ns) = Unit {0}
IsTable (open_array done ns) = ⊥

pub made : {A B : Type 0} (f : A → B) (o : Option A) (y : B) → option_map f o ≡ Some y →
    (z : A) × (o ≡ Some z) × (f z ≡ y)
made f None y e = absurd (none-some y e)
made f (Some z) y e = (z, refl, same_Some (f z) y e)

stays_by : (path dots : List Text) (last : Text) (what : Definition) (x y : Node) →
    let i : Item = record { path = path; dots = dots; last = last; what = what } in
    step i (Some x) ≡ Some y → Odd x → Odd y
stays_by (k ∷ path) dots last what (value d) y goes odd = absurd (none-some y goes)
stays_by (k ∷ path) dots last what (open_table origin ns) y goes odd = rw (← (made (open_table origin) _ y goes).2) tt
stays_by (k ∷ path) dots last what (open_array done ns) y goes odd = rw (← (made (open_array done) _ y goes).2) tt
stays_by [] (k ∷ dots) last what (value d) y goes odd = absurd (none-some y goes)
stays_by [] (k ∷ dots) last what (open_table header ns) y goes odd = absurd (none-some y goes)
stays_by [] (k ∷ dots) last what (open_table implicit ns) y goes odd = rw (← (made (open_table dotted) _ y goes).2) tt
stays_by [] (k ∷ dots) last what (open_table dotted ns) y goes odd = rw (← (made (open_table dotted) _ y goes).2) tt
stays_by [] (k ∷ dots) last what (open_array done ns) y goes odd = absurd (none-some y goes)
stays_by [] [] last (key_value e) (value d) y goes odd = absurd (none-some y goes)
stays_by [] [] last (key_value e) (open_table header ns) y goes odd = absurd (none-some y goes)
stays_by [] [] last (key_value e) (open_table implicit ns) y goes odd = absurd (none-some y goes)
stays_by [] [] last (key_value e) (open_table dotted ns) y goes odd = absurd (none-some y goes)
stays_by [] [] last (key_value e) (open_array done ns) y goes odd = absurd (none-some y goes)
stays_by [] [] last std_table (value d) y goes odd = absurd (none-some y goes)
stays_by [] [] last std_table (open_table header ns) y goes odd = absurd (none-some y goes)
stays_by [] [] last std_table (open_table implicit ns) y goes odd = rw (← same_Some _ y goes) tt
stays_by [] [] last std_table (open_table dotted ns) y goes odd = absurd (none-some y goes)
stays_by [] [] last std_table (open_array done ns) y goes odd = absurd (none-some y goes)
stays_by [] [] last array_table (value d) y goes odd = absurd (none-some y goes)
stays_by [] [] last array_table (open_table header ns) y goes odd = absurd (none-some y goes)
stays_by [] [] last array_table (open_table implicit ns) y goes odd = absurd (none-some y goes)
stays_by [] [] last array_table (open_table dotted ns) y goes odd = absurd (none-some y goes)
stays_by [] [] last array_table (open_array done ns) y goes odd = rw (← same_Some _ y goes) tt

pub odd_stays : Stays Odd
odd_stays i x y goes odd = stays_by i.path i.dots i.last i.what x y goes odd

makes_by : (path dots : List Text) (last : Text) (what : Definition) (o : Option Node) (y : Node) →
    let i : Item = record { path = path; dots = dots; last = last; what = what } in
    is_odd false (comes i) (ends i) ≡ true → step i o ≡ Some y → Odd y
makes_by (k ∷ path) dots last what None y odd goes = rw (← (made (open_table implicit) _ y goes).2) tt
makes_by (k ∷ path) dots last what (Some (value d)) y odd goes = absurd (none-some y goes)
makes_by (k ∷ path) dots last what (Some (open_table origin ns)) y odd goes =
    rw (← (made (open_table origin) _ y goes).2) tt
makes_by (k ∷ path) dots last what (Some (open_array done ns)) y odd goes =
    rw (← (made (open_array done) _ y goes).2) tt
makes_by [] (k ∷ dots) last what None y odd goes = rw (← (made (open_table dotted) _ y goes).2) tt
makes_by [] (k ∷ dots) last what (Some (value d)) y odd goes = absurd (none-some y goes)
makes_by [] (k ∷ dots) last what (Some (open_table header ns)) y odd goes = absurd (none-some y goes)
makes_by [] (k ∷ dots) last what (Some (open_table implicit ns)) y odd goes =
    rw (← (made (open_table dotted) _ y goes).2) tt
makes_by [] (k ∷ dots) last what (Some (open_table dotted ns)) y odd goes =
    rw (← (made (open_table dotted) _ y goes).2) tt
makes_by [] (k ∷ dots) last what (Some (open_array done ns)) y odd goes = absurd (none-some y goes)
makes_by [] [] last (key_value d) o y odd goes = absurd (false≢true odd)
makes_by [] [] last std_table None y odd goes = rw (← same_Some _ y goes) tt
makes_by [] [] last std_table (Some (value d)) y odd goes = absurd (none-some y goes)
makes_by [] [] last std_table (Some (open_table header ns)) y odd goes = absurd (none-some y goes)
makes_by [] [] last std_table (Some (open_table implicit ns)) y odd goes = rw (← same_Some _ y goes) tt
makes_by [] [] last std_table (Some (open_table dotted ns)) y odd goes = absurd (none-some y goes)
makes_by [] [] last std_table (Some (open_array done ns)) y odd goes = absurd (none-some y goes)
makes_by [] [] last array_table None y odd goes = rw (← same_Some _ y goes) tt
makes_by [] [] last array_table (Some (value d)) y odd goes = absurd (none-some y goes)
makes_by [] [] last array_table (Some (open_table header ns)) y odd goes = absurd (none-some y goes)
makes_by [] [] last array_table (Some (open_table implicit ns)) y odd goes = absurd (none-some y goes)
makes_by [] [] last array_table (Some (open_table dotted ns)) y odd goes = absurd (none-some y goes)
makes_by [] [] last array_table (Some (open_array done ns)) y odd goes = rw (← same_Some _ y goes) tt

pub makes_odd : (i : Item) (o : Option Node) (y : Node) → is_odd false (comes i) (ends i) ≡ true →
    step i o ≡ Some y → Odd y
makes_odd i o y odd goes = makes_by i.path i.dots i.last i.what o y odd goes

table_by : (path dots : List Text) (last : Text) (what : Definition) (o : Option Node) (y : Node) →
    let i : Item = record { path = path; dots = dots; last = last; what = what } in
    is_odd true (comes i) (ends i) ≡ true → step i o ≡ Some y → IsTable y
table_by (k ∷ path) dots last what o y odd goes = absurd (false≢true odd)
table_by [] (k ∷ dots) last what None y odd goes = rw (← (made (open_table dotted) _ y goes).2) tt
table_by [] (k ∷ dots) last what (Some (value d)) y odd goes = absurd (none-some y goes)
table_by [] (k ∷ dots) last what (Some (open_table header ns)) y odd goes = absurd (none-some y goes)
table_by [] (k ∷ dots) last what (Some (open_table implicit ns)) y odd goes =
    rw (← (made (open_table dotted) _ y goes).2) tt
table_by [] (k ∷ dots) last what (Some (open_table dotted ns)) y odd goes =
    rw (← (made (open_table dotted) _ y goes).2) tt
table_by [] (k ∷ dots) last what (Some (open_array done ns)) y odd goes = absurd (none-some y goes)
table_by [] [] last (key_value d) o y odd goes = absurd (false≢true odd)
table_by [] [] last std_table None y odd goes = rw (← same_Some _ y goes) tt
table_by [] [] last std_table (Some (value d)) y odd goes = absurd (none-some y goes)
table_by [] [] last std_table (Some (open_table header ns)) y odd goes = absurd (none-some y goes)
table_by [] [] last std_table (Some (open_table implicit ns)) y odd goes = rw (← same_Some _ y goes) tt
table_by [] [] last std_table (Some (open_table dotted ns)) y odd goes = absurd (none-some y goes)
table_by [] [] last std_table (Some (open_array done ns)) y odd goes = absurd (none-some y goes)
table_by [] [] last array_table o y odd goes = absurd (false≢true odd)

pub makes_table : (i : Item) (o : Option Node) (y : Node) → is_odd true (comes i) (ends i) ≡ true →
    step i o ≡ Some y → IsTable y
makes_table i o y odd goes = table_by i.path i.dots i.last i.what o y odd goes
