-- Definitions go together exactly where, for each first key, the states follow each other and those below go together.
use Rattle.std.proofs.Common.{◌≡◌, List, [], Some, None, refl}
use Rattle.toml.specs.Tables.{no_nodes}
use Rattle.sja_plan_reading.specs.Words.{Text}
use Rattle.sja_plan_reading.specs.Inside.Items.{Item, at_first}
use Rattle.sja_plan_reading.specs.Inside.Judging.{IsGood, split}
use Rattle.sja_plan_reading.specs.declared.tables.state.State.TheVariants.{Absent}
use Rattle.sja_plan_reading.proofs.ByKey.{all_go}
use Rattle.sja_plan_reading.proofs.OneKey.{AllGood, goes_of}

-- of one key the states follow each other, and those below go together
abbrev pub Splits : List Item → Text → Type 0
Splits is k = (gs : List (List Item)) × (split Absent [] (at_first k is) ≡ Some gs) × AllGood gs

pub good_of_splits : (is : List Item) → ((k : Text) → Splits is k) → IsGood is
good_of_splits is each =
    all_go is no_nodes (λ k.
    let (gs, is_split, good) = each k in
    goes_of (at_first k is) Absent [] None gs (refl, refl) is_split good)
