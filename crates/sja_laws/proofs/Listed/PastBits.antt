-- A list of bit events goes on past a bit that can be told.
use Rattle.std.proofs.Common.{◌≡◌, ◌<◌, ◌+◌, ◌^◌, Option, List, [], ◌∷◌, ◌++◌, refl, sym, subst, arith}
use Rattle.can_levels.specs.declared.level.Level.{Level}
use Rattle.can_node_rules.specs.NextBit.{DrivesIn}
use Rattle.sja_journal.specs.NodeWords.{FinishedPiece, IsCut}
use Rattle.sja_journal.specs.declared.entry.Entry.{Entry}
use Rattle.sja_journal.specs.declared.entry.Entry.TheVariants.{Bit}
use Rattle.sja_journal.specs.Places.{place_of}
use Rattle.sja_journal.specs.Records.{record_of}
use Rattle.sja_replay.specs.declared.reception.Reception.{Reception}
use Rattle.sja_replay.specs.declared.bit_event.BitEvent.{BitEvent}
use Rattle.sja_replay.specs.Closing.{Closes}
use Rattle.sja_replay.specs.Happened.{Happened}
use Rattle.sja_replay.specs.Happened.IsUntold.{misdriven, misfits, uncounted}
use Rattle.sja_replay.specs.Happened.Happened.{between, bit, refused, untold}
use Rattle.sja_replay.specs.BitEvent.{Brings}
use Rattle.sja_replay.specs.Taking.{last_part}
use Rattle.sja_replay.proofs.Once.Lists.{closes_once}

pub bit_on : (j : List Entry) (driven seen : Level) (rest brought left : List Entry) (hs : List BitEvent) →
    Happened j (Bit driven seen ∷ rest) hs → (place_of j).bits + 1 < 2 ^ 32 →
    ((found : List FinishedPiece) (cut : IsCut (record_of j) found) → DrivesIn cut driven) →
    ((h : BitEvent) → Brings j driven seen h → (reception : Option Reception)
    × Closes (last_part (j ++ Bit driven seen ∷ [])) h.events rest reception brought left) →
    (h : BitEvent) × (more : List BitEvent) × (hs ≡ h ∷ more) × Brings j driven seen h
    × Closes (last_part (j ++ Bit driven seen ∷ [])) h.events rest h.reception brought left
    × Happened ((j ++ Bit driven seen ∷ []) ++ brought) left more
bit_on j driven seen rest brought left hs (between t x) few drives closes = absurd t.takes
bit_on j driven seen rest brought left hs (refused never other) few drives closes = absurd (other driven seen refl)
bit_on j driven seen rest brought left hs (untold (misdriven {found = found} cut never)) few drives closes =
    absurd (never (drives found cut))
bit_on j driven seen rest brought left hs (untold (misfits h brings never)) few drives closes =
    let c = closes h brings in absurd (never c.0 brought left c.1)
bit_on j driven seen rest brought left hs (untold (uncounted many)) few drives closes =
    absurd (omega (arith, few, many))
bit_on j driven seen rest brought left hs (bit {brought = a} {left = l} {h = h} {hs = more} less brings others x)
    few drives closes =
    let i : List Entry = j ++ Bit driven seen ∷ [] in
    let c = closes h brings in
    let one = closes_once (last_part i) h.events rest h.reception c.0 a brought l left others c.1 in
    let P : Option Reception → Type 0 = λ f. Closes (last_part i) h.events rest f brought left in
    let Q : List Entry → Type 0 = λ b. Happened (i ++ b) left more in
    let R : List Entry → Type 0 = λ b. Happened (i ++ a) b more in
    (h, more, refl, brings, subst P (sym one.0) c.1, subst Q one.1 (subst R one.2 x))
