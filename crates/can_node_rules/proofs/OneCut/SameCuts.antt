-- Two cuts of one record show the same.
use Rattle.std.proofs.Common.{◌≡◌, List, [], ap, ◌∙◌}
use Rattle.can_levels.specs.declared.level.Level.{Level}
use Rattle.can_node_rules.specs.Context.{ContextValue}
use Rattle.can_node_rules.specs.Pieces.{Place}
use Rattle.can_node_rules.specs.Record.{bits_in, RecordEntry}
use Rattle.can_node_rules.specs.Driving.{Drives, phase_at}
use Rattle.can_node_rules.specs.Effects.{along}
use Rattle.can_node_rules.specs.NextBit.{now_in, open_bits, phase_in, DrivesIn}
use Rattle.can_node_rules.proofs.OneCut.CutOnce.{whole_once}
use Rattle.can_node_rules.proofs.OneCut.DrivenLevels.{drives_once}
use Rattle.can_node_rules.specs.Cut.{FinishedPiece, IsCut}

-- what is right before a piece that isn't finished, and its entries, say what stands in the next bit
along_same : (c d : ContextValue) (place site : Place) (l m : List RecordEntry) → c ≡ d → place ≡ site → l ≡ m →
    along c place [] l ≡ along d site [] m
along_same c d place site l m a b e =
    ap (λ (x : ContextValue). along x place [] l) a ∙ ap (λ (x : Place). along d x [] l) b
    ∙ ap (λ (x : List RecordEntry). along d site [] x) e

pub same_now : (entries : List RecordEntry) (found others : List FinishedPiece) (h : IsCut entries found)
    (k : IsCut entries others) → now_in h ≡ now_in k
same_now entries found others h k =
    let one = whole_once entries found others h k in
    along_same h.context k.context h.place k.place h.rest k.rest one.1 one.2 one.3

pub same_place : (entries : List RecordEntry) (found others : List FinishedPiece) (h : IsCut entries found)
    (k : IsCut entries others) → h.place ≡ k.place
same_place entries found others h k = (whole_once entries found others h k).2

pub same_bits : (entries : List RecordEntry) (found others : List FinishedPiece) (h : IsCut entries found)
    (k : IsCut entries others) → open_bits h ≡ open_bits k
same_bits entries found others h k = ap bits_in (whole_once entries found others h k).3

pub same_phase : (entries : List RecordEntry) (found others : List FinishedPiece) (h : IsCut entries found)
    (k : IsCut entries others) → phase_in h ≡ phase_in k
same_phase entries found others h k =
    ap (λ (x : Place). phase_at x (open_bits h)) (same_place entries found others h k)
    ∙ ap (phase_at k.place) (same_bits entries found others h k)

-- what is driven by one cut is driven by another
pub drives_by : (entries : List RecordEntry) (found others : List FinishedPiece) (h : IsCut entries found)
    (k : IsCut entries others) (x : Level) → DrivesIn h x → DrivesIn k x
drives_by entries found others h k x a =
    let now = same_now entries found others h k in
    let place = same_place entries found others h k in
    let bits = same_bits entries found others h k in
    let c : Drives (now_in k) h.place (open_bits h) x = rw now at a in
    let d : Drives (now_in k) k.place (open_bits h) x = rw place at c in rw bits at d

-- and the node drives the same by both
pub drives_same : (entries : List RecordEntry) (found others : List FinishedPiece) (h : IsCut entries found)
    (k : IsCut entries others) (x y : Level) → DrivesIn h x → DrivesIn k y → x ≡ y
drives_same entries found others h k x y a b =
    drives_once (now_in k) k.place (open_bits k) x y (drives_by entries found others h k x a) b
