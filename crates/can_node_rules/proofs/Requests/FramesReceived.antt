-- Each frame that a node received, or sent for itself, is a frame.
use Rattle.std.proofs.Common.{ℕ, ◌≤◌, Bool, true, false, List, [], ◌∷◌, ◌++◌, length, sym, subst, arith}
use Rattle.std.specs.Prelude.{if◌then◌else◌, Option, Some, None}
use Rattle.can_levels.specs.declared.level.Level.{Level}
use Rattle.can_frame.specs.Frame.{FrameValue, IsFrame}
use Rattle.can_frame.specs.Message.{head_of}
use Rattle.can_node_rules.specs.declared.request.Request.{Request}
use Rattle.can_node_rules.specs.Bits.{Bit}
use Rattle.can_node_rules.specs.Context.{ContextValue}
use Rattle.can_node_rules.specs.Frames.{Receives, Transmits}
use Rattle.can_node_rules.specs.Frames.Receives.{reception, broken}
use Rattle.can_node_rules.specs.Frames.Transmits.{sending, failed, lost}
use Rattle.can_node_rules.specs.Pieces.{Place, Piece, received_by}
use Rattle.can_node_rules.specs.Record.{RecordEntry}
use Rattle.can_node_rules.specs.Table.{Row}
use Rattle.can_node_rules.specs.Table.Row.{integration, idle, other, own, other_begun, own_begun, last_eof_bit}
use Rattle.can_node_rules.specs.Table.Row.{last_eof_bit_overload, flag, flag_fault, flag_passive, delimiter}
use Rattle.can_node_rules.specs.Table.Row.{delimiter_overload, delimiter_fault, interframe_space, interframe_space_sof}
use Rattle.can_node_rules.specs.Table.Row.{suspend_transmission_sof, intermission_overload}
use Rattle.can_node_rules.specs.Table.Row.{intermission_overload_second}
use Rattle.can_node_rules.specs.FinishedPieces.{FinishedPiece, ReceivedFrame, Count, counted, tagged, received_if}
use Rattle.can_node_rules.specs.FinishedPieces.{received}
use Rattle.can_node_rules.specs.Cut.{Move, From, IsCut}
use Rattle.can_node_rules.specs.Cut.Move.{piece, sent, aborted, started, stopped, off_within, off_after}
use Rattle.can_node_rules.specs.Cut.From.{here, on}
use Rattle.can_node_rules.proofs.OneCut.Longer.{received_both}
use Rattle.can_levels.proofs.Packing.Frames.{count_most}

abbrev AnyIsFrame : Option FrameValue → Type 0
AnyIsFrame None = Unit {0}
AnyIsFrame (Some f) = IsFrame f

frame_by : {listen : Bool} {l : List Level} {bits : List Bit} {p : Piece} {next : Place} →
    Receives listen l bits p next →
    AnyIsFrame (received_by p)
frame_by (reception h) = h.line.is_part.frame
frame_by (broken h) = tt

own_frame : (b : Bool) (f : FrameValue) → IsFrame f → AnyIsFrame (if b then Some f else None)
own_frame true f h = h
own_frame false f h = tt

sent_by : {self_test : Bool} {request : Request} {bits : List Bit} {p : Piece} {next : Place} →
    Transmits self_test request bits p next → AnyIsFrame (received_by p)
sent_by {request = request} (sending h) = own_frame request.self_receive request.frame h.is_part.is_part.frame
sent_by (failed h) = tt
sent_by (lost h) = frame_by h.goes_on

by_row : {c : ContextValue} {place next : Place} {bits : List Bit} {p : Piece} → Row c place bits p next →
    AnyIsFrame (received_by p)
by_row (integration h) = tt
by_row (idle h) = tt
by_row (other none h) = frame_by h
by_row (own some h) = sent_by h
by_row (other_begun none h) = frame_by h
by_row (own_begun some h) = sent_by h
by_row last_eof_bit = tt
by_row last_eof_bit_overload = tt
by_row (flag h) = tt
by_row (flag_fault i h few) = tt
by_row (flag_passive h first) = tt
by_row (delimiter k) = tt
by_row (delimiter_overload k) = tt
by_row (delimiter_fault k i few) = tt
by_row interframe_space = tt
by_row interframe_space_sof = tt
by_row (suspend_transmission_sof i owes few) = tt
by_row intermission_overload = tt
by_row intermission_overload_second = tt

-- each of these is a frame
abbrev pub AreFrames : List ReceivedFrame → Type 0
AreFrames [] = Unit {0}
AreFrames (x ∷ xs) = IsFrame x.frame × AreFrames xs

frames_both : (xs ys : List ReceivedFrame) → AreFrames xs → AreFrames ys → AreFrames (xs ++ ys)
frames_both [] ys a b = b
frames_both (x ∷ xs) ys a b = (a.0, frames_both xs ys a.1 b)

frames_if : (f : Option FrameValue) (x : FinishedPiece) → AnyIsFrame f → AreFrames (received_if f x [])
frames_if None x h = tt
frames_if (Some f) x h = (h, tt)

by_move : {c next : ContextValue} {place site : Place} {entries : List RecordEntry} {ps : List Piece} (k : Count) →
    Move c place entries ps next site → AreFrames (received (tagged k ps))
by_move k (piece {p = p} slice is row stays) = frames_if (received_by p) _ (by_row row)
by_move k (sent request away) = tt
by_move k (aborted away) = tt
by_move k (started config l) = tt
by_move k (stopped slice opened stays) = tt
by_move k (off_within slice before last whole stays is unfinished full) = tt
by_move k (off_after {p = p} slice before last whole stays is row full) = frames_if (received_by p) _ (by_row row)

frames_from : {k : Count} {c end : ContextValue} {place last : Place} {entries rest : List RecordEntry}
    {found : List FinishedPiece} → From k c place entries found end last rest → AreFrames (received found)
frames_from (here opened stays) = tt
frames_from {k = k} (on {entries = first} {ps = ps} {qs = qs} move from) =
    subst (λ (l : List ReceivedFrame). AreFrames l) (sym (received_both (tagged (counted k first) ps) qs))
    (frames_both (received (tagged (counted k first) ps)) (received qs) (by_move (counted k first) move)
    (frames_from from))

pub all_frames : (entries : List RecordEntry) (found : List FinishedPiece) → IsCut entries found →
    AreFrames (received found)
all_frames entries found cut = frames_from cut.from

-- ---- so a message has 3 to 13 bytes

head_fits : (ext : Bool) (id : ℕ) (rtr : Bool) (dlc : ℕ) (rest : List ℕ) → length rest ≤ 8 →
    (3 ≤ length (head_of ext id rtr dlc ++ rest)) × (length (head_of ext id rtr dlc ++ rest) ≤ 13)
head_fits true id rtr dlc rest few = (omega (arith, few), omega (arith, few))
head_fits false id rtr dlc rest few = (omega (arith, few), omega (arith, few))

pub message_fits : (f : FrameValue) → IsFrame f →
    (3 ≤ length (head_of f.ext f.id f.rtr f.dlc ++ f.bytes)) × (length (head_of f.ext f.id f.rtr f.dlc ++ f.bytes) ≤ 13)
message_fits f h =
    let most = count_most f.rtr f.dlc in let n = h.count in
    head_fits f.ext f.id f.rtr f.dlc f.bytes (omega (arith, most, n))
