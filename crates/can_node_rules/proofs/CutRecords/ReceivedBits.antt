-- Each frame that a node received has 42 bits of its own at least, from the second one to the sixth of EOF.
use Rattle.std.proofs.Common.{◌≡◌, ◌+◌, ◌*◌, ◌≤◌, ℕ, Bool, true, false, Option, Some, None, List, [], ◌∷◌, ◌++◌, length}
use Rattle.std.proofs.Common.{ap, arith}
use Rattle.std.specs.Prelude.{if◌then◌else◌}
use Rattle.std.proofs.lemmas.List.{length-append, length-map}
use Rattle.can_frame.specs.Frame.{FrameValue}
use Rattle.can_levels.specs.declared.level.Level.{Level}
use Rattle.can_levels.specs.declared.level.Level.TheVariants.{Dominant, Recessive}
use Rattle.can_levels.specs.Fields.{dlc_place}
use Rattle.can_levels.specs.Line.{StuffedPart, Line, tail}
use Rattle.can_levels.specs.Stuffing.{IsUnstuffed}
use Rattle.can_levels.specs.Stuffing.IsUnstuffed.{nothing, kept, dropped}
use Rattle.can_levels.proofs.SaidCounts.{length_body}
use Rattle.can_node_rules.specs.declared.request.Request.{Request}
use Rattle.can_node_rules.specs.Bits.{Bit, recessive_bit, seen_of}
use Rattle.can_node_rules.specs.Context.{ContextValue}
use Rattle.can_node_rules.specs.Frames.{Receives, Transmits}
use Rattle.can_node_rules.specs.Frames.Receives.{reception, broken}
use Rattle.can_node_rules.specs.Frames.Transmits.{sending, failed, lost}
use Rattle.can_node_rules.specs.Pieces.{Place, Piece, received_by}
use Rattle.can_node_rules.specs.Record.{RecordEntry, bits_in}
use Rattle.can_node_rules.specs.Record.RecordEntry.{Start, Stop, OneBit, Send, Abort, BusOff}
use Rattle.can_node_rules.specs.Table.{Row}
use Rattle.can_node_rules.specs.Table.Row.{integration, idle, other, own, other_begun, own_begun, last_eof_bit}
use Rattle.can_node_rules.specs.Table.Row.{last_eof_bit_overload, flag, flag_fault, flag_passive, delimiter}
use Rattle.can_node_rules.specs.Table.Row.{delimiter_overload, delimiter_fault, interframe_space, interframe_space_sof}
use Rattle.can_node_rules.specs.Table.Row.{suspend_transmission_sof, intermission_overload}
use Rattle.can_node_rules.specs.Table.Row.{intermission_overload_second}
use Rattle.can_node_rules.specs.FinishedPieces.{FinishedPiece, ReceivedFrame, Count, counted, none_yet, tagged}
use Rattle.can_node_rules.specs.FinishedPieces.{received_if, received}
use Rattle.can_node_rules.specs.Cut.{Move, From, IsCut}
use Rattle.can_node_rules.specs.Cut.Move.{piece, sent, aborted, started, stopped, off_within, off_after}
use Rattle.can_node_rules.specs.Cut.From.{here, on}
use Rattle.can_node_rules.proofs.OneCut.GoOn.{counted_both}
use Rattle.can_node_rules.proofs.OneCut.Longer.{received_both, bits_within}

-- ---- a line

-- stuffing adds levels
unstuffed_few : {w s : List Level} → IsUnstuffed w s → length w ≤ length s
unstuffed_few nothing = omega arith
unstuffed_few (kept {w = w} {s = s} x h free more longer) =
    let n = unstuffed_few h in let a = ap (λ (l : List Level). length l) more in
    let b = ap (λ (l : List Level). length l) longer in
    omega (arith, n, a, b, length-append w (x ∷ []), length-append s (x ∷ []))
unstuffed_few (dropped {s = s} x h full longer) =
    let n = unstuffed_few h in let b = ap (λ (l : List Level). length l) longer in
    omega (arith, n, b, length-append s (x ∷ []))

dlc_late : (ext : Bool) → 15 ≤ dlc_place ext
dlc_late false = omega arith
dlc_late true = omega arith

part_long : {f : FrameValue} {b c part : List Level} → StuffedPart f b c part → 34 ≤ length part
part_long {f = f} {b = b} {c = c} h =
    let body = length_body f b h.frame h.body in let late = dlc_late f.ext in let check = h.check in
    let n = unstuffed_few h.stuffed.unstuffed in omega (arith, body, late, check, n, length-append b c)

with_tail : (part : List Level) (ack : Level) → 34 ≤ length part → 44 ≤ length (part ++ tail ack)
with_tail part ack n = omega (arith, n, length-append part (tail ack))

line_long : {f : FrameValue} {b c l : List Level} {ack : Level} → Line f b c ack l → 44 ≤ length l
line_long {ack = ack} h =
    let n = with_tail h.part ack (part_long h.is_part) in let e = ap (λ (l : List Level). length l) h.whole in
    omega (arith, n, e)

-- ---- a piece

abbrev one_if : Option FrameValue → ℕ
one_if None = 0
one_if (Some f) = 1

one_most : (o : Option FrameValue) → one_if o ≤ 1
one_most None = omega arith
one_most (Some f) = omega arith

seen_many : (bits : List Bit) → length (seen_of bits) ≡ length bits
seen_many bits = length-map bits (λ (b : Bit). b.seen)

heard_long : {listen : Bool} {l : List Level} {bits : List Bit} {p : Piece} {next : Place} →
    Receives listen l bits p next → 43 * one_if (received_by p) ≤ length l + length bits
heard_long {l = l} {bits = bits} (reception h) =
    let n = line_long h.line in
    omega (arith, n, length-append (l ++ seen_of bits) (Recessive ∷ []), length-append l (seen_of bits), seen_many bits)
heard_long (broken h) = omega arith

sent_long : {self_test : Bool} {request : Request} {bits : List Bit} {p : Piece} {next : Place} →
    Transmits self_test request bits p next → 43 * one_if (received_by p) ≤ length bits
sent_long {request = request} {bits = bits} (sending h) =
    let one = one_most (if request.self_receive then Some request.frame else None) in
    let n = with_tail h.part h.ack (part_long h.is_part.is_part) in
    let e = ap (λ (l : List Level). length l) h.seen in omega (arith, one, n, e, seen_many bits)
sent_long (failed h) = omega arith
sent_long (lost h) =
    let n = heard_long h.goes_on in let e = ap (λ (l : List Bit). length l) h.whole in
    let before = length-append h.before (recessive_bit Dominant ∷ h.more) in
    omega (arith, n, e, before, length-append (seen_of h.before) (Dominant ∷ []), seen_many h.before)

row_long : {c : ContextValue} {place next : Place} {bits : List Bit} {p : Piece} → Row c place bits p next →
    42 * one_if (received_by p) ≤ length bits
row_long (integration h) = omega arith
row_long (idle h) = omega arith
row_long (other none h) = let n = heard_long h in omega (arith, n)
row_long (own some h) = let n = sent_long h in omega (arith, n)
row_long (other_begun none h) = let n = heard_long h in omega (arith, n)
row_long (own_begun some h) = let n = sent_long h in omega (arith, n)
row_long last_eof_bit = omega arith
row_long last_eof_bit_overload = omega arith
row_long (flag h) = omega arith
row_long (flag_fault i h few) = omega arith
row_long (flag_passive h first) = omega arith
row_long (delimiter k) = omega arith
row_long (delimiter_overload k) = omega arith
row_long (delimiter_fault k i few) = omega arith
row_long interframe_space = omega arith
row_long interframe_space_sof = omega arith
row_long (suspend_transmission_sof i owes few) = omega arith
row_long intermission_overload = omega arith
row_long intermission_overload_second = omega arith

-- ---- a record

bits_added : (k : Count) (entries : List RecordEntry) → (counted k entries).bits ≡ k.bits + length (bits_in entries)
bits_added k [] = omega arith
bits_added k (OneBit b ∷ entries) = let n = bits_added (record k { bits = k.bits + 1 }) entries in omega (arith, n)
bits_added k (Start config ∷ entries) = bits_added (record k { starts = k.starts + 1 }) entries
bits_added k (Stop ∷ entries) = bits_added k entries
bits_added k (Send request ∷ entries) = bits_added k entries
bits_added k (Abort ∷ entries) = bits_added k entries
bits_added k (BusOff ∷ entries) = bits_added k entries

one_received : (o : Option FrameValue) (x : FinishedPiece) → length (received_if o x []) ≡ one_if o
one_received None x = omega arith
one_received (Some f) x = omega arith

move_long : {c next : ContextValue} {place site : Place} {entries : List RecordEntry} {ps : List Piece} (k now : Count)
    → Move c place entries ps next site →
    42 * length (received (tagged now ps)) + k.bits ≤ (counted k entries).bits
move_long k now (piece {p = p} slice is row stays) =
    let n = row_long row in let one = one_received (received_by p)
    (record { piece = p; activation = now.starts; bits = now.bits }) in omega (arith, n, one, bits_added k slice)
move_long k now (sent request away) = omega arith
move_long k now (aborted away) = omega arith
move_long {entries = entries} k now (started config l) = let n = bits_within k entries in omega (arith, n)
move_long {entries = entries} k now (stopped slice opened stays) = let n = bits_within k entries in omega (arith, n)
move_long {entries = entries} k now (off_within slice before last whole stays is unfinished full) =
    let n = bits_within k entries in omega (arith, n)
move_long k now (off_after {p = p} slice before last whole stays is row full) =
    let n = row_long row in let one = one_received (received_by p)
    (record { piece = p; activation = now.starts; bits = now.bits }) in
    let off = ap (λ (i : Count). i.bits) (counted_both k slice (BusOff ∷ [])) in
    omega (arith, n, one, off, bits_added k slice)

long_from : {k : Count} {c end : ContextValue} {place last : Place} {entries rest : List RecordEntry}
    {found : List FinishedPiece} → From k c place entries found end last rest →
    42 * length (received found) + k.bits ≤ (counted k entries).bits
long_from {k = k} {entries = entries} (here opened stays) = let n = bits_within k entries in omega (arith, n)
long_from {k = k} (on {entries = first} {more = more} {ps = ps} {qs = qs} move from) =
    let now : List FinishedPiece = tagged (counted k first) ps in
    let n = move_long k (counted k first) move in let m = long_from from in
    let all = ap (λ (i : Count). i.bits) (counted_both k first more) in
    let both = ap (λ (l : List ReceivedFrame). length l) (received_both now qs) in
    omega (arith, n, m, all, both, length-append (received now) (received qs))

-- so of a record's bits each received frame has as many
pub received_few : (entries : List RecordEntry) (found : List FinishedPiece) → IsCut entries found →
    42 * length (received found) ≤ (counted none_yet entries).bits
received_few entries found cut = let n = long_from cut.from in omega (arith, n)
