-- The frame in a transmit buffer that begins with a message is the message's.
use Rattle.std.proofs.Common.{◌≡◌, ◌==◌, ◌+◌, ◌*◌, ◌/◌, ◌%◌, ◌<◌, ℕ, Bool, true}
use Rattle.std.proofs.Common.{false, List, ◌∷◌, ◌++◌, length, take, refl, ap, arith}
use Rattle.std.proofs.lemmas.List.{take_at}
use Rattle.can_frame.specs.Frame.{data_count, id_limit}
use Rattle.can_frame.specs.Message.{bit, message, head_of, IsMessage}
use Rattle.can_frame.specs.Buffer.{frame_in}

-- a number that is a bit says whether the bit is 1
is_bit : (n : ℕ) (b : Bool) → n ≡ bit b → (n == 1) ≡ b
is_bit n true h = ap (λ k. k == 1) h
is_bit n false h = ap (λ k. k == 1) h

-- a bit is at most 1
pub bit_small : (b : Bool) → bit b < 2
bit_small true = omega arith
bit_small false = omega arith

-- a standard frame's head and data
standard : (id dlc : ℕ) (rtr : Bool) (bytes rest : List ℕ) → id < 2048 → dlc < 16 → length bytes ≡ data_count rtr dlc →
    frame_in ((64 * bit rtr + dlc) ∷ id / 8 ∷ (32 * (id % 8) + 16 * bit rtr) ∷ (bytes ++ rest))
    ≡ record { ext = false; id = id; rtr = rtr; dlc = dlc; bytes = bytes }
standard id dlc rtr bytes rest hid hdlc count =
    let b = bit_small rtr in
    let ext_is : ((64 * bit rtr + dlc) / 128 % 2 == 1) ≡ false = is_bit _ false (omega (arith, b)) in
    let rtr_is : ((64 * bit rtr + dlc) / 64 % 2 == 1) ≡ rtr = is_bit _ rtr (omega (arith, b)) in
    let dlc_is : (64 * bit rtr + dlc) % 16 ≡ dlc = omega (arith, b) in
    let id_is : id / 8 * 8 + (32 * (id % 8) + 16 * bit rtr) / 32 ≡ id = omega (arith, b) in
    let bytes_are : take (data_count rtr dlc) (bytes ++ rest) ≡ bytes = take_at bytes rest _ count in
    rw (ext_is, rtr_is, dlc_is, id_is, bytes_are) refl

-- an extended frame's head and data
extended : (id dlc : ℕ) (rtr : Bool) (bytes rest : List ℕ) → id < 536870912 → dlc < 16 →
    length bytes ≡ data_count rtr dlc →
    frame_in
    ((128 + 64 * bit rtr + dlc) ∷ id / 2097152 ∷ id / 8192 % 256 ∷ id / 32 % 256 ∷ (8 * (id % 32) + 4 * bit rtr)
    ∷ (bytes ++ rest))
    ≡ record { ext = true; id = id; rtr = rtr; dlc = dlc; bytes = bytes }
extended id dlc rtr bytes rest hid hdlc count =
    let b = bit_small rtr in
    let ext_is : ((128 + 64 * bit rtr + dlc) / 128 % 2 == 1) ≡ true = is_bit _ true (omega (arith, b)) in
    let rtr_is : ((128 + 64 * bit rtr + dlc) / 64 % 2 == 1) ≡ rtr = is_bit _ rtr (omega (arith, b)) in
    let dlc_is : (128 + 64 * bit rtr + dlc) % 16 ≡ dlc = omega (arith, b) in
    let id_is : id / 2097152 * 2097152 + id / 8192 % 256 * 8192 + id / 32 % 256 * 32 + (8 * (id % 32) + 4 * bit rtr) / 8
    ≡ id =
    omega (arith, b) in
    let bytes_are : take (data_count rtr dlc) (bytes ++ rest) ≡ bytes = take_at bytes rest _ count in
    rw (ext_is, rtr_is, dlc_is, id_is, bytes_are) refl

-- a frame's message, by the format, with anything after it
carried : (ext : Bool) (id dlc : ℕ) (rtr : Bool) (bytes rest : List ℕ) → id < id_limit ext → dlc < 16 →
    length bytes ≡ data_count rtr dlc →
    frame_in ((head_of ext id rtr dlc ++ bytes) ++ rest)
    ≡ record { ext = ext; id = id; rtr = rtr; dlc = dlc; bytes = bytes }
carried false id dlc rtr bytes rest hid hdlc count = standard id dlc rtr bytes rest hid hdlc count
carried true id dlc rtr bytes rest hid hdlc count = extended id dlc rtr bytes rest hid hdlc count

-- the frame in a buffer that begins with a message has that message
pub begun_frame : (m rest : List ℕ) → IsMessage m → message (frame_in (m ++ rest)) ≡ m
begun_frame m rest (f, h, e) = rw e (ap message (carried f.ext f.id f.dlc f.rtr f.bytes rest h.id h.dlc h.count))
