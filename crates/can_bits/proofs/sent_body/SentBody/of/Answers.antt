use Rattle.std.proofs.Common.{◌≡◌, ◌+◌, ◌<◌, ◌≤◌, ◌∙◌, ◌++◌, ◌^◌, List, length}
use Rattle.std.proofs.Common.{take, ap, sym, subst, arith, append_assoc}
use Rattle.std.specs.List.{flat_map}
use Rattle.std.proofs.lemmas.List.{append-nil, length-append, length-take-le, take_all}
use Rattle.can_frame.specs.Frame.{FrameValue}
use Rattle.can_levels.specs.declared.level.Level.{Level}
use Rattle.can_levels.specs.declared.level.Level.TheVariants.{Dominant, Recessive}
use Rattle.can_levels.specs.Digits.{bits}
use Rattle.can_levels.specs.Body.{head_bits}
use Rattle.can_bits.specs.Packing.{Packs}
use Rattle.can_levels.proofs.Values.{length-bits}
use Rattle.can_levels.proofs.Whole.Bytes.{length_bytes}
use Rattle.can_levels.proofs.SaidCounts.{length_head}
use Rattle.can_levels.proofs.Packing.Frames.{count_most}
use Rattle.can_bits.proofs.Packing.Bodies.{sent_more, dlc_place-most}
use Rattle.can_bits.proofs.sent_body.SentBody.of.Goals as goal

-- the levels before the data
front_most : (f : FrameValue) → length (head_bits f.ext f.id f.rtr Recessive Dominant Dominant ++ bits 4 f.dlc) ≤ 39
front_most f =
    let head : List Level = head_bits f.ext f.id f.rtr Recessive Dominant Dominant in
    omega (
      arith,
      length-append head (bits 4 f.dlc),
      length-bits 4 f.dlc,
      length_head f.ext f.id f.rtr Recessive Dominant Dominant,
      dlc_place-most f.ext,
    )

pub loop-byte-init : goal.loop-byte-init
loop-byte-init c =
    let f = c.args.frame.now in
    let head : List Level = head_bits f.ext f.id f.rtr Recessive Dominant Dominant in
    let dlc = c.from.ensures ∙ c.dlc.ensures.value in
    let small = c.dlc.ensures.valid.dlc in
    let count = length_head f.ext f.id f.rtr Recessive Dominant Dominant in
    let coded =
    c.followed_by-body.ensures head c.head_of.ensures (omega (arith, count, dlc_place-most f.ext))
    (omega (arith, dlc, small)) in
    let P : List Level → Type 0 = λ l. Packs c.followed_by-body.result.word c.followed_by-body.result.length l in
    subst P (ap (λ n. head ++ bits 4 n) dlc ∙ sym (append-nil (head ++ bits 4 f.dlc))) coded

pub loop-byte-preserved : goal.loop-byte-preserved
loop-byte-preserved c =
    let f = c.args.frame.now in
    let bytes = c.bytes-byte-items.result.now in
    let k = c.loop-byte.byte-index in
    let front : List Level = head_bits f.ext f.id f.rtr Recessive Dominant Dominant ++ bits 4 f.dlc in
    let front_count = front_most f in
    let below = c.loop-byte-test.true in
    let valid = c.bytes-byte-items.ensures.valid in
    let many = ap length c.bytes-byte-items.ensures.value ∙ valid.count in
    let most = count_most f.rtr f.dlc in
    let so_far : List Level = flat_map (bits 8) (take k bytes) in
    let room : length (front ++ so_far) + 8 ≤ 118 =
    omega (
      arith,
      front_count,
      length-append front so_far,
      length_bytes (take k bytes),
      length-take-le k bytes (omega (arith, below)),
      below,
      many,
      most,
    ) in
    let byte = c.from-in-loop-byte.ensures in
    let fits = c.type_inv.byte-items k in
    let small : c.from-in-loop-byte.result < 2 ^ 8 = omega (arith, byte, fits) in
    let packed = c.followed_by-body-in-loop-byte.ensures (front ++ so_far) c.loop-byte.invariant room small in
    let P : List Level → Type 0 =
    λ l. Packs c.followed_by-body-in-loop-byte.result.word c.followed_by-body-in-loop-byte.result.length l in
    subst P (ap (λ n. (front ++ so_far) ++ bits 8 n) byte ∙ sent_more front bytes k below) packed

pub returns-clause-packs : goal.returns-clause-packs
returns-clause-packs c =
    let f = c.args.frame.now in
    let bytes = c.bytes-byte-items.result.now in
    let k = c.loop-byte.byte-index in
    let head : List Level = head_bits f.ext f.id f.rtr Recessive Dominant Dominant in
    let P : List Level → Type 0 = λ l. Packs c.loop-byte.body.word c.loop-byte.body.length l in
    let all : take k bytes ≡ f.bytes = take_all k bytes c.loop-byte-test.false ∙ c.bytes-byte-items.ensures.value in
    subst P (ap (λ l. (head ++ bits 4 f.dlc) ++ flat_map (bits 8) l) all
    ∙ append_assoc head (bits 4 f.dlc) (flat_map (bits 8) f.bytes)) c.loop-byte.invariant
