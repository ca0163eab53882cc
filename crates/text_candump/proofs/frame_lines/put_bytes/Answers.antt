use Rattle.std.proofs.Common.{◌≡◌, ◌++◌, ◌<◌, ◌^◌, ◌-◌, [], true, false, get_or, string_bytes, rules}
use Rattle.std.specs.Fmt.{digits, padded_integral, format_spec}
use Rattle.text_candump.proofs.Lines.FrameTexts.{byte_next}
use Rattle.text_candump.proofs.frame_lines.put_bytes.Goals as goal

pub loop-byte-preserved : goal.loop-byte-preserved
loop-byte-preserved c =
    let byte = get_or c.args.bytes.now c.loop-byte.byte-index 0 in
    let small : byte < 256 = search rules in
    let wrote : string_bytes c.write.new.self ≡ string_bytes c.loop-byte.text
    ++ padded_integral (format_spec 32 0 4 2 (2 ^ 64 - 1)) false [] (digits 16 true byte) = search rules in
    byte_next c.args.bytes.now c.loop-byte.byte-index 0 _ _ _ c.loop-byte-test.true small c.loop-byte.invariant wrote
