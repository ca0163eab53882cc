use Rattle.std.proofs.Common.{sym, arith, take_all, length-take-le}
use Rattle.sja_plan_reading.proofs.document_limits.head_of.Goals as goal

pub slice_bounds-result-end : goal.slice_bounds-result-end
slice_bounds-result-end c = sym (length-take-le 65536 c.args.bytes.now (omega (arith, c.if-bytes-le-MOST_BYTES.false)))

pub returns-then-bytes-le-MOST_BYTES : goal.returns-then-bytes-le-MOST_BYTES
returns-then-bytes-le-MOST_BYTES c =
    sym (take_all 65536 c.args.bytes.now (omega (arith, c.if-bytes-le-MOST_BYTES.true)))
