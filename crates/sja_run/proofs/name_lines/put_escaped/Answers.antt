use Rattle.std.proofs.Common.{◌++◌, ◌+◌, get_or, arith}
use Rattle.sja_run.proofs.FilesDone.FileTexts.{wrote_more}
use Rattle.sja_run.proofs.ShownNames.{shown_more}
use Rattle.sja_run.specs.Names.{shown_byte}
use Rattle.sja_run.proofs.name_lines.put_escaped.Goals as goal

pub loop-place-preserved : goal.loop-place-preserved
loop-place-preserved g c =
    let (done, is, wrote) = c.loop-place.invariant in
    let name = c.args.bytes.now in
    let at = c.loop-place.place in
    let piece = shown_byte c.loop-place.before (get_or name at 0) (get_or name (at + 1) 0) in (
      done ++ piece,
      shown_more done name c.loop-place.before at (omega arith) is,
      wrote_more _ _ _ _ _ _ done piece wrote
          (rw (c.shown_byte-count.ensures.text, c.byte_at.ensures) at c.put.ensures.written),
    )
