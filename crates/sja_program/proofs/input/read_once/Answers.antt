use Rattle.std.proofs.Common.{rules, ◌≤◌, length, take, arith}
use Rattle.std.proofs.lemmas.Result.{err_from_is_err_and}
use Rattle.sja_program.proofs.BytesRead.FewBytes.{few_together, read_more}
use Rattle.sja_program.proofs.input.read_once.Goals as goal

-- what was read now finds no room
pub returns-in_err-extend_from_slice-clause-err : goal.returns-in_err-extend_from_slice-clause-err
returns-in_err-extend_from_slice-clause-err g c = λ before earlier.
    let told = err_from_is_err_and c.from_residual.result c.from_residual.ensures.1 in
    let short : length (take c.in-Ok.count c.read.new.buf) ≤ length c.args.buffer.now = search rules in
    let few = read_more before _ _ c.args.bytes.now.items (take c.in-Ok.count c.read.new.buf) earlier
    c.in-Ok.ensures.bytes.0 (omega arith) in
    rw (told.1, told.2) few

-- with what was read now there are no more than may be read
pub returns-clause-few : goal.returns-clause-few
returns-clause-few g c =
    let short : length (take c.in-Ok.count c.read.new.buf) ≤ length c.args.buffer.now = search rules in
    rw c.in_ok-extend_from_slice.ensures.items
    (few_together c.args.bytes.now.items (take c.in-Ok.count c.read.new.buf) (omega (arith, short, c.requires.room)))
