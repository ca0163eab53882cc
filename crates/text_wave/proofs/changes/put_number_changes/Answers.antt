use Rattle.std.proofs.Common.{string_bytes}
use Rattle.text_report.proofs.WrittenLines.Written.{four_texts}
use Rattle.text_wave.proofs.BitByBit.Rested.{numbers_stay}
use Rattle.text_wave.proofs.changes.put_number_changes.Goals as goal

pub returns-then-are_still : goal.returns-then-are_still
returns-then-are_still c =
    let same = c.are_still.ensures c.if-are_still.true in
    numbers_stay c.args.number c.args.old c.args.new c.args.was_struck c.args.is_struck (string_bytes c.args.text.now)
    same.0 same.1

pub returns : goal.returns
returns c =
    four_texts _ _ _ _ _ _ _ _ _ c.in_ok-put_number_change.ensures c.in_ok-put_number_change-2.ensures
    c.in_ok-put_change.ensures c.in_ok-put_number_change-3.ensures
