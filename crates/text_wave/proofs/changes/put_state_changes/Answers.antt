use Rattle.std.proofs.Common.{string_bytes}
use Rattle.text_report.proofs.WrittenLines.Written.{four_texts}
use Rattle.text_wave.proofs.BitByBit.Rested.{states_stay}
use Rattle.text_wave.proofs.changes.put_state_changes.Goals as goal

pub returns-then-have_same_states : goal.returns-then-have_same_states
returns-then-have_same_states c =
    let same = c.have_same_states.ensures c.if-have_same_states.true in
    states_stay c.args.number c.args.old c.args.new (string_bytes c.args.text.now) same.0.0 same.0.1 same.1.0 same.1.1

pub returns : goal.returns
returns c =
    four_texts _ _ _ _ _ _ _ _ _ c.in_ok-put_change.ensures c.in_ok-put_change-2.ensures
    c.in_ok-put_change-3.ensures c.in_ok-put_change-4.ensures
