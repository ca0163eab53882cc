use Rattle.std.proofs.Common.{sym}
use Rattle.sja_run.proofs.FilesDone.FileTexts.{wrote_more, wrote_nothing}
use Rattle.sja_run.proofs.file_texts.put.Goals as goal

pub returns-in-Printed-clause-out : goal.returns-in-Printed-clause-out
returns-in-Printed-clause-out g c =
    rw (c.in-Printed.is, sym c.as_slice.ensures.value)
    (wrote_more _ _ _ _ _ _ _ _ c.put_name.ensures c.put.ensures.written)

pub returns-in-Printed-clause-err : goal.returns-in-Printed-clause-err
returns-in-Printed-clause-err g c = rw c.in-Printed.is (wrote_nothing _ _)

pub returns-in-Told-clause-out : goal.returns-in-Told-clause-out
returns-in-Told-clause-out g c =
    rw (c.in-Told.is, sym c.as_slice-in-Told.ensures.value)
    (wrote_more _ _ _ _ _ _ _ _ c.put_name-in-Told.ensures c.put-in-Told.ensures.written)

pub returns-in-Told-clause-err : goal.returns-in-Told-clause-err
returns-in-Told-clause-err g c = rw c.in-Told.is (wrote_nothing _ _)

pub returns-in-Mistaken-clause-out : goal.returns-in-Mistaken-clause-out
returns-in-Mistaken-clause-out g c = rw c.in-Mistaken.is (wrote_nothing _ _)

pub returns-in-Mistaken-clause-err : goal.returns-in-Mistaken-clause-err
returns-in-Mistaken-clause-err g c =
    rw (c.in-Mistaken.is, sym c.as_slice-in-Mistaken.ensures.value)
    (wrote_more _ _ _ _ _ _ _ _ c.put_name-in-Mistaken.ensures c.put-in-Mistaken.ensures.written)

pub returns-in-Refused-clause-out : goal.returns-in-Refused-clause-out
returns-in-Refused-clause-out g c = rw c.in-Refused.is (wrote_nothing _ _)

pub returns-in-Refused-clause-err : goal.returns-in-Refused-clause-err
returns-in-Refused-clause-err g c =
    rw c.in-Refused.is (wrote_more _ _ _ _ _ _ _ _ c.put_name-in-Refused.ensures c.refuse.ensures.written)

pub returns-in-Unreadable-clause-out : goal.returns-in-Unreadable-clause-out
returns-in-Unreadable-clause-out g c = rw c.in-Unreadable.is (wrote_nothing _ _)

pub returns-in-Unreadable-clause-err : goal.returns-in-Unreadable-clause-err
returns-in-Unreadable-clause-err g c = rw c.in-Unreadable.is c.put_unreadable.ensures
