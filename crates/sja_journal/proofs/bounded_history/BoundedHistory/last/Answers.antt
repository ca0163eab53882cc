use Rattle.sja_journal.proofs.HistoryLists.{last_kept}
use Rattle.sja_journal.proofs.bounded_history.BoundedHistory.last.Goals as goal

pub returns-clause-last : goal.returns-clause-last
returns-clause-last g c =
    let f = c.self.inside in
    rw (← c.self.view_is) (last_kept f.dropped.items f.items.items c.last.result
    (rw c.as_slice.ensures.value at c.last.ensures.value))
