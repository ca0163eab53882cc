use Rattle.sja_journal.specs.BoundedHistories.{HistoryValue}
use Rattle.sja_steps.specs.declared.step.Step.{Step}
use Rattle.sja_session.proofs.WrittenPlan.OneMore.{more_set, same_set}
use Rattle.sja_session.proofs.lists.push_step.Goals as goal

pub returns-clause-lists : goal.returns-clause-lists
returns-clause-lists c = more_set (λ (steps : HistoryValue Step). steps.items) _ c.args.node c.index_mut.result.now _
    c.args.step c.index_mut.ensures.value c.requires.there c.push.ensures.items

pub returns-clause-room : goal.returns-clause-room
returns-clause-room c = same_set (λ (steps : HistoryValue Step). steps.room) _ c.args.node
    c.index_mut.result.now _ c.index_mut.ensures.value c.requires.there c.push.ensures.room
