use Rattle.std.proofs.Common.{◌≡◌, ◌++◌, ◌∙◌, ap, drop, length, rules, sym, take}
use Rattle.std.proofs.lemmas.List.{take_at}
use Rattle.std.specs.Vec.Iter.{into_iter_items}
use Rattle.sja_run.proofs.FilesDone.FileReads.{come_all, settled_as}
use Rattle.sja_run.proofs.file_answers.answers_to.Goals as goal
use Rattle.sja_run.proofs.file_answers.answers_to.Goals.{After-settle}

-- those that are taken up are those that were settled
written : (g : _) (c : After-settle g) → take c.args.reads.len
    (c.settle.new.reads ++ drop (length c.settle.new.reads) c.args.reads.items) ≡ c.settle.new.reads
written g c =
    let same = c.settle.auto.reads ∙ ap (λ l. length l) c.as_mut_slice.ensures.value in
    take_at c.settle.new.reads _ c.args.reads.len (same ∙ sym c.args.reads.ok.0)

-- what comes of them
pub loop-read-init : goal.loop-read-init
loop-read-init g c = record {
  room = search rules;
  count = search rules;
  come = settled_as (λ v. v.items) c.args.question c.args.reads.items c.as_mut_slice.result.now c.settle.new.reads
      (into_iter_items c.into_iter-read-iterator.result) c.in_ok-outcomes.outcomes.items
      c.as_mut_slice.ensures.value
      (c.into_iter-read-iterator.ensures.into_iter_gives.0 ∙ written g (goal.at.loop-read-init g c).After-settle)
      c.in_ok-outcomes.ensures.items c.settle.ensures;
}

-- none is left
pub returns-clause-come : goal.returns-clause-come
returns-clause-come g c =
    come_all (λ v. v.items) c.args.question c.args.reads.items (into_iter_items c.loop-read.read-iterator)
    c.loop-read.outcomes.items (sym c.loop-read.read-iterator.rest.ok.0 ∙ c.in-None.ensures.steps.0)
    c.loop-read.invariant.come
