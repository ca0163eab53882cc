use Rattle.sja_run.proofs.FilesDone.FileReads.{settled_alone, settled_from}
use Rattle.sja_run.proofs.file_answers.settle.Goals as goal

-- with one job nothing is changed
pub returns-then-jobs-lt2 : goal.returns-then-jobs-lt2
returns-then-jobs-lt2 g c = settled_alone (λ v. v.items) c.args.question c.args.reads.now

-- each is what a call left there
pub returns : goal.returns
returns g c =
    settled_from (λ v. v.items) c.args.question c.args.reads.now c.for_each_mut.new.s c.for_each_mut.auto.s
    (λ i d less. let one = (c.for_each_mut.ensures i d less).1 in
    (one.argument.now, one.after_call.now, one.argument_is, one.left, one.call))
