use Rattle.std.proofs.Common.{◌+◌, rules, map, take, sym, subst, arith}
use Rattle.sja_run.specs.Inside.FileReads.{AreReads}
use Rattle.sja_run.proofs.FilesDone.FileReads.{reads_more}
use Rattle.sja_run.proofs.file_reads.read_files.Goals as goal

pub loop-next-preserved : goal.loop-next-preserved
loop-next-preserved g c =
    let names = c.args.names.now in
    let i = c.loop-next.next in
    let given = map (λ name. name.now) (take (i + 1) names) in
    let Holds = g.F.Sources.holds c.args.sources.now in
    let so_far = c.loop-next.invariant.read in
    record {
      read = subst (AreReads (λ v. v.items) Holds given _ _) (sym c.push_reserved.ensures.items)
          (reads_more (λ v. v.items) Holds names i _ _ _ _ _ _ (omega arith) so_far c.read_file-read.ensures);
      count = search rules;
      within = search rules;
      room = search rules;
      some = search rules;
    }
