use Rattle.std.proofs.Common.{◌≤◌, ◌-◌, drop, length, map}
use Rattle.sja_run.specs.Inside.FileTexts.{AreDone, AreTold}
use Rattle.sja_run.proofs.files.reply_files.Given as goal

-- the files so far are done
abbrev pub invariant-loop-start : goal.invariant-loop-start
invariant-loop-start g l = record {
  within : l.start ≤ length l.names;
  done : AreDone (g.F.Sources.holds l.sources) l.words.question (map (λ name. name.now) l.names)
      (map (λ name. name.now) (drop l.start l.names)) (g.R.Read.remaining l.fn.input) (g.R.Read.remaining l.input)
      (AreTold l.several l.all l.fn.out.failed l.out.failed l.fn.err.failed l.err.failed
      (g.O.Write.contents l.fn.out.writer) (g.O.Write.contents l.out.writer)
      (g.E.Write.contents l.fn.err.writer) (g.E.Write.contents l.err.writer));
}

abbrev pub decreases-loop-start : goal.decreases-loop-start
decreases-loop-start g l = length l.names - l.start
