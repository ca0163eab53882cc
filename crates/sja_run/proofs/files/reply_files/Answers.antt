use Rattle.std.proofs.Common.{◌+◌, ◌&&◌, ◌≤◌, arith, drop, length, map}
use Rattle.std.specs.Prelude.{nat_lt}
use Rattle.sja_run.specs.Inside.FileTexts.{AreDone, AreTold}
use Rattle.sja_run.proofs.FilesDone.FileSteps.{done_more, few_taken, none_done, range_outcomes}
use Rattle.sja_run.proofs.files.reply_files.Goals as goal
use Rattle.sja_run.proofs.files.reply_files.Goals.{After-put_outcomes-answered}

pub loop-start-init : goal.loop-start-init
loop-start-init g c = record {
  within = omega arith;
  done = none_done (g.F.Sources.holds c.args.sources.now) c.args.words.now.question
      (map (λ name. name.now) c.as_slice-names.result.now) (g.R.Read.remaining c.args.input.now)
      (nat_lt 1 (length c.as_slice-names.result.now)) c.args.out.now.failed c.args.err.now.failed
      (g.O.Write.contents c.args.out.now.writer) (g.E.Write.contents c.args.err.now.writer);
}

-- the next files are done
next_done : (g : _) (c : After-put_outcomes-answered g) →
    let names = c.as_slice-names.result.now in
    let told = c.put_outcomes-answered in
    AreDone (g.F.Sources.holds c.args.sources.now) c.args.words.now.question (map (λ name. name.now) names)
    (map (λ name. name.now) (drop (c.loop-start.start + c.outcomes_of-many.result.0) names))
    (g.R.Read.remaining c.args.input.now) (g.R.Read.remaining c.outcomes_of-many.new.input)
    (AreTold (nat_lt 1 (length names)) (c.loop-start.all && told.result) c.args.out.now.failed told.new.out.failed
    c.args.err.now.failed told.new.err.failed (g.O.Write.contents c.args.out.now.writer)
    (g.O.Write.contents told.new.out.writer) (g.E.Write.contents c.args.err.now.writer)
    (g.E.Write.contents told.new.err.writer))
next_done g c =
    let names = c.as_slice-names.result.now in
    let start = c.loop-start.start in
    let told = c.put_outcomes-answered in
    done_more (g.F.Sources.holds c.args.sources.now) c.args.words.now.question names start
    (start + c.outcomes_of-many.result.0) (g.R.Read.remaining c.args.input.now) (g.R.Read.remaining c.loop-start.input)
    (g.R.Read.remaining c.outcomes_of-many.new.input) (nat_lt 1 (length names)) c.loop-start.all told.result
    c.args.out.now.failed c.loop-start.out.failed told.new.out.failed c.args.err.now.failed c.loop-start.err.failed
    told.new.err.failed _ _ _ _ _ _ _ (omega arith) c.loop-start.invariant.done
    (range_outcomes (λ v. v.items) (g.F.Sources.holds c.args.sources.now) c.args.words.now.question names start
    (start + c.min.result) c.outcomes_of-many.result.0 _ _ c.outcomes_of-many.result.1 c.outcomes_of-many.ensures.within
    c.outcomes_of-many.ensures.are)
    told.ensures.all told.ensures.out told.ensures.err

-- and they are among the names
next_within : (g : _) (c : After-put_outcomes-answered g) →
    c.loop-start.start + c.outcomes_of-many.result.0 ≤ length c.as_slice-names.result.now
next_within g c =
    let start = c.loop-start.start in
    let few = few_taken c.as_slice-names.result.now start (start + c.min.result) c.outcomes_of-many.result.0
    c.outcomes_of-many.ensures.within in
    omega (arith, few)

pub loop-start-preserved : goal.loop-start-preserved
loop-start-preserved g c = record {
  within = next_within g (goal.at.loop-start-preserved g c).After-put_outcomes-answered;
  done = next_done g (goal.at.loop-start-preserved g c).After-put_outcomes-answered;
}

pub loop-start-preserved-else-err : goal.loop-start-preserved-else-err
loop-start-preserved-else-err g c = record {
  within = next_within g (goal.at.loop-start-preserved-else-err g c).After-put_outcomes-answered;
  done = next_done g (goal.at.loop-start-preserved-else-err g c).After-put_outcomes-answered;
}
