use Rattle.std.proofs.Common.{◌≡◌, ap, arith, length, map, take}
use Rattle.sja_run.proofs.FilesDone.FileReads.{outcomes_by, refused_unread}
use Rattle.sja_run.proofs.files.outcomes_of.Goals as goal

-- what comes of what was read
pub returns-in-Ok-clause-are : goal.returns-in-Ok-clause-are
returns-in-Ok-clause-are g c =
    let reads = c.in-Ok.reads.items in
    let many : c.len-many.result ≡ length reads = omega (arith, c.len-many.ensures, c.in-Ok.reads.ok.0) in
    rw many (outcomes_by (λ v. v.items) (λ v. v.items) (g.F.Sources.holds c.args.sources.now) c.args.question
    (map (λ name. name.now) (take (length reads) c.args.names.now)) (g.R.Read.remaining c.args.input.now)
    (g.R.Read.remaining c.read_files.new.input) reads c.answers_to.result c.in-Ok.ensures.read
    c.answers_to.ensures.come)

-- nothing was read
pub returns-in-Err-clause-are : goal.returns-in-Err-clause-are
returns-in-Err-clause-are g c =
    refused_unread (g.F.Sources.holds c.args.sources.now) c.args.question
    (map (λ name. name.now) (take (length c.args.names.now) c.args.names.now)) (g.R.Read.remaining c.args.input.now)
    (g.R.Read.remaining c.read_files.new.input) (ap (λ i. g.R.Read.remaining i) c.in-Err.ensures.kept)
