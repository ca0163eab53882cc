use Rattle.std.proofs.Common.{◌≡◌, codes, false, true, sym, ◌∙◌}
use Rattle.std.proofs.lemmas.Slice.Eq.{bytes_eq-Decides}
use Rattle.sja_run.proofs.file_reads.is_input.Goals as goal

pub returns-clause-input : goal.returns-clause-input
returns-clause-input c = λ is. (bytes_eq-Decides c.args.name.now (codes "-")).0 (sym c.eq.ensures ∙ is)

pub returns-clause-file : goal.returns-clause-file
returns-clause-file c = λ is same.
    let yes = (bytes_eq-Decides c.args.name.now (codes "-")).1 same in
    let bad : true ≡ false = sym yes ∙ sym c.eq.ensures ∙ is in
    cc
