use Rattle.text_wave.specs.WaveText.{var_line}
use Rattle.text_report.proofs.WrittenLines.Written.{six_texts}
use Rattle.text_wave.proofs.SoFar.Written.{levels_written}
use Rattle.text_wave.proofs.declarations.put_levels.Goals as goal

pub returns : goal.returns
returns c = λ node.
    levels_written var_line c.args.number node _ _
    (six_texts _ _ _ _ _ _ _ _ _ _ _ _ _ c.in_ok-put_wire.ensures c.in_ok-put_wire-2.ensures
    c.in_ok-put_wire-3.ensures c.in_ok-put_wire-4.ensures c.in_ok-put_wire-5.ensures c.in_ok-put_wire-6.ensures)
