use Rattle.text_wave.specs.WaveText.{var_line}
use Rattle.text_report.proofs.WrittenLines.Written.{four_texts}
use Rattle.text_wave.proofs.SoFar.Written.{told_written}
use Rattle.text_wave.proofs.declarations.put_numbers.Goals as goal

pub returns : goal.returns
returns c = λ bus story.
    told_written var_line bus c.args.number story _ _
    (four_texts _ _ _ _ _ _ _ _ _ c.in_ok-put_number.ensures c.in_ok-put_number-2.ensures c.in_ok-put_wire.ensures
    c.in_ok-put_number-3.ensures)
