use Rattle.text_report.proofs.WrittenLines.Written.{four_texts}
use Rattle.text_wave.proofs.values.put_number_values.Goals as goal

pub returns : goal.returns
returns c =
    four_texts _ _ _ _ _ _ _ _ _ c.in_ok-put_number.ensures c.in_ok-put_number-2.ensures c.in_ok-put_value.ensures
    c.in_ok-put_number-3.ensures
