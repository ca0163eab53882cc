use Rattle.text_report.proofs.WrittenLines.Written.{six_texts}
use Rattle.text_wave.proofs.values.put_level_values.Goals as goal

pub returns : goal.returns
returns c =
    six_texts _ _ _ _ _ _ _ _ _ _ _ _ _ (rw c.is_recessive.ensures at c.in_ok-put_value.ensures)
    (rw c.is_recessive-2.ensures at c.in_ok-put_value-2.ensures)
    c.in_ok-put_value-3.ensures c.in_ok-put_value-4.ensures c.in_ok-put_value-5.ensures c.in_ok-put_value-6.ensures
