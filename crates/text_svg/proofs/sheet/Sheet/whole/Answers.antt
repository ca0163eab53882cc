use Rattle.text_svg.proofs.Sheets.{sheet_texts}
use Rattle.text_svg.proofs.sheet.Sheet.whole.Goals as goal

pub returns : goal.returns
returns c =
    sheet_texts c.args.many c.bits_width.result c.args.self.now c.args.lanes.now _ _ _ _ _ _ c.bits_width.ensures
    c.as_str.ensures.value c.as_str-2.ensures.value c.new-text.ensures.bytes c.in_ok-put_top.ensures
    c.in_ok-put_all.ensures c.in_ok-put_foot.ensures
