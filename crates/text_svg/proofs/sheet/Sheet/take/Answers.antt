use Rattle.text_svg.proofs.Sheets.{sheet_passed, sheet_drawn}
use Rattle.text_svg.proofs.sheet.Sheet.take.Goals as goal

pub returns-then-bit-first : goal.returns-then-bit-first
returns-then-bit-first c =
    sheet_passed c.args.first c.args.bit c.args.node_traces.now c.args.lanes.now c.pass_all.new.lanes c.args.self.now
    c.if-bit-first.true c.pass_all.ensures

pub returns : goal.returns
returns c =
    sheet_drawn c.args.first c.args.bit c.args.node_traces.now c.args.lanes.now c.draw.new.lanes c.args.self.now
    c.draw.new.self c.if-bit-first.false (rw c.place_in.ensures at c.in_ok-draw.ensures)
