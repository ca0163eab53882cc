use Rattle.text_picture.proofs.WholePage.Pages.{page_passed, page_taken}
use Rattle.text_picture.proofs.page.Page.take.Goals as goal

pub returns-then-bit-span : goal.returns-then-bit-span
returns-then-bit-span c =
    page_passed c.args.span c.args.bit c.args.node_traces.now c.args.rows.now c.pass_all.new.rows c.args.self.now
    c.if-bit-span.true c.requires.within c.pass_all.ensures

pub returns : goal.returns
returns c =
    page_taken c.args.span c.args.bit c.args.node_traces.now c.args.rows.now c.draw.new.rows c.end_if_over.new.rows
    c.args.self.now c.draw.new.self c.end_if_over.new.self c.if-bit-span.false c.requires.within
    c.in_ok-draw.ensures c.in_ok-end_if_over.ensures
