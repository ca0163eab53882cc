use Rattle.text_picture.proofs.WholePage.Pages.{page_rested, page_rest}
use Rattle.text_picture.proofs.page.Page.rest.Goals as goal

pub returns-then-bit-span : goal.returns-then-bit-span
returns-then-bit-span c =
    page_rested c.args.span c.args.bit c.args.count c.args.node_traces.now c.args.rows.now c.pass_rest_all.new.rows
    c.args.self.now c.requires.many c.requires.room c.if-bit-span.true c.pass_rest_all.ensures

pub returns : goal.returns
returns c =
    page_rest c.args.span c.args.bit c.args.count c.args.node_traces.now c.args.rows.now c.draw_rest.new.rows
    c.end_if_over.new.rows c.args.self.now c.draw_rest.new.self c.end_if_over.new.self c.requires.many
    c.requires.room c.if-bit-span.false c.in_ok-draw_rest.ensures c.in_ok-end_if_over.ensures
