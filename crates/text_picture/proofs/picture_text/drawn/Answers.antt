use Rattle.std.proofs.Common.{ℕ, ◌≤◌, ap, ◌∙◌, arith}
use Rattle.sja_log.specs.Log.{NodeValue}
use Rattle.text_picture.specs.declared.node_rows.NodeRows.{NodeRows}
use Rattle.text_picture.specs.declared.span.Span.{Span}
use Rattle.text_picture.specs.Drawing.{IsFresh}
use Rattle.text_picture.specs.PictureText.{picture_text, end_after}
use Rattle.text_picture.proofs.NodeRows.Fresh.{lent_first}
use Rattle.text_picture.proofs.WholePage.Pages.{page_first, page_whole, beside}
use Rattle.text_picture.proofs.NodeRows.Stories.{knows_underway, knows_all}
use Rattle.text_picture.proofs.picture_text.drawn.Goals as goal

pub loop-bit-init : goal.loop-bit-init
loop-bit-init c =
    let begun = lent_first _ _ _ _ c.nodes.ensures c.as_mut_slice-node_traces.ensures.value c.in_ok-all.ensures in
    record {
      within = omega arith;
      drawn = page_first c.args.log.now.nodes c.of-span.result _ c.args.rows.now c.new-page.result begun c.requires
          c.new-page.ensures.text c.new-page.ensures.start c.new-page.ensures.bus;
    }

pub loop-bit-preserved : goal.loop-bit-preserved
loop-bit-preserved c = record {
  within = c.in_ok-bit.ensures.within;
  drawn = c.in_ok-bit.ensures.draws c.args.log.now.nodes c.loop-bit.invariant.drawn;
}

pub finish_all-requires : goal.finish_all-requires
finish_all-requires c = knows_underway _ _ _ _ c.loop-bit.invariant.drawn

pub go_on-requires-clause-beside : goal.go_on-requires-clause-beside
go_on-requires-clause-beside c =
    let begun = lent_first _ _ _ _ c.nodes.ensures c.as_mut_slice-node_traces.ensures.value c.in_ok-all.ensures in
    let same = beside (λ (n : NodeValue) (x : NodeRows). IsFresh x) c.args.log.now.nodes _ c.args.rows.now begun
    c.requires in
    omega (arith, same)

pub returns : goal.returns
returns c =
    let all = knows_all _ _ _ _ _ c.loop-bit.invariant.drawn c.finish_all.ensures in
    let past : c.of-span.result.end ≤ c.loop-bit.bit = omega arith in
    record {
      told = all.told;
      have = all.have;
      whole = page_whole c.of-span.result c.loop-bit.bit c.loop-bit.page c.loop-bit.rows all.told past all.holds
          ∙ ap (λ (s : Span). picture_text all.told s.first s.end) c.of-span.ensures
          ∙ ap (λ (n : ℕ). picture_text all.told c.args.first (end_after c.args.last n)) c.bits.ensures;
    }
