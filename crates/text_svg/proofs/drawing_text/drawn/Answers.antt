use Rattle.std.proofs.Common.{◌≡◌, ℕ, ◌-◌, ap, ◌∙◌, arith}
use Rattle.text_picture.specs.declared.span.Span.{Span}
use Rattle.text_picture.specs.PictureText.{end_after}
use Rattle.sja_log.specs.Log.{NodeValue}
use Rattle.text_picture.proofs.NodeRows.Fresh.{lent_first}
use Rattle.text_picture.proofs.WholePage.Pages.{beside}
use Rattle.text_picture.proofs.NodeRows.Stories.{knows_next, knows_underway, knows_all}
use Rattle.text_svg.specs.declared.lane.Lane.{Lane}
use Rattle.text_svg.specs.DrawingText.{sheet_text}
use Rattle.text_svg.specs.Inside.Drawing.{IsFresh}
use Rattle.text_svg.proofs.Sheets.{sheet_first, sheet_whole}
use Rattle.text_svg.proofs.drawing_text.drawn.Goals as goal

pub loop-bit-init : goal.loop-bit-init
loop-bit-init c =
    let begun = lent_first _ _ _ _ c.nodes.ensures c.as_mut_slice-node_traces.ensures.value c.in_ok-all.ensures in
    sheet_first c.args.log.now.nodes c.of-span.result.first _ c.args.lanes.now c.new-sheet.result begun c.requires
    c.new-sheet.ensures.marks c.new-sheet.ensures.bus

pub loop-bit-preserved : goal.loop-bit-preserved
loop-bit-preserved c =
    knows_next _ c.loop-bit.bit _ _ _ _ c.loop-bit.invariant c.go_on_all.ensures c.in_ok-take.ensures

pub finish_all-requires : goal.finish_all-requires
finish_all-requires c = knows_underway _ _ _ _ c.loop-bit.invariant

pub take-requires : goal.take-requires
take-requires c =
    let begun = lent_first _ _ _ _ c.nodes.ensures c.as_mut_slice-node_traces.ensures.value c.in_ok-all.ensures in
    let same = beside (λ (n : NodeValue) (x : Lane). IsFresh x) c.args.log.now.nodes _ c.args.lanes.now begun
    c.requires in
    omega (arith, same)

pub returns : goal.returns
returns c =
    let all = knows_all _ _ _ _ _ c.loop-bit.invariant c.finish_all.ensures in
    let past : c.loop-bit.bit ≡ c.of-span.result.end = omega arith in
    record {
      told = all.told;
      have = all.have;
      whole = sheet_whole c.of-span.result.first c.of-span.result.end c.loop-bit.bit _ c.loop-bit.sheet c.loop-bit.lanes
          all.told _ c.in_ok-text.ensures past (omega arith) all.holds
          ∙ ap (λ (s : Span). sheet_text all.told s.first (s.end - s.first)) c.of-span.ensures
          ∙ ap (λ (n : ℕ). sheet_text all.told c.args.first (end_after c.args.last n - c.args.first)) c.bits.ensures;
    }
