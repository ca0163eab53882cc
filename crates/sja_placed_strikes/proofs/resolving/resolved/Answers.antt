use Rattle.std.proofs.Common.{rules, ◌≡◌, ◌<◌, ◌∙◌, List, All, length, refl, sym, ap, subst}
use Rattle.std.proofs.lemmas.List.{length-map}
use Rattle.text_frames.specs.FrameStories.{value_of, values_of}
use Rattle.sja_placed_strikes.specs.declared.aim.Aim.{Aim}
use Rattle.sja_placed_strikes.specs.Aims.{aims_in}
use Rattle.sja_placed_strikes.specs.Resolving.{ComesTo, IsPlaceFault}
use Rattle.sja_placed_strikes.proofs.Steps.{IsBelow, all_below, removed_below, one_struck, none_struck, strike_fails}
use Rattle.sja_placed_strikes.proofs.resolving.resolved.Goals as goal

pub loop-alloc-init : goal.loop-alloc-init
loop-alloc-init c = record {
  comes = subst (λ (l : List Aim). ComesTo c.args.plan (aims_in c.args.placed.now) c.args.plan l)
      (sym c.in_ok-aims.ensures) ComesTo.begun;
  there = subst (All (IsBelow (length c.args.plan.nodes))) (sym c.in_ok-aims.ensures)
      (all_below (length c.args.plan.nodes) c.args.placed.now c.requires);
}

pub returns-in_default-clause-err : goal.returns-in_default-clause-err
returns-in_default-clause-err c =
    let some : 0 < length c.loop-alloc.aims.items = search rules in
    let none = rw (c.as_slice.ensures.value, c.as_slice-in-loop-alloc.ensures.value, c.bits-most.ensures.value)
    at c.in_default.ensures in
    rw (c.none_of.ensures, c.as_slice-in_default.ensures.value)
    (none_struck c.args.plan c.loop-alloc.plan c.args.placed.now c.loop-alloc.aims.items
    (values_of c.in_ok-found.found.items) _ _ _ c.index.result.now c.loop-alloc.invariant.comes some
    c.in_ok-found.ensures.ok none (ap (λ (a : Aim). a.item) c.index.ensures)
    (sym (length-map c.in_ok-found.found.items value_of)) refl)

pub returns-in-Err-clause-err : goal.returns-in-Err-clause-err
returns-in-Err-clause-err c =
    let some : 0 < length c.loop-alloc.aims.items = search rules in
    strike_fails c.args.plan c.loop-alloc.plan c.args.placed.now c.loop-alloc.aims.items c.in-Err.fault
    c.loop-alloc.invariant.comes some c.in-Err.ensures.err

pub loop-alloc-preserved : goal.loop-alloc-preserved
loop-alloc-preserved c =
    let first = rw (c.as_slice.ensures.value, c.as_slice-in-loop-alloc.ensures.value, c.bits-most.ensures.value)
    at c.in-Some.ensures in
    let struck = c.in_default-strike.ensures.struck in
    let left = c.remove-aim.ensures.items in
    record {
      comes = rw (struck, left) (one_struck c.args.plan c.loop-alloc.plan (aims_in c.args.placed.now)
          c.loop-alloc.aims.items (values_of c.in_ok-found.found.items) c.in-Some.index c.in-Some.bit
          c.remove-aim.result c.loop-alloc.invariant.comes c.in_ok-found.ensures.ok first c.remove-aim.ensures.value);
      there = rw (struck, left) (removed_below (length c.loop-alloc.plan.nodes) c.loop-alloc.aims.items c.in-Some.index
          c.loop-alloc.invariant.there);
    }
