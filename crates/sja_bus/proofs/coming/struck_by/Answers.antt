use Rattle.std.proofs.Common.{◌<◌, length, rules, inl, inr}
use Rattle.std.specs.Prelude.{slice_index_or}
use Rattle.sja_steps.specs.declared.strike.Strike.{Strike}
use Rattle.sja_bus.proofs.WholeBus.Marking.{struck_next}
use Rattle.sja_bus.proofs.coming.struck_by.Goals as goal

pub loop-strike-preserved : goal.loop-strike-preserved
loop-strike-preserved c = λ node below.
    let few : c.loop-strike.strike-index < length c.args.strikes.now = search rules in
    let now = c.strike_in.ensures node below in let was = c.loop-strike.invariant node below in
    let none : Strike = record { node = 0; bit = 0; every = 0; times = 0 } in
    let s = slice_index_or c.args.strikes.now c.loop-strike.strike-index none in
    let next = struck_next c.args.strikes.now c.loop-strike.strike-index s c.args.bit node few (search rules) in (
      λ h. elim (now.0 h) [
        | inl before ↦ elim (was.0 before) [ inl first ↦ inl first | inr hit ↦ inr (next.1 (inl hit)) ]
        | inr hits ↦ inr (next.1 (inr hits))
      ],
      λ h. now.1 (elim h [
        | inl first ↦ inl (was.1 (inl first))
        | inr hit ↦ elim (next.0 hit) [ inl before ↦ inl (was.1 (inr before)) | inr hits ↦ inr hits ]
      ]),
    )
