use Rattle.std.proofs.Common.{sym, arith, inl, inr}
use Rattle.std.proofs.lemmas.Bool.{cases_eq}
use Rattle.std.proofs.lemmas.Option.{slice_get_past}
use Rattle.can_node_rules.proofs.Contending.FieldLevels.{extended_field, extended_high, extended_rest}
use Rattle.can_node_rules.proofs.Contending.FieldLevels.{extended_low, extended_last, length_extended}
use Rattle.can_node.proofs.arbitration_field.extended_level.Goals as goal

pub returns-in-0-to-10 : goal.returns-in-0-to-10
returns-in-0-to-10 c =
    let f = c.args.frame.now in
    let stands = extended_high f.id f.rtr c.args.place (omega arith) in
    cc

pub returns-in-11 : goal.returns-in-11
returns-in-11 c =
    let f = c.args.frame.now in
    elim (cases_eq c.args.place 11) [
      | inl srr ↦ sym (extended_rest f.id f.rtr c.args.place 0 srr)
      | inr other ↦ sym (extended_rest f.id f.rtr c.args.place 1 (omega arith))
    ]

pub returns-in-13-to-30 : goal.returns-in-13-to-30
returns-in-13-to-30 c =
    let f = c.args.frame.now in
    let stands = extended_low f.id f.rtr c.args.place (omega arith) (omega arith) in
    cc

pub returns-in-31 : goal.returns-in-31
returns-in-31 c =
    let f = c.args.frame.now in
    let stands = extended_last f.id f.rtr in
    cc

pub returns-in_default : goal.returns-in_default
returns-in_default c =
    let f = c.args.frame.now in
    sym (slice_get_past (extended_field f.id f.rtr) c.args.place (omega (arith, length_extended f.id f.rtr)))
