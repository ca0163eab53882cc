use Rattle.std.proofs.Common.{sym, arith}
use Rattle.std.proofs.lemmas.Option.{slice_get_past}
use Rattle.can_node_rules.proofs.Contending.FieldLevels.{standard_field, standard_id, standard_last, length_standard}
use Rattle.can_node.proofs.arbitration_field.standard_level.Goals as goal

pub returns-in-0-to-10 : goal.returns-in-0-to-10
returns-in-0-to-10 c =
    let f = c.args.frame.now in
    let stands = standard_id f.id f.rtr c.args.place (omega arith) in
    cc

pub returns-in-11 : goal.returns-in-11
returns-in-11 c =
    let f = c.args.frame.now in
    let stands = standard_last f.id f.rtr c.args.place 0 c.in-11.is in
    cc

pub returns-in-12 : goal.returns-in-12
returns-in-12 c =
    let f = c.args.frame.now in
    sym (standard_last f.id f.rtr c.args.place 1 c.in-12.is)

pub returns-in_default : goal.returns-in_default
returns-in_default c =
    let f = c.args.frame.now in
    sym (slice_get_past (standard_field f.id f.rtr) c.args.place (omega (arith, length_standard f.id f.rtr)))
