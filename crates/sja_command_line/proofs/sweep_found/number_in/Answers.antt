use Rattle.std.proofs.Common.{◌≤◌, arith}
use Rattle.sja_command_line.proofs.Requests.Numbers.{is_number, no_number}
use Rattle.sja_command_line.proofs.sweep_found.number_in.Goals as goal

pub returns-in-Ok-clause-value : goal.returns-in-Ok-clause-value
returns-in-Ok-clause-value c =
    let enough : c.args.least ≤ c.in-Ok.number = omega (arith, c.if-from-number.true, c.from.ensures) in
    let few : c.in-Ok.number ≤ c.args.most =
    omega (arith, c.if-number-from.true, c.from-then-from-number.ensures) in
    is_number c.args.least c.args.most c.in-Ok.number c.args.text.now c.in-Ok.ensures.value.0.1
    c.in-Ok.ensures.value.0.0 enough few

pub returns-in-Err-clause-value : goal.returns-in-Err-clause-value
returns-in-Err-clause-value c =
    no_number c.args.least c.args.most c.args.text.now (λ h. c.in-Err.ensures.value.0 (h.0, h.1))
