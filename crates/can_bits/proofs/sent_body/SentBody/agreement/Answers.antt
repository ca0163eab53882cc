use Rattle.std.proofs.Common.{rules, ◌<◌, ◌^◌}
use Rattle.can_bits.specs.Sending.{BothHave}
use Rattle.can_bits.proofs.Agreeing.{agreement_of_zeros, zeros_of_agreement}
use Rattle.can_bits.proofs.sent_body.SentBody.agreement.Goals as goal

pub returns-clause-same : goal.returns-clause-same
returns-clause-same c place before =
    let both : BothHave c.min-2.result c.args.self.now c.args.other.now = search rules in
    agreement_of_zeros c.args.self.now c.args.other.now c.from_highest.result c.from_highest-2.result c.min-2.result
    c.from_highest.ensures c.from_highest-2.ensures (search rules) (search rules) both (search rules) place before

pub returns-clause-most : goal.returns-clause-most
returns-clause-most c n both agree =
    let a = c.args.self.now in
    let b = c.args.other.now in
    let x = c.from_highest.result in
    let y = c.from_highest-2.result in
    let room_x : x < 2 ^ 128 = search rules in
    let room_y : y < 2 ^ 128 = search rules in
    let one = both.one in
    let other = both.other in
    let fits = both.one_fits in
    let fits_too = both.other_fits in
    let zeros = zeros_of_agreement a b x y n c.from_highest.ensures c.from_highest-2.ensures room_x room_y both agree in
    search rules
