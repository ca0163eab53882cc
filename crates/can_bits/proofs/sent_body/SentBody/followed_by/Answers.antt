use Rattle.std.proofs.Common.{◌+◌, ◌*◌, ◌%◌, ◌^◌, ap, refl}
use Rattle.can_bits.proofs.Packing.Bodies.{packs_bits}
use Rattle.can_bits.proofs.sent_body.SentBody.followed_by.Goals as goal

pub returns : goal.returns
returns c b h room small =
    packs_bits c.args.self.word c.args.self.length _ _ c.args.count c.args.number b h room small
    (ap (λ n. (c.args.self.word * 2 ^ c.args.count % 2 ^ 128 + n) % 2 ^ 128) c.from.ensures) refl
