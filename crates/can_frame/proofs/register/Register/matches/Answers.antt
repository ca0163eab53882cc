use Rattle.std.proofs.Common.{◌≡◌, ◌-◌, arith}
use Rattle.std.proofs.lemmas.Nat.{one_shl}
use Rattle.can_frame.proofs.RegisterLemmas.{matches_by_number}
use Rattle.can_frame.proofs.register.Register.matches.Goals as goal

-- the compared number is the one of the lemma, where no bit differs
pub returns : goal.returns
returns c =
    let a = c.args in
    let compared : c.from-2.result ≡ 255 - a.self.mask = omega arith in
    let lemma = matches_by_number a.self.code a.self.mask a.low a.count a.number c.requires (omega arith) in
    rw (c.from.ensures, compared, one_shl a.count 32 (omega arith)) lemma
