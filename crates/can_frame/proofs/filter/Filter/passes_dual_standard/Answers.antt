use Rattle.std.proofs.Common.{◌≡◌, slice_index, inl, arith, rules}
use Rattle.can_frame.proofs.filter.Filter.passes_dual_standard.Goals as goal

-- the high half of the data byte is compared with ACR1, and the low one with ACR3
pub returns-then-halves : goal.returns-then-halves
returns-then-halves c =
    let high : c.register-3.result.code ≡ slice_index c.args.self.now.acr 1 = omega arith in
    let low : c.register-4.result.code ≡ slice_index c.args.self.now.acr 3 = omega arith in
    let halves = rw (high, c.register-3.ensures.mask, low, c.register-4.ensures.mask, c.data_byte.ensures)
    at c.halves_match-halves.ensures in
    (λ _. inl (record { head = search rules; data_byte = halves.0 c.if-halves.true.1 }), search rules)
