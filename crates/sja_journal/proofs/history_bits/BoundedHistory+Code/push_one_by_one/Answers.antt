use Rattle.std.proofs.Common.{◌≡◌, ◌+◌, ◌<◌, ◌++◌, ◌∷◌, [], suc, length, take, sym, ap, ◌∙◌, append_assoc, arith}
use Rattle.std.specs.Simd.Lanes.{zip2}
use Rattle.std.proofs.lemmas.List.{take_all, length-append, length-take-le}
use Rattle.std.proofs.lemmas.Simd.{get_or-zip2, length-zip2}
use Rattle.std.proofs.Math.Seq.{take-suc}
use Rattle.sja_journal.specs.Inside.Codes.{code_of}
use Rattle.sja_journal.proofs.history_bits.BoundedHistory+Code.push_one_by_one.Goals as goal

pub push-requires : goal.push-requires
push-requires c =
    let l = c.loop-k in let driven = c.args.driven.now in let seen = c.args.seen.now in
    let bits = zip2 code_of driven seen in let each = c.requires.each in
    let size = length-zip2 code_of driven seen each in
    let few : l.k < length seen = omega arith in
    let now = ap (λ (l : _). length l) l.invariant.items in
    let both = length-append c.args.self.now.items (take l.k bits) in
    let part = length-take-le l.k bits (omega (arith, few, size, each)) in
    let free = c.requires.free in let room = l.invariant.room in
    omega (arith, few, now, both, part, free, room)

pub loop-k-preserved : goal.loop-k-preserved
loop-k-preserved c =
    let l = c.loop-k in let driven = c.args.driven.now in let seen = c.args.seen.now in
    let was = c.args.self.now.items in let bits = zip2 code_of driven seen in let each = c.requires.each in
    let size = length-zip2 code_of driven seen each in
    let few : l.k < length seen = omega arith in
    let next : suc l.k ≡ l.k + 1 = omega arith in
    let code = c.of_bit.ensures.code
    ∙ sym (get_or-zip2 code_of driven seen l.k _ _ c.of_bit.result (omega (arith, few, each)) few) in record {
      items = c.push.ensures.items ∙ ap (λ xs. xs ++ c.of_bit.result ∷ []) l.invariant.items
          ∙ append_assoc was (take l.k bits) (c.of_bit.result ∷ [])
          ∙ ap (λ xs. was ++ xs) (ap (λ x. take l.k bits ++ x ∷ []) code
          ∙ sym (take-suc bits l.k c.of_bit.result (omega (arith, few, each, size)))
          ∙ ap (λ n. take n bits) next);
      room = c.push.ensures.room ∙ l.invariant.room;
    }

pub returns-clause-items : goal.returns-clause-items
returns-clause-items c =
    let l = c.loop-k in let driven = c.args.driven.now in let seen = c.args.seen.now in
    let bits = zip2 code_of driven seen in let each = c.requires.each in let end = c.loop-k-test.false in
    let size = length-zip2 code_of driven seen each in let last = l.auto.k-end in
    l.invariant.items
    ∙ ap (λ xs. c.args.self.now.items ++ xs) (take_all l.k bits (omega (arith, end, last, each, size)))
