use Rattle.std.proofs.Common.{◌≡◌, ◌+◌, ◌<◌, ◌++◌, ◌∷◌, [], suc, length, take, rules, sym, ap, ◌∙◌, arith}
use Rattle.std.specs.Simd.Lanes.{zip2}
use Rattle.std.proofs.lemmas.List.{take_all, take_more_set}
use Rattle.std.proofs.lemmas.Simd.{get_or-zip2, length-zip2}
use Rattle.std.proofs.Math.Seq.{take-suc}
use Rattle.sja_journal.specs.Inside.Codes.{code_of}
use Rattle.sja_journal.proofs.code.write_bits.Goals as goal

pub loop-k-preserved : goal.loop-k-preserved
loop-k-preserved c =
    let l = c.loop-k in let driven = c.args.driven.now in let seen = c.args.seen.now in
    let bits = zip2 code_of driven seen in
    let few : l.k < length l.codes = search rules in
    let same = l.auto.codes in let d = c.requires.driven in let s = c.requires.seen in
    let size = length-zip2 code_of driven seen (omega (arith, d, s)) in
    let next : suc l.k ≡ l.k + 1 = omega arith in record {
      done = take_more_set l.codes l.k c.of_bit.result few
          ∙ ap (λ xs. xs ++ c.of_bit.result ∷ []) l.invariant.done
          ∙ ap (λ x. take l.k bits ++ x ∷ []) (c.of_bit.ensures.code
          ∙ sym (get_or-zip2 code_of driven seen l.k _ _ c.of_bit.result (omega (arith, few, same, d))
          (omega (arith, few, same, s))))
          ∙ sym (take-suc bits l.k c.of_bit.result (omega (arith, few, same, d, size)))
          ∙ ap (λ n. take n bits) next;
    }

pub returns : goal.returns
returns c =
    let l = c.loop-k in let driven = c.args.driven.now in let seen = c.args.seen.now in
    let bits = zip2 code_of driven seen in let end = c.loop-k-test.false in
    let same = l.auto.codes in let d = c.requires.driven in let s = c.requires.seen in
    let size = length-zip2 code_of driven seen (omega (arith, d, s)) in
    sym (take_all l.k l.codes (omega (arith, end, same))) ∙ l.invariant.done
    ∙ take_all l.k bits (omega (arith, end, same, d, size))
