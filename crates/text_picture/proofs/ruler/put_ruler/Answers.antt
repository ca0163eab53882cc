use Rattle.std.proofs.Common.{◌≡◌, ◌+◌, ◌-◌, ◌%◌, ◌++◌, ◌∙◌, codes, decimal, string_bytes, ap, arith, rules}
use Rattle.text_picture.specs.Pages.{ten_of}
use Rattle.text_picture.proofs.WholePage.RulerNumbers.{ruled_none, ruled_more, ruled_all, ten_is_ascii}
use Rattle.text_picture.proofs.ruler.put_ruler.Goals as goal

pub loop-number-init : goal.loop-number-init
loop-number-init c = record {
  text = rw c.from-first.ensures
      (ruled_none (string_bytes c.args.text.now) (codes "bit     ") _ c.args.bit c.in_ok-push_str.ensures.bytes);
  ten = λ inside. c.in_ok-write_ten.ensures;
  within = omega arith;
}

pub put_character-requires : goal.put_character-requires
put_character-requires c =
    let begun = c.in_ok-begin_ten.ensures c.loop-number.invariant.ten in
    let is : c.as_bytes.result.now ≡ ten_of c.loop-number.number = search rules in
    ten_is_ascii (c.loop-number.number - c.loop-number.number % 10) c.as_bytes.result.now (omega arith) is

pub loop-number-preserved : goal.loop-number-preserved
loop-number-preserved c =
    let number = c.loop-number.number in
    let begun = c.in_ok-begin_ten.ensures c.loop-number.invariant.ten in
    let is : c.as_bytes.result.now ≡ ten_of number = search rules in
    record {
      text = ruled_more (string_bytes c.args.text.now) (codes "bit     ") (string_bytes c.loop-number.text) _
          c.as_bytes.result.now c.args.bit number (omega arith) is c.in_ok-put_character.ensures
          c.loop-number.invariant.text;
      ten = λ inside.
          (let same : number - number % 10 ≡ (number + 1) - (number + 1) % 10 = omega (arith, inside) in
          begun ∙ ap decimal same);
      within = omega arith;
    }

pub returns : goal.returns
returns c =
    ruled_all (string_bytes c.args.text.now) (codes "bit     ") (string_bytes c.loop-number.text) _ c.args.bit
    c.args.many c.loop-number.number (omega arith) (omega arith) c.loop-number.invariant.text
    (c.in_ok-push.ensures.bytes
    ∙ ap (λ l. string_bytes c.loop-number.text ++ l) (c.in_ok-push.ensures.ascii (omega arith)))
