use Rattle.std.proofs.Common.{◌≡◌, ◌-◌, ◌/◌, ◌%◌, ◌^◌, ◌==◌, ◌++◌, ◌∷◌, [], ℕ}
use Rattle.std.proofs.Common.{length, sym, ap, ◌∙◌, arith, append_assoc, lit<}
use Rattle.std.proofs.lemmas.List.{append-nil, length-append}
use Rattle.can_levels.specs.declared.level.Level.{Level}
use Rattle.can_levels.specs.Digits.{bits, digit, level_of}
use Rattle.can_levels.proofs.Values.{bits-more, bits-nothing, length-bits, level-digit}
use Rattle.can_bits.proofs.sent_body.push_bits.Goals as goal

-- which digit a level is
digit_is : {x : Level} (n : ℕ) → x ≡ level_of (n % 2 == 1) → digit x ≡ n % 2
digit_is n h = ap digit h ∙ level-digit (n % 2) (omega arith)

pub loop-k-init : goal.loop-k-init
loop-k-init c = rw (bits-nothing (c.args.number / 2 ^ (c.args.count - 0))) (sym (append-nil c.args.body.now.items))

pub push-requires : goal.push-requires
push-requires c =
    let before = c.args.body.now.items in
    let pushed = bits c.loop-k.k (c.args.number / 2 ^ (c.args.count - c.loop-k.k)) in (
      lit< tt,
      omega (
        arith,
        ap length c.loop-k.invariant,
        length-append before pushed,
        length-bits c.loop-k.k (c.args.number / 2 ^ (c.args.count - c.loop-k.k)),
      ),
    )

-- `sent` proves nothing here: by it a wrong body is refused with values
pub loop-k-preserved : goal.loop-k-preserved
loop-k-preserved c =
    let more = bits-more c.loop-k.k c.args.count c.args.number c.loop-k-test.true in
    let sent : digit c.of.result ≡ c.args.number / 2 ^ (c.args.count - 1 - c.loop-k.k) % 2 =
    omega (arith, digit_is _ c.of.ensures) in
    c.push.ensures.items ∙ ap (λ l. l ++ c.of.result ∷ []) c.loop-k.invariant
    ∙ append_assoc c.args.body.now.items (bits c.loop-k.k (c.args.number / 2 ^ (c.args.count - c.loop-k.k)))
    (c.of.result ∷ [])
    ∙ ap (λ l. c.args.body.now.items ++ l)
    (ap (λ x. bits c.loop-k.k (c.args.number / 2 ^ (c.args.count - c.loop-k.k)) ++ x ∷ []) c.of.ensures ∙ sym more)

pub returns-clause-room : goal.returns-clause-room
returns-clause-room c =
    let pushed = bits c.loop-k.k (c.args.number / 2 ^ (c.args.count - c.loop-k.k)) in
    omega (
      arith,
      ap length c.loop-k.invariant,
      length-append c.args.body.now.items pushed,
      length-bits c.loop-k.k (c.args.number / 2 ^ (c.args.count - c.loop-k.k)),
    )
