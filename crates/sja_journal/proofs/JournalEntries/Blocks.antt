-- Codes that pass a test, many at once.
use Rattle.std.proofs.Common.{◌≡◌, ◌≤◌, ℕ, ◌+◌, zero, suc, Bool, true, List, [], ◌∷◌, length, take, drop, arith}
use Rattle.std.proofs.lemmas.Bool.{and_parts}
use Rattle.std.specs.List.{list_all}
use Rattle.sja_journal.specs.declared.code.Code.{Code}
use Rattle.sja_journal.specs.Inside.Codes.{leading}

-- where the first codes pass, those that pass go on behind them
pub past_block : (passes : Code → Bool) (n : ℕ) (codes : List Code) → n ≤ length codes →
    list_all passes (take n codes) ≡ true → n + leading passes (drop n codes) ≡ leading passes codes
past_block passes zero codes few h = omega arith
past_block passes (suc n) [] few h = absurd (omega (arith, few))
past_block passes (suc n) (code ∷ codes) few h =
    let both = and_parts (passes code) (list_all passes (take n codes)) h in
    let rest = past_block passes n codes (omega (arith, few)) both.1 in
    rw both.0 (omega (arith, rest))
