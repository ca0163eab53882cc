use Rattle.std.proofs.Common.{List, ℕ, [], ◌∷◌, ◌++◌, length, ap, ◌∙◌, arith}
use Rattle.sja_live.specs.Lines.{most_line}
use Rattle.sja_live.proofs.Lines.LineBytes.{take_full, take_room}
use Rattle.sja_live.proofs.next_line.keep.Goals as goal

-- there is no room
pub returns-then-len-ge-MOST_LINE-clause-front : goal.returns-then-len-ge-MOST_LINE-clause-front
returns-then-len-ge-MOST_LINE-clause-front c = λ line kept.
    let n = ap (λ (l : List ℕ). length l) kept in
    kept ∙ take_full most_line line c.args.byte (omega (arith, n, c.args.bytes.now.ok.0))

-- there is
pub returns-clause-front : goal.returns-clause-front
returns-clause-front c = λ line kept.
    let n = ap (λ (l : List ℕ). length l) kept in
    c.push_reserved.ensures.items ∙ ap (λ (l : List ℕ). l ++ c.args.byte ∷ []) kept
    ∙ take_room most_line line c.args.byte (omega (arith, n, c.args.bytes.now.ok.0))
