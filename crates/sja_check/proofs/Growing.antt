-- Texts that grow, line by line.
use Rattle.std.proofs.Common.{◌≡◌, ◌≤◌, ◌+◌, ℕ, List, [], ◌∷◌, ◌++◌, sym, subst, arith, All}
use Rattle.std.proofs.lemmas.List.Elements.{All-push, All-nil}
use Rattle.sja_check.specs.Lines.{IsPlain, IsLine, AreLines, IsBrief, AreHints}
use Rattle.sja_check.specs.Inside.Lines.{AddsLine}

-- one character more
pub plain_more : (line : List ℕ) (c : ℕ) → All IsPlain line → IsPlain c → All IsPlain (line ++ c ∷ [])
plain_more line c h p = All-push IsPlain line c h p

pub plain_none : All IsPlain []
plain_none = All-nil IsPlain

-- a line, and then its line feed
pub adds_line : (old line middle text : List ℕ) → IsLine line → middle ≡ old ++ line → text ≡ middle ++ 10 ∷ [] →
    AddsLine old text
adds_line old line middle text h m t = record {
  line = line;
  is_line = h;
  text_is = subst (λ l. text ≡ l ++ 10 ∷ []) m t;
}

-- one line more
pub one_more : (n : ℕ) (old text : List ℕ) → AreLines n old → AddsLine old text → AreLines (n + 1) text
one_more n old text h a =
    subst (λ l. AreLines (n + 1) l) (sym a.text_is) (AreLines.more n old a.line h a.is_line)

-- no line yet
pub no_lines : (text : List ℕ) → text ≡ [] → AreLines 0 text
no_lines text e = subst (λ l. AreLines 0 l) (sym e) AreLines.none

pub brief_one : (old text : List ℕ) → old ≡ [] → AddsLine old text → IsBrief text
brief_one old text e a = record {
  count = 1;
  some = omega arith;
  few = omega arith;
  lines = one_more 0 old text (no_lines old e) a;
}

pub brief_two : (old first text : List ℕ) → old ≡ [] → AddsLine old first → AddsLine first text → IsBrief text
brief_two old first text e a b = record {
  count = 2;
  some = omega arith;
  few = omega arith;
  lines = one_more 1 first text (one_more 0 old first (no_lines old e) a) b;
}

-- so many lines are hints
pub hints_of : (n : ℕ) (text : List ℕ) → n ≤ 21 → AreLines n text → AreHints text
hints_of n text h l = record { count = n; few = h; lines = l }
