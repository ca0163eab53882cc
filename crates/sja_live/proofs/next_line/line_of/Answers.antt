use Rattle.std.proofs.Common.{◌≤◌, length, sym, ap, ◌∙◌, subst, arith}
use Rattle.std.proofs.lemmas.Str.{IsUtf8-string_bytes}
use Rattle.std.specs.Prelude.{IsUtf8}
use Rattle.sja_live.specs.Lines.{most_line}
use Rattle.sja_live.proofs.Lines.LineBytes.{kept_whole}
use Rattle.sja_live.proofs.next_line.line_of.Goals as goal

-- the bytes are a text
pub returns-in-Ok : goal.returns-in-Ok
returns-in-Ok c = λ line kept many.
    let few : length line ≤ most_line = omega arith in
    let e = ap (λ v. v.items) c.in-Ok.ensures.ok ∙ kept_whole c.args.bytes.items line kept few in
    (e, (few, subst IsUtf8 e (IsUtf8-string_bytes c.in-Ok.text)))

-- they are none
pub returns : goal.returns
returns c = λ line kept many.
    let few : length line ≤ most_line = omega arith in
    let e = kept_whole c.args.bytes.items line kept few in
    (few, λ utf8. let no = c.in-Err.ensures.succeeds (subst IsUtf8 (sym e) utf8) in absurd cc)
