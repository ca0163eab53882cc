use Rattle.std.proofs.Common.{◌≡◌, ◌<◌, ◌≤◌, ◌+◌, ◌++◌, ◌⊎◌, [], codes, false, true, map, length}
use Rattle.std.proofs.Common.{Result, Ok, Err, Some, None, refl, sym, ap, ◌∙◌, arith, inl, inr}
use Rattle.std.specs.Prelude.{option_map}
use Rattle.std.specs.Result.{is_err, IsOk, OnOk}
use Rattle.std.proofs.lemmas.Bool.{eqb-true, eqb-false}
use Rattle.std.proofs.lemmas.List.{length-map}
use Rattle.sja_command_line.specs.Requests.{request_of, arbitrate}
use Rattle.sja_command_line.proofs.Requests.Rows.{raw_values-rows}
use Rattle.sja_command_line.proofs.Requests.Several.{nothing_asked, not_asked, arbitrate_asked}
use Rattle.sja_command_line.proofs.found.arbitrate_task.Goals as goal
use Rattle.sja_command_line.proofs.found.arbitrate_task.Goals.{then-is_empty-via-then-is_empty}
use Rattle.sja_command_line.proofs.found.arbitrate_task.Goals.{then-is_empty-via-else-is_empty+then-is_err}

-- what is no error is Ok
ok_by : {T E : Type 0} (r : Result T E) → is_err r ≡ false → IsOk r
ok_by (Ok x) h = refl
ok_by (Err e) h = cc

not_ok : {T E : Type 0} (r : Result T E) → is_err r ≡ true → IsOk r → ⊥
not_ok (Ok x) h ok = cc
not_ok (Err e) h ok = cc

on_ok : {T E : Type 0} (r : Result T E) (P : Type 0) → is_err r ≡ false → OnOk r P → P
on_ok (Ok x) P h p = p
on_ok (Err e) P h p = cc

pub returns-in_err-texts : goal.returns-in_err-texts
returns-in_err-texts c =
    let all = c.get_strs.ensures ∙ raw_values-rows c.args.arguments.now (codes "MESSAGE") in
    let none : c.get_strs.result ≡ None = c.in_err-texts.was in
    ap (option_map request_of) c.from_residual.ensures ∙ nothing_asked _ (sym all ∙ rw none refl)

pub returns-then-is_empty : goal.returns-then-is_empty
returns-then-is_empty c =
    let all = c.get_strs.ensures ∙ raw_values-rows c.args.arguments.now (codes "MESSAGE") in
    let some : c.get_strs.result ≡ Some c.in_ok-texts.texts = c.in_ok-texts.was in
    let texts = c.in_ok-texts.texts.now in
    let messages = map (λ m. m.now) texts in
    let count : length messages ≡ length texts = length-map texts (λ m. m.now) in
    let number : (length messages ≡ 0) ⊎ (8 < length messages) =
    elim c.then-is_empty.branch [
      | then-is_empty-via-then-is_empty w ↦ inl (count ∙ eqb-true _ _ (sym c.is_empty.ensures ∙ w.if-is_empty.true))
      | then-is_empty-via-else-is_empty+then-is_err w ↦ let many =
          not_ok w.try_extend_from_slice.result (sym w.is_err.ensures.value ∙ w.if-is_err.true) in
          let room : (length texts ≤ 8 → ⊥) =
          λ h. many (w.try_extend_from_slice.ensures.variant.1 (omega (arith, ap length c.new-messages.ensures))) in
          inr (omega arith)
    ] in
    not_asked _ messages (sym all ∙ rw some refl) number

pub returns : goal.returns
returns c =
    let all = c.get_strs.ensures ∙ raw_values-rows c.args.arguments.now (codes "MESSAGE") in
    let some : c.get_strs.result ≡ Some c.in_ok-texts.texts = c.in_ok-texts.was in
    let texts = c.in_ok-texts.texts.now in
    let messages = map (λ m. m.now) texts in
    let count : length messages ≡ length texts = length-map texts (λ m. m.now) in
    let extend = c.try_extend_from_slice in
    let fine = sym c.is_err.ensures.value ∙ c.if-is_err.false in
    let held : extend.new.self.items ≡ [] ++ texts =
    on_ok extend.result _ fine extend.ensures.ok ∙ ap (λ l. l ++ texts) c.new-messages.ensures in
    let few : length c.new-messages.result.items + length texts ≤ 8 =
    extend.ensures.variant.0 (ok_by extend.result fine) in
    let any : length texts ≡ 0 → ⊥ = eqb-false _ _ (sym c.is_empty.ensures ∙ c.if-is_empty.false) in
    ap (λ l. Some (arbitrate (map (λ m. m.now) l))) held
    ∙ arbitrate_asked _ messages (sym all ∙ rw some refl) (omega arith) (omega arith)
