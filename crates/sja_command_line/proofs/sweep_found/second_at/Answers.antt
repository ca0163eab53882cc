use Rattle.std.proofs.Common.{◌≡◌, Some, None, refl, sym, ap, map, ◌∙◌}
use Rattle.std.specs.Prelude.{option_map, option_and_then, slice_get}
use Rattle.clap.specs.Words.{all_of, found_of, rows_of}
use Rattle.sja_command_line.proofs.Requests.Rows.{no_second, raw_values-rows, second_now}
use Rattle.sja_command_line.proofs.sweep_found.second_at.Goals as goal

pub returns-in_err-texts : goal.returns-in_err-texts
returns-in_err-texts c =
    let all = c.get_strs.ensures ∙ raw_values-rows c.args.arguments.now c.args.id.now in
    let none : c.get_strs.result ≡ None = c.in_err-texts.was in
    let nothing : all_of c.args.id.now (rows_of (found_of c.args.arguments.now)) ≡ None = sym all ∙ rw none refl in
    ap (option_map (λ text. text.now)) c.from_residual.ensures
    ∙ sym (ap (option_and_then (λ values. slice_get values 1)) nothing)

pub returns-then-texts-lt2 : goal.returns-then-texts-lt2
returns-then-texts-lt2 c =
    let all = c.get_strs.ensures ∙ raw_values-rows c.args.arguments.now c.args.id.now in
    let some : c.get_strs.result ≡ Some c.in_ok-texts.texts = c.in_ok-texts.was in
    let texts = c.in_ok-texts.texts.now in
    let given : all_of c.args.id.now (rows_of (found_of c.args.arguments.now)) ≡ Some (map (λ v. v.now) texts) =
    sym all ∙ rw some refl in
    sym (ap (option_and_then (λ values. slice_get values 1)) given ∙ no_second texts c.if-texts-lt2.true)

pub returns : goal.returns
returns c =
    let all = c.get_strs.ensures ∙ raw_values-rows c.args.arguments.now c.args.id.now in
    let some : c.get_strs.result ≡ Some c.in_ok-texts.texts = c.in_ok-texts.was in
    let texts = c.in_ok-texts.texts.now in
    let given : all_of c.args.id.now (rows_of (found_of c.args.arguments.now)) ≡ Some (map (λ v. v.now) texts) =
    sym all ∙ rw some refl in
    sym (ap (option_and_then (λ values. slice_get values 1)) given ∙ second_now texts _ c.if-texts-lt2.false)
