use Rattle.std.proofs.Common.{rules, ℕ, refl, sym, ap, ◌∙◌, option_map, arith}
use Rattle.std.specs.Str.{str_eq_ignore_ascii_case}
use Rattle.sja_plan_reading.specs.Words.{Text}
use Rattle.sja_plan_reading.specs.RegisterNames.{register_address}
use Rattle.sja_plan_reading.proofs.Spelling.Searches.{find_here, find_behind}
use Rattle.sja_plan_reading.proofs.register_names.register_address.Goals as goal

pub loop-register-init : goal.loop-register-init
unfolding register_address
loop-register-init c = refl

pub returns-then-is_same_name : goal.returns-then-is_same_name
returns-then-is_same_name c =
    sym (c.loop-register.invariant ∙ ap (option_map (λ (r : Text × ℕ). r.1))
    (find_here (λ (r : Text × ℕ). str_eq_ignore_ascii_case r.0 c.args.name.now) (λ r. (r.0.now, r.1)) _
    c.loop-register.register-index _ (omega arith) (sym c.is_same_name.ensures ∙ c.if-is_same_name.true)))

pub loop-register-preserved : goal.loop-register-preserved
loop-register-preserved c =
    c.loop-register.invariant ∙ ap (option_map (λ (r : Text × ℕ). r.1))
    (find_behind (λ (r : Text × ℕ). str_eq_ignore_ascii_case r.0 c.args.name.now) (λ r. (r.0.now, r.1)) _
    c.loop-register.register-index _ (omega arith) (sym c.is_same_name.ensures ∙ c.if-is_same_name.false))
