-- A level that is kept.
use Rattle.std.proofs.Common.{◌≡◌, ap, ◌∙◌, if◌then◌else◌}
use Rattle.can_levels.specs.declared.level.Level.TheVariants.{Recessive}
use Rattle.can_node_rules.specs.Context.{ContextValue, flag_level, level_of_flag}

-- what a context keeps fixes what is driven in a flag
pub level_kept : (c now : ContextValue) → now.listen ≡ c.listen → now.flag ≡ c.flag → flag_level now ≡ flag_level c
level_kept c now listen flag =
    ap (λ t. if t then Recessive else level_of_flag now.flag) listen
    ∙ ap (λ f. if c.listen then Recessive else level_of_flag f) flag
