use Rattle.std.proofs.Common.{rules, ◌∷◌, ◌++◌, [], ap, ◌∙◌}
use Rattle.sja_plan_reading.specs.Inside.Names.{texts_of}
use Rattle.sja_plan_reading.proofs.KeyTexts.{parts_push}
use Rattle.sja_plan_reading.proofs.tables.names.Names.add.Goals as goal

pub returns-clause-texts : goal.returns-clause-texts
returns-clause-texts c =
    rw (c.in_ok-extend_from_slice.ensures.items, c.in_ok-push.ensures.items)
    (parts_push c.args.self.now.bytes.items c.as_bytes.result.now c.args.self.now.parts.items _ c.requires
    (search rules) (search rules)
    ∙ ap (λ t. texts_of c.args.self.now ++ t ∷ []) c.as_bytes.ensures.value)
