use Rattle.std.proofs.Common.{ap, sym, ◌∙◌}
use Rattle.std.specs.List.{slice_get}
use Rattle.can_node_rules.proofs.Contending.FieldLevels.{field_by, field_is}
use Rattle.can_node.proofs.arbitration_field.field_level.Goals as goal

pub returns-then-ext : goal.returns-then-ext
returns-then-ext c =
    let f = c.args.frame.now in
    let is = sym c.ext.ensures ∙ c.if-ext.true in
    c.extended_level.ensures ∙ sym
    (ap (λ l. slice_get l c.args.place) (field_is f ∙ ap (λ e. field_by e f.id f.rtr) is))

pub returns-else-ext : goal.returns-else-ext
returns-else-ext c =
    let f = c.args.frame.now in
    let is = sym c.ext.ensures ∙ c.if-ext.false in
    c.standard_level.ensures ∙ sym
    (ap (λ l. slice_get l c.args.place) (field_is f ∙ ap (λ e. field_by e f.id f.rtr) is))
