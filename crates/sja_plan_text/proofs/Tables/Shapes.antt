-- The table of a plan has a plan's shape, and says what stands in the plan.
use Rattle.std.proofs.Common.{◌≡◌, Bool, true, false, Some, List, [], ◌∷◌, map, refl}
use Rattle.sja_plan_reading.specs.Words.{Text}
use Rattle.sja_plan_reading.specs.Document.{texts_of, nodes_of, HasShape}
use Rattle.sja_plan.specs.Plan.{PlanValue}
use Rattle.sja_steps.specs.declared.step.Step.{Step}
use Rattle.sja_steps.specs.declared.strike.Strike.{Strike}
use Rattle.sja_plan_text.specs.Texts.{spelled_step}
use Rattle.sja_plan_text.specs.Inside.Table.{plan_members, plan_document}
use Rattle.sja_plan_text.proofs.Tables.Values.{text_items, node_items}

-- texts are read as themselves
texts_read : (texts : List Text) → texts_of (text_items texts) ≡ Some texts
texts_read [] = refl
texts_read (t ∷ texts) = rw (texts_read texts) refl

nodes_read : (named : Bool) (nodes : List (List Step)) →
    nodes_of (node_items named nodes) ≡ Some (map (map (spelled_step named)) nodes)
nodes_read named [] = refl
nodes_read named (steps ∷ nodes) = rw (texts_read (map (spelled_step named) steps), nodes_read named nodes) refl

-- without names, with strikes and without
shape_by : (strikes : List Strike) (p : PlanValue) → p.strikes ≡ strikes →
    HasShape (plan_members false p) (plan_document false p)
shape_by [] p is = rw is (record {
  known = refl;
  version = refl;
  bits = refl;
  nodes = nodes_read false p.nodes;
  turns = texts_read _;
  faults = refl;
})
shape_by (s ∷ strikes) p is = rw is (record {
  known = refl;
  version = refl;
  bits = refl;
  nodes = nodes_read false p.nodes;
  turns = texts_read _;
  faults = texts_read _;
})

-- with names, in version 3
named_shape : (strikes : List Strike) (p : PlanValue) → p.strikes ≡ strikes → p.version ≡ 3 →
    HasShape (plan_members true p) (plan_document true p)
named_shape [] p is third = rw is (record {
  known = refl;
  version = refl;
  bits = refl;
  nodes = nodes_read true p.nodes;
  turns = texts_read _;
  faults = refl;
})
named_shape (s ∷ strikes) p is third = rw is (record {
  known = rw third refl;
  version = refl;
  bits = refl;
  nodes = nodes_read true p.nodes;
  turns = texts_read _;
  faults = texts_read _;
})

pub plan_shape : (named : Bool) (p : PlanValue) → (named ≡ true → p.version ≡ 3) →
    HasShape (plan_members named p) (plan_document named p)
plan_shape false p third = shape_by p.strikes p refl
plan_shape true p third = named_shape p.strikes p refl (third refl)
