use Rattle.std.proofs.Common.{◌≡◌, map, drop, length, vec_len, vec_capacity}
use Rattle.toml.specs.View.{items_view}
use Rattle.sja_plan_reading.specs.Document.{nodes_of}
use Rattle.sja_plan_reading.proofs.Spelling.Items.{joined}
use Rattle.sja_plan_reading.proofs.value.nodes.Given as goal

-- what is found, and what the rest gives, are what the whole gives; there is room for all
abbrev pub invariant-loop-value : goal.invariant-loop-value
invariant-loop-value l = record {
  count : vec_len l.found ≡ l.value-index;
  room : vec_capacity l.found ≡ length l.values;
  made : nodes_of (items_view l.values) ≡ joined
      (map (λ steps. map (λ s. s.now) steps.items) l.found.items) (nodes_of (items_view (drop l.value-index l.values)));
}
