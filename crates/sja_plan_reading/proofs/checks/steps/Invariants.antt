use Rattle.std.proofs.Common.{◌≡◌, length, map, take, vec_len, vec_capacity}
use Rattle.std.specs.List.{AllZip}
use Rattle.sja_plan_reading.specs.StepTexts.{SaysStep}
use Rattle.sja_plan_reading.proofs.Parts.Nodes.{node_texts}
use Rattle.sja_plan_reading.proofs.checks.steps.Given as goal

-- the nodes so far say the steps that were found, and there is room for all
abbrev pub invariant-loop-texts : goal.invariant-loop-texts
invariant-loop-texts l = record {
  count : vec_len l.found ≡ l.texts-index;
  room : vec_capacity l.found ≡ length l.texts-items;
  made : AllZip (AllZip (SaysStep l.version)) (map node_texts (take l.texts-index l.texts-items))
      (map (λ steps. steps.items) l.found.items);
}
