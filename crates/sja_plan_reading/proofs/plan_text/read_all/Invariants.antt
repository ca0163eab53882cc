use Rattle.std.proofs.Common.{◌≡◌, length, map, take, vec_len, vec_capacity}
use Rattle.std.specs.List.{AllZip}
use Rattle.sja_plan_reading.proofs.plan_text.read_all.Given as goal

-- the texts so far say what is found, and there is room for all
abbrev pub invariant-loop-text : goal.invariant-loop-text
invariant-loop-text g l = record {
  count : vec_len l.found ≡ l.text-index;
  room : vec_capacity l.found ≡ length l.texts;
  made : AllZip (g.T.PlanText.says l.fn.within) (map (λ t. t.now) (take l.text-index l.texts)) l.found.items;
}
