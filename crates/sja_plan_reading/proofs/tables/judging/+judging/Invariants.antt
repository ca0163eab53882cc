use Rattle.std.proofs.Common.{◌≡◌, ◌+◌, ◌*◌, ◌-◌, ◌<◌, ◌≤◌, nat_cmp, List, [], ◌++◌, take, drop, length}
use Rattle.std.proofs.Common.{option_map}
use Rattle.std.specs.Ordering.{is_lt}
use Rattle.std.specs.Cmp.Lexicographic.{slice_cmp}
use Rattle.std.specs.List.{slice_index_or}
use Rattle.sja_plan_reading.specs.Words.{Text}
use Rattle.sja_plan_reading.specs.Inside.Items.{Item, first_of}
use Rattle.sja_plan_reading.specs.Inside.Judging.{split}
use Rattle.sja_plan_reading.specs.Inside.Names.{texts_of}
use Rattle.sja_plan_reading.specs.Inside.Definitions.{item_of, items_of, FirstsAre, KeySplits, AllAreGood}
use Rattle.sja_plan_reading.specs.declared.tables.definition.Definition.{Definition}
use Rattle.sja_plan_reading.specs.declared.tables.state.State.TheVariants.{Absent}
use Rattle.sja_plan_reading.proofs.tables.judging.+judging.Given as goal

abbrev pub decreases-judge : goal.decreases-judge
decreases-judge l = 2 * l.depth

abbrev pub decreases-judge_key : goal.decreases-judge_key
decreases-judge_key l = 2 * l.depth + 1

abbrev pub invariant-judge-keys : goal.invariant-judge-keys
invariant-judge-keys l = record {
  within : l.at ≤ length l.definitions;
  long : length l.definitions ≡ length l.initial.definitions;
  rest : drop l.at l.definitions ≡ drop l.at l.initial.definitions;
  splits : (k : Text) → KeySplits (items_of (texts_of l.names) (take l.at l.initial.definitions)) k;
  before : (d : Definition) → l.at < length l.definitions →
      FirstsAre (λ t. is_lt (slice_cmp nat_cmp t (first_of (item_of (texts_of l.names)
      (slice_index_or l.initial.definitions l.at d)))))
      (items_of (texts_of l.names) (take l.at l.initial.definitions));
}

abbrev pub decreases-judge-keys : goal.decreases-judge-keys
decreases-judge-keys l = length l.initial.definitions - l.at

abbrev pub invariant-judge_key-run : goal.invariant-judge_key-run
invariant-judge_key-run l = record {
  within : l.kept ≤ l.at;
  long : length l.run ≡ length l.initial.run;
  rest : drop l.at l.run ≡ drop l.at l.initial.run;
  splits : (done : List (List Item)) × AllAreGood done × (split Absent [] (items_of (texts_of l.names) l.initial.run)
      ≡ option_map (λ gs. done ++ gs) (split l.state (items_of (texts_of l.names) (take l.kept l.run))
      (items_of (texts_of l.names) (drop l.at l.initial.run))));
}
