use Rattle.std.proofs.Common.{rules, of_calls}
use Rattle.std.proofs.lemmas.Cmp.{nat_list_cmp_total}
use Rattle.std.proofs.lemmas.Fn.{always_returns_same}
use Rattle.std.proofs.lemmas.List.Sorted.{ranks_by}
use Rattle.sja_plan_reading.specs.Inside.Items.{first_of}
use Rattle.sja_plan_reading.specs.Inside.Names.{texts_of}
use Rattle.sja_plan_reading.specs.Inside.Definitions.{item_of, is_before}
use Rattle.sja_plan_reading.proofs.SortedItems.{stable_keys}
use Rattle.sja_plan_reading.proofs.tables.judging.sort.Goals as goal

pub returns-clause-sorted : goal.returns-clause-sorted
returns-clause-sorted c =
    let ts = texts_of c.args.names.now in
    c.in_ok-sort_by.ensures.sorted (is_before ts) (ranks_by nat_list_cmp_total (λ d. first_of (item_of ts d)))
    (always_returns_same _ _ _ (λ a r f k. search (rules, of_calls)))

pub returns-clause-stable : goal.returns-clause-stable
returns-clause-stable c =
    let ts = texts_of c.args.names.now in
    stable_keys ts c.args.definitions.now c.sort_by.new.self
    (c.in_ok-sort_by.ensures.stable (is_before ts) (ranks_by nat_list_cmp_total (λ d. first_of (item_of ts d)))
    (always_returns_same _ _ _ (λ a r f k. search (rules, of_calls))))
