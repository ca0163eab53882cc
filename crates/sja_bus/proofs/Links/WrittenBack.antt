-- The bus nodes of a bus that were changed and written back, by the journals that a contract sees.
use Rattle.std.proofs.Common.{◌≡◌, ℕ, List, ◌++◌, length, take, drop, sym, ap, ◌∙◌, subst, arith}
use Rattle.std.proofs.lemmas.Grind.{common_steps}
use Rattle.sja_link.specs.declared.bus_end.BusEnd.{Ghosts as Ends}
use Rattle.sja_journal.specs.declared.entry.Entry.{Entry}
use Rattle.sja_journal.specs.Lists.{Lists}
use Rattle.lemmas.specs.Related.{EachRelated}
use Rattle.sja_bus.specs.declared.board.Board.{Ghosts as Ports}
use Rattle.sja_bus.specs.declared.bus_node.BusNode.{BusNode}
use Rattle.sja_bus.specs.Boards.{KeepsOthers}
use Rattle.sja_bus_rules.specs.Buses.{BusValue, KeepsAll}
use Rattle.sja_bus.specs.Moment.{moment, Keeps}
use Rattle.sja_bus.specs.Inside.Rows.{journals_of, GoesAll}
use Rattle.sja_bus.proofs.AllNodes.Journals.{keeps_all}
use Rattle.sja_bus.proofs.AllNodes.Running.{count_is}

-- as many as there were are those that were written
pub are_back : (was now : List BusNode) (n : ℕ) → n ≡ length was → length now ≡ length was →
    take n (now ++ drop (length now) was) ≡ now
are_back was now n all len = grind (arith, common_steps)

-- each link stands for the journals still, where it did so bus node by bus node
pub keeps_back : {E : Type 0} (same : E → E → Type 0) (stands : E → ℕ → Lists → Type 0) (was lent now : List BusNode)
    (n : ℕ) (journals : List (List Entry)) (links after : List E) → n ≡ length was → lent ≡ was →
    length now ≡ length lent →
    journals_of was ≡ journals → GoesAll same stands lent now links after →
    KeepsAll stands journals (journals_of (take n (now ++ drop (length now) was))) links after
keeps_back same stands was lent now n journals links after all is count seen goes =
    let len : length now ≡ length was = count ∙ ap (λ (l : List BusNode). length l) is in
    let G : List BusNode → Type 0 = λ l. GoesAll same stands l now links after in
    let P : List (List Entry) → Type 0 = λ l. KeepsAll stands l (journals_of now) links after in
    let Q : List BusNode → Type 0 = λ l. KeepsAll stands journals (journals_of l) links after in
    subst Q (sym (are_back was now n all len))
    (subst P seen (keeps_all same stands was now links after len (subst G is goes)))

-- the ends, the other ports, the script, the number of links, the room for steps and the number of nodes are as they
-- were, where they were so bus node by bus node
pub keeps_still : {E B : Type 0} (e : Ends E) (b : Ports B) (was lent now : List BusNode) (n : ℕ) (old new : BusValue)
    (links after : List E) (board told : B) → n ≡ length was → lent ≡ was → length now ≡ length lent →
    journals_of was ≡ old.journals → new.script ≡ old.script → new.starts ≡ old.starts → new.steps ≡ old.steps →
    new.journals ≡ journals_of (take n (now ++ drop (length now) was)) → EachRelated e.same links after →
    KeepsOthers b.ports b.kept (length lent) board told → Keeps e b (moment old links board) (moment new after told)
keeps_still e b was lent now n old new links after board told all is count seen script starts steps back sames others =
    let same : length lent ≡ length was = ap (λ (l : List BusNode). length l) is in
    let nodes : length was ≡ length old.journals =
    sym (count_is was) ∙ ap (λ (l : List (List Entry)). length l) seen in
    let O : ℕ → Type 0 = λ m. KeepsOthers b.ports b.kept m board told in record {
      sames = sames;
      others = subst O (same ∙ nodes) others;
      script = script;
      starts = starts;
      steps = steps;
      nodes = ap (λ (l : List (List Entry)). length l) back
          ∙ ap (λ (l : List BusNode). length (journals_of l)) (are_back was now n all (count ∙ same)) ∙ count_is now
          ∙ count ∙ same ∙ nodes;
    }
