-- A bus after bits in which nothing was taken, as contracts see it.
use Rattle.std.proofs.Common.{◌≡◌, ℕ, ◌+◌, ◌-◌, ◌≤◌, Bool, Option, Some, None, List, length, refl, sym, ap, ◌∙◌, subst}
use Rattle.std.proofs.Common.{arith}
use Rattle.sja_journal.specs.Links.{HaveLinks}
use Rattle.sja_link.specs.declared.bus_end.BusEnd.{Ghosts as Ends}
use Rattle.lemmas.specs.Related.{EachRelated}
use Rattle.sja_steps.specs.declared.strike.Strike.{Strike}
use Rattle.sja_bus.specs.declared.board.Board.{Ghosts as Ports}
use Rattle.sja_bus.specs.declared.broken_bit.BrokenBit.{BrokenBit}
use Rattle.sja_journal.specs.declared.bus_fault.BusFault.{BusFault}
use Rattle.sja_bus.specs.declared.bus_node.BusNode.{BusNode}
use Rattle.sja_bus.specs.Boards.{KeepsOthers}
use Rattle.sja_bus_rules.specs.Buses.{BusValue}
use Rattle.sja_bus_rules.specs.Reasons.{room_for}
use Rattle.sja_bus.specs.Moment.{Moment, moment, Keeps}
use Rattle.sja_bus.specs.Inside.Refusing.{HaveRoom}
use Rattle.sja_bus.specs.Inside.Rows.{AreBegun, journals_of, untold_of}
use Rattle.sja_bus.specs.UntilTold.{WorksUntold}
use Rattle.sja_bus.specs.Inside.RunningOn.{bus_of, AnyBit, RowsRun, RowsStop, IsSoFar, IsStopped}
use Rattle.sja_bus.proofs.AllNodes.Running.{count_is}

-- what contracts see of a bus with these bus nodes
abbrev pub bus_with : List Strike → ℕ → List ℕ → ℕ → ℕ → Option BusFault → List BusNode → BusValue
bus_with script starts steps run left fault bus_nodes =
    record {
      script = script;
      starts = starts;
      steps = steps;
      run = run;
      left = left;
      fault = fault;
      journals = journals_of bus_nodes;
      untold = untold_of bus_nodes;
    }

-- without a fault
pub bus_is : (script : List Strike) (starts : ℕ) (steps : List ℕ) (run left : ℕ) (fault : Option BusFault)
    (bus_nodes same : List BusNode) (bus : BusValue) →
    same ≡ bus_nodes → fault ≡ None → bus_with script starts steps run left fault bus_nodes ≡ bus →
    bus_of script starts steps run left same ≡ bus
bus_is script starts steps run left fault bus_nodes same bus is none view =
    let P : List BusNode → Type 0 = λ l. bus_with script starts steps run left None l ≡ bus in
    let Q : Option BusFault → Type 0 = λ f. bus_with script starts steps run left f bus_nodes ≡ bus in
    subst P (sym is) (subst Q none view)

module _ {E B : Type 0} (e : Ends E) (b : Ports B) (to_rest : Bool) (script : List Strike) (starts : ℕ) (steps : List ℕ)
    (run left : ℕ) (was now : List BusNode) (links after : List E) (board told : B) (count : ℕ)
    (len : length now ≡ length
    was)
    (sames : EachRelated e.same links after) (others : KeepsOthers b.ports b.kept (length was) board told)
    (old : BusValue) (start : bus_of script starts steps run left was ≡ old) where
  -- what they keep
  keeps : (new : BusValue) → new.script ≡ script → new.starts ≡ starts → new.steps ≡ steps → new.journals ≡
      journals_of now →
      Keeps e b (moment old links board) (moment new after told)
  keeps new script_is starts_are steps_are journals =
      let K : ℕ → Type 0 = λ m. KeepsOthers b.ports b.kept m board told in
      let P : BusValue → Type 0 = λ w. Keeps e b (moment w links board) (moment new after told) in
      subst P start (record {
        sames = sames;
        others = subst K (sym (count_is was)) others;
        script = script_is;
        starts = starts_are;
        steps = steps_are;
        nodes = ap (λ (l : List _). length l) journals ∙ count_is now ∙ len ∙ sym (count_is was);
      })

  -- before each of their bits some node works, where that is asked for, and no port was told anything
  abbrev Before : Moment E B → Type 0
  Before = WorksUntold to_rest (moment old links board)

  -- so many
  pub ran : (n : ℕ) (new : BusValue) → AreBegun starts was → n ≤ count → count ≤ left → bus_of script starts steps
      (run + n) (left - n) now ≡ new →
      RowsRun e b to_rest script run count was now links after board told n →
      IsSoFar e b (AnyBit e b) Before (moment old links board) n (moment new after told)
  ran n new begun few enough end runs =
      let P : BusValue → Type 0 = λ w. IsSoFar e b (AnyBit e b) (WorksUntold to_rest (moment w links board))
      (moment w links board) n (moment new after told) in
      let first = moment (bus_of script starts steps run left was) links board in
      let Q : BusValue → Type 0 = λ w. IsSoFar e b (AnyBit e b) (WorksUntold to_rest first) first n
      (moment w after told) in
      let O : BusValue → Type 0 = λ w. Keeps e b (moment w links board)
      (moment (bus_of script starts steps (run + n) (left - n) now) after told) in
      subst P start (subst Q end (record {
        keeps = subst O (sym start) (keeps (bus_of script starts steps (run + n) (left - n) now) refl refl refl refl);
        left = omega (arith, few, enough);
        right = refl;
        bits = runs.bits starts steps left begun enough;
      }))

  -- and one that didn't come to its end
  pub stopped : (f : BrokenBit) (new : BusValue) → AreBegun starts was → HaveLinks e.links starts links →
      count ≤ left → HaveRoom (room_for (run + left) steps) was →
      new.script ≡ script → new.starts ≡ starts → new.steps ≡ steps → new.run ≡ run + f.after →
      new.left ≡ left - f.after → new.fault ≡ Some f.fault →
      new.journals ≡ journals_of now → RowsStop e b to_rest script run count was now links after board told f →
      IsStopped e b Before count (moment old links board) (moment new after told) f.fault
  stopped f new begun many enough rooms script_is starts_are steps_are run_is left_is fault journals stops =
      let P : BusValue → Type 0 = λ w. IsStopped e b (WorksUntold to_rest (moment w links board)) count
      (moment w links board) (moment new after told) f.fault in
      let O : BusValue → Type 0 = λ w. Keeps e b (moment w links board) (moment new after told) in
      subst P start (record {
        keeps = subst O (sym start) (keeps new script_is starts_are steps_are journals);
        fault = fault;
        reason = stops starts steps left new begun many enough rooms journals run_is left_is;
      })
