-- What the bus of a run in threads told its ports, from one round to the next.
use Rattle.std.proofs.Common.{◌≡◌, ◌++◌, ◌||◌, ℕ, zero, suc, ◌<◌, ◌≤◌, Bool, List, [], ◌∷◌, length, inl, inr, false}
use Rattle.std.proofs.Common.{refl, sym, ap, ◌∙◌, subst, arith}
use Rattle.std.specs.Prelude.{Result, Ok, Err, OnOk, slice_index_or}
use Rattle.can_levels.specs.declared.level.Level.{Level}
use Rattle.sja_journal.specs.declared.entry.Entry.{Entry}
use Rattle.sja_journal.specs.BitEntries.{MayHaveItems}
use Rattle.sja_journal.specs.Carried.{bits_of}
use Rattle.sja_regs.specs.declared.bus_turn.BusTurn.{BusTurn}
use Rattle.sja_regs.specs.declared.orders.Orders.{Orders}
use Rattle.sja_steps.specs.declared.strike.Strike.{Strike}
use Rattle.sja_plan.specs.Plan.{PlanValue, steps_at}
use Rattle.sja_bus_rules.specs.Buses.{EachJournal, IsBit}
use Rattle.sja_bus_rules.specs.Wire.{journal_at}
use Rattle.sja_threads.specs.declared.order.Order.{Ghosts as PortOrders}
use Rattle.sja_thread_promises.specs.declared.port_update.PortUpdate.{PortUpdate}
use Rattle.sja_thread_promises.specs.declared.port_update.PortUpdate.TheVariants.{Turn, Ran, Spent}
use Rattle.sja_thread_promises.specs.Ordering.{MayOrder, TellsPort, ended_told}
use Rattle.sja_thread_promises.specs.Ordering.TellsPort.{items, bit, bits, none_left, nothing_yet}
use Rattle.sja_threads.specs.declared.turns_of_node.TurnsOfNode.{TurnsOfNode}
use Rattle.sja_threads.proofs.Twin.Led.{ended_ran, ended_turn}
use Rattle.sja_threads.specs.Inside.Boards.{turns_at, turns_in, AllBegun, AllEnded, AreTold}
use Rattle.sja_threads.specs.Inside.Boards.{EachTold, NoneTold, SaysBits, SaysSpent}

-- none is told as items are taken
pub told_items : (plan : PlanValue) (before after : List (List Entry)) (told : List (List PortUpdate)) →
    length after ≡ length before → EachJournal MayHaveItems before after → AreTold plan before told →
    AreTold plan after told
told_items plan before after told nodes each are = λ node few.
    let few' : node < length before = omega (arith, few, nodes) in
    items (journal_at before node) (journal_at after node) (turns_at told node) (are node few') (each node few')

pub told_gather : (before after : List (List Entry)) → length after ≡ length before → {A X : Type 0} (r : Result A X) →
    OnOk r (EachJournal MayHaveItems before after) →
    OnOk r ((plan : PlanValue) (told : List (List PortUpdate)) → AreTold plan before told → AreTold plan after told)
told_gather before after nodes (Ok a) each = λ plan told are. told_items plan before after told nodes each are
told_gather before after nodes (Err x) each = tt

-- in a bit each port is told its turn, or none where there is nothing to tell
pub told_bit : (plan : PlanValue) (before after : List (List Entry)) (was now : List (List PortUpdate))
    (script : List Strike)
    (n : ℕ) (untold : List _) → length after ≡ length before →
    IsBit (λ node (orders : Orders). MayOrder (turns_at was node) orders)
    (λ node (t : BusTurn). turns_at now node ≡ turns_at was node ++ Turn t ∷ [])
    (λ node. turns_at now node ≡ turns_at was node) script n untold before after →
    AllBegun plan before was → AreTold plan before was → AreTold plan after now
told_bit plan before after was now script n untold nodes b begun are = λ node few.
    let few' : node < length before = omega (arith, few, nodes) in
    bit (journal_at before node) (journal_at after node) (turns_at was node) (turns_at now node) _ _ _ (are node few')
    (begun node few') (b.nodes node few')

-- and that its driver has ended stays found
pub ended_bit : (count : ℕ) (before after : List (List Entry)) (was now : List (List PortUpdate)) (script : List Strike)
    (n : ℕ) (untold : List _) → count ≤ length before →
    IsBit (λ node (orders : Orders). MayOrder (turns_at was node) orders)
    (λ node (t : BusTurn). turns_at now node ≡ turns_at was node ++ Turn t ∷ [])
    (λ node. turns_at now node ≡ turns_at was node) script n untold before after →
    AllEnded count was → AllEnded count now
ended_bit count before after was now script n untold few b ended = λ node less.
    elim (b.nodes node (omega (arith, few, less))).port [
      | inl told ↦ ap ended_told told ∙ ended_turn false _ (turns_at was node) ∙ ended node less
      | inr passed ↦ ap ended_told passed.kept ∙ ended node less
    ]

-- as it does where more is told
pub ended_more : (count many : ℕ) (was now : List (List PortUpdate)) → count ≤ length was →
    EachTold (SaysBits many) was now → AllEnded count was → AllEnded count now
ended_more count many was now long each ended = λ node few.
    let t = each node (omega (arith, few, long)) in
    ap ended_told (t.2 ∙ ap (λ (m : PortUpdate). turns_at was node ++ m ∷ []) t.1.1)
    ∙ ended_ran false many t.1.0 (turns_at was node)
    ∙ ap (λ (b : Bool). b || t.1.0.ended) (ended node few)

-- and then by what is answered
pub told_then : (plan : PlanValue) (a b c : List (List Entry)) (x y : List (List PortUpdate)) →
    (AreTold plan a x → AreTold plan b x) → {A X : Type 0} (r : Result A X) →
    OnOk r (AreTold plan b x → AreTold plan c y) → OnOk r (AreTold plan a x → AreTold plan c y)
told_then plan a b c x y p (Ok z) q = λ are. q (p are)
told_then plan a b c x y p (Err z) q = tt

-- between two bits each is told how many have run
pub told_ran : (plan : PlanValue) (many : ℕ) (journals : List (List Entry)) (was now : List (List PortUpdate)) →
    ((node : ℕ) → node < length journals → length (bits_of (journal_at journals node)) ≡ many) →
    length journals ≤ length was → EachTold (SaysBits many) was now → AreTold plan journals was →
    AreTold plan journals now
told_ran plan many journals was now counts long each are = λ node few.
    let t = each node (omega (arith, few, long)) in
    subst (λ (l : List PortUpdate). TellsPort plan.bits (steps_at plan node) (journal_at journals node) l)
    (sym (t.2 ∙ ap (λ (m : PortUpdate). turns_at was node ++ m ∷ []) t.1.1))
    (bits (journal_at journals node) (turns_at was node) many t.1.0 (are node few) (counts node few))

-- or that none is left
pub told_spent : (plan : PlanValue) (journals : List (List Entry)) (was now : List (List PortUpdate)) →
    ((node : ℕ) → node < length journals → length (bits_of (journal_at journals node)) ≡ plan.bits) →
    length journals ≤ length was → EachTold SaysSpent was now → AreTold plan journals was → AreTold plan journals now
told_spent plan journals was now counts long each are = λ node few.
    let t = each node (omega (arith, few, long)) in
    subst (λ (l : List PortUpdate). TellsPort plan.bits (steps_at plan node) (journal_at journals node) l)
    (sym (t.2 ∙ ap (λ (m : PortUpdate). turns_at was node ++ m ∷ []) t.1))
    (none_left (journal_at journals node) (turns_at was node) (are node few) (counts node few))

-- before the first bit none was told
pub told_first : (plan : PlanValue) (journals : List (List Entry)) (turns : List (List PortUpdate)) →
    ((node : ℕ) → journal_at journals node ≡ []) → ((node : ℕ) → turns_at turns node ≡ []) →
    AreTold plan journals turns
told_first plan journals turns empty none = λ node few.
    subst (λ (j : List Entry). TellsPort plan.bits (steps_at plan node) j (turns_at turns node)) (sym (empty node))
    (subst (λ (t : List PortUpdate). TellsPort plan.bits (steps_at plan node) [] t) (sym (none node)) nothing_yet)

pub none_at : {N : Type 0} {o : PortOrders N} (told : List (TurnsOfNode N o)) → NoneTold told → (node : ℕ) →
    turns_at (turns_in told) node ≡ []
none_at [] none node = no_turns node
  where
    no_turns : (n : ℕ) → turns_at [] n ≡ []
    no_turns zero = refl
    no_turns (suc n) = refl
none_at (t ∷ told) none zero = none 0 t (omega arith)
none_at (t ∷ told) none (suc node) = none_at told (λ k d less. none (suc k) d (omega (arith, less))) node
