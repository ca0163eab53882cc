-- Ports that were told that no bits are left.
use Rattle.std.proofs.Common.{◌≡◌, ◌≢◌, ◌++◌, ℕ, ◌<◌, ◌≤◌, Bool, true, List, [], ◌∷◌, length, inl, inr, refl, ap, ◌∙◌}
use Rattle.std.proofs.Common.{arith, sym}
use Rattle.std.specs.Prelude.{Result, Ok}
use Rattle.sja_journal.specs.declared.entry.Entry.{Entry}
use Rattle.sja_regs.specs.declared.bus_turn.BusTurn.{BusTurn}
use Rattle.sja_regs.specs.declared.orders.Orders.{Orders}
use Rattle.sja_steps.specs.declared.strike.Strike.{Strike}
use Rattle.sja_bus_rules.specs.Buses.{IsBit}
use Rattle.sja_threads.specs.declared.round.Round.{Round}
use Rattle.sja_threads.specs.declared.round.Round.TheVariants.{Ran as RoundRan, Rests, Spent as RoundSpent}
use Rattle.sja_thread_promises.specs.declared.port_update.PortUpdate.{PortUpdate}
use Rattle.sja_thread_promises.specs.declared.port_update.PortUpdate.TheVariants.{Turn, Ran, Spent}
use Rattle.sja_thread_promises.specs.Ordering.{MayOrder, closed_told}
use Rattle.sja_threads.specs.Inside.Boards.{AreClosed, EachTold, SaysBits, SaysSpent, StayClosed, turns_at}

closed_turn : (told : List PortUpdate) (t : BusTurn) → closed_told (told ++ Turn t ∷ []) ≡ closed_told told
closed_turn [] t = refl
closed_turn (Ran many orders ∷ told) t = closed_turn told t
closed_turn (Turn u ∷ told) t = closed_turn told t
closed_turn (Spent ∷ told) t = refl

closed_ran : (told : List PortUpdate) (bits : ℕ) (o : Orders) → closed_told (told ++ Ran bits o ∷ []) ≡ closed_told told
closed_ran [] bits o = refl
closed_ran (Ran many orders ∷ told) bits o = closed_ran told bits o
closed_ran (Turn u ∷ told) bits o = closed_ran told bits o
closed_ran (Spent ∷ told) bits o = refl

closed_spent : (told : List PortUpdate) → closed_told (told ++ Spent ∷ []) ≡ true
closed_spent [] = refl
closed_spent (Ran many orders ∷ told) = closed_spent told
closed_spent (Turn u ∷ told) = closed_spent told
closed_spent (Spent ∷ told) = refl

-- a bit tells none so
pub closed_bit : (count : ℕ) (before after : List (List Entry)) (was now : List (List PortUpdate))
    (script : List Strike)
    (n : ℕ) (untold : List _) → count ≤ length before →
    IsBit (λ node (orders : Orders). MayOrder (turns_at was node) orders)
    (λ node (t : BusTurn). turns_at now node ≡ turns_at was node ++ Turn t ∷ [])
    (λ node. turns_at now node ≡ turns_at was node) script n untold before after → StayClosed count was now
closed_bit count before after was now script n untold few b closed are = λ node less.
    elim (b.nodes node (omega (arith, few, less))).port [
      | inl told ↦ ap closed_told told ∙ closed_turn (turns_at was node) _ ∙ are node less
      | inr passed ↦ ap closed_told passed.kept ∙ are node less
    ]

-- nor does how many have run
pub closed_more : (count many : ℕ) (was now : List (List PortUpdate)) → count ≤ length was →
    EachTold (SaysBits many) was now → StayClosed count was now
closed_more count many was now long each closed are = λ node few.
    let t = each node (omega (arith, few, long)) in
    ap closed_told (t.2 ∙ ap (λ (m : PortUpdate). turns_at was node ++ m ∷ []) t.1.1)
    ∙ closed_ran (turns_at was node) many t.1.0 ∙ are node few

-- and then each is told so
pub closed_all : (count : ℕ) (was now : List (List PortUpdate)) → count ≤ length was → EachTold SaysSpent was now →
    AreClosed count true now
closed_all count was now long each = λ node few.
    let t = each node (omega (arith, few, long)) in
    ap closed_told (t.2 ∙ ap (λ (m : PortUpdate). turns_at was node ++ m ∷ []) t.1) ∙ closed_spent (turns_at was node)

-- a round that ran a bit, or rests, isn't one in which they are spent
pub ran_on : RoundRan ≢ RoundSpent
ran_on e = cc

pub rests_on : Rests ≢ RoundSpent
rests_on e = cc

pub not_spent : {X : Type 0} (r : Result Round X) (x : Round) → r ≡ Ok x → x ≢ RoundSpent → r ≢ Ok RoundSpent
not_spent {X} r x is other e = other (let both = sym is ∙ e in cc)
