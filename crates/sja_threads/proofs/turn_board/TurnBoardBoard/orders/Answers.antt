use Rattle.std.proofs.Common.{rules, ◌≡◌, ℕ, true, subst, arith}
use Rattle.sja_thread_promises.specs.Ordering.{abort_told}
use Rattle.sja_threads.specs.Inside.Boards.{turns_at, turns_in}
use Rattle.sja_threads.proofs.Twin.Boards.{abort_at}
use Rattle.sja_threads.proofs.turn_board.TurnBoardBoard.orders.Goals as goal

pub returns-clause-orders : goal.returns-clause-orders
returns-clause-orders g c = λ stands.
    let items = c.args.self.now.told.items in
    let here = c.place_of-place.ensures in
    let less = c.requires in
    subst (λ (k : ℕ). abort_told (turns_at (turns_in items) k) ≡ true) here
    (abort_at items c.place_of-place.result c.index-told.result.now (omega (arith, here, less)) c.index-told.ensures
    (search rules))
