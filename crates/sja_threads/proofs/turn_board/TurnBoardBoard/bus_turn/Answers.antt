use Rattle.std.proofs.Common.{◌≡◌, ◌++◌, ◌∷◌, [], ℕ, ◌∙◌, subst, arith}
use Rattle.std.specs.Prelude.{slice_set}
use Rattle.sja_thread_promises.specs.declared.port_update.PortUpdate.TheVariants.{Turn}
use Rattle.sja_threads.specs.Inside.Boards.{turns_at, turns_in}
use Rattle.sja_threads.proofs.Twin.Boards.{told_here, told_there}
use Rattle.sja_threads.proofs.turn_board.TurnBoardBoard.bus_turn.Goals as goal

pub returns-clause-told : goal.returns-clause-told
returns-clause-told g c =
    let items = c.args.self.now.told.items in
    let place = c.place_of-place.result in
    let here = c.place_of-place.ensures in
    let less = c.requires in
    subst (λ (k : ℕ). turns_at (turns_in (slice_set items place c.bus_turn.new.told)) k
    ≡ turns_at (turns_in items) k ++ Turn c.args.turn ∷ []) here
    (told_here items place c.bus_turn.new.told (Turn c.args.turn) c.index_mut-told.result.now
    (omega (arith, here, less)) c.index_mut-told.ensures.value c.bus_turn.ensures.told)

pub returns-clause-others : goal.returns-clause-others
returns-clause-others g c = λ k other.
    told_there c.args.self.now.told.items c.place_of-place.result c.bus_turn.new.told k
    (λ same. other (same ∙ c.place_of-place.ensures))
