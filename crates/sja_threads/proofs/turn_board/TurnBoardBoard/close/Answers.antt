use Rattle.std.proofs.Common.{◌≡◌, ◌++◌, ◌∷◌, [], ℕ, ap, ◌∙◌, subst}
use Rattle.sja_thread_promises.specs.declared.port_update.PortUpdate.TheVariants.{Spent}
use Rattle.sja_threads.specs.Inside.Boards.{turns_at, turns_in}
use Rattle.sja_threads.proofs.turn_board.TurnBoardBoard.close.Goals as goal

pub returns-clause-shut : goal.returns-clause-shut
returns-clause-shut g c =
    let t = c.close_at.ensures.told in
    let was = turns_in c.args.self.now.told.items in
    let now = turns_in c.close_at.new.self.told.items in
    subst (λ (k : ℕ). turns_at now k ≡ turns_at was k ++ Spent ∷ []) c.place_of.ensures
    (t.2 ∙ ap (λ m. turns_at was c.place_of.result ++ m ∷ []) t.1)

pub returns-clause-others : goal.returns-clause-others
returns-clause-others g c = λ k other. c.close_at.ensures.others k (λ same. other (same ∙ c.place_of.ensures))
