use Rattle.std.proofs.Common.{map, subst}
use Rattle.std.specs.Prelude.{vec_capacity}
use Rattle.sja_journal.specs.declared.bounded_history.BoundedHistory.{BoundedHistory}
use Rattle.sja_steps.specs.declared.step.Step.{Step}
use Rattle.sja_serial.specs.Accounts.{AreAccountsNow}
use Rattle.sja_serial.specs.Serial.{all_acts}
use Rattle.sja_serial.proofs.AllNodes.Several.{at_own}
use Rattle.sja_session.specs.Sessions.{SessionValue, IsSession}
use Rattle.sja_session.proofs.session.Session.accounts.Goals as goal

pub accounts-requires : goal.accounts-requires
accounts-requires c = let inv = c.self.invariant.0 in (all_acts inv.step_runs, at_own inv.at.stands.stands)

pub returns-clause-headline : goal.returns-clause-headline
returns-clause-headline c = subst (λ (s : SessionValue). AreAccountsNow s.run) c.self.view_is c.accounts.ensures

pub returns-clause-stands : goal.returns-clause-stands
returns-clause-stands c =
    let own = c.self.inside in
    let sizes = map (λ (steps : BoundedHistory Step). steps.room) own.steps.items in let capacity = vec_capacity
    own.turns in
    (sizes, capacity, subst (λ (s : SessionValue). IsSession s sizes capacity) c.self.view_is c.self.invariant.0)
