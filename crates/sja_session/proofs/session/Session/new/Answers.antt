use Rattle.std.proofs.Common.{◌≡◌, subst}
use Rattle.std.specs.Prelude.{IfOk, IfErr}
use Rattle.std.proofs.lemmas.Result.{on_ok_weaker}
use Rattle.sja_session.specs.Beginning.{IsSessionFault, fresh_bus}
use Rattle.sja_session.specs.declared.session_room.SessionRoom.{SessionRoom}
use Rattle.sja_session.proofs.session.Session.new.Goals as goal

pub returns-clause-bus : goal.returns-clause-bus
returns-clause-bus c =
    subst (λ (room : SessionRoom). IfOk c.with_room.result (λ s. s.run.bus
    ≡ fresh_bus c.args.version c.args.bits c.args.nodes room.steps)) c.most.ensures c.with_room.ensures.bus

pub returns-clause-room : goal.returns-clause-room
returns-clause-room c =
    subst (λ (room : SessionRoom). IfOk c.with_room.result (λ s. s.room ≡ room)) c.most.ensures
    c.with_room.ensures.room

pub returns-clause-limits : goal.returns-clause-limits
returns-clause-limits c = on_ok_weaker c.with_room.result (λ both. both.0) c.with_room.ensures.limits

pub returns-clause-err : goal.returns-clause-err
returns-clause-err c =
    subst (λ (room : SessionRoom). IfErr c.with_room.result
    (IsSessionFault c.args.version c.args.bits c.args.nodes room)) c.most.ensures c.with_room.ensures.err
