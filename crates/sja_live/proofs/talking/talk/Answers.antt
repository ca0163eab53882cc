use Rattle.sja_live.proofs.Talks.NewSessions.{begins_live}
use Rattle.sja_live.proofs.talking.talk.Goals as goal

-- the session that was opened is live
pub talk_on-requires : goal.talk_on-requires
talk_on-requires g c =
    begins_live c.in-Ok-new_session.session c.in-Ok.opening c.in-Ok-new_session.ensures

-- and the talk went on to its end
pub returns-clause-told : goal.returns-clause-told
returns-clause-told g c = c.in_ok-talk_on.ensures.told _ record {
  opening = c.in-Ok.opening;
  said = rw c.in-Ok.is at c.in_ok-opening.ensures.said;
  new = c.in-Ok-new_session.ensures;
}
