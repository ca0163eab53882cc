-- What the fields of a node say of its context.
use Rattle.std.specs.Prelude.{◌≡◌, Some}
use Rattle.can_frame.specs.Frame.{IsFrame}
use Rattle.can_bits.specs.declared.sent_body.SentBody.{SentBody}
use Rattle.can_bits.specs.Packing.{IsSentBody}
use Rattle.can_node_rules.specs.declared.request.Request.{Request}
use Rattle.can_node.specs.declared.context.Context.{Context}
use Rattle.can_node_rules.specs.Context.{ContextValue}

-- the context that the fields stand for
abbrev pub context_of : Context → ContextValue
context_of s = record {
  listen = s.listen;
  self_test = s.self_test;
  held = s.held;
  aborted = s.aborted;
  role = s.role;
  tec = s.counters.tec;
  rec = s.counters.rec;
  off = s.counters.off;
  flag = s.flag;
  ack_step_owed = s.ack_step_owed;
}

-- the packed body is that of the request that is held, which asks for a frame
abbrev pub HasBody : Context → SentBody → Type 0
HasBody s body = (request : Request) → s.held ≡ Some request → IsFrame request.frame × IsSentBody body request.frame
