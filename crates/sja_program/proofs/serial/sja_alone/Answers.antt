use Rattle.std.proofs.Common.{rules, inl, inr, ap, sym, ◌∙◌, Some}
use Rattle.sja_command_line.specs.Requests.{request_of}
use Rattle.text_codec.specs.declared.command_refusal.CommandRefusal.TheVariants as refusal
use Rattle.sja_program.proofs.BytesRead.FewBytes.{unread}
use Rattle.sja_program.proofs.Requested.RefusedMemory.{memory_refused}
use Rattle.sja_program.proofs.Requested.Requests.{asks_one}
use Rattle.sja_program.proofs.serial.sja_alone.Goals as goal

-- words that parse are never turned away
pub returns-in-Err-Unparsed-clause-answered : goal.returns-in-Err-Unparsed-clause-answered
returns-in-Err-Unparsed-clause-answered g c = λ r parses _ _ _. search (rules, c.parse.ensures.refused r parses)

-- the words ask for nothing but the task
pub returns-in-Err-clause-answered : goal.returns-in-Err-clause-answered
returns-in-Err-clause-answered g c = λ r parses _ wrote told.
    let same = asks_one _ r (request_of c.in-Ok.task) parses c.in-Ok.ensures.ok in
    rw (same ∙ ap request_of (sym c.in-Err.ensures.other.0)) (c.reply.ensures.answered wrote told)

-- memory may be refused while the words are parsed
pub returns-in-Err-OutOfMemory-clause-answered : goal.returns-in-Err-OutOfMemory-clause-answered
returns-in-Err-OutOfMemory-clause-answered g c = λ r _ _ _ told.
    inr (inl (
      refusal.OutOfMemory,
      memory_refused r _ _ (unread _),
      ap Some c.refuse.ensures.status,
      search rules,
      (c.refuse.ensures.written told).1,
    ))
