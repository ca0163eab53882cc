use Rattle.sja_live.proofs.answering.answered.Goals as goal

pub returns-in-Step-clause-answers : goal.returns-in-Step-clause-answers
returns-in-Step-clause-answers c = rw c.in-Step.is c.stepped.ensures

pub returns-in-Read-clause-answers : goal.returns-in-Read-clause-answers
returns-in-Read-clause-answers c = rw c.in-Read.is c.was_read.ensures

pub returns-in-Write-clause-answers : goal.returns-in-Write-clause-answers
returns-in-Write-clause-answers c = rw c.in-Write.is c.was_written.ensures

pub returns-in-Run-clause-answers : goal.returns-in-Run-clause-answers
returns-in-Run-clause-answers c = rw c.in-Run.is c.ran.ensures

pub returns-in-Rest-clause-answers : goal.returns-in-Rest-clause-answers
returns-in-Rest-clause-answers c = rw c.in-Rest.is c.rested.ensures

pub returns-in-To-clause-answers : goal.returns-in-To-clause-answers
returns-in-To-clause-answers c = rw c.in-To.is c.run_to.ensures

pub returns-in-PlaceOf-clause-answers : goal.returns-in-PlaceOf-clause-answers
returns-in-PlaceOf-clause-answers c = rw c.in-PlaceOf.is c.place_told.ensures

pub returns-in-Line-clause-answers : goal.returns-in-Line-clause-answers
returns-in-Line-clause-answers c = rw c.in-Line.is c.lines.ensures

pub returns-in-Strike-clause-answers : goal.returns-in-Strike-clause-answers
returns-in-Strike-clause-answers c = rw c.in-Strike.is c.strike.ensures.answers

pub returns-in-Answer-clause-answers : goal.returns-in-Answer-clause-answers
returns-in-Answer-clause-answers c = rw c.in-Answer.is c.last_answer.ensures

pub returns-in-Bits-clause-answers : goal.returns-in-Bits-clause-answers
returns-in-Bits-clause-answers c = rw c.in-Bits.is c.bits_so_far.ensures

pub returns-in-Plan-clause-answers : goal.returns-in-Plan-clause-answers
returns-in-Plan-clause-answers c = rw c.in-Plan.is c.plan_answer.ensures
