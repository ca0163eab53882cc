use Rattle.std.proofs.Common.{◌≡◌, ◌≢◌, refl, sym, subst, inr}
use Rattle.sja_live.specs.declared.live_session_fault.LiveSessionFault.TheVariants.{Memory, Read as ReadFault, Write}
use Rattle.text_codec.specs.declared.command_refusal.CommandRefusal.TheVariants.{OutOfMemory, Read}
use Rattle.sja_run.specs.Live.{SaysWhy}
use Rattle.sja_run.proofs.live.reply_live.Goals as goal

-- memory was refused on the way
pub returns-in-Err-Memory-clause-answered : goal.returns-in-Err-Memory-clause-answered
returns-in-Err-Memory-clause-answered g c = λ _ told.
    let other : c.in-Err-Memory.field-0 ≢ Write = λ same. cc (same, c.in-Err-Memory.field-0-is) in
    let is : c.in-Err-Memory.field-0 ≡ Memory = cc c.in-Err-Memory.field-0-is in
    let says = subst (SaysWhy OutOfMemory) (sym is) refl in
    let broken = c.in-Err-Memory.ensures.broken other in
    inr (c.in-Err-Memory.field-0, OutOfMemory, says, c.refuse.ensures.status, broken, (c.refuse.ensures.written told).1)

-- a read failed
pub returns-in-Err-Read-clause-answered : goal.returns-in-Err-Read-clause-answered
returns-in-Err-Read-clause-answered g c = λ _ told.
    let other : c.in-Err-Read.field-0 ≢ Write = λ same. cc (same, c.in-Err-Read.field-0-is) in
    let is : c.in-Err-Read.field-0 ≡ ReadFault = cc c.in-Err-Read.field-0-is in
    let says = subst (SaysWhy Read) (sym is) refl in
    let broken = c.in-Err-Read.ensures.broken other in
    let written = (c.refuse-in-Err-Read.ensures.written told).1 in
    inr (c.in-Err-Read.field-0, Read, says, c.refuse-in-Err-Read.ensures.status, broken, written)
