use Rattle.std.proofs.Common.{◌+◌, List, rules, take, sym, subst, arith, inr}
use Rattle.std.specs.List.{AllZip}
use Rattle.can_frame.specs.Frame.{FrameValue}
use Rattle.text_codec.specs.Given.{Gives}
use Rattle.text_codec.proofs.Reading.Spelled.{texts, frames_more, first_refused}
use Rattle.text_codec.proofs.arbitrate.frames_of.Goals as goal

pub loop-given-preserved : goal.loop-given-preserved
loop-given-preserved c =
    let messages = c.args.messages.now in
    let i = c.loop-given.given-index in
    let P : List FrameValue → Type 0 = λ l. AllZip Gives (texts (take (i + 1) messages)) l in
    let longer = frames_more messages c.loop-given.frames.items i _ c.in-Ok.frame (omega arith)
    c.loop-given.invariant.spelled c.in-Ok.ensures.ok in
    record {
      spelled = subst P (sym c.push_reserved.ensures.items) longer;
      count = search rules;
      room = search rules;
    }

pub returns-in-Err-clause-err : goal.returns-in-Err-clause-err
returns-in-Err-clause-err c =
    inr (first_refused c.args.messages.now c.loop-given.frames.items c.loop-given.given-index _ c.in-Err.refusal
    (omega arith) c.loop-given.invariant.spelled c.in-Err.ensures.err)
