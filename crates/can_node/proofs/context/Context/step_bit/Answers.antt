use Rattle.can_node.specs.Standing.{context_of}
use Rattle.can_node.proofs.Machine.Counts.{count_integration, count_frame, count_delimiter}
use Rattle.can_node.proofs.context.Context.step_bit.Goals as goal

-- src/bit.rt
pub returns-in-Integrating : goal.returns-in-Integrating
returns-in-Integrating c = λ shift d place bits at few lost.
    count_integration c.in-Integrating.left c.in-Integrating.run' c.args.stage shift d (context_of c.args.self.now)
    (context_of c.integration_bit.new.self) place bits c.args.driven c.args.seen c.in-Integrating.is at
    c.integration_bit.ensures

pub returns-in-InFrame : goal.returns-in-InFrame
returns-in-InFrame c = λ shift d place bits at few lost.
    count_frame c.args.stage shift d (context_of c.args.self.now) (context_of c.frame_bit.new.self) place bits
    c.args.driven c.args.seen c.args.lost c.in-InFrame.is at lost c.frame_bit.ensures

pub returns-in-InDelimiter : goal.returns-in-InDelimiter
returns-in-InDelimiter c = λ shift d place bits at few lost.
    count_delimiter c.in-InDelimiter.dominant c.in-InDelimiter.recessive c.args.stage shift d
    (context_of c.args.self.now)
    (context_of c.delimiter_bit.new.self) place bits c.args.driven c.args.seen c.is_first-first.result
    c.is_eighth.result c.in-InDelimiter.is at
    c.is_first-first.ensures c.is_eighth.ensures few c.delimiter_bit.ensures
