use Rattle.can_node.specs.Standing.{context_of}
use Rattle.can_node.proofs.Machine.Ats.{at_integration, at_last_eof_bit, at_flag, at_delimiter, at_interframe_space}
use Rattle.can_node.proofs.node.Node.after_bit.Goals as goal

-- src/bit.rt
pub returns-in-Integrating-clause-turn : goal.returns-in-Integrating-clause-turn
returns-in-Integrating-clause-turn c = λ d place bits at kept body drives lost.
    at_integration c.in-Integrating.left c.in-Integrating.run' c.args.self.now.stage c.args.self.now.shift d
    (context_of c.args.self.now.context) place bits
    c.args.self.now.next c.args.seen c.after_integration_bit.result c.in-Integrating.is at drives
    c.after_integration_bit.ensures

pub returns-in-LastEofBit-clause-turn : goal.returns-in-LastEofBit-clause-turn
returns-in-LastEofBit-clause-turn c = λ d place bits at kept body drives lost.
    at_last_eof_bit c.args.self.now.stage c.args.self.now.shift d (context_of c.args.self.now.context) place bits
    c.args.self.now.next c.args.seen c.after_last_eof_bit.result
    c.in-LastEofBit.is at drives c.after_last_eof_bit.ensures

pub returns-in-InFlag-clause-turn : goal.returns-in-InFlag-clause-turn
returns-in-InFlag-clause-turn c = λ d place bits at kept body drives lost.
    at_flag c.in-InFlag.bits c.in-InFlag.last c.args.self.now.stage c.args.self.now.shift d
    (context_of c.args.self.now.context) place bits
    c.args.self.now.next c.args.seen c.after_flag_bit.result c.in-InFlag.is at kept drives c.after_flag_bit.ensures

pub returns-in-InDelimiter-clause-turn : goal.returns-in-InDelimiter-clause-turn
returns-in-InDelimiter-clause-turn c = λ d place bits at kept body drives lost.
    at_delimiter c.in-InDelimiter.dominant c.in-InDelimiter.recessive c.args.self.now.stage c.args.self.now.shift d
    (context_of c.args.self.now.context) place bits
    c.args.self.now.next c.args.seen c.after_delimiter_bit.result c.in-InDelimiter.is at drives
    c.after_delimiter_bit.ensures

pub returns-in-InInterframeSpace-clause-turn : goal.returns-in-InInterframeSpace-clause-turn
returns-in-InInterframeSpace-clause-turn c = λ d place bits at kept body drives lost.
    at_interframe_space c.in-InInterframeSpace.bits c.owes_suspension.result c.args.self.now.stage c.args.self.now.shift
    d (context_of c.args.self.now.context) place bits
    c.args.self.now.next c.args.seen c.after_interframe_bit.result c.in-InInterframeSpace.is at kept drives
    c.owes_suspension.ensures c.after_interframe_bit.ensures
