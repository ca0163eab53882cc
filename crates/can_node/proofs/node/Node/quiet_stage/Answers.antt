use Rattle.std.proofs.Common.{sym, ◌∙◌}
use Rattle.can_node.specs.Standing.{context_of}
use Rattle.can_node.proofs.Machine.Ats.{at_integration, at_flag, at_delimiter, at_interframe_space}
use Rattle.can_node.proofs.Machine.QuietPlaces.{integrates_quietly, flags_quietly}
use Rattle.can_node.proofs.Machine.QuietPlaces.{delimits_quietly, interframes_quietly}
use Rattle.can_node.proofs.node.Node.quiet_stage.Goals as goal

-- src/quiet.rt
pub returns-else-run-eq10-clause-turns : goal.returns-else-run-eq10-clause-turns
returns-else-run-eq10-clause-turns c = λ to goes d place bits at kept drives.
    let old = c.args.self.now in
    let now = context_of old.context in
    integrates_quietly c.in-Integrating.left c.in-Integrating.run' old.stage to c.after_integration_bit.result old.shift
    d now place bits old.next c.args.level
    c.in-Integrating.is c.if-run-eq10.false at (sym goes ∙ c.stage.ensures)
    (at_integration c.in-Integrating.left c.in-Integrating.run' old.stage old.shift d now place bits old.next
    c.args.level c.after_integration_bit.result
    c.in-Integrating.is at drives c.after_integration_bit.ensures)

pub returns-else-self-clause-turns : goal.returns-else-self-clause-turns
returns-else-self-clause-turns c = λ to goes d place bits at kept drives.
    let old = c.args.self.now in
    let now = context_of old.context in
    flags_quietly c.in-InFlag.bits c.in-InFlag.last old.stage to c.after_flag_bit.result old.shift d now place bits
    old.next c.args.level
    c.in-InFlag.is c.if-self.false at (sym goes ∙ c.stage-else-self.ensures)
    (at_flag c.in-InFlag.bits c.in-InFlag.last old.stage old.shift d now place bits old.next c.args.level
    c.after_flag_bit.result
    c.in-InFlag.is at kept drives c.after_flag_bit.ensures)

pub returns-else-may_count-clause-turns : goal.returns-else-may_count-clause-turns
returns-else-may_count-clause-turns c = λ to goes d place bits at kept drives.
    let old = c.args.self.now in
    let now = context_of old.context in
    delimits_quietly c.in-InDelimiter.dominant c.in-InDelimiter.recessive old.stage to c.after_delimiter_bit.result
    old.shift d now place bits old.next c.args.level
    c.in-InDelimiter.is (sym c.may_count.ensures ∙ c.if-may_count.false) at (sym goes ∙ c.stage-else-may_count.ensures)
    (at_delimiter c.in-InDelimiter.dominant c.in-InDelimiter.recessive old.stage old.shift d now place bits old.next
    c.args.level c.after_delimiter_bit.result
    c.in-InDelimiter.is at drives c.after_delimiter_bit.ensures)

pub returns-in-InInterframeSpace-clause-turns : goal.returns-in-InInterframeSpace-clause-turns
returns-in-InInterframeSpace-clause-turns c = λ to goes d place bits at kept drives.
    let old = c.args.self.now in
    let now = context_of old.context in
    interframes_quietly c.in-InInterframeSpace.bits old.stage to c.after_interframe_bit.result old.shift d now place
    bits
    (record { driven = old.next; seen = c.args.level }) c.in-InInterframeSpace.is at
    (sym goes ∙ c.stage-in-InInterframeSpace.ensures)
    (at_interframe_space c.in-InInterframeSpace.bits c.owes_suspension.result old.stage old.shift d now place bits
    old.next c.args.level c.after_interframe_bit.result
    c.in-InInterframeSpace.is at kept drives c.owes_suspension.ensures c.after_interframe_bit.ensures)
