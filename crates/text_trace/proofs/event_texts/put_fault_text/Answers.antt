use Rattle.std.proofs.Common.{◌≡◌, arith}
use Rattle.can_node_rules.specs.ErrorCode.{error_code}
use Rattle.text_report.proofs.WrittenLines.Written.{two_texts}
use Rattle.text_trace.proofs.event_texts.put_fault_text.Goals as goal

pub returns : goal.returns
returns c =
    let code : c.error_code.result ≡ error_code c.args.cause c.args.segment c.args.receiving =
    omega (arith, c.error_code.ensures) in
    two_texts _ _ _ _ _ c.in_ok-put_fault_words.ensures (rw code at c.in_ok-put_byte.ensures)
