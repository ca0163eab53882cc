use Rattle.std.proofs.Common.{arith}
use Rattle.sja_serial.proofs.serial_run.SerialRun.without_end.Goals as goal

pub made-requires : goal.made-requires
made-requires c =
    let r = c.requires in let least = r.bits.0 in record {
      may = record { nodes = r.nodes; bits = (omega (arith, least), r.bits.1); steps = r.steps };
      version = λ few. absurd (omega (arith, few, least));
    }
