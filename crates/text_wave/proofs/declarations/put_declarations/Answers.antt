use Rattle.text_wave.specs.Stories.{nodes_of}
use Rattle.text_wave.specs.Wires.{bus_wire}
use Rattle.text_report.proofs.WrittenLines.Written.{six_texts}
use Rattle.text_wave.proofs.declarations.put_declarations.Goals as goal

pub returns : goal.returns
returns c = λ stories long.
    six_texts _ _ _ _ _ _ _ _ _ _ _ _ _ c.in_ok-writeln.ensures.bytes c.in_ok-writeln-2.ensures.bytes
    c.in_ok-writeln-3.ensures.bytes
    (c.in_ok-put_scopes.ensures (bus_wire (nodes_of stories)) stories long) c.in_ok-writeln-4.ensures.bytes
    c.in_ok-writeln-5.ensures.bytes
