use Rattle.std.proofs.Common.{◌≡◌, ◌++◌, take}
use Rattle.std.specs.List.{flat_map}
use Rattle.sja_serial.specs.Registers.{row_of}
use Rattle.sja_serial.proofs.registers.push_some.Given as goal

-- the rows of the addresses so far
abbrev pub invariant-loop-address : goal.invariant-loop-address
invariant-loop-address l = l.rows.items
    ≡ l.fn.rows.items ++ flat_map (row_of l.node l.port l.kept l.seen) (take l.address-index l.addresses)
