use Rattle.std.proofs.Common.{◌≡◌, ◌≤◌, length}
use Rattle.sja_journal.specs.Links.{AreEnds, HaveLinks}
use Rattle.bench.proofs.running.run_bits.Given as goal

-- links and ports are those of the bus's nodes, which stay as many
abbrev pub invariant-loop : goal.invariant-loop
invariant-loop l = (length l.bus.journals ≡ length l.initial.bus.journals)
    × AreEnds (λ e. e.node) (length l.bus.journals) l.links
    × HaveLinks (λ e. e.starts) l.bus.starts l.links
    × (length l.bus.journals ≤ length l.board.ports.items)
    × (length l.board.ports.items ≡ length l.initial.board.ports.items)
