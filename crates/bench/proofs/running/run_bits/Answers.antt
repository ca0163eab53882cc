use Rattle.std.proofs.Common.{◌∙◌, arith}
use Rattle.bench.proofs.OwnEnds.{ends_went_on, links_went_on}
use Rattle.bench.proofs.running.run_bits.Goals as goal

-- ---- bit by bit

pub returns-in-Ok-clause-ends : goal.returns-in-Ok-clause-ends
returns-in-Ok-clause-ends c =
    ends_went_on c.args.links.now c.bits.new.links _ _ c.bits.ensures.keeps.nodes c.bits.ensures.keeps.sames
    c.requires.ends

pub returns-in-Ok-clause-links : goal.returns-in-Ok-clause-links
returns-in-Ok-clause-links c =
    links_went_on c.args.links.now c.bits.new.links _ _ c.bits.ensures.keeps.starts c.bits.ensures.keeps.sames
    c.requires.links

pub returns-in_default-clause-ends : goal.returns-in_default-clause-ends
returns-in_default-clause-ends c =
    ends_went_on c.args.links.now c.bits.new.links _ _ c.bits.ensures.keeps.nodes c.bits.ensures.keeps.sames
    c.requires.ends

pub returns-in_default-clause-links : goal.returns-in_default-clause-links
returns-in_default-clause-links c =
    links_went_on c.args.links.now c.bits.new.links _ _ c.bits.ensures.keeps.starts c.bits.ensures.keeps.sames
    c.requires.links

pub returns-in_default-2-clause-ends : goal.returns-in_default-2-clause-ends
returns-in_default-2-clause-ends c =
    ends_went_on c.args.links.now c.bits.new.links _ _ c.bits.ensures.keeps.nodes c.bits.ensures.keeps.sames
    c.requires.ends

pub returns-in_default-2-clause-links : goal.returns-in_default-2-clause-links
returns-in_default-2-clause-links c =
    links_went_on c.args.links.now c.bits.new.links _ _ c.bits.ensures.keeps.starts c.bits.ensures.keeps.sames
    c.requires.links

-- ---- those at rest at once

pub bit-requires-clause-ends : goal.bit-requires-clause-ends
bit-requires-clause-ends c =
    ends_went_on c.loop.links c.quiet_bits.new.links _ _ c.quiet_bits.ensures.nodes c.quiet_bits.ensures.sames
    c.loop.invariant.1

pub bit-requires-clause-links : goal.bit-requires-clause-links
bit-requires-clause-links c =
    links_went_on c.loop.links c.quiet_bits.new.links _ _ c.quiet_bits.ensures.starts c.quiet_bits.ensures.sames
    c.loop.invariant.2

pub bit-requires-clause-ports : goal.bit-requires-clause-ports
bit-requires-clause-ports c =
    let nodes = c.quiet_bits.ensures.nodes in let few = c.loop.invariant.3 in omega (arith, nodes, few)

pub loop-preserved : goal.loop-preserved
loop-preserved c =
    let i = c.loop.invariant in let q = c.quiet_bits.ensures in let e = c.bit.ensures.keeps in
    let rested = q.nodes in let nodes = e.nodes in let ports = e.others.0 in let few = i.3 in (
      nodes ∙ rested ∙ i.0,
      ends_went_on c.quiet_bits.new.links c.bit.new.links _ _ nodes e.sames
          (ends_went_on c.loop.links c.quiet_bits.new.links _ _ rested q.sames i.1),
      links_went_on c.quiet_bits.new.links c.bit.new.links _ _ e.starts e.sames
          (links_went_on c.loop.links c.quiet_bits.new.links _ _ q.starts q.sames i.2),
      omega (arith, rested, nodes, ports, few),
      ports ∙ i.4,
    )

pub returns-in_default-quiet_bits-clause-ends : goal.returns-in_default-quiet_bits-clause-ends
returns-in_default-quiet_bits-clause-ends c =
    ends_went_on c.loop.links c.quiet_bits.new.links _ _ c.quiet_bits.ensures.nodes c.quiet_bits.ensures.sames
    c.loop.invariant.1

pub returns-in_default-quiet_bits-clause-links : goal.returns-in_default-quiet_bits-clause-links
returns-in_default-quiet_bits-clause-links c =
    links_went_on c.loop.links c.quiet_bits.new.links _ _ c.quiet_bits.ensures.starts c.quiet_bits.ensures.sames
    c.loop.invariant.2

pub returns-then-left-eq0-clause-ends : goal.returns-then-left-eq0-clause-ends
returns-then-left-eq0-clause-ends c =
    ends_went_on c.loop.links c.quiet_bits.new.links _ _ c.quiet_bits.ensures.nodes c.quiet_bits.ensures.sames
    c.loop.invariant.1

pub returns-then-left-eq0-clause-links : goal.returns-then-left-eq0-clause-links
returns-then-left-eq0-clause-links c =
    links_went_on c.loop.links c.quiet_bits.new.links _ _ c.quiet_bits.ensures.starts c.quiet_bits.ensures.sames
    c.loop.invariant.2

pub returns-then-is_err-clause-ends : goal.returns-then-is_err-clause-ends
returns-then-is_err-clause-ends c =
    ends_went_on c.quiet_bits.new.links c.bit.new.links _ _ c.bit.ensures.keeps.nodes c.bit.ensures.keeps.sames
    (ends_went_on c.loop.links c.quiet_bits.new.links _ _ c.quiet_bits.ensures.nodes c.quiet_bits.ensures.sames
    c.loop.invariant.1)

pub returns-then-is_err-clause-links : goal.returns-then-is_err-clause-links
returns-then-is_err-clause-links c =
    links_went_on c.quiet_bits.new.links c.bit.new.links _ _ c.bit.ensures.keeps.starts c.bit.ensures.keeps.sames
    (links_went_on c.loop.links c.quiet_bits.new.links _ _ c.quiet_bits.ensures.starts c.quiet_bits.ensures.sames
    c.loop.invariant.2)
