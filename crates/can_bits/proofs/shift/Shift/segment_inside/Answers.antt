use Rattle.std.proofs.Common.{◌≡◌, ◌==◌, true, false}
use Rattle.std.proofs.lemmas.Bool.{eq-eqb, ne_eqb}
use Rattle.can_levels.proofs.Reader.Inside.{next_bit, next_stuff_bit}
use Rattle.can_bits.proofs.shift.Shift.segment_inside.Goals as goal

pub returns-then-self-eq-RUN : goal.returns-then-self-eq-RUN
returns-then-self-eq-RUN c l h =
    let stuff : (c.args.self.now.run == 5) ≡ true = eq-eqb c.args.self.now.run 5 c.if-self-eq-RUN.true in
    rw (stuff, c.last_segment.ensures h.bits h.gathers) (next_stuff_bit h.part c.if-self-eq-RUN.true)

pub returns-else-self-eq-RUN : goal.returns-else-self-eq-RUN
returns-else-self-eq-RUN c l h =
    let plain : (c.args.self.now.run == 5) ≡ false = ne_eqb c.args.self.now.run 5 c.if-self-eq-RUN.false in
    rw (plain, c.next_segment.ensures h.bits h.gathers) (next_bit h.part c.if-self-eq-RUN.false)
