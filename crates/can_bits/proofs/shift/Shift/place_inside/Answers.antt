use Rattle.std.proofs.Common.{◌-◌, ◌+◌, ◌∙◌, ap, length}
use Rattle.can_levels.proofs.Reader.Inside.{next_plain_place, next_stuff_place}
use Rattle.can_bits.proofs.shift.Shift.place_inside.Goals as goal

pub returns-then-self-eq-RUN : goal.returns-then-self-eq-RUN
returns-then-self-eq-RUN c l h =
    next_stuff_place c.next_stuff_bit.result h.part c.if-self-eq-RUN.true
    (c.next_stuff_bit.ensures h.bits h.gathers ∙ ap (λ n. n - length h.bits + 1) h.count)

pub returns-else-self-eq-RUN : goal.returns-else-self-eq-RUN
returns-else-self-eq-RUN c l h =
    next_plain_place c.next_segment.result c.next_index.result h.part c.if-self-eq-RUN.false
    (c.next_segment.ensures h.bits h.gathers) (c.next_index.ensures h.bits h.gathers)
