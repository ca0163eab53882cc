use Rattle.std.proofs.Common.{refl, arith}
use Rattle.can_node_rules.proofs.Waiting.Delimiters.{dominant_after_flag, delimiter_ends}
use Rattle.can_node_rules.proofs.Waiting.Delimiters.{delimiter_overloads, delimiter_breaks}
use Rattle.can_node.proofs.delimiter.after_delimiter_bit.Goals as goal

pub returns-then-recessive-eq0 : goal.returns-then-recessive-eq0
returns-then-recessive-eq0 c shift before now bits h = (
  refl,
  dominant_after_flag c.args.dominant c.args.recessive c.args.seen bits c.in-Dominant.is (omega arith) h,
)

pub returns-then-recessive-lt-BEFORE_LAST : goal.returns-then-recessive-lt-BEFORE_LAST
returns-then-recessive-lt-BEFORE_LAST c shift before now bits h =
    delimiter_breaks before c.args.dominant c.args.recessive c.args.seen bits c.in-Dominant.is (omega arith)
    (omega arith) h

pub returns-else-recessive-lt-BEFORE_LAST : goal.returns-else-recessive-lt-BEFORE_LAST
returns-else-recessive-lt-BEFORE_LAST c shift before now bits h =
    delimiter_overloads before c.args.dominant c.args.recessive c.args.seen bits c.in-Dominant.is (omega arith) h

pub returns-else-recessive-lt-BEFORE_LAST-2 : goal.returns-else-recessive-lt-BEFORE_LAST-2
returns-else-recessive-lt-BEFORE_LAST-2 c shift before now bits h =
    delimiter_ends before c.args.dominant c.args.recessive c.args.seen bits c.in-Recessive.is (omega arith) h
