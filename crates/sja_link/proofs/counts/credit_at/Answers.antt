use Rattle.std.proofs.Common.{◌∷◌, [], ap, ◌∙◌, sym}
use Rattle.sja_journal.specs.declared.up.Up.TheVariants.{Credit}
use Rattle.sja_link.proofs.JournalEntries.Counting.{credit_here, off_not_here, none_past}
use Rattle.sja_link.proofs.counts.credit_at.Goals as goal

pub returns-then-place-items-clause-none : goal.returns-then-place-items-clause-none
returns-then-place-items-clause-none c = none_past c.args.items.now c.args.place c.if-place-items.true

pub returns-in-Message-clause-some : goal.returns-in-Message-clause-some
returns-in-Message-clause-some c =
    credit_here c.args.items.now c.args.place _ _ c.requires c.if-place-items.false
    c.index-items-place.is c.in-Message.is
    ∙ ap (λ n. Credit n ∷ []) (sym c.len.ensures.value)

pub returns-in-Off-clause-none : goal.returns-in-Off-clause-none
returns-in-Off-clause-none c =
    absurd (off_not_here c.args.items.now c.args.place _ c.requires c.if-place-items.false
    c.index-items-place.is c.in-Off.is)
