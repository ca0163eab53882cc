use Rattle.std.proofs.Common.{◌∙◌, Bool, Option, Some, subst, ap}
use Rattle.sja_journal.specs.declared.entry.Entry.{Entry}
use Rattle.sja_journal.specs.declared.entry.Entry.TheVariants.{Bit}
use Rattle.sja_replay.specs.Inside.Walking.{IsTakenFrom, Enters}
use Rattle.sja_replay.proofs.BitTaken.Walks.{goes_on, past_more, brought_on, tells_on, untold_on, ends_refused}
use Rattle.sja_replay.proofs.BitTaken.Walks.{ends_over, some_left}
use Rattle.sja_replay.proofs.replay.Replay.next.Goals as goal

-- src/replay.rt
pub returns-in-Bit-clause-some : goal.returns-in-Bit-clause-some
returns-in-Bit-clause-some c =
    let P : Option Entry → Type 0 = λ o. IsTakenFrom c.loop-entry.self c.take.new.self o in
    brought_on c.args.self.now c.loop-entry.self c.take.new.self c.told_bit.new.self c.in-Bit.driven c.in-Bit.seen
    c.told_bit.result c.loop-entry.invariant.0 (subst P (c.in-Some.is ∙ ap Some c.in-Bit.is) c.take.ensures)
    c.told_bit.ensures.brings

pub returns-in-Bit-clause-bit : goal.returns-in-Bit-clause-bit
returns-in-Bit-clause-bit c =
    let P : Option Entry → Type 0 = λ o. IsTakenFrom c.loop-entry.self c.take.new.self o in
    tells_on c.args.self.now c.loop-entry.self c.take.new.self c.told_bit.new.self c.in-Bit.driven c.in-Bit.seen
    c.told_bit.result c.loop-entry.invariant.0 (subst P (c.in-Some.is ∙ ap Some c.in-Bit.is) c.take.ensures)
    c.told_bit.ensures.brings

pub returns-in-Bit-clause-none : goal.returns-in-Bit-clause-none
returns-in-Bit-clause-none c =
    let P : Option Entry → Type 0 = λ o. IsTakenFrom c.loop-entry.self c.take.new.self o in
    untold_on c.args.self.now c.loop-entry.self c.take.new.self c.told_bit.new.self c.in-Bit.driven c.in-Bit.seen
    c.told_bit.result c.loop-entry.invariant.0 (subst P (c.in-Some.is ∙ ap Some c.in-Bit.is) c.take.ensures)
    c.told_bit.ensures.brings

pub returns-in-Bit-clause-over : goal.returns-in-Bit-clause-over
returns-in-Bit-clause-over c = λ none.
    let P : Option Entry → Type 0 = λ o. IsTakenFrom c.loop-entry.self c.take.new.self o in
    absurd (some_left c.loop-entry.self c.take.new.self (Bit c.in-Bit.driven c.in-Bit.seen)
    (subst P (c.in-Some.is ∙ ap Some c.in-Bit.is) c.take.ensures) (c.loop-entry.invariant.1 none))

pub returns-then-not-enter : goal.returns-then-not-enter
returns-then-not-enter c =
    let P : Option Entry → Type 0 = λ o. IsTakenFrom c.loop-entry.self c.take.new.self o in
    let Q : Bool → Type 0 = λ b. Enters c.take.new.self c.enter.new.self c.in-Some.entry b in record {
      some = rw c.end.ensures.none tt;
      bit = rw c.end.ensures.none tt;
      none = rw c.end.ensures.none (λ before h.
          ends_refused c.args.self.now c.loop-entry.self c.take.new.self c.enter.new.self before c.in-Some.entry
          (goes_on _ _ before (c.loop-entry.invariant.0 before h)) (subst P c.in-Some.is c.take.ensures)
          (subst Q c.if-not-enter.true c.enter.ensures) c.in_default-entry.not-Bit);
      ends = rw c.end.ensures.none c.end.ensures.ends;
      over = λ nothing. c.end.ensures.none;
    }

pub returns-clause-none : goal.returns-clause-none
returns-clause-none c =
    let P : Option Entry → Type 0 = λ o. IsTakenFrom c.loop-entry.self c.take.new.self o in
    rw c.end-2.ensures.none (λ before h.
    ends_over c.args.self.now c.loop-entry.self c.take.new.self before
    (goes_on _ _ before (c.loop-entry.invariant.0 before h)) (subst P c.in_default.is c.take.ensures))

pub loop-entry-preserved : goal.loop-entry-preserved
loop-entry-preserved c =
    let P : Option Entry → Type 0 = λ o. IsTakenFrom c.loop-entry.self c.take.new.self o in
    let Q : Bool → Type 0 = λ b. Enters c.take.new.self c.enter.new.self c.in-Some.entry b in (
      λ before h. past_more _ c.loop-entry.self c.take.new.self c.enter.new.self before c.in-Some.entry
          (c.loop-entry.invariant.0 before h) (subst P c.in-Some.is c.take.ensures)
          (subst Q c.if-not-enter.false c.enter.ensures),
      λ none. absurd (some_left c.loop-entry.self c.take.new.self c.in-Some.entry
          (subst P c.in-Some.is c.take.ensures) (c.loop-entry.invariant.1 none)),
    )
