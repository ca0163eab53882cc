use Rattle.std.proofs.Common.{◌≡◌, arith, rules}
use Rattle.std.specs.Prelude.{Err}
use Rattle.lemmas.proofs.Results.{err_is}
use Rattle.sja_live.proofs.Talks.BreakingOff.{line_begun, line_stopped}
use Rattle.sja_live.proofs.Lines.LineBytes.{readable_line, takes_end, takes_line, within_more}
use Rattle.sja_live.proofs.next_line.next_line.Goals as goal

-- the text is over
pub returns-in_default-clause-line : goal.returns-in_default-clause-line
returns-in_default-clause-line g c =
    let w = c.loop.invariant.within in
    takes_end _ _ _ _ _ c.last_line.result w (rw c.in_default.is at c.in_ok-byte.ensures.byte) c.last_line.ensures.none
    (λ some. c.last_line.ensures.some some w.front w.is w.many)

-- a line feed was read
pub returns-then-byte-eq-LINE_FEED-clause-line : goal.returns-then-byte-eq-LINE_FEED-clause-line
returns-then-byte-eq-LINE_FEED-clause-line g c =
    let w = c.loop.invariant.within in
    takes_line _ _ _ _ _ _ c.line_of.result w (rw c.in-Some.is at c.in_ok-byte.ensures.byte) c.if-byte-eq-LINE_FEED.true
    (c.line_of.ensures w.front w.is w.many)

pub returns-then-byte-eq-LINE_FEED-clause-readable : goal.returns-then-byte-eq-LINE_FEED-clause-readable
returns-then-byte-eq-LINE_FEED-clause-readable g c =
    let w = c.loop.invariant.within in
    readable_line w.front c.line_of.result (c.line_of.ensures w.front w.is w.many)

-- one byte more
pub loop-preserved : goal.loop-preserved
loop-preserved g c =
    let w = c.loop.invariant.within in let takes = rw c.in-Some.is at c.in_ok-byte.ensures.byte in
    record {
      within = within_more _ _ _ _ _ _ _ w takes c.if-byte-eq-LINE_FEED.false (c.keep.ensures.front w.front w.is);
      room = omega arith;
      count = omega arith;
    }

-- a read failed behind some bytes
pub returns-in_err-byte-clause-broken : goal.returns-in_err-byte-clause-broken
returns-in_err-byte-clause-broken g c =
    let f = c.in_err-byte.field-0.0 in
    let is : c.from_residual-in_err-byte.result ≡ Err f = search rules in
    err_is _ c.from_residual-in_err-byte.result f is (line_begun _ _ _ _ _ f c.loop.invariant.within
    c.in_err-byte.ensures.err c.in_err-byte.ensures.kept)

-- no more is read
pub returns-clause-broken : goal.returns-clause-broken
returns-clause-broken g c = line_stopped _ _ _ _ c.loop.invariant.within
