use Rattle.std.proofs.Common.{take, subst}
use Rattle.std.proofs.lemmas.List.{take_more, take_all}
use Rattle.can_levels.specs.declared.level.Level.TheVariants.{Dominant}
use Rattle.can_levels.proofs.Checks.{Divided, Crc_of, Crc-unique}
use Rattle.can_bits.proofs.crc.crc_of.Goals as goal

pub loop-level-preserved : goal.loop-level-preserved
loop-level-preserved c =
    let more = take_more c.args.levels.now c.loop-level.level-index Dominant c.loop-level-test.true in
    rw more (record {
      fits = c.crc_step-crc.ensures.fits;
      divides =
          c.crc_step-crc.ensures.divides (take c.loop-level.level-index c.args.levels.now)
          c.loop-level.invariant.divides;
    })

pub returns-clause-crc : goal.returns-clause-crc
returns-clause-crc c =
    let all = take_all c.loop-level.level-index c.args.levels.now c.loop-level-test.false in
    Crc_of c.args.levels.now c.loop-level.crc (subst (λ l. Divided l c.loop-level.crc) all c.loop-level.invariant)

pub returns-clause-only : goal.returns-clause-only
returns-clause-only c other h = Crc-unique c.args.levels.now other _ h (returns-clause-crc c)
