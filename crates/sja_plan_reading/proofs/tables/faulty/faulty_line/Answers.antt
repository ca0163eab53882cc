use Rattle.std.proofs.Common.{rules, ◌≡◌, ◌==◌, false, sym, subst, length, arith}
use Rattle.std.proofs.lemmas.Grind.{common_steps}
use Rattle.toml_parser.specs.Lexical.{skip_blank}
use Rattle.sja_plan_reading.specs.FaultyLines.{IsBehindLines, IsFaultyFrom}
use Rattle.sja_plan_reading.proofs.tables.faulty.faulty_line.Goals as goal

pub lines-init : goal.lines-init
lines-init c = (
  search rules,
  c.new-room.ensures.sound,
  subst (IsBehindLines c.args.text.now) (sym c.skip_bom-rest.ensures.rest) IsBehindLines.none,
)

pub lines-preserved : goal.lines-preserved
lines-preserved c =
    let l = c.lines in
    let start_is = c.skip_blank-start.ensures.rest in
    let (e, read, took) = c.in-Ok.ensures.ok in (
      search rules,
      took.sound,
      IsBehindLines.more l.rest.now c.in-Ok.after.now e l.invariant.2 (rw start_is at read),
    )
