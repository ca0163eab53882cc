use Rattle.std.proofs.Common.{[], refl}
use Rattle.can_levels.specs.declared.level.Level.TheVariants.{Recessive}
use Rattle.can_levels.specs.PartSoFar.EndsInRun.{nothing}
use Rattle.can_levels.proofs.Whole.Steps.{Holds-nothing, IsBefore-nothing}
use Rattle.can_levels.proofs.Reader.Inside.{so_far_by}
use Rattle.can_bits.proofs.shift.Shift.new.Goals as goal

pub returns : goal.returns
returns c = record {
  bits = [];
  part = record {
    so_far = so_far_by {l = []} (Holds-nothing Recessive) (nothing Recessive);
    goes_on = IsBefore-nothing.goes_on;
  };
  gathers = c.new.ensures;
  count = refl;
}
