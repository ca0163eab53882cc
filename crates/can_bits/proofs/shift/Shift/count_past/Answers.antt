use Rattle.std.proofs.Common.{◌≡◌, ◌+◌, ◌%◌, ℕ, Option, sym, subst, arith}
use Rattle.can_bits.specs.declared.frame_part.FramePart.TheVariants.{FixedForm}
use Rattle.can_bits.specs.declared.shift.Shift.{Shift}
use Rattle.can_levels.specs.declared.shift_fault.ShiftFault.{ShiftFault}
use Rattle.can_bits.specs.Inside.FrameParts.{IsPast}
use Rattle.can_bits.specs.Shifts.{StandsBy}
use Rattle.can_bits.proofs.Reader.Take.{past_small}
use Rattle.can_bits.proofs.shift.Shift.count_past.Goals as goal

pub returns : goal.returns
returns c l next =
    let old = c.args.self.now in
    let within = next.within in
    let small = past_small (c.args.n + 1) l next in
    let place_ : (c.args.n + 1) % 256 ≡ c.args.n + 1 = omega (arith, within) in
    let count : (old.count + 1) % 256 ≡ old.count + 1 = omega (arith, small) in
    let s : Shift = record {
      count = (old.count + 1) % 256;
      last = old.last;
      run = old.run;
      gathered = old.gathered;
      frame_part = FixedForm ((c.args.n + 1) % 256);
      wrong = old.wrong;
    } in
    let P : ℕ → Type 0 = λ k. IsPast k old.gathered ((old.count + 1) % 256) l in
    let Q : ℕ → Type 0 = λ k. IsPast (c.args.n + 1) old.gathered k l in
    let R : Option ShiftFault → Type 0 = λ o. StandsBy o s l in
    subst R (sym c.requires) (subst P (sym place_) (subst Q (sym count) next))
