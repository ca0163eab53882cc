use Rattle.std.proofs.Common.{◌+◌, ◌%◌, ◌∙◌, ◌++◌, ◌∷◌, [], ℕ, sym, subst, ap}
use Rattle.can_levels.specs.declared.level.Level.{Level}
use Rattle.can_bits.specs.declared.frame_part.FramePart.{FramePart}
use Rattle.can_bits.specs.declared.shift.Shift.{Shift}
use Rattle.can_bits.specs.Inside.FrameParts.{ReadsAt}
use Rattle.can_bits.proofs.Reader.Take.{part_here}
use Rattle.can_bits.proofs.Reader.Taken.{taken_next}
use Rattle.can_bits.proofs.Reader.Told.{reads_moved}
use Rattle.can_bits.proofs.shift.Shift.take_right.Goals as goal

-- the reader with a level more, but for the part of the frame
abbrev with_level : Shift → Level → ℕ → Shift
with_level n x run =
    record {
      count = (n.count + 1) % 256;
      last = x;
      run = run;
      gathered = n.gathered;
      frame_part = n.frame_part;
      wrong = n.wrong;
    }

pub returns-then-is_whole-clause-stands : goal.returns-then-is_whole-clause-stands
returns-then-is_whole-clause-stands c l h start differs =
    let n = c.gather_unless_stuff.new.self in
    let (t, counted) = taken_next c.args.self.now n l c.args.level c.run_after-self.result h start differs
    c.gather_unless_stuff.ensures.kept c.gather_unless_stuff.ensures.bit c.gather_unless_stuff.ensures.stuff_bit
    c.run_after-self.ensures.same c.run_after-self.ensures.other in
    let e = c.end_part_unless_stuff in
    let whole = (c.is_whole.ensures t.plain t.gathers).0 c.if-is_whole.true in
    let reads = e.ensures.stands (l ++ c.args.level ∷ []) t.plain t.so_far t.gathers counted whole in
    let P : Shift → Type 0 = λ (s : Shift). ReadsAt e.new.self.frame_part s (l ++ c.args.level ∷ []) in
    let before = with_level n c.args.level c.run_after-self.result in
    subst P (sym e.ensures.kept) (reads_moved e.new.self.frame_part e.new.self.frame_part before
    (l ++ c.args.level ∷ []) reads)

pub returns-else-is_whole-clause-stands : goal.returns-else-is_whole-clause-stands
returns-else-is_whole-clause-stands c l h start differs =
    let n = c.gather_unless_stuff.new.self in
    let (t, counted) = taken_next c.args.self.now n l c.args.level c.run_after-self.result h start differs
    c.gather_unless_stuff.ensures.kept c.gather_unless_stuff.ensures.bit c.gather_unless_stuff.ensures.stuff_bit
    c.run_after-self.ensures.same c.run_after-self.ensures.other in
    let on = part_here t.so_far
    (λ closed full. (let yes = (c.is_whole.ensures t.plain t.gathers).1 full in let no = c.if-is_whole.false in cc))
    t.gathers counted in
    let P : FramePart → Type 0 =
    λ (e : FramePart). ReadsAt e (with_level n c.args.level c.run_after-self.result) (l ++ c.args.level ∷ []) in
    subst P (sym (ap (λ (s : Shift). s.frame_part) c.gather_unless_stuff.ensures.kept ∙ c.requires)) on
