-- The place of the level that a reader of one level at a time waits for.
use Rattle.std.proofs.Common.{◌≡◌, ◌≢◌, ◌<◌, ℕ, Bool, true, false, Option, Some, None}
use Rattle.std.proofs.Common.{List, length, reverse, take, ap, sym, subst, ◌∙◌, arith}
use Rattle.std.proofs.lemmas.Bool.{le-leb, lt-leb}
use Rattle.std.proofs.lemmas.List.{length-reverse}
use Rattle.can_levels.specs.declared.level.Level.{Level}
use Rattle.can_bits.specs.declared.frame_part.FramePart.{FramePart}
use Rattle.can_bits.specs.declared.frame_part.FramePart.TheVariants.{Stuffed, FixedForm}
use Rattle.can_bits.specs.declared.body_word.BodyWord.{BodyWord}
use Rattle.can_bits.specs.declared.shift.Shift.{Shift}
use Rattle.can_levels.specs.declared.shift_fault.ShiftFault.{ShiftFault}
use Rattle.can_levels.specs.Fields.{rtr_place}
use Rattle.can_levels.specs.Line.{tail}
use Rattle.can_levels.specs.Places.{is_full, plain_count}
use Rattle.can_levels.specs.Streaming.{IsReadable}
use Rattle.can_levels.specs.PartSoFar.{BeginsPart}
use Rattle.can_bits.specs.Inside.FrameParts.{IsInside, IsPast, ReadsAt}
use Rattle.can_bits.specs.Shifts.{StandsBy, StandsFor}
use Rattle.can_levels.proofs.Runs.{run}
use Rattle.can_levels.proofs.Stuffs.{unstuffed_by, run-leads}
use Rattle.can_levels.proofs.Reader.Inside.{holds_by}
use Rattle.can_bits.proofs.DueLemmas.{broke_not_readable}
use Rattle.can_levels.proofs.PlaceLemmas.{five-is, plain_count-is, part_late}

-- a reader of levels that are right so far has no fault
reads_by : (s : Shift) (w : Option ShiftFault) (l : List Level) → StandsBy w s l → IsReadable l →
    ReadsAt s.frame_part s l
reads_by s None l h right = h
reads_by s (Some w) l h right = absurd (broke_not_readable s l w h right)

-- in the stuffed part
pub reads_inside : (s : Shift) (l : List Level) → s.frame_part ≡ Stuffed → StandsFor s l → IsReadable l →
    IsInside s.gathered s.count s.last s.run l
reads_inside s l at h right = subst (λ (e : FramePart). ReadsAt e s l) at (reads_by s s.wrong l h right)

-- past it
pub reads_past : (s : Shift) (l : List Level) (n : ℕ) → s.frame_part ≡ FixedForm n → StandsFor s l → IsReadable l →
    IsPast n s.gathered s.count l
reads_past s l n at h right = subst (λ (e : FramePart). ReadsAt e s l) at (reads_by s s.wrong l h right)

-- how many levels have come that are no stuff bits
pub inside_count : {l w : List Level} {last : Level} {n : ℕ} → BeginsPart l w last n → plain_count l ≡ length w
inside_count {l = l} {w = w} h = plain_count-is l ∙ ap length (unstuffed_by h.so_far.unstuffed) ∙ length-reverse w

-- how many equal levels end them
pub inside_run : {l w : List Level} {last : Level} {n : ℕ} → BeginsPart l w last n → run (reverse l) ≡ n
inside_run {l = l} {last = last} {n = n} h = let holds = holds_by h.so_far in run-leads last n (reverse l) holds.leads

-- after five equal ones the next level is a stuff bit, and else none
pub inside_full : {l w : List Level} {last : Level} {n : ℕ} → BeginsPart l w last n → n ≡ 5 → is_full l ≡ true
inside_full {l = l} h five = five-is (reverse l) ∙ le-leb 5 (run (reverse l)) (omega (arith, inside_run h, five))

pub inside_not_full : {l w : List Level} {last : Level} {n : ℕ} → BeginsPart l w last n → n ≢ 5 → is_full l ≡ false
inside_not_full {l = l} h less =
    let holds = holds_by h.so_far in
    let most = holds.most in
    five-is (reverse l) ∙ lt-leb 5 (run (reverse l)) (omega (arith, inside_run h, less, most))

-- past the stuffed part the next level is past RTR
pub past_late : {g : BodyWord} {came : ℕ} (ext : Bool) (n : ℕ) (l : List Level) → IsPast n g came l →
    rtr_place ext < plain_count l
past_late ext n l h =
    let P : List Level → Type 0 = λ m. rtr_place ext < plain_count m in
    subst P (sym h.whole) (part_late ext (take n (tail h.ack)) h.is_part)
