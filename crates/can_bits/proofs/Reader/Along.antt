-- Levels of the stuffed part past SOF, one after the other.
use Rattle.std.proofs.Common.{◌≡◌, ◌≢◌, ◌+◌, ◌-◌, ◌%◌, ◌<◌, ◌≤◌, suc, inl, ℕ, Option, None, List, [], ◌∷◌, ◌++◌}
use Rattle.std.proofs.Common.{length, take, drop, set, slice_range, refl, ap, sym, subst, ◌∙◌, arith}
use Rattle.std.proofs.lemmas.List.{length_push, length-drop, drop-set-add, take_more_set}
use Rattle.can_levels.specs.declared.level.Level.{Level}
use Rattle.can_bits.specs.declared.body_word.BodyWord.{BodyWord}
use Rattle.can_bits.specs.declared.frame_part.FramePart.{FramePart}
use Rattle.can_bits.specs.declared.frame_part.FramePart.TheVariants.{Stuffed}
use Rattle.can_levels.specs.declared.shift_fault.ShiftFault.{ShiftFault}
use Rattle.can_bits.specs.declared.sent_body.SentBody.{SentBody}
use Rattle.can_bits.specs.declared.shift.Shift.{Shift}
use Rattle.can_bits.specs.Inside.Gathering.{Gathers}
use Rattle.can_levels.specs.PartSoFar.{EndsInRun}
use Rattle.can_levels.specs.PartSoFar.EndsInRun.{nothing as no_run, longer, other}
use Rattle.can_bits.specs.Sending.{TakesInside, SendsAlong, next_level}
use Rattle.can_bits.specs.Sending.SendsAlong.{nothing, one_more}
use Rattle.can_bits.specs.Shifts.{StandsFor}
use Rattle.can_bits.proofs.Packing.Marks.{mark_whole}
use Rattle.can_bits.proofs.Reader.Quick.{right_by, early_tells}
use Rattle.can_bits.proofs.Reader.Take.{part_here}
use Rattle.can_bits.proofs.Reader.Taken.{taken_next}
use Rattle.can_bits.proofs.Reader.Told.{reads_readable}

-- a reader in the stuffed part, without a fault
abbrev pub inside : BodyWord → ℕ → Level → ℕ → Shift
inside g came last run =
    record { count = came; last = last; run = run; gathered = g; frame_part = Stuffed; wrong = None }

-- where a run ends the levels, some have come
some_came : {x : Level} {n : ℕ} {l : List Level} → EndsInRun x n l → 1 ≤ n → length l ≢ 0
some_came (no_run x) h = absurd (omega (arith, h))
some_came (longer {x = x} {l = l} h e) k = omega (arith, ap length e, length_push l x)
some_came (other {l = l} y h differs e) k = omega (arith, ap length e, length_push l y)

-- it takes a right level with which the part isn't whole
inside_next : (g n : BodyWord) (came run more : ℕ) (last x : Level) (l : List Level) → 1 ≤ run →
    (run ≡ 5 → x ≢ last) →
    ((w : List Level) → Gathers g w → length w < 118 → run ≢ 5 → Gathers n (w ++ x ∷ [])) → (run ≡ 5 → n ≡ g) →
    (x ≡ last → run < 5 → more ≡ run + 1) → (x ≢ last → more ≡ 1) → n.place ≢ n.mark →
    StandsFor (inside g came last run) l → StandsFor (inside n ((came + 1) % 256) x more) (l ++ x ∷ [])
inside_next g n came run more last x l begun differs bit stuff_bit same fresh goes_on h =
    let count = h.count in
    let some = some_came h.part.so_far.ends begun in
    let (t, counted) = taken_next (inside g came last run) (inside n came last run) l x more h
    (λ zero. absurd (some (omega (arith, count, zero)))) differs refl bit stuff_bit same fresh in
    let gathers = t.gathers in
    let place = gathers.packs.place_is in
    let mark = gathers.mark in
    part_here t.so_far
    (λ less full. goes_on (let whole = (mark_whole t.plain).1 full in omega (arith, place, mark, whole))) gathers
    counted

-- then it has taken it
pub takes_one : (g n : BodyWord) (came run more : ℕ) (last x : Level) → 1 ≤ run → (run ≡ 5 → x ≢ last) →
    ((w : List Level) → Gathers g w → length w < 118 → run ≢ 5 → Gathers n (w ++ x ∷ [])) → (run ≡ 5 → n ≡ g) →
    (x ≡ last → run < 5 → more ≡ run + 1) → (x ≢ last → more ≡ 1) → n.place ≢ n.mark → n.place ≤ suc g.place →
    TakesInside (inside g came last run) x (inside n ((came + 1) % 256) x more)
takes_one g n came run more last x begun differs bit stuff_bit same fresh goes_on near =
    let old = inside g came last run in
    let new = inside n ((came + 1) % 256) x more in
    let stands : (l : List Level) → StandsFor old l → StandsFor new (l ++ x ∷ []) =
    λ l h. inside_next g n came run more last x l begun differs bit stuff_bit same fresh goes_on h in
    record {
      right = λ l h. let count = h.count in
          let some = some_came h.part.so_far.ends begun in
          right_by old l x refl refl (λ zero. some (omega (arith, count, zero))) h
          (reads_readable Stuffed new (l ++ x ∷ []) (stands l h));
      stands = stands;
      inside = λ l h. early_tells Stuffed new (l ++ x ∷ []) (inl refl) (stands l h);
      near = near;
    }

-- the next level of the transmitter, taken
pub one_level : (body : SentBody) (old mid new : Shift) (xs : List Level) (x : Level) → x ≡ next_level mid body →
    SendsAlong body old xs mid → TakesInside mid x new →
    SendsAlong body old (xs ++ x ∷ []) new
one_level body old mid new xs x next sends takes =
    let P : Level → Type 0 = λ y. SendsAlong body old (xs ++ y ∷ []) new in
    let Q : Level → Type 0 = λ y. TakesInside mid y new in
    subst P (sym next) (one_more mid new xs sends (subst Q next takes))

-- a level more is written
pub range_more : (l : List Level) (a b : ℕ) (x : Level) → a ≤ b → b < length l →
    slice_range (set l b x) a (b + 1) ≡ slice_range l a b ++ x ∷ []
range_more l a b x order within =
    let j = b - a in
    let more : b + 1 - a ≡ j + 1 = omega (arith, order) in
    let place : b ≡ a + j = omega (arith, order) in
    ap (λ n. take n (drop a (set l b x))) more ∙ ap (λ n. take (j + 1) (drop a (set l n x))) place
    ∙ ap (λ m. take (j + 1) m) (drop-set-add a l j x)
    ∙ take_more_set (drop a l) j x (omega (arith, within, order, length-drop a l))

-- nothing is sent at first
pub sends_none : (body : SentBody) (s : Shift) (l : List Level) (a : ℕ) → SendsAlong body s (slice_range l a a) s
sends_none body s l a =
    let none : a - a ≡ 0 = omega arith in
    let P : ℕ → Type 0 = λ n. SendsAlong body s (take n (drop a l)) s in
    subst P (sym none) nothing

-- a reader in the stuffed part is what its fields are
pub inside_is : (s : Shift) (came : ℕ) → s.wrong ≡ None → s.frame_part ≡ Stuffed → came ≡ s.count →
    s ≡ inside s.gathered came s.last s.run
inside_is s came right at count =
    let R : ℕ → FramePart → Option ShiftFault → Shift = λ n e w.
    record { count = n; last = s.last; run = s.run; gathered = s.gathered; frame_part = e; wrong = w } in
    ap (λ (w : Option ShiftFault). R s.count s.frame_part w) right ∙ ap (λ (e : FramePart). R s.count e None) at
    ∙ ap (λ n. R n Stuffed None) (sym count)
