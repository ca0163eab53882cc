-- What a reader of one level at a time stands for.
use Rattle.std.proofs.Common.{◌≡◌, ◌⊎◌, inl, inr, ◌↔◌, IsTrue, ℕ, Bool, true, false, Option, Some, None}
use Rattle.std.proofs.Common.{List, [], ◌∷◌, ◌++◌, take, refl, ap, sym, subst, ◌∙◌, arith, append_assoc}
use Rattle.std.proofs.lemmas.List.{append-nil}
use Rattle.can_levels.specs.declared.level.Level.{Level}
use Rattle.can_bits.specs.declared.frame_part.FramePart.{FramePart}
use Rattle.can_bits.specs.declared.frame_part.FramePart.TheVariants.{Stuffed, FixedForm}
use Rattle.can_bits.specs.declared.body_word.BodyWord.{BodyWord}
use Rattle.can_bits.specs.declared.shift.Shift.{Shift}
use Rattle.can_levels.specs.declared.shift_event.ShiftEvent.{ShiftEvent}
use Rattle.can_levels.specs.declared.shift_fault.ShiftFault.{ShiftFault}
use Rattle.can_levels.specs.Check.{Crc}
use Rattle.can_levels.specs.Line.{StuffedPart, tail}
use Rattle.can_levels.specs.Reading.{IsPastPart}
use Rattle.can_bits.specs.Inside.Gathering.{SaysWhetherRight}
use Rattle.can_levels.specs.Segments.{IsNext}
use Rattle.can_levels.specs.Streaming.{IsReadable, BreaksWith, ShowsFrame, IsEventOf, Tells, TellsCheck}
use Rattle.can_bits.specs.Inside.FrameParts.{IsInside, IsPast, ReadsAt}
use Rattle.can_bits.specs.Shifts.{Broke, StandsBy}
use Rattle.can_levels.specs.Judgements.{JudgesAt, fault_event}
use Rattle.lemmas.proofs.Lists.{fronts, append-cancel, cases_list}
use Rattle.can_levels.proofs.Ending.{same_part, same_spelling}
use Rattle.can_levels.proofs.Readables.{readable_front, part_readable, breaks_not_readable, wrong_shows_none}
use Rattle.can_levels.proofs.Readables.{first_once}
use Rattle.can_bits.proofs.Reader.Past.{past_readable, past_hides, past_with}
use Rattle.can_levels.proofs.Reader.Inside.{not_past}
use Rattle.can_bits.proofs.Reader.Take.{inside_readable, inside_hides}

-- what a reader without a fault stands for is right so far
pub reads_readable : (frame_part : FramePart) (s : Shift) (l : List Level) → ReadsAt frame_part s l → IsReadable l
reads_readable Stuffed s l h = inside_readable l h
reads_readable (FixedForm n) s l h = past_readable n l h

-- whatever its own field says of the frame_part
pub reads_moved : (frame_part other : FramePart) (s : Shift) (l : List Level) → ReadsAt frame_part s l →
    ReadsAt frame_part (record s { frame_part = other }) l
reads_moved Stuffed other s l h = h
reads_moved (FixedForm n) other s l h = h

-- up to the end of the stuffed part no frame comes
pub hides_early : (frame_part : FramePart) (s : Shift) (l : List Level) →
    (frame_part ≡ Stuffed) ⊎ (frame_part ≡ FixedForm 0) → ReadsAt frame_part s l → ShowsFrame l None
hides_early frame_part s l (inl part) h = inside_hides l (subst (λ (e : FramePart). ReadsAt e s l) part h)
hides_early frame_part s l (inr after) h =
    past_hides 0 l (subst (λ (e : FramePart). ReadsAt e s l) after h) (λ nine. omega (arith, nine))

-- the event of a wrong level
pub wrong_event : (l : List Level) (x : Level) (w : ShiftFault) → IsNext l w.segment w.stuff → BreaksWith l x w.fault →
    IsEventOf l x (fault_event w)
wrong_event l x w place broke = record {
  place = place;
  frame = wrong_shows_none (l ++ x ∷ []) (breaks_not_readable l x w.fault broke);
  fault = broke;
}

-- a reader that breaks
pub broke_here : (s : Shift) (l : List Level) (x : Level) (w : ShiftFault) → ReadsAt s.frame_part s l →
    IsEventOf l x (fault_event w) → Broke w s (l ++ x ∷ [])
broke_here s l x w reads event = record { front = l; wrong = x; later = []; whole = refl; reads = reads; event = event }

-- the event of a level after right ones
pub tells_right : (l : List Level) (x : Level) (event : ShiftEvent) → IsReadable l → IsEventOf l x event →
    Tells l x event
tells_right l x event right h = record {
  right_so_far = λ _. h;
  wrong_before = λ front later y good wrong whole.
      let P : List Level → Type 0 = λ m. IsReadable m in
      absurd (wrong (readable_front (front ++ y ∷ []) later
      (subst P (whole ∙ sym (append_assoc front (y ∷ []) later)) right)));
}

-- the wrong level of a reader that broke
pub broke_wrong : (s : Shift) (l : List Level) (w : ShiftFault) (h : Broke w s l) →
    ¬ IsReadable (h.front ++ h.wrong ∷ [])
broke_wrong s l w h = breaks_not_readable h.front h.wrong w.fault h.event.fault

-- the same event again
pub tells_again : (s : Shift) (l : List Level) (x : Level) (w : ShiftFault) → Broke w s l → Tells l x (fault_event w)
tells_again s l x w h =
    let good : IsReadable h.front = reads_readable s.frame_part s h.front h.reads in
    let bad = broke_wrong s l w h in
    record {
      right_so_far = λ right.
          let P : List Level → Type 0 = λ m. IsReadable m in
          absurd (bad (readable_front (h.front ++ h.wrong ∷ []) h.later
          (subst P (h.whole ∙ sym (append_assoc h.front (h.wrong ∷ []) h.later)) right)));
      wrong_before = λ front later y right wrong whole.
          let same = first_once l h.front front h.later later h.wrong y good bad h.whole right wrong whole in
          let P : Level → Type 0 = λ z. IsEventOf h.front z (fault_event w) in
          let Q : List Level → Type 0 = λ m. IsEventOf m y (fault_event w) in
          subst Q same.0 (subst P same.1 h.event);
    }

-- and so the same fault
pub judged_again : (s : Shift) (l front later : List Level) (y : Level) (w : ShiftFault) → Broke w s l →
    IsReadable front → ¬ IsReadable (front ++ y ∷ []) →
    l ≡ front ++ y ∷ later → JudgesAt front y (Some w)
judged_again s l front later y w h right wrong whole =
    let event = (tells_again s l y w h).wrong_before front later y right wrong whole in
    (event.place, event.fault)

-- what a reader without a fault stands for has no wrong level
pub never_broke : (s : Shift) (l front later : List Level) (y : Level) → ReadsAt s.frame_part s l →
    ¬ IsReadable (front ++ y ∷ []) → l ≡ front ++ y ∷ later → ⊥
never_broke s l front later y h wrong whole =
    let P : List Level → Type 0 = λ m. IsReadable m in
    wrong (readable_front (front ++ y ∷ []) later
    (subst P (whole ∙ sym (append_assoc front (y ∷ []) later)) (reads_readable s.frame_part s l h)))

-- no stuffed part ends after a fault in it
none_after : {g : BodyWord} {came : ℕ} {last : Level} {n : ℕ} (front later : List Level) (y : Level) →
    IsInside g came last n front → ¬ IsReadable (front ++ y ∷ []) →
    ¬ IsPastPart (front ++ y ∷ later)
none_after front later y h wrong = λ p.
    elim (fronts front p.part (y ∷ later) p.rest p.whole) [
      | inl longer ↦ elim (cases_list longer.0) [
        | inl none ↦
            let P : List Level → Type 0 = λ s. StuffedPart p.frame p.body p.check s in
            not_past h.part (record {
              frame = p.frame;
              body = p.body;
              check = p.check;
              part = p.part;
              rest = [];
              is_part = p.is_part;
              whole = sym (append-nil front) ∙ ap (λ m. front ++ m) (sym none) ∙ sym longer.1 ∙ sym (append-nil p.part);
            })
        | inr some ↦
            let split : p.part ≡ front ++ some.0 ∷ some.1 = longer.1 ∙ ap (λ m. front ++ m) some.2 in
            let left : y ∷ later ≡ (some.0 ∷ some.1) ++ p.rest =
            append-cancel front (y ∷ later) ((some.0 ∷ some.1) ++ p.rest)
            (p.whole ∙ ap (λ m. m ++ p.rest) split ∙ append_assoc front (some.0 ∷ some.1) p.rest) in
            let same : y ≡ some.0 = cc in
            let P : List Level → Type 0 = λ s. StuffedPart p.frame p.body p.check s in
            let on = part_readable (front ++ some.0 ∷ []) some.1
            (subst P (split ∙ sym (append_assoc front (some.0 ∷ []) some.1)) p.is_part) in
            wrong (subst (λ (z : Level). IsReadable (front ++ z ∷ [])) (sym same) on)
      ]
      | inr shorter ↦
          not_past h.part (record {
            frame = p.frame;
            body = p.body;
            check = p.check;
            part = p.part;
            rest = shorter.0;
            is_part = p.is_part;
            whole = shorter.1;
          })
    ]

-- within a stuffed part nothing is told of the CRC sequence
tells_none : (l : List Level) → ¬ IsPastPart l → TellsCheck l None
tells_none l inside = record {
  some = tt;
  known = λ f b c part after h whole. absurd
      (inside (record { frame = f; body = b; check = c; part = part; rest = after; is_part = h; whole = whole }));
}

-- a bool that says whether the CRC sequence is right
pub says_so : (r : Bool) (b c : List Level) → SaysWhetherRight r b c → IsTrue r ↔ Crc b c
says_so true b c h = (λ _. h, λ _. refl)
says_so false b c h = (λ t. cc, λ right. absurd (h right))

-- past it it is told
tells_some : {g : BodyWord} {came : ℕ} (r : Bool) (n : ℕ) (front later : List Level) (h : IsPast n g came front) →
    SaysWhetherRight r h.body h.check → TellsCheck (front ++ later) (Some r)
tells_some r n front later h says = record {
  some = past_with n front later h;
  known = λ f b c part after k whole.
      let both : h.part ++ (take n (tail h.ack) ++ later) ≡ part ++ after =
      sym (append_assoc h.part (take n (tail h.ack)) later) ∙ ap (λ m. m ++ later) (sym h.whole) ∙ whole in
      let same = same_part (take n (tail h.ack) ++ later) after h.is_part k both in
      let P : List Level → Type 0 = λ s. StuffedPart h.frame h.body h.check s in
      let spells = same_spelling (subst P same h.is_part) k in
      let S : SaysWhetherRight r b c =
      subst (λ (d : List Level). SaysWhetherRight r d c) spells.1
      (subst (λ (d : List Level). SaysWhetherRight r h.body d) spells.2 says) in
      (r, refl, says_so r b c S);
}

-- a reader in the stuffed part
pub check_inside : (s : Shift) (w : Option ShiftFault) (l : List Level) → s.frame_part ≡ Stuffed → StandsBy w s l →
    TellsCheck l None
check_inside s None l at h =
    let inside : ReadsAt Stuffed s l = subst (λ (e : FramePart). ReadsAt e s l) at h in
    tells_none l (not_past inside.part)
check_inside s (Some w) l at h =
    let inside : ReadsAt Stuffed s h.front = subst (λ (e : FramePart). ReadsAt e s h.front) at h.reads in
    let P : List Level → Type 0 = λ m. TellsCheck m None in
    subst P (sym h.whole) (tells_none (h.front ++ h.wrong ∷ h.later)
    (none_after h.front h.later h.wrong inside (broke_wrong s l w h)))

-- a reader past it
pub check_past : (s : Shift) (w : Option ShiftFault) (l : List Level) (n : ℕ) (r : Bool) → s.frame_part ≡ FixedForm n →
    StandsBy w s l →
    ((front : List Level) (h : IsPast n s.gathered s.count front) → SaysWhetherRight r h.body h.check) →
    TellsCheck l (Some r)
check_past s None l n r at h says =
    let past : IsPast n s.gathered s.count l = subst (λ (e : FramePart). ReadsAt e s l) at h in
    let P : List Level → Type 0 = λ m. TellsCheck m (Some r) in
    subst P (append-nil l) (tells_some r n l [] past (says l past))
check_past s (Some w) l n r at h says =
    let past : IsPast n s.gathered s.count h.front = subst (λ (e : FramePart). ReadsAt e s h.front) at h.reads in
    let P : List Level → Type 0 = λ m. TellsCheck m (Some r) in
    subst P (sym h.whole) (tells_some r n h.front (h.wrong ∷ h.later) past (says h.front past))
