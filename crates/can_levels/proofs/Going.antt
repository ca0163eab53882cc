-- Whatever was right so far can go on to a line.
use Rattle.std.proofs.Common.{◌≡◌, ◌-◌, ◌<◌, ◌≤◌, inl, inr, List, [], ◌∷◌, ◌++◌, length}
use Rattle.std.proofs.Common.{reverse, replicate, refl, ap, sym, subst, ◌∙◌, arith, append_assoc}
use Rattle.std.proofs.lemmas.Bool.{cases_lt}
use Rattle.std.proofs.lemmas.List.{append-nil, reverse-append, reverse-reverse, length-append, length-replicate}
use Rattle.can_frame.specs.Frame.{FrameValue}
use Rattle.can_levels.specs.declared.level.Level.{Level}
use Rattle.can_levels.specs.declared.level.Level.TheVariants.{Dominant}
use Rattle.can_levels.specs.Digits.{opposite}
use Rattle.can_levels.specs.Fields.{level_at, says_count}
use Rattle.can_levels.specs.DataBits.{IsWhole}
use Rattle.can_levels.specs.Line.{StuffedPart, Line, tail}
use Rattle.can_levels.specs.Reading.{Begins, IsOpen}
use Rattle.can_levels.specs.Stuffing.{Stuffed}
use Rattle.lemmas.proofs.Lists.{reverse-cons}
use Rattle.can_levels.proofs.Runs.{run, run-other, run_one_more, IsShort}
use Rattle.can_levels.proofs.Stuffs.{unstuffed, unstuffed-kept, unstuffed-dropped}
use Rattle.can_levels.proofs.Stuffs.{opposite-other, IsStuffed, stuffed_from}
use Rattle.can_levels.proofs.Parts.{plain, part_of}
use Rattle.can_levels.proofs.SaidCounts.{says_count-padded, level_at-padded}
use Rattle.can_levels.proofs.Whole.Decoding.{decoded}

-- levels that may follow: without their stuff bits they are these
record Follows (more past : List Level) : Type 0 where
  pub later : List Level
  pub short : IsShort (later ++ past)
  pub closed : run (later ++ past) < 5
  pub adds : unstuffed (later ++ past) ≡ reverse more ++ unstuffed past

-- a stuff bit, where one is due
room : (past : List Level) → IsShort past → Follows [] past
room [] short = record { later = []; short = tt; closed = omega arith; adds = refl }
room (x ∷ past) short =
    elim (cases_lt (run (x ∷ past)) 5) [
      | inl few ↦ record { later = []; short = short; closed = few; adds = refl }
      | inr many ↦
          let one = run-other (opposite x) x past (opposite-other x) in
          record {
            later = opposite x ∷ [];
            short = (omega (arith, one), short);
            closed = omega (arith, one);
            adds = unstuffed-dropped (opposite x) (x ∷ past) many;
          }
    ]

-- any levels may follow, with stuff bits where they are due
extend : (more past : List Level) → IsShort past → run past < 5 → Follows more past
extend [] past short few = record { later = []; short = short; closed = few; adds = refl }
extend (x ∷ more) past short few =
    let next = room (x ∷ past) (omega (arith, run_one_more x past), short) in
    let all = extend more (next.later ++ x ∷ past) next.short next.closed in
    let P : List Level → Type 0 = λ p. IsShort p in
    let few_ : List Level → Type 0 = λ p. run p < 5 in
    let joined : all.later ++ (next.later ++ x ∷ past) ≡ (all.later ++ (next.later ++ x ∷ [])) ++ past =
    ap (λ l. all.later ++ l) (sym (append_assoc next.later (x ∷ []) past))
    ∙ sym (append_assoc all.later (next.later ++ x ∷ []) past) in
    record {
      later = all.later ++ (next.later ++ x ∷ []);
      short = subst P joined all.short;
      closed = subst few_ joined all.closed;
      adds = ap unstuffed (sym joined) ∙ all.adds ∙ ap (λ l. reverse more ++ l) (next.adds ∙ unstuffed-kept x past few)
          ∙ sym (append_assoc (reverse more) (x ∷ []) (unstuffed past))
          ∙ ap (λ l. l ++ unstuffed past) (sym (reverse-cons x more));
    }

-- the same, where a stuff bit may be due first
complete : (more past : List Level) → IsShort past → Follows more past
complete more past short =
    let next = room past short in
    let all = extend more (next.later ++ past) next.short next.closed in
    let P : List Level → Type 0 = λ p. IsShort p in
    let few_ : List Level → Type 0 = λ p. run p < 5 in
    let joined = sym (append_assoc all.later next.later past) in
    record {
      later = all.later ++ next.later;
      short = subst P joined all.short;
      closed = subst few_ joined all.closed;
      adds = ap unstuffed (sym joined) ∙ all.adds ∙ ap (λ l. reverse more ++ l) next.adds;
    }

-- every list has a stuffing
pub stuffing_of : (w : List Level) → (s : List Level) × Stuffed w s
stuffing_of w =
    let all = complete w [] tt in
    let s : List Level = reverse (all.later ++ []) in
    let turned : reverse s ≡ all.later ++ [] = reverse-reverse (all.later ++ []) in
    let P : List Level → Type 0 = λ p. IsShort p in
    let few : List Level → Type 0 = λ p. run p < 5 in
    let form : IsStuffed w (reverse s) = record {
      short = subst P (sym turned) all.short;
      closed = subst few (sym turned) all.closed;
      unstuffs = ap unstuffed turned ∙ all.adds ∙ append-nil (reverse w);
    } in
    (s, stuffed_from w s form)

-- a stuffed part that goes on, newest level first
pub record IsInside (past : List Level) : Type 0 where
  pub short : IsShort past
  pub begins : level_at (plain past) 0 ≡ Dominant
  pub fits : length (plain past) ≤ says_count (plain past)
  pub goes_on : length (plain past) ≡ says_count (plain past) → 5 ≤ run past

-- levels with a short run that begin dominant and aren't too many are a front of a stuffed part
pub part_begun : (past : List Level) → IsShort past → level_at (plain past) 0 ≡ Dominant →
    length (plain past) ≤ says_count (plain past) →
    (f : FrameValue) × (b : List Level) × (c : List Level) × (later : List Level)
    × StuffedPart f b c (reverse past ++ later)
part_begun past short begins fits =
    let w = plain past in
    let n = says_count w - length w in
    let all = complete (replicate n Dominant) past short in
    let added : plain (all.later ++ past) ≡ w ++ replicate n Dominant =
    ap reverse all.adds ∙ reverse-append (reverse (replicate n Dominant)) (unstuffed past)
    ∙ ap (λ l. w ++ l) (reverse-reverse (replicate n Dominant)) in
    let whole : IsWhole (w ++ replicate n Dominant) = record {
      begins = level_at-padded w n 0 ∙ begins;
      count = length-append w (replicate n Dominant)
          ∙ omega (arith, length-replicate n Dominant, says_count-padded w n);
    } in
    let P : List Level → Type 0 = λ l. IsWhole l in
    let (f, b, c, spells) = decoded (plain (all.later ++ past)) (subst P (sym added) whole) in
    let Q : List Level → Type 0 = λ l. StuffedPart f b c l in (
      f,
      b,
      c,
      reverse all.later,
      subst Q (reverse-append all.later past)
          (part_of (all.later ++ past) all.short all.closed spells),
    )

-- a line goes on from there, and its tail is still to come
pub inside_begun : (l : List Level) → IsInside (reverse l) → (h : Begins l) × (10 ≤ length h.rest) × (h.ack ≡ Dominant)
inside_begun l h =
    let (f, b, c, later, part) = part_begun (reverse l) h.short h.begins h.fits in
    let Q : List Level → Type 0 = λ p. StuffedPart f b c (p ++ later) in
    let line : Line f b c Dominant (l ++ (later ++ tail Dominant)) = record {
      part = l ++ later;
      is_part = subst Q (reverse-reverse l) part;
      whole = sym (append_assoc l later (tail Dominant));
    } in (
      record { frame = f; body = b; check = c; ack = Dominant; rest = later ++ tail Dominant; line = line },
      omega (arith, length-append later (tail Dominant)),
      refl,
    )

-- and nothing is wrong with it so far
pub inside_open : (l : List Level) → IsInside (reverse l) → IsOpen l
inside_open l h =
    let (begun, more, answered) = inside_begun l h in
    record {
      faultless = record { begun = begun; right = λ few. absurd (omega (arith, more, few)); acked = λ few. answered };
      more = omega (arith, more);
    }
