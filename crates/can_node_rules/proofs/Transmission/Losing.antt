-- Where a transmitter loses arbitration another node's frame may go on.
use Rattle.std.proofs.Common.{◌≡◌, ◌+◌, ◌<◌, ◌≤◌, inl, inr, ℕ, Bool, true, false, Some, List, [], ◌∷◌}
use Rattle.std.proofs.Common.{◌++◌, length, reverse, replicate, ap, sym, subst, ◌∙◌, arith, append_assoc}
use Rattle.std.proofs.lemmas.Bool.{cases_lt, le-leb}
use Rattle.std.proofs.lemmas.List.{length-append, length-reverse, reverse-append, reverse-reverse}
use Rattle.can_frame.specs.Frame.{FrameValue}
use Rattle.can_levels.specs.declared.level.Level.{Level}
use Rattle.can_levels.specs.declared.level.Level.TheVariants.{Dominant, Recessive}
use Rattle.can_levels.specs.Fields.{rtr_place}
use Rattle.can_levels.specs.Line.{StuffedPart, tail}
use Rattle.can_levels.specs.Places.{is_full, plain_count, place_code}
use Rattle.can_levels.specs.Reading.{IsPastPart, IsOpen, BeginsDominant}
use Rattle.can_levels.specs.Stuffing.{HasNoSixEqual}
use Rattle.can_levels.proofs.Ending.{part_begins}
use Rattle.can_levels.proofs.SaidCounts.{length_body, dlc_place-least}
use Rattle.can_levels.proofs.LineLaws.{can_go_on}
use Rattle.lemmas.proofs.Lists.{fronts, append-cancel, reverse-cons, reverse-push}
use Rattle.can_levels.proofs.Parts.{unstuffed-later}
use Rattle.can_levels.proofs.Runs.{run, run_one_more, IsShort, short_from, no_six_from}
use Rattle.can_levels.proofs.Stuffs.{unstuffed, unstuffed-kept, stuffed_to}
use Rattle.can_node_rules.specs.Bits.{Bit, seen_of}
use Rattle.can_node_rules.specs.Frames.{SentPart, GoesWell, IsWithin}
use Rattle.can_levels.proofs.PlaceLemmas.{five-is, plain_count-is, code_early}

-- a whole stuffed part has 34 levels at least that are no stuff bits
part_long : {f : FrameValue} {b c : List Level} (part rest : List Level) → StuffedPart f b c part →
    34 ≤ plain_count (part ++ rest)
part_long {f = f} {b = b} {c = c} part rest h =
    let (e, later) = unstuffed-later (reverse rest) (reverse part) in
    let form = stuffed_to (b ++ c) part h.stuffed in
    let all : unstuffed (reverse (part ++ rest)) ≡ e ++ reverse (b ++ c) =
    ap unstuffed (reverse-append part rest) ∙ later ∙ ap (λ l. e ++ l) form.unstuffs in
    let count = plain_count-is (part ++ rest) ∙ ap length all ∙ length-append e (reverse (b ++ c)) in
    let body = length_body f b h.frame h.body in
    let check = h.check in
    omega (arith, count, length-reverse (b ++ c), length-append b c, body, check, dlc_place-least f.ext)

-- RTR comes before the 34th
rtr_low : (ext : Bool) → rtr_place ext ≤ 32
rtr_low false = omega arith
rtr_low true = omega arith

-- so no stuffed part is whole there
few_not_past : (l : List Level) → plain_count l < 34 → IsPastPart l → ⊥
few_not_past l few p = omega (arith, few, part_long p.part p.rest p.is_part, ap plain_count p.whole)

-- what is no stuff bit counts
plain_count_push : (l : List Level) (x : Level) → run (reverse l) < 5 → plain_count (l ++ x ∷ []) ≡ plain_count l + 1
plain_count_push l x few =
    omega (
      arith,
      plain_count-is (l ++ x ∷ []),
      plain_count-is l,
      ap length (ap unstuffed (reverse-push l x) ∙ unstuffed-kept x (reverse l) few),
    )

-- where no stuff bit is due fewer than five equal levels came
not_full : (l : List Level) → is_full l ≡ false → run (reverse l) < 5
not_full l h =
    elim (cases_lt (run (reverse l)) 5) [
      | inl few ↦ few
      | inr many ↦ let wrong : true ≡ false = sym (five-is (reverse l) ∙ le-leb 5 (run (reverse l)) many) ∙ h in cc
    ]

-- a front of a list without six equal levels has none
no_six_front : (l more whole : List Level) → whole ≡ l ++ more → HasNoSixEqual whole → HasNoSixEqual l
no_six_front l more whole e h before after x d =
    h before (after ++ more) x
    (e ∙ ap (λ m. m ++ more) d ∙ append_assoc before (replicate 6 x ++ after) more
    ∙ ap (λ m. before ++ m) (append_assoc (replicate 6 x) after more))

-- nor has it with any level more where no stuff bit is due
no_six_push : (l : List Level) (x : Level) → HasNoSixEqual l → run (reverse l) < 5 → HasNoSixEqual (l ++ x ∷ [])
no_six_push l x h few =
    let P : List Level → Type 0 = λ m. HasNoSixEqual m in
    let short : IsShort (reverse l) = short_from (reverse l) (subst P (sym (reverse-reverse l)) h) in
    let more : IsShort (x ∷ reverse l) = (omega (arith, few, run_one_more x (reverse l)), short) in
    subst P (reverse-cons x (reverse l) ∙ ap (λ m. m ++ x ∷ []) (reverse-reverse l)) (no_six_from (x ∷ reverse l) more)

-- what a transmitter saw before RTR lies within its stuffed part
seen_in_part : (self_test : Bool) (f : FrameValue) (c part : List Level) (before : List Bit) → SentPart f c part →
    GoesWell self_test part before →
    plain_count (seen_of before) < 34 → (more : List Level) × (part ≡ seen_of before ++ more)
seen_in_part self_test f c part before h g few =
    elim (fronts (seen_of before) part g.others (tail g.ack) (sym g.seen)) [
      | inl longer ↦ longer
      | inr shorter ↦ absurd (omega (arith, few, part_long part shorter.0 h.is_part, ap plain_count shorter.1))
    ]

-- the front of what begins dominant does too, and so does a dominant level
begins_front : (l more rest : List Level) → Dominant ∷ rest ≡ l ++ more → BeginsDominant (l ++ Dominant ∷ [])
begins_front [] more rest e = tt
begins_front (Dominant ∷ l) more rest e = tt
begins_front (Recessive ∷ l) more rest e = let wrong : Dominant ≡ Recessive = cc in cc

-- where a transmitter may lose arbitration no stuffed part is whole with the level seen there
pub lost_inside : (ext : Bool) (l : List Level) (code : ℕ) → place_code ext l ≡ Some code →
    IsPastPart (l ++ Dominant ∷ []) → ⊥
lost_inside ext l code some =
    let early = code_early ext l code some in
    let most = early.1 in
    few_not_past (l ++ Dominant ∷ [])
    (omega (arith, plain_count_push l Dominant (not_full l early.0), most, rtr_low ext))

-- and a line may go on with it
pub lost_open : (self_test : Bool) (f : FrameValue) (c part : List Level) (before : List Bit) (code : ℕ) →
    SentPart f c part → GoesWell self_test part before →
    place_code f.ext (seen_of before) ≡ Some code → IsOpen (seen_of before ++ Dominant ∷ [])
lost_open self_test f c part before code h g some =
    let l : List Level = seen_of before in
    let early = code_early f.ext l code some in
    let most = early.1 in
    let (more, whole) = seen_in_part self_test f c part before h g (omega (arith, most, rtr_low f.ext)) in
    let (rest, begins) = part_begins part h.is_part in
    can_go_on (l ++ Dominant ∷ [])
    (begins_front l more rest (sym begins ∙ whole))
    (no_six_push l Dominant (no_six_front l more part whole h.is_part.stuffed.no_six) (not_full l early.0))
    (lost_inside f.ext l code some)

-- what is open and not past its stuffed part has the tail of its line before it
pub open_within : (l : List Level) → IsOpen l → (IsPastPart l → ⊥) → IsWithin l
open_within l h inside =
    let b = h.faultless.begun in
    let line = b.line in
    let count : 2 ≤ length b.rest = elim (fronts l line.part b.rest (tail b.ack) line.whole) [
      | inl longer ↦
          let left : b.rest ≡ longer.0 ++ tail b.ack =
          append-cancel l b.rest (longer.0 ++ tail b.ack)
          (line.whole ∙ ap (λ p. p ++ tail b.ack) longer.1 ∙ append_assoc l longer.0 (tail b.ack)) in
          omega (arith, ap length left, length-append longer.0 (tail b.ack))
      | inr shorter ↦ absurd (inside (record {
        frame = b.frame;
        body = b.body;
        check = b.check;
        part = line.part;
        rest = shorter.0;
        is_part = line.is_part;
        whole = shorter.1;
      }))
    ] in
    record {
      begun = b;
      long = count;
    }
