-- A level more is gathered.
use Rattle.std.proofs.Common.{◌≡◌, ◌≢◌, ◌+◌, ◌*◌, ◌%◌, ◌^◌, ◌<◌, ◌∙◌, ◌∷◌, ◌++◌, [], ℕ, List}
use Rattle.std.proofs.Common.{ap, sym, subst, arith, length}
use Rattle.std.proofs.lemmas.List.{length_push}
use Rattle.can_levels.specs.declared.level.Level.{Level}
use Rattle.can_bits.specs.declared.body_word.BodyWord.{BodyWord}
use Rattle.can_levels.specs.Check.{IsMultiple}
use Rattle.can_levels.specs.Digits.{digit, value}
use Rattle.can_bits.specs.Packing.{Packs}
use Rattle.can_bits.specs.Inside.Gathering.{Gathers, mark_of}
use Rattle.can_bits.proofs.Packing.Numbers.{packs_push, packs_small}
use Rattle.can_bits.proofs.Packing.Marks.{mark_stays}

-- the word, the count and the mark with a level more, whatever the register is
pub grown : (old n : BodyWord) (w : List Level) (x : Level) (d : ℕ) → Gathers old w → length w < 118 → d ≡ digit x →
    n ≡ record old { word = 2 * (old.word % 2 ^ 127) + d; place = (old.place + 1) % 256; register = n.register } →
    Packs n.word n.place (w ++ x ∷ []) × (n.mark ≡ mark_of w)
grown old n w x d g room digit_is kept =
    let h = g.packs in
    let count = h.place_is in
    let P : BodyWord → Type 0 = λ (m : BodyWord). Packs m.word m.place (w ++ x ∷ []) in
    let packs = packs_push old.word old.place (2 * (old.word % 2 ^ 127) + d) ((old.place + 1) % 256) w x h room
    (omega (arith, digit_is, packs_small old.word old.place w h)) (omega (arith, count, room)) in
    (subst P (sym kept) packs, ap (λ (m : BodyWord). m.mark) kept ∙ g.mark)

-- where no mark is reached with it, that is all
pub push_stays : (old n : BodyWord) (w : List Level) (x : Level) (d : ℕ) → Gathers old w → length w < 118 →
    d ≡ digit x →
    n ≡ record old { word = 2 * (old.word % 2 ^ 127) + d; place = (old.place + 1) % 256; register = n.register } →
    n.register < 2 ^ 15 → IsMultiple (value (w ++ x ∷ []) * 2 ^ 15 + n.register) → n.place ≢ n.mark →
    Gathers n (w ++ x ∷ [])
push_stays old n w x d g room digit_is kept fits divides other =
    let (packs, mark) = grown old n w x d g room digit_is kept in
    let place = packs.place_is in
    record {
      packs = packs;
      mark = mark ∙ sym (mark_stays w x (omega (arith, other, place, mark, length_push w x)));
      fits = fits;
      divides = divides;
    }
