use Rattle.std.proofs.Common.{◌∙◌, ◌≤◌, ◌∷◌, ◌++◌, [], inl, inr, length, arith, subst, sym}
use Rattle.std.proofs.lemmas.Bool.{cases_lt}
use Rattle.can_bits.specs.declared.body_word.BodyWord.{BodyWord}
use Rattle.can_levels.specs.DataBits.{data_place}
use Rattle.can_bits.specs.Inside.Gathering.{Gathers}
use Rattle.can_bits.proofs.Packing.Marks.{mark_least, mark_past}
use Rattle.can_bits.proofs.Packing.Pushes.{grown, push_stays}
use Rattle.can_bits.proofs.body_word.BodyWord.push.Goals as goal

pub returns-then-self-clause-bit : goal.returns-then-self-clause-bit
returns-then-self-clause-bit c w g room =
    let x = c.args.level in
    let n = c.divide.new.self in
    let (packs, mark) =
    grown c.args.self.now n w x c.from.result g room (c.from.ensures ∙ c.digit.ensures.value) c.divide.ensures.kept in
    let here = c.if-self.true in
    let place = packs.place_is in
    let Q : BodyWord → Type 0 = λ h. Gathers h (w ++ x ∷ []) in
    let late : 19 ≤ length (w ++ x ∷ []) = omega (arith, here, place, mark, mark_least w) in
    subst Q (sym c.move_mark.ensures.kept) (record {
      packs = packs;
      mark = elim (cases_lt (data_place (w ++ x ∷ [])) (length (w ++ x ∷ []))) [
        | inl past ↦ c.move_mark.ensures.stays (w ++ x ∷ []) packs past ∙ mark ∙ sym (mark_past w x past)
        | inr within ↦ c.move_mark.ensures.moved (w ++ x ∷ []) packs late within
      ];
      fits = c.divide.ensures.fits;
      divides = c.divide.ensures.divides w g.fits g.divides;
    })

pub returns-else-self-clause-bit : goal.returns-else-self-clause-bit
returns-else-self-clause-bit c w g room =
    push_stays c.args.self.now c.divide.new.self w c.args.level c.from.result g room
    (c.from.ensures ∙ c.digit.ensures.value) c.divide.ensures.kept c.divide.ensures.fits
    (c.divide.ensures.divides w g.fits g.divides) c.if-self.false
