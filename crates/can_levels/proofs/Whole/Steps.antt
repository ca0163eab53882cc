-- The stuffed part is taken apart one level after the other.
use Rattle.std.proofs.Common.{Bool, true, false, ◌*◌, ◌≡◌, ◌≢◌, ◌+◌, ◌<◌, ◌≤◌, ◌⊎◌, inl, inr, ℕ}
use Rattle.std.proofs.Common.{List, [], ◌∷◌, ◌++◌, length, reverse, refl, ap, sym, subst, ◌∙◌, arith}
use Rattle.std.proofs.lemmas.Bool.{cases_lt}
use Rattle.std.proofs.lemmas.List.{reverse-reverse}
use Rattle.can_frame.specs.Frame.{data_count}
use Rattle.can_levels.specs.declared.level.Level.{Level}
use Rattle.can_levels.specs.declared.level.Level.TheVariants.{Dominant}
use Rattle.can_levels.specs.Fields.{level_at, says_ext, says_rtr, says_dlc, dlc_place, says_count}
use Rattle.lemmas.proofs.Lists.{reverse-cons, cases_list}
use Rattle.can_levels.proofs.Runs.{run, IsShort}
use Rattle.can_levels.proofs.Stuffs.{unstuffed, unstuffed-kept, unstuffed-dropped}
use Rattle.can_levels.proofs.Stuffs.{Leads, run-leads, lead-same, lead-other}
use Rattle.can_levels.proofs.Parts.{plain}
use Rattle.can_levels.proofs.Going.{IsInside}
use Rattle.can_levels.proofs.Ending.{plain-first}
use Rattle.can_levels.proofs.SaidCounts.{says_count-next}

-- after some levels: their stuffed part so far without its stuff bits, and the last run counted
pub record Holds (past w : List Level) (last : Level) (n : ℕ) : Type 0 where
  pub short : IsShort past
  pub begins : level_at w 0 ≡ Dominant
  pub fits : length w ≤ says_count w
  pub plain_is : w ≡ plain past
  pub leads : Leads last n past
  pub most : n ≤ 5

-- the part isn't whole yet
pub record IsBefore (w : List Level) (n : ℕ) : Type 0 where
  pub goes_on : length w ≡ says_count w → 5 ≤ n

-- before the first level
pub Holds-nothing : (last : Level) → Holds [] [] last 0
Holds-nothing last =
    record { short = tt; begins = refl; fits = omega arith; plain_is = refl; leads = refl; most = omega arith }

pub IsBefore-nothing : IsBefore [] 0
IsBefore-nothing = record { goes_on = λ e. absurd (omega (arith, e)) }

pub inside_of : (past w : List Level) (last : Level) (n : ℕ) → Holds past w last n → IsBefore w n → IsInside past
inside_of past w last n h before =
    let P : List Level → Type 0 = λ l. level_at l 0 ≡ Dominant in
    let Q : List Level → Type 0 = λ l. length l ≤ says_count l in
    let count : ℕ → Type 0 = λ k. 5 ≤ k in
    record {
      short = h.short;
      begins = subst P h.plain_is h.begins;
      fits = subst Q h.plain_is h.fits;
      goes_on =
          λ e. subst count (sym (run-leads last n past h.leads))
          (before.goes_on (ap length h.plain_is ∙ e ∙ ap says_count (sym h.plain_is)));
    }

-- the run after a level like the last one, or another
pub run_same : (past w : List Level) (last : Level) (n : ℕ) → Holds past w last n → run (last ∷ past) ≡ n + 1
run_same past w last n h = lead-same last n past h.leads

-- where nothing is kept nothing has come
nothing_before : (past : List Level) → [] ≡ plain past → past ≡ []
nothing_before past e =
    elim (cases_list (reverse past)) [
      | inl none ↦ sym (reverse-reverse past) ∙ ap reverse none
      | inr some ↦
          let (later, first) = plain-first some.0 some.1 in
          let wrong : [] ≡ some.0 ∷ later = e ∙ ap plain (sym (reverse-reverse past) ∙ ap reverse some.2) ∙ first in
          absurd (omega (arith, ap length wrong))
    ]

-- the first level that is kept is SOF
first_level : (past w : List Level) (last x : Level) (n : ℕ) → Holds past w last n → (past ≡ [] → x ≡ Dominant) →
    level_at (w ++ x ∷ []) 0 ≡ Dominant
first_level past [] last x n h first = first (nothing_before past h.plain_is)
first_level past (y ∷ w) last x n h first = h.begins

-- fewer than five equal levels: the next one is kept
pub Holds-kept : (past w : List Level) (last x : Level) (n m : ℕ) → Holds past w last n → IsBefore w n → n < 5 →
    run (x ∷ past) ≡ m → m ≤ n + 1 →
    (past ≡ [] → x ≡ Dominant) → Holds (x ∷ past) (w ++ x ∷ []) x m
Holds-kept past w last x n m h before few counted most first =
    let open_run : run past < 5 = rw (run-leads last n past h.leads) few in
    let fits = h.fits in
    let room : length w < says_count w = elim (cases_lt (length w) (says_count w)) [
      | inl less ↦ less
      | inr all ↦ let five = before.goes_on (omega arith) in absurd (omega arith)
    ] in
    record {
      short = (omega arith, h.short);
      begins = first_level past w last x n h first;
      fits = says_count-next w x room;
      plain_is =
          ap (λ l. l ++ x ∷ []) h.plain_is ∙ sym (reverse-cons x (unstuffed past))
          ∙ ap reverse (sym (unstuffed-kept x past open_run));
      leads = (refl, sym counted);
      most = omega arith;
    }

-- five equal levels and another one: it is a stuff bit
pub Holds-dropped : (past w : List Level) (last x : Level) → Holds past w last 5 → x ≢ last → Holds (x ∷ past) w x 1
Holds-dropped past w last x h other =
    let one = lead-other last x 5 past h.leads other in
    let five : 5 ≤ run past = rw (run-leads last 5 past h.leads) (omega arith) in
    record {
      short = (omega arith, h.short);
      begins = h.begins;
      fits = h.fits;
      plain_is = h.plain_is ∙ ap reverse (sym (unstuffed-dropped x past five));
      leads = (refl, sym one);
      most = omega arith;
    }

-- the part goes on: a level more that isn't wrong
pub before_here : (w : List Level) (n : ℕ) → (n < 5 → length w ≡ says_count w → ⊥) → IsBefore w n
before_here w n h = record {
  goes_on = λ e. elim (cases_lt n 5) [ inl few ↦ absurd (h few e) | inr many ↦ many ];
}

-- a body and its CRC sequence have 118 levels at most
says_most : (ext rtr : Bool) (n : ℕ) → dlc_place ext + 19 + 8 * data_count rtr n ≤ 118
says_most false false n = omega arith
says_most false true n = omega arith
says_most true false n = omega arith
says_most true true n = omega arith

pub says_count-most : (w : List Level) → says_count w ≤ 118
says_count-most w = says_most (says_ext w) (says_rtr w) (says_dlc w)

-- while the part goes on there is room for its bits
pub room_left : (past w : List Level) (last : Level) (n : ℕ) → Holds past w last n → IsBefore w n → n < 5 →
    length w < 118
room_left past w last n h before few =
    let fits = h.fits in
    elim (cases_lt (length w) (says_count w)) [
      | inl less ↦ omega (arith, less, says_count-most w)
      | inr all ↦ let five = before.goes_on (omega arith) in absurd (omega arith)
    ]

-- another level begins a run
pub run_other : (past w : List Level) (last x : Level) (n : ℕ) → Holds past w last n → x ≢ last → run (x ∷ past) ≡ 1
run_other past w last x n h other = lead-other last x n past h.leads other

-- one level more, kept or left out, like the last one or another
pub Holds-next : (past w v : List Level) (last x : Level) (n m : ℕ) → Holds past w last n → IsBefore w n →
    (past ≡ [] → x ≡ Dominant) →
    ((n < 5) × (v ≡ w ++ x ∷ [])) ⊎ ((n ≡ 5) × (v ≡ w)) → ((x ≡ last) × (m ≡ n + 1)) ⊎ ((x ≢ last) × (m ≡ 1)) →
    (n ≡ 5 → x ≢ last) →
    Holds (x ∷ past) v x m
Holds-next past w v last x n m h before first (inl kept) (inl like) differs =
    let counted : run (x ∷ past) ≡ m = ap (λ y. run (y ∷ past)) like.0 ∙ run_same past w last n h ∙ sym like.1 in
    rw kept.1 (Holds-kept past w last x n m h before kept.0 counted (omega (arith, like.1)) first)
Holds-next past w v last x n m h before first (inl kept) (inr other) differs =
    let counted : run (x ∷ past) ≡ m = run_other past w last x n h other.0 ∙ sym other.1 in
    rw kept.1 (Holds-kept past w last x n m h before kept.0 counted (omega (arith, other.1)) first)
Holds-next past w v last x n m h before first (inr dropped) (inl like) differs = absurd (differs dropped.0 like.0)
Holds-next past w v last x n m h before first (inr dropped) (inr other) differs =
    let P : ℕ → Type 0 = λ k. Holds past w last k in
    rw (dropped.1, other.1) (Holds-dropped past w last x (subst P dropped.0 h) other.0)
