-- Nodes that stay at rest and aren't bus-off.
use Rattle.std.proofs.Common.{◌≡◌, ◌&&◌, not, ℕ, ◌+◌, ◌-◌, ◌<◌, ◌≤◌, suc, Bool, true, false, Option, List, [], ◌∷◌}
use Rattle.std.proofs.Common.{length, get_or, refl, sym, ap, ◌∙◌, subst, arith, inl, inr}
use Rattle.std.specs.Prelude.{slice_get, slice_index_or}
use Rattle.std.proofs.lemmas.Bool.{cases_lt}
use Rattle.std.proofs.lemmas.List.{get_or_default as or_same}
use Rattle.can_node_rules.specs.declared.counters.Counters.{Counters}
use Rattle.lemmas.specs.Related.{EachRelated}
use Rattle.sja_journal.specs.declared.entry.Entry.{Entry}
use Rattle.sja_replay.specs.declared.bit_event.BitEvent.{BitEvent}
use Rattle.text_trace.proofs.Stories.Rested.{rests_fewer}
use Rattle.text_trace.proofs.Stories.Telling.{before_same}
use Rattle.text_trace.specs.BitEvents.{counters_after}
use Rattle.text_trace.specs.Telling.{HaveSame, at_hand}
use Rattle.text_trace.specs.TraceText.{counters_left}
use Rattle.text_trace.specs.Hands.{RestedMore}
use Rattle.text_candump.proofs.SoFar.Silent.{silent_lines}
use Rattle.text_candump.specs.BitErrors.{is_restart}
use Rattle.text_candump.specs.CandumpText.{story_lines}
use Rattle.text_candump.specs.declared.driver_bits.DriverBits.{DriverBits}
use Rattle.text_candump.specs.Inside.CandumpProgress.{HasGone, MayStay, Stays, RestsBy, left_by, now_left}

-- for fewer bits too
stay_fewer : (n m : ℕ) (b : DriverBits) → MayStay n b → 1 ≤ m → m ≤ n → MayStay m b
stay_fewer n m b w some few = record {
  some = some;
  on = w.on;
  rests = record { under = w.rests.under; rests = rests_fewer b.bits.replay n m w.rests.rests few };
}

-- each of several up to one of them
pub stay_at : (n m : ℕ) (all : List DriverBits) (i : ℕ) (one : DriverBits) → one ≡ get_or all i one → m ≤ n →
    ((k : ℕ) (d : DriverBits) → k < i → MayStay n (slice_index_or all k d)) → MayStay m one →
    (k : ℕ) (d : DriverBits) → k < i + 1 → k < length all → MayStay m (slice_index_or all k d)
stay_at n m all i one is few before here k d less within = elim (cases_lt k i) [
  | inl earlier ↦ stay_fewer n m (slice_index_or all k d) (before k d earlier) here.some few
  | inr later ↦
      let same : k ≡ i = omega (arith, less, later) in
      subst (λ (o : DriverBits). MayStay m o)
      (is ∙ ap (λ j. get_or all j one) (sym same) ∙ or_same all k one d within) here
]

-- past no bit
pub all_still : (all : List DriverBits) → EachRelated (RestsBy 0) all all
all_still [] = tt
all_still (b ∷ all) = (inl (refl, refl), all_still all)

-- ---- what such bits told

-- bus-off neither stands nor ends in them
never : (b : Bool) → (b && not b) ≡ false
never true = refl
never false = refl

module _ (n : ℕ) (old new : DriverBits) (w : Stays n old new) (journal : List Entry) (bits : ℕ)
    (told : List BitEvent) (has : HasGone journal bits old told) where
  rested : RestedMore n w.short journal bits told new.bits
  rested = w.bits journal bits told has.come

  left_first : counters_left bits rested.told ≡ now_left old
  left_first = ap counters_after (before_same bits told rested.told rested.same) ∙ sym has.left

  left_then : (i : ℕ) → bits ≤ i → i < bits + n → counters_left (suc i) rested.told ≡ w.short.counters
  left_then i from less =
      let b = rested.silent i from less in ap counters_after b.is ∙ b.short.counters_stay

  no_restart : (i : ℕ) → bits ≤ i → i < bits + n →
      is_restart (counters_left i rested.told) w.short.counters ≡ false
  no_restart i from less = elim (cases_lt bits i) [
    | inl later ↦
        let next : i ≡ suc (i - 1) = omega (arith, later) in
        ap (λ (j : ℕ). is_restart (counters_left j rested.told) w.short.counters) next
        ∙ ap (λ (k : Counters). is_restart k w.short.counters)
        (left_then (i - 1) (omega (arith, later)) (omega (arith, less))) ∙ never w.short.counters.off
    | inr first ↦
        let same : i ≡ bits = omega (arith, first, from) in
        ap (λ (j : ℕ). is_restart (counters_left j rested.told) w.short.counters) same
        ∙ ap (λ (k : Counters). is_restart k w.short.counters) left_first
        ∙ ap (λ (b : Bool). b && not w.short.counters.off) w.may.on
  ]

  says_none : (errors : Bool) (node i : ℕ) → bits ≤ i → i < bits + n →
      story_lines errors i node rested.told ≡ []
  says_none errors node i from less =
      silent_lines errors i node (counters_left i rested.told) w.short (slice_get rested.told i)
      (rested.silent i from less) (no_restart i from less)

  left_last : now_left new ≡ counters_left (bits + n) rested.told
  left_last =
      let some = w.may.some in let next : bits + n ≡ suc (bits + n - 1) = omega (arith, some) in
      ap (λ (k : Option Counters). left_by k (at_hand new.bits)) w.passed
      ∙ sym (ap (λ (j : ℕ). counters_left j rested.told) next
      ∙ left_then (bits + n - 1) (omega (arith, some)) (omega (arith, some)))

-- nothing is said of so many bits from this one on
abbrev pub IsUnsaid : ℕ → ℕ → List BitEvent → Type 0
IsUnsaid bits n s =
    (errors : Bool) (node i : ℕ) → bits ≤ i → i < bits + n → story_lines errors i node s ≡ []

pub record HasRested (bits n : ℕ) (journal : List Entry) (new : DriverBits) (s : List BitEvent) : Type 0 where
  pub told : List BitEvent
  pub has : HasGone journal (bits + n) new told
  pub unsaid : IsUnsaid bits n told
  pub same : HaveSame bits s told

pub has_rested : (bits n : ℕ) (journal : List Entry) (old new : DriverBits) (s : List BitEvent) →
    HasGone journal bits old s → RestsBy n old new → HasRested bits n journal new s
has_rested bits n journal old new s has (inl still) =
    let none = still.0 in let next : bits ≡ bits + n = omega (arith, none) in
    let P : DriverBits → Type 0 = λ b. HasGone journal bits b s in
    record {
      told = s;
      has = subst (λ (k : ℕ). HasGone journal k new s) next (subst P (sym still.1) has);
      unsaid = λ errors node i from before. absurd (omega (arith, from, before, none));
      same = λ i less. refl;
    }
has_rested bits n journal old new s has (inr w) =
    let r = rested n old new w journal bits s has in
    record {
      told = r.told;
      has = record { come = r.come; left = left_last n old new w journal bits s has };
      unsaid = says_none n old new w journal bits s has;
      same = r.same;
    }
