-- Bits in which nodes rest: what the node traces told of them.
use Rattle.std.proofs.Common.{◌≡◌, ◌⊎◌, inl, inr, ℕ, ◌+◌, ◌<◌, ◌≤◌, zero, suc, Bool, true, Option}
use Rattle.std.proofs.Common.{List, [], ◌∷◌, refl, sym, ap, ◌∙◌, subst, arith}
use Rattle.std.specs.Prelude.{slice_get}
use Rattle.std.proofs.lemmas.Bool.{cases_lt}
use Rattle.can_node_rules.specs.Context.{is_held}
use Rattle.can_node_rules.specs.NextBit.{now_in, rests_in}
use Rattle.can_node_rules.specs.declared.phase.Phase.{Phase}
use Rattle.can_node_rules.specs.declared.phase.Phase.TheVariants.{Reset, Waiting, Idle, Frame, Flag, Delimiter}
use Rattle.can_node_rules.specs.declared.phase.Phase.TheVariants.{Intermission, Suspension}
use Rattle.lemmas.specs.Related.{EachRelated}
use Rattle.sja_log.specs.Log.{NodeValue}
use Rattle.sja_replay.specs.declared.bit_event.BitEvent.{BitEvent}
use Rattle.sja_replay.specs.ReplayProgress.{HasCome}
use Rattle.sja_replay.specs.ReplayRest.{rested}
use Rattle.text_trace.specs.declared.node_bits.NodeBits.{NodeBits}
use Rattle.text_trace.specs.declared.node_trace.NodeTrace.{NodeTrace}
use Rattle.text_trace.specs.Telling.{HaveSame, IsUnderway}
use Rattle.text_trace.specs.Hands.{IsBit}
use Rattle.text_trace.specs.TraceRest.{AllRest, HasRested, NodeTraceRests}
use Rattle.text_trace.proofs.Stories.Rested.{after, passes_one}
use Rattle.text_picture.specs.Knowing.{HasBits, Knows}
use Rattle.text_picture.specs.Inside.PictureRest.{IsResting, AreResting}
use Rattle.text_picture.proofs.NodeRows.Stories.{Further, knows_further}

-- a node at rest is in reset, or the bus is idle for it
calm_phase : (p : Phase) (held : Bool) → rests_in p held ≡ true → (p ≡ Reset) ⊎ (p ≡ Idle)
calm_phase Reset held rests = inl refl
calm_phase Idle held rests = inr refl
calm_phase Waiting held rests = absurd cc
calm_phase Frame held rests = absurd cc
calm_phase Flag held rests = absurd cc
calm_phase Delimiter held rests = absurd cc
calm_phase Intermission held rests = absurd cc
calm_phase Suspension held rests = absurd cc

module _ (bit n : ℕ) (v : NodeValue) (o u : NodeTrace) (w : NodeTraceRests bit n o) (h : HasRested n o u)
    (hs : List BitEvent) (come : HasBits v bit o hs) where
  calm : (h.short.phase ≡ Reset) ⊎ (h.short.phase ≡ Idle)
  calm =
      let P : Bool → Type 0 = λ b. HasCome b v.journal bit o.bits.replay hs in
      let at = (subst P w.under come).0.at in
      let held = is_held (now_in at.stands.cut).held in
      calm_phase h.short.phase held
      (ap (λ p. rests_in p held) (h.looks.phase _ at.found at.stands)
      ∙ sym (w.rests.awaits.rests _ at.found at.stands))

  under : IsUnderway o.bits
  under = record { journal = v.journal; bits = bit; told = hs; come = come }

  -- so many of them were told
  record Came (i : ℕ) : Type 0 where
    told : List BitEvent
    has : HasCome (after n o u h i).bits.over v.journal (bit + i) (after n o u h i).bits.replay told
    hand : (k : ℕ) → bit ≤ k → k < bit + i → IsBit h.short (slice_get told k)
    same : HaveSame bit hs told

  so_many : (i : ℕ) → i ≤ n → Came i
  so_many zero few =
      let none : bit ≡ bit + 0 = omega arith in
      record {
        told = hs;
        has = subst (λ (k : ℕ). HasCome o.bits.over v.journal k o.bits.replay hs) none come;
        hand = λ k from less. absurd (omega (arith, from, less));
        same = λ k less. refl;
      }
  so_many (suc i) few =
      let c = so_many i (omega (arith, few)) in
      let more = (passes_one n o u h bit w under i (omega (arith, few))).bits v.journal (bit + i) c.told c.has in
      let one : suc (bit + i) ≡ bit + suc i = omega arith in
      let b = (after n o u h (suc i)).bits in
      record {
        told = more.told;
        has = subst (λ (k : ℕ). HasCome b.over v.journal k b.replay more.told) one more.come;
        hand = λ k from less. elim (cases_lt k (bit + i)) [
          | inl early ↦
              subst (λ (x : Option BitEvent). IsBit h.short x) (sym (more.same k early)) (c.hand k from early)
          | inr late ↦
              let last : bit + i ≡ k = omega (arith, less, late) in
              subst (λ (j : ℕ). IsBit h.short (slice_get more.told j)) last more.hand
        ];
        same = λ k less. more.same k (omega (arith, less)) ∙ c.same k less;
      }

  last_bits : (i : ℕ) → i ≡ n → 1 ≤ i → (after n o u h i).bits ≡ u.bits
  last_bits zero all some = absurd (omega (arith, some))
  last_bits (suc i) all some =
      ap (λ (k : ℕ). (let b : NodeBits = record o.bits { replay = rested k o.bits.replay } in b)) all ∙ sym h.bits

  pub rest_further : 1 ≤ n → Further (IsResting bit n) v bit (bit + n) u hs
  rest_further some =
      let c = so_many n (omega arith) in
      record {
        told = c.told;
        has = subst (λ (b : NodeBits). HasCome b.over v.journal (bit + n) b.replay c.told) (last_bits n refl some)
            c.has;
        same = c.same;
        hand = λ all same. record {
          short = h.short;
          short_is = h.short_is;
          driven = h.looks.driven_is;
          seen = h.looks.seen_is;
          calm = calm;
          bits = λ k from less.
              subst (λ (x : Option BitEvent). IsBit h.short x) (sym (same k less)) (c.hand k from less);
        };
      }

-- ---- all nodes

abbrev RestOn : ℕ → ℕ → NodeTrace → NodeTrace → Type 0
RestOn bit n o u = NodeTraceRests bit n o × HasRested n o u

rest_on : (bit n : ℕ) (ts us : List NodeTrace) → AllRest bit n ts → EachRelated (HasRested n) ts us →
    EachRelated (RestOn bit n) ts us
rest_on bit n [] [] all rest = tt
rest_on bit n [] (u ∷ us) all rest = absurd rest
rest_on bit n (t ∷ ts) [] all rest = absurd rest
rest_on bit n (t ∷ ts) (u ∷ us) all rest =
    ((all 0 t (omega arith), rest.0), rest_on bit n ts us (λ k d less. all (suc k) d (omega (arith, less))) rest.1)

pub knows_rested : (nodes : List NodeValue) (bit n : ℕ) (olds news : List NodeTrace)
    (G H : List (List BitEvent) → Type 0) → 1 ≤ n → Knows nodes bit olds G → AllRest bit n olds →
    EachRelated (HasRested n) olds news →
    ((told : List (List BitEvent)) → AreResting bit n news told → G told → H told) →
    Knows nodes (bit + n) news H
knows_rested nodes bit n olds news G H some k all rest then =
    knows_further (IsResting bit n) (RestOn bit n) bit (bit + n)
    (λ v o u hs r come. rest_further bit n v o u r.0 r.1 hs come some) (omega arith) nodes olds news G H k
    (rest_on bit n olds news all rest) then
