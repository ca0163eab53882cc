-- An act more, of which all that it gave was taken.
use Rattle.std.proofs.Common.{◌≡◌, ◌≢◌, ℕ, ◌+◌, Bool, true, false, List, [], ◌∷◌, ◌++◌, refl, sym, ap, ◌∙◌, subst}
use Rattle.std.proofs.Common.{append-nil, arith}
use Rattle.sja_journal.specs.declared.up.Up.{Up}
use Rattle.sja_journal.specs.declared.up.Up.TheVariants.{Start as StartItem, Credit, Send as SendItem, Stop as StopItem}
use Rattle.sja_journal.specs.declared.entry.Entry.{Entry}
use Rattle.sja_journal.specs.declared.entry.Entry.TheVariants.{Up as Item}
use Rattle.lemmas.specs.Gathering.{total}
use Rattle.sja_link.specs.Looking.{one_if}
use Rattle.lemmas.specs.Picking.{EachAfter}
use Rattle.sja_journal.specs.Places.{JournalPlace, past, place_of}
use Rattle.sja_link.specs.World.{is_send}
use Rattle.sja_journal.proofs.JournalEntries.Entering.{place_push}
use Rattle.lemmas.proofs.Gathered.{total_push}
use Rattle.lemmas.proofs.Picking.{each_push, each_map}
use Rattle.sja_journal.specs.Links.{stops_in}
use Rattle.sja_journal.specs.BitEntries.{entries_of_items}
use Rattle.sja_regs.specs.declared.registers.Registers.{Registers}
use Rattle.sja_steps.specs.declared.refusal.Refusal.TheVariants.{Closed}
use Rattle.sja_steps.specs.declared.step_answer.StepAnswer.TheVariants.{Refused}
use Rattle.sja_driver.specs.Carried.{carried}
use Rattle.sja_driver.specs.TypedActs.{TypedAct, opens_by, opened_by, active_after, is_active}
use Rattle.sja_driver.proofs.LogOfSteps.Sections.{active_push, opened_push}
use Rattle.sja_driver.specs.Aborting.{AbortIsDue, sends_given}
use Rattle.sja_driver.specs.InTime.{IsInTime}
use Rattle.sja_driver.specs.Settings.{settings_of}
use Rattle.sja_driver.specs.Timing.{given_when, taken_when}
use Rattle.sja_driver.specs.Windows.{put_by, SeesIf}
use Rattle.sja_driver.proofs.Trace.Later.{done_push}
use Rattle.sja_driver.proofs.Trace.AbortsDue.{aborts_on, aborts_push}
use Rattle.sja_driver.specs.Dated.{AreDone}
use Rattle.sja_driver.specs.Linking.{IsLevel}
use Rattle.sja_driver.specs.Porting.{IsPorted}
use Rattle.sja_driver.proofs.Step.GivenKinds.{Kind}
use Rattle.sja_driver.proofs.Step.GivenKinds.Kind.{quiet, starts, credits, sends, stops}
use Rattle.sja_promises.proofs.Account.Items.{bits_same, stops_push, sends_push, put_item, SamePut, sees_same}
use Rattle.sja_promises.proofs.Account.Items.{settings_same, when_item, when_none}
use Rattle.sja_driver.proofs.OneNode.Ports.{carried_alike}
use Rattle.sja_promises.proofs.OneNode.Trying.{IsNext}

-- ---- what was entered

pub data Enters (j k : List Entry) (acts : List TypedAct) (d : TypedAct) : Type 0 where
  nothing : d.gave ≡ [] → k ≡ j → Enters j k acts d
  item : (u : Up) → d.gave ≡ u ∷ [] → k ≡ j ++ Item u ∷ [] → (past (place_of j) (Item u)).activation ≡ opened_by acts
      + opens_by d → Enters j k acts d

entered_one : (j k : List Entry) (d : TypedAct) (u : Up) → k ≡ j ++ entries_of_items d.gave → d.gave ≡ u ∷ [] →
    k ≡ j ++ Item u ∷ []
entered_one j k d u e g = e ∙ ap (λ (l : List Up). j ++ entries_of_items l) g

pub enters : (j k : List Entry) (acts : List TypedAct) (d : TypedAct) → k ≡ j ++ entries_of_items d.gave →
    IsLevel j acts →
    Kind (is_active acts) (opened_by acts) d.step d.answer d.gave → Enters j k acts d
enters j k acts d e level (quiet none o same) = nothing none (e ∙ ap (λ (l : List Up). j ++ entries_of_items l) none
    ∙ append-nil j)
enters j k acts d e level (starts was few config gave o same) =
    let b = level.begun in item (StartItem config) gave (entered_one j k d _ e gave) (omega (arith, b, o))
enters j k acts d e level (credits was n gave o same) =
    let b = level.begun in item (Credit n) gave (entered_one j k d _ e gave) (omega (arith, b, o))
enters j k acts d e level (sends was request gave o same) =
    let b = level.begun in item (SendItem request) gave (entered_one j k d _ e gave) (omega (arith, b, o))
enters j k acts d e level (stops was gave o same) =
    let b = level.begun in item StopItem gave (entered_one j k d _ e gave) (omega (arith, b, o))

pub same_put : (j k : List Entry) (acts : List TypedAct) (d : TypedAct) → Enters j k acts d → SamePut j k
same_put j k acts d (nothing none e) n a = ap (λ (l : List Entry). put_by n l a) e
same_put j k acts d (item u gave e at) n a = ap (λ (l : List Entry). put_by n l a) e ∙ put_item n j u a

pub same_bits : (j k : List Entry) (acts : List TypedAct) (d : TypedAct) → Enters j k acts d →
    (place_of k).bits ≡ (place_of j).bits
same_bits j k acts d (nothing none e) = ap (λ (l : List Entry). (place_of l).bits) e
same_bits j k acts d (item u gave e at) = ap (λ (l : List Entry). (place_of l).bits) e ∙ bits_same j u

-- ---- activations begun and ended

pub asked_more : (acts : List TypedAct) (d : TypedAct) → sends_given (acts ++ d ∷ []) ≡ sends_given acts + total is_send
    d.gave
asked_more acts d = total_push (λ (x : TypedAct). total is_send x.gave) acts d

level_quiet : (j : List Entry) (acts : List TypedAct) (d : TypedAct) → d.gave ≡ [] → opens_by d ≡ 0 →
    active_after (is_active acts) d.step d.answer ≡ is_active acts → IsLevel j acts → IsLevel j (acts ++ d ∷ [])
level_quiet j acts d none o same h =
    let more = opened_push acts d in let b = h.begun in let e = h.ended in
    let now_active : one_if (is_active (acts ++ d ∷ [])) ≡ one_if (is_active acts) =
    ap one_if (active_push false acts d ∙ same) in
    let s = asked_more acts d in let z : total is_send d.gave ≡ 0 = ap (total is_send) none in let a =
    h.asked in record {
      begun = omega (arith, b, more, o);
      ended = omega (arith, e, more, o, now_active);
      asked = omega (arith, a, s, z);
    }

level_item : (j : List Entry) (acts : List TypedAct) (d : TypedAct) (u : Up) (more_stops : ℕ) (now : Bool) →
    d.gave ≡ u ∷ [] →
    (past (place_of j) (Item u)).activation ≡ opened_by acts + opens_by d →
    stops_in (Item u) ≡ more_stops → active_after (is_active acts) d.step d.answer ≡ now →
    more_stops + one_if now ≡ one_if (is_active acts) + opens_by d → IsLevel j acts →
    IsLevel (j ++ Item u ∷ []) (acts ++ d ∷ [])
level_item j acts d u more_stops now gave at st now_active sum h =
    let more = opened_push acts d in let e = h.ended in
    let place : (place_of (j ++ Item u ∷ [])).activation ≡ (past (place_of j) (Item u)).activation =
    ap (λ (p : JournalPlace). p.activation) (place_push j (Item u)) in
    let pushed = stops_push j u in
    let is : one_if (is_active (acts ++ d ∷ [])) ≡ one_if now = ap one_if (active_push false acts d ∙ now_active) in
    let s = asked_more acts d in let z : total is_send d.gave ≡ is_send u + 0 = ap (total is_send) gave in let a =
    h.asked in let t = sends_push j u in record {
      begun = omega (arith, place, at, more);
      ended = omega (arith, pushed, st, is, sum, e, more);
      asked = omega (arith, a, s, z, t);
    }

pub level_after : (j k : List Entry) (acts : List TypedAct) (d : TypedAct) → k ≡ j ++ entries_of_items d.gave →
    IsLevel j acts → Kind (is_active acts) (opened_by acts) d.step d.answer d.gave → IsLevel k (acts ++ d ∷ [])
level_after j k acts d e h (quiet none o same) =
    subst (λ (l : List Entry). IsLevel l (acts ++ d ∷ [])) (sym (e ∙ ap (λ (l : List Up). j ++ entries_of_items l) none
    ∙ append-nil j)) (level_quiet j acts d none o same h)
level_after j k acts d e h (starts was few config gave o same) =
    let b = h.begun in let w : one_if (is_active acts) ≡ 0 = ap one_if was in
    subst (λ (l : List Entry). IsLevel l (acts ++ d ∷ [])) (sym (entered_one j k d _ e gave))
    (level_item j acts d (StartItem config) 0 true gave (omega (arith, b, o)) refl same (omega (arith, w, o)) h)
level_after j k acts d e h (credits was n gave o same) =
    let b = h.begun in
    subst (λ (l : List Entry). IsLevel l (acts ++ d ∷ [])) (sym (entered_one j k d _ e gave))
    (level_item j acts d (Credit n) 0 (is_active acts) gave (omega (arith, b, o)) refl same (omega (arith, o)) h)
level_after j k acts d e h (sends was request gave o same) =
    let b = h.begun in
    subst (λ (l : List Entry). IsLevel l (acts ++ d ∷ [])) (sym (entered_one j k d _ e gave))
    (level_item j acts d (SendItem request) 0 (is_active acts) gave (omega (arith, b, o)) refl same
    (omega (arith, o)) h)
level_after j k acts d e h (stops was gave o same) =
    let b = h.begun in let w : one_if (is_active acts) ≡ 1 = ap one_if was in
    subst (λ (l : List Entry). IsLevel l (acts ++ d ∷ [])) (sym (entered_one j k d _ e gave))
    (level_item j acts d StopItem 1 false gave (omega (arith, b, o)) refl same (omega (arith, w, o)) h)

-- ---- in time

pub in_time_after : (version : ℕ) (j k : List Entry) (acts : List TypedAct) (d : TypedAct) (p q : Registers) →
    Enters j k acts d → IsNext j acts p q d → IsPorted version j acts p → IsInTime version j acts →
    IsInTime version k (acts ++ d ∷ [])
in_time_after version j k acts d p q e next ported h =
    let same = same_put j k acts d e in record {
      when = λ a. when_after a e;
      sees = each_push (λ before (x : TypedAct). SeesIf (is_active before) k before x) [] acts d
          (each_map (λ before (x : TypedAct). SeesIf (is_active before) j before x) (λ before (x : TypedAct).
          SeesIf (is_active before) k before x) (λ before x s. sees_same j k same (is_active before) before x s) []
          acts h.sees)
          (sees_same j k same (is_active acts) acts d next.sees);
      carries = each_push (λ before (x : TypedAct). x.gave ≡ carried (settings_of version k before) x.step x.answer) []
          acts d
          (each_map (λ before (x : TypedAct). x.gave ≡ carried (settings_of version j before) x.step x.answer)
          (λ before (x : TypedAct). x.gave ≡ carried (settings_of version k before) x.step x.answer)
          (λ before x s. s ∙ ap (λ (r : Registers). carried r x.step x.answer)
          (sym (settings_same version j k same before))) [] acts h.carries)
          (next.gave ∙ carried_alike p (settings_of version j acts) d.step d.answer ported.set
          ∙ ap (λ (r : Registers). carried r d.step d.answer) (sym (settings_same version j k same acts)));
      aborts = aborts_after e;
      patient = each_push (λ before (x : TypedAct). x.answer ≢ Refused Closed) [] acts d h.patient next.patient;
    }
  where
    when_after : (a : ℕ) → Enters j k acts d → given_when (acts ++ d ∷ []) a ≡ taken_when k a
    when_after a (nothing none is) = when_none acts d j a next.now none (h.when a)
        ∙ ap (λ (l : List Entry). taken_when l a) (sym is)
    when_after a (item u gave is at) = when_item acts d j u a next.now gave at (h.when a)
        ∙ ap (λ (l : List Entry). taken_when l a) (sym is)

    aborts_after : Enters j k acts d → EachAfter (AbortIsDue (acts ++ d ∷ [])) [] k
    aborts_after (nothing none is) = subst (λ (l : List Entry). EachAfter (AbortIsDue (acts ++ d ∷ [])) [] l) (sym is)
        (aborts_on acts d [] j h.aborts)
    aborts_after (item u gave is at) =
        subst (λ (l : List Entry). EachAfter (AbortIsDue (acts ++ d ∷ [])) [] l) (sym is)
        (aborts_push (acts ++ d ∷ []) j (Item u) (aborts_on acts d [] j h.aborts) tt)

-- no act is later than the last bit: it is done now
pub done_after : (j k : List Entry) (acts : List TypedAct) (d : TypedAct) → Enters j k acts d →
    d.bits ≡ (place_of j).bits →
    AreDone (place_of j).bits acts → AreDone (place_of k).bits (acts ++ d ∷ [])
done_after j k acts d e now h =
    let same = same_bits j k acts d e in
    subst (λ n. AreDone n (acts ++ d ∷ [])) (sym same) (done_push (place_of j).bits acts d h (omega (arith, now)))
