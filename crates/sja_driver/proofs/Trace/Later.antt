-- What acts saw and carried, beside a journal in which more was put after more bits.
use Rattle.std.proofs.Common.{◌≡◌, ℕ, ◌≤◌, Bool, true, false, List, [], ◌∷◌, ◌++◌, length, refl, sym, ap, ◌∙◌, subst}
use Rattle.std.proofs.Common.{arith}
use Rattle.std.specs.Prelude.{◌+◌, ◌||◌, not, drop}
use Rattle.std.specs.List.{fold}
use Rattle.sja_journal.specs.declared.down.Down.{Down}
use Rattle.sja_journal.specs.declared.entry.Entry.{Entry}
use Rattle.sja_journal.specs.Lists.{messages}
use Rattle.sja_link.specs.Looking.{off_among}
use Rattle.lemmas.specs.Picking.{EachAfter}
use Rattle.sja_regs.specs.declared.registers.Registers.{Registers}
use Rattle.sja_driver.specs.Carried.{Sees, carried}
use Rattle.sja_driver.specs.TypedActs.{TypedAct, opens_by, opened_by, active_after, is_active, acts_of}
use Rattle.sja_driver.specs.TypedActs.{released_lengths}
use Rattle.sja_driver.specs.Settings.{Standing, after_setting, after_act, settings_of}
use Rattle.sja_driver.specs.Windows.{put_by, off_by, window_of, SeesIf}
use Rattle.sja_driver.specs.Dated.{AreDone}

-- ---- acts that were done by then

pub done_more : (n m : ℕ) (acts : List TypedAct) → n ≤ m → AreDone n acts → AreDone m acts
done_more n m [] most h = tt
done_more n m (d ∷ acts) most h = let b = h.0 in (omega (arith, most, b), done_more n m acts most h.1)

pub done_push : (n : ℕ) (acts : List TypedAct) (d : TypedAct) → AreDone n acts → d.bits ≤ n → AreDone n (acts ++ d ∷ [])
done_push n [] d h b = (b, tt)
done_push n (x ∷ acts) d h b = (h.0, done_push n acts d h.1 b)

-- ---- what was put by then is the same

abbrev pub SameBy : ℕ → List Entry → List Entry → Type 0
SameBy n j k = (m a : ℕ) → m ≤ n → put_by m k a ≡ put_by m j a

off_by_then : (n : ℕ) (j k : List Entry) → SameBy n j k → (m a : ℕ) → m ≤ n → off_by m k a ≡ off_by m j a
off_by_then n j k same m a few = ap (off_among false) (same m a few)

sees_by_then : (n : ℕ) (j k : List Entry) → SameBy n j k → (b : Bool) (before : List TypedAct) (d : TypedAct) →
    d.bits ≤ n →
    SeesIf b j before d → SeesIf b k before d
sees_by_then n j k same true before d few h =
    let windows : window_of k before d.bits ≡ window_of j before d.bits =
    ap (λ (xs : List Down). drop (length (released_lengths (acts_of before (opened_by before)))) (messages xs))
    (same d.bits (opened_by before) few) in
    subst (λ (x : Bool). Sees d.step x (window_of k before d.bits) d.answer)
    (sym (off_by_then n j k same d.bits (opened_by before) few))
    (subst (λ (w : List (List ℕ)). Sees d.step (off_by d.bits j (opened_by before)) w d.answer) (sym windows) h)
sees_by_then n j k same false before d few h = tt

pub all_see : (n : ℕ) (j k : List Entry) → SameBy n j k → (before acts : List TypedAct) → AreDone n acts →
    EachAfter (λ b (d : TypedAct). SeesIf (is_active b) j b d) before acts →
    EachAfter (λ b (d : TypedAct). SeesIf (is_active b) k b d) before acts
all_see n j k same before [] done h = tt
all_see n j k same before (d ∷ acts) done h = (
  sees_by_then n j k same (is_active before) before d done.0 h.0,
  all_see n j k same (before ++ d ∷ []) acts done.1 h.1,
)

-- ---- what was set

act_by_then : (n : ℕ) (j k : List Entry) → SameBy n j k → (s : Standing) (d : TypedAct) → d.bits ≤ n →
    after_act k s d ≡ after_act j s d
act_by_then n j k same s d few =
    ap (λ (b : Bool). let r : Standing = record {
      active = active_after s.active d.step d.answer;
      activation = s.activation + opens_by d;
      registers = after_setting (not s.active || b) s.registers d.step d.answer;
    } in r) (off_by_then n j k same d.bits s.activation few)

standing_by_then : (n : ℕ) (j k : List Entry) → SameBy n j k → (s : Standing) (acts : List TypedAct) → AreDone n acts →
    fold (after_act k) s acts ≡ fold (after_act j) s acts
standing_by_then n j k same s [] done = refl
standing_by_then n j k same s (d ∷ acts) done =
    ap (λ (x : Standing). fold (after_act k) x acts) (act_by_then n j k same s d done.0)
    ∙ standing_by_then n j k same (after_act j s d) acts done.1

pub settings_by_then : (version n : ℕ) (j k : List Entry) → SameBy n j k → (acts : List TypedAct) → AreDone n acts →
    settings_of version k acts ≡ settings_of version j acts
settings_by_then version n j k same acts done = ap (λ (s : Standing). s.registers)
    (standing_by_then n j k same _ acts done)

pub all_carry : (version n : ℕ) (j k : List Entry) → SameBy n j k → (before acts : List TypedAct) → AreDone n before →
    AreDone n acts →
    EachAfter (λ b (d : TypedAct). d.gave ≡ carried (settings_of version j b) d.step d.answer) before acts →
    EachAfter (λ b (d : TypedAct). d.gave ≡ carried (settings_of version k b) d.step d.answer) before acts
all_carry version n j k same before [] did done h = tt
all_carry version n j k same before (d ∷ acts) did done h = (
  h.0 ∙ ap (λ (r : Registers). carried r d.step d.answer) (sym (settings_by_then version n j k same before did)),
  all_carry version n j k same (before ++ d ∷ []) acts (done_push n before d did done.0) done.1 h.1,
)
