-- What comes of a step that is tried, beside the journal.
use Rattle.std.proofs.Common.{◌≡◌, ℕ, zero, suc, ◌+◌, ◌<◌, Bool, true, false, List, []}
use Rattle.std.proofs.Common.{◌∷◌, ◌++◌, length, map, refl, sym, ap, ◌∙◌, subst, append-nil, arith}
use Rattle.std.specs.Prelude.{not, Some}
use Rattle.std.proofs.lemmas.List.{append_cancel_left}
use Rattle.can_frame.specs.declared.buffer_view.BufferView.{BufferView}
use Rattle.sja_journal.specs.declared.down.Down.{Down}
use Rattle.sja_journal.specs.declared.entry.Entry.{Entry}
use Rattle.sja_journal.specs.Accounts.{account}
use Rattle.sja_link.specs.Deques.{Deques, Lies, up_on, AreAlike, IsDryDown, IsFullUp}
use Rattle.sja_journal.specs.Lists.{Lists, OthersStand, on, is_on, same_on}
use Rattle.sja_link.specs.Looking.{Holds as GotHolds, with_gots}
use Rattle.sja_journal.specs.Sizes.{most_activations}
use Rattle.sja_journal.specs.Parts.{part}
use Rattle.sja_journal.specs.Carried.{taken_of}
use Rattle.sja_journal.specs.Places.{place_of}
use Rattle.sja_journal.specs.Verdicts.{IsLawful as IsLawfulJournal}
use Rattle.sja_regs.specs.declared.registers.Registers.{Registers}
use Rattle.sja_regs.specs.InterruptLine.{is_line_active}
use Rattle.sja_steps.specs.declared.step.Step.{Step}
use Rattle.sja_steps.specs.declared.step.Step.TheVariants.{Start, Stop, Window, Release, Read}
use Rattle.sja_steps.specs.declared.step.Step.TheVariants.{Write, Load, Command, Await, Sent, Interrupt, At}
use Rattle.sja_steps.specs.declared.step_answer.StepAnswer.{StepAnswer}
use Rattle.sja_steps.specs.declared.step_answer.StepAnswer.TheVariants.{Done, Released as ReleasedAnswer}
use Rattle.sja_driver.specs.declared.any_driver.AnyDriver.{AnyDriver}
use Rattle.sja_driver.specs.declared.any_driver.AnyDriver.TheVariants.{InReset, InActive}
use Rattle.sja_driver.specs.declared.work_log.WorkLog.{WorkLog}
use Rattle.sja_driver.specs.Acting.{IfOut, IfLooking, Waits}
use Rattle.sja_driver.specs.AnyDrivers.{is_out, opened_of, held_of, off_of, seen_by, link_used, IsDriverOf}
use Rattle.sja_driver.specs.Carried.{Sees, Tells, carried, ported}
use Rattle.sja_driver.specs.TypedActs.{TypedAct, opened_by, is_active, given_in, acts_of, released_lengths, FitsState}
use Rattle.sja_driver.specs.declared.driver.Driver.{Driver}
use Rattle.sja_driver.specs.declared.active.Active.{Active}
use Rattle.sja_driver.specs.declared.reset.Reset.{Reset}
use Rattle.sja_driver.specs.Drivers.{nothing_seen, started_in, link_in}
use Rattle.sja_driver.specs.declared.release.Release.{Release as ReleaseOf}
use Rattle.sja_driver.specs.Holding.{Holds, HoldsBy}
use Rattle.sja_driver.specs.Logs.{Traces, releases_in, left_in, released_of, acts_by}
use Rattle.sja_driver.specs.Tries.{Tried, answer_of, off_after, window_after}
use Rattle.sja_driver.specs.Tries.Tried.{Unmet, Answered, Released, Ended}
use Rattle.sja_promises.specs.Registering.{seen_now}
use Rattle.sja_driver.specs.Windows.{SeesIf}
use Rattle.sja_driver.specs.Asking.{IsAsked}
use Rattle.sja_promises.specs.Waiting.{HasToWait}
use Rattle.sja_driver.proofs.Step.Left.{leaves_last}
use Rattle.sja_promises.proofs.Account.Seeing.{IsSeeing, seen_as, seen_by_now, tells_seen, seen_shown}
use Rattle.sja_promises.proofs.Account.Looks.{IsShown, is_shown}
use Rattle.sja_driver.proofs.Step.Few.{few_held}
use Rattle.sja_driver.proofs.TypedActs.Patience.{never_closed}
use Rattle.sja_promises.proofs.Account.SawPut.{sees_shown, if_looking}
use Rattle.sja_promises.proofs.OneNode.InUse.{HasGiven, has_given, HasQueues, last_has, next_has, none_up, not_full}
use Rattle.sja_promises.proofs.OneNode.InUse.{next_not_full}
use Rattle.sja_promises.proofs.OneNode.Trying.{LooksOn, ActsHere, IsNext}

-- the links of a driver that stand for its acts
pub links_given : {acts : List TypedAct} {releases : List ReleaseOf} {left : List (List (List ℕ))} {ended : ℕ}
    {off : Bool}
    {j : List Entry} {links : Deques} → Holds Lies acts releases left ended off j links → HasGiven acts links
links_given h zero some = absurd (omega (arith, some))
links_given {acts} {j = j} h (suc a) some =
    (account j (suc a) (record { got = h.got a; given = given_in (acts_of acts (suc a)) }), h.kept a, refl)

module _ (j : List Entry) (acts : List TypedAct) (log : WorkLog) (links : Deques) (node : ℕ)
    (lawful : IsLawfulJournal j) (begun : (place_of j).activation ≡ opened_by acts)
    (given : (a : ℕ) → given_in (acts_of acts a) ≡ taken_of (part j a)) where
  -- the link of the present activation has queues at the end between a look and what is given then
  used_at : (w : AnyDriver) (at : Deques) (got : List Down) → HoldsBy Lies acts w log j links → 0 < opened_by acts →
      OthersStand Lies (opened_by acts) links at →
      ((l : Lists) → Lies links (opened_by acts) l → Lies at (opened_by acts) (with_gots l got)) →
      HasQueues at (opened_by acts)
  used_at w at got h some others gets = last_has j acts begun given at
      (has_given acts links at (opened_by acts) got others gets (links_given h)) some

  pub looked : {version : ℕ} (w : AnyDriver) → is_out w ≡ true → Traces version w log acts → IsDriverOf node (length
      (left_in log)) w → HoldsBy Lies acts w log j links → (window : List (List ℕ)) (off : Bool) →
      LooksOn (link_used w) links (held_of w) window (off_of w) off → IsShown j acts off window
  looked (InReset d) out trace place h window off look = absurd cc
  looked (InActive d) out trace place h window off look =
      let n = length (left_in log) in
      let opened : suc n ≡ opened_by acts = let e = trace.opened in let a = ap (λ l. l.activation) place in
      omega (arith, e, a) in
      let g = given_in (acts_of acts (suc n)) in
      let lies : Lies links (opened_by acts) (account j (opened_by acts) (record { got = h.got n; given = g })) =
      subst (λ (m : ℕ). Lies links m (account j m (record { got = h.got n; given = g }))) opened (h.kept n) in
      let seen : LooksOn (opened_by acts) links (held_of (InActive d)) window (off_of (InActive d)) off =
      subst (λ m. LooksOn m links (held_of (InActive d)) window (off_of (InActive d)) off) (sym trace.opened) look in
      let released = released_of (releases_in log) (suc n) in
      let holds : GotHolds (h.got n) released (held_of (InActive d)) = h.told n
      ∙ ap (λ l. released ++ l) (leaves_last (left_in log) (held_of (InActive d))) in
      let lengths : released_lengths (acts_of acts (opened_by acts)) ≡ map (λ (m : List ℕ). length m) released =
      sym (trace.released (opened_by acts)) ∙ ap
      (λ m. map (λ (x : List ℕ). length x) (released_of (releases_in log) m)) (sym opened) in
      is_shown j acts links (h.got n) g released (held_of (InActive d)) window (off_of (InActive d)) off lies holds
      h.off_is lengths
      (λ all down put told. few_held j (opened_by acts) acts all down released window lawful put told
      (given (opened_by acts)) trace.answered.gives lengths) seen
      (used_at (InActive d) seen.at seen.pulls.got h (omega (arith, opened)) seen.same.1 seen.pulls.lists).0

  fits_by : {version : ℕ} (one : Step) (answer : StepAnswer) (w : AnyDriver) → Traces version w log acts →
      FitsState version (is_out w) (opened_of w) one answer →
      FitsState version (is_active acts) (opened_by acts) one answer
  fits_by {version} one answer w trace fits =
      subst (λ (b : Bool). FitsState version b (opened_by acts) one answer) (sym trace.out)
      (subst (λ (m : ℕ). FitsState version (is_out w) m one answer) (sym trace.opened) fits)

  -- a step that was answered is the act that comes next
  pub next_one : (p q : Registers) (one : Step) (answer : StepAnswer) (w : AnyDriver) (off : Bool)
      (window : List (List ℕ)) (seen : BufferView) → Traces p.version w log acts →
      IsDriverOf node (length (left_in log)) w →
      HoldsBy Lies acts w log j links → p.closed ≡ false →
      FitsState p.version (is_out w) (opened_of w) one answer →
      IfOut w (Sees one off window answer) → Tells one (is_out w) p seen answer →
      IfOut w (IfLooking one (LooksOn (link_used w) links (held_of w) window (off_of w) off)) →
      q ≡ ported p one answer →
      (IsSeeing one → seen ≡ seen_as (is_out w) off window) →
      IsNext j acts p q (record { step = one; answer = answer; bits = (place_of j).bits; gave = carried p one answer })
  next_one p q one answer (InReset d) off window seen trace place h unclosed fits sees tells looks left so = record {
    now = refl;
    fits = fits_by one answer (InReset d) trace fits;
    gave = refl;
    sees = let P : Bool → Type 0 = λ b. SeesIf b j acts
        (record { step = one; answer = answer; bits = (place_of j).bits; gave = carried p one answer }) in
        subst P (sym trace.out) tt;
    tells = let T : Bool → Type 0 = λ b. Tells one b p (seen_now b j acts) answer in
        subst T (sym trace.out) (tells_seen one answer false p seen nothing_seen (λ i. sym (so i)) tells);
    patient = never_closed p.version false (opened_of (InReset d)) one answer off window p seen fits
        (λ e. absurd cc) tells unclosed;
    left = left;
  }
  next_one p q one answer (InActive d) off window seen trace place h unclosed fits sees tells looks left so = record {
    now = refl;
    fits = fits_by one answer (InActive d) trace fits;
    gave = refl;
    sees =
        let P : Bool → Type 0 = λ b. SeesIf b j acts
        (record { step = one; answer = answer; bits = (place_of j).bits; gave = carried p one answer }) in
        subst P (sym trace.out) (sees_shown j acts one answer off window sees
        (if_looking one _ _ (looked (InActive d) refl trace place h window off) looks));
    tells = let T : Bool → Type 0 = λ b. Tells one b p (seen_now b j acts) answer in
        subst T (sym trace.out) (tells_seen one answer true p seen (seen_now true j acts) (λ i.
        seen_shown j acts one off window i (if_looking one _ _ (looked (InActive d) refl trace place h window off)
        looks) ∙ sym (so i)) tells);
    patient = never_closed p.version true (opened_of (InActive d)) one answer off window p seen fits
        (λ e. sees) tells unclosed;
    left = left;
  }

  same_answer : {a b : StepAnswer} → Some a ≡ Some b → b ≡ a
  same_answer e = cc

  -- and it is just that one act
  pub record Comes (p q : Registers) (one : Step) (answer : StepAnswer) (o : Tried) : Type 0 where
    pub act : TypedAct
    pub answer_is : act.answer ≡ answer
    pub next : IsNext j acts p q act
    pub step_is : act.step ≡ one
    pub only : acts_by p one o (place_of j).bits ≡ act ∷ []

  pub comes : (p q : Registers) (one : Step) (answer : StepAnswer) (w now : AnyDriver) (new : Deques) (o : Tried) →
      Traces p.version w log acts → IsDriverOf node (length (left_in log)) w → HoldsBy Lies acts w log j links →
      p.closed ≡ false → Some answer ≡ answer_of o → ActsHere links new p q one w now o → Comes p q one answer o
  comes p q one answer w now new Unmet trace place h unclosed met acting = absurd cc
  comes p q one answer w now new (Answered a) trace place h unclosed met acting = record {
    act = record { step = one; answer = a; bits = (place_of j).bits; gave = carried p one a };
    next = next_one p q one a w (off_after now (Answered a)) (window_after now (Answered a))
        (seen_by now) trace place h unclosed acting.fits acting.sees acting.tells acting.looks acting.port
        (λ i. seen_by_now w now one a i acting.out);
    answer_is = same_answer met;
    step_is = refl;
    only = refl;
  }
  comes p q one answer w now new (Released m) trace place h unclosed met acting = record {
    act = record {
      step = one;
      answer = ReleasedAnswer (length m);
      bits = (place_of j).bits;
      gave = carried p one
          (ReleasedAnswer (length m));
    };
    next = next_one p q one (ReleasedAnswer (length m)) w (off_after now (Released m)) (window_after now (Released m))
        (seen_by now) trace place h unclosed acting.fits acting.sees acting.tells acting.looks acting.port
        (λ i. absurd (subst IsSeeing acting.kind i));
    answer_is = same_answer met;
    step_is = refl;
    only = refl;
  }
  comes p q one answer w now new (Ended l) trace place h unclosed met acting = record {
    act = record { step = one; answer = Done; bits = (place_of j).bits; gave = carried p one Done };
    next = next_one p q one Done w (off_after now (Ended l)) (window_after now (Ended l))
        (seen_by now) trace place h unclosed acting.fits acting.sees acting.tells acting.looks acting.port
        (λ i. absurd (subst IsSeeing acting.kind i));
    answer_is = same_answer met;
    step_is = refl;
    only = refl;
  }

  -- ---- why a step isn't done

  is_one : (held : Bool) → not held ≡ false → held ≡ true
  is_one true e = refl
  is_one false e = sym e

  -- out of reset the present link takes an item, and in reset the next one
  not_used : {version : ℕ} (d : Driver Active) → Traces version (InActive d) log acts →
      IsDriverOf node (length (left_in log)) (InActive d) → HoldsBy Lies acts (InActive d) log j links →
      ((a : ℕ) → up_on links (suc a) ≡ []) → IsFullUp links (link_in d).activation → ⊥
  not_used d trace place h empty full =
      let e = trace.opened in let a = ap (λ l. l.activation) place in
      let some : 0 < opened_by acts = omega (arith, e, a) in
      not_full links (opened_by acts) (last_has j acts begun given links (links_given h) some)
      (none_up links (opened_by acts) some empty) (subst (λ (m : ℕ). IsFullUp links m) (sym e) full)

  not_started : {version : ℕ} (most : ℕ) (d : Driver Reset) → Traces version (InReset d) log acts →
      HoldsBy Lies acts (InReset d) log j links → ((a : ℕ) → up_on links (suc a) ≡ []) → links.starts ≡ most →
      started_in d < most → IsFullUp links (started_in d + 1) → ⊥
  not_started most d trace h empty made less full =
      let e = trace.opened in let next = next_has j acts begun given links (links_given h) in
      let from = next.0 in let to = next.1 in
      next_not_full links (started_in d + 1) (h.kept 0).links.from empty (omega (arith, e, from))
      (omega (arith, e, to)) (omega (arith, made, less)) full

  -- a driver that waits sees what has been put
  seen_waiting : {version : ℕ} (w now : AnyDriver) → Traces version w log acts →
      IsDriverOf node (length (left_in log)) w →
      HoldsBy Lies acts w log j links →
      IfOut w (LooksOn (link_used w) links (held_of w) (held_of now) (off_of w) (off_of now)) →
      seen_as (is_out w) (off_of now) (held_of now) ≡ seen_now (is_active acts) j acts
  seen_waiting (InReset d) now trace place h look = ap (λ b. seen_now b j acts) (sym trace.out)
  seen_waiting (InActive d) now trace place h look =
      sym (seen_shown j acts Interrupt (off_of now) (held_of now) tt
      (looked (InActive d) refl trace place h (held_of now) (off_of now) look))
      ∙ ap (λ b. seen_now b j acts) (sym trace.out)

  pub waits : {version : ℕ} (p : Registers) (one : Step) (w now : AnyDriver) → is_out now ≡ is_out w → IsAsked j p →
      Traces version w log acts → IsDriverOf node (length (left_in log)) w → HoldsBy Lies acts w log j links →
      ((a : ℕ) → up_on links (suc a) ≡ []) → links.starts ≡ most_activations p.version →
      Waits (same_on AreAlike Lies (link_used w)) (on Lies (link_used w)) (is_on IsDryDown (link_used w))
      (is_on IsFullUp (link_used w)) links p one w now → HasToWait p j acts one
  waits p (Await count) (InActive was) now out asked trace place h empty made (closed, unknown, few, look) =
      let shown = looked (InActive was) refl trace place h (held_of now) (off_of now) look in
      let same = shown.window_is unknown in
      (trace.out, shown.off_is ∙ unknown, subst (λ (l : List (List ℕ)). length l < count) (sym same) few)
  waits p (Await count) (InReset was) now out asked trace place h empty made full = elim full [ ]
  waits p Sent (InActive was) now out asked trace place h empty made (closed, busy, look) = (
    trace.out,
    (lawful.found, lawful.cut, is_one _ (sym (asked lawful.found lawful.cut) ∙ busy)),
  )
  waits p Sent (InReset was) now out asked trace place h empty made full = elim full [ ]
  waits p Interrupt w now out asked trace place h empty made (closed, inactive, look) =
      subst (λ (s : BufferView). is_line_active p s ≡ false)
      (seen_by_now w now Interrupt Done tt out ∙ seen_waiting w now trace place h look) inactive
  waits p Start (InReset was) now out asked trace place h empty made (left, full) =
      absurd (not_started (most_activations p.version) was trace h empty made left full)
  waits p Start (InActive was) now out asked trace place h empty made full = elim full [ ]
  waits p Stop (InActive was) now out asked trace place h empty made full =
      absurd (not_used was trace place h empty full)
  waits p Stop (InReset was) now out asked trace place h empty made full = elim full [ ]
  waits p (Command value) (InActive was) now out asked trace place h empty made (full, asks, fits) =
      absurd (not_used was trace place h empty full)
  waits p (Command value) (InReset was) now out asked trace place h empty made full = elim full [ ]
  waits p Window w now out asked trace place h empty made full = elim full [ ]
  waits p (Read a) w now out asked trace place h empty made full = elim full [ ]
  waits p (Write a v) w now out asked trace place h empty made full = elim full [ ]
  waits p (Load m) w now out asked trace place h empty made full = elim full [ ]
  waits p (At n) w now out asked trace place h empty made full = elim full [ ]
  waits p Release (InReset was) now out asked trace place h empty made full = elim full [ ]
  waits p Release (InActive was) now out asked trace place h empty made (unknown, r) =
      let n = length (left_in log) in
      let e = trace.opened in let a = ap (λ l. l.activation) place in
      let opened : suc n ≡ opened_by acts = omega (arith, e, a) in
      let b = opened_by acts in
      let others : OthersStand Lies b links r.at = subst (λ m. OthersStand Lies m links r.at) (sym e) r.same.1 in
      let gets : (l : Lists) → Lies links b l → Lies r.at b (with_gots l r.got) =
      subst (λ m. (l : Lists) → Lies links m l → Lies r.at m (with_gots l r.got)) (sym e) r.lists in
      let used = used_at (InActive was) r.at r.got h (omega (arith, opened)) others gets in
      let lies = gets _ (subst (λ m. Lies links m (account j m (record {
        got = h.got n;
        given = given_in (acts_of acts m);
      }))) opened (h.kept n)) in
      let none : up_on r.at b ≡ [] =
      sym (append_cancel_left (taken_of (part j b)) [] (up_on r.at b)
      (append-nil (taken_of (part j b)) ∙ sym (given b) ∙ lies.up)) in
      absurd (not_full r.at b used none (subst (λ (m : ℕ). IsFullUp r.at m) (sym e) r.is_full))
