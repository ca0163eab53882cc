-- A node after a step of its driver and a taking of the bus, and a node whose driver did nothing.
use Rattle.std.proofs.Common.{◌≡◌, ℕ, ◌+◌, ◌<◌, List, [], ◌∷◌, ◌++◌, length, refl, sym, ap, ◌∙◌, subst}
use Rattle.std.proofs.Common.{append-nil, arith}
use Rattle.std.specs.Prelude.{Some, None}
use Rattle.std.proofs.lemmas.List.{length-append}
use Rattle.sja_journal.specs.declared.up.Up.{Up}
use Rattle.sja_journal.specs.declared.entry.Entry.{Entry}
use Rattle.sja_link.specs.Deques.{Deques, Lies}
use Rattle.sja_journal.specs.Parts.{part}
use Rattle.sja_journal.specs.Carried.{taken_of}
use Rattle.sja_journal.specs.Places.{place_of}
use Rattle.sja_journal.specs.Sizes.{most_activations}
use Rattle.sja_journal.specs.Verdicts.{IsLawful as IsLawfulJournal}
use Rattle.sja_journal.specs.BitEntries.{entries_of_items}
use Rattle.sja_regs.specs.declared.registers.Registers.{Registers}
use Rattle.sja_steps.specs.declared.step.Step.{Step}
use Rattle.sja_steps.specs.declared.step_answer.StepAnswer.{StepAnswer}
use Rattle.sja_driver.specs.declared.logged_driver.LoggedDriver.{LoggedDriver}
use Rattle.sja_driver.specs.TypedActs.{TypedAct, opens_by, opened_by, is_active, given_in, acts_of, FitsState}
use Rattle.sja_driver.specs.Holding.{HoldsBy}
use Rattle.sja_driver.specs.LoggedDrivers.{node_of, driver_of, log_of, IsLawful}
use Rattle.sja_driver.specs.Logs.{HasRoom, Traces, acts_by, release_room, left_room}
use Rattle.sja_driver.specs.Tries.{Tried, answer_of}
use Rattle.sja_driver.specs.Tries.Tried.{Unmet, Answered, Released, Ended}
use Rattle.sja_promises.specs.Registering.{IsPortAct, seen_now}
use Rattle.sja_promises.specs.Registering.LeadTo.{act}
use Rattle.sja_driver.specs.Windows.{SeesIf}
use Rattle.sja_driver.proofs.Trace.Stepping.{given_taken}
use Rattle.sja_driver.specs.Linking.{IsLevel, IsLinked}
use Rattle.sja_promises.specs.Nodes.{IsNode}
use Rattle.sja_driver.specs.Shown.{ShowsRecord}
use Rattle.sja_promises.specs.Waiting.{HasToWait}
use Rattle.sja_journal.proofs.Growing.Taking.{no_wait}
use Rattle.sja_promises.proofs.OneNode.Trying.{ActsHere, StepsHere}
use Rattle.sja_promises.proofs.OneNode.StepTried.{waits}
use Rattle.sja_promises.proofs.OneNode.After.{done_after, enters, level_after, in_time_after}
use Rattle.sja_promises.proofs.OneNode.Ported.{ported_after}
use Rattle.sja_promises.proofs.OneNode.AskedAndCounted.{asked_after, counted_after}
use Rattle.sja_promises.proofs.OneNode.Gathered.{Gathers, items_are, linked_after, node_with}
use Rattle.sja_promises.proofs.Trace.TbsAndAbort.{tbs_right}
use Rattle.sja_promises.proofs.OneNode.Done.{at_most_one, is_read, doing}
use Rattle.sja_driver.proofs.OneNode.StillShown.{shows_on}

-- where a journal has no entry more no item was taken
pub none_entered : (j k : List Entry) (items : List Up) → k ≡ j ++ entries_of_items items → k ≡ j → items ≡ []
none_entered j k [] e same = refl
none_entered j k (u ∷ items) e same =
    let long = ap (λ (l : List Entry). length l) (sym same ∙ e) in
    let both = length-append j (entries_of_items (u ∷ items)) in absurd (omega (arith, long, both))

pub is_unmet : (o : Tried) → None ≡ answer_of o → o ≡ Unmet
is_unmet Unmet e = refl
is_unmet (Answered a) e = absurd cc
is_unmet (Released m) e = absurd cc
is_unmet (Ended l) e = absurd cc

-- the step was done
pub record Stepped (version : ℕ) (size : ℕ) (j k : List Entry) (acts : List TypedAct) (now : LoggedDriver)
    (p q : Registers) (after : Deques) (one : Step) (answer : StepAnswer) : Type 0 where
  pub act : TypedAct
  pub step_is : act.step ≡ one
  pub answer_is : act.answer ≡ answer
  pub port : IsPortAct p q j k acts act
  pub fits : FitsState version (is_active acts) (opened_by acts) act.step act.answer
  pub sees : SeesIf (is_active acts) j acts act
  pub node : IsNode version size k (acts ++ act ∷ []) now q after
  -- where nothing was taken the port shows what it has shown
  pub shows : k ≡ j → ShowsRecord j p → ShowsRecord k q

-- it waits: nothing was taken, and the port is as it was
pub record Waited (version : ℕ) (size : ℕ) (j k : List Entry) (acts : List TypedAct) (now : LoggedDriver)
    (p q : Registers) (after : Deques) (one : Step) : Type 0 where
  pub waits : HasToWait p j acts one
  pub journal : k ≡ j
  pub port : q ≡ p
  pub node : IsNode version size k acts now q after

module _ {version : ℕ} {size : ℕ} {j k : List Entry} {acts : List TypedAct} {was : LoggedDriver}
    (now : LoggedDriver) {p q : Registers} {links given after : Deques}
    (h : IsNode version size j acts was p links) (now_lawful : IsLawful now) (t : Gathers j k given after) where
  -- ---- a taking where no act was done

  module _ (trace : Traces version (driver_of now) (log_of now) acts)
      (holds : HoldsBy Lies acts (driver_of now) (log_of now) j given)
      (room : (any m : ℕ) → HasRoom any m (log_of was) → HasRoom any m (log_of now))
      (releases : release_room (log_of now) ≡ release_room (log_of was))
      (left : left_room (log_of now) ≡ left_room (log_of was)) (port : q ≡ p) where
    pub same_journal : k ≡ j
    same_journal =
        items_are holds t [] 0 (omega arith) (λ e. absurd (e refl))
        (λ a. given_taken acts j a (h.in_time.when a) ∙ sym (ap (λ (l : List Up). taken_of (part j a) ++ l) (no_wait a)
        ∙ append-nil (taken_of (part j a))))
        ∙ append-nil j

    pub idle : IsNode version size k acts now q after
    idle =
        let level : IsLevel k acts = subst (λ (l : List Entry). IsLevel l acts) (sym same_journal) h.linked.level in
        let taken : (a : ℕ) → given_in (acts_of acts a) ≡ taken_of (part k a) =
        λ a. given_taken acts j a (h.in_time.when a)
        ∙ ap (λ (l : List Entry). taken_of (part l a)) (sym same_journal) in
        let linked : IsLinked k acts now after = linked_after now holds t.kept taken level in
        subst (λ (l : List Entry). IsNode version size l acts now q after) (sym same_journal)
        (subst (λ (r : Registers). IsNode version size j acts now r after) (sym port)
        (node_with h (record {
          lawful = now_lawful;
          traces = trace;
          within = h.traced.within;
          room = λ m l. room version m (h.traced.room m l);
          made_for = releases ∙ h.traced.made_for;
          activations = left ∙ h.traced.activations;
        }) (subst (λ (l : List Entry). IsLinked l acts now after) same_journal linked)))

  module _ {one : Step} (lawful : IsLawfulJournal j) where
    -- ---- a step that was done

    pub stepped : (answer : StepAnswer) → length acts < size →
        StepsHere was now links given p q one (Some answer) →
        ((any m : ℕ) → HasRoom any (m + 1) (log_of was) → HasRoom any m (log_of now)) →
        Stepped version size j k acts now p q after one answer
    stepped answer left st room =
        let y = doing version size j acts was now p q links given one answer h lawful st in
        let c = y.is_next in let d = c.act in let next = c.next in let b = opened_by acts + opens_by d in
        let entered : k ≡ j ++ entries_of_items d.gave =
        items_are y.holds t d.gave b (at_most_one (is_active acts) (opened_by acts) d.step d.answer d.gave y.kind)
        (is_read j acts d h.linked.level y.kind) y.waits_now in
        let e = enters j k acts d entered h.linked.level y.kind in
        let buffer = tbs_right version j acts p h.registers h.traced.traces.answered.states in
        let level = level_after j k acts d entered h.linked.level y.kind in
        let long = length-append acts (d ∷ []) in
        let in_time = in_time_after version j k acts d p q e next h.ported h.in_time in
        let port : IsPortAct p q j k acts d = record {
          now = next.now;
          tells = next.tells;
          gave = next.gave;
          taken = entered;
          left = next.left;
        } in record {
          act = d;
          step_is = c.step_is;
          answer_is = c.answer_is;
          port = port;
          fits = subst (λ (n : ℕ). FitsState n (is_active acts) (opened_by acts) d.step d.answer)
              h.ported.version_is next.fits;
          sees = next.sees;
          node = record {
            traced = record {
              lawful = now_lawful;
              traces = y.trace;
              within = omega (arith, left, long);
              room = λ m l. room version m (h.traced.room (m + 1) (omega (arith, l, long)));
              made_for = st.release_room ∙ h.traced.made_for;
              activations = st.left_room ∙ h.traced.activations;
            };
            linked = linked_after now y.holds t.kept (λ a. given_taken (acts ++ d ∷ []) k a (in_time.when a)) level;
            ported = ported_after version j k acts d p q e next h.ported h.linked.level level y.kind buffer;
            done = done_after j k acts d e next.now h.done;
            asked = asked_after version j k acts d p q e next h.ported h.linked.level level y.kind buffer h.asked
                lawful;
            counted = counted_after version j k acts d p q e next h.ported h.linked.level level y.kind buffer
                h.counted lawful;
            in_time = in_time;
            registers = act j k acts d p q h.registers port;
          };
          shows = λ same shown.
              subst (λ (l : List Entry). ShowsRecord l q) (sym same)
              (shows_on j p q d.step d.answer (is_active acts) (seen_now (is_active acts) j acts) next.tells
              (sym next.gave ∙ none_entered j k d.gave entered same) next.left shown);
        }

    -- ---- a step that waits

    pub waited : StepsHere was now links given p q one None →
        ((any m : ℕ) → HasRoom any m (log_of was) → HasRoom any m (log_of now)) →
        links.starts ≡ most_activations version → Waited version size j k acts now p q after one
    waited st room made =
        let unmet = is_unmet st.tried st.met in
        let acting : ActsHere links given p q one (driver_of was) (driver_of now) Unmet =
        subst (λ (o : Tried). ActsHere links given p q one (driver_of was) (driver_of now) o) unmet st.acts in
        let nothing : acts ++ acts_by p one st.tried (place_of j).bits ≡ acts =
        ap (λ (o : Tried). acts ++ acts_by p one o (place_of j).bits) unmet ∙ append-nil acts in
        -- in the version of the port
        let traced : Traces p.version (driver_of was) (log_of was) acts =
        subst (λ (n : ℕ). Traces n (driver_of was) (log_of was) acts) (sym h.ported.version_is) h.traced.traces in
        let trace : Traces version (driver_of now) (log_of now) acts =
        subst (λ (n : ℕ). Traces n (driver_of now) (log_of now) acts) h.ported.version_is
        (subst (λ (l : List TypedAct). Traces p.version (driver_of now) (log_of now) l) nothing
        ((st.goes (place_of j).bits).traces acts traced)) in
        let holds : HoldsBy Lies acts (driver_of now) (log_of now) j given =
        subst (λ (l : List TypedAct). HoldsBy Lies l (driver_of now) (log_of now) j given) nothing
        ((st.goes (place_of j).bits).holds acts j traced h.linked.holds) in record {
          waits = waits j acts (log_of was) links (node_of was) lawful h.linked.level.begun
              (λ a. given_taken acts j a (h.in_time.when a)) p one (driver_of was) (driver_of now) acting.out h.asked
              h.traced.traces h.traced.lawful.own h.linked.holds h.linked.taken
              (made ∙ ap most_activations (sym h.ported.version_is)) acting.waits;
          journal = same_journal trace holds room st.release_room st.left_room acting.port;
          port = acting.port;
          node = idle trace holds room st.release_room st.left_room acting.port;
        }
