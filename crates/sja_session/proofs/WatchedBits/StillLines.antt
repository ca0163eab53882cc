-- Bits in which no port of a session is told anything: none of them changes a line.
use Rattle.std.proofs.Common.{◌≡◌, ℕ, zero, suc, ◌+◌, ◌<◌, ◌≤◌, Bool, true, false, List, [], ◌∷◌, ◌++◌, length, drop}
use Rattle.std.proofs.Common.{refl, sym, ap, ◌∙◌, subst, append-nil, arith, inl, inr}
use Rattle.std.specs.Prelude.{◌&&◌, reverse, slice_index_or}
use Rattle.std.proofs.lemmas.Bool.{cases_eq}
use Rattle.lemmas.proofs.Gathered.{gathered_push}
use Rattle.can_levels.specs.declared.level.Level.{Level}
use Rattle.sja_journal.specs.declared.entry.Entry.{Entry}
use Rattle.sja_journal.specs.declared.entry.Entry.TheVariants.{Bit}
use Rattle.sja_journal.specs.Carried.{put_in, put_of}
use Rattle.sja_journal.specs.Lists.{messages}
use Rattle.sja_link.specs.Looking.{off_among}
use Rattle.sja_journal.specs.Parts.{part}
use Rattle.sja_journal.specs.Places.{past, place_of}
use Rattle.sja_link.specs.Showing.{seen_of}
use Rattle.sja_journal.proofs.JournalEntries.Entering.{part_here, part_else}
use Rattle.sja_bus.specs.UntilTold.{HasBitsMore}
use Rattle.sja_bus.specs.UntilTold.HasBitsMore.{none as no_more, one_more as one_bit_more}
use Rattle.sja_plan.specs.Limits.{most_bits}
use Rattle.sja_plan.specs.declared.turn.Turn.{Turn}
use Rattle.sja_plan.specs.declared.turn.Turn.TheVariants.{Bus}
use Rattle.sja_plan.specs.Plan.{PlanValue}
use Rattle.sja_steps.specs.declared.step.Step.{Step}
use Rattle.sja_regs.specs.InterruptLine.{is_line_active}
use Rattle.sja_regs.specs.Registers.{at_power_on}
use Rattle.sja_driver.specs.StepRuns.{StepRun, step_runs_at, acts_in}
use Rattle.sja_driver.specs.TypedActs.{TypedAct, acts_of, is_active, opened_by, released_lengths}
use Rattle.sja_promises.specs.Registering.{seen_now}
use Rattle.sja_driver.specs.Windows.{put_by}
use Rattle.sja_driver.proofs.Trace.Timings.{put_now}
use Rattle.sja_serial.specs.Bits.{TakesBit, TakesBits, TakesBusTurn}
use Rattle.sja_serial.specs.Bits.TakesBits.{no_bit, one_more}
use Rattle.sja_serial.specs.Serial.{SerialValue, all_acts}
use Rattle.sja_serial.specs.UntilTold.{NoneTold}
use Rattle.sja_session.specs.declared.session_room.SessionRoom.{SessionRoom}
use Rattle.sja_session.specs.Inside.UntilTold.{RunsUntilTold}
use Rattle.sja_session.specs.Lines.{line_at}
use Rattle.sja_session.specs.Running.{RunsBits}
use Rattle.sja_serial.specs.Ending.{progress}
use Rattle.sja_session.specs.Sessions.{SessionValue, session_of, setup_by, start_of, IsAt, Took, written}
use Rattle.sja_session.specs.Turning.{with_turn}
use Rattle.sja_session.specs.Inside.Written.{with_bits}
use Rattle.sja_session.specs.Watching.{NoneRose, rise}
use Rattle.sja_session.specs.Watching.NoneRose.{bit, none as none_rose}
use Rattle.sja_session.proofs.BitsDone.BitsRun.{runs}
use Rattle.sja_session.proofs.WatchedBits.QuietBits.{quiet_at, still_same}
use Rattle.sja_session.proofs.WrittenPlan.Turned.{bits_twice}

-- ---- messages, and lines

-- a bit puts nothing
put_bit : (j : List Entry) (driven seen : Level) (a : ℕ) →
    put_of (part (j ++ Bit driven seen ∷ []) a) ≡ put_of (part j a)
put_bit j driven seen a = elim (cases_eq (past (place_of j) (Bit driven seen)).activation a) [
  | inl q ↦ ap put_of (part_here j (Bit driven seen) a q) ∙ gathered_push put_in (part j a) (Bit driven seen)
      ∙ append-nil (put_of (part j a))
  | inr n ↦ ap put_of (part_else j (Bit driven seen) a n)
]

put_bits : {j k : List Entry} → HasBitsMore j k → (a : ℕ) → put_of (part k a) ≡ put_of (part j a)
put_bits no_more a = refl
put_bits (one_bit_more k driven seen h tells) a = put_bit k driven seen a ∙ put_bits h a

-- so a driver sees the same messages after bits
seen_same : {j k : List Entry} → HasBitsMore j k → (active : Bool) (acts : List TypedAct) →
    seen_now active k acts ≡ seen_now active j acts
seen_same h false acts = refl
seen_same {j} {k} h true acts =
    let a = opened_by acts in
    let shown : put_by (place_of k).bits k a ≡ put_by (place_of j).bits j a =
    put_now k a ∙ put_bits h a ∙ sym (put_now j a) in
    ap (λ l. seen_of (off_among false l) (drop (length (released_lengths (acts_of acts a))) (messages l))) shown

-- and each line is as it was
line_same : (was now : SessionValue) (step_runs : List (List StepRun)) → NoneTold was.run now.run → (k : ℕ) →
    k < length was.run.bus.journals → line_at now step_runs k ≡ line_at was step_runs k
line_same was now step_runs told k less =
    let acts = acts_in (step_runs_at step_runs k) in let seen = seen_same (told.journals k less) (is_active acts) acts
    in
    λ i. is_line_active (slice_index_or (told.ports i) k (at_power_on 1)) (seen i)

-- a line that is as it was didn't rise
unmoved : (w before now : Bool) → now ≡ before → (w && rise before now) ≡ false
unmoved false before now e = refl
unmoved true true now e = refl
unmoved true false now e = e

-- ---- bits one after the other

-- the session after so many bits
abbrev after : SessionRoom → PlanValue → List (List Step) → List Turn → ℕ → SerialValue → SessionValue
after room plan steps turns m run = session_of room run plan steps (with_bits turns m)

turn_more : (turns : List Turn) (m : ℕ) → with_turn (with_bits turns m) (Bus 1) ≡ with_bits turns (suc m)
turn_more turns zero = refl
turn_more turns (suc m) = let e : suc m + 1 ≡ suc (suc m) = omega arith in
    bits_twice turns (suc m) 1 ∙ ap (λ n. with_turn turns (Bus n)) e

module _ (room : SessionRoom) (plan : PlanValue) (steps : List (List Step)) (turns : List Turn)
    (step_runs : List (List StepRun)) where
  one_bit : (m : ℕ) (mid now : SerialValue) → IsAt (after room plan steps turns m mid) step_runs →
      TakesBit (setup_by (session_of room mid plan steps turns)) (all_acts step_runs) mid now →
      RunsBits (after room plan steps turns m mid) (after room plan steps turns (suc m) now) 1 1 step_runs
  one_bit m mid now at takes =
      let e = takes.bits in
      let turn : TakesBusTurn (setup_by (session_of room mid plan steps turns)) (all_acts step_runs) mid now 1 true =
      record {
        run = 1;
        bits = one_more mid mid now 0 (no_bit mid) tt takes;
        whole = λ all. refl;
        spent = λ no. absurd cc;
      } in
      subst (λ (l : List Turn). RunsBits (after room plan steps turns m mid) (session_of room now plan steps l) 1 1
      step_runs)
      (turn_more turns m) (runs at turn (omega (arith, e)) (with_turn (with_bits turns m) (Bus 1)) (λ end. refl))

  -- the same with other turns, if it has no end
  taken_down : (m n : ℕ) {count : ℕ} {mid now : SerialValue} → RunsBits (after room plan steps turns m mid)
      (after room plan steps turns n now) count 1 step_runs → (items : List Turn) →
      (plan.bits ≤ most_bits plan.version → items ≡ with_bits turns n) →
      RunsBits (after room plan steps turns m mid) (session_of room now plan steps items) count 1 step_runs
  taken_down m n {now = now} r items noted = record {
    bits = r.bits;
    most = r.most;
    whole = r.whole;
    at = record {
      stands = r.at.stands;
      steps = r.at.steps;
      count = r.at.count;
      took = λ end. subst (λ (l : List Turn). Took step_runs (start_of (length plan.nodes)) (reverse l)
          (progress now step_runs)) (sym (noted end)) (r.at.took end);
    };
    room = refl;
    wrote = λ end. ap (λ (l : List Turn). written (session_of room now plan steps l)) (noted end) ∙ r.wrote end;
    plan = refl;
  }

  module _ (first : SerialValue) (many : length first.bus.journals ≡ length plan.nodes) where
    -- since then no port was told anything: each line is as it was
    as_first : (m : ℕ) (now : SerialValue) → NoneTold first now → (k : ℕ) → k < length plan.nodes →
        line_at (after room plan steps turns m now) step_runs k ≡ line_at (session_of room first plan steps turns)
        step_runs k
    as_first m now told k less =
        line_same (session_of room first plan steps turns) (after room plan steps turns m now) step_runs told k
        (omega (arith, many, less))

    -- before each of these bits none was told anything: no line rose
    none_rose_in : (watched : List Bool) (was now : SerialValue) (m : ℕ) →
        IsAt (session_of room was plan steps turns) step_runs →
        TakesBits (setup_by (session_of room was plan steps turns)) (all_acts step_runs) (NoneTold first) was m now →
        NoneTold first now →
        NoneRose watched (length plan.nodes) step_runs (session_of room was plan steps turns)
        (after room plan steps turns m now) m
    none_rose_in watched was _ _ h (no_bit _) told = none_rose (still_same (session_of room was plan steps turns)
        step_runs h)
    none_rose_in watched was now _ h (one_more _ mid _ m bits quiet takes) told =
        let earlier = none_rose_in watched was mid m h bits quiet in
        let one = one_bit m mid now (quiet_at earlier) takes in
        subst (λ (n : ℕ). NoneRose watched (length plan.nodes) step_runs (session_of room was plan steps turns)
        (after room plan steps turns (suc m) now) n) (omega arith)
        (bit earlier one
        (λ k less. unmoved (slice_index_or watched k false) (line_at (after room plan steps turns m mid) step_runs k)
        (line_at (after room plan steps turns (suc m) now) step_runs k)
        (as_first (suc m) now told k less ∙ sym (as_first m mid quiet k less)))
        (still_same (after room plan steps turns (suc m) now) step_runs one.at))

  -- up to the first of which a port is told
  pub until_told : (was now : SerialValue) (n : ℕ) → IsAt (session_of room was plan steps turns) step_runs →
      TakesBits (setup_by (session_of room was plan steps turns)) (all_acts step_runs) (NoneTold was) was n now →
      1 ≤ n → (items : List Turn) → (plan.bits ≤ most_bits plan.version → items ≡ with_turn turns (Bus n)) →
      RunsUntilTold (session_of room was plan steps turns) (session_of room now plan steps items) n step_runs
  until_told was _ _ h (no_bit _) some items noted = absurd (omega (arith, some))
  until_told was now _ h (one_more _ mid _ m bits told takes) some items noted =
      let many = h.stands.stands.count.journals ∙ h.count in
      let rose = λ (watched : List Bool). none_rose_in was many watched was mid m h bits told in record {
        before = after room plan steps turns m mid;
        earlier = m;
        many = omega arith;
        quiet = rose;
        same = as_first was many m mid told;
        bit = taken_down m (suc m) (one_bit m mid now (quiet_at (rose [])) takes) items noted;
      }
