-- A step of a driver that is done, or has to wait, by its acts.
use Rattle.std.proofs.Common.{◌≡◌, ◌+◌, ◌*◌, ◌<◌, ◌≤◌, ◌++◌, ℕ, Bool, true, false, cond, List, [], ◌∷◌, length, map}
use Rattle.std.proofs.Common.{refl, inl}
use Rattle.std.proofs.Common.{sym, ap, ◌∙◌, subst, append-nil, append_assoc, arith}
use Rattle.std.specs.Prelude.{◌/◌, Option, Some, None, slice_index_or}
use Rattle.std.proofs.lemmas.List.{length-append, length-map, map-append}
use Rattle.can_frame.specs.declared.buffer_view.BufferView.{BufferView}
use Rattle.sja_journal.specs.declared.entry.Entry.{Entry}
use Rattle.sja_journal.specs.Places.{place_of}
use Rattle.sja_journal.specs.BoundedHistories.{HistoryValue}
use Rattle.sja_journal.proofs.JournalEntries.Entering.{bits_counted}
use Rattle.sja_bus_rules.specs.Lawful.{IsBusRun}
use Rattle.sja_bus_rules.specs.Wire.{journal_at}
use Rattle.sja_regs.specs.declared.registers.Registers.{Registers}
use Rattle.sja_steps.specs.declared.step_record.StepRecord.{StepRecord}
use Rattle.sja_steps.specs.declared.step.Step.{Step}
use Rattle.sja_steps.specs.declared.step.Step.TheVariants.{Start, Stop, Window, Release, Read, Write, Load, Command}
use Rattle.sja_steps.specs.declared.step.Step.TheVariants.{Await, Sent, Interrupt, At}
use Rattle.sja_steps.specs.declared.step_answer.StepAnswer.{StepAnswer}
use Rattle.sja_steps.specs.declared.step_answer.StepAnswer.TheVariants.{Done as DoneAnswer, Value}
use Rattle.sja_driver.specs.declared.unmodelled_registers.UnmodelledRegisters.{UnmodelledRegisters}
use Rattle.sja_driver.specs.declared.logged_driver.LoggedDriver.{LoggedDriver}
use Rattle.sja_driver.specs.declared.written.Written.{Written}
use Rattle.sja_driver.specs.StepRuns.{StepRun, Answers, IsOneAct, step_runs_at, by_bytes, act_steps, acts_in}
use Rattle.sja_driver.specs.StepRuns.{kept_by, kept_written}
use Rattle.sja_driver.specs.Answers.{value_answer}
use Rattle.sja_driver.specs.Carried.{Tells}
use Rattle.sja_driver.specs.TypedActs.{TypedAct, acts_at, is_active, with_acts}
use Rattle.sja_driver.specs.Logs.{done_in, done_room}
use Rattle.sja_driver.specs.WriteLists.{IsPrompt, listed}
use Rattle.sja_promises.specs.Waiting.{HasToWait}
use Rattle.sja_driver.specs.Reads.{value_by_bytes}
use Rattle.sja_driver.specs.Writes.{write_steps}
use Rattle.sja_driver.specs.Ignoring.{write_answer}
use Rattle.sja_driver.specs.Written.{written_by}
use Rattle.sja_regs.specs.Addresses.{register_at}
use Rattle.sja_regs.specs.Reading.{or_no_register, value_at}
use Rattle.sja_regs.specs.Registers.{at_power_on}
use Rattle.sja_driver.specs.Kept.{moved_by_answer}
use Rattle.sja_driver.specs.LoggedDrivers.{kept_of, log_of}
use Rattle.sja_driver.proofs.Bytes.Writing.{ignored_then, kept_then, written_both}
use Rattle.sja_driver.proofs.OneNode.Slices.{no_acts}
use Rattle.sja_promises.specs.Registering.{StepRunsLeadTo, seen_now}
use Rattle.sja_serial.specs.Inside.Accessing.{DoesActs, DoesPart, Enters, written_first}
use Rattle.sja_serial.specs.Serial.{Setup, SerialValue, StandsAt, StandsBy, all_acts, most_steps}
use Rattle.sja_serial.specs.Stepping.{DoesAct, DoesNothing, DoesStep, HasActLeft, HasRoomLeft, WaitsFor}
use Rattle.sja_serial.proofs.TypedActs.Parts.{all_at, acts_then, no_acts_yet, one_act_more}
use Rattle.sja_serial.proofs.AllNodes.Several.{does_none, done_count, first_driver}
use Rattle.sja_promises.proofs.Trace.StepRunActs.{few_acts, forget}
use Rattle.sja_promises.proofs.Trace.Stays.{version_led}
use Rattle.sja_serial.proofs.TypedActs.Entered.{step_done}

-- ---- a step that is one act

steps_one : (bytes : Bool) (p : Registers) (active : Bool) (s : Step) → IsOneAct bytes s →
    act_steps bytes p active s ≡ s ∷ []
steps_one false p active s one = refl
steps_one true p active Start one = refl
steps_one true p active Stop one = refl
steps_one true p active Window one = refl
steps_one true p active Release one = refl
steps_one true p active (Read address) one = elim one [ ]
steps_one true p active (Write address value) one = elim one [ ]
steps_one true p active (Load m) one = refl
steps_one true p active (Command value) one = refl
steps_one true p active (Await count) one = refl
steps_one true p active Sent one = refl
steps_one true p active Interrupt one = refl
steps_one true p active (At bits) one = elim one [ ]

answers_one : (bytes : Bool) (p : Registers) (seen : BufferView) (kept : UnmodelledRegisters) (bits : ℕ) (s : Step)
    (acts : List TypedAct) (answer : StepAnswer) → IsOneAct bytes s →
    map (λ (d : TypedAct). d.answer) acts ≡ answer ∷ [] → Answers bytes p seen kept bits s acts answer
answers_one false p seen kept bits s acts answer one is = is
answers_one true p seen kept bits Start acts answer one is = is
answers_one true p seen kept bits Stop acts answer one is = is
answers_one true p seen kept bits Window acts answer one is = is
answers_one true p seen kept bits Release acts answer one is = is
answers_one true p seen kept bits (Read address) acts answer one is = elim one [ ]
answers_one true p seen kept bits (Write address value) acts answer one is = elim one [ ]
answers_one true p seen kept bits (Load m) acts answer one is = is
answers_one true p seen kept bits (Command value) acts answer one is = is
answers_one true p seen kept bits (Await count) acts answer one is = is
answers_one true p seen kept bits Sent acts answer one is = is
answers_one true p seen kept bits Interrupt acts answer one is = is
answers_one true p seen kept bits (At least) acts answer one is = elim one [ ]

-- after as many bits as were run
pub placed : {setup : Setup} {r : SerialValue} {acts : List (List TypedAct)} {node : ℕ} → StandsAt setup r acts →
    node < setup.nodes → IsBusRun r.bus.script r.bus.run r.bus.journals →
    (place_of (journal_at r.bus.journals node)).bits ≡ r.bits
placed {r = r} {node = node} h there laws =
    bits_counted (journal_at r.bus.journals node)
    ∙ laws.wired.count node (let c = h.count.journals in omega (arith, c, there)) ∙ sym h.bits

-- ---- a step that is done

module _ {setup : Setup} {was : SerialValue} {step_runs : List (List StepRun)} {node : ℕ}
    (h : StandsBy setup was step_runs) (there : node < setup.nodes) where
  abbrev before : List TypedAct
  before = acts_in (step_runs_at step_runs node)

  abbrev pub seen : BufferView
  seen = seen_now (is_active before) (journal_at was.bus.journals node) before

  module _ {mid now : SerialValue} {s : Step} {answer given : StepAnswer} {kept : UnmodelledRegisters}
      (d : DoesAct setup was mid node s answer (with_acts (all_acts step_runs) node []))
      (e : Enters mid now node given kept)
      (moved : (x : LoggedDriver) (p : Registers) →
      kept ≡ moved_by_answer (kept_written (slice_index_or was.ports node p)
      (kept_of (slice_index_or was.drivers node x)) s) answer) where
    abbrev this : StepRun
    this = record { step = s; answer = given; bits = was.bits; acts = d.act ∷ [] }

    now_is : (place_of (journal_at was.bus.journals node)).bits ≡ was.bits
    now_is = sym (d.port (at_power_on 1)).now ∙ d.does.at_once 0 d.act (omega arith)

    left_is : (x : LoggedDriver) (p : Registers) → kept ≡ kept_by (kept_written (slice_index_or was.ports node p)
        (kept_of (slice_index_or was.drivers node x)) s) (d.act ∷ [])
    left_is x p = moved x p ∙ ap (moved_by_answer (kept_written (slice_index_or was.ports node p)
        (kept_of (slice_index_or was.drivers node x)) s)) (sym d.answer_is)

    -- it is one act, and answered as that
    pub done_as_act : IsOneAct (by_bytes setup.version) s → given ≡ answer → DoesStep setup was now node s step_runs
    done_as_act one same =
        step_done h there this (one_act_more there h (no_acts_yet there h) d) refl e now_is refl (λ x p. record {
          steps = ap (λ (t : Step). t ∷ []) d.step_is
              ∙ sym (steps_one (by_bytes setup.version) (slice_index_or was.ports node p) (is_active before) s one);
          answer = answers_one (by_bytes setup.version) (slice_index_or was.ports node p) seen
              (kept_of (slice_index_or was.drivers node x)) was.bits s (d.act ∷ []) given one
              (ap (λ (a : StepAnswer). a ∷ []) (d.answer_is ∙ sym same));
          left = left_is x p;
        })

  -- a read of a driver that knows addresses and bytes alone
  pub done_as_read : {mid now : SerialValue} {address value : ℕ} {answer : StepAnswer} {kept : UnmodelledRegisters} →
      (d : DoesAct setup was mid node (Read address) answer (with_acts (all_acts step_runs) node [])) →
      Enters mid now node (Value value) kept → by_bytes setup.version ≡ true →
      ((x : LoggedDriver) (p : Registers) → kept ≡ moved_by_answer (kept_of (slice_index_or was.drivers node x))
      answer) →
      ((x : LoggedDriver) (p : Registers) → value ≡ value_by_bytes (slice_index_or was.ports node p)
      (kept_of (slice_index_or was.drivers node x)) seen address) → DoesStep setup was now node (Read address) step_runs
  done_as_read {address = address} {value} {answer} {kept} d e bytes moved value_is =
      step_done h there (this d e moved) (one_act_more there h (no_acts_yet there h) d) refl e (now_is d e moved) refl
      (λ x p. record {
        steps = rw bytes (ap (λ (t : Step). t ∷ []) d.step_is);
        answer = rw bytes (ap Value (value_is x p));
        left = left_is d e moved x p;
      })

  -- what a read is answered by
  pub tells_read : {mid : SerialValue} {address : ℕ} {answer : StepAnswer} →
      (d : DoesAct setup was mid node (Read address) answer (with_acts (all_acts step_runs) node [])) →
      (p : Registers) →
      answer ≡ value_answer (or_no_register (value_at (slice_index_or was.ports node p) seen
      (register_at (slice_index_or was.ports node p).mode.rm address)))
  tells_read {address = address} {answer} d p =
      let tells = (d.port p).tells in
      sym d.answer_is ∙ read_told d.step_is (acts_then there h []) tells
    where
      read_told : {s : Step} {answer : StepAnswer} {before_it : List TypedAct} → s ≡ Read address →
          before_it ≡ before ++ [] →
          Tells s (is_active before_it) (slice_index_or was.ports node p)
          (seen_now (is_active before_it) (journal_at was.bus.journals node) before_it) answer →
          answer ≡ value_answer (or_no_register (value_at (slice_index_or was.ports node p) seen
          (register_at (slice_index_or was.ports node p).mode.rm address)))
      read_told {s} {answer} {before_it} is same told =
          subst (λ (l : List TypedAct). Tells (Read address) (is_active l) (slice_index_or was.ports node p)
          (seen_now (is_active l) (journal_at was.bus.journals node) l) answer) (same ∙ append-nil before)
          (subst (λ (t : Step). Tells t (is_active before_it) (slice_index_or was.ports node p)
          (seen_now (is_active before_it) (journal_at was.bus.journals node) before_it) answer) is told)

  -- a write of such a driver, whose acts these are
  pub done_as_write : {mid now : SerialValue} {address value : ℕ} {answer : StepAnswer} (acts : List TypedAct)
      (w : Written) → DoesActs setup was mid node step_runs acts → Enters mid now node answer w.kept →
      answer ≡ write_answer w.ignored → (place_of (journal_at was.bus.journals node)).bits ≡ was.bits →
      by_bytes setup.version ≡ true →
      ((p : Registers) → map (λ (d : TypedAct). d.step) acts
      ≡ write_steps (slice_index_or was.ports node p) (is_active before) address value) →
      ((x : LoggedDriver) (p : Registers) → w ≡ written_by (written_first was node address value x p) acts) →
      DoesStep setup was now node (Write address value) step_runs
  done_as_write {address = address} {value} {answer} acts w does e told place bytes steps is =
      step_done h there (let a : StepRun = record {
        step = Write address value;
        answer = answer;
        bits = was.bits;
        acts = acts;
      } in a) does refl e place refl (λ x p. record {
        steps = rw bytes (steps p);
        answer = rw bytes (told ∙ ap (λ (v : Written). write_answer v.ignored) (is x p)
            ∙ ap write_answer (ignored_then (written_first was node address value x p) acts));
        left = ap (λ (v : Written). v.kept) (is x p) ∙ kept_then (written_first was node address value x p) acts;
      })

  -- a wait for a bit that has run, of such a driver
  pub done_as_reached : {now : SerialValue} {least : ℕ} {kept : UnmodelledRegisters} →
      Enters was now node DoneAnswer kept →
      (place_of (journal_at was.bus.journals node)).bits ≡ was.bits → by_bytes setup.version ≡ true →
      least ≤ was.bits →
      ((x : LoggedDriver) → kept ≡ kept_of (slice_index_or was.drivers node x)) →
      DoesStep setup was now node (At least) step_runs
  done_as_reached {least = least} e place bytes run left =
      step_done h there (let a : StepRun = record {
        step = At least;
        answer = DoneAnswer;
        bits = was.bits;
        acts = [];
      } in a) (no_acts_yet there h) refl e place refl (λ x p. record {
        steps = rw bytes refl;
        answer = rw bytes (inl (refl, run));
        left = left x;
      })

-- ---- a step that has to wait

pub waits_by : {setup : Setup} {was now : SerialValue} {step_runs : List (List StepRun)} {node : ℕ} {s : Step} →
    StandsBy setup was step_runs → DoesNothing setup was now node s (all_acts step_runs) →
    WaitsFor setup was now node s step_runs
waits_by {setup} {was} {now} {step_runs} {node} h n = record {
  stands = record {
    stands = subst (λ (l : List (List TypedAct)). StandsAt setup now l) (no_acts (all_acts step_runs) node)
        n.does.stands;
    nodes = λ m d p less.
        let w = h.nodes m d p less in
        let port : slice_index_or now.ports m p ≡ slice_index_or was.ports m p =
        ap (λ (l : List Registers). slice_index_or l m p) n.ports in
        rw (n.journals m less, port) (record {
          led = subst (λ (k : UnmodelledRegisters). StepRunsLeadTo setup.version (journal_at was.bus.journals m)
              (step_runs_at step_runs m) k (slice_index_or was.ports m p)) (sym (n.kept m d less)) w.led;
          done = w.done ∙ ap (λ v. v.items) (sym (n.logs m d less));
          room = ap (λ (v : HistoryValue StepRecord). v.room) (n.logs m d less) ∙ w.room;
        });
  };
  nothing = n;
}

-- ---- that there is room

-- where a step more may be done, three acts more may
pub three_left : {setup : Setup} {was : SerialValue} {step_runs : List (List StepRun)} {node : ℕ} →
    StandsBy setup was step_runs → node < setup.nodes →
    length (step_runs_at step_runs node) < most_steps setup.version (slice_index_or setup.steps node 0) →
    (length (acts_in (step_runs_at step_runs node)) < slice_index_or setup.steps node 0)
    × (by_bytes setup.version ≡ true → length (acts_in (step_runs_at step_runs node)) + 3 ≤ slice_index_or setup.steps
    node 0)
three_left {setup} {was} {step_runs} {node} h there few =
    let w = h.nodes node (first_driver was.drivers (let c = h.stands.count.drivers in omega (arith, c, there)))
    (at_power_on 1) there in
    by (by_bytes setup.version) (few_acts setup.version _ (step_runs_at step_runs node) _ _ w.led) few
  where
    by : (bytes : Bool) → length (acts_in (step_runs_at step_runs node))
        ≤ cond bytes (3 * length (step_runs_at step_runs node)) (length (step_runs_at step_runs node)) →
        length (step_runs_at step_runs node)
        < cond bytes (slice_index_or setup.steps node 0 / 3) (slice_index_or setup.steps node 0) →
        (length (acts_in (step_runs_at step_runs node)) < slice_index_or setup.steps node 0)
        × (bytes ≡ true → length (acts_in (step_runs_at step_runs node)) + 3 ≤ slice_index_or setup.steps node 0)
    by true most less = (omega (arith, most, less), λ e. omega (arith, most, less))
    by false most less = (omega (arith, most, less), λ e. absurd cc)

module _ {setup : Setup} {was : SerialValue} {step_runs : List (List StepRun)} {node : ℕ}
    (h : StandsBy setup was step_runs) (room : HasRoomLeft setup was node) where
  some_driver : LoggedDriver
  some_driver = first_driver was.drivers (let c = h.stands.count.drivers in let t = room.there in omega (arith, c, t))

  few_steps : length (step_runs_at step_runs node) < most_steps setup.version (slice_index_or setup.steps node 0)
  few_steps =
      let done = done_count setup was step_runs node some_driver (at_power_on 1) h room.there in
      let left = room.left some_driver in omega (arith, done, left)

  pub acts_left : (length (acts_in (step_runs_at step_runs node)) < slice_index_or setup.steps node 0)
      × (by_bytes setup.version ≡ true →
      length (acts_in (step_runs_at step_runs node)) + 3 ≤ slice_index_or setup.steps node 0)
  acts_left = three_left h room.there few_steps

  pub few_at : length (acts_at (all_acts step_runs) node) < slice_index_or setup.steps node 0
  few_at = let few = acts_left.0 in let e = ap (λ l. length l) (all_at step_runs node) in omega (arith, few, e)

  -- there is room for an act
  pub act_left : HasActLeft setup was node
  act_left = record { acts = all_acts step_runs; stands = h.stands; there = room.there; left = few_at }

  -- the log has room for the step
  pub log_left : (now : SerialValue) → ((d : LoggedDriver) → (log_of (slice_index_or now.drivers node d)).done
      ≡ (log_of (slice_index_or was.drivers node d)).done) → (d : LoggedDriver) →
      length (done_in (log_of (slice_index_or now.drivers node d)))
      < done_room (log_of (slice_index_or now.drivers node d))
  log_left now logs d =
      let left = room.left d in let has = (h.nodes node d (at_power_on 1) room.there).room in
      subst (λ (v : HistoryValue StepRecord). length v.items < v.room) (sym (logs d)) (omega (arith, left, has))

-- a step that is prompt waits for nothing
pub never_waits : (p : Registers) (j : List Entry) (acts : List TypedAct) (s : Step) → IsPrompt s →
    HasToWait p j acts s → ⊥
never_waits p j acts Start prompt waits = waits
never_waits p j acts Stop prompt waits = waits
never_waits p j acts Window prompt waits = waits
never_waits p j acts Release prompt waits = waits
never_waits p j acts (Read address) prompt waits = waits
never_waits p j acts (Write address value) prompt waits = waits
never_waits p j acts (Load m) prompt waits = waits
never_waits p j acts (Command value) prompt waits = waits
never_waits p j acts (Await count) prompt waits = prompt
never_waits p j acts Sent prompt waits = prompt
never_waits p j acts Interrupt prompt waits = prompt
never_waits p j acts (At bits) prompt waits = prompt

-- fewer bits have run than are waited for
pub not_reached : {setup : Setup} {was : SerialValue} {step_runs : List (List StepRun)} {node least : ℕ} →
    StandsBy setup was step_runs → node < setup.nodes →
    (place_of (journal_at was.bus.journals node)).bits ≡ was.bits → by_bytes setup.version ≡ true → was.bits < least →
    WaitsFor setup was was node (At least) step_runs
not_reached {setup} {was} {step_runs} {node} {least} h there place bytes few = waits_by h (record {
  does = does_none setup was node (all_acts step_runs) h.stands;
  why = λ p.
      let d = first_driver was.drivers (let c = h.stands.count.drivers in omega (arith, c, there)) in
      let led = forget setup.version (journal_at was.bus.journals node) (step_runs_at step_runs node) _
      (slice_index_or was.ports node p) (h.nodes node d p there).led in (
        ap by_bytes (version_led setup.version _ _ (slice_index_or was.ports node p) led) ∙ bytes,
        subst (λ (n : ℕ). n < least) (sym place) few,
      );
  ports = refl;
  journals = λ m less. refl;
  logs = λ m d less. refl;
  kept = λ m d less. refl;
})

-- ---- the parts of a write

few_listed : (acts : List TypedAct) (part : Option Step) → map (λ (d : TypedAct). d.step) acts ≡ listed part →
    length acts ≤ 1
few_listed acts part is =
    let many = length-map acts (λ (d : TypedAct). d.step) in let same = ap (λ l. length l) is in
    let most = one_listed part in omega (arith, many, same, most)
  where
    one_listed : (o : Option Step) → length (listed o) ≤ 1
    one_listed None = omega arith
    one_listed (Some s) = omega arith

module _ {setup : Setup} {was : SerialValue} {step_runs : List (List StepRun)} {node : ℕ}
    (h : StandsBy setup was step_runs)
    (room : HasRoomLeft setup was node) (bytes : by_bytes setup.version ≡ true) where
  pub few_first : length (acts_in (step_runs_at step_runs node)) + length (let l : List TypedAct = [] in l)
      < slice_index_or setup.steps node 0
  few_first = let t = (acts_left h room).1 bytes in omega (arith, t)

  pub few_second : {now : SerialValue} {first : Option Step} {begun one_on : Written}
      (one : DoesPart setup was now node step_runs [] first begun one_on) →
      length (acts_in (step_runs_at step_runs node)) + length one.acts < slice_index_or setup.steps node 0
  few_second {first = first} one =
      let t = (acts_left h room).1 bytes in let l = few_listed one.acts first one.steps in omega (arith, t, l)

  pub few_third : {mid now : SerialValue} {first second : Option Step} {begun one_on two_on : Written}
      (one : DoesPart setup was mid node step_runs [] first begun one_on)
      (two : DoesPart setup was now node step_runs one.acts second one_on two_on) →
      length (acts_in (step_runs_at step_runs node)) + length (one.acts ++ two.acts) < slice_index_or setup.steps
      node 0
  few_third {first = first} {second} one two =
      let t = (acts_left h room).1 bytes in let l = few_listed one.acts first one.steps in
      let k = few_listed two.acts second two.steps in let b = length-append one.acts two.acts in
      omega (arith, t, l, k, b)

-- all of them, one after the other
module _ {setup : Setup} {was m1 m2 m3 : SerialValue} {step_runs : List (List StepRun)} {node : ℕ}
    {first second third : Option Step} {w0 w1 w2 w3 : Written}
    (one : DoesPart setup was m1 node step_runs [] first w0 w1)
    (two : DoesPart setup was m2 node step_runs one.acts second w1 w2)
    (three : DoesPart setup was m3 node step_runs (one.acts ++ two.acts) third w2 w3) where
  pub all_steps : map (λ (d : TypedAct). d.step) ((one.acts ++ two.acts) ++ three.acts)
      ≡ listed first ++ (listed second ++ listed third)
  all_steps =
      map-append (λ (d : TypedAct). d.step) (one.acts ++ two.acts) three.acts
      ∙ ap (λ l. l ++ map (λ (d : TypedAct). d.step) three.acts) (map-append (λ (d : TypedAct). d.step) one.acts
      two.acts)
      ∙ (λ i. (one.steps i ++ two.steps i) ++ three.steps i)
      ∙ append_assoc (listed first) (listed second) (listed third)

  pub all_written : w3 ≡ written_by w0 ((one.acts ++ two.acts) ++ three.acts)
  all_written =
      three.left ∙ ap (λ w. written_by w three.acts) (two.left ∙ ap (λ w. written_by w two.acts) one.left
      ∙ sym (written_both w0 one.acts two.acts)) ∙ sym (written_both w0 (one.acts ++ two.acts) three.acts)
