-- Bits of a run that are run at once, however many they are: each of them is a bit of the run.
use Rattle.std.proofs.Common.{◌≡◌, ℕ, zero, suc, ◌+◌, ◌-◌, ◌<◌, ◌≤◌}
use Rattle.std.proofs.Common.{List, [], length, refl, sym, ◌∙◌, subst, arith}
use Rattle.std.specs.Prelude.{◌≢◌, None, slice_index_or}
use Rattle.std.proofs.lemmas.List.{ext_get_or}
use Rattle.sja_journal.specs.declared.entry.Entry.{Entry}
use Rattle.sja_journal.specs.Accounts.{Account}
use Rattle.sja_link.specs.Deques.{Lies, AreAlike, up_on}
use Rattle.lemmas.specs.Related.{EachRelated}
use Rattle.lemmas.proofs.Lists.{some_of}
use Rattle.sja_regs.specs.Registers.{at_power_on}
use Rattle.sja_bus.specs.Boards.{HasOrders, WasTold, WasKept}
use Rattle.sja_bus_rules.specs.Buses.{EachJournal, KeepsAll, EachUntold}
use Rattle.sja_journal.specs.BitEntries.{MayHaveItems}
use Rattle.sja_journal.specs.Links.{Kept}
use Rattle.sja_bus.specs.Stretches.{with_recessive, IsStretch}
use Rattle.sja_bus_rules.specs.Wire.{journal_at}
use Rattle.sja_driver.specs.TypedActs.{TypedAct, given_in, acts_of, acts_at}
use Rattle.sja_driver.proofs.Trace.Stepping.{given_taken}
use Rattle.sja_serial.specs.Bits.{TakesBits}
use Rattle.sja_serial.specs.Inside.SerialProgress.{TakesAtOnce, run_now}
use Rattle.sja_serial.specs.Serial.{Setup, SerialValue, StandsAt}
use Rattle.sja_driver.proofs.Account.Dry.{none_taken}
use Rattle.sja_serial.proofs.WholeRun.GoingOn.{stands_bits}
use Rattle.sja_serial.proofs.OneNode.Standing.{none_untold}
use Rattle.sja_serial.proofs.ManyBits.StillBits.{with_none, keeps_still, run_at, stands_still, all_at_once}

module _ (setup : Setup) (r n : SerialValue) (acts : List (List TypedAct)) (h : StandsAt setup r acts)
    (right : n.bus.fault ≡ None) (script : n.bus.script ≡ r.bus.script)
    (starts : n.bus.starts ≡ r.bus.starts) (room : n.bus.steps ≡ r.bus.steps)
    (journals : length n.bus.journals ≡ length r.bus.journals)
    (drivers : n.drivers ≡ r.drivers) (ports : n.ports ≡ r.ports)
    (sames : EachRelated AreAlike r.links n.links)
    (kept : KeepsAll Lies r.bus.journals n.bus.journals r.links n.links) where
  -- no item waited
  none_came : EachJournal MayHaveItems r.bus.journals n.bus.journals → n.bus.journals ≡ r.bus.journals
  none_came items = sym (ext_get_or [] r.bus.journals n.bus.journals (sym journals) (λ m few. sym (
      let c = h.count.journals in let less : m < setup.nodes = omega (arith, c, few) in
      let d = some_of r.drivers m (let k = h.count.drivers in omega (arith, k, less)) in
      let j = journal_at r.bus.journals m in let ds = acts_at acts m in
      let l = some_of r.links m (let k = h.ends.count in omega (arith, k, less)) in
      let node = h.nodes m d (at_power_on setup.version) l less in
      let acc : ℕ → Account = λ a. record { got = node.linked.holds.got a; given = given_in (acts_of ds (suc a)) } in
      none_taken j (journal_at n.bus.journals m) (items m few) (λ a. given_in (acts_of ds (suc a)))
      (λ a. given_taken ds j (suc a) (node.in_time.when (suc a)))
      (λ a. up_on (slice_index_or n.links m l) (suc a))
      (λ a. (kept m l acc few node.linked.holds.kept a).up))))

  -- the links stand for the journals as they were
  kept_back : (count : ℕ) → n.bus.journals ≡ with_recessive count r.bus.journals →
      KeepsAll Lies r.bus.journals r.bus.journals r.links n.links
  kept_back count grown m l acc few before =
      let end = slice_index_or n.links m l in
      let P : List (List Entry) → Type 0 = λ js. Kept Lies (journal_at js m) end acc in
      subst P (with_none r.bus.journals)
      (keeps_still count 0 r.bus.journals end m acc few (subst P grown (kept m l acc few before)))

  -- the run after them is this one
  is_run : (count : ℕ) → n.bus.run ≡ r.bus.run + count → n.bus.left + count ≡ r.bus.left → n.bits ≡ r.bits + count →
      n.bus.journals ≡ with_recessive count r.bus.journals → run_at r n.links n.bus.untold count ≡ n
  is_run count run left bits grown = let less : r.bus.left - count ≡ n.bus.left = omega (arith, left) in
      λ i. run_now (record {
        script = sym script i;
        starts = sym starts i;
        steps = sym room i;
        run = sym run i;
        left = less i;
        fault = (h.right ∙ sym right) i;
        journals = sym grown i;
        untold = n.bus.untold;
      }) (sym drivers i) (sym ports i) n.links (sym bits i)

  pub takes_at_once : (most count : ℕ) → count ≤ most → n.bus.run ≡ r.bus.run + count →
      n.bus.left + count ≡ r.bus.left → n.bits ≡ r.bits + count →
      (count ≡ 0 → EachJournal MayHaveItems r.bus.journals n.bus.journals) →
      (count ≡ 0 → EachUntold r.bus.untold n.bus.untold r.bus.journals n.bus.journals) →
      (count ≢ 0 → IsStretch (HasOrders r.ports) (WasTold r.ports r.ports) (WasKept r.ports r.ports) r.bus.script
      r.bus.run count r.bus.untold r.bus.journals n.bus.journals) →
      TakesAtOnce setup acts r n most count
  takes_at_once most zero within run left bits items untold stretch =
      let same = none_came (items refl) in let grown = same ∙ sym (with_none r.bus.journals) in
      let stood = stands_still setup r acts h n.links sames (kept_back 0 grown) n.bus.untold (λ m less e.
      let c = h.count.journals in let few : m < length r.bus.journals = omega (arith, c, less) in
      (none_untold (items refl m few) (untold refl m few) e).0) in record {
        within = within;
        stands = subst (λ (x : SerialValue). StandsAt setup x acts) (is_run 0 run left bits grown) stood;
        none = λ zero. record { bits = omega (arith, bits); journals = same; ports = ports; drivers = drivers };
        some = λ ne. absurd (ne refl);
      }
  takes_at_once most (suc k) within run left bits items untold stretch =
      let s = stretch (λ z. absurd (omega (arith, z))) in
      let all = all_at_once setup r acts h n.links sames (kept_back (suc k) s.grown) (suc k) n.bus.journals
      (omega (arith, left)) s n.bus.untold k refl in
      let taken = subst (λ (x : SerialValue). TakesBits setup acts (λ y. Unit {0}) r (suc k) x)
      (is_run (suc k) run left bits s.grown) all in record {
        within = within;
        stands = stands_bits setup acts _ r n (suc k) taken h;
        none = λ zero. absurd (omega (arith, zero));
        some = λ ne. taken;
      }
