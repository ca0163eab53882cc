-- Recessive bits that are run at once while nothing is taken: each of them is a bit of the run.
use Rattle.std.proofs.Common.{◌≡◌, ℕ, zero, suc, ◌+◌, ◌-◌, ◌<◌, ◌≤◌, Bool, List, []}
use Rattle.std.proofs.Common.{◌∷◌, ◌++◌, length, refl, sym, ap, ◌∙◌, subst, append-nil, arith}
use Rattle.std.specs.Prelude.{false, slice_index_or}
use Rattle.std.proofs.lemmas.List.{length-map}
use Rattle.sja_journal.specs.declared.entry.Entry.{Entry}
use Rattle.sja_journal.specs.Sizes.{most_activations}
use Rattle.sja_journal.specs.Accounts.{Account, account}
use Rattle.sja_link.specs.Deques.{Deques, Lies, AreAlike}
use Rattle.sja_journal.specs.Lists.{Lists}
use Rattle.lemmas.specs.Related.{EachRelated}
use Rattle.lemmas.proofs.Related.{each_refl}
use Rattle.sja_regs.specs.declared.registers.Registers.{Registers}
use Rattle.sja_bus.specs.Boards.{HasOrders, WasTold, WasKept}
use Rattle.sja_bus_rules.specs.Buses.{KeepsAll, untold_at}
use Rattle.sja_journal.specs.Links.{Kept}
use Rattle.sja_bus.specs.Stretches.{recessive_bits, with_recessive, IsStretch}
use Rattle.sja_bus_rules.specs.Wire.{journal_at}
use Rattle.sja_bus.proofs.Resting.QuietBits.{longer_at, account_still}
use Rattle.sja_driver.specs.declared.logged_driver.LoggedDriver.{LoggedDriver}
use Rattle.sja_driver.specs.TypedActs.{TypedAct, acts_at}
use Rattle.sja_driver.proofs.Trace.Stepping.{given_taken}
use Rattle.sja_serial.specs.Bits.{TakesBit, TakesBits}
use Rattle.sja_journal.specs.BitEntries.{HasOneBit}
use Rattle.sja_serial.specs.Bits.TakesBits.{no_bit, one_more}
use Rattle.sja_promises.specs.Nodes.{IsNode}
use Rattle.sja_promises.specs.Registering.{IsPortBit}
use Rattle.sja_serial.specs.Serial.{Setup, SerialValue, StandsAt}
use Rattle.sja_serial.specs.Inside.SerialProgress.{run_now}
use Rattle.sja_driver.specs.Shown.{ShowsRecord}
use Rattle.sja_serial.proofs.OneNode.Alike.{alike_refl, still_ends, still_starts}
use Rattle.sja_serial.proofs.ManyBits.BitRun.{cuts_of, takes_bit}
use Rattle.sja_promises.proofs.OneNode.Gathered.{linked_after, node_with}

-- ---- recessive bits and what the links stand for

pub with_none : (journals : List (List Entry)) → with_recessive 0 journals ≡ journals
with_none [] = refl
with_none (j ∷ journals) = ap (λ x. x ∷ with_recessive 0 journals) (append-nil j) ∙ ap (λ l. j ∷ l) (with_none journals)

account_at : (n : ℕ) (journals : List (List Entry)) (m a : ℕ) (h : Account) → m < length journals →
    account (journal_at (with_recessive n journals) m) a h ≡ account (journal_at journals m) a h
account_at n journals m a h few = ap (λ j. account j a h) (longer_at n journals m few)
    ∙ account_still n (journal_at journals m) a h

-- they stand for the journals with more of them, or fewer
pub keeps_still : (n k : ℕ) (journals : List (List Entry)) (end : Deques) (m : ℕ) (h : ℕ → Account) →
    m < length journals →
    Kept Lies (journal_at (with_recessive n journals) m) end h →
    Kept Lies (journal_at (with_recessive k journals) m) end h
keeps_still n k journals end m h few kept a =
    let same = account_at n journals m (suc a) (h a) few ∙ sym (account_at k journals m (suc a) (h a) few) in
    subst (λ (x : Lists). Lies end (suc a) x) same (kept a)

-- a run after so many of them, with these links, of which this is untold
abbrev pub run_at : SerialValue → List Deques → List Bool → ℕ → SerialValue
run_at r links untold i = run_now (record {
  script = r.bus.script;
  starts = r.bus.starts;
  steps = r.bus.steps;
  run = r.bus.run + i;
  left = r.bus.left - i;
  fault = r.bus.fault;
  journals = with_recessive i r.bus.journals;
  untold = untold;
}) r.drivers r.ports links (r.bits + i)

-- ---- a run whose links were looked at, and nothing was taken

module _ (setup : Setup) (r : SerialValue) (acts : List (List TypedAct)) (h : StandsAt setup r acts)
    (links : List Deques)
    (sames : EachRelated AreAlike r.links links)
    (kept : KeepsAll Lies r.bus.journals r.bus.journals r.links links) where
  module _ (m : ℕ) (d : LoggedDriver) (p : Registers) (l : Deques) (less : m < setup.nodes) where
    abbrev j : List Entry
    j = journal_at r.bus.journals m

    abbrev ds : List TypedAct
    ds = acts_at acts m

    was : IsNode setup.version (slice_index_or setup.steps m 0) j ds (slice_index_or r.drivers m d)
        (slice_index_or r.ports m p) (slice_index_or r.links m l)
    was = h.nodes m d p l less

    node_still : IsNode setup.version (slice_index_or setup.steps m 0) j ds (slice_index_or r.drivers m d)
        (slice_index_or r.ports m p) (slice_index_or links m l)
    node_still = node_with was was.traced (linked_after (slice_index_or r.drivers m d) was.linked.holds
        (λ acc. kept m l acc (let c = h.count.journals in omega (arith, c, less)))
        (λ a. given_taken ds j a (was.in_time.when a)) was.linked.level)

  -- it stands where it stood, where nothing more is told
  pub stands_still : (untold : List Bool) → ((m : ℕ) → m < setup.nodes → untold_at untold m ≡ false →
      untold_at r.bus.untold m ≡ false) → StandsAt setup (run_at r links untold 0) acts
  stands_still untold told = let same = sym (with_none r.bus.journals) in record {
    right = h.right;
    script = h.script;
    all_bits = let a = h.all_bits in omega (arith, a);
    bits = let b = h.bits in omega (arith, b);
    count = record {
      journals = ap (λ l. length l) (with_none r.bus.journals) ∙ h.count.journals;
      drivers = h.count.drivers;
      ports = h.count.ports;
    };
    acts_count = h.acts_count;
    may = h.may;
    steps = h.steps;
    links = h.links;
    ends = still_ends h.ends sames;
    starts = still_starts (most_activations setup.version) r.links links h.starts sames;
    own = h.own;
    nodes = λ m d p l less. subst (λ (js : List (List Entry)). IsNode setup.version (slice_index_or setup.steps m 0)
        (journal_at js m) (acts_at acts m) (slice_index_or r.drivers m d) (slice_index_or r.ports m p)
        (slice_index_or links m l)) same (node_still m d p l less);
    shown = λ m p less none. subst (λ (l : List (List Entry)). ShowsRecord (journal_at l m)
        (slice_index_or r.ports m p)) same (h.shown m p less (told m less none));
  }

  -- ---- the bits

  module _ (count : ℕ) (after : List (List Entry)) (most : count ≤ r.bus.left)
      (stretch : IsStretch (HasOrders r.ports) (WasTold r.ports r.ports) (WasKept r.ports r.ports) r.bus.script
      r.bus.run count r.bus.untold r.bus.journals after) where
    abbrev at : List Bool → ℕ → SerialValue
    at untold i = run_at r links untold i

    inside : (i m : ℕ) → m < length (with_recessive i r.bus.journals) → m < length r.bus.journals
    inside i m few = let c = length-map r.bus.journals (λ j. j ++ recessive_bits i) in omega (arith, few, c)

    first : StandsAt setup (at r.bus.untold 0) acts
    first = stands_still r.bus.untold (λ m less e. e)

    takes : (untold : List Bool) (i : ℕ) → i < count → StandsAt setup (at r.bus.untold i) acts →
        TakesBit setup acts (at r.bus.untold i) (at untold (suc i))
    takes untold i early stood =
        let a = length-map r.bus.journals (λ j. j ++ recessive_bits i) in
        let b = length-map r.bus.journals (λ j. j ++ recessive_bits (suc i)) in
        takes_bit setup (at r.bus.untold i) (at untold (suc i)) acts stood h.right refl refl refl (omega arith)
        (omega (arith, early, most)) (omega (arith, a, b)) refl (omega arith) refl
        (λ m l acc few kept. keeps_still i (suc i) r.bus.journals (slice_index_or links m l) m acc (inside i m few)
        kept) (each_refl AreAlike alike_refl links) (stretch.bits i early)
        (cuts_of (stretch.lawful i (omega (arith, early)))) (stretch.lawful (suc i) early)

    stands : (i : ℕ) → i ≤ count → StandsAt setup (at r.bus.untold i) acts
    stands zero early = first
    stands (suc i) early = (takes r.bus.untold i (omega (arith, early)) (stands i (omega (arith, early)))).stands

    -- the first, from the run as it was
    one_first : (untold : List Bool) → 0 < count → TakesBit setup acts r (at untold 1)
    one_first untold early =
        let t = takes untold 0 early first in record {
          stands = t.stands;
          bits = omega arith;
          lawful = t.lawful;
          nodes = λ m less. subst (λ (l : List (List Entry)). HasOneBit (journal_at l m)
              (journal_at (with_recessive 1 r.bus.journals) m)) (with_none r.bus.journals) (t.nodes m less);
          ports = λ m p less. subst (λ (l : List (List Entry)). IsPortBit (slice_index_or r.ports m p)
              (slice_index_or r.ports m p) (journal_at l m) (journal_at (with_recessive 1 r.bus.journals) m))
              (with_none r.bus.journals) (t.ports m p less);
          drivers = refl;
        }

    chain : (untold : List Bool) (i : ℕ) → i < count →
        TakesBits setup acts (λ x. Unit {0}) r (suc i) (at untold (suc i))
    chain untold zero early = one_more r r (at untold 1) 0 (no_bit r) tt (one_first untold early)
    chain untold (suc i) early =
        one_more r (at r.bus.untold (suc i)) (at untold (suc (suc i))) (suc i)
        (chain r.bus.untold i (omega (arith, early))) tt
        (takes untold (suc i) early (stands (suc i) (omega (arith, early))))

    -- all of them, where there are any
    pub all_at_once : (untold : List Bool) (k : ℕ) → count ≡ suc k →
        TakesBits setup acts (λ x. Unit {0}) r count (at untold count)
    all_at_once untold k e = subst (λ (n : ℕ). TakesBits setup acts (λ x. Unit {0}) r n (at untold n)) (sym e)
        (chain untold k (omega (arith, e)))
