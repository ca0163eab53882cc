-- A run after a bit.
use Rattle.std.proofs.Common.{◌≡◌, ℕ, ◌+◌, ◌<◌, List, length, sym, ap, ◌∙◌, subst, arith}
use Rattle.std.specs.Prelude.{None, slice_index_or}
use Rattle.can_levels.specs.declared.level.Level.TheVariants.{Recessive}
use Rattle.sja_journal.specs.declared.entry.Entry.{Entry}
use Rattle.sja_journal.specs.Sizes.{most_activations}
use Rattle.sja_journal.specs.Accounts.{Account}
use Rattle.sja_link.specs.Deques.{Deques, Lies, AreAlike}
use Rattle.lemmas.specs.Related.{EachRelated}
use Rattle.lemmas.proofs.Lists.{some_of}
use Rattle.sja_regs.specs.declared.registers.Registers.{Registers}
use Rattle.sja_regs.specs.Registers.{at_power_on}
use Rattle.sja_regs.specs.Turns.{after_turn}
use Rattle.sja_bus.specs.Boards.{HasOrders, WasTold, WasKept}
use Rattle.sja_bus_rules.specs.Buses.{KeepsAll, IsBit, untold_at}
use Rattle.sja_bus_rules.specs.Lawful.{IsBusRun}
use Rattle.sja_journal.specs.Links.{Kept}
use Rattle.sja_bus_rules.specs.Wire.{journal_at}
use Rattle.sja_steps.specs.declared.strike.Strike.{Strike}
use Rattle.sja_driver.specs.declared.logged_driver.LoggedDriver.{LoggedDriver}
use Rattle.sja_driver.specs.TypedActs.{TypedAct, acts_at}
use Rattle.sja_driver.specs.LoggedDrivers.{node_of}
use Rattle.sja_serial.specs.Bits.{TakesBit}
use Rattle.sja_journal.specs.BitEntries.{HasOneBit}
use Rattle.sja_promises.specs.Nodes.{IsNode}
use Rattle.sja_promises.specs.Registering.{IsPortBit}
use Rattle.sja_serial.specs.Serial.{Setup, SerialValue, StandsAt}
use Rattle.sja_driver.specs.Shown.{ShowsRecord}
use Rattle.sja_driver.proofs.OneBit.BitAsked.{HasCut}
use Rattle.sja_promises.proofs.OneNode.BitOn.{BitOf, OrdersOf, after_one_bit, one_bit, port_bit, shows}
use Rattle.sja_bus.proofs.AtPorts.OtherWords.{other_node_bit}
use Rattle.sja_serial.proofs.OneNode.Alike.{still_ends, still_starts}

-- each journal of a lawful bus has a cut
pub cuts_of : {script : List Strike} {run : ℕ} {journals : List (List Entry)} → IsBusRun script run journals →
    (m : ℕ) → m < length journals → HasCut (journal_at journals m)
cuts_of h m less = let l = h.lawful m less in record { found = l.found; cut = l.cut }

module _ (setup : Setup) (r n : SerialValue) (acts : List (List TypedAct)) (h : StandsAt setup r acts)
    (right : n.bus.fault ≡ None) (script : n.bus.script ≡ r.bus.script)
    (starts : n.bus.starts ≡ r.bus.starts) (room : n.bus.steps ≡ r.bus.steps)
    (run : n.bus.run ≡ r.bus.run + 1) (left : n.bus.left + 1 ≡ r.bus.left)
    (journals : length n.bus.journals ≡ length r.bus.journals) (drivers_are : n.drivers ≡ r.drivers)
    (bits_are : n.bits ≡ r.bits + 1)
    (ports : length n.ports ≡ length r.ports)
    (kept : KeepsAll Lies r.bus.journals n.bus.journals r.links n.links)
    (sames : EachRelated AreAlike r.links n.links)
    (bit : IsBit (HasOrders r.ports) (WasTold r.ports n.ports) (WasKept r.ports n.ports) r.bus.script r.bus.run
    r.bus.untold r.bus.journals n.bus.journals)
    (cuts : (m : ℕ) → m < length r.bus.journals → HasCut (journal_at r.bus.journals m))
    (lawful : IsBusRun n.bus.script n.bus.run n.bus.journals) where
  inside : (m : ℕ) → m < setup.nodes → m < length r.bus.journals
  inside m less = let c = h.count.journals in omega (arith, c, less)

  module _ (m : ℕ) (d : LoggedDriver) (p : Registers) (l : Deques) (less : m < setup.nodes) where
    here : BitOf (slice_index_or r.ports m p) (slice_index_or n.ports m p) (untold_at r.bus.untold m)
        (journal_at r.bus.journals m) (journal_at n.bus.journals m) (slice_index_or bit.driven m Recessive) (bit.seen m)
    here =
        let p_was = slice_index_or r.ports m p in let p_now = slice_index_or n.ports m p in
        other_node_bit (HasOrders r.ports m) (OrdersOf p_was) (WasTold r.ports n.ports m)
        (λ t. p_now ≡ after_turn p_was t) (WasKept r.ports n.ports m) (p_now ≡ p_was) (untold_at r.bus.untold m)
        (journal_at r.bus.journals m) (journal_at n.bus.journals m) (slice_index_or bit.driven m Recessive)
        (bit.seen m) (λ o x. x p) (λ t x. x p) (λ x. x p) (bit.nodes m (inside m less))

    abbrev after : Deques
    after = slice_index_or n.links m l

    keeps : (acc : ℕ → Account) → Kept Lies (journal_at r.bus.journals m) (slice_index_or r.links m l) acc →
        Kept Lies (journal_at n.bus.journals m) after acc
    keeps acc = kept m l acc (inside m less)

    one : HasOneBit (journal_at r.bus.journals m) (journal_at n.bus.journals m)
    one = one_bit after (h.nodes m d p l less) here keeps

    node_now : IsNode setup.version (slice_index_or setup.steps m 0) (journal_at n.bus.journals m) (acts_at acts m)
        (slice_index_or r.drivers m d) (slice_index_or n.ports m p) after
    node_now = after_one_bit after (h.nodes m d p l less) here keeps (h.shown m p less) (cuts m (inside m less))

    port_now : IsPortBit (slice_index_or r.ports m p) (slice_index_or n.ports m p) (journal_at r.bus.journals m)
        (journal_at n.bus.journals m)
    port_now = port_bit after (h.nodes m d p l less) here keeps (h.shown m p less)

    shows_now : ShowsRecord (journal_at n.bus.journals m) (slice_index_or n.ports m p)
    shows_now = shows after (h.nodes m d p l less) here keeps (h.shown m p less)

  driver_at : (m : ℕ) → m < setup.nodes → LoggedDriver
  driver_at m less = some_of r.drivers m (let c = h.count.drivers in omega (arith, c, less))

  links_at : (m : ℕ) → m < setup.nodes → Deques
  links_at m less = some_of r.links m (let c = h.ends.count in omega (arith, c, less))

  stands_now : StandsAt setup n acts
  stands_now = record {
    right = right;
    script = script ∙ h.script;
    all_bits = let a = h.all_bits in omega (arith, a, run, left);
    bits = let b = h.bits in omega (arith, bits_are, b, run);
    count = record {
      journals = journals ∙ h.count.journals;
      drivers = ap (λ l. length l) drivers_are ∙ h.count.drivers;
      ports = ports ∙ h.count.ports;
    };
    acts_count = h.acts_count;
    may = h.may;
    steps = room ∙ h.steps;
    links = starts ∙ h.links;
    ends = still_ends h.ends sames;
    starts = still_starts (most_activations setup.version) r.links n.links h.starts sames;
    own = λ m d less. ap (λ (l : List LoggedDriver). node_of (slice_index_or l m d)) drivers_are ∙ h.own m d less;
    nodes = λ m d p l less. subst (λ (ds : List LoggedDriver). IsNode setup.version (slice_index_or setup.steps m 0)
        (journal_at n.bus.journals m) (acts_at acts m) (slice_index_or ds m d) (slice_index_or n.ports m p)
        (slice_index_or n.links m l)) (sym drivers_are) (node_now m d p l less);
    shown = λ m p less told. shows_now m (driver_at m less) p (links_at m less) less;
  }

  pub takes_bit : TakesBit setup acts r n
  takes_bit = record {
    stands = stands_now;
    bits = bits_are;
    lawful = subst (λ (l : List Strike). IsBusRun l n.bits n.bus.journals) stands_now.script
        (subst (λ (m : ℕ). IsBusRun n.bus.script m n.bus.journals) (sym stands_now.bits) lawful);
    nodes = λ m less. one m (driver_at m less) (at_power_on setup.version) (links_at m less) less;
    ports = λ m p less. port_now m (driver_at m less) p (links_at m less) less;
    drivers = drivers_are;
  }
