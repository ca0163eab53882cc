-- Two runs in one thread that are alike are alike after a bit.
use Rattle.std.proofs.Common.{◌≡◌, ◌<◌, ℕ, List, [], ◌∷◌, ◌++◌, length, sym, ap, ◌∙◌, subst, arith}
use Rattle.std.proofs.Common.{append-nil}
use Rattle.std.specs.Prelude.{slice_index_or}
use Rattle.std.proofs.lemmas.List.{ext_get_or}
use Rattle.can_levels.specs.declared.level.Level.TheVariants.{Recessive}
use Rattle.can_node_rules.specs.Bits.{Bit as Levels, recessive_bit}
use Rattle.lemmas.proofs.Gathered.{gathered_append}
use Rattle.sja_journal.specs.declared.entry.Entry.{Entry}
use Rattle.sja_journal.specs.declared.entry.Entry.TheVariants.{Bit}
use Rattle.sja_journal.specs.BitEntries.{abort_as, judged_as, off_as}
use Rattle.sja_journal.specs.Carried.{bit_in, bits_of}
use Rattle.sja_journal.specs.Places.{JournalPlace, place_of}
use Rattle.sja_journal.proofs.JournalEntries.Entering.{bits_counted}
use Rattle.sja_regs.specs.Registers.{at_power_on}
use Rattle.sja_regs.specs.declared.registers.Registers.{Registers}
use Rattle.sja_bus_rules.specs.Wire.{bit_at, journal_at}
use Rattle.sja_driver.specs.TypedActs.{TypedAct}
use Rattle.sja_driver.proofs.OneBit.BitAsked.{place_abort}
use Rattle.sja_promises.specs.Registering.{IsPortBit}
use Rattle.sja_promises.proofs.NodeLog.Onward.{bits_bit}
use Rattle.sja_serial.specs.Bits.{TakesBit}
use Rattle.sja_serial.specs.Serial.{Setup, SerialValue}
use Rattle.sja_laws.specs.LongerJournals.{GoesOn}
use Rattle.sja_laws.proofs.AllNodes.OneWire.{levels_once}
use Rattle.sja_laws.proofs.Journals.LastBits.{bit_whole}
use Rattle.sja_laws.proofs.OneNode.Coming.{at_end}
use Rattle.sja_laws.proofs.OneNode.OneBit.{IsOneMore, bit_once, driven_alike}

-- the levels of the bit that comes after so many
level_there : {j k : List Entry} {p q : Registers} (b : IsPortBit p q j k) (bits : ℕ) → (place_of j).bits ≡ bits →
    bit_at bits k ≡ record { driven = b.driven; seen = b.seen }
level_there {j} {k} b bits is =
    let opened = j ++ abort_as b.changed in
    let brought = judged_as b.bit.verdict ++ off_as b.bit.off in
    let levels : Levels = record { driven = b.driven; seen = b.seen } in
    let parts : bits_of k ≡ bits_of opened ++ levels ∷ bits_of brought =
    ap bits_of (bit_whole opened k b.driven b.seen b.bit)
    ∙ gathered_append bit_in opened (Bit b.driven b.seen ∷ brought) in
    let long : bits ≡ length (bits_of opened) =
    sym is ∙ sym (ap (λ (s : JournalPlace). s.bits) (place_abort j b.changed)) ∙ bits_counted opened in
    ap (λ n. slice_index_or (bits_of k) n (recessive_bit Recessive)) long
    ∙ ap (λ l. slice_index_or l (length (bits_of opened)) (recessive_bit Recessive)) parts
    ∙ at_end (bits_of opened) (bits_of brought) levels (recessive_bit Recessive)

-- a journal goes on as itself
on : (j : List Entry) → GoesOn j j
on j = record { rest = []; is = sym (append-nil j); later = tt }

-- two runs have the same journals, registers and bits
pub record AreAlike (r s : SerialValue) : Type 0 where
  pub journals : r.bus.journals ≡ s.bus.journals
  pub ports : r.ports ≡ s.ports
  pub bits : r.bits ≡ s.bits

module _ {setup : Setup} {acts others : List (List TypedAct)} {r s n m : SerialValue} (alike : AreAlike r s)
    (a : TakesBit setup acts r n) (b : TakesBit setup others s m) where
  abbrev port_in : List Registers → ℕ → Registers
  port_in ports k = slice_index_or ports k (at_power_on 1)

  module _ (k : ℕ) (less : k < setup.nodes) where
    one : IsPortBit (port_in r.ports k) (port_in n.ports k) (journal_at r.bus.journals k) (journal_at n.bus.journals k)
    one = a.ports k (at_power_on 1) less

    two : IsPortBit (port_in r.ports k) (port_in m.ports k) (journal_at r.bus.journals k) (journal_at m.bus.journals k)
    two =
        let P : List Registers → Type 0 = λ l. IsPortBit (port_in l k) (port_in m.ports k)
        (journal_at r.bus.journals k) (journal_at m.bus.journals k) in
        let Q : List (List Entry) → Type 0 = λ l. IsPortBit (port_in s.ports k) (port_in m.ports k)
        (journal_at l k) (journal_at m.bus.journals k) in
        subst P (sym alike.ports) (subst Q (sym alike.journals) (b.ports k (at_power_on 1) less))

    in_one : k < length n.bus.journals
    in_one = let c = a.stands.count.journals in omega (arith, c, less)

    in_two : k < length m.bus.journals
    in_two = let c = b.stands.count.journals in omega (arith, c, less)

    bits_were : (place_of (journal_at r.bus.journals k)).bits ≡ r.bits
    bits_were =
        let more = bits_bit (journal_at r.bus.journals k) (journal_at n.bus.journals k) (a.nodes k less) in
        let now = a.lawful.wired.count k in_one in
        let was = a.bits in
        let counted = bits_counted (journal_at r.bus.journals k) in
        omega (arith, more, now, was, counted)

    driven_so : one.driven ≡ two.driven
    driven_so = driven_alike (journal_at r.bus.journals k) (journal_at n.bus.journals k) (journal_at m.bus.journals k)
        (port_in r.ports k) (port_in n.ports k) (port_in m.ports k) one two (journal_at n.bus.journals k)
        (journal_at m.bus.journals k) (a.lawful.lawful k in_one) (b.lawful.lawful k in_two)
        (on (journal_at n.bus.journals k)) (on (journal_at m.bus.journals k))

    at_one : bit_at r.bits (journal_at n.bus.journals k) ≡ record { driven = one.driven; seen = one.seen }
    at_one = level_there one r.bits bits_were

    at_two : bit_at r.bits (journal_at m.bus.journals k) ≡ record { driven = two.driven; seen = two.seen }
    at_two = level_there two r.bits bits_were

  long : length n.bus.journals ≡ length m.bus.journals
  long = a.stands.count.journals ∙ sym b.stands.count.journals

  module _ (k : ℕ) (less : k < setup.nodes) where
    seen_so : (one k less).seen ≡ (two k less).seen
    seen_so =
        let x = a.bits in let y = b.bits in let z = alike.bits in let c = a.stands.count.journals in
        sym (ap (λ (l : Levels). l.seen) (at_one k less))
        ∙ levels_once setup.strikes n.bits m.bits r.bits k n.bus.journals m.bus.journals a.lawful.wired b.lawful.wired
        long (omega (arith, x)) (omega (arith, y, z)) (in_one k less) (in_two k less)
        (λ i there.
        let here : i < setup.nodes = omega (arith, there, c) in
        ap (λ (l : Levels). l.driven) (at_one i here) ∙ driven_so i here
        ∙ sym (ap (λ (l : Levels). l.driven) (at_two i here)))
        ∙ ap (λ (l : Levels). l.seen) (at_two k less)

    more : IsOneMore (journal_at n.bus.journals k) (journal_at m.bus.journals k) (port_in n.ports k)
        (port_in m.ports k)
    more = bit_once (journal_at r.bus.journals k) (journal_at n.bus.journals k) (journal_at m.bus.journals k)
        (port_in r.ports k) (port_in n.ports k) (port_in m.ports k) (one k less) (two k less)
        (journal_at n.bus.journals k) (journal_at m.bus.journals k) (a.lawful.lawful k (in_one k less))
        (b.lawful.lawful k (in_two k less)) (on (journal_at n.bus.journals k)) (on (journal_at m.bus.journals k))
        seen_so

  -- so they are alike after the bit
  pub alike_after : AreAlike n m
  alike_after =
      let c = a.stands.count.journals in let p = a.stands.count.ports in let q = b.stands.count.ports in
      let x = a.bits in let y = b.bits in let z = alike.bits in record {
        journals = ext_get_or [] n.bus.journals m.bus.journals long
            (λ k few. (more k (omega (arith, few, c))).entries);
        ports = ext_get_or (at_power_on 1) n.ports m.ports (p ∙ sym q) (λ k few. (more k (omega (arith, few, p))).port);
        bits = omega (arith, x, y, z);
      }
