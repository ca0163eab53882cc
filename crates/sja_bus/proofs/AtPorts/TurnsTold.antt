-- Which turns of a bit are told to the ports.
use Rattle.std.proofs.Common.{◌≡◌, ◌≢◌, ◌+◌, ◌<◌, Bool, true, false, None, List, [], ◌∷◌, ◌++◌, length}
use Rattle.std.proofs.Common.{refl, sym, ap, ◌∙◌, subst, append-nil, arith, inl, inr}
use Rattle.std.specs.Prelude.{◌⊎◌}
use Rattle.can_levels.specs.declared.level.Level.{Level}
use Rattle.can_node.specs.Stands.{Samples}
use Rattle.sja_journal.specs.declared.entry.Entry.{Entry}
use Rattle.sja_journal.specs.declared.up.Up.{Up}
use Rattle.sja_journal.specs.declared.entry.Entry.TheVariants.{Bit, Up as Item, Abort}
use Rattle.sja_journal.specs.Places.{place_of}
use Rattle.sja_regs.specs.declared.bus_turn.BusTurn.{BusTurn}
use Rattle.sja_journal.specs.BitEntries.{MayHaveItems, HasBit, judged_as, off_as}
use Rattle.sja_bus_rules.specs.Telling.{IsTurn, SaysAlone}
use Rattle.sja_bus.specs.declared.pending_event.PendingEvent.{PendingEvent}
use Rattle.sja_bus.specs.declared.pending_event.PendingEvent.TheVariants.{Nothing, Changed, Dropped}
use Rattle.sja_bus.specs.declared.bus_node.BusNode.{BusNode}
use Rattle.sja_bus.specs.declared.bit_outcome.BitOutcome.{BitOutcome}
use Rattle.sja_bus.specs.UntilTold.{IsLastTurn}
use Rattle.sja_bus.specs.Inside.Following.{open_in}
use Rattle.sja_bus.specs.Inside.BusNodes.{IsReady}
use Rattle.sja_bus.specs.Inside.Turning.{IsIdleBit, IsQuietBit, Drops, TakesUntold, AbortsUntold, OpensUntold, Brings}
use Rattle.sja_bus.specs.Inside.Turning.{TurnOf, Turns, is_dropped}
use Rattle.std.proofs.lemmas.List.{length-append}
use Rattle.sja_bus.proofs.AtPorts.Turning.{turn_is, still, still_alone, still_turn}

pub not_dropped : (n : PendingEvent) → n ≢ Dropped → is_dropped n ≡ false
not_dropped Nothing h = refl
not_dropped Changed h = refl
not_dropped Dropped h = absurd (h refl)

-- no abort changed the node
pub drops_none : (j : List Entry) (n : PendingEvent) → n ≢ Dropped → Drops false j (is_dropped n)
drops_none j n h found cut = not_dropped n h

calm_not : (s : BusNode) → s.untold ≡ Nothing → s.untold ≢ Dropped
calm_not s calm e = let wrong : Nothing ≡ Dropped = sym calm ∙ e in cc

-- an item more was taken
pub takes_one : (old mid new : BusNode) → new.untold ≡ Changed → (u : Up) → new.journal.entries ≡ mid.journal.entries
    ++ Item u ∷ [] → TakesUntold old mid → TakesUntold old new
takes_one old mid new untold u whole h = inr (untold, more h)
  where
    longer : length new.journal.entries ≡ length mid.journal.entries + 1
    longer = ap (λ (l : List Entry). length l) whole ∙ length-append mid.journal.entries (Item u ∷ [])

    more : TakesUntold old mid → length old.journal.entries < length new.journal.entries
    more (inl (n, same)) = let l = ap (λ (x : List Entry). length x) same in omega (arith, l, longer)
    more (inr (n, few)) = omega (arith, few, longer)

-- an abort that changed the node, and none
pub aborts_none : (old new : BusNode) → new.untold ≡ old.untold →
    new.journal.entries ≡ old.journal.entries → AbortsUntold old new
aborts_none old new untold same = record {
  aborts = record { changed = false; whole = same ∙ sym (append-nil old.journal.entries) };
  still = λ e. (sym untold ∙ e, same);
  drops = λ ne. drops_none new.journal.entries new.untold (λ e. ne (sym untold ∙ e));
}

pub aborts_one : (old new : BusNode) (untold : PendingEvent) → new.untold ≡ untold → untold ≢ Nothing →
    new.journal.entries ≡ old.journal.entries ++ Abort ∷ [] →
    Drops true (old.journal.entries ++ Abort ∷ []) (is_dropped untold) → AbortsUntold old new
aborts_one old new untold is some whole drops =
    let P : PendingEvent → Type 0 = λ n. Drops true (old.journal.entries ++ Abort ∷ []) (is_dropped n) in
    let Q : List Entry → Type 0 = λ l. Drops true l (is_dropped new.untold) in record {
      aborts = record { changed = true; whole = whole };
      still = λ e. absurd (some (sym is ∙ e));
      drops = λ ne. subst Q (sym whole) (subst P (sym is) drops);
    }

pub takes_then : (old mid new : BusNode) → TakesUntold old mid → MayHaveItems old.journal.entries mid.journal.entries →
    AbortsUntold mid new → OpensUntold old new
takes_then old mid new takes items h = record {
  taken = mid.journal.entries;
  items = items;
  aborts = h.aborts;
  still = λ e. was takes (h.still e);
  drops = λ ne. h.drops (calm takes ne);
}
  where
    was : TakesUntold old mid → (mid.untold ≡ Nothing) × (new.journal.entries ≡ mid.journal.entries) →
        (old.untold ≡ Nothing) × (new.journal.entries ≡ old.journal.entries)
    was (inl (n, j)) s = (sym n ∙ s.0, s.1 ∙ j)
    was (inr (n, l)) s = let wrong : Changed ≡ Nothing = sym n ∙ s.0 in absurd cc

    calm : TakesUntold old mid → old.untold ≢ Dropped → mid.untold ≢ Dropped
    calm (inl (n, j)) ne e = ne (sym n ∙ e)
    calm (inr (n, l)) ne e = let wrong : Changed ≡ Dropped = sym n ∙ e in cc

-- ---- one bit of a bus node

-- nothing happened, and nothing was to be told
pub quiet_turns : (was_told : BusTurn → Type 0) (was_kept : Type 0) (seen : Level) (old new : BusNode) → was_kept →
    IsReady old → IsQuietBit seen old new →
    Turns was_told was_kept seen old new
quiet_turns was_told was_kept seen old new kept ready quiet =
    let j = old.journal.entries in let k = new.journal.entries in let one = j ++ Bit old.drives seen ∷ [] in
    let bit : HasBit j old.drives seen k = record {
      verdict = None;
      off = false;
      whole = quiet.whole
          ∙ sym (append-nil one) ∙ sym (append-nil (one ++ []));
    } in record {
      bit = bit;
      turn = still old.node j;
      is_turn = λ changed drops.
          still_turn old.node new.node j k old.drives seen bit changed (is_dropped old.untold) ready.drives
          quiet.samples quiet.shows ready.sound.follows quiet.whole refl refl (ap is_dropped quiet.untold) drops;
      port = inr (kept, quiet.untold, still_alone old.node j ready.sound.follows);
      told = quiet.told;
    }

-- the same by the journal alone
pub idle_bit : (seen : Level) (old new : BusNode) → IsReady old → IsQuietBit seen old new → IsIdleBit seen old new
idle_bit seen old new ready quiet =
    let j = old.journal.entries in let one = j ++ Bit old.drives seen ∷ [] in
    let bit : HasBit j old.drives seen one = record {
      verdict = None;
      off = false;
      whole = sym (append-nil one) ∙ sym (append-nil (one ++ []));
    } in record {
      tells = record {
        bit = bit;
        turn = still old.node j;
        is = still_turn old.node new.node j one old.drives seen bit false (is_dropped old.untold) ready.drives
            quiet.samples quiet.shows ready.sound.follows refl refl refl (ap is_dropped quiet.untold)
            (drops_none j old.untold (calm_not old quiet.untold));
        alone = still_alone old.node j ready.sound.follows;
      };
      whole = quiet.whole;
    }

-- the port is told the turn of the bit, or passed over
unfoldable pub full_turns : (was_told : BusTurn → Type 0) (was_kept : Type 0) (seen : Level) (old s : BusNode)
    (outcome : BitOutcome) (turn : BusTurn) →
    was_told turn ⊎ (was_kept × (old.untold ≡ Nothing) × SaysAlone old.journal.entries turn) →
    IsReady old → s.untold ≡ old.untold →
    Samples old.node s.node seen outcome.events → Brings old.journal.entries old.drives seen outcome s.journal.entries →
    (place_of s.journal.entries).activation ≡ s.ended + open_in s.activity →
    TurnOf s outcome.events outcome.overrun turn →
    Turns was_told was_kept seen old (record s { untold = Nothing })
full_turns was_told was_kept seen old s outcome turn port ready untold samples brings begun t = record {
  bit = brings.bit;
  turn = turn;
  is_turn = λ changed drops.
      turn_is old.node s.node old.journal.entries s.journal.entries old.drives seen outcome.events brings.bit changed
      (is_dropped old.untold) turn ready.drives samples ready.sound.follows brings.off
      t.events_are (t.activation ∙ sym begun) t.counters t.phase (t.overrun_is ∙ brings.overrun)
      (t.aborted ∙ ap is_dropped untold) drops;
  port = port;
  told = refl;
}

-- where all was told, and the turn says more than what stood before the bit, it is told as the turn of the last bit
pub last_turn : {was_told : BusTurn → Type 0} {was_kept : Type 0} {seen : Level} {old new : BusNode} →
    old.untold ≡ Nothing → (h : Turns was_told was_kept seen old new) →
    (SaysAlone old.journal.entries h.turn → ⊥) → IsLastTurn new.journal.entries h.turn
last_turn {seen = seen} {old = old} calm h more = record {
  before = old.journal.entries;
  driven = old.drives;
  seen = seen;
  bit = h.bit;
  is = h.is_turn false (drops_none old.journal.entries old.untold (calm_not old calm));
  more = more;
}

-- where it says no more, and no message was judged and the node didn't go bus-off, the bit brought nothing
pub idle_turn : {was_told : BusTurn → Type 0} {was_kept : Type 0} {seen : Level} {old new : BusNode} →
    old.untold ≡ Nothing → (h : Turns was_told was_kept seen old new) → SaysAlone old.journal.entries h.turn →
    h.bit.verdict ≡ None → h.bit.off ≡ false → IsIdleBit seen old new
idle_turn {seen = seen} {old = old} {new = new} calm h alone none on = record {
  tells = record { bit = moved.0; turn = h.turn; is = moved.1; alone = alone };
  whole = whole;
}
  where
    one : List Entry
    one = old.journal.entries ++ Bit old.drives seen ∷ []

    whole : new.journal.entries ≡ one
    whole = h.bit.whole ∙ ap (λ v. (one ++ judged_as v) ++ off_as h.bit.off) none
        ∙ ap (λ (o : Bool). (one ++ []) ++ off_as o) on ∙ append-nil (one ++ []) ∙ append-nil one

    moved : (b : HasBit old.journal.entries old.drives seen one)
        × IsTurn false old.journal.entries old.drives seen one b h.turn
    moved = subst (λ (k : List Entry). (b : HasBit old.journal.entries old.drives seen k)
        × IsTurn false old.journal.entries old.drives seen k b h.turn) whole
        (h.bit, h.is_turn false (drops_none old.journal.entries old.untold (calm_not old calm)))

-- the same by what else was done at the ports
pub turns_by : {was_told had_told : BusTurn → Type 0} {was_kept had_kept : Type 0} {seen : Level} {old new : BusNode} →
    ((turn : BusTurn) → was_told turn → had_told turn) → (was_kept → had_kept) →
    Turns was_told was_kept seen old new → Turns had_told had_kept seen old new
turns_by {was_told = was_told} {had_told = had_told} {was_kept = was_kept} {had_kept = had_kept} {old = old} f g h =
    record { bit = h.bit; turn = h.turn; is_turn = h.is_turn; port = port h.port; told = h.told }
  where
    port : was_told h.turn ⊎ (was_kept × (old.untold ≡ Nothing) × SaysAlone old.journal.entries h.turn) →
        had_told h.turn ⊎ (had_kept × (old.untold ≡ Nothing) × SaysAlone old.journal.entries h.turn)
    port (inl told) = inl (f h.turn told)
    port (inr kept) = inr (g kept.0, kept.1, kept.2)
