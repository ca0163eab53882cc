-- One bit of a controller, at its links and its port.
use Rattle.std.proofs.Common.{◌≡◌, ◌+◌, ℕ, Bool, true, false, refl, sym, ap, ◌∙◌, subst, inl, inr}
use Rattle.can_node_rules.specs.declared.bit_events.BitEvents.{BitEvents}
use Rattle.can_node.specs.Stands.{Samples}
use Rattle.can_node_rules.specs.Outcomes.{nothing}
use Rattle.sja_link.specs.Moving.{Goes}
use Rattle.sja_journal.specs.Places.{place_of}
use Rattle.sja_regs.specs.declared.bus_turn.BusTurn.{BusTurn}
use Rattle.sja_bus_rules.specs.Telling.{SaysAlone}
use Rattle.sja_bus.specs.declared.bit_outcome.BitOutcome.{BitOutcome}
use Rattle.sja_bus.specs.declared.pending_event.PendingEvent.TheVariants.{Nothing}
use Rattle.sja_bus.specs.Inside.Following.{open_in}
use Rattle.can_levels.specs.declared.level.Level.{Level}
use Rattle.sja_link.specs.declared.bus_end.BusEnd.{Ghosts as Ends}
use Rattle.sja_journal.specs.declared.entry.Entry.TheVariants.{Bit}
use Rattle.sja_link.specs.BusLedgers.{link_of}
use Rattle.sja_link.proofs.Growing.Moving.{goes_quiet}
use Rattle.sja_bus.specs.declared.board.Board.{Ghosts as Ports}
use Rattle.sja_bus.specs.declared.bus_node.BusNode.{BusNode}
use Rattle.sja_bus.specs.Inside.BusNodeBits.{HadBit, KeepsInBit}
use Rattle.sja_bus.specs.Inside.BusNodes.{IsReady}
use Rattle.sja_bus.specs.Inside.Turning.{Brings, IsQuietBit, TellsTurn, TurnOf}
use Rattle.sja_bus.proofs.AtPorts.Turning.{alone_once}
use Rattle.sja_bus.proofs.AtPorts.TurnsTold.{full_turns, idle_bit, idle_turn, last_turn, quiet_turns}

-- something may have happened, and its port was told, or passed over where it is told that nothing did
pub had_fully : {E B : Type 0} (e : Ends E) (b : Ports B) → ((x : B) (m : ℕ) → b.kept x x m) → (told : Bool)
    (seen : Level) (old s : BusNode) (outcome : BitOutcome) (turn stands : BusTurn) (end after : E) (board now : B) →
    IsReady old → IsReady (record s { untold = Nothing }) →
    Goes e.same e.stands end after old.journal.entries s.journal.entries → s.untold ≡ old.untold →
    Samples old.node s.node seen outcome.events → Brings old.journal.entries old.drives seen outcome s.journal.entries →
    (place_of s.journal.entries).activation ≡ s.ended + open_in s.activity →
    TurnOf s outcome.events outcome.overrun turn → (old.untold ≡ Nothing → SaysAlone old.journal.entries stands) →
    TellsTurn (b.told board now (link_of old.ledger).node) board now s stands told turn →
    HadBit e b told seen old (record s { untold = Nothing }) end after board now
unfolding full_turns
had_fully {B = B} e b kept_refl true seen old s outcome turn stands end after board now was ready goes untold
    samples brings begun t alone tells =
    let node = (link_of old.ledger).node in
    let turns = full_turns (b.told board now node) (b.kept board now node) seen old s outcome turn
    (inl (tells.yes refl).0) was untold samples brings begun t in record {
      ready = ready;
      goes = goes;
      turns = turns;
      yes = λ yes calm. (
        turn,
        (tells.yes refl).0,
        last_turn {seen = seen} {old = old} {new = record s { untold = Nothing }} calm turns
            (λ same. (tells.yes refl).1 (untold ∙ calm)
            (alone_once old.journal.entries turn stands same (alone calm))),
      );
      no = λ wrong. absurd cc;
    }
had_fully {B = B} e b kept_refl false seen old s outcome turn stands end after board now was ready goes untold
    samples brings begun t alone tells =
    let node = (link_of old.ledger).node in let none = tells.no refl in
    let calm : old.untold ≡ Nothing = sym untold ∙ none.1 in
    let says : SaysAlone old.journal.entries turn = subst (λ (x : BusTurn). SaysAlone old.journal.entries x)
    (sym none.2) (alone calm) in
    let kept : b.kept board now node = subst (λ (x : B). b.kept board x node) (sym none.0) (kept_refl board node) in
    let turns = full_turns (b.told board now node) (b.kept board now node) seen old s outcome turn
    (inr (kept, calm, says)) was untold samples brings begun t in
    let events : outcome.events ≡ nothing turn.events.receiving = sym t.events_are ∙ says.events in record {
      ready = ready;
      goes = goes;
      turns = turns;
      yes = λ wrong. absurd cc;
      no = λ no. (
        none.0,
        idle_turn {seen = seen} {old = old} {new = record s { untold = Nothing }} calm turns says
            (brings.received (ap (λ (v : BitEvents). v.received) events))
            (sym brings.off ∙ ap (λ (v : BitEvents). v.went_off) events),
      );
    }

-- nothing happened: the end and the ports are as they were
module _ {E B : Type 0} (e : Ends E) (b : Ports B) (same_refl : (x : E) → e.same x x)
    (kept_refl : (x : B) (m : ℕ) → b.kept x x m) where
  pub keeps_quiet : (old new : BusNode) (end : E) (board : B) →
      (link_of new.ledger).node ≡ (link_of old.ledger).node → new.journal.room ≡ old.journal.room →
      KeepsInBit e b old new end end board board
  keeps_quiet old new end board node room = record {
    stays = record { is_same = same_refl end; node = node; room = room };
    ports = refl;
    others = λ k far. kept_refl board k;
  }

  pub had_quiet : (seen : Level) (old new : BusNode) (end : E) (board : B) → IsReady old → IsReady new →
      IsQuietBit seen old new → HadBit e b false seen old new end end board board
  had_quiet seen old new end board was ready quiet =
      let node = (link_of old.ledger).node in record {
        ready = ready;
        goes = rw quiet.whole (goes_quiet e.same e.stands same_refl end old.journal.entries (Bit old.drives seen)
            (λ l. refl));
        turns = quiet_turns (b.told board board node) (b.kept board board node) seen old new (kept_refl board node) was
            quiet;
        yes = λ no. absurd cc;
        no = λ none. (refl, idle_bit seen old new was quiet);
      }
