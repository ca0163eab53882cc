-- What calls leave as it is (this project's own rule).
use Rattle.std.specs.Prelude.{◌≢◌, ◌⊎◌, ◌≡◌, ◌||◌, true, false, None}
use Rattle.sja_regs.specs.declared.bus_turn.BusTurn.{BusTurn}
use Rattle.sja_regs.specs.declared.registers.Registers.{Registers}
use Rattle.sja_regs.specs.Turns.{rxerr_after, txerr_after, rs_after, ts_after, bs_after}

-- each interrupt that is pending now was pending before, or it is enabled
pub record OnlyEnabled (old new : Registers) : Type 0 where
  pub ti : new.pending.ti ≡ true → (old.pending.ti || old.enabled.ti) ≡ true
  pub ei : new.pending.ei ≡ true → (old.pending.ei || old.enabled.ei) ≡ true
  pub doi : new.pending.doi ≡ true → (old.pending.doi || old.enabled.doi) ≡ true
  pub epi : new.pending.epi ≡ true → (old.pending.epi || old.enabled.epi) ≡ true
  pub ali : new.pending.ali ≡ true → (old.pending.ali || old.enabled.ali) ≡ true
  pub bei : new.pending.bei ≡ true → (old.pending.bei || old.enabled.bei) ≡ true

-- the port is in reset mode, or has left the activation that the turn is of
abbrev pub HasLeft : Registers → BusTurn → Type 0
HasLeft p turn = (p.mode.rm ≡ true) ⊎ (turn.activation ≢ p.activation)

-- the driver's transmission, its captures and what it was told of them are what they were
pub record KeepsActivation (old new : Registers) : Type 0 where
  pub rm : new.mode.rm ≡ old.mode.rm
  pub tbs : new.tbs ≡ old.tbs
  pub tcs : new.tcs ≡ old.tcs
  pub dos : new.dos ≡ old.dos
  pub alc : new.alc ≡ old.alc
  pub ecc : new.ecc ≡ old.ecc
  pub abort : new.abort ≡ old.abort
  pub ti : new.pending.ti ≡ old.pending.ti
  pub doi : new.pending.doi ≡ old.pending.doi
  pub ali : new.pending.ali ≡ old.pending.ali
  pub bei : new.pending.bei ≡ old.pending.bei

-- the turn brings nothing to its activation
pub record BringsNoNews (turn : BusTurn) : Type 0 where
  pub ended : turn.events.ended ≡ None
  pub lost : turn.events.lost ≡ None
  pub fault : turn.events.fault ≡ None
  pub went_off : turn.events.went_off ≡ false
  pub aborted : turn.aborted ≡ false
  pub overrun : turn.overrun ≡ false

-- the turn brings nothing to its activation, and says what the port shows already, where the port is the node's
pub record SaysTheSame (p : Registers) (turn : BusTurn) : Type 0 where
  pub news : BringsNoNews turn
  pub rxerr : rxerr_after p turn ≡ p.rxerr
  pub txerr : txerr_after p turn ≡ p.txerr
  pub rs : rs_after p turn ≡ p.rs
  pub ts : ts_after p turn ≡ p.ts
  pub bs : bs_after p turn ≡ p.bs
