-- A port that was told all shows what its node's record says, and so a turn that brings nothing leaves it as it is.
use Rattle.std.proofs.Common.{◌≡◌, ℕ, Bool, true, false, List, [], ◌∷◌, ◌++◌, refl, sym, ap, ◌∙◌, subst, inl, inr}
use Rattle.std.specs.Prelude.{◌⊎◌, ◌==◌, ◌||◌, ◌&&◌, not, if◌then◌else◌}
use Rattle.std.proofs.lemmas.Bool.{and_parts}
use Rattle.can_levels.specs.declared.level.Level.{Level}
use Rattle.can_node_rules.specs.declared.bit_events.BitEvents.{BitEvents}
use Rattle.can_node_rules.specs.declared.phase.Phase.{Phase}
use Rattle.can_node_rules.specs.declared.phase.Phase.TheVariants.{Reset}
use Rattle.can_node_rules.specs.Context.{ContextValue, is_transmitter}
use Rattle.can_node_rules.specs.Driving.{phase_at}
use Rattle.can_node_rules.specs.Effects.{along}
use Rattle.can_node_rules.specs.NextBit.{now_in}
use Rattle.can_node_rules.specs.Record.{bits_in}
use Rattle.can_node_rules.proofs.OneCut.CutOnce.{whole_once}
use Rattle.sja_journal.specs.NodeWords.{NodeEntry, NodeTook}
use Rattle.sja_journal.specs.declared.entry.Entry.{Entry}
use Rattle.sja_journal.specs.Records.{record_of}
use Rattle.sja_regs.specs.declared.bus_turn.BusTurn.{BusTurn}
use Rattle.sja_regs.specs.declared.registers.Registers.{Registers}
use Rattle.sja_regs.specs.Registers.{by_bytes, at_power_on}
use Rattle.sja_regs.specs.Turns.{is_live, goes_off, role_bit, rs_told, ts_told, stands_still, follows_node}
use Rattle.sja_regs.specs.Turns.{rxerr_after, txerr_after, bs_after, after_turn}
use Rattle.sja_journal.specs.BitEntries.{HasBit}
use Rattle.sja_journal.specs.Entries.{off_left}
use Rattle.sja_bus_rules.specs.Telling.{Says, IsTurn, IsPassedOver}
use Rattle.sja_regs.proofs.BusTurns.SaysTheSame.{says_same}
use Rattle.sja_journal.proofs.Growing.BitRecords.{record_bit}
use Rattle.sja_driver.specs.Shown.{ShowsRecord}
use Rattle.can_node_rules.proofs.Requests.Cuts.{now_first, reset_first}
use Rattle.can_node_rules.proofs.Requests.OnceOff.{off_resets}

-- ---- turns that say what stands at the end of one record

record SayAlike (t u : BusTurn) : Type 0 where
  pub activation : t.activation ≡ u.activation
  pub rxerr : t.rxerr ≡ u.rxerr
  pub txerr : t.txerr ≡ u.txerr
  pub rs : rs_told t ≡ rs_told u
  pub ts : ts_told t ≡ ts_told u
  pub off : t.off ≡ u.off

say_alike : (j : List Entry) (t u : BusTurn) → Says j t → Says j u → SayAlike t u
say_alike j t u a b =
    let w = whole_once (record_of j) a.found b.found a.cut b.cut in
    let now : now_in a.cut ≡ now_in b.cut = λ i. along (w.1 i) (w.2 i) [] (w.3 i) in
    let at : phase_at a.cut.place (bits_in a.cut.rest) ≡ phase_at b.cut.place (bits_in b.cut.rest) =
    λ i. phase_at (w.2 i) (bits_in (w.3 i)) in
    let phase : t.phase ≡ u.phase = a.phase ∙ at ∙ sym b.phase in
    let receiving : t.events.receiving ≡ u.events.receiving = a.receiving
    ∙ ap (λ (c : ContextValue). not (is_transmitter c.role)) now ∙ sym b.receiving in record {
      activation = a.activation ∙ sym b.activation;
      rxerr = a.rxerr ∙ ap (λ (c : ContextValue). c.rec) now ∙ sym b.rxerr;
      txerr = a.txerr ∙ ap (λ (c : ContextValue). c.tec) now ∙ sym b.txerr;
      rs = λ i. role_bit (phase i) (receiving i);
      ts = λ i. role_bit (phase i) (not (receiving i));
      off = a.off ∙ ap (λ (c : ContextValue). c.off) now ∙ sym b.off;
    }

-- a choice that is the same either way
same_if : {A : Type 0} (b : Bool) (x y : A) → x ≡ y → (if b then x else y) ≡ y
same_if true x y e = e
same_if false x y e = refl

same_else : {A : Type 0} (b : Bool) (x y : A) → x ≡ y → (if b then y else x) ≡ y
same_else true x y e = refl
same_else false x y e = e

same_twice : {A : Type 0} (b : Bool) (x y : A) → (if b then x else (if b then x else y)) ≡ (if b then x else y)
same_twice true x y = refl
same_twice false x y = refl

-- ---- at power-on

pub shows_first : (version : ℕ) → ShowsRecord [] (at_power_on version)
shows_first version = record {
  rxerr = λ t s. same_if (follows_node (at_power_on version) t) t.rxerr 0
      (s.rxerr ∙ ap (λ (c : ContextValue). c.rec) (now_first s.found s.cut));
  txerr = λ t s. same_if (follows_node (at_power_on version) t) t.txerr 0
      (s.txerr ∙ ap (λ (c : ContextValue). c.tec) (now_first s.found s.cut));
  rs = λ t s. same_else (stands_still (at_power_on version) t) (rs_told t) true
      (ap (λ (x : Phase). role_bit x t.events.receiving) (s.phase ∙ reset_first s.found s.cut));
  ts = λ t s. same_else (stands_still (at_power_on version) t) (ts_told t) true
      (ap (λ (x : Phase). role_bit x (not t.events.receiving)) (s.phase ∙ reset_first s.found s.cut));
  bs = λ t s. same_if (follows_node (at_power_on version) t) t.off false
      (s.off ∙ ap (λ (c : ContextValue). c.off) (now_first s.found s.cut));
}

-- ---- after a bit

-- RS or TS after a turn, told once more
role_shown : (raw off rm left was told : Bool) → (off ≡ true → told ≡ true) →
    (if raw && ((off || rm) || left) then (off || (if raw && (rm || left) then was else told)) else told)
    ≡ (off || (if raw && (rm || left) then was else told))
role_shown true true rm left was told h = refl
role_shown true false true left was told h = refl
role_shown true false false true was told h = refl
role_shown true false false false was told h = refl
role_shown false true rm left was told h = h refl
role_shown false false rm left was told h = refl

module _ (changed : Bool) (opened k : List Entry) (driven seen : Level) (bit : HasBit opened driven seen k)
    (turn : BusTurn) (is : IsTurn changed opened driven seen k bit turn) (p : Registers) where
  abbrev took : List NodeEntry
  took = record_of opened ++ NodeTook (record { driven = driven; seen = seen }) ∷ []

  -- the turn is of another activation than the port's
  abbrev has_left : Bool
  has_left = not (turn.activation == p.activation)

  -- bus-off leaves the node in reset
  off_in_reset : goes_off p turn ≡ true → turn.phase ≡ Reset
  off_in_reset goes =
      let off : bit.off ≡ true = sym is.off ∙ (and_parts (is_live p turn) turn.events.went_off goes).1 in
      is.says.phase ∙ off_resets took (record_of k) is.says.found is.says.cut
      (record_bit opened k driven seen bit ∙ ap (λ (b : Bool). took ++ off_left b) off)

  -- a port that was told the turn of the bit shows what the record says after it
  shown_after : ShowsRecord k (after_turn p turn)
  shown_after = record {
    rxerr = λ t s.
        let a = say_alike k t turn s is.says in
        (λ i. if follows_node p (record turn { activation = a.activation i }) then a.rxerr i else rxerr_after p turn)
        ∙ same_twice (follows_node p turn) turn.rxerr p.rxerr;
    txerr = λ t s.
        let a = say_alike k t turn s is.says in
        (λ i. if follows_node p (record turn { activation = a.activation i }) then a.txerr i else txerr_after p turn)
        ∙ same_twice (follows_node p turn) turn.txerr p.txerr;
    rs = λ t s.
        let a = say_alike k t turn s is.says in
        (λ i. if stands_still (after_turn p turn) (record turn { activation = a.activation i })
        then (after_turn p turn).rs else a.rs i)
        ∙ role_shown (by_bytes p) (goes_off p turn) p.mode.rm has_left p.rs (rs_told turn)
        (λ goes. ap (λ (x : Phase). role_bit x turn.events.receiving) (off_in_reset goes));
    ts = λ t s.
        let a = say_alike k t turn s is.says in
        (λ i. if stands_still (after_turn p turn) (record turn { activation = a.activation i })
        then (after_turn p turn).ts else a.ts i)
        ∙ role_shown (by_bytes p) (goes_off p turn) p.mode.rm has_left p.ts (ts_told turn)
        (λ goes. ap (λ (x : Phase). role_bit x (not turn.events.receiving)) (off_in_reset goes));
    bs = λ t s.
        let a = say_alike k t turn s is.says in
        (λ i. if follows_node p (record turn { activation = a.activation i }) then a.off i else bs_after p turn)
        ∙ same_twice (follows_node p turn) turn.off p.bs;
  }

  pub shows_told : (q : Registers) → q ≡ after_turn p turn → ShowsRecord k q
  shows_told q told = subst (λ (r : Registers). ShowsRecord k r) (sym told) shown_after

-- a port that was passed over shows the turn of the bit already, where nothing was untold
passed_over : (untold : Bool) (j opened : List Entry) (p q : Registers) (turn : BusTurn) →
    IsPassedOver (q ≡ p) untold j opened turn → (untold ≡ false → ShowsRecord j p) → q ≡ after_turn p turn
passed_over untold j opened p q turn over shown =
    let shows = shown over.told in let says = over.alone.says in let events = over.alone.events in
    over.kept ∙ sym (says_same p turn (record {
      news = record {
        ended = ap (λ (e : BitEvents). e.ended) events;
        lost = ap (λ (e : BitEvents). e.lost) events;
        fault = ap (λ (e : BitEvents). e.fault) events;
        went_off = ap (λ (e : BitEvents). e.went_off) events;
        aborted = over.alone.aborted;
        overrun = over.alone.overrun;
      };
      rxerr = shows.rxerr turn says;
      txerr = shows.txerr turn says;
      rs = shows.rs turn says;
      ts = shows.ts turn says;
      bs = shows.bs turn says;
    }))

-- told or passed over, a port is as the turn of the bit leaves it
pub as_told : (untold : Bool) (j opened : List Entry) (p q : Registers) (turn : BusTurn) →
    (q ≡ after_turn p turn) ⊎ IsPassedOver (q ≡ p) untold j opened turn → (untold ≡ false → ShowsRecord j p) →
    q ≡ after_turn p turn
as_told untold j opened p q turn port shown =
    elim port [ inl told ↦ told | inr over ↦ passed_over untold j opened p q turn over shown ]
