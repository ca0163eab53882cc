-- A node at rest: a recessive bit changes nothing of it, and an abort finds no request.
use Rattle.std.proofs.Common.{◌≡◌, ℕ, zero, suc, Bool, true, false, None, List, [], ◌∷◌, ◌++◌}
use Rattle.std.proofs.Common.{inl, inr, refl, sym, ap, ◌∙◌, subst, append_assoc, append-nil}
use Rattle.std.specs.Prelude.{◌⊎◌, if◌then◌else◌, nat_lt}
use Rattle.can_levels.specs.declared.level.Level.{Level}
use Rattle.can_levels.specs.declared.level.Level.TheVariants.{Recessive}
use Rattle.can_node.specs.declared.node.Node.{Node}
use Rattle.can_node_rules.specs.declared.phase.Phase.TheVariants.{Intermission, Suspension}
use Rattle.can_node.specs.declared.stage.Stage.{Stage}
use Rattle.can_node.specs.declared.stage.Stage.TheVariants.{InReset as StageInReset, Integrating as StageIntegrating}
use Rattle.can_node.specs.declared.stage.Stage.TheVariants.{BusIdle as StageBusIdle, InFrame as StageInFrame}
use Rattle.can_node.specs.declared.stage.Stage.TheVariants.{LastEofBit as StageLastEofBit, InFlag as StageInFlag}
use Rattle.can_node.specs.declared.stage.Stage.TheVariants.{InDelimiter as StageInDelimiter}
use Rattle.can_node.specs.declared.stage.Stage.TheVariants.{InInterframeSpace as StageInInterframeSpace}
use Rattle.can_node_rules.specs.Bits.{Bit as Levels}
use Rattle.can_node_rules.specs.Context.{ContextValue, is_held}
use Rattle.can_node_rules.specs.Pieces.{Place}
use Rattle.can_node_rules.specs.Counting.{at_bit}
use Rattle.can_node_rules.specs.Events.{lost_in}
use Rattle.can_node_rules.specs.Effects.{is_in_progress}
use Rattle.can_node_rules.specs.Driving.{Drives}
use Rattle.can_node_rules.specs.NextBit.{now_in, open_bits, rests_in}
use Rattle.can_node.specs.Standing.{context_of}
use Rattle.can_node.specs.Stages.{At}
use Rattle.can_node.specs.Stands.{DrivesNext, Samples, ShowsRest, ShowsSame, is_receiving}
use Rattle.can_node_rules.specs.Outcomes.{abort_of, nothing}
use Rattle.can_node.specs.Stands.{phase_of_stage}
use Rattle.can_node.proofs.Machine.Ats.{at_is}
use Rattle.can_node.proofs.Machine.Quiet.{IsQuiet, quietly}
use Rattle.can_node.proofs.Machine.QuietOutside.{idle_quietly}
use Rattle.can_node.proofs.Machine.Shown.{phase_shown}
use Rattle.can_node_rules.proofs.OneCut.DrivenLevels.{drives_once}
use Rattle.sja_journal.specs.declared.entry.Entry.{Entry}
use Rattle.sja_journal.specs.declared.entry.Entry.TheVariants.{Bit}
use Rattle.sja_journal.specs.Records.{record_of}
use Rattle.sja_regs.specs.declared.orders.Orders.{Orders}
use Rattle.sja_regs.specs.declared.bus_turn.BusTurn.{BusTurn}
use Rattle.sja_bus.specs.declared.bus_node.BusNode.{BusNode}
use Rattle.sja_journal.specs.Aborting.{changes, IsApplied}
use Rattle.sja_bus_rules.specs.Opens.{Opens}
use Rattle.sja_journal.specs.BitEntries.{MayHaveAbort}
use Rattle.sja_bus.specs.Stretches.{recessive_bits}
use Rattle.sja_bus.specs.Inside.Following.{Follows}
use Rattle.sja_bus.specs.Inside.BusNodes.{IsSound, IsReady}
use Rattle.sja_bus.specs.Inside.Turning.{IsQuietBit, OpensUntold, Turns}
use Rattle.sja_bus.specs.Inside.Idling.{IsResting, after_bits}
use Rattle.sja_journal.proofs.Growing.Items.{items_none}
use Rattle.can_node_rules.proofs.OneCut.SameCuts.{same_now}
use Rattle.sja_bus.proofs.Journal.Quiet.{quiet_sound}
use Rattle.sja_bus.proofs.AtPorts.TurnsTold.{quiet_turns, drops_none}
use Rattle.can_node.proofs.Machine.Requests.{nothing_held}

-- ---- where it stands

pausing : (b held : Bool) → rests_in (if b then Intermission else Suspension) held ≡ true → ⊥
pausing true held e = cc
pausing false held e = cc

rest_stage : (s : Stage) (held : Bool) → rests_in (phase_of_stage s) held ≡ true → (s ≡ StageInReset)
    ⊎ ((s ≡ StageBusIdle) × (held ≡ false))
rest_stage StageInReset held h = inl refl
rest_stage (StageIntegrating left run) held h = absurd cc
rest_stage StageBusIdle true h = absurd cc
rest_stage StageBusIdle false h = inr (refl, refl)
rest_stage StageInFrame held h = absurd cc
rest_stage StageLastEofBit held h = absurd cc
rest_stage (StageInFlag bits last) held h = absurd cc
rest_stage (StageInDelimiter dominant recessive) held h = absurd cc
rest_stage (StageInInterframeSpace bits) held h = absurd (pausing (nat_lt bits 3) held h)

-- in reset, or idle with no request
resting_stage : (node : Node) (j : List Entry) → ShowsRest node true → (h : Follows node j) →
    (node.stage ≡ StageInReset) ⊎ ((node.stage ≡ StageBusIdle) × (is_held (now_in h.stands.cut).held ≡ false))
resting_stage node j rests h =
    let held = is_held (now_in h.stands.cut).held in
    rest_stage node.stage held
    (ap (λ p. rests_in p held) (phase_shown node (record_of j) h.found h.stands)
    ∙ sym (rests (record_of j) h.found h.stands))

resting_held : (node : Node) (j : List Entry) → ShowsRest node true → (h : Follows node j) →
    (now_in h.stands.cut).held ≡ None
resting_held node j rests h = elim (resting_stage node j rests h) [
  | inl reset ↦ (at_is StageInReset node.stage node.shift h.stands.cut.context (now_in h.stands.cut) h.stands.cut.place
      (open_bits h.stands.cut) reset h.stands.at).1
  | inr idle ↦ nothing_held (now_in h.stands.cut).held idle.1
]

-- an abort changes nothing, by every cut
pub applied_at_rest : (node : Node) (j : List Entry) → ShowsRest node true → Follows node j → IsApplied j false
applied_at_rest node j rests h = record {
  runs = λ opened on found cut.
      let none : (now_in cut).held ≡ None =
      ap (λ (c : ContextValue). c.held) (sym (same_now (record_of j) h.found found h.stands.cut cut))
      ∙ resting_held node j rests h in
      sym (ap (λ o. changes (abort_of (is_in_progress (now_in cut) cut.place) o (now_in cut).aborted)) none);
  rests = λ no. refl;
}

-- ---- its bit

reset_quiet : (node : Node) (seen : Level) → node.stage ≡ StageInReset → node.next ≡ Recessive → IsQuiet node node seen
reset_quiet node seen reset recessive c place bits at kept body drives =
    let now = context_of node.context in
    let b : Levels = record { driven = node.next; seen = seen } in
    let here = at_is StageInReset node.stage node.shift c now place bits reset at in
    let L : Place → Type 0 = λ s. None ≡ lost_in now s bits b in
    let S : Place → Type 0 = λ s. now ≡ at_bit now s bits b in
    let D : Place → Type 0 = λ s. Drives now s (bits ++ b ∷ []) node.next in
    let T : Stage → Type 0 = λ s. At s node.shift c now place (bits ++ b ∷ []) in record {
      turn = record {
        lost = subst L (sym here.0) refl;
        steps = subst S (sym here.0) refl;
        at = subst T (sym reset) (here.0, here.1);
      };
      next = subst D (sym here.0) recessive;
    }

-- a recessive bit leaves the node as it is
pub resting_bit : (node : Node) (j : List Entry) → ShowsRest node true → DrivesNext node Recessive → Follows node j →
    Samples node node Recessive (nothing (is_receiving node))
resting_bit node j rests drives h =
    let cut = h.stands.cut in
    let next : node.next ≡ Recessive =
    drives_once (now_in cut) cut.place (open_bits cut) node.next Recessive h.stands.next
    (drives (record_of j) h.found h.stands) in
    elim (resting_stage node j rests h) [
      | inl reset ↦ quietly node node Recessive refl refl (reset_quiet node Recessive reset next)
      | inr idle ↦ idle_quietly node Recessive idle.0 next refl
    ]

same_shown : (node : Node) → ShowsSame node node
same_shown node = record { counters = refl; phase = refl; receiving = refl; holds = refl }

-- ---- a bus node

snoc : (n : ℕ) → recessive_bits n ++ Bit Recessive Recessive ∷ [] ≡ recessive_bits (suc n)
snoc zero = refl
snoc (suc n) = ap (λ l. Bit Recessive Recessive ∷ l) (snoc n)

pub one_more : (n : ℕ) (j : List Entry) → (j ++ recessive_bits n) ++ Bit Recessive Recessive ∷ [] ≡ j
    ++ recessive_bits (suc n)
one_more n j = append_assoc j (recessive_bits n) (Bit Recessive Recessive ∷ []) ∙ ap (λ l. j ++ l) (snoc n)

pub after_none : (s : BusNode) → after_bits 0 s ≡ s
after_none s = ap (λ l. let x : BusNode = record s { journal = record s.journal { entries = l } } in x)
    (append-nil s.journal.entries)

-- it drives recessive
drives_recessive : (s : BusNode) → IsReady s → IsResting s → DrivesNext s.node Recessive
drives_recessive s ready rest = let P : Level → Type 0 = λ x. DrivesNext s.node x in subst P rest.drives ready.drives

samples_recessive : (s : BusNode) → IsReady s → IsResting s →
    Samples s.node s.node Recessive (nothing (is_receiving s.node))
samples_recessive s ready rest = resting_bit s.node s.journal.entries rest.rests
    (drives_recessive s ready rest) ready.sound.follows

sound_after : (n : ℕ) (s : BusNode) → IsReady s → IsResting s → IsSound (after_bits n s)
sound_after zero s ready rest = let P : BusNode → Type 0 = λ x. IsSound x in subst P (sym (after_none s)) ready.sound
sound_after (suc n) s ready rest =
    quiet_sound (after_bits n s) (after_bits (suc n) s) s.node Recessive Recessive (is_receiving s.node)
    (drives_recessive s ready rest)
    (samples_recessive s ready rest) (same_shown s.node) refl (sym (one_more n s.journal.entries)) refl refl refl
    (sound_after n s ready rest)

pub ready_after : (n : ℕ) (s : BusNode) → IsReady s → IsResting s → IsReady (after_bits n s)
ready_after n s ready rest = record {
  sound = sound_after n s ready rest;
  bus_node = record { own = ready.bus_node.own; few = ready.bus_node.few; most = ready.bus_node.most };
  drives = ready.drives;
}

-- each bit is one in which nothing happens, and that its port is passed over in
pub quiet_after : (n : ℕ) (s : BusNode) → IsReady s → IsResting s →
    IsQuietBit Recessive (after_bits n s) (after_bits (suc n) s)
quiet_after n s ready rest = record {
  untold = rest.none;
  told = rest.none;
  samples = samples_recessive s ready rest;
  shows = same_shown s.node;
  whole = sym (one_more n s.journal.entries)
      ∙ ap (λ x. (s.journal.entries ++ recessive_bits n) ++ Bit x Recessive ∷ []) (sym rest.drives);
}

pub turns_after : (was_told : BusTurn → Type 0) (was_kept : Type 0) (n : ℕ) (s : BusNode) → was_kept →
    IsReady s → IsResting s →
    Turns was_told was_kept Recessive (after_bits n s) (after_bits (suc n) s)
turns_after was_told was_kept n s kept ready rest =
    quiet_turns was_told was_kept Recessive (after_bits n s) (after_bits (suc n) s) kept (ready_after n s ready rest)
    (quiet_after n s ready rest)

-- nothing is taken before it, and no abort changes the node
abbrev no_abort : (j : List Entry) → MayHaveAbort j j
no_abort j = record { changed = false; whole = sym (append-nil j) }

pub opens_after : (has_orders : Orders → Type 0) (n : ℕ) (s : BusNode) (o : Orders) → has_orders o →
    IsReady s → IsResting s →
    Opens has_orders (after_bits n s).journal.entries (after_bits n s).journal.entries
opens_after has_orders n s o has ready rest =
    let t = after_bits n s in let j = t.journal.entries in record {
      taken = j;
      items = items_none j;
      aborts = no_abort j;
      orders = o;
      are_orders = has;
      unasked = λ no. refl;
      applied = λ yes. applied_at_rest s.node j rest.rests (sound_after n s ready rest).follows;
    }

pub untold_none : (s : BusNode) → OpensUntold s s
untold_none s = record {
  taken = s.journal.entries;
  items = items_none s.journal.entries;
  aborts = no_abort s.journal.entries;
  still = λ e. (e, refl);
  drops = λ ne. drops_none s.journal.entries s.untold ne;
}
