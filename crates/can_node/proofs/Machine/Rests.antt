-- A node in reset stays there: it receives nothing and can't go bus-off.
use Rattle.std.proofs.Common.{◌≡◌, Bool, true, false, None, List, [], ◌∷◌, ◌++◌}
use Rattle.std.proofs.Common.{map, refl, sym, ap, ◌∙◌, subst, append_assoc}
use Rattle.std.specs.Prelude.{if◌then◌else◌}
use Rattle.std.proofs.lemmas.List.{append_cancel_left}
use Rattle.can_levels.specs.declared.level.Level.{Level}
use Rattle.can_levels.specs.declared.level.Level.TheVariants.{Recessive}
use Rattle.can_bits.specs.declared.shift.Shift.{Shift}
use Rattle.can_node.specs.declared.stage.Stage.{Stage}
use Rattle.can_node.specs.declared.stage.Stage.TheVariants.{InReset as StageInReset, Integrating as StageIntegrating}
use Rattle.can_node.specs.declared.stage.Stage.TheVariants.{BusIdle as StageBusIdle, InFrame as StageInFrame}
use Rattle.can_node.specs.declared.stage.Stage.TheVariants.{LastEofBit as StageLastEofBit, InFlag as StageInFlag}
use Rattle.can_node.specs.declared.stage.Stage.TheVariants.{InDelimiter as StageInDelimiter}
use Rattle.can_node.specs.declared.stage.Stage.TheVariants.{InInterframeSpace as StageInInterframeSpace}
use Rattle.can_node_rules.specs.declared.bit_events.BitEvents.{BitEvents}
use Rattle.can_node.specs.declared.node.Node.{Node}
use Rattle.can_node_rules.specs.Bits.{Bit, recessive_bit, recessive_bits}
use Rattle.can_node_rules.specs.Context.{ContextValue, fresh}
use Rattle.can_node_rules.specs.Pieces.{Place, Piece}
use Rattle.can_node_rules.specs.Pieces.Place.{AtReset}
use Rattle.can_node_rules.specs.Record.{RecordEntry, bits_in}
use Rattle.can_node_rules.specs.Record.RecordEntry.{OneBit, BusOff}
use Rattle.can_node_rules.specs.Table.{Row}
use Rattle.can_node_rules.specs.Cut.{IsOpenAt, From, FinishedPiece, Count, counted, none_yet}
use Rattle.can_node_rules.specs.Cut.IsOpenAt.{rests}
use Rattle.can_node_rules.specs.Cut.From.{here, on}
use Rattle.can_node_rules.specs.Events.{Step, received_in}
use Rattle.can_node_rules.specs.Events.Step.{Within, Finishes}
use Rattle.can_node_rules.specs.NextBit.{now_in, DrivesIn}
use Rattle.can_node.specs.Stages.{At}
use Rattle.can_node_rules.specs.UnfinishedPieces.{IsInFrame}
use Rattle.can_node.specs.Stands.{StandsAt, Leads, InReset, Rests}
use Rattle.can_node_rules.specs.Outcomes.{closed_by}
use Rattle.can_node.proofs.Machine.Ats.{at_is}
use Rattle.can_node_rules.proofs.OneCut.GoOn.{open_end, rest_open, no_rest_piece}
use Rattle.can_node_rules.proofs.OneCut.Entries.{open_part, outer_once, outer_not_within}
use Rattle.can_node_rules.proofs.OneCut.Entries.IsOuter.{off}
use Rattle.can_node_rules.proofs.OneCut.Ways.{Way, Between, Closing, way_of}
use Rattle.can_node_rules.proofs.OneCut.Ways.Way.{finishes, comes, closes}
use Rattle.can_node_rules.proofs.OneCut.Ways.Closing.{by_start, by_stop, by_off, by_off_after}
use Rattle.can_node_rules.proofs.OneCut.CutOnce.{move_or_open}
use Rattle.can_node_rules.proofs.OneCut.Through.{Through, goes_through}
use Rattle.can_node.proofs.Machine.Sampling.{rest_drives}

-- ---- in reset

-- after more bits in reset the place is reset, and no piece is finished
rest_on : (k : Count) (c other : ContextValue) (place another : Place) (slice more : List RecordEntry)
    (later : List FinishedPiece) (l : List Level) → place ≡ AtReset → slice ≡ map OneBit (recessive_bits l) →
    From k c place slice later other another more → (later ≡ []) × (another ≡ AtReset)
rest_on k c other place another slice more later l at e (here opened stays) = (refl, at)
rest_on k c other place another slice more later l at e
    (on {next = next} {site = site} {entries = first} {more = rest} {ps = ps} move from) =
    let P : Place → Type 0 = λ s. IsOpenAt c s (map OneBit (recessive_bits l)) in
    absurd (move_or_open c next place site first (map OneBit (recessive_bits l)) rest ps move
    (subst P (sym at) (rests l)) (sym e))

-- a bus-off can't come there
no_off_way : (c next : ContextValue) (place site : Place) (a x : List RecordEntry) (ps : List Piece) (l : List Level) →
    place ≡ AtReset → Way c place a ps next site →
    map OneBit (recessive_bits l) ++ BusOff ∷ [] ≡ a ++ x → ⊥
no_off_way c next place site a x ps l at (finishes {next = n} {p = p} slice is_slice row stays) e =
    let P : Place → Type 0 = λ s. Row c s (bits_in slice) p n in no_rest_piece (subst P at row)
no_off_way c next place site a x ps [] at (comes entry (Between.send request)) e = cc
no_off_way c next place site a x ps (y ∷ l) at (comes entry (Between.send request)) e = cc
no_off_way c next place site a x ps [] at (comes entry Between.abort) e = cc
no_off_way c next place site a x ps (y ∷ l) at (comes entry Between.abort) e = cc
no_off_way c next place site a x ps l at (closes slice entry part out closing) e =
    let once = outer_once (map OneBit (recessive_bits l)) slice [] x BusOff entry (open_part {c = c} (rests l)).inner
    part.inner off out (e ∙ append_assoc slice (entry ∷ []) x) in
    ends closing at once.1
  where
    ends : {s t : Place} {n : ContextValue} {qs : List Piece} {f : RecordEntry} {b : List RecordEntry} →
        Closing c b s f qs n t →
        s ≡ AtReset → BusOff ≡ f → ⊥
    ends (by_start config) z q = cc
    ends (by_stop opened) z q = cc
    ends {b = b} (by_off unfinished) z q =
        let P : Place → Type 0 = λ r. Row c r (bits_in b ++ unfinished.more ∷ unfinished.rest) unfinished.piece
        unfinished.next in
        no_rest_piece (subst P z unfinished.lawful)
    ends {b = b} (by_off_after {next = m} {p = p} is_slice row far) z q =
        let P : Place → Type 0 = λ r. Row c r (bits_in b) p m in no_rest_piece (subst P z row)

no_off : (k : Count) (c other : ContextValue) (place another : Place) (slice more : List RecordEntry)
    (later : List FinishedPiece) (l : List Level) → place ≡ AtReset →
    slice ≡ map OneBit (recessive_bits l) ++ BusOff ∷ [] → From k c place slice later other another more → ⊥
no_off k c other place another slice more later l at e (here opened stays) =
    outer_not_within (map OneBit (recessive_bits l)) slice [] BusOff off (open_part opened).inner e
no_off k c other place another slice more later l at e
    (on {next = next} {site = site} {entries = first} {more = rest} {ps = ps} move from) =
    no_off_way c next place site first rest ps l at (way_of move) (sym e)

-- ---- the stage says that the place is reset, and the place says it of the stage

pub rest_place : (stage : Stage) (shift : Shift) (c now : ContextValue) (place : Place) (bits : List Bit) →
    stage ≡ StageInReset → At stage shift c now place bits → place ≡ AtReset
rest_place stage shift c now place bits e h = (at_is StageInReset stage shift c now place bits e h).0

not_in_frame : {place : Place} {bits : List Bit} → IsInFrame place bits → place ≡ AtReset → ⊥
not_in_frame (IsInFrame.from_idle b bits) e = cc
not_in_frame (IsInFrame.from_sof bits) e = cc

pub rest_stage : (stage : Stage) (shift : Shift) (c now : ContextValue) (place : Place) (bits : List Bit) →
    place ≡ AtReset → At stage shift c now place bits → stage ≡ StageInReset
rest_stage StageInReset shift c now place bits e h = refl
rest_stage (StageIntegrating left run) shift c now place bits e h = let at = h.0 in absurd cc
rest_stage StageBusIdle shift c now place bits e h = let at = h.0 in absurd cc
rest_stage StageInFrame shift c now place bits e h = absurd (not_in_frame h.site e)
rest_stage StageLastEofBit shift c now place bits e h = let at = h.0 in absurd cc
rest_stage (StageInFlag n last) shift c now place bits e h = let at = h.0 in absurd cc
rest_stage (StageInDelimiter dominant recessive) shift c now place bits e h = let at = h.0 in absurd cc
rest_stage (StageInInterframeSpace n) shift c now place bits e h = let at = h.0 in absurd cc

-- ---- a bit in reset

more_bits : (l : List Level) (seen : Level) →
    map OneBit (recessive_bits l) ++ OneBit (recessive_bit seen) ∷ [] ≡ map OneBit (recessive_bits (l ++ seen ∷ []))
more_bits [] seen = refl
more_bits (y ∷ l) seen = ap (λ r. OneBit (recessive_bit y) ∷ r) (more_bits l seen)

module _ (old new : Node) (entries : List RecordEntry) (found : List FinishedPiece) (h : StandsAt old entries found)
    (seen : Level) (e : BitEvents) (reset : InReset old)
    (x : Level) (drives : DrivesIn h.cut x)
    (leads : Leads old new entries found h (record { driven = x; seen = seen }) e) where
  at : h.cut.place ≡ AtReset
  at = rest_place old.stage old.shift h.cut.context (now_in h.cut) h.cut.place (bits_in h.cut.rest) reset h.at

  recessive : x ≡ Recessive
  recessive = rest_drives (now_in h.cut) h.cut.place (bits_in h.cut.rest) x at drives

  opened : (l : List Level) × (h.cut.rest ≡ map OneBit (recessive_bits l))
  opened = let P : Place → Type 0 =
      λ s. IsOpenAt h.cut.context s h.cut.rest in rest_open (subst P at (open_end h.cut.from))

  abbrev b : Bit
  b = record { driven = x; seen = seen }

  bit_is : b ≡ recessive_bit seen
  bit_is = ap (λ y. let z : Bit = record { driven = y; seen = seen } in z) recessive

  slice_is : h.cut.rest ++ OneBit b ∷ [] ≡ map OneBit (recessive_bits (opened.0 ++ seen ∷ []))
  slice_is = ap (λ r. r ++ OneBit b ∷ []) opened.1
      ∙ ap (λ y. map OneBit (recessive_bits opened.0) ++ OneBit y ∷ []) bit_is ∙ more_bits opened.0 seen

  abbrev later_of : List FinishedPiece
  later_of = closed_by (counted none_yet (entries ++ OneBit b ∷ [])) leads.step

  -- it didn't go bus-off
  on_bus : (went : Bool) → e.went_off ≡ went → went ≡ false
  on_bus false q = refl
  on_bus true q =
      let P : Bool → Type 0 = λ w. StandsAt new (entries ++ (if w then OneBit b ∷ BusOff ∷ [] else OneBit b ∷ []))
      (found ++ later_of) in
      let s = subst P q leads.stands in
      let t = goes_through none_yet fresh h.cut.context s.cut.context AtReset h.cut.place s.cut.place entries
      (entries ++ OneBit b ∷ BusOff ∷ []) h.cut.rest (OneBit b ∷ BusOff ∷ []) s.cut.rest found (found ++ later_of)
      h.cut.from s.cut.from refl in
      let whole : h.cut.rest ++ OneBit b ∷ BusOff ∷ []
      ≡ map OneBit (recessive_bits (opened.0 ++ seen ∷ [])) ++ BusOff ∷ [] =
      sym (append_assoc h.cut.rest (OneBit b ∷ []) (BusOff ∷ [])) ∙ ap (λ r. r ++ BusOff ∷ []) slice_is in
      absurd (no_off t.count h.cut.context s.cut.context h.cut.place s.cut.place (h.cut.rest ++ OneBit b ∷ BusOff ∷ [])
      s.cut.rest t.later (opened.0 ++ seen ∷ []) at whole t.from)

  went : e.went_off ≡ false
  went = on_bus e.went_off refl

  s : StandsAt new (entries ++ OneBit b ∷ []) (found ++ later_of)
  s = let P : Bool → Type 0 = λ w. StandsAt new (entries ++ (if w then OneBit b ∷ BusOff ∷ [] else OneBit b ∷ []))
      (found ++ later_of) in subst P went leads.stands

  t : Through none_yet entries found h.cut.context h.cut.place h.cut.rest (OneBit b ∷ []) (found ++ later_of)
      s.cut.context s.cut.place s.cut.rest
  t = goes_through none_yet fresh h.cut.context s.cut.context AtReset h.cut.place s.cut.place entries
      (entries ++ OneBit b ∷ []) h.cut.rest (OneBit b ∷ []) s.cut.rest found (found ++ later_of) h.cut.from s.cut.from
      refl

  none : (t.later ≡ []) × (s.cut.place ≡ AtReset)
  none = rest_on t.count h.cut.context s.cut.context h.cut.place s.cut.place (h.cut.rest ++ OneBit b ∷ []) s.cut.rest
      t.later (opened.0 ++ seen ∷ []) at slice_is t.from

  receives_none : (step : Step) → closed_by (counted none_yet (entries ++ OneBit b ∷ [])) step ≡ [] →
      received_in step ≡ None
  receives_none Within q = refl
  receives_none (Finishes p next) q = absurd cc

  pub rests_at : Rests new e
  rests_at = record {
    nothing = ap (λ (v : BitEvents). v.received) leads.told
        ∙ receives_none leads.step (append_cancel_left found later_of [] (t.whole ∙ ap (λ l. found ++ l) none.0));
    stays = went;
    reset = rest_stage new.stage new.shift s.cut.context (now_in s.cut) s.cut.place (bits_in s.cut.rest) none.1 s.at;
  }
