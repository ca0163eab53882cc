-- A request or an abort between the bits of a record.
use Rattle.std.proofs.Common.{◌≡◌, ◌≢◌, ℕ, Bool, Option, None, List, [], ◌∷◌}
use Rattle.std.proofs.Common.{◌++◌, refl, ap, sym, subst, ◌∙◌, if◌then◌else◌}
use Rattle.std.proofs.lemmas.List.{append-nil}
use Rattle.can_levels.specs.declared.level.Level.{Level}
use Rattle.can_levels.specs.declared.level.Level.TheVariants.{Dominant, Recessive}
use Rattle.can_bits.specs.declared.shift.Shift.{Shift}
use Rattle.can_node_rules.specs.declared.role.Role.{Role}
use Rattle.can_node_rules.specs.declared.role.Role.TheVariants.{Transmitter, Receiver}
use Rattle.can_node_rules.specs.declared.request.Request.{Request}
use Rattle.can_node.specs.declared.stage.Stage.{Stage}
use Rattle.can_node.specs.declared.stage.Stage.TheVariants.{InReset as StageInReset, Integrating as StageIntegrating}
use Rattle.can_node.specs.declared.stage.Stage.TheVariants.{BusIdle as StageBusIdle, InFrame as StageInFrame}
use Rattle.can_node.specs.declared.stage.Stage.TheVariants.{LastEofBit as StageLastEofBit, InFlag as StageInFlag}
use Rattle.can_node.specs.declared.stage.Stage.TheVariants.{InDelimiter as StageInDelimiter}
use Rattle.can_node.specs.declared.stage.Stage.TheVariants.{InInterframeSpace as StageInInterframeSpace}
use Rattle.can_node.specs.declared.node.Node.{Node}
use Rattle.can_node_rules.specs.Bits.{Bit}
use Rattle.can_node_rules.specs.Context.{ContextValue, fresh, is_transmitter, flag_level}
use Rattle.can_node_rules.specs.Pieces.{Place}
use Rattle.can_node_rules.specs.Pieces.Place.{AtReset, AfterSof}
use Rattle.can_node_rules.specs.Record.{RecordEntry, bits_in, Inner}
use Rattle.can_node_rules.specs.Record.RecordEntry.{Send, Abort}
use Rattle.can_node_rules.specs.Record.Inner.{none_left, sends, aborts}
use Rattle.can_node_rules.specs.Effects.{along}
use Rattle.can_node_rules.specs.Cut.{IsUnfinished, IsOpenAt, IsOnBus, Move, From, FinishedPiece, none_yet}
use Rattle.can_node_rules.specs.Cut.IsOpenAt.{rests, nothing, begun}
use Rattle.can_node_rules.specs.Cut.Move.{sent, aborted}
use Rattle.can_node.specs.Standing.{context_of}
use Rattle.can_node.specs.Stages.{At, IsReading}
use Rattle.can_node_rules.specs.UnfinishedPieces.{ByRole, IsInFlag, IsInFrame}
use Rattle.can_node_rules.specs.UnfinishedPieces.IsInFrame.{from_idle, from_sof}
use Rattle.can_node.specs.Stands.{StandsAt, FollowsAt}
use Rattle.can_node_rules.proofs.Machine.Along.{along_both, bits_both}
use Rattle.can_node_rules.proofs.OneCut.GoOn.{open_end, stays_end, move_on, open_on, inner_both}
use Rattle.can_node_rules.proofs.Reception.Beginnings.{receives_after_sof}
use Rattle.can_node_rules.proofs.Transmission.TransmitterFronts.{transmitting_changed, transmitting_kept}

-- a context with another request
abbrev pub changed : ContextValue → Option Request → Bool → ContextValue
changed c held marked = record c { held = held; aborted = marked }

-- ---- where the node stands, with another request

-- in a piece under way: what was done doesn't hang on the request, but for a transmitter, whose request stays
by_now : (role : Role) (c now : ContextValue) (held : Option Request) (marked : Bool) (place : Place)
    (bits : List Bit) →
    (role ≡ Transmitter → held ≡ now.held) → ByRole role c now place bits →
    ByRole role c (changed now held marked) place bits
by_now Transmitter c now held marked place bits stays h =
    transmitting_kept c now (changed now held marked) place bits (stays refl) h
by_now Receiver c now held marked place bits stays h = h

at_now : (stage : Stage) (shift : Shift) (c now : ContextValue) (held : Option Request) (marked : Bool) (place : Place)
    (bits : List Bit) →
    place ≢ AtReset → bits ≢ [] → (stage ≡ StageInFrame → now.role ≡ Transmitter → held ≡ now.held) →
    At stage shift c now place bits → At stage shift c (changed now held marked) place bits
at_now StageInReset shift c now held marked place bits away some stays at = absurd (away at.0)
at_now (StageIntegrating left run) shift c now held marked place bits away some stays at = at
at_now StageBusIdle shift c now held marked place bits away some stays at = absurd (some at.1)
at_now StageInFrame shift c now held marked place bits away some stays at =
    record {
      site = at.site;
      stands = at.stands;
      by_role = by_now now.role c now held marked place bits (stays refl) at.by_role;
    }
at_now StageLastEofBit shift c now held marked place bits away some stays at = at
at_now (StageInFlag n like) shift c now held marked place bits away some stays at = at
at_now (StageInDelimiter d r) shift c now held marked place bits away some stays at = at
at_now (StageInInterframeSpace n) shift c now held marked place bits away some stays at = at

-- at the beginning of a place
by_start : (role : Role) (c : ContextValue) (held : Option Request) (marked : Bool) → c.role ≡ role →
    (role ≡ Transmitter → held ≡ c.held) →
    ByRole role c c AfterSof [] → ByRole role (changed c held marked) (changed c held marked) AfterSof []
by_start Receiver c held marked role stays h =
    receives_after_sof (changed c held marked) (ap (λ r. if is_transmitter r then held else None) role)
by_start Transmitter c held marked role stays h =
    transmitting_changed c c (changed c held marked) held marked AfterSof [] h
    (ap (λ r. if is_transmitter r then held else None) role ∙ stays refl ∙ h.held) (stays refl ∙ h.held)

reading_start : (shift : Shift) (c : ContextValue) (held : Option Request) (marked : Bool) (place : Place)
    (bits : List Bit) → bits ≡ [] →
    (c.role ≡ Transmitter → held ≡ c.held) → IsReading shift c c place bits → IsInFrame place bits →
    IsReading shift (changed c held marked) (changed c held marked) place bits
reading_start shift c held marked place bits none stays at (from_idle b more) = let wrong : b ∷ more ≡ [] =
    none in absurd cc
reading_start shift c held marked place bits none stays at (from_sof more) =
    let P : List Bit → Type 0 = λ l. ByRole c.role c c AfterSof l in
    let Q : List Bit → Type 0 = λ l. ByRole c.role (changed c held marked) (changed c held marked) AfterSof l in
    record {
      site = from_sof more;
      stands = at.stands;
      by_role = subst Q (sym none) (by_start c.role c held marked refl stays (subst P none at.by_role));
    }

-- a flag
flag_start : (level : Level) (n : ℕ) (like : Level) (c : ContextValue) (held : Option Request) (marked : Bool)
    (bits : List Bit) → IsInFlag level n like c bits →
    IsInFlag level n like (changed c held marked) bits
flag_start Dominant n like c held marked bits h = record { few = h.few; whole = h.whole }
flag_start Recessive n like c held marked bits h =
    record { levels = h.levels; whole = h.whole; few = h.few; none = h.none; waits = h.waits }

at_start : (stage : Stage) (shift : Shift) (c : ContextValue) (held : Option Request) (marked : Bool) (place : Place) →
    place ≢ AtReset → (stage ≡ StageInFrame → c.role ≡ Transmitter → held ≡ c.held) → At stage shift c c place [] →
    At stage shift (changed c held marked) (changed c held marked) place []
at_start StageInReset shift c held marked place away stays at = absurd (away at.0)
at_start (StageIntegrating left run) shift c held marked place away stays at = (
  at.0,
  record {
    done = at.1.done;
    front = at.1.front;
    begun = at.1.begun;
    whole = at.1.whole;
    elevens = at.1.elevens;
    count = at.1.count;
    some = at.1.some;
    few = at.1.few;
    waits = at.1.waits;
    counted = at.1.counted;
  },
)
at_start StageBusIdle shift c held marked place away stays at = (at.0, at.1, at.2, refl)
at_start StageInFrame shift c held marked place away stays at =
    reading_start shift c held marked place [] refl (stays refl) at at.site
at_start StageLastEofBit shift c held marked place away stays at = at
at_start (StageInFlag n like) shift c held marked place away stays at =
    (at.0, flag_start (flag_level c) n like c held marked [] at.1)
at_start (StageInDelimiter d r) shift c held marked place away stays at = at
at_start (StageInInterframeSpace n) shift c held marked place away stays at =
    (at.0, record { few = at.1.few; whole = at.1.whole })

-- ---- one entry more that is no bit

-- what such an entry is to a cut: it may stand between pieces and within one, and changes the request
pub record IsBetween (entry : RecordEntry) (place : Place) : Type 0 where
  pub inner : Inner (entry ∷ [])
  pub bits : bits_in (entry ∷ []) ≡ []
  pub moves : (c : ContextValue) → Move c place (entry ∷ []) [] (along c place [] (entry ∷ [])) place
  pub same : (c : ContextValue) (done : List Bit) → along c place done (entry ∷ []) ≡ along c place [] (entry ∷ [])

pub send_between : (request : Request) (place : Place) → place ≢ AtReset → IsBetween (Send request) place
send_between request place away = record {
  inner = sends request none_left;
  bits = refl;
  moves = λ c. sent request away;
  same = λ c done. refl;
}

pub abort_between : (place : Place) → place ≢ AtReset → IsBetween Abort place
abort_between place away = record {
  inner = aborts none_left;
  bits = refl;
  moves = λ c. aborted away;
  same = λ c done. refl;
}

-- the node stands at the record with it
between_by : (old new : Node) (entries : List RecordEntry) (found : List FinishedPiece) (entry : RecordEntry)
    (held : Option Request) (marked : Bool) (c : ContextValue) (place : Place) (slice : List RecordEntry) →
    From none_yet fresh AtReset entries found c place slice → IsOpenAt c place slice →
    At old.stage old.shift c (along c place [] slice) place (bits_in slice) →
    context_of old.context ≡ along c place [] slice → IsBetween entry place → place ≢ AtReset →
    along (along c place [] slice) place [] (entry ∷ []) ≡ changed (along c place [] slice) held marked →
    (old.stage ≡ StageInFrame → (along c place [] slice).role ≡ Transmitter → held ≡ (along c place [] slice).held) →
    context_of new.context ≡ changed (context_of old.context) held marked → new.stage ≡ old.stage →
    new.shift ≡ old.shift → FollowsAt new (entries ++ entry ∷ []) found
between_by old new entries found entry held marked c place slice cut (rests l) at was between away change stays shows
    stage shift = absurd (away refl)
between_by old new entries found entry held marked c place slice cut nothing at was between away change stays shows
    stage shift =
    let next = changed c held marked in
    let P : ContextValue → Type 0 = λ d. Move c place (entry ∷ []) [] d place in
    let move : Move c place (entry ∷ []) [] next place = subst P change (between.moves c) in
    let Q : List FinishedPiece → Type 0 = λ l. From none_yet fresh AtReset (entries ++ entry ∷ []) l next place [] in
    let S : Stage → Type 0 = λ s. At s old.shift next next place [] in
    let R : Shift → Type 0 = λ s. At new.stage s next next place [] in
    let on : IsOnBus c = stays_end cut in
    record {
      cut = record {
        context = next;
        place = place;
        rest = [];
        from = subst Q (append-nil found) (move_on (entry ∷ []) [] cut move on);
      };
      shows = shows ∙ ap (λ d. changed d held marked) was;
      at = subst R (sym shift) (subst S (sym stage) (at_start old.stage old.shift c held marked place away stays at));
    }
between_by old new entries found entry held marked c place slice cut (begun inner begins unfinished) at was between away
    change stays shows stage shift =
    let now = along c place [] slice in
    let next = changed now held marked in
    let more = slice ++ entry ∷ [] in
    let whole : along c place [] more ≡ next =
    along_both c place [] slice (entry ∷ []) ∙ between.same now (bits_in slice) ∙ change in
    let bits : bits_in more ≡ bits_in slice =
    bits_both slice (entry ∷ []) ∙ ap (λ l. bits_in slice ++ l) between.bits ∙ append-nil (bits_in slice) in
    let P : List Bit → Type 0 = λ l. IsUnfinished c place l in
    let opened : IsOpenAt c place more = begun (inner_both inner between.inner)
    (record { bit = begins.bit; rest = begins.rest ++ entry ∷ []; whole = ap (λ l. l ++ entry ∷ []) begins.whole })
    (subst P (sym bits) unfinished) in
    let on : IsOnBus now = stays_end cut in
    let some : bits_in slice ≢ [] = λ none. let wrong : begins.bit ∷ bits_in begins.rest ≡ [] =
    sym (ap bits_in begins.whole) ∙ none in absurd cc in
    let there = at_now old.stage old.shift c now held marked place (bits_in slice) away some stays at in
    let Q : ContextValue → Type 0 = λ d. At old.stage old.shift c d place (bits_in slice) in
    let R : List Bit → Type 0 = λ l. At old.stage old.shift c (along c place [] more) place l in
    let S : Stage → Type 0 = λ s. At s old.shift c (along c place [] more) place (bits_in more) in
    let T : Shift → Type 0 = λ s. At new.stage s c (along c place [] more) place (bits_in more) in
    record {
      cut = record {
        context = c;
        place = place;
        rest = more;
        from = open_on (entry ∷ []) cut opened (subst (λ d. IsOnBus d) (sym whole) on);
      };
      shows = shows ∙ ap (λ d. changed d held marked) was ∙ sym whole;
      at = subst T (sym shift) (subst S (sym stage) (subst R (sym bits) (subst Q (sym whole) there)));
    }

pub between_stands : (old new : Node) (entries : List RecordEntry) (found : List FinishedPiece)
    (h : StandsAt old entries found) (entry : RecordEntry) (held : Option Request) (marked : Bool) →
    let now = along h.cut.context h.cut.place [] h.cut.rest in
    IsBetween entry h.cut.place → h.cut.place ≢ AtReset →
    along now h.cut.place [] (entry ∷ []) ≡ changed now held marked →
    (old.stage ≡ StageInFrame → now.role ≡ Transmitter → held ≡ now.held) →
    context_of new.context ≡ changed (context_of old.context) held marked → new.stage ≡ old.stage →
    new.shift ≡ old.shift →
    FollowsAt new (entries ++ entry ∷ []) found
between_stands old new entries found h entry held marked between away change stays shows stage shift =
    between_by old new entries found entry held marked h.cut.context h.cut.place h.cut.rest h.cut.from
    (open_end h.cut.from) h.at h.shows between away change stays shows stage shift
