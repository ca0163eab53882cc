-- The context at each place of a record that has a cut.
use Rattle.std.proofs.Common.{◌≡◌, Bool, true, false, not, Option, Some, None, List, refl, sym, ap, ◌∙◌, if◌then◌else◌}
use Rattle.std.specs.Prelude.{◌&&◌, ◌||◌}
use Rattle.std.proofs.lemmas.Bool.{and_parts}
use Rattle.can_node_rules.specs.declared.request.Request.{Request}
use Rattle.can_node_rules.specs.declared.role.Role.TheVariants.{Transmitter, Receiver}
use Rattle.can_node_rules.specs.Context.{ContextValue, is_transmitter, is_held, owes_suspension}
use Rattle.can_node_rules.specs.Cut.{Move, From}
use Rattle.can_node_rules.specs.Cut.Move.{piece, sent, aborted, started, stopped, off_within, off_after}
use Rattle.can_node_rules.specs.Cut.From.{here, on}
use Rattle.can_node_rules.specs.Effects.{entering, keep_first, with_send, with_abort, role_after_sof}
use Rattle.can_node_rules.specs.FinishedPieces.{FinishedPiece, Count}
use Rattle.can_node_rules.specs.Pieces.{Place, Piece}
use Rattle.can_node_rules.specs.Pieces.Place.{AtReset, AtIntegration, AtIdle, AfterSof}
use Rattle.can_node_rules.specs.Pieces.Place.{AtLastEofBit, AtFlag, AtDelimiter, AtInterframeSpace}
use Rattle.can_node_rules.specs.Record.{RecordEntry}
use Rattle.can_node_rules.proofs.Driven.Roles.{marked_role, marked_held}

-- the context at a place: receiver where the bus is idle; after SOF a transmitter holds a request and speaks
abbrev pub IsRight : ContextValue → Place → Type 0
IsRight c AtIdle = c.role ≡ Receiver
IsRight c AfterSof = c.role ≡ Transmitter → ((r : Request) × (c.held ≡ Some r)) × (c.listen ≡ false)
IsRight c AtReset = Unit {0}
IsRight c AtIntegration = Unit {0}
IsRight c AtLastEofBit = Unit {0}
IsRight c AtFlag = Unit {0}
IsRight c AtDelimiter = Unit {0}
IsRight c AtInterframeSpace = Unit {0}

held_some : (held : Option Request) → is_held held ≡ true → (r : Request) × (held ≡ Some r)
held_some None e = absurd cc
held_some (Some r) e = (r, refl)

speaks : (a b : Bool) → not (a || b) ≡ true → a ≡ false
speaks false b e = refl
speaks true b e = absurd cc

-- who is transmitter after SOF holds a request, and speaks
sof_right : (c : ContextValue) → role_after_sof c ≡ Transmitter →
    ((r : Request) × (c.held ≡ Some r)) × (c.listen ≡ false)
sof_right c e = by (is_held c.held && not (c.listen || owes_suspension c)) refl
  where
    by : (t : Bool) → (is_held c.held && not (c.listen || owes_suspension c)) ≡ t →
        ((r : Request) × (c.held ≡ Some r)) × (c.listen ≡ false)
    by true is =
        let both = and_parts (is_held c.held) (not (c.listen || owes_suspension c)) is in
        (held_some c.held both.0, speaks c.listen (owes_suspension c) both.1)
    by false is =
        let no : Receiver ≡ Transmitter = sym (ap (λ t. if t then Transmitter else Receiver) is) ∙ e in absurd cc

entering_right : (next : Place) (p : Piece) (before c : ContextValue) → IsRight (entering next p before c) next
entering_right AtIdle p before c = refl
entering_right AfterSof p before c = sof_right c
entering_right AtReset p before c = tt
entering_right AtIntegration p before c = tt
entering_right AtLastEofBit p before c = tt
entering_right AtFlag p before c = tt
entering_right AtDelimiter p before c = tt
entering_right AtInterframeSpace p before c = tt

send_right : (place : Place) (request : Request) (c : ContextValue) → IsRight c place →
    IsRight (with_send request c) place
send_right AtIdle request c h = h
send_right AfterSof request c h = λ e.
    let k = h e in ((k.0.0, ap (λ o. keep_first o request) k.0.1), k.1)
send_right AtReset request c h = tt
send_right AtIntegration request c h = tt
send_right AtLastEofBit request c h = tt
send_right AtFlag request c h = tt
send_right AtDelimiter request c h = tt
send_right AtInterframeSpace request c h = tt

marked_listen : (t : Bool) (c : ContextValue) →
    (if t then record c { aborted = true } else record c { held = None }).listen ≡ c.listen
marked_listen true c = refl
marked_listen false c = refl

abort_right : (place : Place) (c : ContextValue) → IsRight c place → IsRight (with_abort place c) place
abort_right AtIdle c h = marked_role (is_transmitter c.role) c ∙ h
abort_right AfterSof c h = λ e.
    let was : c.role ≡ Transmitter = sym (marked_role (is_transmitter c.role) c) ∙ e in
    let k = h was in (
      (k.0.0, marked_held (is_transmitter c.role) c (ap is_transmitter was) ∙ k.0.1),
      marked_listen (is_transmitter c.role) c ∙ k.1,
    )
abort_right AtReset c h = tt
abort_right AtIntegration c h = tt
abort_right AtLastEofBit c h = tt
abort_right AtFlag c h = tt
abort_right AtDelimiter c h = tt
abort_right AtInterframeSpace c h = tt

move_right : {c next : ContextValue} {place site : Place} {entries : List RecordEntry} {ps : List Piece} →
    Move c place entries ps next site → IsRight c place → IsRight next site
move_right (piece {next = n} {p = p} slice is row stays) h = entering_right n p _ _
move_right {c = c} {place = place} (sent request away) h = send_right place request c h
move_right {c = c} {place = place} (aborted away) h = abort_right place c h
move_right (started config l) h = tt
move_right (stopped slice opened stays) h = tt
move_right (off_within slice before b whole stays is unfinished full) h = tt
move_right (off_after slice before b whole stays is row full) h = tt

-- at the place where the record ends
pub end_right : {k : Count} {c end : ContextValue} {place last : Place} {entries rest : List RecordEntry}
    {found : List FinishedPiece} → From k c place entries found end last rest → IsRight c place → IsRight end last
end_right (here opened stays) h = h
end_right (on move from) h = end_right from (move_right move h)
