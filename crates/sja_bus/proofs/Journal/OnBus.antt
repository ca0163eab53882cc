-- A node that was started, and neither stopped nor put off the bus, isn't in reset.
use Rattle.std.proofs.Common.{◌≡◌, ◌≢◌, Bool, true, false, List, [], ◌∷◌, ◌++◌, map, refl, sym, ◌∙◌}
use Rattle.can_levels.specs.declared.level.Level.{Level}
use Rattle.can_node_rules.specs.Bits.{Bit, recessive_bits}
use Rattle.can_node_rules.specs.Context.{ContextValue}
use Rattle.can_node_rules.specs.Pieces.{Place, Piece}
use Rattle.can_node_rules.specs.Pieces.Place.{AtReset}
use Rattle.can_node_rules.specs.Frames.{Receives, Transmits}
use Rattle.can_node_rules.specs.Frames.Receives.{reception, broken}
use Rattle.can_node_rules.specs.Frames.Transmits.{sending, failed, lost}
use Rattle.can_node_rules.specs.Table.{Row}
use Rattle.can_node_rules.specs.Table.Row.{integration, idle, other, own, other_begun, own_begun, last_eof_bit}
use Rattle.can_node_rules.specs.Table.Row.{last_eof_bit_overload, flag, flag_fault, flag_passive, delimiter}
use Rattle.can_node_rules.specs.Table.Row.{delimiter_overload, delimiter_fault, interframe_space, interframe_space_sof}
use Rattle.can_node_rules.specs.Table.Row.{suspend_transmission_sof, intermission_overload}
use Rattle.can_node_rules.specs.Table.Row.{intermission_overload_second}
use Rattle.can_node_rules.specs.Record.{RecordEntry as Event, Inner}
use Rattle.can_node_rules.specs.Record.RecordEntry.{Stop, OneBit, BusOff}
use Rattle.can_node_rules.specs.Record.Inner.{none_left, samples, sends, aborts}
use Rattle.can_node_rules.specs.FinishedPieces.{Count, FinishedPiece}
use Rattle.can_node_rules.specs.Cut.{From, Move, IsOpenAt, IsCut}
use Rattle.can_node_rules.specs.Cut.From.{here, on}
use Rattle.can_node_rules.specs.Cut.Move.{piece, sent, aborted, started, stopped, off_within, off_after}
use Rattle.can_node_rules.specs.Cut.IsOpenAt.{rests, nothing, begun}
use Rattle.sja_bus.specs.Inside.Following.{on_after, is_on}

pub on_both : (b : Bool) (xs ys : List Event) → is_on b (xs ++ ys) ≡ is_on (is_on b xs) ys
on_both b [] ys = refl
on_both b (x ∷ xs) ys = on_both (on_after b x) xs ys

on_inner : {entries : List Event} (b : Bool) → Inner entries → is_on b entries ≡ b
on_inner b none_left = refl
on_inner b (samples bit h) = on_inner b h
on_inner b (sends request h) = on_inner b h
on_inner b (aborts h) = on_inner b h

on_bits : (b : Bool) (l : List Level) → is_on b (map OneBit (recessive_bits l)) ≡ b
on_bits b [] = refl
on_bits b (x ∷ l) = on_bits b l

-- no piece leads into reset
away_received : {listen : Bool} {l : List Level} {bits : List Bit} {p : Piece} {next : Place} →
    Receives listen l bits p next → next ≢ AtReset
away_received (reception h) = λ e. cc
away_received (broken h) = λ e. cc

away_sent : {self_test : Bool} {request : _} {bits : List Bit} {p : Piece} {next : Place} →
    Transmits self_test request bits p next → next ≢ AtReset
away_sent (sending h) = λ e. cc
away_sent (failed h) = λ e. cc
away_sent (lost h) = away_received h.goes_on

away_row : {c : ContextValue} {place next : Place} {bits : List Bit} {p : Piece} →
    Row c place bits p next → next ≢ AtReset
away_row (integration h) = λ e. cc
away_row (idle h) = λ e. cc
away_row (other none h) = away_received h
away_row (own some h) = away_sent h
away_row (other_begun none h) = away_received h
away_row (own_begun some h) = away_sent h
away_row last_eof_bit = λ e. cc
away_row last_eof_bit_overload = λ e. cc
away_row (flag h) = λ e. cc
away_row (flag_fault i h few) = λ e. cc
away_row (flag_passive h first) = λ e. cc
away_row (delimiter k) = λ e. cc
away_row (delimiter_overload k) = λ e. cc
away_row (delimiter_fault k i few) = λ e. cc
away_row interframe_space = λ e. cc
away_row interframe_space_sof = λ e. cc
away_row (suspend_transmission_sof i owes few) = λ e. cc
away_row intermission_overload = λ e. cc
away_row intermission_overload_second = λ e. cc

-- after entries that end in a stop or in bus-off it is off the bus
ends_off : (b : Bool) (xs : List Event) (x : Event) → ((o : Bool) → on_after o x ≡ false) →
    is_on b (xs ++ x ∷ []) ≡ true → ⊥
ends_off b xs x off runs = let e : false ≡ true = sym (off (is_on b xs))
    ∙ sym (on_both b xs (x ∷ [])) ∙ runs in absurd cc

-- from a place that isn't reset where the node is on the bus, one move
move_away : {c next : ContextValue} {place site : Place} {entries : List Event} {ps : List Piece} (b : Bool) →
    Move c place entries ps next site →
    (b ≡ true → place ≢ AtReset) → is_on b entries ≡ true → site ≢ AtReset
move_away b (piece slice is row stays) away runs = away_row row
move_away b (sent request reset) away runs = reset
move_away b (aborted reset) away runs = reset
move_away b (started config l) away runs = λ e. cc
move_away b (stopped slice opened stays) away runs = absurd (ends_off b slice Stop (λ o. refl) runs)
move_away b (off_within slice before last whole stays is unfinished full) away runs =
    absurd (ends_off b slice BusOff (λ o. refl) runs)
move_away b (off_after slice before last whole stays is row full) away runs =
    absurd (ends_off b slice BusOff (λ o. refl) runs)

on_open : {c : ContextValue} {place : Place} {slice : List Event} (b : Bool) →
    IsOpenAt c place slice → is_on b slice ≡ b
on_open b (rests l) = on_bits b l
on_open b nothing = refl
on_open b (begun inner begins unfinished) = on_inner b inner

from_away : {k : Count} {c end : ContextValue} {place last : Place} {entries rest : List Event}
    {found : List FinishedPiece} (b : Bool) →
    From k c place entries found end last rest → (b ≡ true → place ≢ AtReset) → is_on b entries ≡ true → last ≢ AtReset
from_away b (here opened stays) away runs = away (sym (on_open b opened) ∙ runs)
from_away b (on {entries = first} {more = more} move from) away is =
    from_away (is_on b first) from (move_away b move away) (sym (on_both b first more) ∙ is)

pub cut_away : (entries : List Event) (found : List FinishedPiece) (h : IsCut entries found) →
    is_on false entries ≡ true → h.place ≢ AtReset
cut_away entries found h is = from_away false h.from (λ no. cc) is
