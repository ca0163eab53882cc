-- Moves by bits alone, with no other entry between them.
use Rattle.std.proofs.Common.{◌≡◌, ◌≤◌, List, [], ◌∷◌, map, length, replicate, refl}
use Rattle.std.proofs.Common.{ap, sym, subst, ◌∙◌, arith, Option, None, ◌++◌, false}
use Rattle.std.proofs.lemmas.List.{length-append}
use Rattle.can_levels.specs.declared.level.Level.{Level}
use Rattle.can_levels.specs.declared.level.Level.TheVariants.{Recessive}
use Rattle.can_node_rules.specs.Bits.{Bit, recessive_bit, recessive_bits, IsFirst}
use Rattle.can_node_rules.specs.declared.config.Config.{Config}
use Rattle.can_node_rules.specs.declared.request.Request.{Request}
use Rattle.can_node_rules.specs.Context.{ContextValue, fresh}
use Rattle.can_node_rules.specs.Pieces.{Place, Piece}
use Rattle.can_node_rules.specs.Pieces.Place.{AtReset, AtIntegration, AtIdle}
use Rattle.can_node_rules.specs.Pieces.Piece.{Integration}
use Rattle.can_node_rules.specs.Record.{RecordEntry, bits_in, Inner, EndsInBit, IsSlice}
use Rattle.can_node_rules.specs.Record.RecordEntry.{OneBit, Start}
use Rattle.can_node_rules.specs.Record.Inner.{none_left as inner_end, samples}
use Rattle.can_node_rules.specs.Table.{Row, EndsInEleven}
use Rattle.can_node_rules.specs.Table.Elevens.{none_left, one_more}
use Rattle.can_node_rules.specs.Table.Row.{integration}
use Rattle.can_node_rules.specs.Effects.{after}
use Rattle.can_node_rules.specs.FinishedPieces.{FinishedPiece, none_yet}
use Rattle.can_node_rules.specs.Cut.{IsOnBus, Move, From}
use Rattle.can_node_rules.specs.Cut.Move.{started}
use Rattle.can_node_rules.specs.Cut.From.{on}
use Rattle.can_node_rules.proofs.Waiting.Firsts.{first_by_length}

-- bits alone have nothing else between them
inner_bits : (bits : List Bit) → Inner (map OneBit bits)
inner_bits [] = inner_end
inner_bits (b ∷ bits) = samples b (inner_bits bits)

-- they end in a bit
ends_in_bit : (b : Bit) (bits : List Bit) → EndsInBit (map OneBit (b ∷ bits))
ends_in_bit b [] = record { before = []; bit = b; whole = refl }
ends_in_bit b (y ∷ bits) =
    let rest = ends_in_bit y bits in
    record { before = OneBit b ∷ rest.before; bit = rest.bit; whole = ap (λ t. OneBit b ∷ t) rest.whole }

-- so they are the entries of a piece
pub slice_of : (b : Bit) (bits : List Bit) → IsSlice (map OneBit (b ∷ bits))
slice_of b bits = record {
  inner = inner_bits (b ∷ bits);
  begins = record { bit = b; rest = map OneBit bits; whole = refl };
  ends = ends_in_bit b bits;
}

-- the bits among them are they
pub bits_entered : (bits : List Bit) → bits_in (map OneBit bits) ≡ bits
bits_entered [] = refl
bits_entered (b ∷ bits) = ap (λ t. b ∷ t) (bits_entered bits)

-- a piece of bits alone
pub by_bits : (c : ContextValue) (place next : Place) (p : Piece) (b : Bit) (bits : List Bit) →
    Row c place (b ∷ bits) p next →
    IsOnBus (after c place (map OneBit (b ∷ bits)) p next) →
    Move c place (map OneBit (b ∷ bits)) (p ∷ []) (after c place (map OneBit (b ∷ bits)) p next) next
by_bits c place next p b bits row stays =
    let P : List Bit → Type 0 = λ t. Row c place t p next in
    Move.piece (map OneBit (b ∷ bits)) (slice_of b bits) (subst P (sym (bits_entered (b ∷ bits))) row) stays

-- a list that ends in eleven recessive levels has eleven
eleven_long : (l : List Level) → EndsInEleven l → 11 ≤ length l
eleven_long l ends =
    let long = ap (λ (t : List Level). length t) ends.1 ∙ length-append ends.0 (replicate 11 Recessive) in
    let eleven : length (replicate 11 Recessive) ≡ 11 = refl in
    omega arith

-- eleven recessive levels are the first eleven
pub first_eleven : IsFirst EndsInEleven (replicate 11 Recessive)
first_eleven = first_by_length EndsInEleven (replicate 11 Recessive) eleven_long ([], refl)

-- eleven recessive bits after a start: the bus is idle, whatever request the node holds
pub integrates : (held : Option Request) →
    Move (record fresh { held = held }) AtIntegration (map OneBit (recessive_bits (replicate 11 Recessive)))
    (Integration ∷ [])
    (record fresh { held = held }) AtIdle
integrates held =
    by_bits (record fresh { held = held }) AtIntegration AtIdle Integration (recessive_bit Recessive)
    (recessive_bits (replicate 10 Recessive))
    (integration (one_more first_eleven none_left refl)) (omega arith)

-- a record that begins with a start and eleven recessive bits goes on as one from an idle bus on
pub begins_idle : (config : Config) {entries rest : List RecordEntry} {found : List FinishedPiece} {end : ContextValue}
    {last : Place} →
    From (record { starts = 1; bits = 11 }) fresh AtIdle entries found end last rest →
    From none_yet fresh AtReset
    (Start (record config { listen = false; self_test = false; tec = None; rec = None })
    ∷ map OneBit (recessive_bits (replicate 11 Recessive))
    ++ entries)
    ((record { piece = Integration; activation = 1; bits = 11 }) ∷ found) end last rest
begins_idle config from =
    on (started (record config { listen = false; self_test = false; tec = None; rec = None }) [])
    (on (integrates None) from)
