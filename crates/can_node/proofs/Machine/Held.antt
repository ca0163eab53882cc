-- A bit takes no request: one that is held after it was held before it.
use Rattle.std.proofs.Common.{◌≡◌, Bool, true, false, nat_le, Some, None, List, inl, inr, sym, ◌∙◌, if◌then◌else◌}
use Rattle.can_node.specs.declared.after_bit.AfterBit.{AfterBit}
use Rattle.can_node.specs.declared.after_bit.AfterBit.TheVariants.{InPiece, Ended}
use Rattle.can_node.specs.declared.ending.Ending.{Ending}
use Rattle.can_node_rules.specs.declared.request.Request.{Request}
use Rattle.can_node_rules.specs.Bits.{Bit}
use Rattle.can_node_rules.specs.Context.{ContextValue}
use Rattle.can_node_rules.specs.Pieces.{Place}
use Rattle.can_node_rules.specs.Counting.{at_bit}
use Rattle.can_node_rules.specs.Effects.{closed, with_off}
use Rattle.can_node.specs.Inside.Turns.{resulted, off_if, piece_of, next_of}
use Rattle.can_node_rules.proofs.Machine.Changes.{KeepsRequest, bit_changes, end_keeps}

-- the second context holds no request but that of the first
abbrev pub HoldsBack : ContextValue → ContextValue → Type 0
HoldsBack c d = (request : Request) → d.held ≡ Some request → c.held ≡ Some request

-- it is so where the request is kept
holds_back : (c d : ContextValue) → KeepsRequest c d → HoldsBack c d
holds_back c d (inl none) request e = let no : None ≡ Some request = sym none ∙ e in absurd cc
holds_back c d (inr h) request e = sym h.0 ∙ e

pub bit_held : (c : ContextValue) (place : Place) (done : List Bit) (b : Bit) → HoldsBack c (at_bit c place done b)
bit_held c place done b = holds_back c (at_bit c place done b) (bit_changes c place done b).request

-- what its end leaves
pub ended_held : (ending : Ending) (c : ContextValue) → HoldsBack c (closed (piece_of ending) (next_of ending) c)
ended_held ending c =
    let piece = piece_of ending in
    let next = next_of ending in
    holds_back c (closed piece next c) (end_keeps piece next c)

pub resulted_held : (after : AfterBit) (c : ContextValue) → HoldsBack c (resulted after c)
resulted_held (InPiece stage) c = λ request e. e
resulted_held (Ended ending) c = ended_held ending c

pub off_held : (c : ContextValue) → HoldsBack c (off_if c)
off_held c = by (nat_le 256 c.tec)
  where
    by : (test : Bool) → HoldsBack c (if test then with_off c else c)
    by true request e = absurd cc
    by false request e = e
