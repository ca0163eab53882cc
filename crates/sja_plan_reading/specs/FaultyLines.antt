-- Where a text stops being a document: at its first line that isn't TOML.
use Rattle.std.specs.Prelude.{◌≡◌, ◌==◌, ℕ, false, List, length, Some, None}
use Rattle.toml_parser.specs.Lexical.{skip_blank}
use Rattle.toml.specs.Tables.{Expression}
use Rattle.toml.specs.Parse.{skip_bom, line}

-- a text from its front on, or behind some of its lines; each is a header or a pair
pub data IsBehindLines (text : List ℕ) : List ℕ → Type 0 where
  none : IsBehindLines text (skip_bom text)
  more : (rest after : List ℕ) (e : Expression) → IsBehindLines text rest →
      line (skip_blank rest) ≡ Some (e, after) → IsBehindLines text after

-- the text from a line on that is neither, behind lines that are
pub record IsFaultyFrom (text rest : List ℕ) : Type 0 where
  pub behind : IsBehindLines text rest
  pub some : (length (skip_blank rest) == 0) ≡ false
  pub faulty : line (skip_blank rest) ≡ None
