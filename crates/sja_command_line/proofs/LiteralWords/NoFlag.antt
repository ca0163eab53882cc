-- A text that doesn't begin with `-` is a plain word to the parser.
use Rattle.std.proofs.Common.{◌≡◌, List, [], ◌∷◌, None, refl, false}
use Rattle.std.specs.Str.{bytes_eq}
use Rattle.std.proofs.lemmas.Bool.{or_parts}
use Rattle.clap.specs.Lexer.{strip_byte}
use Rattle.clap.specs.Words.{Text}
use Rattle.sja_command_line.specs.Values.{HasNoFlag, begins_with_hyphen}

-- it has no first `-` to take off
pub no_hyphen : (text : Text) → begins_with_hyphen text ≡ false → strip_byte 45 text ≡ None
no_hyphen [] h = refl
no_hyphen (x ∷ rest) h = simp h

-- and it isn't `--`
pub no_dashes : (text : Text) → begins_with_hyphen text ≡ false → bytes_eq text (45 ∷ 45 ∷ []) ≡ false
no_dashes [] h = refl
no_dashes (x ∷ rest) h = simp h

-- the first of such texts, and the others
pub each_of : (text : Text) (texts : List Text) → HasNoFlag (text ∷ texts) →
    (begins_with_hyphen text ≡ false) × HasNoFlag texts
each_of text texts h = or_parts _ _ h
