-- A word spells one message at most.
use Rattle.std.proofs.Common.{◌≡◌, ◌∙◌, ◌⊎◌, inl, inr, ℕ, Bool, true, false, List, Result, Ok, Err, sym, ap, subst}
use Rattle.std.proofs.lemmas.Bool.{false≢true}
use Rattle.hex.specs.Hex.{decode_of, is_hex_digit}
use Rattle.hex.specs.declared.error.FromHexError.{FromHexError}
use Rattle.hex.proofs.HexLemmas.{decode_of-ok}
use Rattle.can_frame.specs.Frame.{FrameValue, IsFrame}
use Rattle.can_frame.specs.Message.{message, IsMessage}
use Rattle.can_frame.proofs.FrameLemmas.{same_frame}
use Rattle.can_notation.specs.Text.{hash, rest_text, Says}
use Rattle.can_notation.specs.Faults.{behind_hash}
use Rattle.can_notation.specs.Rest.{IsRest}
use Rattle.can_notation.proofs.IdentifierLemmas.{fits_digits, identifier_text-injective}
use Rattle.can_notation.proofs.RestLemmas.{rest-injective}
use Rattle.can_notation.proofs.HashLemmas.{parts}
use Rattle.sja_plan_reading.specs.Words.{Text, SpellsMessage}
use Rattle.sja_plan_reading.specs.Messages.{SaysMessage, SpellsMessageIn}

is_rest : (f : FrameValue) → IsFrame f → IsRest f.rtr f.dlc f.bytes
is_rest f valid = record { dlc_small = valid.dlc; count = valid.count; fit = valid.bytes }

-- a text says one frame at most
one_frame : (said : Text) (f g : FrameValue) → IsFrame f → IsFrame g → Says said f → Says said g → f ≡ g
one_frame said f g valid_f valid_g says_f says_g =
    let (_, front_f, back_f) = parts said f.ext f.id (rest_text f.rtr f.dlc f.bytes) says_f in
    let (_, front_g, back_g) = parts said g.ext g.id (rest_text g.rtr g.dlc g.bytes) says_g in
    let (ext, id) = identifier_text-injective f.ext g.ext f.id g.id (fits_digits f.ext f.id valid_f.id)
    (fits_digits g.ext g.id valid_g.id) (sym front_f ∙ front_g) in
    let (rtr, dlc, bytes) = rest-injective (behind_hash said) f.rtr g.rtr f.dlc g.dlc f.bytes g.bytes
    (is_rest f valid_f) (is_rest g valid_g) back_f back_g in
    same_frame f g ext id rtr dlc bytes

-- bytes in hexadecimal digits have no `#`
not_both : (word : Text) (m n : List ℕ) → SpellsMessage word m → ¬ SaysMessage word n
not_both word m n spells (f, valid, says, is) =
    let (has, _, _) = parts word f.ext f.id (rest_text f.rtr f.dlc f.bytes) says in
    let digits = (decode_of-ok word m spells.0).1 in
    false≢true (subst (λ c. is_hex_digit c ≡ true) has.2 (digits has.0 hash has.1))

abbrev value_or : List ℕ → Result (List ℕ) FromHexError → List ℕ
value_or d (Ok bytes) = bytes
value_or d (Err e) = d

pub one_message : (version : ℕ) (word : Text) (m n : List ℕ) → SpellsMessageIn version word m →
    SpellsMessageIn version word n → m ≡ n
one_message version word m n (inl h) (inl k) = ap (value_or m) (sym h.0 ∙ k.0)
one_message version word m n (inl h) (inr k) = absurd (not_both word m n h k.1)
one_message version word m n (inr h) (inl k) = absurd (not_both word n m k h.1)
one_message version word m n (inr (v, (f, valid, says, is))) (inr (w, (g, other, said, same))) =
    is ∙ ap message (one_frame word f g valid other says said) ∙ sym same

-- and what it spells is a message
pub is_message : (version : ℕ) (word : Text) (m : List ℕ) → SpellsMessageIn version word m → IsMessage m
is_message version word m (inl h) = h.1
is_message version word m (inr (v, (f, valid, says, is))) = (f, valid, is)
