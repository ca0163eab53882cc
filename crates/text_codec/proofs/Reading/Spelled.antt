-- Texts that give frames, up to one that may not.
use Rattle.std.proofs.Common.{◌≡◌, ◌<◌, ◌+◌, ℕ, suc, List, [], ◌∷◌, ◌++◌, length, map, take, drop, get_or}
use Rattle.std.proofs.Common.{sym, ap, subst, ◌∙◌}
use Rattle.std.specs.Borrow.{Bor}
use Rattle.std.specs.List.{AllZip}
use Rattle.std.proofs.lemmas.List.{map-append, map_more}
use Rattle.can_frame.specs.Frame.{FrameValue}
use Rattle.std.proofs.Math.Seq.{split_at}
use Rattle.lemmas.proofs.Related.{related_push}
use Rattle.text_codec.specs.declared.command_refusal.CommandRefusal.{CommandRefusal}
use Rattle.text_codec.specs.Arbitrate.{RefusesFirst}
use Rattle.text_codec.specs.Given.{Gives, RefusesGiven}

-- the texts behind references
abbrev pub texts : List (Bor (List ℕ)) → List (List ℕ)
texts messages = map (λ digits. digits.now) messages

-- one frame more
pub frames_more : (messages : List (Bor (List ℕ))) (frames : List FrameValue) (i : ℕ) (d : Bor (List ℕ))
    (f : FrameValue) → i < length messages → AllZip Gives (texts (take i messages)) frames →
    Gives (get_or messages i d).now f → AllZip Gives (texts (take (i + 1) messages)) (frames ++ f ∷ [])
frames_more messages frames i d f within spelled this =
    let more = map_more (λ (digits : Bor (List ℕ)). digits.now) messages i d within in
    let P : List (List ℕ) → Type 0 = λ l. AllZip Gives l (frames ++ f ∷ []) in
    subst P (sym more)
    (related_push Gives (texts (take i messages)) frames (get_or messages i d).now f spelled this)

-- the first that is refused
pub first_refused : (messages : List (Bor (List ℕ))) (frames : List FrameValue) (i : ℕ) (d : Bor (List ℕ))
    (refusal : CommandRefusal) → i < length messages → AllZip Gives (texts (take i messages)) frames →
    RefusesGiven (get_or messages i d).now refusal → RefusesFirst (texts messages) refusal
first_refused messages frames i d refusal within spelled refused = record {
  before = texts (take i messages);
  text = (get_or messages i d).now;
  after = texts (drop (suc i) messages);
  whole = ap texts (split_at messages i d within)
      ∙ map-append (λ (digits : Bor (List ℕ)). digits.now) (take i messages)
      (get_or messages i d ∷ drop (suc i) messages);
  frames = frames;
  given = spelled;
  refused = refused;
}
