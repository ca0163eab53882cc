-- The role of a node along the bits of a frame that is under way.
use Rattle.std.proofs.Common.{◌≡◌, inl, inr, Bool, true, false, None, List, [], ◌∷◌, ◌++◌, refl, sym, ap, ◌∙◌, subst}
use Rattle.std.proofs.Common.{append_assoc, append-nil, if◌then◌else◌}
use Rattle.can_node_rules.specs.declared.request.Request.{Request}
use Rattle.can_node_rules.specs.declared.role.Role.{Role}
use Rattle.can_node_rules.specs.declared.role.Role.TheVariants.{Transmitter, Receiver}
use Rattle.can_node_rules.specs.Bits.{Bit, seen_of}
use Rattle.can_node_rules.specs.Context.{ContextValue, is_transmitter}
use Rattle.can_node_rules.specs.Counting.{at_bit, frame_bit}
use Rattle.can_node_rules.specs.Effects.{along, keep_first, with_send, with_abort}
use Rattle.can_node_rules.specs.UnfinishedPieces.{IsInFrame, frame_bits}
use Rattle.can_node_rules.specs.UnfinishedPieces.IsInFrame.{from_idle, from_sof}
use Rattle.can_node_rules.specs.Pieces.{Place}
use Rattle.can_node_rules.specs.Record.{RecordEntry, bits_in, Inner}
use Rattle.can_node_rules.specs.Record.Inner.{none_left, samples, sends, aborts}
use Rattle.can_node_rules.proofs.Bits.FramePlaces.{frame_more}
use Rattle.can_node_rules.proofs.Bits.FrameSites.{place_of, still_in, frame_at, receives}
use Rattle.can_node_rules.proofs.Driven.Lost.{Stands, stands_bit}

-- ---- an abort

-- it keeps the role
pub marked_role : (t : Bool) (c : ContextValue) →
    (if t then record c { aborted = true } else record c { held = None }).role ≡ c.role
marked_role true c = refl
marked_role false c = refl

-- and the request, where it is in progress
pub marked_held : (t : Bool) (c : ContextValue) → t ≡ true →
    (if t then record c { aborted = true } else record c { held = None }).held ≡ c.held
marked_held true c e = refl
marked_held false c e = absurd cc

abort_role : (place : Place) (done : List Bit) (c : ContextValue) → IsInFrame place done →
    (with_abort place c).role ≡ c.role
abort_role place done c (from_idle b bits) = marked_role (is_transmitter c.role) c
abort_role place done c (from_sof bits) = marked_role (is_transmitter c.role) c

abort_held : (place : Place) (done : List Bit) (c : ContextValue) → IsInFrame place done → c.role ≡ Transmitter →
    (with_abort place c).held ≡ c.held
abort_held place done c (from_idle b bits) e = marked_held (is_transmitter c.role) c (ap is_transmitter e)
abort_held place done c (from_sof bits) e = marked_held (is_transmitter c.role) c (ap is_transmitter e)

stands_abort : (r : Request) (place : Place) (done seen : List Bit) (c : ContextValue) → IsInFrame place done →
    Stands r c seen → Stands r (with_abort place c) seen
stands_abort r place done seen c site (inl h) =
    inl (abort_role place done c site ∙ h.0, abort_held place done c site h.0 ∙ h.1, h.2)
stands_abort r place done seen c site (inr h) = inr (abort_role place done c site ∙ h.0, h.1)

stands_send : (r request : Request) (seen : List Bit) (c : ContextValue) → Stands r c seen →
    Stands r (with_send request c) seen
stands_send r request seen c (inl h) = inl (h.0, ap (λ o. keep_first o request) h.1, h.2)
stands_send r request seen c (inr h) = inr h

-- ---- along the entries

-- an own frame
pub stands_along : (r : Request) (c : ContextValue) (place : Place) (done : List Bit) (rest : List RecordEntry) →
    IsInFrame place done → Inner rest → Stands r c (frame_bits place done) →
    Stands r (along c place done rest) (frame_bits place (done ++ bits_in rest))
stands_along r c place done rest site none_left h =
    let P : List Bit → Type 0 = λ l. Stands r c (frame_bits place l) in subst P (sym (append-nil done)) h
stands_along r c place done rest site (samples {entries = xs} b i) h =
    let now = at_bit c place done b in
    let more : List Bit = done ++ b ∷ [] in
    let P : List Bit → Type 0 = λ l. Stands r (frame_bit c.role c (seen_of (frame_bits place done)) b) l in
    let Q : ContextValue → Type 0 = λ d. Stands r d (frame_bits place more) in
    let R : List Bit → Type 0 = λ l. Stands r (along now place more xs) (frame_bits place l) in
    subst R (append_assoc done (b ∷ []) (bits_in xs))
    (stands_along r now place more xs (still_in place done b site) i
    (subst Q (sym (frame_at c place done b site))
    (subst P (sym (frame_more place done (b ∷ []) (place_of place done site)))
    (stands_bit r c (frame_bits place done) b h))))
stands_along r c place done rest site (sends {entries = xs} request i) h =
    stands_along r (with_send request c) place done xs site i (stands_send r request (frame_bits place done) c h)
stands_along r c place done rest site (aborts {entries = xs} i) h =
    stands_along r (with_abort place c) place done xs site i
    (stands_abort r place done (frame_bits place done) c site h)

-- a receiver's bit
receives_bit : (c : ContextValue) (done : List Bit) (b : Bit) → c.role ≡ Receiver →
    (frame_bit c.role c (seen_of done) b).role ≡ Receiver
receives_bit c done b e =
    let P : Role → Type 0 = λ o. (frame_bit o c (seen_of done) b).role ≡ Receiver in
    subst P (sym e) (receives c b.driven b.seen ∙ e)

-- a frame of another node
pub receives_along : (c : ContextValue) (place : Place) (done : List Bit) (rest : List RecordEntry) →
    IsInFrame place done → Inner rest → c.role ≡ Receiver → (along c place done rest).role ≡ Receiver
receives_along c place done rest site none_left e = e
receives_along c place done rest site (samples {entries = xs} b i) e =
    receives_along (at_bit c place done b) place (done ++ b ∷ []) xs (still_in place done b site) i
    (ap (λ (d : ContextValue). d.role) (frame_at c place done b site)
    ∙ receives_bit c (frame_bits place done) b e)
receives_along c place done rest site (sends {entries = xs} request i) e =
    receives_along (with_send request c) place done xs site i e
receives_along c place done rest site (aborts {entries = xs} i) e =
    receives_along (with_abort place c) place done xs site i (abort_role place done c site ∙ e)
