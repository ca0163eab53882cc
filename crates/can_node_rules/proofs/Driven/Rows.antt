-- What a node drove in a bit of a piece is what it drives there by the bits before it.
use Rattle.std.proofs.Common.{◌≡◌, ◌≢◌, inl, inr, suc, ◌+◌, Bool, false, Option, Some, None, List, [], ◌∷◌}
use Rattle.std.proofs.Common.{◌++◌, replicate, refl, sym, ap, ◌∙◌, subst, if◌then◌else◌}
use Rattle.can_levels.specs.declared.level.Level.{Level}
use Rattle.can_levels.specs.declared.level.Level.TheVariants.{Dominant, Recessive}
use Rattle.can_node_rules.specs.declared.request.Request.{Request}
use Rattle.can_node_rules.specs.declared.role.Role.{Role}
use Rattle.can_node_rules.specs.declared.role.Role.TheVariants.{Transmitter, Receiver}
use Rattle.can_node_rules.specs.Bits.{Bit, recessive_bit, dominant_bit, recessive_bits, dominant_bits, seen_of}
use Rattle.can_node_rules.specs.Context.{ContextValue, flag_level, interframe_count, is_transmitter}
use Rattle.can_node_rules.specs.Counting.{first_bit, idle_bit}
use Rattle.can_node_rules.specs.Driving.{Drives, FrameDrives, IdleDrives}
use Rattle.can_node_rules.specs.Effects.{along}
use Rattle.can_node_rules.specs.Frames.{Acknowledges}
use Rattle.can_node_rules.specs.UnfinishedPieces.{IsInFrame, frame_bits}
use Rattle.can_node_rules.specs.UnfinishedPieces.IsInFrame.{from_idle, from_sof}
use Rattle.can_node_rules.specs.Pieces.{Place, Piece, sent_at}
use Rattle.can_node_rules.specs.Pieces.Place.{AtIdle, AfterSof}
use Rattle.can_node_rules.specs.Record.{RecordEntry, bits_in, Inner}
use Rattle.can_node_rules.specs.Record.RecordEntry.{OneBit}
use Rattle.can_node_rules.specs.Table.{Row}
use Rattle.can_node_rules.specs.Table.Row.{integration, idle, other, own, other_begun, own_begun, last_eof_bit}
use Rattle.can_node_rules.specs.Table.Row.{last_eof_bit_overload, flag, flag_fault, flag_passive, delimiter}
use Rattle.can_node_rules.specs.Table.Row.{delimiter_overload, delimiter_fault, interframe_space, interframe_space_sof}
use Rattle.can_node_rules.specs.Table.Row.{suspend_transmission_sof, intermission_overload}
use Rattle.can_node_rules.specs.Table.Row.{intermission_overload_second}
use Rattle.can_node_rules.proofs.Machine.Along.{all_kept}
use Rattle.can_node_rules.proofs.Bits.FrameSites.{drives_frame}
use Rattle.can_node_rules.proofs.Bits.SentParts.{sends_parts}
use Rattle.can_node_rules.proofs.OneCut.Entries.{some_not_none}
use Rattle.can_node_rules.proofs.Driven.Contexts.{IsRight}
use Rattle.can_node_rules.proofs.Driven.Lost.{LostIn, Stands, lost_last, none_lost}
use Rattle.can_node_rules.proofs.Driven.OwnFrames.{Drove, answers_of, drove, begins_dominant}
use Rattle.can_node_rules.proofs.Driven.Roles.{stands_along, receives_along}

-- ---- outside frames

recessive_there : (l : List Level) (done more : List Bit) (b : Bit) → recessive_bits l ≡ done ++ b ∷ more →
    b.driven ≡ Recessive
recessive_there [] [] more b e = absurd cc
recessive_there [] (d ∷ done) more b e = absurd cc
recessive_there (x ∷ l) [] more b e =
    let same : b ≡ recessive_bit x = cc in ap (λ (v : Bit). v.driven) same
recessive_there (x ∷ l) (d ∷ done) more b e =
    let rest : recessive_bits l ≡ done ++ b ∷ more = cc in recessive_there l done more b rest

dominant_there : (l : List Level) (done more : List Bit) (b : Bit) → dominant_bits l ≡ done ++ b ∷ more →
    b.driven ≡ Dominant
dominant_there [] [] more b e = absurd cc
dominant_there [] (d ∷ done) more b e = absurd cc
dominant_there (x ∷ l) [] more b e =
    let same : b ≡ dominant_bit x = cc in ap (λ (v : Bit). v.driven) same
dominant_there (x ∷ l) (d ∷ done) more b e =
    let rest : dominant_bits l ≡ done ++ b ∷ more = cc in dominant_there l done more b rest

pub plain_drives : (c now : ContextValue) (place next : Place) (bits done more : List Bit) (b : Bit) (p : Piece) →
    place ≢ AtIdle → place ≢ AfterSof → flag_level now ≡ flag_level c → Row c place bits p next →
    bits ≡ done ++ b ∷ more → Drives now place done b.driven
plain_drives c now place next bits done more b p away never same (integration {l = l} h) e =
    recessive_there l done more b e
plain_drives c now place next bits done more b p away never same (idle none) e = absurd (away refl)
plain_drives c now place next bits done more b p away never same (other none h) e = absurd (away refl)
plain_drives c now place next bits done more b p away never same (own some h) e = absurd (away refl)
plain_drives c now place next bits done more b p away never same (other_begun none h) e = absurd (never refl)
plain_drives c now place next bits done more b p away never same (own_begun some h) e = absurd (never refl)
plain_drives c now place next bits done more b p away never same last_eof_bit e =
    recessive_there (Recessive ∷ []) done more b e
plain_drives c now place next bits done more b p away never same last_eof_bit_overload e =
    recessive_there (Dominant ∷ []) done more b e
plain_drives c now place next bits done more b p away never same (flag level) e =
    dominant_there (replicate 6 Dominant) done more b e ∙ sym (same ∙ level)
plain_drives c now place next bits done more b p away never same (flag_fault i level less) e =
    dominant_there (replicate i Dominant ++ Recessive ∷ []) done more b e ∙ sym (same ∙ level)
plain_drives c now place next bits done more b p away never same (flag_passive {l = l} level h) e =
    recessive_there l done more b e ∙ sym (same ∙ level)
plain_drives c now place next bits done more b p away never same (delimiter k) e =
    recessive_there (replicate k Dominant ++ replicate 8 Recessive) done more b e
plain_drives c now place next bits done more b p away never same (delimiter_overload k) e =
    recessive_there (replicate k Dominant ++ (replicate 7 Recessive ++ Dominant ∷ [])) done more b e
plain_drives c now place next bits done more b p away never same (delimiter_fault k i less) e =
    recessive_there (replicate k Dominant ++ (replicate (suc i) Recessive ++ Dominant ∷ [])) done more b e
plain_drives c now place next bits done more b p away never same interframe_space e =
    recessive_there (replicate (interframe_count c) Recessive) done more b e
plain_drives c now place next bits done more b p away never same interframe_space_sof e =
    recessive_there (Recessive ∷ Recessive ∷ Dominant ∷ []) done more b e
plain_drives c now place next bits done more b p away never same (suspend_transmission_sof i owes less) e =
    recessive_there (replicate (3 + i) Recessive ++ Dominant ∷ []) done more b e
plain_drives c now place next bits done more b p away never same intermission_overload e =
    recessive_there (Dominant ∷ []) done more b e
plain_drives c now place next bits done more b p away never same intermission_overload_second e =
    recessive_there (Recessive ∷ Dominant ∷ []) done more b e

-- ---- in a frame

-- a receiver
receiver_drives : (now : ContextValue) (place : Place) (done : List Bit) (x : Level) (listen : Bool) →
    IsInFrame place done → now.role ≡ Receiver → now.listen ≡ listen →
    Acknowledges listen (seen_of (frame_bits place done)) x → Drives now place done x
receiver_drives now place done x listen site role same ack =
    let P : Role → Type 0 = λ r. FrameDrives r now (frame_bits place done) x in
    let Q : Bool → Type 0 = λ t. Acknowledges t (seen_of (frame_bits place done)) x in
    drives_frame now place done x site (subst P (sym role) (subst Q (sym same) ack))

-- the sender of a request, or who lost arbitration with it
sender_drives : (r : Request) (now : ContextValue) (place : Place) (done : List Bit) (x : Level) →
    IsInFrame place done → now.listen ≡ false → Stands r now (frame_bits place done) →
    Drove r (frame_bits place done) x → Drives now place done x
sender_drives r now place done x site speaks (inl h) (inl line) =
    let P : Role → Type 0 = λ o. FrameDrives o now (frame_bits place done) x in
    drives_frame now place done x site (subst P (sym h.0) (r, h.1, line.sends))
sender_drives r now place done x site speaks (inl h) (inr lost) = absurd (h.2 lost.lost)
sender_drives r now place done x site speaks (inr h) (inl line) = absurd (line.wins h.1)
sender_drives r now place done x site speaks (inr h) (inr lost) =
    receiver_drives now place done x false site h.0 speaks lost.answers

-- no bit that is driven dominant loses
wins_first : (ext : Bool) (d : Bit) → d.driven ≡ Dominant → LostIn ext (d ∷ []) → ⊥
wins_first ext d e h = elim (lost_last ext [] d h) [
  | inl before ↦ none_lost ext before
  | inr here ↦
      let no : Dominant ≡ Recessive = sym e ∙ ap (λ (v : Bit). v.driven) here.0 in cc
]

-- ---- where the bus is idle

-- its first bit
pub first_drives : (c : ContextValue) (bits more : List Bit) (b : Bit) (p : Piece) (next : Place) →
    Row c AtIdle bits p next → bits ≡ b ∷ more → IdleDrives (sent_at c AtIdle) b.driven
first_drives c bits more b p next (idle none) e =
    let same : b ≡ recessive_bit Recessive = cc in
    let P : Option Request → Type 0 = λ o. IdleDrives o b.driven in
    subst P (sym none) (ap (λ (v : Bit). v.driven) same)
first_drives c bits more b p next (other none h) e =
    let same : b ≡ recessive_bit Dominant = cc in
    let P : Option Request → Type 0 = λ o. IdleDrives o b.driven in
    subst P (sym none) (ap (λ (v : Bit). v.driven) same)
first_drives c bits more b p next (own {request = r} some h) e =
    let P : Option Request → Type 0 = λ o. IdleDrives o b.driven in
    subst P (sym some) (elim (drove c.self_test r bits p next h [] more b e) [
      | inl line ↦ begins_dominant r b.driven line.sends
      | inr lost ↦ absurd (none_lost r.frame.ext lost.lost)
    ])

-- a later one
pub later_drives : (c : ContextValue) (d : Bit) (rest : List RecordEntry) (bits more : List Bit) (b : Bit) (p : Piece)
    (next : Place) → c.role ≡ Receiver → Inner rest → Row c AtIdle bits p next →
    bits ≡ d ∷ (bits_in rest ++ b ∷ more) →
    Drives (along c AtIdle [] (OneBit d ∷ rest)) AtIdle (d ∷ bits_in rest) b.driven
later_drives c d rest bits more b p next right inner (idle none) e =
    let no : bits_in rest ++ b ∷ more ≡ [] = cc in absurd (some_not_none (bits_in rest) b more no)
later_drives c d rest bits more b p next right inner (other {bits = l} none h) e =
    let now = along c AtIdle [] (OneBit d ∷ rest) in
    let first : d ≡ recessive_bit Dominant = cc in
    let whole : l ≡ bits_in rest ++ b ∷ more = cc in
    let role : now.role ≡ Receiver =
    receives_along (idle_bit c [] d) AtIdle (d ∷ []) rest (from_idle d []) inner
    (ap (λ o. (first_bit o c).role) none ∙ right) in
    let P : Bit → Type 0 = λ v. Acknowledges c.listen (seen_of (v ∷ bits_in rest)) b.driven in
    receiver_drives now AtIdle (d ∷ bits_in rest) b.driven c.listen (from_idle d (bits_in rest)) role
    (all_kept c AtIdle [] (OneBit d ∷ rest)).0
    (subst P (sym first) (answers_of c.listen (Dominant ∷ []) l p next h (bits_in rest) more b whole))
later_drives c d rest bits more b p next right inner (own {request = r} some h) e =
    let now = along c AtIdle [] (OneBit d ∷ rest) in
    let sent = sends_parts c.listen c.held r some in
    let start : d.driven ≡ Dominant =
    elim (drove c.self_test r bits p next h [] (bits_in rest ++ b ∷ more) d e) [
      | inl line ↦ begins_dominant r d.driven line.sends
      | inr lost ↦ absurd (none_lost r.frame.ext lost.lost)
    ] in
    sender_drives r now AtIdle (d ∷ bits_in rest) b.driven (from_idle d (bits_in rest))
    ((all_kept c AtIdle [] (OneBit d ∷ rest)).0 ∙ sent.0)
    (stands_along r (idle_bit c [] d) AtIdle (d ∷ []) rest (from_idle d []) inner
    (inl (
      ap (λ o. (first_bit o c).role) some,
      ap (λ o. (first_bit o c).held) some ∙ sent.1,
      wins_first r.frame.ext d start,
    )))
    (drove c.self_test r bits p next h (d ∷ bits_in rest) more b e)

-- ---- after SOF

sof_sent : (c : ContextValue) (r : Request) → sent_at c AfterSof ≡ Some r →
    (c.role ≡ Transmitter) × (c.held ≡ Some r)
sof_sent c r e = by c.role refl
  where
    by : (o : Role) → c.role ≡ o → (c.role ≡ Transmitter) × (c.held ≡ Some r)
    by Transmitter is =
        (is, sym (ap (λ x. if is_transmitter x then c.held else None) is) ∙ e)
    by Receiver is =
        let no : None ≡ Some r = sym (ap (λ x. if is_transmitter x then c.held else None) is) ∙ e in absurd cc

sof_receives : (c : ContextValue) → sent_at c AfterSof ≡ None → IsRight c AfterSof → c.role ≡ Receiver
sof_receives c e right = by c.role refl
  where
    by : (o : Role) → c.role ≡ o → c.role ≡ Receiver
    by Receiver is = is
    by Transmitter is =
        let held = (right is).0 in
        let no : Some held.0 ≡ None =
        sym held.1 ∙ sym (ap (λ x. if is_transmitter x then c.held else None) is) ∙ e in absurd cc

pub begun_drives : (c : ContextValue) (rest : List RecordEntry) (bits more : List Bit) (b : Bit) (p : Piece)
    (next : Place) → IsRight c AfterSof → Inner rest → Row c AfterSof bits p next → bits ≡ bits_in rest ++ b ∷ more →
    Drives (along c AfterSof [] rest) AfterSof (bits_in rest) b.driven
begun_drives c rest bits more b p next right inner (other_begun none h) e =
    receiver_drives (along c AfterSof [] rest) AfterSof (bits_in rest) b.driven c.listen (from_sof (bits_in rest))
    (receives_along c AfterSof [] rest (from_sof []) inner (sof_receives c none right))
    (all_kept c AfterSof [] rest).0 (answers_of c.listen (Dominant ∷ []) bits p next h (bits_in rest) more b e)
begun_drives c rest bits more b p next right inner (own_begun {request = r} some h) e =
    let sent = sof_sent c r some in
    sender_drives r (along c AfterSof [] rest) AfterSof (bits_in rest) b.driven (from_sof (bits_in rest))
    ((all_kept c AfterSof [] rest).0 ∙ (right sent.0).1)
    (stands_along r c AfterSof [] rest (from_sof []) inner
    (inl (sent.0, sent.1, wins_first r.frame.ext (dominant_bit Dominant) refl)))
    (drove c.self_test r (dominant_bit Dominant ∷ bits) p next h (dominant_bit Dominant ∷ bits_in rest) more b
    (ap (λ l. dominant_bit Dominant ∷ l) e))
