-- A receiver in a frame has seen its SOF.
use Rattle.std.proofs.Common.{◌≡◌, ◌≢◌, Bool, false, List, [], ◌∷◌, ◌++◌, length}
use Rattle.std.proofs.Common.{replicate, refl, ap, sym, subst, ◌∙◌, arith}
use Rattle.std.proofs.lemmas.List.{length-append}
use Rattle.lemmas.proofs.Lists.{none_front}
use Rattle.can_levels.specs.declared.level.Level.{Level}
use Rattle.can_levels.specs.declared.level.Level.TheVariants.{Dominant, Recessive}
use Rattle.can_levels.specs.declared.segment.Segment.{Segment}
use Rattle.can_levels.specs.Stuffing.IsUnstuffed.{nothing}
use Rattle.can_levels.specs.Reading.{IsPastPart}
use Rattle.can_levels.specs.Segments.{segment_at}
use Rattle.can_levels.specs.Segments.IsNext.{bit}
use Rattle.can_levels.proofs.Ending.{no_start}
use Rattle.can_node_rules.specs.declared.cause.Cause.{Cause}
use Rattle.can_node_rules.specs.declared.cause.Cause.TheVariants.{Stuff as StuffError}
use Rattle.can_node_rules.specs.declared.fault_site.FaultSite.TheVariants.{InReception}
use Rattle.can_node_rules.specs.declared.request.Request.{Request}
use Rattle.can_node_rules.specs.Bits.{Bit, recessive_bit, seen_of}
use Rattle.can_node_rules.specs.Context.{ContextValue}
use Rattle.can_node_rules.specs.Pieces.{Place, Piece}
use Rattle.can_node_rules.specs.Pieces.Place.{AtReset, AtIntegration, AtIdle, AfterSof}
use Rattle.can_node_rules.specs.Pieces.Place.{AtLastEofBit, AtFlag, AtDelimiter, AtInterframeSpace}
use Rattle.can_node_rules.specs.Pieces.Piece.{Fault}
use Rattle.can_node_rules.specs.Frames.{IsWithin, Transmits, Receives}
use Rattle.can_node_rules.specs.Frames.Transmits.{sending, failed, lost}
use Rattle.can_node_rules.specs.Frames.Receives.{broken}
use Rattle.can_node_rules.specs.Table.{Row}
use Rattle.can_node_rules.specs.Table.Row.{integration, idle, other, own, other_begun, own_begun, last_eof_bit}
use Rattle.can_node_rules.specs.Table.Row.{last_eof_bit_overload, flag, flag_fault, flag_passive, delimiter}
use Rattle.can_node_rules.specs.Table.Row.{delimiter_overload, delimiter_fault, interframe_space, interframe_space_sof}
use Rattle.can_node_rules.specs.Table.Row.{suspend_transmission_sof, intermission_overload}
use Rattle.can_node_rules.specs.Table.Row.{intermission_overload_second}
use Rattle.can_node_rules.specs.UnfinishedPieces.{IsReceiving, frame_bits}
use Rattle.can_node_rules.proofs.Reception.StuffFaults.{stuff_fault}

-- one bit that is seen recessive isn't seen dominant
not_dominant : (more : List Bit) → recessive_bit Recessive ∷ [] ≡ recessive_bit Dominant ∷ more → ⊥
not_dominant more e =
    let seen : Recessive ∷ [] ≡ Dominant ∷ seen_of more = ap (λ (l : List Bit). seen_of l) e in
    cc

-- nor is it a lost arbitration
not_lost : (before more : List Bit) → recessive_bit Recessive ∷ [] ≡ before ++ recessive_bit Dominant ∷ more → ⊥
not_lost [] more e = not_dominant more e
not_lost (b ∷ before) more e =
    omega (arith, ap (λ (l : List Bit). length l) e, length-append before (recessive_bit Dominant ∷ more))

-- a transmitter that saw one recessive level found no receiver's fault
not_sent : (self_test : Bool) (request : Request) (bits : List Bit) (p : Piece) (next : Place) (cause : Cause)
    (segment : Segment) →
    Transmits self_test request bits p next → bits ≡ recessive_bit Recessive ∷ [] →
    p ≡ Fault InReception cause segment → ⊥
not_sent self_test request bits p next cause segment (sending h) e d = cc
not_sent self_test request bits p next cause segment (failed h) e d = cc
not_sent self_test request bits p next cause segment (lost h) e d = not_lost h.before h.more (sym e ∙ h.whole)

-- at no place is one recessive level a receiver's fault, unless the frame began before it
not_row : (c : ContextValue) (place next : Place) (bits : List Bit) (p : Piece) (cause : Cause) (segment : Segment) →
    Row c place bits p next → place ≢ AfterSof → bits ≡ recessive_bit Recessive ∷ [] →
    p ≡ Fault InReception cause segment → ⊥
not_row c place next bits p cause segment (integration elevens) begun e d = cc
not_row c place next bits p cause segment (idle none) begun e d = cc
not_row c place next bits p cause segment (other {bits = more} none receives) begun e d = not_dominant more (sym e)
not_row c place next bits p cause segment (own {request = request} some sends) begun e d =
    not_sent c.self_test request bits p next cause segment sends e d
not_row c place next bits p cause segment (other_begun none receives) begun e d = begun refl
not_row c place next bits p cause segment (own_begun some sends) begun e d = begun refl
not_row c place next bits p cause segment last_eof_bit begun e d = cc
not_row c place next bits p cause segment last_eof_bit_overload begun e d = cc
not_row c place next bits p cause segment (flag dominant) begun e d = cc
not_row c place next bits p cause segment (flag_fault i dominant few) begun e d = cc
not_row c place next bits p cause segment (flag_passive recessive ends) begun e d = cc
not_row c place next bits p cause segment (delimiter k) begun e d = cc
not_row c place next bits p cause segment (delimiter_overload k) begun e d = cc
not_row c place next bits p cause segment (delimiter_fault k i few) begun e d = cc
not_row c place next bits p cause segment interframe_space begun e d = cc
not_row c place next bits p cause segment interframe_space_sof begun e d = cc
not_row c place next bits p cause segment (suspend_transmission_sof i owed few) begun e d = cc
not_row c place next bits p cause segment intermission_overload begun e d = cc
not_row c place next bits p cause segment intermission_overload_second begun e d = cc

-- where nothing was seen there are no bits
nothing_seen : (bits : List Bit) → seen_of bits ≡ [] → bits ≡ []
nothing_seen [] e = refl
nothing_seen (b ∷ bits) e = cc

-- where nothing of a frame was seen it has no bits, and didn't begin before them
no_bits : (place : Place) (bits : List Bit) → seen_of (frame_bits place bits) ≡ [] → (bits ≡ []) × (place ≢ AfterSof)
no_bits AfterSof bits e = cc
no_bits AtIdle bits e = (nothing_seen bits e, λ wrong. cc)
no_bits AtReset bits e = (nothing_seen bits e, λ wrong. cc)
no_bits AtIntegration bits e = (nothing_seen bits e, λ wrong. cc)
no_bits AtLastEofBit bits e = (nothing_seen bits e, λ wrong. cc)
no_bits AtFlag bits e = (nothing_seen bits e, λ wrong. cc)
no_bits AtDelimiter bits e = (nothing_seen bits e, λ wrong. cc)
no_bits AtInterframeSpace bits e = (nothing_seen bits e, λ wrong. cc)

-- a recessive level at SOF is a fault for whoever waits for one there
wrong_start : (listen : Bool) (l : List Level) → l ≡ [] → IsWithin l → ¬ IsPastPart l →
    Receives listen l (recessive_bit Recessive ∷ []) (Fault InReception StuffError (segment_at [] 0)) AtFlag
wrong_start listen l none within inside =
    let P : List Level → Type 0 = λ m. Receives listen m (recessive_bit Recessive ∷ [])
    (Fault InReception StuffError (segment_at [] 0)) AtFlag in
    let Q : List Level → Type 0 = λ m. IsWithin m in
    let R : List Level → Type 0 = λ m. ¬ IsPastPart m in
    let early = subst R none inside in
    subst P (sym none)
    (broken (stuff_fault listen [] [] Recessive (segment_at [] 0) false (subst Q none within) early (no_start [])
    (bit [] nothing (λ five. omega (arith, ap length five.2, length-append five.0 (replicate 5 five.1))) early)))

-- a receiver in a frame has seen its start
pub receiving_begun : (c : ContextValue) (place : Place) (bits : List Bit) → IsReceiving c place bits →
    seen_of (frame_bits place bits) ≢ []
receiving_begun c place bits h none =
    let there = no_bits place bits none in
    let levels : h.levels ≡ [] = none_front h.levels (seen_of h.more) (sym h.seen ∙ none) in
    let before : h.before ≡ [] = none_front h.before h.more (sym h.whole ∙ there.0) in
    let P : List Level → Type 0 = λ l. IsWithin l in
    let within : IsWithin h.levels = subst P (sym h.seen ∙ none ∙ sym levels) h.within in
    not_row c place AtFlag (h.before ++ recessive_bit Recessive ∷ []) (Fault InReception StuffError (segment_at [] 0))
    StuffError (segment_at [] 0)
    (h.row (recessive_bit Recessive ∷ []) (Fault InReception StuffError (segment_at [] 0)) AtFlag
    (wrong_start c.listen h.levels levels within h.inside))
    there.1 (ap (λ l. l ++ recessive_bit Recessive ∷ []) before) refl
