-- The context along the entries of a piece.
use Rattle.std.proofs.Common.{◌≡◌, Bool, true, false, None, List, [], ◌∷◌, ◌++◌, refl, ap, sym, subst, ◌∙◌}
use Rattle.std.proofs.Common.{append_assoc, if◌then◌else◌}
use Rattle.std.proofs.lemmas.List.{append-nil}
use Rattle.can_node_rules.specs.Bits.{Bit}
use Rattle.can_node_rules.specs.Context.{ContextValue, owes_suspension}
use Rattle.can_node_rules.specs.Counting.{at_bit}
use Rattle.can_node_rules.specs.Effects.{along, with_send, with_abort, is_in_progress}
use Rattle.can_node_rules.specs.Pieces.{Place}
use Rattle.can_node_rules.specs.Pieces.Place.{AtInterframeSpace}
use Rattle.can_node_rules.specs.Record.{RecordEntry, bits_in}
use Rattle.can_node_rules.specs.Record.RecordEntry.{Start, Stop, OneBit, Send, Abort, BusOff}
use Rattle.can_node_rules.specs.KeptContexts.{IsKept}
use Rattle.can_node_rules.proofs.Machine.Changes.{bit_changes}

-- the bits among two lists of entries
pub bits_both : (a b : List RecordEntry) → bits_in (a ++ b) ≡ bits_in a ++ bits_in b
bits_both [] b = refl
bits_both (OneBit x ∷ a) b = ap (λ l. x ∷ l) (bits_both a b)
bits_both (Send request ∷ a) b = bits_both a b
bits_both (Abort ∷ a) b = bits_both a b
bits_both (Start config ∷ a) b = bits_both a b
bits_both (Stop ∷ a) b = bits_both a b
bits_both (BusOff ∷ a) b = bits_both a b

-- the context after one list of entries and another
pub along_both : (c : ContextValue) (place : Place) (done : List Bit) (a b : List RecordEntry) →
    along c place done (a ++ b) ≡ along (along c place done a) place (done ++ bits_in a) b
along_both c place done [] b = ap (λ l. along c place l b) (sym (append-nil done))
along_both c place done (OneBit x ∷ a) b =
    along_both (at_bit c place done x) place (done ++ x ∷ []) a b
    ∙ ap (λ l. along (along (at_bit c place done x) place (done ++ x ∷ []) a) place l b)
    (append_assoc done (x ∷ []) (bits_in a))
along_both c place done (Send request ∷ a) b = along_both (with_send request c) place done a b
along_both c place done (Abort ∷ a) b = along_both (with_abort place c) place done a b
along_both c place done (Start config ∷ a) b = along_both c place done a b
along_both c place done (Stop ∷ a) b = along_both c place done a b
along_both c place done (BusOff ∷ a) b = along_both c place done a b

-- after a bit more
pub along-bit : (c : ContextValue) (place : Place) (slice : List RecordEntry) (b : Bit) →
    along c place [] (slice ++ OneBit b ∷ []) ≡ at_bit (along c place [] slice) place (bits_in slice) b
along-bit c place slice b = along_both c place [] slice (OneBit b ∷ [])

-- what a context has that doesn't change within a piece
abbrev pub AreKept : ContextValue → ContextValue → Type 0
AreKept c d = (d.listen ≡ c.listen) × (d.self_test ≡ c.self_test) × (d.off ≡ c.off) × (d.flag ≡ c.flag)

same : (c : ContextValue) → AreKept c c
same c = (refl, refl, refl, refl)

-- one bit
one_bit : (c : ContextValue) (place : Place) (done : List Bit) (b : Bit) → AreKept c (at_bit c place done b)
one_bit c place done b =
    let h = bit_changes c place done b in (h.listen, h.self_test, h.off, h.flag)

-- two steps
pub kept_both : (c d e : ContextValue) → AreKept c d → AreKept d e → AreKept c e
kept_both c d e h k = (k.0 ∙ h.0, k.1 ∙ h.1, k.2 ∙ h.2, k.3 ∙ h.3)

-- an abort
aborted : (c : ContextValue) (place : Place) → AreKept c (with_abort place c)
aborted c place = by (is_in_progress c place)
  where
    by : (test : Bool) → AreKept c (if test then record c { aborted = true } else record c { held = None })
    by true = same c
    by false = same c

-- all entries of a piece
pub all_kept : (c : ContextValue) (place : Place) (done : List Bit) (slice : List RecordEntry) →
    AreKept c (along c place done slice)
all_kept c place done [] = same c
all_kept c place done (OneBit b ∷ slice) =
    let now = at_bit c place done b in
    kept_both c now (along now place (done ++ b ∷ []) slice) (one_bit c place done b)
    (all_kept now place (done ++ b ∷ []) slice)
all_kept c place done (Send request ∷ slice) = all_kept (with_send request c) place done slice
all_kept c place done (Abort ∷ slice) =
    let now = with_abort place c in
    kept_both c now (along now place done slice) (aborted c place) (all_kept now place done slice)
all_kept c place done (Start config ∷ slice) = all_kept c place done slice
all_kept c place done (Stop ∷ slice) = all_kept c place done slice
all_kept c place done (BusOff ∷ slice) = all_kept c place done slice

-- in interframe space role and counters stay
interframe_kept : (c : ContextValue) (done : List Bit) (slice : List RecordEntry) →
    owes_suspension (along c AtInterframeSpace done slice) ≡ owes_suspension c
interframe_kept c done [] = refl
interframe_kept c done (OneBit b ∷ slice) = interframe_kept c (done ++ b ∷ []) slice
interframe_kept c done (Send request ∷ slice) = interframe_kept (with_send request c) done slice
interframe_kept c done (Abort ∷ slice) = interframe_kept (with_abort AtInterframeSpace c) done slice
interframe_kept c done (Start config ∷ slice) = interframe_kept c done slice
interframe_kept c done (Stop ∷ slice) = interframe_kept c done slice
interframe_kept c done (BusOff ∷ slice) = interframe_kept c done slice

-- what doesn't change within a piece
pub is_kept : (c : ContextValue) (place : Place) (slice : List RecordEntry) → IsKept place c (along c place [] slice)
is_kept c place slice =
    let all = all_kept c place [] slice in
    let P : Place → Type 0 = λ s. owes_suspension (along c s [] slice) ≡ owes_suspension c in
    record {
      listen = all.0;
      self_test = all.1;
      off = all.2;
      flag = all.3;
      owes = λ e. subst P (sym e) (interframe_kept c [] slice);
    }
