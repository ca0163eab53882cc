-- What a node shows in each bit, where one bit more is told.
use Rattle.std.proofs.Common.{◌≡◌, ℕ, ◌<◌, ◌≤◌, zero, suc, Option, Some, List, [], ◌∷◌, ◌++◌, length, refl, arith}
use Rattle.sja_replay.specs.declared.bit_event.BitEvent.{BitEvent}
use Rattle.sja_replay.specs.declared.view.View.{View}
use Rattle.text_wave.specs.Views.{view_from}

-- in the bits before it the same
pub view_front : (first : Option View) (hs more : List BitEvent) (i : ℕ) → i < length hs →
    view_from first i (hs ++ more) ≡ view_from first i hs
view_front first [] more i less = absurd (omega (arith, less))
view_front first (h ∷ hs) more zero less = refl
view_front first (h ∷ hs) more (suc i) less = view_front (Some h.after) hs more i (omega (arith, less))

-- in it what is shown before it
pub view_next : (first : Option View) (hs : List BitEvent) (h : BitEvent) →
    view_from first (length hs) (hs ++ h ∷ []) ≡ Some h.before
view_next first [] h = refl
view_next first (x ∷ hs) h = view_next (Some x.after) hs h

-- behind it what is shown after it
pub view_after : (first : Option View) (hs : List BitEvent) (h : BitEvent) →
    view_from first (length (hs ++ h ∷ [])) (hs ++ h ∷ []) ≡ Some h.after
view_after first [] h = refl
view_after first (x ∷ hs) h = view_after (Some x.after) hs h

-- past all bits it stays so
pub view_past : (first : Option View) (hs : List BitEvent) (k : ℕ) → length hs ≤ k →
    view_from first k hs ≡ view_from first (length hs) hs
view_past first [] k few = refl
view_past first (h ∷ hs) zero few = absurd (omega (arith, few))
view_past first (h ∷ hs) (suc k) few = view_past (Some h.after) hs k (omega (arith, few))
