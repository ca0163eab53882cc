-- A replay goes on past bits of a node at rest at once.
use Rattle.std.proofs.Common.{◌≡◌, ℕ, zero, suc, ◌+◌, ◌<◌, ◌≤◌, Some, None, List, [], ◌∷◌, drop, refl, sym, ap, ◌∙◌}
use Rattle.std.proofs.Common.{arith}
use Rattle.std.specs.Coded.{le_prop}
use Rattle.can_levels.specs.declared.level.Level.TheVariants.{Dominant, Recessive}
use Rattle.sja_replay.proofs.Knowledge.NodeRests.{resting_bit, same_shown}
use Rattle.sja_journal.specs.declared.entry.Entry.{Entry}
use Rattle.sja_journal.specs.declared.entry.Entry.TheVariants.{Bit, Up as Item, Abort, Stored, Overrun, Off}
use Rattle.sja_journal.specs.Records.{record_of}
use Rattle.sja_journal.specs.RestBits.{rest_bit, rest_before}
use Rattle.sja_replay.specs.declared.replay.Replay.{Replay}
use Rattle.sja_replay.specs.declared.short_bit.ShortBit.{ShortBit}
use Rattle.sja_replay.specs.Inside.Walking.{IsTakenFrom}
use Rattle.sja_replay.specs.Replaying.{with_ahead, IsAt}
use Rattle.sja_replay.specs.ReplayRest.{RestsFor, rested}
use Rattle.sja_replay.specs.Short.{LooksAt, PassesBit}
use Rattle.sja_replay.proofs.BitTaken.Passed.{HasSampled, passed_bit}

-- ---- the entries

-- the next of them is one at rest
next_rest : (i : ℕ) (es : List Entry) → i < rest_before es → drop i es ≡ rest_bit ∷ drop (suc i) es
next_rest zero (Bit Recessive Recessive ∷ es) few = refl
next_rest (suc i) (Bit Recessive Recessive ∷ es) few = next_rest i es (omega (arith, few))
next_rest i [] few = absurd (omega (arith, few))
next_rest i (Bit Recessive Dominant ∷ es) few = absurd (omega (arith, few))
next_rest i (Bit Dominant seen ∷ es) few = absurd (omega (arith, few))
next_rest i (Item u ∷ es) few = absurd (omega (arith, few))
next_rest i (Abort ∷ es) few = absurd (omega (arith, few))
next_rest i (Stored m ∷ es) few = absurd (omega (arith, few))
next_rest i (Overrun m ∷ es) few = absurd (omega (arith, few))
next_rest i (Off ∷ es) few = absurd (omega (arith, few))

-- ---- past all of them

pub rested_is : (r : Replay) (n : ℕ) (es : List Entry) (fits : r.free ≤ 64) → es ≡ drop n r.entries →
    record r { bits = r.bits + n; entries = es; fits = fits } ≡ rested n r
rested_is r n es fits is =
    ap (λ l. record r { bits = r.bits + n; entries = l; fits = fits }) is
    ∙ ap (λ (p : r.free ≤ 64). record r { bits = r.bits + n; entries = drop n r.entries; fits = p })
    (le_prop fits r.fits)

-- ---- past one of the bits

pub rests_on : (r : Replay) (n i : ℕ) (q : ShortBit) (j : List Entry) → RestsFor r n →
    LooksAt r.node Recessive Recessive q → i < n → IsAt (rested i r) j →
    PassesBit (rested i r) (rested (suc i) r) j q
rests_on r n i q j w l early at =
    let old = rested i r in
    let new = rested (suc i) r in
    let mid : Replay = record old { bits = new.bits } in
    let bits = w.bits in
    let few = w.few in
    let sampled : HasSampled old mid = record {
      bits = omega arith;
      few = omega (arith, few, early);
      aborted = refl;
      off = refl;
      free = refl;
      entries = refl;
    } in
    let taken : IsTakenFrom mid new old.ahead = record {
      same = record { node = refl; bits = refl; aborted = refl };
      off = refl;
      free = refl;
      given = refl;
      left = ap (λ a. with_ahead a (drop (suc i) r.entries)) w.awaits.ahead
          ∙ sym (next_rest i r.entries (omega (arith, bits, early)));
      looked = λ none. (let x : Some rest_bit ≡ None = sym w.awaits.ahead ∙ none in cc);
    } in
    passed_bit old mid new Recessive Recessive Recessive q q.segment old.ahead j at w.awaits.ahead w.awaits.unmarked
    w.awaits.drives refl l (resting_bit r.node (record_of j) at.found at.stands w.awaits.rests w.awaits.drives)
    (same_shown r.node) l.segment (λ idle. (l.driven_is, l.seen_is)) sampled taken
