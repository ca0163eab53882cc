-- The text of the stories so far.
use Rattle.std.proofs.Common.{◌≡◌, ℕ, Bool, ◌+◌, ◌<◌, ◌≤◌, zero, suc, List, [], ◌∷◌, ◌++◌, length, take, drop}
use Rattle.std.proofs.Common.{refl, sym, ap, ap₂, ◌∙◌, subst, append-nil, arith}
use Rattle.std.specs.Prelude.{Option}
use Rattle.can_node_rules.specs.declared.counters.Counters.{Counters}
use Rattle.lemmas.specs.Related.{EachRelated}
use Rattle.sja_log.specs.Log.{NodeValue, RunValue}
use Rattle.sja_replay.specs.declared.bit_event.BitEvent.{BitEvent}
use Rattle.text_report.specs.ReportLines.{numbered}
use Rattle.text_trace.proofs.Stories.WrittenBack.{are_back, same_count}
use Rattle.text_trace.proofs.Stories.Telling.{before_same}
use Rattle.text_trace.specs.BitEvents.{counters_after}
use Rattle.text_trace.specs.Telling.{HaveSame}
use Rattle.text_candump.specs.CandumpText.{IsCandump, node_lines, story_lines, lines_to}
use Rattle.text_candump.specs.declared.driver_bits.DriverBits.{DriverBits}
use Rattle.text_candump.specs.Inside.CandumpProgress.{GoesOn, GoesToEnd, RestsBy, IsShown, AreUnderway, IsUpTo}
use Rattle.text_candump.specs.Inside.CandumpProgress.{hand_lines}
use Rattle.text_candump.specs.Inside.CandumpProgress.{bit_text}
use Rattle.text_candump.proofs.SoFar.Stories.{HaveBegun, AreSilent, all_more, all_rested, all_told, all_underway}

-- ---- the bits before are told alike

same_lines : (errors : Bool) (bits b k : ℕ) (olds news : List (List BitEvent)) → b < bits →
    EachRelated (HaveSame bits) olds news →
    numbered (story_lines errors b) k news ≡ numbered (story_lines errors b) k olds
same_lines errors bits b k [] [] less same = refl
same_lines errors bits b k [] (n ∷ news) less same = absurd same
same_lines errors bits b k (o ∷ olds) [] less same = absurd same
same_lines errors bits b k (o ∷ olds) (n ∷ news) less same =
    let before = before_same b o n (λ i early. same.0 i (omega (arith, less, early))) in
    ap₂ (λ l r. l ++ r)
    (ap₂ (λ (c : Counters) (h : Option BitEvent). node_lines errors b k c h) (ap counters_after before)
    (same.0 b less)) (same_lines errors bits b (k + 1) olds news less same.1)

same_bits : (errors : Bool) (bits n : ℕ) (olds news : List (List BitEvent)) → n ≤ bits →
    EachRelated (HaveSame bits) olds news → lines_to errors n news ≡ lines_to errors n olds
same_bits errors bits zero olds news few same = refl
same_bits errors bits (suc b) olds news few same =
    ap₂ (λ l r. l ++ r) (same_bits errors bits b olds news (omega (arith, few)) same)
    (same_lines errors bits b 0 olds news (omega (arith, few)) same)

-- ---- the bit at hand

shown_lines : (errors : Bool) (bit k : ℕ) (bs : List DriverBits) (ss : List (List BitEvent)) →
    EachRelated (IsShown bit) bs ss → numbered (hand_lines errors bit) k bs ≡ numbered (story_lines errors bit) k ss
shown_lines errors bit k [] [] shown = refl
shown_lines errors bit k [] (s ∷ ss) shown = absurd shown
shown_lines errors bit k (b ∷ bs) [] shown = absurd shown
shown_lines errors bit k (b ∷ bs) (s ∷ ss) shown =
    ap₂ (λ l r. l ++ r) (shown.0 errors k) (shown_lines errors bit (k + 1) bs ss shown.1)

-- ---- bit by bit

pub up_first : (errors : Bool) (nodes : List NodeValue) (all : List DriverBits) → HaveBegun nodes all →
    IsUpTo errors nodes 0 all []
up_first errors nodes all begun = record { stories = begun.stories; have = begun.have; text_is = refl }

up_more : (errors : Bool) (nodes : List NodeValue) (bits next : ℕ) (olds news : List DriverBits) (old new : List ℕ) →
    IsUpTo errors nodes bits olds old → EachRelated GoesOn olds news → new ≡ old ++ bit_text errors bits news →
    next ≡ suc bits → IsUpTo errors nodes next news new
up_more errors nodes bits next olds news old new up on wrote one =
    let m = all_more bits nodes olds news up.stories up.have on in
    let P : ℕ → Type 0 = λ n. IsUpTo errors nodes n news new in
    let before = up.text_is ∙ sym (same_bits errors bits bits up.stories m.stories (omega arith) m.same) in
    subst P (sym one) (record {
      stories = m.stories;
      have = m.have;
      text_is = wrote ∙ ap₂ (λ l r. l ++ r) before (shown_lines errors bits 0 news m.stories m.shown);
    })

-- ---- bits in which every node rests

silent_bit : (errors : Bool) (bits n b k : ℕ) (ss : List (List BitEvent)) → AreSilent bits n ss → bits ≤ b →
    b < bits + n → numbered (story_lines errors b) k ss ≡ []
silent_bit errors bits n b k [] silent from less = refl
silent_bit errors bits n b k (s ∷ ss) silent from less =
    ap₂ (λ l r. l ++ r) (silent.0 errors k b from less)
    (silent_bit errors bits n b (k + 1) ss silent.1 from less)

silent_bits : (errors : Bool) (bits n i : ℕ) (ss : List (List BitEvent)) → AreSilent bits n ss → i ≤ n →
    lines_to errors (bits + i) ss ≡ lines_to errors bits ss
silent_bits errors bits n zero ss silent few =
    let same : bits + 0 ≡ bits = omega arith in ap (λ b. lines_to errors b ss) same
silent_bits errors bits n (suc i) ss silent few =
    let next : bits + suc i ≡ suc (bits + i) = omega arith in
    ap (λ b. lines_to errors b ss) next
    ∙ ap₂ (λ l r. l ++ r) (silent_bits errors bits n i ss silent (omega (arith, few)))
    (silent_bit errors bits n (bits + i) 0 ss silent (omega arith) (omega (arith, few)))
    ∙ append-nil (lines_to errors bits ss)

pub up_rested : (errors : Bool) (nodes : List NodeValue) (bits n next : ℕ) (olds news : List DriverBits)
    (text : List ℕ) → IsUpTo errors nodes bits olds text → EachRelated (RestsBy n) olds news → next ≡ bits + n →
    IsUpTo errors nodes next news text
up_rested errors nodes bits n next olds news text up on one =
    let m = all_rested bits n nodes olds news up.stories up.have on in
    let P : ℕ → Type 0 = λ k. IsUpTo errors nodes k news text in
    let before = up.text_is ∙ sym (same_bits errors bits bits up.stories m.stories (omega arith) m.same) in
    subst P (sym one) (record {
      stories = m.stories;
      have = m.have;
      text_is = before ∙ sym (silent_bits errors bits n n m.stories m.silent (omega arith));
    })

-- ---- the bits are lent to a call as a slice, and written back

-- a bit more
pub back_more : (errors : Bool) (nodes : List NodeValue) (bits next n : ℕ) (was lent now shown : List DriverBits)
    (old new : List ℕ) → n ≡ length was → lent ≡ was → length now ≡ length lent →
    shown ≡ take n (now ++ drop (length now) was) → IsUpTo errors nodes bits was old → EachRelated GoesOn lent now →
    new ≡ old ++ bit_text errors bits shown → next ≡ suc bits →
    IsUpTo errors nodes next (take n (now ++ drop (length now) was)) new
back_more errors nodes bits next n was lent now shown old new all is count seen up on wrote one =
    let back = are_back was now n all (same_count was lent now is count) in
    let R : List DriverBits → Type 0 = λ l. EachRelated GoesOn l now in
    let P : List DriverBits → Type 0 = λ l. IsUpTo errors nodes next l new in
    subst P (sym back) (up_more errors nodes bits next was now old new up (subst R is on)
    (wrote ∙ ap (λ (l : List DriverBits). old ++ bit_text errors bits l) (seen ∙ back)) one)

-- bits in which every node rests
pub back_rested : (errors : Bool) (nodes : List NodeValue) (bits rest next n : ℕ) (was lent now : List DriverBits)
    (text : List ℕ) → n ≡ length was → lent ≡ was → length now ≡ length lent → IsUpTo errors nodes bits was text →
    EachRelated (RestsBy rest) lent now → next ≡ bits + rest →
    IsUpTo errors nodes next (take n (now ++ drop (length now) was)) text
back_rested errors nodes bits rest next n was lent now text all is count up on one =
    let back = are_back was now n all (same_count was lent now is count) in
    let R : List DriverBits → Type 0 = λ l. EachRelated (RestsBy rest) l now in
    let P : List DriverBits → Type 0 = λ l. IsUpTo errors nodes next l text in
    subst P (sym back) (up_rested errors nodes bits rest next was now text up (subst R is on) one)

-- they are underway
pub lent_underway : (errors : Bool) (nodes : List NodeValue) (bits : ℕ) (was lent : List DriverBits) (text : List ℕ) →
    lent ≡ was → IsUpTo errors nodes bits was text → AreUnderway lent
lent_underway errors nodes bits was lent text is up =
    subst AreUnderway (sym is) (all_underway bits nodes was up.stories up.have)

-- all bits
pub back_all : (errors : Bool) (log : RunValue) (bits : ℕ) (was lent now : List DriverBits) (text : List ℕ) →
    bits ≡ log.bits → lent ≡ was → IsUpTo errors log.nodes bits was text → EachRelated GoesToEnd lent now →
    IsCandump log errors text
back_all errors log bits was lent now text ends is up on =
    let P : ℕ → Type 0 = λ n. IsUpTo errors log.nodes n was text in
    let R : List DriverBits → Type 0 = λ l. EachRelated GoesToEnd l now in
    let last = subst P ends up in
    let all = all_told log.bits log.nodes was now last.stories last.have (subst R is on) in
    record {
      stories = all.stories;
      have = all.have;
      whole = last.text_is
          ∙ sym (same_bits errors log.bits log.bits last.stories all.stories (omega arith) all.same);
    }
