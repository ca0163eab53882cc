-- What holds of the bits of all nodes, however they go on.
use Rattle.std.proofs.Common.{◌≡◌, ℕ, ◌+◌, ◌≤◌, suc, List, [], ◌∷◌, map, sym, ◌∙◌, subst, arith}
use Rattle.std.specs.Prelude.{Option, slice_get}
use Rattle.lemmas.specs.Related.{EachRelated}
use Rattle.text_frames.specs.FrameStories.{HasTold}
use Rattle.sja_log.specs.Log.{NodeValue}
use Rattle.sja_replay.specs.declared.bit_event.BitEvent.{BitEvent}
use Rattle.text_trace.specs.declared.node_trace.NodeTrace.{NodeTrace}
use Rattle.text_trace.specs.TraceText.{NodeStory}
use Rattle.text_trace.specs.Telling.{HaveSame, at_hand}
use Rattle.text_trace.specs.TraceProgress.{HaveTold, NodeTraceGoesOn, NodeTraceEnds, AreUnderway}
use Rattle.text_trace.specs.Hands.{IsHand}
use Rattle.text_trace.specs.Passing.{NodeTracePasses}
use Rattle.text_picture.specs.Drawing.{AreShown, AreAtHand}
use Rattle.text_picture.specs.Knowing.{HasBits, HaveBits, Begin, Knows}
use Rattle.text_picture.specs.Pages.{no_plan, AreFirst}

-- ---- before the first bit

abbrev pub bits_of : List NodeStory → List (List BitEvent)
bits_of stories = map (λ (s : NodeStory). s.bits) stories

have_first : (k : ℕ) (nodes : List NodeValue) (ts : List NodeTrace) (ss : List NodeStory) →
    HaveTold k no_plan 0 nodes ts ss → HaveBits 0 nodes ts (bits_of ss)
have_first k [] [] [] have = tt
have_first k [] [] (s ∷ ss) have = absurd have
have_first k [] (t ∷ ts) ss have = absurd have
have_first k (n ∷ nodes) [] ss have = absurd have
have_first k (n ∷ nodes) (t ∷ ts) [] have = absurd have
have_first k (n ∷ nodes) (t ∷ ts) (s ∷ ss) have = (have.0.come.0, have_first (k + 1) nodes ts ss have.1)

pub knows_first : (nodes : List NodeValue) (ts : List NodeTrace) (G : List (List BitEvent) → Type 0) →
    (first : AreFirst nodes ts) → ((told : List (List BitEvent)) → Begin 0 (bits_of first.stories) told → G told) →
    Knows nodes 0 ts G
knows_first nodes ts G first g =
    record { stories = bits_of first.stories; have = have_first 0 nodes ts first.stories first.have; holds = g }

-- ---- further on

-- of a node more was told, up to the next bit; whatever begins so, `Hand` holds of it and of what the node trace has at
-- hand
pub record Further (Hand : NodeTrace → List BitEvent → Type 0) (n : NodeValue) (bit next : ℕ) (u : NodeTrace)
    (hs : List BitEvent) : Type 0 where
  pub told : List BitEvent
  pub has : HasBits n next u told
  pub same : HaveSame bit hs told
  pub hand : (all : List BitEvent) → HaveSame next told all → Hand u all

record AllFurther (Hand : NodeTrace → List BitEvent → Type 0) (nodes : List NodeValue) (bit next : ℕ)
    (us : List NodeTrace)
    (stories : List (List BitEvent)) : Type 0 where
  told : List (List BitEvent)
  have : HaveBits next nodes us told
  same : EachRelated (HaveSame bit) stories told
  hands : EachRelated (λ (u : NodeTrace) (hs : List BitEvent). (all : List BitEvent) → HaveSame next hs all →
      Hand u all)
      us told

all_further : (Hand : NodeTrace → List BitEvent → Type 0) (R : NodeTrace → NodeTrace → Type 0) (bit next : ℕ) →
    ((n : NodeValue) (o u : NodeTrace) (hs : List BitEvent) → R o u → HasBits n bit o hs →
    Further Hand n bit next u hs) →
    (nodes : List NodeValue) (ts us : List NodeTrace) (stories : List (List BitEvent)) → HaveBits bit nodes ts stories →
    EachRelated R ts us → AllFurther Hand nodes bit next us stories
all_further Hand R bit next goes [] [] [] [] have on = record { told = []; have = tt; same = tt; hands = tt }
all_further Hand R bit next goes [] [] (u ∷ us) ss have on = absurd on
all_further Hand R bit next goes [] [] [] (s ∷ ss) have on = absurd have
all_further Hand R bit next goes [] (t ∷ ts) us ss have on = absurd have
all_further Hand R bit next goes (n ∷ nodes) [] us ss have on = absurd have
all_further Hand R bit next goes (n ∷ nodes) (t ∷ ts) [] ss have on = absurd on
all_further Hand R bit next goes (n ∷ nodes) (t ∷ ts) (u ∷ us) [] have on = absurd have
all_further Hand R bit next goes (n ∷ nodes) (t ∷ ts) (u ∷ us) (s ∷ ss) have on =
    let one = goes n t u s on.0 have.0 in
    let rest = all_further Hand R bit next goes nodes ts us ss have.1 on.1 in
    record {
      told = one.told ∷ rest.told;
      have = (one.has, rest.have);
      same = (one.same, rest.same);
      hands = (one.hand, rest.hands);
    }

-- what begins as longer ones do
begin_before : (bit next : ℕ) (olds news told : List (List BitEvent)) → bit ≤ next →
    EachRelated (HaveSame bit) olds news → Begin next news told → Begin bit olds told
begin_before bit next [] [] [] few same begin = tt
begin_before bit next [] [] (hs ∷ told) few same begin = absurd begin
begin_before bit next [] (n ∷ news) told few same begin = absurd same
begin_before bit next (o ∷ olds) [] told few same begin = absurd same
begin_before bit next (o ∷ olds) (n ∷ news) [] few same begin = absurd begin
begin_before bit next (o ∷ olds) (n ∷ news) (hs ∷ told) few same begin = (
  λ i less. begin.0 i (omega (arith, less, few)) ∙ same.0 i less,
  begin_before bit next olds news told few same.1 begin.1,
)

hands_of : (Hand : NodeTrace → List BitEvent → Type 0) (next : ℕ) (us : List NodeTrace) (news told : List
    (List BitEvent)) →
    EachRelated (λ (u : NodeTrace) (hs : List BitEvent). (all : List BitEvent) → HaveSame next hs all → Hand u all)
    us news → Begin next news told → EachRelated Hand us told
hands_of Hand next [] [] [] hands begin = tt
hands_of Hand next [] [] (hs ∷ told) hands begin = absurd begin
hands_of Hand next [] (n ∷ news) told hands begin = absurd hands
hands_of Hand next (u ∷ us) [] told hands begin = absurd hands
hands_of Hand next (u ∷ us) (n ∷ news) [] hands begin = absurd begin
hands_of Hand next (u ∷ us) (n ∷ news) (hs ∷ told) hands begin =
    (hands.0 hs begin.0, hands_of Hand next us news told hands.1 begin.1)

pub knows_further : (Hand : NodeTrace → List BitEvent → Type 0) (R : NodeTrace → NodeTrace → Type 0) (bit next : ℕ) →
    ((n : NodeValue) (o u : NodeTrace) (hs : List BitEvent) → R o u → HasBits n bit o hs →
    Further Hand n bit next u hs) →
    bit ≤ next → (nodes : List NodeValue) (olds news : List NodeTrace) (G H : List (List BitEvent) → Type 0) →
    Knows nodes bit olds G → EachRelated R olds news →
    ((told : List (List BitEvent)) → EachRelated Hand news told → G told → H told) → Knows nodes next news H
knows_further Hand R bit next goes few nodes olds news G H k on then =
    let m = all_further Hand R bit next goes nodes olds news k.stories k.have on in
    record {
      stories = m.told;
      have = m.have;
      holds = λ told begin. then told (hands_of Hand next news m.told told m.hands begin)
          (k.holds told (begin_before bit next k.stories m.told told few m.same begin));
    }

-- ---- past a bit

abbrev Shown : ℕ → NodeTrace → List BitEvent → Type 0
Shown bit t hs = at_hand t.bits ≡ slice_get hs bit

full_further : (bit : ℕ) (n : NodeValue) (o u : NodeTrace) (hs : List BitEvent) → NodeTraceGoesOn o u →
    HasBits n bit o hs → Further (Shown bit) n bit (suc bit) u hs
full_further bit n o u hs on come =
    let more = on.bits.tells n.journal bit hs come in
    record {
      told = more.told;
      has = more.come.0;
      same = more.same;
      hand = λ all same. more.bit ∙ sym (same bit (omega arith));
    }

-- with each bit at hand in full
pub knows_next : (nodes : List NodeValue) (bit : ℕ) (olds news : List NodeTrace) (G H : List (List BitEvent) → Type 0) →
    Knows nodes bit olds G → EachRelated NodeTraceGoesOn olds news →
    ((told : List (List BitEvent)) → AreShown bit news told → G told → H told) → Knows nodes (bit + 1) news H
knows_next nodes bit olds news G H k on then =
    let one : suc bit ≡ bit + 1 = omega arith in
    subst (λ (n : ℕ). Knows nodes n news H) one
    (knows_further (Shown bit) NodeTraceGoesOn bit (suc bit) (full_further bit) (omega arith) nodes olds news G H k on
    then)

abbrev AtHand : ℕ → NodeTrace → List BitEvent → Type 0
AtHand bit t hs = IsHand t.short (at_hand t.bits) (slice_get hs bit)

hand_further : (bit : ℕ) (n : NodeValue) (o u : NodeTrace) (hs : List BitEvent) → NodeTracePasses o u →
    HasBits n bit o hs → Further (AtHand bit) n bit (suc bit) u hs
hand_further bit n o u hs on come =
    let more = on.bits n.journal bit hs come in
    record {
      told = more.told;
      has = more.come;
      same = more.same;
      hand = λ all same.
          subst (λ (x : Option BitEvent). IsHand u.short (at_hand u.bits) x) (sym (same bit (omega arith))) more.hand;
    }

-- or in short
pub knows_passed : (nodes : List NodeValue) (bit : ℕ) (olds news : List NodeTrace) (G H : List (List BitEvent) →
    Type 0) →
    Knows nodes bit olds G → EachRelated NodeTracePasses olds news →
    ((told : List (List BitEvent)) → AreAtHand bit news told → G told → H told) → Knows nodes (bit + 1) news H
knows_passed nodes bit olds news G H k on then =
    let one : suc bit ≡ bit + 1 = omega arith in
    subst (λ (n : ℕ). Knows nodes n news H) one
    (knows_further (AtHand bit) NodeTracePasses bit (suc bit) (hand_further bit) (omega arith) nodes olds news G H k on
    then)

-- ---- the end

underway : (bit : ℕ) (nodes : List NodeValue) (ts : List NodeTrace) (ss : List (List BitEvent)) →
    HaveBits bit nodes ts ss → AreUnderway ts
underway bit [] [] ss have = tt
underway bit [] (t ∷ ts) ss have = absurd have
underway bit (n ∷ nodes) [] ss have = tt
underway bit (n ∷ nodes) (t ∷ ts) [] have = absurd have
underway bit (n ∷ nodes) (t ∷ ts) (s ∷ ss) have =
    (record { journal = n.journal; bits = bit; told = s; come = have.0 }, underway bit nodes ts ss have.1)

pub knows_underway : (nodes : List NodeValue) (bit : ℕ) (ts : List NodeTrace) (G : List (List BitEvent) → Type 0) →
    Knows nodes bit ts G → AreUnderway ts
knows_underway nodes bit ts G k = underway bit nodes ts k.stories k.have

-- past the last one
pub record KnowsAll (nodes : List NodeValue) (G : List (List BitEvent) → Type 0) : Type 0 where
  pub told : List (List BitEvent)
  pub have : EachRelated HasTold nodes told
  pub holds : G told

record AllTold (bit : ℕ) (nodes : List NodeValue) (ss : List (List BitEvent)) : Type 0 where
  told : List (List BitEvent)
  have : EachRelated HasTold nodes told
  same : Begin bit ss told

all_told : (bit : ℕ) (nodes : List NodeValue) (ts us : List NodeTrace) (ss : List (List BitEvent)) →
    HaveBits bit nodes ts ss → EachRelated NodeTraceEnds ts us → AllTold bit nodes ss
all_told bit [] [] us [] have on = record { told = []; have = tt; same = tt }
all_told bit [] [] us (s ∷ ss) have on = absurd have
all_told bit [] (t ∷ ts) us ss have on = absurd have
all_told bit (n ∷ nodes) [] us ss have on = absurd have
all_told bit (n ∷ nodes) (t ∷ ts) [] ss have on = absurd on
all_told bit (n ∷ nodes) (t ∷ ts) (u ∷ us) [] have on = absurd have
all_told bit (n ∷ nodes) (t ∷ ts) (u ∷ us) (s ∷ ss) have on =
    let all = on.0.bits.tells n.journal bit s have.0 in
    let rest = all_told bit nodes ts us ss have.1 on.1 in
    record { told = all.told ∷ rest.told; have = (all.are, rest.have); same = (all.same, rest.same) }

pub knows_all : (nodes : List NodeValue) (bit : ℕ) (olds news : List NodeTrace) (G : List (List BitEvent) → Type 0) →
    Knows nodes bit olds G → EachRelated NodeTraceEnds olds news → KnowsAll nodes G
knows_all nodes bit olds news G k on =
    let all = all_told bit nodes olds news k.stories k.have on in
    record { told = all.told; have = all.have; holds = k.holds all.told all.same }
