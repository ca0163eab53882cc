-- The stories of nodes, and how far the bits of each came.
use Rattle.std.proofs.Common.{◌≡◌, ℕ, ◌+◌, ◌<◌, ◌≤◌, zero, suc, List, [], ◌∷◌, ◌++◌, length, take, get_or}
use Rattle.std.proofs.Common.{sym, ap, ◌∙◌, subst, arith}
use Rattle.std.specs.Prelude.{Option, slice_get, slice_index_or}
use Rattle.std.proofs.lemmas.List.{take_more, take_all}
use Rattle.can_node_rules.specs.declared.counters.Counters.{Counters}
use Rattle.lemmas.specs.Related.{EachRelated}
use Rattle.sja_log.specs.Log.{NodeValue}
use Rattle.sja_replay.specs.declared.bit_event.BitEvent.{BitEvent}
use Rattle.text_trace.proofs.Stories.Telling.{before_same}
use Rattle.text_trace.specs.BitEvents.{counters_after}
use Rattle.text_trace.specs.Telling.{HaveSame, IsUnderway, at_hand}
use Rattle.text_candump.specs.CandumpText.{HasStory, node_lines}
use Rattle.text_candump.specs.declared.driver_bits.DriverBits.{DriverBits}
use Rattle.text_candump.proofs.SoFar.Resting.{IsUnsaid, has_rested}
use Rattle.text_candump.proofs.SoFar.Silent.{hand_left, hand_lines_are}
use Rattle.text_candump.specs.Inside.CandumpProgress.{HasGone, GoesOn, GoesToEnd, RestsBy, HaveTold, IsShown}
use Rattle.text_candump.specs.Inside.CandumpProgress.{AreUnderway}
use Rattle.text_candump.specs.Inside.CandumpProgress.{left_by, short_lines}

-- ---- before the first bit

-- one node more
one_told : (ns : List NodeValue) (bs : List DriverBits) (ss : List (List BitEvent)) (n : NodeValue) (b : DriverBits) →
    HaveTold 0 ns bs ss → HasGone n.journal 0 b [] →
    HaveTold 0 (ns ++ n ∷ []) (bs ++ b ∷ []) (ss ++ [] ∷ [])
one_told [] [] [] n b have has = (has, tt)
one_told [] [] (s ∷ ss) n b have has = absurd have
one_told [] (c ∷ bs) ss n b have has = absurd have
one_told (m ∷ ns) [] ss n b have has = absurd have
one_told (m ∷ ns) (c ∷ bs) [] n b have has = absurd have
one_told (m ∷ ns) (c ∷ bs) (s ∷ ss) n b have has = (have.0, one_told ns bs ss n b have.1 has)

-- the nodes so far
pub record HaveBegun (nodes : List NodeValue) (all : List DriverBits) : Type 0 where
  pub stories : List (List BitEvent)
  pub have : HaveTold 0 nodes all stories

-- none yet
pub begun_none : (nodes : List NodeValue) (all : List DriverBits) → all ≡ [] → HaveBegun (take 0 nodes) all
begun_none nodes all none =
    let P : List DriverBits → Type 0 = λ l. HaveBegun (take 0 nodes) l in
    subst P (sym none) (record { stories = []; have = tt })

pub begun_more : (nodes : List NodeValue) (i : ℕ) (n : NodeValue) (olds news : List DriverBits) (b : DriverBits) →
    i < length nodes → n ≡ get_or nodes i n → HaveBegun (take i nodes) olds →
    HasGone n.journal 0 b [] → news ≡ olds ++ b ∷ [] → HaveBegun (take (i + 1) nodes) news
begun_more nodes i n olds news b less is begun has pushed =
    let stories = begun.stories ++ [] ∷ [] in
    let R : List NodeValue → Type 0 = λ l. HaveTold 0 l (olds ++ b ∷ []) stories in
    let S : List DriverBits → Type 0 = λ l. HaveBegun (take (i + 1) nodes) l in
    let next : take (i + 1) nodes ≡ take i nodes ++ n ∷ [] =
    take_more nodes i n less ∙ ap (λ x. take i nodes ++ x ∷ []) (sym is) in
    subst S (sym pushed) (record {
      stories = stories;
      have = subst R (sym next) (one_told (take i nodes) olds begun.stories n b begun.have has);
    })

pub begun_all : (nodes : List NodeValue) (i : ℕ) (all : List DriverBits) → length nodes ≤ i →
    HaveBegun (take i nodes) all → HaveBegun nodes all
begun_all nodes i all past begun =
    let P : List NodeValue → Type 0 = λ l. HaveBegun l all in subst P (take_all i nodes past) begun

-- ---- a bit more

pub record AllMore (bits : ℕ) (nodes : List NodeValue) (news : List DriverBits) (ss : List (List BitEvent)) :
    Type 0 where
  pub stories : List (List BitEvent)
  pub have : HaveTold (suc bits) nodes news stories
  pub shown : EachRelated (IsShown bits) news stories
  pub same : EachRelated (HaveSame bits) ss stories

pub all_more : (bits : ℕ) (nodes : List NodeValue) (olds news : List DriverBits) (ss : List (List BitEvent)) →
    HaveTold bits nodes olds ss → EachRelated GoesOn olds news → AllMore bits nodes news ss
all_more bits [] [] [] [] have on = record { stories = []; have = tt; shown = tt; same = tt }
all_more bits [] [] (c ∷ news) ss have on = absurd on
all_more bits [] [] [] (s ∷ ss) have on = absurd have
all_more bits [] (b ∷ olds) news ss have on = absurd have
all_more bits (n ∷ nodes) [] news ss have on = absurd have
all_more bits (n ∷ nodes) (b ∷ olds) [] ss have on = absurd on
all_more bits (n ∷ nodes) (b ∷ olds) (c ∷ news) [] have on = absurd have
all_more bits (n ∷ nodes) (b ∷ olds) (c ∷ news) (s ∷ ss) have on =
    let more = on.0.bits n.journal bits s have.0.come in
    let brought = slice_get more.told bits in
    let left = on.0.left ∙ have.0.left ∙ sym (ap counters_after (before_same bits s more.told more.same)) in
    let rest = all_more bits nodes olds news ss have.1 on.1 in
    record {
      stories = more.told ∷ rest.stories;
      have = (
        record {
          come = more.come;
          left = ap (λ (k : Option Counters). left_by k (at_hand c.bits)) on.0.passed
              ∙ hand_left on.0.short (at_hand c.bits) brought more.hand;
        },
        rest.have,
      );
      shown = (
        λ errors node.
            ap (λ (k : Option Counters). short_lines errors bits node c.left k (at_hand c.bits)) on.0.passed
            ∙ hand_lines_are errors bits node c.left on.0.short (at_hand c.bits) brought more.hand
            ∙ ap (λ (k : Counters). node_lines errors bits node k brought) left,
        rest.shown,
      );
      same = (more.same, rest.same);
    }

-- ---- bits in which every node rests

-- nothing is said of so many bits from this one on
abbrev pub AreSilent : ℕ → ℕ → List (List BitEvent) → Type 0
AreSilent bits n [] = Unit {0}
AreSilent bits n (s ∷ ss) = IsUnsaid bits n s × AreSilent bits n ss

pub record AllRested (bits n : ℕ) (nodes : List NodeValue) (news : List DriverBits) (ss : List (List BitEvent)) :
    Type 0 where
  pub stories : List (List BitEvent)
  pub have : HaveTold (bits + n) nodes news stories
  pub silent : AreSilent bits n stories
  pub same : EachRelated (HaveSame bits) ss stories

pub all_rested : (bits n : ℕ) (nodes : List NodeValue) (olds news : List DriverBits) (ss : List (List BitEvent)) →
    HaveTold bits nodes olds ss → EachRelated (RestsBy n) olds news → AllRested bits n nodes news ss
all_rested bits n [] [] [] [] have on = record { stories = []; have = tt; silent = tt; same = tt }
all_rested bits n [] [] (c ∷ news) ss have on = absurd on
all_rested bits n [] [] [] (s ∷ ss) have on = absurd have
all_rested bits n [] (b ∷ olds) news ss have on = absurd have
all_rested bits n (m ∷ nodes) [] news ss have on = absurd have
all_rested bits n (m ∷ nodes) (b ∷ olds) [] ss have on = absurd on
all_rested bits n (m ∷ nodes) (b ∷ olds) (c ∷ news) [] have on = absurd have
all_rested bits n (m ∷ nodes) (b ∷ olds) (c ∷ news) (s ∷ ss) have on =
    let more = has_rested bits n m.journal b c s have.0 on.0 in
    let rest = all_rested bits n nodes olds news ss have.1 on.1 in
    record {
      stories = more.told ∷ rest.stories;
      have = (more.has, rest.have);
      silent = (more.unsaid, rest.silent);
      same = (more.same, rest.same);
    }

-- ---- all bits

pub record AllTold (bits : ℕ) (nodes : List NodeValue) (ss : List (List BitEvent)) : Type 0 where
  pub stories : List (List BitEvent)
  pub have : EachRelated HasStory nodes stories
  pub same : EachRelated (HaveSame bits) ss stories

pub all_told : (bits : ℕ) (nodes : List NodeValue) (olds news : List DriverBits) (ss : List (List BitEvent)) →
    HaveTold bits nodes olds ss → EachRelated GoesToEnd olds news → AllTold bits nodes ss
all_told bits [] [] [] [] have on = record { stories = []; have = tt; same = tt }
all_told bits [] [] (c ∷ news) ss have on = absurd on
all_told bits [] [] [] (s ∷ ss) have on = absurd have
all_told bits [] (b ∷ olds) news ss have on = absurd have
all_told bits (n ∷ nodes) [] news ss have on = absurd have
all_told bits (n ∷ nodes) (b ∷ olds) [] ss have on = absurd on
all_told bits (n ∷ nodes) (b ∷ olds) (c ∷ news) [] have on = absurd have
all_told bits (n ∷ nodes) (b ∷ olds) (c ∷ news) (s ∷ ss) have on =
    let all = on.0.tells n.journal bits s have.0.come in
    let rest = all_told bits nodes olds news ss have.1 on.1 in
    record {
      stories = all.told ∷ rest.stories;
      have = (all.are, rest.have);
      same = (all.same, rest.same);
    }

-- each one is underway
pub all_underway : (bits : ℕ) (nodes : List NodeValue) (all : List DriverBits) (ss : List (List BitEvent)) →
    HaveTold bits nodes all ss → AreUnderway all
all_underway bits [] [] [] have = tt
all_underway bits [] [] (s ∷ ss) have = absurd have
all_underway bits [] (b ∷ all) ss have = absurd have
all_underway bits (n ∷ nodes) [] ss have = tt
all_underway bits (n ∷ nodes) (b ∷ all) [] have = absurd have
all_underway bits (n ∷ nodes) (b ∷ all) (s ∷ ss) have = (
  record { journal = n.journal; bits = bits; told = s; come = have.0.come },
  all_underway bits nodes all ss have.1,
)

pub underway_at : (all : List DriverBits) (k : ℕ) (d : DriverBits) → AreUnderway all → k < length all →
    IsUnderway (slice_index_or all k d).bits
underway_at [] k d are less = absurd (omega (arith, less))
underway_at (b ∷ all) zero d are less = are.0
underway_at (b ∷ all) (suc k) d are less = underway_at all k d are.1 (omega (arith, less))
