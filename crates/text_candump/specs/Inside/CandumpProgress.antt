-- A run that was told bit by bit: how far the bits of each node came.
use Rattle.std.specs.Prelude.{◌≡◌, ◌≤◌, ◌<◌, ◌⊎◌, ℕ, Bool, false, Option, Some, None, List, [], ◌∷◌, length}
use Rattle.std.specs.Prelude.{slice_index_or}
use Rattle.can_node_rules.specs.declared.counters.Counters.{Counters}
use Rattle.sja_log.specs.Log.{NodeValue}
use Rattle.sja_journal.specs.declared.entry.Entry.{Entry}
use Rattle.sja_replay.specs.declared.bit_event.BitEvent.{BitEvent}
use Rattle.sja_replay.specs.declared.short_bit.ShortBit.{ShortBit}
use Rattle.sja_replay.specs.ReplayProgress.{HasCome}
use Rattle.text_report.specs.ReportLines.{numbered}
use Rattle.text_trace.specs.BitEvents.{counters_after}
use Rattle.text_trace.specs.Telling.{IsUnderway, MayRest, TellsAll, at_hand}
use Rattle.text_trace.specs.TraceText.{counters_left}
use Rattle.text_trace.specs.Hands.{HandGoesOn, RestsOn}
use Rattle.text_candump.specs.CandumpText.{node_lines, restart_line, story_lines, lines_to}
use Rattle.text_candump.specs.declared.driver_bits.DriverBits.{DriverBits}

-- ---- one node

-- the counters of a bit in short
abbrev pub counters_in : Option ShortBit → Option Counters
counters_in None = None
counters_in (Some q) = Some q.counters

-- the counters as the bits so far left them: the bit at hand was passed with these, or is there in full
abbrev pub left_by : Option Counters → Option BitEvent → Counters
left_by None own = counters_after own
left_by (Some k) own = k

abbrev pub now_left : DriverBits → Counters
now_left b = left_by b.passed (at_hand b.bits)

-- after so many bits these bit events of a journal were told, and left the counters that are known
pub record HasGone (journal : List Entry) (bits : ℕ) (b : DriverBits) (told : List BitEvent) : Type 0 where
  pub come : HasCome b.bits.over journal bits b.bits.replay told
  pub left : now_left b ≡ counters_left bits told

-- it went on past a bit, of which in short the counters are kept; or to the end
pub record GoesOn (old new : DriverBits) : Type 0 where
  pub left : new.left ≡ now_left old
  pub short : Option ShortBit
  pub passed : new.passed ≡ counters_in short
  pub bits : HandGoesOn old.bits new.bits short

abbrev pub GoesToEnd : DriverBits → DriverBits → Type 0
GoesToEnd old new = TellsAll old.bits new.bits

-- it stays at rest for so many bits, and isn't bus-off
pub record MayStay (n : ℕ) (b : DriverBits) : Type 0 where
  pub some : 1 ≤ n
  pub on : (now_left b).off ≡ false
  pub rests : MayRest n b.bits

-- it went on past so many such bits, each of which brought the same in short
pub record Stays (n : ℕ) (old new : DriverBits) : Type 0 where
  pub may : MayStay n old
  pub short : ShortBit
  pub passed : new.passed ≡ Some short.counters
  pub bits : RestsOn n short old.bits new.bits

-- or past none
abbrev pub RestsBy : ℕ → DriverBits → DriverBits → Type 0
RestsBy n old new = ((n ≡ 0) × (new ≡ old)) ⊎ Stays n old new

-- ---- all nodes

-- each of them has come to some bit
abbrev pub AreUnderway : List DriverBits → Type 0
AreUnderway [] = Unit {0}
AreUnderway (b ∷ all) = IsUnderway b.bits × AreUnderway all

-- each of them stays so for so many bits
abbrev pub AllStay : ℕ → List DriverBits → Type 0
AllStay n all = (k : ℕ) (d : DriverBits) → k < length all → MayStay n (slice_index_or all k d)

-- after so many bits the bits of each node have told this part of its story
abbrev pub HaveTold : ℕ → List NodeValue → List DriverBits → List (List BitEvent) → Type 0
HaveTold bits [] [] [] = Unit {0}
HaveTold bits [] [] (s ∷ stories) = ⊥
HaveTold bits [] (b ∷ all) stories = ⊥
HaveTold bits (n ∷ nodes) [] stories = ⊥
HaveTold bits (n ∷ nodes) (b ∷ all) [] = ⊥
HaveTold bits (n ∷ nodes) (b ∷ all) (s ∷ stories) =
    HasGone n.journal bits b s × HaveTold bits nodes all stories

-- ---- what is written of the bit at hand

-- of one that the bits before came to with these counters, and that was passed with these or is there in full
abbrev pub short_lines : Bool → ℕ → ℕ → Counters → Option Counters → Option BitEvent → List ℕ
short_lines errors bit node left None own = node_lines errors bit node left own
short_lines errors bit node left (Some k) own = restart_line errors bit node left k

abbrev pub hand_lines : Bool → ℕ → ℕ → DriverBits → List ℕ
hand_lines errors bit node b = short_lines errors bit node b.left b.passed (at_hand b.bits)

abbrev pub bit_text : Bool → ℕ → List DriverBits → List ℕ
bit_text errors bit all = numbered (hand_lines errors bit) 0 all

-- of what is at hand the lines are those of what this bit of the story brought
abbrev pub IsShown : ℕ → DriverBits → List BitEvent → Type 0
IsShown bit b story = (errors : Bool) (node : ℕ) → hand_lines errors bit node b ≡ story_lines errors bit node story

-- after so many bits the text is that of the stories so far
pub record IsUpTo (errors : Bool) (nodes : List NodeValue) (bits : ℕ) (all : List DriverBits) (text : List ℕ) :
    Type 0 where
  pub stories : List (List BitEvent)
  pub have : HaveTold bits nodes all stories
  pub text_is : text ≡ lines_to errors bits stories
