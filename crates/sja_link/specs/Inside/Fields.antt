-- How a world is kept: two lists and how far each was read, with two numbers that follow from them.
use Rattle.std.specs.Prelude.{◌≡◌, ◌≤◌, ◌+◌, ℕ, Bool, true, false, List, [], ◌∷◌, ◌++◌, length, map, take}
use Rattle.sja_journal.specs.declared.down.Down.{Down}
use Rattle.sja_journal.specs.declared.up.Up.{Up}
use Rattle.lemmas.specs.Gathering.{total}
use Rattle.sja_journal.specs.Lists.{messages}
use Rattle.sja_journal.specs.Free.{credit_of}
use Rattle.sja_link.specs.World.{WorldValue, is_off, is_start, is_send, is_stop, bytes_of, credits_of, free}

-- what was got is a front of what was put, and what was taken of what was given
abbrev pub world_of : List Down → ℕ → List Up → ℕ → Bool → WorldValue
world_of put got given taken may_send =
    record {
      lists = record { put = put; taken = take taken given; got = take got put; given = given };
      may_send = may_send;
    }

-- every number is at least 3, as the length of a message is
abbrev pub AreBig : List ℕ → Type 0
AreBig [] = Unit {0}
AreBig (n ∷ ns) = (3 ≤ n) × AreBig ns

-- the lengths of messages
abbrev pub lengths : List (List ℕ) → List ℕ
lengths = map (λ m. length m)

-- no request is on the way while the next may be sent
abbrev pub sends_left : Bool → ℕ
sends_left true = 0
sends_left false = 1

-- what every event keeps: the messages got are those released and the rest, each released one gave its credit, and
-- there is at most one start, one stop, one bus-off, and one request on the way
pub record IsWorld (w : WorldValue) : Type 0 where
  pub down : List Down
  pub up : List Up
  pub released : List (List ℕ)
  pub rest : List (List ℕ)
  pub put_is : w.lists.put ≡ w.lists.got ++ down
  pub given_is : w.lists.given ≡ w.lists.taken ++ up
  pub got_is : messages w.lists.got ≡ released ++ rest
  pub credits : credits_of w.lists.given ≡ lengths released
  pub fits : bytes_of (messages w.lists.put) ≤ 64 + total credit_of w.lists.taken
  pub big : AreBig (lengths (messages w.lists.put))
  pub off : total is_off w.lists.put ≤ 1
  pub start : total is_start w.lists.given ≤ 1
  pub stop : total is_stop w.lists.given ≤ 1
  pub send : total is_send up ≤ sends_left w.may_send

-- the fields of a world fit together
pub record IsStored (put : List Down) (got : ℕ) (given : List Up) (taken : ℕ) (may_send : Bool)
    (free_bytes released : ℕ) : Type 0 where
  pub world : IsWorld (world_of put got given taken may_send)
  pub got_in : got ≤ length put
  pub taken_in : taken ≤ length given
  pub free_is : free_bytes ≡ free (world_of put got given taken may_send)
  pub released_is : released ≡ length (credits_of given)
