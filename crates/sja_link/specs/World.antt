-- The world of one link: what its two ends did (this project's own rule).
use Rattle.std.specs.Prelude.{◌+◌, ◌-◌, ℕ, Bool, true, List, [], ◌∷◌, length, drop}
use Rattle.sja_journal.specs.declared.down.Down.{Down}
use Rattle.sja_journal.specs.declared.down.Down.TheVariants.{Message, Off as OffDown}
use Rattle.sja_journal.specs.declared.up.Up.{Up}
use Rattle.sja_journal.specs.declared.up.Up.TheVariants.{Start as StartUp, Credit, Send as SendUp, Stop as StopUp}
use Rattle.lemmas.specs.Gathering.{total}
use Rattle.sja_journal.specs.Lists.{Lists, nothing_yet, messages}
use Rattle.sja_journal.specs.Free.{credit_of}

-- the four lists of the link, and the word "may send"
pub record WorldValue : Type 0 where
  pub lists : Lists
  pub may_send : Bool

abbrev pub new_world : WorldValue
new_world = record { lists = nothing_yet; may_send = true }

-- ---- counts

-- 1 for bus-off
abbrev pub is_off : Down → ℕ
is_off (Message m) = 0
is_off OffDown = 1

-- 1 for a start, a request, a stop
abbrev pub is_start : Up → ℕ
is_start (StartUp config) = 1
is_start (Credit n) = 0
is_start (SendUp request) = 0
is_start StopUp = 0

abbrev pub is_send : Up → ℕ
is_send (SendUp request) = 1
is_send (StartUp config) = 0
is_send (Credit n) = 0
is_send StopUp = 0

abbrev pub is_stop : Up → ℕ
is_stop StopUp = 1
is_stop (StartUp config) = 0
is_stop (Credit n) = 0
is_stop (SendUp request) = 0

-- all bytes of messages
abbrev pub bytes_of : List (List ℕ) → ℕ
bytes_of = total (λ m. length m)

-- the credits among what came up, in order
abbrev pub credits_of : List Up → List ℕ
credits_of [] = []
credits_of (Credit n ∷ xs) = n ∷ credits_of xs
credits_of (StartUp config ∷ xs) = credits_of xs
credits_of (SendUp request ∷ xs) = credits_of xs
credits_of (StopUp ∷ xs) = credits_of xs

-- ---- the bytes of the receive buffer

-- 64, less the lengths put, and the credits taken
abbrev pub free : WorldValue → ℕ
free w = (64 + total credit_of w.lists.taken) - bytes_of (messages w.lists.put)

-- the messages that were got and not released
abbrev pub unreleased : WorldValue → List (List ℕ)
unreleased w = drop (length (credits_of w.lists.given)) (messages w.lists.got)

-- the lengths put whose credit wasn't given
abbrev pub held : WorldValue → ℕ
held w = bytes_of (drop (length (credits_of w.lists.given)) (messages w.lists.put))

-- the credits given and not taken
abbrev pub way : WorldValue → ℕ
way w = total credit_of w.lists.given - total credit_of w.lists.taken

-- the items that are on the way up
abbrev pub on_way : WorldValue → List Up
on_way w = drop (length w.lists.taken) w.lists.given
