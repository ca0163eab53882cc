-- What is said of two lists of messages: one without a strike, and one with it (this project's own rule).
use Rattle.std.specs.Prelude.{◌+◌, ◌==◌, ◌&&◌, ℕ, Bool, not, nat_lt, if◌then◌else◌}
use Rattle.std.specs.Prelude.{List, [], ◌++◌, length, take, codes, slice_index_or, count_by}
use Rattle.std.specs.List.{list_any, range_with_len}
use Rattle.std.specs.Str.{bytes_eq}
use Rattle.lemmas.specs.Gathering.{gathered}
use Rattle.text_report.specs.ReportWords.{message_words}
use Rattle.text_report.specs.Spacing.{all_spaced}

-- the message at a place, counted from 0; no bytes past the end
abbrev pub message_at : List (List ℕ) → ℕ → List ℕ
message_at list i = slice_index_or list i []

-- how often a message stands in a list
abbrev pub times_of : List ℕ → List (List ℕ) → ℕ
times_of message list = count_by (bytes_eq message) list

-- whether the message at a place stands in the list up to there more often than in all of the other list
abbrev pub is_more : List (List ℕ) → List (List ℕ) → ℕ → Bool
is_more list other i = nat_lt (times_of (message_at list i) other) (times_of (message_at list i) (take (i + 1) list))

-- a message that is more, or less: what the list is of, which of the two, and the bytes
abbrev pub message_item : List ℕ → List ℕ → List ℕ → List ℕ
message_item of word message = of ++ word ++ all_spaced (message_words message)

-- each message that a list has more often than another, in order, and so many times as it has it more often
abbrev pub more_items : List ℕ → List ℕ → List (List ℕ) → List (List ℕ) → List ℕ
more_items of word list other =
    gathered (λ i. if is_more list other i then message_item of word (message_at list i) else [])
    (range_with_len 0 (length list))

-- the messages that are more with the strike, and those that are less
abbrev pub moved_items : List ℕ → List (List ℕ) → List (List ℕ) → List ℕ
moved_items of without now =
    more_items of (codes " more") now without ++ more_items of (codes " less") without now

-- whether another message stands at some place
abbrev pub is_reordered : List (List ℕ) → List (List ℕ) → Bool
is_reordered without now =
    list_any (λ i. not (bytes_eq (message_at without i) (message_at now i))) (range_with_len 0 (length now))

-- the order, where no message is more or less
abbrev pub order_item : List ℕ → List ℕ → List (List ℕ) → List (List ℕ) → List ℕ
order_item of moved without now =
    if (length moved == 0) && is_reordered without now then of ++ codes " in another order" else []

-- all that is said of the two lists
abbrev pub list_items : List ℕ → List (List ℕ) → List (List ℕ) → List ℕ
list_items of without now =
    moved_items of without now ++ order_item of (moved_items of without now) without now
