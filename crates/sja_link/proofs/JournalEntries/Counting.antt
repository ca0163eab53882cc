-- Whether an element of a list counts.
use Rattle.std.proofs.Common.{◌≡◌, ◌≢◌, ℕ, ◌<◌, ◌≤◌, List, [], ◌∷◌, length, get_or, drop, zero, suc, arith, refl}
use Rattle.std.proofs.Common.{sym, ap, ◌∙◌, subst}
use Rattle.std.proofs.lemmas.List.{drop_all}
use Rattle.can_node_rules.specs.declared.config.Config.{Config}
use Rattle.can_node_rules.specs.declared.request.Request.{Request}
use Rattle.sja_journal.specs.declared.down.Down.{Down}
use Rattle.sja_journal.specs.declared.down.Down.TheVariants.{Message, Off}
use Rattle.sja_journal.specs.declared.up.Up.{Up}
use Rattle.sja_journal.specs.declared.up.Up.TheVariants.{Start, Credit, Send, Stop}
use Rattle.lemmas.specs.Gathering.{total}
use Rattle.lemmas.proofs.Gathered.{counted_here}
use Rattle.sja_journal.specs.Lists.{messages}
use Rattle.sja_link.specs.World.{is_start, is_send, is_stop, is_off}
use Rattle.sja_link.specs.WorldEvents.{first_credit}

pub not_start : (x : Up) → ((config : Config) → x ≢ Start config) → is_start x ≡ 0
not_start (Start config) h = absurd (h config refl)
not_start (Credit n) h = refl
not_start (Send request) h = refl
not_start Stop h = refl

pub not_send : (x : Up) → ((request : Request) → x ≢ Send request) → is_send x ≡ 0
not_send (Start config) h = refl
not_send (Credit n) h = refl
not_send (Send request) h = absurd (h request refl)
not_send Stop h = refl

pub not_stop : (x : Up) → x ≢ Stop → is_stop x ≡ 0
not_stop (Start config) h = refl
not_stop (Credit n) h = refl
not_stop (Send request) h = refl
not_stop Stop h = absurd (h refl)

pub not_off : (x : Down) → x ≢ Off → is_off x ≡ 0
not_off (Message m) h = refl
not_off Off h = absurd (h refl)

-- ---- the messages at places, where no bus-off is among the items

abbrev bytes_in : Down → ℕ
bytes_in (Message m) = length m
bytes_in Off = 0

abbrev IsMessageItem : Down → Type 0
IsMessageItem (Message m) = Unit {0}
IsMessageItem Off = ⊥

credit_at : (xs : List Down) (k : ℕ) (d : Down) → total is_off xs ≡ 0 → k < length xs → IsMessageItem (get_or xs k d) →
    first_credit (drop k (messages xs)) ≡ Credit (bytes_in (get_or xs k d)) ∷ []
credit_at [] k d on less is = absurd (omega (arith, less))
credit_at (Message m ∷ xs) zero d on less is = refl
credit_at (Message m ∷ xs) (suc k) d on less is = credit_at xs k d (omega (arith, on)) (omega (arith, less)) is
credit_at (Off ∷ xs) k d on less is = absurd (omega (arith, on))

-- the message at this place is the next one
pub credit_here : (xs : List Down) (k : ℕ) (x : Down) (m : List ℕ) → total is_off xs ≡ 0 → k < length xs →
    x ≡ get_or xs k x → x ≡ Message m →
    first_credit (drop k (messages xs)) ≡ Credit (length m) ∷ []
credit_here xs k x m on less here is =
    credit_at xs k x on less (subst IsMessageItem (sym is ∙ here) tt)
    ∙ ap (λ d. Credit (bytes_in d) ∷ []) (sym here ∙ is)

-- bus-off isn't there
pub off_not_here : (xs : List Down) (k : ℕ) (x : Down) → total is_off xs ≡ 0 → k < length xs →
    x ≡ get_or xs k x → x ≡ Off → ⊥
off_not_here xs k x on less here is = counted_here is_off xs k x Off less here is refl on

pub messages_few : (xs : List Down) → length (messages xs) ≤ length xs
messages_few [] = omega arith
messages_few (Message m ∷ xs) = let n = messages_few xs in omega (arith, n)
messages_few (Off ∷ xs) = let n = messages_few xs in omega (arith, n)

-- past the items there is no message
pub none_past : (xs : List Down) (k : ℕ) → length xs ≤ k → drop k (messages xs) ≡ []
none_past xs k past = let n = messages_few xs in drop_all k (messages xs) (omega (arith, n, past))
