-- What lists of items and of lengths count up to.
use Rattle.std.proofs.Common.{◌≡◌, ℕ, ◌+◌, ◌*◌, ◌≤◌, List, [], ◌∷◌, ◌++◌, length, refl, ap, arith}
use Rattle.sja_journal.specs.declared.down.Down.{Down}
use Rattle.sja_journal.specs.declared.down.Down.TheVariants.{Message, Off as OffDown}
use Rattle.sja_journal.specs.declared.up.Up.{Up}
use Rattle.sja_journal.specs.declared.up.Up.TheVariants.{Start as StartUp, Credit, Send as SendUp, Stop as StopUp}
use Rattle.lemmas.specs.Gathering.{total}
use Rattle.sja_journal.specs.Free.{credit_of}
use Rattle.sja_link.specs.World.{bytes_of, credits_of, is_off, is_start, is_send, is_stop}
use Rattle.sja_journal.specs.Lists.{messages}
use Rattle.sja_link.specs.Inside.Fields.{AreBig, lengths}

pub messages_both : (xs ys : List Down) → messages (xs ++ ys) ≡ messages xs ++ messages ys
messages_both [] ys = refl
messages_both (Message m ∷ xs) ys = ap (λ l. m ∷ l) (messages_both xs ys)
messages_both (OffDown ∷ xs) ys = messages_both xs ys

pub credits_both : (xs ys : List Up) → credits_of (xs ++ ys) ≡ credits_of xs ++ credits_of ys
credits_both [] ys = refl
credits_both (StartUp config ∷ xs) ys = credits_both xs ys
credits_both (Credit n ∷ xs) ys = ap (λ l. n ∷ l) (credits_both xs ys)
credits_both (SendUp request ∷ xs) ys = credits_both xs ys
credits_both (StopUp ∷ xs) ys = credits_both xs ys

pub big_push : (ns : List ℕ) (n : ℕ) → AreBig ns → 3 ≤ n → AreBig (ns ++ n ∷ [])
big_push [] n h k = (k, tt)
big_push (x ∷ ns) n h k = (h.0, big_push ns n h.1 k)

pub big_after : (a b : List ℕ) → AreBig (a ++ b) → AreBig b
big_after [] b h = h
big_after (x ∷ a) b h = big_after a b h.1

pub big_before : (a b : List ℕ) → AreBig (a ++ b) → AreBig a
big_before [] b h = tt
big_before (x ∷ a) b h = (h.0, big_before a b h.1)

pub big_sum : (ns : List ℕ) → AreBig ns → 3 * length ns ≤ total (λ n. n) ns
big_sum [] h = omega arith
big_sum (n ∷ ns) h = let few = big_sum ns h.1 in let one = h.0 in omega (arith, few, one)

pub lengths_both : (a b : List (List ℕ)) → lengths (a ++ b) ≡ lengths a ++ lengths b
lengths_both [] b = refl
lengths_both (m ∷ a) b = ap (λ l. length m ∷ l) (lengths_both a b)

pub bytes_sum : (ms : List (List ℕ)) → bytes_of ms ≡ total (λ n. n) (lengths ms)
bytes_sum [] = refl
bytes_sum (m ∷ ms) = ap (λ n. length m + n) (bytes_sum ms)

pub credit_sum : (xs : List Up) → total credit_of xs ≡ total (λ n. n) (credits_of xs)
credit_sum [] = refl
credit_sum (StartUp config ∷ xs) = let h = credit_sum xs in omega (arith, h)
credit_sum (Credit n ∷ xs) = let h = credit_sum xs in omega (arith, h)
credit_sum (SendUp request ∷ xs) = let h = credit_sum xs in omega (arith, h)
credit_sum (StopUp ∷ xs) = let h = credit_sum xs in omega (arith, h)

pub down_count : (xs : List Down) → length xs ≡ length (messages xs) + total is_off xs
down_count [] = refl
down_count (Message m ∷ xs) = let h = down_count xs in omega (arith, h)
down_count (OffDown ∷ xs) = let h = down_count xs in omega (arith, h)

pub up_count : (xs : List Up) →
    length xs ≡ ((total is_start xs + length (credits_of xs)) + total is_send xs) + total is_stop xs
up_count [] = refl
up_count (StartUp config ∷ xs) = let h = up_count xs in omega (arith, h)
up_count (Credit n ∷ xs) = let h = up_count xs in omega (arith, h)
up_count (SendUp request ∷ xs) = let h = up_count xs in omega (arith, h)
up_count (StopUp ∷ xs) = let h = up_count xs in omega (arith, h)
