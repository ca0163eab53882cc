-- What is put on a link, and which item of it a driver gets next.
use Rattle.std.proofs.Common.{◌≡◌, ℕ, ◌≤◌, List, [], ◌∷◌, ◌++◌, length, map, refl, sym, ap, ◌∙◌, arith}
use Rattle.sja_journal.specs.declared.down.Down.{Down}
use Rattle.sja_journal.specs.declared.down.Down.TheVariants.{Message, Off as OffDown}
use Rattle.sja_journal.specs.declared.up.Up.{Up}
use Rattle.sja_journal.specs.declared.entry.Entry.{Entry}
use Rattle.sja_journal.specs.Carried.{put_of}
use Rattle.sja_journal.specs.Free.{credit_of, bytes_in}
use Rattle.lemmas.specs.Gathering.{total}
use Rattle.sja_journal.specs.Lists.{messages}
use Rattle.sja_link.specs.World.{is_off, bytes_of, credits_of}
use Rattle.sja_journal.proofs.Ledger.Judging.{put_stored}
use Rattle.sja_driver.proofs.Step.Few.{all_of, bytes_stored, bytes_lengths, credits_sum}

-- ---- bytes

pub bytes_put : (p : List Entry) → bytes_of (messages (put_of p)) ≡ total bytes_in p
bytes_put p = ap bytes_of (put_stored p) ∙ sym (bytes_stored p)

-- the credits of these messages
pub bytes_paid : (us : List Up) (ms : List (List ℕ)) → credits_of us ≡ map (λ (m : List ℕ). length m) ms →
    total credit_of us ≡ bytes_of ms
bytes_paid us ms e = credits_sum us ∙ ap all_of e ∙ sym (bytes_lengths ms)

-- ---- bus-off is the last that is put

abbrev pub IsOffLast : List Down → Type 0
IsOffLast [] = Unit {0}
IsOffLast (Message m ∷ xs) = IsOffLast xs
IsOffLast (OffDown ∷ xs) = xs ≡ []

pub off_last_push : (xs : List Down) (x : Down) → total is_off xs ≡ 0 → IsOffLast (xs ++ x ∷ [])
off_last_push [] (Message m) none = tt
off_last_push [] OffDown none = refl
off_last_push (Message m ∷ xs) x none = off_last_push xs x (omega (arith, none))
off_last_push (OffDown ∷ xs) x none = absurd (omega (arith, none))

-- where messages with bytes are on the way, and then some message is to be released, it is the next item
pub record IsNext (m : List ℕ) (waits todo : List Down) : Type 0 where
  pub later : List Down
  pub undone : List Down
  pub waits_is : waits ≡ Message m ∷ later
  pub todo_is : todo ≡ Message m ∷ undone

pub next_message : (waits todo put down : List Down) (m : List ℕ) (rest : List (List ℕ)) → IsOffLast waits →
    1 ≤ bytes_of (messages waits) → messages todo ≡ m ∷ rest → waits ++ put ≡ todo ++ down → IsNext m waits todo
next_message [] todo put down m rest last some told same = absurd (omega (arith, some))
next_message (OffDown ∷ waits) todo put down m rest last some told same =
    let none = ap (λ (l : List Down). bytes_of (messages l)) last in absurd (omega (arith, some, none))
next_message (Message x ∷ waits) [] put down m rest last some told same = absurd cc
next_message (Message x ∷ waits) (OffDown ∷ todo) put down m rest last some told same = absurd cc
next_message (Message x ∷ waits) (Message y ∷ todo) put down m rest last some told same =
    let one : y ≡ m = cc in let other : x ≡ y = cc in record {
      later = waits;
      undone = todo;
      waits_is = ap (λ (l : List ℕ). Message l ∷ waits) (other ∙ one);
      todo_is = ap (λ (l : List ℕ). Message l ∷ todo) one;
    }
