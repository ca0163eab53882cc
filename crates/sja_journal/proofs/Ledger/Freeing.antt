-- The bytes that are free in a part with an entry more.
use Rattle.std.proofs.Common.{◌≡◌, ◌≢◌, ℕ, ◌+◌, ◌<◌, List, [], ◌∷◌, ◌++◌, length, refl, arith}
use Rattle.sja_journal.specs.declared.up.Up.{Up}
use Rattle.sja_journal.specs.declared.up.Up.TheVariants.{Start, Credit, Send, Stop}
use Rattle.sja_journal.specs.declared.entry.Entry.{Entry}
use Rattle.sja_journal.specs.declared.entry.Entry.TheVariants.{Up as Item, Overrun}
use Rattle.sja_journal.specs.Verdicts.{IsFair}
use Rattle.sja_journal.specs.Free.{credit_in, bytes_in, free_of, IsFree}
use Rattle.lemmas.proofs.Gathered.{total_push}

-- what is free is the definition's number
pub free_is : (p : List Entry) (n : ℕ) → IsFree p n → n ≡ free_of p
free_is p n h = omega (arith, h)

pub free_push : (p : List Entry) (e : Entry) (n m : ℕ) → IsFree p n →
    m + bytes_in e ≡ n + credit_in e → IsFree (p ++ e ∷ []) m
free_push p e n m h k = let b = total_push bytes_in p e in let c = total_push credit_in p e in omega (arith, h, k, b, c)

-- an entry that stores nothing and gives nothing back
pub free_same : (p : List Entry) (e : Entry) (n : ℕ) → bytes_in e ≡ 0 → credit_in e ≡ 0 →
    IsFree p n → IsFree (p ++ e ∷ []) n
free_same p e n b c h = free_push p e n n h (omega (arith, b, c))

pub overruns : (p : List Entry) (m : List ℕ) (n : ℕ) → IsFree p n → n < length m → IsFair p (Overrun m)
    × IsFree (p ++ Overrun m ∷ []) n
overruns p m n h long = let f = free_is p n h in (omega (arith, f, long), free_push p (Overrun m) n n h refl)

-- an item that is no credit gives nothing back
pub no_credit : (x : Up) → ((n : ℕ) → x ≢ Credit n) → credit_in (Item x) ≡ 0
no_credit (Start config) h = refl
no_credit (Credit n) h = absurd (h n refl)
no_credit (Send request) h = refl
no_credit Stop h = refl
