-- What the signals show after more entries.
use Rattle.std.proofs.Common.{◌≡◌, ℕ, zero, suc, Bool, false, not, List, [], ◌∷◌, ◌++◌}
use Rattle.std.proofs.Common.{length, refl, sym, ap, ◌∙◌, append-nil, append_assoc}
use Rattle.can_levels.specs.declared.level.Level.{Level}
use Rattle.can_levels.specs.declared.level.Level.TheVariants.{Recessive}
use Rattle.can_node_rules.specs.Bits.{Bit as NodeBit, recessive_bit}
use Rattle.lemmas.proofs.Gathered.{gathered_push}
use Rattle.sja_journal.specs.declared.up.Up.TheVariants.{Start, Credit, Send, Stop}
use Rattle.sja_journal.specs.declared.entry.Entry.{Entry}
use Rattle.sja_journal.specs.declared.entry.Entry.TheVariants.{Bit, Up as Item, Abort, Stored, Overrun, Off}
use Rattle.lemmas.specs.Gathering.{gathered}
use Rattle.sja_journal.specs.Carried.{bit_in, stored_in, overrun_in, stored_of, overrun_of}
use Rattle.sja_log.specs.Log.{NodeValue}
use Rattle.text_wave.specs.declared.cursor.Cursor.{Cursor}
use Rattle.text_wave.specs.declared.signals.Signals.{Signals}
use Rattle.text_wave.specs.Through.{through}
use Rattle.text_wave.specs.Signals.{last_or, last_bit, activity_in, absence_in, is_odd}
use Rattle.text_wave.specs.Signals.{shows_active, shows_off, shows_stored, shows_overrun}
use Rattle.text_wave.specs.Inside.Cursors.{signals_of, entered, all_entered, past, advanced, opened, cursor_at}
use Rattle.text_wave.proofs.BitByBit.PastBits.{through_next, past_next}

-- ---- one entry more

last_of_more : {A : Type 0} (d : A) (xs ys : List A) → last_or d (xs ++ ys) ≡ last_or (last_or d xs) ys
last_of_more d [] ys = refl
last_of_more d (x ∷ xs) ys = last_of_more x xs ys

-- the last one of what entries give
last_gathered : {A : Type 0} (f : Entry → List A) (d : A) (p : List Entry) (e : Entry) →
    last_or d (gathered f (p ++ e ∷ [])) ≡ last_or (last_or d (gathered f p)) (f e)
last_gathered f d p e = ap (last_or d) (gathered_push f p e) ∙ last_of_more d (gathered f p) (f e)

-- a value that changes with each element
turned : {A : Type 0} → Bool → List A → Bool
turned b [] = b
turned b (x ∷ xs) = turned (not b) xs

not_turned : {A : Type 0} (b : Bool) (xs : List A) → not (turned b xs) ≡ turned (not b) xs
unfolding turned
not_turned b [] = refl
not_turned b (x ∷ xs) = not_turned (not b) xs

odd_of_more : {A : Type 0} (xs ys : List A) → is_odd (length (xs ++ ys)) ≡ turned (is_odd (length xs)) ys
unfolding turned
odd_of_more [] [] = refl
odd_of_more [] (y ∷ ys) = ap not (odd_of_more [] ys) ∙ not_turned false ys
odd_of_more (x ∷ xs) ys = ap not (odd_of_more xs ys) ∙ not_turned (is_odd (length xs)) ys

-- whether what entries give is odd in number
odd_gathered : {A : Type 0} (f : Entry → List A) (p : List Entry) (e : Entry) →
    is_odd (length (gathered f (p ++ e ∷ []))) ≡ turned (is_odd (length (gathered f p))) (f e)
odd_gathered f p e = ap (λ l. is_odd (length l)) (gathered_push f p e) ∙ odd_of_more (gathered f p) (f e)

-- the six values together
same : (d d' s s' : Level) (a a' f f' m m' o o' : Bool) → d ≡ d' → s ≡ s' → a ≡ a' → f ≡ f' → m ≡ m' → o ≡ o' →
    (let x : Signals = record { driven = d; seen = s; active = a; off = f; stored = m; overrun = o } in x)
    ≡ (let x : Signals = record { driven = d'; seen = s'; active = a'; off = f'; stored = m'; overrun = o' } in x)
same d d' s s' a a' f f' m m' o o' p q r t u v = cc

-- what they show with an entry more, by what the entry gives to each
pushed : List Entry → Entry → Signals
pushed p e = record {
  driven = (last_or (last_bit p) (bit_in e)).driven;
  seen = (last_or (last_bit p) (bit_in e)).seen;
  active = last_or (shows_active p) (activity_in e);
  off = last_or (shows_off p) (absence_in e);
  stored = turned (shows_stored p) (stored_in e);
  overrun = turned (shows_overrun p) (overrun_in e);
}

is_pushed : (p : List Entry) (e : Entry) → signals_of (p ++ e ∷ []) ≡ pushed p e
unfolding pushed
is_pushed p e =
    let b = last_gathered bit_in (recessive_bit Recessive) p e in
    same _ _ _ _ _ _ _ _ _ _ _ _ (ap (λ (x : NodeBit). x.driven) b) (ap (λ (x : NodeBit). x.seen) b)
    (last_gathered activity_in false p e) (last_gathered absence_in false p e)
    (odd_gathered stored_in p e) (odd_gathered overrun_in p e)

pushed_enters : (p : List Entry) (e : Entry) → pushed p e ≡ entered (signals_of p) e
unfolding pushed turned
pushed_enters p (Bit driven seen) = refl
pushed_enters p (Item (Start config)) = refl
pushed_enters p (Item (Credit n)) = refl
pushed_enters p (Item (Send request)) = refl
pushed_enters p (Item Stop) = refl
pushed_enters p Abort = refl
pushed_enters p (Stored m) = refl
pushed_enters p (Overrun m) = refl
pushed_enters p Off = refl

-- ---- several entries more

all_enter : (p q : List Entry) → signals_of (p ++ q) ≡ all_entered (signals_of p) q
all_enter p [] = ap signals_of (append-nil p)
all_enter p (e ∷ q) =
    ap signals_of (sym (append_assoc p (e ∷ []) q)) ∙ all_enter (p ++ e ∷ []) q
    ∙ ap (λ s. all_entered s q) (is_pushed p e ∙ pushed_enters p e)

-- ---- a bit more

pub same_cursor : (j k : List Entry) (b n m : Signals) → j ≡ k → n ≡ m →
    (let x : Cursor = record { entries = j; showed = b; shows = n } in x)
    ≡ (let x : Cursor = record { entries = k; showed = b; shows = m } in x)
same_cursor j k b n m p q = cc

pub first_bit : (node : NodeValue) → advanced (opened node) ≡ cursor_at 0 node
first_bit node = same_cursor _ _ _ _ _ refl (sym (all_enter [] (through 1 node.journal)))

pub next_bit : (k : ℕ) (node : NodeValue) → advanced (cursor_at k node) ≡ cursor_at (suc k) node
next_bit k node =
    let j = node.journal in
    same_cursor _ _ _ _ _ (sym (past_next (suc k) j))
    (sym (ap signals_of (through_next (suc k) j) ∙ all_enter (through (suc k) j) (through 1 (past (suc k) j))))
