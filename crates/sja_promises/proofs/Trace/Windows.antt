-- What a driver holds, beside what was put for it.
use Rattle.std.proofs.Common.{◌≡◌, ℕ, suc, ◌+◌, Bool, true, false, List, [], ◌∷◌, ◌++◌, length, map, drop, refl}
use Rattle.std.proofs.Common.{sym, ap, ◌∙◌, subst, append-nil, arith}
use Rattle.std.specs.Prelude.{if◌then◌else◌}
use Rattle.std.proofs.lemmas.List.{length-map, drop_at}
use Rattle.sja_journal.specs.declared.down.Down.{Down}
use Rattle.sja_journal.specs.declared.entry.Entry.{Entry}
use Rattle.sja_journal.specs.Lists.{messages}
use Rattle.sja_link.specs.Deques.{Deques, Lies, down_on, up_on}
use Rattle.sja_link.specs.Looking.{Holds, off_among}
use Rattle.sja_journal.specs.Accounts.{Account, account}
use Rattle.sja_journal.specs.Places.{place_of}
use Rattle.sja_journal.specs.Parts.{part}
use Rattle.sja_journal.specs.Carried.{put_in, put_of, taken_of}
use Rattle.sja_journal.proofs.JournalEntries.Entering.{of_part_none}
use Rattle.sja_journal.specs.Links.{Kept}
use Rattle.sja_driver.specs.TypedActs.{TypedAct, opened_by, released_lengths, acts_of}
use Rattle.sja_driver.specs.Windows.{put_by, off_by, window_of}
use Rattle.sja_promises.specs.Settling.{IsSettled}
use Rattle.sja_driver.proofs.Trace.Timings.{put_now}

-- at the end: what is left unread is what is held, and what lies there
pub settled_by : (j : List Entry) (a : ℕ) (driver : Account) (links : Deques) (released held : List (List ℕ)) →
    Lies links a (account j a driver) → up_on links a ≡ [] → Holds driver.got released held →
    IsSettled j a (record { released = released; unread = held ++ messages (down_on links a) })
settled_by j a driver links released held lies empty got = record {
  driver = driver;
  down = down_on links a;
  held = held;
  put = lies.down;
  given = lies.up ∙ ap (λ l. taken_of (part j a) ++ l) empty ∙ append-nil (taken_of (part j a));
  holds = got;
  unread = refl;
}

-- and so of every activation of a node whose links kept to its journal
pub settled_kept : (j : List Entry) (links : Deques) (h : ℕ → Account) → Kept Lies j links h →
    (a : ℕ) (released held : List (List ℕ)) → ((b : ℕ) → up_on links (suc b) ≡ []) → Holds (h a).got released held →
    IsSettled j (a + 1) (record { released = released; unread = held ++ messages (down_on links (a + 1)) })
settled_kept j links h kept a released held empty got =
    let e : suc a ≡ a + 1 = omega arith in
    settled_by j (a + 1) (h a) links released held (subst (λ (n : ℕ). Lies links n (account j n (h a))) e (kept a))
    (subst (λ (n : ℕ). up_on links n ≡ []) e (empty a)) got

-- where a step has taken in all that was put, its window is what it holds
pub window_now : (j : List Entry) (acts : List TypedAct) (got : List Down) (released held : List (List ℕ)) →
    got ≡ put_of (part j (opened_by acts)) → Holds got released held →
    released_lengths (acts_of acts (opened_by acts)) ≡ map (λ (m : List ℕ). length m) released →
    window_of j acts (place_of j).bits ≡ held
window_now j acts got released held all h lengths =
    let a = opened_by acts in
    let n : length (released_lengths (acts_of acts a)) ≡ length released = ap (λ l. length l) lengths
    ∙ length-map released (λ (m : List ℕ). length m) in
    ap (λ l. drop (length (released_lengths (acts_of acts a))) (messages l)) (put_now j a ∙ sym all)
    ∙ ap (λ l. drop (length (released_lengths (acts_of acts a))) l) h ∙ drop_at released held _ (sym n)

-- and it knows of bus-off exactly then
pub off_now : (j : List Entry) (a : ℕ) (got : List Down) → got ≡ put_of (part j a) →
    off_by (place_of j).bits j a ≡ off_among false got
off_now j a got all = ap (off_among false) (put_now j a ∙ sym all)

-- an entry that puts nothing in this activation, or comes after more bits, changes neither
pub window_later : (j k : List Entry) (acts : List TypedAct) (n : ℕ) →
    put_by n k (opened_by acts) ≡ put_by n j (opened_by acts) → window_of k acts n ≡ window_of j acts n
window_later j k acts n same = ap (λ l. drop (length (released_lengths
    (acts_of acts (opened_by acts)))) (messages l)) same

-- an entry that puts nothing
pub put_quiet : (n : ℕ) (j : List Entry) (e : Entry) (a : ℕ) → put_in e ≡ [] → put_by n (j ++ e ∷ []) a ≡ put_by n j a
put_quiet n j e a none = of_part_none _ j e a (one _)
  where
    one : (b : Bool) → (if b then put_in e else []) ≡ []
    one true = none
    one false = refl
