-- Where no bus-off was put, at most 21 items lie on a link.
use Rattle.std.proofs.Common.{◌≡◌, ℕ, suc, ◌+◌, ◌*◌, ◌≤◌, Bool, true, false, List, [], ◌∷◌, ◌++◌, length, map, refl}
use Rattle.std.proofs.Common.{sym, ap, ◌∙◌, subst, arith}
use Rattle.std.specs.Prelude.{if◌then◌else◌}
use Rattle.std.proofs.lemmas.List.{length-append}
use Rattle.sja_journal.specs.NodeWords.{ReceivedFrame}
use Rattle.sja_journal.specs.declared.down.Down.{Down}
use Rattle.sja_journal.specs.declared.down.Down.TheVariants.{Message, Off as OffDown}
use Rattle.sja_journal.specs.declared.up.Up.{Up}
use Rattle.sja_journal.specs.declared.entry.Entry.{Entry}
use Rattle.lemmas.specs.Gathering.{total}
use Rattle.sja_journal.specs.Lists.{messages}
use Rattle.sja_link.specs.Looking.{Holds}
use Rattle.sja_journal.specs.Accounts.{Account}
use Rattle.sja_journal.specs.Parts.{part}
use Rattle.sja_journal.specs.Carried.{put_of, taken_of, stored_of}
use Rattle.sja_journal.specs.Free.{credit_of}
use Rattle.sja_journal.specs.Judged.{Judged, judged_in, kept}
use Rattle.lemmas.specs.Picking.{Picks, EachAfter}
use Rattle.lemmas.specs.Picking.Picks.{nothing, picked, left}
use Rattle.sja_journal.specs.Verdicts.{IsOn, HasVerdicts}
use Rattle.lemmas.proofs.Gathered.{total_append}
use Rattle.sja_link.proofs.Ledger.Holding.{told_stored}
use Rattle.sja_journal.proofs.Ledger.Judging.{kept_stored}
use Rattle.sja_link.proofs.Ledger.LongMessages.{head_long}
use Rattle.sja_link.proofs.JournalEntries.Counting.{messages_few}
use Rattle.sja_link.proofs.JournalEntries.ListCounts.{messages_both}
use Rattle.sja_link.specs.World.{is_off, bytes_of}
use Rattle.sja_driver.specs.TypedActs.{TypedAct, Gives, given_in, released_lengths, acts_of}
use Rattle.sja_driver.proofs.Step.Few.{all_of, room_all, bytes_stored, credits_taken, credits_section, bytes_lengths}

-- ---- a message has at least 3 bytes, whatever frame it is of

-- each of them has
abbrev AllLong : List (List ℕ) → Type 0
AllLong [] = Unit {0}
AllLong (m ∷ ms) = (3 ≤ length m) × AllLong ms

long_bytes : (ms : List (List ℕ)) → AllLong ms → 3 * length ms ≤ bytes_of ms
long_bytes [] h = omega arith
long_bytes (m ∷ ms) h = let a = h.0 in let b = long_bytes ms h.1 in omega (arith, a, b)

long_back : (xs ys : List (List ℕ)) → AllLong (xs ++ ys) → AllLong ys
long_back [] ys h = h
long_back (x ∷ xs) ys h = long_back xs ys h.1

long_kept : (b : Bool) (m : List ℕ) (ms : List (List ℕ)) → 3 ≤ length m → AllLong ms →
    AllLong ((if b then [] else m ∷ []) ++ ms)
long_kept true m ms l h = h
long_kept false m ms l h = (l, h)

judged_long : {P : ReceivedFrame → Type 0} (frames : List ReceivedFrame) (vs : List Judged) → Picks P IsOn frames vs →
    AllLong (kept vs)
judged_long frames vs nothing = tt
judged_long frames vs (picked {ys = ys} x y p on more) =
    long_kept y.overrun y.bytes (kept ys)
    (subst (λ (l : List ℕ). 3 ≤ length l) (sym on.bytes)
    (head_long x.frame.ext x.frame.id x.frame.rtr x.frame.dlc x.frame.bytes))
    (judged_long _ ys more)
judged_long frames vs (left x p more) = judged_long _ vs more

stored_long : (j : List Entry) (a : ℕ) (frames : List ReceivedFrame) → HasVerdicts j frames →
    AllLong (stored_of (part j a))
stored_long j a frames v =
    subst (λ (l : List (List ℕ)). AllLong l) (kept_stored j a) (judged_long frames (judged_in j a) (v.are a))

-- ---- with no bus-off each item that was put is a message

put_messages : (xs : List Down) → total is_off xs ≡ 0 → length (messages xs) ≡ length xs
put_messages [] none = refl
put_messages (Message m ∷ xs) none = ap suc (put_messages xs (omega (arith, none)))
put_messages (OffDown ∷ xs) none = absurd (omega (arith, none))

all_messages : (put got down : List Down) → total is_off put ≡ 0 → put ≡ got ++ down →
    length down ≤ length (messages down)
all_messages put got down on whole =
    let parts : length (messages got) + length (messages down) ≡ length got + length down =
    sym (length-append (messages got) (messages down))
    ∙ ap (λ (l : List (List ℕ)). length l) (sym (messages_both got down))
    ∙ ap (λ (l : List Down). length (messages l)) (sym whole) ∙ put_messages put on
    ∙ ap (λ (l : List Down). length l) whole ∙ length-append got down in
    let few = messages_few got in omega (arith, parts, few)

-- ---- all together: what was put and isn't released fits in 64 bytes

pub few_left_down : (j : List Entry) (a : ℕ) (frames : List ReceivedFrame) (acts : List TypedAct) (got down : List Down)
    (up : List Up) (released window : List (List ℕ)) → HasVerdicts j frames →
    total is_off (put_of (part j a)) ≡ 0 →
    put_of (part j a) ≡ got ++ down → Holds got released window →
    given_in (acts_of acts a) ≡ taken_of (part j a) ++ up →
    EachAfter (λ b (d : TypedAct). Gives d.step d.answer d.gave) [] acts →
    released_lengths (acts_of acts a) ≡ map (λ (m : List ℕ). length m) released → length down ≤ 21
few_left_down j a frames acts got down up released window verdicts on put holds given gives lengths =
    let driver : Account = record { got = got; given = [] } in
    let all : released ++ (window ++ messages down) ≡ stored_of (part j a) =
    told_stored j a driver down released window put holds in
    let long : AllLong (messages down) = long_back window (messages down)
    (long_back released (window ++ messages down) (subst (λ (l : List (List ℕ)). AllLong l) (sym all)
    (stored_long j a frames verdicts))) in
    let room = room_all [] (part j a) (verdicts.due a) (omega arith) in
    let stored = bytes_stored (part j a) ∙ ap bytes_of (sym all) ∙ total_append (λ (m : List ℕ). length m) released
    (window ++ messages down) in
    let rest = total_append (λ (m : List ℕ). length m) window (messages down) in
    let taken = credits_taken (part j a) in
    let credits = sym (total_append credit_of (taken_of (part j a)) up) ∙ ap (total credit_of) (sym given)
    ∙ credits_section 0 [] acts a gives ∙ ap all_of lengths ∙ sym (bytes_lengths released) in
    let enough = long_bytes (messages down) long in
    let whole = all_messages (put_of (part j a)) got down on put in
    omega (arith, room, stored, rest, taken, credits, enough, whole)
