-- A driver never holds more messages than 64 bytes have room for.
use Rattle.std.proofs.Common.{◌≡◌, ℕ, ◌+◌, ◌*◌, ◌≤◌, Bool, true, false, List, [], ◌∷◌, ◌++◌, length, map, refl, sym, ap}
use Rattle.std.proofs.Common.{◌∙◌, subst, append_assoc, append-nil, arith}
use Rattle.std.specs.Prelude.{if◌then◌else◌}
use Rattle.sja_journal.specs.NodeWords.{ReceivedFrame}
use Rattle.sja_journal.specs.declared.down.Down.{Down}
use Rattle.sja_journal.specs.declared.up.Up.{Up}
use Rattle.sja_journal.specs.declared.up.Up.TheVariants.{Start as StartUp, Credit, Send as SendUp, Stop as StopUp}
use Rattle.sja_journal.specs.declared.entry.Entry.{Entry}
use Rattle.sja_journal.specs.declared.entry.Entry.TheVariants.{Bit, Up as Item, Abort, Stored, Overrun, Off}
use Rattle.lemmas.specs.Gathering.{total}
use Rattle.sja_journal.specs.Lists.{messages}
use Rattle.sja_link.specs.Looking.{Holds}
use Rattle.sja_link.specs.World.{bytes_of, credits_of}
use Rattle.sja_journal.specs.Accounts.{Account}
use Rattle.sja_journal.specs.Parts.{part}
use Rattle.sja_journal.specs.Records.{record_of}
use Rattle.sja_journal.specs.Carried.{put_of, taken_of, stored_of}
use Rattle.sja_journal.specs.Free.{credit_of, credit_in, bytes_in}
use Rattle.sja_journal.specs.Judged.{Judged, judged_in, kept}
use Rattle.lemmas.specs.Picking.{Picks, EachAfter}
use Rattle.lemmas.specs.Picking.Picks.{nothing, picked, left}
use Rattle.sja_journal.specs.Verdicts.{IsOn, IsFair, IsDue, IsLawful}
use Rattle.lemmas.proofs.Gathered.{total_push, total_append}
use Rattle.sja_link.proofs.Ledger.Holding.{told_stored}
use Rattle.sja_journal.proofs.Ledger.Judging.{kept_stored}
use Rattle.sja_driver.specs.TypedActs.{TypedAct, opens_by, Gives, given_in, released_lengths, section_from, acts_of}
use Rattle.sja_driver.proofs.Step.CreditsGiven.{credits_in}
use Rattle.can_node_rules.proofs.Requests.FramesReceived.{AreFrames, all_frames, message_fits}

-- ---- a message has 3 to 13 bytes

-- each of them has
abbrev pub AllFit : List (List ℕ) → Type 0
AllFit [] = Unit {0}
AllFit (m ∷ ms) = ((3 ≤ length m) × (length m ≤ 13)) × AllFit ms

long_bytes : (ms : List (List ℕ)) → AllFit ms → 3 * length ms ≤ bytes_of ms
long_bytes [] h = omega arith
long_bytes (m ∷ ms) h = let a = h.0.0 in let b = long_bytes ms h.1 in omega (arith, a, b)

fit_back : (xs ys : List (List ℕ)) → AllFit (xs ++ ys) → AllFit ys
fit_back [] ys h = h
fit_back (x ∷ xs) ys h = fit_back xs ys h.1

pub fit_front : (xs ys : List (List ℕ)) → AllFit (xs ++ ys) → AllFit xs
fit_front [] ys h = tt
fit_front (x ∷ xs) ys h = (h.0, fit_front xs ys h.1)

fit_kept : (b : Bool) (m : List ℕ) (ms : List (List ℕ)) → (3 ≤ length m) × (length m ≤ 13) → AllFit ms →
    AllFit ((if b then [] else m ∷ []) ++ ms)
fit_kept true m ms l h = h
fit_kept false m ms l h = (l, h)

judged_fit : {P : ReceivedFrame → Type 0} (frames : List ReceivedFrame) (vs : List Judged) → Picks P IsOn frames vs →
    AreFrames frames → AllFit (kept vs)
judged_fit frames vs nothing are = tt
judged_fit frames vs (picked {ys = ys} x y p on more) are =
    fit_kept y.overrun y.bytes (kept ys)
    (subst (λ (l : List ℕ). (3 ≤ length l) × (length l ≤ 13)) (sym on.bytes) (message_fits x.frame are.0))
    (judged_fit _ ys more are.1)
judged_fit frames vs (left x p more) are = judged_fit _ vs more are.1

pub stored_fit : (j : List Entry) (a : ℕ) → IsLawful j → AllFit (stored_of (part j a))
stored_fit j a lawful =
    subst (λ (l : List (List ℕ)). AllFit l) (kept_stored j a)
    (judged_fit _ (judged_in j a) ((lawful.verdicts lawful.found lawful.cut).are a)
    (all_frames (record_of j) lawful.found lawful.cut))

-- ---- what was stored has room in 64 bytes and the credits taken

pub bytes_stored : (p : List Entry) → total bytes_in p ≡ bytes_of (stored_of p)
bytes_stored [] = refl
bytes_stored (Stored m ∷ p) = ap (λ n. length m + n) (bytes_stored p)
bytes_stored (Off ∷ p) = let e = bytes_stored p in omega (arith, e)
bytes_stored (Overrun m ∷ p) = let e = bytes_stored p in omega (arith, e)
bytes_stored (Bit driven seen ∷ p) = let e = bytes_stored p in omega (arith, e)
bytes_stored (Item u ∷ p) = let e = bytes_stored p in omega (arith, e)
bytes_stored (Abort ∷ p) = let e = bytes_stored p in omega (arith, e)

pub credits_taken : (p : List Entry) → total credit_in p ≡ total credit_of (taken_of p)
credits_taken [] = refl
credits_taken (Item u ∷ p) = ap (λ n. credit_of u + n) (credits_taken p)
credits_taken (Off ∷ p) = let e = credits_taken p in omega (arith, e)
credits_taken (Overrun m ∷ p) = let e = credits_taken p in omega (arith, e)
credits_taken (Bit driven seen ∷ p) = let e = credits_taken p in omega (arith, e)
credits_taken (Stored m ∷ p) = let e = credits_taken p in omega (arith, e)
credits_taken (Abort ∷ p) = let e = credits_taken p in omega (arith, e)

room_one : (p : List Entry) (e : Entry) → IsDue p e → total bytes_in p ≤ 64 + total credit_in p →
    total bytes_in (p ++ e ∷ []) ≤ 64 + total credit_in (p ++ e ∷ [])
room_one p e due h = let b = total_push bytes_in p e in let c = total_push credit_in p e in let m =
    more e due.1 in omega (arith, h, b, c, m)
  where
    more : (x : Entry) → IsFair p x → total bytes_in p + bytes_in x ≤ 64 + total credit_in p + credit_in x
    more (Stored m) fair = omega (arith, fair, h)
    more (Overrun m) fair = omega (arith, h)
    more (Bit driven seen) fair = omega (arith, h)
    more (Item u) fair = omega (arith, h)
    more Abort fair = omega (arith, h)
    more Off fair = omega (arith, h)

pub room_all : (p es : List Entry) → EachAfter IsDue p es → total bytes_in p ≤ 64 + total credit_in p →
    total bytes_in (p ++ es) ≤ 64 + total credit_in (p ++ es)
room_all p [] due h = subst (λ (l : List Entry). total bytes_in l ≤ 64 + total credit_in l) (sym (append-nil p)) h
room_all p (e ∷ es) due h =
    subst (λ (l : List Entry). total bytes_in l ≤ 64 + total credit_in l) (append_assoc p (e ∷ []) es)
    (room_all (p ++ e ∷ []) es due.1 (room_one p e due.0 h))

-- ---- the credits given are the lengths released

abbrev pub all_of : List ℕ → ℕ
all_of = total (λ n. n)

-- what credits give back is their sum
pub credits_sum : (us : List Up) → total credit_of us ≡ all_of (credits_of us)
credits_sum [] = refl
credits_sum (Credit n ∷ us) = ap (λ k. n + k) (credits_sum us)
credits_sum (StartUp config ∷ us) = let e = credits_sum us in omega (arith, e)
credits_sum (SendUp request ∷ us) = let e = credits_sum us in omega (arith, e)
credits_sum (StopUp ∷ us) = let e = credits_sum us in omega (arith, e)

pub credits_section : (n : ℕ) (before ds : List TypedAct) (a : ℕ) →
    EachAfter (λ b (d : TypedAct). Gives d.step d.answer d.gave)
    before ds →
    total credit_of (given_in (section_from opens_by n ds a)) ≡ all_of (released_lengths (section_from opens_by n ds a))
credits_section n before ds a gives =
    credits_sum (given_in (section_from opens_by n ds a)) ∙ ap all_of (credits_in n before ds a gives)

pub bytes_lengths : (ms : List (List ℕ)) → bytes_of ms ≡ all_of (map (λ (m : List ℕ). length m) ms)
bytes_lengths [] = refl
bytes_lengths (m ∷ ms) = ap (λ n. length m + n) (bytes_lengths ms)

-- ---- all together

pub few_held : (j : List Entry) (a : ℕ) (acts : List TypedAct) (got down : List Down) (released window : List (List ℕ))
    →
    IsLawful j →
    put_of (part j a) ≡ got ++ down → Holds got released window → given_in (acts_of acts a) ≡ taken_of (part j a) →
    EachAfter (λ b (d : TypedAct). Gives d.step d.answer d.gave) [] acts →
    released_lengths (acts_of acts a) ≡ map (λ (m : List ℕ). length m) released → length window ≤ 21
few_held j a acts got down released window lawful put holds given gives lengths =
    let driver : Account = record { got = got; given = [] } in
    let all : released ++ (window ++ messages down) ≡ stored_of (part j a) =
    told_stored j a driver down released window put holds in
    let long : AllFit window = fit_front window (messages down)
    (fit_back released (window ++ messages down) (subst (λ (l : List (List ℕ)). AllFit l) (sym all)
    (stored_fit j a lawful))) in
    let due = (lawful.verdicts lawful.found lawful.cut).due a in
    let room = room_all [] (part j a) due (omega arith) in
    let stored = bytes_stored (part j a) ∙ ap bytes_of (sym all) ∙ total_append (λ (m : List ℕ). length m) released
    (window ++ messages down) in
    let rest = total_append (λ (m : List ℕ). length m) window (messages down) in
    let credits = credits_taken (part j a) ∙ ap (total credit_of) (sym given) ∙ credits_section 0 [] acts a gives
    ∙ ap all_of lengths ∙ sym (bytes_lengths released) in
    let enough = long_bytes window long in
    omega (arith, room, stored, rest, credits, enough)
