-- The world of one link with an event more.
use Rattle.std.proofs.Common.{◌≡◌, ℕ, ◌+◌, ◌<◌, ◌≤◌, Bool, true, false, List, [], ◌∷◌, ◌++◌, length}
use Rattle.std.proofs.Common.{take, drop, refl, sym, ap, ◌∙◌, subst, append_assoc, append-nil, arith}
use Rattle.std.proofs.lemmas.List.{length-append}
use Rattle.std.proofs.Math.Seq.{drop-append_seam}
use Rattle.sja_journal.specs.declared.down.Down.{Down}
use Rattle.sja_journal.specs.declared.down.Down.TheVariants.{Message, Off as OffDown}
use Rattle.sja_journal.specs.declared.up.Up.{Up}
use Rattle.sja_journal.specs.declared.up.Up.TheVariants.{Start as StartUp, Credit, Send as SendUp, Stop as StopUp}
use Rattle.sja_link.specs.declared.event.Event.{Event}
use Rattle.sja_link.specs.declared.event.Event.TheVariants.{Start, Put, Off, Get, Release, Send, SendDone, Stop, Take}
use Rattle.lemmas.specs.Gathering.{total}
use Rattle.sja_journal.specs.Free.{credit_of}
use Rattle.sja_link.specs.World.{WorldValue, new_world, bytes_of, credits_of}
use Rattle.sja_link.specs.World.{is_off, is_start, is_send, is_stop, unreleased}
use Rattle.sja_journal.specs.Lists.{messages}
use Rattle.sja_link.specs.WorldEvents.{Allowed, first_credit, done, Reached}
use Rattle.sja_link.specs.Inside.Fields.{AreBig, lengths, sends_left, IsWorld}
use Rattle.sja_link.specs.WorldEvents.Reached.{begun, next}
use Rattle.lemmas.proofs.Gathered.{total_push}
use Rattle.sja_link.proofs.JournalEntries.ListCounts.{messages_both, credits_both, big_push, lengths_both}
use Rattle.sja_link.proofs.WorldSteps.WorldBudget.{rest_is, way_is}
use Rattle.sja_link.proofs.Ledger.LongMessages.{IsLong, event_long}

-- ---- the world at its beginning

pub world_new : IsWorld new_world
world_new = record {
  down = [];
  up = [];
  released = [];
  rest = [];
  put_is = refl;
  given_is = refl;
  got_is = refl;
  credits = refl;
  fits = omega arith;
  big = tt;
  off = omega arith;
  start = omega arith;
  stop = omega arith;
  send = omega arith;
}

-- ---- one event more

-- the next item of a list of which a front was taken
record Next {A : Type 0} (some all more : List A) : Type 0 where
  item : A
  rest : List A
  more_is : more ≡ item ∷ rest
  next_is : some ++ take 1 (drop (length some) all) ≡ some ++ item ∷ []

next_of : {A : Type 0} (some all more : List A) → all ≡ some ++ more → length some < length all → Next some all more
next_of some all [] whole less =
    let n = ap (λ l. length l) whole in let k = length-append some [] in absurd (omega (arith, n, k, less))
next_of some all (x ∷ rest) whole less = record {
  item = x;
  rest = rest;
  more_is = refl;
  next_is = ap (λ l. some ++ take 1 l) (ap (λ l. drop (length some) l) whole ∙ drop-append_seam some (x ∷ rest));
}

-- an item put: it is the last on the way
put_next : (w : WorldValue) (x : Down) → IsWorld w → total is_off w.lists.put ≡ 0 → is_off x ≤ 1 →
    bytes_of (messages (w.lists.put ++ x ∷ [])) ≤ 64 + total credit_of w.lists.taken →
    AreBig (lengths (messages (w.lists.put ++ x ∷ []))) →
    IsWorld (record w { lists = record w.lists { put = w.lists.put ++ x ∷ [] } })
put_next w x h none one fits big = record {
  down = h.down ++ x ∷ [];
  up = h.up;
  released = h.released;
  rest = h.rest;
  put_is = ap (λ l. l ++ x ∷ []) h.put_is ∙ append_assoc w.lists.got h.down (x ∷ []);
  given_is = h.given_is;
  got_is = h.got_is;
  credits = h.credits;
  fits = fits;
  big = big;
  off = let p = total_push is_off w.lists.put x in omega (arith, p, none, one);
  start = h.start;
  stop = h.stop;
  send = h.send;
}

-- an item given: it is the last on the way
give_next : (w : WorldValue) (x : Up) (word : Bool) (released rest : List (List ℕ)) → (h : IsWorld w) →
    messages w.lists.got ≡ released ++ rest →
    credits_of (w.lists.given ++ x ∷ []) ≡ lengths released → total is_start w.lists.given + is_start x ≤ 1 →
    total is_stop w.lists.given + is_stop x ≤ 1 →
    total is_send h.up + is_send x ≤ sends_left word →
    IsWorld (record { lists = record w.lists { given = w.lists.given ++ x ∷ [] }; may_send = word })
give_next w x word released rest h got credits start stop send = record {
  down = h.down;
  up = h.up ++ x ∷ [];
  released = released;
  rest = rest;
  put_is = h.put_is;
  given_is = ap (λ l. l ++ x ∷ []) h.given_is ∙ append_assoc w.lists.taken h.up (x ∷ []);
  got_is = got;
  credits = credits;
  fits = h.fits;
  big = h.big;
  off = h.off;
  start = let p = total_push is_start w.lists.given x in omega (arith, p, start);
  stop = let p = total_push is_stop w.lists.given x in omega (arith, p, stop);
  send = let p = total_push is_send h.up x in omega (arith, p, send);
}

word_true : (b : Bool) → b ≡ true → sends_left b ≡ 0
word_true b e = ap sends_left e

pub world_next : (w : WorldValue) (e : Event) → IsWorld w → IsLong e → Allowed w e → IsWorld (done w e)
world_next w (Start config) h item none =
    let start : total is_start w.lists.given ≡ 0 = ap (total is_start) none in
    let stop : total is_stop w.lists.given ≡ 0 = ap (total is_stop) none in
    let send = h.send in
    give_next w (StartUp config) w.may_send h.released h.rest h h.got_is
    (credits_both w.lists.given (StartUp config ∷ []) ∙ append-nil (credits_of w.lists.given) ∙ h.credits)
    (omega (arith, start)) (omega (arith, stop)) (omega (arith, send))
world_next w (Put m) h item may =
    let all : messages (w.lists.put ++ Message m ∷ []) ≡ messages w.lists.put ++ m ∷ [] =
    messages_both w.lists.put (Message m ∷ []) in
    let bytes : bytes_of (messages (w.lists.put ++ Message m ∷ [])) ≡ bytes_of (messages w.lists.put) + length m =
    ap bytes_of all ∙ total_push (λ (k : List ℕ). length k) (messages w.lists.put) m in
    let big : lengths (messages (w.lists.put ++ Message m ∷ [])) ≡ lengths (messages w.lists.put) ++ length m ∷ [] =
    ap lengths all ∙ lengths_both (messages w.lists.put) (m ∷ []) in
    let less = may.1 in let fits = h.fits in let long = item in
    put_next w (Message m) h may.0.on (omega arith) (omega (arith, bytes, less, fits, long))
    (subst AreBig (sym big) (big_push (lengths (messages w.lists.put)) (length m) h.big long))
world_next w Off h item may =
    let all : messages (w.lists.put ++ OffDown ∷ []) ≡ messages w.lists.put =
    messages_both w.lists.put (OffDown ∷ []) ∙ append-nil (messages w.lists.put) in
    let fits = h.fits in let bytes = ap bytes_of all in
    put_next w OffDown h may.on (omega arith) (omega (arith, bytes, fits)) (subst AreBig (sym (ap lengths all)) h.big)
world_next w Get h item may =
    let n = next_of w.lists.got w.lists.put h.down h.put_is may.0 in
    let now = w.lists.got ++ take 1 (drop (length w.lists.got) w.lists.put) in record {
      down = n.rest;
      up = h.up;
      released = h.released;
      rest = h.rest ++ messages (n.item ∷ []);
      put_is = h.put_is ∙ ap (λ l. w.lists.got ++ l) n.more_is ∙ sym (append_assoc w.lists.got (n.item ∷ []) n.rest)
          ∙ ap (λ l. l ++ n.rest) (sym n.next_is);
      given_is = h.given_is;
      got_is = ap messages n.next_is ∙ messages_both w.lists.got (n.item ∷ [])
          ∙ ap (λ l. l ++ messages (n.item ∷ [])) h.got_is ∙ append_assoc h.released h.rest (messages (n.item ∷ []));
      credits = h.credits;
      fits = h.fits;
      big = h.big;
      off = h.off;
      start = h.start;
      stop = h.stop;
      send = h.send;
    }
world_next w Release h item may = released h.rest h.got_is (rest_is w h)
  where
    released : (rest : List (List ℕ)) → messages w.lists.got ≡ h.released ++ rest → unreleased w ≡ rest →
        IsWorld (done w Release)
    released [] got none = absurd (may.some none)
    released (m ∷ rest) got some =
        let P : List (List ℕ) → Type 0 =
        λ l. IsWorld (record w { lists = record w.lists { given = w.lists.given ++ first_credit l } }) in
        let start = h.start in let stop = h.stop in let send = h.send in
        subst P (sym some) (give_next w (Credit (length m)) w.may_send (h.released ++ m ∷ []) rest h
        (got ∙ sym (append_assoc h.released (m ∷ []) rest))
        (credits_both w.lists.given (Credit (length m) ∷ []) ∙ ap (λ l. l ++ length m ∷ []) h.credits
        ∙ sym (lengths_both h.released (m ∷ [])))
        (omega (arith, start)) (omega (arith, stop)) (omega (arith, send)))
world_next w (Send request) h item may =
    let start = h.start in let stop = h.stop in let send = h.send in let none = word_true w.may_send may.1 in
    give_next w (SendUp request) false h.released h.rest h h.got_is
    (credits_both w.lists.given (SendUp request ∷ []) ∙ append-nil (credits_of w.lists.given) ∙ h.credits)
    (omega (arith, start)) (omega (arith, stop)) (omega (arith, send, none))
world_next w SendDone h item may =
    let none : total is_send h.up ≡ 0 = ap (total is_send) (sym (way_is w h)) ∙ may.1 in record {
      send = omega (arith, none);
      stop = h.stop;
      start = h.start;
      off = h.off;
      big = h.big;
      fits = h.fits;
      credits = h.credits;
      got_is = h.got_is;
      given_is = h.given_is;
      put_is = h.put_is;
      rest = h.rest;
      released = h.released;
      up = h.up;
      down = h.down;
    }
world_next w Stop h item may =
    let start = h.start in let send = h.send in let none = may.running in
    give_next w StopUp w.may_send h.released h.rest h h.got_is
    (credits_both w.lists.given (StopUp ∷ []) ∙ append-nil (credits_of w.lists.given) ∙ h.credits)
    (omega (arith, start)) (omega (arith, none)) (omega (arith, send))
world_next w Take h item may =
    let n = next_of w.lists.taken w.lists.given h.up h.given_is may in
    let now = w.lists.taken ++ take 1 (drop (length w.lists.taken) w.lists.given) in record {
      down = h.down;
      up = n.rest;
      released = h.released;
      rest = h.rest;
      put_is = h.put_is;
      given_is = h.given_is ∙ ap (λ l. w.lists.taken ++ l) n.more_is
          ∙ sym (append_assoc w.lists.taken (n.item ∷ []) n.rest) ∙ ap (λ l. l ++ n.rest) (sym n.next_is);
      got_is = h.got_is;
      credits = h.credits;
      fits =
          let t = ap (total credit_of) n.next_is in let p = total_push credit_of w.lists.taken n.item in let fits =
          h.fits in omega (arith, t, p, fits);
      big = h.big;
      off = h.off;
      start = h.start;
      stop = h.stop;
      send = let p = ap (total is_send) n.more_is in let send = h.send in omega (arith, p, send);
    }

-- so every world that events lead to keeps the budget
pub reached_world : {events : List Event} {w : WorldValue} → Reached events w → IsWorld w
reached_world begun = world_new
reached_world (next {w = w} e before item allowed) = world_next w e (reached_world before) (event_long e item) allowed
