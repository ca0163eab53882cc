-- The fields of a world, one event more.
use Rattle.std.proofs.Common.{◌≡◌, ℕ, ◌+◌, ◌-◌, ◌<◌, ◌≤◌, Bool, true, Ok, List, [], ◌∷◌, ◌++◌, length, get_or, take}
use Rattle.std.proofs.Common.{drop, refl, sym, ap, ◌∙◌, subst, append-nil, add-one, arith}
use Rattle.std.proofs.lemmas.List.{take-append-le, length-take-le, length-append}
use Rattle.std.proofs.Math.Seq.{take-add, take-suc}
use Rattle.sja_journal.specs.declared.down.Down.{Down}
use Rattle.sja_journal.specs.declared.up.Up.{Up}
use Rattle.sja_link.specs.declared.event.Event.{Event}
use Rattle.sja_link.specs.declared.event.Event.TheVariants.{Get, Release, Take}
use Rattle.lemmas.specs.Gathering.{total}
use Rattle.sja_journal.specs.Lists.{messages}
use Rattle.sja_journal.specs.Free.{credit_of}
use Rattle.sja_link.specs.World.{WorldValue, bytes_of, credits_of, free, is_off, is_stop}
use Rattle.sja_link.specs.WorldEvents.{Allowed, MayRelease, first_credit, done, Steps}
use Rattle.sja_link.specs.Inside.Fields.{world_of, IsWorld, IsStored}
use Rattle.sja_journal.specs.declared.up.Up.TheVariants.{Credit}
use Rattle.sja_link.proofs.JournalEntries.ListCounts.{credits_both, messages_both}
use Rattle.sja_link.proofs.WorldSteps.WorldBudget.{budget}
use Rattle.sja_link.proofs.WorldSteps.Worlds.{world_next}
use Rattle.lemmas.proofs.Gathered.{total_push}
use Rattle.sja_journal.specs.declared.down.Down.TheVariants.{Message, Off}

-- ---- what a step answers

pub stepped : (old new : WorldValue) (e : Event) → Allowed old e → new ≡ done old e → Steps old new e (Ok true)
stepped old new e may is = record { allowed = (λ _. may, λ _. refl); does = is; refused = tt }

-- ---- an item more was given

pub give_stored : (put : List Down) (got : ℕ) (given : List Up) (taken : ℕ) (may next : Bool)
    (bytes released more : ℕ) (x : Up) →
    IsStored put got given taken may bytes released →
    IsWorld (record {
      lists = record {
        put = put;
        taken = take taken given;
        got = take got put;
        given = given ++ x
            ∷ [];
      };
      may_send = next;
    }) →
    more ≡ length (credits_of (given ++ x ∷ [])) → IsStored put got (given ++ x ∷ []) taken next bytes more
give_stored put got given taken may next bytes released more x h world count =
    let same : take taken (given ++ x ∷ []) ≡ take taken given = take-append-le taken given (x ∷ []) h.taken_in in
    let P : List Up → Type 0 = λ l. IsWorld (record {
      lists =
          record { put = put; taken = l; got = take got put; given = given ++ x ∷ [] };
      may_send = next;
    }) in record {
      world = subst P (sym same) world;
      got_in = h.got_in;
      taken_in = let n = length-append given (x ∷ []) in let few = h.taken_in in omega (arith, n, few);
      free_is = h.free_is ∙ ap (λ (l : List Up). (64 + total credit_of l) - bytes_of (messages put)) (sym same);
      released_is = count;
    }

-- ---- an item more was put

pub put_stored : (put : List Down) (got : ℕ) (given : List Up) (taken : ℕ) (may : Bool)
    (bytes left released : ℕ) (x : Down) →
    IsStored put got given taken may bytes released →
    IsWorld (record {
      lists = record {
        put = put ++ x ∷ [];
        taken = take taken given;
        got = take got put;
        given =
            given;
      };
      may_send = may;
    }) →
    left ≡ (64 + total credit_of (take taken given)) - bytes_of (messages (put ++ x ∷ [])) →
    IsStored (put ++ x ∷ []) got given taken may left released
put_stored put got given taken may bytes left released x h world free_is =
    let same : take got (put ++ x ∷ []) ≡ take got put = take-append-le got put (x ∷ []) h.got_in in
    let P : List Down → Type 0 = λ l. IsWorld (record {
      lists =
          record { put = put ++ x ∷ []; taken = take taken given; got = l; given = given };
      may_send = may;
    }) in record {
      world = subst P (sym same) world;
      got_in = let n = length-append put (x ∷ []) in let few = h.got_in in omega (arith, n, few);
      taken_in = h.taken_in;
      free_is = free_is;
      released_is = h.released_is;
    }

-- ---- an item more was got

one_more : {A : Type 0} (n : ℕ) (xs : List A) → n ≤ length xs → take (n + 1) xs ≡ take n xs
    ++ take 1 (drop (length (take n xs)) xs)
one_more n xs few = take-add n 1 xs ∙ ap (λ k. take n xs ++ take 1 (drop k xs)) (sym (length-take-le n xs few))

pub get_done : (put : List Down) (got : ℕ) (given : List Up) (taken : ℕ) (may : Bool) → got ≤ length put →
    world_of put (got + 1) given taken may ≡ done (world_of put got given taken may) Get
get_done put got given taken may few =
    ap (λ l. let w : WorldValue = record {
      lists = record {
        put = put;
        taken = take taken given;
        got = l;
        given =
            given;
      };
      may_send = may;
    } in w) (one_more got put few)

pub get_stored : (put : List Down) (got : ℕ) (given : List Up) (taken : ℕ) (may : Bool) (bytes released : ℕ) →
    IsStored put got given taken may bytes released → Allowed (world_of put got given taken may)
    Get → got < length put →
    IsStored put (got + 1) given taken may bytes released
get_stored put got given taken may bytes released h allowed less = record {
  world = subst IsWorld (sym (get_done put got given taken may h.got_in))
      (world_next (world_of put got given taken may) Get h.world tt allowed);
  got_in = omega (arith, less);
  taken_in = h.taken_in;
  free_is = h.free_is;
  released_is = h.released_is;
}

-- ---- an item more was taken

pub take_done : (put : List Down) (got : ℕ) (given : List Up) (taken : ℕ) (may : Bool) → taken ≤ length given →
    world_of put got given (taken + 1) may ≡ done (world_of put got given taken may) Take
take_done put got given taken may few =
    ap (λ l. let w : WorldValue = record {
      lists = record { put = put; taken = l; got = take got put; given = given };
      may_send = may;
    } in w) (one_more taken given few)

pub take_stored : (put : List Down) (got : ℕ) (given : List Up) (taken : ℕ) (may : Bool) (bytes released more : ℕ) →
    IsStored put got given taken may bytes released → taken < length given →
    more ≡ free (world_of put got given (taken + 1) may) →
    IsStored put got given (taken + 1) may more released
take_stored put got given taken may bytes released more h less free_is = record {
  world = subst IsWorld (sym (take_done put got given taken may h.taken_in))
      (world_next (world_of put got given taken may) Take h.world tt
      (let n = length-take-le taken given h.taken_in in omega (arith, n, less)));
  got_in = h.got_in;
  taken_in = omega (arith, less);
  free_is = free_is;
  released_is = h.released_is;
}

-- ---- the number of credits

pub credits_same : (given : List Up) (x : Up) → credits_of (x ∷ []) ≡ [] →
    length (credits_of (given ++ x ∷ [])) ≡ length (credits_of given)
credits_same given x none = ap (λ (l : List ℕ). length l)
    (credits_both given (x ∷ []) ∙ ap (λ (l : List ℕ). credits_of given ++ l) none ∙ append-nil (credits_of given))

pub credits_more : (given : List Up) (n : ℕ) → length (credits_of (given ++ Credit n
    ∷ [])) ≡ length (credits_of given) + 1
credits_more given n = ap (λ (l : List ℕ). length l) (credits_both given (Credit n ∷ []))
    ∙ length-append (credits_of given) (n ∷ [])

-- ---- the bytes that are free

pub free_same_off : (put : List Down) (n : ℕ) → n - bytes_of (messages put) ≡ n - bytes_of (messages (put ++ Off ∷ []))
free_same_off put n = ap (λ (l : List (List ℕ)). n - bytes_of l)
    (sym (messages_both put (Off ∷ []) ∙ append-nil (messages put)))

pub free_put : (put : List Down) (m : List ℕ) (n : ℕ) →
    (n - bytes_of (messages put)) - length m ≡ n - bytes_of (messages (put ++ Message m ∷ []))
free_put put m n =
    let b : bytes_of (messages (put ++ Message m ∷ [])) ≡ bytes_of (messages put) + length m =
    ap bytes_of (messages_both put (Message m ∷ [])) ∙ total_push (λ (k : List ℕ). length k)
    (messages put) m in omega (arith, b)

pub take_free : (put : List Down) (got : ℕ) (given : List Up) (taken : ℕ) (may : Bool) (bytes released : ℕ) (x : Up) →
    IsStored put got given taken may bytes released → taken < length given → x ≡ get_or given taken x →
    bytes + credit_of x ≡ free (world_of put got given (taken + 1) may)
take_free put got given taken may bytes released x h less here =
    let next : take (taken + 1) given ≡ take taken given ++ x ∷ [] =
    rw add-one (take-suc given taken x less ∙ ap (λ y. take taken given ++ y ∷ []) (sym here)) in
    let sum : total credit_of (take (taken + 1) given) ≡ total credit_of (take taken given) + credit_of x =
    ap (total credit_of) next ∙ total_push credit_of (take taken given) x in
    let is = h.free_is in let fits = h.world.fits in omega (arith, sum, is, fits)

pub take_fits : (put : List Down) (got : ℕ) (given : List Up) (taken : ℕ) (may : Bool) (bytes released : ℕ) (x : Up) →
    IsStored put got given taken may bytes released → taken < length given → x ≡ get_or given taken x →
    bytes + credit_of x ≤ 64
take_fits put got given taken may bytes released x h less here =
    let is = take_free put got given taken may bytes released x h less here in
    let next = take_stored put got given taken may bytes released (bytes + credit_of x) h less is in
    let sum = (budget (world_of put got given (taken + 1) may) next.world).sum in omega (arith, is, sum)

-- ---- a release

-- the first message that was got and not released has this credit
pub release_may : (put : List Down) (got : ℕ) (given : List Up) (taken : ℕ) (may : Bool) (n : ℕ) →
    first_credit (drop (length (credits_of given)) (messages (take got put))) ≡ Credit n ∷ [] →
    total is_off (take got put) ≡ 0 → total is_stop given ≡ 0 →
    MayRelease (world_of put got given taken may)
release_may put got given taken may n first on running =
    record { some = λ none. credit_there (ap first_credit (sym none) ∙ first); on = on; running = running }
  where
    credit_there : [] ≡ Credit n ∷ [] → ⊥
    credit_there same = let k = ap (λ (l : List Up). length l) same in omega (arith, k)

pub release_stored : (put : List Down) (got : ℕ) (given : List Up) (taken : ℕ) (may : Bool) (bytes released n : ℕ) →
    IsStored put got given taken may bytes released →
    first_credit (drop (length (credits_of given)) (messages (take got put))) ≡ Credit n ∷ [] →
    total is_off (take got put) ≡ 0 → total is_stop given ≡ 0 →
    IsStored put got (given ++ Credit n ∷ []) taken may bytes (released + 1)
release_stored put got given taken may bytes released n h first on running =
    let world = world_next (world_of put got given taken may) Release h.world tt
    (release_may put got given taken may n first on running) in
    let P : List Up → Type 0 = λ l. IsWorld (record {
      lists =
          record { put = put; taken = take taken given; got = take got put; given = given ++ l };
      may_send = may;
    }) in
    give_stored put got given taken may may bytes released (released + 1) (Credit n) h (subst P first world)
    (ap (λ k. k + 1) h.released_is ∙ sym (credits_more given n))
