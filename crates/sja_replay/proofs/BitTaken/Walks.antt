-- A replay from entry to entry.
use Rattle.std.proofs.Common.{◌≡◌, ℕ, true, false, Option, Some, None, List, [], ◌∷◌, ◌++◌, refl, sym, ap, ◌∙◌}
use Rattle.std.proofs.Common.{subst, IfSome, IfNone, length, arith, length-append, append-nil, append_assoc}
use Rattle.can_levels.specs.declared.level.Level.{Level}
use Rattle.can_node.specs.declared.node.Node.{Node}
use Rattle.can_node.specs.Stands.{StandsAt}
use Rattle.sja_journal.specs.declared.entry.Entry.{Entry}
use Rattle.sja_journal.specs.declared.entry.Entry.TheVariants.{Bit}
use Rattle.sja_journal.specs.Free.{IsFree}
use Rattle.sja_journal.specs.Records.{record_of}
use Rattle.sja_replay.specs.declared.bit_event.BitEvent.{BitEvent}
use Rattle.sja_replay.specs.declared.replay.Replay.{Replay}
use Rattle.sja_replay.specs.Happened.{IsUntold, Happened}
use Rattle.sja_replay.specs.Happened.Happened.{over, between, bit, refused, untold}
use Rattle.sja_replay.specs.Inside.Walking.{IsTakenFrom, Enters, IsBrought, BringsNext, IsPast}
use Rattle.sja_replay.specs.Replaying.{with_ahead, left_of, IsAt, GoesOn, AreTaken, TellsBit}
use Rattle.sja_replay.specs.Taking.{IsTaken, last_part}

-- ---- an entry is taken from those that are left

-- the replay stands where it stood
pub took_at : (old new : Replay) (result : Option Entry) (j : List Entry) → IsTakenFrom old new result → IsAt old j →
    IsAt new j
took_at old new result j t h =
    let P : Node → Type 0 = λ n. StandsAt n (record_of j) h.found in
    let Q : ℕ → Type 0 = λ n. IsFree (last_part j) n in record {
      found = h.found;
      stands = subst P (sym t.same.node) h.stands;
      bits = t.same.bits ∙ h.bits;
      off = t.off ∙ h.off;
      aborted = t.same.aborted ∙ h.aborted;
      free = subst Q (sym t.free) h.free;
      looked = t.looked;
    }

-- an entry, and those behind it
pub took_left : (old new : Replay) (result : Option Entry) (e : Entry) → IsTakenFrom old new result →
    result ≡ Some e → left_of old ≡ e ∷ left_of new
took_left old new result e t is =
    ap (λ a. with_ahead a old.entries) (sym t.given ∙ is) ∙ ap (λ l. e ∷ l) (sym t.left)

-- none
pub took_none : (old new : Replay) (result : Option Entry) (j : List Entry) → IsTakenFrom old new result →
    result ≡ None → IsAt old j → left_of old ≡ []
took_none old new result j t is h =
    let none : old.ahead ≡ None = sym t.given ∙ is in
    ap (λ a. with_ahead a old.entries) none ∙ h.looked none

-- ---- on from one entry to the next

-- with entries that are taken whatever bit events come behind them come behind those that were before
behind_taken : (j es left : List Entry) (more : List BitEvent) → AreTaken j es → Happened (j ++ es) left more →
    Happened j (es ++ left) more
behind_taken j [] left more t x =
    let P : List Entry → Type 0 = λ l. Happened l left more in subst P (append-nil j) x
behind_taken j (e ∷ es) left more t x =
    let P : List Entry → Type 0 = λ l. Happened l left more in
    between t.0 (behind_taken (j ++ e ∷ []) es left more t.1 (subst P (sym (append_assoc j (e ∷ []) es)) x))

-- one more
taken_push : (j es : List Entry) (e : Entry) → AreTaken j es → IsTaken (j ++ es) e → AreTaken j (es ++ e ∷ [])
taken_push j [] e t h = let P : List Entry → Type 0 = λ l. IsTaken l e in (subst P (append-nil j) h, tt)
taken_push j (x ∷ es) e t h =
    let P : List Entry → Type 0 = λ l. IsTaken l e in
    (t.0, taken_push (j ++ x ∷ []) es e t.1 (subst P (sym (append_assoc j (x ∷ []) es)) h))

-- nothing came
pub past_none : (r : Replay) (j : List Entry) → IsAt r j → IsPast r r j
past_none r j h =
    let P : List Entry → Type 0 = λ l. IsAt r l in
    record { between = []; taken = tt; left = refl; at = subst P (sym (append-nil j)) h }

-- so it goes on with no bit
pub goes_on : (old new : Replay) (j : List Entry) → IsPast old new j → GoesOn old new j []
goes_on old new j h = record {
  now = j ++ h.between;
  at = h.at;
  fewer = let n = ap length h.left ∙ length-append h.between (left_of new) in omega (arith, n);
  leads = λ more x.
      let P : List Entry → Type 0 = λ l. Happened j l more in
      subst P (sym h.left) (behind_taken j h.between (left_of new) more h.taken x);
}

-- an entry that is no bit
pub past_more : (start old mid new : Replay) (j : List Entry) (e : Entry) → IsPast start old j →
    IsTakenFrom old mid (Some e) → Enters mid new e true → IsPast start new j
past_more start old mid new j e g t k =
    let took = k.taken refl (j ++ g.between) (took_at old mid (Some e) (j ++ g.between) t g.at) in
    let same : left_of mid ≡ left_of new =
    ap (λ a. with_ahead a mid.entries) (sym k.ahead) ∙ ap (with_ahead new.ahead) (sym k.entries) in
    let left : left_of old ≡ e ∷ left_of new = took_left old mid (Some e) e t refl ∙ ap (λ l. e ∷ l) same in
    let P : List Entry → Type 0 = λ l. IsAt new l in record {
      between = g.between ++ e ∷ [];
      taken = taken_push j g.between e g.taken took.0;
      left = g.left ∙ ap (λ l. g.between ++ l) left ∙ sym (append_assoc g.between (e ∷ []) (left_of new));
      at = subst P (append_assoc j g.between (e ∷ [])) took.1;
    }

-- a bit
pub goes_bit : (start old mid new : Replay) (j : List Entry) (driven seen : Level) (h : BitEvent) →
    GoesOn start old j [] → IsTakenFrom old mid (Some (Bit driven seen)) →
    ((i : List Entry) → IsAt mid i → IsBrought mid new i driven seen h) → GoesOn start new j (h ∷ [])
goes_bit start old mid new j driven seen h g t brings =
    let e : Entry = Bit driven seen in
    let b = brings g.now (took_at old mid (Some e) g.now t g.at) in record {
      now = (g.now ++ e ∷ []) ++ b.brought;
      at = b.at;
      fewer =
          let n = ap length (took_left old mid (Some e) e t refl) in
          let m = ap length b.closes.whole ∙ length-append b.brought (left_of new) in
          let o = g.fewer in
          omega (arith, n, m, o);
      leads = λ more x. g.leads (h ∷ more)
          (let P : List Entry → Type 0 = λ l. Happened g.now l (h ∷ more) in
          subst P (sym (took_left old mid (Some e) e t refl)) (bit b.few b.brings b.closes x));
    }

-- ---- the end

pub ends_refused : (start old mid new : Replay) (j : List Entry) (e : Entry) → GoesOn start old j [] →
    IsTakenFrom old mid (Some e) → Enters mid new e false → ((driven seen : Level) → e ≡ Bit driven seen → ⊥) →
    Happened j (left_of start) []
ends_refused start old mid new j e g t k none =
    let P : List Entry → Type 0 = λ l. Happened g.now l [] in
    g.leads [] (subst P (sym (took_left old mid (Some e) e t refl))
    (refused (k.refused refl g.now (took_at old mid (Some e) g.now t g.at)) none))

pub ends_untold : (start old mid : Replay) (j : List Entry) (driven seen : Level) → GoesOn start old j [] →
    IsTakenFrom old mid (Some (Bit driven seen)) →
    ((i : List Entry) → IsAt mid i → IsUntold i driven seen (left_of mid)) → Happened j (left_of start) []
ends_untold start old mid j driven seen g t why =
    let e : Entry = Bit driven seen in
    let P : List Entry → Type 0 = λ l. Happened g.now l [] in
    g.leads [] (subst P (sym (took_left old mid (Some e) e t refl))
    (untold (why g.now (took_at old mid (Some e) g.now t g.at))))

pub ends_over : (start old mid : Replay) (j : List Entry) → GoesOn start old j [] → IsTakenFrom old mid None →
    Happened j (left_of start) []
ends_over start old mid j g t =
    let P : List Entry → Type 0 = λ l. Happened g.now l [] in
    g.leads [] (subst P (sym (took_none old mid None g.now t refl g.at)) over)

-- ---- what a bit comes to

pub brought_on : (start old mid new : Replay) (driven seen : Level) (result : Option BitEvent) →
    ((j : List Entry) → IsAt start j → IsPast start old j) → IsTakenFrom old mid (Some (Bit driven seen)) →
    BringsNext mid new driven seen result →
    IfSome result (λ h. (j : List Entry) → IsAt start j → GoesOn start new j (h ∷ []))
brought_on start old mid new driven seen None g t b = tt
brought_on start old mid new driven seen (Some h) g t b = λ j at.
    goes_bit start old mid new j driven seen h (goes_on start old j (g j at)) t b

-- the bit itself
pub tells_bit : (start old mid new : Replay) (j : List Entry) (driven seen : Level) (h : BitEvent) →
    IsPast start old j → IsTakenFrom old mid (Some (Bit driven seen)) →
    ((i : List Entry) → IsAt mid i → IsBrought mid new i driven seen h) → TellsBit start new j h
tells_bit start old mid new j driven seen h p t brings =
    let e : Entry = Bit driven seen in
    let k = brings (j ++ p.between) (took_at old mid (Some e) (j ++ p.between) t p.at) in record {
      between = p.between;
      taken = p.taken;
      driven = driven;
      seen = seen;
      rest = left_of mid;
      left = p.left ∙ ap (λ l. p.between ++ l) (took_left old mid (Some e) e t refl);
      few = k.few;
      brings = k.brings;
      brought = k.brought;
      closes = k.closes;
      at = k.at;
    }

pub tells_on : (start old mid new : Replay) (driven seen : Level) (result : Option BitEvent) →
    ((j : List Entry) → IsAt start j → IsPast start old j) → IsTakenFrom old mid (Some (Bit driven seen)) →
    BringsNext mid new driven seen result →
    IfSome result (λ h. (j : List Entry) → IsAt start j → TellsBit start new j h)
tells_on start old mid new driven seen None g t b = tt
tells_on start old mid new driven seen (Some h) g t b = λ j at.
    tells_bit start old mid new j driven seen h (g j at) t b

pub untold_on : (start old mid new : Replay) (driven seen : Level) (result : Option BitEvent) →
    ((j : List Entry) → IsAt start j → IsPast start old j) → IsTakenFrom old mid (Some (Bit driven seen)) →
    BringsNext mid new driven seen result →
    IfNone result ((j : List Entry) → IsAt start j → Happened j (left_of start) [])
untold_on start old mid new driven seen None g t b = λ j at.
    ends_untold start old mid j driven seen (goes_on start old j (g j at)) t b
untold_on start old mid new driven seen (Some h) g t b = tt

-- ---- where nothing is left

-- an entry that was taken was left
pub some_left : (old mid : Replay) (e : Entry) → IsTakenFrom old mid (Some e) → left_of old ≡ [] → ⊥
some_left old mid e t none =
    let more : e ∷ left_of mid ≡ [] = sym (took_left old mid (Some e) e t refl) ∙ none in cc
