-- A replay goes on past bits of which nothing is told.
use Rattle.std.proofs.Common.{◌≡◌, ℕ, zero, suc, ◌+◌, ◌<◌, ◌≤◌, true, Option, Some, None, IfSome, List, [], ◌∷◌, ◌++◌}
use Rattle.std.proofs.Common.{length}
use Rattle.std.proofs.Common.{sym, ap, subst, arith, length-append, append_assoc}
use Rattle.std.specs.Prelude.{is_some}
use Rattle.sja_journal.specs.declared.entry.Entry.{Entry}
use Rattle.sja_replay.specs.declared.bit_event.BitEvent.{BitEvent}
use Rattle.sja_replay.specs.declared.replay.Replay.{Replay}
use Rattle.sja_replay.specs.declared.short_bit.ShortBit.{ShortBit}
use Rattle.sja_replay.specs.Happened.{Happened}
use Rattle.sja_replay.specs.Replaying.{with_ahead, left_of, IsAt, GoesOn}
use Rattle.sja_replay.specs.ReplayRest.{rested}
use Rattle.sja_replay.specs.Short.{PassesBit}
use Rattle.sja_replay.specs.Silent.{AreShort, PassesSilently}
use Rattle.sja_replay.proofs.BitTaken.Walks.{past_none, goes_on}

-- ---- how many entries are left

-- fewer behind the one that was looked at
pub shorter : (old new : Replay) (e : Entry) → old.ahead ≡ Some e → left_of new ≡ old.entries →
    length (left_of new) < length (left_of old)
shorter old new e ahead left =
    let n = ap length left in
    let m = ap (λ a. length (with_ahead a old.entries)) ahead in
    omega (arith, n, m)

-- ---- one behind the other

short_both : (hs ks : List BitEvent) → AreShort hs → AreShort ks → AreShort (hs ++ ks)
short_both [] ks short more = more
short_both (h ∷ hs) ks short more = (short.0, short_both hs ks short.1 more)

pub goes_both : (a b c : Replay) (before : List Entry) (hs ks : List BitEvent) (g : GoesOn a b before hs) →
    GoesOn b c g.now ks → GoesOn a c before (hs ++ ks)
goes_both a b c before hs ks g k = record {
  now = k.now;
  at = k.at;
  fewer = let n = length-append hs ks in let few = g.fewer in let fewer = k.fewer in omega (arith, n, few, fewer);
  leads = λ more x.
      let P : List BitEvent → Type 0 = λ l. Happened before (left_of a) l in
      subst P (sym (append_assoc hs ks more)) (g.leads (ks ++ more) (k.leads more x));
}

pub silent_none : (r : Replay) → PassesSilently r r
silent_none r = λ before at. record { told = []; short = tt; goes = goes_on r r before (past_none r before at) }

pub silent_both : (a b c : Replay) → PassesSilently a b → PassesSilently b c → PassesSilently a c
silent_both a b c first next = λ before at.
    let x = first before at in
    let y = next x.goes.now x.goes.at in
    record {
      told = x.told ++ y.told;
      short = short_both x.told y.told x.short y.short;
      goes = goes_both a b c before x.told y.told x.goes y.goes;
    }

-- ---- a bit, and bits at rest

pub silent_bit : (old new : Replay) (q : ShortBit) →
    ((before : List Entry) → IsAt old before → PassesBit old new before q) → PassesSilently old new
silent_bit old new q passes = λ before at.
    let p = passes before at in record { told = p.happened ∷ []; short = ((q, p.short), tt); goes = p.goes }

pub silent_some : (old new : Replay) (r : Option ShortBit) → is_some r ≡ true →
    IfSome r (λ q. (before : List Entry) → IsAt old before → PassesBit old new before q) → PassesSilently old new
silent_some old new None some passes = absurd cc
silent_some old new (Some q) some passes = silent_bit old new q passes

pub silent_rest : (r : Replay) (n : ℕ) (q : ShortBit) →
    ((i : ℕ) (before : List Entry) → i < n → IsAt (rested i r) before →
    PassesBit (rested i r) (rested (suc i) r) before q) → PassesSilently r (rested n r)
silent_rest r n q passes = so_many n (omega arith)
  where
    so_many : (i : ℕ) → i ≤ n → PassesSilently r (rested i r)
    so_many zero few =
        let same : r.bits + 0 ≡ r.bits = omega arith in
        let is : rested 0 r ≡ r = ap (λ b. record r { bits = b }) same in
        subst (λ (x : Replay). PassesSilently r x) (sym is) (silent_none r)
    so_many (suc i) few =
        silent_both r (rested i r) (rested (suc i) r) (so_many i (omega (arith, few)))
        (silent_bit (rested i r) (rested (suc i) r) q (λ before at. passes i before (omega (arith, few)) at))
