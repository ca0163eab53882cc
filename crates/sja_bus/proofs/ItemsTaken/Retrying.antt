-- A put that the end has given back each time so far.
use Rattle.std.proofs.Common.{◌≡◌, ◌+◌, ◌<◌, ℕ, arith, inl, inr, refl, sym, ap, subst, ◌∙◌}
use Rattle.std.proofs.lemmas.Bool.{cases_eq}
use Rattle.sja_journal.specs.Lists.{Lists, OthersStand, Carries, Keeps}
use Rattle.sja_link.specs.BusLedgers.{activation_of}
use Rattle.sja_link.specs.declared.bus_end.BusEnd.{Ghosts as Ends}
use Rattle.sja_link.specs.declared.bus_ledger.BusLedger.{BusLedger}
use Rattle.sja_bus.specs.Inside.Taking.{IsGivenBack}

-- after so many tries the ledger is unchanged, and the end stands on each link for what it stood for; where there was
-- one, the end gave the item back
pub record IsRetried {E : Type 0} (e : Ends E) (tries : ℕ) (was now : BusLedger) (before after : E) : Type 0 where
  pub ledger : now ≡ was
  pub same_end : e.same before after
  pub stands : (a : ℕ) (l : Lists) → e.stands before a l → e.stands after a l
  pub back : 0 < tries → IsGivenBack e (activation_of was) before

module _ {E : Type 0} (e : Ends E) where
  -- where none was made
  pub tried_none : ((x : E) → e.same x x) → (ledger : BusLedger) (end : E) → IsRetried e 0 ledger ledger end end
  tried_none same_refl ledger end = record {
    ledger = refl;
    same_end = same_refl end;
    stands = λ a l s. s;
    back = λ none. absurd (omega (arith, none));
  }

  module _ (tries : ℕ) (was mid : BusLedger) (before end after : E)
      (so_far : IsRetried e tries was mid before end) where
    at : activation_of mid ≡ activation_of was
    at = ap activation_of so_far.ledger

    -- one more, in which the end gave the item back too
    pub tried_again : ((x y z : E) → e.same x y → e.same y z → e.same x z) → (now : BusLedger) → now ≡ mid →
        e.same end after → e.full end (activation_of mid) → OthersStand e.stands (activation_of mid) end after →
        Keeps e.stands (activation_of mid) end after → IsRetried e (tries + 1) was now before after
    tried_again same_trans now ledger same full others keeps = record {
      ledger = ledger ∙ so_far.ledger;
      same_end = same_trans before end after so_far.same_end same;
      stands = λ a l s. elim (cases_eq a (activation_of mid)) [
        | inl here ↦
            let stood = subst (λ (n : ℕ). e.stands end n l) here (so_far.stands a l s) in
            subst (λ (n : ℕ). e.stands after n l) (sym here) (keeps l stood)
        | inr else ↦ others a else l (so_far.stands a l s)
      ];
      back = λ some. record {
        last = end;
        same = so_far.same_end;
        is_full = subst (λ (n : ℕ). e.full end n) at full;
        stood = so_far.stands;
      };
    }

    -- one more, in which the item was put
    pub carried_after : (f : Lists → Lists) → Carries e.stands (activation_of mid) end after f →
        Carries e.stands (activation_of was) before after f
    carried_after f put =
        let P : ℕ → Type 0 = λ n. Carries e.stands n end after f in
        λ l s. (subst P at put) l (so_far.stands (activation_of was) l s)

    pub others_after : OthersStand e.stands (activation_of mid) end after →
        OthersStand e.stands (activation_of was) before after
    others_after others =
        let P : ℕ → Type 0 = λ n. OthersStand e.stands n end after in
        λ a ne l s. (subst P at others) a ne l (so_far.stands a l s)
