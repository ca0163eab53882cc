-- A driver before its first step, and its node.
use Rattle.std.proofs.Common.{◌≡◌, ℕ, zero, suc, ◌+◌, List, [], ◌∷◌, ◌++◌, length, refl, sym}
use Rattle.std.proofs.Common.{ap, ◌∙◌, subst, cond, arith, inl, inr}
use Rattle.std.specs.Prelude.{◌==◌, Bool, true, false, not, slice_index_or, replicate, min}
use Rattle.std.proofs.lemmas.List.{get_or_append_left, get_or_push, length-replicate}
use Rattle.std.proofs.lemmas.Bool.{cases_eq}
use Rattle.sja_journal.specs.Accounts.{account}
use Rattle.sja_link.specs.Deques.{Deques, Queues, nothing_lies, among, queues_on, up_on, Lies}
use Rattle.sja_journal.specs.Lists.{nothing_yet}
use Rattle.sja_link.specs.NewLinks.{new_links}
use Rattle.sja_regs.specs.Registers.{at_power_on}
use Rattle.sja_driver.specs.declared.logged_driver.LoggedDriver.{LoggedDriver}
use Rattle.sja_driver.specs.TypedActs.{given_in, acts_of}
use Rattle.sja_driver.specs.LoggedDrivers.{driver_of, log_of}
use Rattle.sja_promises.specs.Registering.LeadTo.{power_on}
use Rattle.sja_promises.specs.NewDrivers.{IsNewDriver, AreNew}
use Rattle.sja_promises.specs.Nodes.{IsNode}
use Rattle.sja_driver.proofs.Step.NothingDone.{nothing_known, nothing_told}
use Rattle.can_node_rules.proofs.Requests.Cuts.{none_held_first}

-- one driver more
pub new_push : (version : ℕ) (steps sizes : List ℕ) (n : ℕ) (ds : List LoggedDriver) (x : LoggedDriver) →
    length ds ≡ n → AreNew version steps sizes n ds →
    IsNewDriver version n (slice_index_or steps n 0) (slice_index_or sizes n 0) x →
    AreNew version steps sizes (n + 1) (ds ++ x ∷ [])
new_push version steps sizes n ds x len made is node d less = elim (cases_eq n node) [
  | inl e ↦
      let at : slice_index_or (ds ++ x ∷ []) node d ≡ x = get_or_push ds x d node (len ∙ e) in
      subst (λ (y : LoggedDriver). IsNewDriver version node (slice_index_or steps node 0) (slice_index_or sizes node 0)
      y) (sym at)
      (subst (λ (m : ℕ). IsNewDriver version m (slice_index_or steps m 0) (slice_index_or sizes m 0) x) e is)
  | inr differ ↦
      subst (λ (y : LoggedDriver). IsNewDriver version node (slice_index_or steps node 0) (slice_index_or sizes node 0)
      y) (sym (get_or_append_left ds (x ∷ []) d node (omega (arith, len, less, differ))))
      (made node d (omega (arith, less, differ)))
]

-- ---- a node

nothing_either : (b : Bool) {q : Queues} → q ≡ nothing_lies → cond b nothing_lies q ≡ nothing_lies
nothing_either true e = refl
nothing_either false e = e

-- nothing lies on new links, beside the one at hand
among_new : (n first a : ℕ) → among first (replicate n nothing_lies) a ≡ nothing_lies
among_new zero first a = refl
among_new (suc n) first a = nothing_either (first == a) (among_new n (suc first) a)

-- and on that one
none_new : (node starts a : ℕ) → queues_on (new_links node starts) a ≡ nothing_lies
none_new node starts a = nothing_either (min starts 1 == a) (among_new (min starts 64) 1 a)

nothing_new : (node starts a : ℕ) → Lies (new_links node starts) (suc a) nothing_yet
nothing_new node starts a =
    let none = none_new node starts (suc a) in
    let many = length-replicate (min starts 64) nothing_lies in record {
      down = sym (ap (λ (q : Queues). q.down) none);
      up = sym (ap (λ (q : Queues). q.up) none);
      later = λ beyond. refl;
      begun = λ more last. absurd (omega (arith, more));
      links = record {
        from = omega arith;
        few = omega (arith, many);
        many = many;
        none_left = λ b from. refl;
      };
    }

pub new_node : (version node steps size : ℕ) (x : LoggedDriver) (links : Deques) (starts : ℕ) →
    IsNewDriver version node steps size x → links ≡ new_links node starts →
    IsNode version size [] [] x (at_power_on version) links
new_node version node steps size x links starts new fresh = record {
  traced = record {
    lawful = new.lawful;
    traces = new.traces version;
    within = omega arith;
    room = λ k l.
        let none = ap (λ l. length l) new.empty.releases in let all = new.made_for.releases in
        let left = new.made_for.left in
        record { releases = omega (arith, none, all, l); left = omega (arith, left) };
    made_for = new.made_for.releases;
    activations = new.made_for.left;
  };
  linked = record {
    holds = record {
      got = λ a. [];
      kept = λ a. subst (λ (s : Deques). Lies s (suc a) (account [] (suc a) (record {
        got = [];
        given = given_in (acts_of [] (suc a));
      }))) (sym fresh) (nothing_new node starts a);
      told = λ a. sym (nothing_told (driver_of x) (log_of x) a new.empty new.reset);
      off_is = nothing_known (driver_of x) new.reset;
      later = λ a less. refl;
    };
    taken = λ a. ap (λ (s : Deques). up_on s (suc a)) fresh
        ∙ ap (λ (q : Queues). q.up) (none_new node starts (suc a));
    level = record { begun = refl; ended = refl; asked = refl };
  };
  ported = record {
    version_is = refl;
    set = record {
      version = refl;
      lom = refl;
      stm = refl;
      afm = refl;
      acr = refl;
      amr = refl;
      buffer = refl;
      set_tec = refl;
      set_rec = refl;
      asks = refl;
    };
    reset = refl;
    activation = refl;
    unclosed = refl;
    commanded = λ e. absurd cc;
  };
  asked = λ found cut. ap not (sym (none_held_first found cut));
  counted = record {
    items = omega arith;
    offs = omega arith;
    aborts = λ found cut. omega arith;
  };
  done = tt;
  in_time = record { when = λ a. refl; sees = tt; carries = tt; aborts = tt; patient = tt };
  registers = power_on;
}
