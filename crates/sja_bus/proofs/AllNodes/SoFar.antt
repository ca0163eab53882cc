-- Bits one after another, as far as they came.
use Rattle.std.proofs.Common.{◌≡◌, ℕ, suc, ◌+◌, ◌≤◌, None, length, refl, ◌∙◌, subst, arith}
use Rattle.std.specs.Prelude.{Result, Ok, Err, IfOk}
use Rattle.sja_link.specs.declared.bus_end.BusEnd.{Ghosts as Ends}
use Rattle.lemmas.proofs.Related.{each_refl, each_trans}
use Rattle.sja_regs.specs.declared.orders.Orders.{Orders}
use Rattle.sja_bus.specs.declared.board.Board.{Ghosts as Ports}
use Rattle.sja_journal.specs.declared.bus_fault.BusFault.{BusFault}
use Rattle.sja_bus.specs.Boards.{KeepsOthers}
use Rattle.sja_bus.specs.Moment.{Moment, Keeps, OneBit}
use Rattle.sja_bus.specs.Several.{AreBits, BreaksOff}
use Rattle.sja_bus.specs.Several.AreBits.{no_bit, one_more}
use Rattle.sja_bus.specs.Inside.RunningOn.{AreFor, IsSoFar, IsStopped}
use Rattle.sja_bus.proofs.AllNodes.Many.{ends_kept, links_kept}

-- what follows for each number of bits that may have been answered
pub each_count : {P Q : ℕ → Type 0} (r : Result ℕ BusFault) → ((n : ℕ) → P n → Q n) → IfOk r P → IfOk r Q
each_count (Ok n) f p = f n p
each_count (Err x) f p = tt

-- and what follows of two facts
pub both_counts : {P Q R : ℕ → Type 0} (r : Result ℕ BusFault) → ((n : ℕ) → P n → Q n → R n) → IfOk r P → IfOk r Q →
    IfOk r R
both_counts (Ok n) f p q = f n p q
both_counts (Err x) f p q = tt

-- the ports from a number on are as they were, over two times
pub others_trans : {B : Type 0} (ports : B → ℕ) (kept : B → B → ℕ → Type 0) →
    ((a b c : B) (k : ℕ) → kept a b k → kept b c k → kept a c k) → (nodes same : ℕ) (a b c : B) → same ≡ nodes →
    KeepsOthers ports kept nodes a b → KeepsOthers ports kept same b c → KeepsOthers ports kept nodes a c
others_trans ports kept trans nodes same a b c e p q =
    (q.0 ∙ p.0, λ k far. trans a b c k (p.1 k far) (q.1 k (omega (arith, far, e))))

-- bits after bits, each of which is such a bit by its number from the first of all
pub many_more : {E B : Type 0} (One More : ℕ → Moment E B → Moment E B → Type 0) (Before : Moment E B → Type 0)
    (was mid now : Moment E B) (m n : ℕ) → ((k : ℕ) (x y : Moment E B) → More k x y → One (m + k) x y) →
    AreBits One Before was m mid → AreBits More Before mid n now → AreBits One Before was (m + n) now
many_more One More Before was _ _ m _ later p (no_bit mid) =
    let P : ℕ → Type 0 = λ k. AreBits One Before was k mid in
    let is : m ≡ m + 0 = omega arith in subst P is p
many_more One More Before was _ _ m _ later p (one_more mid last now k q before one) =
    let P : ℕ → Type 0 = λ x. AreBits One Before was x now in
    let is : suc (m + k) ≡ m + suc k = omega arith in
    subst P is (one_more was last now (m + k) (many_more One More Before was mid last m k later p q) before
    (later k last now one))

-- bits, before each of which something held that says this too
pub bits_as : {E B : Type 0} (One : ℕ → Moment E B → Moment E B → Type 0) (Before Also : Moment E B → Type 0)
    (was now : Moment E B) (n : ℕ) → ((m : Moment E B) → Before m → Also m) → AreBits One Before was n now →
    AreBits One Also was n now
bits_as One Before Also was _ _ also (no_bit _) = no_bit was
bits_as One Before Also was _ _ also (one_more _ mid now n bits before one) =
    one_more was mid now n (bits_as One Before Also was mid n also bits) (also mid before) one

-- and one that broke off behind them
pub breaks_as : {E B : Type 0} (e : Ends E) (orders_are : B → ℕ → Orders → Type 0)
    (One : ℕ → Moment E B → Moment E B → Type 0) (Before Also : Moment E B → Type 0) (count : ℕ)
    (was now : Moment E B) (f : BusFault) → ((m : Moment E B) → Before m → Also m) →
    BreaksOff e orders_are One Before count was now f →
    BreaksOff e orders_are One Also count was now f
breaks_as e orders_are One Before Also count was now f also off = record {
  mid = off.mid;
  run = off.run;
  early = off.early;
  bits = bits_as One Before Also was off.mid off.run also off.bits;
  before = also off.mid off.before;
  stops = off.stops;
  run_so_far = off.run_so_far;
  left_so_far = off.left_so_far;
}

-- bits, and then some of which one broke off
pub breaks_later : {E B : Type 0} (e : Ends E) (orders_are : B → ℕ → Orders → Type 0)
    (One More : ℕ → Moment E B → Moment E B → Type 0) (Before : Moment E B → Type 0) (was mid now : Moment E B)
    (m left count : ℕ) (f : BusFault) → m + left ≤ count →
    ((k : ℕ) (x y : Moment E B) → More k x y → One (m + k) x y) → AreBits One Before was m mid →
    BreaksOff e orders_are More Before left mid now f →
    BreaksOff e orders_are One Before count was now f
breaks_later e orders_are One More Before was mid now m left count f most later bits off =
    let early = off.early in record {
      mid = off.mid;
      run = m + off.run;
      early = omega (arith, early, most);
      bits = many_more One More Before was mid off.mid m off.run later bits off.bits;
      before = off.before;
      stops = off.stops;
      run_so_far = off.run_so_far;
      left_so_far = off.left_so_far;
    }

module _ {E B : Type 0} (e : Ends E) (b : Ports B) where
  -- links and ports for the nodes stay such
  pub still_for : ((x y : E) → e.same x y → e.node y ≡ e.node x) → ((x y : E) → e.same x y → e.links y ≡ e.links x) →
      (was now : Moment E B) → Keeps e b was now →
      AreFor e was.links (length was.bus.journals) was.bus.starts (b.ports was.board) →
      AreFor e now.links (length now.bus.journals) now.bus.starts (b.ports now.board)
  still_for same_node same_links was now keeps are =
      let nodes = keeps.nodes in let ports = are.ports in let boards = keeps.others.0 in record {
        ends = ends_kept e.node e.same same_node was.links now.links (length was.bus.journals)
            (length now.bus.journals) nodes keeps.sames are.ends;
        many = links_kept e.links e.same same_links was.bus.starts now.bus.starts was.links now.links keeps.starts
            keeps.sames are.many;
        ports = omega (arith, nodes, ports, boards);
      }

  pub keeps_refl : ((x : E) → e.same x x) → ((x : B) (k : ℕ) → b.kept x x k) → (m : Moment E B) → Keeps e b m m
  keeps_refl same_refl kept_refl m = record {
    sames = each_refl e.same same_refl m.links;
    others = (refl, λ k far. kept_refl m.board k);
    script = refl;
    starts = refl;
    steps = refl;
    nodes = refl;
  }

  pub keeps_trans : ((x y z : E) → e.same x y → e.same y z → e.same x z) →
      ((x y z : B) (k : ℕ) → b.kept x y k → b.kept y z k → b.kept x z k) → (was mid now : Moment E B) →
      Keeps e b was mid → Keeps e b mid now → Keeps e b was now
  keeps_trans same_trans kept_trans was mid now p q = record {
    sames = each_trans e.same same_trans was.links mid.links now.links p.sames q.sames;
    others = others_trans b.ports b.kept kept_trans (length was.bus.journals) (length mid.bus.journals) was.board
        mid.board now.board p.nodes p.others q.others;
    script = q.script ∙ p.script;
    starts = q.starts ∙ p.starts;
    steps = q.steps ∙ p.steps;
    nodes = q.nodes ∙ p.nodes;
  }

  -- so far, and broken off, with less said of what held before each bit
  pub so_far_as : (One : ℕ → Moment E B → Moment E B → Type 0) (Before Also : Moment E B → Type 0)
      (was now : Moment E B) (n : ℕ) → ((m : Moment E B) → Before m → Also m) → IsSoFar e b One Before was n now →
      IsSoFar e b One Also was n now
  so_far_as One Before Also was now n also far = record {
    keeps = far.keeps;
    left = far.left;
    right = far.right;
    bits = bits_as One Before Also was now n also far.bits;
  }

  pub stopped_as : (Before Also : Moment E B → Type 0) (count : ℕ) (was now : Moment E B) (f : BusFault) →
      ((m : Moment E B) → Before m → Also m) → IsStopped e b Before count was now f →
      IsStopped e b Also count was now f
  stopped_as Before Also count was now f also stops = record {
    keeps = stops.keeps;
    fault = stops.fault;
    reason = breaks_as e b.orders_are (λ k. OneBit e b) Before Also count was now f also stops.reason;
  }

  -- none so far
  pub none_yet : (One : ℕ → Moment E B → Moment E B → Type 0) → ((x : E) → e.same x x) →
      ((x : B) (k : ℕ) → b.kept x x k) → (Before : Moment E B → Type 0) (m : Moment E B) → m.bus.fault ≡ None →
      IsSoFar e b One Before m 0 m
  none_yet One same_refl kept_refl Before m right = record {
    keeps = keeps_refl same_refl kept_refl m;
    left = omega arith;
    right = right;
    bits = no_bit m;
  }

  module _ (One : ℕ → Moment E B → Moment E B → Type 0)
      (same_trans : (x y z : E) → e.same x y → e.same y z → e.same x z)
      (kept_trans : (x y z : B) (k : ℕ) → b.kept x y k → b.kept y z k → b.kept x z k) (Before : Moment E B → Type 0)
      (was mid now : Moment E B) (m : ℕ) (far : IsSoFar e b One Before was m mid) where
    -- and so many more
    pub and_more : (More : ℕ → Moment E B → Moment E B → Type 0) (n : ℕ) →
        ((k : ℕ) (x y : Moment E B) → More k x y → One (m + k) x y) → IsSoFar e b More Before mid n now →
        IsSoFar e b One Before was (m + n) now
    and_more More n later on = let left = far.left in let less = on.left in record {
      keeps = keeps_trans same_trans kept_trans was mid now far.keeps on.keeps;
      left = omega (arith, left, less);
      right = on.right;
      bits = many_more One More Before was mid now m n later far.bits on.bits;
    }

    -- and one more
    pub and_one : Before mid → OneBit e b mid now → One m mid now → IsSoFar e b One Before was (m + 1) now
    and_one before bit one =
        let run = far.left in let left = bit.left in let is : suc m ≡ m + 1 = omega arith in
        let P : ℕ → Type 0 = λ k. AreBits One Before was k now in record {
          keeps = keeps_trans same_trans kept_trans was mid now far.keeps bit.keeps;
          left = omega (arith, run, left);
          right = bit.right;
          bits = subst P is (one_more was mid now m far.bits before one);
        }
