-- The driver's half of the list of its acts, as a port finds it.
use Rattle.std.proofs.Common.{◌≡◌, ℕ, List, sym, subst}
use mathlib.Core.HLevel.{is_prop→PathP}
use Rattle.std.proofs.Props.{props}
use Rattle.sja_regs.specs.declared.registers.Registers.{Registers}
use Rattle.sja_regs.specs.DriverSettings.{HasSettings}
use Rattle.sja_threads.specs.declared.acts_of_node.ActsOfNode.{ActsOfNode}
use Rattle.sja_threads.specs.declared.known_half.KnownHalf.{KnownHalf}
use Rattle.sja_threads.specs.declared.order.Order.{Ghosts as Orders}
use Rattle.sja_thread_promises.specs.declared.port_act.PortAct.{PortAct}
use Rattle.sja_thread_promises.specs.declared.port_update.PortUpdate.{PortUpdate}
use Rattle.sja_thread_promises.specs.Ordering.{LedBy}
use Rattle.sja_threads.specs.Inside.Names.{IsNamed}
use Rattle.sja_threads.specs.Inside.Ordered.{set_after}
use Rattle.sja_threads.proofs.Twin.Led.{has_set}

named_prop : (names : List ℕ) (node name : ℕ) → IsProp (IsNamed names node name)
named_prop names node name = Prim.hlevel props

same_prop : (a b : ℕ) → IsProp (a ≡ b)
same_prop a b = Prim.hlevel props

module _ {N : Type 0} {o : Orders N} (d : ActsOfNode N o) where
  -- it is the same where its list is
  pub same_done : (k : KnownHalf PortAct) (e : k ≡ d.known) (n : IsNamed o.acts d.node k.name)
      (v : d.version ≡ o.version) →
      ◌≡◌ {A = ActsOfNode N o} (record {
        node = d.node;
        version = d.version;
        known = k;
        order = d.order;
        named = n;
        version_is = v;
      }) d
  same_done k e n v = λ i. record {
    node = d.node;
    version = d.version;
    known = e i;
    order = d.order;
    named = is_prop→PathP (λ j. IsNamed o.acts d.node (e j).name) (λ j. named_prop o.acts d.node (e j).name) n d.named
        i;
    version_is = is_prop→PathP (λ j. d.version ≡ o.version) (λ j. same_prop d.version o.version) v d.version_is i;
  }

  -- a port has what was set by it
  pub has_done : (turns : List PortUpdate) (kept : List PortAct) (p : Registers) → LedBy o.version turns kept p →
      kept ≡ d.known.list → HasSettings p (set_after d.version d.known.list)
  has_done turns kept p l same =
      subst (λ (v : ℕ). HasSettings p (set_after v d.known.list)) (sym d.version_is)
      (subst (λ (x : List PortAct). HasSettings p (set_after o.version x)) same (has_set o.version turns kept p l))
