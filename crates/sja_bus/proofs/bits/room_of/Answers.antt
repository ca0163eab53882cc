use Rattle.std.proofs.Common.{◌≡◌, ℕ, ◌-◌, ◌<◌, ◌≤◌, length, rules, inl, inr, sym, subst, ap, ◌∙◌, arith}
use Rattle.std.specs.Prelude.{◌⊎◌, slice_index_or}
use Rattle.std.proofs.lemmas.Bool.{cases_lt}
use Rattle.std.proofs.lemmas.List.{get_or_default as or_same}
use Rattle.lemmas.proofs.Numbers.{earlier_or_last}
use Rattle.sja_bus.specs.declared.bus_node.BusNode.{BusNode}
use Rattle.sja_bus.specs.Inside.RunningOn.{SomeFull}
use Rattle.sja_bus.proofs.bits.room_of.Goals as goal

pub loop-k-preserved : goal.loop-k-preserved
loop-k-preserved c =
    let k = c.loop-k.k in let bus_node = c.index-bus_nodes-k.result in let inv = c.loop-k.invariant in let most =
    inv.most in
    let less = c.min-free.ensures in let here = c.free.ensures in
    let within : k < length c.args.bus_nodes.now = search rules in
    let same : (s : BusNode) → slice_index_or c.args.bus_nodes.now k s ≡ slice_index_or c.args.bus_nodes.now k bus_node
    =
    λ s. or_same c.args.bus_nodes.now k s bus_node within in record {
      most = omega (arith, most, less);
      least = elim (cases_lt c.free.result c.loop-k.free) [
        | inl fewer ↦ inr (
          k,
          within,
          λ s. let P : BusNode → Type 0 = λ x. x.journal.room.all - length x.journal.entries
              ≤ c.min-free.result in subst P (sym (same s)) (omega (arith, less, here, fewer)),
        )
        | inr enough ↦ let free : c.min-free.result ≡ c.loop-k.free = omega (arith, less, enough) in
            let Q : ℕ → Type 0 = λ n. (n ≡ c.args.most) ⊎ SomeFull n c.args.bus_nodes.now in subst Q
            (sym free) inv.least
      ];
      free = λ m s before few. elim (earlier_or_last m k before) [
        | inl earlier ↦ let room = inv.free m s earlier few in omega (arith, room, less)
        | inr now ↦
            let P : BusNode → Type 0 = λ x. c.min-free.result ≤ x.journal.room.all - length x.journal.entries in
            let room : P (slice_index_or c.args.bus_nodes.now k bus_node) = omega (arith, less, here) in
            let is : slice_index_or c.args.bus_nodes.now m s ≡ slice_index_or c.args.bus_nodes.now k bus_node =
            ap (λ i. slice_index_or c.args.bus_nodes.now i s) now ∙ same s in
            subst P (sym is) room
      ];
    }
