use Rattle.std.proofs.Common.{◌≡◌, List, ◌++◌, length, take, drop, refl, sym, ap, ◌∙◌, subst, arith, ◌+◌, ℕ, None}
use Rattle.std.proofs.Common.{Some, rules}
use Rattle.std.proofs.lemmas.Grind.{common_steps}
use Rattle.std.specs.Prelude.{vec_capacity}
use Rattle.lemmas.proofs.Related.{each_refl}
use Rattle.sja_bus.specs.declared.bus_node.BusNode.{BusNode}
use Rattle.sja_bus_rules.specs.Lawful.{IsBusRun}
use Rattle.sja_journal.specs.Links.{HaveLinks}
use Rattle.sja_journal.specs.Written.{Room}
use Rattle.sja_journal.specs.BitEntries.{MayHaveItems}
use Rattle.sja_bus_rules.specs.Buses.{AreOnLinks, BusValue, EachJournal, EachUntold, AllDry}
use Rattle.sja_bus.specs.Inside.Rows.{AreBegun, EachBusNode, BusNodeBegins, BusNodeTakes, BusNodeUntold, journals_of}
use Rattle.sja_bus.specs.Inside.Rows.{untold_of}
use Rattle.sja_bus.specs.Inside.Whole.{IsWhole}
use Rattle.sja_bus_rules.specs.Reasons.{room_for, IsTakenAndRefused}
use Rattle.sja_bus.specs.Inside.Refusing.{HaveRoom, BusNodeRefuses}
use Rattle.sja_bus.proofs.AllNodes.Begins.{begun_then, ends_count, on_links}
use Rattle.sja_bus.proofs.AllNodes.Running.{wired_taken, bus_run}
use Rattle.sja_bus.proofs.AllNodes.Journals.{all_items, all_dry, all_untold, calm_taken}
use Rattle.sja_bus.proofs.ItemsTaken.Refusing.{not_taken}
use Rattle.sja_bus.proofs.Links.WrittenBack.{are_back, keeps_back}
use Rattle.sja_bus.proofs.WholeBus.Broken.{whole_broken}
use Rattle.sja_bus.proofs.bus.Bus.gather.Goals.{After-gather_all, In-Ok}
use Rattle.sja_bus.proofs.bus.Bus.gather.Goals as goal

-- as many bus nodes as before
same_count : (g : _) (c : After-gather_all g) → length c.gather_all.new.bus_nodes ≡ length c.self.inside.bus_nodes.items
same_count g c = c.gather_all.auto.bus_nodes ∙ ap (λ (l : List BusNode). length l) c.as_mut_slice.ensures.value

-- no more activations have begun than there are links for
begun_now : (g : _) (c : In-Ok g) → length c.gather_all.new.bus_nodes ≡ length c.self.inside.bus_nodes.items →
    c.self.inside.fault ≡ None → AreBegun c.self.inside.starts c.gather_all.new.bus_nodes
begun_now g c len right =
    let b = c.self.inside in let E = g.E.BusEnd in let links = c.args.links.now in
    let S : List BusNode → Type 0 = λ l. EachBusNode (BusNodeBegins E.links links) l c.gather_all.new.bus_nodes in
    let H : BusValue → Type 0 = λ w. HaveLinks E.links w.starts links in
    begun_then E.links b.starts links b.bus_nodes.items c.gather_all.new.bus_nodes
    (ends_count E.node c.args.self.now.journals b.bus_nodes.items links (ap (λ (w : BusValue). w.journals)
    c.self.view_is)
    c.requires.ends) len (subst H (sym c.self.view_is) c.requires.links)
    (subst S c.as_mut_slice.ensures.value c.in-Ok.ensures.within) (c.self.invariant.0.begun right)

pub returns-in-Some-clause-lawful : goal.returns-in-Some-clause-lawful
returns-in-Some-clause-lawful g c =
    let b = c.self.inside in
    let P : BusValue → Type 0 = λ w. w.fault ≡ None → IsBusRun w.script w.run w.journals in
    subst P c.self.view_is (λ f. bus_run b.struck.script b.run b.bus_nodes.items (c.self.invariant.0.bus f))

pub returns-in-Ok-clause-lawful : goal.returns-in-Ok-clause-lawful
returns-in-Ok-clause-lawful g c =
    let b = c.self.inside in
    let P : BusValue → Type 0 = λ w. w.fault ≡ None → IsBusRun w.script w.run w.journals in
    subst P c.self.view_is (λ f. bus_run b.struck.script b.run b.bus_nodes.items (c.self.invariant.0.bus f))

pub returns-in-Err-clause-lawful : goal.returns-in-Err-clause-lawful
returns-in-Err-clause-lawful g c =
    let b = c.self.inside in
    let P : BusValue → Type 0 = λ w. w.fault ≡ None → IsBusRun w.script w.run w.journals in
    subst P c.self.view_is (λ f. bus_run b.struck.script b.run b.bus_nodes.items (c.self.invariant.0.bus f))

pub returns-in-Some-clause-sames : goal.returns-in-Some-clause-sames
returns-in-Some-clause-sames g c = each_refl g.E.BusEnd.same g.met.E.BusEnd.same_refl c.args.links.now

pub invariant_of-self : goal.invariant_of-self
invariant_of-self g c =
    let b = c.self.inside in
    let now = c.gather_all.new.bus_nodes in let was = b.bus_nodes.items in let inv = c.self.invariant.0 in
    let v : c.as_mut_slice.result.now ≡ was = c.as_mut_slice.ensures.value in
    let len : length now ≡ length was = c.gather_all.auto.bus_nodes ∙ ap (λ (l : List BusNode). length l) v in
    let e : take b.bus_nodes.len (now ++ drop (length now) was) ≡ now = grind (arith, common_steps) in
    let T : List BusNode → Type 0 = λ l. EachBusNode BusNodeTakes l now in
    let takes : EachBusNode BusNodeTakes was now = subst T v c.in-Ok.ensures.items in
    let N : List BusNode → Type 0 = λ l. EachBusNode BusNodeUntold l now in
    let untold : EachBusNode BusNodeUntold was now = subst N v c.in-Ok.ensures.untold in
    let few = inv.few in let logs = inv.logs in
    let H : List BusNode → Type 0 = λ l. (n : ℕ → Room) → HaveRoom n l → HaveRoom n now in
    let l : IsWhole b.struck b.starts b.steps.items b.run b.left b.fault now (vec_capacity b.logs) = record {
      few = omega (arith, len, few);
      bits = inv.bits;
      most = inv.most;
      asked = let asked = inv.asked in omega (arith, asked);
      bus = λ f. record {
        ready = c.in-Ok.ensures.ready;
        calm = calm_taken was now len untold (inv.bus f).calm;
        wired = wired_taken b.struck.script b.run was now len takes (inv.bus f).wired;
      };
      begun = begun_now g (goal.at.invariant_of-self g c).In-Ok len;
      logs = omega (arith, len, logs);
      rooms = subst H v c.gather_all.ensures.rooms (room_for b.struck.bits b.steps.items) inv.rooms;
    } in
    let P : List BusNode → Type 0 = λ xs. IsWhole b.struck b.starts b.steps.items b.run b.left b.fault xs (vec_capacity
    b.logs) in
    (subst P (sym e) l, c.self.invariant.1)

pub invariant_of-self-in-Err : goal.invariant_of-self-in-Err
invariant_of-self-in-Err g c =
    let b = c.self.inside in let now = c.gather_all.new.bus_nodes in let was = b.bus_nodes.items in
    let v : c.as_mut_slice.result.now ≡ was = c.as_mut_slice.ensures.value in
    let len : length now ≡ length was = c.gather_all.auto.bus_nodes ∙ ap (λ (l : List BusNode). length l) v in
    let e : take b.bus_nodes.len (now ++ drop (length now) was) ≡ now = grind (arith, common_steps) in
    let H : List BusNode → Type 0 = λ l. (n : ℕ → Room) → HaveRoom n l → HaveRoom n now in
    let P : List BusNode → Type 0 = λ xs. IsWhole b.struck b.starts b.steps.items b.run b.left (Some c.in-Err.fault) xs
    (vec_capacity b.logs) in (
      subst P (sym e) (whole_broken b.struck b.starts b.steps.items b.run b.left b.run b.left b.fault c.in-Err.fault
          was now
          (vec_capacity b.logs) len (omega arith) refl (subst H v c.gather_all.ensures.rooms) c.self.invariant.0),
      c.self.invariant.1,
    )

pub returns-in-Ok-clause-kept : goal.returns-in-Ok-clause-kept
returns-in-Ok-clause-kept g c =
    let E = g.E.BusEnd in let bus_nodes = c.self.inside.bus_nodes in
    let all : bus_nodes.len ≡ length bus_nodes.items = omega arith in
    keeps_back E.same E.stands bus_nodes.items c.as_mut_slice.result.now c.gather_all.new.bus_nodes bus_nodes.len
    c.args.self.now.journals c.args.links.now
    c.gather_all.new.links all c.as_mut_slice.ensures.value c.gather_all.auto.bus_nodes
    (ap (λ (w : BusValue). w.journals) c.self.view_is) c.in-Ok.ensures.goes

pub returns-in-Ok-clause-within : goal.returns-in-Ok-clause-within
returns-in-Ok-clause-within g c =
    let at = goal.at.returns-in-Ok-clause-within g c in let b = c.self.inside in let now = c.gather_all.new.bus_nodes in
    let len = same_count g at.After-gather_all in
    let L : List BusNode → Type 0 = λ l. AreOnLinks b.starts (journals_of l) in
    subst L (sym (are_back b.bus_nodes.items now b.bus_nodes.len (omega arith) len))
    (on_links b.starts now (begun_now g at.In-Ok len (search rules)))

pub returns-in-Ok-clause-items : goal.returns-in-Ok-clause-items
returns-in-Ok-clause-items g c =
    let b = c.self.inside in
    let now = c.gather_all.new.bus_nodes in let was = b.bus_nodes.items in
    let v : c.as_mut_slice.result.now ≡ was = c.as_mut_slice.ensures.value in
    let len : length now ≡ length was = c.gather_all.auto.bus_nodes ∙ ap (λ (l : List BusNode). length l) v in
    let e : take b.bus_nodes.len (now ++ drop (length now) was) ≡ now = grind (arith, common_steps) in
    let T : List BusNode → Type 0 = λ l. EachBusNode BusNodeTakes l now in
    let P : BusValue → Type 0 = λ w. EachJournal MayHaveItems w.journals (journals_of now) in
    let Q : List BusNode → Type 0 = λ xs. EachJournal MayHaveItems c.args.self.now.journals (journals_of xs) in
    subst Q (sym e) (subst P c.self.view_is (all_items was now len (subst T v c.in-Ok.ensures.items)))

pub returns-in-Ok-clause-dry : goal.returns-in-Ok-clause-dry
returns-in-Ok-clause-dry g c =
    let E = g.E.BusEnd in let b = c.self.inside in
    let now = c.gather_all.new.bus_nodes in let was = b.bus_nodes.items in
    let v : c.as_mut_slice.result.now ≡ was = c.as_mut_slice.ensures.value in
    let len : length now ≡ length was = c.gather_all.auto.bus_nodes ∙ ap (λ (l : List BusNode). length l) v in
    let e : take b.bus_nodes.len (now ++ drop (length now) was) ≡ now = grind (arith, common_steps) in
    let Q : List BusNode → Type 0 = λ xs. AllDry E.dry (journals_of xs) c.gather_all.new.links in
    subst Q (sym e) (all_dry E.dry now c.gather_all.new.links c.in-Ok.ensures.ready c.in-Ok.ensures.dry)

pub returns-in-Err-clause-reason : goal.returns-in-Err-clause-reason
returns-in-Err-clause-reason g c = λ none.
    let E = g.E.BusEnd in let b = c.self.inside in let inv = c.self.invariant.0 in
    let now = c.gather_all.new.bus_nodes in let was = b.bus_nodes.items in let f = c.in-Err.fault in
    let before = c.args.links.now in let after = c.gather_all.new.links in
    let v : c.as_mut_slice.result.now ≡ was = c.as_mut_slice.ensures.value in
    let len : length now ≡ length was = c.gather_all.auto.bus_nodes ∙ ap (λ (l : List BusNode). length l) v in
    let e : take b.bus_nodes.len (now ++ drop (length now) was) ≡ now = grind (arith, common_steps) in
    let S : List BusNode → Type 0 = λ l. BusNodeRefuses E l now before after f in
    let right : b.fault ≡ None = ap (λ (w : BusValue). w.fault) c.self.view_is ∙ none in
    let N : ℕ → Type 0 = λ n. IsTakenAndRefused E n b.steps.items (journals_of was) (journals_of now) before
    after f in
    let L : BusValue → Type 0 = λ w. HaveLinks E.links w.starts before in
    let ends = ends_count E.node c.args.self.now.journals was before (ap (λ (w : BusValue). w.journals) c.self.view_is)
    c.requires.ends in
    let reason = subst N (sym inv.bits) (not_taken E b.starts b.struck.bits b.steps.items was now before after f len
    ends (inv.begun right) (subst L (sym c.self.view_is) c.requires.links) inv.rooms
    (subst S v c.in-Err.ensures.refused)) in
    let P : BusValue → Type 0 = λ w. IsTakenAndRefused E (w.run + w.left) w.steps w.journals
    (journals_of now) before after f in
    let Q : List BusNode → Type 0 = λ xs. IsTakenAndRefused E (c.args.self.now.run + c.args.self.now.left)
    c.args.self.now.steps
    c.args.self.now.journals (journals_of xs) before after f in
    subst Q (sym e) (subst P c.self.view_is reason)

pub returns-in-Ok-clause-untold : goal.returns-in-Ok-clause-untold
returns-in-Ok-clause-untold g c =
    let b = c.self.inside in
    let now = c.gather_all.new.bus_nodes in let was = b.bus_nodes.items in
    let v : c.as_mut_slice.result.now ≡ was = c.as_mut_slice.ensures.value in
    let len : length now ≡ length was = c.gather_all.auto.bus_nodes ∙ ap (λ (l : List BusNode). length l) v in
    let e : take b.bus_nodes.len (now ++ drop (length now) was) ≡ now = grind (arith, common_steps) in
    let T : List BusNode → Type 0 = λ l. EachBusNode BusNodeUntold l now in
    let P : BusValue → Type 0 = λ w. EachUntold w.untold (untold_of now) w.journals (journals_of now) in
    let Q : List BusNode → Type 0 = λ xs. EachUntold c.args.self.now.untold (untold_of xs)
    c.args.self.now.journals (journals_of xs) in
    subst Q (sym e) (subst P c.self.view_is (all_untold was now len (subst T v c.in-Ok.ensures.untold)))
