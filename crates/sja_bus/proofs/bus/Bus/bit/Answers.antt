use Rattle.std.proofs.Common.{◌≡◌, ◌≢◌, ◌+◌, ◌-◌, false, replicate, None, List, ◌++◌, length, take, drop, sym, ap, ◌∙◌}
use Rattle.std.proofs.Common.{subst, arith, rules, ℕ, refl, Some}
use Rattle.std.specs.Prelude.{◌⊎◌, Err, vec_capacity}
use Rattle.lemmas.proofs.Related.{each_refl}
use Rattle.sja_journal.specs.Links.{HaveLinks}
use Rattle.sja_journal.specs.Written.{Room}
use Rattle.sja_bus.specs.declared.bus_node.BusNode.{BusNode}
use Rattle.sja_bus_rules.specs.Buses.{AreOnLinks, BusValue, IsBit}
use Rattle.sja_bus.specs.Moment.{moment, Keeps}
use Rattle.sja_bus.specs.Inside.Rows.{AreBegun, AreTold, EachBusNode, IsBus, BusNodeBegins, journals_of, untold_of}
use Rattle.sja_bus.specs.Inside.Whole.{IsWhole, IsRowBit}
use Rattle.sja_bus_rules.specs.Reasons.{room_for, StopsBit}
use Rattle.sja_bus_rules.specs.Reasons.StopsBit.{spent}
use Rattle.sja_bus.specs.Inside.Refusing.{HaveRoom, BusNodeRefuses, BusNodeFull, BusNodeStops}
use Rattle.sja_bus.proofs.AllNodes.Journals.{wired_row, is_bit, all_told}
use Rattle.sja_bus.proofs.WholeBus.Logs.{calm_by, none_untold}
use Rattle.sja_bus.proofs.AllNodes.Running.{count_is, bus_run}
use Rattle.sja_bus.proofs.Links.WrittenBack.{are_back, keeps_back, keeps_still}
use Rattle.sja_bus.proofs.AllNodes.Begins.{begun_then, ends_count, on_links}
use Rattle.sja_bus.proofs.ItemsTaken.TakenBefore.{takes_back}
use Rattle.sja_bus.proofs.ItemsTaken.BreakingBusNodes.{stops_bit}
use Rattle.lemmas.proofs.Results.{err_is}
use Rattle.sja_bus.proofs.WholeBus.Broken.{whole_broken}
use Rattle.sja_bus.proofs.bus.Bus.bit.Goals.{After-bit_of_all, In-Ok}
use Rattle.sja_bus.proofs.bus.Bus.bit.Goals as goal

pub returns-in_err-goes_on-clause-keeps : goal.returns-in_err-goes_on-clause-keeps
returns-in_err-goes_on-clause-keeps g c = record {
  sames = each_refl g.E.BusEnd.same g.met.E.BusEnd.same_refl c.args.links.now;
  others = (refl, λ k far. g.met.B.Board.kept_refl c.args.board.now k);
  script = refl;
  starts = refl;
  steps = refl;
  nodes = refl;
}

-- as many bus nodes as before
same_count : (g : _) (c : After-bit_of_all g) → length c.bit_of_all.new.bus_nodes ≡ length c.self.inside.bus_nodes.items
same_count g c = c.bit_of_all.auto.bus_nodes ∙ ap (λ (l : List BusNode). length l) c.as_mut_slice.ensures.value

-- the bus nodes that are written back are those
written : (g : _) (c : After-bit_of_all g) → take c.self.inside.bus_nodes.len
    (c.bit_of_all.new.bus_nodes ++ drop (length c.bit_of_all.new.bus_nodes) c.self.inside.bus_nodes.items) ≡
    c.bit_of_all.new.bus_nodes
written g c =
    let bus_nodes = c.self.inside.bus_nodes in
    are_back bus_nodes.items c.bit_of_all.new.bus_nodes bus_nodes.len (omega arith) (same_count g c)

-- what a bit keeps, whether it comes to its end or not
keeps : (g : _) (c : After-bit_of_all g) (new : BusValue) → new.script ≡ c.self.inside.struck.script →
    new.starts ≡ c.self.inside.starts → new.steps ≡ c.self.inside.steps.items → new.journals ≡ journals_of (take
    c.self.inside.bus_nodes.len
    (c.bit_of_all.new.bus_nodes ++ drop (length c.bit_of_all.new.bus_nodes) c.self.inside.bus_nodes.items)) →
    Keeps g.E.BusEnd g.B.Board (moment c.args.self.now c.args.links.now c.args.board.now)
    (moment new c.bit_of_all.new.links c.bit_of_all.new.board)
keeps g c new script starts steps journals =
    let bus_nodes = c.self.inside.bus_nodes in let seen = c.self.view_is in
    keeps_still g.E.BusEnd g.B.Board bus_nodes.items c.as_mut_slice.result.now c.bit_of_all.new.bus_nodes bus_nodes.len
    c.args.self.now new c.args.links.now c.bit_of_all.new.links c.args.board.now c.bit_of_all.new.board (omega arith)
    c.as_mut_slice.ensures.value c.bit_of_all.auto.bus_nodes (ap (λ (w : BusValue). w.journals) seen)
    (script ∙ ap (λ (w : BusValue). w.script) seen) (starts ∙ ap (λ (w : BusValue). w.starts) seen) (steps ∙ ap (λ (w
    : BusValue). w.steps) seen) journals
    c.bit_of_all.ensures.sames c.bit_of_all.ensures.board

-- the bus had no fault, and a bit left
right : (g : _) (c : In-Ok g) → (c.self.inside.fault ≡ None) × (c.self.inside.left ≢ 0)
right g c =
    let F : BusValue → Type 0 = λ w. (w.fault ≡ None) × (w.left ≢ 0) in
    subst F (sym c.self.view_is) c.in_ok-goes_on.ensures.ok

-- the bit of all its bus nodes
row : (g : _) (c : In-Ok g) → IsRowBit (g.B.Board.orders_are c.args.board.now)
    (g.B.Board.told c.args.board.now c.bit_of_all.new.board) (g.B.Board.kept c.args.board.now c.bit_of_all.new.board)
    c.at-struck.result c.self.inside.bus_nodes.items c.bit_of_all.new.bus_nodes
row g c =
    let T : List BusNode → Type 0 = λ l. IsRowBit (g.B.Board.orders_are c.args.board.now)
    (g.B.Board.told c.args.board.now c.bit_of_all.new.board)
    (g.B.Board.kept c.args.board.now c.bit_of_all.new.board) c.at-struck.result l c.bit_of_all.new.bus_nodes in
    subst T c.as_mut_slice.ensures.value c.in-Ok.ensures.bit

-- nothing is to be told of any after it
told : (g : _) (c : In-Ok g) → length c.bit_of_all.new.bus_nodes ≡ length c.self.inside.bus_nodes.items →
    AreTold c.bit_of_all.new.bus_nodes
told g c len = all_told (g.B.Board.told c.args.board.now c.bit_of_all.new.board)
    (g.B.Board.kept c.args.board.now c.bit_of_all.new.board) c.at-struck.result c.self.inside.bus_nodes.items
    c.bit_of_all.new.bus_nodes len (row g c)

-- no more activations have begun than there are links for
begun_now : (g : _) (c : In-Ok g) → length c.bit_of_all.new.bus_nodes ≡ length c.self.inside.bus_nodes.items →
    AreBegun c.self.inside.starts c.bit_of_all.new.bus_nodes
begun_now g c len =
    let b = c.self.inside in let E = g.E.BusEnd in let links = c.args.links.now in
    let S : List BusNode → Type 0 = λ l. EachBusNode (BusNodeBegins E.links links) l c.bit_of_all.new.bus_nodes in
    let H : BusValue → Type 0 = λ w. HaveLinks E.links w.starts links in
    begun_then E.links b.starts links b.bus_nodes.items c.bit_of_all.new.bus_nodes
    (ends_count E.node c.args.self.now.journals b.bus_nodes.items links (ap (λ (w : BusValue). w.journals)
    c.self.view_is)
    c.requires.ends) len (subst H (sym c.self.view_is) c.requires.links)
    (subst S c.as_mut_slice.ensures.value c.in-Ok.ensures.within) (c.self.invariant.0.begun (right g c).0)

-- the bus is whole after the bit
whole : (g : _) (c : In-Ok g) → length c.bit_of_all.new.bus_nodes ≡ length c.self.inside.bus_nodes.items →
    let b = c.self.inside in
    IsWhole b.struck b.starts b.steps.items (b.run + 1) (b.left - 1) b.fault c.bit_of_all.new.bus_nodes (vec_capacity
    b.logs)
whole g c len =
    let b = c.self.inside in let inv = c.self.invariant.0 in
    let some = (right g c).1 in let bits = inv.bits in let few = inv.few in let logs = inv.logs in
    let H : List BusNode → Type 0 = λ l. (n : ℕ → Room) → HaveRoom n l →
    HaveRoom n c.bit_of_all.new.bus_nodes in record {
      few = omega (arith, len, few);
      bits = omega (arith, bits, some);
      most = inv.most;
      asked = let asked = inv.asked in omega (arith, asked);
      bus = λ f. record {
        ready = c.in-Ok.ensures.ready;
        calm = calm_by c.bit_of_all.new.bus_nodes (told g c len);
        wired = wired_row (g.B.Board.orders_are c.args.board.now)
            (g.B.Board.told c.args.board.now c.bit_of_all.new.board)
            (g.B.Board.kept c.args.board.now c.bit_of_all.new.board) b.struck.script b.run c.at-struck.result
            b.bus_nodes.items c.bit_of_all.new.bus_nodes len few c.at-struck.ensures (row g c) (inv.bus f).wired;
      };
      begun = λ f. begun_now g c len;
      logs = omega (arith, len, logs);
      rooms = subst H c.as_mut_slice.ensures.value c.bit_of_all.ensures.rooms (room_for b.struck.bits b.steps.items)
          inv.rooms;
    }

pub invariant_of-self : goal.invariant_of-self
invariant_of-self g c =
    let at = goal.at.invariant_of-self g c in let b = c.self.inside in
    let P : List BusNode → Type 0 = λ xs. IsWhole b.struck b.starts b.steps.items (b.run + 1) (b.left - 1) b.fault xs
    (vec_capacity b.logs) in (
      subst P (sym (written g at.After-bit_of_all)) (whole g at.In-Ok (same_count g at.After-bit_of_all)),
      c.self.invariant.1,
    )

pub invariant_of-self-in-Err : goal.invariant_of-self-in-Err
invariant_of-self-in-Err g c =
    let at = (goal.at.invariant_of-self-in-Err g c).After-bit_of_all in let b = c.self.inside in
    let now = c.bit_of_all.new.bus_nodes in
    let H : List BusNode → Type 0 = λ l. (n : ℕ → Room) → HaveRoom n l → HaveRoom n now in
    let P : List BusNode → Type 0 = λ xs. IsWhole b.struck b.starts b.steps.items b.run b.left (Some c.in-Err.fault) xs
    (vec_capacity b.logs) in (
      subst P (sym (written g at)) (whole_broken b.struck b.starts b.steps.items b.run b.left b.run b.left b.fault
          c.in-Err.fault b.bus_nodes.items now (vec_capacity b.logs) (same_count g at) (omega arith) refl
          (subst H c.as_mut_slice.ensures.value c.bit_of_all.ensures.rooms) c.self.invariant.0),
      c.self.invariant.1,
    )

pub returns-in-Ok-clause-keeps : goal.returns-in-Ok-clause-keeps
returns-in-Ok-clause-keeps g c =
    keeps g (goal.at.returns-in-Ok-clause-keeps g c).After-bit_of_all _ refl refl refl refl

pub returns-in-Err-clause-keeps : goal.returns-in-Err-clause-keeps
returns-in-Err-clause-keeps g c =
    keeps g (goal.at.returns-in-Err-clause-keeps g c).After-bit_of_all _ refl refl refl refl

pub returns-in-Ok-clause-bit : goal.returns-in-Ok-clause-bit
returns-in-Ok-clause-bit g c =
    let at = goal.at.returns-in-Ok-clause-bit g c in let b = c.self.inside in let few = c.self.invariant.0.few in
    let now = c.bit_of_all.new.bus_nodes in let was = b.bus_nodes.items in let len = same_count g at.After-bit_of_all in
    let back = written g at.After-bit_of_all in let fine = (right g at.In-Ok).0 in record {
      keeps = returns-in-Ok-clause-keeps g c;
      run = search rules;
      left = search rules;
      kept = keeps_back g.E.BusEnd.same g.E.BusEnd.stands was c.as_mut_slice.result.now now b.bus_nodes.len
          c.args.self.now.journals c.args.links.now c.bit_of_all.new.links (omega arith) c.as_mut_slice.ensures.value
          c.bit_of_all.auto.bus_nodes (ap (λ (w : BusValue). w.journals) c.self.view_is) c.in-Ok.ensures.goes;
      within = let L : List BusNode → Type 0 = λ l. AreOnLinks b.starts (journals_of l) in
          subst L (sym back) (on_links b.starts now (begun_now g at.In-Ok len));
      bit =
          let orders = g.B.Board.orders_are c.args.board.now in
          let told = g.B.Board.told c.args.board.now c.bit_of_all.new.board in
          let kept = g.B.Board.kept c.args.board.now c.bit_of_all.new.board in
          let self = c.args.self.now in
          let P : BusValue → Type 0 = λ w. IsBit orders told kept w.script w.run w.untold w.journals
          (journals_of now) in
          let Q : List BusNode → Type 0 = λ xs. IsBit orders told kept self.script self.run self.untold self.journals
          (journals_of xs) in
          subst Q (sym back) (subst P c.self.view_is (is_bit orders told kept b.struck.script b.run c.at-struck.result
          was now len few c.at-struck.ensures (c.self.invariant.0.bus fine).calm (row g at.In-Ok)));
      told =
          let none : untold_of now ≡ replicate (length was) false =
          none_untold now (told g at.In-Ok len) ∙ ap (λ n. replicate n false) len in
          let P : BusValue → Type 0 = λ w. untold_of now ≡ replicate (length w.journals) false in
          let Q : List BusNode → Type 0 = λ xs. untold_of xs ≡ replicate (length c.args.self.now.journals) false in
          subst Q (sym back) (subst P c.self.view_is (none ∙ ap (λ n. replicate n false) (sym (count_is was))));
      right = search rules;
      lawful =
          let P : List BusNode → Type 0 = λ xs. IsBus b.struck.script (b.run + 1) xs in
          bus_run b.struck.script (b.run + 1) _ (subst P (sym back) ((whole g at.In-Ok len).bus fine));
      facts = λ k low.
          let nodes = count_is was in let same = ap (λ (l : List BusNode). length l) c.as_mut_slice.ensures.value in
          let journals = ap (λ (w : BusValue). length w.journals) c.self.view_is in
          c.in-Ok.ensures.facts k (omega (arith, low, nodes, same, journals));
    }

pub returns-in_err-goes_on-clause-reason : goal.returns-in_err-goes_on-clause-reason
returns-in_err-goes_on-clause-reason g c =
    let f = c.in_err-goes_on.field-0.0 in
    let is : c.from_residual.result ≡ Err f = search rules in
    let P : _ → Type 0 = λ x. c.args.self.now.fault ≡ None →
    StopsBit g.E.BusEnd (g.B.Board.orders_are c.args.board.now) c.args.self.now
    c.args.self.now c.args.links.now c.args.links.now x in
    err_is P c.from_residual.result f is (λ none. let why = c.in_err-goes_on.ensures.why none in spent why.0 why.1)

pub returns-in-Err-clause-reason : goal.returns-in-Err-clause-reason
returns-in-Err-clause-reason g c = λ none.
    let E = g.E.BusEnd in let b = c.self.inside in let inv = c.self.invariant.0 in let O =
    g.B.Board.orders_are c.args.board.now in
    let now = c.bit_of_all.new.bus_nodes in let was = b.bus_nodes.items in let f = c.in-Err.fault in
    let before = c.args.links.now in let after = c.bit_of_all.new.links in
    let at = (goal.at.returns-in-Err-clause-reason g c).After-bit_of_all in let len = same_count g at in
    let right : b.fault ≡ None = ap (λ (w : BusValue). w.fault) c.self.view_is ∙ none in
    let rooms = inv.rooms in
    let old = c.args.self.now in
    let new : List BusNode → BusValue = λ xs. record {
      script = b.struck.script;
      starts = b.starts;
      steps = b.steps.items;
      run = b.run;
      left = b.left;
      fault =
          Some f;
      journals = journals_of xs;
      untold = untold_of xs;
    } in
    let P : BusValue → Type 0 = λ w. StopsBit E O w (new now) before after f in
    let Q : List BusNode → Type 0 = λ xs. StopsBit E O old (new xs) before after f in
    let S : List BusNode → Type 0 = λ l. (BusNodeRefuses E l now before after f
    ⊎ BusNodeFull E O l now before after f) ⊎ BusNodeStops E O l now before f in
    let L : BusValue → Type 0 = λ w. HaveLinks E.links w.starts before in
    let reason = stops_bit E O b.struck.script b.starts b.steps.items b.run b.left b.struck.bits b.fault was
    now before after f (new now) g.met.E.BusEnd.same_links refl inv.bits len
    (ends_count E.node old.journals was before (ap (λ (w : BusValue). w.journals) c.self.view_is) c.requires.ends)
    (inv.begun right) (subst L (sym c.self.view_is) c.requires.links) rooms
    (subst S c.as_mut_slice.ensures.value c.in-Err.ensures.stops) in
    subst Q (sym (written g at)) (subst P c.self.view_is reason)

pub returns-in-Ok-clause-takes : goal.returns-in-Ok-clause-takes
returns-in-Ok-clause-takes g c =
    let bus_nodes = c.self.inside.bus_nodes in
    let all : bus_nodes.len ≡ length bus_nodes.items = omega arith in
    takes_back g.E.BusEnd bus_nodes.items c.as_mut_slice.result.now c.bit_of_all.new.bus_nodes bus_nodes.len
    c.args.self.now.journals
    c.args.links.now all c.as_mut_slice.ensures.value c.bit_of_all.auto.bus_nodes c.in-Ok.ensures.ready
    (ap (λ (w : BusValue). w.journals) c.self.view_is) c.in-Ok.ensures.takes
