use Rattle.std.proofs.Common.{◌≡◌, ◌≤◌, List, ◌++◌, length, take, drop, sym, ap, ◌∙◌, subst, arith, rules, inr}
use Rattle.std.specs.Prelude.{◌⊎◌, vec_capacity}
use Rattle.std.proofs.lemmas.Grind.{common_steps}
use Rattle.sja_bus.specs.declared.struck_nodes.StruckNodes.{StruckNodes}
use Rattle.sja_bus.specs.Inside.StrikesByBit.{IsMarked, IsMarkedWith, Table}
use Rattle.sja_bus.proofs.WholeBus.Marking.{marked_with}
use Rattle.sja_bus.proofs.struck_table.StruckTable.strike.Goals.{After-mark}
use Rattle.sja_bus.proofs.struck_table.StruckTable.strike.Goals as goal

-- all bits are written then
is_long : (c : After-mark) → length c.resize.new.self.items ≡ c.self.inside.most
is_long c =
    let b = c.self.inside in let few = b.bits.ok.0 in
    let ok = c.resize.ensures.succeeds c.self.invariant.1 in search rules

-- the marked bytes are written back
are_back : (c : After-mark) → let mid = c.resize.new.self.items in
    take c.resize.new.self.len (c.mark.new.bits ++ drop (length c.mark.new.bits) mid) ≡ c.mark.new.bits
are_back c =
    let v = c.as_mut_slice.ensures.value in
    let len : length c.mark.new.bits ≡ length c.resize.new.self.items =
    c.mark.auto.bits ∙ ap (λ (l : List StruckNodes). length l) v in
    grind (arith, common_steps)

-- the table with the strike
marked : (c : After-mark) → IsMarkedWith c.args.strike.now
    (record { bits = c.self.inside.most; nodes = c.self.inside.bits.items })
    (record { bits = c.self.inside.most; nodes = c.mark.new.bits })
marked c =
    let b = c.self.inside in let ok = c.resize.ensures.succeeds c.self.invariant.1 in
    let M : List StruckNodes → Type 0 = λ l. IsMarked c.args.strike.now l c.mark.new.bits in
    marked_with c.args.strike.now b.most b.bits.len b.bits.items c.resize.new.self.items c.mark.new.bits c.none.result
    b.bits.ok.0 (is_long c) c.none.ensures c.resize.ensures.by_index.0
    (λ k d low high. c.resize.ensures.by_index.1 k d ok low high)
    (subst M c.as_mut_slice.ensures.value c.mark.ensures)

pub invariant_of-self : goal.invariant_of-self
invariant_of-self c =
    let at = (goal.at.invariant_of-self c).After-mark in
    let b = c.self.inside in let fits = c.self.invariant.1 in let capacity = c.resize.ensures.capacity in
    let P : List StruckNodes → Type 0 = λ l. ((length l ≡ 0) ⊎ (length l ≡ b.most))
    × (b.most ≤ vec_capacity c.resize.new.self) in
    let long : length c.mark.new.bits ≡ length c.resize.new.self.items =
    c.mark.auto.bits ∙ ap (λ (l : List StruckNodes). length l) c.as_mut_slice.ensures.value in
    subst P (sym (are_back at)) (inr (long ∙ is_long at), omega (arith, fits, capacity))

pub returns : goal.returns
returns c =
    let at = (goal.at.returns c).After-mark in let b = c.self.inside in let s = c.args.strike.now in
    let now : List StruckNodes → Table = λ l. record { bits = b.most; nodes = l } in
    let P : List StruckNodes → Type 0 = λ l. IsMarkedWith s c.args.self.now (now l) in
    let Q : Table → Type 0 = λ t. IsMarkedWith s t (now c.mark.new.bits) in
    subst P (sym (are_back at)) (subst Q c.self.view_is (marked at))
