use Rattle.std.proofs.Common.{◌≡◌, ◌≢◌, ap, ◌+◌, ◌∙◌, ℕ, List, refl, sym, subst, inr}
use Rattle.std.specs.Prelude.{Result, Ok, IfOk}
use Rattle.std.proofs.lemmas.Result.{IfErr-weaker}
use Rattle.sja_journal.specs.declared.bus_fault.BusFault.{BusFault}
use Rattle.sja_journal.specs.BitEntries.{MayHaveItems}
use Rattle.sja_bus_rules.specs.Buses.{AreOnLinks, BusValue, AllTold, EachJournal, EachUntold}
use Rattle.sja_bus.specs.Stretches.{IsStretch, IsOutOfEntries}
use Rattle.sja_bus.specs.Inside.AtOnce.{RunsAtOnce}
use Rattle.sja_bus.proofs.AllNodes.SoFar.{each_count}
use Rattle.sja_bus.proofs.Resting.QuietBits.{keeps_rest, dry_rest, stretch_rest}
use Rattle.sja_bus.proofs.bus.Bus.quiet_bits.Goals.{After-run_idle_bits}
use Rattle.sja_bus.proofs.bus.Bus.quiet_bits.Goals as goal

-- they are a stretch from where the taking ended
stretch : (g : _) (c : After-run_idle_bits g) → let b = c.args.board.now in let mid = c.gather.new.self in
    IfOk c.run_idle_bits.result (λ n. n ≢ 0 → IsStretch (g.B.Board.orders_are b)
    (g.B.Board.told b b) (g.B.Board.kept b b)
    mid.script mid.run n mid.untold mid.journals c.run_idle_bits.new.self.journals)
stretch g c = each_count c.run_idle_bits.result (λ n h. h.stretch) c.run_idle_bits.ensures.runs

-- where there are none, the bus is as it was then
none : (g : _) (c : After-run_idle_bits g) → c.run_idle_bits.result ≡ Ok 0 →
    c.run_idle_bits.new.self ≡ c.gather.new.self
none g c zero =
    let P : Result ℕ BusFault → Type 0 = λ r.
    IfOk r (λ n. RunsAtOnce g.B.Board c.args.board.now c.args.count c.gather.new.self c.run_idle_bits.new.self n) in
    let h : P (Ok 0) = subst P zero c.run_idle_bits.ensures.runs in h.none refl

pub returns-clause-most : goal.returns-clause-most
returns-clause-most g c = each_count c.run_idle_bits.result (λ n h. h.most) c.run_idle_bits.ensures.runs

pub returns-clause-bits : goal.returns-clause-bits
returns-clause-bits g c =
    let did = c.gather.ensures in
    each_count c.run_idle_bits.result (λ n h. (h.bits.0 ∙ ap (λ m. m + n) did.bits.0, h.bits.1 ∙ did.bits.1))
    c.run_idle_bits.ensures.runs

pub returns-clause-told : goal.returns-clause-told
returns-clause-told g c =
    let T : ℕ → Type 0 = λ nodes. AllTold nodes c.run_idle_bits.new.self.untold in
    each_count c.run_idle_bits.result (λ n h ne. subst T c.gather.ensures.nodes (h.told ne))
    c.run_idle_bits.ensures.runs

pub returns-clause-longest : goal.returns-clause-longest
returns-clause-longest g c = c.run_idle_bits.ensures.longest

pub returns-clause-right : goal.returns-clause-right
returns-clause-right g c = each_count c.run_idle_bits.result (λ n h. h.right) c.run_idle_bits.ensures.runs

pub returns-clause-items : goal.returns-clause-items
returns-clause-items g c = λ zero.
    let P : BusValue → Type 0 = λ x. EachJournal MayHaveItems c.args.self.now.journals x.journals in
    subst P (sym (none g (goal.at.returns-clause-items g c).After-run_idle_bits zero)) c.in_ok-gather.ensures.items

pub returns-clause-untold : goal.returns-clause-untold
returns-clause-untold g c = λ zero.
    let old = c.args.self.now in
    let P : BusValue → Type 0 = λ x. EachUntold old.untold x.untold old.journals x.journals in
    subst P (sym (none g (goal.at.returns-clause-untold g c).After-run_idle_bits zero)) c.in_ok-gather.ensures.untold

pub returns-clause-kept : goal.returns-clause-kept
returns-clause-kept g c =
    let B = g.B.Board in let board = c.args.board.now in let old = c.args.self.now in let mid = c.gather.new.self in
    let took = c.in_ok-gather.ensures in let at = (goal.at.returns-clause-kept g c).After-run_idle_bits in
    keeps_rest (B.orders_are board) (B.told board board) (B.kept board board) g.E.BusEnd.stands mid.script mid.run
    mid.untold c.run_idle_bits.result
    old.journals mid.journals c.run_idle_bits.new.self.journals c.args.links.now
    c.gather.new.links c.gather.ensures.nodes
    (λ zero. ap (λ (x : BusValue). x.journals) (none g at zero)) (stretch g at) took.kept

pub returns-clause-dry : goal.returns-clause-dry
returns-clause-dry g c =
    let B = g.B.Board in let board = c.args.board.now in let mid = c.gather.new.self in
    let took = c.in_ok-gather.ensures in let at = (goal.at.returns-clause-dry g c).After-run_idle_bits in
    dry_rest (B.orders_are board) (B.told board board) (B.kept board board) g.E.BusEnd.dry mid.script mid.run
    mid.untold c.run_idle_bits.result
    mid.journals c.run_idle_bits.new.self.journals c.gather.new.links
    (λ zero. ap (λ (x : BusValue). x.journals) (none g at zero)) (stretch g at) took.dry

pub returns-clause-stretch : goal.returns-clause-stretch
returns-clause-stretch g c =
    let B = g.B.Board in let board = c.args.board.now in let old = c.args.self.now in let mid = c.gather.new.self in
    let took = c.in_ok-gather.ensures in
    stretch_rest (B.orders_are board) (B.told board board) (B.kept board board) old.script mid.script old.run
    mid.run c.run_idle_bits.result
    old.untold mid.untold old.journals mid.journals c.run_idle_bits.new.self.journals c.gather.ensures.script
    c.gather.ensures.bits.0
    c.gather.ensures.nodes took.items took.untold (stretch g (goal.at.returns-clause-stretch g c).After-run_idle_bits)

pub returns-clause-reason : goal.returns-clause-reason
returns-clause-reason g c =
    let old = c.args.self.now in let mid = c.gather.new.self in let did = c.gather.ensures in
    let took = c.in_ok-gather.ensures in
    IfErr-weaker c.run_idle_bits.result _ _
    (λ f out right. inr (record {
      taken = mid.journals;
      count = did.nodes;
      items = took.items;
      kept = took.kept;
      within = let L : ℕ → Type 0 = λ n. AreOnLinks n mid.journals in subst L did.starts took.within;
      out = let P : ℕ → ℕ → List ℕ → Type 0 = λ run left steps. IsOutOfEntries (run + left) steps left mid.journals
          c.run_idle_bits.new.self.journals f in
          subst (λ (l : List ℕ). P old.run old.left l) did.steps
          (subst (λ (n : ℕ). P n old.left mid.steps) did.bits.0 (subst (λ (n : ℕ). P mid.run n mid.steps) did.bits.1
          out));
    }))
    c.run_idle_bits.ensures.reason
