use Rattle.std.proofs.Common.{◌≡◌, ◌+◌, ℕ, suc, [], rules, arith, subst}
use Rattle.sja_serial.proofs.WholeRun.RowsAdded.{HasRows, rows_first, rows_next}
use Rattle.sja_serial.proofs.registers.rows_of.Goals as goal

pub loop-node-init : goal.loop-node-init
loop-node-init g c =
    let none : c.new-rows.result.items ≡ [] = search rules in
    rows_first g.setup c.args.run.now c.new-rows.result.items none

pub push_node-requires : goal.push_node-requires
push_node-requires g c =
    let run = c.requires.0 in let most = c.requires.1 in let within = c.loop-node-test.true in
    ((run.0, c.loop-node.invariant.by run.0 run.1), omega (arith, most, within))

pub loop-node-preserved : goal.loop-node-preserved
loop-node-preserved g c =
    let run = c.requires.0 in let most = c.requires.1 in let within = c.loop-node-test.true in
    let more : suc c.loop-node.node ≡ c.loop-node.node + 1 = omega arith in
    subst (λ (k : ℕ). HasRows g.setup c.args.run.now c.push_node.new.run c.push_node.new.rows.items k) more
    (rows_next g.setup c.args.run.now c.loop-node.run c.push_node.new.run c.loop-node.rows.items
    c.push_node.new.rows.items c.loop-node.node run.0 run.1 (omega (arith, most, within)) c.loop-node.invariant
    c.in_ok-push_node.ensures)
