use Rattle.std.proofs.Common.{◌≡◌, ℕ, ◌+◌, ◌-◌, ◌<◌, ◌≤◌, false, true, List, length, rules, arith, refl, sym, ap, ◌∙◌}
use Rattle.std.proofs.Common.{subst, inr}
use Rattle.sja_steps.specs.Striking.{Strikes}
use Rattle.std.proofs.lemmas.Slice.Zip.{AllZip-long as each_length}
use Rattle.lemmas.proofs.Related.{each_refl, each_trans}
use Rattle.can_levels.specs.BusLevel.{wired}
use Rattle.sja_bus_rules.specs.Reasons.{room_for}
use Rattle.sja_bus.specs.UntilTold.HasBitsMore.{none}
use Rattle.sja_bus.specs.declared.bus_node.BusNode.{BusNode}
use Rattle.sja_bus.specs.Inside.Refusing.{AreFree}
use Rattle.sja_bus.specs.Inside.Rows.{AreTold, IsBus, driven_by}
use Rattle.sja_bus.specs.UntilTold.{WorksUntold}
use Rattle.sja_bus.specs.Inside.RunningOn.{moment_of, AnyBit, RowsRun, SomeTold}
use Rattle.sja_bus.proofs.AllNodes.Rows.{stay_on_bus}
use Rattle.sja_bus.proofs.AllNodes.RunningOn.{passes, none_still, others_now, others_still}
use Rattle.sja_bus.proofs.AllNodes.Many.{links_kept}
use Rattle.sja_bus.proofs.AllNodes.Begins.{begun_bits, begun_turned}
use Rattle.sja_bus.proofs.AllNodes.BitAfterBit.{facts_of_bit, none_yet, bits_on, stops_on}
use Rattle.sja_bus.proofs.AllNodes.UntilTold.{bus_nodes_then, works_untold}
use Rattle.sja_bus.proofs.OneReader.Ending.{ends_full, ends_untold, full_first, full_on}
use Rattle.sja_bus.proofs.OneReader.QuietRows.{free_after, have_room_after, none_run}
use Rattle.sja_bus.proofs.OneReader.QuietRows.{rooms_after, rows_on, told_after}
use Rattle.sja_bus.proofs.Resting.Unstruck.{none_more, none_now}
use Rattle.sja_bus.proofs.bits.untaken_bits.Goals.{After-quiet_for-calm, In-Ok}
use Rattle.sja_bus.proofs.bits.untaken_bits.Goals as goal

-- what holds of the port of each node held before that bit, and does after it
facts : (g : _) (c : In-Ok g) → (k : ℕ) → k < length c.loop-run.bus_nodes → g.B.Board.facts c.sample_all.new.board k
facts g c =
    let B = g.B.Board in let same = c.loop-run.auto.bus_nodes in let before = c.loop-run.invariant.board in
    let ports = c.requires.on_bus.ports in let p = ap B.ports before in
    facts_of_bit B g.met.B.Board.facts_go_on c.none.result c.loop-run.level c.loop-run.bus_nodes
    c.sample_all.new.bus_nodes
    c.loop-run.board c.sample_all.new.board (omega (arith, ports, same, p)) c.sample_all.ensures.board
    c.in-Ok.ensures.turns
    (λ k few. let F : _ → Type 0 = λ x. B.facts x k in
    subst F (sym before) (c.requires.may.facts k (omega (arith, few, same))))

-- the bits so far, and one more that went well
runs_more : (g : _) (c : In-Ok g) → RowsRun g.E.BusEnd g.B.Board c.args.to_rest c.args.struck.now.script c.args.from
    c.args.most c.args.bus_nodes.now c.sample_all.new.bus_nodes c.args.links.now c.sample_all.new.links c.args.board.now
    c.sample_all.new.board (c.loop-run.run + 1)
runs_more g c =
    let E = g.E.BusEnd in let B = g.B.Board in let inv = c.loop-run.invariant in let did = c.in-Ok.ensures in
    let script = c.args.struck.now.script in let from = c.args.from in let run = c.loop-run.run in
    let was = c.loop-run.bus_nodes in let now = c.sample_all.new.bus_nodes in
    let a = c.loop-run.board in let z = c.sample_all.new.board in
    let goes : c.goes_on.result ≡ true = search rules in
    let within : run < c.quiet_for-calm.result = search rules in
    let count = c.quiet_for-calm.ensures.most in let all = c.room_of-fit.ensures.most in
    let early : run < c.args.most = omega (arith, within, count, all) in
    let calm : (node : ℕ) → node < 8 → Strikes script (from + run) node → ⊥ =
    λ node. c.quiet_for-calm.ensures.quiet (from + run) node (omega arith) (omega (arith, within)) in
    let pass = passes B.orders_are (B.told a z) (B.kept a z) script (from + run) (length c.args.bus_nodes.now)
    c.none.result
    c.loop-run.level c.args.board.now a was now c.requires.on_bus.few c.loop-run.auto.bus_nodes
    c.sample_all.auto.bus_nodes
    inv.board c.requires.may.orders c.none.ensures calm inv.level did.turns did.ready inv.bus in
    let next = pass.bus (from + (run + 1)) (omega arith) in record {
      bus = next;
      rooms = λ n h. c.sample_all.ensures.rooms n (inv.rooms n h);
      unstruck = none_more script from run 1 inv.unstruck (none_now script from run calm);
      begun = λ starts before. begun_turned starts (B.told a z) (B.kept a z) c.none.result c.loop-run.level was now
          c.sample_all.auto.bus_nodes did.turns (begun_bits starts c.args.bus_nodes.now was c.loop-run.auto.bus_nodes
          inv.more
          before);
      bits = λ starts steps left before enough.
          let begun = moment_of script starts steps from left c.args.bus_nodes.now c.args.links.now c.args.board.now in
          bits_on E B (WorksUntold c.args.to_rest begun) begun script starts steps from run c.args.most left
          c.none.result was
          now c.loop-run.links c.sample_all.new.links a z early enough c.sample_all.auto.bus_nodes pass.few pass.at
          pass.row
          c.sample_all.ensures.sames c.sample_all.ensures.board did.goes
          (begun_turned starts (B.told a z) (B.kept a z) c.none.result c.loop-run.level was now
          c.sample_all.auto.bus_nodes did.turns
          (begun_bits starts c.args.bus_nodes.now was c.loop-run.auto.bus_nodes inv.more before))
          inv.bus next (facts g c)
          (works_untold c.args.to_rest script starts steps from (from + run) left (left - run) c.args.bus_nodes.now was
          c.args.links.now c.loop-run.links c.args.board.now a inv.bus.ready (c.goes_on.ensures.works goes) inv.board
          c.loop-run.auto.bus_nodes inv.more) (inv.bits starts steps left before enough);
    }

pub loop-run-init : goal.loop-run-init
loop-run-init g c =
    let E = g.E.BusEnd in let B = g.B.Board in let script = c.args.struck.now.script in
    let at : c.args.from ≡ c.args.from + 0 = omega arith in
    let P : ℕ → Type 0 = λ n. IsBus script n c.args.bus_nodes.now in record {
      level = c.level_of-level.ensures;
      board = refl;
      within = omega arith;
      bus = subst P at c.requires.bus;
      told = c.requires.may.told;
      sames = each_refl E.same g.met.E.BusEnd.same_refl c.args.links.now;
      rooms = λ n h. h;
      fresh = λ zero. refl;
      unstruck = λ i node low few strikes. absurd (omega (arith, low));
      free = λ k s here. let room = c.room_of-fit.ensures.free k s here in let few = c.quiet_for-calm.ensures.most in
          omega (arith, room, few);
      used = full_first c.args.most c.room_of-fit.result c.args.bus_nodes.now c.room_of-fit.ensures.least;
      more = λ k s here. none;
      bits = λ starts steps left before enough. none_yet (AnyBit E B) (WorksUntold c.args.to_rest
          (moment_of script starts steps c.args.from left c.args.bus_nodes.now c.args.links.now c.args.board.now))
          script
          starts steps
          c.args.from left c.args.bus_nodes.now c.args.links.now c.args.board.now;
    }

pub sample_all-requires : goal.sample_all-requires
sample_all-requires g c =
    let inv = c.loop-run.invariant in let ports = g.B.Board.ports in record {
      on_bus = stay_on_bus g.E.BusEnd.node g.E.BusEnd.same g.met.E.BusEnd.same_node c.args.bus_nodes.now
          c.loop-run.bus_nodes
          c.args.links.now c.loop-run.links (ports c.args.board.now) (ports c.loop-run.board) c.loop-run.auto.bus_nodes
          inv.sames (ap ports inv.board) inv.bus.ready c.requires.on_bus;
      told = inv.told;
      free = λ k s here.
          let run : c.loop-run.run < c.quiet_for-calm.result = search rules in let room = inv.free k s here in
          omega (arith, run, room);
    }

pub returns-then-end-clause-keeps : goal.returns-then-end-clause-keeps
returns-then-end-clause-keeps g c = record {
  sames = each_trans g.E.BusEnd.same g.met.E.BusEnd.same_trans c.args.links.now c.loop-run.links
      c.sample_all.new.links c.loop-run.invariant.sames c.sample_all.ensures.sames;
  others = others_now g.B.Board.ports g.B.Board.kept c.args.board.now c.loop-run.board c.sample_all.new.board
      (length c.args.bus_nodes.now) (length c.loop-run.bus_nodes) c.loop-run.invariant.board c.loop-run.auto.bus_nodes
      c.sample_all.ensures.board;
  rooms = λ n h. c.sample_all.ensures.rooms n (c.loop-run.invariant.rooms n h);
}

pub returns-in-Err-clause-keeps : goal.returns-in-Err-clause-keeps
returns-in-Err-clause-keeps g c = record {
  sames = each_trans g.E.BusEnd.same g.met.E.BusEnd.same_trans c.args.links.now c.loop-run.links
      c.sample_all.new.links c.loop-run.invariant.sames c.sample_all.ensures.sames;
  others = others_now g.B.Board.ports g.B.Board.kept c.args.board.now c.loop-run.board c.sample_all.new.board
      (length c.args.bus_nodes.now) (length c.loop-run.bus_nodes) c.loop-run.invariant.board c.loop-run.auto.bus_nodes
      c.sample_all.ensures.board;
  rooms = λ n h. c.sample_all.ensures.rooms n (c.loop-run.invariant.rooms n h);
}

pub returns-after-loop-run-clause-keeps : goal.returns-after-loop-run-clause-keeps
returns-after-loop-run-clause-keeps g c = record {
  sames = c.loop-run.invariant.sames;
  others = others_still g.B.Board.ports g.B.Board.kept g.met.B.Board.kept_refl c.args.board.now c.loop-run.board
      (length c.args.bus_nodes.now) c.loop-run.invariant.board;
  rooms = c.loop-run.invariant.rooms;
}

pub returns-else-goes_on-clause-keeps : goal.returns-else-goes_on-clause-keeps
returns-else-goes_on-clause-keeps g c = record {
  sames = c.loop-run.invariant.sames;
  others = others_still g.B.Board.ports g.B.Board.kept g.met.B.Board.kept_refl c.args.board.now c.loop-run.board
      (length c.args.bus_nodes.now) c.loop-run.invariant.board;
  rooms = c.loop-run.invariant.rooms;
}

-- what is asked of a run of bits holds after the bit before it
told_now : (g : _) (c : In-Ok g) → AreTold c.sample_all.new.bus_nodes
told_now g c = λ k s few. (c.in-Ok.ensures.turns k s (let count = c.sample_all.auto.bus_nodes in
    omega (arith, few, count))).told

free_now : (g : _) (c : In-Ok g) → c.in-Ok.end.told ≡ false →
    AreFree (c.quiet_for-calm.result - (c.loop-run.run + 1)) c.sample_all.new.bus_nodes
free_now g c untold =
    let within : c.loop-run.run < c.quiet_for-calm.result = search rules in
    (c.in-Ok.ensures.untold untold).free (c.quiet_for-calm.result - (c.loop-run.run + 1))
    (λ k s here. let room = c.loop-run.invariant.free k s here in omega (arith, within, room))

pub run_together-together-requires : goal.run_together-together-requires
run_together-together-requires g c =
    let at = (goal.at.run_together-together-requires g c).In-Ok in
    let untold : c.in-Ok.end.told ≡ false = c.if-end.false in
    record { ready = c.in-Ok.ensures.ready; told = told_now g at; free = free_now g at untold }

pub level_after-level-requires : goal.level_after-level-requires
level_after-level-requires g c = λ zero.
    let P : List BusNode → Type 0 = λ l. c.in-Ok.end.level ≡ wired (driven_by l) in
    subst P (sym (none_run c.args.to_rest c.sample_all.new.bus_nodes c.run_together-together.new.bus_nodes
    c.run_together-together.result c.run_together-together.ensures.rows zero)) c.in-Ok.ensures.level

pub loop-run-preserved : goal.loop-run-preserved
loop-run-preserved g c =
    let at = (goal.at.loop-run-preserved g c).In-Ok in
    let E = g.E.BusEnd in let B = g.B.Board in let inv = c.loop-run.invariant in
    let script = c.args.struck.now.script in let from = c.args.from in let run = c.loop-run.run in
    let calm = c.quiet_for-calm.result in let fit = c.room_of-fit.result in let more = runs_more g at in
    let within : run < calm = search rules in
    let untold : c.in-Ok.end.told ≡ false = c.if-end.false in
    let one = c.sample_all.new.bus_nodes in let now = c.run_together-together.new.bus_nodes in
    let n = c.run_together-together.result in let rows = c.run_together-together.ensures.rows in
    let stay = rooms_after c.args.to_rest one n now rows in
    let few = c.run_together-together.ensures.few in
    let count = c.quiet_for-calm.ensures.most in let all = c.room_of-fit.ensures.most in
    let same = c.loop-run.auto.bus_nodes in let size = c.sample_all.auto.bus_nodes in
    let none_told = c.in-Ok.ensures.untold untold in let still = none_told.still ∙ inv.board in
    let unstruck : (i node : ℕ) → i < n → node < 8 → Strikes script (from + (run + 1 + i)) node → ⊥ =
    λ i node low. c.quiet_for-calm.ensures.quiet (from + (run + 1 + i)) node (omega arith)
    (omega (arith, within, low, few)) in
    let begun = bus_nodes_then c.args.bus_nodes.now c.loop-run.bus_nodes one same inv.more none_told.bits in
    let far = rows_on E B g.met.E.BusEnd.same_refl g.met.B.Board.kept_refl c.args.to_rest script from c.args.most
    c.args.bus_nodes.now c.args.links.now c.args.board.now c.requires.on_bus.few
    c.sample_all.new.links c.sample_all.new.board still c.requires.may.orders
    (λ k low. facts g at k (omega (arith, low, same))) (run + 1) one n now
    (omega (arith, within, few, count, all)) unstruck rows
    (record { count = omega (arith, same, size); bus = more.bus; more = begun; bits = more.bits }) in
    let rest : calm - (run + 1) - n ≡ calm - (run + 1 + n) = omega arith in
    let F : ℕ → Type 0 = λ m. AreFree m now in record {
      level = c.level_after-level.ensures;
      board = still;
      within = omega (arith, within, few);
      bus = far.bus;
      told = told_after c.args.to_rest one n now rows (told_now g at);
      sames = each_trans E.same g.met.E.BusEnd.same_trans c.args.links.now c.loop-run.links c.sample_all.new.links
          inv.sames c.sample_all.ensures.sames;
      rooms = λ r h. have_room_after one now n stay r (c.sample_all.ensures.rooms r (inv.rooms r h));
      free = subst F rest (free_after one now n (calm - (run + 1)) stay (free_now g at untold));
      used = full_on c.none.result c.loop-run.level c.args.to_rest c.loop-run.bus_nodes one n now c.args.most fit run
          size
          c.in-Ok.ensures.turns c.sample_all.ensures.rooms rows inv.used;
      fresh = λ zero. absurd (omega (arith, zero));
      unstruck = none_more script from (run + 1) n more.unstruck unstruck;
      more = far.more;
      bits = far.bits;
    }

pub returns-in-Err-clause-breaks : goal.returns-in-Err-clause-breaks
returns-in-Err-clause-breaks g c = λ starts steps left later before many enough rooms journals run_is left_is.
    let E = g.E.BusEnd in let B = g.B.Board in let inv = c.loop-run.invariant in
    let script = c.args.struck.now.script in let from = c.args.from in let run = c.loop-run.run in
    let was = c.loop-run.bus_nodes in let now = c.sample_all.new.bus_nodes in
    let a = c.loop-run.board in
    let within : run < c.quiet_for-calm.result = search rules in
    let count = c.quiet_for-calm.ensures.most in let all = c.room_of-fit.ensures.most in
    let early : run < c.args.most = omega (arith, within, count, all) in
    let goes : c.goes_on.result ≡ true = search rules in
    let none = none_still B.orders_are (length c.args.bus_nodes.now) c.args.board.now a was c.loop-run.auto.bus_nodes
    inv.board
    c.requires.may.orders in record {
      mid = moment_of script starts steps (from + run) (left - run) was c.loop-run.links a;
      run = run;
      early = early;
      bits = inv.bits starts steps left before enough;
      before = works_untold c.args.to_rest script starts steps from (from + run) left (left - run) c.args.bus_nodes.now
          was
          c.args.links.now c.loop-run.links c.args.board.now a inv.bus.ready (c.goes_on.ensures.works goes) inv.board
          c.loop-run.auto.bus_nodes inv.more;
      stops = stops_on E (B.orders_are a) script starts steps (from + run) (left - run) (from + left) was
          now c.loop-run.links c.sample_all.new.links c.in-Err.fault later g.met.E.BusEnd.same_refl
          g.met.E.BusEnd.same_links journals
          (omega (arith, early, enough)) c.sample_all.auto.bus_nodes
          (let long = each_length E.same c.args.links.now c.loop-run.links inv.sames in
          let ends = c.requires.on_bus.ends.count in let same = c.loop-run.auto.bus_nodes in omega (
            arith,
            long,
            ends,
            same,
          ))
          (begun_bits starts c.args.bus_nodes.now was c.loop-run.auto.bus_nodes inv.more before)
          (links_kept E.links E.same g.met.E.BusEnd.same_links starts starts c.args.links.now c.loop-run.links refl
          inv.sames many) (inv.rooms (room_for (from + left) steps) rooms) none
          c.in-Err.ensures.broken;
      run_so_far = run_is;
      left_so_far = left_is;
    }

-- ---- why they ended

-- there was room for so many
free_for : (g : _) (c : After-quiet_for-calm g) (run : ℕ) → run ≤ c.quiet_for-calm.result →
    AreFree run c.args.bus_nodes.now
free_for g c run few k s here =
    let room = c.room_of-fit.ensures.free k s here in let most = c.quiet_for-calm.ensures.most in
    omega (arith, room, most, few)

pub returns-after-loop-run-clause-runs : goal.returns-after-loop-run-clause-runs
returns-after-loop-run-clause-runs g c =
    let at = (goal.at.returns-after-loop-run-clause-runs g c).After-quiet_for-calm in let inv = c.loop-run.invariant in
    let past = c.loop-run-test.false in let within = inv.within in
    let script = c.args.struck.now.script in let bus_nodes = c.loop-run.bus_nodes in record {
      runs = record {
        bus = inv.bus;
        begun = λ starts. begun_bits starts c.args.bus_nodes.now bus_nodes c.loop-run.auto.bus_nodes inv.more;
        rooms = inv.rooms;
        unstruck = inv.unstruck;
        bits = inv.bits;
      };
      ends = ends_untold c.args.to_rest script c.args.from c.args.most c.loop-run.run c.args.bus_nodes.now bus_nodes
          (free_for g at c.loop-run.run within) inv.fresh
          (ends_full c.args.to_rest script c.args.from c.args.most c.room_of-fit.result c.quiet_for-calm.result
          c.loop-run.run bus_nodes inv.used c.quiet_for-calm.ensures.longest (omega (arith, past, within)));
    }

pub returns-else-goes_on-clause-runs : goal.returns-else-goes_on-clause-runs
returns-else-goes_on-clause-runs g c =
    let at = (goal.at.returns-else-goes_on-clause-runs g c).After-quiet_for-calm in let inv = c.loop-run.invariant in
    let script = c.args.struck.now.script in let bus_nodes = c.loop-run.bus_nodes in record {
      runs = record {
        bus = inv.bus;
        begun = λ starts. begun_bits starts c.args.bus_nodes.now bus_nodes c.loop-run.auto.bus_nodes inv.more;
        rooms = inv.rooms;
        unstruck = inv.unstruck;
        bits = inv.bits;
      };
      ends = ends_untold c.args.to_rest script c.args.from c.args.most c.loop-run.run c.args.bus_nodes.now bus_nodes
          (free_for g at c.loop-run.run inv.within) inv.fresh
          (inr (inr (inr (c.goes_on.ensures.no c.if-goes_on.false))));
    }

pub returns-then-end-clause-runs : goal.returns-then-end-clause-runs
returns-then-end-clause-runs g c =
    let at = goal.at.returns-then-end-clause-runs g c in
    let P : _ → Type 0 = λ b. SomeTold (g.B.Board.told b c.sample_all.new.board) c.sample_all.new.bus_nodes in
    let within : c.loop-run.run < c.quiet_for-calm.result = search rules in record {
      runs = runs_more g at.In-Ok;
      ends = record {
        free = free_for g at.After-quiet_for-calm (c.loop-run.run + 1) (omega (arith, within));
        none = λ zero. absurd (omega (arith, zero));
        why = inr (subst P c.loop-run.invariant.board (c.in-Ok.ensures.told c.if-end.true));
      };
    }
