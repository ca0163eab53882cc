use mir.Syntax.{named}
use denote.Exit.{no}
use denote.Param.{param}
use denote.Param.Send.{AllSend, sendable, param_send, arg_send, shr_send}
use Rattle.std.proofs.sync.Mutex.TheSendSync as mutex
use Rattle.sja_plan.proofs.plan.Plan.TheSendSync as plan
use Rattle.sja_rings.proofs.node_driver.NodeDriver.TheSendSync as node_driver
use Rattle.sja_threads.proofs.Start.Goes.{closure_goes}
use Rattle.sja_threads.proofs.handover.Handover.TheSendSync as handover
use Rattle.sja_threads.proofs.lobby.Lobby.TheSendSync as lobby
use Rattle.sja_threads.proofs.locked_port.LockedPort.TheSendSync as port
use Rattle.sja_threads.proofs.thread_start.ThreadStart.TheSendSync as start
use Rattle.sja_threads.proofs.thread_start.start_one.Goals as goal
use Rattle.sja_threads.proofs.thread_start.start_one.Lts.{of-16}

-- what a thread begins with may go to it
pub spawn_with-requires-send-F : goal.spawn_with-requires-send-F
spawn_with-requires-send-F g c κs within =
    let b = c.type_bounds in
    let held = of-16 g.row.E g.row.N g.row.G g.row.R g.E.laws g.N.laws g.G.laws g.R.laws g.N.Order g.N.Order-dict
    g.G.Gate g.G.Gate-dict g.R.Threads g.R.Threads-dict g.R.Wait g.R.Wait-dict g.G.Destruct-dict
    (record { mir = named 6; lft = κs.1.1.1.1.1.1.0 }) (record { mir = named 7; lft = κs.1.1.1.1.1.1.1.0 })
    (record { mir = named 8; lft = κs.1.1.1.1.1.1.1.1.0 }) (record { mir = named 9; lft = κs.1.1.1.1.1.1.1.1.1.0 }) in
    let all-go : AllSend held = (
      search (sendable, b.sync-R),
      (
        search (sendable, plan.the_sync),
        (
          search (sendable, start.the_send, b.send-G),
          (
            shr_send _ _ _ (mutex.the_sync _ (port.the_send (param 1 g.row.N) _)),
            (search (sendable, mutex.the_sync, lobby.the_send), tt),
          ),
        ),
      ),
    ) in
    param_send 2 _ (arg_send _ no _ (closure_goes _ held all-go))

-- what it hands back may come from it
pub spawn_with-requires-send-T : goal.spawn_with-requires-send-T
spawn_with-requires-send-T g c κs within =
    search (sendable, handover.the_send, node_driver.the_send) depth 30 fits 8000
