use Rattle.std.proofs.Common.{rules, ◌≡◌, ◌<◌, ◌++◌, ◌∷◌, [], length, sym, ap, ◌∙◌, subst}
use Rattle.std.specs.Prelude.{slice_index_or, slice_set}
use Rattle.std.proofs.lemmas.List.{get_or_default}
use Rattle.sja_serial.specs.Inside.Accessing.{Enters}
use Rattle.sja_serial.specs.Inside.SerialProgress.{run_now}
use Rattle.sja_serial.specs.Serial.{SerialValue}
use Rattle.sja_driver.specs.declared.logged_driver.LoggedDriver.{LoggedDriver}
use Rattle.sja_driver.specs.LoggedDrivers.{log_of}
use Rattle.sja_driver.specs.Logs.{done_in, done_room}
use Rattle.sja_serial.proofs.serial_run.SerialRun.enter.Goals as goal

pub returns : goal.returns
returns c =
    let b = c.self.inside in let now = run_now b.bus b.drivers.items b.board.ports.items b.links.items b.bits in
    let drivers = b.drivers.items in let driver = c.enter.new.self in let old = c.index_mut.result.now in
    let node : c.from.result ≡ c.args.node = search rules in
    let less : c.args.node < length drivers =
    subst (λ (r : SerialValue). c.args.node < length r.drivers) (sym c.self.view_is) c.requires.there in
    let at : (d : LoggedDriver) → old ≡ slice_index_or drivers c.args.node d = λ d.
    c.index_mut.ensures.value ∙ ap (λ k. slice_index_or drivers k old) node
    ∙ get_or_default drivers c.args.node old d less in
    subst (λ (r : SerialValue). Enters r (run_now b.bus (slice_set drivers c.from.result driver)
    b.board.ports.items b.links.items b.bits) c.args.node c.args.answer c.args.kept) c.self.view_is (record {
      driver = driver;
      set = ap (λ k. run_now b.bus (slice_set drivers k driver) b.board.ports.items b.links.items b.bits) node;
      is = λ d. subst (λ (x : LoggedDriver). driver ≡ record x {
        kept = c.args.kept;
        log = record (log_of x) { done = (log_of driver).done };
      }) (at d) c.enter.ensures.rest;
      done = λ d. c.enter.ensures.done ∙ ap (λ (x : LoggedDriver).
          done_in (log_of x) ++ record { answer = c.args.answer; bits = b.bits } ∷ []) (at d);
      room = λ d. c.enter.ensures.room ∙ ap (λ (x : LoggedDriver). done_room (log_of x)) (at d);
    })
