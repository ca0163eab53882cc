-- A node of a run in one thread, between two steps (this project's own rule).
use Rattle.std.specs.Prelude.{ℕ, List}
use Rattle.sja_journal.specs.declared.entry.Entry.{Entry}
use Rattle.sja_link.specs.Deques.{Deques}
use Rattle.sja_journal.specs.Places.{place_of}
use Rattle.sja_regs.specs.declared.registers.Registers.{Registers}
use Rattle.sja_driver.specs.declared.logged_driver.LoggedDriver.{LoggedDriver}
use Rattle.sja_driver.specs.TypedActs.{TypedAct}
use Rattle.sja_driver.specs.InTime.{IsInTime}
use Rattle.sja_promises.specs.Registering.{LeadTo}
use Rattle.sja_driver.specs.Tracing.{IsTraced}
use Rattle.sja_driver.specs.Linking.{IsLinked}
use Rattle.sja_driver.specs.Porting.{IsPorted}
use Rattle.sja_driver.specs.Asking.{IsAsked}
use Rattle.sja_driver.specs.Counted.{IsCounted}
use Rattle.sja_driver.specs.Dated.{AreDone}

-- its driver did these acts, and has room for so many in all; its links and its port are beside them and its journal;
-- the journal has no more entries than they allow; no act is later than its last bit; all was in time; and from
-- power-on entries and acts have led to the registers of its port
pub record IsNode (version size : ℕ) (j : List Entry) (acts : List TypedAct) (driver : LoggedDriver)
    (port : Registers) (links : Deques) : Type 0 where
  pub traced : IsTraced version size acts driver
  pub linked : IsLinked j acts driver links
  pub ported : IsPorted version j acts port
  pub asked : IsAsked j port
  pub counted : IsCounted j acts port
  pub done : AreDone (place_of j).bits acts
  pub in_time : IsInTime version j acts
  pub registers : LeadTo version j acts port
