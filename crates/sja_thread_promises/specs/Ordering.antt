-- In which order turns of the bus and acts of the driver came at the port of a node (this project's own rule).
use Rattle.std.specs.Prelude.{◌≡◌, ◌≢◌, ◌<◌, ◌⊎◌, ◌++◌, ◌||◌, ℕ, Bool, true, false, if◌then◌else◌, List, [], ◌∷◌}
use Rattle.std.specs.Prelude.{◌+◌, ◌-◌, ◌^◌, min, length, map, All}
use Rattle.can_levels.specs.declared.level.Level.{Level}
use Rattle.sja_journal.specs.declared.entry.Entry.{Entry}
use Rattle.sja_journal.specs.BitEntries.{MayHaveItems}
use Rattle.sja_journal.specs.Carried.{bits_of}
use Rattle.sja_journal.specs.Places.{place_of}
use Rattle.sja_link.specs.Showing.{seen_of}
use Rattle.sja_regs.specs.declared.bus_turn.BusTurn.{BusTurn}
use Rattle.sja_regs.specs.declared.orders.Orders.{Orders}
use Rattle.sja_regs.specs.declared.registers.Registers.{Registers}
use Rattle.sja_regs.specs.DriverSettings.{settings_in}
use Rattle.sja_regs.specs.Registers.{at_power_on}
use Rattle.sja_regs.specs.Turns.{after_turn}
use Rattle.sja_steps.specs.declared.step.Step.{Step}
use Rattle.sja_steps.specs.declared.step.Step.TheVariants.{Window, Release, Stop}
use Rattle.sja_steps.specs.declared.step_answer.StepAnswer.{StepAnswer}
use Rattle.sja_steps.specs.declared.step_answer.StepAnswer.TheVariants.{Done as DoneAnswer}
use Rattle.sja_driver.specs.Carried.{Tells, ported, asks_abort}
use Rattle.sja_driver.specs.TypedActs.{TypedAct, active_after}
use Rattle.sja_log.specs.declared.end.End.{End}
use Rattle.sja_log.specs.declared.end.End.TheVariants.{Bits, Rest, Turns}
use Rattle.sja_bus_rules.specs.Buses.{IsNodeBit}
use Rattle.sja_thread_promises.specs.declared.port_act.PortAct.{PortAct}
use Rattle.sja_thread_promises.specs.declared.port_update.PortUpdate.{PortUpdate}
use Rattle.sja_thread_promises.specs.declared.port_update.PortUpdate.TheVariants.{Turn, Ran, Spent}
use Rattle.sja_thread_promises.specs.Needed.{most_awaited}

-- ---- what came at a port

-- a driver sees its port in each step but a window and a release
abbrev pub is_at_port : Step → Bool
is_at_port Window = false
is_at_port Release = false
is_at_port other = true

-- of its acts those at the port: what was done, what that answered, and how many bits it counts
abbrev pub done_at_port : List TypedAct → List (Step × StepAnswer × ℕ)
done_at_port [] = []
done_at_port (d ∷ acts) =
    if is_at_port d.step then (d.step, d.answer, d.bits) ∷ done_at_port acts else done_at_port acts

abbrev pub done_in_order : List PortAct → List (Step × StepAnswer × ℕ)
done_in_order acts = map (λ (d : PortAct). (d.step, d.answer, d.bits)) acts

-- one bit more, as far as a count goes
abbrev pub one_more : ℕ → ℕ
one_more n = min (n + 1) (2 ^ 32 - 1)

-- so many bits have run by what a port was told: by the last number that it was told, and none before the first one;
-- and since then a bit with each turn
abbrev pub bits_told_since : ℕ → List PortUpdate → ℕ
bits_told_since n [] = n
bits_told_since n (Ran many orders ∷ told) = bits_told_since many told
bits_told_since n (Turn t ∷ told) = bits_told_since (one_more n) told
bits_told_since n (Spent ∷ told) = bits_told_since n told

abbrev pub bits_told : List PortUpdate → ℕ
bits_told told = bits_told_since 0 told

-- its driver was found to have ended, as it was told one of these numbers, or wasn't yet
abbrev pub ended_told_since : Bool → List PortUpdate → Bool
ended_told_since found [] = found
ended_told_since found (Ran many orders ∷ told) = ended_told_since (found || orders.ended) told
ended_told_since found (Turn t ∷ told) = ended_told_since found told
ended_told_since found (Spent ∷ told) = ended_told_since found told

abbrev pub ended_told : List PortUpdate → Bool
ended_told told = ended_told_since false told

-- it was told that no bits are left
abbrev pub closed_told : List PortUpdate → Bool
closed_told [] = false
closed_told (Ran many orders ∷ told) = closed_told told
closed_told (Turn t ∷ told) = closed_told told
closed_told (Spent ∷ told) = true

-- an abort was found to stand, as it was told such a number, and it was told nothing since
abbrev pub abort_found : PortUpdate → Bool
abort_found (Ran many orders) = orders.abort
abort_found (Turn t) = false
abort_found Spent = false

abbrev pub abort_told : List PortUpdate → Bool
abort_told [] = false
abort_told (t ∷ []) = abort_found t
abort_told (t ∷ next ∷ told) = abort_told (next ∷ told)

-- ---- what it led to

-- a driver that was out of reset or wasn't is so after this was done at its port
abbrev pub active_by : Bool → List (Step × StepAnswer × ℕ) → Bool
active_by active [] = active
active_by active (d ∷ done) = active_by (active_after active d.0 d.1) done

-- an act of a driver that is out of reset or isn't is answered so at these registers, by some messages that it had got
-- by then
pub record IsAnsweredAt (active : Bool) (p : Registers) (step : Step) (answer : StepAnswer) : Type 0 where
  pub window : List (List ℕ)
  pub off : Bool
  pub tells : Tells step active p (seen_of off window) answer

-- what a driver orders at these registers: that its request is aborted, and that it has ended
abbrev pub orders_of : Registers → Orders
orders_of p = record { abort = p.abort; ended = p.ended }

-- from power-on in this version what a port was told and acts that were done, each in its own order, lead in some
-- order of both to these registers: a turn makes of them what a turn makes of registers, and where no bits are left
-- they are marked so; what its driver orders was found by their marks. An act is answered by them as they stand then,
-- leaves what such an act leaves there, and has how many bits had run by what was told before. Between two of these
-- nothing changes but the mark that the driver has ended
pub data LedBy (version : ℕ) : List PortUpdate → List PortAct → Registers → Type 0 where
  power_on : LedBy version [] [] (at_power_on version)
  turn_told : (told : List PortUpdate) (acts : List PortAct) (p : Registers) (t : BusTurn) →
      LedBy version told acts p → LedBy version (told ++ Turn t ∷ []) acts (after_turn p t)
  bits_ran : (told : List PortUpdate) (acts : List PortAct) (p : Registers) (bits : ℕ) →
      LedBy version told acts p → LedBy version (told ++ Ran bits (orders_of p) ∷ []) acts p
  spent : (told : List PortUpdate) (acts : List PortAct) (p : Registers) →
      LedBy version told acts p → LedBy version (told ++ Spent ∷ []) acts (record p { closed = true })
  act_done : (told : List PortUpdate) (acts : List PortAct) (p : Registers) (d : PortAct) →
      LedBy version told acts p →
      IsAnsweredAt (active_by false (done_in_order acts)) p d.step d.answer →
      d.set ≡ settings_in (ported p d.step d.answer) → d.bits ≡ bits_told told →
      LedBy version told (acts ++ d ∷ []) (ported p d.step d.answer)
  ended : (told : List PortUpdate) (acts : List PortAct) (p : Registers) →
      LedBy version told acts p → LedBy version told acts (record p { ended = true })

-- an accepted stop: reset mode is entered, and no abort stands any more
abbrev pub is_stop : Step → StepAnswer → Bool
is_stop Stop DoneAnswer = true
is_stop other answer = false

-- one of these acts commanded an abort, and the driver didn't stop since
pub record HasCommandedAbort (acts : List PortAct) : Type 0 where
  pub before : List PortAct
  pub command : PortAct
  pub after : List PortAct
  pub whole : acts ≡ before ++ command ∷ after
  pub asks : asks_abort command.step command.answer ≡ true
  pub no_stop : All (λ (d : PortAct). is_stop d.step d.answer ≡ false) after

-- a front of these acts did
pub record HadCommandedAbort (acts : List PortAct) : Type 0 where
  pub front : List PortAct
  pub rest : List PortAct
  pub whole : acts ≡ front ++ rest
  pub has : HasCommandedAbort front

-- ---- what the bus told

-- the node's first start was taken, or its driver was found to have ended, or a step of its script waits for a later
-- bit
abbrev pub HasBegun : List Step → List Entry → List PortUpdate → Type 0
HasBegun steps j told =
    ((place_of j).activation ≢ 0) ⊎ (ended_told told ≡ true) ⊎ (length (bits_of j) < most_awaited steps)

-- what the driver of a port that was told this may order in a bit: an abort that was found to stand just before
abbrev pub MayOrder : List PortUpdate → Orders → Type 0
MayOrder told orders = orders.abort ≡ true → abort_told told ≡ true

-- as this journal of a run of so many bits came to be, of a node with this script, the bus told the node's port this:
-- nothing as items were taken; a turn in each bit but those in which there was nothing to tell; between two bits how
-- many have run, which is how many the journal has; and that none are left where it has all of them. No bit was run
-- before the node had begun, and an abort was applied in one only where it was found to stand just before
pub data TellsPort (all : ℕ) (steps : List Step) : List Entry → List PortUpdate → Type 0 where
  nothing_yet : TellsPort all steps [] []
  items : (j k : List Entry) (told : List PortUpdate) → TellsPort all steps j told → MayHaveItems j k →
      TellsPort all steps k told
  bit : (j k : List Entry) (told more : List PortUpdate) (untold : Bool) (driven seen : Level) →
      TellsPort all steps j told →
      HasBegun steps j told →
      IsNodeBit (MayOrder told) (λ t. more ≡ told ++ Turn t ∷ []) (more ≡ told) untold j k driven seen →
      TellsPort all steps k more
  bits : (j : List Entry) (told : List PortUpdate) (many : ℕ) (orders : Orders) → TellsPort all steps j told →
      length (bits_of j) ≡ many → TellsPort all steps j (told ++ Ran many orders ∷ [])
  none_left : (j : List Entry) (told : List PortUpdate) → TellsPort all steps j told → length (bits_of j) ≡ all →
      TellsPort all steps j (told ++ Spent ∷ [])

-- ---- both

-- a run that ended so had spent its bits
abbrev pub is_spent : End → Bool
is_spent Bits = true
is_spent Rest = false
is_spent Turns = false

-- some order of what the bus told by this journal of a run of so many bits, of a node with this script, and of these
-- acts of the driver leads from power-on to registers. It told that no bits are left just where they are spent
pub record IsOrdered (version all : ℕ) (end : End) (steps : List Step) (j : List Entry) (acts : List TypedAct) :
    Type 0 where
  pub told : List PortUpdate
  pub closed : closed_told told ≡ is_spent end
  pub tells : TellsPort all steps j told
  pub done : List PortAct
  pub same : done_in_order done ≡ done_at_port acts
  pub last : Registers
  pub led : LedBy version told done last
