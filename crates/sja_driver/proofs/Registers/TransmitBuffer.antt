-- What a step leaves of TBS, of a standing abort and of the activation, by what it gives.
use Rattle.std.proofs.Common.{◌≡◌, ◌≢◌, ℕ, Bool, true, false, List, [], ◌∷◌, refl}
use Rattle.std.specs.Prelude.{◌&&◌, not, if◌then◌else◌, Some, None}
use Rattle.can_frame.specs.declared.buffer_view.BufferView.{BufferView}
use Rattle.can_node_rules.specs.declared.request.Request.{Request}
use Rattle.sja_journal.specs.declared.up.Up.{Up}
use Rattle.sja_journal.specs.declared.up.Up.TheVariants.{Start as StartItem, Credit, Send as SendItem, Stop as StopItem}
use Rattle.lemmas.specs.Gathering.{total}
use Rattle.sja_link.specs.World.{is_send}
use Rattle.sja_regs.specs.declared.reg_fault.RegFault.{RegFault}
use Rattle.sja_regs.specs.declared.reg_fault.RegFault.TheVariants.{ActiveOnly, UseTyped, NotInVersion}
use Rattle.sja_regs.specs.declared.reg_fault.RegFault.TheVariants.{ListenOnly, Locked}
use Rattle.sja_regs.specs.declared.registers.Registers.{Registers}
use Rattle.sja_regs.specs.Addresses.{register_at}
use Rattle.sja_regs.specs.Commands.{command_of, requests, command_faults}
use Rattle.sja_regs.specs.Refusals.{first_fault}
use Rattle.sja_regs.specs.Registers.{after_leaving_reset}
use Rattle.sja_regs.specs.Writing.{is_first_version}
use Rattle.sja_steps.specs.declared.step.Step.{Step}
use Rattle.sja_steps.specs.declared.step.Step.TheVariants.{Start, Stop, Window, Release, Read}
use Rattle.sja_steps.specs.declared.step.Step.TheVariants.{Write, Load, Command, Await, Sent, Interrupt, At}
use Rattle.sja_steps.specs.declared.step_answer.StepAnswer.{StepAnswer}
use Rattle.sja_steps.specs.declared.step_answer.StepAnswer.TheVariants.{Done, Released}
use Rattle.sja_driver.specs.Answers.{done_unless}
use Rattle.sja_driver.specs.Carried.{Tells, carried, ported, asks_abort}
use Rattle.sja_driver.specs.TypedActs.{FitsState}
use Rattle.sja_driver.specs.Ports.{send_of}
use Rattle.sja_regs.proofs.Calls.Untouched.{read_leaves, write_leaves}

-- ---- TBS

-- what given items leave of it: a request makes it 0, a stop 1
abbrev pub tbs_by : Bool → List Up → Bool
tbs_by b [] = b
tbs_by b (SendItem request ∷ xs) = false
tbs_by b (StopItem ∷ xs) = true
tbs_by b (StartItem config ∷ xs) = b
tbs_by b (Credit n ∷ xs) = b

start_tbs : (b : Bool) (p : Registers) → (if b then after_leaving_reset p else p).tbs ≡ p.tbs
start_tbs true p = refl
start_tbs false p = refl

command_tbs : (tbs asks : Bool) (request : Request) →
    (tbs && not asks) ≡ tbs_by tbs (send_of (if asks then Some request else None))
command_tbs true true request = refl
command_tbs true false request = refl
command_tbs false true request = refl
command_tbs false false request = refl

pub tbs_step : (p : Registers) (step : Step) (answer : StepAnswer) →
    (ported p step answer).tbs ≡ tbs_by p.tbs (carried p step answer)
tbs_step p Start Done = start_tbs p.mode.rm p
tbs_step p Stop Done = refl
tbs_step p (Command v) Done = command_tbs p.tbs (requests (command_of v)) _
tbs_step p (Write address value) Done = (write_leaves (register_at p.mode.rm address) value p).tbs
tbs_step p (Load m) Done = refl
tbs_step p Release (Released n) = refl
tbs_step p (Read address) answer = (read_leaves (register_at p.mode.rm address) p).tbs
tbs_step p Start other = refl
tbs_step p Stop other = refl
tbs_step p (Command v) other = refl
tbs_step p (Write address value) other = refl
tbs_step p (Load m) other = refl
tbs_step p Release other = refl
tbs_step p Window answer = refl
tbs_step p (Await count) answer = refl
tbs_step p Sent answer = refl
tbs_step p Interrupt answer = refl
tbs_step p (At bits) answer = refl

-- ---- a stop drops a standing abort

no_stop : (asks : Bool) (request : Request) → send_of (if asks then Some request else None) ≢ StopItem ∷ []
no_stop true request e = cc
no_stop false request e = cc

pub stop_drops : (p : Registers) (step : Step) (answer : StepAnswer) → carried p step answer ≡ StopItem ∷ [] →
    (ported p step answer).abort ≡ false
stop_drops p Stop Done e = refl
stop_drops p Start Done e = absurd cc
stop_drops p (Command v) Done e = absurd (no_stop (requests (command_of v)) _ e)
stop_drops p Release (Released n) e = absurd cc
stop_drops p Start other e = absurd cc
stop_drops p Stop other e = absurd cc
stop_drops p (Command v) other e = absurd cc
stop_drops p Release other e = absurd cc
stop_drops p Window answer e = absurd cc
stop_drops p (Read address) answer e = absurd cc
stop_drops p (Write address value) answer e = absurd cc
stop_drops p (Load m) answer e = absurd cc
stop_drops p (Await count) answer e = absurd cc
stop_drops p Sent answer e = absurd cc
stop_drops p Interrupt answer e = absurd cc
stop_drops p (At bits) answer e = absurd cc

-- ---- requests that are accepted

refused_some : (a b c e : Bool) (f g h i m : RegFault) →
    Done ≡ done_unless (first_fault ((a, f) ∷ (b, g) ∷ (c, h) ∷ (e, i) ∷ (true, m) ∷ [])) → ⊥
refused_some true b c e f g h i m is = cc
refused_some false true c e f g h i m is = cc
refused_some false false true e f g h i m is = cc
refused_some false false false true f g h i m is = cc
refused_some false false false false f g h i m is = cc

asks_none : (asks tbs lom a b c : Bool) (f g h i m : RegFault) →
    Done ≡ done_unless (first_fault ((a, f) ∷ (b, g) ∷ (c, h) ∷ (asks && lom, i) ∷ (asks && not tbs, m) ∷ [])) →
    tbs ≡ false → asks ≡ false
asks_none false tbs lom a b c f g h i m is busy = refl
asks_none true true lom a b c f g h i m is busy = absurd cc
asks_none true false lom a b c f g h i m is busy = absurd (refused_some a b c (true && lom) f g h i m is)

none_sent : (b : Bool) (request : Request) → b ≡ false → total is_send (send_of (if b then Some request else None)) ≡ 0
none_sent true request e = absurd cc
none_sent false request e = refl

busy_none : (p : Registers) (v : ℕ) → p.tbs ≡ false →
    Done ≡ done_unless (first_fault (command_faults p (command_of v))) → total is_send (carried p (Command v) Done) ≡ 0
busy_none p v busy h =
    none_sent (requests (command_of v)) _ (asks_none (requests (command_of v)) p.tbs p.mode.lom p.mode.rm
    (command_of v).rrb ((command_of v).srr && is_first_version p) ActiveOnly UseTyped NotInVersion ListenOnly Locked
    h busy)

-- nothing is requested while the transmit buffer isn't released
pub busy_sends_none : (version : ℕ) (p : Registers) (n : ℕ) (s : Step) (r : StepAnswer) (active : Bool)
    (seen : BufferView) →
    FitsState version active n s r → Tells s active p seen r → p.tbs ≡ false → total is_send (carried p s r) ≡ 0
busy_sends_none version p n (Command v) Done true seen fits t busy = busy_none p v busy t
busy_sends_none version p n (Command v) Done false seen fits t busy = absurd cc
busy_sends_none version p n Start Done active seen fits t busy = refl
busy_sends_none version p n Release (Released k) active seen fits t busy = refl
busy_sends_none version p n Stop Done active seen fits t busy = refl
busy_sends_none version p n (Command v) other active seen fits t busy = refl
busy_sends_none version p n Start other active seen fits t busy = refl
busy_sends_none version p n Release other active seen fits t busy = refl
busy_sends_none version p n Stop other active seen fits t busy = refl
busy_sends_none version p n Window r active seen fits t busy = refl
busy_sends_none version p n (Read a) r active seen fits t busy = refl
busy_sends_none version p n (Write a v) r active seen fits t busy = refl
busy_sends_none version p n (Load m) r active seen fits t busy = refl
busy_sends_none version p n (Await k) r active seen fits t busy = refl
busy_sends_none version p n Sent r active seen fits t busy = refl
busy_sends_none version p n Interrupt r active seen fits t busy = refl
busy_sends_none version p n (At bits) r active seen fits t busy = refl

no_send : (asks at : Bool) (request : Request) → (at && not asks) ≡ true →
    send_of (if asks then Some request else None) ≡ []
no_send true true request h = absurd cc
no_send true false request h = absurd cc
no_send false at request h = refl

-- and that command gives nothing at all
pub abort_gives_none : (p : Registers) (s : Step) (r : StepAnswer) → asks_abort s r ≡ true → carried p s r ≡ []
abort_gives_none p (Command v) Done h = no_send (requests (command_of v)) (command_of v).at _ h
abort_gives_none p (Command v) other h = absurd cc
abort_gives_none p Start r h = absurd cc
abort_gives_none p Release r h = absurd cc
abort_gives_none p Stop r h = absurd cc
abort_gives_none p Window r h = absurd cc
abort_gives_none p (Read a) r h = absurd cc
abort_gives_none p (Write a v) r h = absurd cc
abort_gives_none p (Load m) r h = absurd cc
abort_gives_none p (Await k) r h = absurd cc
abort_gives_none p Sent r h = absurd cc
abort_gives_none p Interrupt r h = absurd cc
abort_gives_none p (At bits) r h = absurd cc

-- ---- no request is accepted in reset mode

out_of_reset : (rm : Bool) (rest : List (Bool × RegFault)) →
    Done ≡ done_unless (first_fault ((rm, ActiveOnly) ∷ rest)) → rm ≡ false
out_of_reset true rest h = absurd cc
out_of_reset false rest h = refl

-- and no command at all
pub accepted_out : (p : Registers) (v : ℕ) → Done ≡ done_unless (first_fault (command_faults p (command_of v))) →
    p.mode.rm ≡ false
accepted_out p v h =
    let c = command_of v in
    out_of_reset p.mode.rm
    ((c.rrb, UseTyped) ∷ (c.srr && is_first_version p, NotInVersion) ∷ (requests c && p.mode.lom, ListenOnly)
    ∷ (requests c && not p.tbs, Locked) ∷ []) h

pub reset_sends_none : (version : ℕ) (p : Registers) (n : ℕ) (s : Step) (r : StepAnswer) (active : Bool)
    (seen : BufferView) →
    FitsState version active n s r → Tells s active p seen r → p.mode.rm ≡ true → total is_send (carried p s r) ≡ 0
reset_sends_none version p n (Command v) Done true seen fits t rm = let out = accepted_out p v t in absurd cc
reset_sends_none version p n (Command v) Done false seen fits t rm = absurd cc
reset_sends_none version p n Start Done active seen fits t rm = refl
reset_sends_none version p n Release (Released k) active seen fits t rm = refl
reset_sends_none version p n Stop Done active seen fits t rm = refl
reset_sends_none version p n (Command v) other active seen fits t rm = refl
reset_sends_none version p n Start other active seen fits t rm = refl
reset_sends_none version p n Release other active seen fits t rm = refl
reset_sends_none version p n Stop other active seen fits t rm = refl
reset_sends_none version p n Window r active seen fits t rm = refl
reset_sends_none version p n (Read a) r active seen fits t rm = refl
reset_sends_none version p n (Write a v) r active seen fits t rm = refl
reset_sends_none version p n (Load m) r active seen fits t rm = refl
reset_sends_none version p n (Await k) r active seen fits t rm = refl
reset_sends_none version p n Sent r active seen fits t rm = refl
reset_sends_none version p n Interrupt r active seen fits t rm = refl
reset_sends_none version p n (At bits) r active seen fits t rm = refl
