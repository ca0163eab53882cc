-- What an act gives: nothing, or a start, a credit, a request or a stop.
use Rattle.std.proofs.Common.{◌≡◌, ℕ, ◌+◌, ◌<◌, ◌≤◌, Bool, true, false, List, [], ◌∷◌, refl, arith}
use Rattle.std.specs.Prelude.{◌^◌, nat_lt, if◌then◌else◌}
use Rattle.std.proofs.lemmas.Bool.{ltb-true}
use Rattle.can_node_rules.specs.declared.config.Config.{Config}
use Rattle.can_node_rules.specs.declared.request.Request.{Request}
use Rattle.sja_journal.specs.Sizes.{most_activations}
use Rattle.sja_journal.specs.declared.up.Up.{Up}
use Rattle.sja_journal.specs.declared.up.Up.TheVariants.{Start as StartItem, Credit, Send as SendItem, Stop as StopItem}
use Rattle.sja_regs.specs.Commands.{command_of, requests}
use Rattle.sja_steps.specs.declared.step.Step.{Step}
use Rattle.sja_steps.specs.declared.step.Step.TheVariants.{Start, Stop, Window, Release, Read, Write, Load, Command}
use Rattle.sja_steps.specs.declared.step.Step.TheVariants.{Await, Sent, Interrupt, At}
use Rattle.sja_steps.specs.declared.refusal.Refusal.TheVariants.{NoActivationLeft}
use Rattle.sja_steps.specs.declared.step_answer.StepAnswer.{StepAnswer}
use Rattle.sja_steps.specs.declared.step_answer.StepAnswer.TheVariants.{Done as DoneAnswer, NoMessage, Shown, Released}
use Rattle.sja_steps.specs.declared.step_answer.StepAnswer.TheVariants.{Value, Refused, Ignored}
use Rattle.sja_driver.specs.TypedActs.{opened, active_after, FitsState, GivesSend, Gives}

-- from a driver that is active or isn't, and has opened so many activations
pub data Kind (active : Bool) (n : ℕ) (s : Step) (r : StepAnswer) (gave : List Up) : Type 0 where
  quiet : gave ≡ [] → opened s r ≡ 0 → active_after active s r ≡ active → Kind active n s r gave
  starts : active ≡ false → n < 2 ^ 56 → (config : Config) → gave ≡ StartItem config ∷ [] → opened s r ≡ 1 →
      active_after active s r ≡ true → Kind active n s r gave
  credits : active ≡ true → (k : ℕ) → gave ≡ Credit k ∷ [] → opened s r ≡ 0 → active_after active s r ≡ active →
      Kind active n s r gave
  sends : active ≡ true → (request : Request) → gave ≡ SendItem request ∷ [] → opened s r ≡ 0 →
      active_after active s r ≡ active → Kind active n s r gave
  stops : active ≡ true → gave ≡ StopItem ∷ [] → opened s r ≡ 0 → active_after active s r ≡ false →
      Kind active n s r gave

is_left : (n most : ℕ) (b : Bool) → nat_lt n most ≡ b →
    DoneAnswer ≡ (if b then DoneAnswer else Refused NoActivationLeft) → n < most
is_left n most true less e = ltb-true n most less
is_left n most false less e = absurd cc

-- no version has more
most_few : (version : ℕ) → most_activations version ≤ 2 ^ 56
most_few version = by (nat_lt version 3) (nat_lt version 4)
  where
    most_itself : (n : ℕ) → n ≤ n
    most_itself n = omega arith

    at_most : (n : ℕ) → n ≤ 64 → n ≤ 2 ^ 56
    at_most n few = omega (arith, few)

    by : (b c : Bool) → (if b then 8 else if c then 64 else 2 ^ 56) ≤ 2 ^ 56
    by true c = at_most 8 (omega arith)
    by false true = at_most 64 (omega arith)
    by false false = most_itself (2 ^ 56)

below : (n most room : ℕ) → n < most → most ≤ room → n < room
below n most room few less = omega (arith, few, less)

few_left : (version n : ℕ) → FitsState version false n Start DoneAnswer → n < 2 ^ 56
few_left version n fits =
    below n (most_activations version) (2 ^ 56)
    (is_left n (most_activations version) (nat_lt n (most_activations version)) refl fits) (most_few version)

no_more : (n room : ℕ) → n ≤ room → n + 0 ≤ room
no_more n room few = omega (arith, few)

one_more : (n room : ℕ) → n < room → n + 1 ≤ room
one_more n room few = omega (arith, few)

-- an accepted start is one of those that the version has
pub starts_few : (version room : ℕ) (active : Bool) (n : ℕ) (s : Step) (r : StepAnswer) →
    FitsState version active n s r → n ≤ room → most_activations version ≤ room → n + opened s r ≤ room
starts_few version room true n Start DoneAnswer fits few most = absurd cc
starts_few version room false n Start DoneAnswer fits few most =
    one_more n room (below n (most_activations version) room
    (is_left n (most_activations version) (nat_lt n (most_activations version)) refl fits) most)
starts_few version room active n Start other fits few most = no_more n room few
starts_few version room active n Stop r fits few most = no_more n room few
starts_few version room active n Window r fits few most = no_more n room few
starts_few version room active n Release r fits few most = no_more n room few
starts_few version room active n (Read address) r fits few most = no_more n room few
starts_few version room active n (Write address value) r fits few most = no_more n room few
starts_few version room active n (Load m) r fits few most = no_more n room few
starts_few version room active n (Command value) r fits few most = no_more n room few
starts_few version room active n (Await count) r fits few most = no_more n room few
starts_few version room active n Sent r fits few most = no_more n room few
starts_few version room active n Interrupt r fits few most = no_more n room few
starts_few version room active n (At bits) r fits few most = no_more n room few

pub kind_of : (version : ℕ) (active : Bool) (n : ℕ) (s : Step) (r : StepAnswer) (gave : List Up) →
    FitsState version active n s r →
    Gives s r gave → Kind active n s r gave
kind_of version true n Start DoneAnswer gave fits g = absurd cc
kind_of version false n Start DoneAnswer gave fits g =
    starts refl (few_left version n fits) g.0 g.1 refl refl
kind_of version active n Start NoMessage gave fits g = quiet g refl refl
kind_of version active n Start (Shown m) gave fits g = quiet g refl refl
kind_of version active n Start (Released k) gave fits g = quiet g refl refl
kind_of version active n Start (Value k) gave fits g = quiet g refl refl
kind_of version active n Start (Refused k) gave fits g = quiet g refl refl
kind_of version active n Start (Ignored cause) gave fits g = quiet g refl refl
kind_of version true n Stop DoneAnswer gave fits g = stops refl g refl refl
kind_of version false n Stop DoneAnswer gave fits g = absurd cc
kind_of version active n Stop NoMessage gave fits g = quiet g refl refl
kind_of version active n Stop (Shown m) gave fits g = quiet g refl refl
kind_of version active n Stop (Released k) gave fits g = quiet g refl refl
kind_of version active n Stop (Value k) gave fits g = quiet g refl refl
kind_of version active n Stop (Refused k) gave fits g = quiet g refl refl
kind_of version active n Stop (Ignored cause) gave fits g = quiet g refl refl
kind_of version true n Release (Released k) gave fits g = credits refl k g refl refl
kind_of version false n Release (Released k) gave fits g = absurd cc
kind_of version active n Release DoneAnswer gave fits g = quiet g refl refl
kind_of version active n Release NoMessage gave fits g = quiet g refl refl
kind_of version active n Release (Shown m) gave fits g = quiet g refl refl
kind_of version active n Release (Value k) gave fits g = quiet g refl refl
kind_of version active n Release (Refused k) gave fits g = quiet g refl refl
kind_of version active n Release (Ignored cause) gave fits g = quiet g refl refl
kind_of version true n (Command v) DoneAnswer gave fits g = asked (requests (command_of v)) g
  where
    asked : (b : Bool) → GivesSend b gave → Kind true n (Command v) DoneAnswer gave
    asked true h = sends refl h.0 h.1 refl refl
    asked false h = quiet h refl refl
kind_of version false n (Command v) DoneAnswer gave fits g = absurd cc
kind_of version active n (Command v) NoMessage gave fits g = quiet g refl refl
kind_of version active n (Command v) (Shown m) gave fits g = quiet g refl refl
kind_of version active n (Command v) (Released k) gave fits g = quiet g refl refl
kind_of version active n (Command v) (Value k) gave fits g = quiet g refl refl
kind_of version active n (Command v) (Refused k) gave fits g = quiet g refl refl
kind_of version active n (Command v) (Ignored cause) gave fits g = quiet g refl refl
kind_of version active n Window r gave fits g = quiet g refl refl
kind_of version active n (Read x) r gave fits g = quiet g refl refl
kind_of version active n (Write x y) r gave fits g = quiet g refl refl
kind_of version active n (Load m) r gave fits g = quiet g refl refl
kind_of version active n (Await k) r gave fits g = quiet g refl refl
kind_of version active n Sent r gave fits g = quiet g refl refl
kind_of version active n Interrupt r gave fits g = quiet g refl refl
kind_of version active n (At bits) r gave fits g = quiet g refl refl

-- a driver was in reset where it opened an activation
pub opened_from : (active : Bool) (n : ℕ) (s : Step) (r : StepAnswer) (gave : List Up) → Kind active n s r gave →
    opened s r ≡ 1 → (active ≡ false) × (n < 2 ^ 56)
opened_from active n s r gave (quiet none o same) one = absurd (omega (arith, o, one))
opened_from active n s r gave (starts was few config is o same) one = (was, few)
opened_from active n s r gave (credits was k is o same) one = absurd (omega (arith, o, one))
opened_from active n s r gave (sends was request is o same) one = absurd (omega (arith, o, one))
opened_from active n s r gave (stops was is o same) one = absurd (omega (arith, o, one))
