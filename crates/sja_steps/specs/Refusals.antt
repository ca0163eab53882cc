-- The names of refusals, as they are printed (this project's own rule).
use Rattle.std.specs.Prelude.{ℕ, List, codes}
use Rattle.sja_steps.specs.declared.refusal.Refusal.{Refusal}
use Rattle.sja_steps.specs.declared.refusal.Refusal.TheVariants.{NoActivationLeft, Stopped, Empty, WrongState}
use Rattle.sja_steps.specs.declared.refusal.Refusal.TheVariants.{Closed, NoRegister, ReadOnly, ResetOnly, Locked}
use Rattle.sja_steps.specs.declared.refusal.Refusal.TheVariants.{UseTyped, NotInVersion, ActiveOnly, ListenOnly}

-- each refusal's name
abbrev pub refusal_name : Refusal → List ℕ
refusal_name NoActivationLeft = codes "NoActivationLeft"
refusal_name Stopped = codes "Stopped"
refusal_name Empty = codes "Empty"
refusal_name WrongState = codes "WrongState"
refusal_name Closed = codes "Closed"
refusal_name NoRegister = codes "NoRegister"
refusal_name ReadOnly = codes "ReadOnly"
refusal_name ResetOnly = codes "ResetOnly"
refusal_name Locked = codes "Locked"
refusal_name UseTyped = codes "UseTyped"
refusal_name NotInVersion = codes "NotInVersion"
refusal_name ActiveOnly = codes "ActiveOnly"
refusal_name ListenOnly = codes "ListenOnly"
