-- The end of a session (this project's own rule).
use Rattle.sja_log.specs.declared.no_log.NoLog.{NoLog}
use Rattle.sja_log.specs.declared.no_log.NoLog.TheVariants.{Endless as NoEnd, Memory as NoMemory}
use Rattle.sja_session.specs.declared.no_plan.NoPlan.{NoPlan}
use Rattle.sja_session.specs.declared.no_plan.NoPlan.TheVariants.{Endless, Memory}
use Rattle.sja_session.specs.Sessions.{SessionValue, HasEnd, IsEndless}

-- why it gives neither plan nor log: it is without an end; or else memory was refused
abbrev pub IsNoPlan : SessionValue → NoPlan → Type 0
IsNoPlan s Endless = IsEndless s
IsNoPlan s Memory = HasEnd s

-- by why there is no log of its run
abbrev pub no_plan_for : NoLog → NoPlan
no_plan_for NoEnd = Endless
no_plan_for NoMemory = Memory
