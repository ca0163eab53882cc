-- What `live` does (this project's own rule): a talk over the input and the output, and where that breaks off a line on
-- the error output.
use Rattle.std.specs.Prelude.{◌≡◌, ◌⊎◌, ℕ, List, Option}
use Rattle.std.specs.Io.KnownBytes.{Appends, Keeps}
use Rattle.sja_live.specs.Talking.{IsBrokenOff, IsTold, Speaks}
use Rattle.sja_live.specs.declared.live_session_fault.LiveSessionFault.{LiveSessionFault}
use Rattle.sja_live.specs.declared.live_session_fault.LiveSessionFault.TheVariants.{Memory, Read, Write}
use Rattle.sja_live.specs.declared.live_session_end.LiveSessionEnd.{LiveSessionEnd}
use Rattle.sja_live.specs.declared.live_session_end.LiveSessionEnd.TheVariants.{Reported, Unopened}
use Rattle.text_codec.specs.Refusal.{refusal_line}
use Rattle.text_codec.specs.declared.command_refusal.CommandRefusal.{CommandRefusal}
use Rattle.text_codec.specs.declared.command_refusal.CommandRefusal.TheVariants as refusal

-- the status of a talk: 0 where it ended with a report, 1 where its first line opened no session
abbrev pub talk_status : LiveSessionEnd → ℕ
talk_status Reported = 0
talk_status Unopened = 1

-- the refusal that says why a talk broke off; where a write failed there is none
abbrev pub SaysWhy : CommandRefusal → LiveSessionFault → Type 0
SaysWhy r Memory = r ≡ refusal.OutOfMemory
SaysWhy r Read = r ≡ refusal.Read
SaysWhy r Write = ⊥

-- the exit status, and what the input, the output and the error output held before and hold after. Either a whole talk
-- is on the output; or what was answered until it broke off, and the refusal of memory or of a read, which of them it
-- was, is on the error output
abbrev pub ShowsLiveSession :
    ℕ → Option (List ℕ) → Option (List ℕ) → Option (List ℕ) → Option (List ℕ) → Option (List ℕ) → Option (List ℕ)
    → Type 0
ShowsLiveSession status in_old in_new out_old out_new err_old err_new =
    ((talked : LiveSessionEnd) × (status ≡ talk_status talked) × Speaks in_old in_new out_old out_new (IsTold talked)
    × Keeps err_old err_new)
    ⊎ ((fault : LiveSessionFault) × (r : CommandRefusal) × SaysWhy r fault × (status ≡ 1)
    × Speaks in_old in_new out_old out_new (IsBrokenOff fault) × Appends err_old err_new (refusal_line r))
