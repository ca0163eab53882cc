-- What each function of C answers of a session that lies at a handle, and what it makes of that (this project's own
-- rule): it is done as a call of `crates/sja_calls` is, or it isn't, and then the session is as it was, but that a
-- report has ended it.
use denote.RawPtr.{Ptr, null_ptr}
use Rattle.std.specs.Prelude.{◌≡◌, ◌≢◌, ◌⊎◌, ◌≤◌, ◌==◌, ◌+◌, ◌*◌, ℕ, Option, List}
use Rattle.sja_c.specs.Answers.{Answers, answer, number_of, refusal}
use Rattle.sja_c.specs.declared.answer.SjaAnswer.{SjaAnswer}
use Rattle.sja_calls.specs.Beginnings.{IsNew, IsNoSession}
use Rattle.sja_calls.specs.Calls.{IsRefusal, ReadsOf, IsReadFault, WritesOf, IsWriteFault, RunsOf, IsRunFault}
use Rattle.sja_calls.specs.Calls.{LooksOf, IsLookFault, LinesOf, IsLinesFault}
use Rattle.sja_calls.specs.Calls.{StrikesOf, IsStrikeFault, IsNowOf, IsNowFault}
use Rattle.sja_calls.specs.CallPlaces.{IsAtPlaceOf, IsPlaceFault, ComesToOf, IsToFault}
use Rattle.sja_calls.specs.Texts.{Ends, PutsReport, IsReportFault, PutsPlan, IsNoPlanText, PutsRun, IsNoRun}
use Rattle.sja_calls.specs.declared.call_fault.CallFault.{CallFault}
use Rattle.sja_calls.specs.declared.call_fault.CallFault.TheVariants.{Memory}
use Rattle.sja_calls.specs.declared.handle.Handle.{Handle}
use Rattle.sja_calls.specs.declared.state.State.TheVariants.{Lost}

-- ---- the beginning

-- there is a handle; or memory was refused, and it is null
abbrev pub AnswersMake : Ptr → SjaAnswer → Type 0
AnswersMake at r = ((at ≢ null_ptr) × (r ≡ answer 0 0)) ⊎ ((at ≡ null_ptr) × (r ≡ refusal Memory))

-- a session to which nothing happened stands there, in place of what there was; or it doesn't, for this reason
abbrev pub AnswersBegin : Handle → Handle → ℕ → ℕ → ℕ → SjaAnswer → Type 0
AnswersBegin was now version bits nodes =
    Answers (λ number. (number ≡ 0) × IsNew version bits nodes now.state)
    (λ fault. IsNoSession version bits nodes fault × (now ≡ was))

-- ---- calls of a session, as it was and as it is after

-- a byte was read, and is the number
abbrev pub AnswersRead : Handle → Handle → ℕ → ℕ → SjaAnswer → Type 0
AnswersRead was now node address =
    Answers (λ number. ReadsOf was.state now.state node address number)
    (λ fault. IsRefusal was.state (IsReadFault node address) fault × (now ≡ was))

abbrev pub AnswersWrite : Handle → Handle → ℕ → ℕ → ℕ → SjaAnswer → Type 0
AnswersWrite was now node address value =
    Answers (λ number. (number ≡ 0) × WritesOf was.state now.state node address value)
    (λ fault. IsRefusal was.state (IsWriteFault node address value) fault × (now ≡ was))

-- bits were run, as many as the number says, up to the rise of the line of the node that is told, where one is
abbrev pub AnswersBits : Handle → Handle → ℕ → ℕ → SjaAnswer → Type 0
AnswersBits was now count watch r =
    ((rose : Option ℕ) × (r ≡ record (answer 0 r.value) { rose = number_of rose })
    × RunsOf was.state now.state count watch r.value rose)
    ⊎ ((fault : CallFault) × (IsRefusal was.state (IsRunFault count) fault × (now ≡ was)) × (r ≡ refusal fault))

-- the number is 1 where the line is active, else 0
abbrev pub AnswersIrq : Handle → Handle → ℕ → SjaAnswer → Type 0
AnswersIrq was now node =
    Answers (λ number. (number ≤ 1) × LooksOf was.state now.state node (number == 1))
    (λ fault. IsRefusal was.state (IsLookFault node) fault × (now ≡ was))

-- bit K of the number is 1 where node K's line is active, and no other bit is
abbrev pub AnswersLines : Handle → Handle → SjaAnswer → Type 0
AnswersLines was now =
    Answers (LinesOf was.state now.state) (λ fault. IsRefusal was.state IsLinesFault fault × (now ≡ was))

-- the bit of these halves
abbrev pub whole_bit : ℕ → ℕ → ℕ
whole_bit low high = high * 4294967296 + low

abbrev pub AnswersStrike : Handle → Handle → ℕ → ℕ → SjaAnswer → Type 0
AnswersStrike was now node bit =
    Answers (λ number. (number ≡ 0) × StrikesOf was.state now.state node bit)
    (λ fault. IsRefusal was.state (IsStrikeFault node bit) fault × (now ≡ was))

-- the node is at the place of the number, or at none where it is 0, and nothing changes
abbrev pub AnswersPlace : Handle → Handle → ℕ → SjaAnswer → Type 0
AnswersPlace was now node r =
    Answers (IsAtPlaceOf was.state node) (λ fault. IsRefusal was.state (IsPlaceFault node) fault) r × (now ≡ was)

-- the number is 1 where the node came to the place, else 0
abbrev pub AnswersTo : Handle → Handle → ℕ → ℕ → ℕ → SjaAnswer → Type 0
AnswersTo was now node place limit =
    Answers (λ number. (number ≤ 1) × ComesToOf was.state now.state node place limit (number == 1))
    (λ fault. IsRefusal was.state (IsToFault node place limit) fault × (now ≡ was))

-- so many bits were run before, at which moment the messages of each driver are accounted for, and nothing changes
abbrev pub AnswersNow : Handle → Handle → SjaAnswer → Type 0
AnswersNow was now r =
    Answers (λ number. IsNowOf was.state number) (λ fault. IsRefusal was.state IsNowFault fault) r × (now ≡ was)

-- there is no session any more, as after `sja_make`
abbrev pub AnswersLetGo : Handle → SjaAnswer → Type 0
AnswersLetGo now r = (r ≡ answer 0 0) × (now.state ≡ Lost)

-- ---- calls that put a text into a room, as it was and as it is after; where none is put the room stays

abbrev pub AnswersReport : Handle → Handle → List ℕ → List ℕ → SjaAnswer → Type 0
AnswersReport was now room text r =
    Ends was.state now.state
    × Answers (λ number. PutsReport now.state room text number)
    (λ fault. IsReportFault now.state room fault × (text ≡ room)) r

abbrev pub AnswersPlan : Handle → Handle → List ℕ → List ℕ → SjaAnswer → Type 0
AnswersPlan was now room text r =
    Answers (λ number. PutsPlan was.state room text number)
    (λ fault. IsNoPlanText was.state room fault × (text ≡ room)) r
    × (now ≡ was)

abbrev pub AnswersRun : List ℕ → List ℕ → List ℕ → SjaAnswer → Type 0
AnswersRun plan room text =
    Answers (λ number. PutsRun plan room text number) (λ fault. IsNoRun plan room fault × (text ≡ room))
