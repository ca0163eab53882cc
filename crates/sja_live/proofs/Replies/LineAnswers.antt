-- What the first line says, and what each further one is answered.
use Rattle.std.proofs.Common.{◌≡◌, ℕ, Bool, true, false, List, [], length, refl, sym, ap, ◌∙◌, subst, inl, inr, arith}
use Rattle.std.specs.Prelude.{Option, Some, None, Result, Ok, Err, String, string_bytes}
use Rattle.std.specs.Global.{Global}
use Rattle.std.proofs.lemmas.Bool.{le-ltb, lt-ltb}
use Rattle.std.proofs.lemmas.Str.{IsUtf8-nil}
use Rattle.sja_driver.specs.StepRuns.{StepRun}
use Rattle.sja_plan.specs.Limits.{most_bits}
use Rattle.sja_session.specs.Sessions.{SessionValue, HasEnd, IsEndless}
use Rattle.sja_live.proofs.Replies.Asked.{live_after}
use Rattle.sja_live.proofs.Replies.Writable.{writable}
use Rattle.sja_live.specs.Inside.Standing.{IsAnswered, IsLiveAt}
use Rattle.sja_live.specs.Commands.{AreCommandWords, lacks_end}
use Rattle.sja_live.specs.Inside.LiveProgress.{FirstIs, FirstSays, IsAnswerOf, IsNext, IsNextAnswer}
use Rattle.sja_live.specs.Inside.Reading.{IsLine, TakesLine}
use Rattle.sja_live.specs.Lines.{behind_line, first_line, IsReadable}
use Rattle.sja_live.specs.Mistakes.{AreMistaken}
use Rattle.sja_live.specs.Opening.{Opens, IsLiveLine, IsOpeningFault}
use Rattle.sja_live.specs.Talking.{EndsLiveSession}
use Rattle.sja_live.specs.Talking.Replies.{done, mistaken, no_text, long}
use Rattle.sja_live.specs.declared.line_fault.LineFault.{LineFault}
use Rattle.sja_live.specs.declared.line_fault.LineFault.TheVariants.{Text as TextFault}
use Rattle.sja_live.specs.declared.live_answer.LiveAnswer.{LiveAnswer}
use Rattle.sja_live.specs.declared.live_answer.LiveAnswer.TheVariants.{Mistaken, Long as LongAnswer}
use Rattle.sja_live.specs.declared.live_command.LiveCommand.{LiveCommand}
use Rattle.sja_live.specs.declared.live_command.LiveCommand.TheVariants.{End}
use Rattle.sja_live.specs.declared.next_line.Line.{Line}
use Rattle.sja_live.specs.declared.next_line.Line.TheVariants.{Text as LineOf, Long, NoText, Over}
use Rattle.sja_live.specs.declared.opening.Opening.{Opening}
use Rattle.sja_live.specs.declared.opening_fault.OpeningFault.{OpeningFault}
use Rattle.sja_live.specs.declared.opening_fault.OpeningFault.TheVariants.{Long as LongLine, Text as NoLineText}
use Rattle.sja_live.specs.declared.opening_fault.OpeningFault.TheVariants.{Command as NoLive}
use Rattle.sja_plan_reading.specs.Words.{Text, words}

-- ---- the first line

first_by : (before after : Option Text) (line : Line) (said : Result Opening OpeningFault) →
    TakesLine before after line → ((input left : Text) → IsLine input left line → FirstIs input left said) →
    FirstSays before after said
first_by None after line said t by = tt
first_by (Some input) None line said t by = absurd t
first_by (Some input) (Some left) line said t by = by input left t

pub first_opens : (before after : Option Text) (line : String Global) (opening : Opening) →
    TakesLine before after (LineOf line) → IsReadable (string_bytes line) → Opens (string_bytes line) opening →
    FirstSays before after (Ok opening)
first_opens before after line opening t readable opens =
    first_by before after (LineOf line) (Ok opening) t (λ input left is.
    (is.0, subst IsReadable is.1 readable, subst (λ l. Opens l opening) is.1 opens, is.2))

pub first_fails : (before after : Option Text) (line : String Global) (fault : OpeningFault) →
    TakesLine before after (LineOf line) → IsOpeningFault (string_bytes line) fault →
    FirstSays before after (Err fault)
first_fails before after line fault t fails =
    first_by before after (LineOf line) (Err fault) t (λ input left is.
    (subst (λ l. IsOpeningFault l fault) is.1 fails, is.2))

pub first_long : (before after : Option Text) → TakesLine before after Long → FirstSays before after (Err LongLine)
first_long before after t = first_by before after Long (Err LongLine) t (λ input left is. (is.1, is.2))

pub first_no_text : (before after : Option Text) → TakesLine before after NoText →
    FirstSays before after (Err NoLineText)
first_no_text before after t =
    first_by before after NoText (Err NoLineText) t (λ input left is. ((is.1, is.2), is.3))

-- an empty line is none that opens a session
no_live : (v b n : Text) → ¬ IsLiveLine (words []) v b n
no_live v b n e = absurd cc

pub first_over : (before after : Option Text) → TakesLine before after Over → FirstSays before after (Err NoLive)
first_over before after t =
    first_by before after Over (Err NoLive) t (λ input left is.
    let e = sym (ap first_line is.0) in
    (subst (λ l. IsOpeningFault l NoLive) e ((omega arith, IsUtf8-nil), no_live), is.1 ∙ sym (ap behind_line is.0)))

-- ---- each further one

next_by : (before after : Option Text) (line : Line) (was now : SessionValue) (step_runs : List (List StepRun))
    (next : Option LiveAnswer) → TakesLine before after line →
    ((input left : Text) → IsLine input left line → IsNext input left was now step_runs next) →
    IsNextAnswer before after was now step_runs next
next_by None after line was now step_runs next t by = tt
next_by (Some input) None line was now step_runs next t by = absurd t
next_by (Some input) (Some left) line was now step_runs next t by = by input left t

pub next_over : (before after : Option Text) (s : SessionValue) (step_runs : List (List StepRun)) →
    TakesLine before after Over → IsNextAnswer before after s s step_runs None
next_over before after s step_runs t =
    next_by before after Over s s step_runs None t (λ input left is.
    (refl, inl is.0, is.1 ∙ sym (ap behind_line is.0)))

pub next_long : (before after : Option Text) (s : SessionValue) (step_runs : List (List StepRun)) →
    IsLiveAt s step_runs →
    TakesLine before after Long → IsNextAnswer before after s s step_runs (Some LongAnswer)
next_long before after s step_runs at t =
    next_by before after Long s s step_runs (Some LongAnswer) t (λ input left is.
    (is.0, (step_runs, long is.1 refl, at), is.2))

pub next_no_text : (before after : Option Text) (s : SessionValue) (step_runs : List (List StepRun)) →
    IsLiveAt s step_runs → TakesLine before after NoText →
    IsNextAnswer before after s s step_runs (Some (Mistaken TextFault))
next_no_text before after s step_runs at t =
    next_by before after NoText s s step_runs (Some (Mistaken TextFault)) t (λ input left is.
    (is.0, (step_runs, no_text is.1 is.2 refl, at), is.3))

pub next_told : (before after : Option Text) (line : String Global) (was now : SessionValue)
    (step_runs : List (List StepRun)) (next : Option LiveAnswer) → TakesLine before after (LineOf line) →
    IsAnswerOf was now step_runs (string_bytes line) next → IsNextAnswer before after was now step_runs next
next_told before after line was now step_runs (Some answer) t a =
    next_by before after (LineOf line) was now step_runs (Some answer) t (λ input left is.
    (is.0, subst (λ l. IsAnswerOf was now step_runs l (Some answer)) is.1 a, is.2))
next_told before after line was now step_runs None t a =
    next_by before after (LineOf line) was now step_runs None t (λ input left is.
    (a.0, inr (is.0, subst (EndsLiveSession was) is.1 a.1), is.2))

-- ---- by the session's own version, end and nodes

-- it is without an end or with one
lacks : (s : SessionValue) (b : Bool) → (b ≡ true → IsEndless s) → (b ≡ false → HasEnd s) → b ≡ lacks_end s.plan
lacks s true lack have = sym (lt-ltb (most_bits s.plan.version) s.plan.bits (lack refl))
lacks s false lack have = sym (le-ltb (most_bits s.plan.version) s.plan.bits (have refl))

-- what holds by what it tells of itself
own : (P : ℕ → Bool → ℕ → Type 0) (s : SessionValue) (version : ℕ) (endless : Bool) (nodes : ℕ) →
    version ≡ s.plan.version → (endless ≡ true → IsEndless s) → (endless ≡ false → HasEnd s) →
    nodes ≡ length s.plan.nodes → P version endless nodes →
    P s.plan.version (lacks_end s.plan) (length s.plan.nodes)
own P s version endless nodes v lack have n p =
    subst (P s.plan.version (lacks_end s.plan)) n
    (subst (λ e. P s.plan.version e nodes) (lacks s endless lack have) (subst (λ k. P k endless nodes) v p))

pub answers_end : (s : SessionValue) (version : ℕ) (endless : Bool) (nodes : ℕ) (step_runs : List (List StepRun))
    (line : Text) → version ≡ s.plan.version → (endless ≡ true → IsEndless s) → (endless ≡ false → HasEnd s) →
    nodes ≡ length s.plan.nodes → IsReadable line → AreCommandWords version endless nodes (words line) End →
    IsAnswerOf s s step_runs line None
answers_end s version endless nodes step_runs line v lack have n readable asks = (
  refl,
  (readable, own (λ k e m. AreCommandWords k e m (words line) End) s version endless nodes v lack have n asks),
)

pub answers_done : (was now : SessionValue) (version : ℕ) (endless : Bool) (nodes : ℕ)
    (step_runs : List (List StepRun)) (line : Text) (command : LiveCommand) (answer : LiveAnswer) →
    version ≡ was.plan.version → (endless ≡ true → IsEndless was) → (endless ≡ false → HasEnd was) →
    nodes ≡ length was.plan.nodes → IsReadable line → AreCommandWords version endless nodes (words line) command →
    IsAnswered was now command answer → IsLiveAt was step_runs → IsAnswerOf was now step_runs line (Some answer)
answers_done was now version endless nodes step_runs line command answer v lack have n readable asks answered at =
    let a = answered step_runs at in
    let asked =
    own (λ k e m. AreCommandWords k e m (words line) command) was version endless nodes v lack have n asks in
    (a.0, done readable asked a.1, a.2)

pub answers_mistake : (s : SessionValue) (version : ℕ) (endless : Bool) (nodes : ℕ) (step_runs : List (List StepRun))
    (line : Text) (fault : LineFault) → version ≡ s.plan.version → (endless ≡ true → IsEndless s) →
    (endless ≡ false → HasEnd s) → nodes ≡ length s.plan.nodes → IsReadable line →
    AreMistaken version endless nodes (words line) fault → IsLiveAt s step_runs →
    IsAnswerOf s s step_runs line (Some (Mistaken fault))
answers_mistake s version endless nodes step_runs line fault v lack have n readable wrong at =
    let is = own (λ k e m. AreMistaken k e m (words line) fault) s version endless nodes v lack have n wrong in
    (step_runs, mistaken readable is refl, at)

-- what the first line says
pub ruleset first_lines = (first_opens, first_fails, first_long, first_no_text, first_over)

-- what each further line is answered, and a line that is a text
pub ruleset next_lines = (next_over, next_long, next_no_text, next_told)

pub ruleset line_answers = (writable, live_after, answers_end, answers_done, answers_mistake)
