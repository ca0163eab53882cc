-- A talk that breaks off: how far it was read, and what was answered.
use Rattle.std.proofs.Common.{◌≡◌, ℕ, List, [], ◌++◌, refl, sym, ap, ◌∙◌, subst, inl, inr}
use Rattle.std.specs.Prelude.{Option, Some, None, Ok, String}
use Rattle.std.specs.Global.{Global}
use Rattle.std.specs.Io.KnownBytes.{Keeps}
use Rattle.std.proofs.KnownBytes.{Keeps-refl}
use Rattle.std.proofs.lemmas.List.{append-nil}
use Rattle.sja_driver.specs.StepRuns.{StepRun}
use Rattle.sja_session.specs.Sessions.{SessionValue}
use Rattle.sja_live.specs.Inside.Standing.{IsLiveAt}
use Rattle.sja_live.specs.Inside.LiveProgress.{FirstSays, Goes, IsNext, IsNextAnswer}
use Rattle.sja_live.specs.Inside.Reading.{HasRead, IsWithin, LeavesLine, TakesLine}
use Rattle.sja_live.specs.Lines.{behind_line, HasNoFeed}
use Rattle.sja_live.specs.Talking.{IsBrokenOff, Speaks}
use Rattle.sja_live.specs.declared.live_answer.LiveAnswer.{LiveAnswer}
use Rattle.sja_live.specs.declared.next_line.Line.TheVariants.{Text as LineOf}
use Rattle.sja_live.specs.declared.opening.Opening.{Opening}
use Rattle.sja_live.specs.declared.live_session_fault.LiveSessionFault.{LiveSessionFault}
use Rattle.sja_live.specs.declared.live_session_fault.LiveSessionFault.TheVariants.{Memory, Read}
use Rattle.sja_plan_reading.specs.Words.{Text}

-- ---- a line

begun_by : (before mid after : Option Text) (front : Text) → HasNoFeed front → HasRead before mid front →
    Keeps mid after → LeavesLine before after Read
begun_by None mid after front plain read kept = tt
begun_by (Some input) None after front plain read kept = absurd read
begun_by (Some input) (Some rest) None front plain read kept = absurd kept
begun_by (Some input) (Some rest) (Some left) front plain read kept =
    (front, plain, read ∙ ap (λ l. front ++ l) (sym kept))

-- a read failed behind some bytes of a line
pub line_begun : (before mid after : Option Text) (kept : Text) (count : ℕ) (fault : LiveSessionFault) →
    IsWithin before mid kept count → fault ≡ Read → Keeps mid after → LeavesLine before after fault
line_begun before mid after kept count fault w read same =
    subst (LeavesLine before after) (sym read) (begun_by before mid after w.front w.plain w.read same)

-- no more was read
pub line_stopped : (before after : Option Text) (kept : Text) (count : ℕ) → IsWithin before after kept count →
    LeavesLine before after Read
line_stopped before after kept count w =
    begun_by before after after w.front w.plain w.read (Keeps-refl after)

-- memory was refused, and nothing was read
pub line_unread : (before : Option Text) (fault : LiveSessionFault) → fault ≡ Memory → LeavesLine before before fault
line_unread before fault memory = subst (LeavesLine before before) (sym memory) (by before)
  where
    by : (before : Option Text) → LeavesLine before before Memory
    by None = tt
    by (Some input) = inl ([], tt, refl)

-- memory was refused for the answer of a line
pub line_taken : (before after : Option Text) (line : String Global) (fault : LiveSessionFault) →
    TakesLine before after (LineOf line) → fault ≡ Memory → LeavesLine before after fault
line_taken before after line fault takes memory = subst (LeavesLine before after) (sym memory) (by before after takes)
  where
    by : (before after : Option Text) → TakesLine before after (LineOf line) → LeavesLine before after Memory
    by None after takes = tt
    by (Some input) None takes = absurd takes
    by (Some input) (Some left) takes = inr takes.2

pub ruleset lines_left = (line_begun, line_stopped, line_unread)

-- ---- before there is a session

pub talk_silent : (input left old new : Option Text) (fault : LiveSessionFault) → LeavesLine input left fault →
    new ≡ old →
    Speaks input left old new (IsBrokenOff fault)
talk_silent None left old new fault leaves same = tt
talk_silent (Some input) left None new fault leaves same = tt
talk_silent (Some input) None (Some old) new fault leaves same = absurd leaves
talk_silent (Some input) (Some left) (Some old) new fault leaves same =
    subst (λ n. Speaks (Some input) (Some left) (Some old) n (IsBrokenOff fault)) (sym same)
    ([], sym (append-nil old), inl (refl, leaves))

-- memory was refused for the session that the first line opens
pub talk_unopened : (input left old new : Option Text) (opening : Opening) → FirstSays input left (Ok opening) →
    new ≡ old → Speaks input left old new (IsBrokenOff Memory)
talk_unopened input left old new opening said same =
    talk_silent input left old new Memory (by input left said) same
  where
    by : (input left : Option Text) → FirstSays input left (Ok opening) → LeavesLine input left Memory
    by None left said = tt
    by (Some input) None said = absurd said
    by (Some input) (Some left) said = inr said.3

pub ruleset unopened = (talk_silent, talk_unopened)

-- ---- a session that was opened

-- the next line wasn't read, or not answered
pub talk_breaks : (input rest left old new : Option Text) (s : SessionValue) (fault : LiveSessionFault) →
    Goes input rest old new s → LeavesLine rest left fault → Speaks input left old new (IsBrokenOff fault)
talk_breaks None rest left old new s fault g leaves = tt
talk_breaks (Some input) rest left None new s fault g leaves = tt
talk_breaks (Some input) None left (Some old) new s fault g leaves = absurd g
talk_breaks (Some input) (Some rest) left (Some old) None s fault g leaves = absurd g
talk_breaks (Some input) (Some rest) None (Some old) (Some new) s fault g leaves = absurd leaves
talk_breaks (Some input) (Some rest) (Some left) (Some old) (Some new) s fault g leaves =
    (g.0, g.4, inr (s, rest, g.1, g.3, leaves))

-- no more lines were read
pub talk_stops : (input rest old new : Option Text) (s : SessionValue) → Goes input rest old new s →
    Speaks input rest old new (IsBrokenOff Read)
talk_stops input rest old new s g = talk_breaks input rest rest old new s Read g (by rest)
  where
    by : (rest : Option Text) → LeavesLine rest rest Read
    by None = tt
    by (Some rest) = ([], tt, refl)

behind_next : (rest left : Text) (was now : SessionValue) (step_runs : List (List StepRun)) (next : Option LiveAnswer) →
    IsNext rest left was now step_runs next → left ≡ behind_line rest
behind_next rest left was now step_runs (Some answer) n = n.2
behind_next rest left was now step_runs None n = n.2

-- memory was refused for the text of an answer, or for the report
pub talk_unanswered : (input rest left old mid new : Option Text) (was now : SessionValue) (next : Option LiveAnswer)
    (fault : LiveSessionFault) → Goes input rest old mid was →
    ((step_runs : List (List StepRun)) → IsLiveAt was step_runs → IsNextAnswer rest left was now step_runs next) →
    fault ≡ Memory → new ≡ mid → Speaks input left old new (IsBrokenOff fault)
talk_unanswered input rest left old mid new was now next fault g answers memory same =
    subst (λ f. Speaks input left old new (IsBrokenOff f)) (sym memory)
    (subst (λ n. Speaks input left old n (IsBrokenOff Memory)) (sym same) (by input rest left old mid g answers))
  where
    by : (input rest left old mid : Option Text) → Goes input rest old mid was →
        ((step_runs : List (List StepRun)) → IsLiveAt was step_runs → IsNextAnswer rest left was now step_runs next) →
        Speaks input left old mid (IsBrokenOff Memory)
    by None rest left old mid g answers = tt
    by (Some input) rest left None mid g answers = tt
    by (Some input) None left (Some old) mid g answers = absurd g
    by (Some input) (Some rest) left (Some old) None g answers = absurd g
    by (Some input) (Some rest) None (Some old) (Some mid) g answers = absurd (answers g.1 g.2)
    by (Some input) (Some rest) (Some left) (Some old) (Some mid) g answers =
        let behind = behind_next rest left was now g.1 next (answers g.1 g.2) in
        (g.0, g.4, inr (was, rest, g.1, g.3, inr behind))
