-- A talk, line by line.
use Rattle.std.proofs.Common.{◌≡◌, List, [], ◌∷◌, ◌++◌, replicate, refl, sym, ap, ◌∙◌, subst}
use Rattle.std.specs.Prelude.{◌⊎◌, Option, Some, None, Ok, Err}
use Rattle.std.proofs.lemmas.List.{append_assoc, append-nil}
use Rattle.std.specs.Io.KnownBytes.{Appends}
use Rattle.sja_driver.specs.StepRuns.{StepRun}
use Rattle.sja_session.specs.Sessions.{SessionValue}
use Rattle.sja_live.specs.AnswerTexts.{answer_text, opened_text, opening_text}
use Rattle.sja_live.specs.Beginning.{IsNewOf}
use Rattle.sja_live.specs.Inside.Standing.{IsLiveAt}
use Rattle.sja_live.specs.Inside.LiveProgress.{AppendsReport, FirstSays, Goes, IsNextAnswer}
use Rattle.sja_live.specs.Lines.{first_line, behind_line, LeadsOn}
use Rattle.sja_live.specs.Lines.LeadsOn.{none, more}
use Rattle.sja_live.proofs.Talks.NewSessions.{new_live}
use Rattle.sja_live.proofs.Talks.SameEnd.{begins_as_opened, same_end}
use Rattle.sja_live.specs.Talking.{EndsLiveSession, HasTalked, IsTold, Replies, Speaks}
use Rattle.sja_live.specs.Talking.Talks.{begin, go_on}
use Rattle.sja_live.specs.declared.live_answer.LiveAnswer.{LiveAnswer}
use Rattle.sja_live.specs.declared.opening.Opening.{Opening}
use Rattle.sja_live.specs.declared.opening_fault.OpeningFault.{OpeningFault}
use Rattle.sja_live.specs.declared.live_session_end.LiveSessionEnd.TheVariants.{Reported, Unopened}
use Rattle.sja_plan_reading.specs.Words.{Text}

-- ---- one line more

leads_more : {text rest : Text} {lines : List Text} → LeadsOn text lines rest → ¬ (rest ≡ []) →
    LeadsOn text (lines ++ first_line rest ∷ []) (behind_line rest)
leads_more none some = more some none
leads_more (more not lead) some = more not (leads_more lead some)

talk_more : (input rest : Text) (was now : SessionValue) (step_runs after : List (List StepRun)) (said : Text)
    (answer : LiveAnswer) → HasTalked input rest was step_runs said → ¬ (rest ≡ []) →
    Replies was now step_runs (first_line rest) answer after →
    HasTalked input (behind_line rest) now after (said ++ answer_text answer)
talk_more input rest was now step_runs after said answer h some replies = record {
  some = h.some;
  readable = h.readable;
  opening = h.opening;
  opens = h.opens;
  first = h.first;
  new = h.new;
  lines = h.lines ++ first_line rest ∷ [];
  lead = leads_more h.lead some;
  text = h.text ++ answer_text answer;
  talks = go_on h.talks replies;
  as_opened = same_end was now step_runs after (first_line rest) answer replies ∙ h.as_opened;
  output_is = ap (λ l. l ++ answer_text answer) h.output_is
      ∙ append_assoc opened_text h.text (answer_text answer);
}

-- ---- where the bytes are known or not

-- a session was opened, and that was said
pub talk_begins : (input left old new : Option Text) (opening : Opening) (s : SessionValue) →
    FirstSays input left (Ok opening) → IsNewOf s opening → Appends old new opened_text → Goes input left old new s
talk_begins None left old new opening s said is wrote = tt
talk_begins (Some input) left None new opening s said is wrote = tt
talk_begins (Some input) None (Some old) new opening s said is wrote = absurd said
talk_begins (Some input) (Some left) (Some old) None opening s said is wrote = absurd wrote
talk_begins (Some input) (Some left) (Some old) (Some new) opening s said is wrote =
    let some = said.0 in let readable = said.1 in let opens = said.2 in let behind = said.3 in
    let first : HasTalked input (behind_line input) s (replicate opening.nodes []) opened_text = record {
      some = some;
      readable = readable;
      opening = opening;
      opens = opens;
      first = s;
      new = is;
      lines = [];
      lead = none;
      text = [];
      talks = begin;
      as_opened = begins_as_opened s opening (first_line input) opens is;
      output_is = sym (append-nil opened_text);
    } in (
      opened_text,
      replicate opening.nodes [],
      new_live s opening is,
      subst (λ l. HasTalked input l s (replicate opening.nodes []) opened_text) (sym behind) first,
      wrote,
    )

-- a line was answered, and that was said
pub talk_goes_on : (input rest left old mid new : Option Text) (was now : SessionValue) (answer : LiveAnswer) →
    Goes input rest old mid was →
    ((step_runs : List (List StepRun)) → IsLiveAt was step_runs → IsNextAnswer rest left was now step_runs
    (Some answer)) →
    Appends mid new (answer_text answer) → Goes input left old new now
talk_goes_on None rest left old mid new was now answer g next wrote = tt
talk_goes_on (Some input) rest left None mid new was now answer g next wrote = tt
talk_goes_on (Some input) None left (Some old) mid new was now answer g next wrote = absurd g
talk_goes_on (Some input) (Some rest) left (Some old) None new was now answer g next wrote = absurd g
talk_goes_on (Some input) (Some rest) None (Some old) (Some mid) new was now answer g next wrote =
    absurd (next g.1 g.2)
talk_goes_on (Some input) (Some rest) (Some left) (Some old) (Some mid) None was now answer g next wrote = absurd wrote
talk_goes_on (Some input) (Some rest) (Some left) (Some old) (Some mid) (Some new) was now answer g next wrote =
    let said = g.0 in let step_runs = g.1 in let at = g.2 in let h = g.3 in let is = g.4 in
    let n = next step_runs at in let some = n.0 in let a = n.1 in let behind = n.2 in
    let after = a.0 in (
      said ++ answer_text answer,
      after,
      a.2,
      subst (λ l. HasTalked input l now after (said ++ answer_text answer)) (sym behind)
          (talk_more input rest was now step_runs after said answer h some a.1),
      wrote ∙ ap (λ l. l ++ answer_text answer) is ∙ append_assoc old said (answer_text answer),
    )

-- the talk ended, and the report was written
pub talk_ends : (input rest left old mid new : Option Text) (was now : SessionValue) →
    Goes input rest old mid was →
    ((step_runs : List (List StepRun)) → IsLiveAt was step_runs → IsNextAnswer rest left was now step_runs None) →
    ((step_runs : List (List StepRun)) → IsLiveAt now step_runs → AppendsReport mid new now step_runs) →
    Speaks input left old new (IsTold Reported)
talk_ends None rest left old mid new was now g next wrote = tt
talk_ends (Some input) rest left None mid new was now g next wrote = tt
talk_ends (Some input) None left (Some old) mid new was now g next wrote = absurd g
talk_ends (Some input) (Some rest) left (Some old) None new was now g next wrote = absurd g
talk_ends (Some input) (Some rest) None (Some old) (Some mid) new was now g next wrote =
    absurd (next g.1 g.2)
talk_ends (Some input) (Some rest) (Some left) (Some old) (Some mid) new was now g next wrote =
    let said = g.0 in let step_runs = g.1 in let at = g.2 in let h = g.3 in let is = g.4 in
    let n = next step_runs at in
    let then_at = subst (λ (s : SessionValue). IsLiveAt s step_runs) (sym n.0) at in
    let report = subst (λ (s : SessionValue). AppendsReport (Some mid) new s step_runs) n.0 (wrote step_runs then_at) in
    by new said step_runs h is n.1 n.2 report
  where
    by : (new : Option Text) (said : Text) (step_runs : List (List StepRun)) → HasTalked input rest was step_runs said →
        mid ≡ old ++ said → (rest ≡ []) ⊎ (¬ (rest ≡ []) × EndsLiveSession was (first_line rest)) →
        left ≡ behind_line rest → AppendsReport (Some mid) new was step_runs →
        Speaks (Some input) (Some left) (Some old) new (IsTold Reported)
    by None said step_runs h is over behind report = absurd report.2
    by (Some new) said step_runs h is over behind report =
        let text = report.0 in (
          said ++ text,
          report.2 ∙ ap (λ l. l ++ text) is ∙ append_assoc old said text,
          record {
            last = was;
            step_runs = step_runs;
            rest = rest;
            said = said;
            talked = h;
            over = over;
            text = text;
            is = report.1;
            told = refl;
            behind = behind;
          },
        )

-- the first line opened no session, and that was said
pub talk_refused : (input left old new : Option Text) (fault : OpeningFault) → FirstSays input left (Err fault) →
    Appends old new (opening_text fault) → Speaks input left old new (IsTold Unopened)
talk_refused None left old new fault said wrote = tt
talk_refused (Some input) left None new fault said wrote = tt
talk_refused (Some input) None (Some old) new fault said wrote = absurd said
talk_refused (Some input) (Some left) (Some old) None fault said wrote = absurd wrote
talk_refused (Some input) (Some left) (Some old) (Some new) fault said wrote =
    (opening_text fault, wrote, record { fault = fault; is = said.0; told = refl; behind = said.1 })
