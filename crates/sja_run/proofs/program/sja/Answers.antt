use Rattle.std.proofs.Common.{◌≡◌, ap, map, refl, subst, sym, inl, inr}
use Rattle.std.specs.Io.KnownBytes.{Keeps}
use Rattle.std.proofs.KnownBytes.{Keeps-refl}
use Rattle.sja_command_line.specs.Requests.{Request, expected, files, live}
use Rattle.sja_command_line.specs.Words.{ParsesAs}
use Rattle.sja_program.specs.Answer.{request_left}
use Rattle.sja_run.proofs.FilesDone.FileSteps.{files_from, files_unread}
use Rattle.sja_run.proofs.FilesDone.ReportsMet.{met_unread, shows_met}
use Rattle.sja_run.proofs.Requested.Asked.{one_asked, shows_asked}
use Rattle.sja_program.proofs.Requested.Requests.{asks_left, asks_one, is_left_over, left_shows, one_left, shows_from}
use Rattle.sja_run.proofs.Requested.Talks.{left_talks, talks_from}
use Rattle.sja_run.proofs.program.sja.Goals as goal

-- of what is done elsewhere nothing is done but where memory was refused
pub returns-in-Ok-clause-answered : goal.returns-in-Ok-clause-answered
returns-in-Ok-clause-answered g c = λ r parses wrote told.
    let serial = c.in-Ok.ensures in
    let holds = g.F.Sources.holds c.args.sources.now in
    let Q : Request → Type 0 = λ q. ParsesAs (map g.S.AsStr.text c.args.words.now) q in
    shows_asked holds c.in-Ok.status _ _ _ _ _ _ r
    (λ plain. elim (is_left_over r) [
      | inl asks ↦ let left = serial.threads r parses asks in
          let keeps = subst (λ o. Keeps (g.O.Write.contents c.args.out.now.writer) (g.O.Write.contents o.writer))
          (sym left.2) (Keeps-refl _) in
          left_shows r c.in-Ok.status _ _ _ _ _ _ _ left.0 serial.few keeps told
      | inr other ↦ serial.answered r parses other wrote told
    ])
    (λ asked jobs names is. (let left = serial.threads (files asked jobs names) (subst Q is parses) tt in
    let keeps = subst (λ o. Keeps (g.O.Write.contents c.args.out.now.writer) (g.O.Write.contents o.writer))
    (sym left.2) (Keeps-refl _) in
    files_unread holds asked names c.in-Ok.status _ _ _ _ _ _ _ left.0 (ap (λ i. g.R.Read.remaining i) left.1) keeps
    told))
    (λ threads plan report is. (let left = serial.threads (expected threads plan report) (subst Q is parses) tt in
    let keeps = subst (λ o. Keeps (g.O.Write.contents c.args.out.now.writer) (g.O.Write.contents o.writer))
    (sym left.2) (Keeps-refl _) in
    met_unread holds threads plan report c.in-Ok.status _ _ _ _ _ _ _ left.0 (ap (λ i. g.R.Read.remaining i) left.1)
    keeps told))
    (λ is. (let left = serial.threads live (subst Q is parses) tt in
    left_talks c.in-Ok.status _ _ _ _ _ _ _ left.0 (ap (λ i. g.R.Read.remaining i) left.1)
    (ap (λ o. g.O.Write.contents o.writer) left.2) told))

-- a talk is left to this call where the words ask for one, and nothing was read or written for it
pub returns-in-Err-LiveSession-clause-answered : goal.returns-in-Err-LiveSession-clause-answered
returns-in-Err-LiveSession-clause-answered g c = λ r parses wrote told.
    let left = rw c.in-Err-LiveSession.field-0-is at c.in-Err-LiveSession.ensures.left in
    let threads = c.in-Err-LiveSession.ensures.threads live left.0 tt in
    let same : r ≡ live = asks_one _ r live parses left.0 in
    rw same
    (talks_from _ _ _ _ _ _ _ _ _ _ (ap (λ i. g.R.Read.remaining i) threads.1)
    (ap (λ o. g.O.Write.contents o.writer) threads.2) (ap (λ e. g.E.Write.contents e.writer) left.2)
    (c.reply_live.ensures.answered wrote told))

pub returns-in-Err-LiveSession-clause-unparsed : goal.returns-in-Err-LiveSession-clause-unparsed
returns-in-Err-LiveSession-clause-unparsed g c = λ none _ _.
    let left = rw c.in-Err-LiveSession.field-0-is at c.in-Err-LiveSession.ensures.left in absurd (none live left.0)

pub returns-in-Err-LiveSession-clause-untouched : goal.returns-in-Err-LiveSession-clause-untouched
returns-in-Err-LiveSession-clause-untouched g c = λ none.
    let left = rw c.in-Err-LiveSession.field-0-is at c.in-Err-LiveSession.ensures.left in absurd (none live left.0)

pub returns-in-Err-LiveSession-clause-one_writer : goal.returns-in-Err-LiveSession-clause-one_writer
returns-in-Err-LiveSession-clause-one_writer g c = λ none.
    let left = rw c.in-Err-LiveSession.field-0-is at c.in-Err-LiveSession.ensures.left in absurd (none live left.0)

pub returns-in-Err-LiveSession-clause-unread : goal.returns-in-Err-LiveSession-clause-unread
returns-in-Err-LiveSession-clause-unread g c = λ none.
    let left = rw c.in-Err-LiveSession.field-0-is at c.in-Err-LiveSession.ensures.left in absurd (none live left.0 tt)

pub returns-in-Err-LiveSession-clause-few : goal.returns-in-Err-LiveSession-clause-few
returns-in-Err-LiveSession-clause-few g c = λ none.
    let left = rw c.in-Err-LiveSession.field-0-is at c.in-Err-LiveSession.ensures.left in absurd (none live left.0)

-- what is left to threads is what the words ask for, and nothing was read or written for it
pub returns-in-Err-Threads-clause-answered : goal.returns-in-Err-Threads-clause-answered
returns-in-Err-Threads-clause-answered g c = λ r parses wrote told.
    let left = rw c.in-Err-Threads.field-0-is at c.in-Err-Threads.ensures.left in
    let asked = request_left c.in-Err-Threads.threaded in
    let threads = c.in-Err-Threads.ensures.threads asked left.0 left.1 in
    let same : r ≡ asked = asks_one _ r asked parses left.0 in
    rw same
    (one_asked (g.F.Sources.holds c.args.sources.now) _ _ _ _ _ _ _ asked (one_left c.in-Err-Threads.threaded)
    (shows_from asked asked _ _ _ _ _ _ _ _ _ _ refl (ap (λ i. g.R.Read.remaining i) threads.1)
    (ap (λ o. g.O.Write.contents o.writer) threads.2) (ap (λ e. g.E.Write.contents e.writer) left.2)
    (c.reply_threads.ensures.answered wrote told)))

-- words of which something is left parse
pub returns-in-Err-Threads-clause-unparsed : goal.returns-in-Err-Threads-clause-unparsed
returns-in-Err-Threads-clause-unparsed g c = λ none _ _.
    let left = rw c.in-Err-Threads.field-0-is at c.in-Err-Threads.ensures.left in
    absurd (none (request_left c.in-Err-Threads.threaded) left.0)

-- what is left asks about a plan
pub returns-in-Err-Threads-clause-unread : goal.returns-in-Err-Threads-clause-unread
returns-in-Err-Threads-clause-unread g c = λ none.
    let left = rw c.in-Err-Threads.field-0-is at c.in-Err-Threads.ensures.left in
    absurd (none (request_left c.in-Err-Threads.threaded) left.0 (asks_left c.in-Err-Threads.threaded))

-- ---- plans in files are left to this call where the words ask for them

pub returns-in-Err-Files-clause-answered : goal.returns-in-Err-Files-clause-answered
returns-in-Err-Files-clause-answered g c = λ r parses wrote told.
    let left = rw c.in-Err-Files.field-0-is at c.in-Err-Files.ensures.left in
    let w = c.in-Err-Files.files in
    let asked = files w.question w.jobs (map (λ name. name.now) w.names.items) in
    let threads = c.in-Err-Files.ensures.threads asked left.0 tt in
    let same : r ≡ asked = asks_one _ r asked parses left.0 in
    rw same
    (files_from (g.F.Sources.holds c.args.sources.now) w.question w.question _ _ _ _ _ _ _ _ _ _ _ _ refl refl
    (ap (λ i. g.R.Read.remaining i) threads.1) (ap (λ o. g.O.Write.contents o.writer) threads.2)
    (ap (λ e. g.E.Write.contents e.writer) left.2) (c.reply_files.ensures.answered wrote told))

pub returns-in-Err-Files-clause-unparsed : goal.returns-in-Err-Files-clause-unparsed
returns-in-Err-Files-clause-unparsed g c = λ none _ _.
    let left = rw c.in-Err-Files.field-0-is at c.in-Err-Files.ensures.left in absurd (none _ left.0)

pub returns-in-Err-Files-clause-untouched : goal.returns-in-Err-Files-clause-untouched
returns-in-Err-Files-clause-untouched g c = λ none.
    let left = rw c.in-Err-Files.field-0-is at c.in-Err-Files.ensures.left in absurd (none _ left.0)

pub returns-in-Err-Files-clause-one_writer : goal.returns-in-Err-Files-clause-one_writer
returns-in-Err-Files-clause-one_writer g c = λ one.
    let left = rw c.in-Err-Files.field-0-is at c.in-Err-Files.ensures.left in absurd (one _ left.0)

pub returns-in-Err-Files-clause-unread : goal.returns-in-Err-Files-clause-unread
returns-in-Err-Files-clause-unread g c = λ none.
    let left = rw c.in-Err-Files.field-0-is at c.in-Err-Files.ensures.left in absurd (none _ left.0 tt)

pub returns-in-Err-Files-clause-few : goal.returns-in-Err-Files-clause-few
returns-in-Err-Files-clause-few g c = λ one.
    let left = rw c.in-Err-Files.field-0-is at c.in-Err-Files.ensures.left in absurd (one _ left.0)

-- ---- a report that is expected is left to this call where the words ask for it

pub returns-in-Err-Expected-clause-answered : goal.returns-in-Err-Expected-clause-answered
returns-in-Err-Expected-clause-answered g c = λ r parses wrote told.
    let left = rw c.in-Err-Expected.field-0-is at c.in-Err-Expected.ensures.left in
    let w = c.in-Err-Expected.words in
    let asked = expected w.threads w.plan.now w.report.now in
    let kept = c.in-Err-Expected.ensures.threads asked left.0 tt in
    let same : r ≡ asked = asks_one _ r asked parses left.0 in
    rw same
    (shows_met (g.F.Sources.holds c.args.sources.now) w.threads w.threads w.plan.now w.plan.now w.report.now
    w.report.now _ _ _ _ _ _ _ _ _ _ refl refl refl (ap (λ i. g.R.Read.remaining i) kept.1)
    (ap (λ o. g.O.Write.contents o.writer) kept.2) (ap (λ e. g.E.Write.contents e.writer) left.2)
    (c.reply_expected.ensures.answered wrote told))

pub returns-in-Err-Expected-clause-unparsed : goal.returns-in-Err-Expected-clause-unparsed
returns-in-Err-Expected-clause-unparsed g c = λ none _ _.
    let left = rw c.in-Err-Expected.field-0-is at c.in-Err-Expected.ensures.left in absurd (none _ left.0)

pub returns-in-Err-Expected-clause-untouched : goal.returns-in-Err-Expected-clause-untouched
returns-in-Err-Expected-clause-untouched g c = λ none.
    let left = rw c.in-Err-Expected.field-0-is at c.in-Err-Expected.ensures.left in absurd (none _ left.0)

pub returns-in-Err-Expected-clause-one_writer : goal.returns-in-Err-Expected-clause-one_writer
returns-in-Err-Expected-clause-one_writer g c = λ one.
    let left = rw c.in-Err-Expected.field-0-is at c.in-Err-Expected.ensures.left in absurd (one _ left.0)

pub returns-in-Err-Expected-clause-unread : goal.returns-in-Err-Expected-clause-unread
returns-in-Err-Expected-clause-unread g c = λ none.
    let left = rw c.in-Err-Expected.field-0-is at c.in-Err-Expected.ensures.left in absurd (none _ left.0 tt)

pub returns-in-Err-Expected-clause-few : goal.returns-in-Err-Expected-clause-few
returns-in-Err-Expected-clause-few g c = λ one.
    let left = rw c.in-Err-Expected.field-0-is at c.in-Err-Expected.ensures.left in absurd (one _ left.0)
