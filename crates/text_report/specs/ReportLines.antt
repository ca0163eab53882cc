-- The lines of a report (this project's own rule), each the list of its words.
use Rattle.std.specs.Prelude.{◌+◌, ℕ, List, [], ◌∷◌, ◌++◌, length, map, codes, decimal}
use Rattle.sja_journal.specs.declared.entry.Entry.{Entry}
use Rattle.lemmas.specs.Gathering.{gathered}
use Rattle.sja_journal.specs.Parts.{part}
use Rattle.sja_journal.specs.Carried.{stored_of, overrun_of}
use Rattle.sja_journal.specs.Free.{free_of}
use Rattle.sja_steps.specs.declared.step_record.StepRecord.{StepRecord}
use Rattle.sja_log.specs.declared.end.End.{End}
use Rattle.sja_log.specs.Log.{ActivationValue, NodeValue, RunValue}
use Rattle.sja_log.specs.EndWord.{end_word}
use Rattle.text_report.specs.ReportWords.{message_words, answer_words}

-- ---- texts

-- the words behind the first one of a line: a space before each, and a line feed at the end
abbrev pub words_text : List (List ℕ) → List ℕ
words_text [] = 10 ∷ []
words_text (word ∷ words) = 32 ∷ (word ++ words_text words)

-- a line: its words with one space between two, and a line feed
abbrev pub line_text : List (List ℕ) → List ℕ
line_text [] = 10 ∷ []
line_text (word ∷ words) = word ++ words_text words

-- lines, one after another
abbrev pub lines_text : List (List (List ℕ)) → List ℕ
lines_text = gathered line_text

-- ---- lines

-- what each element and its number give, the first one having this number
abbrev pub numbered : {A B : Type 0} → (ℕ → A → List B) → ℕ → List A → List B
numbered f n [] = []
numbered f n (x ∷ xs) = f n x ++ numbered f (n + 1) xs

-- of the run: the plan's version, how many bits were run, and why it ended
abbrev pub run_line : ℕ → ℕ → End → List (List ℕ)
run_line version bits end =
    codes "sja" ∷ codes "version" ∷ decimal version ∷ codes "bits" ∷ decimal bits ∷ codes "end" ∷ end_word end ∷ []

-- of a node: its number, its error counters, and how many steps are done
abbrev pub node_line : ℕ → NodeValue → List (List ℕ)
node_line k n =
    codes "node" ∷ decimal k ∷ codes "tec" ∷ decimal n.txerr ∷ codes "rec" ∷ decimal n.rxerr
    ∷ codes "steps" ∷ decimal (length n.done) ∷ []

-- of a step done: its number and its answer
abbrev pub step_line : ℕ → StepRecord → List (List ℕ)
step_line i d = codes "step" ∷ decimal i ∷ answer_words d.answer

abbrev pub step_lines : ℕ → StepRecord → List (List (List ℕ))
step_lines i d = step_line i d ∷ []

-- of an activation: its number, how many messages were stored and how many were overrun, and the bytes that are free
abbrev pub counts_line : ℕ → ℕ → ℕ → ℕ → List (List ℕ)
counts_line a stored overrun free =
    codes "activation" ∷ decimal a ∷ codes "stored" ∷ decimal stored ∷ codes "overrun" ∷ decimal overrun
    ∷ codes "free" ∷ decimal free ∷ []

-- of a message: what became of it, and its bytes
abbrev pub message_line : List ℕ → List ℕ → List (List ℕ)
message_line word bytes = word ∷ message_words bytes

abbrev pub message_lines : List ℕ → List (List ℕ) → List (List (List ℕ))
message_lines word messages = map (message_line word) messages

-- of an activation by its part of the journal: its line, and a line for each message that was released, that was left
-- unread and that was overrun
abbrev pub activation_lines_by : List Entry → ℕ → ActivationValue → List (List (List ℕ))
activation_lines_by p a act =
    counts_line a (length (stored_of p)) (length (overrun_of p)) (free_of p)
    ∷ (message_lines (codes "released") act.released
    ++ message_lines (codes "unread") act.unread
    ++ message_lines (codes "overrun") (overrun_of p))

abbrev pub activation_lines : List Entry → ℕ → ActivationValue → List (List (List ℕ))
activation_lines j a act = activation_lines_by (part j a) a act

-- of a node: its line, a line for each step done, and the lines of each activation
abbrev pub node_lines : ℕ → NodeValue → List (List (List ℕ))
node_lines k n = node_line k n ∷ (numbered step_lines 1 n.done ++ numbered (activation_lines n.journal) 1 n.activations)

-- of a run: its line, and the lines of each node, counted from 0
abbrev pub report_lines : RunValue → List (List (List ℕ))
report_lines log = run_line log.version log.bits log.end ∷ numbered node_lines 0 log.nodes

-- the report of a run
abbrev pub report_text : RunValue → List ℕ
report_text log = lines_text (report_lines log)
