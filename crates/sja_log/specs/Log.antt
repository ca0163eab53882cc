-- What the log of a run says (this project's own rule).
use Rattle.std.specs.Prelude.{ℕ, List, map}
use Rattle.sja_journal.specs.declared.entry.Entry.{Entry}
use Rattle.sja_steps.specs.declared.step_record.StepRecord.{StepRecord}
use Rattle.sja_log.specs.declared.end.End.{End}

-- of one activation the messages that its driver released, and those that it left unread
pub record ActivationValue : Type 0 where
  pub released : List (List ℕ)
  pub unread : List (List ℕ)

-- of one node its journal, its error counters as they read, the steps done, and its activations
pub record NodeValue : Type 0 where
  pub journal : List Entry
  pub txerr : ℕ
  pub rxerr : ℕ
  pub done : List StepRecord
  pub activations : List ActivationValue

-- of a run the plan's version, the bits run, why it ended, and the nodes
pub record RunValue : Type 0 where
  pub version : ℕ
  pub bits : ℕ
  pub end : End
  pub nodes : List NodeValue

-- each node's journal
abbrev pub journals_in : RunValue → List (List Entry)
journals_in log = map (λ (n : NodeValue). n.journal) log.nodes
