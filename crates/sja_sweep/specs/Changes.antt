-- What is otherwise than without a strike (this project's own rule). Each item begins with "; ".
use Rattle.std.specs.Prelude.{◌+◌, ◌==◌, ℕ, Bool, true, false, max, if◌then◌else◌, Option, List, [], ◌++◌, length}
use Rattle.std.specs.Prelude.{codes, decimal}
use Rattle.std.specs.List.{range_with_len}
use Rattle.lemmas.specs.Gathering.{gathered, total}
use Rattle.sja_journal.specs.declared.entry.Entry.{Entry}
use Rattle.sja_journal.specs.declared.entry.Entry.TheVariants.{Bit, Up as Item, Abort, Stored, Overrun, Off}
use Rattle.sja_journal.specs.Carried.{overrun_of}
use Rattle.sja_plan.specs.Plan.{PlanValue}
use Rattle.sja_steps.specs.declared.step.Step.{Step}
use Rattle.sja_log.specs.Log.{ActivationValue, NodeValue, RunValue}
use Rattle.sja_log.specs.declared.end.End.{End}
use Rattle.sja_log.specs.declared.end.End.TheVariants.{Turns, Rest, Bits}
use Rattle.sja_log.specs.EndWord.{end_word}
use Rattle.sja_sweep.specs.Nodes.{node_at, activation_at}
use Rattle.sja_sweep.specs.Messages.{list_items}
use Rattle.sja_sweep.specs.Steps.{script_at, step_items}

-- ---- messages

-- what a list of messages is of: an activation of a node, counted from 1, its place from 0
abbrev pub of_activation : ℕ → ℕ → List ℕ → List ℕ
of_activation k a word = codes "; node " ++ (decimal k ++ (codes " activation " ++ (decimal (a + 1) ++ word)))

-- of one activation the messages released, and those left unread
abbrev pub activation_items : ℕ → ℕ → ActivationValue → ActivationValue → List ℕ
activation_items k a without now =
    list_items (of_activation k a (codes " released")) without.released now.released
    ++ list_items (of_activation k a (codes " unread")) without.unread now.unread

-- of all activations of a node
abbrev pub activations_items : ℕ → List ActivationValue → List ActivationValue → List ℕ
activations_items k without now =
    gathered (λ a. activation_items k a (activation_at without a) (activation_at now a))
    (range_with_len 0 (max (length without) (length now)))

-- of a node the messages that were lost, since they were longer than the bytes that were free
abbrev pub overrun_items : ℕ → List Entry → List Entry → List ℕ
overrun_items k without now =
    list_items (codes "; node " ++ (decimal k ++ codes " overrun")) (overrun_of without) (overrun_of now)

-- ---- bus-off

abbrev pub off_in : Entry → ℕ
off_in (Bit driven seen) = 0
off_in (Item u) = 0
off_in Abort = 0
off_in (Stored m) = 0
off_in (Overrun m) = 0
off_in Off = 1

-- how often a node went bus-off
abbrev pub times_off : List Entry → ℕ
times_off = total off_in

-- how often it went bus-off, where that is another number
abbrev pub off_item : ℕ → List Entry → List Entry → List ℕ
off_item k without now =
    if times_off without == times_off now then []
    else codes "; node " ++ (decimal k ++ (codes " bus-off " ++ decimal (times_off now)))

-- ---- a node, and a run

-- all that is otherwise at a node: messages, steps, and bus-off; other answers to reads of ECC in this script
-- are left out
abbrev pub node_items : List Step → ℕ → NodeValue → NodeValue → List ℕ
node_items script k without now =
    activations_items k without.activations now.activations
    ++ overrun_items k without.journal now.journal
    ++ step_items script k without.done now.done
    ++ off_item k without.journal now.journal

-- whether two runs ended for one reason
abbrev pub same_end : End → End → Bool
same_end Turns Turns = true
same_end Turns Rest = false
same_end Turns Bits = false
same_end Rest Turns = false
same_end Rest Rest = true
same_end Rest Bits = false
same_end Bits Turns = false
same_end Bits Rest = false
same_end Bits Bits = true

-- why the run ended, where that is another reason
abbrev pub end_item : End → End → List ℕ
end_item without now = if same_end without now then [] else codes "; end " ++ end_word now

-- all that is otherwise in a run, node after node; other answers to reads of ECC are left out, where a plan
-- says which these are
abbrev pub all_items : Option PlanValue → RunValue → RunValue → List ℕ
all_items out without now =
    gathered (λ k. node_items (script_at out k) k (node_at without.nodes k) (node_at now.nodes k))
    (range_with_len 0 (length now.nodes))
    ++ end_item without.end now.end
