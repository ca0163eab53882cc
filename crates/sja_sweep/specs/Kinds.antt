-- Of what kinds an outcome is (this project's own rule).
use Rattle.std.specs.Prelude.{◌+◌, ◌&&◌, ◌||◌, ℕ, Bool, not, nat_lt, List, length}
use Rattle.std.specs.List.{list_any, range_with_len}
use Rattle.sja_log.specs.Log.{ActivationValue, NodeValue, RunValue}
use Rattle.sja_sweep.specs.declared.kind.Kind.{Kind}
use Rattle.sja_sweep.specs.declared.kind.Kind.TheVariants.{Same, Ecc, Twice, Lost, Stuck, Other, Changed}
use Rattle.sja_sweep.specs.declared.kinds.Kinds.{Kinds}
use Rattle.sja_sweep.specs.Messages.{times_of}
use Rattle.sja_sweep.specs.Nodes.{node_at, activation_at}

-- ---- messages, and steps

-- how often a message was got in an activation: released, or left unread
abbrev pub times_got : List ℕ → ActivationValue → ℕ
times_got message act = times_of message act.released + times_of message act.unread

-- whether some message was got more often in one activation than in another
abbrev pub is_got_more : ActivationValue → ActivationValue → List (List ℕ) → Bool
is_got_more act other = list_any (λ m. nat_lt (times_got m other) (times_got m act))

abbrev pub gets_more : ActivationValue → ActivationValue → Bool
gets_more act other = is_got_more act other act.released || is_got_more act other act.unread

-- in one of a node's activations than in the same one of another run
abbrev pub some_gets_more : List ActivationValue → List ActivationValue → Bool
some_gets_more acts others =
    list_any (λ a. gets_more (activation_at acts a) (activation_at others a)) (range_with_len 0 (length acts))

-- at one of the nodes
abbrev pub got_more : List NodeValue → List NodeValue → Bool
got_more nodes others =
    list_any (λ k. some_gets_more (node_at nodes k).activations (node_at others k).activations)
    (range_with_len 0 (length nodes))

-- whether a driver did fewer steps than without the strike
abbrev pub did_less : List NodeValue → List NodeValue → Bool
did_less without now =
    list_any (λ k. nat_lt (length (node_at now k).done) (length (node_at without k).done))
    (range_with_len 0 (length now))

-- ---- the kinds

-- of a run beside the one without the strike, by whether anything is otherwise, and whether that isn't what reads of
-- ECC answer alone
abbrev pub kinds_by : RunValue → RunValue → Bool → Bool → Kinds
kinds_by without now any plain = record {
  changed = plain;
  ecc = any && not plain;
  twice = got_more now.nodes without.nodes;
  lost = got_more without.nodes now.nodes;
  stuck = did_less without.nodes now.nodes;
}

-- whether an outcome of these kinds is of this one
abbrev pub is_of : Kinds → Kind → Bool
is_of k Same = not k.changed && not k.ecc
is_of k Ecc = k.ecc
is_of k Twice = k.twice
is_of k Lost = k.lost
is_of k Stuck = k.stuck
is_of k Other = k.changed && not (k.twice || (k.lost || k.stuck))
is_of k Changed = k.changed

-- whether kinds are asked for, and whether an outcome is of one of them
abbrev pub asks : Kinds → Bool
asks a = a.changed || (a.twice || (a.lost || a.stuck))

abbrev pub meets : Kinds → Kinds → Bool
meets a k =
    (a.changed && k.changed) || ((a.twice && k.twice) || ((a.lost && k.lost) || (a.stuck && k.stuck)))

-- whether an outcome of these kinds has its line, by the kinds that are asked for: all have, where none are
abbrev pub shows : Kinds → Kinds → Bool
shows a k = not (asks a) || meets a k
