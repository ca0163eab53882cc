-- Runs of successive bits of one node, or of two, with one outcome (this project's own rule).
use Rattle.std.specs.Prelude.{◌+◌, ◌==◌, ◌&&◌, ℕ, Bool, true, false, if◌then◌else◌, Option, Some, None, List, [], ◌∷◌}
use Rattle.std.specs.Str.{bytes_eq}
use Rattle.sja_sweep.specs.declared.first_error.FirstError.{FirstError}
use Rattle.sja_sweep.specs.declared.kinds.Kinds.{Kinds}
use Rattle.sja_sweep.specs.declared.target.Target.{Target}
use Rattle.sja_sweep.specs.declared.trial.Trial.{Trial}
use Rattle.sja_sweep.specs.Outcome.{Outcome}

-- the first and the last of the trials, the first errors of the first and the last of their runs, and the outcome of
-- each
pub record SpanValue : Type 0 where
  pub first : Trial
  pub last : Trial
  pub from : Option FirstError
  pub to : Option FirstError
  pub words : List ℕ
  pub kinds : Kinds

-- one trial alone
abbrev pub span_of : Outcome → SpanValue
span_of o = record {
  first = o.trial;
  last = o.trial;
  from = o.error;
  to = o.error;
  words = o.words;
  kinds = o.kinds;
}

-- whether a strike is of the same node as another one, in the next bit
abbrev pub is_next : Target → Target → Bool
is_next t u = (t.node == u.node) && (t.bit + 1 == u.bit)

-- the same of the second strikes of two runs, where there are some
abbrev pub are_next : Option Target → Option Target → Bool
are_next None None = true
are_next None (Some u) = false
are_next (Some t) None = false
are_next (Some t) (Some u) = is_next t u

-- whether one goes on in another: the same nodes, the next bits, and the same outcome
abbrev pub goes_on : SpanValue → SpanValue → Bool
goes_on a b =
    (is_next a.last.first b.first.first && are_next a.last.second b.first.second) && bytes_eq a.words b.words

-- both as one
abbrev pub joined : SpanValue → SpanValue → SpanValue
joined a b = record b { first = a.first; from = a.from }

-- one before others: with the first of them as one, where it goes on in that
abbrev pub before_all : SpanValue → List SpanValue → List SpanValue
before_all a [] = a ∷ []
before_all a (b ∷ bs) = if goes_on a b then joined a b ∷ bs else a ∷ b ∷ bs

-- all of them, as long as they can be
abbrev pub spans : List Outcome → List SpanValue
spans [] = []
spans (o ∷ os) = before_all (span_of o) (spans os)
