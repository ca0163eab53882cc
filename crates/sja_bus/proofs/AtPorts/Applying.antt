-- What an abort changed, by every cut.
use Rattle.std.proofs.Common.{◌≡◌, ◌≢◌, ℕ, true, false, List, [], ◌∷◌, ◌++◌, inl, inr, refl, sym, ap, ◌∙◌, subst}
use Rattle.std.proofs.Common.{append-nil, arith}
use Rattle.can_node_rules.specs.declared.abort_outcome.AbortOutcome.{AbortOutcome}
use Rattle.can_node.specs.declared.node.Node.{Node}
use Rattle.can_node_rules.specs.Context.{ContextValue}
use Rattle.can_node_rules.specs.Record.{RecordEntry as Event}
use Rattle.can_node_rules.specs.FinishedPieces.{FinishedPiece}
use Rattle.can_node_rules.specs.Cut.{IsCut}
use Rattle.can_node_rules.specs.Effects.{is_in_progress}
use Rattle.can_node_rules.specs.NextBit.{now_in}
use Rattle.can_node.specs.Stands.{Aborts}
use Rattle.can_node_rules.specs.Outcomes.{abort_of}
use Rattle.can_node_rules.proofs.OneCut.CutOnce.{whole_once}
use Rattle.sja_journal.specs.declared.entry.Entry.{Entry}
use Rattle.sja_journal.specs.declared.entry.Entry.TheVariants.{Abort}
use Rattle.sja_journal.specs.Records.{record_of}
use Rattle.sja_bus.specs.declared.activity.Activity.{Activity}
use Rattle.sja_bus.specs.declared.activity.Activity.TheVariants.{Between, Running, Off, OffAndAsked}
use Rattle.sja_journal.specs.Aborting.{abort_in, changes, IsApplied}
use Rattle.sja_bus.specs.Inside.Following.{Follows, Reads}
use Rattle.sja_bus.specs.Inside.Taking.{Applies}
use Rattle.can_node_rules.proofs.OneCut.SameCuts.{same_now}
use Rattle.sja_bus.proofs.Links.BusNodeParts.{open_by}

-- two cuts of a record say the same of an abort
abort_once : (entries : List Event) (found others : List FinishedPiece) (h : IsCut entries found)
    (k : IsCut entries others) → abort_in h ≡ abort_in k
abort_once entries found others h k =
    let place : h.place ≡ k.place = (whole_once entries found others h k).2 in
    ap (λ p. abort_of (is_in_progress (now_in h) p) (now_in h).held (now_in h).aborted) place
    ∙ ap (λ (c : ContextValue). abort_of (is_in_progress c k.place) c.held c.aborted)
    (same_now entries found others h k)

-- the node answered so
pub applied_running : (old new : Node) (j : List Entry) (ended free : ℕ) (activity : Activity) (filter : _)
    (answer : AbortOutcome) → Aborts old new answer → Follows old j →
    activity ≡ Running filter → Reads old j ended activity free → IsApplied j (changes answer)
applied_running old new j ended free activity filter answer aborts follows is reads =
    let P : Activity → Type 0 = λ a. Reads old j ended a free in
    let now = subst P is reads in record {
      runs = λ opened on found cut.
          ap changes (aborts.1 (record_of j) follows.found follows.stands
          ∙ abort_once (record_of j) follows.found found follows.stands.cut cut);
      rests = λ no. elim no [
        | inl shut ↦ absurd (shut (open_by (Running filter) old j ended free refl now))
        | inr off ↦ let e : true ≡ false = sym off ∙ now.active.0 in absurd cc
      ];
    }

-- none runs
pub applied_resting : (node : Node) (j : List Entry) (ended free : ℕ) (activity : Activity) →
    ((f : _) → activity ≢ Running f) → Reads node j ended activity free → IsApplied j false
applied_resting node j ended free Between not h = record {
  runs = λ opened on found cut. let b = h.begun in let s = h.stopped in absurd (omega (arith, b, s, opened));
  rests = λ no. refl;
}
applied_resting node j ended free (Running filter) not h = absurd (not filter refl)
applied_resting node j ended free Off not h = record {
  runs = λ opened on found cut. let e : true ≡ false =
      sym h.active.0 ∙ on in absurd cc;
  rests = λ no. refl;
}
applied_resting node j ended free OffAndAsked not h = record {
  runs = λ opened on found cut. let e : true ≡ false =
      sym h.active.0 ∙ on in absurd cc;
  rests = λ no. refl;
}

-- one that changed nothing, and one that did
pub applies_none : (j : List Entry) → IsApplied j false → Applies j j
applies_none j is = record { aborts = record { changed = false; whole = sym (append-nil j) }; is = is }

pub applies_one : (j k : List Entry) → k ≡ j ++ Abort ∷ [] → IsApplied j true → Applies j k
applies_one j k e is = record { aborts = record { changed = true; whole = e }; is = is }
