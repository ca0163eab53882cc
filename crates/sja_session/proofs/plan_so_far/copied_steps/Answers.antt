use Rattle.std.proofs.Common.{◌≡◌, ◌+◌, ◌<◌, ◌∙◌, ℕ, List, [], ◌∷◌, ◌++◌, Vec, Global, length, map, take, get_or, ap}
use Rattle.std.proofs.Common.{rules, sym, subst}
use Rattle.std.proofs.lemmas.List.{map-append, take_more}
use Rattle.sja_journal.specs.BoundedHistories.{KeepsAll, HistoryValue}
use Rattle.sja_steps.specs.declared.step.Step.{Step}
use Rattle.sja_session.proofs.plan_so_far.copied_steps.Goals as goal

-- one more that looks as the next one of the list does
looks_alike : {A B C : Type 0} (f : A → C) (g : B → C) (old new : List A) (nodes : List B) (i : ℕ) (item : B) (x : A) →
    i < length nodes → item ≡ get_or nodes i item → f x ≡ g item → new ≡ old ++ x ∷ [] →
    map f old ≡ map g (take i nodes) → map f new ≡ map g (take (i + 1) nodes)
looks_alike f g old new nodes i item x less is same is_new so_far =
    ap (map f) is_new ∙ map-append f old (x ∷ [])
    ∙ ap (λ l. l ++ (f x ∷ [])) so_far
    ∙ ap (λ y. map g (take i nodes) ++ (y ∷ [])) same
    ∙ ap (λ y. map g (take i nodes) ++ (g y ∷ [])) is
    ∙ sym (map-append g (take i nodes) (get_or nodes i item ∷ []))
    ∙ sym (ap (map g) (take_more nodes i item less))

pub as_slice-requires : goal.as_slice-requires
as_slice-requires c = record {
  kept = subst (λ (l : HistoryValue Step). KeepsAll l.room) (sym c.steps-item.is)
      (c.requires c.loop-steps.steps-index c.steps-item.result c.loop-steps-test.true);
}

pub loop-steps-preserved : goal.loop-steps-preserved
loop-steps-preserved c = record {
  count = search rules;
  room = search rules;
  made = looks_alike (λ (steps : Vec Step Global). steps.items) (λ (steps : HistoryValue Step). steps.items)
      c.loop-steps.list.items c.push_reserved.new.self.items c.args.nodes.now
      c.loop-steps.steps-index c.steps-item.result c.in_ok-copied_list.field-0
      c.loop-steps-test.true c.steps-item.is (c.in_ok-copied_list.ensures ∙ c.as_slice.ensures)
      c.push_reserved.ensures.items c.loop-steps.invariant.made;
}
