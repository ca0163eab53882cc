use Rattle.std.proofs.Common.{rules, ◌≡◌, false, true, List, [], ◌++◌, inl, inr, refl, sym, ap, ◌∙◌, subst, append-nil}
use Rattle.std.proofs.lemmas.Bool.{eqb-false}
use Rattle.std.specs.Prelude.{IsOk}
use Rattle.rtrb.specs.Ring.{received, sent}
use Rattle.sja_journal.specs.declared.down.Down.{Down}
use Rattle.sja_journal.specs.Lists.{Lists}
use Rattle.sja_promises.specs.LeftDown.{on_link}
use Rattle.sja_threads.proofs.End.GoneThrough.{some_left}
use Rattle.sja_threads.proofs.left_on_links.settle_link.Goals as goal

pub returns-clause-left : goal.returns-clause-left
returns-clause-left c = (
  c.in-Ok.settled.down.items,
  (λ l bus driver.
      let s = c.in-Ok.ensures.left l (c.end_bus.ensures.lists l bus) (c.end_driver.ensures.lists l driver) in
      let none : c.in-Ok.settled.up.items ≡ [] = search rules in
      (sym s.0, sym s.1 ∙ ap (λ u. l.taken ++ u) none ∙ append-nil l.taken)),
  c.in_ok-push.ensures.pushed
      ∙ ap (λ (d : List Down). c.args.left.now ++ on_link c.args.activation d) c.as_slice.ensures.value,
)

-- an end gave no account
pub returns-in_default-clause-fault : goal.returns-in_default-clause-fault
returns-in_default-clause-fault c = inr (
  refl,
  inl (record {
    bus = c.end_bus.result;
    driver = c.end_driver.result;
    ends_bus = c.end_bus.ensures.ends;
    ends_driver = c.end_driver.ensures.ends;
    none = λ both.
        let ok = subst (λ r. IsOk r) c.in_default.is (c.settle.ensures.settled.1 both) in
        absurd (let no : false ≡ true = ok in cc);
  }),
)

-- or an item was left
pub returns-then-not-is_empty-clause-fault : goal.returns-then-not-is_empty-clause-fault
returns-then-not-is_empty-clause-fault c =
    let b = c.args.bus in
    let d = c.args.driver in
    let l : Lists = record { put = sent b.down; taken = received b.up; got = received d.down; given = sent d.up } in
    let s = c.in-Ok.ensures.left l (c.end_bus.ensures.lists l (refl, refl))
    (c.end_driver.ensures.lists l (refl, refl)) in
    inr (
      refl,
      inr (record {
        left = c.in-Ok.settled.up.items;
        some = some_left c.in-Ok.settled.up.items (eqb-false _ _ (sym c.is_empty.ensures ∙ c.if-not-is_empty.true));
        whole = sym s.1;
      }),
    )
