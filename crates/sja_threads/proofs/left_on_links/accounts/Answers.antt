use Rattle.rtrb.specs.Ring.{received, sent}
use Rattle.sja_journal.specs.Lists.{Lists}
use Rattle.std.proofs.Common.{◌≡◌, false, true, inl, refl, subst, sym}
use Rattle.std.specs.Prelude.{IsOk}
use Rattle.sja_threads.proofs.left_on_links.accounts.Goals as goal

pub returns-in-Ok-clause-yes : goal.returns-in-Ok-clause-yes
returns-in-Ok-clause-yes c = λ is.
    let b = c.args.bus in
    let d = c.args.driver in
    let l : Lists = record { put = sent b.down; taken = received b.up; got = received d.down; given = sent d.up } in
    let first = c.end_bus.ensures.lists l (refl, refl) in
    let second = c.end_driver.ensures.lists l (refl, refl) in
    let s = c.in-Ok.ensures.left l first second in
    (c.in-Ok.field-0.up.items, sym s.1)

pub returns-in-Err-clause-no : goal.returns-in-Err-clause-no
returns-in-Err-clause-no c = λ is. inl (record {
  bus = c.end_bus.result;
  driver = c.end_driver.result;
  ends_bus = c.end_bus.ensures.ends;
  ends_driver = c.end_driver.ensures.ends;
  none = λ both.
      let ok = subst (λ r. IsOk r) c.in-Err.is (c.settle.ensures.settled.1 both) in
      absurd (let no : false ≡ true = ok in cc);
})
