-- The links of a node after a step and a taking.
use Rattle.std.proofs.Common.{◌≡◌, ◌≢◌, ℕ, suc, List, [], ◌++◌, sym, ap, ◌∙◌, subst, append_assoc}
use Rattle.std.proofs.Common.{append-nil}
use Rattle.std.specs.Prelude.{Bool}
use Rattle.std.proofs.lemmas.List.{append_cancel_left}
use Rattle.sja_journal.specs.declared.up.Up.{Up}
use Rattle.sja_journal.specs.declared.entry.Entry.{Entry}
use Rattle.sja_journal.specs.Accounts.{Account, account}
use Rattle.sja_link.specs.Deques.{Deques, Lies, up_on}
use Rattle.sja_journal.specs.Parts.{part}
use Rattle.sja_journal.specs.Carried.{taken_of}
use Rattle.sja_journal.specs.Links.{stops_of, Kept}
use Rattle.sja_journal.specs.BitEntries.{entries_of_items, MayHaveItems}
use Rattle.sja_regs.specs.declared.registers.Registers.{Registers}
use Rattle.sja_driver.specs.declared.logged_driver.LoggedDriver.{LoggedDriver}
use Rattle.sja_driver.specs.declared.release.Release.{Release}
use Rattle.sja_driver.specs.TypedActs.{TypedAct, given_in, acts_of}
use Rattle.sja_driver.specs.Holding.{Holds, HoldsBy}
use Rattle.sja_driver.specs.LoggedDrivers.{driver_of, log_of}
use Rattle.sja_driver.specs.Linking.{IsLevel, IsLinked}
use Rattle.sja_promises.specs.Nodes.{IsNode}
use Rattle.sja_driver.specs.Tracing.{IsTraced}
use Rattle.sja_journal.proofs.Growing.Taking.{waiting, adds, taken_adds, AtMostOne, just_taken}

-- a taking as one node has it: items that waited were taken, its links stand for its journal still, and nothing waits
-- on the link that is read
pub record Gathers (j k : List Entry) (links after : Deques) : Type 0 where
  pub items : MayHaveItems j k
  pub kept : (h : ℕ → Account) → Kept Lies j links h → Kept Lies k after h
  pub dry : up_on after (suc (stops_of k)) ≡ []

pub lies_after : {j : List Entry} (k : List Entry) {acts : List TypedAct} {releases : List Release}
    {left : List (List (List ℕ))} {ended : ℕ} {off : Bool} {links : Deques} (after : Deques)
    (holds : Holds Lies acts releases left ended off j links) →
    ((h : ℕ → Account) → Kept Lies j links h → Kept Lies k after h) → (a : ℕ) →
    Lies after (suc a) (account k (suc a) (record { got = holds.got a; given = given_in (acts_of acts (suc a)) }))
lies_after k {acts} after holds kept =
    kept (λ a. record { got = holds.got a; given = given_in (acts_of acts (suc a)) }) holds.kept

-- just what waited was taken
pub items_are : {j k : List Entry} {acts : List TypedAct} {releases : List Release} {left : List (List (List ℕ))}
    {ended : ℕ} {off : Bool} {links after : Deques} → Holds Lies acts releases left ended off j links →
    Gathers j k links after → (gave : List Up) (b : ℕ) → AtMostOne gave → (gave ≢ [] → b ≡ suc (stops_of j)) →
    ((a : ℕ) → given_in (acts_of acts a) ≡ taken_of (part j a) ++ waiting b gave a) → k ≡ j ++ entries_of_items gave
items_are {j} {k} {after = after} holds t gave b few here given =
    let items = t.items in let up : ℕ → List Up = λ a. up_on after (suc a) in
    let whole : (a : ℕ) → waiting b gave (suc a) ≡ adds j items.items (suc a) ++ up a = λ a.
    append_cancel_left (taken_of (part j (suc a))) (waiting b gave (suc a)) (adds j items.items (suc a) ++ up a)
    (sym (given (suc a)) ∙ (lies_after k after holds t.kept a).up
    ∙ ap (λ (l : List Entry). taken_of (part l (suc a)) ++ up a) items.whole
    ∙ ap (λ (l : List Up). l ++ up a) (taken_adds j items.items (suc a))
    ∙ append_assoc (taken_of (part j (suc a))) (adds j items.items (suc a)) (up a)) in
    let last : up (stops_of (j ++ entries_of_items items.items)) ≡ [] =
    subst (λ (l : List Entry). up (stops_of l) ≡ []) items.whole t.dry in
    items.whole ∙ ap (λ (us : List Up). j ++ entries_of_items us)
    (just_taken j items.items gave b up items.read few here whole last)

-- nothing waits any more
pub linked_after : {j k : List Entry} {acts : List TypedAct} {links after : Deques}
    (driver : LoggedDriver) (holds : HoldsBy Lies acts (driver_of driver) (log_of driver) j links) →
    ((h : ℕ → Account) → Kept Lies j links h → Kept Lies k after h) →
    ((a : ℕ) → given_in (acts_of acts a) ≡ taken_of (part k a)) → IsLevel k acts → IsLinked k acts driver after
linked_after {k = k} {after = after} driver holds kept given level =
    let lies = lies_after k after holds kept in record {
      holds = record { got = holds.got; kept = lies; told = holds.told; off_is = holds.off_is; later = holds.later };
      taken = λ a. sym (append_cancel_left (taken_of (part k (suc a))) [] (up_on after (suc a))
          (append-nil (taken_of (part k (suc a))) ∙ sym (given (suc a)) ∙ (lies a).up));
      level = level;
    }

-- the node with its driver and its links as they are now, beside steps of which it has done the same
pub node_with : {version : ℕ} {old size : ℕ} {j : List Entry} {acts : List TypedAct} {was now : LoggedDriver}
    {p : Registers} {links after : Deques} → IsNode version old j acts was p links →
    IsTraced version size acts now → IsLinked j acts now after → IsNode version size j acts now p after
node_with h traced linked = record {
  traced = traced;
  linked = linked;
  ported = h.ported;
  asked = h.asked;
  counted = h.counted;
  done = h.done;
  in_time = h.in_time;
  registers = h.registers;
}
