-- An item that was refused is the one that was given last.
use Rattle.std.proofs.Common.{◌≡◌, ℕ, suc, List, [], ◌∷◌, ◌++◌, refl, sym, ap, ◌∙◌, cond, append_assoc}
use Rattle.std.proofs.Common.{append-nil, arith, inl, inr}
use Rattle.std.specs.Prelude.{◌==◌, ◌≢◌, Bool}
use Rattle.std.proofs.lemmas.Bool.{cases_eq, ne_eqb, eqb-true}
use Rattle.std.proofs.lemmas.List.{append_cancel_left}
use Rattle.sja_journal.specs.declared.up.Up.{Up}
use Rattle.sja_journal.specs.declared.entry.Entry.{Entry}
use Rattle.sja_journal.specs.Written.{Room}
use Rattle.sja_journal.specs.declared.entry.Entry.TheVariants.{Up as Item}
use Rattle.sja_journal.specs.Accounts.{Account}
use Rattle.sja_link.specs.Deques.{Deques, Lies, up_on}
use Rattle.sja_journal.specs.Parts.{part}
use Rattle.sja_journal.specs.Carried.{taken_of}
use Rattle.sja_journal.specs.declared.bus_fault.BusFault.{BusFault}
use Rattle.sja_journal.specs.Links.{stops_of}
use Rattle.sja_journal.specs.BitEntries.{entries_of_items, AreRead}
use Rattle.sja_bus_rules.specs.Reasons.{RefusesItem}
use Rattle.sja_driver.specs.declared.release.Release.{Release}
use Rattle.sja_driver.specs.TypedActs.{TypedAct, given_in, acts_of}
use Rattle.sja_driver.specs.Holding.{Holds}
use Rattle.lemmas.proofs.Lists.{none_front, none_back}
use Rattle.sja_link.proofs.QueuedLinks.Ends.{ends}
use Rattle.sja_journal.proofs.Growing.Taking.{waiting, adds, taken_adds, AtMostOne, some_none, adds_first, one_is}

-- nothing waits elsewhere
none_waits : (b s : ℕ) (gave : List Up) → (b ≡ suc s → ⊥) → waiting b gave (suc s) ≡ []
none_waits b s gave differ = ap (λ t. cond t gave []) (ne_eqb b (suc s) differ)

some_within : (xs : List Up) (item : Up) (ys : List Up) → (xs ++ item ∷ []) ++ ys ≡ [] → ⊥
some_within xs item ys e = some_none item [] (none_back xs (item ∷ []) (none_front (xs ++ item ∷ []) ys e))

-- of at most one that waited one came next: then none was taken before it
pub just_refused : (j : List Entry) (us gave : List Up) (b s : ℕ) (item : Up) (up : ℕ → List Up) → AreRead j us →
    AtMostOne gave →
    ((a : ℕ) → a ≢ s → waiting b gave (suc a) ≡ adds j us (suc a) ++ up a) →
    waiting b gave (suc s) ≡ (adds j us (suc s) ++ item ∷ []) ++ up s → (us ≡ []) × (gave ≡ item ∷ [])
just_refused j [] gave b s item up read few others next = (refl, (one_is (b == suc s) item gave (up s) few next).1)
just_refused j (u ∷ us) gave b s item up read few others next = elim (cases_eq s (stops_of j)) [
  | inl q ↦
      let first : adds j (u ∷ us) (suc s) ≡ u ∷ adds (j ++ Item u ∷ []) us (suc (stops_of j)) =
      ap (λ n. adds j (u ∷ us) (suc n)) q ∙ adds_first j u us read.0 in
      let one = one_is (b == suc s) u gave ((adds (j ++ Item u ∷ []) us (suc (stops_of j)) ++ item ∷ []) ++ up s) few
      (next ∙ ap (λ l. (l ++ item ∷ []) ++ up s) first) in
      absurd (some_within (adds (j ++ Item u ∷ []) us (suc (stops_of j))) item (up s) one.2)
  | inr differ ↦
      let one = one_is (b == suc (stops_of j)) u gave (adds (j ++ Item u ∷ []) us (suc (stops_of j)) ++ up (stops_of j))
      few
      (others (stops_of j) (λ e. differ (sym e)) ∙ ap (λ l. l ++ up (stops_of j)) (adds_first j u us read.0)) in
      let is : b ≡ suc (stops_of j) = eqb-true b (suc (stops_of j)) one.0 in
      absurd (some_within (adds j (u ∷ us) (suc s)) item (up s) (sym next
      ∙ none_waits b s gave (λ e. differ (omega (arith, e, is)))))
]

-- a node whose links stand for what its driver gave, where at most one item waited
pub refused_is : {j k : List Entry} {acts : List TypedAct} {releases : List Release} {left : List (List (List ℕ))}
    {ended : ℕ} {off : Bool} {links after : Deques} {room : Room} {node : ℕ} {f : BusFault}
    (gave : List Up) (b : ℕ) →
    Holds Lies acts releases left ended off j links → AtMostOne gave →
    ((a : ℕ) → given_in (acts_of acts a) ≡ taken_of (part j a) ++ waiting b gave a) →
    (r : RefusesItem ends room j k links after node f) → (k ≡ j) × (gave ≡ r.item ∷ [])
refused_is {j} {k} {acts} {after = after} gave b holds few given r =
    let acc : ℕ → Account = λ a. record { got = holds.got a; given = given_in (acts_of acts (suc a)) } in
    let us = r.items.items in
    let up : ℕ → List Up = λ a. up_on after (suc a) in
    let taken : (a : ℕ) → taken_of (part k a) ≡ taken_of (part j a) ++ adds j us a =
    λ a. ap (λ (l : List Entry). taken_of (part l a)) r.items.whole ∙ taken_adds j us a in
    let others : (a : ℕ) → a ≢ stops_of k → waiting b gave (suc a) ≡ adds j us (suc a) ++ up a =
    λ a differ. append_cancel_left (taken_of (part j (suc a))) (waiting b gave (suc a)) (adds j us (suc a) ++ up a)
    (sym (given (suc a)) ∙ (r.others acc a holds.kept differ).up ∙ ap (λ l. l ++ up a) (taken (suc a))
    ∙ append_assoc (taken_of (part j (suc a))) (adds j us (suc a)) (up a)) in
    let s = stops_of k in
    let next : waiting b gave (suc s) ≡ (adds j us (suc s) ++ r.item ∷ []) ++ up s =
    append_cancel_left (taken_of (part j (suc s))) (waiting b gave (suc s)) ((adds j us (suc s) ++ r.item ∷ []) ++ up s)
    (sym (given (suc s)) ∙ (r.shown acc holds.kept).up ∙ ap (λ l. (l ++ r.item ∷ []) ++ up s) (taken (suc s))
    ∙ ap (λ l. l ++ up s) (append_assoc (taken_of (part j (suc s))) (adds j us (suc s)) (r.item ∷ []))
    ∙ append_assoc (taken_of (part j (suc s))) (adds j us (suc s) ++ r.item ∷ []) (up s)) in
    let both = just_refused j us gave b s r.item up r.items.read few others next in
    (r.items.whole ∙ ap (λ (l : List Up). j ++ entries_of_items l) both.0 ∙ append-nil j, both.1)
