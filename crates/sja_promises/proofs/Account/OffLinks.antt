-- What is left on the links of a node in one thread at the end of a run.
use Rattle.std.proofs.Common.{◌≡◌, ℕ, suc, ◌+◌, ◌<◌, Bool, cond, List, [], ◌∷◌, ◌++◌, length, refl, sym, ap, ◌∙◌}
use Rattle.std.proofs.Common.{append_assoc, append-nil, arith, inl, inr}
use Rattle.std.proofs.lemmas.Bool.{cases_eq, eq-eqb, ne_eqb}
use Rattle.sja_journal.specs.declared.down.Down.{Down}
use Rattle.sja_link.specs.declared.older_down.OlderDown.{OlderDown}
use Rattle.sja_link.specs.Deques.{Deques, Queues, nothing_lies, among, on_link, all_down, left_on, queues_on, down_on}
use Rattle.sja_link.proofs.QueuedLinks.Left.{left_both, left_here, left_else}

-- what lies on links in order is none of it on the link of an activation before them
left_before : (queues : List Queues) (first a : ℕ) → a < first → left_on (all_down first queues) a ≡ []
left_before [] first a less = refl
left_before (q ∷ queues) first a less =
    left_both (on_link first q.down) (all_down (suc first) queues) a
    ∙ ap (λ l. l ++ left_on (all_down (suc first) queues) a) (left_else first a q.down (λ e. omega (arith, e, less)))
    ∙ left_before queues (suc first) a (omega (arith, less))

-- and on that of one of them it is what lies there
left_among : (queues : List Queues) (first a : ℕ) → left_on (all_down first queues) a ≡ (among first queues a).down
left_among [] first a = refl
left_among (q ∷ queues) first a =
    left_both (on_link first q.down) (all_down (suc first) queues) a ∙ elim (cases_eq first a) [
      | inl e ↦
          ap (λ b. left_on (on_link first q.down) b ++ rest a) (sym e)
          ∙ ap (λ l. l ++ rest a) (left_here first q.down)
          ∙ ap (λ l. q.down ++ l) (left_before queues (suc first) a (omega (arith, e))) ∙ append-nil q.down
          ∙ ap (λ (b : Bool). (cond b q (among (suc first) queues a)).down) (sym (eq-eqb first a e))
      | inr differ ↦
          ap (λ l. l ++ rest a) (left_else first a q.down differ) ∙ left_among queues (suc first) a
          ∙ ap (λ (b : Bool). (cond b q (among (suc first) queues a)).down) (sym (ne_eqb first a differ))
    ]
  where
    rest : ℕ → List Down
    rest b = left_on (all_down (suc first) queues) b

-- where nothing lies in the place of the link at hand, what lies on that and on the others is what lies on each
with_here : (s : Deques) → among s.first s.others s.at ≡ nothing_lies → (a : ℕ) →
    (among s.first s.others a).down ++ left_on (on_link s.at s.here.down) a ≡ (queues_on s a).down
with_here s place a = elim (cases_eq s.at a) [
  | inl e ↦
      ap (λ b. (among s.first s.others b).down ++ left_on (on_link s.at s.here.down) b) (sym e)
      ∙ ap (λ (q : Queues). q.down ++ left_on (on_link s.at s.here.down) s.at) place ∙ left_here s.at s.here.down
      ∙ ap (λ (b : Bool). (cond b s.here (among s.first s.others a)).down) (sym (eq-eqb s.at a e))
  | inr differ ↦
      ap (λ l. (among s.first s.others a).down ++ l) (left_else s.at a s.here.down differ)
      ∙ append-nil (among s.first s.others a).down
      ∙ ap (λ (b : Bool). (cond b s.here (among s.first s.others a)).down) (sym (ne_eqb s.at a differ))
]

-- what was left on the links before, then what lies on those that have queues, and that on the link at hand last
abbrev pub whole_left : Deques → List OlderDown
whole_left s = (s.older ++ all_down s.first s.others) ++ on_link s.at s.here.down

pub left_all : (s : Deques) → among s.first s.others s.at ≡ nothing_lies → (a : ℕ) →
    left_on (whole_left s) a ≡ down_on s a
left_all s place a =
    left_both (s.older ++ all_down s.first s.others) (on_link s.at s.here.down) a
    ∙ ap (λ l. l ++ here) (left_both s.older (all_down s.first s.others) a
    ∙ ap (λ l. left_on s.older a ++ l) (left_among s.others s.first a))
    ∙ append_assoc (left_on s.older a) (among s.first s.others a).down here
    ∙ ap (λ l. left_on s.older a ++ l) (with_here s place a)
  where
    here : List Down
    here = left_on (on_link s.at s.here.down) a

-- where those come in two parts
links_both : (x y : List Queues) (first second : ℕ) → second ≡ first + length x →
    all_down first x ++ all_down second y ≡ all_down first (x ++ y)
links_both [] y first second at = ap (λ n. all_down n y) (omega (arith, at))
links_both (q ∷ x) y first second at =
    append_assoc (on_link first q.down) (all_down (suc first) x) (all_down second y)
    ∙ ap (λ l. on_link first q.down ++ l) (links_both x y (suc first) second (omega (arith, at)))

pub left_in_parts : (s : Deques) (older was now : List OlderDown) (front back : List Queues) (a b : ℕ) →
    older ≡ s.older → front ++ back ≡ s.others → a ≡ s.first → b ≡ s.first + length front →
    was ≡ older ++ all_down a front → now ≡ was ++ all_down b back → now ≡ s.older ++ all_down s.first s.others
left_in_parts s older was now front back a b is whole first second before after =
    after ∙ ap (λ l. l ++ all_down b back) (before ∙ ap (λ n. older ++ all_down n front) first)
    ∙ append_assoc older (all_down s.first front) (all_down b back) ∙ ap (λ l. l ++ both) is
    ∙ ap (λ l. s.older ++ l) (links_both front back s.first b second ∙ ap (all_down s.first) whole)
  where
    both : List OlderDown
    both = all_down s.first front ++ all_down b back

-- and what lies on the link at hand, in two parts too
link_both : (a : ℕ) (x y : List Down) → on_link a x ++ on_link a y ≡ on_link a (x ++ y)
link_both a [] y = refl
link_both a (d ∷ x) y = ap (λ l. record { activation = a; item = d } ∷ l) (link_both a x y)

pub here_in_parts : (s : Deques) (was first now : List OlderDown) (front back : List Down) (a b : ℕ) →
    front ++ back ≡ s.here.down → a ≡ s.at → b ≡ s.at → was ≡ s.older ++ all_down s.first s.others →
    first ≡ was ++ on_link a front → now ≡ first ++ on_link b back → now ≡ whole_left s
here_in_parts s was first now front back a b whole at again is before after =
    after ∙ ap (λ n. first ++ on_link n back) again
    ∙ ap (λ l. l ++ on_link s.at back) (before ∙ ap (λ n. was ++ on_link n front) at)
    ∙ append_assoc was (on_link s.at front) (on_link s.at back)
    ∙ ap (λ l. was ++ l) (link_both s.at front back ∙ ap (on_link s.at) whole)
    ∙ ap (λ l. l ++ on_link s.at s.here.down) is
