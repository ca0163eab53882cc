-- Links of a node in one thread of which the next has the queues of the first, where something is given then.
use Rattle.std.proofs.Common.{◌≡◌, ℕ, suc, ◌+◌, ◌<◌, ◌≤◌, [], ◌∷◌, ◌++◌, length, min, sym, ap, ◌∙◌, subst}
use Rattle.std.proofs.Common.{append-nil, inl, inr, arith}
use Rattle.std.specs.Prelude.{◌≢◌, ◌⊎◌}
use Rattle.std.proofs.lemmas.Bool.{cases_eq}
use Rattle.sja_journal.specs.declared.up.Up.{Up}
use Rattle.sja_journal.specs.Lists.{Lists, OthersStand, Carries, with_given}
use Rattle.sja_link.specs.Deques.{Deques, Queues, nothing_lies, AreLinks, Lies, on_link, left_on}
use Rattle.sja_link.specs.Deques.{queues_on, down_on, up_on}
use Rattle.sja_link.specs.Inside.Queues.{IsMoved}
use Rattle.sja_link.proofs.QueuedLinks.Hand.{hand_here, hand_else}
use Rattle.sja_link.proofs.QueuedLinks.Left.{left_both, left_here, left_else, left_more}
use Rattle.sja_link.proofs.QueuedLinks.Lying.{not_empty}

module _ (s m : Deques) (a : ℕ) (now : Queues) (v : IsMoved s m) (at : s.first + length s.others ≡ a)
    (there : a ≤ s.starts) (taken : up_on s s.first ≡ []) (some : 0 < length s.others) where
  abbrev t : Deques
  t = record m { here = now }

  first : m.first ≡ suc s.first
  first = v.first

  many : length m.others ≡ length s.others
  many = v.many

  hand : m.at ≡ a
  hand = v.at ∙ at

  left_now : (b : ℕ) → left_on m.older b ≡ left_on s.older b ++ left_on (on_link s.first (queues_on s s.first).down) b
  left_now b = ap (λ l. left_on l b) v.older ∙ left_both s.older (on_link s.first (queues_on s s.first).down) b

  -- on each other link lies what lay there, or it is left there
  other : (b : ℕ) → b ≢ a → queues_on t b ≡ queues_on m b
  other b differ = hand_else t b (λ e. differ (sym e ∙ hand)) ∙ sym (hand_else m b (λ e. differ (sym e ∙ hand)))

  down_still : (b : ℕ) → b ≢ a → down_on t b ≡ down_on s b
  down_still b differ = elim (cases_eq b s.first) [
    | inl e ↦
        ap (λ l. l ++ (queues_on t b).down) (left_now b
        ∙ ap (λ l. left_on s.older b ++ l) (ap (λ n. left_on (on_link s.first (queues_on s s.first).down) n) e
        ∙ left_here s.first (queues_on s s.first).down ∙ ap (λ n. (queues_on s n).down) (sym e)))
        ∙ ap (λ (q : Queues). down_on s b ++ q.down) (other b differ ∙ ap (λ n. queues_on m n) e ∙ v.none)
        ∙ append-nil (down_on s b)
    | inr o ↦
        ap (λ l. l ++ (queues_on t b).down) (left_now b
        ∙ ap (λ l. left_on s.older b ++ l) (left_else s.first b (queues_on s s.first).down (λ e. o (sym e)))
        ∙ append-nil (left_on s.older b))
        ∙ ap (λ (q : Queues). left_on s.older b ++ q.down) (other b differ ∙ v.lies b o)
  ]

  up_still : (b : ℕ) → b ≢ a → up_on t b ≡ up_on s b
  up_still b differ = elim (cases_eq b s.first) [
    | inl e ↦
        ap (λ (q : Queues). q.up) (other b differ ∙ ap (λ n. queues_on m n) e ∙ v.none)
        ∙ sym taken ∙ ap (λ n. up_on s n) (sym e)
    | inr o ↦ ap (λ (q : Queues). q.up) (other b differ ∙ v.lies b o)
  ]

  links_moved : AreLinks s → AreLinks t
  links_moved h = let starts = v.starts in let from = h.from in record {
    from = omega (arith, first);
    many = many ∙ h.many ∙ ap (λ n. min n 64) (sym starts);
    few = omega (arith, many, first, at, there, starts);
    none_left = λ b where_is. ap (λ l. left_on l b) v.older
        ∙ left_more s.older s.first b (queues_on s s.first).down (not_first from b where_is)
        (h.none_left b (earlier b where_is));
  }
    where
      not_first : 0 < s.first → (b : ℕ) → (b ≡ 0) ⊎ (m.first ≤ b) → s.first ≡ b → ⊥
      not_first from b (inl none) e = omega (arith, from, none, e)
      not_first from b (inr more) e = omega (arith, more, e, first)

      earlier : (b : ℕ) → (b ≡ 0) ⊎ (m.first ≤ b) → (b ≡ 0) ⊎ (s.first ≤ b)
      earlier b (inl none) = inl none
      earlier b (inr more) = inr (omega (arith, more, first))

  pub others_begun : OthersStand Lies a s t
  others_begun b differ l h = record {
    down = h.down ∙ ap (λ d. l.got ++ d) (sym (down_still b differ));
    up = h.up ∙ ap (λ u. l.taken ++ u) (sym (up_still b differ));
    later = λ beyond. h.later (omega (arith, beyond, first, many));
    begun = λ from last. absurd (differ (omega (arith, last, first, many, at)));
    links = links_moved h.links;
  }

  -- nothing lay on the next one
  pub was_empty : m.here ≡ queues_on s a
  was_empty = sym (hand_here m a hand) ∙ v.lies a (λ e. omega (arith, e, at, some))

  pub lies_begun : (x : Up) → m.here ≡ nothing_lies → now ≡ record (m.here) { up = m.here.up ++ x ∷ [] } →
      Carries Lies a s t (λ l. with_given l x)
  lies_begun x empty is l h =
      let links : AreLinks t = links_moved h.links in
      let lies : queues_on t a ≡ record { down = []; up = x ∷ [] } =
      hand_here t a hand ∙ is ∙ ap (λ (q : Queues). record q { up = q.up ++ x ∷ [] }) empty in
      let none : left_on t.older a ≡ [] = links.none_left a (inr (omega (arith, at, some, first))) in
      subst (λ (k : Lists). Lies t a (with_given k x)) (sym (h.later (omega (arith, at)))) (record {
        down = sym (ap (λ d. d ++ (queues_on t a).down) none ∙ ap (λ (q : Queues). q.down) lies);
        up = sym (ap (λ (q : Queues). q.up) lies);
        later = λ beyond. absurd (omega (arith, beyond, many, first, at));
        begun = λ from last. not_empty [] x;
        links = links;
      })
