-- What lies on the links of a node in one thread, call by call.
use Rattle.std.proofs.Common.{◌≡◌, ℕ, ◌+◌, ◌<◌, ◌≤◌, List, [], ◌∷◌, ◌++◌, length, sym, ap, ◌∙◌, subst, append_assoc}
use Rattle.std.proofs.Common.{min, inl, inr, refl, arith}
use Rattle.std.specs.Prelude.{◌≢◌, ◌⊎◌}
use Rattle.sja_journal.specs.declared.down.Down.{Down}
use Rattle.sja_journal.specs.declared.up.Up.{Up}
use Rattle.sja_journal.specs.Lists.{Lists, OthersStand, Carries, with_taken, with_got, with_given}
use Rattle.sja_link.specs.Deques.{Deques, Queues, nothing_lies, AreLinks, IsAside, Lies, left_on}
use Rattle.sja_link.specs.Deques.{queues_on}
use Rattle.sja_link.specs.Inside.Queues.{IsTurned}
use Rattle.sja_link.proofs.QueuedLinks.Among.{among_before, among_beyond}
use Rattle.sja_link.proofs.QueuedLinks.Hand.{hand_here, hand_else}

-- a list with something at its end
pub not_empty : {T : Type 0} (xs : List T) (x : T) → xs ++ x ∷ [] ≢ []
not_empty [] x e = cc
not_empty (y ∷ xs) x e = cc

-- on a link that has no queues nothing lies
pub aside_nothing : (s : Deques) (a : ℕ) → s.at ≢ a → IsAside s a → queues_on s a ≡ nothing_lies
aside_nothing s a differ (inl before) = hand_else s a differ ∙ among_before s.others s.first a before
aside_nothing s a differ (inr beyond) = hand_else s a differ ∙ among_beyond s.others s.first a beyond

-- ---- a call on a link that has queues, which is at hand

pub record IsReady (s m : Deques) (a : ℕ) : Type 0 where
  pub at : m.at ≡ a
  pub lies : (b : ℕ) → queues_on m b ≡ queues_on s b
  pub first : m.first ≡ s.first
  pub many : length m.others ≡ length s.others
  pub older : m.older ≡ s.older
  pub starts : m.starts ≡ s.starts
  pub hand : (a ≡ 0) ⊎ (s.first ≤ a)
  pub before : a < s.first + length s.others

pub ready_turned : (s m : Deques) (a : ℕ) → IsTurned s m a → IsReady s m a
ready_turned s m a t = record {
  at = t.at;
  lies = t.lies;
  first = t.first;
  many = t.many;
  older = t.older;
  starts = t.starts;
  hand = inr t.from;
  before = t.before;
}

pub ready_here : (s : Deques) (a : ℕ) → s.at ≡ a → (s.at ≡ 0) ⊎ (s.first ≤ s.at) →
    s.at < s.first + length s.others → IsReady s s a
ready_here s a at hand before = record {
  at = at;
  lies = λ b. refl;
  first = refl;
  many = refl;
  older = refl;
  starts = refl;
  hand = subst (λ n. (n ≡ 0) ⊎ (s.first ≤ n)) at hand;
  before = omega (arith, at, before);
}

module _ (s m : Deques) (a : ℕ) (now : Queues) (r : IsReady s m a) where
  abbrev t : Deques
  t = record m { here = now }

  first : m.first ≡ s.first
  first = r.first

  many : length m.others ≡ length s.others
  many = r.many

  here : queues_on t a ≡ now
  here = hand_here t a r.at

  was_is : queues_on s a ≡ m.here
  was_is = sym (r.lies a) ∙ hand_here m a r.at

  there_still : (b : ℕ) → b ≢ a → queues_on t b ≡ queues_on s b
  there_still b differ =
      hand_else t b (λ e. differ (sym e ∙ r.at)) ∙ sym (hand_else m b (λ e. differ (sym e ∙ r.at))) ∙ r.lies b

  left_still : (b : ℕ) → left_on t.older b ≡ left_on s.older b
  left_still b = ap (λ l. left_on l b) r.older

  links_still : AreLinks s → AreLinks t
  links_still h =
      let from = h.from in let few = h.few in let starts = r.starts in record {
        from = omega (arith, from, first);
        many = many ∙ h.many ∙ ap (λ n. min n 64) (sym starts);
        few = omega (arith, few, first, many, starts);
        none_left = λ b where_is. left_still b ∙ h.none_left b (subst (λ n. (b ≡ 0) ⊎ (n ≤ b)) first where_is);
      }

  pub others_still : OthersStand Lies a s t
  others_still b differ l h = record {
    down = h.down ∙ ap (λ d. l.got ++ d) (ap (λ x. x ++ (queues_on s b).down) (sym (left_still b))
        ∙ ap (λ (q : Queues). left_on t.older b ++ q.down) (sym (there_still b differ)));
    up = h.up ∙ ap (λ (q : Queues). l.taken ++ q.up) (sym (there_still b differ));
    later = λ beyond. h.later (omega (arith, beyond, first, many));
    begun = λ more last. h.begun (omega (arith, more, first)) (omega (arith, last, first, many));
    links = links_still h.links;
  }

  -- what this link stands for then
  lies_now : (l k : Lists) → Lies s a l → k.put ≡ k.got ++ (left_on s.older a ++ now.down) →
      k.given ≡ k.taken ++ now.up → (l.given ≢ [] → k.given ≢ []) → Lies t a k
  lies_now l k h down up some = record {
    down = down ∙ ap (λ d. k.got ++ d) (ap (λ x. x ++ now.down) (sym (left_still a))
        ∙ ap (λ (q : Queues). left_on t.older a ++ q.down) (sym here));
    up = up ∙ ap (λ (q : Queues). k.taken ++ q.up) (sym here);
    later = λ beyond. let before = r.before in absurd (omega (arith, beyond, first, many, before));
    begun = λ more last. some (h.begun (omega (arith, more, first)) (omega (arith, last, first, many)));
    links = links_still h.links;
  }

  was_down : (l : Lists) → Lies s a l → l.put ≡ l.got ++ (left_on s.older a ++ m.here.down)
  was_down l h = h.down ∙ ap (λ (q : Queues). l.got ++ (left_on s.older a ++ q.down)) was_is

  was_up : (l : Lists) → Lies s a l → l.given ≡ l.taken ++ m.here.up
  was_up l h = h.up ∙ ap (λ (q : Queues). l.taken ++ q.up) was_is

  pub lies_taken : (x : Up) → m.here.up ≡ x ∷ now.up → now.down ≡ m.here.down →
      Carries Lies a s t (λ l. with_taken l x)
  lies_taken x is same l h =
      lies_now l (with_taken l x) h
      (was_down l h ∙ ap (λ d. l.got ++ (left_on s.older a ++ d)) (sym same))
      (was_up l h ∙ ap (λ u. l.taken ++ u) is ∙ sym (append_assoc l.taken (x ∷ []) now.up)) (λ some. some)

  pub lies_got : (x : Down) → m.here.down ≡ x ∷ now.down → now.up ≡ m.here.up →
      Carries Lies a s t (λ l. with_got l x)
  lies_got x is same l h =
      let none : left_on s.older a ≡ [] = h.links.none_left a r.hand in
      lies_now l (with_got l x) h
      (was_down l h ∙ ap (λ e. l.got ++ (e ++ m.here.down)) none ∙ ap (λ d. l.got ++ d) is
      ∙ sym (append_assoc l.got (x ∷ []) now.down)
      ∙ ap (λ e. (l.got ++ x ∷ []) ++ (e ++ now.down)) (sym none))
      (was_up l h ∙ ap (λ u. l.taken ++ u) (sym same)) (λ some. some)

  pub lies_given : (x : Up) → now ≡ record (m.here) { up = m.here.up ++ x ∷ [] } →
      Carries Lies a s t (λ l. with_given l x)
  lies_given x is l h =
      lies_now l (with_given l x) h
      (was_down l h ∙ ap (λ (q : Queues). l.got ++ (left_on s.older a ++ q.down)) (sym is))
      (ap (λ g. g ++ x ∷ []) (was_up l h) ∙ append_assoc l.taken m.here.up (x ∷ [])
      ∙ ap (λ (q : Queues). l.taken ++ q.up) (sym is)) (λ some. not_empty l.given x)
