-- Runs of gets.
use Rattle.std.proofs.Common.{◌≡◌, ◌≤◌, arith, ℕ, Bool, true, false, List, [], ◌∷◌, ◌++◌, refl, sym, ap, ◌∙◌, subst}
use Rattle.std.proofs.Common.{append_assoc, append-nil}
use Rattle.sja_journal.specs.declared.down.Down.{Down}
use Rattle.sja_journal.specs.declared.down.Down.TheVariants.{Message, Off}
use Rattle.sja_journal.specs.Lists.{Lists, messages}
use Rattle.sja_link.specs.Looking.{with_gots, off_among, Pulls, one_if}
use Rattle.sja_link.proofs.JournalEntries.ListCounts.{messages_both}

pub off_both : (off : Bool) (xs ys : List Down) → off_among off (xs ++ ys) ≡ off_among (off_among off xs) ys
off_both off [] ys = refl
off_both off (Message m ∷ xs) ys = off_both off xs ys
off_both off (Off ∷ xs) ys = off_both true xs ys

-- bus-off stays known
pub off_stays : (xs : List Down) → off_among true xs ≡ true
off_stays [] = refl
off_stays (Message m ∷ xs) = off_stays xs
off_stays (Off ∷ xs) = off_stays xs

pub pulls_refl : {E : Type 0} (stands : E → Lists → Type 0) (e : E) (held : List (List ℕ)) (off : Bool) →
    Pulls stands e e held held off off
pulls_refl stands e held off = record {
  got = [];
  lists = λ l s. subst (λ (xs : List Down). stands e (record l { got = xs })) (sym (append-nil l.got)) s;
  told = sym (append-nil held);
  off_is = refl;
}

pub pulls_trans : {E : Type 0} (stands : E → Lists → Type 0) (a b c : E) (h i j : List (List ℕ)) (x y z : Bool) →
    Pulls stands a b h i x y → Pulls stands b c i j y z → Pulls stands a c h j x z
pulls_trans stands a b c h i j x y z p q = record {
  got = p.got ++ q.got;
  lists = λ l s. subst (λ (xs : List Down). stands c (record l { got = xs })) (append_assoc l.got p.got q.got)
      (q.lists (with_gots l p.got) (p.lists l s));
  told = q.told ∙ ap (λ w. w ++ messages q.got) p.told ∙ append_assoc h (messages p.got) (messages q.got)
      ∙ ap (λ w. h ++ w) (sym (messages_both p.got q.got));
  off_is = q.off_is ∙ ap (λ b. off_among b q.got) p.off_is ∙ sym (off_both x p.got q.got);
}

pub one_at_most : (b : Bool) → one_if b ≤ 1
one_at_most true = omega arith
one_at_most false = omega arith
