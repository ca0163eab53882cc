-- The acts that a write is, one after the other.
use Rattle.std.proofs.Common.{◌≡◌, ◌≤◌, ◌+◌, ◌++◌, ℕ, Bool, true, false, Option, Some, None, List, [], ◌∷◌, length, map}
use Rattle.std.proofs.Common.{refl, sym, ap, ◌∙◌, subst, arith, append-nil, append_assoc}
use Rattle.std.proofs.lemmas.List.{length-append, map-append}
use Rattle.lemmas.specs.Gathering.{total}
use Rattle.lemmas.proofs.Gathered.{total_append}
use Rattle.sja_link.specs.declared.driver_end.DriverEnd.{Ghosts as Ends}
use Rattle.sja_steps.specs.declared.step.Step.{Step}
use Rattle.sja_steps.specs.declared.step_answer.StepAnswer.{StepAnswer}
use Rattle.sja_driver.specs.TypedActs.{TypedAct}
use Rattle.sja_driver.specs.declared.written.Written.{Written}
use Rattle.sja_driver.specs.WriteLists.{listed}
use Rattle.sja_driver.specs.Written.{written_by, written_then}
use Rattle.sja_driver.proofs.Bytes.Writing.{written_both, written_one}
use Rattle.sja_threads.specs.declared.order.Order.{Ghosts as Orders}
use Rattle.sja_threads.specs.declared.driver_thread.DriverThread.{DriverThread}
use Rattle.sja_threads.specs.Inside.Steps.{MayWork, DoesAct, DoesParts, IsActIf, room_of, room_taken}
use Rattle.sja_threads.proofs.Driver.Counts.{counts_more, counts_none}
use Rattle.sja_threads.proofs.Driver.Steps.{may_less, does_none, does_more}

module _ {N E : Type 0} {o : Orders N} (e : Ends E) where
  -- ---- one of the acts

  -- where there is none
  pub part_none : ((x : E) → e.same x x) → (t : DriverThread N E o) (o : Option Step) (on : Written) → o ≡ None →
      DoesParts e t t (listed o) true on on
  unfolding does_none
  part_none r t o on is = rw is (record {
    acts = [];
    left = [];
    whole = refl;
    does = does_none e r t;
    counts = counts_none t;
    none = record { done = refl; kept = refl };
    moved = refl;
    ends = λ all_met. refl;
    waits = λ unmet. absurd (let two : true ≡ false = unmet in cc);
  })

  -- it was done
  pub part_done : (a b : DriverThread N E o) (o : Option Step) (s : Step) (given : Option StepAnswer) (answer :
      StepAnswer)
      (on on_now : Written) → o ≡ Some s → given ≡ Some answer → DoesAct e a b s given →
      on_now ≡ written_then on answer → DoesParts e a b (listed o) true on on_now
  part_done a b o s given answer on on_now is some d moved =
      let are : IsActIf s (Some answer) d.acts =
      subst (λ (g : Option StepAnswer). IsActIf s g d.acts) some d.are in record {
        acts = d.acts;
        left = [];
        whole = ap (λ (x : Option Step). listed x) is ∙ sym are.0
            ∙ sym (append-nil (map (λ (x : TypedAct). x.step) d.acts));
        does = d.does;
        counts = d.counts;
        none = d.none;
        moved = moved ∙ sym (written_one on d.acts answer are.1);
        ends = λ all_met. refl;
        waits = λ unmet. absurd (let two : true ≡ false = unmet in cc);
      }

  -- or it wasn't
  pub part_not : (a b : DriverThread N E o) (o : Option Step) (s : Step) (given : Option StepAnswer) (on : Written) →
      o ≡ Some s → given ≡ None → DoesAct e a b s given → DoesParts e a b (listed o) false on on
  part_not a b o s given on is none d =
      let are : d.acts ≡ [] = subst (λ (g : Option StepAnswer). IsActIf s g d.acts) none d.are in record {
        acts = d.acts;
        left = s ∷ [];
        whole = ap (λ (x : Option Step). listed x) is
            ∙ ap (λ (l : List TypedAct). map (λ (x : TypedAct). x.step) l ++ s ∷ []) (sym are);
        does = d.does;
        counts = d.counts;
        none = d.none;
        moved = ap (λ (l : List TypedAct). written_by on l) (sym are);
        ends = λ all_met. absurd (let two : false ≡ true = all_met in cc);
        waits = λ unmet. omega arith;
      }

  -- ---- one after the other

  -- with more of them to come
  pub parts_wide : (a b : DriverThread N E o) (xs ys : List Step) (m : Bool) (on on_now : Written) → m ≡ false →
      DoesParts e a b xs m on on_now → DoesParts e a b (xs ++ ys) false on on_now
  parts_wide a b xs ys m on on_now unmet p = record {
    acts = p.acts;
    left = p.left ++ ys;
    whole = ap (λ (l : List Step). l ++ ys) p.whole
        ∙ append_assoc (map (λ (x : TypedAct). x.step) p.acts) p.left ys;
    does = p.does;
    counts = p.counts;
    none = p.none;
    moved = p.moved;
    ends = λ all_met. absurd (let two : false ≡ true = all_met in cc);
    waits = λ e. let some = p.waits unmet in let long = length-append p.left ys in omega (arith, some, long);
  }

  -- all of these were done, and then some of the others
  pub parts_more : (trans : (x y z : E) → e.same x y → e.same y z → e.same x z) → (a b c : DriverThread N E o)
      (xs ys : List Step) (m n : Bool) (on mid on_now : Written) → m ≡ true → DoesParts e a b xs m on mid →
      DoesParts e b c ys n mid on_now → DoesParts e a c (xs ++ ys) n on on_now
  unfolding does_more
  parts_more trans a b c xs ys m n on mid on_now all_met p q = record {
    acts = p.acts ++ q.acts;
    left = q.left;
    whole = ap (λ (l : List Step). l ++ ys) all ∙ ap (λ (l : List Step). map step_of p.acts ++ l) q.whole
        ∙ sym (append_assoc (map step_of p.acts) (map step_of q.acts) q.left)
        ∙ ap (λ (l : List Step). l ++ q.left) (sym (map-append step_of p.acts q.acts));
    does = does_more e trans a b c p.acts q.acts p.does q.does;
    counts = counts_more a b c p.acts q.acts p.counts q.counts;
    none = record { done = q.none.done ∙ p.none.done; kept = q.none.kept ∙ p.none.kept };
    moved = q.moved ∙ ap (λ (w : Written). written_by w q.acts) p.moved ∙ sym (written_both on p.acts q.acts);
    ends = q.ends;
    waits = q.waits;
  }
    where
      step_of : TypedAct → Step
      step_of d = d.step

      all : xs ≡ map step_of p.acts
      all = p.whole ∙ ap (λ (l : List Step). map step_of p.acts ++ l) (p.ends all_met)
          ∙ append-nil (map step_of p.acts)

  -- they take no more room than all of them
  pub parts_taken : (a b : DriverThread N E o) (xs : List Step) (m : Bool) (on on_now : Written) →
      (p : DoesParts e a b xs m on on_now) → room_taken p.acts ≤ total room_of xs
  parts_taken a b xs m on on_now p =
      let all = ap (total room_of) p.whole in
      let both = total_append room_of (map (λ (d : TypedAct). d.step) p.acts) p.left in omega (arith, all, both)

  -- so the rest is left
  pub parts_able : (a b : DriverThread N E o) (xs : List Step) (m : Bool) (on on_now : Written) →
      DoesParts e a b xs m on on_now → (n k : ℕ) → total room_of xs + n ≤ k → MayWork e.node a k →
      MayWork e.node b n
  parts_able a b xs m on on_now p n k few may =
      let less = parts_taken a b xs m on on_now p in
      p.does.able n (may_less e a (room_taken p.acts + n) k (omega (arith, few, less)) may)
