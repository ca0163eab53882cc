use Rattle.std.proofs.Common.{rules, ◌≡◌, ◌+◌, ◌++◌, ◌∷◌, [], ℕ, List, map, take, drop, refl, sym}
use Rattle.std.proofs.Common.{ap, ◌∙◌, subst, arith}
use Rattle.std.specs.Vec.Iter.{into_iter_items}
use Rattle.std.proofs.lemmas.List.{map_push, take_more}
use Rattle.sja_promises.proofs.NodeLog.Logging.{next_of}
use Rattle.sja_plan.specs.Plan.{steps_at}
use Rattle.sja_threads.specs.Inside.Making.{AreListed, AreMade}
use Rattle.sja_threads.proofs.Start.Making.{listed_push, made_of, made_push, short_log}
use Rattle.sja_threads.proofs.Start.NewEnds.{new_ends}
use Rattle.sja_threads.proofs.run_parts.starts_of.Goals as goal

-- one gate more was handed on
asked_next : {A B : Type 0} (f : A → B) (n : ℕ) (xs rest : List B) (x : B) (ys all : List A) (y : A) →
    drop n xs ≡ x ∷ rest → all ≡ ys ++ y ∷ [] → f y ≡ x → map f ys ≡ take n xs → map f all ≡ take (n + 1) xs
asked_next f n xs rest x ys all y left grown same so =
    let next = next_of xs rest n x x left in
    ap (λ l. map f l) grown ∙ map_push f ys y ∙ ap (λ l. l ++ f y ∷ []) so
    ∙ ap (λ z. take n xs ++ z ∷ []) (same ∙ sym next.0) ∙ sym (take_more xs n x next.2)

pub loop-gate-preserved : goal.loop-gate-preserved
loop-gate-preserved g c =
    let inv = c.loop-gate.invariant in
    let plan = c.args.plan.now in
    let node = c.loop-gate.node in
    let pair = c.in_ok-bus.ensures in
    let buses = c.loop-gate.buses.items in
    let bus = c.in_ok-bus.bus in
    let after = c.in_ok-push.ensures.items in
    let log = c.in_ok-log.ensures in
    let version = c.version.ensures.value in
    let gates = c.args.gates.items in
    let gate = c.in-Some.gate in
    let left = into_iter_items c.next.new.self in
    let is : drop node gates ≡ gate ∷ left = sym inv.rest ∙ c.in-Some.ensures.steps.0 in
    let steps = c.steps.ensures.value ∙ ap (λ (n : ℕ). steps_at plan n) c.from.ensures in
    let few = c.loop-gate.invariant.all in let more = c.in-Some.ensures in
    record {
      all = search rules;
      count = search rules;
      room = search rules;
      links = search rules;
      made =
          subst (λ l. AreMade plan (node + 1) c.push_reserved.new.self.items l) (sym after)
          (subst (λ l. AreMade plan (node + 1) l (buses ++ bus ∷ [])) (sym c.push_reserved.ensures.items)
          (made_push plan node c.loop-gate.starts.items buses _ bus inv.count inv.links inv.made
          (made_of plan node c.version.result _ bus _ refl version log.empty c.new-list.ensures.none
          steps (let room = log.room.releases in record { releases = omega (arith, room); left = log.room.left })
          (let room = log.made.done in omega (arith, room))
          (short_log plan node c.version.result _ _ c.limits.ensures version (omega arith) steps log.made)
          (new_ends node bus c.in_ok-bus.end pair.one pair.bus pair.driver pair.bus_lists pair.driver_lists))));
      many = search rules;
      rest = sym (next_of gates left node gate gate is).1;
      asked = asked_next (λ s. s.gate) node gates left gate c.loop-gate.starts.items c.push_reserved.new.self.items _ is
          c.push_reserved.ensures.items refl inv.asked;
      listed =
          subst (λ l. AreListed (node + 1) c.push_reserved.new.self.items l) (sym c.in_ok-push-2.ensures.items)
          (subst (λ l. AreListed (node + 1) l (c.loop-gate.lists.items ++ c.new-list.result.0 ∷ []))
          (sym c.push_reserved.ensures.items)
          (listed_push node c.loop-gate.starts.items c.loop-gate.lists.items _ c.new-list.result.0 inv.count inv.many
          c.new-list.ensures.same inv.listed));
    }
