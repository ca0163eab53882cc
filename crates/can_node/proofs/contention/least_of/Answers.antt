use Rattle.std.proofs.Common.{◌≡◌, ◌<◌, ◌+◌, ℕ, true, false, Option, Some, None, List}
use Rattle.std.proofs.Common.{length, take, MatchOption, refl, sym, subst, ◌∙◌, arith}
use Rattle.std.specs.Option.{is_some}
use Rattle.std.proofs.lemmas.List.{take_all}
use Rattle.std.proofs.lemmas.Option.{slice_get_read, get_or_from_slice_get}
use Rattle.can_frame.specs.Frame.{FrameValue}
use Rattle.can_node_rules.specs.Contending.{IsLeast}
use Rattle.can_node_rules.proofs.Contending.Winning.{stays_least, next_least}
use Rattle.can_node.proofs.contention.least_of.Goals as goal
use Rattle.can_node.proofs.contention.least_of.Goals.{then-is_some, else-is_some}

-- what a comparison says where it has a place, and where it has none
lost_at : (r : Option ℕ) (P : Type 0) (Q : ℕ → Type 0) → MatchOption r P Q → is_some r ≡ true → (n : ℕ) × Q n
lost_at None P Q h e = cc
lost_at (Some n) P Q h e = (n, h)

stands_at : (r : Option ℕ) (P : Type 0) (Q : ℕ → Type 0) → MatchOption r P Q → is_some r ≡ false → P
stands_at None P Q h e = h
stands_at (Some n) P Q h e = cc

pub loop-i-preserved : goal.loop-i-preserved
loop-i-preserved c =
    let fs = c.args.frames.now in
    let least = c.index-frames-least in
    let next = c.index-frames-i in
    let was = c.loop-i.invariant.is_least least.result
    (slice_get_read fs _ c.loop-i.least least.result refl c.loop-i.invariant.within least.is) in
    let inside : c.loop-i.i < length fs = omega arith in
    elim c.if-is_some.branch [
      | then-is_some w ↦ record {
        within = omega (arith, w.least-is);
        is_least = λ f at.
            let lost = lost_at _ _ _ c.place_lost.ensures (sym c.is_some.ensures ∙ w.if-is_some.true) in
            let own : next.result ≡ f = next.is
            ∙ get_or_from_slice_get fs c.loop-i.i f next.result (rw w.least-is at at) in
            let P : FrameValue → Type 0 = λ g. IsLeast (take (c.loop-i.i + 1) fs) g in
            subst P own (next_least fs c.loop-i.i lost.0 least.result next.result inside next.is was lost.1);
      }
      | else-is_some w ↦ record {
        within = omega (arith, w.least-is, c.loop-i.invariant.within);
        is_least = λ f at.
            let stands = stands_at _ _ _ c.place_lost.ensures (sym c.is_some.ensures ∙ w.if-is_some.false) in
            let own : least.result ≡ f = least.is
            ∙ get_or_from_slice_get fs c.loop-i.least f least.result (rw w.least-is at at) in
            let P : FrameValue → Type 0 = λ g. IsLeast (take (c.loop-i.i + 1) fs) g in
            subst P own (stays_least fs c.loop-i.i least.result next.result inside next.is was stands);
      }
    ]

pub returns-clause-is_least : goal.returns-clause-is_least
returns-clause-is_least c = λ f at.
    let fs = c.args.frames.now in
    let all = take_all c.loop-i.i fs (omega arith) in
    let P = λ (l : List FrameValue). IsLeast l f in
    subst P all (c.loop-i.invariant.is_least f at)
