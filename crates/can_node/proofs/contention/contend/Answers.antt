use Rattle.std.proofs.Common.{rules, ◌<◌, ◌+◌, ◌∷◌, ◌++◌, [], List, ℕ, Option}
use Rattle.std.proofs.Common.{length, take, refl, sym, ap, subst, ◌∙◌, arith}
use Rattle.std.specs.List.{AllZip}
use Rattle.std.proofs.lemmas.List.{take_more}
use Rattle.std.proofs.lemmas.Option.{slice_get_read}
use Rattle.lemmas.proofs.Related.{related_push}
use Rattle.can_frame.specs.Frame.{FrameValue}
use Rattle.can_node_rules.specs.Contending.{Fares}
use Rattle.can_node_rules.proofs.Contending.Winning.{fares_by}
use Rattle.can_node.proofs.contention.contend.Goals as goal

pub loop-frame-preserved : goal.loop-frame-preserved
loop-frame-preserved c =
    let fs = c.args.frames.now in
    let i = c.loop-frame.frame-index in
    let least = c.index-frames-least_of in
    let inside = c.least_of.ensures.within in
    let within : i < length fs = omega arith in
    let is_least = c.least_of.ensures.is_least least.result
    (slice_get_read fs _ c.least_of.result least.result refl inside least.is) in
    let frame = c.frame-item.result in
    let lost = c.place_lost.result in
    let told = c.loop-frame.places.items in
    let fares = fares_by fs frame least.result lost (c.least_of.result, inside, sym least.is) is_least
    c.place_lost.ensures in
    let longer = related_push (Fares fs) (take i fs) told frame lost c.loop-frame.invariant.answered fares in
    let front = take_more fs i frame within ∙ ap (λ f. take i fs ++ f ∷ []) (sym c.frame-item.is) in
    let P : List FrameValue → Type 0 = λ l. AllZip (Fares fs) l (told ++ lost ∷ []) in
    let Q : List (Option ℕ) → Type 0 = λ l. AllZip (Fares fs) (take (i + 1) fs) l in
    record {
      answered = subst Q (sym c.push_reserved.ensures.items) (subst P (sym front) longer);
      count = search rules;
      room = search rules;
    }
