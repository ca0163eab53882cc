-- Bits of a node at rest, told at once.
use Rattle.std.proofs.Common.{◌≡◌, ℕ, ◌+◌, ◌<◌, ◌≤◌, zero, suc, Bool, false, List, [], ◌∷◌}
use Rattle.std.proofs.Common.{◌++◌, length, refl, sym, ap, ◌∙◌, subst, arith, inl, inr}
use Rattle.std.specs.Prelude.{slice_get}
use Rattle.std.proofs.lemmas.Bool.{cases_lt}
use Rattle.std.proofs.lemmas.List.{length-append}
use Rattle.can_node_rules.proofs.Contending.FieldLevels.{get-append_left}
use Rattle.sja_journal.specs.declared.entry.Entry.{Entry}
use Rattle.sja_replay.specs.declared.bit_event.BitEvent.{BitEvent}
use Rattle.sja_replay.specs.declared.replay.Replay.{Replay}
use Rattle.sja_replay.specs.declared.short_bit.ShortBit.{ShortBit}
use Rattle.sja_replay.specs.ReplayProgress.{CameTo, HasCome}
use Rattle.sja_replay.specs.Replaying.{IsAt}
use Rattle.sja_replay.specs.ReplayRest.{rested}
use Rattle.sja_replay.specs.Short.{PassesBit}
use Rattle.sja_replay.proofs.Listed.Coming.{came_by}
use Rattle.text_trace.specs.declared.node_bits.NodeBits.{NodeBits}
use Rattle.text_trace.specs.Telling.{HaveSame}
use Rattle.text_trace.specs.Hands.{IsBit, RestsOn}
use Rattle.text_trace.proofs.Stories.Rested.{rested_none}
use Rattle.text_trace.proofs.Stories.Telling.{get_last}

record Came (journal : List Entry) (bits : ℕ) (old : List BitEvent) (r : Replay) (q : ShortBit) (i : ℕ) :
    Type 0 where
  told : List BitEvent
  came : CameTo journal (rested i r) told
  count : length told ≡ bits + i
  silent : (k : ℕ) → bits ≤ k → k < bits + i → IsBit q (slice_get told k)
  same : HaveSame bits old told

module _ (journal : List Entry) (bits n : ℕ) (old : List BitEvent) (r : Replay) (q : ShortBit)
    (passes : (i : ℕ) (before : List Entry) → i < n → IsAt (rested i r) before →
    PassesBit (rested i r) (rested (suc i) r) before q) (come : CameTo journal r old) (many : length old ≡ bits) where
  so_many : (i : ℕ) → i ≤ n → Came journal bits old r q i
  so_many zero few = record {
    told = old;
    came = subst (λ (x : Replay). CameTo journal x old) (sym (rested_none r)) come;
    count = omega (arith, many);
    silent = λ k from before. absurd (omega (arith, from, before));
    same = λ k less. refl;
  }
  so_many (suc i) few =
      let c = so_many i (omega (arith, few)) in
      let p = passes i c.came.before (omega (arith, few)) c.came.at in
      let all = c.told ++ p.happened ∷ [] in
      let long = length-append c.told (p.happened ∷ []) in let count = c.count in
      let before : (k : ℕ) → k < bits + i → slice_get all k ≡ slice_get c.told k =
      λ k less. get-append_left c.told (p.happened ∷ []) k (omega (arith, count, less)) in
      record {
        told = all;
        came = came_by journal (rested i r) (rested (suc i) r) p.happened c.told c.came p.goes;
        count = omega (arith, count, long);
        silent = λ k from less. elim (cases_lt k (bits + i)) [
          | inl early ↦
              let s = c.silent k from early in
              record { happened = s.happened; is = before k early ∙ s.is; short = s.short }
          | inr late ↦
              let last : length c.told ≡ k = omega (arith, count, less, late) in
              record {
                happened = p.happened;
                is = sym (ap (λ j. slice_get all j) last) ∙ get_last c.told p.happened;
                short = p.short;
              }
        ];
        same = λ k less. before k (omega (arith, less)) ∙ c.same k less;
      }

pub rest_passes : (old new : NodeBits) (n : ℕ) (q : ShortBit) → old.over ≡ false → new.over ≡ old.over →
    new.replay ≡ rested n old.replay →
    ((i : ℕ) (before : List Entry) → i < n → IsAt (rested i old.replay) before →
    PassesBit (rested i old.replay) (rested (suc i) old.replay) before q) → RestsOn n q old new
rest_passes old new n q under still is passes = λ journal bits told come.
    (let P : Bool → Type 0 = λ b. HasCome b journal bits old.replay told in
    let c = subst P under come in
    let all = so_many journal bits n told old.replay q passes c.0 c.1 n (omega arith) in
    let Q : Bool → Type 0 = λ b. HasCome b journal (bits + n) new.replay all.told in
    record {
      told = all.told;
      come = subst Q (sym (still ∙ under))
          (subst (λ (x : Replay). CameTo journal x all.told) (sym is) all.came, all.count);
      silent = all.silent;
      same = all.same;
    })
