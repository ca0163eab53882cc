-- What all nodes drive and which of them are struck says what each sees.
use Rattle.std.proofs.Common.{◌≡◌, ◌<◌, ℕ, suc, List, [], ◌∷◌, length, refl, sym, ap, ◌∙◌, subst, arith}
use Rattle.can_levels.specs.declared.level.Level.{Level}
use Rattle.can_levels.specs.declared.level.Level.TheVariants.{Dominant, Recessive}
use Rattle.sja_journal.specs.declared.entry.Entry.{Entry}
use Rattle.sja_steps.specs.declared.strike.Strike.{Strike}
use Rattle.sja_steps.specs.Striking.{Strikes}
use Rattle.can_levels.specs.BusLevel.{wired}
use Rattle.sja_bus_rules.specs.Wire.{IsSeen, IsWired, bit_at, driven_at, journal_at}

-- levels that can't differ don't
not_apart : (x y : Level) → ((x ≡ y → ⊥) → ⊥) → x ≡ y
not_apart Dominant Dominant h = refl
not_apart Recessive Recessive h = refl
not_apart Dominant Recessive h = absurd (h (λ e. cc))
not_apart Recessive Dominant h = absurd (h (λ e. cc))

pub seen_once : (Struck : Type 0) (bus x y : Level) → IsSeen Struck bus x → IsSeen Struck bus y → x ≡ y
seen_once Struck bus x y h g =
    not_apart x y (λ apart. apart (h.plain (λ is. apart (h.struck is ∙ sym (g.struck is)))
    ∙ sym (g.plain (λ is. apart (h.struck is ∙ sym (g.struck is))))))

pub driven_same : (i : ℕ) (a b : List (List Entry)) → length a ≡ length b →
    ((node : ℕ) → node < length a → (bit_at i (journal_at a node)).driven ≡ (bit_at i (journal_at b node)).driven) →
    driven_at i a ≡ driven_at i b
driven_same i [] [] count same = refl
driven_same i [] (y ∷ b) count same = absurd (omega (arith, count))
driven_same i (x ∷ a) [] count same = absurd (omega (arith, count))
driven_same i (x ∷ a) (y ∷ b) count same =
    let first = same 0 (omega arith) in
    let rest = driven_same i a b (omega (arith, count)) (λ node less. same (suc node) (omega (arith, less))) in
    λ n. first n ∷ rest n

pub levels_once : (script : List Strike) (bits others i node : ℕ) (a b : List (List Entry)) → IsWired script bits a →
    IsWired script others b → length a ≡ length b → i < bits → i < others → node < length a → node < length b →
    ((n : ℕ) → n < length a → (bit_at i (journal_at a n)).driven ≡ (bit_at i (journal_at b n)).driven) →
    (bit_at i (journal_at a node)).seen ≡ (bit_at i (journal_at b node)).seen
levels_once script bits others i node a b h g count few less here there same =
    let bus = ap wired (driven_same i a b count same) in
    let P : Level → Type 0 = λ l. IsSeen (Strikes script i node) l (bit_at i (journal_at b node)).seen in
    seen_once (Strikes script i node) (wired (driven_at i a)) _ _ (h.seen i node few here)
    (subst P (sym bus) (g.seen i node less there))
