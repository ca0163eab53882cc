-- What a sweep tries: by its numbers, and of nodes that are there.
use Rattle.std.proofs.Common.{◌≡◌, ℕ, ◌+◌, ◌-◌, ◌<◌, ◌≤◌, zero, suc, List, [], ◌∷◌, length, map, All}
use Rattle.std.proofs.Common.{Option, Some, None, refl, sym, ap, ◌∙◌, subst, arith}
use Rattle.std.specs.List.{range_with_len}
use Rattle.std.proofs.lemmas.List.Elements.{All-nil, All-cons, All-append}
use Rattle.lemmas.specs.Gathering.{gathered}
use Rattle.sja_plan.specs.Limits.{most_strikes}
use Rattle.sja_plan.specs.Plan.{PlanValue, times_in}
use Rattle.sja_sweep.specs.declared.strike_range.StrikeRange.{StrikeRange}
use Rattle.sja_sweep.specs.declared.sweeping.Sweeping.{Sweeping}
use Rattle.sja_sweep.specs.declared.trial.Trial.{Trial}
use Rattle.sja_sweep.specs.Targets.{nodes_struck, bit_count, alone, single_trials, pair, laters}
use Rattle.sja_sweep.specs.Targets.{pair_trials, trials_by, trials_of, strikes_a_run}
use Rattle.sja_sweep.specs.Inside.Asking.{IsAsked, nodes_asked, all_alone, all_paired}
use Rattle.sja_sweep.specs.Inside.Reaching.{IsThere}

-- what is asked for, by its numbers
abbrev alone_by : ℕ → ℕ → List ℕ → List Trial
alone_by first count nodes = gathered (λ node. map (alone node) (range_with_len first count)) nodes

pub alone_asked : (s : Sweeping) (nodes bits : ℕ) (a : StrikeRange) → IsAsked s nodes bits a →
    all_alone a ≡ single_trials s nodes bits
alone_asked s nodes bits a h =
    ap (λ (f : ℕ). alone_by f a.count (nodes_asked a)) h.first
    ∙ ap (λ (c : ℕ). alone_by s.first c (nodes_asked a)) h.count
    ∙ ap (λ (l : List ℕ). alone_by s.first (bit_count s bits) l) h.nodes_are

abbrev paired_by : ℕ → ℕ → ℕ → List ℕ → List Trial
paired_by within first count nodes =
    gathered (λ node. gathered (λ other. gathered (λ later.
    map (pair node other later) (range_with_len first (count - later)))
    (laters within count node other)) nodes) nodes

pub paired_asked : (within : ℕ) (s : Sweeping) (nodes bits : ℕ) (a : StrikeRange) → IsAsked s nodes bits a →
    all_paired within a ≡ pair_trials within s nodes bits
paired_asked within s nodes bits a h =
    ap (λ (f : ℕ). paired_by within f a.count (nodes_asked a)) h.first
    ∙ ap (λ (c : ℕ). paired_by within s.first c (nodes_asked a)) h.count
    ∙ ap (λ (l : List ℕ). paired_by within s.first (bit_count s bits) l) h.nodes_are

-- what holds of all that each element gives holds of all that is gathered
all_gathered : {A B : Type 0} (P : B → Type 0) (Q : A → Type 0) (f : A → List B) (l : List A) → All Q l →
    ((x : A) → Q x → All P (f x)) → All P (gathered f l)
all_gathered P Q f [] all each = All-nil P
all_gathered P Q f (x ∷ l) all each =
    All-append P (f x) (gathered f l) (each x (all 0 x (omega arith)))
    (all_gathered P Q f l (λ k d less. all (suc k) d (omega (arith, less))) each)

all_mapped : {A B : Type 0} (P : B → Type 0) (f : A → B) (l : List A) → ((x : A) → P (f x)) → All P (map f l)
all_mapped P f [] each = All-nil P
all_mapped P f (x ∷ l) each = All-cons P (f x) (map f l) (each x) (all_mapped P f l each)

-- of any numbers
all_numbers : {B : Type 0} (P : B → Type 0) (f : ℕ → List B) (l : List ℕ) → ((x : ℕ) → All P (f x)) →
    All P (gathered f l)
all_numbers P f [] each = All-nil P
all_numbers P f (x ∷ l) each = All-append P (f x) (gathered f l) (each x) (all_numbers P f l each)

-- the nodes that are struck are there
counted_below : (nodes first n : ℕ) → first + n ≤ nodes → All (λ (k : ℕ). k < nodes) (range_with_len first n)
counted_below nodes first zero few = All-nil (λ (k : ℕ). k < nodes)
counted_below nodes first (suc n) few =
    All-cons (λ (k : ℕ). k < nodes) first (range_with_len (first + 1) n) (omega (arith, few))
    (counted_below nodes (first + 1) n (omega (arith, few)))

nodes_below : (o : Option ℕ) (nodes : ℕ) → ((node : ℕ) → o ≡ Some node → node < nodes) →
    All (λ (k : ℕ). k < nodes) (nodes_struck o nodes)
nodes_below None nodes asked = counted_below nodes 0 nodes (omega arith)
nodes_below (Some node) nodes asked =
    All-cons (λ (k : ℕ). k < nodes) node [] (asked node refl) (All-nil (λ (k : ℕ). k < nodes))

-- each trial of a sweep is of nodes that are there, and there is room for its strikes
pub all_there : (plan : PlanValue) (s : Sweeping) (bits : ℕ) →
    ((node : ℕ) → s.node ≡ Some node → node < length plan.nodes) →
    times_in plan.strikes + strikes_a_run s.pairs ≤ most_strikes plan.version →
    All (IsThere plan) (trials_of s (length plan.nodes) bits)
all_there plan s bits asked room = by_pairs s.pairs room
  where
    Below : ℕ → Type 0
    Below k = k < length plan.nodes

    by_pairs : (o : Option ℕ) → times_in plan.strikes + strikes_a_run o ≤ most_strikes plan.version →
        All (IsThere plan) (trials_by o s (length plan.nodes) bits)
    by_pairs None few =
        all_gathered (IsThere plan) Below
        (λ node. map (alone node) (range_with_len s.first (bit_count s bits))) (nodes_struck s.node (length plan.nodes))
        (nodes_below s.node (length plan.nodes) asked)
        (λ node there. all_mapped (IsThere plan) (alone node) (range_with_len s.first (bit_count s bits))
        (λ bit. record { first = there; second = tt; room = few }))
    by_pairs (Some within) few =
        all_gathered (IsThere plan) Below
        (λ node. gathered (λ other. gathered (λ later.
        map (pair node other later) (range_with_len s.first (bit_count s bits - later)))
        (laters within (bit_count s bits) node other)) (nodes_struck s.node (length plan.nodes)))
        (nodes_struck s.node (length plan.nodes)) (nodes_below s.node (length plan.nodes) asked)
        (λ node there. all_gathered (IsThere plan) Below
        (λ other. gathered (λ later.
        map (pair node other later) (range_with_len s.first (bit_count s bits - later)))
        (laters within (bit_count s bits) node other))
        (nodes_struck s.node (length plan.nodes)) (nodes_below s.node (length plan.nodes) asked)
        (λ other there'. all_numbers (IsThere plan)
        (λ later. map (pair node other later) (range_with_len s.first (bit_count s bits - later)))
        (laters within (bit_count s bits) node other)
        (λ later. all_mapped (IsThere plan) (pair node other later) (range_with_len s.first (bit_count s bits - later))
        (λ bit. record { first = there; second = there'; room = few }))))

-- where there is one, there is room
pub all_there_if : (plan : PlanValue) (s : Sweeping) (bits : ℕ) →
    ((node : ℕ) → s.node ≡ Some node → node < length plan.nodes) →
    (0 < length (trials_of s (length plan.nodes) bits) → times_in plan.strikes + strikes_a_run s.pairs ≤ most_strikes
    plan.version) →
    All (IsThere plan) (trials_of s (length plan.nodes) bits)
all_there_if plan s bits asked room = by_list (trials_of s (length plan.nodes) bits) refl
  where
    by_list : (l : List Trial) → trials_of s (length plan.nodes) bits ≡ l →
        All (IsThere plan) (trials_of s (length plan.nodes) bits)
    by_list [] is = subst (λ (l : List Trial). All (IsThere plan) l) (sym is) (All-nil (IsThere plan))
    by_list (t ∷ ts) is =
        all_there plan s bits asked (room (let some = ap (λ (l : List Trial). length l) is in omega (arith, some)))

-- what is asked for, alone or in pairs
pub ruleset both_asked = (alone_asked, paired_asked)
