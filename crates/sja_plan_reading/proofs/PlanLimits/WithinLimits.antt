-- The limits of a plan that a document is.
use Rattle.std.proofs.Common.{◌≡◌, ◌≤◌, ℕ, zero, suc, Bool, true, false}
use Rattle.std.proofs.Common.{Some, List, [], ◌∷◌, length, All, refl, sym, arith}
use Rattle.std.specs.List.{AllZip}
use Rattle.std.specs.Str.Parse.{digits_value}
use Rattle.std.proofs.lemmas.Slice.Zip.{AllZip-long}
use Rattle.sja_plan_reading.specs.Words.{Text, is_number, number_of}
use Rattle.sja_plan_reading.specs.StrikeTexts.{AreStrikeWords, strike_count}
use Rattle.sja_steps.specs.declared.strike.Strike.{Strike}
use Rattle.sja_plan_reading.specs.TurnTexts.{SaysTurn}
use Rattle.sja_plan.specs.Plan.{NamesNode, IsStrikeOn}
use Rattle.sja_plan.specs.declared.turn.Turn.{Turn}
use Rattle.sja_plan.specs.declared.turn.Turn.TheVariants.{Bus, Rest, Node, All as AllSteps, Irq, Go}

-- what short lists of texts say is short
pub few_read : {A : Type 0} (few most : ℕ) (Says : Text → A → Type 0) (texts : List (List Text))
    (values : List (List A)) → few ≤ most → AllZip (AllZip Says) texts values →
    All (λ (list : List Text). length list ≤ few) texts → All (λ (list : List A). length list ≤ most) values
few_read few most Says [] [] less z short k d w = absurd (omega arith)
few_read few most Says [] (y ∷ ys) less z short k d w = absurd z
few_read few most Says (x ∷ xs) [] less z short k d w = absurd z
few_read few most Says (x ∷ xs) (y ∷ ys) less z short zero d w =
    let here = short 0 [] (omega arith) in
    omega (arith, here, AllZip-long Says x y z.0)
few_read few most Says (x ∷ xs) (y ∷ ys) less z short (suc k) d w =
    few_read few most Says xs ys less z.1 (λ i e v. short (suc i) e (omega arith)) k d (omega arith)

-- a turn that is read names a node
names_node : (version nodes : ℕ) (text : Text) (t : Turn) → SaysTurn version nodes text t → NamesNode nodes t
names_node version nodes text (Bus bits) h = tt
names_node version nodes text Rest h = tt
names_node version nodes text (Node node steps) h = h.3.1
names_node version nodes text (AllSteps node) h = h.3.1
names_node version nodes text (Irq node bits) h = h.4.1
names_node version nodes text Go h = tt

pub name_nodes : (version nodes : ℕ) (texts : List Text) (turns : List Turn) →
    AllZip (SaysTurn version nodes) texts turns → All (NamesNode nodes) turns
name_nodes version nodes [] [] z k d w = absurd (omega arith)
name_nodes version nodes [] (y ∷ ys) z k d w = absurd z
name_nodes version nodes (x ∷ xs) [] z k d w = absurd z
name_nodes version nodes (x ∷ xs) (y ∷ ys) z zero d w = names_node version nodes x y z.0
name_nodes version nodes (x ∷ xs) (y ∷ ys) z (suc k) d w = name_nodes version nodes xs ys z.1 k d (omega arith)

-- a strike that is read is on a node
pub strike_node : (nodes : ℕ) (ws : List Text) (s : Strike) → AreStrikeWords nodes ws s → IsStrikeOn nodes s
strike_node nodes [] s h = absurd h
strike_node nodes (k ∷ []) s h = absurd h
strike_node nodes (k ∷ b ∷ []) s h =
    record { node = h.node.1; every = omega (arith, h.every); times = omega (arith, h.times) }
strike_node nodes (k ∷ b ∷ e ∷ []) s h = absurd h
strike_node nodes (k ∷ b ∷ e ∷ t ∷ []) s h = record { node = h.node.1; every = h.every.1; times = h.times.1 }
strike_node nodes (k ∷ b ∷ e ∷ t ∷ x ∷ ws) s h = absurd h

-- a number that a word spells
is_spelled : (word : Text) (n : ℕ) → number_of word ≡ Some n → (is_number word ≡ true) × (digits_value 10 word ≡ n)
is_spelled word n h = by_test (is_number word) refl
  where
    by_test : (b : Bool) → is_number word ≡ b → (is_number word ≡ true) × (digits_value 10 word ≡ n)
    by_test true is = (is, cc (rw is at h))
    by_test false is = absurd (cc (rw is at h))

-- a strike that is read counts as often as it strikes
pub count_is_times : (nodes : ℕ) (ws : List Text) (s : Strike) → AreStrikeWords nodes ws s → strike_count ws ≡ s.times
count_is_times nodes [] s h = absurd h
count_is_times nodes (k ∷ []) s h = absurd h
count_is_times nodes (k ∷ b ∷ []) s h = sym h.times
count_is_times nodes (k ∷ b ∷ e ∷ []) s h = absurd h
count_is_times nodes (k ∷ b ∷ e ∷ t ∷ []) s h =
    rw (
      (is_spelled k s.node h.node.0.0).0,
      (is_spelled b s.bit h.bit.0).0,
      (is_spelled e s.every h.every.0).0,
      (is_spelled t s.times h.times.0).0,
    ) (is_spelled t s.times h.times.0).1
count_is_times nodes (k ∷ b ∷ e ∷ t ∷ x ∷ ws) s h = absurd h
