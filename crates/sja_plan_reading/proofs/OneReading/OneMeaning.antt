-- A text says one thing at most.
use Rattle.std.proofs.Common.{◌≡◌, ◌∙◌, ℕ, Option, Some, None, List, []}
use Rattle.std.proofs.Common.{◌∷◌, codes, if◌then◌else◌, option_map, option_and_then, refl, sym, ap, ap₂, subst}
use Rattle.std.specs.Str.{bytes_eq}
use Rattle.sja_plan_reading.specs.Words.{Text, words, number_of}
use Rattle.sja_plan_reading.specs.Accesses.{address_of, value_of}
use Rattle.sja_plan_reading.specs.Messages.{SpellsMessageIn}
use Rattle.sja_plan_reading.specs.StepTexts.{AreStepWords, SaysStep}
use Rattle.sja_plan_reading.specs.TurnTexts.{AreTurnWords, SaysTurn}
use Rattle.sja_plan_reading.specs.StrikeTexts.{AreStrikeWords, SaysStrike}
use Rattle.sja_steps.specs.declared.step.Step.{Step}
use Rattle.sja_steps.specs.declared.step.Step.TheVariants.{Start, Stop, Window, Release, Read}
use Rattle.sja_steps.specs.declared.step.Step.TheVariants.{Write, Load, Command, Await, Sent, Interrupt, At}
use Rattle.sja_plan.specs.declared.turn.Turn.{Turn}
use Rattle.sja_plan.specs.declared.turn.Turn.TheVariants.{Bus, Rest, Node, All, Irq, Go}
use Rattle.sja_steps.specs.declared.strike.Strike.{Strike}
use Rattle.sja_plan_reading.proofs.OneReading.OneMessage.{one_message}

abbrev pub value_or : {X : Type 0} → X → Option X → X
value_or d None = d
value_or d (Some x) = x

abbrev both : {X Y Z : Type 0} → (X → Y → Z) → Option X → Option Y → Option Z
both f (Some x) (Some y) = Some (f x y)
both f None y = None
both f (Some x) None = None

-- the step that words say, by their number
abbrev plain : Text → Option Step
plain name =
    if bytes_eq name (codes "start") then Some Start
    else if bytes_eq name (codes "stop") then Some Stop
    else if bytes_eq name (codes "window") then Some Window
    else if bytes_eq name (codes "release") then Some Release
    else if bytes_eq name (codes "sent") then Some Sent
    else if bytes_eq name (codes "interrupt") then Some Interrupt
    else None

abbrev with_one : List ℕ → ℕ → Text → Text → Option Step
with_one p version name a =
    if bytes_eq name (codes "read") then option_map Read (address_of version a)
    else if bytes_eq name (codes "load") then Some (Load p)
    else if bytes_eq name (codes "command") then option_map Command (value_of version 1 a)
    else if bytes_eq name (codes "await") then option_map Await (number_of a)
    else if bytes_eq name (codes "at") then option_map At (number_of a)
    else None

-- where a load is of this message
abbrev step_in : List ℕ → ℕ → List Text → Option Step
step_in p version (name ∷ []) = plain name
step_in p version (name ∷ a ∷ []) = with_one p version name a
step_in p version (name ∷ a ∷ v ∷ []) =
    option_and_then (λ n. option_map (Write n) (value_of version n v)) (address_of version a)
step_in p version ws = None

-- what a step loads, or else this
abbrev loaded : List ℕ → Step → List ℕ
loaded p (Load m) = m
loaded p this = p

step_is : (p : List ℕ) (version : ℕ) (ws : List Text) (s : Step) → loaded p s ≡ p → AreStepWords version ws s →
    step_in p version ws ≡ Some s
step_is p version ws Start same h = rw h refl
step_is p version ws Stop same h = rw h refl
step_is p version ws Window same h = rw h refl
step_is p version ws Release same h = rw h refl
step_is p version ws Sent same h = rw h refl
step_is p version ws Interrupt same h = rw h.1 refl
step_is p version ws (Read n) same (a, e, k) = rw e (ap (option_map Read) k.0)
step_is p version ws (Write n v) same (a, b, e, k, i) = rw (e, k.0) (ap (option_map (Write n)) i.0)
step_is p version ws (Load m) same (d, e, k) = rw e (ap (λ l. Some (Load l)) (sym same))
step_is p version ws (Command v) same (a, e, k) = rw e (ap (option_map Command) k.0)
step_is p version ws (Await n) same (a, e, k) = rw e (ap (option_map Await) k.0)
step_is p version ws (At n) same (v, a, e, k) = rw e (ap (option_map At) k.0)

-- of two steps with the same words both load this, where they load something
twice : (p : List ℕ) (s : Step) → loaded (loaded p s) s ≡ loaded p s
twice p Start = refl
twice p Stop = refl
twice p Window = refl
twice p Release = refl
twice p Sent = refl
twice p Interrupt = refl
twice p (Read n) = refl
twice p (Write n v) = refl
twice p (Load m) = refl
twice p (Command v) = refl
twice p (Await n) = refl
twice p (At n) = refl

alike : (version : ℕ) (ws : List Text) (m : List ℕ) (t : Step) → AreStepWords version ws (Load m) →
    AreStepWords version ws t → loaded m t ≡ m
alike version ws m Start h k = refl
alike version ws m Stop h k = refl
alike version ws m Window h k = refl
alike version ws m Release h k = refl
alike version ws m Sent h k = refl
alike version ws m Interrupt h k = refl
alike version ws m (Read n) h k = refl
alike version ws m (Write n v) h k = refl
alike version ws m (Command v) h k = refl
alike version ws m (Await n) h k = refl
alike version ws m (At n) h k = refl
alike version ws m (Load n) (d, e, h) (b, f, k) =
    let same : b ≡ d = cc in one_message version d n m (subst (λ w. SpellsMessageIn version w n) same k) h

abbrev Same : List ℕ → Step → Step → Type 0
Same p s t = (loaded p s ≡ p) × (loaded p t ≡ p)

both_load : (version : ℕ) (ws : List Text) (s t : Step) → AreStepWords version ws s → AreStepWords version ws t →
    (p : List ℕ) × Same p s t
both_load version ws (Load m) t h k = (m, (refl, alike version ws m t h k))
both_load version ws Start t h k = (loaded [] t, (refl, twice [] t))
both_load version ws Stop t h k = (loaded [] t, (refl, twice [] t))
both_load version ws Window t h k = (loaded [] t, (refl, twice [] t))
both_load version ws Release t h k = (loaded [] t, (refl, twice [] t))
both_load version ws Sent t h k = (loaded [] t, (refl, twice [] t))
both_load version ws Interrupt t h k = (loaded [] t, (refl, twice [] t))
both_load version ws (Read n) t h k = (loaded [] t, (refl, twice [] t))
both_load version ws (Write n v) t h k = (loaded [] t, (refl, twice [] t))
both_load version ws (Command v) t h k = (loaded [] t, (refl, twice [] t))
both_load version ws (Await n) t h k = (loaded [] t, (refl, twice [] t))
both_load version ws (At n) t h k = (loaded [] t, (refl, twice [] t))

pub one_step : (version : ℕ) (text : Text) (s t : Step) → SaysStep version text s → SaysStep version text t → s ≡ t
one_step version text s t h k =
    let (p, both) = both_load version (words text) s t h k in
    ap (value_or s)
    (sym (step_is p version (words text) s both.0 h) ∙ step_is p version (words text) t both.1 k)

abbrev turn_in : List Text → Option Turn
turn_in (name ∷ []) = if bytes_eq name (codes "rest") then Some Rest else Some Go
turn_in (name ∷ a ∷ []) =
    if bytes_eq name (codes "bus") then option_map Bus (number_of a) else option_map All (number_of a)
turn_in (name ∷ a ∷ b ∷ []) =
    if bytes_eq name (codes "node") then both Node (number_of a) (number_of b)
    else both Irq (number_of a) (number_of b)
turn_in ws = None

turn_is : (version nodes : ℕ) (ws : List Text) (t : Turn) → AreTurnWords version nodes ws t → turn_in ws ≡ Some t
turn_is version nodes ws Rest h = rw h refl
turn_is version nodes ws (Bus n) (a, e, k) = rw e (ap (option_map Bus) k.0)
turn_is version nodes ws (Node n m) (a, b, e, k, i) = rw e (ap₂ (both Node) k.0.0 i.0)
turn_is version nodes ws (All n) (v, a, e, k) = rw e (ap (option_map All) k.0.0)
turn_is version nodes ws (Irq n m) (v, a, b, e, k, i) = rw e (ap₂ (both Irq) k.0.0 i.0)
turn_is version nodes ws Go h = rw h.1 refl

pub one_turn : (version nodes : ℕ) (text : Text) (t u : Turn) → SaysTurn version nodes text t →
    SaysTurn version nodes text u → t ≡ u
one_turn version nodes text t u h k =
    ap (value_or t) (sym (turn_is version nodes (words text) t h) ∙ turn_is version nodes (words text) u k)

number_is : (word : Text) (n m : ℕ) → number_of word ≡ Some n → number_of word ≡ Some m → n ≡ m
number_is word n m h k = ap (value_or n) (sym h ∙ k)

abbrev strike_of : ℕ → ℕ → ℕ → ℕ → Strike
strike_of node bit every times = record { node = node; bit = bit; every = every; times = times }

same_strike : (nodes : ℕ) (ws : List Text) (s t : Strike) → AreStrikeWords nodes ws s →
    AreStrikeWords nodes ws t → s ≡ t
same_strike nodes [] s t h k = absurd h
same_strike nodes (a ∷ []) s t h k = absurd h
same_strike nodes (a ∷ b ∷ []) s t h k =
    let n = number_is a s.node t.node h.node.0.0 k.node.0.0 in
    let m = number_is b s.bit t.bit h.bit.0 k.bit.0 in
    ap₂ (λ x y. strike_of x y s.every s.times) n m
    ∙ ap₂ (λ x y. strike_of t.node t.bit x y) (h.every ∙ sym k.every) (h.times ∙ sym k.times)
same_strike nodes (a ∷ b ∷ c ∷ []) s t h k = absurd h
same_strike nodes (a ∷ b ∷ c ∷ d ∷ []) s t h k =
    let n = number_is a s.node t.node h.node.0.0 k.node.0.0 in
    let m = number_is b s.bit t.bit h.bit.0 k.bit.0 in
    ap₂ (λ x y. strike_of x y s.every s.times) n m ∙ ap₂ (λ x y. strike_of t.node t.bit x y)
    (number_is c s.every t.every h.every.0 k.every.0) (number_is d s.times t.times h.times.0 k.times.0)
same_strike nodes (a ∷ b ∷ c ∷ d ∷ e ∷ ws) s t h k = absurd h

pub one_strike : (nodes : ℕ) (text : Text) (s t : Strike) → SaysStrike nodes text s → SaysStrike nodes text t → s ≡ t
one_strike nodes text s t h k = same_strike nodes (words text) s t h k
