-- The texts of steps.
use Rattle.std.proofs.Common.{◌≡◌, ◌≤◌, inl, inr, ℕ, Bool, true, false, [], ◌∷◌, codes, decimal}
use Rattle.std.proofs.Common.{refl, arith}
use Rattle.hex.specs.Hex.{encode_lower}
use Rattle.hex.proofs.HexLemmas.{decode_of-encode_lower}
use Rattle.sja_plan_reading.specs.Words.{Text}
use Rattle.sja_plan_reading.specs.StepTexts.{SaysStep}
use Rattle.sja_plan_reading.proofs.OneReading.OneMessage.{is_message}
use Rattle.sja_steps.specs.declared.step.Step.{Step}
use Rattle.sja_steps.specs.declared.step.Step.TheVariants.{Start, Stop, Window, Release, Read}
use Rattle.sja_steps.specs.declared.step.Step.TheVariants.{Write, Load, Command, Await, Sent, Interrupt, At}
use Rattle.sja_plan_text.specs.Names.{before_transmit, before_receive, address_word, value_word, message_word}
use Rattle.sja_plan_text.specs.Texts.{named_text, spelled_step}
use Rattle.sja_steps.specs.StepText.{step_text}
use Rattle.sja_plan_text.specs.HasTexts.{HasStepText}
use Rattle.sja_plan_text.proofs.Spelling.Words.{words_joined, decimal_word, spells, encode_word, one_byte}
use Rattle.sja_plan_text.proofs.Spelling.Messages.{message_bytes, message_said, message_is_word}
use Rattle.sja_plan_text.proofs.Spelling.Addresses.{address_said, register_said}
use Rattle.sja_plan_text.proofs.Spelling.Values.{value_said, bits_said}

-- in each version a step's text says it
pub step_said : (version : ℕ) (s : Step) → HasStepText version s → SaysStep version (step_text s) s
step_said version Start h = words_joined (codes "start") [] refl
step_said version Stop h = words_joined (codes "stop") [] refl
step_said version Window h = words_joined (codes "window") [] refl
step_said version Release h = words_joined (codes "release") [] refl
step_said version Sent h = words_joined (codes "sent") [] refl
step_said version Interrupt h = (h, words_joined (codes "interrupt") [] refl)
step_said version (Read n) h =
    let word = decimal_word n (omega arith) in (
      decimal n,
      words_joined (codes "read") (decimal n ∷ []) (rw word refl),
      address_said version n h,
    )
step_said version (Write n v) h =
    let word = decimal_word n (omega arith) in
    let byte = encode_word (v ∷ []) (one_byte v h.1) in (
      decimal n,
      encode_lower (v ∷ []),
      words_joined (codes "write") (decimal n ∷ encode_lower (v ∷ []) ∷ []) (rw (word, byte) refl),
      address_said version n h.0,
      value_said version n v h.1,
    )
step_said version (Load m) h =
    let word = encode_word m (message_bytes m h) in (
      encode_lower m,
      words_joined (codes "load") (encode_lower m ∷ []) (rw word refl),
      inl (decode_of-encode_lower m (message_bytes m h), h),
    )
step_said version (Command v) h =
    let word = encode_word (v ∷ []) (one_byte v h) in (
      encode_lower (v ∷ []),
      words_joined (codes "command") (encode_lower (v ∷ []) ∷ []) (rw word refl),
      value_said version 1 v h,
    )
step_said version (Await n) h =
    let word = decimal_word n (omega arith) in (
      decimal n,
      words_joined (codes "await") (decimal n ∷ []) (rw word refl),
      spells 1 21 n (omega arith) h.0 h.1,
    )
step_said version (At n) h =
    let few = h.1 in let word = decimal_word n (omega (arith, few)) in (
      h.0,
      decimal n,
      words_joined (codes "at") (decimal n ∷ []) (rw word refl),
      spells 0 2000000 n (omega (arith, few)) (omega arith) few,
    )

-- in version 3 its text with names says it too
pub named_said : (version : ℕ) (s : Step) → 3 ≤ version → HasStepText version s → SaysStep version (named_text s) s
named_said version (Read n) raw h =
    let (word, said) = register_said version before_receive n raw (omega arith) in
    let joined = words_joined (codes "read") (address_word before_receive n ∷ []) (rw word refl) in
    (address_word before_receive n, joined, said)
named_said version (Write n v) raw h =
    let (address, said) = register_said version before_transmit n raw (omega (arith, h.0)) in
    let (value, valued) = bits_said version n v raw h.1 in (
      address_word before_transmit n,
      value_word n v,
      words_joined (codes "write") (address_word before_transmit n ∷ value_word n v ∷ []) (rw (address, value) refl),
      said,
      valued,
    )
named_said version (Load m) raw h = (
  message_word m,
  words_joined (codes "load") (message_word m ∷ []) (rw (message_is_word m) refl),
  inr (raw, message_said m h),
)
named_said version (Command v) raw h =
    let (word, said) = bits_said version 1 v raw h in
    (value_word 1 v, words_joined (codes "command") (value_word 1 v ∷ []) (rw word refl), said)
named_said version Start raw h = step_said version Start h
named_said version Stop raw h = step_said version Stop h
named_said version Window raw h = step_said version Window h
named_said version Release raw h = step_said version Release h
named_said version Sent raw h = step_said version Sent h
named_said version Interrupt raw h = step_said version Interrupt h
named_said version (Await n) raw h = step_said version (Await n) h
named_said version (At n) raw h = step_said version (At n) h

-- with names or without
pub spelled_said : (named : Bool) (version : ℕ) → (named ≡ true → 3 ≤ version) → (s : Step) → HasStepText version s →
    SaysStep version (spelled_step named s) s
spelled_said true version raw s h = named_said version s (raw refl) h
spelled_said false version raw s h = step_said version s h

-- a step that a text says has a text
pub has_step_text : (version : ℕ) (text : Text) (s : Step) → SaysStep version text s → HasStepText version s
has_step_text version text Start h = tt
has_step_text version text Stop h = tt
has_step_text version text Window h = tt
has_step_text version text Release h = tt
has_step_text version text Sent h = tt
has_step_text version text Interrupt h = h.0
has_step_text version text (Read n) (a, e, k) = omega (arith, k.1)
has_step_text version text (Write n v) (a, b, e, k, i) = (omega (arith, k.1), omega (arith, i.1))
has_step_text version text (Load m) (a, e, k) = is_message version a m k
has_step_text version text (Command v) (a, e, k) = omega (arith, k.1)
has_step_text version text (Await n) (a, e, k) = (k.1, k.2)
has_step_text version text (At n) (v, a, e, k) = (v, k.2)
