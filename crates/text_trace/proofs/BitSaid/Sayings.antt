-- Events that are written one after another.
use Rattle.std.proofs.Common.{◌≡◌, ◌||◌, ℕ, Bool, true, false, List, [], ◌∷◌, ◌++◌, codes, string_bytes}
use Rattle.std.proofs.Common.{◌&&◌, not, refl, sym, ap, ap₂, ◌∙◌, subst, append-nil, append_assoc}
use Rattle.std.proofs.Math.Bool.{or-false}
use Rattle.std.proofs.lemmas.Bool.{or_right}
use Rattle.can_node_rules.specs.declared.counters.Counters.{Counters}
use Rattle.can_node_rules.specs.declared.state.State.{State}
use Rattle.can_node_rules.specs.declared.state.State.TheVariants.{Active, Passive, BusOff}
use Rattle.can_node_rules.specs.Outcomes.{state_of}
use Rattle.text_trace.specs.BitEvents.{warns, change_text, confinement_said}
use Rattle.text_trace.specs.Events.{said_if}
use Rattle.text_trace.specs.TraceText.{behind}
use Rattle.text_trace.specs.declared.remarks.Remarks.{Remarks}
use Rattle.text_trace.specs.Inside.Saying.{separator, said_after, is_any, Tells}
use Rattle.text_report.proofs.WrittenLines.Written.{two_texts}

-- events behind others
behind_both : (es fs : List (List ℕ)) → behind (es ++ fs) ≡ behind es ++ behind fs
behind_both [] fs = refl
behind_both (e ∷ es) fs =
    ap (λ t. codes "; " ++ (e ++ t)) (behind_both es fs)
    ∙ ap (λ t. codes "; " ++ t) (sym (append_assoc e (behind es) (behind fs)))

said_both : (b : Bool) (es fs : List (List ℕ)) →
    said_after b (es ++ fs) ≡ said_after b es ++ said_after (b || is_any es) fs
said_both true es fs = behind_both es fs
said_both false [] fs = refl
said_both false (e ∷ es) fs = ap (λ t. e ++ t) (behind_both es fs) ∙ sym (append_assoc e (behind es) (behind fs))

any_both : (b : Bool) (es fs : List (List ℕ)) → ((b || is_any es) || is_any fs) ≡ (b || is_any (es ++ fs))
any_both true es fs = refl
any_both false [] fs = refl
any_both false (e ∷ es) fs = refl

-- events, and then others
pub tells_both : {a b c : Remarks} {es fs : List (List ℕ)} → Tells a b es → Tells b c fs → Tells a c (es ++ fs)
tells_both {a} {b} {c} {es} {fs} one two = record {
  text =
      two_texts (string_bytes a.text) (string_bytes b.text) (string_bytes c.text) (said_after a.begun es)
      (said_after (a.begun || is_any es) fs) one.text
      (two.text ∙ ap (λ x. string_bytes b.text ++ said_after x fs) one.begun)
      ∙ ap (λ t. string_bytes a.text ++ t) (sym (said_both a.begun es fs));
  begun = two.begun ∙ ap (λ x. x || is_any fs) one.begun ∙ any_both a.begun es fs;
}

-- no event
nothing_said : (b : Bool) → said_after b [] ≡ []
nothing_said true = refl
nothing_said false = refl

pub tells_none : (t : Remarks) → Tells t t []
tells_none t = record {
  text = sym (append-nil (string_bytes t.text)) ∙ ap (λ x. string_bytes t.text ++ x) (sym (nothing_said t.begun));
  begun = sym (or-false t.begun);
}

-- where the counters are as they were no state changes
no_warning : (b : Bool) → (not b && b) ≡ false
no_warning true = refl
no_warning false = refl

no_change : (s : State) → change_text s s ≡ []
no_change Active = refl
no_change Passive = refl
no_change BusOff = refl

pub confinement_none : (k : Counters) → confinement_said k k ≡ []
confinement_none k =
    ap₂ (λ warning change. warning ++ change) (ap (λ b. said_if b (codes "error warning")) (no_warning (warns k)))
    (no_change (state_of k))

pub tells_same : (t : Remarks) (old new : Counters) → new ≡ old → Tells t t (confinement_said old new)
tells_same t old new same =
    let P : List (List ℕ) → Type 0 = λ es. Tells t t es in
    subst P (sym (confinement_none old) ∙ ap (λ k. confinement_said old k) (sym same)) (tells_none t)

-- one event: what stands before it, and its text
one_said : (b : Bool) (e : List ℕ) → separator b ++ e ≡ said_after b (e ∷ [])
one_said true e = ap (λ t. codes "; " ++ t) (sym (append-nil e))
one_said false e = sym (append-nil e)

pub tells_one : (old new : Remarks) (between e : List ℕ) → between ≡ string_bytes old.text ++ separator old.begun →
    string_bytes new.text ≡ between ++ e → new.begun ≡ true → Tells old new (e ∷ [])
tells_one old new between e before wrote begins = record {
  text =
      two_texts (string_bytes old.text) between (string_bytes new.text) (separator old.begun) e before wrote
      ∙ ap (λ t. string_bytes old.text ++ t) (one_said old.begun e);
  begun = begins ∙ sym (or_right old.begun true refl);
}

-- where a test says whether there is one
pub tells_not : (t : Remarks) (test : Bool) (e : List ℕ) → test ≡ false → Tells t t (said_if test e)
tells_not t true e h = cc
tells_not t false e h = tells_none t

pub tells_if : (old new : Remarks) (between e : List ℕ) (test : Bool) → test ≡ true →
    between ≡ string_bytes old.text ++ separator old.begun → string_bytes new.text ≡ between ++ e →
    new.begun ≡ true → Tells old new (said_if test e)
tells_if old new between e true h before wrote begins = tells_one old new between e before wrote begins
tells_if old new between e false h before wrote begins = cc
