-- The words of a line that runs to a place.
use Rattle.std.proofs.Common.{◌≡◌, ◌<◌, ◌≤◌, ℕ, Bool, List, [], ◌∷◌, ◌++◌, length, codes, refl, subst}
use Rattle.std.proofs.Common.{Bor, arith, inr}
use Rattle.std.specs.Prelude.{Option, Result, Ok, Err, IfOk, IfErr}
use Rattle.sja_live.specs.Commands.{AreCommandWords, ArePlaceWords}
use Rattle.sja_live.specs.Inside.Reading.{IsCommandRefusal, SaysWay, IsWayRefusal}
use Rattle.sja_live.specs.declared.command_refusal.CommandRefusal.{CommandRefusal}
use Rattle.sja_live.specs.declared.command_refusal.CommandRefusal.TheVariants.{Mistaken, Memory}
use Rattle.sja_live.specs.declared.line_fault.LineFault.TheVariants.{Text as NoText, Command, Node, Number}
use Rattle.sja_live.specs.declared.line_fault.LineFault.TheVariants.{Address, Byte, Step as StepWord, Place as NoPlace}
use Rattle.sja_live.specs.declared.live_command.LiveCommand.{LiveCommand}
use Rattle.sja_live.specs.declared.live_command.LiveCommand.TheVariants.{Step, Read, Write, Run, Rest, Line, Strike}
use Rattle.sja_live.specs.declared.live_command.LiveCommand.TheVariants.{Answer, Bits, Plan, End, To, PlaceOf}
use Rattle.sja_live.proofs.Lines.WordLists.{texts, text_at}
use Rattle.sja_plan.specs.declared.place.Place.{Place}
use Rattle.sja_plan_reading.specs.Words.{Text}

-- what the words behind the node say is what the line asks for
pub way_asked : (version : ℕ) (endless : Bool) (nodes : ℕ) (k n : Text) (names : List Text)
    (place : Option Place) (c : LiveCommand) →
    ArePlaceWords names place → SaysWay nodes k place n c →
    AreCommandWords version endless nodes (codes "to" ∷ k ∷ (names ++ n ∷ [])) c
way_asked version endless nodes k n names place (To node p limit) are says =
    (k, n, record { names = names; are = subst (ArePlaceWords names) says.0 are; whole = refl }, says.1, says.2)
way_asked version endless nodes k n names place (Step node this) are says = absurd says
way_asked version endless nodes k n names place (Read node address) are says = absurd says
way_asked version endless nodes k n names place (Write node address value) are says = absurd says
way_asked version endless nodes k n names place (Run count) are says = absurd says
way_asked version endless nodes k n names place Rest are says = absurd says
way_asked version endless nodes k n names place Line are says = absurd says
way_asked version endless nodes k n names place (Strike node bit) are says = absurd says
way_asked version endless nodes k n names place (Answer node) are says = absurd says
way_asked version endless nodes k n names place (PlaceOf node) are says = absurd says
way_asked version endless nodes k n names place Bits are says = absurd says
way_asked version endless nodes k n names place Plan are says = absurd says
way_asked version endless nodes k n names place End are says = absurd says

-- and why they say nothing is why the line asks for nothing
pub way_mistaken : (version : ℕ) (endless : Bool) (nodes : ℕ) (k n : Text) (names : List Text)
    (place : Option Place) (r : CommandRefusal) →
    ArePlaceWords names place → IsWayRefusal nodes k place n r →
    IsCommandRefusal version endless nodes (codes "to" ∷ k ∷ (names ++ n ∷ [])) r
way_mistaken version endless nodes k n names place Memory are f = tt
way_mistaken version endless nodes k n names place (Mistaken Node) are f =
    (k, inr (inr (inr (inr (inr (inr (place, n, record { names = names; are = are; whole = refl })))))), f)
way_mistaken version endless nodes k n names place (Mistaken NoPlace) are f =
    (k, n, record { names = names; are = subst (ArePlaceWords names) f.0 are; whole = refl }, f.1)
way_mistaken version endless nodes k n names place (Mistaken Number) are f =
    inr (inr (k, n, f.0, record { names = names; are = subst (ArePlaceWords names) f.1 are; whole = refl }, f.2, f.3))
way_mistaken version endless nodes k n names place (Mistaken NoText) are f = absurd f
way_mistaken version endless nodes k n names place (Mistaken Command) are f = absurd f
way_mistaken version endless nodes k n names place (Mistaken Address) are f = absurd f
way_mistaken version endless nodes k n names place (Mistaken Byte) are f = absurd f
way_mistaken version endless nodes k n names place (Mistaken StepWord) are f = absurd f

-- two words behind the node, or three, or another number of them
pub two_behind : (ws : List (Bor Text)) (d : Bor Text) → 2 ≤ length ws → length ws < 3 →
    texts ws ≡ (text_at ws 0 d ∷ []) ++ text_at ws 1 d ∷ []
two_behind [] d many few = absurd (omega (arith, many))
two_behind (a ∷ []) d many few = absurd (omega (arith, many))
two_behind (a ∷ b ∷ []) d many few = refl
two_behind (a ∷ b ∷ e ∷ ws) d many few = absurd (omega (arith, few))

pub three_behind : (ws : List (Bor Text)) (d : Bor Text) → 3 ≤ length ws → length ws < 4 →
    texts ws ≡ (text_at ws 0 d ∷ text_at ws 1 d ∷ []) ++ text_at ws 2 d ∷ []
three_behind [] d many few = absurd (omega (arith, many))
three_behind (a ∷ []) d many few = absurd (omega (arith, many))
three_behind (a ∷ b ∷ []) d many few = absurd (omega (arith, many))
three_behind (a ∷ b ∷ e ∷ []) d many few = refl
three_behind (a ∷ b ∷ e ∷ f ∷ ws) d many few = absurd (omega (arith, few))

-- what holds of a value, or of an error, where another thing does
pub ok_so : {A E : Type 0} {P Q : A → Type 0} (r : Result A E) → IfOk r P → ((x : A) → P x → Q x) → IfOk r Q
ok_so (Ok x) h f = f x h
ok_so (Err e) h f = tt

pub err_so : {A E : Type 0} {P Q : E → Type 0} (r : Result A E) → IfErr r P → ((x : E) → P x → Q x) → IfErr r Q
err_so (Ok x) h f = tt
err_so (Err e) h f = f e h
