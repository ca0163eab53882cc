-- One text at most is written of a plan, and its last line is ended.
use Rattle.std.proofs.Common.{◌≡◌, ◌∙◌, ◌≤◌, ◌<◌, ◌⊎◌, Bool, true, false, List, [], ◌∷◌, ◌++◌, codes, length, map}
use Rattle.std.proofs.Common.{inl, inr, pos, refl, sym, ap, ap₂, subst, arith, append_assoc}
use Rattle.std.proofs.lemmas.List.{append-nil}
use Rattle.toml.specs.Data.{integer}
use Rattle.toml.specs.Tables.{Expression, Definition, key_value, std_table, array_table}
use Rattle.toml.specs.Text.{IsValueText, IsItemsText, IsLineText, IsLinesText}
use Rattle.toml.specs.Text.{breaks_lines, before_item, after_item, gap}
use Rattle.sja_plan_reading.specs.Faults.{IsPlanOf}
use Rattle.sja_plan_reading.specs.DocumentLimits.{most_bytes}
use Rattle.sja_plan.specs.Plan.{PlanValue}
use Rattle.sja_plan_reading.specs.Words.{Text}
use Rattle.sja_steps.specs.declared.step.Step.{Step}
use Rattle.sja_steps.specs.declared.strike.Strike.{Strike}
use Rattle.sja_plan_text.specs.Texts.{spelled_step, turn_text, strike_text}
use Rattle.sja_plan_text.specs.Written.{texts_data}
use Rattle.sja_plan_text.specs.Written.{pair, strike_lines, node_lines, plan_lines, has_names, IsWritten, IsLong}
use Rattle.sja_plan_text.specs.Written.{IsPlanText, IsTooLong, EndsInFeed}
use Rattle.sja_plan_text.proofs.Tables.Plans.{is_short_document}
use Rattle.sja_plan_text.proofs.Tables.Values.{text_items}

-- ---- one text

same_items : (pretty lines first : Bool) (texts : List Text) (a b : Text) →
    IsItemsText pretty lines first (text_items texts) a → IsItemsText pretty lines first (text_items texts) b → a ≡ b
same_items pretty lines first [] a b h k = h ∙ sym k
same_items pretty lines first (t ∷ texts) a b (v, r, whole, value, more) (w, q, whole2, value2, more2) =
    whole
    ∙ ap₂ (λ v r. before_item lines first ++ (v ++ (after_item lines ++ r))) (value ∙ sym value2)
    (same_items pretty lines false texts r q more more2)
    ∙ sym whole2

-- what is right of `=` in a line, where there is such a value, is one text at most
abbrev IsSure : Bool → Definition → Type 0
IsSure pretty (key_value d) = (a b : Text) → IsValueText pretty d a → IsValueText pretty d b → a ≡ b
IsSure pretty std_table = Unit {0}
IsSure pretty array_table = Unit {0}

abbrev AreSure : Bool → List Expression → Type 0
AreSure pretty [] = Unit {0}
AreSure pretty (e ∷ es) = IsSure pretty e.1 × AreSure pretty es

texts_sure : (pretty : Bool) (texts : List Text) → IsSure pretty (key_value (texts_data texts))
texts_sure pretty texts a b (r, whole, items) (q, whole2, items2) =
    whole
    ∙ ap (λ l. codes "[" ++ l) (same_items pretty (breaks_lines pretty (text_items texts)) true texts r q items items2)
    ∙ sym whole2

nodes_sure : (pretty named : Bool) (nodes : List (List Step)) → AreSure pretty (node_lines named nodes)
nodes_sure pretty named [] = tt
nodes_sure pretty named (steps ∷ nodes) =
    (tt, (texts_sure pretty (map (spelled_step named) steps), nodes_sure pretty named nodes))

strikes_sure : (pretty named : Bool) (strikes : List Strike) (es : List Expression) → AreSure pretty es →
    AreSure pretty (strike_lines named strikes ++ es)
strikes_sure pretty named [] es h = h
strikes_sure pretty named (s ∷ strikes) es h = (texts_sure pretty (map strike_text (s ∷ strikes)), h)

plan_sure : (pretty named : Bool) (p : PlanValue) → AreSure pretty (plan_lines named p)
plan_sure pretty named p = (
  (λ a b h k. h.0 ∙ sym k.0),
  (
    (λ a b h k. h.0 ∙ sym k.0),
    (
      texts_sure pretty (map turn_text p.turns),
      strikes_sure pretty named p.strikes (node_lines named p.nodes) (nodes_sure pretty named p.nodes),
    ),
  ),
)

-- a line is that of its key and of what is right of `=`
same_pair : (k a b v w : Text) → v ≡ w → a ≡ k ++ (codes " = " ++ (v ++ 10 ∷ [])) →
    b ≡ k ++ (codes " = " ++ (w ++ 10 ∷ [])) → a ≡ b
same_pair k a b v w same h h2 = h ∙ ap (λ t. k ++ (codes " = " ++ (t ++ 10 ∷ []))) same ∙ sym h2

same_line : (pretty started : Bool) (key : List Text × Text) (d : Definition) (a b : Text) → IsSure pretty d →
    IsLineText pretty started key d a → IsLineText pretty started key d b → a ≡ b
same_line pretty started key (key_value d) a b sure (v, whole, value) (w, whole2, value2) =
    same_pair _ a b v w (sure v w value value2) whole whole2
same_line pretty started key std_table a b sure h k = h ∙ sym k
same_line pretty started key array_table a b sure h k = h ∙ sym k

same_lines : (pretty started : Bool) (es : List Expression) (a b : Text) → AreSure pretty es →
    IsLinesText pretty started es a → IsLinesText pretty started es b → a ≡ b
same_lines pretty started [] a b sure h k = h ∙ sym k
same_lines pretty started (e ∷ es) a b sure (v, r, whole, line, more) (w, q, whole2, line2, more2) =
    whole
    ∙ ap₂ (λ v r. v ++ r) (same_line pretty started e.0 e.1 v w sure.0 line line2)
    (same_lines pretty true es r q sure.1 more more2)
    ∙ sym whole2

pub one_is_written : (pretty : Bool) (p : PlanValue) (a b : Text) → IsWritten pretty p a → IsWritten pretty p b → a ≡ b
one_is_written pretty p a b h k =
    let named = has_names pretty p.version in
    same_lines pretty false (plan_lines named p) a b (plan_sure pretty named p) h k

-- ---- where it is too long

-- a text that is read isn't too long
short_and_long : (pretty : Bool) (p : PlanValue) (text : Text) → IsPlanOf text p → IsWritten pretty p text →
    IsLong pretty p → ⊥
short_and_long pretty p text read written (other, also, long) =
    let few : length text ≤ most_bytes text = (is_short_document text p read).0.0 in
    let many : most_bytes text < length text =
    subst (λ t. most_bytes t < length t) (one_is_written pretty p other text also written) long in
    absurd (omega (arith, few, many))

-- what the text of a plan is
abbrev IsForm : PlanValue → Text → Type 0
IsForm p text = IsWritten true p text ⊎ (IsWritten false p text × IsLong true p)

same_forms : (p : PlanValue) (a b : Text) → IsPlanOf a p → IsPlanOf b p → IsForm p a → IsForm p b → a ≡ b
same_forms p a b read also (inl h) (inl k) = one_is_written true p a b h k
same_forms p a b read also (inl h) (inr k) = absurd (short_and_long true p a read h k.1)
same_forms p a b read also (inr h) (inl k) = absurd (short_and_long true p b also k h.1)
same_forms p a b read also (inr h) (inr k) = one_is_written false p a b h.0 k.0

pub one_plan_text : (p : PlanValue) (a b : Text) → IsPlanText p a → IsPlanText p b → a ≡ b
one_plan_text p a b h k = same_forms p a b h.read k.read h.form k.form

form_or_long : (p : PlanValue) (text : Text) → IsPlanOf text p → IsForm p text → IsTooLong p → ⊥
form_or_long p text read (inl h) long = short_and_long true p text read h long.pretty
form_or_long p text read (inr h) long = short_and_long false p text read h.0 long.flat

pub text_or_too_long : (p : PlanValue) (text : Text) → IsPlanText p text → ¬ IsTooLong p
text_or_too_long p text h long = form_or_long p text h.read h.form long

-- ---- its last line

-- three texts and a line feed
ends_so : (a b c text : Text) → text ≡ a ++ (b ++ (c ++ 10 ∷ [])) → EndsInFeed text
ends_so a b c text h = (a ++ (b ++ c), rw h (simp append_assoc refl))

ends_header : (a b c d text : Text) → text ≡ a ++ (b ++ (c ++ (d ++ 10 ∷ []))) → EndsInFeed text
ends_header a b c d text h = (a ++ (b ++ (c ++ d)), rw h (simp append_assoc refl))

line_ends : (pretty started : Bool) (key : List Text × Text) (d : Definition) (text : Text) →
    IsLineText pretty started key d text → EndsInFeed text
line_ends pretty started key (key_value d) text (v, whole, value) = ends_so _ (codes " = ") v text whole
line_ends pretty started key std_table text h = ends_header (gap started) (codes "[") _ (codes "]") text h
line_ends pretty started key array_table text h = ends_header (gap started) (codes "[[") _ (codes "]]") text h

further : (v r front text : Text) → text ≡ v ++ r → r ≡ front ++ 10 ∷ [] → text ≡ (v ++ front) ++ 10 ∷ []
further v r front text whole ends = rw (whole, ends) (simp append_assoc refl)

lines_end : (pretty started : Bool) (e : Expression) (es : List Expression) (text : Text) →
    IsLinesText pretty started (e ∷ es) text → EndsInFeed text
lines_end pretty started e [] text (v, r, whole, line, more) =
    let (front, ends) = line_ends pretty started e.0 e.1 v line in
    (front, whole ∙ ap (λ l. v ++ l) more ∙ append-nil v ∙ ends)
lines_end pretty started e (f ∷ es) text (v, r, whole, line, more) =
    let (front, ends) = lines_end pretty true f es r more in
    (v ++ front, further v r front text whole ends)

written_ends : (pretty : Bool) (p : PlanValue) (text : Text) → IsWritten pretty p text → EndsInFeed text
written_ends pretty p text h =
    lines_end pretty false (pair (codes "version") (integer (pos p.version)))
    (pair (codes "bits") (integer (pos p.bits)) ∷ pair (codes "turns") (texts_data (map turn_text p.turns))
    ∷ (strike_lines (has_names pretty p.version) p.strikes ++ node_lines (has_names pretty p.version) p.nodes)) text h

form_ends : (p : PlanValue) (text : Text) → IsForm p text → EndsInFeed text
form_ends p text (inl h) = written_ends true p text h
form_ends p text (inr h) = written_ends false p text h.0

pub text_ends : (p : PlanValue) (text : Text) → IsPlanText p text → EndsInFeed text
text_ends p text h = form_ends p text h.form
