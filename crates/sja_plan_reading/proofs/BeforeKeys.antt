-- Blank lines and comments before the keys of a document.
use Rattle.std.proofs.Common.{◌≡◌, ◌∙◌, ◌+◌, ◌-◌, ◌==◌, ◌++◌, ℕ, zero, suc, Bool, true, false, List, [], ◌∷◌}
use Rattle.std.proofs.Common.{Option, Some, None, is_some, unwrap_or, length, take, refl, sym, ap, subst, inl, inr}
use Rattle.std.proofs.Common.{arith, append-nil, length-append, take_all}
use Rattle.std.proofs.lemmas.List.{take-append-le}
use Rattle.std.proofs.Math.Seq.{take-append-add}
use Rattle.std.specs.Prelude.{option_and_then, option_map}
use Rattle.std.proofs.lemmas.Bool.{cases_Bool, cases_lt}
use Rattle.std.proofs.lemmas.Bool.Decides.{Decides-eqb, nat_tests}
use Rattle.std.proofs.lemmas.Option.{none-some, same_Some}
use Rattle.std.proofs.lemmas.Slice.Eq.{starts_is}
use Rattle.toml_parser.specs.Lexical.{first, skip_from, skip_turn, skip_blank}
use Rattle.toml.specs.Tables.{Document, define, no_nodes, close}
use Rattle.toml.specs.Parse.{lines, line, skip_bom, parse_document}
use Rattle.toml.proofs.Turns.{document_some}
use Rattle.toml.specs.Data.{Members}
use Rattle.sja_plan_reading.specs.DocumentLimits.{by_bytes_line, begins_by_bytes}
use Rattle.sja_plan.specs.Plan.{PlanValue}
use Rattle.sja_plan_reading.specs.Faults.{IsText, IsPlanOf}

-- where one step gives a value by f it gives it by g, so it does behind any first step
bind_more : {A B : Type 0} (o : Option A) (f g : A → Option B) (b : B) → ((a : A) → f a ≡ Some b → g a ≡ Some b) →
    option_and_then f o ≡ Some b → option_and_then g o ≡ Some b
bind_more None f g b more e = absurd (none-some b e)
bind_more (Some a) f g b more e = more a e

-- what a value comes of
mapped : {A B : Type 0} (o : Option A) (f : A → B) (b : B) → option_map f o ≡ Some b →
    (a : A) × (o ≡ Some a) × (f a ≡ b)
mapped None f b e = absurd (none-some b e)
mapped (Some a) f b e = (a, refl, same_Some (f a) b e)

-- lines that are read within so many turns are read within one more
one_turn_more : (n : ℕ) (doc d : Document) (text : List ℕ) → lines n doc text ≡ Some d → lines (suc n) doc text ≡ Some d
unfolding lines
one_turn_more zero doc d text h = absurd (none-some d h)
one_turn_more (suc n) doc d text h =
    elim (cases_Bool (length (skip_blank text) == 0)) [
      | inl done ↦ rw done (rw done at h)
      | inr more ↦ rw more
          (bind_more (line (skip_blank text)) _ _ d
          (λ e. bind_more (define doc e.0) _ _ d (λ next. one_turn_more n next d e.1)) (rw more at h))
    ]

more_turns : (k n : ℕ) (doc d : Document) (text : List ℕ) → lines n doc text ≡ Some d → lines (k + n) doc text ≡ Some d
more_turns zero n doc d text h =
    let none : 0 + n ≡ n = omega arith in rw none h
more_turns (suc k) n doc d text h =
    let one : suc k + n ≡ suc (k + n) = omega arith in
    rw one (one_turn_more (k + n) doc d text (more_turns k n doc d text h))

-- what is skipped before the lines changes nothing in them
same_lines : (n : ℕ) (doc : Document) (whole text : List ℕ) → skip_blank whole ≡ skip_blank text →
    lines (suc n) doc whole ≡ lines (suc n) doc text
unfolding lines
same_lines n doc whole text same = rw same

-- nothing is skipped of what begins with a letter v
skips_nothing : (rest : List ℕ) → skip_blank (118 ∷ rest) ≡ 118 ∷ rest
unfolding skip_from
skips_nothing rest = refl

-- whatever stands behind that letter
v_stops : (inside : Bool) (one other : ℕ) →
    is_some (skip_turn true inside 118 one) ≡ is_some (skip_turn true inside 118 other)
v_stops true one other = refl
v_stops false one other = refl

-- what is skipped to that letter is skipped to it where more stands behind
pub still_skipped : (inside : Bool) (text more rest : List ℕ) → skip_from true inside text ≡ 118 ∷ rest →
    skip_from true inside (text ++ more) ≡ (118 ∷ rest) ++ more
unfolding skip_from
still_skipped inside [] more rest e = absurd (cc)
still_skipped inside (c ∷ []) more rest e =
    elim (cases_Bool (is_some (skip_turn true inside c 0))) [
      | inl on ↦ absurd (let h = rw on at e in cc)
      | inr stop ↦
          let h : c ∷ [] ≡ 118 ∷ rest = rw stop at e in
          let is : c ≡ 118 = ap first h in
          let stops : is_some (skip_turn true inside c (first more)) ≡ false =
          subst (λ b. is_some (skip_turn true inside b (first more)) ≡ false) (sym is)
          (v_stops inside (first more) 0 ∙ subst (λ b. is_some (skip_turn true inside b 0) ≡ false) is stop) in
          rw stops (ap (λ l. l ++ more) h)
    ]
still_skipped inside (c ∷ d ∷ text) more rest e =
    elim (cases_Bool (is_some (skip_turn true inside c d))) [
      | inl on ↦ rw on (still_skipped (unwrap_or (skip_turn true inside c d) false) (d ∷ text) more rest (rw on at e))
      | inr stop ↦
          let h = rw stop at e in
          let same : c ∷ d ∷ text ≡ 118 ∷ rest = h in
          rw stop (ap (λ l. l ++ more) same)
    ]

-- what a document begins with is the same with more behind it, where there is room for all that is looked at
front : (n : ℕ) (bytes more : List ℕ) → (rest : List ℕ) × (take n (bytes ++ more) ≡ take n bytes ++ rest)
front n bytes more =
    elim (cases_lt n (length bytes)) [
      | inl within ↦ ([], take-append-le n bytes more (omega (arith, within)) ∙ sym (append-nil _))
      | inr past ↦
          let k = n - length bytes in
          let is : n ≡ length bytes + k = omega arith in (
            take k more,
            ap (λ m. take m (bytes ++ more)) is ∙ take-append-add bytes more k
                ∙ ap (λ l. l ++ take k more) (sym (take_all n bytes (omega arith))),
          )
    ]

pub still_by_bytes : (bytes more : List ℕ) → begins_by_bytes bytes ≡ true → begins_by_bytes (bytes ++ more) ≡ true
unfolding begins_by_bytes
still_by_bytes bytes more begins =
    let head = take 65536 bytes in
    let is = (starts_is Decides-eqb (skip_blank head) by_bytes_line (begins_by_bytes bytes) refl).0 begins in
    let (rest, taken) = front 65536 bytes more in
    let skipped = still_skipped false head rest _ is in
    (starts_is Decides-eqb (skip_blank (take 65536 (bytes ++ more))) by_bytes_line (begins_by_bytes (bytes ++ more))
    refl).1 _
    (ap skip_blank taken ∙ skipped)

-- a text that is skipped to that letter begins with no byte order mark
no_mark : (text rest : List ℕ) → skip_blank text ≡ 118 ∷ rest → skip_bom text ≡ text
unfolding skip_bom skip_from
no_mark [] rest e = refl
no_mark (c ∷ text) rest e =
    elim (cases_Bool (c == 239)) [
      | inl mark ↦
          let is : c ≡ 239 = grind (arith, nat_tests) in
          let stops : is_some (skip_turn true false c (first text)) ≡ false = rw is refl in
          let same : c ∷ text ≡ 118 ∷ rest = rw stops at e in
          absurd (omega (arith, is, ap first same))
      | inr none ↦ rw none
    ]

-- the lines that a document is read as
read_lines : (text : List ℕ) (ms : Members) → parse_document text ≡ Some ms →
    (doc : Document) × (lines (suc (length text)) (no_nodes, []) (skip_bom text) ≡ Some doc) × (close doc.0 ≡ ms)
unfolding parse_document
read_lines text ms e = mapped (lines (suc (length text)) (no_nodes, []) (skip_bom text)) (λ doc. close doc.0) ms e

-- a document of comments and then a text is what the text is
same_document : (comments rest : List ℕ) (ms : Members) →
    skip_blank (comments ++ (by_bytes_line ++ rest)) ≡ by_bytes_line ++ rest → parse_document (by_bytes_line
    ++ rest) ≡ Some ms →
    parse_document (comments ++ (by_bytes_line ++ rest)) ≡ Some ms
same_document comments rest ms skipped parsed =
    let text = by_bytes_line ++ rest in
    let whole = comments ++ text in
    let (doc, read, closed) = read_lines text ms parsed in
    let unmarked = no_mark text _ (skips_nothing _) in
    let more = more_turns (length comments) (suc (length text)) (no_nodes, []) doc text (rw unmarked at read) in
    let turns : length comments + suc (length text) ≡ suc (length whole) =
    let l = length-append comments text in omega arith in
    let same = same_lines (length whole) (no_nodes, []) whole text (skipped ∙ sym (skips_nothing _)) in
    document_some whole doc
    (ap (lines (suc (length whole)) (no_nodes, [])) (no_mark whole _ skipped) ∙ same ∙ rw turns at more)
    ∙ ap Some closed

pub comments_change_nothing : (comments rest : List ℕ) (p : PlanValue) →
    skip_blank (comments ++ (by_bytes_line ++ rest)) ≡ by_bytes_line ++ rest →
    IsText (comments ++ (by_bytes_line ++ rest)) →
    IsPlanOf (by_bytes_line ++ rest) p → IsPlanOf (comments ++ (by_bytes_line ++ rest)) p
comments_change_nothing comments rest p skipped text (d, (ms, t, parsed, shape), says) =
    (d, (ms, text, same_document comments rest ms skipped parsed, shape), says)
