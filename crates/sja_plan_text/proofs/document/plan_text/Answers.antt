use Rattle.std.proofs.Common.{◌≡◌, ◌<◌, ◌≤◌, ℕ, Bool, true, false, List, length, inl, inr, refl, subst, arith}
use Rattle.std.proofs.Common.{string_bytes}
use Rattle.std.specs.Prelude.{IsUtf8}
use Rattle.std.proofs.lemmas.Str.{IsUtf8-string_bytes}
use Rattle.sja_plan_reading.specs.Faults.{IsPlanOf}
use Rattle.sja_plan_reading.specs.DocumentLimits.{most_bytes}
use Rattle.sja_plan.specs.Plan.{PlanValue}
use Rattle.sja_plan_text.specs.Document.{IsDocumentOf}
use Rattle.sja_plan_text.specs.Written.{IsWritten, IsLong}
use Rattle.sja_plan_text.proofs.Tables.Plans.{is_plan}
use Rattle.sja_plan_text.proofs.document.plan_text.Goals as goal

-- a text is as long as it may be, or longer, by what was read of it
fits : (text read : List ℕ) (len most : ℕ) → len ≡ length text → read ≡ text → most ≡ most_bytes read →
    len ≤ most → length text ≤ most_bytes text
fits text read len most count same is few = subst (λ b. length text ≤ most_bytes b) same (omega arith)

too_long : (text read : List ℕ) (len most : ℕ) → len ≡ length text → read ≡ text → most ≡ most_bytes read →
    most < len → most_bytes text < length text
too_long text read len most count same is many = subst (λ b. most_bytes b < length text) same (omega arith)

-- so the one that was written is read, and the other is too long
reads : (plan : PlanValue) (text read : List ℕ) (len most : ℕ) → len ≡ length text → read ≡ text →
    most ≡ most_bytes read → len ≤ most → IsUtf8 text → IsDocumentOf text plan → IsPlanOf text plan
reads plan text read len most count same is few utf8 says =
    is_plan text plan (fits text read len most count same is few, utf8) says

is_long : (pretty : Bool) (plan : PlanValue) (text read : List ℕ) (len most : ℕ) → len ≡ length text → read ≡ text →
    most ≡ most_bytes read → most < len → IsWritten pretty plan text → IsLong pretty plan
is_long pretty plan text read len most count same is many written =
    (text, written, too_long text read len most count same is many)

pub returns-then-len-most_bytes-clause-ok : goal.returns-then-len-most_bytes-clause-ok
returns-then-len-most_bytes-clause-ok c =
    let text = string_bytes c.in_ok-text.text in
    let read = reads c.args.plan.now text c.as_bytes.result.now c.len.result c.most_bytes.result
    (omega (arith, c.len.ensures)) c.as_bytes.ensures.value c.most_bytes.ensures.value c.if-len-most_bytes.true
    (IsUtf8-string_bytes c.in_ok-text.text) c.in_ok-text.ensures.1 in
    record { read = read; form = inl c.in_ok-text.ensures.0 }

pub returns-then-len-most_bytes-2-clause-ok : goal.returns-then-len-most_bytes-2-clause-ok
returns-then-len-most_bytes-2-clause-ok c =
    let plan = c.args.plan.now in
    let text = string_bytes c.in_ok-text-2.text in
    let long = is_long true plan (string_bytes c.in_ok-text.text) c.as_bytes.result.now c.len.result c.most_bytes.result
    (omega (arith, c.len.ensures)) c.as_bytes.ensures.value c.most_bytes.ensures.value c.if-len-most_bytes.false
    c.in_ok-text.ensures.0 in
    let read = reads plan text c.as_bytes-2.result.now c.len-2.result c.most_bytes-2.result
    (omega (arith, c.len-2.ensures)) c.as_bytes-2.ensures.value c.most_bytes-2.ensures.value
    c.if-len-most_bytes-2.true (IsUtf8-string_bytes c.in_ok-text-2.text) c.in_ok-text-2.ensures.1 in
    record { read = read; form = inr (c.in_ok-text-2.ensures.0, long) }

pub returns-clause-err : goal.returns-clause-err
returns-clause-err c =
    let plan = c.args.plan.now in
    let pretty = is_long true plan (string_bytes c.in_ok-text.text) c.as_bytes.result.now c.len.result
    c.most_bytes.result (omega (arith, c.len.ensures)) c.as_bytes.ensures.value c.most_bytes.ensures.value
    c.if-len-most_bytes.false c.in_ok-text.ensures.0 in
    let flat = is_long false plan (string_bytes c.in_ok-text-2.text) c.as_bytes-2.result.now c.len-2.result
    c.most_bytes-2.result (omega (arith, c.len-2.ensures)) c.as_bytes-2.ensures.value c.most_bytes-2.ensures.value
    c.if-len-most_bytes-2.false c.in_ok-text-2.ensures.0 in
    inr (refl, record { pretty = pretty; flat = flat })
