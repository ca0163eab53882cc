-- Elements that were lent to a call as a slice, and written back.
use Rattle.std.proofs.Common.{◌≡◌, ℕ, ◌+◌, suc, List, ◌++◌, length, take, drop, sym, ap, ◌∙◌, subst, arith}
use Rattle.std.proofs.lemmas.Grind.{common_steps}
use Rattle.lemmas.specs.Related.{EachRelated}
use Rattle.sja_log.specs.Log.{NodeValue, RunValue}
use Rattle.sja_plan.specs.Plan.{PlanValue}
use Rattle.text_report.specs.ReportLines.{numbered}
use Rattle.text_trace.specs.declared.node_trace.NodeTrace.{NodeTrace}
use Rattle.text_trace.specs.TraceText.{IsTrace}
use Rattle.text_trace.specs.TraceProgress.{NodeTraceEnds, AreUnderway, late_lines}
use Rattle.text_trace.specs.Passing.{ComesTo}
use Rattle.text_trace.specs.Inside.Reading.{TellsBits}
use Rattle.text_trace.specs.TraceRest.{PassesUnsaid}
use Rattle.text_trace.proofs.Stories.Passed.{comes_underway, comes_all}
use Rattle.text_trace.proofs.Stories.Heard.{comes_told}
use Rattle.text_trace.proofs.Stories.Rested.{comes_unsaid}

-- as many as there were are those that were written
pub are_back : {A : Type 0} (was now : List A) (n : ℕ) → n ≡ length was → length now ≡ length was →
    take n (now ++ drop (length now) was) ≡ now
are_back was now n all len = grind (arith, common_steps)

pub same_count : {A : Type 0} (was lent now : List A) → lent ≡ was → length now ≡ length lent → length now ≡ length was
same_count was lent now is count = count ∙ ap (λ l. length l) is

pub back_count : {A : Type 0} (was lent now : List A) (n : ℕ) → n ≡ length was → lent ≡ was →
    length now ≡ length lent → n ≡ length (take n (now ++ drop (length now) was))
back_count was lent now n all is count =
    let same = same_count was lent now is count in
    all ∙ sym same ∙ ap (λ l. length l) (sym (are_back was now n all same))

-- some bits more
pub back_told : (plan : PlanValue) (nodes : List NodeValue) (bits told next n : ℕ) (was lent now : List NodeTrace)
    (old new : List ℕ) → n ≡ length was → lent ≡ was → length now ≡ length lent → ComesTo plan nodes bits was old →
    TellsBits bits lent old told now new → next ≡ bits + told →
    ComesTo plan nodes next (take n (now ++ drop (length now) was)) new
back_told plan nodes bits told next n was lent now old new all is count up on one =
    let back = are_back was now n all (same_count was lent now is count) in
    let R : List NodeTrace → Type 0 = λ l. TellsBits bits l old told now new in
    let P : List NodeTrace → Type 0 = λ l. ComesTo plan nodes next l new in
    subst P (sym back) (comes_told plan nodes bits was old up next told now new (subst R is on) one)

-- bits in which every node rests
pub back_rested : (plan : PlanValue) (nodes : List NodeValue) (bits rest next n : ℕ) (was lent now : List NodeTrace)
    (text : List ℕ) → n ≡ length was → lent ≡ was → length now ≡ length lent → ComesTo plan nodes bits was text →
    PassesUnsaid bits lent rest now → next ≡ bits + rest →
    ComesTo plan nodes next (take n (now ++ drop (length now) was)) text
back_rested plan nodes bits rest next n was lent now text all is count up on one =
    let back = are_back was now n all (same_count was lent now is count) in
    let R : List NodeTrace → Type 0 = λ l. PassesUnsaid bits l rest now in
    let P : List NodeTrace → Type 0 = λ l. ComesTo plan nodes next l text in
    subst P (sym back) (comes_unsaid plan nodes bits was text up next rest now (subst R is on) one)

-- they are underway
pub lent_underway : (plan : PlanValue) (nodes : List NodeValue) (bits : ℕ) (was lent : List NodeTrace) (text : List ℕ) →
    lent ≡ was → ComesTo plan nodes bits was text → AreUnderway lent
lent_underway plan nodes bits was lent text is up =
    subst AreUnderway (sym is) (comes_underway plan nodes bits was text up)

-- the rest
pub back_all : (plan : PlanValue) (log : RunValue) (bits late n : ℕ) (was lent now shown : List NodeTrace)
    (old new : List ℕ) → bits ≡ log.bits → late ≡ log.bits → n ≡ length was → lent ≡ was → length now ≡ length lent →
    shown ≡ take n (now ++ drop (length now) was) → ComesTo plan log.nodes bits was old →
    EachRelated NodeTraceEnds lent now → new ≡ old ++ numbered (late_lines late) 0 shown → IsTrace plan log new
back_all plan log bits late n was lent now shown old new ends behind all is count seen up on wrote =
    let back = are_back was now n all (same_count was lent now is count) in
    let R : List NodeTrace → Type 0 = λ l. EachRelated NodeTraceEnds l now in
    let P : ℕ → Type 0 = λ b. ComesTo plan log.nodes b was old in
    comes_all plan log was now old new (subst P ends up) (subst R is on)
    (wrote ∙ ap (λ (b : ℕ). old ++ numbered (late_lines b) 0 shown) behind
    ∙ ap (λ (l : List NodeTrace). old ++ numbered (late_lines log.bits) 0 l) (seen ∙ back))
