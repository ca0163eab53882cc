use Rattle.std.proofs.Common.{◌≡◌, ◌∙◌, ◌≤◌, ℕ, Bool, true, false, nat_le, map, sym, subst, string_bytes, arith}
use Rattle.std.proofs.lemmas.Bool.{and_parts}
use Rattle.std.proofs.lemmas.Bool.Decides.{nat_tests}
use Rattle.toml.specs.Text.{IsLinesText}
use Rattle.sja_plan_text.specs.Texts.{turn_text}
use Rattle.sja_plan_text.specs.Written.{has_names, plan_lines}
use Rattle.sja_plan_text.proofs.Documents.Parsed.{lines_written, written_read}
use Rattle.sja_plan_text.proofs.Tables.Plans.{is_document}
use Rattle.sja_plan_text.proofs.document.document.Goals as goal

-- names are written in version 3 alone
by_bytes_if_named : (pretty : Bool) (version : ℕ) → has_names pretty version ≡ true → 3 ≤ version
by_bytes_if_named pretty version h =
    let raw : nat_le 3 version ≡ true = (and_parts pretty (nat_le 3 version) h).1 in
    grind (arith, nat_tests, raw)

pub returns : goal.returns
returns c =
    let plan = c.args.plan.now in
    let named = c.has_names-named.result in
    let same : named ≡ has_names c.args.pretty plan.version = rw c.version.ensures.value at c.has_names-named.ensures in
    let text = string_bytes c.add-4.new.text in
    let limits = c.bits.ensures.limits in
    let turns = rw c.turns.ensures.value at c.in_ok-turns.ensures in
    let written = lines_written c.args.pretty named plan.version plan.bits (map turn_text plan.turns) plan.strikes
    plan.nodes (string_bytes c.new-text.result) (string_bytes c.add.new.text) (string_bytes c.add-2.new.text)
    (string_bytes c.add-3.new.text) (string_bytes c.add_strikes.new.text) (string_bytes c.push_str.new.self)
    text limits.nodes.0 c.new-text.ensures.bytes
    (rw (c.from.ensures, c.version-2.ensures.value) at c.in_ok-add.ensures)
    (rw (c.from-2.ensures, c.bits.ensures.value) at c.in_ok-add-2.ensures)
    (rw turns at c.in_ok-add-3.ensures) (rw c.strikes.ensures.value at c.in_ok-add_strikes.ensures)
    c.in_ok-push_str.ensures.bytes (rw c.in_ok-nodes.ensures at c.in_ok-add-4.ensures) in
    let read = written_read c.args.pretty named plan.version plan.bits (map turn_text plan.turns) plan.strikes
    plan.nodes text limits.nodes.0 written in (
      subst (λ n. IsLinesText c.args.pretty false (plan_lines n plan) text) same written,
      is_document named plan text (λ e. by_bytes_if_named c.args.pretty plan.version (sym same ∙ e)) limits c.requires
          read,
    )
