use Rattle.std.proofs.Common.{◌++◌, ◌∙◌, string_bytes, sym, ap, append-nil}
use Rattle.text_trace.proofs.node_lines.put_unless_plain.Goals as goal

pub returns-then-is_unsaid : goal.returns-then-is_unsaid
returns-then-is_unsaid c = record {
  text = sym (append-nil (string_bytes c.args.text.now))
      ∙ ap (λ l. string_bytes c.args.text.now ++ l) (sym (c.is_unsaid.ensures c.if-is_unsaid.true c.args.node));
}
