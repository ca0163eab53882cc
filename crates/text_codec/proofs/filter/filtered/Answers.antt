use Rattle.std.proofs.Common.{rules, ◌≡◌}
use Rattle.text_codec.proofs.filter.filtered.Goals as goal

pub returns-clause-ok : goal.returns-clause-ok
returns-clause-ok c =
    let text : c.extend_from_slice.new.self.items ≡ c.verdict_of.result.now = search rules in (
      c.in_ok-acr.acr,
      c.in_ok-amr.amr,
      c.in_ok-frame.frame,
      c.in_ok-acr.ensures.ok,
      c.in_ok-amr.ensures.ok,
      c.in_ok-frame.ensures.ok,
      rw text c.verdict_of.ensures,
    )
