use Rattle.std.proofs.Common.{◌≡◌, ◌∙◌, sym, rules}
use Rattle.can_levels.proofs.Values.{recessive_by}
use Rattle.can_levels.proofs.Reader.Inside.{wrong_start, wrong_sixth}
use Rattle.can_bits.proofs.shift.Shift.fault_inside.Goals as goal

pub returns-then-is_recessive-clause-broken : goal.returns-then-is_recessive-clause-broken
returns-then-is_recessive-clause-broken c l h =
    wrong_start c.args.level c.args.self.now.count h.part h.count c.if-self-eq0.true
    (recessive_by c.args.level (sym c.is_recessive.ensures ∙ c.if-is_recessive.true))

pub returns-then-eq-clause-broken : goal.returns-then-eq-clause-broken
returns-then-eq-clause-broken c l h =
    let like : c.args.level ≡ c.args.self.now.last = search rules in
    wrong_sixth c.args.level c.from.result h.part (c.from.ensures ∙ h.count) c.if-self-eq-RUN.true like
