use Rattle.std.proofs.Common.{refl, inl}
use Rattle.sja_live.proofs.command_words.step_of_node.Goals as goal

-- the word behind `step` is no node
pub returns-in_default-clause-err : goal.returns-in_default-clause-err
returns-in_default-clause-err c = λ endless. (c.args.node.now, inl (_, refl), c.in_default.ensures.err.1)
