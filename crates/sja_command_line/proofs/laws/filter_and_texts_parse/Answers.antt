use Rattle.std.proofs.Common.{codes, false, refl, true}
use Rattle.sja_command_line.proofs.Requests.Filters.{filtering, no_mode}
use Rattle.sja_command_line.proofs.laws.filter_and_texts_parse.Goals as goal

pub returns-clause-single : goal.returns-clause-single
returns-clause-single c = λ name acr amr message h. filtering name (codes "single") acr amr message true refl refl h

pub returns-clause-dual : goal.returns-clause-dual
returns-clause-dual c = λ name acr amr message h. filtering name (codes "dual") acr amr message false refl refl h

pub returns-clause-other : goal.returns-clause-other
returns-clause-other c = λ name mode acr amr message r not_single not_dual h.
    no_mode name mode acr amr message r not_single not_dual h
