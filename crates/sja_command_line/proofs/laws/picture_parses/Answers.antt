use Rattle.sja_command_line.proofs.LiteralWords.PlainPictures.{all, all_words, both, file, first, past, svg, threads}
use Rattle.sja_command_line.proofs.laws.picture_parses.Goals as goal

pub returns-clause-all : goal.returns-clause-all
returns-clause-all c = all

pub returns-clause-first : goal.returns-clause-first
returns-clause-first c = first

pub returns-clause-both : goal.returns-clause-both
returns-clause-both c = both

pub returns-clause-threads : goal.returns-clause-threads
returns-clause-threads c = threads

pub returns-clause-svg : goal.returns-clause-svg
returns-clause-svg c = svg

pub returns-clause-all_words : goal.returns-clause-all_words
returns-clause-all_words c = all_words

pub returns-clause-file : goal.returns-clause-file
returns-clause-file c = file

pub returns-clause-past : goal.returns-clause-past
returns-clause-past c = past
