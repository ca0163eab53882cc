use Rattle.sja_plan_text.proofs.Documents.Alike.{text_ends}
use Rattle.sja_plan_text.proofs.laws.a_plan_text_ends_in_a_line_feed.Goals as goal

pub returns : goal.returns
returns c = text_ends
