-- What a proof unfolds to compute what `sja` makes of words that are written out.
use Rattle.std.specs.Prelude.{⊤}
use Rattle.clap.proofs.OnLiterals.{clap_on_literals}
use Rattle.sja_command_line.specs.CommandLine.{and_app, and_rule, arbitrate_app, bare_app, bit_rule, candump_app}
use Rattle.sja_command_line.specs.CommandLine.{check_app}
use Rattle.sja_command_line.specs.CommandLine.{drawn_app, empty_app, file_rule, files_rule, filter_app, flag_rule}
use Rattle.sja_command_line.specs.CommandLine.{frame_app}
use Rattle.sja_command_line.specs.CommandLine.{frames_app, judge_app, kinds_app, line_app, live_app, messages_rule}
use Rattle.sja_command_line.specs.CommandLine.{named_rule}
use Rattle.sja_command_line.specs.CommandLine.{notation_app, number_rule, picture_app, plan_app, plans_app}
use Rattle.sja_command_line.specs.CommandLine.{registers_app}
use Rattle.sja_command_line.specs.CommandLine.{run_app, sja_app, spelled_app, story_app, strike_rule}
use Rattle.sja_command_line.specs.CommandLine.{struck_app, sweep_app, text_app, text_rule, threads_app, told_app}
use Rattle.sja_command_line.specs.CommandLine.{trace_app}
use Rattle.sja_command_line.specs.CommandLine.{view_app}

unfoldable pub sja_on_literals : ⊤
unfolding clap_on_literals bare_app and_rule and_app text_rule text_app filter_app messages_rule arbitrate_app
    empty_app line_app frame_app notation_app flag_rule threads_app live_app number_rule named_rule files_rule
    file_rule plans_app run_app check_app trace_app frames_app bit_rule drawn_app picture_app candump_app strike_rule
    struck_app kinds_app told_app sweep_app plan_app story_app view_app judge_app registers_app spelled_app sja_app
sja_on_literals = tt
