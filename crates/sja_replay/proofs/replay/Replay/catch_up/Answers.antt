use Rattle.std.proofs.Common.{◌≡◌, ◌&&◌, ◌∙◌, true, false, ap}
use Rattle.can_node_rules.specs.declared.role.Role.{Role}
use Rattle.can_node.specs.declared.stage.Stage.{Stage}
use Rattle.can_node_rules.specs.Context.{is_transmitter}
use Rattle.can_node.specs.Together.{is_in_frame, is_sending}
use Rattle.can_node.proofs.Machine.Following.{follows_reading}
use Rattle.sja_replay.proofs.BitTaken.Passed.{same_but}
use Rattle.sja_replay.proofs.replay.Replay.catch_up.Goals as goal

pub returns : goal.returns
returns c =
    let node = c.args.self.now.node in
    let reads : is_sending node ≡ false =
    ap (λ (s : Stage). is_in_frame s && is_transmitter node.context.role) c.requires.in_frame
    ∙ ap (λ (r : Role). true && is_transmitter r) c.requires.role in
    same_but c.args.self.now _ _ _
    (c.follow.ensures ∙ follows_reading node c.args.reader.now reads)
