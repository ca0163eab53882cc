use Rattle.text_frames.proofs.FrameLines.Walks.{goes_on, goes_anew}
use Rattle.text_frames.proofs.walk.go_on.Goals as goal

pub returns-in_ok-close-in-Some : goal.returns-in_ok-close-in-Some
returns-in_ok-close-in-Some c =
    goes_anew c.args.node c.args.bit.now _ _ _ c.args.current c.in_ok-current.current c.in-Some.frame
    c.of.result c.in_ok-current.ensures c.in-Some.ensures c.in_ok-close-in-Some.ensures c.of.ensures

pub returns-in-None : goal.returns-in-None
returns-in-None c =
    goes_on c.args.node c.args.bit.now _ _ c.args.current c.in_ok-current.current c.in_ok-current.ensures
    c.in-None.ensures
