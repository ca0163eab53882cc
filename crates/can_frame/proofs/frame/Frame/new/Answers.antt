use Rattle.std.proofs.Common.{◌≡◌, ℕ, Bool, List, arith}
use Rattle.can_frame.specs.Frame.{FrameValue}
use Rattle.can_frame.proofs.frame.Frame.new.Goals as goal

-- frames are one where their length codes and their data are
equal : (ext rtr : Bool) (id dlc code : ℕ) (bytes same : List ℕ) → dlc ≡ code → bytes ≡ same →
    ◌≡◌ {A = FrameValue} (record { ext = ext; id = id; rtr = rtr; dlc = dlc; bytes = bytes })
    (record { ext = ext; id = id; rtr = rtr; dlc = code; bytes = same })
equal ext rtr id dlc code bytes same codes all = cc

pub returns-clause-ok : goal.returns-clause-ok
returns-clause-ok c = equal _ _ _ _ _ _ _ (omega arith) c.of.ensures
