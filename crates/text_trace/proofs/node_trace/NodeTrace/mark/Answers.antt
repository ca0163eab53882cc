use Rattle.std.proofs.Common.{◌≡◌, true, refl, ap, sym}
use Rattle.text_trace.proofs.node_trace.NodeTrace.mark.Goals as goal

pub returns : goal.returns
returns c = record {
  behind = λ yes. (let b = c.may_read-self.ensures yes in record {
    receives = b.receives;
    under = b.under;
    alike = b.alike;
    steps = b.steps;
    left = b.left;
    bits = b.bits;
  });
  own = λ no. refl;
}
