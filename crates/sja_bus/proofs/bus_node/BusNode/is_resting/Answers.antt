use Rattle.std.proofs.Common.{◌≡◌, Bool, true, subst, inr, arith}
use Rattle.can_node.specs.Stands.{ShowsRest}
use Rattle.sja_bus.proofs.Resting.Rests.{rest_recessive}
use Rattle.sja_bus.proofs.bus_node.BusNode.is_resting.Goals as goal

pub returns-in-Nothing-clause-yes : goal.returns-in-Nothing-clause-yes
returns-in-Nothing-clause-yes c = λ yes.
    let s = c.args.self.now in let here = c.requires in
    let is : c.at_rest.result ≡ true = grind (arith, yes) in
    let rests : ShowsRest s.node true = subst (λ (b : Bool). ShowsRest s.node b) is c.at_rest.ensures in record {
      none = c.in-Nothing.is;
      drives = rest_recessive s.node s.journal.entries s.drives here.sound.follows rests here.drives;
      rests = rests;
    }

pub returns-in-Nothing-clause-no : goal.returns-in-Nothing-clause-no
returns-in-Nothing-clause-no c = λ no. inr (subst (λ (b : Bool). ShowsRest c.args.self.now.node b) no c.at_rest.ensures)
