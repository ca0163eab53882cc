-- What the bus's end of a node's links in one thread is, as a bus sees it.
use Rattle.std.proofs.Common.{◌≡◌, ℕ, []}
use Rattle.sja_link.specs.declared.bus_end.BusEnd.{Ghosts as Ends}
use Rattle.sja_link.specs.Deques.{Deques, Lies, AreAlike, IsFullDown, up_on}

abbrev pub ends : Ends Deques
ends = record {
  node = λ (s : Deques). s.node;
  links = λ (s : Deques). s.starts;
  stands = Lies;
  same = AreAlike;
  full = IsFullDown;
  dry = λ (s : Deques) (a : ℕ). up_on s a ≡ [];
}
