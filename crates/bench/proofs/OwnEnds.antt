-- Links that stay those of their nodes, and as many.
use Rattle.std.proofs.Common.{◌≡◌, ℕ, List}
use Rattle.lemmas.specs.Related.{EachRelated}
use Rattle.sja_link.specs.Deques.{AreAlike, Deques}
use Rattle.sja_journal.specs.Links.{AreEnds, HaveLinks}
use Rattle.sja_bus.proofs.AllNodes.Many.{ends_kept, links_kept}

abbrev node_of : Deques → ℕ
node_of links = links.node

abbrev starts_of : Deques → ℕ
starts_of links = links.starts

-- all went on, and each is of its node still
pub ends_went_on : (links after : List Deques) (was now : ℕ) → now ≡ was → EachRelated AreAlike links after →
    AreEnds (λ (e : Deques). e.node) was links → AreEnds (λ (e : Deques). e.node) now after
ends_went_on links after was now is sames ends =
    ends_kept node_of AreAlike (λ a b e. e.0) links after was now is sames ends

pub links_went_on : (links after : List Deques) (was now : ℕ) → now ≡ was → EachRelated AreAlike links after →
    HaveLinks (λ (e : Deques). e.starts) was links → HaveLinks (λ (e : Deques). e.starts) now after
links_went_on links after was now is sames many =
    links_kept starts_of AreAlike (λ a b e. e.1) was now links after is sames many
