-- A journal in which no more activations have begun than this.
use Rattle.std.proofs.Common.{◌≡◌, ◌<◌, ◌≤◌, ℕ, List, ◌∷◌, ◌++◌, ap, ◌∙◌, arith}
use Rattle.sja_journal.specs.declared.up.Up.{Up}
use Rattle.sja_journal.specs.declared.entry.Entry.{Entry}
use Rattle.sja_journal.specs.declared.entry.Entry.TheVariants.{Up as Item}
use Rattle.sja_journal.specs.Activations.{HasActivations}
use Rattle.sja_journal.specs.BitEntries.{IsRead}
use Rattle.sja_journal.specs.Links.{stops_of}
use Rattle.sja_journal.specs.Opening.{begun_in}
use Rattle.sja_journal.specs.Places.{past, place_of}
use Rattle.sja_journal.proofs.JournalEntries.EachInPart.{place_both}
use Rattle.sja_journal.proofs.JournalEntries.Entering.{all_rise}

-- where an item is taken on the link that is read, fewer activations have ended than have begun by the end
read_few : (most : ℕ) (j : List Entry) → begun_in j ≤ most → (front rest : List Entry) (u : Up) →
    j ≡ front ++ Item u ∷ rest → IsRead front u → stops_of front < most
read_few most j begun front rest u whole read =
    let far = all_rise (past (place_of front) (Item u)) rest in
    let is = ap (λ (l : List Entry). (place_of l).activation) whole
    ∙ ap (λ p. p.activation) (place_both front (Item u ∷ rest)) in
    let rises = far.activation in omega (arith, begun, is, rises, read)

pub has_activations : (most : ℕ) (j : List Entry) → begun_in j ≤ most → HasActivations most j
has_activations most j begun = record { begun = begun; read = read_few most j begun }
