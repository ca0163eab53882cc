-- A bus node by its parts.
use Rattle.std.proofs.Common.{◌≡◌, ◌≢◌, ℕ, suc, Bool, List, [], ◌∷◌, ◌++◌, refl, sym, ap, ◌∙◌, subst, arith}
use Rattle.can_node.specs.declared.node.Node.{Node}
use Rattle.sja_journal.specs.declared.entry.Entry.{Entry}
use Rattle.sja_journal.specs.Written.{Room}
use Rattle.sja_link.specs.BusLedgers.{link_of, free_in}
use Rattle.sja_bus.specs.declared.activity.Activity.{Activity}
use Rattle.sja_bus.specs.declared.activity.Activity.TheVariants.{Between, Running, Off, OffAndAsked}
use Rattle.sja_bus.specs.declared.bus_node.BusNode.{BusNode}
use Rattle.sja_journal.specs.Opening.{IsOpen}
use Rattle.sja_bus.specs.Inside.Following.{Follows, FollowsBit, Reads, open_in}
use Rattle.sja_bus.specs.Inside.BusNodes.{IsSound, IsBusNode}

-- its node, its journal and what the bus knows of them
pub sound_by : (s : BusNode) (node : Node) (j : List Entry) (ended : ℕ) (activity : Activity) (free : ℕ) →
    s.node ≡ node →
    s.journal.entries ≡ j → s.ended ≡ ended →
    s.activity ≡ activity → free_in s.ledger ≡ free → Follows node j → Reads node j ended activity free → IsSound s
sound_by s node j ended activity free n e d a f follows reads =
    let P : Node → Type 0 = λ x. Follows x j in
    let Q : List Entry → Type 0 = λ x. Follows s.node x in
    let R : Node → Type 0 = λ x. Reads x j ended activity free in
    let S : List Entry → Type 0 = λ x. Reads s.node x ended activity free in
    let T : ℕ → Type 0 = λ x. Reads s.node s.journal.entries x activity free in
    let U : Activity → Type 0 = λ x. Reads s.node s.journal.entries s.ended x free in
    let V : ℕ → Type 0 = λ x. Reads s.node s.journal.entries s.ended s.activity x in record {
      follows = subst Q (sym e) (subst P (sym n) follows);
      reads = subst V (sym f) (subst U (sym a) (subst T (sym d) (subst S (sym e) (subst R (sym n) reads))));
    }

-- the ledger is of the same activation, as many have ended, and the journal has as many reserved entries
pub bus_node_stays : (s new : BusNode) → (link_of new.ledger).activation ≡ (link_of s.ledger).activation →
    new.ended ≡ s.ended → new.journal.room ≡ s.journal.room → IsBusNode s → IsBusNode new
bus_node_stays s new own ended room h =
    let f = h.few in let m = h.most in
    let all : new.journal.room.all ≡ s.journal.room.all = ap (λ (r : Room). r.all) room in record {
      own = own ∙ h.own ∙ ap (λ n. suc n) (sym ended);
      few = omega (arith, ended, all, f);
      most = omega (arith, all, m);
    }

-- an entry more
pub sound_entered : (s new : BusNode) (e : Entry) → new ≡ record s { journal = new.journal } →
    new.journal.entries ≡ s.journal.entries ++ e ∷ [] →
    Follows s.node (s.journal.entries ++ e ∷ []) → Reads s.node (s.journal.entries ++ e ∷ []) s.ended s.activity
    (free_in s.ledger) → IsSound new
sound_entered s new e same entries follows reads =
    sound_by new s.node (s.journal.entries ++ e ∷ []) s.ended s.activity (free_in s.ledger)
    (ap (λ (x : BusNode). x.node) same) entries (ap (λ (x : BusNode). x.ended) same)
    (ap (λ (x : BusNode). x.activity) same) (ap (λ (x : BusNode). free_in x.ledger) same) follows reads

-- one runs that isn't between two
pub open_else : (activity : Activity) → activity ≢ Between → open_in activity ≡ 1
open_else Between h = absurd (h refl)
open_else (Running filter) h = refl
open_else Off h = refl
open_else OffAndAsked h = refl

pub reads_by : (s : BusNode) (node : Node) (j : List Entry) (ended : ℕ) (activity : Activity) (free : ℕ) →
    s.node ≡ node →
    s.journal.entries ≡ j → s.ended ≡ ended →
    s.activity ≡ activity → free_in s.ledger ≡ free → Reads node j ended activity free →
    Reads s.node s.journal.entries s.ended s.activity (free_in s.ledger)
reads_by s node j ended activity free n e d a f reads =
    let R : Node → Type 0 = λ x. Reads x j ended activity free in
    let S : List Entry → Type 0 = λ x. Reads s.node x ended activity free in
    let T : ℕ → Type 0 = λ x. Reads s.node s.journal.entries x activity free in
    let U : Activity → Type 0 = λ x. Reads s.node s.journal.entries s.ended x free in
    let V : ℕ → Type 0 = λ x. Reads s.node s.journal.entries s.ended s.activity x in
    subst V (sym f) (subst U (sym a) (subst T (sym d) (subst S (sym e) (subst R (sym n) reads))))

pub follows_by : (s : BusNode) (node : Node) (j : List Entry) (went : Bool) → s.node ≡ node → s.journal.entries ≡ j →
    FollowsBit node j went → FollowsBit s.node s.journal.entries went
follows_by s node j went n e follows =
    let P : Node → Type 0 = λ x. FollowsBit x j went in
    let Q : List Entry → Type 0 = λ x. FollowsBit s.node x went in subst Q (sym e) (subst P (sym n) follows)

-- the activation that is read is open where one runs
pub open_by : (activity : Activity) (node : Node) (j : List Entry) (ended free : ℕ) → open_in activity ≡ 1 →
    Reads node j ended activity free → IsOpen j
open_by activity node j ended free runs h = let b = h.begun in let s = h.stopped in omega (arith, b, s, runs)
