-- What the code leaves of all nodes, of which one sent, one received them with a reader of its own, and the others went
-- on with the first one.
use Rattle.std.proofs.Common.{◌≡◌, ◌≢◌, ℕ, ◌<◌, Bool, List, length, refl, sym, subst, inl, inr}
use Rattle.std.specs.Prelude.{slice_index_or, slice_set}
use Rattle.std.proofs.lemmas.Bool.{cases_eq}
use Rattle.can_levels.specs.declared.level.Level.{Level}
use Rattle.can_bits.specs.declared.shift.Shift.{Shift}
use Rattle.can_node.specs.declared.node.Node.{Node}
use Rattle.can_node.specs.Together.{HasReadAs, SendsAlike, SendsBits, TakesBits, reader_of, reading_as, sending_as}
use Rattle.can_node.proofs.Machine.Following.{reads_alone, reads_only}
use Rattle.sja_bus.specs.declared.bus_node.BusNode.{BusNode}
use Rattle.sja_bus.specs.Inside.Rows.{AreReady, AreTold, EachBusNode}
use Rattle.sja_bus.specs.Inside.Together.{AreQuietRows, FollowsOn, RestGoes, BusNodeGoesBeside}
use Rattle.sja_bus.proofs.OneReader.LedRows.{HasGone}
use Rattle.sja_bus.proofs.OneReader.LedRows.HasGone.{by_reading}
use Rattle.sja_bus.proofs.OneReader.LedBusNodes.{done_lead, done_other, gone_rows, other_gone}

-- the one with a reader of its own has gone on
stray_gone : (lead m : ℕ) (old after : BusNode) (beside : Shift) (xs : List Level) → m ≢ lead →
    HasReadAs old.node (reader_of old.node) → TakesBits (reader_of old.node) xs beside → FollowsOn beside xs old after →
    HasGone lead xs m old after
stray_gone lead m old after beside xs other read takes on =
    subst (λ t. HasGone lead xs m old t) (sym (on.1 (reads_only old.node (reader_of old.node) read)))
    (by_reading (reading_as old.node beside) other read.drives (reads_alone old.node xs beside read takes))

pub stray_rows : (to_rest : Bool) (bus_nodes after : List BusNode) (lead stray n : ℕ) (s : BusNode) (new : Node)
    (beside : Shift)
    (xs : List Level) → lead < length bus_nodes → stray ≢ lead →
    ((t : BusNode) → HasReadAs (slice_index_or bus_nodes stray t).node (reader_of (slice_index_or bus_nodes stray
    t).node)) →
    ((t : BusNode) → TakesBits (reader_of (slice_index_or bus_nodes stray t).node) xs beside) →
    RestGoes bus_nodes lead stray n (slice_index_or bus_nodes lead s).node → AreReady bus_nodes → AreTold bus_nodes →
    0 < length xs → SendsBits (slice_index_or bus_nodes lead s).node xs new →
    ((other : Node) → SendsAlike (slice_index_or bus_nodes lead s).node n other →
    SendsBits other xs (sending_as other (reader_of new))) → length after ≡ length bus_nodes →
    EachBusNode (BusNodeGoesBeside lead stray (reader_of new) beside xs)
    (slice_set bus_nodes lead (record (slice_index_or bus_nodes lead s) { node = new })) after →
    AreQuietRows to_rest bus_nodes (length xs) after
stray_rows to_rest bus_nodes after lead stray n s new beside xs few apart reads takes rest ready told some sends alike
    count
    goes =
    let at = slice_index_or bus_nodes lead s in let one : BusNode = record at { node = new } in
    let R = BusNodeGoesBeside lead stray (reader_of new) beside xs in
    gone_rows to_rest bus_nodes after lead s new xs few ready told sends count
    (λ t. ((done_lead bus_nodes after lead s one few R goes t).1 (λ same. apart (sym same))).0 refl)
    (λ m t near other.
    let old = slice_index_or bus_nodes m t in let then = slice_index_or after m t in
    let on = done_other bus_nodes after lead s one few R goes m t near other in elim (cases_eq m stray) [
      | inl q ↦
          let Reads : ℕ → Type 0 = λ i. HasReadAs (slice_index_or bus_nodes i t).node
          (reader_of (slice_index_or bus_nodes i t).node) in
          let Takes : ℕ → Type 0 = λ i. TakesBits (reader_of (slice_index_or bus_nodes i t).node) xs beside in
          stray_gone lead m old then beside xs other (subst Reads (sym q) (reads t)) (subst Takes (sym q) (takes t))
          ((on.0 q).1 other)
      | inr far ↦
          other_gone lead n m at.node new xs some sends alike old then other (rest m t near other far)
          ((on.1 far).1 other)
    ])
