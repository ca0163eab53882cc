-- What the code leaves of all nodes, of which one sent and the others went on with it.
use Rattle.std.proofs.Common.{◌≡◌, ◌≢◌, ℕ, zero, suc, ◌<◌, Bool, List, [], ◌∷◌, ◌++◌, length, refl, sym, ap, ◌∙◌, subst}
use Rattle.std.proofs.Common.{arith, inl, inr, ◌≤◌, ◌-◌, take, replicate}
use Rattle.std.specs.Prelude.{slice_index_or, slice_set}
use Rattle.std.specs.Simd.Lanes.{zip2}
use Rattle.std.proofs.lemmas.Bool.{cases_eq}
use Rattle.std.proofs.lemmas.List.{length-set, set-get_or as set_same, get_or-set_same as set_here}
use Rattle.std.proofs.lemmas.List.{get_or-set_other as set_there, get_or_default as or_same}
use Rattle.can_levels.specs.declared.level.Level.{Level}
use Rattle.can_levels.specs.declared.level.Level.TheVariants.{Recessive}
use Rattle.can_node.specs.declared.node.Node.{Node}
use Rattle.can_node.specs.Stands.{DrivesNext}
use Rattle.can_node.specs.Together.{GoesWith, SendsAlike, SendsBits, reader_of, reading_as, sending_as}
use Rattle.can_node.specs.Together.GoesWith.{receives, rests, sends as sends_too}
use Rattle.can_node.proofs.Machine.Following.{apart_bits, apart_only, follows_sending, reads_bits, reads_only}
use Rattle.can_node.proofs.Machine.Following.{sent_none}
use Rattle.sja_journal.specs.declared.entry.Entry.TheVariants.{Bit}
use Rattle.sja_journal.specs.Written.{Written}
use Rattle.sja_bus.specs.declared.bus_node.BusNode.{BusNode}
use Rattle.sja_bus.specs.Inside.Rows.{AreReady, AreTold, EachBusNode}
use Rattle.sja_bus.specs.Inside.Together.{AreQuietRows, FollowsOn, IsLed, after_reading, after_sending}
use Rattle.sja_bus.specs.Inside.Together.AreQuietRows.{no_row}
use Rattle.sja_bus.specs.Inside.Together.{HasSent, BusNodeGoesOn, read_bits, sent_bits}
use Rattle.sja_bus.proofs.OneReader.LedRows.{HasGone, rows_gone}
use Rattle.sja_bus.proofs.OneReader.LedRows.HasGone.{by_reading, by_sending}

zip_same : (xs : List Level) → zip2 (λ x y. Bit x y) xs xs ≡ sent_bits xs
zip_same [] = refl
zip_same (x ∷ xs) = ap (λ l. Bit x x ∷ l) (zip_same xs)

zip_recessive : (n : ℕ) (xs : List Level) → length xs ≤ n →
    zip2 (λ x y. Bit x y) (take (length xs) (replicate n Recessive)) xs ≡ read_bits xs
zip_recessive n [] few = refl
zip_recessive zero (x ∷ xs) few = absurd (omega (arith, few))
zip_recessive (suc n) (x ∷ xs) few = ap (λ l. Bit Recessive x ∷ l) (zip_recessive n xs (omega (arith, few)))

-- the bits of one that sent, and of one that read
pub has_sent : (old new : BusNode) (xs : List Level) → new ≡ record old { drives = new.drives; journal = new.journal } →
    new.journal.room ≡ old.journal.room →
    new.journal.entries ≡ old.journal.entries ++ zip2 (λ x y. Bit x y) xs xs → DrivesNext old.node new.drives →
    HasSent xs old new
has_sent old new xs others room entries drives =
    let is = entries ∙ ap (λ l. old.journal.entries ++ l) (zip_same xs) in
    let j : new.journal ≡ record old.journal { entries = old.journal.entries ++ sent_bits xs } =
    λ i. record { entries = is i; room = room i } in record {
      is = others ∙ ap (λ (w : Written). let s : BusNode = record old { drives = new.drives; journal = w } in s) j;
      drives = drives;
    }

pub has_read : (old new : BusNode) (xs : List Level) (n : ℕ) → length xs ≤ n →
    new ≡ record old { journal = new.journal } → new.journal.room ≡ old.journal.room →
    new.journal.entries ≡ old.journal.entries
    ++ zip2 (λ x y. Bit x y) (take (length xs) (replicate n Recessive)) xs → new ≡ after_reading old.node xs old
has_read old new xs n few others room entries =
    let is = entries ∙ ap (λ l. old.journal.entries ++ l) (zip_recessive n xs few) in
    let j : new.journal ≡ record old.journal { entries = old.journal.entries ++ read_bits xs } =
    λ i. record { entries = is i; room = room i } in
    others ∙ ap (λ (w : Written). let s : BusNode = record old { journal = w } in s) j

-- a bus node that goes on with the sender has gone on
module _ (lead n m : ℕ) (sender new : Node) (xs : List Level) (some : 0 < length xs) (sends : SendsBits sender xs new)
    (alike : (other : Node) → SendsAlike sender n other → SendsBits other xs (sending_as other (reader_of new))) where
  pub other_gone : (old after : BusNode) → m ≢ lead → GoesWith sender n old.node →
      FollowsOn (reader_of new) xs old after →
      HasGone lead xs m old after
  other_gone old after other (receives read) on =
      subst (λ t. HasGone lead xs m old t) (sym (on.1 (reads_only old.node (reader_of sender) read)))
      (by_reading (reading_as old.node (reader_of new)) other read.drives
      (reads_bits old.node sender new xs read sends))
  other_gone old after other (rests apart) on =
      subst (λ t. HasGone lead xs m old t) (sym (on.1 (apart_only old.node apart)))
      (by_reading (reading_as old.node (reader_of new)) other apart.drives
      (apart_bits old.node sender new xs apart some sends))
  other_gone old after other (sends_too same) on =
      let has = on.0 same.sends in let is = follows_sending old.node (reader_of new) same.sends in
      let next = after.drives in
      let drives : DrivesNext (sending_as old.node (reader_of new)) next =
      subst (λ (k : Node). DrivesNext k next) is has.drives in
      let all : after ≡ after_sending (sending_as old.node (reader_of new)) next xs old =
      has.is ∙ ap (λ (k : Node). after_sending k next xs old) is in
      subst (λ t. HasGone lead xs m old t) (sym all)
      (by_sending (sending_as old.node (reader_of new)) next (alike old.node same) drives)

-- all of them, where one sent and each other one has gone on
pub gone_rows : (to_rest : Bool) (bus_nodes after : List BusNode) (lead : ℕ) (s : BusNode) (new : Node)
    (xs : List Level) →
    lead < length bus_nodes → AreReady bus_nodes → AreTold bus_nodes → SendsBits (slice_index_or bus_nodes lead s).node
    xs new →
    length after ≡ length bus_nodes →
    ((t : BusNode) → HasSent xs (record (slice_index_or bus_nodes lead s) { node = new })
    (slice_index_or after lead t)) →
    ((m : ℕ) (t : BusNode) → m < length bus_nodes → m ≢ lead →
    HasGone lead xs m (slice_index_or bus_nodes m t) (slice_index_or after m t)) →
    AreQuietRows to_rest bus_nodes (length xs) after
gone_rows to_rest bus_nodes after lead s new xs few ready told sends count sent others =
    let at = slice_index_or bus_nodes lead s in
    let gone : (m : ℕ) (t : BusNode) → m < length bus_nodes →
    HasGone lead xs m (slice_index_or bus_nodes m t) (slice_index_or after m t) =
    λ m t near. elim (cases_eq m lead) [
      | inl q ↦
          let P : ℕ → Type 0 = λ i. HasGone lead xs m (slice_index_or bus_nodes i t) (slice_index_or after i t) in
          let has = sent t in let new_bus_node = slice_index_or after lead t in
          subst P (sym q) (subst (λ (k : BusNode). HasGone lead xs m k new_bus_node) (or_same bus_nodes lead s t few)
          (subst (λ (k : BusNode). HasGone lead xs m at k) (sym has.is) (by_sending new new_bus_node.drives sends
          has.drives)))
      | inr other ↦ others m t near other
    ] in
    (rows_gone to_rest bus_nodes lead few ready told at.node xs new sends after count gone).0

-- what the loop over the bus nodes did with the one that had sent, and with another one
module _ (bus_nodes after : List BusNode) (lead : ℕ) (s one : BusNode) (few : lead < length bus_nodes)
    (R : ℕ → BusNode → BusNode → Type 0) (goes : EachBusNode R (slice_set bus_nodes lead one) after) where
  pub done_lead : (t : BusNode) → R lead one (slice_index_or after lead t)
  done_lead t =
      let size = length-set bus_nodes lead one in
      subst (λ k. R lead k (slice_index_or after lead t)) (set_here bus_nodes lead one t few)
      (goes lead t (omega (arith, few, size)))

  pub done_other : (m : ℕ) (t : BusNode) → m < length bus_nodes → m ≢ lead →
      R m (slice_index_or bus_nodes m t) (slice_index_or after m t)
  done_other m t near other =
      let size = length-set bus_nodes lead one in
      subst (λ k. R m k (slice_index_or after m t)) (set_there bus_nodes lead m one t other)
      (goes m t (omega (arith, near, size)))

pub led_rows : (to_rest : Bool) (bus_nodes after : List BusNode) (lead n : ℕ) (s : BusNode) (new : Node)
    (xs : List Level) →
    IsLed bus_nodes lead n → AreReady bus_nodes → AreTold bus_nodes → 0 < length xs →
    SendsBits (slice_index_or bus_nodes lead s).node xs new →
    ((other : Node) → SendsAlike (slice_index_or bus_nodes lead s).node n other →
    SendsBits other xs (sending_as other (reader_of new))) → length after ≡ length bus_nodes →
    EachBusNode (BusNodeGoesOn lead (reader_of new) xs)
    (slice_set bus_nodes lead (record (slice_index_or bus_nodes lead s) { node = new })) after →
    AreQuietRows to_rest bus_nodes (length xs) after
led_rows to_rest bus_nodes after lead n s new xs led ready told some sends alike count goes =
    let at = slice_index_or bus_nodes lead s in let one : BusNode = record at { node = new } in
    let R = BusNodeGoesOn lead (reader_of new) xs in
    gone_rows to_rest bus_nodes after lead s new xs led.few ready told sends count
    (λ t. (done_lead bus_nodes after lead s one led.few R goes t).0 refl)
    (λ m t near other. other_gone lead n m at.node new xs some sends alike (slice_index_or bus_nodes m t)
    (slice_index_or after m t) other (led.go s m t near other)
    ((done_other bus_nodes after lead s one led.few R goes m t near other).1 other))

-- none, so nothing happened
pub no_rows : (to_rest : Bool) (bus_nodes : List BusNode) (lead : ℕ) (s : BusNode) (new : Node) (levels : List Level)
    (count : ℕ) →
    lead < length bus_nodes → count ≤ 0 → SendsBits (slice_index_or bus_nodes lead s).node (take count levels) new →
    AreQuietRows to_rest bus_nodes count (slice_set bus_nodes lead (record (slice_index_or bus_nodes lead s)
    { node = new }))
no_rows to_rest bus_nodes lead s new levels count few none sends =
    let at = slice_index_or bus_nodes lead s in let zero : count ≡ 0 = omega (arith, none) in
    let is : new ≡ at.node =
    sent_none at.node (take count levels) new sends (ap (λ (n : ℕ). take n levels) zero) in
    let e : slice_set bus_nodes lead (record at { node = new }) ≡ bus_nodes =
    ap (λ (k : Node). let t : BusNode = record at { node = k } in slice_set bus_nodes lead t) is
    ∙ set_same bus_nodes lead s in
    subst (λ n. AreQuietRows to_rest bus_nodes n (slice_set bus_nodes lead (record at { node = new }))) (sym zero)
    (subst (λ l. AreQuietRows to_rest bus_nodes 0 l) (sym e) no_row)
