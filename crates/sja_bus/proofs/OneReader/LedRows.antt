-- Bits of all nodes, each of which sends them, or reads them and drives recessive.
use Rattle.std.proofs.Common.{◌≡◌, ◌≢◌, ◌⊎◌, ℕ, suc, ◌<◌, Bool, false, List, [], ◌∷◌, ◌++◌, length}
use Rattle.std.proofs.Common.{refl, sym, ap, ◌∙◌, subst, arith, inl, inr, append-nil}
use Rattle.std.specs.Prelude.{slice_index_or}
use Rattle.std.proofs.lemmas.List.{length-append, same_lists}
use Rattle.can_levels.specs.declared.level.Level.{Level}
use Rattle.can_levels.specs.declared.level.Level.TheVariants.{Recessive}
use Rattle.can_node.specs.declared.node.Node.{Node}
use Rattle.can_node.specs.Stands.{DrivesNext, ShowsRest}
use Rattle.can_node.specs.Together.{ReadsBits, SendsBits, kept_level}
use Rattle.can_node.specs.Together.SendsBits.{no_bit, one_more as one_bit_more}
use Rattle.can_node.proofs.Machine.Following.{read_last, read_none, sent_last, sent_none}
use Rattle.can_levels.specs.BusLevel.{wired}
use Rattle.sja_bus.specs.declared.bus_node.BusNode.{BusNode}
use Rattle.sja_bus.specs.declared.pending_event.PendingEvent.TheVariants.{Nothing}
use Rattle.sja_bus.specs.Inside.Rows.{IsOf, AreReady, AreTold, EachBusNode, driven_by}
use Rattle.sja_bus.specs.Inside.Together.{AreQuietRows, IsQuietRow, after_reading, after_sending}
use Rattle.sja_bus.specs.Inside.Together.AreQuietRows.{no_row, one_more}
use Rattle.sja_bus.specs.Inside.Turning.{IsQuietBit}
use Rattle.sja_bus.proofs.OneReader.Places.{Between, between, one_drives}
use Rattle.sja_bus.proofs.OneReader.LedBits.{drives_kept, kept_is, reader_quiet, reader_ready, sender_drives}
use Rattle.sja_bus.proofs.OneReader.LedBits.{sender_quiet, sender_ready, works}

-- ---- one bus node

-- a bus node after these levels: its node sent them, or read them. The one in the lead sent them
pub data HasGone (lead : ℕ) (xs : List Level) (m : ℕ) (old : BusNode) : BusNode → Type 0 where
  by_sending : (node : Node) (next : Level) → SendsBits old.node xs node → DrivesNext node next →
      HasGone lead xs m old (after_sending node next xs old)
  by_reading : (node : Node) → m ≢ lead → kept_level old.node ≡ Recessive → ReadsBits old.node xs node →
      HasGone lead xs m old (after_reading node xs old)

-- the bus node before the last of these levels
pub record GoesBack (lead : ℕ) (xs : List Level) (x : Level) (m : ℕ) (old mid new : BusNode) : Type 0
  where
    pub gone : HasGone lead xs m old mid
    pub bit : IsQuietBit x mid new
    pub ready : IsOf mid m → IsOf new m
    pub room : new.journal.room ≡ mid.journal.room
    pub drives : (mid.drives ≡ x) ⊎ (mid.drives ≡ Recessive)
    pub leads : m ≡ lead → (mid.drives ≡ x) × ShowsRest mid.node false

one_back : (lead : ℕ) (xs : List Level) (x : Level) (m : ℕ) (old new : BusNode) → IsOf old m →
    old.untold ≡ Nothing → HasGone lead (xs ++ x ∷ []) m old new →
    (mid : BusNode) × GoesBack lead xs x m old mid new
one_back lead xs x m old _ at none (by_sending node next bits drives) =
    let back = sent_last old.node (xs ++ x ∷ []) node xs x bits refl in (
      after_sending back.mid x xs old,
      record {
        gone = by_sending back.mid x back.bits (sender_drives old back.mid node next xs x back.bit);
        bit = sender_quiet old back.mid node next xs x back.bit none;
        ready = λ h. record {
          ready = sender_ready old back.mid node next xs x back.bit h.ready drives;
          own = h.own;
        };
        room = refl;
        drives = inl refl;
        leads = λ here. (refl, works back.mid back.bit.sends);
      },
    )
one_back lead xs x m old _ at none (by_reading node other recessive bits) =
    let back = read_last old.node (xs ++ x ∷ []) node xs x bits refl in
    let kept = kept_is old old.node (kept_level old.node) at.ready refl (drives_kept old.node) in
    let still = sym kept ∙ recessive in (
      after_reading back.mid xs old,
      record {
        gone = by_reading back.mid other recessive back.bits;
        bit = reader_quiet old back.mid node xs x back.bit none still;
        ready = λ h. record { ready = reader_ready old back.mid node xs x back.bit still h.ready; own = h.own };
        room = refl;
        drives = inr still;
        leads = λ here. absurd (other here);
      },
    )

-- after no level it is what it was
one_still : (lead : ℕ) (m : ℕ) (old new : BusNode) → IsOf old m → HasGone lead [] m old new →
    new ≡ old
one_still lead m old _ at (by_sending node next bits drives) =
    let is = sent_none old.node [] node bits refl in let kept = kept_is old node next at.ready is drives in
    ap (λ n. let t : BusNode = record old {
      node = n;
      drives = next;
      journal = record old.journal { entries = old.journal.entries ++ [] };
    } in t) is
    ∙ ap (λ y. let t : BusNode = record old {
      drives = y;
      journal = record old.journal { entries = old.journal.entries ++ [] };
    } in t) kept
    ∙ ap (λ l. let t : BusNode = record old { journal = record old.journal { entries = l } } in t)
    (append-nil old.journal.entries)
one_still lead m old _ at (by_reading node other recessive bits) =
    ap (λ n. let t : BusNode = record old {
      node = n;
      journal = record old.journal { entries = old.journal.entries ++ [] };
    } in t) (read_none old.node [] node bits refl)
    ∙ ap (λ l. let t : BusNode = record old { journal = record old.journal { entries = l } } in t)
    (append-nil old.journal.entries)

-- ---- all bus nodes

module _ (to_rest : Bool) (bus_nodes : List BusNode) (lead : ℕ) (few : lead < length bus_nodes)
    (ready : AreReady bus_nodes) (told : AreTold bus_nodes) where
  abbrev pub HaveGone : List Level → List BusNode → Type 0
  HaveGone xs after = EachBusNode (λ m old new. HasGone lead xs m old new) bus_nodes after

  -- the bus nodes before the last of these levels
  all_back : (xs : List Level) (x : Level) (after : List BusNode) → length after ≡ length bus_nodes →
      HaveGone (xs ++ x ∷ []) after → Between (GoesBack lead xs x) bus_nodes after
  all_back xs x after count gone =
      between (GoesBack lead xs x) bus_nodes after count
      (λ m s near. one_back lead xs x m (slice_index_or bus_nodes m s) (slice_index_or after m s)
      (ready m s near) (told m s near) (gone m s near))

  -- their last bit
  last_row : (xs : List Level) (x : Level) (after : List BusNode) → length after ≡ length bus_nodes →
      (back : Between (GoesBack lead xs x) bus_nodes after) → AreReady back.items →
      IsQuietRow to_rest back.items after
  last_row xs x after count back rows =
      let n = back.count in
      let level : wired (driven_by back.items) ≡ x =
      one_drives back.items lead x (omega (arith, few, n)) (λ s. ((back.each lead s few).leads refl).0)
      (λ m s near. (back.each m s (omega (arith, near, n))).drives) in
      record {
        count = count ∙ sym n;
        ready = λ k s near.
            let within : k < length bus_nodes = omega (arith, near, count) in
            (back.each k s within).ready (rows k s (omega (arith, within, n)));
        rooms = λ k s near. (back.each k s (omega (arith, near, n))).room;
        bits = λ k s near.
            let P : Level → Type 0 = λ y. IsQuietBit y (slice_index_or back.items k s) (slice_index_or after k s) in
            subst P (sym level) (back.each k s (omega (arith, near, n))).bit;
        works = λ yes. (lead, omega (arith, few, n), λ s. ((back.each lead s few).leads refl).1);
      }

  -- all their bits, as many as a node sent, and the bus nodes after them are ready
  pub rows_gone : (node : Node) (xs : List Level) (new : Node) → SendsBits node xs new → (after : List BusNode) →
      length after ≡ length bus_nodes → HaveGone xs after →
      AreQuietRows to_rest bus_nodes (length xs) after × AreReady after
  rows_gone node _ _ no_bit after count gone =
      let e = same_lists bus_nodes after (sym count)
      (λ m s near. sym (one_still lead m (slice_index_or bus_nodes m s) (slice_index_or after m s) (ready m s near)
      (gone m s near))) in
      let P : List BusNode → Type 0 = λ l. AreQuietRows to_rest bus_nodes 0 l in
      let Q : List BusNode → Type 0 = λ l. AreReady l in
      (subst P e no_row, subst Q e ready)
  rows_gone node _ _ (one_bit_more mid new xs x bits bit) after count gone =
      let back = all_back xs x after count gone in
      let before = rows_gone node xs mid bits back.items back.count (λ m s near. (back.each m s near).gone) in
      let row = last_row xs x after count back before.1 in
      let more : suc (length xs) ≡ length (xs ++ x ∷ []) = let n = length-append xs (x ∷ []) in omega (arith, n) in
      let N : ℕ → Type 0 = λ n. AreQuietRows to_rest bus_nodes n after in
      (subst N more (one_more back.items after (length xs) before.0 row), row.ready)
