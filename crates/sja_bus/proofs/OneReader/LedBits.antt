-- One bit of a node that sends, and of one that has read just what it has.
use Rattle.std.proofs.Common.{◌≡◌, true, false, List, [], ◌∷◌, ◌++◌, map, refl, sym, ap, ◌∙◌, subst, append_assoc}
use Rattle.std.proofs.lemmas.List.{map-append}
use Rattle.can_levels.specs.declared.level.Level.{Level}
use Rattle.can_levels.specs.declared.level.Level.TheVariants.{Recessive}
use Rattle.can_node.specs.declared.node.Node.{Node}
use Rattle.can_node.specs.declared.stage.Stage.{Stage}
use Rattle.can_node_rules.specs.Context.{is_held}
use Rattle.can_node_rules.specs.NextBit.{now_in, open_bits, rests_in}
use Rattle.can_node.specs.Stands.{DrivesNext, ShowsRest, is_receiving, phase_of_stage}
use Rattle.can_node.specs.Together.{ReadsBit, SendsBit, is_sending, kept_level}
use Rattle.can_node.proofs.Machine.Shown.{phase_shown}
use Rattle.can_node_rules.proofs.OneCut.DrivenLevels.{drives_once}
use Rattle.can_node.proofs.Machine.Together.{sends_in_frame}
use Rattle.sja_journal.specs.declared.entry.Entry.{Entry}
use Rattle.sja_journal.specs.declared.entry.Entry.TheVariants.{Bit}
use Rattle.sja_journal.specs.Records.{record_of}
use Rattle.sja_bus.specs.declared.bus_node.BusNode.{BusNode}
use Rattle.sja_bus.specs.declared.pending_event.PendingEvent.TheVariants.{Nothing}
use Rattle.sja_bus.specs.Inside.BusNodes.{IsReady}
use Rattle.sja_bus.specs.Inside.Together.{after_reading, after_sending, read_bits}
use Rattle.sja_bus.specs.Inside.Turning.{IsQuietBit}
use Rattle.sja_bus.proofs.Journal.Quiet.{quiet_sound}

-- ---- what a node drives

-- the level that it keeps
pub drives_kept : (node : Node) → DrivesNext node (kept_level node)
drives_kept node entries found h = h.next

-- a bus node knows that level
pub kept_is : (s : BusNode) (node : Node) (x : Level) → IsReady s → node ≡ s.node → DrivesNext node x → x ≡ s.drives
kept_is s node x ready is drives =
    let cut = ready.sound.follows.stands.cut in
    let P : Node → Type 0 = λ n. DrivesNext n x in
    drives_once (now_in cut) cut.place (open_bits cut) x s.drives
    (subst P is drives (record_of s.journal.entries) ready.sound.follows.found ready.sound.follows.stands)
    (ready.drives (record_of s.journal.entries) ready.sound.follows.found ready.sound.follows.stands)

-- a node that sends isn't at rest
pub works : (node : Node) → is_sending node ≡ true → ShowsRest node false
works node sends entries found h =
    ap (λ (s : Stage). rests_in (phase_of_stage s) (is_held (now_in h.cut).held)) (sym (sends_in_frame node sends))
    ∙ ap (λ p. rests_in p (is_held (now_in h.cut).held)) (phase_shown node entries found h)

-- ---- one bus node

grown : (f : Level → Entry) (j : List Entry) (xs : List Level) (x : Level) →
    j ++ map f (xs ++ x ∷ []) ≡ (j ++ map f xs) ++ f x ∷ []
grown f j xs x = ap (λ l. j ++ l) (map-append f xs (x ∷ [])) ∙ sym (append_assoc j (map f xs) (f x ∷ []))

-- the bit of the one that sends
module _ (s : BusNode) (mid new : Node) (next : Level) (xs : List Level) (x : Level) (bit : SendsBit mid x new) where
  pub sender_drives : DrivesNext mid x
  sender_drives = let P : Level → Type 0 = λ y. DrivesNext mid y in subst P bit.drives (drives_kept mid)

  pub sender_quiet : s.untold ≡ Nothing →
      IsQuietBit x (after_sending mid x xs s) (after_sending new next (xs ++ x ∷ []) s)
  sender_quiet none = record {
    untold = none;
    told = none;
    samples = bit.samples;
    shows = bit.shows;
    whole = grown (λ y. Bit y y) s.journal.entries xs x;
  }

  pub sender_ready : IsReady (after_sending mid x xs s) → DrivesNext new next →
      IsReady (after_sending new next (xs ++ x ∷ []) s)
  sender_ready ready drives = record {
    sound = quiet_sound (after_sending mid x xs s) (after_sending new next (xs ++ x ∷ []) s) new x x
        (is_receiving mid) sender_drives bit.samples bit.shows refl
        (grown (λ y. Bit y y) s.journal.entries xs x) refl refl refl ready.sound;
    bus_node = record { own = ready.bus_node.own; few = ready.bus_node.few; most = ready.bus_node.most };
    drives = drives;
  }

-- the bit of one that reads
module _ (s : BusNode) (mid new : Node) (xs : List Level) (x : Level) (bit : ReadsBit mid x new) where
  reader_drives : (node : Node) → kept_level node ≡ Recessive → DrivesNext node Recessive
  reader_drives node e = let P : Level → Type 0 = λ y. DrivesNext node y in subst P e (drives_kept node)

  pub reader_quiet : s.untold ≡ Nothing → s.drives ≡ Recessive →
      IsQuietBit x (after_reading mid xs s) (after_reading new (xs ++ x ∷ []) s)
  reader_quiet none drives = record {
    untold = none;
    told = none;
    samples = bit.samples;
    shows = bit.shows;
    whole = grown (λ y. Bit Recessive y) s.journal.entries xs x
        ∙ ap (λ y. (s.journal.entries ++ read_bits xs) ++ Bit y x ∷ []) (sym drives);
  }

  pub reader_ready : s.drives ≡ Recessive → IsReady (after_reading mid xs s) →
      IsReady (after_reading new (xs ++ x ∷ []) s)
  reader_ready drives ready = record {
    sound = quiet_sound (after_reading mid xs s) (after_reading new (xs ++ x ∷ []) s) new Recessive x
        (is_receiving mid) (reader_drives mid bit.drives) bit.samples bit.shows refl
        (grown (λ y. Bit Recessive y) s.journal.entries xs x) refl refl refl ready.sound;
    bus_node = record { own = ready.bus_node.own; few = ready.bus_node.few; most = ready.bus_node.most };
    drives = let P : Level → Type 0 = λ y. DrivesNext new y in subst P (bit.stays ∙ sym drives) (drives_kept new);
  }
