-- A journal has one list of bit events.
use Rattle.std.proofs.Common.{◌≡◌, ◌<◌, ◌+◌, ◌^◌, Option, Some, None, List, [], ◌∷◌, ◌++◌, refl, sym, ap, ◌∙◌}
use Rattle.std.proofs.Common.{subst, arith}
use Rattle.std.proofs.lemmas.List.{append_cancel_left}
use Rattle.can_levels.specs.declared.level.Level.{Level}
use Rattle.can_frame.specs.Frame.{FrameValue}
use Rattle.can_node_rules.specs.declared.bit_events.BitEvents.{BitEvents}
use Rattle.sja_journal.specs.declared.entry.Entry.{Entry}
use Rattle.sja_journal.specs.declared.entry.Entry.TheVariants.{Bit, Up as Item, Abort, Stored as StoredEntry}
use Rattle.sja_journal.specs.declared.entry.Entry.TheVariants.{Overrun as OverrunEntry, Off}
use Rattle.sja_journal.specs.Places.{place_of}
use Rattle.sja_journal.specs.Records.{record_of}
use Rattle.sja_replay.specs.declared.reception.Reception.{Reception}
use Rattle.sja_replay.specs.declared.bit_event.BitEvent.{BitEvent}
use Rattle.sja_replay.specs.Closing.{Judges, HasReception, Closes, off_if}
use Rattle.sja_replay.specs.Happened.{IsUntold, Happened}
use Rattle.sja_replay.specs.Happened.IsUntold.{misdriven, misfits, uncounted}
use Rattle.sja_replay.specs.Happened.Happened.{over, between, bit, refused, untold}
use Rattle.sja_replay.specs.BitEvent.{Brings}
use Rattle.sja_replay.specs.Taking.{last_part}
use Rattle.can_node_rules.proofs.OneCut.SameCuts.{drives_by}
use Rattle.sja_replay.proofs.Once.Bits.{AreAlike, brings_once}

-- ---- what a bit brought

pub judges_once : (p rest : List Entry) (f g : Reception) (a b : List Entry) → Judges p rest f a → Judges p rest g b →
    (f ≡ g) × (a ≡ b)
judges_once p (StoredEntry m ∷ more) f g a b h k = (h.0 ∙ sym k.0, h.1 ∙ sym k.1)
judges_once p (OverrunEntry m ∷ more) f g a b h k = (h.0 ∙ sym k.0, h.1 ∙ sym k.1)
judges_once p [] f g a b h k = (h.0 ∙ sym k.0, h.1 ∙ sym k.1)
judges_once p (Bit driven seen ∷ more) f g a b h k = (h.0 ∙ sym k.0, h.1 ∙ sym k.1)
judges_once p (Item u ∷ more) f g a b h k = (h.0 ∙ sym k.0, h.1 ∙ sym k.1)
judges_once p (Abort ∷ more) f g a b h k = (h.0 ∙ sym k.0, h.1 ∙ sym k.1)
judges_once p (Off ∷ more) f g a b h k = (h.0 ∙ sym k.0, h.1 ∙ sym k.1)

reception_once : (p rest : List Entry) (frame : Option FrameValue) (f g : Option Reception) (a b : List Entry) →
    HasReception p frame rest f a → HasReception p frame rest g b → (f ≡ g) × (a ≡ b)
reception_once p rest None f g a b h k = (h.0 ∙ sym k.0, h.1 ∙ sym k.1)
reception_once p rest (Some frame) f g a b h k =
    let one = judges_once p rest h.0 k.0 a b h.2 k.2 in (h.1 ∙ ap Some one.0 ∙ sym k.1, one.1)

-- the reception, the entries that the bit brought, and those that are left
pub closes_once : (p : List Entry) (e : BitEvents) (rest : List Entry) (f g : Option Reception) (a b l m : List Entry) →
    Closes p e rest f a l → Closes p e rest g b m → (f ≡ g) × (a ≡ b) × (l ≡ m)
closes_once p e rest f g a b l m h k =
    let one = reception_once p rest e.received f g h.verdict k.verdict h.has k.has in
    let brought : a ≡ b = h.are ∙ ap (λ v. v ++ off_if e.went_off) one.1 ∙ sym k.are in
    (one.0, brought, append_cancel_left b l m (ap (λ c. c ++ l) (sym brought) ∙ sym h.whole ∙ k.whole))

-- the bit event
same_bit_event : (x y : BitEvent) → AreAlike x y → x.reception ≡ y.reception → x ≡ y
same_bit_event x y h reception = λ i. record {
  bit = h.bit i;
  driven = h.driven i;
  seen = h.seen i;
  aborted = h.aborted i;
  before = h.before i;
  events = h.events i;
  after = h.after i;
  reception = reception i;
}

-- a bit that is told isn't one that can't be told
told_or_not : (j : List Entry) (driven seen : Level) (rest brought left : List Entry) (h : BitEvent) →
    (place_of j).bits + 1 < 2 ^ 32 → Brings j driven seen h →
    Closes (last_part (j ++ Bit driven seen ∷ [])) h.events rest h.reception brought left →
    IsUntold j driven seen rest → ⊥
told_or_not j driven seen rest brought left h few brings closes (misdriven {found = found} cut never) =
    never (drives_by (record_of j) brings.found found brings.cut cut driven brings.drives)
told_or_not j driven seen rest brought left h few brings closes (misfits other others never) =
    let P : BitEvents → Type 0 =
    λ e. Closes (last_part (j ++ Bit driven seen ∷ [])) e rest h.reception brought left in
    never h.reception brought left (subst P (brings_once j driven seen h other brings others).events closes)
told_or_not j driven seen rest brought left h few brings closes (uncounted many) = omega (arith, few, many)

-- ---- the list

pub happened_once : (j left : List Entry) (hs others : List BitEvent) → Happened j left hs → Happened j left others →
    hs ≡ others
happened_once j left hs others over over = refl
happened_once j left hs others (between t x) (between u y) = happened_once _ _ hs others x y
happened_once j left hs others (between t x) (bit few brings closes y) = absurd t.takes
happened_once j left hs others (between t x) (refused fails other) = absurd (fails t)
happened_once j left hs others (between t x) (untold why) = absurd t.takes
happened_once j left hs others (bit few brings closes x) (between u y) = absurd u.takes
happened_once j left hs others (bit few brings closes x) (refused fails other) = absurd (other _ _ refl)
happened_once j left hs others (bit {h = h} few brings closes x) (untold why) =
    absurd (told_or_not j _ _ _ _ _ h few brings closes why)
happened_once j left hs others (refused fails other) (between u y) = absurd (fails u)
happened_once j left hs others (refused fails other) (bit few brings closes y) = absurd (other _ _ refl)
happened_once j left hs others (refused fails other) (refused too again) = refl
happened_once j left hs others (refused fails other) (untold why) = refl
happened_once j left hs others (untold why) (between u y) = absurd u.takes
happened_once j left hs others (untold why) (bit {h = h} few brings closes y) =
    absurd (told_or_not j _ _ _ _ _ h few brings closes why)
happened_once j left hs others (untold why) (refused fails other) = refl
happened_once j left hs others (untold why) (untold too) = refl
happened_once j left hs others
    (bit {rest = rest} {brought = a} {left = l} {driven = driven} {seen = seen} {h = h} {hs = more} few brings closes x)
    (bit {brought = b} {left = m} {h = k} {hs = rests} less brought others_close y) =
    let i : List Entry = j ++ Bit driven seen ∷ [] in
    let alike = brings_once j driven seen h k brings brought in
    let P : BitEvents → Type 0 = λ e. Closes (last_part i) e rest k.reception b m in
    let one = closes_once (last_part i) h.events rest h.reception k.reception a b l m closes
    (subst P (sym alike.events) others_close) in
    let Q : List Entry → Type 0 = λ c. Happened (i ++ c) m rests in
    let R : List Entry → Type 0 = λ c. Happened (i ++ a) c rests in
    let later : more ≡ rests =
    happened_once (i ++ a) l more rests x (subst R (sym one.2) (subst Q (sym one.1) y)) in
    λ n. same_bit_event h k alike one.0 n ∷ later n
