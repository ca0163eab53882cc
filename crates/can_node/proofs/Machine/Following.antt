-- Nodes that go on with one that sends, and what a node sent before its last level.
use Rattle.std.proofs.Common.{◌≡◌, ◌&&◌, ◌<◌, true, false, List, [], ◌∷◌, ◌++◌, length, refl, ap, ◌∙◌, subst}
use Rattle.std.proofs.Common.{arith}
use Rattle.std.proofs.lemmas.List.{length-append, same_from_push}
use Rattle.can_levels.specs.declared.level.Level.{Level}
use Rattle.can_bits.specs.declared.shift.Shift.{Shift}
use Rattle.can_node.specs.declared.node.Node.{Node}
use Rattle.can_node_rules.specs.declared.role.Role.{Role}
use Rattle.can_node.specs.declared.stage.Stage.{Stage}
use Rattle.can_node_rules.specs.Context.{is_transmitter}
use Rattle.can_node.specs.Together.{HasReadAs, IsApart, ReadsBit, ReadsBits, SendsBit, SendsBits, following, gone_on}
use Rattle.can_node.specs.Together.{TakesBits, is_in_frame, is_sending, reader_of, reading_as, sending_as}
use Rattle.can_node.specs.Together.ReadsBits.{no_level, level_more}
use Rattle.can_node.specs.Together.TakesBits.{takes_more, takes_none}
use Rattle.can_node.specs.Together.SendsBits.{no_bit, one_more}
use Rattle.can_node.proofs.Machine.Together.{reads_one, reads_same, rests_one}

-- ---- one that goes on with a node that sends

-- one that reads doesn't send
pub reads_only : (node : Node) (reader : Shift) → HasReadAs node reader → is_sending node ≡ false
reads_only node reader read =
    ap (λ (s : Stage). is_in_frame s && is_transmitter node.context.role) read.in_frame
    ∙ ap (λ (r : Role). true && is_transmitter r) read.receives

pub follows_sending : (node : Node) (reader : Shift) → is_sending node ≡ true →
    following node reader ≡ sending_as node reader
follows_sending node reader sending = ap (λ b. gone_on b node reader) sending

pub follows_reading : (node : Node) (reader : Shift) → is_sending node ≡ false →
    following node reader ≡ reading_as node reader
follows_reading node reader reads = ap (λ b. gone_on b node reader) reads

-- one in reset doesn't send
pub apart_only : (node : Node) → IsApart node → is_sending node ≡ false
apart_only node apart = ap (λ (s : Stage). is_in_frame s && is_transmitter node.context.role) apart.reset

-- what a node sends, one reads that has read just what it has
pub reads_bits : (node sender new : Node) (xs : List Level) → HasReadAs node (reader_of sender) →
    SendsBits sender xs new → ReadsBits node xs (reading_as node (reader_of new))
reads_bits node sender _ _ read no_bit =
    subst (λ t. ReadsBits node [] t) (ap (λ r. reading_as node r) read.same) no_level
reads_bits node sender _ _ read (one_more mid new xs x bits bit) =
    let a = reading_as node (reader_of mid) in let b = reading_as node (reader_of new) in
    level_more a b xs x (reads_bits node sender mid xs read bits) (record {
      drives = read.drives;
      samples = reads_one a x (reader_of new) read.in_frame read.receives bit.takes;
      shows = reads_same a (reader_of new);
      stays = read.drives;
    })

-- what another reader takes, one reads that has it
pub reads_alone : (node : Node) (xs : List Level) (new : Shift) → HasReadAs node (reader_of node) →
    TakesBits (reader_of node) xs new → ReadsBits node xs (reading_as node new)
reads_alone node _ _ read takes_none = no_level
reads_alone node _ _ read (takes_more mid new xs x bits takes) =
    let a = reading_as node mid in
    level_more a (reading_as node new) xs x (reads_alone node xs mid read bits) (record {
      drives = read.drives;
      samples = reads_one a x new read.in_frame read.receives takes;
      shows = reads_same a new;
      stays = read.drives;
    })

-- and one in reset, which takes its reader with the last level
still_apart : (node sender new : Node) (xs : List Level) → IsApart node → SendsBits sender xs new →
    ReadsBits node xs node
still_apart node sender _ _ apart no_bit = no_level
still_apart node sender _ _ apart (one_more mid new xs x bits bit) =
    level_more node node xs x (still_apart node sender mid xs apart bits) (rests_one node x (reader_of node) apart)

pub apart_bits : (node sender new : Node) (xs : List Level) → IsApart node → 0 < length xs →
    SendsBits sender xs new → ReadsBits node xs (reading_as node (reader_of new))
apart_bits node sender _ _ apart some no_bit = absurd (omega (arith, some))
apart_bits node sender _ _ apart some (one_more mid new xs x bits bit) =
    level_more node (reading_as node (reader_of new)) xs x (still_apart node sender mid xs apart bits)
    (rests_one node x (reader_of new) apart)

-- ---- what a node sent before its last level

pub sent_none : (old : Node) (ys : List Level) (new : Node) → SendsBits old ys new → ys ≡ [] → new ≡ old
sent_none old _ _ no_bit none = refl
sent_none old _ _ (one_more mid new xs x bits bit) none =
    let n = length-append xs (x ∷ []) in let l = ap (λ (zs : List Level). length zs) none in
    absurd (omega (arith, n, l))

-- the node before the last level
pub record SentLast (old : Node) (xs : List Level) (x : Level) (new : Node) : Type 0 where
  pub mid : Node
  pub bits : SendsBits old xs mid
  pub bit : SendsBit mid x new

pub sent_last : (old : Node) (ys : List Level) (new : Node) (xs : List Level) (x : Level) → SendsBits old ys new →
    ys ≡ xs ++ x ∷ [] → SentLast old xs x new
sent_last old _ _ xs x no_bit is =
    let n = length-append xs (x ∷ []) in let l = ap (λ (zs : List Level). length zs) is in
    absurd (omega (arith, n, l))
sent_last old _ _ xs x (one_more mid new ys y bits bit) is =
    let same = same_from_push ys xs y x is in record {
      mid = mid;
      bits = subst (λ l. SendsBits old l mid) same.0 bits;
      bit = subst (λ z. SendsBit mid z new) same.1 bit;
    }

-- ---- what it read before its last level

pub read_none : (old : Node) (ys : List Level) (new : Node) → ReadsBits old ys new → ys ≡ [] → new ≡ old
read_none old _ _ no_level none = refl
read_none old _ _ (level_more mid new xs x bits bit) none =
    let n = length-append xs (x ∷ []) in let l = ap (λ (zs : List Level). length zs) none in
    absurd (omega (arith, n, l))

-- the node before the last level
pub record ReadLast (old : Node) (xs : List Level) (x : Level) (new : Node) : Type 0 where
  pub mid : Node
  pub bits : ReadsBits old xs mid
  pub bit : ReadsBit mid x new

pub read_last : (old : Node) (ys : List Level) (new : Node) (xs : List Level) (x : Level) → ReadsBits old ys new →
    ys ≡ xs ++ x ∷ [] → ReadLast old xs x new
read_last old _ _ xs x no_level is =
    let n = length-append xs (x ∷ []) in let l = ap (λ (zs : List Level). length zs) is in
    absurd (omega (arith, n, l))
read_last old _ _ xs x (level_more mid new ys y bits bit) is =
    let same = same_from_push ys xs y x is in record {
      mid = mid;
      bits = subst (λ l. ReadsBits old l mid) same.0 bits;
      bit = subst (λ z. ReadsBit mid z new) same.1 bit;
    }
