-- What a replay knows of a journal, with an entry more.
use Rattle.std.proofs.Common.{◌≡◌, ℕ, ◌+◌, None, List, [], ◌∷◌, ◌++◌, refl, sym, ap, ◌∙◌, subst, arith}
use Rattle.can_node_rules.specs.declared.config.Config.{Config}
use Rattle.can_node.specs.Stands.{StandsAt}
use Rattle.sja_journal.specs.NodeWords.{NodeEntry, FinishedPiece}
use Rattle.sja_journal.specs.declared.up.Up.TheVariants.{Start}
use Rattle.sja_journal.specs.declared.entry.Entry.{Entry}
use Rattle.sja_journal.specs.declared.entry.Entry.TheVariants.{Up as Item}
use Rattle.sja_journal.specs.Free.{credit_in, bytes_in, IsFree}
use Rattle.sja_journal.specs.Parts.{entry_at, part}
use Rattle.sja_journal.specs.Places.{JournalPlace, place_of, past}
use Rattle.sja_journal.specs.Records.{told, record_of}
use Rattle.sja_journal.proofs.JournalEntries.Entering.{place_push, part_here, of_part_later, record_push}
use Rattle.sja_journal.proofs.Ledger.Freeing.{free_push}
use Rattle.sja_replay.specs.declared.replay.Replay.{Replay}
use Rattle.sja_replay.specs.Replaying.{IsAt}
use Rattle.sja_replay.specs.Taking.{is_abort, ends_in_abort, last_part}

-- the last entry is an abort where the one that comes is
pub ends_push : (j : List Entry) (e : Entry) → ends_in_abort (j ++ e ∷ []) ≡ is_abort e
ends_push [] e = refl
ends_push (x ∷ []) e = refl
ends_push (x ∷ y ∷ j) e = ends_push (y ∷ j) e

-- ---- the part of the last activation

-- an entry that begins none
pub last_part_on : (j : List Entry) (e : Entry) → (past (place_of j) e).activation ≡ (place_of j).activation →
    last_part (j ++ e ∷ []) ≡ last_part j ++ e ∷ []
last_part_on j e same =
    ap (λ (p : JournalPlace). part (j ++ e ∷ []) p.activation) (place_push j e)
    ∙ ap (part (j ++ e ∷ [])) same ∙ part_here j e (place_of j).activation same

-- a start
pub last_part_new : (j : List Entry) (config : Config) →
    last_part (j ++ Item (Start config) ∷ []) ≡ Item (Start config) ∷ []
last_part_new j config =
    let e : Entry = Item (Start config) in
    let a : ℕ = (place_of j).activation in
    let none : part j (a + 1) ≡ [] = of_part_later entry_at j (a + 1) (omega arith) in
    ap (λ (p : JournalPlace). part (j ++ e ∷ []) p.activation) (place_push j e)
    ∙ part_here j e (a + 1) refl ∙ ap (λ (l : List Entry). l ++ e ∷ []) none

-- the bytes that are free
pub free_on : (j : List Entry) (e : Entry) (n m : ℕ) → (past (place_of j) e).activation ≡ (place_of j).activation →
    m + bytes_in e ≡ n + credit_in e → IsFree (last_part j) n → IsFree (last_part (j ++ e ∷ [])) m
free_on j e n m same step h =
    subst (λ (p : List Entry). IsFree p m) (sym (last_part_on j e same)) (free_push (last_part j) e n m h step)

pub free_new : (j : List Entry) (config : Config) → IsFree (last_part (j ++ Item (Start config) ∷ [])) 64
free_new j config = subst (λ (p : List Entry). IsFree p 64) (sym (last_part_new j config)) refl

-- ---- all of it

pub at_next : (new : Replay) (j : List Entry) (e : Entry) (found : List FinishedPiece) →
    StandsAt new.node (record_of j ++ told (place_of j).off e) found → new.bits ≡ (past (place_of j) e).bits →
    new.off ≡ (past (place_of j) e).off → new.aborted ≡ is_abort e → IsFree (last_part (j ++ e ∷ [])) new.free →
    (new.ahead ≡ None → new.entries ≡ []) → IsAt new (j ++ e ∷ [])
at_next new j e found stands bits off aborted free looked =
    let P : List NodeEntry → Type 0 = λ r. StandsAt new.node r found in record {
      found = found;
      stands = subst P (sym (record_push j e)) stands;
      bits = bits ∙ sym (ap (λ (p : JournalPlace). p.bits) (place_push j e));
      off = off ∙ sym (ap (λ (p : JournalPlace). p.off) (place_push j e));
      aborted = aborted ∙ sym (ends_push j e);
      free = free;
      looked = looked;
    }
