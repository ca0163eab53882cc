-- What the entries of each activation come to, counted one after another.
use Rattle.std.specs.Prelude.{◌+◌, ◌-◌, ℕ, Bool, true, false, List, [], ◌∷◌, ◌++◌, length, codes, slice_index_or}
use Rattle.sja_journal.specs.declared.up.Up.{Up}
use Rattle.sja_journal.specs.declared.up.Up.TheVariants.{Start, Credit, Send, Stop}
use Rattle.sja_journal.specs.declared.entry.Entry.{Entry}
use Rattle.sja_journal.specs.declared.entry.Entry.TheVariants.{Bit, Up as Item, Abort, Stored, Overrun, Off}
use Rattle.lemmas.specs.Gathering.{total}
use Rattle.sja_journal.specs.Carried.{stored_of, overrun_of}
use Rattle.sja_journal.specs.Free.{bytes_in, credit_in}
use Rattle.text_report.specs.declared.tally.Tally.{Tally}
use Rattle.sja_log.specs.Log.{ActivationValue}
use Rattle.text_report.specs.ReportLines.{counts_line, message_lines}

-- how many messages were stored, those that were overrun, the bytes stored and the bytes given back
pub record TallyValue : Type 0 where
  pub stored : ℕ
  pub overrun : List (List ℕ)
  pub bytes : ℕ
  pub credits : ℕ

abbrev pub tally_value : Tally → TallyValue
tally_value t = record { stored = t.stored; overrun = t.overrun.items; bytes = t.bytes; credits = t.credits }

-- what a part of a journal comes to
abbrev pub tally_of : List Entry → TallyValue
tally_of p = record {
  stored = length (stored_of p);
  overrun = overrun_of p;
  bytes = total bytes_in p;
  credits = total credit_in p;
}

-- nothing yet
abbrev pub no_tally : TallyValue
no_tally = record { stored = 0; overrun = []; bytes = 0; credits = 0 }

-- the bytes that are free
abbrev pub free_by : TallyValue → ℕ
free_by t = (64 + t.credits) - t.bytes

-- with an entry more
abbrev pub with_entry : TallyValue → Entry → TallyValue
with_entry t (Stored m) = record t { stored = t.stored + 1; bytes = t.bytes + length m }
with_entry t (Overrun m) = record t { overrun = t.overrun ++ m ∷ [] }
with_entry t (Item (Credit n)) = record t { credits = t.credits + n }
with_entry t (Item (Start config)) = t
with_entry t (Item (Send request)) = t
with_entry t (Item Stop) = t
with_entry t (Bit driven seen) = t
with_entry t Abort = t
with_entry t Off = t

-- whether an entry begins an activation
abbrev pub opens : Entry → Bool
opens (Item (Start config)) = true
opens (Item (Credit n)) = false
opens (Item (Send request)) = false
opens (Item Stop) = false
opens (Bit driven seen) = false
opens Abort = false
opens (Stored m) = false
opens (Overrun m) = false
opens Off = false

-- from a tally on that of each activation: a start ends one and begins the next
abbrev pub tallied : TallyValue → List Entry → List TallyValue
tallied t [] = t ∷ []
tallied t (Item (Start config) ∷ es) = t ∷ tallied no_tally es
tallied t (Item (Credit n) ∷ es) = tallied (with_entry t (Item (Credit n))) es
tallied t (Item (Send request) ∷ es) = tallied t es
tallied t (Item Stop ∷ es) = tallied t es
tallied t (Bit driven seen ∷ es) = tallied t es
tallied t (Abort ∷ es) = tallied t es
tallied t (Stored m ∷ es) = tallied (with_entry t (Stored m)) es
tallied t (Overrun m ∷ es) = tallied (with_entry t (Overrun m)) es
tallied t (Off ∷ es) = tallied t es

-- the lines of an activation by its tally
abbrev pub activation_lines_of : TallyValue → ℕ → ActivationValue → List (List (List ℕ))
activation_lines_of t a act =
    counts_line a t.stored (length t.overrun) (free_by t)
    ∷ (message_lines (codes "released") act.released
    ++ message_lines (codes "unread") act.unread
    ++ message_lines (codes "overrun") t.overrun)

-- by the tallies of all
abbrev pub tallied_lines : List TallyValue → ℕ → ActivationValue → List (List (List ℕ))
tallied_lines ts a act = activation_lines_of (slice_index_or ts a no_tally) a act
