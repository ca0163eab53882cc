-- What a driver released and holds, and what was stored.
use Rattle.std.proofs.Common.{◌≡◌, ℕ, List, ◌++◌, sym, ap, ◌∙◌, append_assoc}
use Rattle.sja_journal.specs.declared.down.Down.{Down}
use Rattle.sja_journal.specs.declared.entry.Entry.{Entry}
use Rattle.sja_journal.specs.Lists.{messages}
use Rattle.sja_journal.specs.Parts.{part}
use Rattle.sja_journal.specs.Carried.{put_of, stored_of}
use Rattle.sja_journal.specs.Accounts.{Account}
use Rattle.sja_link.specs.Looking.{Holds}
use Rattle.sja_link.proofs.JournalEntries.ListCounts.{messages_both}
use Rattle.sja_journal.proofs.Ledger.Judging.{put_stored}

-- what was released, what is held and what lies there is what was stored
pub told_stored : (j : List Entry) (a : ℕ) (driver : Account) (down : List Down) (released held : List (List ℕ)) →
    put_of (part j a) ≡ driver.got ++ down → Holds driver.got released held →
    released ++ (held ++ messages down) ≡ stored_of (part j a)
told_stored j a driver down released held put h =
    sym (append_assoc released held (messages down)) ∙ ap (λ l. l ++ messages down) (sym h)
    ∙ sym (messages_both driver.got down) ∙ ap messages (sym put) ∙ put_stored (part j a)
