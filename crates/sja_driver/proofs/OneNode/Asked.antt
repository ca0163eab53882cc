-- What a node holds after an item was taken.
use Rattle.std.proofs.Common.{◌≡◌, ℕ, Bool, true, false, List, [], ◌∷◌, ◌++◌, refl, sym, ap, ◌∙◌, subst}
use Rattle.std.proofs.Common.{append-nil, inl, inr}
use Rattle.std.specs.Prelude.{◌⊎◌, not, if◌then◌else◌}
use Rattle.std.proofs.lemmas.Bool.{eq-eqb}
use Rattle.can_node_rules.specs.declared.config.Config.{Config}
use Rattle.can_node_rules.specs.declared.request.Request.{Request}
use Rattle.can_node_rules.specs.Context.{is_held}
use Rattle.can_node_rules.specs.NextBit.{now_in}
use Rattle.sja_journal.specs.NodeWords.{NodeEntry, NodeStarted, NodeStopped, NodeAsked, FinishedPiece, IsCut}
use Rattle.sja_journal.specs.declared.down.Down.{Down}
use Rattle.sja_journal.specs.declared.up.Up.TheVariants.{Start as StartItem, Credit, Send as SendItem, Stop as StopItem}
use Rattle.sja_journal.specs.declared.entry.Entry.{Entry}
use Rattle.sja_journal.specs.declared.entry.Entry.TheVariants.{Bit, Up as Item, Abort, Stored, Overrun, Off}
use Rattle.lemmas.specs.Gathering.{gathered}
use Rattle.sja_link.specs.Looking.{off_among}
use Rattle.sja_journal.specs.Parts.{in_part, entry_at}
use Rattle.sja_journal.specs.Carried.{put_in, put_of}
use Rattle.sja_journal.specs.Places.{JournalPlace, first_place, past, past_all, placed_from, place_of}
use Rattle.sja_journal.specs.Records.{told, record_of}
use Rattle.sja_journal.specs.Verdicts.{IsLawful}
use Rattle.lemmas.proofs.Gathered.{gathered_append}
use Rattle.sja_journal.proofs.JournalEntries.Entering.{record_push}
use Rattle.sja_link.proofs.Ledger.Pullings.{off_both, off_stays}
use Rattle.sja_driver.specs.Windows.{off_by}
use Rattle.sja_driver.proofs.Trace.Timings.{put_now}
use Rattle.sja_regs.specs.declared.registers.Registers.{Registers}
use Rattle.sja_driver.specs.Asking.{IsAsked}
use Rattle.can_node_rules.proofs.Requests.Cuts.{sent_holds, stopped_holds, started_holds}

-- ---- bus-off at the end of a journal was put in its activation

-- what was put among these entries in the activation that they end in
abbrev put_last : JournalPlace → List Entry → List Down
put_last p es = put_of (gathered (in_part entry_at (past_all p es).activation) (placed_from p es))

-- it stood before, in the same activation, or is among them
abbrev Known : JournalPlace → List Entry → Type 0
Known p es = ((p.off ≡ true) × ((past_all p es).activation ≡ p.activation)) ⊎ (off_among false (put_last p es) ≡ true)

more_known : (p : JournalPlace) (e : Entry) (es : List Entry) (a : ℕ) →
    off_among false (put_of (gathered (in_part entry_at a) (placed_from (past p e) es))) ≡ true →
    off_among false (put_of (gathered (in_part entry_at a) (placed_from p (e ∷ es)))) ≡ true
more_known p e es a h =
    ap (off_among false) (gathered_append put_in (in_part entry_at a (record { before = p; entry = e }))
    (gathered (in_part entry_at a) (placed_from (past p e) es)))
    ∙ off_both false (put_of (in_part entry_at a (record { before = p; entry = e })))
    (put_of (gathered (in_part entry_at a) (placed_from (past p e) es)))
    ∙ over (off_among false (put_of (in_part entry_at a (record { before = p; entry = e }))))
  where
    over : (b : Bool) → off_among b (put_of (gathered (in_part entry_at a) (placed_from (past p e) es))) ≡ true
    over true = off_stays (put_of (gathered (in_part entry_at a) (placed_from (past p e) es)))
    over false = h

same_known : (p : JournalPlace) (e : Entry) (es : List Entry) → (past p e).off ≡ p.off →
    (past p e).activation ≡ p.activation →
    Known (past p e) es → Known p (e ∷ es)
same_known p e es off act (inl before) = inl (sym off ∙ before.0, before.1 ∙ act)
same_known p e es off act (inr among) = inr (more_known p e es (past_all (past p e) es).activation among)

known_from : (p : JournalPlace) (es : List Entry) → (past_all p es).off ≡ true → Known p es
known_from p [] h = inl (h, refl)
known_from p (Bit driven seen ∷ es) h =
    same_known p (Bit driven seen) es refl refl (known_from (past p (Bit driven seen)) es h)
known_from p (Item (Credit n) ∷ es) h = same_known p (Item (Credit n)) es refl refl (known_from p es h)
known_from p (Item (SendItem request) ∷ es) h = same_known p (Item (SendItem request)) es refl refl (known_from p es h)
known_from p (Item StopItem ∷ es) h = same_known p (Item StopItem) es refl refl (known_from p es h)
known_from p (Abort ∷ es) h = same_known p Abort es refl refl (known_from p es h)
known_from p (Stored m ∷ es) h = same_known p (Stored m) es refl refl (known_from p es h)
known_from p (Overrun m ∷ es) h = same_known p (Overrun m) es refl refl (known_from p es h)
known_from p (Item (StartItem config) ∷ es) h = elim (known_from (past p (Item (StartItem config))) es h) [
  | inl before ↦ let e = before.0 in absurd cc
  | inr among ↦ inr (more_known p (Item (StartItem config)) es (past_all (past p (Item (StartItem config)))
      es).activation among)
]
known_from p (Off ∷ es) h = elim (known_from (past p Off) es h) [
  | inl before ↦
      let a = (past_all (past p Off) es).activation in
      let here : in_part entry_at a (record { before = p; entry = Off }) ≡ Off ∷ [] =
      ap (λ (b : Bool). if b then Off ∷ [] else []) (eq-eqb p.activation a (sym before.1)) in
      inr (ap (λ (l : List Entry).
      off_among false (put_of (l ++ gathered (in_part entry_at a) (placed_from (past p Off) es)))) here
      ∙ off_stays (put_of (gathered (in_part entry_at a) (placed_from (past p Off) es))))
  | inr among ↦ inr (more_known p Off es (past_all (past p Off) es).activation among)
]

pub off_known : (j : List Entry) → (place_of j).off ≡ true → off_by (place_of j).bits j (place_of j).activation ≡ true
off_known j h = elim (known_from first_place j h) [
  | inl before ↦ let e = before.0 in absurd cc
  | inr among ↦ ap (off_among false) (put_now j (place_of j).activation) ∙ among
]

-- ---- what is held after an item

abbrev Held : List NodeEntry → Bool → Type 0
Held entries tbs = (found : List FinishedPiece) (cut : IsCut entries found) → tbs ≡ not (is_held (now_in cut).held)

held_as : (k : List Entry) (p q : Registers) (entries : List NodeEntry) (tbs : Bool) → record_of k ≡ entries →
    q.tbs ≡ tbs → Held entries tbs → IsAsked k q
held_as k p q entries tbs e t h =
    subst (λ (l : List NodeEntry). Held l q.tbs) (sym e) (subst (λ (b : Bool). Held entries b) (sym t) h)

module _ (j : List Entry) (p q : Registers) (lawful : IsLawful j) (h : IsAsked j p) where
  -- an item of which the node isn't told
  pub asked_same : (k : List Entry) → record_of k ≡ record_of j → q.tbs ≡ p.tbs → IsAsked k q
  asked_same k e t = held_as k p q (record_of j) p.tbs e t h

  pub asked_credit : (n : ℕ) → q.tbs ≡ p.tbs → IsAsked (j ++ Item (Credit n) ∷ []) q
  asked_credit n t = asked_same (j ++ Item (Credit n) ∷ []) (record_push j (Item (Credit n)) ∙ append-nil (record_of j))
      t

  pub asked_start : (config : Config) → p.tbs ≡ true → q.tbs ≡ p.tbs → IsAsked (j ++ Item (StartItem config) ∷ []) q
  asked_start config free t =
      held_as (j ++ Item (StartItem config) ∷ []) p q (record_of j ++ NodeStarted config ∷ []) p.tbs
      (record_push j (Item (StartItem config))) t
      (λ found cut. h lawful.found lawful.cut
      ∙ ap not (sym (started_holds (record_of j) lawful.found found lawful.cut config cut)))

  pub asked_send : (request : Request) → (place_of j).off ≡ false → q.tbs ≡ false →
      IsAsked (j ++ Item (SendItem request) ∷ []) q
  asked_send request on t =
      held_as (j ++ Item (SendItem request) ∷ []) p q (record_of j ++ NodeAsked request ∷ []) false
      (record_push j (Item (SendItem request)) ∙ ap (λ (b : Bool). record_of j ++ told b (Item (SendItem request))) on)
      t
      (λ found cut. ap not (sym (sent_holds (record_of j) lawful.found found lawful.cut request cut)))

  pub asked_stop : q.tbs ≡ true → IsAsked (j ++ Item StopItem ∷ []) q
  asked_stop t =
      held_as (j ++ Item StopItem ∷ []) p q (record_of j ++ NodeStopped ∷ []) true (record_push j (Item StopItem)) t
      (λ found cut. ap not (sym (stopped_holds (record_of j) lawful.found found lawful.cut cut)))
