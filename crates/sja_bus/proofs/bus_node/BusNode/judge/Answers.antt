use Rattle.std.proofs.Common.{◌≡◌, ℕ, suc, false, append-nil, List, [], ◌∷◌, ◌++◌, refl, sym, ap}
use Rattle.std.proofs.Common.{◌∙◌, subst, rules}
use Rattle.std.specs.Prelude.{Err}
use Rattle.sja_journal.specs.Written.{Room, IsFullFor}
use Rattle.sja_journal.specs.declared.entry.Entry.{Entry}
use Rattle.sja_journal.specs.declared.entry.Entry.TheVariants.{Bit}
use Rattle.sja_link.specs.declared.link_id.LinkId.{LinkId}
use Rattle.sja_link.specs.BusLedgers.{link_of, free_in}
use Rattle.sja_journal.specs.Lists.{OthersStand, Carries}
use Rattle.sja_journal.specs.Accounts.{with_entry}
use Rattle.sja_journal.specs.Parts.{part}
use Rattle.sja_journal.specs.Records.{record_of}
use Rattle.sja_journal.specs.NodeWords.{IsCut}
use Rattle.sja_journal.specs.Verdicts.{entry_of}
use Rattle.sja_journal.specs.declared.bus_fault.BusFault.TheVariants.{JournalFull}
use Rattle.sja_bus.specs.declared.bus_node.BusNode.{BusNode}
use Rattle.sja_bus.specs.Inside.Taking.{BreaksBy, IsJudgedShort}
use Rattle.sja_bus.proofs.Links.BusNodeParts.{reads_by}
use Rattle.sja_bus.proofs.Journal.Parted.{stays_of, stands_at, place_same, off_less}
use Rattle.sja_bus.proofs.Journal.Reading.{reads_quiet, reads_here, runs_at, reads_running}
use Rattle.sja_bus.proofs.Journal.Judging.{due_now, verdict_stays, verdict_no_stop, verdict_orderly}
use Rattle.sja_link.proofs.Growing.Ordered.{no_off_put}
use Rattle.sja_link.proofs.Growing.Moving.{moves_push, moves_quiet, moves_trans}
use Rattle.sja_bus.proofs.ItemsTaken.Breaking.{gave_back}
use Rattle.sja_bus.proofs.ItemsTaken.OutOfRoom.{bit_unjudged, verdict_unjudged}
use Rattle.lemmas.proofs.Results.{err_is}
use Rattle.sja_bus.proofs.bus_node.BusNode.judge.Goals as goal

pub returns-in_ok-enter-in-Ok-clause-judged : goal.returns-in_ok-enter-in-Ok-clause-judged
returns-in_ok-enter-in-Ok-clause-judged g c =
    let was = c.args.self.now in let j = was.journal.entries in let k = j ++ Bit c.args.driven c.args.seen ∷ [] in
    let v = c.in-Ok.verdict in let m = c.args.message in
    let at = runs_at was.activity was.node j was.ended (free_in was.ledger) c.requires.runs c.requires.reads in
    let first = c.in_ok-enter_bit-in-Ok.ensures.ok.0 in
    record {
      verdict = v;
      overrun_is = c.is_overrun-overrun.ensures m;
      whole = c.in_ok-enter-in-Ok.ensures.ok.0 ∙ ap (λ (l : List Entry). l ++ c.verdict_entry.result ∷ []) first
          ∙ ap (λ x. k ++ x ∷ []) c.verdict_entry.ensures;
      due = due_now j c.args.driven c.args.seen (suc was.ended) v m (free_in was.ledger) at c.requires.reads.free_is
          (λ p f. (c.in-Ok.ensures.judged p f).0);
    }

pub returns-in_ok-enter-in-Ok-clause-reads : goal.returns-in_ok-enter-in-Ok-clause-reads
returns-in_ok-enter-in-Ok-clause-reads g c =
    let was = c.args.self.now in let j = was.journal.entries in let k = j ++ Bit c.args.driven c.args.seen ∷ [] in
    let v = c.in-Ok.verdict in let m = c.args.message in
    let first = c.in_ok-enter_bit-in-Ok.ensures.ok.0 in
    let one = reads_quiet was.node was.node j (Bit c.args.driven c.args.seen) was.ended was.activity
    (free_in was.ledger) (λ p. refl, refl, refl, refl) (λ r. r) c.requires.reads in
    let at = runs_at was.activity was.node j was.ended (free_in was.ledger) c.requires.runs c.requires.reads in
    let fair = due_now j c.args.driven c.args.seen (suc was.ended) v m (free_in was.ledger) at c.requires.reads.free_is
    (λ p f. (c.in-Ok.ensures.judged p f).0) in
    let due = verdict_orderly (part k (suc was.ended)) v m
    (reads_running was.activity was.node k was.ended (free_in was.ledger) c.requires.runs one)
    (no_off_put (part k (suc was.ended)) (λ off. c.requires.on
    (off_less j (Bit c.args.driven c.args.seen) (suc was.ended) (λ p. refl) off))) fair.1 in
    let two = reads_here was.node was.node k (entry_of v m) was.ended was.activity (free_in was.ledger)
    (free_in c.accept.new.ledger) (verdict_stays v m) (verdict_no_stop v m) c.requires.runs (λ r. r)
    (λ p f. (c.in-Ok.ensures.judged p f).1) due one in
    let o1 = c.in_ok-enter_bit-in-Ok.ensures.others in let o2 = c.in_ok-enter-in-Ok.ensures.others in
    reads_by c.enter.new.self was.node (k ++ entry_of v m ∷ []) was.ended was.activity
    (free_in c.accept.new.ledger)
    (ap (λ (s : BusNode). s.node) o2 ∙ ap (λ (s : BusNode). s.node) o1)
    (c.in_ok-enter-in-Ok.ensures.ok.0 ∙ ap (λ (l : List Entry). l ++ c.verdict_entry.result ∷ []) first
    ∙ ap (λ x. k ++ x ∷ []) c.verdict_entry.ensures)
    (ap (λ (s : BusNode). s.ended) o2 ∙ ap (λ (s : BusNode). s.ended) o1)
    (ap (λ (s : BusNode). s.activity) o2 ∙ ap (λ (s : BusNode). s.activity) o1)
    (ap (λ (s : BusNode). free_in s.ledger) o2 ∙ ap (λ (s : BusNode). free_in s.ledger) o1) two

pub returns-in_ok-enter-in-Ok-clause-moves : goal.returns-in_ok-enter-in-Ok-clause-moves
returns-in_ok-enter-in-Ok-clause-moves g c =
    let was = c.args.self.now in let j = was.journal.entries in let b =
    Bit c.args.driven c.args.seen in let k = j ++ b ∷ [] in
    let v = c.in-Ok.verdict in let m = c.args.message in
    let first = c.in_ok-enter_bit-in-Ok.ensures.ok.0 in let own = c.requires.bus_node.own in
    let O : ℕ → Type 0 = λ a. OthersStand g.E.BusEnd.stands a c.args.end.now c.accept.new.end in
    let P : ℕ → Type 0 = λ a. Carries g.E.BusEnd.stands a c.args.end.now c.accept.new.end
    (λ l. with_entry l (entry_of v m)) in
    let at = runs_at was.activity was.node j was.ended (free_in was.ledger) c.requires.runs c.requires.reads in
    let then = place_same j b (suc was.ended) (λ p. refl) at in
    let one = moves_quiet g.E.BusEnd.stands c.args.end.now j b (suc was.ended)
    (stands_at j b (suc was.ended) (λ p. refl) at) (λ l. refl) in
    let two = moves_push g.E.BusEnd.stands c.args.end.now c.accept.new.end k (entry_of v m) (suc was.ended)
    (stands_at k (entry_of v m) (suc was.ended) (stays_of (entry_of v m) (verdict_stays v m)) then)
    (subst O own c.accept.ensures.others) (subst P own c.in-Ok.ensures.puts) in
    let whole : c.enter.new.self.journal.entries ≡ k ++ entry_of v m ∷ [] = c.in_ok-enter-in-Ok.ensures.ok.0
    ∙ ap (λ (l : List Entry). l ++ c.verdict_entry.result ∷ []) first
    ∙ ap (λ x. k ++ x ∷ []) c.verdict_entry.ensures in
    rw whole (moves_trans g.E.BusEnd.stands c.args.end.now c.args.end.now c.accept.new.end j k (k ++ entry_of v m ∷ [])
    (suc was.ended) one two)

pub returns-in_err-enter_bit-in-Ok-clause-broken : goal.returns-in_err-enter_bit-in-Ok-clause-broken
returns-in_err-enter_bit-in-Ok-clause-broken g c =
    let E = g.E.BusEnd in let was = c.args.self.now in let j = was.journal.entries in let new = c.enter_bit.new.self in
    let x = c.args.driven in let seen = c.args.seen in let v = c.in-Ok.verdict in let m = c.args.message in
    let room = was.journal.room in let a = suc was.ended in
    let at = runs_at was.activity was.node j was.ended (free_in was.ledger) c.requires.runs c.requires.reads in
    let due = due_now j x seen a v m (free_in was.ledger) at c.requires.reads.free_is
    (λ p f. (c.in-Ok.ensures.judged p f).0) in
    let f = c.in_err-enter_bit-in-Ok.field-0.0 in let full = c.in_err-enter_bit-in-Ok.ensures.full in
    let is : c.from_residual.result ≡ Err f = search rules in
    let Q : _ → Type 0 = λ y. BreaksBy (IsJudgedShort room j x seen a m new.journal.entries) E
    c.args.end.now was new y in
    let node = ap (λ (l : LinkId). l.node) c.in-Ok.ensures.id in
    err_is Q c.from_residual.result f is (subst Q (sym (full.is ∙ ap (λ k. JournalFull k) node))
    (refl, bit_unjudged room j new.journal.entries x seen a v m full.same full.full due))

pub returns-in_err-enter-in-Ok-clause-broken : goal.returns-in_err-enter-in-Ok-clause-broken
returns-in_err-enter-in-Ok-clause-broken g c =
    let E = g.E.BusEnd in let was = c.args.self.now in let j = was.journal.entries in let new =
    c.enter.new.self in
    let x = c.args.driven in let seen = c.args.seen in let v = c.in-Ok.verdict in let m = c.args.message in
    let room = was.journal.room in let a = suc was.ended in
    let at = runs_at was.activity was.node j was.ended (free_in was.ledger) c.requires.runs c.requires.reads in
    let due = due_now j x seen a v m (free_in was.ledger) at c.requires.reads.free_is
    (λ p f. (c.in-Ok.ensures.judged p f).0) in
    let f = c.in_err-enter-in-Ok.field-0.0 in let full = c.in_err-enter-in-Ok.ensures.full in
    let mid = c.enter_bit.new.self in let first = c.in_ok-enter_bit-in-Ok.ensures in
    let is : c.from_residual-in_err-enter-in-Ok.result ≡ Err f = search rules in
    let Q : _ → Type 0 = λ y. BreaksBy (IsJudgedShort room j x seen a m new.journal.entries) E
    c.args.end.now was new y in
    let R : Room → Type 0 = λ n. IsFullFor n mid.journal.entries (entry_of v m) in
    let S : List Entry → Type 0 = λ l. IsFullFor room l (entry_of v m) in
    let D : Entry → Type 0 = λ e. IsFullFor mid.journal.room mid.journal.entries e in
    let node : (link_of mid.ledger).node ≡ (link_of was.ledger).node
    = ap (λ (s : BusNode). (link_of s.ledger).node) first.others ∙ ap (λ (l : LinkId). l.node) c.in-Ok.ensures.id in
    err_is Q c.from_residual-in_err-enter-in-Ok.result f is
    (subst Q (sym (full.is ∙ ap (λ k. JournalFull k) node)) (
      refl,
      verdict_unjudged room j new.journal.entries x seen a v m (full.same ∙ first.ok.0)
          (subst S first.ok.0 (subst R first.room (subst D c.verdict_entry.ensures full.full))) due,
    ))

pub returns-in-Err-clause-broken : goal.returns-in-Err-clause-broken
returns-in-Err-clause-broken g c =
    let E = g.E.BusEnd in let was = c.args.self.now in let j = was.journal.entries in
    let lawful = c.requires.lawful in let C : List Entry → Type 0 = λ l. IsCut (record_of l) lawful.found in (
      c.number.ensures ∙ ap (λ (l : LinkId). l.node) c.accept.ensures.id,
      gave_back E was c.args.end.now c.requires.bus_node c.requires.runs c.requires.reads c.in-Err.ensures.back false
          lawful.found (subst C (sym (append-nil j)) lawful.cut) (lawful.verdicts lawful.found lawful.cut)
          c.requires.on,
    )
