use Rattle.std.proofs.Common.{◌≡◌, ℕ, suc, Bool, List, ◌+◌, [], ◌∷◌, ◌++◌, length, arith, rules, refl, sym, ap, subst}
use Rattle.std.proofs.lemmas.List.{length-append}
use Rattle.can_levels.specs.declared.level.Level.{Level}
use Rattle.sja_journal.specs.declared.entry.Entry.{Entry}
use Rattle.sja_journal.specs.declared.entry.Entry.TheVariants.{Bit}
use Rattle.sja_journal.specs.Verdicts.{entry_of}
use Rattle.sja_bus.specs.Inside.BusNodes.{IsJudged}
use Rattle.sja_link.specs.BusLedgers.{free_in}
use Rattle.sja_bus.specs.declared.activity.Activity.{Activity}
use Rattle.sja_bus.specs.declared.activity.Activity.TheVariants.{Running}
use Rattle.sja_bus.specs.declared.bus_node.BusNode.{BusNode}
use Rattle.sja_bus.specs.Inside.Following.{Reads, open_in}
use Rattle.can_node.specs.declared.node.Node.{Node}
use Rattle.can_node.specs.Stands.{InReset, Samples}
use Rattle.sja_bus.proofs.Links.BusNodeParts.{reads_by, follows_by}
use Rattle.sja_bus.proofs.AllNodes.NodeBit.{received_quiet, received_judged, has_alone, has_judged}
use Rattle.sja_bus.proofs.Journal.Parted.{stands_at}
use Rattle.sja_bus.proofs.Journal.Reading.{reads_quiet, reads_swap, runs_at}
use Rattle.sja_link.proofs.Growing.Moving.{moves_quiet}
use Rattle.std.specs.Prelude.{Err}
use Rattle.sja_bus.specs.Inside.BusNodeBits.{BreaksInBit}
use Rattle.sja_bus.specs.Inside.Taking.{IsJudgedShort}
use Rattle.sja_bus.proofs.ItemsTaken.Breaking.{breaks_whole}
use Rattle.sja_bus.proofs.WholeBus.Lawfuls.{lawful_of}
use Rattle.sja_bus.proofs.ItemsTaken.OutOfRoom.{bit_short, judged_short}
use Rattle.lemmas.proofs.Results.{err_is}
use Rattle.sja_bus.proofs.bus_node.BusNode.sample_and_judge.Goals as goal

pub returns-in_ok-enter_bit-in-None-clause-mid : goal.returns-in_ok-enter_bit-in-None-clause-mid
returns-in_ok-enter_bit-in-None-clause-mid g c =
    let was = c.args.self.now in let j = was.journal.entries in let x = c.args.self.now.drives in
    let seen = c.args.seen in
    let new = c.sample_fully_with-events.new.self in
    let P : Activity → Type 0 = λ a. Reads was.node j was.ended a (free_in was.ledger) in
    let Q : Activity → Type 0 = λ a. Reads new (j ++ Bit x seen ∷ []) was.ended a (free_in was.ledger) in
    let reads = subst P c.requires.runs.1 c.requires.at.ready.sound.reads in
    let at = runs_at (Running c.requires.runs.0) was.node j was.ended (free_in was.ledger) refl reads in
    let o = c.enter_bit.ensures.others in
    let follows = received_quiet was.node new j x seen c.sample_fully_with-events.result c.requires.runs.0
    (suc was.ended) c.requires.at.ready.drives c.sample_fully_with-events.ensures.samples at reads.active.1
    (c.in-None.ensures c.requires.runs.0 c.requires.runs.1) c.requires.at.ready.sound.follows in
    let swapped = reads_quiet new new j (Bit x seen) was.ended (Running c.requires.runs.0) (free_in was.ledger)
    (λ p. refl, refl, refl, refl) (λ r. r) (reads_swap was.node new j was.ended c.requires.runs.0
    (free_in was.ledger) reads) in
    record {
      follows = follows_by c.enter_bit.new.self new (j ++ Bit x seen ∷ []) c.sample_fully_with-events.result.went_off
          (ap (λ (s : BusNode). s.node) o) c.in_ok-enter_bit-in-None.ensures.ok.0 follows;
      reads = reads_by c.enter_bit.new.self new (j ++ Bit x seen ∷ []) was.ended was.activity (free_in was.ledger)
          (ap (λ (s : BusNode). s.node) o) c.in_ok-enter_bit-in-None.ensures.ok.0
          (ap (λ (s : BusNode). s.ended) o) (ap (λ (s : BusNode). s.activity) o)
          (ap (λ (s : BusNode). free_in s.ledger) o)
          (subst Q (sym c.requires.runs.1) swapped);
    }

pub returns-in_ok-enter_bit-in-None-clause-samples : goal.returns-in_ok-enter_bit-in-None-clause-samples
returns-in_ok-enter_bit-in-None-clause-samples g c =
    let was = c.args.self.now in
    let P : Node → Type 0 = λ n. Samples was.node n c.args.seen c.sample_fully_with-events.result in
    subst P (sym (ap (λ (s : BusNode). s.node) c.enter_bit.ensures.others)) c.sample_fully_with-events.ensures.samples

pub returns-in_ok-enter_bit-in-None-clause-off : goal.returns-in_ok-enter_bit-in-None-clause-off
returns-in_ok-enter_bit-in-None-clause-off g c = λ went.
    let P : Node → Type 0 = λ n. InReset n in
    subst P (sym (ap (λ (s : BusNode). s.node) c.enter_bit.ensures.others))
    (c.sample_fully_with-events.ensures.off (search rules))

pub returns-in_ok-enter_bit-in-None-clause-moves : goal.returns-in_ok-enter_bit-in-None-clause-moves
returns-in_ok-enter_bit-in-None-clause-moves g c =
    let was = c.args.self.now in let j = was.journal.entries in let b = Bit c.args.self.now.drives c.args.seen in
    let at = runs_at was.activity was.node j was.ended (free_in was.ledger) (ap open_in c.requires.runs.1)
    c.requires.at.ready.sound.reads in
    rw c.in_ok-enter_bit-in-None.ensures.ok.0 (moves_quiet g.E.BusEnd.stands c.args.end.now j b (suc was.ended)
    (stands_at j b (suc was.ended) (λ p. refl) at) (λ l. refl))

pub returns-in_ok-enter_bit-in-None-clause-verdict : goal.returns-in_ok-enter_bit-in-None-clause-verdict
returns-in_ok-enter_bit-in-None-clause-verdict g c = has_alone c.args.self.now.journal.entries
    c.enter_bit.new.self.journal.entries c.args.self.now.drives c.args.seen _ refl
    c.in_ok-enter_bit-in-None.ensures.ok.0

pub returns-in_ok-overrun-in-Some-clause-mid : goal.returns-in_ok-overrun-in-Some-clause-mid
returns-in_ok-overrun-in-Some-clause-mid g c =
    let was = c.args.self.now in let j = was.journal.entries in let x = c.args.self.now.drives in
    let seen = c.args.seen in
    let new = c.sample_fully_with-events.new.self in
    let P : Activity → Type 0 = λ a. Reads was.node j was.ended a (free_in was.ledger) in
    let reads = subst P c.requires.runs.1 c.requires.at.ready.sound.reads in
    let at = runs_at (Running c.requires.runs.0) was.node j was.ended (free_in was.ledger) refl reads in
    let events = c.sample_fully_with-events.result in
    let follows = received_judged was.node new j c.judge.new.self.journal.entries x seen events c.requires.runs.0
    (suc was.ended) c.in-Some.message c.in_ok-overrun-in-Some.overrun c.requires.at.ready.drives
    c.sample_fully_with-events.ensures.samples at reads.active.1
    (c.in-Some.ensures c.requires.runs.0 c.requires.runs.1) c.in_ok-overrun-in-Some.ensures.judged
    c.requires.at.ready.sound.follows in
    record {
      follows = follows_by c.judge.new.self new c.judge.new.self.journal.entries events.went_off
          c.judge.ensures.kept.0 refl follows;
      reads = c.in_ok-overrun-in-Some.ensures.reads;
    }

pub returns-in_ok-overrun-in-Some-clause-samples : goal.returns-in_ok-overrun-in-Some-clause-samples
returns-in_ok-overrun-in-Some-clause-samples g c =
    let was = c.args.self.now in
    let P : Node → Type 0 = λ n. Samples was.node n c.args.seen c.sample_fully_with-events.result in
    subst P (sym c.judge.ensures.kept.0) c.sample_fully_with-events.ensures.samples

pub returns-in_ok-overrun-in-Some-clause-off : goal.returns-in_ok-overrun-in-Some-clause-off
returns-in_ok-overrun-in-Some-clause-off g c = λ went.
    let P : Node → Type 0 = λ n. InReset n in
    subst P (sym c.judge.ensures.kept.0) (c.sample_fully_with-events.ensures.off (search rules))

-- a bit and its verdict are two entries
judged_length : {j k : List Entry} {driven seen : Level} {a : ℕ} {m : List ℕ} {overrun : Bool} →
    IsJudged j driven seen a m overrun k → length k ≡ length j + 2
judged_length {j} {k} {driven} {seen} {a} {m} {overrun} h =
    let whole = ap (λ (l : List Entry). length l) h.whole in let bit = length-append j (Bit driven seen ∷ []) in
    let both = length-append (j ++ Bit driven seen ∷ []) (entry_of h.verdict m ∷ []) in omega (arith, whole, bit, both)

-- `two` proves nothing here: by it a wrong body is refused with values
pub returns-in_ok-overrun-in-Some-clause-verdict : goal.returns-in_ok-overrun-in-Some-clause-verdict
returns-in_ok-overrun-in-Some-clause-verdict g c =
    let grown = judged_length c.in_ok-overrun-in-Some.ensures.judged in
    let was = c.args.self.now.journal.entries in
    let two : length c.judge.new.self.journal.entries ≡ length was + 2 = omega (arith, grown) in
    has_judged c.args.self.now.journal.entries c.judge.new.self.journal.entries c.args.self.now.drives c.args.seen
    (suc c.args.self.now.ended) c.in-Some.message c.requires.runs.0 _
    (c.in-Some.ensures c.requires.runs.0 c.requires.runs.1) c.in_ok-overrun-in-Some.ensures.judged

pub returns-in_err-enter_bit-in-None-clause-broken : goal.returns-in_err-enter_bit-in-None-clause-broken
returns-in_err-enter_bit-in-None-clause-broken g c =
    let E = g.E.BusEnd in let was = c.args.self.now in let j = was.journal.entries in let seen = c.args.seen in
    let new = c.sample_fully_with-events.new.self in let events = c.sample_fully_with-events.result in
    let filter = c.requires.runs.0 in let ready = c.requires.at.ready in
    let P : Activity → Type 0 = λ a. Reads was.node j was.ended a (free_in was.ledger) in
    let reads = subst P c.requires.runs.1 ready.sound.reads in
    let at = runs_at (Running filter) was.node j was.ended (free_in was.ledger) refl reads in
    let follows = received_quiet was.node new j was.drives seen events filter (suc was.ended) ready.drives
    c.sample_fully_with-events.ensures.samples at reads.active.1
    (c.in-None.ensures filter c.requires.runs.1) ready.sound.follows in
    let f = c.in_err-enter_bit-in-None.field-0.0 in let full = c.in_err-enter_bit-in-None.ensures.full in
    let is : c.from_residual.result ≡ Err f = search rules in
    let Q : _ → Type 0 = λ x. BreaksInBit E was c.enter_bit.new.self c.args.end.now x in
    err_is Q c.from_residual.result f is
    (subst Q (sym full.is) (
      refl,
      bit_short new was.journal.room j c.enter_bit.new.self.journal.entries was.drives seen
          events.went_off full.same full.full follows,
    ))

pub returns-in_err-overrun-in-Some-clause-broken : goal.returns-in_err-overrun-in-Some-clause-broken
returns-in_err-overrun-in-Some-clause-broken g c =
    let E = g.E.BusEnd in let was = c.args.self.now in let j = was.journal.entries in let seen = c.args.seen in
    let new = c.sample_fully_with-events.new.self in let events = c.sample_fully_with-events.result in
    let filter = c.requires.runs.0 in let ready = c.requires.at.ready in let a = suc was.ended in
    let P : Activity → Type 0 = λ a. Reads was.node j was.ended a (free_in was.ledger) in
    let reads = subst P c.requires.runs.1 ready.sound.reads in
    let at = runs_at (Running filter) was.node j was.ended (free_in was.ledger) refl reads in
    let f = c.in_err-overrun-in-Some.field-0.0 in let message = c.in-Some.message in
    let now = c.judge.new.self.journal.entries in
    let is : c.from_residual-in_err-overrun-in-Some.result ≡ Err f = search rules in
    let Q : _ → Type 0 = λ x. BreaksInBit E was c.judge.new.self c.args.end.now x in
    err_is Q c.from_residual-in_err-overrun-in-Some.result f is
    (breaks_whole E c.args.end.now was c.judge.new.self f
    (λ (short : IsJudgedShort was.journal.room j was.drives seen a message now).
    judged_short new was.journal.room j now was.drives seen a message events.went_off short
    (received_judged was.node new j (now ++ short.due ∷ short.later) was.drives seen events filter
    a message short.overrun
    ready.drives c.sample_fully_with-events.ensures.samples at reads.active.1
    (c.in-Some.ensures filter c.requires.runs.1) short.judged ready.sound.follows))
    c.in_err-overrun-in-Some.ensures.broken)

pub judge-requires-clause-lawful : goal.judge-requires-clause-lawful
judge-requires-clause-lawful g c =
    lawful_of c.args.self.now.node c.args.self.now.journal.entries c.requires.at.ready.sound.follows
