-- A port is told one turn of a bit.
use Rattle.std.proofs.Common.{◌≡◌, not, Bool, List, sym, ap, ◌∙◌, subst}
use Rattle.std.specs.Prelude.{◌&&◌}
use Rattle.can_levels.specs.declared.level.Level.{Level}
use Rattle.can_node_rules.specs.Context.{ContextValue, is_held}
use Rattle.can_node_rules.proofs.OneCut.SameCuts.{same_now, same_phase}
use Rattle.sja_journal.specs.declared.entry.Entry.{Entry}
use Rattle.sja_journal.specs.BitEntries.{HasBit}
use Rattle.sja_journal.specs.Records.{record_of}
use Rattle.sja_regs.specs.declared.bus_turn.BusTurn.{BusTurn}
use Rattle.sja_bus_rules.specs.Telling.{IsTurn, Says, is_overrun}
use Rattle.sja_replay.proofs.Once.Bits.{events_once}
use Rattle.sja_laws.proofs.Listed.BitEntries.{tells_turn}

pub turn_once : (changed : Bool) (opened k l : List Entry) (driven seen : Level) (b : HasBit opened driven seen k)
    (c : HasBit opened driven seen l) (t u : BusTurn) → k ≡ l → b.verdict ≡ c.verdict →
    IsTurn changed opened driven seen k b t → IsTurn changed opened driven seen l c u → t ≡ u
turn_once changed opened k l driven seen b c t u same verdict x y =
    let events = events_once opened driven seen t.events u.events (tells_turn changed opened k driven seen b t x)
    (tells_turn changed opened l driven seen c u y) in
    let P : List Entry → Type 0 = λ e. Says e t in
    let s : Says l t = subst P same x.says in
    let now = same_now (record_of l) s.found y.says.found s.cut y.says.cut in
    let phase = same_phase (record_of l) s.found y.says.found s.cut y.says.cut in
    let was = same_now (record_of opened) x.found y.found x.cut y.cut in
    let activation = s.activation ∙ sym y.says.activation in
    let txerr = s.txerr ∙ ap (λ (o : ContextValue). o.tec) now ∙ sym y.says.txerr in
    let rxerr = s.rxerr ∙ ap (λ (o : ContextValue). o.rec) now ∙ sym y.says.rxerr in
    let off = s.off ∙ ap (λ (o : ContextValue). o.off) now ∙ sym y.says.off in
    let phases = s.phase ∙ phase ∙ sym y.says.phase in
    let aborted = x.aborted ∙ ap (λ (o : ContextValue). changed && not (is_held o.held)) was ∙ sym y.aborted in
    let overrun = x.overrun ∙ ap is_overrun verdict ∙ sym y.overrun in
    λ i. record {
      activation = activation i;
      events = events i;
      txerr = txerr i;
      rxerr = rxerr i;
      off = off i;
      phase = phases i;
      aborted = aborted i;
      overrun = overrun i;
    }

-- the same of two bits that are one
pub turns : (changed again : Bool) (opened begun k l : List Entry) (driven out seen other : Level)
    (b : HasBit opened driven seen k) (c : HasBit begun out other l) (t u : BusTurn) → changed ≡ again →
    opened ≡ begun → driven ≡ out → seen ≡ other → k ≡ l → b.verdict ≡ c.verdict →
    IsTurn changed opened driven seen k b t → IsTurn again begun out other l c u → t ≡ u
turns changed again opened begun k l driven out seen other b c t u same front drove saw whole verdict x y =
    let A : Bool → List Entry → Level → Level → Type 0 =
    λ a o d s. (e : HasBit o d s l) → b.verdict ≡ e.verdict → IsTurn a o d s l e u → t ≡ u in
    let first : A changed opened driven seen =
    λ e v z. turn_once changed opened k l driven seen b e t u whole v x z in
    let second : A again opened driven seen = subst (λ a. A a opened driven seen) same first in
    let third : A again begun driven seen = subst (λ o. A again o driven seen) front second in
    let fourth : A again begun out seen = subst (λ d. A again begun d seen) drove third in
    let last : A again begun out other = subst (λ s. A again begun out s) saw fourth in
    last c verdict y
