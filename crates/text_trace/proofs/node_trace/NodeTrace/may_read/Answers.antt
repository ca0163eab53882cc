use Rattle.std.proofs.Common.{◌≡◌, true, false, Bool, List, refl, sym, ap, ◌∙◌, subst, rules}
use Rattle.can_bits.specs.declared.shift.Shift.{Shift}
use Rattle.can_node_rules.specs.declared.counters.Counters.{Counters}
use Rattle.can_node_rules.specs.Context.{ContextValue}
use Rattle.can_node.specs.Stands.{shown_counters}
use Rattle.can_node.specs.Together.{reading_as}
use Rattle.sja_replay.specs.ReplayProgress.{HasCome}
use Rattle.text_trace.specs.Hands.{counters_of}
use Rattle.text_trace.specs.Telling.{at_hand}
use Rattle.text_trace.proofs.node_trace.NodeTrace.may_read.Goals as goal

pub returns : goal.returns
returns c = λ yes.
    let t = c.args.self.now in
    let under : t.bits.over ≡ false = search rules in
    let reads : c.has_read_as.result ≡ true = search rules in
    let u = c.requires in
    let P : Bool → Type 0 = λ b. HasCome b u.journal u.bits t.bits.replay u.told in
    let at = (subst P under u.come).0.at in
    let shows = at.stands.shows in
    let k = c.counters.ensures _ at.found at.stands in
    let node = t.bits.replay.node in
    let tec = k.0 ∙ sym (ap (λ (x : ContextValue). x.tec) shows) in
    let rec = k.1 ∙ sym (ap (λ (x : ContextValue). x.rec) shows) in
    let off = k.2 ∙ sym (ap (λ (x : ContextValue). x.off) shows) in
    let shown : c.counters.result ≡ shown_counters node = λ i. record { tec = tec i; rec = rec i; off = off i } in
    record {
      receives = c.has_read_as.ensures.receives reads;
      under = under;
      alike = sym (c.counters_of-left.ensures ∙ ap (counters_of t.short) c.bit.ensures) ∙ c.are_same.ensures yes
          ∙ shown;
      steps = refl;
      left = refl;
      bits = ap (λ (s : Shift). record t.bits { replay = record t.bits.replay { node = reading_as node s } })
          (c.has_read_as.ensures.same reads);
    }
