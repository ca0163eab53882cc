-- A strike more, in a bit that hasn't run: what held of the bits that were run holds by the new script too.
use Rattle.std.proofs.Common.{◌≡◌, ◌↔◌, ◌<◌, ◌≤◌, ℕ, List, [], ◌∷◌, ◌++◌, inl, inr, sym, subst, arith}
use Rattle.std.specs.Prelude.{Option, Result, Ok, Err, OnOk, OnErr}
use Rattle.std.proofs.lemmas.List.Elements.{Contains-push_cases, Contains-append_left}
use Rattle.sja_journal.specs.declared.entry.Entry.{Entry}
use Rattle.sja_steps.specs.declared.strike.Strike.{Strike}
use Rattle.sja_steps.specs.Striking.{Hits, Strikes}
use Rattle.sja_journal.specs.declared.bus_fault.BusFault.{BusFault}
use Rattle.sja_bus_rules.specs.Reasons.{room_for}
use Rattle.sja_bus_rules.specs.Wire.{IsWired}
use Rattle.sja_bus.specs.declared.bus_node.BusNode.{BusNode}
use Rattle.sja_bus.specs.Inside.StrikesByBit.{Scripted}
use Rattle.sja_bus.specs.Inside.Refusing.{HaveRoom}
use Rattle.sja_bus.specs.Inside.Rows.{IsBus, journals_of}
use Rattle.sja_bus.specs.Inside.Whole.{IsWhole}

-- a strike hits no bit before its first one
none_before : (s : Strike) (bit node : ℕ) → bit < s.bit → Hits s bit node → ⊥
none_before s bit node before h = let now = h.now in omega (arith, before, now)

-- in the bits before its first one the same are struck without it
pub struck_before : (script : List Strike) (s : Strike) (bit node : ℕ) → bit < s.bit →
    Strikes (script ++ s ∷ []) bit node ↔ Strikes script bit node
struck_before script s bit node before = (
  λ h. elim (Contains-push_cases script s h.strike h.in_script) [
    | inl was ↦ record { strike = h.strike; in_script = was; hits = h.hits }
    | inr last ↦
        let P : Strike → Type 0 = λ x. Hits x bit node in
        absurd (none_before s bit node before (subst P (sym last) h.hits))
  ],
  λ h. record {
    strike = h.strike;
    in_script = Contains-append_left script (s ∷ []) h.strike h.in_script;
    hits = h.hits;
  },
)

-- the journals of the bits that were run are of one wire still
pub wired_before : (script : List Strike) (s : Strike) (run : ℕ) (journals : List (List Entry)) → run ≤ s.bit →
    IsWired script run journals → IsWired (script ++ s ∷ []) run journals
wired_before script s run journals later was = record {
  count = was.count;
  seen = λ i node few near.
      let same = struck_before script s i node (omega (arith, few, later)) in let is = was.seen i node few near in
      record { struck = λ h. is.struck (same.0 h); plain = λ no. is.plain (λ h. no (same.1 h)) };
}

-- and so it is a bus
pub bus_before : (script : List Strike) (s : Strike) (run : ℕ) (bus_nodes : List BusNode) → run ≤ s.bit →
    IsBus script run bus_nodes → IsBus (script ++ s ∷ []) run bus_nodes
bus_before script s run bus_nodes later was = record {
  ready = was.ready;
  calm = was.calm;
  wired = wired_before script s run (journals_of bus_nodes) later was.wired;
}

-- the bus is whole, whether the strike was taken or not
pub whole_after : {A X : Type 0} (struck now : Scripted) (starts : ℕ) (steps : List ℕ) (run left : ℕ)
    (fault : Option BusFault) (bus_nodes : List BusNode) (room : ℕ) (s : Strike) (r : Result A X) → run ≤ s.bit →
    OnOk r (now.script ≡ struck.script ++ s ∷ []) → OnOk r (now.bits ≡ struck.bits) → OnOk r (now.from ≤ run) →
    OnErr r (now ≡ struck) → IsWhole struck starts steps run left fault bus_nodes room →
    IsWhole now starts steps run left fault bus_nodes room
whole_after struck now starts steps run left fault bus_nodes room s (Ok done) later is same on kept was =
    let B : List Strike → Type 0 = λ l. IsBus l run bus_nodes in
    let R : ℕ → Type 0 = λ n. HaveRoom (room_for n steps) bus_nodes in
    let bits = was.bits in let most = was.most in record {
      few = was.few;
      bits = omega (arith, bits, same);
      most = omega (arith, most, same);
      asked = on;
      bus = λ none. subst B (sym is) (bus_before struck.script s run bus_nodes later (was.bus none));
      begun = was.begun;
      logs = was.logs;
      rooms = subst R (sym same) was.rooms;
    }
whole_after struck now starts steps run left fault bus_nodes room s (Err e) later is same on kept was =
    let W : Scripted → Type 0 = λ x. IsWhole x starts steps run left fault bus_nodes room in subst W (sym kept) was
