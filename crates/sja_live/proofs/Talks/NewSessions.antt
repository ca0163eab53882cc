-- A session as it is opened, which wrote nothing.
use Rattle.std.proofs.Common.{◌≡◌, ◌≤◌, ℕ, Bool, true, false, Result, Ok, Err, [], replicate, All, refl}
use Rattle.std.proofs.Common.{sym, subst, arith}
use Rattle.std.specs.Prelude.{◌==◌, ◌&&◌, IfOk, OnOk, if◌then◌else◌}
use Rattle.std.proofs.lemmas.Bool.{ne_eqb}
use Rattle.std.proofs.lemmas.List.Elements.{All-nil, All-replicate}
use Rattle.sja_live.specs.Beginning.{IsNewOf, is_endless}
use Rattle.sja_live.specs.Inside.Standing.{HasBits, IsLive, IsLiveAt}
use Rattle.sja_live.specs.declared.opening.Opening.{Opening}
use Rattle.sja_live.proofs.Spelling.Spelled.{live_by}
use Rattle.sja_plan.specs.Growing.{plan_of}
use Rattle.sja_plan_text.specs.HasTexts.{HasStepText, HasStrikeText}
use Rattle.sja_session.specs.Beginning.{MayBegin, endless_bits, endless_room, fresh_bus, most_room}
use Rattle.sja_session.specs.Sessions.{SessionValue, IsAt, written}
use Rattle.sja_session.specs.declared.session_fault.SessionFault.{SessionFault}
use Rattle.sja_session.specs.declared.session_room.SessionRoom.{SessionRoom}

-- one whose run goes by this version, of so many bits with this room
record IsMade (s : SessionValue) (o : Opening) (version bits : ℕ) (size : SessionRoom) : Type 0 where
  pub at : IsAt s (replicate o.nodes [])
  pub bus : s.run.bus ≡ fresh_bus version bits o.nodes size.steps
  pub wrote : written s ≡ plan_of o.version bits (replicate o.nodes []) [] []
  pub room : s.room ≡ size

made : (s : SessionValue) (o : Opening) (b : Bool) → is_endless o ≡ b →
    IsMade s o (if b then 4 else o.version) (if b then endless_bits else o.bits)
    (if b then endless_room else most_room o.version) → IsNewOf s o
made s o b is m =
    let own = subst (λ (b : Bool). IsMade s o (if b then 4 else o.version) (if b then endless_bits else o.bits)
    (if b then endless_room else most_room o.version)) (sym is) m in
    record { at = own.at; bus = own.bus; wrote = own.wrote; room = own.room }

-- some bits ask for a session with an end, and none in version 3 for one without
not_endless : (o : Opening) → 1 ≤ o.bits → is_endless o ≡ false
not_endless o some = by (o.version == 3) (o.bits == 0) (ne_eqb o.bits 0 (λ none. omega (arith, none, some)))
  where
    by : (a b : Bool) → b ≡ false → (a && b) ≡ false
    by true b none = none
    by false b none = refl

asked : (o : Opening) → o.version ≡ 3 → o.bits ≡ 0 → is_endless o ≡ true
asked o version bits = λ i. (version i == 3) && (bits i == 0)

-- one with an end
pub new_ended : (s : SessionValue) (o : Opening) → is_endless o ≡ false → IsAt s (replicate o.nodes []) →
    s.run.bus ≡ fresh_bus o.version o.bits o.nodes (most_room o.version).steps →
    written s ≡ plan_of o.version o.bits (replicate o.nodes []) [] [] → s.room ≡ most_room o.version → IsNewOf s o
new_ended s o is at bus wrote room =
    made s o false is (record { at = at; bus = bus; wrote = wrote; room = room })

-- and one without
pub new_endless : (s : SessionValue) (o : Opening) → is_endless o ≡ true → o.version ≡ 3 →
    IsAt s (replicate o.nodes []) →
    s.run.bus ≡ fresh_bus 4 endless_bits o.nodes endless_room.steps →
    written s ≡ plan_of 3 endless_bits (replicate o.nodes []) [] [] → s.room ≡ endless_room → IsNewOf s o
new_endless s o is version at bus wrote room = made s o true is (record {
  at = at;
  bus = bus;
  wrote = subst (λ (v : ℕ). written s ≡ plan_of v endless_bits (replicate o.nodes []) [] []) (sym version) wrote;
  room = room;
})

-- as a call answers it
pub ended_answer : (o : Opening) (r : Result SessionValue SessionFault) →
    IfOk r (λ s. IsAt s (replicate o.nodes [])) →
    IfOk r (λ s. s.run.bus ≡ fresh_bus o.version o.bits o.nodes (most_room o.version).steps) →
    IfOk r (λ s. written s ≡ plan_of o.version o.bits (replicate o.nodes []) [] []) →
    IfOk r (λ s. s.room ≡ most_room o.version) → OnOk r (MayBegin o.version o.bits o.nodes) →
    IfOk r (λ s. IsNewOf s o)
ended_answer o (Err fault) at bus wrote room may = tt
ended_answer o (Ok s) at bus wrote room may = new_ended s o (not_endless o may.1.0) at bus wrote room

pub endless_answer : (o : Opening) (r : Result SessionValue SessionFault) → o.version ≡ 3 → o.bits ≡ 0 →
    IfOk r (λ s. IsAt s (replicate o.nodes [])) →
    IfOk r (λ s. s.run.bus ≡ fresh_bus 4 endless_bits o.nodes endless_room.steps) →
    IfOk r (λ s. written s ≡ plan_of 3 endless_bits (replicate o.nodes []) [] []) →
    IfOk r (λ s. s.room ≡ endless_room) → IfOk r (λ s. IsNewOf s o)
endless_answer o (Err fault) version bits at bus wrote room = tt
endless_answer o (Ok s) version bits at bus wrote room =
    new_endless s o (asked o version bits) version at bus wrote room

-- it wrote nothing
pub new_live : (s : SessionValue) (o : Opening) → IsNewOf s o → IsLiveAt s (replicate o.nodes [])
new_live s o new = live_by new.at (λ end. new.wrote) (λ end. record {
  steps = All-replicate (All (HasStepText o.version)) o.nodes [] (All-nil (HasStepText o.version));
  turns = All-nil HasBits;
  strikes = All-nil HasStrikeText;
})

pub begins_live : (s : SessionValue) (o : Opening) → IsNewOf s o → IsLive s
begins_live s o new = (replicate o.nodes [], new_live s o new)
