-- Of two sessions that watch lines from one on, each ran as many bits as the other, and the same line rose.
use Rattle.std.proofs.Common.{◌≡◌, ◌<◌, ◌≤◌, ℕ, Bool, false, Option, Some, None, List, length, refl, sym, ap}
use Rattle.std.proofs.Common.{◌∙◌, subst, arith, inl, inr}
use Rattle.std.specs.Prelude.{◌⊎◌, ◌&&◌, slice_index_or}
use Rattle.std.proofs.lemmas.Bool.{cases_eq, cases_lt, false≢true}
use Rattle.sja_bus_rules.specs.Buses.{BusValue}
use Rattle.sja_bus_rules.specs.Wire.{journal_at}
use Rattle.sja_regs.specs.InterruptLine.{is_line_active}
use Rattle.sja_regs.specs.Registers.{at_power_on}
use Rattle.sja_driver.specs.StepRuns.{StepRun, step_runs_at, acts_in}
use Rattle.sja_driver.specs.TypedActs.{TypedAct, is_active}
use Rattle.sja_promises.specs.Registering.{seen_now}
use Rattle.sja_serial.specs.Bits.{TakesBit, TakesBits}
use Rattle.sja_serial.specs.Bits.TakesBits.{no_bit, one_more}
use Rattle.sja_serial.specs.Serial.{Setup, SerialValue, all_acts}
use Rattle.sja_serial.proofs.AllNodes.Several.{setup_is}
use Rattle.sja_session.specs.Lines.{IsStill, line_at}
use Rattle.sja_session.specs.Running.{RunsBits}
use Rattle.sja_session.specs.Sessions.{SessionValue, setup_by, setup_for}
use Rattle.sja_session.specs.Watching.{NoneRose, RoseLast, Watches, rise, rises}
use Rattle.sja_session.specs.Watching.NoneRose.{bit, none}
use Rattle.sja_session.proofs.WatchedBits.QuietBits.{quiet_bits}
use Rattle.sja_laws.proofs.AllNodes.OneRun.{AreAlike, alike_after}

-- ---- one bit

none_taken : (setup : Setup) (acts : List (List TypedAct)) (Before : SerialValue → Type 0) (r n : SerialValue) (k : ℕ) →
    TakesBits setup acts Before r k n → k ≡ 0 → n ≡ r
none_taken setup acts Before r n k (no_bit _) zero = refl
none_taken setup acts Before r n k (one_more _ mid _ m bits holds last) zero = absurd (omega (arith, zero))

one_taken : (setup : Setup) (acts : List (List TypedAct)) (Before : SerialValue → Type 0) (r n : SerialValue) (k : ℕ) →
    TakesBits setup acts Before r k n → k ≡ 1 → TakesBit setup acts r n
one_taken setup acts Before r n k (no_bit _) one = absurd (omega (arith, one))
one_taken setup acts Before r n k (one_more _ mid _ m bits holds last) one =
    subst (λ (x : SerialValue). TakesBit setup acts x n)
    (none_taken setup acts Before r mid m bits (omega (arith, one))) last

-- ---- sessions that are alike

-- two sessions are made for the same runs, and theirs are alike
record AreOne (s t : SessionValue) : Type 0 where
  pub alike : AreAlike s.run t.run
  pub setup : setup_by s ≡ setup_by t

module _ (step_runs : List (List StepRun)) where
  taken : {s t : SessionValue} → RunsBits s t 1 1 step_runs →
      TakesBit (setup_by s) (all_acts step_runs) s.run t.run
  taken {s} {t} h = one_taken (setup_by s) (all_acts step_runs) (λ r. Unit {0}) s.run t.run 1 h.bits refl

  one_bit : {s t a b : SessionValue} → AreOne s t → RunsBits s a 1 1 step_runs → RunsBits t b 1 1 step_runs → AreOne a b
  one_bit {s} {t} {a} {b} one h g =
      let too = subst (λ (x : Setup). TakesBit x (all_acts step_runs) t.run b.run) (sym one.setup) (taken g) in
      let first : setup_by a ≡ setup_by s = setup_is h.at.stands.stands ∙ sym (setup_is (taken h).stands) in
      let second : setup_by b ≡ setup_by t = setup_is g.at.stands.stands ∙ sym (setup_is (taken g).stands) in record {
        alike = alike_after one.alike (taken h) too;
        setup = first ∙ one.setup ∙ sym second;
      }

  one_look : {s t a b : SessionValue} → AreOne s t → IsStill s a step_runs → IsStill t b step_runs → AreOne a b
  one_look {s} {t} {a} {b} one h g =
      let first : setup_by a ≡ setup_by s = λ i. setup_for (h.wrote i) (h.room i).steps in
      let second : setup_by b ≡ setup_by t = λ i. setup_for (g.wrote i) (g.room i).steps in record {
        alike = record {
          journals = ap (λ (x : BusValue). x.journals) h.bus ∙ one.alike.journals
              ∙ sym (ap (λ (x : BusValue). x.journals) g.bus);
          ports = h.ports ∙ one.alike.ports ∙ sym g.ports;
          bits = h.bits ∙ one.alike.bits ∙ sym g.bits;
        };
        setup = first ∙ one.setup ∙ sym second;
      }

  line_once : {s t : SessionValue} (k : ℕ) → AreOne s t → line_at s step_runs k ≡ line_at t step_runs k
  line_once k one =
      let acts = acts_in (step_runs_at step_runs k) in
      λ i. is_line_active (slice_index_or (one.alike.ports i) k (at_power_on 1))
      (seen_now (is_active acts) (journal_at (one.alike.journals i) k) acts)

  module _ (watched : List Bool) (nodes : ℕ) where
    rises_once : {s t a b : SessionValue} (k : ℕ) → AreOne s t → AreOne a b →
        rises watched s a step_runs k ≡ rises watched t b step_runs k
    rises_once k before after =
        λ i. slice_index_or watched k false && rise (line_once k before i) (line_once k after i)

    ends_once : {a b c d : SessionValue} (n m : ℕ) → n ≡ m → AreOne a c → NoneRose watched nodes step_runs a b n →
        NoneRose watched nodes step_runs c d m → AreOne b d
    ends_once _ _ same one (none x) (none y) = one_look one x y
    ends_once _ _ same one (none x) (bit q r f s) = absurd (omega (arith, same))
    ends_once _ _ same one (bit q r f s) (none y) = absurd (omega (arith, same))
    ends_once _ _ same one (bit {n = n} q r f s) (bit {n = m} p o g t) =
        one_look (one_bit (ends_once n m (omega (arith, same)) one q p) r o) s t

    -- after so many bits in which no line rose there was one more, in which none rose
    record IsPast (a : SessionValue) (n : ℕ) : Type 0 where
      pub before : SessionValue
      pub after : SessionValue
      pub front : NoneRose watched nodes step_runs a before n
      pub bit : RunsBits before after 1 1 step_runs
      pub flat : (k : ℕ) → k < nodes → rises watched before after step_runs k ≡ false

    past : {a d : SessionValue} (n m : ℕ) → n < m → NoneRose watched nodes step_runs a d m → IsPast a n
    past n _ less (none x) = absurd (omega (arith, less))
    past {a} n _ less (bit {before = before} {after = after} {n = m} q r f s) = elim (cases_eq n m) [
      | inl same ↦ record {
        before = before;
        after = after;
        front = subst (λ (k : ℕ). NoneRose watched nodes step_runs a before k) (sym same) q;
        bit = r;
        flat = f;
      }
      | inr other ↦ past n m (omega (arith, less, other)) q
    ]

    -- more bits were run than so many
    record IsBeyond (a : SessionValue) (n : ℕ) : Type 0 where
      pub before : SessionValue
      pub after : SessionValue
      pub front : NoneRose watched nodes step_runs a before n
      pub bit : RunsBits before after 1 1 step_runs

    -- so it didn't end after those
    not_over : {a b : SessionValue} (n count : ℕ) → NoneRose watched nodes step_runs a b n → IsBeyond a n → n < count →
        (n ≡ count) ⊎ (a.plan.bits ≤ b.run.bits) → ⊥
    not_over n count q h less (inl all) = omega (arith, all, less)
    not_over {a} {b} n count q h less (inr spent) =
        let one = ends_once n n refl (record {
          alike = record { journals = refl; ports = refl; bits = refl };
          setup = refl;
        }) q h.front in
        let same = one.alike.bits in let plan = quiet_bits h.front in
        let t = taken h.bit in let more = t.bits in let all = t.stands.all_bits in let run = t.stands.bits in
        omega (arith, spent, same, plan, more, all, run)

-- ---- watching

self : (s : SessionValue) → AreOne s s
self s = record { alike = record { journals = refl; ports = refl; bits = refl }; setup = refl }

module _ (was now other : SessionValue) (watched : List Bool) (step_runs : List (List StepRun)) where
  abbrev nodes : ℕ
  nodes = length was.plan.nodes

  -- where a line rose in the last of so many bits, it rose in no other run of more
  rose_past : (n m k : ℕ) → RoseLast was now n watched k step_runs →
      NoneRose watched nodes step_runs was other m → n ≤ m → ⊥
  rose_past n m k h q few =
      let many = h.many in let x = past step_runs watched nodes h.others m (omega (arith, few, many)) q in
      let before = ends_once step_runs watched nodes h.others h.others refl (self was) h.earlier x.front in
      let after = one_bit step_runs before h.bit x.bit in
      false≢true (sym (x.flat k h.there) ∙ sym (rises_once step_runs watched nodes k before after) ∙ h.rose)

  -- where none rose in so many bits, and they ended, no other run had more
  none_past : (n m count : ℕ) → NoneRose watched nodes step_runs was now n →
      (n ≡ count) ⊎ (was.plan.bits ≤ now.run.bits) → NoneRose watched nodes step_runs was other m → m ≤ count → n < m →
      ⊥
  none_past n m count q ended g most less =
      let x = past step_runs watched nodes n m less g in
      not_over step_runs watched nodes n count q
      (record { before = x.before; after = x.after; front = x.front; bit = x.bit }) (omega (arith, most, less)) ended

  none_then_rose : (n m k count : ℕ) → NoneRose watched nodes step_runs was now n →
      (n ≡ count) ⊎ (was.plan.bits ≤ now.run.bits) → RoseLast was other m watched k step_runs → m ≤ count → n < m → ⊥
  none_then_rose n m k count q ended g most less =
      let many = g.many in
      not_over step_runs watched nodes n count q (elim (cases_eq n g.others) [
        | inl same ↦ record {
          before = g.before;
          after = g.after;
          front = subst (λ (i : ℕ). NoneRose watched nodes step_runs was g.before i) (sym same) g.earlier;
          bit = g.bit;
        }
        | inr more ↦
            let x = past step_runs watched nodes n g.others (omega (arith, less, many, more)) g.earlier in
            record { before = x.before; after = x.after; front = x.front; bit = x.bit }
      ]) (omega (arith, most, less)) ended

  -- of two in which a line rose in the last of as many bits it isn't that of an earlier node in one of them
  not_earlier : (n m a b : ℕ) → RoseLast was now n watched a step_runs → RoseLast was other m watched b step_runs →
      n ≡ m → a < b → ⊥
  not_earlier n m a b h g same less =
      let x = h.many in let y = g.many in
      let before = ends_once step_runs watched nodes h.others g.others (omega (arith, same, x, y)) (self was) h.earlier
      g.earlier in
      let after = one_bit step_runs before h.bit g.bit in
      false≢true (sym (g.first a less) ∙ sym (rises_once step_runs watched nodes a before after) ∙ h.rose)

pub watched_once : (was now other : SessionValue) (count : ℕ) (watched : List Bool) (n m : ℕ) (rose too : Option ℕ)
    (step_runs : List (List StepRun)) → Watches was now count watched n rose step_runs →
    Watches was other count watched m too step_runs → (n ≡ m) × (rose ≡ too)
watched_once was now other count watched n m None None step_runs h g = elim (cases_lt n m) [
  | inl less ↦ absurd (none_past was now other watched step_runs n m count h.0 h.2 g.0 g.1 less)
  | inr far ↦ elim (cases_lt m n) [
    | inl less ↦ absurd (none_past was other now watched step_runs m n count g.0 g.2 h.0 h.1 less)
    | inr near ↦ (omega (arith, far, near), refl)
  ]
]
watched_once was now other count watched n m (Some a) None step_runs h g = elim (cases_lt m n) [
  | inl less ↦ absurd (none_then_rose was other now watched step_runs m n a count g.0 g.2 h.0 h.1 less)
  | inr far ↦ absurd (rose_past was now other watched step_runs n m a h.0 g.0 far)
]
watched_once was now other count watched n m None (Some b) step_runs h g = elim (cases_lt n m) [
  | inl less ↦ absurd (none_then_rose was now other watched step_runs n m b count h.0 h.2 g.0 g.1 less)
  | inr far ↦ absurd (rose_past was other now watched step_runs m n b g.0 h.0 far)
]
watched_once was now other count watched n m (Some a) (Some b) step_runs h g = elim (cases_lt n m) [
  | inl less ↦ let y = g.0.many in
      absurd (rose_past was now _ watched step_runs n g.0.others a h.0 g.0.earlier (omega (arith, less, y)))
  | inr far ↦ elim (cases_lt m n) [
    | inl less ↦ let x = h.0.many in
        absurd (rose_past was other _ watched step_runs m h.0.others b g.0 h.0.earlier (omega (arith, less, x)))
    | inr near ↦
        let same : n ≡ m = omega (arith, far, near) in (
          same,
          elim (cases_lt a b) [
            | inl less ↦ absurd (not_earlier was now other watched step_runs n m a b h.0 g.0 same less)
            | inr high ↦ elim (cases_lt b a) [
              | inl less ↦ absurd (not_earlier was other now watched step_runs m n b a g.0 h.0 (sym same) less)
              | inr low ↦ let one : a ≡ b = omega (arith, high, low) in ap (λ (k : ℕ). Some k) one
            ]
          ],
        )
  ]
]
