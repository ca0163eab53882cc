use Rattle.std.proofs.Common.{◌≡◌, ◌++◌, List, ℕ, length, ap, ◌∙◌, arith}
use Rattle.sja_journal.specs.Carried.{overrun_of}
use Rattle.sja_journal.specs.Between.{between_bits}
use Rattle.sja_sweep.specs.Changes.{times_off}
use Rattle.sja_sweep.proofs.TriedRuns.Entries.{overrun_between, off_between}
use Rattle.sja_sweep.proofs.between.between_of.Goals as goal

pub loop-entry-init : goal.loop-entry-init
loop-entry-init c =
    let entries = c.args.journal.now.entries in
    let all : c.into_iter-entry-iterator.result ≡ between_bits c.args.journal.now.entries = cc in
    let off : times_off c.into_iter-entry-iterator.result ≡ times_off c.args.journal.now.entries =
    ap times_off all ∙ off_between entries in
    let same : c.into_iter-entry-iterator.result ≡ c.between_bits-entry-items.result = cc in
    let long : length c.into_iter-entry-iterator.result ≡ length c.between_bits-entry-items.result = ap length same in
    let few = c.between_bits-entry-items.ensures.few in record {
      overrun = ap (λ (l : List (List ℕ)). l ++ overrun_of c.into_iter-entry-iterator.result)
          c.new-overrun.ensures.items
          ∙ ap overrun_of all ∙ overrun_between entries;
      off = omega (arith, off);
      room = omega (arith, long, few);
    }
