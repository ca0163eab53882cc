-- Registers that entries and acts have led to: TBS is 1 in reset mode, and 0 as long as an abort stands.
use Rattle.std.proofs.Common.{ℕ, List, [], refl, sym, subst}
use Rattle.sja_journal.specs.declared.entry.Entry.{Entry}
use Rattle.lemmas.specs.Picking.{EachAfter}
use Rattle.lemmas.proofs.Picking.{each_front}
use Rattle.sja_regs.specs.declared.registers.Registers.{Registers}
use Rattle.sja_driver.specs.TypedActs.{TypedAct, FitsState, is_active, opened_by}
use Rattle.sja_driver.proofs.Registers.TbsAndAbort.{TbsIsRight, tbs_after_step, tbs_after_turn}
use Rattle.sja_promises.specs.Registering.{LeadTo, seen_now}
use Rattle.sja_promises.specs.Registering.LeadTo.{power_on, act, bit}

pub tbs_right : (version : ℕ) (j : List Entry) (acts : List TypedAct) (p : Registers) → LeadTo version j acts p →
    EachAfter (λ before (d : TypedAct). FitsState version (is_active before) (opened_by before) d.step d.answer) []
    acts →
    TbsIsRight p
tbs_right version j acts p power_on fits = record { in_reset = λ e. refl; in_abort = λ e. absurd cc }
tbs_right version k acts q (act j _ before d p _ lead is) fits =
    let each = each_front (λ b (x : TypedAct). FitsState version (is_active b) (opened_by b) x.step x.answer) [] before
    d
    fits in
    subst (λ (r : Registers). TbsIsRight r) (sym is.left)
    (tbs_after_step version p (opened_by before) d.step d.answer (is_active before)
    (seen_now (is_active before) j before) each.1 is.tells (tbs_right version j before p lead each.0))
tbs_right version k acts q (bit j _ _ p _ lead is) fits =
    subst (λ (r : Registers). TbsIsRight r) (sym is.told)
    (tbs_after_turn p is.turn (tbs_right version j acts p lead fits))
