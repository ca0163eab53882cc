-- Whatever becomes of a request, few bytes are read for it.
use Rattle.std.proofs.Common.{◌≡◌, ◌<◌, ◌≤◌, ◌+◌, ◌⊎◌, ◌++◌, List, ℕ, [], Option, length, length-append, sym, subst}
use Rattle.std.proofs.Common.{Bool, arith, inl, inr, false, true}
use Rattle.std.specs.Io.KnownBytes.{Consumes}
use Rattle.std.proofs.KnownBytes.{Consumes-nil, Consumes-trans}
use Rattle.sja_plan.specs.Plan.{PlanValue}
use Rattle.sja_command_line.specs.Requests.{Request, encode, decode, filter, arbitrate, message, run, wave, trace}
use Rattle.sja_command_line.specs.Requests.{frames}
use Rattle.sja_command_line.specs.Requests.{registers}
use Rattle.sja_command_line.specs.Requests.{picture, candump, check, sweep, struck_plan, spelled_plan, expected, files}
use Rattle.sja_command_line.specs.Requests.{live}
use Rattle.sja_log.specs.declared.run_fault.RunFault.{RunFault}
use Rattle.text_codec.specs.declared.command_refusal.CommandRefusal.{CommandRefusal}
use Rattle.text_codec.specs.declared.command_refusal.CommandRefusal.TheVariants as refusal
use Rattle.sja_program.specs.Answer.{AsksForRun, IsPrinted, IsRefused, picture_or_drawing, request_left}
use Rattle.sja_program.specs.Check.{HasHints}
use Rattle.sja_program.specs.Replies.{IsChecked}
use Rattle.sja_program.specs.declared.plan_check.PlanCheck.{PlanCheck}
use Rattle.sja_program.specs.declared.plan_check.PlanCheck.TheVariants.{Hints, Mistake}
use Rattle.sja_program.specs.Input.{most_read, ReadsFew, RefusesInput}
use Rattle.sja_program.specs.PlanDocument.{RefusesInputSpelled}
use Rattle.sja_program.specs.Run.{IsOfPlan, RefusesBy, RefusesRun, RefusesText}
use Rattle.sja_program.specs.RunText.{IsTextOfRun, MayFault}
use Rattle.sja_program.specs.Registers.{IsTold, RefusesRegisters}
use Rattle.sja_program.specs.Sweep.{IsStruck, IsSwept, RefusesOfPlan, RefusesStruck, RefusesSwept}
use Rattle.sja_program.specs.declared.thread_task.ThreadTask.{ThreadTask}
use Rattle.sja_program.specs.declared.run_text.RunText.{RunText}
use Rattle.sja_program.specs.declared.run_text.RunText.TheVariants.{Report, Wave, Trace, Frames, Candump}
use Rattle.text_codec.specs.declared.sweep_refusal.SweepRefusal.{SweepRefusal}
use Rattle.sja_program.proofs.BytesRead.MostRead.{most_grows}
use Rattle.sja_program.proofs.PlanAnswers.PlanRefusals.{few_of_plan}
use Rattle.sja_program.proofs.Requested.Requests.{asks_left}

-- nothing was read
pub unread : (input : Option (List ℕ)) → ReadsFew input input
unread input = ([], Consumes-nil input, omega arith)

within : (n a m k : ℕ) → n ≡ a → a ≤ m → m ≤ k → n ≤ k
within n a m k is few most = omega (arith, is, few, most)

less : (n m : ℕ) → n < m → n ≤ m
less n m few = omega (arith, few)

-- there are no more bytes than may be read where the first ones are these
pub few_together : (some more : List ℕ) → length some + length more ≤ most_read some →
    length (some ++ more) ≤ most_read (some ++ more)
few_together some more few =
    within (length (some ++ more)) (length some + length more) (most_read some) (most_read (some ++ more))
    (length-append some more) few (most_grows some more)

-- some bytes were read, and then more
pub read_more : (a b c : Option (List ℕ)) (some more : List ℕ) → Consumes a b some → Consumes b c more →
    length some + length more ≤ most_read some → ReadsFew a c
read_more a b c some more earlier later few =
    (some ++ more, Consumes-trans a b c some more earlier later, few_together some more few)

-- there are hints
few_hinted : (before after : Option (List ℕ)) (text : List ℕ) → HasHints before after text → ReadsFew before after
few_hinted before after text has = (has.0, has.1.0, has.1.1)

-- there is something to be said of the plan
pub few_checked : (before after : Option (List ℕ)) (said : PlanCheck) → IsChecked before after said →
    ReadsFew before after
few_checked before after (Hints text) has = (has.0, has.1.0, has.1.1)
few_checked before after (Mistake text) has = (has.0, has.1.0, has.1.1)

-- there is nothing
pub few_unchecked : (before after : Option (List ℕ)) (r : CommandRefusal) → RefusesInput before after r →
    ReadsFew before after
few_unchecked before after refusal.OutOfMemory h = h
few_unchecked before after refusal.Read h = (h.0, h.1, less (length h.0) (most_read h.0) h.2)
few_unchecked before after (refusal.Plan fault) h = absurd h
few_unchecked before after (refusal.Place number) h = absurd h
few_unchecked before after refusal.Strikes h = absurd h
few_unchecked before after (refusal.Run fault) h = absurd h
few_unchecked before after (refusal.Sweep why) h = absurd h
few_unchecked before after (refusal.Drawing levels) h = absurd h
few_unchecked before after refusal.NotHexadecimal h = absurd h
few_unchecked before after refusal.NotALine h = absurd h
few_unchecked before after (refusal.Layout fault) h = absurd h
few_unchecked before after (refusal.Line fault) h = absurd h
few_unchecked before after (refusal.Notation fault) h = absurd h

-- there is none
few_refused : (May : PlanValue → RunFault → Type 0) (before after : Option (List ℕ)) (r : CommandRefusal) →
    RefusesBy May before after r → ReadsFew before after
few_refused May before after refusal.OutOfMemory h = h
few_refused May before after refusal.Read h = (h.0, h.1, less (length h.0) (most_read h.0) h.2)
few_refused May before after (refusal.Plan fault) h = (h.0, h.1.0, h.1.1)
few_refused May before after (refusal.Place number) h = (h.0, h.1.0, h.1.1)
few_refused May before after refusal.Strikes h = (h.0, h.1.0, h.1.1)
few_refused May before after (refusal.Run fault) h = (h.0, h.2.0, h.2.1)
few_refused May before after (refusal.Sweep why) h = absurd h
few_refused May before after (refusal.Drawing levels) h = absurd h
few_refused May before after refusal.NotHexadecimal h = absurd h
few_refused May before after refusal.NotALine h = absurd h
few_refused May before after (refusal.Layout fault) h = absurd h
few_refused May before after (refusal.Line fault) h = absurd h
few_refused May before after (refusal.Notation fault) h = absurd h

-- where the input isn't read there is no report
pub refused_input : (before after : Option (List ℕ)) (r : CommandRefusal) → RefusesInput before after r →
    RefusesRun before after r
refused_input before after refusal.OutOfMemory h = h
refused_input before after refusal.Read h = h
refused_input before after (refusal.Plan fault) h = absurd h
refused_input before after (refusal.Place number) h = absurd h
refused_input before after refusal.Strikes h = absurd h
refused_input before after (refusal.Run fault) h = absurd h
refused_input before after (refusal.Sweep why) h = absurd h
refused_input before after (refusal.Drawing levels) h = absurd h
refused_input before after refusal.NotHexadecimal h = absurd h
refused_input before after refusal.NotALine h = absurd h
refused_input before after (refusal.Layout fault) h = absurd h
refused_input before after (refusal.Line fault) h = absurd h
refused_input before after (refusal.Notation fault) h = absurd h

-- what is refused before any run is refused of each
pub refused_threads : (what : RunText) (before after : Option (List ℕ)) (r : CommandRefusal) →
    RefusesRun before after r → RefusesText true what before after r
refused_threads what before after refusal.OutOfMemory h = h
refused_threads what before after refusal.Read h = h
refused_threads what before after (refusal.Plan fault) h = h
refused_threads what before after (refusal.Place number) h = h
refused_threads what before after refusal.Strikes h = h
refused_threads what before after (refusal.Run fault) h =
    (h.0, h.1, h.2, h.3, subst (λ (f : RunFault). MayFault true h.1 f) (sym h.4) tt)
refused_threads what before after refusal.NotHexadecimal h = absurd h
refused_threads what before after refusal.NotALine h = absurd h
refused_threads what before after (refusal.Layout fault) h = absurd h
refused_threads what before after (refusal.Line fault) h = absurd h
refused_threads what before after (refusal.Notation fault) h = absurd h
refused_threads what before after (refusal.Sweep why) h = absurd h
refused_threads what before after (refusal.Drawing levels) h = absurd h

pub refused_once : (what : RunText) (before after : Option (List ℕ)) (r : CommandRefusal) →
    RefusesRun before after r → RefusesText false what before after r
refused_once what before after (refusal.Drawing levels) h = absurd h
refused_once what before after refusal.OutOfMemory h = h
refused_once what before after refusal.Read h = h
refused_once what before after (refusal.Plan fault) h = h
refused_once what before after (refusal.Place number) h = h
refused_once what before after refusal.Strikes h = h
refused_once what before after (refusal.Run fault) h = h
refused_once what before after refusal.NotHexadecimal h = h
refused_once what before after refusal.NotALine h = h
refused_once what before after (refusal.Layout fault) h = h
refused_once what before after (refusal.Line fault) h = h
refused_once what before after (refusal.Notation fault) h = h
refused_once what before after (refusal.Sweep why) h = h

-- whatever of a text of a run is refused, few bytes were read
few_untold : (threads : Bool) (what : RunText) (before after : Option (List ℕ)) (r : CommandRefusal) →
    RefusesText threads what before after r → ReadsFew before after
few_untold threads what before after (refusal.Drawing levels) h = (h.0, h.3.0, h.3.1)
few_untold threads what before after refusal.OutOfMemory h =
    few_refused (MayFault threads) before after refusal.OutOfMemory h
few_untold threads what before after refusal.Read h =
    few_refused (MayFault threads) before after refusal.Read h
few_untold threads what before after (refusal.Plan fault) h =
    few_refused (MayFault threads) before after (refusal.Plan fault) h
few_untold threads what before after (refusal.Place number) h =
    few_refused (MayFault threads) before after (refusal.Place number) h
few_untold threads what before after refusal.Strikes h =
    few_refused (MayFault threads) before after refusal.Strikes h
few_untold threads what before after (refusal.Run fault) h =
    few_refused (MayFault threads) before after (refusal.Run fault) h
few_untold threads what before after refusal.NotHexadecimal h =
    few_refused (MayFault threads) before after refusal.NotHexadecimal h
few_untold threads what before after refusal.NotALine h =
    few_refused (MayFault threads) before after refusal.NotALine h
few_untold threads what before after (refusal.Layout fault) h =
    few_refused (MayFault threads) before after (refusal.Layout fault) h
few_untold threads what before after (refusal.Line fault) h =
    few_refused (MayFault threads) before after (refusal.Line fault) h
few_untold threads what before after (refusal.Notation fault) h =
    few_refused (MayFault threads) before after (refusal.Notation fault) h
few_untold threads what before after (refusal.Sweep why) h =
    few_refused (MayFault threads) before after (refusal.Sweep why) h

-- there is a text of a run, a sweep, or a plan with a strike more
few_of : (Is : PlanValue → List ℕ → Type 0) (before after : Option (List ℕ)) (text : List ℕ) →
    IsOfPlan Is before after text → ReadsFew before after
few_of Is before after text has = (has.0, has.2.0, has.2.1)

-- there is none
few_of_none : (May : PlanValue → SweepRefusal → Type 0) (before after : Option (List ℕ)) (r : CommandRefusal) →
    RefusesOfPlan May before after r → ReadsFew before after
few_of_none May before after r h = few_of_plan May before after r (few_refused (MayFault false) before after r) h

-- there is no text of a plan
few_unspelled : (before after : Option (List ℕ)) (r : CommandRefusal) → RefusesInputSpelled before after r →
    ReadsFew before after
few_unspelled before after r (inl h) = few_unchecked before after r h
few_unspelled before after r (inr (bytes, read, h)) = (bytes, read.0, read.1)

-- nothing was read
few_same : (before after : Option (List ℕ)) → after ≡ before → ReadsFew before after
few_same before after same = subst (ReadsFew before) (sym same) (unread before)

-- whatever is printed: only for a plan anything is read
pub few_printed : (r : Request) (before after : Option (List ℕ)) (text : List ℕ) → AsksForRun r ⊎ (after ≡ before) →
    IsPrinted r before after text → ReadsFew before after
few_printed r before after text (inr same) printed = few_same before after same
few_printed (run threads) before after text (inl asks) printed =
    few_of (IsTextOfRun threads Report) before after text printed
few_printed (wave threads) before after text (inl asks) printed =
    few_of (IsTextOfRun threads Wave) before after text printed
few_printed (trace threads) before after text (inl asks) printed =
    few_of (IsTextOfRun threads Trace) before after text printed
few_printed (frames bits threads) before after text (inl asks) printed =
    few_of (IsTextOfRun threads (Frames bits)) before after text printed
few_printed (picture first last svg threads meant) before after text (inl asks) printed =
    few_of (IsTextOfRun threads (picture_or_drawing svg first last meant)) before after text printed
few_printed (candump errors threads) before after text (inl asks) printed =
    few_of (IsTextOfRun threads (Candump errors)) before after text printed
few_printed (check strict) before after text (inl asks) printed = few_hinted before after text printed.0
few_printed (sweep w) before after text (inl asks) printed = few_of (IsSwept w) before after text printed
few_printed (struck_plan node bit) before after text (inl asks) printed =
    few_of (IsStruck node bit) before after text printed
few_printed (registers bit) before after text (inl asks) printed = few_of (IsTold bit) before after text printed
few_printed spelled_plan before after text (inl asks) printed = (printed.0, printed.1.0, printed.1.1)
few_printed (expected threads plan report) before after text (inl asks) printed = absurd printed
few_printed (files asked jobs names) before after text (inl asks) printed = absurd printed
few_printed live before after text (inl asks) printed = absurd printed
few_printed (encode digits) before after text (inl asks) printed = absurd asks
few_printed (decode digits) before after text (inl asks) printed = absurd asks
few_printed (filter single acr amr digits) before after text (inl asks) printed = absurd asks
few_printed (arbitrate messages) before after text (inl asks) printed = absurd asks
few_printed (message given) before after text (inl asks) printed = absurd asks

-- and whatever is refused
pub few_turned_down : (r : Request) (before after : Option (List ℕ)) (why : CommandRefusal) →
    AsksForRun r ⊎ (after ≡ before) → IsRefused r before after why → ReadsFew before after
few_turned_down r before after why (inr same) refused = few_same before after same
few_turned_down (run threads) before after why (inl asks) refused =
    few_refused (MayFault threads) before after why refused
few_turned_down (wave threads) before after why (inl asks) refused =
    few_refused (MayFault threads) before after why refused
few_turned_down (trace threads) before after why (inl asks) refused =
    few_refused (MayFault threads) before after why refused
few_turned_down (frames bits threads) before after why (inl asks) refused =
    few_refused (MayFault threads) before after why refused
few_turned_down (picture first last svg threads meant) before after why (inl asks) refused =
    few_untold threads (picture_or_drawing svg first last meant) before after why refused
few_turned_down (candump errors threads) before after why (inl asks) refused =
    few_refused (MayFault threads) before after why refused
few_turned_down (check strict) before after why (inl asks) refused = few_unchecked before after why refused
few_turned_down (sweep w) before after why (inl asks) refused = few_of_none (RefusesSwept w) before after why refused
few_turned_down (struck_plan node bit) before after why (inl asks) refused =
    few_of_none (RefusesStruck node bit) before after why refused
few_turned_down (registers bit) before after why (inl asks) refused =
    few_of_none (RefusesRegisters bit) before after why refused
few_turned_down spelled_plan before after why (inl asks) refused = few_unspelled before after why refused
few_turned_down (expected threads plan report) before after why (inl asks) refused = refused.1
few_turned_down (files asked jobs names) before after why (inl asks) refused = refused.1
few_turned_down live before after why (inl asks) refused = refused.1
few_turned_down (encode digits) before after why (inl asks) refused = absurd asks
few_turned_down (decode digits) before after why (inl asks) refused = absurd asks
few_turned_down (filter single acr amr digits) before after why (inl asks) refused = absurd asks
few_turned_down (arbitrate messages) before after why (inl asks) refused = absurd asks
few_turned_down (message given) before after why (inl asks) refused = absurd asks

-- of what is left to threads
pub few_left_printed : (left : ThreadTask) (before after : Option (List ℕ)) (text : List ℕ) →
    IsPrinted (request_left left) before after text → ReadsFew before after
few_left_printed left before after text printed =
    few_printed (request_left left) before after text (inl (asks_left left)) printed

-- what was checked, or why there was nothing to check
pub ruleset few = (few_checked, few_unchecked)
