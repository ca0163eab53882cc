use Rattle.std.proofs.Common.{◌≡◌, ◌≢◌, Err, Some, ap, ◌∙◌, length, arith, refl, sym}
use Rattle.can_frame.specs.Frame.{data_count, id_limit}
use Rattle.can_frame.specs.declared.frame_fault.FrameFault.{FrameFault}
use Rattle.can_frame.specs.declared.frame_fault.FrameFault.TheVariants.{IdRange, DlcRange, DataLength}
use Rattle.can_levels.specs.Fields.{says_rtr}
use Rattle.can_levels.proofs.SaidCounts.{whole_of, whole_has_fields}
use Rattle.can_levels.proofs.Whole.Decoding.{said_frame, says_id-lt}
use Rattle.can_levels.proofs.Packing.Frames.{said_is}
use Rattle.can_bits.proofs.body_word.BodyWord.frame.Goals as goal

pub returns-in-Ok : goal.returns-in-Ok
returns-in-Ok c f w b check g spells =
    let whole = whole_of f b check w spells in
    let fields = whole_has_fields w whole in
    let bytes = c.data_bytes-data.result.items in
    let ext = c.ext.ensures w g.packs in
    let id = c.id.ensures w g.packs (omega (arith, fields)) in
    let rtr = c.rtr.ensures w g.packs in
    let dlc = c.dlc.ensures.value w g.packs fields in
    let same_data = c.as_slice.ensures.value in
    let same = said_is f w b check bytes spells
    (record { levels = c.data_bytes-data.ensures.value w g.packs whole; small = c.data_bytes-data.ensures.small })
    (c.data_bytes-data.ensures.count w g.packs whole) in
    let made : c.in-Ok.frame ≡ said_frame w bytes = cc (c.in-Ok.ensures.ok, ext, id, rtr, dlc, same_data) in
    ap Some (made ∙ same)

-- a fault is one of three
no_fault : (e : FrameFault) → e ≢ IdRange → e ≢ DlcRange → e ≢ DataLength → ⊥
no_fault IdRange a b c = a refl
no_fault DlcRange a b c = b refl
no_fault DataLength a b c = c refl

pub returns-in-Err : goal.returns-in-Err
returns-in-Err c f w b check g spells =
    let whole = whole_of f b check w spells in
    let fields = whole_has_fields w whole in
    let h = c.in-Err.ensures in
    let ext = c.ext.ensures w g.packs in
    let id = c.id.ensures w g.packs (omega (arith, fields)) in
    let limit = ap id_limit ext in
    let small = says_id-lt w whole in
    let code = c.dlc.ensures.fits in
    let count = ap length c.as_slice.ensures.value ∙ c.data_bytes-data.ensures.count w g.packs whole
    ∙ sym (ap (λ r. data_count r c.dlc.result) (c.rtr.ensures w g.packs)
    ∙ ap (λ n. data_count (says_rtr w) n) (c.dlc.ensures.value w g.packs fields)) in
    absurd (no_fault c.in-Err.field-0
    (λ e. let over = h.id_range.0 (ap Err e) in omega (arith, over, small, limit, id))
    (λ e. let over = h.dlc_range.0 (ap Err e) in omega (arith, over.1, code))
    (λ e. let wrong = h.data_length.0 (ap Err e) in wrong.2 count))
