-- How names are shown, byte by byte.
use Rattle.std.proofs.Common.{◌≡◌, ◌∙◌, ◌<◌, ◌≤◌, ◌+◌, ◌++◌, ◌==◌, ℕ, false, List, [], ◌∷◌, length, take, drop}
use Rattle.std.proofs.Common.{get_or, All}
use Rattle.std.proofs.Common.{refl, sym, ap, subst, append_assoc, get_or-drop, add-zero, take_all}
use Rattle.std.proofs.lemmas.List.{drop_more}
use Rattle.std.proofs.lemmas.List.Elements.{All-head, All-tail, All-more}
use Rattle.std.specs.Prelude.{slice_index}
use Rattle.sja_run.specs.Names.{is_control, shown_byte, shown_behind, shown_name}

-- the byte is no control character, and begins none
abbrev pub IsPlainByte : ℕ → Type 0
IsPlainByte byte = (is_control byte ≡ false) × ((byte == 0xC2) ≡ false)

-- bytes that are none are shown as they are
plain_behind : (before : ℕ) (bytes : List ℕ) → (before == 0xC2) ≡ false → All IsPlainByte bytes →
    shown_behind before bytes ≡ bytes
plain_behind before [] other all = refl
plain_behind before (byte ∷ bytes) other all =
    let (none, begins) = All-head IsPlainByte byte bytes all in
    let one : shown_byte before byte (slice_index bytes 0) ≡ byte ∷ [] = rw (none, begins, other) refl in
    rw one (ap (λ l. byte ∷ l) (plain_behind byte bytes begins (All-tail IsPlainByte byte bytes all)))

pub plain_more : (name : List ℕ) (at : ℕ) → at < length name → All IsPlainByte (take at name) →
    is_control (get_or name at 0) ≡ false → (get_or name at 0 == 0xC2) ≡ false → All IsPlainByte (take (at + 1) name)
plain_more name at within all none begins = All-more IsPlainByte name at 0 within all (none, begins)

pub plain_name : (name : List ℕ) (count : ℕ) → length name ≤ count → All IsPlainByte (take count name) →
    shown_name name ≡ name
plain_name name count past all = plain_behind 0 name refl (subst (All IsPlainByte) (take_all count name past) all)

-- one byte more is shown
pub shown_more : (done name : List ℕ) (before at : ℕ) → at < length name →
    done ++ shown_behind before (drop at name) ≡ shown_name name →
    (done ++ shown_byte before (get_or name at 0) (get_or name (at + 1) 0))
    ++ shown_behind (get_or name at 0) (drop (at + 1) name) ≡ shown_name name
shown_more done name before at within is =
    let byte = get_or name at 0 in
    let rest = drop (at + 1) name in
    let next : slice_index rest 0 ≡ get_or name (at + 1) 0 = rw (get_or-drop (at + 1) name 0 0, add-zero) in
    let opened : shown_behind before (drop at name)
    ≡ shown_byte before byte (get_or name (at + 1) 0) ++ shown_behind byte rest =
    ap (shown_behind before) (drop_more name at 0 within)
    ∙ ap (λ n. shown_byte before byte n ++ shown_behind byte rest) next in
    append_assoc done _ _ ∙ ap (λ l. done ++ l) (sym opened) ∙ is
