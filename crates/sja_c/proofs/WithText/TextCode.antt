-- The MIR of a function of C that takes a handle and a text, by the function that it calls.
use mathlib.Core.List.{[], ◌∷◌}
use Prim.Native.Nat.{ℕ}
use mir.Syntax.{Body, Callee, Fn, Place, Ty, seq, assign, cond, skip, return, call, place, copy, int, op2, ptr_eq}
use mir.Syntax.{addr_of, aggregate, rv_opd, field, deref, local, value_local, ty_ptr, ty_bool, ty_int, ty_ref}
use mir.Syntax.{ty_struct, tcons, tnil, named, erased, mut, w8, w64, Lifetime}
use denote.Memory.{lone, pointee}
use denote.Slice.{slice_name}
use Rattle.sja_c.specs.contracts.answer.SjaAnswer.{the_row as Out}
use Rattle.sja_calls.specs.contracts.handle.Handle.{the_row as R}

-- a `&mut [u8]`, and a `&mut` to its first byte
abbrev bytes : Lifetime → Ty
bytes ℓ = ty_ref ℓ mut (ty_int w8)

abbrev text : Lifetime → Ty
text ℓ = ty_struct slice_name (tcons (bytes ℓ) (tcons (ty_int w64) tnil))

abbrev whole : ℕ → Place
whole k = place k []

-- the text in local 2 is lent in local k, by its first byte in local j
abbrev lends : ℕ → ℕ → Body → Body
lends j k rest = seq (assign (whole j) (addr_of (place 2 (field 0 ∷ deref (ty_int w8) ∷ []))))
    (seq (assign (whole k) (aggregate (copy (whole j) ∷ copy (place 2 (field 1 ∷ [])) ∷ []))) rest)

abbrev pub rest : Callee → Body
rest callee = seq (assign (whole 6) (rv_opd (copy (whole 1))))
    (seq (assign (whole 7) (addr_of (place 6 (deref (lone R.mir) ∷ []))))
    (lends 8 9 (seq (call callee (copy (whole 7) ∷ copy (whole 9) ∷ []) (whole 0)) return)))

abbrev pub function : Callee → Callee → Fn
function none callee = record {
  lifetimes = 1;
  outlives = [];
  ty_params = [];
  givens = 0;
  params = 2;
  locals = local (lone Out.mir) value_local ∷ local ty_ptr value_local ∷ local (text (named 0)) value_local
      ∷ local ty_bool value_local ∷ local (bytes erased) value_local ∷ local (text erased) value_local
      ∷ local ty_ptr value_local ∷ local (ty_ref erased mut (pointee R.written)) value_local
      ∷ local (bytes erased) value_local ∷ local (text erased) value_local ∷ [];
  body = seq (assign (whole 3) (op2 ptr_eq (copy (whole 1)) (int w64 0)))
      (seq (cond (copy (whole 3)) (lends 4 5 (seq (call none (copy (whole 5) ∷ []) (whole 0)) return)) skip)
      (rest callee));
}
