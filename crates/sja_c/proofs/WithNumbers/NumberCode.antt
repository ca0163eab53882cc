-- The MIR of a function of C that takes a handle and so many numbers, by the function that it calls.
use mathlib.Core.List.{List, [], ◌∷◌}
use Prim.Native.Nat.{ℕ, zero, suc}
use mir.Syntax.{Body, Callee, Fn, Local, Opd, Place, seq, assign, cond, skip, return, call, place, copy, int, op2}
use mir.Syntax.{ptr_eq, addr_of, rv_opd, deref, local, value_local, ty_ptr, ty_bool, ty_int, ty_ref, erased, mut}
use mir.Syntax.{w32, w64}
use denote.Memory.{lone, pointee}
use Rattle.sja_c.specs.contracts.answer.SjaAnswer.{the_row as Out}
use Rattle.sja_calls.specs.contracts.handle.Handle.{the_row as R}

abbrev whole : ℕ → Place
whole k = place k []

-- the numbers, from local k on
abbrev pub copies : ℕ → ℕ → List Opd
copies zero k = []
copies (suc n) k = copy (whole k) ∷ copies n (suc k)

abbrev pub locals : ℕ → List Local
locals zero = local ty_bool value_local ∷ local ty_ptr value_local
    ∷ local (ty_ref erased mut (pointee R.written)) value_local ∷ []
locals (suc n) = local (ty_int w32) value_local ∷ locals n

abbrev pub rest : ℕ → Callee → Body
rest n callee = seq (assign (whole (suc (suc (suc n)))) (rv_opd (copy (whole 1))))
    (seq (assign (whole (suc (suc (suc (suc n))))) (addr_of (place (suc (suc (suc n))) (deref (lone R.mir) ∷ []))))
    (seq (call callee (copy (whole (suc (suc (suc (suc n))))) ∷ copies n 2) (whole 0)) return))

abbrev pub function : ℕ → Callee → Callee → Fn
function n none callee = record {
  lifetimes = 0;
  outlives = [];
  ty_params = [];
  givens = 0;
  params = suc n;
  locals = local (lone Out.mir) value_local ∷ local ty_ptr value_local ∷ locals n;
  body = seq (assign (whole (suc (suc n))) (op2 ptr_eq (copy (whole 1)) (int w64 0)))
      (seq (cond (copy (whole (suc (suc n)))) (seq (call none [] (whole 0)) return) skip) (rest n callee));
}
