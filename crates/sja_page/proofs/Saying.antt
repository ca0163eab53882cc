-- What the program says where its writers held nothing before: clauses of `sja_alone` over texts that are equal.
use Rattle.sja_program.specs.Answer.{IsLeft, IsTurnedAway, Shows}
use Rattle.sja_command_line.specs.Requests.{Request}
use Rattle.std.proofs.Common.{◌≡◌, ℕ, Bool, false, List, [], Some, subst, sym}

-- the texts before are empty, and those after are the ones that are named
pub shown :
    (r : Request) (status : ℕ) (plan rest out_old out_new out err_old err_new err : List ℕ)
    → out_old ≡ [] → err_old ≡ [] → out ≡ out_new → err ≡ err_new
    → Shows r (Some status) (Some plan) (Some rest) (Some out_old) (Some out_new) (Some err_old) (Some err_new)
    → Shows r (Some status) (Some plan) (Some rest) (Some []) (Some out) (Some []) (Some err)
shown r status plan rest out_old out_new out err_old err_new err a b d e s =
    subst (λ x. Shows r (Some status) (Some plan) (Some rest) (Some x) (Some out) (Some []) (Some err)) a
    (subst (λ x. Shows r (Some status) (Some plan) (Some rest) (Some out_old) (Some out) (Some x) (Some err)) b
    (subst (λ x. Shows r (Some status) (Some plan) (Some rest) (Some out_old) (Some x) (Some err_old) (Some err))
    (sym d)
    (subst (λ x. Shows r (Some status) (Some plan) (Some rest) (Some out_old) (Some out_new) (Some err_old) (Some x))
    (sym e) s)))

-- the same of what is told where the words don't parse
pub turned :
    (status : ℕ) (err_old err_new err : List ℕ)
    → err_old ≡ [] → err ≡ err_new
    → IsTurnedAway (Some status) (Some err_old) (Some err_new) → IsTurnedAway (Some status) (Some []) (Some err)
turned status err_old err_new err b e s =
    subst (λ x. IsTurnedAway (Some status) (Some x) (Some err)) b
    (subst (λ x. IsTurnedAway (Some status) (Some err_old) (Some x)) (sym e) s)

-- the same of what is told where something is left to another call, and memory was refused
pub left :
    (status : ℕ) (failed : Bool) (err_old err_new err : List ℕ)
    → failed ≡ false → err_old ≡ [] → err ≡ err_new
    → IsLeft (Some status) failed (Some err_old) (Some err_new) → IsLeft (Some status) false (Some []) (Some err)
left status failed err_old err_new err f b e s =
    subst (λ x. IsLeft (Some status) x (Some []) (Some err)) f
    (subst (λ x. IsLeft (Some status) failed (Some x) (Some err)) b
    (subst (λ x. IsLeft (Some status) failed (Some err_old) (Some x)) (sym e) s))
