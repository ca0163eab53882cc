-- What holds of a result.
use Rattle.std.proofs.Common.{◌≡◌, sym, subst}
use Rattle.std.specs.Prelude.{Result, Ok, Err, OnErr, IfErr}

-- what holds of an answer that is Err
pub err_is : {A X : Type 0} (P : X → Type 0) (r : Result A X) (x : X) → r ≡ Err x → P x → IfErr r P
err_is P r x is p = let Q : Result _ _ → Type 0 = λ z. IfErr z P in subst Q (sym is) p

pub err_both : {A X : Type 0} {P : Type 0} {Q R : X → Type 0} (r : Result A X) → (P → (x : X) → Q x → R x) → OnErr r P →
    IfErr r Q → IfErr r R
err_both (Ok a) f p q = tt
err_both (Err x) f p q = f p x q

-- what holds whatever the answer is
pub err_on : {A X P : Type 0} (r : Result A X) → P → OnErr r P
err_on (Ok a) p = tt
err_on (Err x) p = p
