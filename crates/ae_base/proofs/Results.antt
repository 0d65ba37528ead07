-- Facts of results, beside those of the standard library.
use Rattle.std.specs.Prelude.{◌≡◌, Result, Ok, Err, IfOk, OnOk, IsErrOf}
use Rattle.std.specs.Result.{IsErrAnd}
use Rattle.std.proofs.Common.{ap, sym, ◌∙◌}

-- what holds whatever the result is
pub on_ok : {T E : Type 0} (r : Result T E) (P : Type 0) → P → OnOk r P
on_ok (Ok v) P holds = holds
on_ok (Err e) P holds = tt

-- what follows from two facts that hold at Ok
pub on_ok_both : {T E : Type 0} (r : Result T E) (P Q R : Type 0) → (P → Q → R) → OnOk r P → OnOk r Q → OnOk r R
on_ok_both (Ok v) P Q R gives first second = gives first second
on_ok_both (Err e) P Q R gives first second = tt

-- where there is an error, whatever is said of it, nothing is said of a value
pub on_ok_of_err : {T E : Type 0} (r : Result T E) (Q : E → Type 0) (P : Type 0) → IsErrAnd r Q → OnOk r P
on_ok_of_err (Ok v) Q P is = absurd is
on_ok_of_err (Err x) Q P is = tt

pub if_ok_of_err : {T E : Type 0} (r : Result T E) (Q : E → Type 0) (P : T → Type 0) → IsErrAnd r Q → IfOk r P
if_ok_of_err (Ok v) Q P is = absurd is
if_ok_of_err (Err x) Q P is = tt

-- an error of which this is ensured is this one
pub err_is : {T E : Type 0} (r : Result T E) (e : E) → IsErrAnd r (λ (x : E). x ≡ e) → r ≡ Err e
err_is (Ok v) e is = absurd is
err_is (Err x) e is = ap Err is

-- and no other
pub err_was : {T E : Type 0} (r : Result T E) (e f : E) → IsErrAnd r (λ (x : E). x ≡ e) → IsErrOf r f → e ≡ f
err_was (Ok v) e f is told = absurd is
err_was (Err x) e f is told = let same : x ≡ f = cc in sym is ∙ same

pub ok_is_no_err : {T E : Type 0} (v : T) (e : E) → IsErrOf (Ok v) e → ⊥
ok_is_no_err v e told = cc
