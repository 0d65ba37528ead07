-- What a change of a role answers.
use Rattle.std.specs.Prelude.{◌≡◌, Option, Some, None, Result, Ok, Err}
use Rattle.ae_base.specs.declared.refusal.Refusal.{Refusal}
use Rattle.ae_policy.specs.declared.error.PolicyError.{PolicyError}
use Rattle.ae_policy.specs.declared.error.PolicyError.TheVariants.{Refused, Memory}

-- it is refused exactly for this reason, and done exactly where there is none, unless memory runs out
abbrev pub IsAnswer : {T : Type 0} → Option Refusal → Result T PolicyError → Type 0
IsAnswer reason (Ok done) = reason ≡ None
IsAnswer reason (Err (Refused refusal)) = reason ≡ Some refusal
IsAnswer reason (Err Memory) = Unit {0}
