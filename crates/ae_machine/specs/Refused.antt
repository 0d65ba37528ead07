-- What the code of a condition answers.
use Rattle.std.specs.Prelude.{◌≡◌, Option, Some, None, Result, Ok, Err}
use Rattle.ae_base.specs.declared.refusal.Refusal.{Refusal}
use Rattle.ae_machine.specs.declared.refused.Refused.{Refused}
use Rattle.ae_machine.specs.declared.refused.Refused.TheVariants.{Because, Memory}
use Rattle.ae_policy.specs.declared.error.PolicyError.{PolicyError}
use Rattle.ae_policy.specs.declared.error.PolicyError.TheVariants as policy

-- it refuses exactly for this reason, and lets pass exactly where there is none, unless memory runs out
abbrev pub Answers : {T : Type 0} → Option Refusal → Result T Refused → Type 0
Answers reason (Ok passed) = reason ≡ None
Answers reason (Err (Because refusal)) = reason ≡ Some refusal
Answers reason (Err Memory) = Unit {0}

-- this is so, unless memory runs out
abbrev pub UnlessMemory : {T : Type 0} → Result T Refused → Type 0 → Type 0
UnlessMemory (Ok passed) P = P
UnlessMemory (Err (Because refusal)) P = P
UnlessMemory (Err Memory) P = Unit {0}

-- the same of what ae_policy answers
abbrev pub refused_by : PolicyError → Refused
refused_by (policy.Refused refusal) = Because refusal
refused_by policy.Memory = Memory
