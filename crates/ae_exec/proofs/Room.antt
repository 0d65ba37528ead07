-- What the conditions that ask nothing of the directories say of the delta with which an integration begins.
use Rattle.std.specs.Prelude.{◌≡◌, ℕ, ◌+◌, nat_le, Bool, true, false, if◌then◌else◌, List, ◌∷◌, Option, Some, None}
use Rattle.std.proofs.Common.{sym, ap, ◌∙◌, arith}
use Rattle.std.proofs.lemmas.Bool.{leb-true}
use Rattle.ae_base.specs.Limits.{most_deltas}
use Rattle.ae_base.specs.declared.words.Which.TheVariants.{Deltas}
use Rattle.ae_base.specs.declared.refusal.Refusal.{Refusal}
use Rattle.ae_base.specs.declared.refusal.Refusal.TheVariants.{Limit, ProjectExists}
use Rattle.ae_types.specs.Observation.{Observation}
use Rattle.ae_types.specs.Trees.{last_delta}
use Rattle.ae_words.specs.declared.command.Command.{Command}
use Rattle.ae_words.specs.declared.table.Function.{Function}
use Rattle.ae_words.specs.declared.table.Function.TheVariants as function
use Rattle.ae_machine.specs.Call.{call_of, first_of}
use Rattle.ae_machine.specs.Permission.{right_change, right_project}
use Rattle.ae_machine.specs.Verdict.{asked, is_new_project, refusal_before, refused_before}
use Rattle.ae_machine.proofs.Accepted.{passed, tested}
use Rattle.ae_exec.specs.Directories.{DeltaHasRoom}

passed-on : (new : Bool) (why : Option Refusal) → (if new then Some ProjectExists else why) ≡ None → why ≡ None
passed-on true why is = cc
passed-on false why is = is

pub delta-room : (o : Option Observation) (command : Command) (who : List ℕ) → refused_before o command who ≡ None → DeltaHasRoom command o
delta-room None command who none begin = tt
delta-room (Some o) command who none begin =
    let before : refusal_before (call_of o command who) ≡ None = passed-on (is_new_project command.function) (refusal_before (call_of o command who)) none in
    let all = passed (right_project ∷ right_change ∷ asked function.IntegrateBegin) (call_of o command who) (ap (λ (f : Function). first_of (right_project ∷ right_change ∷ asked f) (call_of o command who)) (sym begin) ∙ before) in
    let room = leb-true (last_delta o + 1) most_deltas (tested (nat_le (last_delta o + 1) most_deltas) (Limit Deltas most_deltas) all.1.1.1.1.1.1.1.1.1.1.0) in
    omega (arith, room)
