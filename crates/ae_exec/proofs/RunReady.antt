-- The runs of an accepted command, made ready.
use Rattle.std.specs.Prelude.{◌≡◌, ℕ, List, [], Option, Some, None, Result, Err}
use Rattle.std.proofs.Common.{refl, sym, subst, ◌∙◌}
use Rattle.ae_base.specs.declared.refusal.Refusal.{Refusal}
use Rattle.ae_base.specs.declared.words.Kind.{Kind}
use Rattle.ae_base.specs.declared.words.Kind.TheVariants as kind
use Rattle.ae_types.specs.declared.change.Change.{Change}
use Rattle.ae_types.specs.Observation.{Observation}
use Rattle.ae_words.specs.declared.command.Command.{Command}
use Rattle.ae_evidence.specs.declared.runs.Job.{Job}
use Rattle.ae_machine.specs.Call.{Given, call_of}
use Rattle.ae_machine.specs.Freezing.{configured}
use Rattle.ae_machine.specs.Jobs.{AnswersJobs}
use Rattle.ae_machine.specs.Runs.{kind_of}
use Rattle.ae_machine.specs.Versions.{rows_based, rows_refreshed, rows_under}

-- each run has a command where `configured` refuses nothing
pub no-refusal : (given : Given) (jobs : Result (List Job) Refusal) (refusal : Refusal) → jobs ≡ Err refusal → AnswersJobs given jobs → configured given ≡ None → ⊥
no-refusal given jobs refusal is answers none =
    let refused : configured given ≡ Some refusal = subst (AnswersJobs given) is answers in
    let other : None ≡ Some refusal = sym none ∙ refused in
    cc

-- whoever gives the command, the same versions are put into the directories
pub refreshed-by : (o : Observation) (command : Command) (who : List ℕ) (c : Option Change) → rows_refreshed (call_of o command []) c ≡ rows_refreshed (call_of o command who) c
refreshed-by o command who (Some change) = refl
refreshed-by o command who None = refl

pub based-by : (o : Observation) (command : Command) (who : List ℕ) (c : Option Change) → rows_based (call_of o command []) c ≡ rows_based (call_of o command who) c
based-by o command who (Some change) = go (kind_of command.function command)
  where
    go : (k : Kind) → rows_under k (call_of o command []) ≡ rows_under k (call_of o command who)
    go kind.BaselineTest = refl
    go kind.Build = refl
    go kind.Test = refl
    go kind.RegressionTest = refl
based-by o command who None = refl
