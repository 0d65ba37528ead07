-- The runs of an accepted command are real, and what it sees fits with them.
use Rattle.std.specs.Prelude.{◌≡◌, ◌≢◌, ℕ, Bool, true, false, not, ◌||◌, nat_eq, if◌then◌else◌, List, [], ◌∷◌, length, Option, Some, None, is_none, is_some}
use Rattle.std.specs.Option.{option_and_then}
use Rattle.std.proofs.Common.{refl, sym, ap, subst, ◌∙◌, inl, inr, arith}
use Rattle.std.proofs.lemmas.Bool.{false≢true}
use Rattle.ae_types.proofs.Splits.{some-found}
use Rattle.ae_base.specs.Rows.{Rows, paths_of}
use Rattle.ae_base.specs.declared.refusal.Refusal.TheVariants.{NoSuchChange, NoTest, ProjectExists}
use Rattle.ae_outside.specs.declared.dir.Dir.{Dir}
use Rattle.ae_types.specs.declared.change.Change.{Change}
use Rattle.ae_types.specs.Found.{change_at}
use Rattle.ae_types.specs.Observation.{Observation}
use Rattle.ae_types.specs.Runs.{Needed}
use Rattle.ae_words.specs.declared.command.Command.{Command}
use Rattle.ae_words.specs.declared.table.Function.{Function}
use Rattle.ae_words.specs.declared.table.Function.TheVariants as function
use Rattle.ae_words.specs.declared.table.Listing.{Listing}
use Rattle.ae_words.specs.Formed.{IsFormed}
use Rattle.ae_words.specs.Table.{needs_change, row}
use Rattle.ae_evidence.specs.declared.directories.DirChange.{DirChange}
use Rattle.ae_evidence.specs.declared.runs.Job.{Job}
use Rattle.ae_evidence.specs.declared.runs.RunRow.{RunRow}
use Rattle.ae_evidence.specs.Directories.{dirs_after}
use Rattle.ae_machine.specs.Call.{Call, Given, call_of, change_named, change_of}
use Rattle.ae_machine.specs.Called.{Called, given_at, view}
use Rattle.ae_machine.specs.Fits.{makes_runs, runs_asked, tracked_in}
use Rattle.ae_machine.specs.Freezing.{group_is_there}
use Rattle.ae_machine.specs.Jobs.{AreJobs}
use Rattle.ae_machine.specs.Permission.{right_change, right_project}
use Rattle.ae_machine.specs.Real.{IsLeft, command_for, dir_of_runs}
use Rattle.ae_machine.specs.Runs.{group, group_of}
use Rattle.ae_machine.specs.Verdict.{asked, is_new_project, refusal_before, refused_before}
use Rattle.ae_machine.proofs.Accepted.{Passed, change-there, passed, tested}
use Rattle.ae_dirs.specs.Runs.{IsGroup, EndsUnclean, RunsAre}
use Rattle.ae_exec.proofs.FittingRuns.{runs-fit}
use Rattle.ae_exec.proofs.RealRuns.{runs-are-real}
use Rattle.ae_exec.specs.Runs.{AreForRuns, HaveRun}
use Rattle.ae_exec.specs.Jobs.{HasRun, IsShortConfig}

-- ---- what the conditions without reading say

passed-before : (o : Observation) (command : Command) (who : List ℕ) → refused_before (Some o) command who ≡ None → Passed (right_project ∷ right_change ∷ asked command.function) (call_of o command who)
passed-before o command who none = go (is_new_project command.function) none
  where
    go : (b : Bool) → (if b then Some ProjectExists else refusal_before (call_of o command who)) ≡ None → Passed (right_project ∷ right_change ∷ asked command.function) (call_of o command who)
    go true e = cc
    go false e = passed (right_project ∷ right_change ∷ asked command.function) (call_of o command who) e

runs-name : (f : Function) (listing : Option Listing) → makes_runs f ≡ true → needs_change (row f) listing ≡ true
runs-name function.Build listing makes = refl
runs-name _ listing makes = cc

-- the change that is named is there
pub named-there : (o : Observation) (command : Command) (who : List ℕ) → IsFormed command → makes_runs command.function ≡ true → refused_before (Some o) command who ≡ None → (change : Change) × (change_named o command.change ≡ Some change)
named-there o command who formed makes none = some-found (change_named o command.change) (go command.change (change-there command formed.whole (runs-name command.function command.listing makes)) (tested (is_none command.change || is_some (option_and_then (change_at o) command.change)) NoSuchChange (passed-before o command who none).1.0))
  where
    go : (n : Option ℕ) → is_some n ≡ true → (is_none n || is_some (option_and_then (change_at o) n)) ≡ true → is_some (option_and_then (change_at o) n) ≡ true
    go (Some n) is there = there
    go None is there = absurd (false≢true is)

-- and there is a run to make
pub runs-there : (o : Observation) (command : Command) (who : List ℕ) (change : Change) → makes_runs command.function ≡ true → refused_before (Some o) command who ≡ None → change_named o command.change ≡ Some change
    → runs_asked (call_of o command who) (Some change) ≢ []
runs-there o command who change makes none named = go command.function refl makes (passed-before o command who none)
  where
    call : Call
    call = call_of o command who

    no-group : nat_eq (length (group call change)) 0 ≡ true → not (nat_eq (length (group call change)) 0) ≡ true → ⊥
    no-group is other = absurd (false≢true (sym (ap not is) ∙ other))

    go : (f : Function) → command.function ≡ f → makes_runs f ≡ true → Passed (right_project ∷ right_change ∷ asked f) (call_of o command who) → runs_asked (call_of o command who) (Some change) ≢ []
    go function.Build e m p nothing = let both = sym (ap (λ (f : Function). group_of f (call_of o command who) change) e) ∙ nothing in cc
    go function.Test e m p nothing =
        let is : group_is_there (call_of o command who) change ≡ None = sym (ap (option_and_then (group_is_there (call_of o command who))) named) ∙ p.1.1.1.1.0 in
        no-group (ap (λ (l : List Needed). nat_eq (length l) 0) nothing) (tested (not (nat_eq (length (group call change)) 0)) NoTest is)
    go _ e m p nothing = absurd (false≢true m)

-- ---- so there is a row

module _ (command : Needed → _) where
  none-asked : (needed : List Needed) (jobs : List Job) → AreJobs command needed jobs → jobs ≡ [] → needed ≡ []
  none-asked [] jobs are none = refl
  none-asked (n ∷ needed) [] are none = absurd are
  none-asked (n ∷ needed) (j ∷ jobs) are none = cc

no-jobs : (jobs : List Job) (rows : List RunRow) → rows ≡ [] → length rows ≡ length jobs → jobs ≡ []
no-jobs [] rows none same = refl
no-jobs (j ∷ jobs) rows none same = let both = ap length none ∙ refl in absurd (omega (arith, same, both))

no-end : (rows : List RunRow) → EndsUnclean rows → rows ≡ [] → ⊥
no-end [] ends none = ends
no-end (row ∷ rows) ends none = cc

-- ---- what it leaves

module _ (o : Observation) (bytes : ℕ → List ℕ) (called : Called) (makes : makes_runs called.command.function ≡ true) (formed : IsFormed called.command) (none : refused_before (Some o) called.command called.who ≡ None)
    (dir : Dir) (changes : List DirChange) (tracked : Rows) (jobs : List Job) (rows : List RunRow)
    (is_dir : dir ≡ dir_of_runs (given_at o bytes called).call (change_of (given_at o bytes called).call)) (are : AreForRuns (given_at o bytes called) changes tracked jobs)
    (ran : HaveRun dir changes (paths_of tracked) jobs rows called.before called.after) (group_is : IsGroup tracked jobs rows) (short : IsShortConfig (given_at o bytes called)) where
  abbrev given : Given
  given = given_at o bytes called

  some-asked : runs_asked given.call (change_of given.call) ≢ []
  some-asked =
      let there = named-there o called.command called.who formed makes none in
      subst (λ (c : Option Change). runs_asked given.call c ≢ []) (sym there.1) (runs-there o called.command called.who there.0 makes none there.1)

  some-rows : rows ≢ []
  some-rows nothing = elim group_is [
    | inl whole ↦ some-asked (none-asked (command_for given (change_of given.call)) (runs_asked given.call (change_of given.call)) jobs are.jobs_are (no-jobs jobs rows nothing whole.1))
    | inr ended ↦ no-end rows ended.1 nothing
  ]

  has : HasRun (given_at o bytes called) called ran.changed jobs rows
  has = record {
    none_before = ran.none_before;
    trees = ran.trees ∙ ap (λ (cs : List DirChange). dirs_after cs called.before.trees) are.changes_are;
    jobs_are = are.jobs_are;
    runs = subst (λ (d : Dir). RunsAre d (paths_of (tracked_in given (change_of given.call))) jobs rows ran.changed called.after) is_dir
        (subst (λ (r : Rows). RunsAre dir (paths_of r) jobs rows ran.changed called.after) are.tracked_are ran.runs);
    some = some-rows;
  }

  pub seen-with : view (Some o) bytes called ≡ record (given_at o bytes called).view { runs = rows }
  seen-with = (runs-are-real o bytes called ran.changed jobs rows has).1

  pub run-left : IsLeft (Some o) bytes called
  run-left = (
    (runs-are-real o bytes called ran.changed jobs rows has).0,
    runs-fit o bytes called ran.changed jobs rows has (subst (λ (r : Rows). IsGroup r jobs rows) are.tracked_are group_is) short,
  )
