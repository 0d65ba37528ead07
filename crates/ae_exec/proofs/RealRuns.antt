-- The runs of a build or a test are real.
use Rattle.std.specs.Prelude.{◌≡◌, ◌≢◌, ℕ, List, [], ◌∷◌, ◌++◌, length, drop, Result, Ok, refl}
use Rattle.std.proofs.Common.{sym, ap, subst, ◌∙◌}
use Rattle.ae_base.specs.Rows.{paths_of}
use Rattle.ae_base.specs.declared.refusal.Refusal.{Refusal}
use Rattle.ae_outside.specs.declared.dir.Dir.{Dir}
use Rattle.ae_outside.specs.Site.{RunMade}
use Rattle.ae_outside.specs.Trees.{Tree}
use Rattle.ae_types.specs.Runs.{Needed}
use Rattle.ae_machine.specs.Call.{Given, change_of}
use Rattle.ae_machine.specs.Called.{given_at, new_runs, row_of, rows_of}
use Rattle.ae_machine.specs.Directories.{dirs}
use Rattle.ae_machine.specs.Fits.{runs_asked, tracked_in}
use Rattle.ae_machine.specs.Real.{AreMade, command_for, dir_of_runs}
use Rattle.ae_evidence.specs.Made.{LeadTo}
use Rattle.ae_evidence.specs.declared.runs.Job.{Job}
use Rattle.ae_evidence.specs.declared.runs.RunRow.{RunRow}
use Rattle.ae_machine.specs.Jobs.{IsJob, AreJobs}
use Rattle.ae_exec.specs.Jobs.{RunsAreReal}
use Rattle.ae_dirs.specs.Runs.{IsRun, AreRuns}

drop_front : (xs ys : List RunMade) → drop (length xs) (xs ++ ys) ≡ ys
drop_front [] ys = refl
drop_front (x ∷ xs) ys = drop_front xs ys

module _ (dir : Dir) (paths : List (List ℕ)) (command : Needed → Result (List ℕ) Refusal) where
  row-is : (needed : Needed) (job : Job) (made : RunMade) (row : RunRow) → IsJob command needed job → IsRun dir paths job made row → row ≡ row_of paths needed made
  row-is needed job made row is run = λ i. record {
    kind = (run.kind ∙ is.kind) i;
    path = (run.path ∙ is.path) i;
    exit = run.exit i;
    before = run.before i;
    after = run.after i;
  }

  -- the rows are those of the runs that were asked for
  pub rows-are : (needed : List Needed) (jobs : List Job) (made : List RunMade) (rows : List RunRow) → AreJobs command needed jobs → AreRuns dir paths jobs made rows → rows ≡ rows_of paths needed made
  rows-are [] [] [] [] jobs_are are = refl
  rows-are (n ∷ needed) (j ∷ jobs) [] [] jobs_are are = refl
  rows-are (n ∷ needed) (j ∷ jobs) (m ∷ made) (r ∷ rows) jobs_are are = λ i. row-is n j m r jobs_are.0 are.0 i ∷ rows-are needed jobs made rows jobs_are.1 are.1 i
  rows-are [] [] [] (r ∷ rows) jobs_are are = absurd are
  rows-are [] [] (m ∷ made) [] jobs_are are = absurd are
  rows-are [] [] (m ∷ made) (r ∷ rows) jobs_are are = absurd are
  rows-are (n ∷ needed) (j ∷ jobs) [] (r ∷ rows) jobs_are are = absurd are
  rows-are (n ∷ needed) (j ∷ jobs) (m ∷ made) [] jobs_are are = absurd are
  rows-are [] (j ∷ jobs) made rows jobs_are are = absurd jobs_are
  rows-are (n ∷ needed) [] made rows jobs_are are = absurd jobs_are

  -- each was made there, with its command
  pub made-are : (needed : List Needed) (jobs : List Job) (made : List RunMade) (rows : List RunRow) → AreJobs command needed jobs → AreRuns dir paths jobs made rows → AreMade dir command needed made
  made-are needed jobs [] rows jobs_are are = tt
  made-are (n ∷ needed) (j ∷ jobs) (m ∷ made) (r ∷ rows) jobs_are are = (are.0.there, jobs_are.0.command_is ∙ ap Ok (sym are.0.command), made-are needed jobs made rows jobs_are.1 are.1)
  made-are [] [] (m ∷ made) [] jobs_are are = absurd are
  made-are [] [] (m ∷ made) (r ∷ rows) jobs_are are = absurd are
  made-are (n ∷ needed) (j ∷ jobs) (m ∷ made) [] jobs_are are = absurd are
  made-are [] (j ∷ jobs) (m ∷ made) rows jobs_are are = absurd jobs_are
  made-are (n ∷ needed) [] (m ∷ made) rows jobs_are are = absurd jobs_are

  -- rows come of runs
  pub some-made : (jobs : List Job) (made : List RunMade) (rows : List RunRow) → AreRuns dir paths jobs made rows → rows ≢ [] → made ≢ []
  some-made jobs made [] are some none = some refl
  some-made [] [] (r ∷ rows) are some none = are
  some-made (j ∷ jobs) [] (r ∷ rows) are some none = are
  some-made jobs (m ∷ made) (r ∷ rows) are some none = cc

pub runs-are-real : RunsAreReal
runs-are-real o bytes called changed jobs rows has = (
  record {
    runs = grown ∙ ap (λ (l : List RunMade). called.before.runs ++ l) (sym is);
    made = subst (λ (l : List RunMade). AreMade dir command asked l) (sym is) made;
    lead = subst (λ (l : List RunMade). LeadTo (called.after.trees dir) (dirs given called.before.trees dir) l) (sym is)
        (subst (λ (trees : Dir → Tree). LeadTo (called.after.trees dir) (trees dir) has.runs.made) has.trees has.runs.lead);
    trees = λ none. absurd (some-made dir paths command jobs has.runs.made rows has.runs.are has.some (sym is ∙ none));
  },
  λ i. record given.view { runs = seen i },
)
  where
    given : Given
    given = given_at o bytes called

    dir : Dir
    dir = dir_of_runs given.call (change_of given.call)

    paths : List (List ℕ)
    paths = paths_of (tracked_in given (change_of given.call))

    command : Needed → Result (List ℕ) Refusal
    command = command_for given (change_of given.call)

    asked : List Needed
    asked = runs_asked given.call (change_of given.call)

    grown : called.after.runs ≡ called.before.runs ++ has.runs.made
    grown = has.runs.runs ∙ ap (λ (l : List RunMade). l ++ has.runs.made) has.none_before

    is : new_runs called ≡ has.runs.made
    is = ap (drop (length called.before.runs)) grown ∙ drop_front called.before.runs has.runs.made

    made : AreMade dir command asked has.runs.made
    made = made-are dir paths command asked jobs has.runs.made rows has.jobs_are has.runs.are

    seen : rows_of paths asked (new_runs called) ≡ rows
    seen = ap (rows_of paths asked) is ∙ sym (rows-are dir paths command asked jobs has.runs.made rows has.jobs_are has.runs.are)
