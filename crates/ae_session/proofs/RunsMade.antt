-- The runs that lines made: one for each build that is done.
use Rattle.std.specs.Prelude.{◌≢◌, replicate}
use Rattle.std.proofs.Common.{◌≡◌, ◌≤◌, ◌+◌, ◌∙◌, ℕ, Bool, true, false, List, [], ◌∷◌, Option, Some, None, Result, length, map, refl, sym, ap, subst, arith}
use Rattle.std.proofs.lemmas.List.{length-append}
use Rattle.ae_base.specs.declared.outcome.Outcome.{Outcome}
use Rattle.ae_base.specs.declared.outcome.Outcome.TheVariants.{Done}
use Rattle.ae_base.specs.declared.refusal.Refusal.{Refusal}
use Rattle.ae_outside.specs.declared.dir.Dir.{Dir}
use Rattle.ae_outside.specs.Site.{RunMade, SiteState}
use Rattle.ae_lines.specs.declared.line.Line.{Line}
use Rattle.ae_lines.specs.declared.line.Line.TheVariants.{Nothing, As, At, Do, Put, Fill, Remove}
use Rattle.ae_types.specs.declared.change.Change.{Change}
use Rattle.ae_types.specs.Observation.{Observation}
use Rattle.ae_types.specs.Runs.{Needed}
use Rattle.ae_log.specs.Files.{version_bytes}
use Rattle.ae_log.specs.Log.{Log}
use Rattle.ae_log.specs.Observed.{observation}
use Rattle.ae_words.specs.declared.command.Command.{Command}
use Rattle.ae_words.specs.declared.table.Function.{Function}
use Rattle.ae_words.specs.declared.table.Function.TheVariants as function
use Rattle.ae_base.specs.Rows.{paths_of}
use Rattle.ae_machine.specs.Call.{Call, change_of}
use Rattle.ae_machine.specs.Called.{Called, answer_to, answer_after, given_at, new_runs, rows_of}
use Rattle.ae_machine.specs.Fits.{makes_runs, runs_asked, tracked_in}
use Rattle.ae_machine.specs.Real.{AreMade, IsLeft, command_for, dir_of_runs}
use Rattle.ae_machine.specs.Verdict.{is_new_project}
use Rattle.ae_exec.specs.Step.{outcome_of_answer}
use Rattle.ae_script.specs.Manner.{is_done}
use Rattle.ae_script.specs.Steps.{Point, LineDone, CommandEnds, answered, disk_fault, site_fault, memory, EditEnds, edited, edit_fault, edit_memory, DoesCommand, DoesLine, Runs, AllLeadOn, stop, called_from}
use Rattle.ae_script.specs.declared.manner.Manner.TheVariants.{Generator}
use Rattle.ae_script.proofs.Telling.{done_is}
use Rattle.ae_session.specs.Summary.{MakesRuns, builds_by, builds_in, is_test, tests_by}

-- ---- functions

build_none : (f : Function) → makes_runs f ≡ false → builds_by f ≡ 0
build_none function.Build is = absurd (let both : true ≡ false = is in cc)
build_none _ is = refl

only_builds : (f : Function) → makes_runs f ≡ true → tests_by f ≡ false → f ≡ function.Build
only_builds function.Build is other = refl
only_builds function.Test is other = absurd (let both : true ≡ false = other in cc)
only_builds _ is other = absurd (let both : false ≡ true = is in cc)

-- ---- a build that is done

few_asked : (call : Call) (change : Option Change) → call.command.function ≡ function.Build → length (runs_asked call change) ≤ 1
few_asked call None is = omega arith
few_asked call (Some change) is = subst (λ (f : Function). length (Rattle.ae_machine.specs.Runs.group_of f call change) ≤ 1) (sym is) (omega arith)

made_one : (dir : Dir) (command : Needed → Result (List ℕ) Refusal) (paths : List (List ℕ)) (asked : List Needed) (made : List RunMade) → length asked ≤ 1 → AreMade dir command asked made → rows_of paths asked made ≢ [] → length made ≡ 1
made_one dir command paths [] [] few are some = absurd (some refl)
made_one dir command paths [] (m ∷ ms) few are some = absurd are
made_one dir command paths (n ∷ []) [] few are some = absurd (some refl)
made_one dir command paths (n ∷ []) (m ∷ []) few are some = refl
made_one dir command paths (n ∷ []) (m ∷ m2 ∷ ms) few are some = absurd are.2
made_one dir command paths (n ∷ n2 ∷ ns) made few are some = absurd (omega (arith, few))

module _ (called : Called) (is_build : called.command.function ≡ function.Build) where
  left_one : (o : Option Observation) (bytes : ℕ → List ℕ) → is_done (outcome_of_answer (answer_to o bytes called)) ≡ true → IsLeft o bytes called → length called.after.runs ≡ length called.before.runs + 1
  left_one None bytes done left = absurd (refused (is_new_project called.command.function) (ap is_new_project is_build) done)
    where
      refused : (b : Bool) → b ≡ false → is_done (outcome_of_answer (answer_to None bytes called)) ≡ true → ⊥
      refused b is accepted = let both : false ≡ true = sym (ap (λ (f : Function). is_done (outcome_of_answer (answer_to None bytes (record called { command = record called.command { function = f } })))) is_build) ∙ accepted in absurd (cc both)
  left_one (Some o) bytes done left =
      ap length left.0.runs ∙ length-append called.before.runs (new_runs called) ∙ ap (λ (n : ℕ). length called.before.runs + n) one
    where
      one : length (new_runs called) ≡ 1
      one = made_one (dir_of_runs (given_at o bytes called).call (change_of (given_at o bytes called).call)) (command_for (given_at o bytes called) (change_of (given_at o bytes called).call)) (paths_of (tracked_in (given_at o bytes called) (change_of (given_at o bytes called).call)))
          (runs_asked (given_at o bytes called).call (change_of (given_at o bytes called).call)) (new_runs called) (few_asked (given_at o bytes called).call (change_of (given_at o bytes called).call) is_build) left.0.made (left.1.1.some (ap makes_runs is_build))

-- ---- a line

answer_done : (log : Log) (called : Called) (o : Outcome) (next : Log) (said : List ℕ) → CommandEnds log called o next said → is_done o ≡ true → is_done (outcome_of_answer (answer_after log called)) ≡ true
answer_done log called _ _ _ answered done = done
answer_done log called _ _ _ disk_fault done = absurd (let both : false ≡ true = done in cc)
answer_done log called _ _ _ site_fault done = absurd (let both : false ≡ true = done in cc)
answer_done log called _ _ _ memory done = absurd (let both : false ≡ true = done in cc)

edit_runs : (dir : Dir) (path : List ℕ) (bytes : Option (List ℕ)) (old new : SiteState) (o : Outcome) (text : List ℕ) → EditEnds dir path bytes old new o text → is_done o ≡ true → new.runs ≡ old.runs
edit_runs dir path bytes old new _ _ (edited is) done = is.only.runs
edit_runs dir path bytes old new _ _ (edit_fault only) done = only.runs
edit_runs dir path bytes old new _ _ (edit_memory same) done = ap (λ (s : SiteState). s.runs) same

command_runs : (from : Point) (command : Command) (d : LineDone) → DoesCommand Generator from command d → is_done d.outcome ≡ true → tests_by command.function ≡ false
    → length d.to.site.runs ≡ length from.site.runs + builds_by command.function
command_runs from command d does done other = go (makes_runs command.function) refl
  where
    is : d.outcome ≡ Done
    is = done_is d.outcome done

    go : (b : Bool) → makes_runs command.function ≡ b → length d.to.site.runs ≡ length from.site.runs + builds_by command.function
    go false quiet = ap length (does.directories.own.runs quiet) ∙ (let none = build_none command.function quiet in omega (arith, none))
    go true makes =
        let build = only_builds command.function makes other in
        let one : builds_by command.function ≡ 1 = ap builds_by build in
        left_one (called_from from command d.to) build (observation from.log) (version_bytes from.log) (answer_done from.log (called_from from command d.to) d.outcome d.to.log does.said does.ends done)
        (does.left (subst Rattle.ae_exec.specs.Directories.IsDone (sym is) tt)) ∙ ap (λ (n : ℕ). length from.site.runs + n) (sym one)

line_runs : (line : Line) (from : Point) (d : LineDone) → DoesLine Generator line from d → is_done d.outcome ≡ true → is_test line ≡ false → length d.to.site.runs ≡ length from.site.runs + builds_in line
line_runs Nothing from d does done other = ap (λ (p : Point). length p.site.runs) does.to ∙ omega arith
line_runs (As user) from d does done other = ap (λ (p : Point). length p.site.runs) does.to ∙ omega arith
line_runs (At moment) from d does done other = ap (λ (p : Point). length p.site.runs) does.to ∙ omega arith
line_runs (Do command) from d does done other = command_runs from command d does done other
line_runs (Put dir path text) from d does done other = ap length (edit_runs dir path (Some text) from.site d.to.site d.outcome d.text does.ends done) ∙ omega arith
line_runs (Fill dir path count byte) from d does done other = ap length (edit_runs dir path (Some (replicate count byte)) from.site d.to.site d.outcome d.text does.ends done) ∙ omega arith
line_runs (Remove dir path) from d does done other = ap length (edit_runs dir path None from.site d.to.site d.outcome d.text does.ends done) ∙ omega arith

pub runs_made : (from : Point) (done : List LineDone) → Runs Generator from done → AllLeadOn Generator done → MakesRuns from.site (stop from done).site (map (λ (x : LineDone). x.line) done)
runs_made from [] runs all none = omega arith
runs_made from (d ∷ more) runs all none =
    let one = line_runs d.line from d runs.0 all.0 none.0 in
    let others = runs_made d.to more runs.1 all.1 none.1 in
    omega (arith, one, others)
