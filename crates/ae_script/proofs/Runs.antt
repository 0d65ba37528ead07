-- Steps of the log machine, one after another, and the log that is read after them.
use Rattle.std.specs.Prelude.{◌≡◌, ℕ, true, false, Bool, List, [], ◌∷◌, ◌++◌}
use Rattle.std.proofs.Common.{refl, sym, ap, ◌∙◌}
use Rattle.ae_base.specs.declared.outcome.Outcome.{Outcome}
use Rattle.ae_base.specs.declared.outcome.Outcome.TheVariants.{Done, RunFailed, Refused, DiskFault, Memory}
use Rattle.ae_lines.specs.declared.line.Line.{Line}
use Rattle.ae_lines.specs.declared.line.Line.TheVariants.{Nothing, As, At, Do, Put, Fill, Remove}
use Rattle.ae_log.specs.Log.{Log}
use Rattle.ae_machine.specs.Called.{Called, answer_after}
use Rattle.ae_machine.specs.declared.verdict.Verdict.{Verdict}
use Rattle.ae_machine.specs.declared.verdict.Verdict.TheVariants.{Accept, Refuse}
use Rattle.ae_exec.specs.Said.{a_run_failed}
use Rattle.ae_exec.specs.Step.{outcome_done, outcome_of_answer}
use Rattle.ae_script.specs.Steps.{Point, LineDone, CommandEnds, answered, disk_fault, site_fault, memory, Does, DoesLine, Runs, stop, reached, reached_by}
use Rattle.ae_script.specs.declared.manner.Manner.{Manner}
use Rattle.ae_script.proofs.Along.{last_log}

-- ---- one line more

pub stop_more : (from : Point) (done : List LineDone) (d : LineDone) → stop from (done ++ d ∷ []) ≡ d.to
stop_more from [] d = refl
stop_more from (e ∷ more) d = stop_more e.to more d

module _ (manner : Manner) where
  pub runs_more : (from : Point) (done : List LineDone) (d : LineDone) → Runs manner from done → Does manner (stop from done) d → Runs manner from (done ++ d ∷ [])
  runs_more from [] d runs does = (does, tt)
  runs_more from (e ∷ more) d runs does = (runs.0, runs_more e.to more d runs.1 does)

  -- ---- the log that is read

  -- any line but a command leaves the log
  pub log_after : (line : Line) (from : Point) (d : LineDone) → DoesLine manner line from d → last_log from.log (reached_by line d) ≡ d.to.log
  log_after Nothing from d does = ap (λ (p : Point). p.log) (sym does.to)
  log_after (As user) from d does = ap (λ (p : Point). p.log) (sym does.to)
  log_after (At moment) from d does = ap (λ (p : Point). p.log) (sym does.to)
  log_after (Do command) from d does = refl
  log_after (Put dir path text) from d does = ap (λ (p : Point). p.log) (sym does.to)
  log_after (Fill dir path count byte) from d does = ap (λ (p : Point). p.log) (sym does.to)
  log_after (Remove dir path) from d does = ap (λ (p : Point). p.log) (sym does.to)

  last_more : (log : Log) (first second : List (Bool × Log)) → last_log log (first ++ second) ≡ last_log (last_log log first) second
  last_more log [] second = refl
  last_more log ((fault, next) ∷ more) second = last_more next more second

  pub last_is_stop : (from : Point) (done : List LineDone) → Runs manner from done → last_log from.log (reached done) ≡ (stop from done).log
  last_is_stop from [] runs = refl
  last_is_stop from (d ∷ more) runs =
      last_more from.log (reached_by d.line d) (reached more)
      ∙ ap (λ (l : Log). last_log l (reached more)) (log_after d.line from d runs.0)
      ∙ last_is_stop d.to more runs.1

  -- running out of memory leaves it
  never_wants : (failed : Bool) → outcome_done failed ≡ Memory → ⊥
  never_wants true is = absurd (let both : RunFailed ≡ Memory = is in cc)
  never_wants false is = absurd (let both : Done ≡ Memory = is in cc)

  not_memory : (answer : Verdict) → outcome_of_answer answer ≡ Memory → ⊥
  not_memory (Accept events) is = never_wants (a_run_failed events) is
  not_memory (Refuse refusal) is = absurd (let both : Refused refusal ≡ Memory = is in cc)

  command_memory : (log next : Log) (called : Called) (outcome : Outcome) (said : List ℕ) → CommandEnds log called outcome next said → outcome ≡ Memory → next ≡ log
  command_memory log _ called _ _ answered is = absurd (not_memory (answer_after log called) is)
  command_memory log _ called _ _ disk_fault is = absurd (let both : DiskFault ≡ Memory = is in cc)
  command_memory log _ called _ _ site_fault is = refl
  command_memory log _ called _ _ memory is = refl

  memory_after : (line : Line) (from : Point) (d : LineDone) → DoesLine manner line from d → d.outcome ≡ Memory → d.to.log ≡ from.log
  memory_after Nothing from d does is = ap (λ (p : Point). p.log) does.to
  memory_after (As user) from d does is = ap (λ (p : Point). p.log) does.to
  memory_after (At moment) from d does is = ap (λ (p : Point). p.log) does.to
  memory_after (Do command) from d does is = (command_memory from.log d.to.log _ d.outcome does.said does.ends is)
  memory_after (Put dir path text) from d does is = ap (λ (p : Point). p.log) does.to
  memory_after (Fill dir path count byte) from d does is = ap (λ (p : Point). p.log) does.to
  memory_after (Remove dir path) from d does is = ap (λ (p : Point). p.log) does.to

  pub memory_same : (from : Point) (d : LineDone) → Does manner from d → d.outcome ≡ Memory → d.to.log ≡ from.log
  memory_same from d does is = memory_after d.line from d does is
