use Rattle.std.proofs.Common.{List, length, ap, sym, ◌∙◌, subst, ◌≤◌}
use Rattle.ae_outside.specs.Trees.{Tree}
use Rattle.ae_memory.specs.FileRows.{tree_of}
use Rattle.ae_memory.specs.Scripts.{exit_of, after_of, run_over}
use Rattle.ae_memory.proofs.ScriptLaws.{exit_at, exit_past, after_at, after_past}
use Rattle.ae_memory.specs.declared.site_run.MemRun.{MemRun}
use Rattle.ae_memory.proofs.site.runs_at.Goals as goal

pub returns-then-place-runs-clause-exit : goal.returns-then-place-runs-clause-exit
returns-then-place-runs-clause-exit c = sym (exit_past c.args.script.now c.args.place (subst (λ (l : List MemRun). length l ≤ c.args.place) c.as_slice-runs.ensures c.if-place-runs.true))

pub returns-then-place-runs-clause-after : goal.returns-then-place-runs-clause-after
returns-then-place-runs-clause-after c = sym (after_past c.args.script.now c.args.place _ (subst (λ (l : List MemRun). length l ≤ c.args.place) c.as_slice-runs.ensures c.if-place-runs.true))

pub returns-clause-exit : goal.returns-clause-exit
returns-clause-exit c = let run : MemRun = c.index-runs-place-2.result in sym (exit_at c.as_slice-runs.result.now c.args.place run c.if-place-runs.false) ∙ ap (λ (l : List MemRun). exit_of l c.args.place) c.as_slice-runs.ensures

pub returns-clause-after : goal.returns-clause-after
returns-clause-after c =
    let run : MemRun = c.index-runs-place.result in
    let old : Tree = tree_of c.args.files.now.items c.args.dir.now in
    c.in_ok-run_over_files.ensures.here
    ∙ ap (λ (r : MemRun). run_over r old) c.index-runs-place.is
    ∙ sym (after_at c.as_slice-runs.result.now c.args.place run old c.if-place-runs.false)
    ∙ ap (λ (l : List MemRun). after_of l c.args.place old) c.as_slice-runs.ensures
