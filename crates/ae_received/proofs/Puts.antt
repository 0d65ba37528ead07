-- A file of a plan that is put: it lies at its path, and all else is as it was.
use Rattle.std.proofs.Common.{◌≡◌, ℕ, ap, List, Option, Some}
use Rattle.ae_base.specs.declared.outcome.Outcome.{Outcome}
use Rattle.ae_base.specs.declared.outcome.Outcome.TheVariants.{Done}
use Rattle.ae_lines.specs.declared.act.Act.TheVariants.{Put}
use Rattle.ae_outside.specs.Site.{SiteState}
use Rattle.ae_outside.specs.Trees.{with_file}
use Rattle.ae_outside.specs.declared.dir.Dir.{Dir}
use Rattle.ae_script.specs.Steps.{EditEnds, IsEdited, LineDone, Point, edit_fault, edit_memory, edited}
use Rattle.ae_received.proofs.Acts.{RunsAct}

was-edited : (dir : Dir) (path : List ℕ) (bytes : Option (List ℕ)) (old new : SiteState) (outcome : Outcome) (text : List ℕ) → EditEnds dir path bytes old new outcome text → outcome ≡ Done → IsEdited dir path bytes old new
was-edited dir path bytes old new _ _ (edited is) done = is
was-edited dir path bytes old new _ _ (edit_fault only) done = absurd (cc done)
was-edited dir path bytes old new _ _ (edit_memory same) done = absurd (cc done)

-- where it led
pub record PutLeads (from : Point) (dir : Dir) (path bytes : List ℕ) (step : LineDone) : Type 0 where
  pub log : step.to.log ≡ from.log
  pub who : step.to.who ≡ from.who
  pub there : step.to.site.trees dir ≡ with_file path (Some bytes) (from.site.trees dir)

pub put-leads : (from : Point) (dir : Dir) (path bytes : List ℕ) (step : LineDone) → RunsAct from (Put dir path bytes) step → PutLeads from dir path bytes step
put-leads from dir path bytes step run = record {
  log = ap (λ (p : Point). p.log) run.does.to;
  who = ap (λ (p : Point). p.who) run.does.to;
  there = (was-edited dir path (Some bytes) from.site step.to.site step.outcome step.text run.does.ends run.done).there;
}
