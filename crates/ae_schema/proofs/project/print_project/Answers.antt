use Rattle.ae_schema.specs.Files.{project_fields}
use Rattle.ae_schema.specs.declared.format.Format.TheVariants.{Two}
use Rattle.ae_schema.proofs.Fine.{project_well_formed}
use Rattle.ae_schema.proofs.Put.{lines_again}
use Rattle.ae_schema.proofs.project.print_project.Goals as goal

pub returns-clause-value : goal.returns-clause-value
returns-clause-value c = (rw c.new-out.ensures.items at c.in_ok-put_project.ensures.put).text

pub returns-clause-again : goal.returns-clause-again
returns-clause-again c =
    lines_again (project_fields Two (c.args.project.now, c.args.numbers.now)) _
    (project_well_formed (c.args.project.now, c.args.numbers.now)) (rw c.new-out.ensures.items at c.in_ok-put_project.ensures.put)
