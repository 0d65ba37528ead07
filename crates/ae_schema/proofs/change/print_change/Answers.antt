use Rattle.ae_schema.specs.Files.{change_fields}
use Rattle.ae_schema.specs.declared.format.Format.TheVariants.{Two}
use Rattle.ae_schema.proofs.Fine.{change_well_formed}
use Rattle.ae_schema.proofs.Put.{lines_again}
use Rattle.ae_schema.proofs.change.print_change.Goals as goal

pub returns-clause-value : goal.returns-clause-value
returns-clause-value c = (rw c.new-out.ensures.items at c.in_ok-put_change.ensures.put).text

pub returns-clause-again : goal.returns-clause-again
returns-clause-again c =
    let value = c.args.change.now in
    lines_again (change_fields Two value) _ (change_well_formed value) (rw c.new-out.ensures.items at c.in_ok-put_change.ensures.put)
