use Rattle.std.proofs.Common.{◌≡◌, not, arith}
use Rattle.std.specs.Option.{is_some}
use Rattle.std.proofs.lemmas.Grind.{common_steps}
use Rattle.ae_base.proofs.Results.{on_ok_of_err}
use Rattle.ae_list.proofs.files.put_file.Goals as goal

pub returns : goal.returns
returns c =
    let tested : is_some c.in-Some.entry.now.version ≡ not c.is_none.result = c.is_none.ensures in
    grind (arith, common_steps)

-- ---- where memory runs out

pub returns-in_err-put_left : goal.returns-in_err-put_left
returns-in_err-put_left c = on_ok_of_err c.from_residual.result _ _ c.from_residual.ensures.1

pub returns-in_err-put_blank : goal.returns-in_err-put_blank
returns-in_err-put_blank c = on_ok_of_err c.from_residual-in_err-put_blank.result _ _ c.from_residual-in_err-put_blank.ensures.1

pub returns-in_err-put_number_column : goal.returns-in_err-put_number_column
returns-in_err-put_number_column c = on_ok_of_err c.from_residual-in_err-put_number_column.result _ _ c.from_residual-in_err-put_number_column.ensures.1
