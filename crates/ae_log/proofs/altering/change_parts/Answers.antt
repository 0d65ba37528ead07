use Rattle.ae_base.proofs.Results.{on_ok_of_err}
use Rattle.ae_log.proofs.altering.change_parts.Goals as goal

-- ---- where memory runs out

pub returns-in_err-copy-in-ChangeAttributes : goal.returns-in_err-copy-in-ChangeAttributes
returns-in_err-copy-in-ChangeAttributes c = on_ok_of_err c.from_residual.result _ _ c.from_residual.ensures.1

pub returns-in_err-copy-in-Begin : goal.returns-in_err-copy-in-Begin
returns-in_err-copy-in-Begin c = on_ok_of_err c.from_residual-in_err-copy-in-Begin.result _ _ c.from_residual-in_err-copy-in-Begin.ensures.1

pub returns-in_err-add_file-in-File : goal.returns-in_err-add_file-in-File
returns-in_err-add_file-in-File c = on_ok_of_err c.from_residual-in_err-add_file-in-File.result _ _ c.from_residual-in_err-add_file-in-File.ensures.1

pub returns-in_err-row_of_run-in-Run : goal.returns-in_err-row_of_run-in-Run
returns-in_err-row_of_run-in-Run c = on_ok_of_err c.from_residual-in_err-row_of_run-in-Run.result _ _ c.from_residual-in_err-row_of_run-in-Run.ensures.1

pub returns-in_err-note_run-in-Run : goal.returns-in_err-note_run-in-Run
returns-in_err-note_run-in-Run c = on_ok_of_err c.from_residual-in_err-note_run-in-Run.result _ _ c.from_residual-in_err-note_run-in-Run.ensures.1

pub returns-in_err-copy-in-ReviewBegin : goal.returns-in_err-copy-in-ReviewBegin
returns-in_err-copy-in-ReviewBegin c = on_ok_of_err c.from_residual-in_err-copy-in-ReviewBegin.result _ _ c.from_residual-in_err-copy-in-ReviewBegin.ensures.1

pub returns-in_err-copy-in-Pass : goal.returns-in_err-copy-in-Pass
returns-in_err-copy-in-Pass c = on_ok_of_err c.from_residual-in_err-copy-in-Pass.result _ _ c.from_residual-in_err-copy-in-Pass.ensures.1

pub returns-in_err-copy-in-IBegin : goal.returns-in_err-copy-in-IBegin
returns-in_err-copy-in-IBegin c = on_ok_of_err c.from_residual-in_err-copy-in-IBegin.result _ _ c.from_residual-in_err-copy-in-IBegin.ensures.1
