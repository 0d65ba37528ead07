use Rattle.ae_log.proofs.SoundProject.{sound-start}
use Rattle.ae_base.proofs.Results.{if_ok_of_err}
use Rattle.ae_log.proofs.new_state.start.Goals as goal

pub of-requires : goal.of-requires
of-requires c = rw (c.in_ok-made_project.ensures, c.new.ensures, c.new-2.ensures, c.new-3.ensures, c.new-4.ensures) (sound-start _ _ _)

-- ---- where memory runs out

pub returns-in_err-made_project : goal.returns-in_err-made_project
returns-in_err-made_project c = if_ok_of_err c.from_residual.result _ _ c.from_residual.ensures.1
