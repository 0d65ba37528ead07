use Rattle.ae_log.proofs.AppliedSteps.{added-apart}
use Rattle.ae_base.proofs.Results.{on_ok_of_err}
use Rattle.ae_log.proofs.project.alter_project.Goals as goal

pub add_user-requires : goal.add_user-requires
add_user-requires c =
    let differ = rw (c.in-RoleAdd.is) at c.requires.differ in
    rw (c.in_ok-copy-in-RoleAdd.ensures) (added-apart c.args.project.now c.in-RoleAdd.role c.in-RoleAdd.user (differ c.in-RoleAdd.role))

-- ---- where memory runs out

pub returns-in_err-project-in-Attributes : goal.returns-in_err-project-in-Attributes
returns-in_err-project-in-Attributes c = on_ok_of_err c.from_residual.result _ _ c.from_residual.ensures.1

pub returns-in_err-add_delta-in-IPass : goal.returns-in_err-add_delta-in-IPass
returns-in_err-add_delta-in-IPass c = on_ok_of_err c.from_residual-in_err-add_delta-in-IPass.result _ _ c.from_residual-in_err-add_delta-in-IPass.ensures.1

pub returns-in_err-add_user-in-RoleAdd : goal.returns-in_err-add_user-in-RoleAdd
returns-in_err-add_user-in-RoleAdd c = on_ok_of_err c.from_residual-in_err-add_user-in-RoleAdd.result _ _ c.from_residual-in_err-add_user-in-RoleAdd.ensures.1

pub returns-in_err-copy-in-RoleAdd : goal.returns-in_err-copy-in-RoleAdd
returns-in_err-copy-in-RoleAdd c = on_ok_of_err c.from_residual-in_err-copy-in-RoleAdd.result _ _ c.from_residual-in_err-copy-in-RoleAdd.ensures.1
