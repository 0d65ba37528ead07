use Rattle.std.proofs.Math.Nat.{le_trans}
use Rattle.std.proofs.Common.{◌∙◌, rules, ◌≡◌, inl, inr, ap, Err}
use Rattle.ae_base.proofs.Results.{err_is}
use Rattle.ae_outside.proofs.Rising.{risen_later}
use Rattle.ae_exec.specs.Stopping.{stop_of_dirs, stop_of_site}
use Rattle.ae_exec.proofs.Endings.{site_ends}
use Rattle.ae_exec.proofs.OwnDirs.{dirs_ends}
use Rattle.ae_exec.proofs.seeing.see_files.Goals as goal

pub returns-in_err-view-clause-stopped : goal.returns-in_err-view-clause-stopped
returns-in_err-view-clause-stopped g c =
    let is : c.from_residual.result ≡ Err (stop_of_site c.in_err-view.field-0.0) = err_is _ _ c.from_residual.ensures.1 in
    rw is (site_ends c.in_err-view.field-0.0 (λ failed. (c.in_err-view.ensures.cause.rose (ap Err failed), inl (let asked = c.in_err-view.ensures.asked (ap Err failed) in search rules))))

pub returns-in_err-rows-clause-stopped : goal.returns-in_err-rows-clause-stopped
returns-in_err-rows-clause-stopped g c =
    let is : c.from_residual-in_err-rows.result ≡ Err (stop_of_dirs c.in_err-rows.field-0.0) = err_is _ _ c.from_residual-in_err-rows.ensures.1 in
    rw is (dirs_ends c.in_err-rows.field-0.0 (λ failed. (risen_later _ _ _ c.look.ensures.cause.later (c.in_err-rows.ensures.cause.rose (ap Err failed)), inr (c.in_err-rows.ensures.asked (ap Err failed)))))

-- ---- what follows from the calls alone

pub returns-in_err-rows-clause-same : goal.returns-in_err-rows-clause-same
returns-in_err-rows-clause-same g c = λ told. c.read_files.ensures.same told ∙ c.look.ensures.same told

pub returns-in_err-rows-clause-later : goal.returns-in_err-rows-clause-later
returns-in_err-rows-clause-later g c = le_trans c.look.ensures.cause.later c.read_files.ensures.cause.later

pub returns-clause-same : goal.returns-clause-same
returns-clause-same g c = λ told. c.read_files.ensures.same told ∙ c.look.ensures.same told

pub returns-clause-later : goal.returns-clause-later
returns-clause-later g c = le_trans c.look.ensures.cause.later c.read_files.ensures.cause.later

pub returns-in_err-view-clause-same : goal.returns-in_err-view-clause-same
returns-in_err-view-clause-same g c = c.look.ensures.same

pub returns-in_err-view-clause-later : goal.returns-in_err-view-clause-later
returns-in_err-view-clause-later g c = c.look.ensures.cause.later
