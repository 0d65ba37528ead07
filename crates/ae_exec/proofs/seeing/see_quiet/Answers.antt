use Rattle.std.proofs.Common.{rules, ◌≡◌, ◌∙◌, inl, ap, sym, subst, List, ℕ, All, Option, Some, Err}
use Rattle.std.specs.Prelude.{option_copied}
use Rattle.std.proofs.lemmas.List.Elements.{All-nil}
use Rattle.std.proofs.lemmas.Result.{IfOk-weaker}
use Rattle.ae_base.proofs.Results.{err_is}
use Rattle.ae_base.specs.Limits.{most_file_bytes}
use Rattle.ae_outside.specs.Site.{IsAtMost}
use Rattle.ae_outside.specs.declared.dir.Content.{Content}
use Rattle.ae_types.specs.Observation.{Observation}
use Rattle.ae_machine.specs.Called.{called}
use Rattle.ae_exec.specs.Seen.{seen_alone}
use Rattle.ae_exec.specs.Stopping.{stop_of_site}
use Rattle.ae_exec.proofs.Endings.{site_ends}
use Rattle.ae_exec.proofs.seeing.see_quiet.Goals as goal

pub returns-in_err-look-in-None-clause-stopped : goal.returns-in_err-look-in-None-clause-stopped
returns-in_err-look-in-None-clause-stopped g c =
    let is : c.from_residual.result ≡ Err (stop_of_site c.in_err-look-in-None.field-0.0) = err_is _ _ c.from_residual.ensures.1 in
    rw is (site_ends c.in_err-look-in-None.field-0.0 (λ failed. (c.in_err-look-in-None.ensures.cause.rose (ap Err failed), inl (let asked = c.in_err-look-in-None.ensures.asked (ap Err failed) in search rules))))

pub returns-in-Some-clause-seen : goal.returns-in-Some-clause-seen
returns-in-Some-clause-seen g c =
    let there : option_copied c.args.old ≡ Some c.in-Some.state.now = search rules in
    IfOk-weaker c.see_files.result _ _ (λ view is tells who when after.
    is tells who when ∙ ap (λ (o : Option Observation). seen_alone o (called c.args.command.now who when (g.S.Site.state c.args.site.now) after)) (sym there)) c.see_files.ensures.alone

pub returns-in_ok-look-in-None-clause-short : goal.returns-in_ok-look-in-None-clause-short
returns-in_ok-look-in-None-clause-short g c =
    subst (All (λ (row : List ℕ × Content). IsAtMost most_file_bytes row.1)) (sym c.in_ok-look-in-None.ensures.nothing) (All-nil (λ (row : List ℕ × Content). IsAtMost most_file_bytes row.1))

-- ---- what follows from the calls alone

pub returns-in-Some-clause-short : goal.returns-in-Some-clause-short
returns-in-Some-clause-short g c = c.see_files.ensures.short

pub returns-in-Some-clause-same : goal.returns-in-Some-clause-same
returns-in-Some-clause-same g c = c.see_files.ensures.same

pub returns-in-Some-clause-stopped : goal.returns-in-Some-clause-stopped
returns-in-Some-clause-stopped g c = c.see_files.ensures.stopped

pub returns-in-Some-clause-later : goal.returns-in-Some-clause-later
returns-in-Some-clause-later g c = c.see_files.ensures.later

pub returns-in_err-look-in-None-clause-same : goal.returns-in_err-look-in-None-clause-same
returns-in_err-look-in-None-clause-same g c = c.look.ensures.same

pub returns-in_err-look-in-None-clause-later : goal.returns-in_err-look-in-None-clause-later
returns-in_err-look-in-None-clause-later g c = c.look.ensures.cause.later

pub returns-in_ok-look-in-None-clause-same : goal.returns-in_ok-look-in-None-clause-same
returns-in_ok-look-in-None-clause-same g c = c.look.ensures.same

pub returns-in_ok-look-in-None-clause-later : goal.returns-in_ok-look-in-None-clause-later
returns-in_ok-look-in-None-clause-later g c = c.look.ensures.cause.later
