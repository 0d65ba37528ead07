use Rattle.std.proofs.Common.{◌∙◌, sym, Some}
use Rattle.ae_base.specs.declared.refusal.Refusal.TheVariants.{OutOfDate}
use Rattle.ae_branch.proofs.Taking.{path_differs, path_same}
use Rattle.ae_branch.proofs.current.refuses_path.Goals as goal

pub returns-then-was-is : goal.returns-then-was-is
returns-then-was-is c = sym (path_same c.args.state.now c.args.delta c.args.path.now (sym c.edit_at-was.ensures ∙ c.if-was-is.true ∙ c.edit-is.ensures))

pub returns : goal.returns
returns c =
    (λ i. Some (OutOfDate (c.in_ok-copy.ensures i) (c.edit_at-was.ensures i) (c.edit-is.ensures i)))
    ∙ sym (path_differs c.args.state.now c.args.delta c.args.path.now (λ same. c.if-was-is.false (c.edit_at-was.ensures ∙ same ∙ sym c.edit-is.ensures)))
