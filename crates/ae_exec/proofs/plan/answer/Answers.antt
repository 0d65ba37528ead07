use Rattle.std.proofs.Common.{rules, ◌≡◌, sym, subst, Option, Some, IfOk}
use Rattle.std.specs.Prelude.{option_copied}
use Rattle.ae_types.specs.Observation.{Observation}
use Rattle.ae_exec.specs.Next.{IfAccepted, MayFollow}
use Rattle.ae_exec.specs.Seen.{no_bytes}
use Rattle.ae_exec.proofs.Following.{quiet-shows}
use Rattle.ae_exec.proofs.plan.answer.Goals as goal

pub returns-in-Some-clause-follow : goal.returns-in-Some-clause-follow
returns-in-Some-clause-follow c =
    let there : option_copied c.args.old ≡ Some c.in-Some.state.now = search rules in
    subst (λ (o : Option Observation). IfOk c.answer_on.result (λ answer. IfAccepted answer (MayFollow o))) (sym there)
    (c.answer_on.ensures.follow no_bytes (quiet-shows (Some c.in-Some.state.now) no_bytes c.args.request.now.command.now c.args.request.now.who.now c.args.view.now c.requires.quiet))

pub returns-in-Some-clause-put : goal.returns-in-Some-clause-put
returns-in-Some-clause-put c = c.answer_on.ensures.put no_bytes (quiet-shows (Some c.in-Some.state.now) no_bytes c.args.request.now.command.now c.args.request.now.who.now c.args.view.now c.requires.quiet)
