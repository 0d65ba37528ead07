use Rattle.std.proofs.Common.{◌≡◌, ◌∙◌, rules}
use Rattle.std.specs.Option.{option_copied}
use Rattle.ae_log.specs.declared.event.EventKind.TheVariants as on
use Rattle.ae_machine.proofs.jobs.run_event.Goals as goal

pub returns : goal.returns
returns c =
    let copied : option_copied c.as_ref.result ≡ c.args.run.now.path = search rules in
    let path = c.in_ok-path.ensures.copy ∙ copied in
    λ i. on.Run (record {
      during = c.part_of.ensures i;
      kind = c.args.run.now.kind;
      path = path i;
      command = c.in_ok-command.ensures i;
      exit = c.args.run.now.exit;
      before = (c.in_ok-before.ensures i).0;
      after = (c.in_ok-before.ensures i).1;
      subject = c.args.subject;
    })
