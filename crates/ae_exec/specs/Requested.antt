-- A command as it is given to a call.
use Rattle.ae_outside.specs.Site.{SiteState}
use Rattle.ae_machine.specs.Called.{Called, called}
use Rattle.ae_exec.specs.declared.request.Request.{Request}

-- with the directories before and after it
abbrev pub called_by : Request → (before after : SiteState) → Called
called_by request before after = called request.command.now request.who.now request.when before after
