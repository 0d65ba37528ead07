use Rattle.std.proofs.Common.{sym, ap, ◌∙◌, map}
use Rattle.ae_text.specs.View.{named_node}
use Rattle.ae_conf.specs.Fields.{fields_in}
use Rattle.ae_conf.proofs.Members.{members_in-members_of}
use Rattle.ae_conf.proofs.text.fields_of.Goals as goal

pub returns-in-Some : goal.returns-in-Some
returns-in-Some c = sym (members_in-members_of (map named_node c.in-Some.fields.now)) ∙ sym (ap fields_in c.in-Some.ensures.some)
