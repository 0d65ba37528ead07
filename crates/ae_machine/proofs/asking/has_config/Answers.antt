use Rattle.std.proofs.Common.{◌∙◌, ap}
use Rattle.std.specs.List.{list_any}
use Rattle.ae_types.specs.declared.change.ChangeFile.{ChangeFile}
use Rattle.ae_words.specs.Meaning.{is_config}
use Rattle.ae_machine.proofs.AskedFor.{any-config}
use Rattle.ae_machine.proofs.asking.has_config.Goals as goal

pub returns : goal.returns
returns c = c.has_config_in.ensures ∙ ap (list_any (λ (file : ChangeFile). is_config file.path)) c.as_slice.ensures ∙ any-config c.args.change.now.files
