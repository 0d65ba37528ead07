use Rattle.std.proofs.Common.{◌∙◌, sym, ap}
use Rattle.std.specs.Option.{option_map}
use Rattle.ae_rules.specs.Blamed.{change_blame}
use Rattle.ae_rules.proofs.ReadableParts.{numbers-rise, readable}
use Rattle.ae_rules.proofs.check.blamed.Goals as goal

pub bad_change_of-requires : goal.bad_change_of-requires
bad_change_of-requires c = numbers-rise c.args.parts.now (sym c.project_stands.ensures ∙ c.if-not-project_stands.false)

pub blame_beside-requires : goal.blame_beside-requires
blame_beside-requires c = readable c.args.parts.now (sym c.project_stands.ensures ∙ c.if-not-project_stands.false) (sym c.files_stand.ensures ∙ c.if-not-files_stand.false) (sym c.bad_change_of.ensures ∙ ap (option_map change_blame) c.in-None.is)
