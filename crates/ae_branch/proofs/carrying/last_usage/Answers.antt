use Rattle.std.proofs.Common.{◌≡◌, Some, None, Option, ap, rules, sym}
use Rattle.std.specs.Option.{option_map_or}
use Rattle.ae_base.specs.declared.words.Usage.TheVariants.{Source}
use Rattle.ae_types.specs.declared.file_table.FileVersion.{FileVersion}
use Rattle.ae_types.specs.Trees.{last_delta, last_up_to}
use Rattle.ae_branch.proofs.carrying.last_usage.Goals as goal

pub returns-in-Some : goal.returns-in-Some
returns-in-Some c =
    let last : last_up_to (last_delta c.args.state.now) c.args.row.now.past ≡ Some c.in-Some.entry.now = search rules in
    sym (ap (λ (e : Option FileVersion). option_map_or (λ (x : FileVersion). x.usage) e Source) last)

pub returns-in-None : goal.returns-in-None
returns-in-None c =
    let last : last_up_to (last_delta c.args.state.now) c.args.row.now.past ≡ None = search rules in
    sym (ap (λ (e : Option FileVersion). option_map_or (λ (x : FileVersion). x.usage) e Source) last)
