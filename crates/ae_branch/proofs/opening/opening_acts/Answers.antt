use Rattle.std.specs.Prelude.{◌≡◌, List, All}
use Rattle.std.proofs.Common.{rules, subst, sym}
use Rattle.std.specs.List.{AllByRecursion}
use Rattle.ae_base.specs.Names.{IsUser}
use Rattle.ae_base.specs.declared.words.Role.{Role}
use Rattle.ae_lines.specs.Acts.{MayBePlanned}
use Rattle.ae_lines.specs.declared.act.Act.{Act}
use Rattle.ae_types.specs.Roles.{users_of}
use Rattle.ae_types.specs.declared.project.Project.{Project}
use Rattle.ae_branch.specs.Opening.{opening_acts}
use Rattle.ae_branch.proofs.OpeningFormed.{opening_formed}
use Rattle.ae_branch.proofs.opening.opening_acts.Goals as goal

pub returns-clause-formed : goal.returns-clause-formed
returns-clause-formed c =
    let are : c.add_roles.new.acts ≡ opening_acts c.args.state.now c.args.who.now c.args.name.now = search rules in
    let users : (role : Role) → AllByRecursion IsUser (users_of role c.args.state.now.project) =
    subst (λ (project : Project). (role : Role) → AllByRecursion IsUser (users_of role project)) c.project-project.ensures.project c.note_roles.ensures in
    subst (λ (acts : List Act). All MayBePlanned acts) (sym are) (opening_formed c.args.state.now c.args.who.now c.args.name.now c.project-project.ensures.sound users c.bytes-name.ensures.name)
