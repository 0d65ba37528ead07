-- A new project has a name.
use Rattle.std.proofs.Common.{◌≡◌, true, is_some, refl, subst}
use Rattle.ae_words.specs.declared.command.Command.{Command}
use Rattle.ae_words.specs.declared.table.Function.{Function}
use Rattle.ae_words.specs.declared.table.Function.TheVariants.{NewProject}
use Rattle.ae_words.specs.Formed.{IsFormed}
use Rattle.ae_words.specs.Meaning.{has_plain}
use Rattle.ae_words.specs.Table.{row}
use Rattle.ae_words.proofs.Formed.{whole_plain}
use Rattle.ae_machine.specs.Verdict.{is_new_project}

pub is-new : (function : Function) → is_new_project function ≡ true → function ≡ NewProject
is-new NewProject h = refl
is-new _ h = absurd cc

pub new-has-name : (command : Command) → IsFormed command → is_new_project command.function ≡ true → is_some command.name ≡ true
new-has-name command formed new =
    let P : Function → Type 0 = λ function. has_plain (row function) command ≡ true in
    subst P (is-new command.function new) (whole_plain command formed.whole)
