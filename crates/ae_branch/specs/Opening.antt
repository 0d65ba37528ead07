-- What opens a branch: the acts that make its project as the trunk's is, before it has a change.
use Rattle.std.specs.Prelude.{ℕ, Bool, not, ◌&&◌, if◌then◌else◌, List, [], ◌∷◌, Option, Some, None, codes}
use Rattle.std.specs.List.{filter, filter_map}
use Rattle.std.specs.Str.{bytes_eq}
use Rattle.ae_base.specs.Words.{roles}
use Rattle.ae_base.specs.declared.words.Role.{Role}
use Rattle.ae_base.specs.declared.words.Role.TheVariants.{Administrator, Developer, Reviewer, Integrator}
use Rattle.ae_dist.specs.Plan.{command}
use Rattle.ae_lines.specs.declared.act.Act.{Act}
use Rattle.ae_lines.specs.declared.act.Act.TheVariants.{Put, Run}
use Rattle.ae_outside.specs.declared.dir.Dir.TheVariants.{Here}
use Rattle.ae_text.specs.Canonical.{fields_text}
use Rattle.ae_text.specs.Tree.{Members, Node, str, word}
use Rattle.ae_text.specs.View.{members_of}
use Rattle.ae_types.specs.declared.project.Attributes.{Attributes}
use Rattle.ae_types.specs.declared.project.Project.{Project}
use Rattle.ae_types.specs.Observation.{Observation}
use Rattle.ae_types.specs.Roles.{is_administrators, users_of}
use Rattle.ae_types.specs.Settings.{end_action_word, flag_word}
use Rattle.ae_words.specs.declared.command.Command.{Command}
use Rattle.ae_words.specs.declared.table.Function.{Function}
use Rattle.ae_words.specs.declared.table.Function.TheVariants as function
use Rattle.ae_words.specs.Spelling.{is_empty}

-- ---- the attributes

-- the file that gives them
abbrev pub attributes_path : List ℕ
attributes_path = codes "branch.attr"

-- what stands in it: what the trunk has, in the order of the record
abbrev pub attribute_fields : Attributes → List (List ℕ × Node)
attribute_fields attributes =
    (codes "description", str attributes.description)
    ∷ (codes "developer_may_review", word (flag_word attributes.developer_may_review))
    ∷ (codes "developer_may_integrate", word (flag_word attributes.developer_may_integrate))
    ∷ (codes "reviewer_may_integrate", word (flag_word attributes.reviewer_may_integrate))
    ∷ (codes "developers_may_create_changes", word (flag_word attributes.developers_may_create_changes))
    ∷ (codes "develop_end_action", word (end_action_word attributes.develop_end_action))
    ∷ (codes "default_test_exemption", word (flag_word attributes.default_test_exemption))
    ∷ []

abbrev pub attributes_of : Attributes → Members
attributes_of attributes = members_of (attribute_fields attributes)

abbrev pub attributes_text : Attributes → List ℕ
attributes_text attributes = fields_text (attributes_of attributes)

-- ---- the project

-- it is made, with these attributes
abbrev pub new_project : List ℕ → Command
new_project name = record (command function.NewProject None (Some attributes_path) []) { name = Some name }

-- ---- the roles

-- the function that gives users a role
abbrev pub giving : Role → Function
giving Administrator = function.NewAdministrator
giving Developer = function.NewDeveloper
giving Reviewer = function.NewReviewer
giving Integrator = function.NewIntegrator

-- who begins the branch is its administrator already
abbrev pub is_given : List ℕ → Role → List ℕ → Bool
is_given who role user = not (is_administrators role && bytes_eq who user)

-- the users who are given it: those who have it in the trunk
abbrev pub users_given : (who : List ℕ) → Project → Role → List (List ℕ)
users_given who project role = filter (is_given who role) (users_of role project)

-- they are given it
abbrev pub give : Role → List (List ℕ) → Command
give role users = record (command (giving role) None None []) { users = users }

-- where there are none there is no command
abbrev pub giving_act : Role → List (List ℕ) → Option Act
giving_act role users = if is_empty users then None else Some (Run (give role users))

abbrev pub role_act : (who : List ℕ) → Project → Role → Option Act
role_act who project role = giving_act role (users_given who project role)

-- ---- all of them

abbrev pub opening_acts : Observation → (who name : List ℕ) → List Act
opening_acts o who name = Put Here attributes_path (attributes_text o.project.attributes) ∷ Run (new_project name) ∷ filter_map (role_act who o.project) roles
