-- What begins a branch, by what the files of the trunk and those of the branch say.
use Rattle.std.specs.Prelude.{◌≡◌, ℕ, not, if◌then◌else◌, List, [], ◌++◌, map, length, nat_le, codes, Option, Some, None, Result}
use Rattle.std.specs.Fmt.{decimal}
use Rattle.ae_base.specs.Limits.{most_change_files, most_frozen_bytes}
use Rattle.ae_base.specs.declared.outcome.Outcome.{Outcome}
use Rattle.ae_base.specs.declared.refusal.Refusal.{Refusal}
use Rattle.ae_base.specs.declared.refusal.Refusal.TheVariants.{Limit, NoFiles, NoProject, NoSuchDelta, NotAdministrator, NotDeveloper, ProjectExists}
use Rattle.ae_base.specs.declared.want.Want.TheVariants as want
use Rattle.ae_base.specs.declared.words.Action.TheVariants.{Create}
use Rattle.ae_base.specs.declared.words.Cause.TheVariants.{InternalEnhancement}
use Rattle.ae_base.specs.declared.words.Which.TheVariants.{ChangeFiles, FrozenBytes}
use Rattle.ae_bundle.specs.declared.bundle.Bundle.{Bundle}
use Rattle.ae_bundle.specs.declared.bundle.BundleFile.{BundleFile}
use Rattle.ae_dist.specs.Answers.{Says}
use Rattle.ae_dist.specs.Plan.{plan_of}
use Rattle.ae_dist.specs.Sending.{sizes_of}
use Rattle.ae_dist.specs.declared.rows.Row.{Row}
use Rattle.ae_exec.specs.Endings.{IsDamagedAt}
use Rattle.ae_exec.specs.Shown.{Shown}
use Rattle.ae_lines.specs.declared.act.Act.{Act}
use Rattle.ae_outside.specs.Image.{Image}
use Rattle.ae_types.specs.Observation.{Observation}
use Rattle.ae_types.specs.Roles.{has_user}
use Rattle.ae_types.specs.Trees.{TreeRow, last_delta, tree_of}
use Rattle.ae_words.specs.Formed.{first_change}
use Rattle.ae_words.specs.Spelling.{is_empty}
use Rattle.ae_branch.specs.Opening.{opening_acts}
use Rattle.ae_branch.specs.Steps.{Is, Opens, Reads, Then, UnlessRefused}

-- ---- the trunk

-- who begins a branch is an administrator and a developer of the trunk, and the trunk has the delta
abbrev pub refuses_beginner : (who : List ℕ) → (delta : ℕ) → Observation → Option Refusal
refuses_beginner who delta o =
    if not (has_user o.project.administrators who) then Some NotAdministrator
    else if not (has_user o.project.developers who) then Some NotDeveloper
    else if not (nat_le delta (last_delta o)) then Some NoSuchDelta
    else None

abbrev pub refuses_trunk : (who : List ℕ) → (delta : ℕ) → Option Observation → Option Refusal
refuses_trunk who delta None = Some NoProject
refuses_trunk who delta (Some o) = refuses_beginner who delta o

-- ---- the branch

abbrev pub refuses_branch : Option Observation → Option Refusal
refuses_branch None = None
refuses_branch (Some o) = Some ProjectExists

-- no project is there yet
abbrev pub IsVacant : Image → Result (Unit {0}) Outcome → Type 0
IsVacant image =
    Says (λ (_ : Unit {0}). Shown want.Nothing image None)
    (λ (refusal : Refusal). (stands : Option Observation) × Shown want.Nothing image stands × (refuses_branch stands ≡ Some refusal)) (IsDamagedAt want.Nothing image)

-- ---- the files at the delta, each of which is created

abbrev pub created : TreeRow → Row
created file = record { path = file.path; action = Create; usage = file.usage; version = Some file.version }

abbrev pub created_rows : Observation → (delta : ℕ) → List Row
created_rows o delta = map created (tree_of o delta)

-- there is one, and a change may have as many as there are, and their bytes
abbrev pub refuses_rows : List Row → Option Refusal
refuses_rows rows =
    if is_empty rows then Some NoFiles
    else if not (nat_le (length rows) most_change_files) then Some (Limit ChangeFiles most_change_files)
    else if not (nat_le (sizes_of rows) most_frozen_bytes) then Some (Limit FrozenBytes most_frozen_bytes)
    else None

-- ---- the first change

abbrev pub brief_of : (name : List ℕ) → (delta : ℕ) → List ℕ
brief_of name delta = codes "branch " ++ name ++ codes " from delta " ++ decimal delta

-- it has these files
abbrev pub first_bundle : (brief : List ℕ) → List BundleFile → Bundle
first_bundle brief files = record { brief = brief; description = []; cause = InternalEnhancement; files = files }

-- how it is made of them
abbrev pub plan_of_first : (brief : List ℕ) → List BundleFile → List Act
plan_of_first brief files = plan_of [] first_change (first_bundle brief files)

-- ---- all of it

-- What the files say of beginning the branch of this name from this delta, by this user: the trunk's project is there and he may; the
-- branch's isn't; the tree at the delta may be one change; and its versions are read. Then these are the acts.
abbrev pub Begins : (trunk branch : Image) → (name : List ℕ) → (delta : ℕ) → (who : List ℕ) → Result (List Act) Outcome → Type 0
Begins trunk branch name delta who =
    Then (Opens want.Nothing (refuses_trunk who delta) trunk) (λ (o : Observation).
    Then (IsVacant branch) (λ (_ : Unit {0}).
    Then (UnlessRefused (refuses_rows (created_rows o delta))) (λ (_ : Unit {0}).
    Then (Reads trunk (created_rows o delta)) (λ (files : List BundleFile).
    Is (opening_acts o who name ++ plan_of_first (brief_of name delta) files)))))
