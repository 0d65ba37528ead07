-- Each act that opens a branch may be done, and builds and tests nothing.
use Rattle.std.specs.Prelude.{◌≡◌, ◌≢◌, ◌≤◌, ◌&&◌, ℕ, Bool, true, false, not, if◌then◌else◌, All, List, [], ◌∷◌, length, nat_le, Option, Some, None}
use Rattle.std.specs.List.{AllByRecursion, cons_option, filter, filter_map, list_all}
use Rattle.std.proofs.Common.{refl, subst, arith}
use Rattle.std.proofs.lemmas.Bool.{and_from, and_parts, le-leb, lt-leb}
use Rattle.std.proofs.lemmas.List.Elements.{All-cons, All-nil}
use Rattle.std.proofs.lemmas.Option.{same_Some}
use Rattle.std.proofs.lemmas.List.Sums.{count_by-le-length, length-filter}
use Rattle.ae_base.specs.Names.{IsUser, is_project_name, is_user}
use Rattle.ae_base.specs.Words.{roles}
use Rattle.ae_base.specs.declared.words.Role.{Role}
use Rattle.ae_base.specs.declared.words.Role.TheVariants.{Administrator, Developer, Integrator, Reviewer}
use Rattle.ae_lines.specs.Acts.{MayBePlanned}
use Rattle.ae_lines.specs.declared.act.Act.{Act}
use Rattle.ae_lines.specs.declared.act.Act.TheVariants.{Put, Run}
use Rattle.ae_outside.specs.declared.dir.Dir.TheVariants.{Here}
use Rattle.ae_types.specs.declared.project.Project.{Project}
use Rattle.ae_types.specs.Observation.{Observation}
use Rattle.ae_types.specs.Roles.{users_of}
use Rattle.ae_types.specs.Sound.{Sound}
use Rattle.ae_words.specs.Formed.{IsFormed, are_plain, are_users, has}
use Rattle.ae_words.specs.Meaning.{is_whole, most}
use Rattle.ae_words.specs.Table.{allows, is_one_command, row}
use Rattle.ae_words.specs.declared.table.Function.TheVariants as function
use Rattle.ae_words.specs.declared.table.Setting.{Setting}
use Rattle.ae_words.specs.declared.table.Setting.TheVariants as setting
use Rattle.ae_branch.specs.Opening.{attributes_path, attributes_text, give, giving, giving_act, is_given, new_project, opening_acts, role_act, users_given}

-- ---- the project

module _ (name : List ℕ) (good : is_project_name name ≡ true) where
  project_options : (o : Setting) → has (new_project name) o ≡ true → allows function.NewProject None o ≡ true
  project_options setting.File there = refl
  project_options setting.Project there = absurd (let both : false ≡ true = there in cc)
  project_options setting.Change there = absurd (let both : false ≡ true = there in cc)
  project_options setting.Delta there = absurd (let both : false ≡ true = there in cc)
  project_options setting.Overwriting there = absurd (let both : false ≡ true = there in cc)
  project_options setting.Baseline there = absurd (let both : false ≡ true = there in cc)
  project_options setting.Regression there = absurd (let both : false ≡ true = there in cc)
  project_options setting.Reason there = absurd (let both : false ≡ true = there in cc)

  project_whole : is_whole (new_project name) ≡ true
  unfolding is_whole
  project_whole = refl

  project_formed : IsFormed (new_project name)
  project_formed = record {
    kinds = record { project = refl; change = refl; attributes = refl; delta = refl; name = good; reason = refl };
    options = (project_options, refl);
    plain = refl;
    whole = project_whole;
  }

-- ---- a role

module _ (users : List (List ℕ)) (good : are_users users ≡ true) (some : nat_le (length users) 0 ≡ false) where
  no_options : (role : Role) (o : Setting) → has (give role users) o ≡ true → allows (giving role) None o ≡ true
  no_options role setting.Project there = absurd (let both : false ≡ true = there in cc)
  no_options role setting.File there = absurd (let both : false ≡ true = there in cc)
  no_options role setting.Change there = absurd (let both : false ≡ true = there in cc)
  no_options role setting.Delta there = absurd (let both : false ≡ true = there in cc)
  no_options role setting.Overwriting there = absurd (let both : false ≡ true = there in cc)
  no_options role setting.Baseline there = absurd (let both : false ≡ true = there in cc)
  no_options role setting.Regression there = absurd (let both : false ≡ true = there in cc)
  no_options role setting.Reason there = absurd (let both : false ≡ true = there in cc)

  give_plain : (role : Role) → are_plain (row (giving role)) (give role users) ≡ true
  give_plain Administrator = λ i. ((good i && true) && true) && true
  give_plain Developer = λ i. ((good i && true) && true) && true
  give_plain Reviewer = λ i. ((good i && true) && true) && true
  give_plain Integrator = λ i. ((good i && true) && true) && true

  give_whole : (role : Role) → is_whole (give role users) ≡ true
  unfolding is_whole
  give_whole Administrator = λ i. (not (some i) && true) && true
  give_whole Developer = λ i. (not (some i) && true) && true
  give_whole Reviewer = λ i. (not (some i) && true) && true
  give_whole Integrator = λ i. (not (some i) && true) && true

  give_one : (role : Role) → is_one_command (giving role) ≡ true
  give_one Administrator = refl
  give_one Developer = refl
  give_one Reviewer = refl
  give_one Integrator = refl

  no_build : (role : Role) → giving role ≢ function.Build
  no_build Administrator is = let both : function.NewAdministrator ≡ function.Build = is in cc
  no_build Developer is = let both : function.NewDeveloper ≡ function.Build = is in cc
  no_build Reviewer is = let both : function.NewReviewer ≡ function.Build = is in cc
  no_build Integrator is = let both : function.NewIntegrator ≡ function.Build = is in cc

  no_test : (role : Role) → giving role ≢ function.Test
  no_test Administrator is = let both : function.NewAdministrator ≡ function.Test = is in cc
  no_test Developer is = let both : function.NewDeveloper ≡ function.Test = is in cc
  no_test Reviewer is = let both : function.NewReviewer ≡ function.Test = is in cc
  no_test Integrator is = let both : function.NewIntegrator ≡ function.Test = is in cc

  give_may : (role : Role) → MayBePlanned (Run (give role users))
  give_may role = (
    (
      record {
        kinds = record { project = refl; change = refl; attributes = refl; delta = refl; name = refl; reason = refl };
        options = (no_options role, refl);
        plain = give_plain role;
        whole = give_whole role;
      },
      give_one role,
    ),
    no_build role,
    no_test role,
  )

giving_may : (role : Role) (users : List (List ℕ)) (act : Act) → are_users users ≡ true → giving_act role users ≡ Some act → MayBePlanned act
giving_may role [] act good is = absurd (let both : None ≡ Some act = is in cc)
giving_may role (user ∷ users) act good is =
    let some : nat_le (length (user ∷ users)) 0 ≡ false = lt-leb (length (user ∷ users)) 0 (omega arith) in
    subst MayBePlanned (same_Some (Run (give role (user ∷ users))) act is) (give_may (user ∷ users) good some role)

-- ---- the users of the trunk

-- what holds of the users of each role holds by the role
pub each_role : (P : List (List ℕ) → Type 0) (project : Project) → P project.administrators → P project.developers → P project.reviewers → P project.integrators → (role : Role) → P (users_of role project)
each_role P project first second third last Administrator = first
each_role P project first second third last Developer = second
each_role P project first second third last Reviewer = third
each_role P project first second third last Integrator = last

are_all : (users : List (List ℕ)) → AllByRecursion IsUser users → list_all is_user users ≡ true
are_all [] each = refl
are_all (user ∷ users) each = and_from (is_user user) (list_all is_user users) each.0 (are_all users each.1)

-- those who are left of users are users
kept_all : {A : Type 0} (p q : A → Bool) (xs : List A) → list_all p xs ≡ true → list_all p (filter q xs) ≡ true
kept_all p q [] all = refl
kept_all p q (x ∷ xs) all = let both = and_parts (p x) (list_all p xs) all in go (q x) both.0 (kept_all p q xs both.1)
  where
    go : (b : Bool) → p x ≡ true → list_all p (filter q xs) ≡ true → list_all p (if b then x ∷ filter q xs else filter q xs) ≡ true
    go true first rest = and_from (p x) (list_all p (filter q xs)) first rest
    go false first rest = rest

given_good : (o : Observation) (who : List ℕ) (role : Role) → Sound o → list_all is_user (users_of role o.project) ≡ true → are_users (users_given who o.project role) ≡ true
given_good o who role sound all =
    let few : length (users_of role o.project) ≤ 256 = (sound.project.roles role).few in
    let less : length (users_given who o.project role) ≤ length (users_of role o.project) = rw (length-filter (is_given who role) (users_of role o.project)) (count_by-le-length (is_given who role) (users_of role o.project)) in
    and_from (list_all is_user (users_given who o.project role)) (nat_le (length (users_given who o.project role)) most) (kept_all is_user (is_given who role) (users_of role o.project) all)
    (le-leb (length (users_given who o.project role)) most (omega (arith, few, less)))

-- ---- all of them

each_may : {A : Type 0} (f : A → Option Act) (xs : List A) → ((x : A) (act : Act) → f x ≡ Some act → MayBePlanned act) → All MayBePlanned (filter_map f xs)
each_may f [] may = All-nil MayBePlanned
each_may f (x ∷ xs) may = go (f x) refl (each_may f xs may)
  where
    go : (o : Option Act) → f x ≡ o → All MayBePlanned (filter_map f xs) → All MayBePlanned (cons_option o (filter_map f xs))
    go (Some act) is rest = All-cons MayBePlanned act (filter_map f xs) (may x act is) rest
    go None is rest = rest

pub opening_formed : (o : Observation) (who name : List ℕ) → Sound o → ((role : Role) → AllByRecursion IsUser (users_of role o.project)) → is_project_name name ≡ true → All MayBePlanned (opening_acts o who name)
opening_formed o who name sound users named =
    let makes : MayBePlanned (Run (new_project name)) = ((project_formed name named, refl), (λ is. let both : function.NewProject ≡ function.Build = is in cc), (λ is. let both : function.NewProject ≡ function.Test = is in cc)) in
    All-cons MayBePlanned (Put Here attributes_path (attributes_text o.project.attributes)) (Run (new_project name) ∷ filter_map (role_act who o.project) roles) tt
    (All-cons MayBePlanned (Run (new_project name)) (filter_map (role_act who o.project) roles) makes
    (each_may (role_act who o.project) roles (λ role act is. giving_may role (users_given who o.project role) act (given_good o who role sound (are_all (users_of role o.project) (users role))) is)))
