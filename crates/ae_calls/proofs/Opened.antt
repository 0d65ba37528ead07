-- The acts that open a branch lead from a log after which no project stands to one after which its project stands, without a change and a file.
use Rattle.std.proofs.Common.{◌≡◌, ◌⊎◌, inl, inr, ℕ, refl, sym, ◌∙◌, ap, subst, List, [], ◌∷◌, ◌++◌, map, Option, Some, None, append_assoc, append-nil, Ok}
use Rattle.std.specs.Prelude.{IsSome, is_some}
use Rattle.std.specs.List.{cons_option, filter_map}
use Rattle.std.proofs.lemmas.Bool.{false≢true}
use Rattle.ae_base.specs.declared.words.Role.{Role}
use Rattle.ae_base.specs.declared.words.Role.TheVariants.{Administrator, Developer, Integrator, Reviewer}
use Rattle.ae_branch.specs.Opening.{attributes_path, attributes_text, give, giving_act, is_given, new_project, opening_acts, role_act, users_given}
use Rattle.ae_conf.specs.Project.{project_attributes}
use Rattle.ae_lines.specs.declared.act.Act.{Act}
use Rattle.ae_lines.specs.declared.act.Act.TheVariants.{Run}
use Rattle.ae_log.specs.After.{after_all, started}
use Rattle.ae_log.specs.After as after
use Rattle.ae_log.specs.Files.{version_bytes}
use Rattle.ae_log.specs.Log.{Log, followed}
use Rattle.ae_log.specs.Maker.{Maker, event_by}
use Rattle.ae_log.specs.Observed.{observation}
use Rattle.ae_log.specs.declared.event.Event.{Event}
use Rattle.ae_log.specs.declared.event.EventKind.TheVariants as on
use Rattle.ae_log.proofs.ProjectSteps.{begins}
use Rattle.ae_machine.specs.Attributes.{first_attributes}
use Rattle.ae_machine.specs.Call.{given_in, refusal_in}
use Rattle.ae_machine.specs.Called.{answer_to, view}
use Rattle.ae_machine.specs.Legal.{Legal}
use Rattle.ae_machine.specs.Verdict.{events_of, maker_in, new_project_event, new_project_file}
use Rattle.ae_machine.specs.declared.verdict.Verdict.TheVariants.{Accept}
use Rattle.ae_machine.proofs.Accepted.{accepted}
use Rattle.ae_machine.proofs.AcceptedLogs.{legal-stands}
use Rattle.ae_machine.proofs.AcceptedRoles.{role-of}
use Rattle.ae_machine.proofs.Lists.{filter-all}
use Rattle.ae_outside.specs.Trees.{Tree}
use Rattle.ae_outside.specs.declared.dir.Dir.TheVariants.{Here}
use Rattle.ae_received.proofs.Acts.{ActsRun, RunsAct}
use Rattle.ae_received.proofs.Commands.{command-leads, given_to, was-accepted}
use Rattle.ae_received.proofs.Puts.{put-leads}
use Rattle.ae_received.proofs.Touches.{file-there}
use Rattle.ae_script.specs.Steps.{LineDone, Point, called_from, stop}
use Rattle.ae_types.specs.declared.project.Attributes.{Attributes}
use Rattle.ae_types.specs.declared.project.Project.{Project}
use Rattle.ae_types.specs.Observation.{Observation}
use Rattle.ae_types.specs.Roles.{users_of, with_users}
use Rattle.ae_calls.specs.Begun.{IsBranchOf}
use Rattle.ae_calls.proofs.ProjectRead.{attributes-same, project-gives}

-- a project that has neither a change nor a file
abbrev pub only : Project → Observation
only project = record { project = project; numbers = []; files = []; locks = []; changes = [] }

-- after a log that is legal it stands
pub record StandsAlone (log : Log) (project : Project) : Type 0 where
  pub stands : observation log ≡ Some (only project)
  pub legal : Legal log

-- these acts and steps are left, where it stands
pub record Leads (from : Point) (project : Project) (rest : List Act) (steps : List LineDone) : Type 0 where
  pub to : Point
  pub left : List LineDone
  pub stops : stop from steps ≡ stop to left
  pub runs : ActsRun to rest left
  pub who : to.who ≡ from.who
  pub alone : StandsAlone to.log project

-- so are those after the next acts
leads-on : (from : Point) (project next : Project) (acts rest : List Act) (steps : List LineDone) (first : Leads from project acts steps) → Leads first.to next rest first.left → Leads from next rest steps
leads-on from project next acts rest steps first second = record {
  to = second.to;
  left = second.left;
  stops = first.stops ∙ second.stops;
  runs = second.runs;
  who = second.who ∙ first.who;
  alone = second.alone;
}

-- ---- the project is made

-- the trunk's attributes are read of the file that has them
abbrev pub AreRead : Attributes → Attributes → Type 0
AreRead trunk attributes = project_attributes (attributes_text trunk) first_attributes ≡ Ok attributes

record IsMade (trunk : Attributes) (from : Point) (name : List ℕ) (step : LineDone) : Type 0 where
  attributes : Attributes
  read : AreRead trunk attributes
  alone : StandsAlone step.to.log (after.new_project from.who name attributes)
  who : step.to.who ≡ from.who

-- where no project stands the log is empty
log-empty : (log : Log) → Legal log → observation log ≡ None → log ≡ []
log-empty log legal none = go (legal-stands log legal)
  where
    go : (log ≡ []) ⊎ IsSome (observation log) → log ≡ []
    go (inl empty) = empty
    go (inr there) = absurd (false≢true (sym (ap (λ (v : Option Observation). is_some v) none) ∙ there))

project-made : (trunk : Attributes) (from : Point) (name : List ℕ) (step : LineDone) → observation from.log ≡ None → Legal from.log → from.site.trees Here attributes_path ≡ Some (attributes_text trunk) → RunsAct from (Run (new_project name)) step
    → IsMade trunk from name step
project-made trunk from name step none legal put run =
    let call = called_from from (new_project name) step.to in
    let was = was-accepted from.log step.to.log call step.outcome run.does.said run.does.ends run.done in
    let answered : answer_to None (version_bytes from.log) call ≡ Accept was.events = ap (λ (v : Option Observation). answer_to v (version_bytes from.log) call) (sym none) ∙ was.is in
    let file = new_project_file (new_project name) (view None (version_bytes from.log) call) in
    let event : Event = new_project_event (new_project name) from.who from.now file in
    let made = accepted (refusal_in file) (event ∷ []) was.events answered in
    let is : step.to.log ≡ event ∷ [] = was.follows ∙ ap (λ (events : List Event). followed from.log events) (sym made.these) ∙ ap (λ (log : Log). event ∷ log) (log-empty from.log legal none) in
    record {
      attributes = given_in file first_attributes;
      read = project-gives (attributes_text trunk) attributes_path first_attributes (from.site.trees Here attributes_path) (sym put) made.no_refusal;
      alone = record { stands = ap observation is ∙ begins event (record { no_change = refl; project = tt }); legal = run.does.legal };
      who = ap (λ (p : Point). p.who) run.does.to;
    }

-- ---- users are given a role

with-again : (role : Role) (users others : List (List ℕ)) (project : Project) → with_users role users (with_users role others project) ≡ with_users role users project
with-again Administrator users others project = refl
with-again Developer users others project = refl
with-again Reviewer users others project = refl
with-again Integrator users others project = refl

with-same : (role : Role) (project : Project) → with_users role (users_of role project) project ≡ project
with-same Administrator project = refl
with-same Developer project = refl
with-same Reviewer project = refl
with-same Integrator project = refl

-- the project with these besides
abbrev more_users : Role → List (List ℕ) → Project → Project
more_users role users project = with_users role (users_of role project ++ users) project

none-more : (role : Role) (project : Project) → more_users role [] project ≡ project
none-more role project = ap (λ (users : List (List ℕ)). with_users role users project) (append-nil (users_of role project)) ∙ with-same role project

one-more : (role : Role) (user : List ℕ) (users : List (List ℕ)) (project : Project) → more_users role users (more_users role (user ∷ []) project) ≡ more_users role (user ∷ users) project
one-more role user users project =
    let now = users_of role project in
    with-again role (users_of role (more_users role (user ∷ []) project) ++ users) (now ++ user ∷ []) project
    ∙ ap (λ (us : List (List ℕ)). with_users role us project) (ap (λ (us : List (List ℕ)). us ++ users) (role-of role (now ++ user ∷ []) project) ∙ append_assoc now (user ∷ []) users)

added-all : (role : Role) (users : List (List ℕ)) (maker : Maker) (project : Project) → after_all (only project) (map (event_by maker None) (map (on.RoleAdd role) users)) ≡ only (more_users role users project)
added-all role [] maker project = ap only (sym (none-more role project))
added-all role (user ∷ users) maker project = added-all role users maker (more_users role (user ∷ []) project) ∙ ap only (one-more role user users project)

events-given : (role : Role) (users : List (List ℕ)) (from to : Point) (o : Observation)
    → events_of (given_to from (give role users) to o) ≡ map (event_by (maker_in (given_to from (give role users) to o)) None) (map (on.RoleAdd role) users)
events-given Administrator users from to o = refl
events-given Developer users from to o = refl
events-given Reviewer users from to o = refl
events-given Integrator users from to o = refl

role-given : (role : Role) (users : List (List ℕ)) (from : Point) (project : Project) (step : LineDone) → StandsAlone from.log project → RunsAct from (Run (give role users)) step → StandsAlone step.to.log (more_users role users project)
role-given role users from project step alone run =
    let l = command-leads from (give role users) (only project) step alone.stands alone.legal run in
    record {
      stands = l.stands ∙ ap (λ (events : List Event). Some (after_all (only project) events)) (events-given role users from step.to (only project))
          ∙ ap (λ (o : Observation). Some o) (added-all role users (maker_in (given_to from (give role users) step.to (only project))) project);
      legal = l.legal;
    }

-- where there are none there is no act
role-leads : (role : Role) (users : List (List ℕ)) (from : Point) (project : Project) (acts rest : List Act) (steps : List LineDone) → StandsAlone from.log project → ActsRun from (cons_option (giving_act role users) acts ++ rest) steps
    → Leads from (more_users role users project) (acts ++ rest) steps
role-leads role [] from project acts rest steps alone runs = record {
  to = from;
  left = steps;
  stops = refl;
  runs = runs;
  who = refl;
  alone = subst (StandsAlone from.log) (sym (none-more role project)) alone;
}
role-leads role (user ∷ users) from project acts rest [] alone runs = absurd runs
role-leads role (user ∷ users) from project acts rest (step ∷ steps) alone runs = record {
  to = step.to;
  left = steps;
  stops = refl;
  runs = runs.1;
  who = ap (λ (p : Point). p.who) runs.0.does.to;
  alone = role-given role (user ∷ users) from project step alone runs.0;
}

-- ---- all of them

module _ (trunk : Project) (name who : List ℕ) where
  -- the branch's project, after these roles
  abbrev administered : Attributes → Project
  administered attributes = more_users Administrator (users_given who trunk Administrator) (after.new_project who name attributes)

  abbrev developed : Attributes → Project
  developed attributes = more_users Developer (users_given who trunk Developer) (administered attributes)

  abbrev reviewed : Attributes → Project
  reviewed attributes = more_users Reviewer (users_given who trunk Reviewer) (developed attributes)

  abbrev pub opened_project : Attributes → Project
  opened_project attributes = more_users Integrator (users_given who trunk Integrator) (reviewed attributes)

  all-roles : (attributes : Attributes) (from : Point) (rest : List Act) (steps : List LineDone) → StandsAlone from.log (after.new_project who name attributes) → ActsRun from (filter_map (role_act who trunk) (Administrator ∷ Developer ∷ Reviewer ∷ Integrator ∷ []) ++ rest) steps
      → Leads from (opened_project attributes) rest steps
  all-roles attributes from rest steps alone runs =
      let acts : List Role → List Act = filter_map (role_act who trunk) in
      let a = role-leads Administrator (users_given who trunk Administrator) from (after.new_project who name attributes) (acts (Developer ∷ Reviewer ∷ Integrator ∷ [])) rest steps alone runs in
      let d = role-leads Developer (users_given who trunk Developer) a.to (administered attributes) (acts (Reviewer ∷ Integrator ∷ [])) rest a.left a.alone a.runs in
      let r = role-leads Reviewer (users_given who trunk Reviewer) d.to (developed attributes) (acts (Integrator ∷ [])) rest d.left d.alone d.runs in
      let i = role-leads Integrator (users_given who trunk Integrator) r.to (reviewed attributes) [] rest r.left r.alone r.runs in
      leads-on from (administered attributes) (opened_project attributes) (acts (Developer ∷ Reviewer ∷ Integrator ∷ []) ++ rest) rest steps a
      (leads-on a.to (developed attributes) (opened_project attributes) (acts (Reviewer ∷ Integrator ∷ []) ++ rest) rest a.left d
      (leads-on d.to (reviewed attributes) (opened_project attributes) (acts (Integrator ∷ []) ++ rest) rest d.left r i))

  -- it is a branch of the trunk
  pub opened-is : (attributes : Attributes) → AreRead trunk.attributes attributes → IsBranchOf trunk name who (opened_project attributes)
  opened-is attributes read = record {
    named = refl;
    attributes = λ bytes. attributes-same trunk.attributes bytes first_attributes attributes read;
    administrators = refl;
    developers = filter-all (is_given who Developer) trunk.developers (λ user there. refl);
    reviewers = filter-all (is_given who Reviewer) trunk.reviewers (λ user there. refl);
    integrators = filter-all (is_given who Integrator) trunk.integrators (λ user there. refl);
  }

-- what the acts lead to that open a branch
pub record Opens (trunk : Project) (from : Point) (name : List ℕ) (rest : List Act) (steps : List LineDone) : Type 0 where
  pub attributes : Attributes
  pub read : AreRead trunk.attributes attributes
  pub leads : Leads from (opened_project trunk name from.who attributes) rest steps

pub opens : (trunk : Observation) (from : Point) (name : List ℕ) (rest : List Act) (steps : List LineDone) → observation from.log ≡ None → Legal from.log → ActsRun from (opening_acts trunk from.who name ++ rest) steps
    → Opens trunk.project from name rest steps
opens trunk from name rest [] none legal runs = absurd runs
opens trunk from name rest (put ∷ []) none legal runs = absurd runs.1
opens trunk from name rest (put ∷ make ∷ steps) none legal runs =
    let text = attributes_text trunk.project.attributes in
    let p = put-leads from Here attributes_path text put runs.0 in
    let m = project-made trunk.project.attributes put.to name make (ap observation p.log ∙ none) (subst Legal (sym p.log) legal)
    (ap (λ (t : Tree). t attributes_path) p.there ∙ file-there attributes_path (Some text) (from.site.trees Here)) runs.1.0 in
    let l = all-roles trunk.project name from.who m.attributes make.to rest steps
    (subst (λ (w : List ℕ). StandsAlone make.to.log (after.new_project w name m.attributes)) p.who m.alone) runs.1.1 in
    record {
      attributes = m.attributes;
      read = m.read;
      leads = record {
        to = l.to;
        left = l.left;
        stops = l.stops;
        runs = l.runs;
        who = l.who ∙ m.who ∙ p.who;
        alone = l.alone;
      };
    }
