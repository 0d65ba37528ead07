-- The first event makes what keeps the rules, and events of settings and roles keep them.
use Rattle.std.proofs.Common.{◌≡◌, ℕ, ◌<◌, refl, List, [], ◌∷◌, ◌++◌, Option, Some, None, true, false, arith, length-append}
use Rattle.std.specs.Prelude.{length, IsSomeAnd}
use Rattle.std.specs.List.{IsDistinct}
use Rattle.std.specs.Str.{bytes_eq}
use Rattle.std.proofs.lemmas.Map.Made.{length-remove_key}
use Rattle.ae_types.specs.Users.{AllDiffer, without}
use Rattle.ae_base.specs.declared.words.Role.{Role}
use Rattle.ae_base.specs.declared.words.Role.TheVariants.{Administrator, Developer, Reviewer, Integrator}
use Rattle.ae_types.specs.declared.project.Attributes.{Attributes}
use Rattle.ae_types.specs.declared.version.VersionRef.{VersionRef}
use Rattle.ae_types.specs.Observation.{Observation}
use Rattle.ae_types.specs.Roles.{users_of, with_users, refuses_adding, refuses_dropping}
use Rattle.ae_types.specs.Sound.{Sound, IsGoodRole}
use Rattle.ae_types.specs.Versions.{Place, in_table, in_change, version_at}
use Rattle.ae_types.proofs.Ordered.{none-some}
use Rattle.ae_types.proofs.GoodRoles.{may-drop, added-good, dropped-good}
use Rattle.ae_log.specs.declared.event.EventKind.{EventKind}
use Rattle.ae_log.specs.declared.event.EventKind.TheVariants as on
use Rattle.ae_log.specs.After.{started, new_observation}
use Rattle.ae_log.specs.Applies.{IsProject}
use Rattle.ae_log.specs.Laws.{BeginsSound}
use Rattle.ae_log.specs.Maker.{Maker, event_by, maker_of}

-- ---- users of a role

one-user : (user : List ℕ) → AllDiffer (user ∷ [])
unfolding IsDistinct
one-user user = (tt, tt)

none-differ : AllDiffer []
unfolding IsDistinct
none-differ = tt

-- ---- other settings and users

roles-sound : (o : Observation) → Sound o → (name : List ℕ) (attributes : Attributes) (administrators developers reviewers integrators : List (List ℕ))
    → IsGoodRole administrators → IsGoodRole developers → IsGoodRole reviewers → IsGoodRole integrators → 0 < length administrators
    → Sound (record o { project = record o.project { name = name; attributes = attributes; administrators = administrators; developers = developers; reviewers = reviewers; integrators = integrators } })
roles-sound o s name attributes admins devs revs ints ga gd gr gi some = record {
  project = record { roles = roles; administrator = some; numbers_ascend = s.project.numbers_ascend; numbered = s.project.numbered; moments = s.project.moments; next = s.project.next };
  rows = s.rows;
  changes = s.changes;
  integrating = s.integrating;
  deltas = s.deltas;
  versions = s.versions;
  entries = s.entries;
  locks = s.locks;
  candidate = s.candidate;
}
  where
    roles : (role : Role) → IsGoodRole (users_of role (record o.project { name = name; attributes = attributes; administrators = admins; developers = devs; reviewers = revs; integrators = ints }))
    roles Administrator = ga
    roles Developer = gd
    roles Reviewer = gr
    roles Integrator = gi

module _ (o : Observation) (s : Sound o) where
  abbrev pub its : (role : Role) → IsGoodRole (users_of role o.project)
  its = s.project.roles

  pub sound-attributes : (a : Attributes) → Sound (record o { project = record o.project { attributes = a } })
  sound-attributes a = roles-sound o s o.project.name a o.project.administrators o.project.developers o.project.reviewers o.project.integrators (its Administrator) (its Developer) (its Reviewer) (its Integrator) s.project.administrator

  pub sound-add : (role : Role) (user : List ℕ) → refuses_adding (users_of role o.project) user ≡ None → Sound (record o { project = with_users role (users_of role o.project ++ user ∷ []) o.project })
  sound-add Administrator user e = roles-sound o s o.project.name o.project.attributes (o.project.administrators ++ user ∷ []) o.project.developers o.project.reviewers o.project.integrators
      (added-good o.project.administrators user (its Administrator) e) (its Developer) (its Reviewer) (its Integrator) (omega (arith, length-append o.project.administrators (user ∷ [])))
  sound-add Developer user e = roles-sound o s o.project.name o.project.attributes o.project.administrators (o.project.developers ++ user ∷ []) o.project.reviewers o.project.integrators
      (its Administrator) (added-good o.project.developers user (its Developer) e) (its Reviewer) (its Integrator) s.project.administrator
  sound-add Reviewer user e = roles-sound o s o.project.name o.project.attributes o.project.administrators o.project.developers (o.project.reviewers ++ user ∷ []) o.project.integrators
      (its Administrator) (its Developer) (added-good o.project.reviewers user (its Reviewer) e) (its Integrator) s.project.administrator
  sound-add Integrator user e = roles-sound o s o.project.name o.project.attributes o.project.administrators o.project.developers o.project.reviewers (o.project.integrators ++ user ∷ [])
      (its Administrator) (its Developer) (its Reviewer) (added-good o.project.integrators user (its Integrator) e) s.project.administrator

  pub sound-drop : (role : Role) (user : List ℕ) → refuses_dropping role (users_of role o.project) user ≡ None → Sound (record o { project = with_users role (without user (users_of role o.project)) o.project })
  sound-drop Administrator user e =
      let m = may-drop Administrator o.project.administrators user e in
      roles-sound o s o.project.name o.project.attributes (without user o.project.administrators) o.project.developers o.project.reviewers o.project.integrators
      (dropped-good Administrator o.project.administrators user (its Administrator) e) (its Developer) (its Reviewer) (its Integrator)
      (omega (arith, length-remove_key (bytes_eq user) o.project.administrators m.there, m.others refl))
  sound-drop Developer user e = roles-sound o s o.project.name o.project.attributes o.project.administrators (without user o.project.developers) o.project.reviewers o.project.integrators
      (its Administrator) (dropped-good Developer o.project.developers user (its Developer) e) (its Reviewer) (its Integrator) s.project.administrator
  sound-drop Reviewer user e = roles-sound o s o.project.name o.project.attributes o.project.administrators o.project.developers (without user o.project.reviewers) o.project.integrators
      (its Administrator) (its Developer) (dropped-good Reviewer o.project.reviewers user (its Reviewer) e) (its Integrator) s.project.administrator
  sound-drop Integrator user e = roles-sound o s o.project.name o.project.attributes o.project.administrators o.project.developers o.project.reviewers (without user o.project.integrators)
      (its Administrator) (its Developer) (its Reviewer) (dropped-good Integrator o.project.integrators user (its Integrator) e) s.project.administrator

-- ---- the first event

pub sound-start : (who name : List ℕ) (attributes : Attributes) → Sound (new_observation who name attributes)
sound-start who name attributes = record {
  project = record { roles = roles; administrator = omega arith; numbers_ascend = tt; numbered = refl; moments = λ n d e. none-some d e; next = (omega arith, omega arith) };
  rows = record { ascend = tt; good = λ p r e. none-some r e; clash = λ folder path e f g. absurd (never e) };
  changes = record { ascend = tt; numbered = λ n x e. none-some x e; good = λ n x e. none-some x e };
  integrating = record { one = λ m n x y e f i j. none-some x e; room = λ n x e i. none-some x e };
  deltas = record { numbered = λ n d e. none-some d e; completed = λ n d e. none-some d e; once = λ m n d e ed ee same there. none-some d ed; named = λ n x e i. none-some x e };
  versions = record { below = λ p v e. no-version p v e; apart = λ p q v w ev ew same. no-version p v ev; inside = λ p v e h. no-version p v e; unshared = λ p q v w ev ew m. no-version p v ev };
  entries = λ n d e. none-some d e;
  locks = record { ascend = tt; numbered = λ p l e. none-some l e; held = λ p l e. none-some l e; taken = λ n x e i p has. none-some x e };
  candidate = λ n x e i. none-some x e;
}
  where
    never : false ≡ true → ⊥
    never e = cc

    no-version : {P : Type 0} (p : Place) (v : VersionRef) → version_at [] [] p ≡ Some v → P
    no-version (in_table path delta) v e = none-some v e
    no-version (in_change n path) v e = none-some v e

    roles : (role : Role) → IsGoodRole (users_of role (new_observation who name attributes).project)
    roles Administrator = record { differ = one-user who; few = omega arith }
    roles Developer = record { differ = none-differ; few = omega arith }
    roles Reviewer = record { differ = none-differ; few = omega arith }
    roles Integrator = record { differ = none-differ; few = omega arith }

begins-by : (maker : Maker) (c : Option ℕ) (kind : EventKind) → IsProject kind → IsSomeAnd (started (event_by maker c kind)) Sound
begins-by maker c (on.Project name attributes) h = sound-start maker.who name attributes
begins-by maker c kind h = absurd h

pub begins-sound : BeginsSound
begins-sound event s = begins-by (maker_of event) event.change event.what s.project
