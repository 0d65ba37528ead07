-- Events after which the same files are held, and the same versions stand: what the rules ask of versions and locks stays.
use Rattle.std.proofs.Common.{◌≡◌, ℕ, refl, sym, ◌∙◌, ap, subst, List, map, Option, Some, None, true}
use Rattle.std.specs.Prelude.{is_some, IfSome}
use Rattle.std.specs.Option.{option_map, option_and_then}
use Rattle.ae_types.specs.declared.change.Change.{Change}
use Rattle.ae_types.specs.declared.change.ChangeFile.{ChangeFile}
use Rattle.ae_types.specs.declared.version.VersionRef.{VersionRef}
use Rattle.ae_types.specs.Observation.{Observation}
use Rattle.ae_types.specs.Found.{change_in, file_in, has_file}
use Rattle.ae_types.specs.Phases.{holds_locks}
use Rattle.ae_types.specs.Versions.{Place, in_table, in_change, version_at}
use Rattle.ae_types.specs.Sound.{Sound, AreVersions, AreLocks}
use Rattle.ae_log.specs.After.{where_number}
use Rattle.ae_log.proofs.OneChange.{Keeps, in-own}
use Rattle.ae_log.proofs.Steady.{related}

abbrev pub frozen_of : Option ChangeFile → Option VersionRef
frozen_of file = option_and_then (λ (file : ChangeFile). file.frozen) file

-- the version of a path in a change
abbrev pub version_in : List ℕ → Option Change → Option VersionRef
version_in path change = option_and_then (λ (change : Change). frozen_of (file_in change.files path)) change

pub record Still (x y : Change) : Type 0 where
  pub holds : holds_locks y.phase ≡ holds_locks x.phase
  pub files : holds_locks x.phase ≡ true → y.files ≡ x.files
  pub frozen : (path : List ℕ) → frozen_of (file_in y.files path) ≡ frozen_of (file_in x.files path)

pub still-self : (x : Change) → Still x x
still-self x = record { holds = refl; files = λ _. refl; frozen = λ _. refl }

module _ (o : Observation) (s : Sound o) (c : ℕ) (h : Change → Change) (keeps : Keeps h) (x : Change) (at_c : change_in o.changes c ≡ Some x) (still : Still x (h x)) where
  abbrev pub later : List Change
  later = map (where_number c h) o.changes

  before : (n : ℕ) (y : Change) → change_in later n ≡ Some y → (z : Change) × (change_in o.changes n ≡ Some z) × Still z y
  before = related Still still-self o.changes c h keeps x at_c still

  version-same : (p : Place) → version_at o.files later p ≡ version_at o.files o.changes p
  version-same (in_table path delta) = refl
  version-same (in_change n path) = go (change_in later n) refl
    where
      none : (z : Option Change) → change_in o.changes n ≡ z → option_map (where_number c h) z ≡ None → None ≡ version_in path z
      none None e f = refl
      none (Some z) e f = cc

      go : (y : Option Change) → change_in later n ≡ y → version_in path (change_in later n) ≡ version_in path (change_in o.changes n)
      go (Some y) e = let b = before n y e in ap (version_in path) e ∙ b.2.frozen path ∙ sym (ap (version_in path) b.1)
      go None e = ap (version_in path) e ∙ none (change_in o.changes n) refl (sym (in-own c h keeps o.changes n) ∙ e)

  pub still-versions : AreVersions o.project.next_version o.files later
  still-versions = record {
    below = λ p v e. s.versions.below p v (sym (version-same p) ∙ e);
    apart = λ p q v w ev ew same. s.versions.apart p q v w (sym (version-same p) ∙ ev) (sym (version-same q) ∙ ew) same;
    inside = λ p v e. s.versions.inside p v (sym (version-same p) ∙ e);
    unshared = λ p q v w ev ew m. s.versions.unshared p q v w (sym (version-same p) ∙ ev) (sym (version-same q) ∙ ew) m;
  }

  held-still : (p : List ℕ) (n : ℕ) → IfSome (change_in o.changes n) (λ (change : Change). (holds_locks change.phase ≡ true) × (has_file change p ≡ true)) → (y : Option Change) → change_in later n ≡ y
      → IfSome y (λ (change : Change). (holds_locks change.phase ≡ true) × (has_file change p ≡ true))
  held-still p n i (Some y) e =
      let b = before n y e in
      let j : (holds_locks b.0.phase ≡ true) × (has_file b.0 p ≡ true) = subst (λ v. IfSome v (λ (change : Change). (holds_locks change.phase ≡ true) × (has_file change p ≡ true))) b.1 i in
      (b.2.holds ∙ j.0, ap (λ fs. is_some (file_in fs p)) (b.2.files j.0) ∙ j.1)
  held-still p n i None e = tt

  pub still-locks : AreLocks o.numbers o.locks later
  still-locks = record {
    ascend = s.locks.ascend;
    numbered = s.locks.numbered;
    held = λ p l e. held-still p l.change (s.locks.held p l e) (change_in later l.change) refl;
    taken = λ n y e i p has. let b = before n y e in let hz : holds_locks b.0.phase ≡ true = sym b.2.holds ∙ i in s.locks.taken n b.0 b.1 hz p (ap (λ fs. is_some (file_in fs p)) (sym (b.2.files hz)) ∙ has);
  }
