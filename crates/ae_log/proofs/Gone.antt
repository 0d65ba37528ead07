-- Events after which the change holds no file: its locks and the versions frozen in it are gone.
use Rattle.std.proofs.Common.{◌≡◌, ℕ, refl, sym, ◌∙◌, ap, subst, List, map, Option, Some, None, Bool, true, false, cond, nat_eq, ◌&&◌, not}
use Rattle.std.specs.Prelude.{is_some, length, IfSome}
use Rattle.std.specs.Option.{option_map}
use Rattle.ae_base.specs.declared.words.Phase.{Phase}
use Rattle.ae_types.specs.declared.change.Change.{Change}
use Rattle.ae_types.specs.declared.change.ChangeFile.{ChangeFile}
use Rattle.ae_types.specs.declared.file_table.Lock.{Lock}
use Rattle.ae_types.specs.declared.version.VersionRef.{VersionRef}
use Rattle.ae_types.specs.Observation.{Observation}
use Rattle.ae_types.specs.Found.{change_in, file_in, file_path, has_file, lock_in, lock_path}
use Rattle.ae_types.specs.Phases.{is_awaiting_development, holds_locks, is_remove}
use Rattle.ae_types.specs.Versions.{Place, in_table, in_change, version_at}
use Rattle.ae_types.specs.Sound.{Sound, AreVersions, AreLocks, AreFiles, FitsLength}
use Rattle.ae_types.proofs.Keys.{by_text}
use Rattle.ae_types.proofs.Ordered.{at-map, map-ascends, at-filter, filter-ascends, if_so, none-some}
use Rattle.std.proofs.lemmas.List.{length-map}
use Rattle.std.proofs.Common.{arith, ◌≤◌}
use Rattle.std.proofs.lemmas.Bool.{false≢true}
use Rattle.std.proofs.lemmas.Option.{same_Some}
use Rattle.ae_log.specs.After.{where_number, thawed, without_locks}
use Rattle.ae_log.proofs.OneChange.{Keeps, was, each-own}
use Rattle.ae_log.proofs.Still.{frozen_of, version_in}

module _ (o : Observation) (s : Sound o) (c : ℕ) (h : Change → Change) (keeps : Keeps h) (x : Change) (at_c : change_in o.changes c ≡ Some x) where
  abbrev pub later : List Change
  later = map (where_number c h) o.changes

  -- ---- locks

  lock-found : (p : List ℕ) → lock_in (without_locks c o.locks) p ≡ if_so by_text lock_path (λ (l : Lock). not (nat_eq c l.change)) (lock_in o.locks p)
  lock-found p = at-filter by_text lock_path (λ (l : Lock). not (nat_eq c l.change)) p o.locks s.locks.ascend

  -- a lock that is left was there, and is another change's
  record Left (p : List ℕ) (l : Lock) : Type 0 where
    there : lock_in o.locks p ≡ Some l
    other : nat_eq c l.change ≡ false

  left : (p : List ℕ) (l : Lock) → lock_in (without_locks c o.locks) p ≡ Some l → Left p l
  left p l e = go (lock_in o.locks p) refl (sym (lock-found p) ∙ e)
    where
      kept : (k : Lock) → lock_in o.locks p ≡ Some k → (b : Bool) → nat_eq c k.change ≡ b → cond (not b) (Some k) None ≡ Some l → Left p l
      kept k ek true b e = none-some l e
      kept k ek false b e = record { there = ek ∙ e; other = ap (λ (m : Lock). nat_eq c m.change) (sym (same_Some k l e)) ∙ b }

      go : (v : Option Lock) → lock_in o.locks p ≡ v → if_so by_text lock_path (λ (l : Lock). not (nat_eq c l.change)) v ≡ Some l → Left p l
      go (Some k) ek e = kept k ek (nat_eq c k.change) refl e
      go None ek e = none-some l e

  -- a change of another number is as it was
  other-was : (n : ℕ) (y : Change) → nat_eq c n ≡ false → change_in later n ≡ Some y → change_in o.changes n ≡ Some y
  other-was n y differ e = let w = was c h keeps o.changes n y e in w.there ∙ ap (λ z. Some z) (sym (w.now ∙ ap (λ b. cond b (h w.old) w.old) differ))

  held-still : (p : List ℕ) (n : ℕ) → nat_eq c n ≡ false → IfSome (change_in o.changes n) (λ (change : Change). (holds_locks change.phase ≡ true) × (has_file change p ≡ true)) → (y : Option Change) → change_in later n ≡ y
      → IfSome y (λ (change : Change). (holds_locks change.phase ≡ true) × (has_file change p ≡ true))
  held-still p n differ i (Some y) e = subst (λ v. IfSome v (λ (change : Change). (holds_locks change.phase ≡ true) × (has_file change p ≡ true))) (other-was n y differ e) i
  held-still p n differ i None e = tt

  keep : (n : ℕ) → nat_eq c n ≡ false → (l : Option Lock) → option_map (λ (l : Lock). l.change) l ≡ Some n → option_map (λ (l : Lock). l.change) (if_so by_text lock_path (λ (l : Lock). not (nat_eq c l.change)) l) ≡ Some n
  keep n differ (Some l) e = ap (λ b. option_map (λ (l : Lock). l.change) (cond (not b) (Some l) None)) (ap (nat_eq c) (same_Some l.change n e) ∙ differ) ∙ e
  keep n differ None e = none-some n e

  pub locks-gone : holds_locks (h x).phase ≡ false → AreLocks o.numbers (without_locks c o.locks) later
  locks-gone idle = record {
    ascend = filter-ascends by_text lock_path (λ (l : Lock). not (nat_eq c l.change)) o.locks s.locks.ascend;
    numbered = λ p l e. s.locks.numbered p l (left p l e).there;
    held = λ p l e. let k = left p l e in held-still p l.change k.other (s.locks.held p l k.there) (change_in later l.change) refl;
    taken = each-own c h keeps o.changes (λ n y. holds_locks y.phase ≡ true → (p : List ℕ) → has_file y p ≡ true → option_map (λ (l : Lock). l.change) (lock_in (without_locks c o.locks) p) ≡ Some n)
        (λ y ey i. absurd (false≢true (sym (ap (λ (z : Change). holds_locks (h z).phase) (same_Some y x (sym ey ∙ at_c)) ∙ idle) ∙ i)))
        (λ n y differ ey i p has. ap (option_map (λ (l : Lock). l.change)) (lock-found p) ∙ keep n differ (lock_in o.locks p) (s.locks.taken n y ey i p has));
  }

  -- ---- versions

  -- a version that stands stood before
  version-was : ((p : List ℕ) → frozen_of (file_in (h x).files p) ≡ None) → (q : Place) (v : VersionRef) → version_at o.files later q ≡ Some v → version_at o.files o.changes q ≡ Some v
  version-was none (in_table p d) v e = e
  version-was none (in_change n p) v e = go (change_in later n) refl e
    where
      go : (y : Option Change) → change_in later n ≡ y → version_in p y ≡ Some v → version_in p (change_in o.changes n) ≡ Some v
      go (Some y) ey f = each-own c h keeps o.changes (λ n y. version_in p (Some y) ≡ Some v → version_in p (change_in o.changes n) ≡ Some v)
          (λ z ez g. none-some v (sym (ap (λ (z : Change). frozen_of (file_in (h z).files p)) (same_Some z x (sym ez ∙ at_c)) ∙ none p) ∙ g))
          (λ m z differ ez g. ap (version_in p) ez ∙ g) n y ey f
      go None ey f = none-some v f

  pub versions-gone : ((p : List ℕ) → frozen_of (file_in (h x).files p) ≡ None) → AreVersions o.project.next_version o.files later
  versions-gone none = record {
    below = λ p v e. s.versions.below p v (version-was none p v e);
    apart = λ p q v w ev ew same. s.versions.apart p q v w (version-was none p v ev) (version-was none q w ew) same;
    inside = λ p v e. s.versions.inside p v (version-was none p v e);
    unshared = λ p q v w ev ew m. s.versions.unshared p q v w (version-was none p v ev) (version-was none q w ew) m;
  }

-- ---- thawed files

pub thawed-found : (files : List ChangeFile) (p : List ℕ) → file_in (map thawed files) p ≡ option_map thawed (file_in files p)
thawed-found files p = at-map by_text file_path thawed (λ _. refl) p files

pub thawed-none : (files : List ChangeFile) (p : List ℕ) → frozen_of (file_in (map thawed files) p) ≡ None
thawed-none files p = ap frozen_of (thawed-found files p) ∙ go (file_in files p)
  where
    go : (f : Option ChangeFile) → frozen_of (option_map thawed f) ≡ None
    go (Some f) = refl
    go None = refl

-- in a phase in which nothing is held
pub thawed-good : (from to : Phase) (files : List ChangeFile) → AreFiles from files → holds_locks to ≡ false → is_awaiting_development to ≡ false → AreFiles to (map thawed files)
thawed-good from to files a idle not_yet = record {
  few = few (length (map thawed files)) (length files) (length-map files thawed) a.few;
  ascend = map-ascends by_text file_path thawed (λ _. refl) files a.ascend;
  frozen = λ q f e. none q f e ∙ sym (ap (λ b. b && not (is_remove f.action)) idle);
  lengths = λ q f e. subst FitsLength (sym (ap frozen_of (sym e) ∙ thawed-none files q)) tt;
  none_yet = λ e. absurd (false≢true (sym not_yet ∙ e));
}
  where
    few : (m n : ℕ) → m ≡ n → n ≤ 1000 → m ≤ 1000
    few m n e l = omega (arith, e, l)

    none : (q : List ℕ) (f : ChangeFile) → file_in (map thawed files) q ≡ Some f → is_some f.frozen ≡ false
    none q f e = ap (λ (v : Option VersionRef). is_some v) (ap frozen_of (sym e) ∙ thawed-none files q)
