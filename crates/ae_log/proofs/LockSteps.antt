-- The locks after one more event: those of a change go, or those of its files are taken.
use Rattle.std.proofs.Common.{◌≡◌, ℕ, refl, sym, ◌∙◌, ap, List, [], ◌∷◌, Option, Some, None, Bool, true, false, cond, nat_eq, eqb-true, ◌&&◌, not}
use Rattle.std.specs.Prelude.{is_some}
use Rattle.std.specs.List.{find, filter_map}
use Rattle.std.specs.Option.{option_map, option_and_then}
use Rattle.std.proofs.lemmas.Bool.{and_parts, false≢true}
use Rattle.std.proofs.lemmas.Option.{same_Some}
use Rattle.ae_types.specs.declared.project.Attributes.{Attributes}
use Rattle.ae_types.specs.declared.change.ChangeAttributes.{ChangeAttributes}
use Rattle.ae_types.specs.declared.change.ChangeFile.{ChangeFile}
use Rattle.ae_types.specs.declared.file_table.Lock.{Lock}
use Rattle.ae_types.specs.Found.{lock_path, lock_in, file_in}
use Rattle.ae_types.specs.Phases.{holds_locks}
use Rattle.ae_types.specs.Sound.{Sound}
use Rattle.ae_types.proofs.Keys.{by_text, by_number}
use Rattle.ae_types.proofs.Ordered.{member, Ascends, at-put, put-ascends, at-filter_map, listed-is, filter_map-ascends, at-filter, filter-ascends, if_so}
use Rattle.ae_log.specs.declared.event.EventKind.{EventKind}
use Rattle.ae_log.specs.Log.{Log, course, continued}
use Rattle.ae_log.specs.Phases.{phase_of}
use Rattle.ae_log.specs.Settings.{is_there, change_attributes, change_numbers}
use Rattle.ae_log.specs.Files.{FileFact, file, paths}
use Rattle.ae_log.specs.Baseline.{holds, locked}
use Rattle.ae_log.specs.Observed.{observation_with, change_with, change_file_of, frozen_version, lock, lock_of}
use Rattle.ae_log.specs.After.{with_locks, without_locks}
use Rattle.ae_log.specs.Maker.{Maker}
use Rattle.ae_log.proofs.Lists.{find-same}
use Rattle.ae_log.proofs.Ascending.{paths-ascend}
use Rattle.ae_log.proofs.Listed.{own_lock, at-files}
use Rattle.ae_log.proofs.Steps.{of_change, happens, course-fact, found}

-- ---- one holder

-- no two changes hold a path
abbrev pub OneHolder : Log → Type 0
OneHolder log = (p : List ℕ) (c d : ℕ) → member by_number c change_numbers ≡ true → member by_number d change_numbers ≡ true → holds p (course log c) ≡ true → holds p (course log d) ≡ true → c ≡ d

-- where the rules are kept, a path has one holder
pub one-holder : (log : Log) (a : Attributes) → Sound (observation_with log a) → OneHolder log
one-holder log a s p c d mc md hc hd = same_Some c d (sym (held c mc hc) ∙ held d md hd)
  where
    held : (n : ℕ) → member by_number n change_numbers ≡ true → holds p (course log n) ≡ true → option_map (λ (l : Lock). l.change) (lock_in (observation_with log a).locks p) ≡ Some n
    held n m h = of (change_attributes (course log n)) refl
      where
        parts : (is_there (course log n) && is_some (file (course log n) p) ≡ true) × (holds_locks (phase_of (course log n)) ≡ true)
        parts = and_parts (is_there (course log n) && is_some (file (course log n) p)) (holds_locks (phase_of (course log n))) h

        has : (f : Option FileFact) → is_some f ≡ true → is_some (option_map (change_file_of p (frozen_version (course log n) p)) f) ≡ true
        has (Some f) e = refl
        has None e = absurd (false≢true e)

        of : (b : Option ChangeAttributes) → change_attributes (course log n) ≡ b → option_map (λ (l : Lock). l.change) (lock_in (observation_with log a).locks p) ≡ Some n
        of (Some b) e = s.locks.taken n (change_with n (course log n) b) (found log a n m ∙ ap (option_map (change_with n (course log n))) e) parts.1 p
            (ap (λ (f : Option ChangeFile). is_some f) (at-files (course log n) p) ∙ has (file (course log n) p) (and_parts (is_there (course log n)) (is_some (file (course log n) p)) parts.0).1)
        of None e = absurd (false≢true (sym (ap (λ (v : Option ChangeAttributes). is_some v) e) ∙ (and_parts (is_there (course log n)) (is_some (file (course log n) p)) parts.0).0))

-- ---- locks that go

member-more : (n x : ℕ) (xs : List ℕ) → member by_number n xs ≡ true → member by_number n (x ∷ xs) ≡ true
member-more n x xs e = go (nat_eq n x)
  where
    go : (b : Bool) → is_some (cond b (Some x) (find (λ j. nat_eq n j) xs)) ≡ true
    go true = refl
    go false = e

member-first : (x : ℕ) (xs : List ℕ) → member by_number x (x ∷ xs) ≡ true
member-first x xs = ap (λ b. is_some (cond b (Some x) (find (λ j. nat_eq x j) xs))) (by_number.same_self x)

-- the one that is found, but for this one
find-without : (t : ℕ → Bool) (c : ℕ) (xs : List ℕ) → ((m n : ℕ) → member by_number m xs ≡ true → member by_number n xs ≡ true → t m ≡ true → t n ≡ true → m ≡ n)
    → find (λ n. cond (nat_eq c n) false (t n)) xs ≡ option_and_then (λ m. cond (nat_eq c m) None (Some m)) (find t xs)
find-without t c [] one = refl
find-without t c (x ∷ xs) one = go (t x) refl (nat_eq c x) refl (find-without t c xs (λ m n hm hn. one m n (member-more m x xs hm) (member-more n x xs hn)))
  where
    none : t x ≡ true → nat_eq c x ≡ true → (ns : List ℕ) → ((n : ℕ) → member by_number n ns ≡ true → member by_number n xs ≡ true) → find (λ n. cond (nat_eq c n) false (t n)) ns ≡ None
    none is e [] sub = refl
    none is e (n ∷ ns) sub = ap (λ b. cond b (Some n) (find (λ n. cond (nat_eq c n) false (t n)) ns)) (cases (t n) refl (nat_eq c n) refl) ∙ none is e ns (λ m h. sub m (member-more m n ns h))
      where
        cases : (b : Bool) → t n ≡ b → (d : Bool) → nat_eq c n ≡ d → cond (nat_eq c n) false (t n) ≡ false
        cases b tn true cn = ap (λ d. cond d false (t n)) cn
        cases false tn false cn = ap (λ d. cond d false (t n)) cn ∙ tn
        cases true tn false cn = absurd (false≢true (sym cn ∙ ap (nat_eq c) (one n x (member-more n x xs (sub n (member-first n ns))) (member-first x xs) tn is) ∙ e))

    go : (b : Bool) → t x ≡ b → (d : Bool) → nat_eq c x ≡ d → find (λ n. cond (nat_eq c n) false (t n)) xs ≡ option_and_then (λ m. cond (nat_eq c m) None (Some m)) (find t xs)
        → cond (cond d false b) (Some x) (find (λ n. cond (nat_eq c n) false (t n)) xs) ≡ option_and_then (λ m. cond (nat_eq c m) None (Some m)) (cond b (Some x) (find t xs))
    go true is true e rest = none is e xs (λ n h. h) ∙ ap (λ b. cond b None (Some x)) (sym e)
    go true is false e rest = ap (λ b. cond b None (Some x)) (sym e)
    go false is true e rest = rest
    go false is false e rest = rest

-- the locks of a change go with an event after which it holds none
pub locks-go : (log : Log) (maker : Maker) (c : ℕ) (kind : EventKind) → OneHolder log
    → ((p : List ℕ) (n : ℕ) → nat_eq c n ≡ true → holds p (continued kind (happens log maker c kind) (course log n)) ≡ false)
    → filter_map (lock (of_change maker c kind ∷ log)) (paths log) ≡ without_locks c (filter_map (lock log) (paths log))
locks-go log maker c kind one gone = listed-is by_text lock_path (lock (of_change maker c kind ∷ log)) (own_lock (of_change maker c kind ∷ log)) (paths log) _ (paths-ascend log)
    (filter-ascends by_text lock_path _ _ (filter_map-ascends by_text lock_path (lock log) (own_lock log) (paths log) (paths-ascend log)))
    (λ p. listed p (member by_text p (paths log)) ∙ sym (
    at-filter by_text lock_path (λ (l : Lock). not (nat_eq c l.change)) p _ (filter_map-ascends by_text lock_path (lock log) (own_lock log) (paths log) (paths-ascend log))
    ∙ ap (if_so by_text lock_path (λ (l : Lock). not (nat_eq c l.change))) (at-filter_map by_text lock_path (lock log) (own_lock log) p (paths log))))
  where
    left : (p : List ℕ) (m : ℕ) → option_map (lock_of p) (cond (nat_eq c m) None (Some m)) ≡ if_so by_text lock_path (λ (l : Lock). not (nat_eq c l.change)) (Some (lock_of p m))
    left p m = go (nat_eq c m)
      where
        go : (b : Bool) → option_map (lock_of p) (cond b None (Some m)) ≡ cond (not b) (Some (lock_of p m)) None
        go true = refl
        go false = refl

    left_of : (p : List ℕ) (x : Option ℕ) → option_map (lock_of p) (option_and_then (λ m. cond (nat_eq c m) None (Some m)) x) ≡ if_so by_text lock_path (λ (l : Lock). not (nat_eq c l.change)) (option_map (lock_of p) x)
    left_of p (Some m) = left p m
    left_of p None = refl

    holds-then : (p : List ℕ) (n : ℕ) → holds p (course (of_change maker c kind ∷ log) n) ≡ cond (nat_eq c n) false (holds p (course log n))
    holds-then p n = course-fact (holds p) log maker c kind n ∙ go (nat_eq c n) refl
      where
        go : (b : Bool) → nat_eq c n ≡ b → cond b (holds p (continued kind (happens log maker c kind) (course log n))) (holds p (course log n)) ≡ cond b false (holds p (course log n))
        go true e = gone p n e
        go false e = refl

    listed : (p : List ℕ) (b : Bool) → cond b (lock (of_change maker c kind ∷ log) p) None ≡ if_so by_text lock_path (λ (l : Lock). not (nat_eq c l.change)) (cond b (lock log p) None)
    listed p true = ap (option_map (lock_of p)) (find-same (λ n. holds p (course (of_change maker c kind ∷ log) n)) (λ n. cond (nat_eq c n) false (holds p (course log n))) (holds-then p) change_numbers ∙ find-without (λ n. holds p (course log n)) c change_numbers (one p))
        ∙ left_of p (locked log p)
    listed p false = refl

-- ---- locks that are taken

pub at-with_locks : (c : ℕ) (fs : List ChangeFile) (locks : List Lock) (p : List ℕ) → lock_in (with_locks c fs locks) p ≡ cond (is_some (file_in fs p)) (Some (lock_of p c)) (lock_in locks p)
at-with_locks c [] locks p = refl
at-with_locks c (f ∷ fs) locks p = at-put by_text lock_path p (lock_of f.path c) (with_locks c fs locks) ∙ go (by_text.same p f.path) refl (at-with_locks c fs locks p)
  where
    go : (b : Bool) → by_text.same p f.path ≡ b → lock_in (with_locks c fs locks) p ≡ cond (is_some (file_in fs p)) (Some (lock_of p c)) (lock_in locks p)
        → cond b (Some (lock_of f.path c)) (lock_in (with_locks c fs locks) p) ≡ cond (is_some (cond b (Some f) (file_in fs p))) (Some (lock_of p c)) (lock_in locks p)
    go true e rest = ap (λ (q : List ℕ). Some (lock_of q c)) (sym (by_text.same_is p f.path e))
    go false e rest = rest

pub with_locks-ascends : (c : ℕ) (fs : List ChangeFile) (locks : List Lock) → Ascends by_text lock_path locks → Ascends by_text lock_path (with_locks c fs locks)
with_locks-ascends c [] locks h = h
with_locks-ascends c (f ∷ fs) locks h = put-ascends by_text lock_path (lock_of f.path c) (with_locks c fs locks) (with_locks-ascends c fs locks h)

-- where none was found, the one that is new is
pub find-new : (t u : ℕ → Bool) (c : ℕ) → ((n : ℕ) → u n ≡ cond (nat_eq c n) true (t n)) → (xs : List ℕ) → find t xs ≡ None → member by_number c xs ≡ true → find u xs ≡ Some c
find-new t u c new [] none there = absurd (false≢true there)
find-new t u c new (x ∷ xs) none there = ap (λ b. cond b (Some x) (find u xs)) (new x) ∙ go (nat_eq c x) refl (t x) none there (find-new t u c new xs)
  where
    go : (b : Bool) → nat_eq c x ≡ b → (d : Bool) → cond d (Some x) (find t xs) ≡ None → is_some (cond b (Some x) (find (λ j. nat_eq c j) xs)) ≡ true
        → (find t xs ≡ None → member by_number c xs ≡ true → find u xs ≡ Some c) → cond (cond b true d) (Some x) (find u xs) ≡ Some c
    go true e d none there rest = ap (λ n. Some n) (sym (eqb-true c x e))
    go false e true none there rest = cc
    go false e false none there rest = rest none there
