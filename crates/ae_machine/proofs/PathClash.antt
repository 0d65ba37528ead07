-- Where the files were clear before one path was put or taken, what clashes after it involves the path, and the test of the
-- path alone finds the least path that clashes.
use Rattle.std.specs.Prelude.{◌≡◌, ℕ, Bool, true, false, ◌&&◌, not, List, Option, Some, None}
use Rattle.std.specs.List.{list_any}
use Rattle.std.specs.Option.{option_and_then, option_map, option_or}
use Rattle.std.specs.Ordering.{is_eq}
use Rattle.std.specs.Str.{bytes_eq}
use Rattle.std.specs.declared.cmp.Ordering.{Ordering}
use Rattle.std.specs.declared.cmp.Ordering.TheVariants.{Less, Equal, Greater}
use Rattle.std.proofs.Common.{refl, sym, ap, subst, ◌∙◌, cond, if◌then◌else◌, ◌⊎◌, inl, inr}
use Rattle.std.proofs.lemmas.Bool.{or_cases, or_left, or_right, false≢true, and_parts, false_from_ne_true}
use Rattle.ae_base.specs.declared.refusal.Refusal.{Refusal}
use Rattle.ae_base.specs.declared.refusal.Refusal.TheVariants.{PathClash}
use Rattle.ae_types.specs.declared.change.ChangeFile.{ChangeFile}
use Rattle.ae_types.specs.Clashes.{folders_of, has_path}
use Rattle.ae_types.specs.Found.{file_in, file_path, row_path}
use Rattle.ae_types.specs.Observation.{Observation}
use Rattle.ae_types.specs.Phases.{is_remove}
use Rattle.ae_types.specs.Sound.{Sound}
use Rattle.ae_types.specs.Trees.{last_delta}
use Rattle.ae_base.specs.Rows.{text_cmp}
use Rattle.ae_types.proofs.Clashing.{folders-in, has-in, in-folders, in-has}
use Rattle.ae_types.proofs.Keys.{by_text}
use Rattle.ae_types.proofs.Members.{In, any-in, in-any}
use Rattle.ae_types.proofs.Ordered.{Ascends, at-put, less-other}
use Rattle.ae_types.proofs.Splits.{not-is}
use Rattle.ae_types.proofs.TreePaths.{stands}
use Rattle.ae_words.specs.declared.table.Function.{Function}
use Rattle.ae_words.specs.declared.table.Function.TheVariants as function
use Rattle.ae_machine.specs.Call.{Call}
use Rattle.ae_machine.specs.Filing.{are_clear, are_few, asked_after}
use Rattle.ae_machine.specs.LeastClash.{folder_in, row_stays}
use Rattle.ae_machine.specs.PathClash.{IsClearBut, any_in_folder, asks_for_clashes, file_stays, from_folder, holds_paths, path_clash, place_to}
use Rattle.ae_machine.specs.Paths.{file_made, files_with, paths_with}
use Rattle.ae_machine.specs.Rules.{there_by}
use Rattle.ae_machine.proofs.AcceptedIntegration.{none-clash}
use Rattle.ae_machine.proofs.AcceptedPaths.{IsOwn}
use Rattle.ae_machine.proofs.ClashingPaths.{FromFile, FromRow, file-path, first-is, first-none, folders-up, row-path, source}
use Rattle.ae_machine.proofs.InFolder.{folder-any, folder-place, inside, place-folder}
use Rattle.ae_machine.proofs.LeastClash.{clash-none, folder-less, least-clash}
use Rattle.ae_machine.proofs.PathSplits.{set-ascends}
use Rattle.ae_machine.proofs.PathsThere.{paths-there}
use Rattle.ae_machine.proofs.PathsUp.{paths-with-up}
use Rattle.ae_machine.proofs.ReversedPaths.{at-without}

is-equal : (r : Ordering) → is_eq r ≡ true → r ≡ Equal
is-equal Less e = cc
is-equal Equal e = refl
is-equal Greater e = cc

-- ---- a path that lies in a folder

module _ (o : Observation) (files : List ChangeFile) (s : Sound o) (up : Ascends by_text file_path files) where
  abbrev paths : List (List ℕ)
  paths = paths_with o files

  -- a path of the project lies in the folder
  abbrev pub Holds : List ℕ → Type 0
  Holds folder = (q : List ℕ) × In paths q × In (folders_of q) folder

  abbrev of_rows : List ℕ → Bool
  of_rows folder = any_in_folder row_path (row_stays o files) folder (from_folder row_path folder o.files)

  abbrev of_files : List ℕ → Bool
  of_files folder = any_in_folder file_path file_stays folder (from_folder file_path folder files)

  rows-are : (folder : List ℕ) → of_rows folder ≡ list_any (inside row_path (row_stays o files) folder) o.files
  rows-are folder = folder-any row_path (row_stays o files) folder o.files s.rows.ascend

  files-are : (folder : List ℕ) → of_files folder ≡ list_any (inside file_path file_stays folder) files
  files-are folder = folder-any file_path file_stays folder files up

  lies-in : (folder path : List ℕ) → is_eq (place_to folder path) ≡ true → In (folders_of path) folder
  lies-in folder path e = folders-in path folder (place-folder folder path (is-equal (place_to folder path) e))

  place-in : (folder q path : List ℕ) → path ≡ q → In (folders_of q) folder → is_eq (place_to folder path) ≡ true
  place-in folder q path is on = ap (λ (p : List ℕ). is_eq (place_to folder p)) is ∙ ap is_eq (folder-place folder q (in-folders q folder on))

  pub holds-some : (folder : List ℕ) → holds_paths o files folder ≡ true → Holds folder
  holds-some folder e = go (or_cases (of_rows folder) (of_files folder) e)
    where
      go : (of_rows folder ≡ true) ⊎ (of_files folder ≡ true) → Holds folder
      go (inl h) =
          let r = any-in (inside row_path (row_stays o files) folder) o.files (sym (rows-are folder) ∙ h) in
          let both = and_parts (is_eq (place_to folder r.0.path)) (row_stays o files r.0) r.2 in
          (r.0.path, row-path o files s up r.0 r.1 both.1, lies-in folder r.0.path both.0)
      go (inr h) =
          let r = any-in (inside file_path file_stays folder) files (sym (files-are folder) ∙ h) in
          let both = and_parts (is_eq (place_to folder r.0.path)) (file_stays r.0) r.2 in
          (r.0.path, file-path o files s up r.0 r.1 (kept r.0 both.1), lies-in folder r.0.path both.0)
        where
          kept : (file : ChangeFile) → file_stays file ≡ true → is_remove file.action ≡ false
          kept file stays = false_from_ne_true (is_remove file.action) (not-is (is_remove file.action) stays)

  pub some-holds : (folder q : List ℕ) → In paths q → In (folders_of q) folder → holds_paths o files folder ≡ true
  some-holds folder q m on = go (source o files s up q m)
    where
      go : FromRow o files s up q ⊎ FromFile o files s up q → holds_paths o files folder ≡ true
      go (inl (row, there, is, stays)) =
          or_left (of_rows folder) (of_files folder) (rows-are folder ∙ in-any (inside row_path (row_stays o files) folder) o.files row there (ap (λ b. b && row_stays o files row) (place-in folder q row.path is on) ∙ stays))
      go (inr (file, there, is, stays)) =
          or_right (of_rows folder) (of_files folder) (files-are folder ∙ in-any (inside file_path file_stays folder) files file there (ap (λ b. b && file_stays file) (place-in folder q file.path is on) ∙ ap not stays))

-- ---- the least path that clashes

self-less : (path : List ℕ) → text_cmp path path ≡ Less → ⊥
self-less path l = less-other by_text path path l refl

module _ (o : Observation) (files : List ChangeFile) (path : List ℕ) (s : Sound o) (up : Ascends by_text file_path files) (but : IsClearBut path o files) where
  abbrev all : List (List ℕ)
  all = paths_with o files

  -- two paths that clash, of which one is the path
  one-is : (f q : List ℕ) → In all f → In all q → In (folders_of q) f → (f ≡ path) ⊎ (q ≡ path)
  one-is f q m n on = but f q (in-has all f m) (in-has all q n) (in-folders q f on)

  absent-clear : has_path all path ≡ false → are_clear o files ≡ None
  absent-clear e = clash-none all (λ f q m n on. go f q m n (one-is f q m n on))
    where
      go : (f q : List ℕ) → In all f → In all q → (f ≡ path) ⊎ (q ≡ path) → ⊥
      go f q m n (inl is) = absurd (false≢true (sym e ∙ ap (has_path all) (sym is) ∙ in-has all f m))
      go f q m n (inr is) = absurd (false≢true (sym e ∙ ap (has_path all) (sym is) ∙ in-has all q n))

  -- the shortest folder on the way to it
  folder-clashes : has_path all path ≡ true → (d : List ℕ) → folder_in all path ≡ Some d → are_clear o files ≡ Some (PathClash d)
  folder-clashes e d is =
      let first = first-is (has_path all) (folders_of path) d (folders-up path) is in
      least-clash all d path (paths-with-up o files s) (has-in all d first.passes) (has-in all path e) first.there (λ f q m n on. go f q m on (one-is f q m n on))
    where
      go : (f q : List ℕ) → In all f → In (folders_of q) f → (f ≡ path) ⊎ (q ≡ path) → text_cmp f d ≡ Less → ⊥
      go f q m on (inl at) l =
          let first = first-is (has_path all) (folders_of path) d (folders-up path) is in
          self-less d (by_text.total.trans d path d (folder-less path d first.there) (subst (λ (g : List ℕ). text_cmp g d ≡ Less) at l))
      go f q m on (inr at) l = (first-is (has_path all) (folders_of path) d (folders-up path) is).least f (subst (λ (g : List ℕ). In (folders_of g) f) at on) (in-has all f m) l

  -- no folder on the way to it is a path
  no-folder : folder_in all path ≡ None → (f q : List ℕ) → In all f → In (folders_of q) f → q ≡ path → ⊥
  no-folder none f q m on at = first-none (has_path all) (folders_of path) none f (subst (λ (g : List ℕ). In (folders_of g) f) at on) (in-has all f m)

  self-clashes : has_path all path ≡ true → folder_in all path ≡ None → holds_paths o files path ≡ true → are_clear o files ≡ Some (PathClash path)
  self-clashes e none holds =
      let held = holds-some o files s up path holds in
      least-clash all path held.0 (paths-with-up o files s) (has-in all path e) held.1 held.2 (λ f q m n on. go f q m on (one-is f q m n on))
    where
      go : (f q : List ℕ) → In all f → In (folders_of q) f → (f ≡ path) ⊎ (q ≡ path) → text_cmp f path ≡ Less → ⊥
      go f q m on (inl at) l = self-less path (subst (λ (g : List ℕ). text_cmp g path ≡ Less) at l)
      go f q m on (inr at) l = no-folder none f q m on at

  nothing-clashes : folder_in all path ≡ None → holds_paths o files path ≡ false → are_clear o files ≡ None
  nothing-clashes none holds = clash-none all (λ f q m n on. go f q m n on (one-is f q m n on))
    where
      go : (f q : List ℕ) → In all f → In all q → In (folders_of q) f → (f ≡ path) ⊎ (q ≡ path) → ⊥
      go f q m n on (inl at) = absurd (false≢true (sym holds ∙ some-holds o files s up path q n (subst (λ (g : List ℕ). In (folders_of q) g) at on)))
      go f q m n on (inr at) = no-folder none f q m on at

  pub path-clear-is : are_clear o files ≡ option_map PathClash (path_clash o files path)
  path-clear-is = go (has_path all path) refl (folder_in all path) refl (holds_paths o files path) refl
    where
      go : (b : Bool) → has_path all path ≡ b → (v : Option (List ℕ)) → folder_in all path ≡ v → (h : Bool) → holds_paths o files path ≡ h
          → are_clear o files ≡ option_map PathClash (option_and_then (λ own. option_or v (if h then Some own else None)) (if b then Some path else None))
      go false e v is h holds = absent-clear e
      go true e (Some d) is h holds = folder-clashes e d is
      go true e None is true holds = self-clashes e is holds
      go true e None is false holds = nothing-clashes is holds

-- ---- one path is put or taken

at-other : (path : List ℕ) (made : Option ChangeFile) (files : List ChangeFile) → IsOwn path made → Ascends by_text file_path files → (q : List ℕ) → bytes_eq q path ≡ false → file_in (files_with path made files) q ≡ file_in files q
at-other path (Some file) files own up q other =
    at-put by_text file_path q file files ∙ ap (λ b. cond b (Some file) (file_in files q)) (ap (bytes_eq q) (sym (ap file_path own)) ∙ other)
at-other path None files own up q other = at-without path q files up ∙ ap (λ b. cond b None (file_in files q)) other

pub made-own : (f : Function) (call : Call) (path : List ℕ) → IsOwn path (file_made f call path)
made-own function.List call path = tt
made-own _ call path = assumption

-- where the files were clear, a clash after the path has the path in it
pub clear-with : (o : Observation) (path : List ℕ) (made : Option ChangeFile) (files : List ChangeFile) → Sound o → Ascends by_text file_path files → IsOwn path made → are_clear o files ≡ None → IsClearBut path o (files_with path made files)
clear-with o path made files s up own clear f q m n on = go (bytes_eq f path) refl (bytes_eq q path) refl
  where
    then_ : List ChangeFile
    then_ = files_with path made files

    was : (p : List ℕ) → bytes_eq p path ≡ false → has_path (paths_with o then_) p ≡ true → has_path (paths_with o files) p ≡ true
    was p other there =
        paths-there o files p s up
        ∙ ap (λ (v : Option ChangeFile). there_by v (stands (last_delta o) o.files p)) (sym (at-other path made files own up p other))
        ∙ sym (paths-there o then_ p s (set-ascends path made files up)) ∙ there

    go : (b : Bool) → bytes_eq f path ≡ b → (c : Bool) → bytes_eq q path ≡ c → (f ≡ path) ⊎ (q ≡ path)
    go true e c g = inl (by_text.same_is f path e)
    go false e true g = inr (by_text.same_is q path g)
    go false e false g = absurd (none-clash (paths_with o files) clear f q (was f e m) (was q g n) on)

first-none-of : (a b : Option Refusal) → option_or a b ≡ None → a ≡ None
first-none-of (Some a) b e = cc
first-none-of None b e = refl

-- where a function asks for clashes and nothing is refused, the files are clear
pub asked-clear : (f : Function) (o : Observation) (files : List ChangeFile) → asked_after f o files ≡ None → asks_for_clashes f ≡ true → are_clear o files ≡ None
asked-clear function.List o files e asks = cc
asked-clear _ o files e asks = let first = first-none-of (are_clear o files) (are_few files) in search
