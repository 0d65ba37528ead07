-- What a command with runs puts into the develop directory before them leaves the files that it reads there.
use Rattle.std.specs.Prelude.{◌≡◌, ◌⊎◌, ℕ, Bool, true, false, not, ◌||◌, nat_le, if◌then◌else◌, List, [], ◌∷◌, ◌++◌, map, filter, length, Option, Some, None, is_some}
use Rattle.std.specs.List.{find}
use Rattle.std.specs.Str.{bytes_eq}
use Rattle.std.proofs.Common.{refl, sym, ap, subst, ◌∙◌, inl, inr, cond}
use Rattle.std.proofs.lemmas.Bool.{false≢true}
use Rattle.ae_base.specs.Rows.{Row, Rows, text_cmp}
use Rattle.ae_outside.specs.declared.dir.Content.{Content}
use Rattle.ae_outside.specs.declared.dir.Content.TheVariants.{Bytes, TooLong}
use Rattle.ae_outside.specs.Site.{content_within, contents}
use Rattle.ae_outside.specs.Trees.{Tree, parts, with_rows, within}
use Rattle.ae_types.specs.declared.change.Change.{Change}
use Rattle.ae_types.specs.declared.change.ChangeFile.{ChangeFile}
use Rattle.ae_types.specs.Found.{file_in, file_path, has_file}
use Rattle.ae_types.specs.Ordered.{Ascends}
use Rattle.ae_types.specs.Phases.{is_remove}
use Rattle.ae_types.specs.Trees.{TreeRow, baseline_of}
use Rattle.ae_types.proofs.Keys.{by_text}
use Rattle.ae_types.proofs.Members.{In, in-either, map-in}
use Rattle.ae_types.proofs.Searched.{in-found}
use Rattle.ae_machine.specs.declared.view.View.{View}
use Rattle.ae_machine.specs.Call.{Given}
use Rattle.ae_machine.specs.Directories.{refreshed, removed}
use Rattle.ae_evidence.specs.Directories.{bytes_of}
use Rattle.ae_machine.specs.Sight.{content_of, kept_paths, read_at, with_bytes}
use Rattle.ae_machine.proofs.Lists.{filter-in}
use Rattle.ae_dirs.specs.Tracked.{names_path, with_rows_elsewhere}

-- ---- rows that name no such path

names-none : (path : List ℕ) (rows : Rows) → ((row : Row) → In rows row → bytes_eq row.0 path ≡ false) → names_path path rows ≡ false
names-none path [] each = refl
names-none path (row ∷ rows) each = ap (λ (b : Bool). b || names_path path rows) (each row (inl refl)) ∙ names-none path rows (λ other there. each other (inr there))

unless-same : (p q : List ℕ) → (p ≡ q → ⊥) → bytes_eq p q ≡ false
unless-same p q differ = go (bytes_eq p q) refl
  where
    go : (b : Bool) → bytes_eq p q ≡ b → b ≡ false
    go true is = absurd (differ (by_text.same_is p q is))
    go false is = refl

-- ---- the files that a change keeps

pub record KeptFile (change : Change) (path : List ℕ) : Type 0 where
  pub file : ChangeFile
  pub there : In change.files file
  pub stays : not (is_remove file.action) ≡ true
  pub at : file.path ≡ path

kept-file : (change : Change) (path : List ℕ) → In (kept_paths change) path → KeptFile change path
kept-file change path h =
    let f = map-in file_path (filter (λ (file : ChangeFile). not (is_remove file.action)) change.files) path h in
    let k = filter-in (λ (file : ChangeFile). not (is_remove file.action)) change.files f.0 f.1 in
    record { file = f.0; there = k.0; stays = k.1; at = f.2 }

-- ascending files have one of each path
one-file : (files : List ChangeFile) → Ascends text_cmp file_path files → (a b : ChangeFile) → In files a → In files b → a.path ≡ b.path → a ≡ b
one-file files up a b first second same =
    let both : Some a ≡ Some b = sym (in-found by_text file_path files up a first) ∙ ap (file_in files) same ∙ in-found by_text file_path files up b second in cc

both-ways : (b : Bool) → b ≡ true → not b ≡ true → ⊥
both-ways true is other = absurd (false≢true other)
both-ways false is other = absurd (false≢true is)

module _ (given : Given) (change : Change) (up : Ascends text_cmp file_path change.files) where
  not-removed : (path : List ℕ) → KeptFile change path → (row : Row) → In (map (λ (file : ChangeFile). removed file.path) (filter (λ (file : ChangeFile). is_remove file.action) change.files)) row → row.0 ≡ path → ⊥
  not-removed path k row h same =
      let f = map-in (λ (file : ChangeFile). removed file.path) (filter (λ (file : ChangeFile). is_remove file.action) change.files) row h in
      let r = filter-in (λ (file : ChangeFile). is_remove file.action) change.files f.0 f.1 in
      let one : f.0 ≡ k.file = one-file change.files up f.0 k.file r.0 k.there (ap (λ (x : Row). x.0) f.2 ∙ same ∙ sym k.at) in
      both-ways (is_remove f.0.action) r.1 (subst (λ (file : ChangeFile). not (is_remove file.action) ≡ true) (sym one) k.stays)

  not-outside : (path : List ℕ) → KeptFile change path → (row : Row) → In (with_bytes given.bytes (filter (λ (row : TreeRow). not (has_file change row.path)) (baseline_of given.call.stands))) row → row.0 ≡ path → ⊥
  not-outside path k row h same =
      let f = map-in (λ (row : TreeRow). (row.path, Some (given.bytes row.version.number))) (filter (λ (row : TreeRow). not (has_file change row.path)) (baseline_of given.call.stands)) row h in
      let r = filter-in (λ (row : TreeRow). not (has_file change row.path)) (baseline_of given.call.stands) f.0 f.1 in
      let has : has_file change k.file.path ≡ true = ap (λ (v : Option ChangeFile). is_some v) (in-found by_text file_path change.files up k.file k.there) in
      both-ways (has_file change f.0.path) (ap (has_file change) (ap (λ (x : Row). x.0) f.2 ∙ same ∙ sym k.at) ∙ has) r.1

  not-refreshed : (path : List ℕ) → In (kept_paths change) path → names_path path (refreshed given change) ≡ false
  not-refreshed path h = names-none path (refreshed given change) (λ row there. unless-same row.0 path (λ same.
      elim (in-either (map (λ (file : ChangeFile). removed file.path) (filter (λ (file : ChangeFile). is_remove file.action) change.files))
      (with_bytes given.bytes (filter (λ (row : TreeRow). not (has_file change row.path)) (baseline_of given.call.stands))) row there) [
        | inl gone ↦ not-removed path (kept-file change path h) row gone same
        | inr outside ↦ not-outside path (kept-file change path h) row outside same
      ]))

  -- so they are as they were
  pub kept-stay : (tree : Tree) (paths : List (List ℕ)) → ((path : List ℕ) → In paths path → In (kept_paths change) path) → parts 4194304 (with_rows (refreshed given change) tree) paths ≡ parts 4194304 tree paths
  kept-stay tree [] within_kept = refl
  kept-stay tree (path ∷ paths) within_kept = λ i.
      (path, within 4194304 (with_rows_elsewhere (refreshed given change) tree path (not-refreshed path (within_kept path (inl refl))) i)) ∷ kept-stay tree paths (λ other there. within_kept other (inr there)) i

-- ---- what was read there

part-of : (limit : ℕ) (file : Option (List ℕ)) → bytes_of (content_within limit file) ≡ within limit file
part-of limit None = refl
part-of limit (Some bytes) = go (nat_le (length bytes) limit)
  where
    go : (fits : Bool) → bytes_of (if fits then Bytes bytes else TooLong) ≡ (if fits then Some bytes else None)
    go true = refl
    go false = refl

pub read-is : (tree : Tree) (rest : List (List ℕ × Content)) (paths : List (List ℕ)) (path : List ℕ) → In paths path
    → content_of (find (λ (row : List ℕ × Content). bytes_eq path row.0) (contents 4194304 tree paths ++ rest)) ≡ content_within 4194304 (tree path)
read-is tree rest [] path h = absurd h
read-is tree rest (q ∷ paths) path h = go (bytes_eq path q) refl h (read-is tree rest paths path)
  where
    go : (b : Bool) → bytes_eq path q ≡ b → (q ≡ path) ⊎ In paths path
        → (In paths path → content_of (find (λ (row : List ℕ × Content). bytes_eq path row.0) (contents 4194304 tree paths ++ rest)) ≡ content_within 4194304 (tree path))
        → content_of (cond b (Some (q, content_within 4194304 (tree q))) (find (λ (row : List ℕ × Content). bytes_eq path row.0) (contents 4194304 tree paths ++ rest))) ≡ content_within 4194304 (tree path)
    go true is there later = ap (λ (p : List ℕ). content_within 4194304 (tree p)) (sym (by_text.same_is path q is))
    go false is (inl same) later = absurd (false≢true (sym is ∙ ap (bytes_eq path) same ∙ by_text.same_self path))
    go false is (inr there) later = later there

pub read-parts : (seen : View) (tree : Tree) (rest : List (List ℕ × Content)) (all paths : List (List ℕ)) → seen.develop ≡ contents 4194304 tree all ++ rest → ((path : List ℕ) → In paths path → In all path)
    → map (λ path. (path, bytes_of (read_at seen path))) paths ≡ parts 4194304 tree paths
read-parts seen tree rest all [] is among = refl
read-parts seen tree rest all (path ∷ paths) is among = λ i. (
  path,
  (ap (λ (rows : List (List ℕ × Content)). bytes_of (content_of (find (λ (row : List ℕ × Content). bytes_eq path row.0) rows))) is
      ∙ ap bytes_of (read-is tree rest all path (among path (inl refl))) ∙ part-of 4194304 (tree path)) i,
) ∷ read-parts seen tree rest all paths is (λ other there. among other (inr there)) i
