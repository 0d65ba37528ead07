-- What one change of a directory makes of it.
use Rattle.std.proofs.Common.{◌≡◌, ℕ, refl, sym, ◌∙◌, ap, subst, List, [], ◌∷◌, Option, Some, None, Bool, true, false, cond}
use Rattle.std.specs.Prelude.{is_some}
use Rattle.std.specs.Option.{option_map, option_or}
use Rattle.std.specs.Str.{bytes_eq}
use Rattle.ae_base.specs.Rows.{text_cmp}
use Rattle.ae_evidence.specs.Directories.{dir_of, dirs_after, tree_after, with_dir, with_some_file}
use Rattle.ae_evidence.specs.declared.directories.DirChange.{DirChange}
use Rattle.ae_files.specs.InTree.{row_at}
use Rattle.ae_machine.specs.Sight.{with_bytes}
use Rattle.ae_outside.specs.Trees.{Tree, no_files, with_file, with_rows}
use Rattle.ae_outside.specs.declared.dir.Dir.{Dir}
use Rattle.ae_outside.specs.declared.dir.Dir.TheVariants.{Develop}
use Rattle.ae_types.specs.Ordered.{Above, Ascends}
use Rattle.ae_types.specs.Trees.{TreeRow, tree_path}
use Rattle.ae_types.proofs.Keys.{by_number, by_text}
use Rattle.ae_types.proofs.Ordered.{at-above}
use Rattle.ae_received.proofs.Touches.{file-others, file-there}

-- the develop directory after a change of it
pub develop-after : (change : DirChange) (trees : Dir → Tree) (number : ℕ) → dir_of change ≡ Develop number → dirs_after (change ∷ []) trees (Develop number) ≡ tree_after change (trees (Develop number))
develop-after change trees number is =
    subst (λ (dir : Dir). with_dir dir (tree_after change (trees dir)) trees (Develop number) ≡ tree_after change (trees (Develop number))) (sym is)
    (ap (λ b. cond b (tree_after change (trees (Develop number))) (trees (Develop number))) (by_number.same_self number))

-- a file that is made where there is none
pub made-others : (path : List ℕ) (tree : Tree) (q : List ℕ) → bytes_eq q path ≡ false → with_some_file path tree q ≡ tree q
made-others path tree q differ = go (is_some (tree path))
  where
    go : (b : Bool) → cond b tree (with_file path (Some []) tree) q ≡ tree q
    go true = refl
    go false = file-others path (Some []) tree q differ

-- a tree that is put lies over what was there: at a path is its file there, with its bytes
module _ (bytes : ℕ → List ℕ) (q : List ℕ) where
  abbrev bytes_of : TreeRow → List ℕ
  bytes_of row = bytes row.version.number

  pub put-over : (rows : List TreeRow) (tree : Tree) → Ascends text_cmp tree_path rows → with_rows (with_bytes bytes rows) tree q ≡ option_or (option_map bytes_of (row_at rows q)) (tree q)
  put-over [] tree up = refl
  put-over (row ∷ rows) tree up = put-over rows (with_file row.path (Some (bytes_of row)) tree) up.1 ∙ go (bytes_eq q row.path) refl
    where
      under : Tree
      under = with_file row.path (Some (bytes_of row)) tree

      go : (b : Bool) → bytes_eq q row.path ≡ b → option_or (option_map bytes_of (row_at rows q)) (under q) ≡ option_or (option_map bytes_of (cond b (Some row) (row_at rows q))) (tree q)
      go true is =
          ap (λ v. option_or (option_map bytes_of v) (under q)) (at-above by_text tree_path q rows (subst (λ p. Above text_cmp tree_path p rows) (sym (by_text.same_is q row.path is)) up.0))
          ∙ ap under (by_text.same_is q row.path is) ∙ file-there row.path (Some (bytes_of row)) tree
      go false is = ap (option_or (option_map bytes_of (row_at rows q))) (file-others row.path (Some (bytes_of row)) tree q is)

  pub filled : (rows : List TreeRow) → Ascends text_cmp tree_path rows → with_rows (with_bytes bytes rows) no_files q ≡ option_map bytes_of (row_at rows q)
  filled rows up = put-over rows no_files up ∙ go (row_at rows q)
    where
      go : (v : Option TreeRow) → option_or (option_map bytes_of v) None ≡ option_map bytes_of v
      go (Some row) = refl
      go None = refl
