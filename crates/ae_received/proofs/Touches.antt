-- An act on a path leaves the rows of a change, and its directory, as they are at every other path.
use Rattle.std.proofs.Common.{◌≡◌, ℕ, refl, ◌∙◌, ap, List, Option, Some, Bool, true, false, cond}
use Rattle.std.specs.Prelude.{IfSome}
use Rattle.std.specs.Option.{option_map, option_or}
use Rattle.std.specs.Str.{bytes_eq}
use Rattle.std.proofs.lemmas.Cmp.{nat_list_eq_equiv}
use Rattle.ae_base.specs.Rows.{text_cmp}
use Rattle.ae_outside.specs.Trees.{Tree, with_file}
use Rattle.ae_types.specs.declared.change.ChangeFile.{ChangeFile}
use Rattle.ae_types.specs.Found.{file_path, file_in}
use Rattle.ae_types.specs.Ordered.{Ascends, put_by}
use Rattle.ae_types.proofs.Keys.{by_text}
use Rattle.ae_types.proofs.Ordered.{at-put}
use Rattle.ae_received.specs.Edits.{Edit, edit_at, edit_of}

-- The rows have this edit at the path now, where one is given, and the directory has this file there, where that is given; at every
-- other path both are as they were.
pub record Touched (path : List ℕ) (edit : Option Edit) (lies : Option (Option (List ℕ))) (files next : List ChangeFile) (old new : Tree) : Type 0 where
  pub ascend : Ascends text_cmp file_path files → Ascends text_cmp file_path next
  pub found : (q : List ℕ) → edit_at next q ≡ cond (bytes_eq q path) (option_or edit (edit_at files q)) (edit_at files q)
  pub others : (q : List ℕ) → bytes_eq q path ≡ false → new q ≡ old q
  pub there : IfSome lies (λ bytes. new path ≡ bytes)

-- a row that is put
abbrev pub with_row : ChangeFile → List ChangeFile → List ChangeFile
with_row row files = put_by text_cmp file_path row files

pub row-found : (row : ChangeFile) (files : List ChangeFile) (q : List ℕ) → edit_at (with_row row files) q ≡ cond (bytes_eq q row.path) (option_or (Some (edit_of row)) (edit_at files q)) (edit_at files q)
row-found row files q = ap (option_map edit_of) (at-put by_text file_path q row files) ∙ go (bytes_eq q row.path)
  where
    go : (b : Bool) → option_map edit_of (cond b (Some row) (file_in files q)) ≡ cond b (Some (edit_of row)) (edit_at files q)
    go true = refl
    go false = refl

-- one that isn't
pub none-found : (b : Bool) (found : Option Edit) → found ≡ cond b found found
none-found true found = refl
none-found false found = refl

-- a file that is put
pub file-others : (path : List ℕ) (bytes : Option (List ℕ)) (tree : Tree) (q : List ℕ) → bytes_eq q path ≡ false → with_file path bytes tree q ≡ tree q
file-others path bytes tree q e = ap (λ b. cond b bytes (tree q)) (nat_list_eq_equiv.symm path q ∙ e)

pub file-there : (path : List ℕ) (bytes : Option (List ℕ)) (tree : Tree) → with_file path bytes tree path ≡ bytes
file-there path bytes tree = ap (λ b. cond b bytes (tree path)) (by_text.same_self path)
