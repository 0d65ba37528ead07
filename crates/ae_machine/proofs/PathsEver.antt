-- How many paths a project has or had, with those of a change.
use Rattle.std.specs.Prelude.{◌≡◌, ℕ, ◌+◌, ◌||◌, Bool, true, false, List, [], ◌∷◌, map, Option, Some, None, length, is_some, count_by}
use Rattle.std.specs.Option.{is_none}
use Rattle.std.specs.Str.{bytes_eq}
use Rattle.std.specs.List.{find}
use Rattle.std.specs.declared.cmp.Ordering.{Ordering}
use Rattle.std.specs.declared.cmp.Ordering.TheVariants.{Less, Equal, Greater}
use Rattle.std.specs.FinMap.Entries.{by_order}
use Rattle.std.proofs.Common.{refl, sym, ap, ◌∙◌, cond, arith}
use Rattle.std.proofs.lemmas.List.{length-map}
use Rattle.std.proofs.lemmas.List.Sums.{sum_by-cons}
use Rattle.ae_base.specs.Rows.{text_cmp}
use Rattle.ae_types.specs.declared.change.ChangeFile.{ChangeFile}
use Rattle.ae_types.specs.declared.file_table.FileRow.{FileRow}
use Rattle.ae_types.specs.Clashes.{has_path}
use Rattle.ae_types.specs.Found.{file_path, row_in, row_path}
use Rattle.ae_types.specs.Ordered.{itself, put_by}
use Rattle.ae_types.proofs.Keys.{by_text}
use Rattle.ae_types.proofs.Ordered.{Ascends, above-above, at-above, greater-apart}
use Rattle.ae_machine.specs.Paths.{with_paths}
use Rattle.ae_machine.proofs.PathsThere.{keys-has, with-has}
use Rattle.ae_machine.proofs.PathsUp.{keys-up, with-up}

-- a path that is put among others makes them one more, where it isn't among them
length-put : (p : List ℕ) (paths : List (List ℕ)) → Ascends by_text itself paths → length (put_by text_cmp itself p paths) ≡ cond (has_path paths p) (length paths) (length paths + 1)
length-put p [] a = omega arith
length-put p (q ∷ paths) a = go (text_cmp p q) refl (length-put p paths a.1)
  where
    more : (b : Bool) → length (put_by text_cmp itself p paths) ≡ cond b (length paths) (length paths + 1) → length (q ∷ put_by text_cmp itself p paths) ≡ cond b (length (q ∷ paths)) (length (q ∷ paths) + 1)
    more true h = omega (arith, h)
    more false h = omega (arith, h)

    go : (r : Ordering) → text_cmp p q ≡ r → length (put_by text_cmp itself p paths) ≡ cond (has_path paths p) (length paths) (length paths + 1)
        → length (by_order r (p ∷ q ∷ paths) (p ∷ paths) (q ∷ put_by text_cmp itself p paths)) ≡ cond (has_path (q ∷ paths) p) (length (q ∷ paths)) (length (q ∷ paths) + 1)
    go Less is h =
        let absent : has_path (q ∷ paths) p ≡ false = ap (λ (v : Option (List ℕ)). is_some v) (at-above by_text itself p (q ∷ paths) (is, above-above by_text itself p q paths is a.0)) in
        let same : length (p ∷ q ∷ paths) ≡ length (q ∷ paths) + 1 = omega arith in
        same ∙ ap (λ b. cond b (length (q ∷ paths)) (length (q ∷ paths) + 1)) (sym absent)
    go Equal is h =
        let there : bytes_eq p q ≡ true = ap (λ r. bytes_eq p r) (sym (by_text.anti p q is)) ∙ by_text.same_self p in
        ap (λ b. cond (is_some (cond b (Some q) (find (λ other. bytes_eq p other) paths))) (length (q ∷ paths)) (length (q ∷ paths) + 1)) (sym there)
    go Greater is h =
        more (has_path paths p) h
        ∙ ap (λ b. cond (is_some (cond b (Some q) (find (λ other. bytes_eq p other) paths))) (length (q ∷ paths)) (length (q ∷ paths) + 1)) (sym (greater-apart by_text p q is))

abbrev ever : List ChangeFile → List FileRow → List (List ℕ)
ever files rows = with_paths (map file_path files) (map row_path rows)

-- of the files of a change those add to the paths that have no row
pub length-ever : (files : List ChangeFile) (rows : List FileRow) → Ascends by_text file_path files → Ascends by_text row_path rows
    → length (ever files rows) ≡ length rows + count_by (λ (file : ChangeFile). is_none (row_in rows file.path)) files
length-ever [] rows a b = let same = length-map rows row_path in omega (arith, same)
length-ever (file ∷ files) rows a b =
    length-put file.path (ever files rows) (with-up (map file_path files) (map row_path rows) (keys-up row_path rows b))
    ∙ ap (λ b. cond b (length (ever files rows)) (length (ever files rows) + 1)) only-rows
    ∙ go (row_in rows file.path) (length (ever files rows)) (length rows) (count_by (λ (file : ChangeFile). is_none (row_in rows file.path)) files) (length-ever files rows a.1 b)
    ∙ ap (λ n. length rows + n) (sym (sum_by-cons (λ (file : ChangeFile). cond (is_none (row_in rows file.path)) 1 0) file files))
  where
    only-rows : has_path (ever files rows) file.path ≡ is_some (row_in rows file.path)
    only-rows =
        with-has (map file_path files) (map row_path rows) file.path
        ∙ ap (λ b. b || has_path (map row_path rows) file.path) (keys-has file_path files file.path ∙ ap (λ (v : Option ChangeFile). is_some v) (at-above by_text file_path file.path files a.0))
        ∙ keys-has row_path rows file.path

    go : (v : Option FileRow) (n m k : ℕ) → n ≡ m + k → cond (is_some v) n (n + 1) ≡ m + (cond (is_none v) 1 0 + k)
    go (Some row) n m k h = omega (arith, h)
    go None n m k h = omega (arith, h)
