-- The files that are read for good rows fit a text.
use Rattle.std.specs.Prelude.{◌≡◌, ℕ, ◌+◌, ◌≤◌, true, List, [], ◌∷◌, map, length, nat_le, codes}
use Rattle.std.specs.List.{AllByRecursion, list_all}
use Rattle.std.specs.Str.{bytes_eq}
use Rattle.std.proofs.Common.{suc, refl, sym, ap, subst, ◌∙◌, arith}
use Rattle.std.proofs.lemmas.Bool.{and_parts, leb-true}
use Rattle.ae_base.specs.Names.{IsPath}
use Rattle.ae_base.specs.Rows.{text_cmp}
use Rattle.ae_base.specs.declared.words.Action.{Action}
use Rattle.ae_base.specs.declared.words.Usage.{Usage}
use Rattle.ae_types.specs.Ordered.{Above, Ascends}
use Rattle.ae_types.specs.Rules.{same_bool}
use Rattle.ae_types.proofs.Splits.{same-is}
use Rattle.ae_bundle.specs.declared.bundle.Bundle.{Bundle}
use Rattle.ae_bundle.specs.declared.bundle.BundleFile.{BundleFile}
use Rattle.ae_bundle.specs.Bundled.{Fits, FileFits, FitsFile, bundle_path, bytes_of, is_config, most_bytes_of}
use Rattle.ae_dist.specs.declared.rows.Row.{Row}
use Rattle.ae_dist.specs.declared.sending.Head.{Head}
use Rattle.ae_dist.specs.Sending.{path_of_row, row_fits, size_of, sizes_of}
use Rattle.ae_dist.specs.Steps.{AreGood, HasHead, file_key, row_key}

abbrev Key : Type 0
Key = List ℕ × (Action × (Usage × ℕ))

row_in_text : (row : Row) → IsPath row.path → row_fits row ≡ true → FitsFile row.action row.usage row.path (size_of row)
row_in_text row path fits =
    let both = and_parts (same_bool (is_config row.usage) (bytes_eq row.path (codes "aegis.conf"))) (nat_le (size_of row) (most_bytes_of row.action)) fits in
    record { is_path = path; config = same-is (is_config row.usage) (bytes_eq row.path (codes "aegis.conf")) both.0; within = leb-true (size_of row) (most_bytes_of row.action) both.1 }

file_in_text : (row : Row) (file : BundleFile) → file_key file ≡ row_key row → IsPath row.path → row_fits row ≡ true → FileFits file
file_in_text row file same path fits = subst (λ (k : Key). FitsFile k.1.0 k.1.1.0 k.0 k.1.1.1) (sym same) (row_in_text row path fits)

head_is : {A : Type 0} (x y : A) (xs ys : List A) → x ∷ xs ≡ y ∷ ys → x ≡ y
head_is x y xs ys same = cc

tail_is : {A : Type 0} (x y : A) (xs ys : List A) → x ∷ xs ≡ y ∷ ys → xs ≡ ys
tail_is x y xs ys same = cc

no_rows : {A : Type 0} (x : A) (xs : List A) → x ∷ xs ≡ [] → ⊥
no_rows x xs same = cc

all_fit : (rows : List Row) (files : List BundleFile) → map file_key files ≡ map row_key rows → AllByRecursion (λ (row : Row). IsPath row.path) rows → list_all row_fits rows ≡ true → AllByRecursion FileFits files
all_fit rows [] same paths fit = tt
all_fit [] (file ∷ files) same paths fit = absurd (no_rows (file_key file) (map file_key files) same)
all_fit (row ∷ rows) (file ∷ files) same paths fit =
    let both = and_parts (row_fits row) (list_all row_fits rows) fit in (
      file_in_text row file (head_is (file_key file) (row_key row) (map file_key files) (map row_key rows) same) paths.0 both.0,
      all_fit rows files (tail_is (file_key file) (row_key row) (map file_key files) (map row_key rows) same) paths.1 both.1,
    )

sizes_same : (rows : List Row) (files : List BundleFile) → map file_key files ≡ map row_key rows → bytes_of files ≡ sizes_of rows
sizes_same [] [] same = refl
sizes_same (row ∷ rows) [] same = absurd (no_rows (row_key row) (map row_key rows) (sym same))
sizes_same [] (file ∷ files) same = absurd (no_rows (file_key file) (map file_key files) same)
sizes_same (row ∷ rows) (file ∷ files) same =
    let one : file_key file ≡ row_key row = head_is (file_key file) (row_key row) (map file_key files) (map row_key rows) same in
    let size : length file.bytes ≡ size_of row = ap (λ (k : Key). k.1.1.1) one in
    let rest : bytes_of files ≡ sizes_of rows = sizes_same rows files (tail_is (file_key file) (row_key row) (map file_key files) (map row_key rows) same) in
    λ i. size i + rest i

lengths_same : (rows : List Row) (files : List BundleFile) → map file_key files ≡ map row_key rows → length files ≡ length rows
lengths_same [] [] same = refl
lengths_same (row ∷ rows) [] same = absurd (no_rows (row_key row) (map row_key rows) (sym same))
lengths_same [] (file ∷ files) same = absurd (no_rows (file_key file) (map file_key files) same)
lengths_same (row ∷ rows) (file ∷ files) same =
    let rest : length files ≡ length rows = lengths_same rows files (tail_is (file_key file) (row_key row) (map file_key files) (map row_key rows) same) in
    ap suc rest

above : (p q : List ℕ) (rows : List Row) (files : List BundleFile) → p ≡ q → map file_key files ≡ map row_key rows → Above text_cmp path_of_row q rows → Above text_cmp bundle_path p files
above p q rows [] at same up = tt
above p q [] (file ∷ files) at same up = absurd (no_rows (file_key file) (map file_key files) same)
above p q (row ∷ rows) (file ∷ files) at same up =
    let one : file_key file ≡ row_key row = head_is (file_key file) (row_key row) (map file_key files) (map row_key rows) same in
    ((λ i. text_cmp (at i) (one i).0) ∙ up.0, above p q rows files at (tail_is (file_key file) (row_key row) (map file_key files) (map row_key rows) same) up.1)

ascend : (rows : List Row) (files : List BundleFile) → map file_key files ≡ map row_key rows → Ascends text_cmp path_of_row rows → Ascends text_cmp bundle_path files
ascend rows [] same up = tt
ascend [] (file ∷ files) same up = absurd (no_rows (file_key file) (map file_key files) same)
ascend (row ∷ rows) (file ∷ files) same up =
    let one : file_key file ≡ row_key row = head_is (file_key file) (row_key row) (map file_key files) (map row_key rows) same in
    let rest : map file_key files ≡ map row_key rows = tail_is (file_key file) (row_key row) (map file_key files) (map row_key rows) same in
    (above file.path row.path rows files (ap (λ (k : Key). k.0) one) rest up.0, ascend rows files rest up.1)

pub good_fits : (head : Head) (rows : List Row) (bundle : Bundle) → AreGood head rows → AllByRecursion (λ (row : Row). IsPath row.path) rows → HasHead head bundle → map file_key bundle.files ≡ map row_key rows → Fits bundle
good_fits head rows bundle good paths is same =
    let many : length bundle.files ≡ length rows = lengths_same rows bundle.files same in
    let bytes : bytes_of bundle.files ≡ sizes_of rows = sizes_same rows bundle.files same in
    record {
      some = omega (arith, many, good.some);
      limits = record {
        brief = subst (λ (text : List ℕ). length text ≤ 65536) (sym is.brief) good.brief;
        description = subst (λ (text : List ℕ). length text ≤ 65536) (sym is.description) good.description;
        few = omega (arith, many, good.few);
        ascend = ascend rows bundle.files same good.ascend;
        files = all_fit rows bundle.files same paths good.fit;
        bytes = omega (arith, bytes, good.bytes);
      };
    }
