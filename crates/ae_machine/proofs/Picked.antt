-- What is picked of a list is picked item by item.
use Rattle.std.proofs.Common.{◌≡◌, ℕ, ◌+◌, ◌<◌, refl, sym, ◌∙◌, ap, List, [], ◌∷◌, ◌++◌, Bool, true, false, cond, ◌&&◌, ◌||◌, not, length, take, get_or, map}
use Rattle.std.proofs.lemmas.List.{take_more}
use Rattle.std.specs.Prelude.{filter}
use Rattle.std.specs.List.{list_any}
use Rattle.std.specs.Str.{bytes_eq}
use Rattle.ae_base.specs.Rows.{Row, Rows, put_row, text_cmp}
use Rattle.ae_types.specs.declared.change.Change.{Change}
use Rattle.ae_types.specs.declared.change.ChangeFile.{ChangeFile}
use Rattle.ae_types.specs.Ordered.{Above, Ascends, itself}
use Rattle.ae_types.specs.Phases.{is_remove, is_test}
use Rattle.ae_types.specs.Runs.{tests_of}
use Rattle.ae_machine.specs.Sight.{only_tests, overlaid}
use Rattle.ae_machine.specs.Versions.{is_test_at}

module _ {A B : Type 0} (test : A → Bool) (f : A → B) where
  abbrev picked : List A → List B
  picked xs = map f (filter test xs)

  picked-append : (xs ys : List A) → picked (xs ++ ys) ≡ picked xs ++ picked ys
  picked-append [] ys = refl
  picked-append (x ∷ xs) ys = go (test x) (picked-append xs ys)
    where
      go : (b : Bool) → picked (xs ++ ys) ≡ picked xs ++ picked ys → map f (cond b (x ∷ filter test (xs ++ ys)) (filter test (xs ++ ys))) ≡ map f (cond b (x ∷ filter test xs) (filter test xs)) ++ picked ys
      go true e = ap (λ zs. f x ∷ zs) e
      go false e = e

  -- what is picked of one more comes after the rest
  pub picked-more : (xs : List A) (i : ℕ) (x : A) (old new : List B) → i < length xs → x ≡ get_or xs i x → old ≡ picked (take i xs) → new ≡ old ++ picked (x ∷ []) → new ≡ picked (take (i + 1) xs)
  picked-more xs i x old new l e was is =
      is ∙ ap (λ zs. zs ++ picked (x ∷ [])) was
      ∙ ap (λ y. picked (take i xs) ++ picked (y ∷ [])) e
      ∙ sym (picked-append (take i xs) (get_or xs i x ∷ []))
      ∙ ap picked (sym (take_more xs i x l))

-- keys by themselves ascend as their rows do
pub keys-ascend : {A : Type 0} (key : A → List ℕ) (xs : List A) → Ascends text_cmp key xs → Ascends text_cmp itself (map key xs)
keys-ascend key [] a = tt
keys-ascend {A} key (x ∷ xs) a = (above xs a.0, keys-ascend key xs a.1)
  where
    above : (ys : List A) → Above text_cmp key (key x) ys → Above text_cmp itself (key x) (map key ys)
    above [] b = tt
    above (y ∷ ys) b = (b.0, above ys b.1)

-- ---- tests over a tree

overlaid-append : (xs tree ys : Rows) → overlaid tree (xs ++ ys) ≡ overlaid (overlaid tree xs) ys
overlaid-append [] tree ys = refl
overlaid-append (x ∷ xs) tree ys = overlaid-append xs (put_row x.0 x.1 tree) ys

tests-append : (change : Change) (xs ys : Rows) → only_tests change (xs ++ ys) ≡ only_tests change xs ++ only_tests change ys
tests-append change [] ys = refl
tests-append change (x ∷ xs) ys = go (list_any (bytes_eq x.0) (tests_of change)) (tests-append change xs ys)
  where
    go : (b : Bool) → only_tests change (xs ++ ys) ≡ only_tests change xs ++ only_tests change ys
        → cond b (x ∷ only_tests change (xs ++ ys)) (only_tests change (xs ++ ys)) ≡ cond b (x ∷ only_tests change xs) (only_tests change xs) ++ only_tests change ys
    go true e = ap (λ zs. x ∷ zs) e
    go false e = e

-- one more is put over the rest
pub overlaid-more : (tree : Rows) (change : Change) (rows : Rows) (i : ℕ) (row : Row) (old new : Rows) → i < length rows → row ≡ get_or rows i row → old ≡ overlaid tree (only_tests change (take i rows))
    → new ≡ overlaid old (only_tests change (row ∷ [])) → new ≡ overlaid tree (only_tests change (take (i + 1) rows))
overlaid-more tree change rows i row old new l e was is =
    is ∙ ap (λ t. overlaid t (only_tests change (row ∷ []))) was
    ∙ ap (λ y. overlaid (overlaid tree (only_tests change (take i rows))) (only_tests change (y ∷ []))) e
    ∙ sym (overlaid-append (only_tests change (take i rows)) tree (only_tests change (get_or rows i row ∷ [])))
    ∙ ap (overlaid tree) (sym (tests-append change (take i rows) (get_or rows i row ∷ [])))
    ∙ ap (λ zs. overlaid tree (only_tests change zs)) (sym (take_more rows i row l))

-- a test of the path is among the tests
pub own-test : (path : List ℕ) (files : List ChangeFile)
    → list_any (is_test_at path) files ≡ list_any (bytes_eq path) (map (λ (file : ChangeFile). file.path) (filter (λ (file : ChangeFile). is_test file.usage && not (is_remove file.action)) files))
own-test path [] = refl
own-test path (f ∷ fs) = go (is_test f.usage && not (is_remove f.action)) (own-test path fs)
  where
    go : (b : Bool) → list_any (is_test_at path) fs ≡ list_any (bytes_eq path) (map (λ (file : ChangeFile). file.path) (filter (λ (file : ChangeFile). is_test file.usage && not (is_remove file.action)) fs))
        → ((b && bytes_eq path f.path) || list_any (is_test_at path) fs)
        ≡ list_any (bytes_eq path) (map (λ (file : ChangeFile). file.path) (cond b (f ∷ filter (λ (file : ChangeFile). is_test file.usage && not (is_remove file.action)) fs) (filter (λ (file : ChangeFile). is_test file.usage && not (is_remove file.action)) fs)))
    go true e = ap (λ t. bytes_eq path f.path || t) e
    go false e = e
