-- All lines of a generated script.
use Rattle.std.specs.Prelude.{◌≡◌, ◌≤◌, ◌<◌, ◌+◌, ◌*◌, ◌-◌, ◌==◌, ℕ, zero, suc, Bool, true, false, List, [], ◌∷◌, ◌++◌, length, codes, if◌then◌else◌}
use Rattle.std.proofs.Common.{refl, ap, arith, length-append}
use Rattle.std.proofs.lemmas.Bool.Decides.{nat_tests}
use Rattle.ae_generator.specs.Draws.{next, drawn, text_after, after_text}
use Rattle.ae_generator.specs.Lines.{first_lines, copy_line, put_line, new_files_line, config_lines, text_lines, after_texts, earlier_path, copied_lines, passed_lines, change_lines, after_change, changes_lines, generated}
use Rattle.ae_reader.specs.Cut.{most_bytes}
use Rattle.ae_words.specs.Spelling.{spells}
use Rattle.ae_words.specs.declared.table.Function.TheVariants as function
use Rattle.ae_generated.specs.Generated.{IsSize, AreScripts, HoldNoTests}
use Rattle.ae_generated.proofs.First.{first_made, first_length, new_change, config_made}
use Rattle.ae_generated.proofs.Lines.{IsChangeWord, change_made, copy_made, new_files_made}
use Rattle.ae_generated.proofs.Made.{AreMade, no_lines, one_more, made_append, made_script, made_no_test}
use Rattle.ae_generated.proofs.Puts.{drawn_below, put_made}

-- ---- the words of commands on a change

begin_word : IsChangeWord (codes "-db") function.DevelopBegin
unfolding spells
begin_word = record { names = refl; in_row = refl; word = refl; small = omega arith; one = refl; other = λ same. cc }

build_word : IsChangeWord (codes "-b") function.Build
unfolding spells
build_word = record { names = refl; in_row = refl; word = refl; small = omega arith; one = refl; other = λ same. cc }

end_word : IsChangeWord (codes "-de") function.DevelopEnd
unfolding spells
end_word = record { names = refl; in_row = refl; word = refl; small = omega arith; one = refl; other = λ same. cc }

review_word : IsChangeWord (codes "-rpass") function.ReviewPass
unfolding spells
review_word = record { names = refl; in_row = refl; word = refl; small = omega arith; one = refl; other = λ same. cc }

integrate_word : IsChangeWord (codes "-ib") function.IntegrateBegin
unfolding spells
integrate_word = record { names = refl; in_row = refl; word = refl; small = omega arith; one = refl; other = λ same. cc }

pass_word : IsChangeWord (codes "-ipass") function.IntegratePass
unfolding spells
pass_word = record { names = refl; in_row = refl; word = refl; small = omega arith; one = refl; other = λ same. cc }

-- ---- the parts of a change

texts_made : (files k n j x : ℕ) → k < 210 → j + files < 210 → 10 ≤ n → n < 210 → AreMade (text_lines files k n j x)
unfolding text_lines
texts_made zero k n j x k_few few low high = no_lines
texts_made (suc files) k n j x k_few few low high =
    one_more (put_made n low high k j x k_few (omega arith)) (texts_made files k n (j + 1) (after_text x) k_few (omega arith) low high)

texts_length : (files k n j x : ℕ) → length (text_lines files k n j x) ≡ files
unfolding text_lines
texts_length zero k n j x = refl
texts_length (suc files) k n j x = ap suc (texts_length files k n (j + 1) (after_text x))

-- what a change copies but the first
abbrev two_lines : ℕ → ℕ → ℕ → ℕ → List (List ℕ)
two_lines files k n x = copy_line n (earlier_path files k x) ∷ put_line n (earlier_path files k x) (text_after (next (next x))) ∷ []

copied_made : (files k n x : ℕ) → 1 ≤ k → k ≤ 200 → 1 ≤ files → files ≤ 99 → 10 ≤ n → n < 210 → AreMade (copied_lines files k n x) × (length (copied_lines files k n x) ≤ 2)
unfolding copied_lines earlier_path
copied_made files k n x some few some_files few_files low high = at (k == 1) refl
  where
    at : (b : Bool) → (k == 1) ≡ b → AreMade (if b then [] else two_lines files k n x) × (length (if b then [] else two_lines files k n x) ≤ 2)
    at true first = (no_lines, omega arith)
    at false other =
        let earlier : 0 < k - 1 = grind (arith, nat_tests) in
        let change : drawn (k - 1) (next x) < k - 1 = drawn_below (k - 1) (next x) earlier in
        let file : drawn files (next (next x)) < files = drawn_below files (next (next x)) (omega arith) in
        let change_few : 1 + drawn (k - 1) (next x) < 210 = omega arith in
        let file_few : 1 + drawn files (next (next x)) < 210 = omega arith in (
          one_more (copy_made n (1 + drawn (k - 1) (next x)) (1 + drawn files (next (next x))) low high change_few file_few)
              (one_more (put_made n low high (1 + drawn (k - 1) (next x)) (1 + drawn files (next (next x))) (next (next x)) change_few file_few) no_lines),
          omega arith,
        )

passed_made : (n : ℕ) → 10 ≤ n → n < 210 → AreMade (passed_lines n) × (length (passed_lines n) ≤ 6)
unfolding passed_lines
passed_made n low high = (
  one_more (change_made (codes "-b") function.Build n build_word low high)
      (one_more (change_made (codes "-de") function.DevelopEnd n end_word low high)
      (one_more (change_made (codes "-rpass") function.ReviewPass n review_word low high)
      (one_more (change_made (codes "-ib") function.IntegrateBegin n integrate_word low high)
      (one_more (change_made (codes "-b") function.Build n build_word low high)
      (one_more (change_made (codes "-ipass") function.IntegratePass n pass_word low high) no_lines))))),
  omega arith,
)

-- ---- changes

module _ (files : ℕ) (some_files : 1 ≤ files) (few_files : files ≤ 99) where
  one_made : (k x : ℕ) → 1 ≤ k → k ≤ 200 → AreMade (change_lines files k x) × (length (change_lines files k x) ≤ 112)
  unfolding change_lines
  one_made k x some few =
      let low : 10 ≤ k + 9 = omega arith in
      let high : k + 9 < 210 = omega arith in
      let k_few : k < 210 = omega arith in
      let config = config_made k in
      let texts = texts_made files k (k + 9) 1 x k_few (omega arith) low high in
      let copied = copied_made files k (k + 9) (after_texts files x) some few some_files few_files low high in
      let passed = passed_made (k + 9) low high in
      let behind : List (List ℕ) = copied_lines files k (k + 9) (after_texts files x) ++ passed_lines (k + 9) in
      let with_texts : List (List ℕ) = text_lines files k (k + 9) 1 x ++ behind in
      let two : length (config_lines k) ≤ 2 = config.1 in
      let pair : length (copied_lines files k (k + 9) (after_texts files x)) ≤ 2 = copied.1 in
      let six : length (passed_lines (k + 9)) ≤ 6 = passed.1 in (
        one_more new_change
            (one_more (change_made (codes "-db") function.DevelopBegin (k + 9) begin_word low high)
            (made_append config.0
            (one_more (new_files_made files k (k + 9) some_files few_files k_few low high)
            (made_append texts
            (made_append copied.0 passed.0))))),
        omega (arith, length-append (config_lines k) (new_files_line files k (k + 9) ∷ with_texts), length-append (text_lines files k (k + 9) 1 x) behind, length-append (copied_lines files k (k + 9) (after_texts files x)) (passed_lines (k + 9)), texts_length files k (k + 9) 1 x),
      )

  all_made : (n k x : ℕ) → 1 ≤ k → k + n ≤ 201 → AreMade (changes_lines n files k x) × (length (changes_lines n files k x) ≤ 112 * n)
  unfolding changes_lines
  all_made zero k x some few = (no_lines, omega arith)
  all_made (suc n) k x some few =
      let one = one_made k x some (omega arith) in
      let others = all_made n (k + 1) (after_change files k x) (omega arith) (omega arith) in
      let one_size : length (change_lines files k x) ≤ 112 = one.1 in
      let more_size : length (changes_lines n files (k + 1) (after_change files k x)) ≤ 112 * n = others.1 in (
        made_append one.0 others.0,
        omega (arith, length-append (change_lines files k x) (changes_lines n files (k + 1) (after_change files k x))),
      )

module _ (start changes files : ℕ) (size : IsSize changes files) where
  made : AreMade (generated start changes files)
  unfolding generated
  made =
      let few : 1 + changes ≤ 201 = (let most : changes ≤ 200 = size.few_changes in omega arith) in
      made_append first_made (all_made files size.some_files size.few_files changes 1 start (omega arith) few).0

  in_limits : 2000 * length (generated start changes files) ≤ most_bytes
  unfolding generated
  in_limits =
      let most : changes ≤ 200 = size.few_changes in
      let first : length first_lines ≡ 9 = first_length in
      let rest : length (changes_lines changes files 1 start) ≤ 112 * changes = (all_made files size.some_files size.few_files changes 1 start (omega arith) (omega arith)).1 in
      omega (arith, length-append first_lines (changes_lines changes files 1 start))

pub are_scripts : AreScripts
are_scripts start changes files size = made_script (generated start changes files) (made start changes files size) (in_limits start changes files size)

pub hold_no_tests : HoldNoTests
hold_no_tests start changes files size = made_no_test (generated start changes files) (made start changes files size)
