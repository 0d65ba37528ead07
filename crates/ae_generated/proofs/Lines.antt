-- Each kind of line that the generator makes.
use Rattle.std.specs.Prelude.{◌≡◌, ◌≢◌, ◌≤◌, ◌<◌, ◌+◌, ◌*◌, ℕ, zero, suc, true, false, List, [], ◌∷◌, ◌++◌, length, nat_le, codes, Some}
use Rattle.std.specs.Fmt.{decimal}
use Rattle.std.specs.List.{list_all}
use Rattle.std.proofs.Common.{refl, sym, ap, subst, ◌∙◌, arith, append_assoc, append-nil, length-append}
use Rattle.std.proofs.lemmas.Bool.{and_parts, lt-leb}
use Rattle.std.proofs.lemmas.List.Folds.{list_all-append}
use Rattle.ae_base.specs.Names.{is_path}
use Rattle.ae_generator.specs.Lines.{command_line, path, copy_line, new_files_line}
use Rattle.ae_lines.specs.Line.{IsLine, Means, Said, asks, said, said_where, is_ascii_word}
use Rattle.ae_lines.specs.Tokens.{is_plain}
use Rattle.ae_lines.specs.declared.line.Line.TheVariants.{Do}
use Rattle.ae_words.specs.Grammar.{IsCommand}
use Rattle.ae_words.specs.Items.{function}
use Rattle.ae_words.specs.Meaning.{blank, step, is_whole}
use Rattle.ae_words.specs.Spelling.{spells}
use Rattle.ae_words.specs.Table.{is_one_command, row}
use Rattle.ae_words.specs.declared.command.Command.{Command}
use Rattle.ae_words.specs.declared.table.Function.{Function}
use Rattle.ae_words.specs.declared.table.Function.TheVariants as function
use Rattle.ae_words.specs.declared.table.Row.TheVariants as rows
use Rattle.ae_generated.proofs.Commands.{OnPaths, on_paths, change_command, paths_command}
use Rattle.ae_generated.proofs.Digits.{digits_of, change_of}
use Rattle.ae_generated.proofs.Made.{IsMade}
use Rattle.ae_generated.proofs.Paths.{path_list, paths_are, path_length, path_word, path_path, list_words, list_paths, list_length, list_size}
use Rattle.ae_generated.proofs.Tokens.{is_word, after_blanks, words_are, digits_word, word_ascii, word_plain}

-- ---- words of a command

blanks_plain : (ws : List (List ℕ)) → list_all is_word ws ≡ true → list_all is_plain (after_blanks ws) ≡ true
blanks_plain [] all = refl
blanks_plain (w ∷ ws) all =
    let parts = and_parts (is_word w) (list_all is_word ws) all in
    list_all-append is_plain w (after_blanks ws) ∙ (rw (word_plain w parts.0, blanks_plain ws parts.1) refl)

words_ascii : (ws : List (List ℕ)) → list_all is_word ws ≡ true → list_all is_ascii_word ws ≡ true
words_ascii [] all = refl
words_ascii (w ∷ ws) all =
    let parts = and_parts (is_word w) (list_all is_word ws) all in
    rw (word_ascii w parts.0, words_ascii ws parts.1) refl

-- the line that begins with `do`
abbrev do_line : List (List ℕ) → List ℕ
do_line ws = codes "do" ++ after_blanks ws

do_tokens : (ws : List (List ℕ)) → list_all is_word ws ≡ true → said (do_line ws) ≡ asks ws
do_tokens ws all = ap said_where (words_are (codes "do") ws refl all)

do_said : (ws : List (List ℕ)) (c : Command) → list_all is_word ws ≡ true → IsCommand ws c → is_one_command c.function ≡ true → IsLine (do_line ws) (Do c)
do_said ws c all is one =
    subst (λ (s : Said). Means s (Do c)) (sym (do_tokens ws all)) (c, refl, record { ascii = words_ascii ws all; is = is; one = one })

pub do_made : (line : List ℕ) (ws : List (List ℕ)) (c : Command) → line ≡ do_line ws ++ 10 ∷ [] → list_all is_word ws ≡ true → length (after_blanks ws) < 1990 → IsCommand ws c
    → is_one_command c.function ≡ true → c.function ≢ function.Test → IsMade line
do_made line ws c ended all short is part other = record {
  content = do_line ws;
  ended = ended;
  plain = blanks_plain ws all;
  short = omega arith;
  line_says = Do c;
  means = do_said ws c all is part;
  no_test = λ (command : Command) same test. other (let one : c ≡ command = cc in ap (λ (d : Command). d.function) one ∙ test);
}

-- ---- a command on a change

-- the word says a function on a change
pub record IsChangeWord (w : List ℕ) (f : Function) : Type 0 where
  pub names : function (w ∷ []) ≡ Some f
  pub in_row : row f ≡ rows.Change
  pub word : is_word w ≡ true
  pub small : length w ≤ 6
  pub one : is_one_command f ≡ true
  pub other : f ≢ function.Test

change_shape : (w : List ℕ) (n : ℕ) → command_line w n ≡ do_line (w ∷ codes "-c" ∷ decimal n ∷ []) ++ 10 ∷ []
unfolding command_line
change_shape w n =
    sym (ap (λ (t : List ℕ). codes "do " ++ t)
    (append_assoc w (codes " -c " ++ (decimal n ++ [])) (10 ∷ []) ∙ ap (λ (t : List ℕ). w ++ (codes " -c " ++ (t ++ 10 ∷ []))) (append-nil (decimal n))))

pub change_made : (w : List ℕ) (f : Function) (n : ℕ) → IsChangeWord w f → 10 ≤ n → n < 210 → IsMade (command_line w n)
change_made w f n is low high =
    let d = digits_of n high in
    let few : length (decimal n) ≤ 3 = d.few in
    let small : length w ≤ 6 = is.small in
    do_made (command_line w n) (w ∷ codes "-c" ∷ decimal n ∷ []) (on_paths f n []) (change_shape w n)
    (rw (is.word, digits_word n d) refl)
    (omega (arith, length-append w (codes " -c " ++ (decimal n ++ [])), length-append (decimal n) []))
    (change_command f w (decimal n) n is.names is.in_row (change_of n low high)) is.one is.other

-- ---- a command on a change and paths

record IsPathsWord (w : List ℕ) (f : Function) : Type 0 where
  names : function (w ∷ []) ≡ Some f
  on : OnPaths f
  word : is_word w ≡ true
  small : length w ≤ 6
  one : is_one_command f ≡ true
  other : f ≢ function.Test

paths_made : (line w : List ℕ) (f : Function) (n : ℕ) (p : List ℕ) (ps : List (List ℕ)) → IsPathsWord w f → 10 ≤ n → n < 210 → line ≡ do_line (w ∷ codes "-c" ∷ decimal n ∷ p ∷ ps) ++ 10 ∷ []
    → length (p ∷ ps) ≤ 1000 → list_all is_path (p ∷ ps) ≡ true → list_all is_word (p ∷ ps) ≡ true → length (after_blanks (p ∷ ps)) ≤ 1900 → IsMade line
paths_made line w f n p ps is low high ended few all words size =
    let d = digits_of n high in
    let digits : length (decimal n) ≤ 3 = d.few in
    let small : length w ≤ 6 = is.small in
    let named : is_word w ≡ true = is.word in
    let number : is_word (decimal n) ≡ true = digits_word n d in
    do_made line (w ∷ codes "-c" ∷ decimal n ∷ p ∷ ps) (on_paths f n (p ∷ ps)) ended
    (rw (named, number) words)
    (omega (arith, length-append w (codes " -c " ++ (decimal n ++ after_blanks (p ∷ ps))), length-append (decimal n) (after_blanks (p ∷ ps))))
    (paths_command f w (decimal n) n p ps is.on is.names (change_of n low high) few all) is.one is.other

paths_shape : (w rest : List ℕ) (n : ℕ) → codes "do " ++ (w ++ (codes " -c " ++ (decimal n ++ (rest ++ 10 ∷ [])))) ≡ (codes "do " ++ (w ++ (codes " -c " ++ (decimal n ++ rest)))) ++ 10 ∷ []
paths_shape w rest n =
    sym (ap (λ (t : List ℕ). codes "do " ++ t)
    (append_assoc w (codes " -c " ++ (decimal n ++ rest)) (10 ∷ []) ∙ ap (λ (t : List ℕ). w ++ (codes " -c " ++ t)) (append_assoc (decimal n) rest (10 ∷ []))))

-- the two functions of the generator that take paths
new_files : IsPathsWord (codes "-nf") function.NewFile
unfolding spells step blank is_whole
new_files = record {
  names = refl;
  on = record { takes = λ c p. refl; whole = λ n p ps. let some : nat_le (suc (length ps)) 0 ≡ false = lt-leb (suc (length ps)) 0 (omega arith) in rw some refl; change = λ l d n at is. rw is refl };
  word = refl;
  small = omega arith;
  one = refl;
  other = λ same. cc;
}

copies : IsPathsWord (codes "-cp") function.CopyFile
unfolding spells step blank is_whole
copies = record {
  names = refl;
  on = record { takes = λ c p. refl; whole = λ n p ps. let some : nat_le (suc (length ps)) 0 ≡ false = lt-leb (suc (length ps)) 0 (omega arith) in rw some refl; change = λ l d n at is. rw is refl };
  word = refl;
  small = omega arith;
  one = refl;
  other = λ same. cc;
}

pub copy_made : (n k j : ℕ) → 10 ≤ n → n < 210 → k < 210 → j < 210 → IsMade (copy_line n (path k j))
unfolding copy_line
copy_made n k j low high k_few j_few =
    let size : length (path k j) ≤ 9 = path_length k j k_few j_few in
    paths_made (copy_line n (path k j)) (codes "-cp") function.CopyFile n (path k j) [] copies low high
    (ap (λ (t : List ℕ). codes "do -cp -c " ++ (decimal n ++ (32 ∷ (t ++ 10 ∷ [])))) (sym (append-nil (path k j))) ∙ paths_shape (codes "-cp") (after_blanks (path k j ∷ [])) n)
    (omega arith) (rw (path_path k j k_few j_few) refl) (rw (path_word k j k_few j_few) refl) (omega (arith, length-append (path k j) []))

new_files_shape : (files k n : ℕ) → new_files_line files k n ≡ do_line (codes "-nf" ∷ codes "-c" ∷ decimal n ∷ path_list files k 1) ++ 10 ∷ []
unfolding new_files_line
new_files_shape files k n =
    ap (λ (t : List ℕ). codes "do -nf -c " ++ (decimal n ++ (t ++ 10 ∷ []))) (paths_are files k 1) ∙ paths_shape (codes "-nf") (after_blanks (path_list files k 1)) n

pub new_files_made : (files k n : ℕ) → 1 ≤ files → files ≤ 99 → k < 210 → 10 ≤ n → n < 210 → IsMade (new_files_line files k n)
new_files_made zero k n some few k_few low high = absurd (omega arith)
new_files_made (suc more) k n some few k_few low high =
    let count : length (path_list (suc more) k 1) ≡ suc more = list_length (suc more) k 1 in
    let size : length (after_blanks (path_list (suc more) k 1)) ≤ 10 * suc more = list_size (suc more) k 1 k_few (omega arith) in
    paths_made (new_files_line (suc more) k n) (codes "-nf") function.NewFile n (path k 1) (path_list more k (1 + 1)) new_files low high (new_files_shape (suc more) k n)
    (omega arith) (list_paths (suc more) k 1 k_few (omega arith)) (list_words (suc more) k 1 k_few (omega arith)) (omega arith)
