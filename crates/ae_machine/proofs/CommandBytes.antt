-- A command with its substitutions made has only bytes that may stand in one.
use Rattle.std.proofs.Common.{◌≡◌, ℕ, zero, suc, ◌<◌, ◌^◌, refl, ◌∙◌, ap, List, [], ◌∷◌, ◌++◌, Bool, true, false, ◌&&◌, cond, Option, Some, None, Ok, Err, IfOk, arith, drop, length}
use Rattle.std.specs.Prelude.{codes, nat_eq, nat_le, IfSome}
use Rattle.std.specs.List.{list_all}
use Rattle.std.specs.Fmt.{decimal}
use Rattle.std.specs.Option.{option_map, option_map_or, option_and_then}
use Rattle.std.specs.Str.{bytes_eq}
use Rattle.std.specs.Str.Parse.{AllDigits}
use Rattle.std.specs.Char.{digit_value}
use Rattle.std.proofs.lemmas.Bool.Decides.{nat_tests}
use Rattle.std.proofs.lemmas.Fmt.{decimal_is_IsNumeral}
use Rattle.std.proofs.lemmas.List.Folds.{list_all-append}
use Rattle.std.proofs.lemmas.Bool.{and_parts, and_from}
use Rattle.ae_base.specs.Names.{is_letter, is_name_byte, is_path_byte, is_part, is_slash, parts, before_first_part, IsPath, IsProjectName}
use Rattle.ae_conf.specs.Config.{Template}
use Rattle.ae_conf.specs.declared.expansion.Values.{Values}
use Rattle.ae_conf.specs.Expand.{Piece, value_named, name_at, behind_name, behind_brace, piece_of, substituted, first_piece, pieces_from, expanded}
use Rattle.ae_conf.specs.Values.{may_stand_in_command, IsCommand}
use Rattle.ae_machine.specs.Commands.{AreValues}

-- ---- the values

digit-stands : (c : ℕ) → digit_value c < 10 → may_stand_in_command c ≡ true
digit-stands c low = grind (arith, nat_tests)

digits-stand : (cs : List ℕ) → AllDigits 10 cs → IsCommand cs
digits-stand [] all = refl
digits-stand (c ∷ cs) all = ap (λ b. b && list_all may_stand_in_command cs) (digit-stands c all.0) ∙ digits-stand cs all.1

decimal-stands : (n : ℕ) → n < 2 ^ 64 → IsCommand (decimal n)
decimal-stands n low = digits-stand (decimal n) (decimal_is_IsNumeral n low).0.1

name-byte-stands : (b : ℕ) → is_name_byte b ≡ true → may_stand_in_command b ≡ true
name-byte-stands b is = grind (arith, nat_tests)

path-byte-stands : (b : ℕ) → is_path_byte b ≡ true → may_stand_in_command b ≡ true
path-byte-stands b is = grind (arith, nat_tests)

letter-stands : (b : ℕ) → is_letter b ≡ true → may_stand_in_command b ≡ true
letter-stands b is = grind (arith, nat_tests)

all-stand : (test : ℕ → Bool) → ((b : ℕ) → test b ≡ true → may_stand_in_command b ≡ true) → (bs : List ℕ) → list_all test bs ≡ true → IsCommand bs
all-stand test each [] e = refl
all-stand test each (b ∷ bs) e = and_from _ _ (each b ((and_parts _ _ e).0)) (all-stand test each bs ((and_parts _ _ e).1))

project-stands : (name : List ℕ) → IsProjectName name → IsCommand name
project-stands [] is = cc
project-stands (b ∷ bs) is =
    and_from _ _ (letter-stands b ((and_parts (is_letter b) (nat_le (length bs) 63) ((and_parts (is_letter b && nat_le (length bs) 63) (list_all is_name_byte bs) is).0)).0))
    (all-stand is_name_byte name-byte-stands bs ((and_parts (is_letter b && nat_le (length bs) 63) (list_all is_name_byte bs) is).1))

-- each part has only such bytes
abbrev PartsStand : List (List ℕ) → Type 0
PartsStand ps = list_all (λ part. list_all may_stand_in_command part) ps ≡ true

parts-are : (ps : List (List ℕ)) → list_all is_part ps ≡ true → PartsStand ps
parts-are [] e = refl
parts-are (p ∷ ps) e =
    let here = (and_parts _ (list_all is_path_byte p) ((and_parts (is_part p) (list_all is_part ps) e).0)).1 in
    and_from _ _ (all-stand is_path_byte path-byte-stands p here) (parts-are ps ((and_parts (is_part p) _ e).1))

slash-stands : (b : ℕ) → is_slash b ≡ true → may_stand_in_command b ≡ true
slash-stands b is = grind (arith, nat_tests)

path-of-parts : (text : List ℕ) → PartsStand (parts text) → IsCommand text
path-of-parts [] all = refl
path-of-parts (b ∷ bs) all = go (is_slash b) refl all (path-of-parts bs)
  where
    first : (ps : List (List ℕ)) → PartsStand (before_first_part b ps) → (may_stand_in_command b ≡ true) × PartsStand ps
    first [] all = ((and_parts _ _ ((and_parts _ _ all).0)).0, refl)
    first (p ∷ ps) all = ((and_parts _ _ ((and_parts _ _ all).0)).0, and_from _ _ ((and_parts (may_stand_in_command b) _ ((and_parts _ _ all).0)).1) ((and_parts (list_all may_stand_in_command (b ∷ p)) _ all).1))

    go : (slash : Bool) → is_slash b ≡ slash → PartsStand (cond slash ([] ∷ parts bs) (before_first_part b (parts bs))) → (PartsStand (parts bs) → IsCommand bs) → IsCommand (b ∷ bs)
    go true is all rest = and_from _ _ (slash-stands b is) (rest all)
    go false is all rest = let p = first (parts bs) all in and_from _ _ p.0 (rest p.1)

path-stands : (path : List ℕ) → IsPath path → IsCommand path
path-stands path is = path-of-parts path (parts-are (parts path) ((and_parts _ (list_all is_part (parts path)) is).1))

-- what is put for the names has only such bytes
named-stands : (values : Values) (name : List ℕ) → AreValues values → IfSome (value_named values name) IsCommand
named-stands values name are =
    if-some (bytes_eq name (codes "file_name")) _ _ (file values.file_name are.file_name)
    (if-some (bytes_eq name (codes "change")) _ _ (decimal-stands values.change (omega (arith, are.change)))
    (if-some (bytes_eq name (codes "project")) _ _ (project-stands values.project are.project)
    (if-some (bytes_eq name (codes "delta")) _ _ (decimal-stands values.delta (omega (arith, are.delta)))
    (if-some (bytes_eq name (codes "shell")) _ _ refl tt))))
  where
    if-some : (b : Bool) (x y : Option (List ℕ)) → IfSome x IsCommand → IfSome y IsCommand → IfSome (cond b x y) IsCommand
    if-some true x y f g = f
    if-some false x y f g = g

    file : (x : Option (List ℕ)) → IfSome x IsPath → IfSome x IsCommand
    file (Some path) is = path-stands path is
    file None is = tt

-- ---- the pieces

abbrev IsGoodPiece : Piece → Type 0
IsGoodPiece piece = IsCommand piece.stands_for × IsCommand piece.behind

drop-stands : (k : ℕ) (bs : List ℕ) → IsCommand bs → IsCommand (drop k bs)
drop-stands zero bs e = e
drop-stands (suc k) [] e = e
drop-stands (suc k) (b ∷ bs) e = drop-stands k bs ((and_parts (may_stand_in_command b) _ e).1)

brace-stands : (bs : List ℕ) → IsCommand bs → IfSome (behind_brace bs) IsCommand
brace-stands [] e = tt
brace-stands (b ∷ bs) e = go (nat_eq b 125)
  where
    go : (t : Bool) → IfSome (cond t (Some bs) None) IsCommand
    go true = (and_parts (may_stand_in_command b) _ e).1
    go false = tt

named-piece : (behind : List ℕ) (value : Option (List ℕ)) → IsCommand behind → IfSome value IsCommand → IfSome (option_map (piece_of behind) value) IsGoodPiece
named-piece behind (Some text) e f = (f, e)
named-piece behind None e f = tt

braced-piece : (rest : Option (List ℕ)) (value : Option (List ℕ)) → IfSome rest IsCommand → IfSome value IsCommand → IfSome (option_and_then (λ behind. option_map (piece_of behind) value) rest) IsGoodPiece
braced-piece (Some behind) value e f = named-piece behind value e f
braced-piece None value e f = tt

either : (t : Bool) (x y : Option Piece) → IfSome x IsGoodPiece → IfSome y IsGoodPiece → IfSome (cond t x y) IsGoodPiece
either true x y f g = f
either false x y f g = g

substituted-stands : (values : Values) (bs : List ℕ) → AreValues values → IsCommand bs → IfSome (substituted values bs) IsGoodPiece
substituted-stands values [] are e = (refl, refl)
substituted-stands values (b ∷ bs) are e =
    let rest = (and_parts (may_stand_in_command b) (list_all may_stand_in_command bs) e).1 in
    either (nat_eq b 36) _ _ (refl, rest)
    (either (nat_eq b 123) _ _ (braced-piece (behind_brace (behind_name bs)) (value_named values (name_at bs)) (brace-stands (behind_name bs) (drop-stands (length (name_at bs)) bs rest)) (named-stands values (name_at bs) are))
    (either (is_letter b) _ _ (named-piece (behind_name (b ∷ bs)) (value_named values (name_at (b ∷ bs))) (drop-stands (length (name_at (b ∷ bs))) (b ∷ bs) e) (named-stands values (name_at (b ∷ bs)) are))
    (refl, e)))

piece-stands : (values : Values) (b : ℕ) (bs : List ℕ) → AreValues values → IsCommand (b ∷ bs) → IfSome (first_piece values b bs) IsGoodPiece
piece-stands values b bs are e =
    let rest = (and_parts (may_stand_in_command b) (list_all may_stand_in_command bs) e).1 in
    either (nat_eq b 36) _ _ (substituted-stands values bs are rest) (and_from _ true ((and_parts (may_stand_in_command b) _ e).0) refl, rest)

pieces-stand : (n : ℕ) (values : Values) (bs : List ℕ) → AreValues values → IsCommand bs → IfSome (pieces_from n values bs) IsCommand
pieces-stand zero values bs are e = refl
pieces-stand (suc n) values [] are e = refl
pieces-stand (suc n) values (b ∷ bs) are e = go (first_piece values b bs) (piece-stands values b bs are e) (λ behind good. pieces-stand n values behind are good)
  where
    joined : (text : List ℕ) (rest : Option (List ℕ)) → IsCommand text → IfSome rest IsCommand → IfSome (option_map (λ more. text ++ more) rest) IsCommand
    joined text (Some more) f g = list_all-append may_stand_in_command text more ∙ and_from _ _ f g
    joined text None f g = tt

    go : (piece : Option Piece) → IfSome piece IsGoodPiece → ((behind : List ℕ) → IsCommand behind → IfSome (pieces_from n values behind) IsCommand)
        → IfSome (option_and_then (λ (piece : Piece). option_map (λ text. piece.stands_for ++ text) (pieces_from n values piece.behind)) piece) IsCommand
    go (Some piece) good rest = joined piece.stands_for (pieces_from n values piece.behind) good.0 (rest piece.behind good.1)
    go None good rest = tt

-- what comes of a command of such bytes
pub expanded-stands : (template : Template) (values : Values) → AreValues values → IsCommand template.text → IfOk (expanded template values) IsCommand
expanded-stands template values are e = go (pieces_from (length template.text) values template.text) (pieces-stand (length template.text) values template.text are e)
  where
    go : (made : Option (List ℕ)) → IfSome made IsCommand → IfOk (option_map_or Ok made (Err template.line)) IsCommand
    go (Some text) is = is
    go None is = tt
