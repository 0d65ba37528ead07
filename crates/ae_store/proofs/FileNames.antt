-- The names of the files of changes are names of a disk.
use Rattle.std.proofs.Common.{◌≡◌, ℕ, ◌+◌, ◌<◌, ◌^◌, ◌%◌, true, List, [], ◌∷◌, ◌++◌, length, refl, arith, rules}
use Rattle.std.proofs.lemmas.Bool.Decides.{nat_tests}
use Rattle.std.proofs.lemmas.Fmt.{decimal_by_steps, length-decimal-le}
use Rattle.std.specs.Fmt.{decimal}
use Rattle.ae_outside.specs.DiskNames.{is_name_byte, all_name_bytes, IsDiskName}
use Rattle.ae_store.specs.Names.{change_file}

digit : (n : ℕ) → n < 10 → is_name_byte (48 + n) ≡ true
digit n lt = grind (arith, nat_tests)

push : (bytes : List ℕ) (b : ℕ) → all_name_bytes bytes ≡ true → is_name_byte b ≡ true → all_name_bytes (bytes ++ b ∷ []) ≡ true
push [] b all is = grind (arith, nat_tests)
push (x ∷ bytes) b all is = grind (arith, nat_tests, push bytes b)

decimal_bytes : (n : ℕ) → n < 2 ^ 64 → all_name_bytes (decimal n) ≡ true
decimal_bytes = decimal_by_steps (λ n bytes. all_name_bytes bytes ≡ true) (λ n lt. push [] (48 + n) refl (digit n lt)) (λ n bytes le all. push bytes (48 + n % 10) all (digit (n % 10) (omega arith)))

pub change_file_named : (n : ℕ) → n < 2 ^ 16 → IsDiskName (change_file n)
change_file_named n lt =
    let all : all_name_bytes (decimal n) ≡ true = decimal_bytes n (omega arith) in
    let short : length (decimal n) < 6 = search (rules, length-decimal-le 5) in
    grind (arith, nat_tests)
