-- The size of a made-up project, which a command names.
use Rattle.std.specs.Prelude.{◌&&◌, nat_le, length}
use Rattle.std.specs.Option.{is_none}
use Rattle.std.proofs.Common.{◌≡◌, ◌≤◌, ℕ, true, false, List, [], ◌∷◌, refl, ap, subst}
use Rattle.std.proofs.lemmas.Bool.{and_parts, leb-true}
use Rattle.ae_words.specs.Formed.{IsFormed, are_numbers, are_plain}
use Rattle.ae_words.specs.Meaning.{has_plain}
use Rattle.ae_words.specs.Spelling.{is_empty}
use Rattle.ae_words.specs.Table.{row}
use Rattle.ae_words.specs.declared.command.Command.{Command}
use Rattle.ae_words.proofs.Formed.{whole_plain}
use Rattle.ae_words.specs.declared.table.Function.TheVariants as function
use Rattle.ae_words.specs.declared.table.Row.{Row}
use Rattle.ae_words.specs.declared.table.Row.TheVariants as rows

-- three numbers in their ranges
pub record AreSize (numbers : List ℕ) : Type 0 where
  pub start : ℕ
  pub changes : ℕ
  pub files : ℕ
  pub are : numbers ≡ start ∷ changes ∷ files ∷ []
  pub starts : start ≤ 18446744073709551615
  pub some_changes : 1 ≤ changes
  pub few_changes : changes ≤ 200
  pub some_files : 1 ≤ files
  pub few_files : files ≤ 99

sized : (numbers : List ℕ) → are_numbers numbers ≡ true → nat_le 3 (length numbers) ≡ true → AreSize numbers
sized [] good long = absurd (let both : false ≡ true = long in cc)
sized (s ∷ []) good long = absurd (let both : false ≡ true = long in cc)
sized (s ∷ n ∷ []) good long = absurd (let both : false ≡ true = long in cc)
sized (s ∷ n ∷ f ∷ x ∷ xs) good long = absurd (let both : false ≡ true = good in cc)
sized (s ∷ n ∷ f ∷ []) good long =
    let a = nat_le s 18446744073709551615 in
    let b = nat_le 1 n in
    let c = nat_le n 200 in
    let d = nat_le 1 f in
    let e = nat_le f 99 in
    let four = (and_parts (a && b && c && d) e good).0 in
    let three = (and_parts (a && b && c) d four).0 in
    let two = (and_parts (a && b) c three).0 in
    record {
      start = s;
      changes = n;
      files = f;
      are = refl;
      starts = leb-true s 18446744073709551615 ((and_parts a b two).0);
      some_changes = leb-true 1 n ((and_parts a b two).1);
      few_changes = leb-true n 200 ((and_parts (a && b) c three).1);
      some_files = leb-true 1 f ((and_parts (a && b && c) d four).1);
      few_files = leb-true f 99 ((and_parts (a && b && c && d) e good).1);
    }

pub size_named : (c : Command) → IsFormed c → c.function ≡ function.Generate → AreSize c.numbers
size_named c formed generates = sized c.numbers good long
  where
    plain : are_plain rows.Numbers c ≡ true
    plain = subst (λ (r : Row). are_plain r c ≡ true) (ap row generates) formed.plain

    good : are_numbers c.numbers ≡ true
    good = (and_parts (is_none c.name && is_empty c.users && is_empty c.paths && is_none c.listing) (are_numbers c.numbers) plain).1

    long : nat_le 3 (length c.numbers) ≡ true
    long = subst (λ (r : Row). has_plain r c ≡ true) (ap row generates) (whole_plain c formed.whole)
