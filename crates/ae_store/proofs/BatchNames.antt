-- The names of the files of changes.
use Rattle.std.proofs.Common.{◌≡◌, inl, inr, ℕ, ◌<◌, ◌≤◌, ◌^◌, sym, ◌∙◌, ap, Bool, true, ◌&&◌, not, nat_eq, eqb-true, eq-eqb, codes, arith}
use Rattle.std.specs.Fmt.{decimal}
use Rattle.std.specs.Str.{bytes_eq}
use Rattle.std.proofs.lemmas.Slice.Eq.{bytes_eq-Decides}
use Rattle.std.proofs.lemmas.List.{append_cancel_left}
use Rattle.std.proofs.lemmas.Fmt.{decimal_injective}
use Rattle.std.proofs.lemmas.Bool.{false≢true, cases_Bool}
use Rattle.ae_outside.specs.DiskNames.{is_disk_name}
use Rattle.ae_vault.specs.Vault.{is_own}
use Rattle.ae_vault.specs.Pieces.{pack}
use Rattle.ae_store.specs.Names.{change_file}
use Rattle.ae_store.proofs.FileNames.{change_file_named}
use Rattle.ae_store.specs.Batching.{is_state_name}

-- a file's name tells the change's number
pub one_number : (m n : ℕ) → m < 2 ^ 64 → n < 2 ^ 64 → change_file m ≡ change_file n → m ≡ n
one_number m n a b e = decimal_injective m n a b (append_cancel_left (codes "change.") (decimal m) (decimal n) e)

pub same_number : (m n : ℕ) → m < 2 ^ 64 → n < 2 ^ 64 → bytes_eq (change_file m) (change_file n) ≡ nat_eq m n
same_number m n a b = elim (cases_Bool (nat_eq m n)) [
  | inl is ↦ (bytes_eq-Decides (change_file m) (change_file n)).1 (ap change_file (eqb-true m n is)) ∙ sym is
  | inr isnt ↦ elim (cases_Bool (bytes_eq (change_file m) (change_file n))) [
    | inl same ↦ absurd (false≢true (sym isnt ∙ eq-eqb m n (one_number m n a b ((bytes_eq-Decides (change_file m) (change_file n)).0 same))))
    | inr differ ↦ differ ∙ sym isnt
  ]
]

pub change_name_is : (n : ℕ) → n ≤ 1999 → is_state_name (change_file n) ≡ true
change_name_is n h =
    let disk : is_disk_name (change_file n) ≡ true = change_file_named n (omega arith) in
    ap (λ (b : Bool). (b && not (is_own (change_file n))) && not (bytes_eq (change_file n) pack)) disk
