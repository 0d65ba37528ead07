-- The locks of files, taken from the last file on.
use Rattle.std.proofs.Common.{◌≡◌, ℕ, ◌+◌, ◌-◌, ◌<◌, ◌≤◌, sym, ◌∙◌, ap, List, drop, get_or, arith}
use Rattle.std.specs.Prelude.{length}
use Rattle.std.proofs.lemmas.List.{drop_more}
use Rattle.ae_base.specs.Rows.{text_cmp}
use Rattle.ae_types.specs.declared.change.ChangeFile.{ChangeFile}
use Rattle.ae_types.specs.declared.file_table.Lock.{Lock}
use Rattle.ae_types.specs.Found.{file_path, lock_path}
use Rattle.ae_types.specs.Ordered.{put_by}
use Rattle.ae_log.specs.Observed.{lock_of}
use Rattle.ae_log.specs.After.{with_locks}

-- one file more, where so many are left
pub lock-more : (number : ℕ) (files : List ChangeFile) (left : ℕ) (d : ChangeFile) (old locks : List Lock) → 0 < left → left ≤ length files → locks ≡ with_locks number (drop left files) old
    → put_by text_cmp lock_path (lock_of (file_path (get_or files (left - 1) d)) number) locks ≡ with_locks number (drop (left - 1) files) old
lock-more number files left d old locks some within taken =
    ap (put_by text_cmp lock_path (lock_of (file_path (get_or files (left - 1) d)) number)) (taken ∙ ap (λ n. with_locks number (drop n files) old) (back left some))
    ∙ sym (ap (λ fs. with_locks number fs old) (drop_more files (left - 1) d (omega arith)))
  where
    back : (n : ℕ) → 0 < n → n ≡ n - 1 + 1
    back n h = omega arith
