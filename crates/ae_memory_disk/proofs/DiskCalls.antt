-- The changes of the calls so far are all that is logged.
use Rattle.std.specs.Prelude.{◌≡◌, ◌<◌, ◌≤◌, ◌+◌, ◌^◌, ℕ, suc, Bool, true, false, nat_le, cond, List, [], ◌∷◌, ◌++◌, length, refl}
use Rattle.std.proofs.Common.{◌∙◌, ap, arith}
use Rattle.std.proofs.lemmas.Bool.Decides.{nat_tests}
use Rattle.ae_memory_disk.specs.declared.disk_log.Logged.{Logged}
use Rattle.ae_outside.specs.Causes.{next}
use Rattle.ae_memory_disk.specs.DiskLog.{changes_behind}
use Rattle.ae_memory_disk.specs.MemDisk.{DiskRecord, state_from, state_of, moment_behind}

-- more calls have made no fewer changes
pub behind_later : (a b : ℕ) (log : List Logged) → a ≤ b → changes_behind a log ≡ length log → changes_behind b log ≡ length log
behind_later a b [] le is = refl
behind_later a b (entry ∷ log) le is =
    elim (nat_le entry.number a) as (λ s. nat_le entry.number a ≡ s → cond s (1 + changes_behind a log) 0 ≡ suc (length log) → cond (nat_le entry.number b) (1 + changes_behind b log) 0 ≡ suc (length log)) [
      | true ↦ λ within sum.
          let fits : nat_le entry.number b ≡ true = grind (arith, nat_tests) in
          let rest : changes_behind b log ≡ length log = behind_later a b log le (omega (arith, sum)) in
          ap (λ (s : Bool). cond s (1 + changes_behind b log) 0) fits ∙ omega (arith, rest)
      | false ↦ λ past sum. absurd (omega (arith, sum))
    ] refl is

-- a change of the last call is one more
pub behind_push : (calls : ℕ) (log : List Logged) (entry : Logged) → entry.number ≡ calls → changes_behind calls log ≡ length log → changes_behind calls (log ++ entry ∷ []) ≡ length (log ++ entry ∷ [])
behind_push calls [] entry number is =
    let fits : nat_le entry.number calls ≡ true = grind (arith, nat_tests) in
    ap (λ (s : Bool). cond s 1 0) fits
behind_push calls (e ∷ log) entry number is =
    elim (nat_le e.number calls) as (λ s. cond s (1 + changes_behind calls log) 0 ≡ suc (length log) → cond s (1 + changes_behind calls (log ++ entry ∷ [])) 0 ≡ suc (length (log ++ entry ∷ []))) [
      | true ↦ λ sum.
          let rest : changes_behind calls (log ++ entry ∷ []) ≡ length (log ++ entry ∷ []) = behind_push calls log entry number (omega (arith, sum)) in
          omega (arith, rest)
      | false ↦ λ sum. absurd (omega (arith, sum))
    ] is

pub next_later : (calls : ℕ) → calls < 2 ^ 64 → calls ≤ next calls
next_later calls lt = omega arith

pub next_small : (calls : ℕ) → next calls < 2 ^ 64
next_small calls = omega arith

-- the moment is how many changes there are
pub moment_now : (disk : DiskRecord) → changes_behind disk.counts.calls disk.log ≡ length disk.log → moment_behind disk.counts.calls disk ≡ (state_of disk).moment
unfolding state_from
moment_now disk is = is
