-- A piece, and what is left after it.
use Rattle.std.proofs.Common.{◌≡◌, ℕ, ◌+◌, ◌++◌, List, take, drop}
use Rattle.std.proofs.lemmas.List.{take-append-drop, drop-drop}

pub piece_then_rest : (bytes : List ℕ) (at n : ℕ) → take n (drop at bytes) ++ drop (at + n) bytes ≡ drop at bytes
piece_then_rest bytes at n = rw (← drop-drop n at bytes) (take-append-drop n (drop at bytes))
