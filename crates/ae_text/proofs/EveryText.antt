-- Every text is in the grammar or has an error line.
use Rattle.std.proofs.Common.{◌≡◌, ℕ, zero, suc, ◌+◌, ◌<◌, ◌⊎◌, inl, inr, Bool, true, false, length, arith, List, [], ◌∷◌, ◌++◌, Result, Ok, Err, refl, ap, ◌∙◌, map}
use Rattle.std.proofs.lemmas.List.{length-append}
use Rattle.ae_text.specs.Tree.{Node, fields}
use Rattle.ae_text.specs.Token.{Token, word, number, string, sign, end, bad, Stands}
use Rattle.ae_text.specs.WellFormed.{is_word, max_depth}
use Rattle.ae_text.specs.Grammar.{Reads, line_of}
use Rattle.ae_text.specs.Wrong.{IsError}
use Rattle.ae_text.specs.View.{members_of}
use Rattle.ae_text.specs.Pushdown.{State, Fault, syntax, too_deep, start, step}
use Rattle.ae_text.specs.Scan.{is_moving, gapless, next, behind}
use Rattle.ae_text.specs.Parsing.{Taken, is_done}
use Rattle.ae_text.specs.Reading.{left}
use Rattle.ae_text.proofs.Tokens.{next_found}
use Rattle.ae_text.proofs.Reader.{falls, taken_more, taken_none}
use Rattle.ae_text.proofs.Whole.{reads_found, done_is, stopped_syntax, stopped_deep}

abbrev IsOneOf : List ℕ → Type 0
IsOneOf bytes = ((v : Node) × (lines : List ℕ) × Reads bytes v lines) ⊎ ((line : ℕ) × IsError bytes line)

-- a token that takes bytes is not empty
some_bytes : (s after : List ℕ) (t : Token) → Stands s after t → is_moving t ≡ true → 0 < length s
some_bytes [] after (word w) h m = absurd (no_word w h.0 h.1) where
  no_word : (w : List ℕ) → [] ≡ w → is_word w ≡ true → ⊥
  no_word [] e h = cc
  no_word (b ∷ w) e h = cc
some_bytes (b ∷ s) after (word w) h m = omega arith
some_bytes [] after (number n) h m = absurd (h.0.0 refl)
some_bytes (b ∷ s) after (number n) h m = omega arith
some_bytes [] after (string w) h m = absurd (let e : [] ≡ 34 ∷ (h.0 ++ 34 ∷ []) = h.1 in cc)
some_bytes (b ∷ s) after (string w) h m = omega arith
some_bytes [] after (sign b) h m = absurd (let e : [] ≡ b ∷ [] = h.0 in cc)
some_bytes (c ∷ s) after (sign b) h m = omega arith
some_bytes s after end h m = absurd cc
some_bytes s after bad h m = absurd cc

turn_falls : (total : ℕ) (s t : State) (rest : List ℕ) → step max_depth s (next total rest) ≡ Ok t → is_done s.place ≡ false → left t (behind rest) < left s rest
turn_falls total s t rest e going =
    let f = next_found rest in
    let len : length (gapless rest) ≡ length f.1 + length (behind rest) = ap length f.5 ∙ length-append f.1 (behind rest) in
    falls max_depth s t (next total rest) rest (gapless rest) (behind rest) e
    (λ m. let some = some_bytes f.1 (behind rest) (next total rest).token f.6 m in omega (arith, len, some))
    (omega (arith, len)) (omega (arith, f.4)) going

abbrev Again : List ℕ → List ℕ → State → Type 0
Again bytes rest s = (t : State) → Taken bytes (behind rest) t → left t (behind rest) < left s rest → IsOneOf bytes

by_step : (bytes rest : List ℕ) (s : State) → Taken bytes rest s → Again bytes rest s → is_done s.place ≡ false → (r : Result State Fault) → step max_depth s (next (length bytes) rest) ≡ r → IsOneOf bytes
by_step bytes rest s taken again going (Ok t) e = again t (taken_more bytes rest s t taken e) (turn_falls (length bytes) s t rest e going)
by_step bytes rest s taken again going (Err syntax) e =
    inr (line_of bytes (next (length bytes) rest).at, inl (stopped_syntax bytes (next (length bytes) rest).at (record { rest = rest; state = s; taken = taken; not_done = going; stopped = e; place = refl })))
by_step bytes rest s taken again going (Err too_deep) e =
    inr (line_of bytes (next (length bytes) rest).at, inr (stopped_deep bytes (next (length bytes) rest).at (record { rest = rest; state = s; taken = taken; not_done = going; stopped = e; place = refl })))

by_done : (bytes rest : List ℕ) (s : State) → Taken bytes rest s → Again bytes rest s → (b : Bool) → is_done s.place ≡ b → IsOneOf bytes
by_done bytes rest s taken again true h = let d = done_is s.place h in inl (fields (members_of d.0), map (line_of bytes) s.starts, reads_found bytes rest s d.0 taken d.1)
by_done bytes rest s taken again false h = by_step bytes rest s taken again h (step max_depth s (next (length bytes) rest)) refl

reads_on : (bytes : List ℕ) (n : ℕ) (rest : List ℕ) (s : State) → Taken bytes rest s → left s rest < n → IsOneOf bytes
reads_on bytes zero rest s taken lt = absurd (omega arith)
reads_on bytes (suc n) rest s taken lt = by_done bytes rest s taken (λ t more fall. reads_on bytes n (behind rest) t more (omega (arith, fall, lt))) (is_done s.place) refl

pub every_text : (bytes : List ℕ) → IsOneOf bytes
every_text bytes = reads_on bytes (suc (left start bytes)) bytes start (taken_none bytes) (omega arith)
