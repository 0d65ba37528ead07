-- The loop over the tokens.
use Rattle.std.proofs.Common.{◌≡◌, ℕ, ◌<◌, ◌≤◌, Bool, true, false, cond, length, arith, List, [], ◌∷◌, ◌++◌, Result, Ok, refl, sym, ap, ◌∙◌}
use Rattle.ae_text.specs.Token.{Token, word, number, string, sign, end, bad, Placed}
use Rattle.ae_text.specs.WellFormed.{max_depth}
use Rattle.ae_text.specs.Pushdown.{Frame, Place, at_name, at_equals, at_value, at_semicolon, at_item, at_comma, done, State, Fault, place_step, step, start, run}
use Rattle.ae_text.specs.Scan.{is_moving, next, behind, Leads}
use Rattle.ae_text.specs.Parsing.{Taken, is_done}
use Rattle.ae_text.specs.Reading.{left}
use Rattle.ae_text.proofs.Viable.{run-append}

quiet : (limit : ℕ) (outer : List Frame) (starts : List ℕ) (place : Place) (at : ℕ) (t : Token) (s : State) → place_step limit outer starts place at t ≡ Ok s → is_moving t ≡ false → is_done s.place ≡ true
quiet limit outer starts place at (word w) s e m = absurd cc
quiet limit outer starts place at (number n) s e m = absurd cc
quiet limit outer starts place at (string w) s e m = absurd cc
quiet limit outer starts place at (sign b) s e m = absurd cc
quiet limit [] starts (at_name fs) at end s e m = let same : s ≡ record { outer = []; place = done fs; starts = starts } = cc in ap (λ (x : State). is_done x.place) same
quiet limit (f ∷ outer) starts (at_name fs) at end s e m = absurd cc
quiet limit outer starts (at_equals fs k) at end s e m = absurd cc
quiet limit outer starts (at_value fs k) at end s e m = absurd cc
quiet limit outer starts (at_semicolon fs k v) at end s e m = absurd cc
quiet limit outer starts (at_item vs) at end s e m = absurd cc
quiet limit outer starts (at_comma vs) at end s e m = absurd cc
quiet limit outer starts (done fs) at end s e m = absurd cc
quiet limit outer starts (at_name fs) at bad s e m = absurd cc
quiet limit outer starts (at_equals fs k) at bad s e m = absurd cc
quiet limit outer starts (at_value fs k) at bad s e m = absurd cc
quiet limit outer starts (at_semicolon fs k v) at bad s e m = absurd cc
quiet limit outer starts (at_item vs) at bad s e m = absurd cc
quiet limit outer starts (at_comma vs) at bad s e m = absurd cc
quiet limit outer starts (done fs) at bad s e m = absurd cc

at_most_one : (b : Bool) → cond b 0 1 ≤ 1
at_most_one true = omega arith
at_most_one false = omega arith

pub falls : (limit : ℕ) (s t : State) (p : Placed) (rest here after : List ℕ) → step limit s p ≡ Ok t → (is_moving p.token ≡ true → length after < length here) → length after ≤ length here → length here ≤ length rest
    → is_done s.place ≡ false → left t after < left s rest
unfolding step
falls limit s t p rest here after e moves within short going = by_moving (is_moving p.token) refl where
  by_moving : (b : Bool) → is_moving p.token ≡ b → left t after < left s rest
  by_moving true m = rw going (omega (arith, moves m, at_most_one (is_done t.place)))
  by_moving false m = rw (going, quiet limit s.outer s.starts s.place p.at p.token t e m) (omega arith)

pub leads_more : (total : ℕ) (bytes : List ℕ) (front : List Placed) (rest : List ℕ) → Leads total bytes front rest → Leads total bytes (front ++ next total rest ∷ []) (behind rest)
leads_more total bytes [] rest e = (ap (next total) (sym e), ap behind e)
leads_more total bytes (p ∷ ps) rest h = (h.0, leads_more total (behind bytes) ps rest h.1)

pub taken_more : (bytes rest : List ℕ) (s t : State) → Taken bytes rest s → step max_depth s (next (length bytes) rest) ≡ Ok t → Taken bytes (behind rest) t
unfolding run
taken_more bytes rest s t h e = record {
  front = h.front ++ next (length bytes) rest ∷ [];
  leads = leads_more (length bytes) bytes h.front rest h.leads;
  runs = run-append max_depth (Ok start) h.front (next (length bytes) rest ∷ []) ∙ ap (λ (r : Result State Fault). run max_depth r (next (length bytes) rest ∷ [])) h.runs ∙ e;
}

pub taken_none : (bytes : List ℕ) → Taken bytes bytes start
unfolding run
taken_none bytes = record { front = []; leads = refl; runs = refl }
