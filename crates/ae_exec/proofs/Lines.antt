-- The lines of a reply, put one after another.
use Rattle.std.specs.Prelude.{◌≡◌, ℕ, ◌+◌, ◌<◌, if◌then◌else◌, List, [], ◌∷◌, ◌++◌, map, take, length, codes, Result, Ok, Err, OnOk}
use Rattle.std.specs.List.{concat}
use Rattle.std.specs.Result.{is_ok}
use Rattle.std.proofs.Common.{refl, sym, ap, ◌∙◌, get_or}
use Rattle.std.proofs.lemmas.List.{append-nil, map_more}
use Rattle.std.proofs.lemmas.List.Folds.{concat-append}
use mathlib.Core.List.{append_assoc}
use Rattle.ae_machine.specs.Replies.{quoted}

-- the parts of a line, put after what stands
pub line_is : (text name change said a b c d e f : List ℕ) → a ≡ text ++ codes "aegis: project \"" → b ≡ a ++ name → c ≡ b ++ codes "\": " → d ≡ c ++ change → e ≡ d ++ said → f ≡ e ++ 10 ∷ []
    → f ≡ text ++ (codes "aegis: project " ++ quoted name ++ codes ": " ++ change ++ said ++ 10 ∷ [])
line_is text name change said a b c d e f is_a is_b is_c is_d is_e is_f = rw (is_f, is_e, is_d, is_c, is_b, is_a) (simp append_assoc refl)

-- with parts that are equal
pub same_line : (f text name change said other_name other_change other_said : List ℕ) → name ≡ other_name → change ≡ other_change → said ≡ other_said
    → f ≡ text ++ (codes "aegis: project " ++ quoted name ++ codes ": " ++ change ++ said ++ 10 ∷ [])
    → f ≡ text ++ (codes "aegis: project " ++ quoted other_name ++ codes ": " ++ other_change ++ other_said ++ 10 ∷ [])
same_line f text name change said other_name other_change other_said same_name same_change same_said is = rw (← same_name, ← same_change, ← same_said) is

-- one line more
pub one_line : {E : Type 0} (line : E → List ℕ) (events : List E) (i : ℕ) (event : E) (text next : List ℕ) → i < length events → event ≡ get_or events i event → text ≡ concat (map line (take i events)) → next ≡ text ++ line event
    → next ≡ concat (map line (take (i + 1) events))
one_line {E} line events i event text next below is so_far more =
    let before : List (List ℕ) = map line (take i events) in
    let all : concat (map line (take (i + 1) events)) ≡ concat before ++ (line (get_or events i event) ++ []) = ap concat (map_more line events i event below) ∙ concat-append before (line (get_or events i event) ∷ []) in
    let last : line (get_or events i event) ++ [] ≡ line event = append-nil (line (get_or events i event)) ∙ ap line (sym is) in
    more ∙ (ap (λ (t : List ℕ). t ++ line event) so_far ∙ sym (all ∙ ap (λ (t : List ℕ). concat before ++ t) last))

-- what is put after a text
pub put_after : {T E : Type 0} (r : Result T E) (new old more said : List ℕ) → new ≡ (if is_ok r then old ++ more else old) → more ≡ said → OnOk r (new ≡ old ++ said)
put_after (Ok v) new old more said put is = put ∙ ap (λ (text : List ℕ). old ++ text) is
put_after (Err e) new old more said put is = tt
