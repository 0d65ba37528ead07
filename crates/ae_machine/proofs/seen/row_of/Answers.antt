use Rattle.std.proofs.Common.{arith, ◌≡◌, ℕ, ◌-◌, length, length-drop, sym, ◌∙◌, ap, List, Bool, take, drop}
use Rattle.std.specs.List.{find}
use Rattle.std.specs.Option.{option_copied, option_or}
use Rattle.std.specs.Str.{bytes_eq}
use Rattle.std.proofs.lemmas.List.{take-append-drop, take_all}
use Rattle.std.proofs.lemmas.List.Folds.{find-append}
use Rattle.ae_outside.specs.declared.dir.Content.{Content}
use Rattle.ae_machine.proofs.seen.row_of.Goals as goal

-- the first is among the first rows, or else among the others
in-parts : {A : Type 0} (t : A → Bool) (rows : List A) (n : ℕ) → find t rows ≡ option_or (find t (take n rows)) (find t (drop n rows))
in-parts t rows n = ap (find t) (sym (take-append-drop n rows)) ∙ find-append t (take n rows) (drop n rows)

pub returns-in-Some : goal.returns-in-Some
returns-in-Some c =
    let is_here = λ (row : List ℕ × Content). bytes_eq c.args.path.now row.0 in
    sym (in-parts is_here c.args.rows.now c.args.sorted ∙ ap (λ v. option_or v (find is_here (drop c.args.sorted c.args.rows.now))) (sym c.in-Some.ensures))

pub returns-in-None : goal.returns-in-None
returns-in-None c =
    let is_here = λ (row : List ℕ × Content). bytes_eq c.args.path.now row.0 in
    let rows = c.args.rows.now in
    let others : option_copied c.first_row.result ≡ find is_here (take (length rows - c.args.sorted) (drop c.args.sorted rows)) = c.first_row.ensures in
    let whole : take (length rows - c.args.sorted) (drop c.args.sorted rows) ≡ drop c.args.sorted rows = take_all _ _ (omega (arith, length-drop c.args.sorted rows)) in
    others ∙ ap (find is_here) whole ∙ sym (in-parts is_here rows c.args.sorted ∙ ap (λ v. option_or v (find is_here (drop c.args.sorted rows))) (sym c.in-None.ensures))
