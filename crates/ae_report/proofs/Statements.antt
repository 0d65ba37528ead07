-- What one statement does, from what beginning it tells.
use Rattle.std.proofs.Common.{◌≡◌, ℕ, ◌∙◌, List, [], ◌∷◌, ◌++◌, refl, sym, ap}
use Rattle.std.specs.Prelude.{Bool, true, false, Option, Some, None, Result, Ok, Err, if◌then◌else◌}
use Rattle.std.proofs.lemmas.List.{map-append}
use Rattle.ae_rlang.specs.Report.{Meant, columns, add}
use Rattle.ae_types.specs.Observation.{Observation}
use Rattle.ae_report.specs.declared.bound.Bound.{Bound}
use Rattle.ae_report.specs.declared.value.Value.{Value}
use Rattle.ae_report.specs.Results.{and_then, and_map}
use Rattle.ae_report.specs.Values.{Binding, is_true}
use Rattle.ae_report.specs.Out.{Run, after_deed, bind, with_line, with_totals, totals_after, known_in, if_passes}
use Rattle.ae_report.specs.Lines.{line_of}
use Rattle.ae_report.specs.Begun.{Begun, begun, begun_run, with_run, with_test}
use Rattle.ae_report.specs.Frames.{bindings, binding_of, row_at}

and_map-twice : {A B C : Type 0} (f : A → B) (g : B → C) (h : A → C) (r : Result A ℕ) → ((a : A) → g (f a) ≡ h a) → and_map h r ≡ and_map g (and_map f r)
and_map-twice f g h (Ok a) same = ap Ok (sym (same a))
and_map-twice f g h (Err line) same = refl

-- a line of columns and a total are done where they are begun
pub columns-done : (cells : _) (o : Observation) (bound : List Binding) (run : Run) → after_deed (columns cells) o bound run ≡ and_map begun_run (begun (columns cells) bound run)
columns-done cells o bound run =
    and_map-twice (λ (line : List ℕ). with_run (with_line line run)) begun_run (λ (line : List ℕ). with_line line run) (line_of cells (known_in bound run)) (λ line. refl)

pub total-done : (line : ℕ) (name : List ℕ) (e : Meant) (o : Observation) (bound : List Binding) (run : Run) → after_deed (add line name e) o bound run ≡ and_map begun_run (begun (add line name e) bound run)
total-done line name e o bound run =
    and_map-twice (λ totals. with_run (with_totals run totals)) begun_run (with_totals run) (totals_after line name e (known_in bound run)) (λ totals. refl)

-- an `if` goes on with the body that its test chooses
pub record IsChosen (whole : Result Run ℕ) (now : Run) (first second : Run → Result Run ℕ) (test : Option Bool) : Type 0 where
  pub on_true : test ≡ Some true → whole ≡ first now
  pub on_false : test ≡ Some false → whole ≡ second now
  pub some : test ≡ None → ⊥

abbrev result_of : Begun → Result Begun ℕ
result_of b = Ok b

pub chosen : (meant : Result Value ℕ) (run now : Run) (test : Option Bool) (first second : Run → Result Run ℕ)
    → and_map (λ (v : Value). with_test run (is_true v)) meant ≡ Ok (record { run = now; test = test })
    → IsChosen (and_then meant (λ (v : Value). if is_true v then first run else second run)) now first second test
chosen (Err line) run now test first second told = cc
chosen (Ok v) run now test first second told = go (with_test run (is_true v)) refl (record { run = now; test = test }) refl told
  where
    go : (b : Begun) → b ≡ with_test run (is_true v) → (c : Begun) → c ≡ record { run = now; test = test } → result_of b ≡ result_of c → IsChosen (if is_true v then first run else second run) now first second test
    go b is c made e =
        let equal : b ≡ c = cc in
        let same : with_test run (is_true v) ≡ record { run = now; test = test } = sym is ∙ equal ∙ made in
        let runs : run ≡ now = ap (λ (x : Begun). x.run) same in
        let tests : Some (is_true v) ≡ test = ap (λ (x : Begun). x.test) same in
        record {
          on_true = λ t. let so : is_true v ≡ true = cc in ap (λ (x : Bool). if x then first run else second run) so ∙ ap first runs;
          on_false = λ t. let so : is_true v ≡ false = cc in ap (λ (x : Bool). if x then first run else second run) so ∙ ap second runs;
          some = λ t. (let no : Some (is_true v) ≡ None = tests ∙ t in cc);
        }

-- ---- names within a `for`

pub bound-more : (o : Observation) (bound : List Bound) (inner : List Bound) (b : Bound) → inner ≡ bound ++ b ∷ [] → bindings o inner ≡ bind (bindings o bound) b.name (row_at o b.table b.row)
bound-more o bound inner b is = ap (bindings o) is ∙ map-append (binding_of o) bound (b ∷ [])

-- a row that passes
pub passed : (tested : Result Bool ℕ) (body : Run → Result Run ℕ) (now next : Run) → tested ≡ Ok true → body now ≡ Ok next → if_passes tested body now ≡ Ok next
passed tested body now next is done = ap (λ (r : Result Bool ℕ). and_then r (λ b. if b then body now else Ok now)) is ∙ done
