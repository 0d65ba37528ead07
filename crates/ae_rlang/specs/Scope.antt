-- Which names are known at a place, and what kind of value an expression has there.
use Rattle.std.specs.Prelude.{ℕ, List, [], ◌∷◌, Bool, true, false, Option, Some, None, find, option_map}
use Rattle.std.specs.List.{list_any}
use Rattle.std.specs.Str.{bytes_eq}
use Rattle.ae_rlang.specs.declared.operand.Bound.{Bound}
use Rattle.ae_rlang.specs.declared.table.Table.{Table}
use Rattle.ae_rlang.specs.declared.table.RowField.{RowField}
use Rattle.ae_rlang.specs.declared.operator.Kind.{Kind}
use Rattle.ae_rlang.specs.declared.operator.Kind.TheVariants as kind_is
use Rattle.ae_rlang.specs.declared.token.Mark.TheVariants as mark_is
use Rattle.ae_rlang.specs.Table.{field_in, field_kind}
use Rattle.ae_rlang.specs.Operator.{result_kind}
use Rattle.ae_rlang.specs.Token.{Token, name, mark, Lexeme}
use Rattle.ae_rlang.specs.Written.{Expression, named, field, timed, grouped, negated, operated, flag}
use Rattle.ae_rlang.specs.Written as written

-- the totals of the report, and the names that are bound, the innermost first
pub record Scope : Type 0 where
  pub totals : List (List ℕ)
  pub bound : List Bound

-- the name is one of these
abbrev pub is_among : List ℕ → List (List ℕ) → Bool
is_among w names = list_any (λ n. bytes_eq n w) names

-- the table of a bound name: None where the name isn't bound, and Some None where its table isn't known
abbrev pub table_bound : List ℕ → List Bound → Option (Option Table)
table_bound w bound = option_map (λ b. b.table) (find (λ b. bytes_eq b.name w) bound)

-- the kind of a field, if the table has it
abbrev pub kind_of_field : Option RowField → Option Kind
kind_of_field found = option_map field_kind found

-- the kind of a field of what a name is bound to, where it is known
abbrev pub kind_within : Option (Option Table) → List ℕ → Option Kind
kind_within None f = None
kind_within (Some None) f = None
kind_within (Some (Some table)) f = kind_of_field (field_in table f)

-- a total is a number
abbrev pub kind_of_name : Bool → Option Kind
kind_of_name true = Some kind_is.Number
kind_of_name false = None

-- the kind of an expression's value, where it is known
abbrev pub kind_in : Scope → Expression → Option Kind
kind_in scope (written.number l n) = Some kind_is.Number
kind_in scope (written.string l s) = Some kind_is.Text
kind_in scope (flag l b) = Some kind_is.Flag
kind_in scope (named l w) = kind_of_name (is_among w scope.totals)
kind_in scope (field l w d m f) = kind_within (table_bound w scope.bound) f
kind_in scope (timed l o e c) = Some kind_is.Text
kind_in scope (grouped o e c) = kind_in scope e
kind_in scope (negated l e) = Some kind_is.Flag
kind_in scope (operated op l a b) = Some (result_kind op)

-- the name of a total, where one stands behind the word `total`
abbrev pub total_named : Bool → Token → List (List ℕ) → List (List ℕ)
total_named true (name w) others = w ∷ others
total_named behind t others = others

-- the word `total`
abbrev pub is_total : Token → Bool
is_total (mark mark_is.Total) = true
is_total other = false

-- the names that stand behind the word `total`, where the token before is or isn't that word
abbrev pub totals_in : Bool → List Lexeme → List (List ℕ)
totals_in behind [] = []
totals_in behind (p ∷ ps) = total_named behind p.token (totals_in (is_total p.token) ps)
