-- The value of an expression.
use Rattle.std.specs.Prelude.{ℕ, ℤ, pos, negsuc, ◌+ℤ◌, ◌-ℤ◌, int_lt, int_le, nat_le, Bool, false, not, ◌&&◌, List, [], ◌∷◌, Result, Ok, Err, if◌then◌else◌}
use Rattle.std.specs.Str.{bytes_eq}
use Rattle.ae_base.specs.Limits.{last_moment}
use Rattle.ae_list.specs.Moments.{shown_moment}
use Rattle.ae_types.specs.Rules.{same_bool}
use Rattle.ae_rlang.specs.declared.operator.Operator.{Operator}
use Rattle.ae_rlang.specs.declared.operator.Operator.TheVariants.{Or, And, Equal, Unequal, Less, AtMost, Plus, Minus}
use Rattle.ae_rlang.specs.Report.{Meant, operated, negated, number, text, flag, total, field, timed}
use Rattle.ae_rlang.specs.View.{MeantLink, by_side, by_not, by_time}
use Rattle.ae_report.specs.declared.total.Tally.{Tally}
use Rattle.ae_report.specs.declared.value.Value.{Value}
use Rattle.ae_report.specs.declared.value.Value.TheVariants.{Number, Text, Flag}
use Rattle.ae_report.specs.Results.{and_then, and_map}
use Rattle.ae_report.specs.Rows.{Row, no_row, row_field}

-- ---- what is known at a place of a report

-- a name, and the row that it is bound to
pub record Binding : Type 0 where
  pub name : List ℕ
  pub row : Row

pub record Known : Type 0 where
  pub bound : List Binding
  pub totals : List Tally

-- the row that a name is bound to
abbrev pub row_bound : List Binding → List ℕ → Row
row_bound [] name = no_row
row_bound (binding ∷ more) name = if bytes_eq binding.name name then binding.row else row_bound more name

-- a total; one to which nothing was added yet is 0
abbrev pub total_of : List Tally → List ℕ → ℤ
total_of [] name = pos 0
total_of (tally ∷ more) name = if bytes_eq tally.name name then tally.value else total_of more name

-- ---- numbers

-- from -2^63 to 2^63 - 1
abbrev pub is_in_range : ℤ → Bool
is_in_range n = int_le (negsuc 9223372036854775807) n && int_le n (pos 9223372036854775807)

-- the number, where it is in the range
abbrev pub in_range : ℕ → ℤ → Result ℤ ℕ
in_range line n = if is_in_range n then Ok n else Err line

-- the civil time of a moment, up to the end of 2099
abbrev pub shown_at : ℕ → ℤ → Result Value ℕ
shown_at line (pos n) = if nat_le n last_moment then Ok (Text (shown_moment n)) else Err line
shown_at line (negsuc n) = Err line

-- ---- values; in a report that was read no operand has a wrong type

abbrev pub number_of : Value → ℤ
number_of (Number n) = n
number_of (Text s) = pos 0
number_of (Flag b) = pos 0

abbrev pub is_true : Value → Bool
is_true (Number n) = false
is_true (Text s) = false
is_true (Flag b) = b

abbrev pub same_number : ℤ → ℤ → Bool
same_number m n = int_le m n && int_le n m

-- two values of one type that are equal
abbrev pub same : Value → Value → Bool
same (Number m) (Number n) = same_number m n
same (Text s) (Text t) = bytes_eq s t
same (Flag a) (Flag b) = same_bool a b
same (Number m) (Text t) = false
same (Number m) (Flag b) = false
same (Text s) (Number n) = false
same (Text s) (Flag b) = false
same (Flag a) (Number n) = false
same (Flag a) (Text t) = false

-- ---- operators

-- the left side decides alone: of `or` where it is true, of `and` where it is false
abbrev pub decides : Operator → Bool → Bool
decides Or left = left
decides And left = not left
decides Equal left = false
decides Unequal left = false
decides Less left = false
decides AtMost left = false
decides Plus left = false
decides Minus left = false

-- the value of both sides
abbrev pub joined : ℕ → Operator → Value → Value → Result Value ℕ
joined line Or left right = Ok right
joined line And left right = Ok right
joined line Equal left right = Ok (Flag (same left right))
joined line Unequal left right = Ok (Flag (not (same left right)))
joined line Less left right = Ok (Flag (int_lt (number_of left) (number_of right)))
joined line AtMost left right = Ok (Flag (int_le (number_of left) (number_of right)))
joined line Plus left right = and_map Number (in_range line (number_of left +ℤ number_of right))
joined line Minus left right = and_map Number (in_range line (number_of left -ℤ number_of right))

-- the value where the left side is known: the right one isn't looked at where the left decides
abbrev pub with_left : ℕ → Operator → Result Value ℕ → Value → Result Value ℕ
with_left line operator right left = if decides operator (is_true left) then Ok left else and_then right (joined line operator left)

-- the value of an expression, or the line of the first number that leaves its range
abbrev pub value : Meant → Known → Result Value ℕ
value (operated line operator left right) known = and_then (value left known) (with_left line operator (value right known))
value (negated line e) known = and_map (λ v. Flag (not (is_true v))) (value e known)
value (number line n) known = Ok (Number n)
value (text line s) known = Ok (Text s)
value (flag line b) known = Ok (Flag b)
value (total line name) known = Ok (Number (total_of known.totals name))
value (field line name f) known = Ok (row_field (row_bound known.bound name) f)
value (timed line e) known = and_then (value e known) (λ v. shown_at line (number_of v))

-- ---- chains

-- the value with what stands behind it
abbrev pub with_link : MeantLink → Known → Value → Result Value ℕ
with_link (by_side line operator right) known v = with_left line operator (value right known) v
with_link (by_not line) known v = Ok (Flag (not (is_true v)))
with_link (by_time line) known v = shown_at line (number_of v)

-- and with all that stands behind it, from the left
abbrev pub with_links : List MeantLink → Known → Value → Result Value ℕ
with_links [] known v = Ok v
with_links (l ∷ ls) known v = and_then (with_link l known v) (with_links ls known)
