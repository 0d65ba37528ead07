-- What the reader keeps of an expression: what it says (Kept.antt), the kind of its value where that is known, and its first bad line.
use Rattle.std.specs.Prelude.{ℕ, List, pos, Bool, not, nat_le, Option, Some, None}
use Rattle.ae_rlang.specs.declared.operator.Operator.{Operator}
use Rattle.ae_rlang.specs.declared.operator.Kind.{Kind}
use Rattle.ae_rlang.specs.declared.operator.Kind.TheVariants as kind_is
use Rattle.ae_rlang.specs.Operator.{result_kind, is_other, is_wrong, earlier, bad_where}
use Rattle.ae_rlang.specs.Report.{Meant, operated, negated, number, text, flag, total, field, timed}
use Rattle.ae_rlang.specs.Written.{Expression}
use Rattle.ae_rlang.specs.Scope.{Scope, is_among, table_bound, kind_within, kind_of_name, kind_in}
use Rattle.ae_rlang.specs.Meaning.{field_or_any, field_within}
use Rattle.ae_rlang.specs.Bad.{bad_field, first_bad, max_level}
use Rattle.ae_rlang.specs.Kept.{kept, kept_where}

pub record Value : Type 0 where
  pub node : Meant
  pub kind : Option Kind
  pub bad : Option ℕ

-- what is kept of an expression inside so many levels
abbrev pub value_of : Scope → ℕ → Expression → Value
value_of scope level e = record { node = kept scope.bound level e; kind = kind_in scope e; bad = first_bad scope level e }

abbrev pub number_value : ℕ → ℕ → Value
number_value l n = record { node = number l (pos n); kind = Some kind_is.Number; bad = None }

abbrev pub text_value : ℕ → List ℕ → Value
text_value l s = record { node = text l s; kind = Some kind_is.Text; bad = None }

abbrev pub flag_value : ℕ → Bool → Value
flag_value l b = record { node = flag l b; kind = Some kind_is.Flag; bad = None }

abbrev pub total_value : Scope → ℕ → List ℕ → Value
total_value scope l w = record { node = total l w; kind = kind_of_name (is_among w scope.totals); bad = bad_where (not (is_among w scope.totals)) l }

abbrev pub field_value : Scope → ℕ → List ℕ → ℕ → List ℕ → Value
field_value scope l w m f = record {
  node = field l w (field_or_any (field_within (table_bound w scope.bound) f));
  kind = kind_within (table_bound w scope.bound) f;
  bad = bad_field (table_bound w scope.bound) l m f;
}

abbrev pub operated_value : Operator → ℕ → Value → Value → Value
operated_value op l a b = record {
  node = operated l op a.node b.node;
  kind = Some (result_kind op);
  bad = earlier (earlier a.bad b.bad) (bad_where (is_wrong op a.kind b.kind) l);
}

abbrev pub negated_value : ℕ → Value → Value
negated_value l a = record { node = negated l a.node; kind = Some kind_is.Flag; bad = earlier a.bad (bad_where (is_other a.kind kind_is.Flag) l) }

-- the value in parentheses that open in this line, maybe one level too deep
abbrev pub within_where : Bool → ℕ → Value → Value
within_where deep o a = record { node = kept_where deep o a.node; kind = a.kind; bad = earlier (bad_where deep o) a.bad }

-- the value in parentheses that open at this level in this line
abbrev pub within_value : ℕ → ℕ → Value → Value
within_value level o a = within_where (nat_le max_level level) o a

abbrev pub timed_value : ℕ → Value → Value
timed_value l a = record { node = timed l a.node; kind = Some kind_is.Text; bad = earlier a.bad (bad_where (is_other a.kind kind_is.Number) l) }
