-- What a file of a change's attributes says.
use Rattle.std.specs.Prelude.{ℕ, List, [], ◌∷◌, codes, Result}
use Rattle.ae_types.specs.declared.change.ChangeAttributes.{ChangeAttributes}
use Rattle.ae_conf.specs.declared.kind.FieldKind.TheVariants.{Text, Flag, Cause}
use Rattle.ae_conf.specs.Kinds.{Kinds}
use Rattle.ae_conf.specs.Values.{text_in, flag_in, cause_in}
use Rattle.ae_conf.specs.Fields.{Fields, given}
use Rattle.ae_conf.specs.RightFields.{right_fields, making}

-- the fields that it may have, each with its kind
abbrev pub change_kinds : Kinds
change_kinds =
    (codes "brief_description", Text)
    ∷ (codes "description", Text)
    ∷ (codes "cause", Cause)
    ∷ (codes "test_exempt", Flag)
    ∷ (codes "test_baseline_exempt", Flag)
    ∷ (codes "regression_test_exempt", Flag)
    ∷ []

-- the attributes that the fields give, and else the old ones
abbrev pub given_change : Fields → ChangeAttributes → ChangeAttributes
given_change fields old = record {
  brief = given text_in (codes "brief_description") fields old.brief;
  description = given text_in (codes "description") fields old.description;
  cause = given cause_in (codes "cause") fields old.cause;
  test_exempt = given flag_in (codes "test_exempt") fields old.test_exempt;
  test_baseline_exempt = given flag_in (codes "test_baseline_exempt") fields old.test_baseline_exempt;
  regression_test_exempt = given flag_in (codes "regression_test_exempt") fields old.regression_test_exempt;
}

-- the attributes after a file of these bytes, or its bad line
abbrev pub change_attributes : List ℕ → ChangeAttributes → Result ChangeAttributes ℕ
change_attributes bytes old = making (λ fields. given_change fields old) (right_fields change_kinds bytes)
