-- What a file of a project's attributes says.
use Rattle.std.specs.Prelude.{ℕ, List, [], ◌∷◌, codes, Result}
use Rattle.ae_types.specs.declared.project.Attributes.{Attributes}
use Rattle.ae_conf.specs.declared.kind.FieldKind.TheVariants.{Text, Flag, EndAction}
use Rattle.ae_conf.specs.Kinds.{Kinds}
use Rattle.ae_conf.specs.Values.{text_in, flag_in, end_action_in}
use Rattle.ae_conf.specs.Fields.{Fields, given}
use Rattle.ae_conf.specs.RightFields.{right_fields, making}

-- the fields that it may have, each with its kind
abbrev pub project_kinds : Kinds
project_kinds =
    (codes "description", Text)
    ∷ (codes "developer_may_review", Flag)
    ∷ (codes "developer_may_integrate", Flag)
    ∷ (codes "reviewer_may_integrate", Flag)
    ∷ (codes "developers_may_create_changes", Flag)
    ∷ (codes "develop_end_action", EndAction)
    ∷ (codes "default_test_exemption", Flag)
    ∷ []

-- the attributes that the fields give, and else the old ones
abbrev pub given_project : Fields → Attributes → Attributes
given_project fields old = record {
  description = given text_in (codes "description") fields old.description;
  developer_may_review = given flag_in (codes "developer_may_review") fields old.developer_may_review;
  developer_may_integrate = given flag_in (codes "developer_may_integrate") fields old.developer_may_integrate;
  reviewer_may_integrate = given flag_in (codes "reviewer_may_integrate") fields old.reviewer_may_integrate;
  developers_may_create_changes = given flag_in (codes "developers_may_create_changes") fields old.developers_may_create_changes;
  develop_end_action = given end_action_in (codes "develop_end_action") fields old.develop_end_action;
  default_test_exemption = given flag_in (codes "default_test_exemption") fields old.default_test_exemption;
}

-- the attributes after a file of these bytes, or its bad line
abbrev pub project_attributes : List ℕ → Attributes → Result Attributes ℕ
project_attributes bytes old = making (λ fields. given_project fields old) (right_fields project_kinds bytes)
