use Rattle.std.proofs.Common.{◌≡◌, ℕ, List, Option, Result, Ok, Err, ap, ◌∙◌}
use Rattle.std.specs.Option.{option_map_or}
use Rattle.ae_types.specs.declared.project.Attributes.{Attributes}
use Rattle.ae_conf.specs.Fields.{Fields, fields_in}
use Rattle.ae_conf.specs.RightFields.{right_fields, making}
use Rattle.ae_conf.specs.Project.{project_kinds, given_project, project_attributes}
use Rattle.ae_conf.proofs.Texts.{text_fields, error_line}
use Rattle.ae_conf.proofs.laws.note_project_attributes.Goals as goal

-- the attributes of the fields that are right
attributes_of : (bytes : List ℕ) (old : Attributes) (read : Result Fields ℕ) → right_fields project_kinds bytes ≡ read → project_attributes bytes old ≡ making (λ fields. given_project fields old) read
attributes_of bytes old read e = ap (λ (r : Result Fields ℕ). making (λ fields. given_project fields old) r) e

pub returns-clause-given : goal.returns-clause-given
returns-clause-given c bytes old tree lines reads none =
    attributes_of bytes old (Ok (fields_in tree))
    (text_fields project_kinds bytes tree lines reads ∙ ap (λ (o : Option ℕ). option_map_or Err o (Ok (fields_in tree))) none)

pub returns-clause-wrong_field : goal.returns-clause-wrong_field
returns-clause-wrong_field c bytes old tree lines line reads some =
    attributes_of bytes old (Err line)
    (text_fields project_kinds bytes tree lines reads ∙ ap (λ (o : Option ℕ). option_map_or Err o (Ok (fields_in tree))) some)

pub returns-clause-no_text : goal.returns-clause-no_text
returns-clause-no_text c bytes old line error = attributes_of bytes old (Err line) (error_line project_kinds bytes line error)
