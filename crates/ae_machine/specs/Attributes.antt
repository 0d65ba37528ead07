-- What a file of attributes that a command names gives.
use Rattle.std.specs.Prelude.{ℕ, false, List, [], Option, Some, None, Result, Ok, Err}
use Rattle.ae_base.specs.Limits.{most_attribute_bytes}
use Rattle.ae_base.specs.declared.refusal.Refusal.{Refusal}
use Rattle.ae_base.specs.declared.refusal.Refusal.TheVariants.{NoAttributes, BadAttributes, Limit}
use Rattle.ae_base.specs.declared.words.Cause.TheVariants.{InternalEnhancement}
use Rattle.ae_base.specs.declared.words.Which.TheVariants.{AttributeBytes}
use Rattle.ae_outside.specs.declared.dir.Content.{Content}
use Rattle.ae_outside.specs.declared.dir.Content.TheVariants.{Absent, Bytes, TooLong}
use Rattle.ae_types.specs.declared.change.ChangeAttributes.{ChangeAttributes}
use Rattle.ae_types.specs.declared.project.Attributes.{Attributes}
use Rattle.ae_types.specs.declared.project.EndAction.TheVariants.{BeingReviewed}

-- ---- attributes before any file gives some

-- those of a new project
abbrev pub first_attributes : Attributes
first_attributes = record {
  description = [];
  developer_may_review = false;
  developer_may_integrate = false;
  reviewer_may_integrate = false;
  developers_may_create_changes = false;
  develop_end_action = BeingReviewed;
  default_test_exemption = false;
}

-- those of a new change: the project says whether it is exempt from tests
abbrev pub first_change_attributes : Attributes → ChangeAttributes
first_change_attributes attributes = record {
  brief = [];
  description = [];
  cause = InternalEnhancement;
  test_exempt = attributes.default_test_exemption;
  test_baseline_exempt = false;
  regression_test_exempt = false;
}

-- ---- the file

-- what reading bytes makes of old attributes: new ones, or a bad line
abbrev pub Reading : Type 0 → Type 0
Reading A = List ℕ → A → Result A ℕ

abbrev pub or_bad_line : {A : Type 0} → Result A ℕ → Result A Refusal
or_bad_line (Ok attributes) = Ok attributes
or_bad_line (Err line) = Err (BadAttributes line)

-- the attributes after a file of this path with this content, or why it is refused: it isn't there, it is longer than 65,536
-- bytes, or a line is bad
abbrev pub content_gives : {A : Type 0} → Reading A → A → List ℕ → Content → Result A Refusal
content_gives reading old path Absent = Err (NoAttributes path)
content_gives reading old path TooLong = Err (Limit AttributeBytes most_attribute_bytes)
content_gives reading old path (Bytes bytes) = or_bad_line (reading bytes old)

-- the attributes after the file that a command names, and the old ones where it names none
abbrev pub file_gives : {A : Type 0} → Reading A → A → Option (List ℕ) → Content → Result A Refusal
file_gives reading old (Some path) content = content_gives reading old path content
file_gives reading old None content = Ok old
