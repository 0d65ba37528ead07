-- What is decided of a command with what it sees.
use Rattle.std.specs.Prelude.{ℕ, List, [], ◌∷◌, is_some, unwrap_or, Option, Result}
use Rattle.ae_base.specs.Rows.{Rows}
use Rattle.ae_base.specs.declared.refusal.Refusal.{Refusal}
use Rattle.ae_base.specs.declared.refusal.Refusal.TheVariants.{SpaceFull}
use Rattle.ae_conf.specs.Change.{change_attributes}
use Rattle.ae_conf.specs.Project.{project_attributes}
use Rattle.ae_types.specs.declared.change.ChangeAttributes.{ChangeAttributes}
use Rattle.ae_types.specs.declared.project.Attributes.{Attributes}
use Rattle.ae_log.specs.declared.event.EventKind.{EventKind}
use Rattle.ae_log.specs.declared.event.EventKind.TheVariants as on
use Rattle.ae_log.specs.Maker.{event_by}
use Rattle.ae_machine.specs.declared.verdict.Verdict.{Verdict}
use Rattle.ae_machine.specs.declared.view.View.{View}
use Rattle.ae_machine.specs.Attributes.{file_gives}
use Rattle.ae_machine.specs.Call.{Call, Given, Placing, given_in, refusal_in, unless}
use Rattle.ae_machine.specs.Space.{placing}
use Rattle.ae_machine.specs.Verdict.{answer, old_change_attributes, next_phase, maker_by}

-- what the answer to a call is made of
abbrev pub given_to : Placing → Call → (ℕ → List ℕ) → ℕ → View → Given
given_to places call bytes when view = record { call = call; bytes = bytes; places = places; when = when; view = view }

-- the attributes that the project and a change have, which the file of a command's attributes is read over
abbrev pub project_attributes_of : Call → Attributes
project_attributes_of call = call.stands.project.attributes

abbrev pub change_attributes_of : Call → ChangeAttributes
change_attributes_of call = old_change_attributes call.stands call.command.change

-- what that file gives
abbrev pub project_file_seen : Call → View → Result Attributes Refusal
project_file_seen call view = file_gives project_attributes (project_attributes_of call) call.command.attributes view.attributes

abbrev pub change_file_seen : Call → View → Result ChangeAttributes Refusal
change_file_seen call view = file_gives change_attributes (change_attributes_of call) call.command.attributes view.attributes

-- refused as the file is, or accepted with the event that what it gives is made into
abbrev pub project_answer : Call → ℕ → View → Verdict
project_answer call when view =
    let given = given_in (project_file_seen call view) (project_attributes_of call) in
    answer (refusal_in (project_file_seen call view)) (event_by (maker_by call.command call.who when) call.command.change (on.Attributes given) ∷ [])

abbrev pub change_answer : (ChangeAttributes → EventKind) → Option ℕ → Call → ℕ → View → Verdict
change_answer kind change call when view =
    let given = given_in (change_file_seen call view) (change_attributes_of call) in
    answer (refusal_in (change_file_seen call view)) (event_by (maker_by call.command call.who when) change (kind given) ∷ [])

-- refused where a version of the tree finds no place, or accepted with the end of the development
abbrev pub end_answer : Call → ℕ → Rows → Verdict
end_answer call when tree =
    let places = placing call.stands tree in
    let phase = next_phase call.stands.project.attributes.develop_end_action in
    answer (unless (is_some places) SpaceFull) (event_by (maker_by call.command call.who when) call.command.change (on.End tree phase (unwrap_or places [])) ∷ [])
