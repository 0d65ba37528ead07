-- The answer to the end of a development, from what is asked of the files that were read.
use Rattle.std.proofs.Common.{◌≡◌, ℕ, refl, sym, ◌∙◌, ap, subst, List, [], ◌∷◌, map, Option, Some, None, Bool, true, false, cond, if◌then◌else◌}
use Rattle.std.specs.Prelude.{is_some, IsSomeAnd, sum, unwrap_or}
use Rattle.std.specs.Option.{option_and_then, option_or}
use Rattle.ae_base.specs.Rows.{Rows}
use Rattle.ae_base.specs.declared.words.Phase.{Phase}
use Rattle.ae_base.specs.declared.words.Phase.TheVariants as phase
use Rattle.ae_base.specs.declared.refusal.Refusal.{Refusal}
use Rattle.ae_base.specs.declared.refusal.Refusal.TheVariants.{ProjectExists, SpaceFull, WrongPhase}
use Rattle.ae_base.specs.declared.words.Ground.TheVariants.{Develop}
use Rattle.ae_base.specs.declared.words.Which.TheVariants.{FrozenBytes}
use Rattle.ae_evidence.specs.Digest.{digest}
use Rattle.ae_types.specs.declared.change.Change.{Change}
use Rattle.ae_types.specs.Observation.{Observation}
use Rattle.ae_types.specs.Phases.{is_integrating}
use Rattle.ae_types.specs.Runs.{missing}
use Rattle.ae_types.specs.Trees.{candidate_of}
use Rattle.ae_log.specs.declared.event.Event.{Event}
use Rattle.ae_log.specs.declared.event.EventKind.TheVariants as on
use Rattle.ae_log.specs.Applies.{is_being_developed}
use Rattle.ae_words.specs.declared.command.Command.{Command}
use Rattle.ae_words.specs.declared.table.Function.TheVariants as function
use Rattle.ae_machine.specs.declared.verdict.Verdict.TheVariants.{Accept, Refuse}
use Rattle.ae_machine.specs.Call.{Call, Given, call_of, change_of, first_of, unless}
use Rattle.ae_machine.specs.Freezing.{change_is_small, develop_runs_count, files_are_as_asked, first_content_refused, first_difference, size_of, versions_have_places}
use Rattle.ae_machine.specs.Permission.{may_come_in, right_change, right_phase, right_project, within}
use Rattle.ae_machine.specs.Sight.{change_tree, paths_read}
use Rattle.ae_machine.specs.Verdict.{answer, asked, asked_of_sight, change_of_events, ends, events_of, is_new_project, kinds_of, next_phase, refused_before, maker_in}
use Rattle.ae_machine.specs.Versions.{files_refused, kept_files_refused}
use Rattle.ae_machine.proofs.AcceptedRoles.{both-none}
use Rattle.ae_log.specs.Maker.{event_by}

-- ---- the phase

developed : (phase : Phase) → unless (is_being_developed phase) (WrongPhase phase) ≡ None → is_integrating phase ≡ false
developed phase.BeingDeveloped e = refl
developed _ e = cc

-- a change in whose phase a development may end isn't in integration
pub not-integrating : (given : Given) (change : Change) → given.call.command.function ≡ function.DevelopEnd → change_of given.call ≡ Some change → right_phase given.call ≡ None → is_integrating change.phase ≡ false
not-integrating given change is there right =
    developed change.phase
    (ap (λ f. unless (may_come_in f change.phase) (WrongPhase change.phase)) (sym is)
    ∙ ap (option_and_then (λ (other : Change). unless (may_come_in given.call.command.function other.phase) (WrongPhase other.phase))) (sym there) ∙ right)

-- where the conditions without reading pass, the phase is right
pub right-before : (o : Observation) (command : Command) (who : List ℕ) → command.function ≡ function.DevelopEnd → refused_before (Some o) command who ≡ None → right_phase (call_of o command who) ≡ None
right-before o command who is passed =
    let call : Call = call_of o command who in
    let asked-here = ap (λ f. if is_new_project f then Some ProjectExists else first_of (right_project ∷ right_change ∷ asked f) call) (sym is) ∙ passed in
    let behind = (both-none (right_change call) (first_of (asked function.DevelopEnd) call) (both-none (right_project call) (first_of (right_change ∷ asked function.DevelopEnd) call) asked-here).1).1 in
    (both-none (right_phase call) _ behind).0

-- ---- what refuses first

-- the refusals one after another, in the order of the conditions
abbrev pub in-order : Option Refusal → Option Refusal → Option Refusal → Option Refusal → Option Refusal
in-order files small runs room = option_or files (option_or small (option_or runs (option_or room None)))

both : (a b c : Option Refusal) → option_or a (option_or b c) ≡ option_or (option_or a b) c
both None b c = refl
both (Some refusal) b c = refl

pub or-none : (a : Option Refusal) → option_or a None ≡ a
or-none None = refl
or-none (Some refusal) = refl

module _ (files small runs room : Option Refusal) (events : List Event) where
  pub by-files : (refusal : Refusal) → files ≡ Some refusal → Refuse refusal ≡ answer (in-order files small runs room) events
  by-files refusal e = sym (ap (λ x. answer (in-order x small runs room) events) e)

  in-turn : files ≡ None → in-order files small runs room ≡ option_or (option_or small runs) room
  in-turn e = ap (λ x. in-order x small runs room) e ∙ both small runs (option_or room None) ∙ ap (option_or (option_or small runs)) (or-none room)

  pub by-tree : (refusal : Refusal) → files ≡ None → option_or small runs ≡ Some refusal → Refuse refusal ≡ answer (in-order files small runs room) events
  by-tree refusal e f = sym (ap (λ x. answer x events) (in-turn e ∙ ap (λ x. option_or x room) f))

  pub by-room : files ≡ None → option_or small runs ≡ None → answer room events ≡ answer (in-order files small runs room) events
  by-room e f = sym (ap (λ x. answer x events) (in-turn e ∙ ap (λ x. option_or x room) f))

-- ---- the answer

module _ (given : Given) where
  -- what is asked of a change, where it is there
  abbrev asked-of : Option Change → Option Refusal
  asked-of found =
      in-order (option_and_then (files_are_as_asked given) found) (option_and_then (change_is_small given) found) (option_and_then (develop_runs_count given) found)
      (option_and_then (versions_have_places given) found)

  abbrev pub these : Option Change → List Event
  these found = map (event_by (maker_in given) given.call.command.change) (ends given found)

  these-are : given.call.command.function ≡ function.DevelopEnd → events_of given ≡ these (change_of given.call)
  these-are is = ap (λ f. map (event_by (maker_in given) (change_of_events f given.call)) (kinds_of f given)) is

  answer-is : given.call.command.function ≡ function.DevelopEnd → (found : Option Change) → change_of given.call ≡ found
      → answer (asked-of found) (these found) ≡ answer (first_of (asked_of_sight function.DevelopEnd) given) (events_of given)
  answer-is is found there = sym (ap (answer (asked-of (change_of given.call))) (these-are is) ∙ ap (λ x. answer (asked-of x) (these x)) there)

  -- without a change nothing is asked, and nothing happens
  pub nothing-ends : given.call.command.function ≡ function.DevelopEnd → change_of given.call ≡ None → Accept [] ≡ answer (first_of (asked_of_sight function.DevelopEnd) given) (events_of given)
  nothing-ends is none = answer-is is None none

  files-are : (change : Change) → is_integrating change.phase ≡ false → change_of given.call ≡ Some change → files_refused given ≡ files_are_as_asked given change
  files-are change out there = ap (option_and_then (kept_files_refused given)) there ∙ go (is_integrating change.phase) out
    where
      go : (b : Bool) → b ≡ false → cond b None (first_content_refused given.view (paths_read given.call change))
          ≡ cond b (first_difference given (candidate_of given.call.stands change)) (first_content_refused given.view (paths_read given.call change))
      go true e = cc
      go false e = refl

  -- of a change in development the files are asked first, then the tree, and then the room for it
  pub end-is : (change : Change) → given.call.command.function ≡ function.DevelopEnd → change_of given.call ≡ Some change → is_integrating change.phase ≡ false
      → answer (in-order (files_refused given) (change_is_small given change) (develop_runs_count given change) (versions_have_places given change)) (these (Some change))
      ≡ answer (first_of (asked_of_sight function.DevelopEnd) given) (events_of given)
  end-is change is there out =
      ap (λ files. answer (in-order files (change_is_small given change) (develop_runs_count given change) (versions_have_places given change)) (these (Some change))) (files-are change out there)
      ∙ answer-is is (Some change) there

-- ---- as it was read

-- what the tree is asked, of a tree that is the change's
pub tree-why : (given : Given) (change : Change) (tree : Rows) (why : Option Refusal) (found : Option Change) → found ≡ Some change → tree ≡ change_tree given change
    → IsSomeAnd found (λ (other : Change). why ≡ option_or (within FrozenBytes 67108864 (sum (map size_of tree))) (missing given.call.stands other Develop (digest tree)))
    → option_or (change_is_small given change) (develop_runs_count given change) ≡ why
tree-why given change tree why found there is asks =
    let here : why ≡ option_or (within FrozenBytes 67108864 (sum (map size_of tree))) (missing given.call.stands change Develop (digest tree)) =
    subst (λ (x : Option Change). IsSomeAnd x (λ (other : Change). why ≡ option_or (within FrozenBytes 67108864 (sum (map size_of tree))) (missing given.call.stands other Develop (digest tree)))) there asks in
    sym (here ∙ ap (λ (rows : Rows). option_or (within FrozenBytes 67108864 (sum (map size_of rows))) (missing given.call.stands change Develop (digest rows))) is)

-- and its end
pub end-of : (given : Given) (change : Change) (tree : Rows) → tree ≡ change_tree given change
    → answer (unless (is_some (given.places given.call.stands tree)) SpaceFull)
    (event_by (maker_in given) given.call.command.change (on.End tree (next_phase given.call.stands.project.attributes.develop_end_action) (unwrap_or (given.places given.call.stands tree) [])) ∷ [])
    ≡ answer (versions_have_places given change) (these given (Some change))
end-of given change tree is =
    ap (λ (rows : Rows). answer (unless (is_some (given.places given.call.stands rows)) SpaceFull)
    (event_by (maker_in given) given.call.command.change (on.End rows (next_phase given.call.stands.project.attributes.develop_end_action) (unwrap_or (given.places given.call.stands rows) [])) ∷ [])) is
