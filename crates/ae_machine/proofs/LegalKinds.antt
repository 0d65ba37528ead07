-- What holds of the first event of a project, and of each kind that a command may make, holds of each event of a legal log.
use Rattle.std.proofs.Common.{◌≡◌, refl, sym, ◌∙◌, ap, subst, List, [], ◌∷◌, Option, Some, None}
use Rattle.ae_types.specs.Observation.{Observation}
use Rattle.ae_log.specs.declared.event.Event.{Event}
use Rattle.ae_log.specs.declared.event.EventKind.{EventKind}
use Rattle.ae_log.specs.Applies.{IsProject}
use Rattle.ae_log.specs.Files.{version_bytes}
use Rattle.ae_log.specs.Log.{Log, followed}
use Rattle.ae_log.specs.Observed.{observation}
use Rattle.ae_machine.specs.declared.verdict.Verdict.TheVariants.{Accept}
use Rattle.ae_machine.specs.Accepted.{AreStart, decided}
use Rattle.ae_machine.specs.Call.{Given, given_of}
use Rattle.ae_machine.specs.Legal.{Legal, MayCome, Occasion, nothing, more, maker_at}
use Rattle.ae_machine.specs.Space.{placing}
use Rattle.ae_machine.specs.Verdict.{change_of_events, kinds_of}
use Rattle.ae_machine.proofs.Accepted.{accepted-passes}
use Rattle.ae_machine.proofs.AcceptedLogs.{accepted-starts}
use Rattle.ae_machine.proofs.KindsMade.{Each, HasEachKind, each-event, kinds-all}

-- a command to what stands after a log
abbrev pub given_after : Log → Observation → Occasion → Given
given_after log o occasion = given_of placing o (version_bytes log) occasion.command occasion.who occasion.when occasion.view

module _ (P : EventKind → Type 0) (first : (kind : EventKind) → IsProject kind → P kind)
    (have : (log : Log) (o : Observation) (occasion : Occasion) → MayCome log occasion → HasEachKind P occasion.command.function (given_after log o occasion)) where
  of-start : (events : List Event) → AreStart events → Each P events
  of-start events start = subst (Each P) (sym start.only) (first start.event.what start.starts.project, tt)

  with-these : (events : List Event) (log : Log) → Each P events → Each P log → Each P (followed log events)
  with-these [] log has there = there
  with-these (event ∷ events) log has there = with-these events (event ∷ log) has.1 (has.0, there)

  pub legal-each : (log : Log) → Legal log → Each P log
  legal-each log nothing = tt
  legal-each log (more before next occasion events legal may accepted is) =
      subst (Each P) (sym is) (with-these events before (go (observation before) refl) (legal-each before legal))
    where
      answered : (stood : Option Observation) → observation before ≡ stood → decided stood (version_bytes before) occasion ≡ Accept events
      answered stood there = ap (λ (v : Option Observation). decided v (version_bytes before) occasion) (sym there) ∙ accepted

      go : (stood : Option Observation) → observation before ≡ stood → Each P events
      go (Some o) there =
          let given : Given = given_after before o occasion in
          subst (Each P) (accepted-passes o (version_bytes before) occasion events (answered (Some o) there)).these
          (each-event P (kinds_of occasion.command.function given) (maker_at occasion) (change_of_events occasion.command.function given.call)
          (kinds-all P occasion.command.function given (have before o occasion may)))
      go None there = of-start events (accepted-starts (version_bytes before) occasion events (answered None there))
