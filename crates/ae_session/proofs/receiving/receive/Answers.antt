use Rattle.std.proofs.Common.{◌≡◌, All, List, refl, subst, sym}
use Rattle.std.specs.Prelude.{option_copied}
use Rattle.ae_base.proofs.Results.{ok_is_no_err}
use Rattle.ae_base.specs.declared.outcome.Outcome.TheVariants.{SourceFault}
use Rattle.ae_lines.specs.declared.act.Act.{Act}
use Rattle.ae_lines.specs.Acts.{MayBeDone, MayBePlanned}
use Rattle.ae_lines.proofs.Planned.{all_may_be_done}
use Rattle.ae_script.specs.Lines.{stand}
use Rattle.ae_script.specs.Uses.{Disks, Sites, disks, sites}
use Rattle.ae_script.proofs.Unfailed.{why_unfailed}
use Rattle.ae_session.proofs.Received.{of_receiving, received_by, source_told, unplanned_unfailed, unreceived_by}
use Rattle.ae_session.proofs.receiving.receive.Goals as goal

pub do_acts-requires : goal.do_acts-requires
do_acts-requires g c = record { may = subst (λ (acts : List Act). All MayBeDone acts) (sym c.as_slice.ensures) (all_may_be_done _ c.in-Ok.ensures.plan.may) }

pub returns-in-Ok-clause-done : goal.returns-in-Ok-clause-done
returns-in-Ok-clause-done g c =
    let d : Disks = disks g.D.Disk in
    let s : Sites = sites g.S.Site in
    received_by d s (option_copied c.args.project) (stand d s c.args.standing.who c.args.standing.now c.args.disk.now c.args.site.now) c.do_acts.new.disk c.do_acts.new.site _ _ c.do_acts.result c.read_plan.new.disk _ _ c.in-Ok.ensures.plan c.as_slice.ensures
    c.read_plan.ensures.disk c.in-Ok.ensures.opened c.read_plan.ensures.disk_faults c.do_acts.ensures.done

pub tell_unreceived-requires : goal.tell_unreceived-requires
tell_unreceived-requires g c = of_receiving _ _ _ _ _ _ _ _ _ _ c.in-Err.why c.in-Err.ensures.none

pub returns-in-Err-clause-done : goal.returns-in-Err-clause-done
returns-in-Err-clause-done g c =
    let d : Disks = disks g.D.Disk in
    let s : Sites = sites g.S.Site in
    unreceived_by d s (option_copied c.args.project) (stand d s c.args.standing.who c.args.standing.now c.args.disk.now c.args.site.now) c.read_plan.new.disk c.args.site.now _ _ c.tell_unreceived.result c.in-Err.why c.in-Err.ensures.none refl
    c.read_plan.ensures.disk c.read_plan.ensures.disk_faults c.tell_unreceived.ensures.told

-- ---- the input's faults

pub returns-in-Ok-clause-quiet : goal.returns-in-Ok-clause-quiet
returns-in-Ok-clause-quiet g c = λ other. c.in-Ok.ensures.quiet (ok_is_no_err _ _)

pub returns-in-Err-clause-quiet : goal.returns-in-Err-clause-quiet
returns-in-Err-clause-quiet g c = λ other. c.in-Err.ensures.quiet (λ is. other (source_told _ _ _ c.tell_unreceived.ensures.told (let same : c.in-Err.why ≡ SourceFault = cc in same)))

-- ---- no run is made

pub returns-in-Ok-clause-unfailed : goal.returns-in-Ok-clause-unfailed
returns-in-Ok-clause-unfailed g c = c.do_acts.ensures.unfailed (subst (λ (acts : List Act). All MayBePlanned acts) (sym c.as_slice.ensures) c.in-Ok.ensures.plan.may)

pub returns-in-Err-clause-unfailed : goal.returns-in-Err-clause-unfailed
returns-in-Err-clause-unfailed g c = why_unfailed _ _ _ (unplanned_unfailed _ _ _ _ _ _ _ _ _ _ c.in-Err.why c.in-Err.ensures.none) c.tell_unreceived.ensures.told
