use Rattle.std.proofs.Common.{◌≡◌, arith, refl}
use Rattle.ae_base.specs.declared.outcome.Outcome.TheVariants.{Done, RunFailed}
use Rattle.ae_outside.proofs.Rising.{risen_later}
use Rattle.ae_lines.specs.Acts.{MayBeDone, MayBePlanned}
use Rattle.ae_script.specs.Lines.{stand}
use Rattle.ae_script.specs.Uses.{Disks, Sites, disks, sites}
use Rattle.ae_script.proofs.Acting.{all_done, may_one, none_yet, one_ends, one_more}
use Rattle.ae_script.proofs.Unfailed.{act_unfailed, stopped_unfailed}
use Rattle.ae_script.proofs.act.do_acts.Goals as goal

pub do_act-told-requires : goal.do_act-told-requires
do_act-told-requires g c = record { may = may_one MayBeDone c.args.acts.now c.loop-act.act-index c.act-item.result _ (omega (arith, c.loop-act-test.true)) c.act-item.is refl c.requires.may; moment = c.args.standing.moment }

pub loop-act-init : goal.loop-act-init
loop-act-init g c =
    let d : Disks = disks g.D.Disk in
    let s : Sites = sites g.S.Site in
    record {
      so_far = none_yet d s c.args.manner c.args.acts.now (stand d s c.args.standing.who c.args.standing.now c.args.disk.now c.args.site.now) g.O.Sink.tells (g.O.Sink.taken c.args.out.now);
      out_faults = omega arith;
    }

pub returns-in-Some-clause-done : goal.returns-in-Some-clause-done
returns-in-Some-clause-done g c =
    let d : Disks = disks g.D.Disk in
    let s : Sites = sites g.S.Site in
    one_ends d s c.args.manner c.args.acts.now c.loop-act.act-index (stand d s c.args.standing.who c.args.standing.now c.args.disk.now c.args.site.now) (stand d s c.args.standing.who c.args.standing.now c.loop-act.disk c.loop-act.site)
    g.O.Sink.tells (g.O.Sink.taken c.args.out.now) (g.O.Sink.taken c.loop-act.out) c.loop-act.invariant.so_far c.act-item.result (omega (arith, c.loop-act-test.true)) c.act-item.is _ refl c.do_act-told.ensures.done
    _ _ _ _ (risen_later _ _ _ c.loop-act.invariant.out_faults) c.in-Some.ensures.ends

pub returns-in-Some-clause-unfailed : goal.returns-in-Some-clause-unfailed
returns-in-Some-clause-unfailed g c = λ may.
    let d : Disks = disks g.D.Disk in
    let s : Sites = sites g.S.Site in
    stopped_unfailed c.args.manner _ _ _ _
    (act_unfailed d s c.args.manner (stand d s c.args.standing.who c.args.standing.now c.loop-act.disk c.loop-act.site) _ c.act-item.result refl
    (may_one MayBePlanned c.args.acts.now c.loop-act.act-index c.act-item.result _ (omega (arith, c.loop-act-test.true)) c.act-item.is refl may) c.do_act-told.ensures.done) c.in-Some.ensures.ends

pub returns-in-Some-clause-out_faults : goal.returns-in-Some-clause-out_faults
returns-in-Some-clause-out_faults g c = omega (arith, c.loop-act.invariant.out_faults, c.tell_line.ensures.later)

pub loop-act-preserved : goal.loop-act-preserved
loop-act-preserved g c =
    let d : Disks = disks g.D.Disk in
    let s : Sites = sites g.S.Site in
    record {
      so_far = one_more d s c.args.manner c.args.acts.now c.loop-act.act-index (stand d s c.args.standing.who c.args.standing.now c.args.disk.now c.args.site.now) (stand d s c.args.standing.who c.args.standing.now c.loop-act.disk c.loop-act.site)
          g.O.Sink.tells (g.O.Sink.taken c.args.out.now) (g.O.Sink.taken c.loop-act.out) c.loop-act.invariant.so_far c.act-item.result (omega (arith, c.loop-act-test.true)) c.act-item.is _ refl c.do_act-told.ensures.done
          _ (c.tell_line.ensures.goes c.in_default.is) (c.tell_line.ensures.whole c.in_default.is);
      out_faults = omega (arith, c.loop-act.invariant.out_faults, c.tell_line.ensures.later);
    }

pub returns-clause-done : goal.returns-clause-done
returns-clause-done g c =
    let d : Disks = disks g.D.Disk in
    let s : Sites = sites g.S.Site in
    all_done d s c.args.manner c.args.acts.now c.loop-act.act-index (stand d s c.args.standing.who c.args.standing.now c.args.disk.now c.args.site.now) (stand d s c.args.standing.who c.args.standing.now c.loop-act.disk c.loop-act.site)
    g.O.Sink.tells (g.O.Sink.taken c.args.out.now) (g.O.Sink.taken c.loop-act.out) _ c.loop-act.invariant.so_far (omega (arith, c.loop-act-test.false))

pub returns-clause-unfailed : goal.returns-clause-unfailed
returns-clause-unfailed g c = λ may is. let both : Done ≡ RunFailed = is in cc

pub returns-clause-out_faults : goal.returns-clause-out_faults
returns-clause-out_faults g c = c.loop-act.invariant.out_faults
