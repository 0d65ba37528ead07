use Rattle.std.proofs.Common.{◌≤◌}
use Rattle.ae_script.specs.Lines.{stand}
use Rattle.ae_script.specs.Uses.{Disks, Sites, disks, sites}
use Rattle.ae_script.proofs.Acting.{SoFar}
use Rattle.ae_script.proofs.act.do_acts.Given as goal

abbrev pub invariant-loop-act : goal.invariant-loop-act
invariant-loop-act g l =
    let d : Disks = disks g.D.Disk in
    let s : Sites = sites g.S.Site in
    record {
      so_far : SoFar d s l.manner l.acts l.act-index (stand d s l.standing.who l.standing.now l.initial.disk l.initial.site) (stand d s l.standing.who l.standing.now l.disk l.site)
          g.O.Sink.tells (g.O.Sink.taken l.initial.out) (g.O.Sink.taken l.out);
      out_faults : g.O.Sink.faults l.initial.out ≤ g.O.Sink.faults l.out;
    }
