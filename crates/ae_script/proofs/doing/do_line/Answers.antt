use Rattle.std.proofs.Common.{le_refl, refl, subst}
use Rattle.ae_lines.specs.Line.{IsReady}
use Rattle.ae_script.specs.Lines.{did, stand}
use Rattle.ae_script.specs.Step.{told_by}
use Rattle.ae_script.specs.Uses.{Disks, Sites, disks, sites}
use Rattle.ae_script.proofs.Edits.{bytes_are, edit_written, silent}
use Rattle.ae_script.proofs.Lines.{line_done, status_is}
use Rattle.ae_script.proofs.doing.do_line.Goals as goal

pub do_command-requires : goal.do_command-requires
do_command-requires g c =
    let ready = subst IsReady c.in-Do.is c.requires.ready in
    record { formed = ready.0; one = ready.1; moment = c.args.standing.now.moment }

pub returns-in-Nothing : goal.returns-in-Nothing
returns-in-Nothing g c =
    let d : Disks = disks g.D.Disk in
    let s : Sites = sites g.S.Site in
    record {
      done = line_done d s c.args.manner (stand d s c.args.standing.now.who c.args.standing.now.now c.args.disk.now c.args.site.now)
          (did d s c.args.line c.bare.result.outcome (told_by c.args.manner c.bare.result) (stand d s c.args.standing.now.who c.args.standing.now.now c.args.disk.now c.args.site.now)) _ c.in-Nothing.is
          (record { outcome = c.bare.ensures.outcome; to = refl; text = silent c.args.manner c.bare.result.status c.bare.result.outcome c.bare.result.text c.bare.ensures.outcome c.bare.ensures.text }) (le_refl _) (le_refl _);
    }

pub returns-in-As : goal.returns-in-As
returns-in-As g c =
    let d : Disks = disks g.D.Disk in
    let s : Sites = sites g.S.Site in
    record {
      done = line_done d s c.args.manner (stand d s c.args.standing.now.who c.args.standing.now.now c.args.disk.now c.args.site.now)
          (did d s c.args.line c.bare-in-As.result.outcome (told_by c.args.manner c.bare-in-As.result) (stand d s c.in-As.user c.args.standing.now.now c.args.disk.now c.args.site.now)) _ c.in-As.is
          (record { outcome = c.bare-in-As.ensures.outcome; to = refl; text = silent c.args.manner c.bare-in-As.result.status c.bare-in-As.result.outcome c.bare-in-As.result.text c.bare-in-As.ensures.outcome c.bare-in-As.ensures.text }) (le_refl _) (le_refl _);
    }

pub returns-in-At : goal.returns-in-At
returns-in-At g c =
    let d : Disks = disks g.D.Disk in
    let s : Sites = sites g.S.Site in
    record {
      done = line_done d s c.args.manner (stand d s c.args.standing.now.who c.args.standing.now.now c.args.disk.now c.args.site.now)
          (did d s c.args.line c.bare-in-At.result.outcome (told_by c.args.manner c.bare-in-At.result) (stand d s c.args.standing.now.who c.in-At.moment c.args.disk.now c.args.site.now)) _ c.in-At.is
          (record { outcome = c.bare-in-At.ensures.outcome; to = refl; text = silent c.args.manner c.bare-in-At.result.status c.bare-in-At.result.outcome c.bare-in-At.result.text c.bare-in-At.ensures.outcome c.bare-in-At.ensures.text }) (le_refl _) (le_refl _);
    }

pub returns-in-Do : goal.returns-in-Do
returns-in-Do g c =
    let d : Disks = disks g.D.Disk in
    let s : Sites = sites g.S.Site in
    record {
      done = line_done d s c.args.manner (stand d s c.args.standing.now.who c.args.standing.now.now c.args.disk.now c.args.site.now)
          (did d s c.args.line c.do_command.result.outcome (told_by c.args.manner c.do_command.result) (stand d s c.args.standing.now.who c.args.standing.now.now c.do_command.new.disk c.do_command.new.site)) _ c.in-Do.is
          (record { said = _; is = status_is _ _ _ _ _ _ _ c.tells_status.ensures c.do_command.ensures.done; to = refl; text = refl }) c.do_command.ensures.disk_faults c.do_command.ensures.site_faults;
    }

pub returns-in-Put : goal.returns-in-Put
returns-in-Put g c =
    let d : Disks = disks g.D.Disk in
    let s : Sites = sites g.S.Site in
    record {
      done = line_done d s c.args.manner (stand d s c.args.standing.now.who c.args.standing.now.now c.args.disk.now c.args.site.now)
          (did d s c.args.line c.put.result.outcome (told_by c.args.manner c.put.result) (stand d s c.args.standing.now.who c.args.standing.now.now c.args.disk.now c.put.new.site)) _ c.in-Put.is
          (record { is = edit_written _ _ _ _ c.args.manner _ _ (bytes_are _ _ _ _ _ _ _ c.bytes.ensures.value c.put.ensures.ends); to = refl }) (le_refl _) c.put.ensures.faults;
    }

pub returns-in-Fill : goal.returns-in-Fill
returns-in-Fill g c =
    let d : Disks = disks g.D.Disk in
    let s : Sites = sites g.S.Site in
    record {
      done = line_done d s c.args.manner (stand d s c.args.standing.now.who c.args.standing.now.now c.args.disk.now c.args.site.now)
          (did d s c.args.line c.fill.result.outcome (told_by c.args.manner c.fill.result) (stand d s c.args.standing.now.who c.args.standing.now.now c.args.disk.now c.fill.new.site)) _ c.in-Fill.is
          (record { is = edit_written _ _ _ _ _ _ _ c.fill.ensures.ends; to = refl }) (le_refl _) c.fill.ensures.faults;
    }

pub returns-in-Remove : goal.returns-in-Remove
returns-in-Remove g c =
    let d : Disks = disks g.D.Disk in
    let s : Sites = sites g.S.Site in
    record {
      done = line_done d s c.args.manner (stand d s c.args.standing.now.who c.args.standing.now.now c.args.disk.now c.args.site.now)
          (did d s c.args.line c.remove.result.outcome (told_by c.args.manner c.remove.result) (stand d s c.args.standing.now.who c.args.standing.now.now c.args.disk.now c.remove.new.site)) _ c.in-Remove.is
          (record { is = edit_written _ _ _ _ _ _ _ c.remove.ensures.ends; to = refl }) (le_refl _) c.remove.ensures.faults;
    }
