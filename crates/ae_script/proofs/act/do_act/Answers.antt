use Rattle.std.proofs.Common.{ap, le_refl, refl, subst}
use Rattle.ae_lines.specs.Acts.{MayBeDone}
use Rattle.ae_script.specs.Acts.{line_of}
use Rattle.ae_script.specs.Lines.{did, stand}
use Rattle.ae_script.specs.Step.{told_by}
use Rattle.ae_script.specs.Uses.{Disks, Sites, disks, sites}
use Rattle.ae_script.proofs.Edits.{bytes_are, edit_written}
use Rattle.ae_script.proofs.Lines.{line_done, status_is}
use Rattle.ae_script.proofs.act.do_act.Goals as goal

pub do_command-requires : goal.do_command-requires
do_command-requires g c =
    let may = subst MayBeDone c.in-Run.is c.requires.may in
    record { formed = may.0; one = may.1; moment = c.requires.moment }

pub returns-in-Run : goal.returns-in-Run
returns-in-Run g c =
    let d : Disks = disks g.D.Disk in
    let s : Sites = sites g.S.Site in
    record {
      done = line_done d s c.args.manner (stand d s c.args.who.now c.args.now c.args.disk.now c.args.site.now)
          (did d s (line_of c.args.act.now) c.do_command.result.outcome (told_by c.args.manner c.do_command.result) (stand d s c.args.who.now c.args.now c.do_command.new.disk c.do_command.new.site)) _ (ap line_of c.in-Run.is)
          (record { said = _; is = status_is _ _ _ _ _ _ _ c.tells_status-status.ensures c.do_command.ensures.done; to = refl; text = refl }) c.do_command.ensures.disk_faults c.do_command.ensures.site_faults;
    }

pub returns-in-Put : goal.returns-in-Put
returns-in-Put g c =
    let d : Disks = disks g.D.Disk in
    let s : Sites = sites g.S.Site in
    record {
      done = line_done d s c.args.manner (stand d s c.args.who.now c.args.now c.args.disk.now c.args.site.now)
          (did d s (line_of c.args.act.now) c.put.result.outcome (told_by c.args.manner c.put.result) (stand d s c.args.who.now c.args.now c.args.disk.now c.put.new.site)) _ (ap line_of c.in-Put.is)
          (record { is = edit_written _ _ _ _ c.args.manner _ _ (bytes_are _ _ _ _ _ _ _ c.bytes.ensures.value c.put.ensures.ends); to = refl }) (le_refl _) c.put.ensures.faults;
    }
