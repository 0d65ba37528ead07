use Rattle.std.proofs.Common.{arith, refl}
use Rattle.ae_script.specs.Lines.{stand}
use Rattle.ae_script.specs.Uses.{Disks, Sites, disks, sites}
use Rattle.ae_script.specs.declared.manner.Manner.TheVariants.{Script}
use Rattle.ae_script.proofs.Ended.{memory_behind, none_yet}
use Rattle.ae_script.proofs.Givers.{done_by, never_nobody, nobody_reads, too_late, user_is}
use Rattle.ae_script.proofs.script.run_script.Goals as goal

pub returns-in-Err-clause-done : goal.returns-in-Err-clause-done
returns-in-Err-clause-done g c = λ may.
    let d : Disks = disks g.D.Disk in
    let s : Sites = sites g.S.Site in
    memory_behind d s Script _ _ _ _ _ _ _ _ _ _
    (none_yet d s Script (stand d s c.args.who.now c.args.now c.args.disk.now c.args.site.now) (g.I.Source.left c.args.input.now) (g.I.Source.left c.args.input.now) 0 g.I.Source.tells g.O.Sink.tells (g.O.Sink.taken c.args.out.now) refl refl)
    _ _ _ _ _ (λ rose. rose) _ c.tell_memory.ensures.ends

-- ---- nobody gives it, or too late

pub returns-in-Ok-None-clause-done : goal.returns-in-Ok-None-clause-done
returns-in-Ok-None-clause-done g c = λ may. absurd (nobody_reads _ _ _ _ c.in-Ok-None.ensures c.as_bytes.ensures.value c.in-Ok-None.field-0-is may)

pub returns-in-Ok-None-clause-nobody : goal.returns-in-Ok-None-clause-nobody
returns-in-Ok-None-clause-nobody g c = λ nobody. (refl, refl, refl, c.tell_bad_words.ensures.ends)

pub returns-then-now-gt-LAST_MOMENT-clause-done : goal.returns-then-now-gt-LAST_MOMENT-clause-done
returns-then-now-gt-LAST_MOMENT-clause-done g c = λ may. absurd (too_late c.args.who.now c.args.now (omega (arith, c.if-now-gt-LAST_MOMENT)) may)

pub returns-then-now-gt-LAST_MOMENT-clause-nobody : goal.returns-then-now-gt-LAST_MOMENT-clause-nobody
returns-then-now-gt-LAST_MOMENT-clause-nobody g c = λ nobody. (refl, refl, refl, c.tell_bad_words-then-now-gt-LAST_MOMENT.ensures.ends)

-- ---- the lines are done

pub returns-clause-done : goal.returns-clause-done
returns-clause-done g c = λ may.
    let d : Disks = disks g.D.Disk in
    let s : Sites = sites g.S.Site in
    done_by d s Script _ _ _ _ _ _ _ _ _ _ (user_is _ _ _ _ c.in-Ok-Some.ensures c.as_bytes.ensures.value c.in-Ok-Some.field-0-is) c.do_lines.ensures.done

pub returns-clause-nobody : goal.returns-clause-nobody
returns-clause-nobody g c = λ nobody.
    absurd (never_nobody _ _ _ _ _ c.in-Ok-Some.ensures c.as_bytes.ensures.value c.in-Ok-Some.field-0-is (omega (arith, c.if-now-gt-LAST_MOMENT)) nobody)
