-- Lines that were done so far, one more, and their end.
use Rattle.std.specs.Prelude.{◌≡◌, ◌≤◌, ◌++◌, ◌+◌, ℕ, List, [], ◌∷◌, Bool, true, length}
use Rattle.std.proofs.Common.{inl, inr, refl, sym, ap, subst, ◌∙◌, arith, append-nil, append_assoc}
use Rattle.ae_base.specs.declared.outcome.Outcome.{Outcome}
use Rattle.ae_base.specs.declared.outcome.Outcome.TheVariants.{Done, RunFailed, Refused, BadWords, BadScript, DiskFault, SiteFault, SinkFault, SourceFault, Damaged, Memory}
use Rattle.ae_lines.specs.declared.line.Line.{Line}
use Rattle.ae_telling.specs.Telling.{IsSaid, IsTold, IsTried, sink_use}
use Rattle.ae_machine.specs.Called.{Called}
use Rattle.ae_script.specs.Lines.{AllLead, AreDone, CommandDone, Did, Does, DoesLine, LinesEnd, Stand, by_end, by_line, last_stand, lines_said, transcript}
use Rattle.ae_script.specs.Manner.{leads_on}
use Rattle.ae_script.specs.Step.{IsStoppedBy}
use Rattle.ae_script.specs.Uses.{DiskUse, Disks, SiteUse, Sites}
use Rattle.ae_script.specs.declared.manner.Manner.{Manner}

-- ---- what was written, seen from an earlier time

tried_on : (text old new : List ℕ) (now_rose rose : Type 0) → (now_rose → rose) → IsTried text old new now_rose → IsTried text old new rose
tried_on text old new now_rose rose on tried = record { part = tried.part; whole = elim tried.whole [ inl risen ↦ inl (on risen) | inr all ↦ inr all ] }

said_on : (text : List ℕ) (o : Outcome) (old new : List ℕ) (now_rose rose : Type 0) → (now_rose → rose) → IsSaid text o old new now_rose → IsSaid text o old new rose
said_on text Done old new now_rose rose on said = said
said_on text RunFailed old new now_rose rose on said = said
said_on text (Refused refusal) old new now_rose rose on said = said
said_on text (BadWords place) old new now_rose rose on said = said
said_on text (BadScript line) old new now_rose rose on said = said
said_on text DiskFault old new now_rose rose on said = tried_on text old new now_rose rose on said
said_on text SiteFault old new now_rose rose on said = tried_on text old new now_rose rose on said
said_on text SinkFault old new now_rose rose on said = said
said_on text SourceFault old new now_rose rose on said = tried_on text old new now_rose rose on said
said_on text (Damaged file) old new now_rose rose on said = tried_on text old new now_rose rose on said
said_on text Memory old new now_rose rose on said = tried_on text old new now_rose rose on said

module _ (told : Type 0) (old mid new front : List ℕ) (now_rose rose : Type 0) (was : told → mid ≡ old ++ front) (on : now_rose → rose) where
  said_then : (text : List ℕ) (o : Outcome) → (told → IsSaid text o mid new now_rose) → told → IsSaid text o (old ++ front) new rose
  said_then text o said tells = subst (λ (b : List ℕ). IsSaid text o b new rose) (was tells) (said_on text o mid new now_rose rose on (said tells))

  pub stopped_then : (manner : Manner) (meant result : Outcome) (text : List ℕ) → IsStoppedBy manner meant text (sink_use told mid new now_rose) result → IsStoppedBy manner meant text (sink_use told (old ++ front) new rose) result
  stopped_then manner meant result text stopped = record {
    how = elim stopped.how [ inl ended ↦ inl ended | inr untold ↦ inr (untold.0, on untold.1) ];
    said = said_then text result stopped.said;
  }

  pub told_then : (meant result : Outcome) (text : List ℕ) → IsTold meant text (sink_use told mid new now_rose) result → IsTold meant text (sink_use told (old ++ front) new rose) result
  told_then meant result text is = record {
    how = elim is.how [ inl same ↦ inl same | inr untold ↦ inr (untold.0, on untold.1) ];
    said = said_then text result is.said;
  }

-- a command whose status is told as this says
pub status_is : (called : Called) (told status : Bool) (disk : DiskUse) (site : SiteUse) (o : Outcome) (text : List ℕ) → told ≡ status → CommandDone called told disk site o text → CommandDone called status disk site o text
status_is called told status disk site o text same done = subst (λ (b : Bool). CommandDone called b disk site o text) same done

-- ---- lists

pub lines_more : (d : Disks) (s : Sites) (done : List (Did d s)) (one : Did d s) → lines_said d s (done ++ one ∷ []) ≡ lines_said d s done ++ one.line ∷ []
lines_more d s [] one = refl
lines_more d s (x ∷ done) one = ap (λ (ls : List Line). x.line ∷ ls) (lines_more d s done one)

pub length_more : {A : Type 0} (xs : List A) (x : A) → length (xs ++ x ∷ []) ≡ length xs + 1
length_more [] x = refl
length_more (y ∷ xs) x = let rest = length_more xs x in omega (arith, rest)

-- ---- lines

module _ (d : Disks) (s : Sites) (manner : Manner) where
  pub line_done : (from : Stand d s) (one : Did d s) (says : Line) → one.line ≡ says → DoesLine d s manner says from one → d.faults from.disk ≤ d.faults one.to.disk → s.faults from.site ≤ s.faults one.to.site → Does d s manner from one
  line_done from one says same does disk site = record { does = subst (λ (l : Line). DoesLine d s manner l from one) (sym same) does; disk_later = disk; site_later = site }

  pub done_more : (from : Stand d s) (done : List (Did d s)) (one : Did d s) → AreDone d s manner from done → Does d s manner (last_stand d s from done) one → AreDone d s manner from (done ++ one ∷ [])
  done_more from [] one are does = (does, tt)
  done_more from (x ∷ done) one are does = (are.0, done_more x.to done one are.1 does)

  pub lead_more : (done : List (Did d s)) (one : Did d s) → AllLead d s manner done → leads_on manner one.outcome ≡ true → AllLead d s manner (done ++ one ∷ [])
  lead_more [] one lead leads = (leads, tt)
  lead_more (x ∷ done) one lead leads = (lead.0, lead_more done one lead.1 leads)

  pub last_more : (from : Stand d s) (done : List (Did d s)) (one : Did d s) → last_stand d s from (done ++ one ∷ []) ≡ one.to
  last_more from [] one = refl
  last_more from (x ∷ done) one = last_more x.to done one

  pub transcript_more : (done : List (Did d s)) (one : Did d s) → transcript d s (done ++ one ∷ []) ≡ transcript d s done ++ one.text
  transcript_more [] one = append-nil one.text
  transcript_more (x ∷ done) one = ap (λ (t : List ℕ). x.text ++ t) (transcript_more done one) ∙ sym (append_assoc x.text (transcript d s done) one.text)

  -- The lines so far: a next one is done after each, they lead to this stand, and all that is written of them was taken.
  pub record SoFar (from to : Stand d s) (told : Type 0) (old taken : List ℕ) : Type 0 where
    pub done : List (Did d s)
    pub runs : AreDone d s manner from done
    pub lead : AllLead d s manner done
    pub leads : last_stand d s from done ≡ to
    pub said : told → taken ≡ old ++ transcript d s done

  abbrev pub none_so_far : (from : Stand d s) (told : Type 0) (old : List ℕ) → SoFar from from told old old
  none_so_far from told old = record { done = []; runs = tt; lead = tt; leads = refl; said = λ tells. sym (append-nil old) }

  module _ (from to : Stand d s) (told : Type 0) (old taken : List ℕ) (so : SoFar from to told old taken) (one : Did d s) (does : Does d s manner to one) where
    pub runs_more : AreDone d s manner from (so.done ++ one ∷ [])
    runs_more = done_more from so.done one so.runs (subst (λ (p : Stand d s). Does d s manner p one) (sym so.leads) does)

    pub leads_more : last_stand d s from (so.done ++ one ∷ []) ≡ one.to
    leads_more = last_more from so.done one

    -- a line after which the next one is done
    abbrev pub more_so_far : (taken_new : List ℕ) → leads_on manner one.outcome ≡ true → (told → taken_new ≡ taken ++ one.text) → SoFar from one.to told old taken_new
    more_so_far taken_new leads all = record {
      done = so.done ++ one ∷ [];
      runs = runs_more;
      lead = lead_more so.done one so.lead leads;
      leads = leads_more;
      said = λ tells. all tells ∙ ap (λ (t : List ℕ). t ++ one.text) (so.said tells) ∙ append_assoc old (transcript d s so.done) one.text ∙ ap (λ (t : List ℕ). old ++ t) (sym (transcript_more so.done one));
    }

    -- one that ends them
    pub ends_by : (After : Outcome → List ℕ → Type 0) (taken_new : List ℕ) (now_rose rose : Type 0) (result : Outcome) → (now_rose → rose) → IsStoppedBy manner one.outcome one.text (sink_use told taken taken_new now_rose) result
        → LinesEnd d s manner (so.done ++ one ∷ []) (sink_use told old taken_new rose) After result
    ends_by After taken_new now_rose rose result on stopped = by_line so.done one refl so.lead (stopped_then told old taken taken_new (transcript d s so.done) now_rose rose so.said on manner one.outcome result one.text stopped)

  -- an end after them
  pub ends_after : (from to : Stand d s) (told : Type 0) (old taken : List ℕ) (so : SoFar from to told old taken) (After : Outcome → List ℕ → Type 0) (taken_new : List ℕ) (now_rose rose : Type 0) (meant result : Outcome) (text : List ℕ) → (now_rose → rose) → After meant text
      → IsTold meant text (sink_use told taken taken_new now_rose) result → LinesEnd d s manner so.done (sink_use told old taken_new rose) After result
  ends_after from to told old taken so After taken_new now_rose rose meant result text on after is =
      by_end meant text so.lead after (told_then told old taken taken_new (transcript d s so.done) now_rose rose so.said on meant result text is)

  -- nothing is written at the end
  pub ends_silent : (from to : Stand d s) (told : Type 0) (old taken : List ℕ) (so : SoFar from to told old taken) (After : Outcome → List ℕ → Type 0) (rose : Type 0) → After Done [] → LinesEnd d s manner so.done (sink_use told old taken rose) After Done
  ends_silent from to told old taken so After rose after = ends_after from to told old taken so After taken rose rose Done Done [] (λ risen. risen) after (record { how = inl refl; said = λ tells. sym (append-nil taken) })
