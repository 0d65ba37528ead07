-- Acts that were done so far, and their end.
use Rattle.std.specs.Prelude.{◌≡◌, ◌⊎◌, ◌≤◌, ◌<◌, ◌++◌, ◌+◌, ℕ, zero, suc, List, [], ◌∷◌, All, Bool, true, false, take, drop, length, get_or}
use Rattle.std.proofs.Common.{inl, inr, refl, sym, ap, subst, ◌∙◌, arith, append-nil}
use Rattle.std.proofs.lemmas.List.{map_more}
use Rattle.std.proofs.lemmas.List.Elements.{All-get_or}
use Rattle.ae_base.specs.declared.outcome.Outcome.{Outcome}
use Rattle.ae_base.specs.declared.outcome.Outcome.TheVariants.{Done}
use Rattle.ae_lines.specs.declared.line.Line.{Line}
use Rattle.ae_lines.specs.declared.line.Line.TheVariants.{Do}
use Rattle.ae_words.specs.declared.command.Command.{Command}
use Rattle.ae_telling.specs.Telling.{SinkUse, IsSaid, IsTold, sink_use, unless_told}
use Rattle.ae_script.specs.Acts.{ActsDone, AllDone, line_of, lines_of_acts}
use Rattle.ae_script.specs.Lines.{AllLead, AreDone, Did, Does, LinesEnd, Stand, by_end, by_line, lines_said}
use Rattle.ae_script.specs.Manner.{is_done, leads_on}
use Rattle.ae_script.specs.Step.{IsStoppedBy}
use Rattle.ae_script.specs.Causes.{IsCaused}
use Rattle.ae_script.specs.Laws.{ActsAreCaused, AllMeansDone, DoneMeansAll}
use Rattle.ae_outside.specs.Causes.{HasRisen}
use Rattle.ae_script.specs.Uses.{Disks, Sites, Streams, written_from}
use Rattle.ae_lines.specs.declared.act.Act.{Act}
use Rattle.ae_lines.specs.declared.act.Act.TheVariants as act
use Rattle.ae_script.specs.declared.manner.Manner.{Manner}
use Rattle.ae_script.specs.declared.manner.Manner.TheVariants.{Plan}
use Rattle.ae_script.proofs.Caused.{caused_end}
use Rattle.ae_script.proofs.Lines as lines
use Rattle.ae_script.proofs.Lines.{ends_by, ends_silent, leads_more, lines_more, more_so_far, none_so_far, runs_more, stopped_then}
use Rattle.ae_script.proofs.Logged.{follows}
use Rattle.ae_script.proofs.Telling.{act_ends, act_goes, act_whole, done_is, meant_done}

take_drop : (acts : List Act) (k : ℕ) → lines_of_acts acts ≡ lines_of_acts (take k acts) ++ lines_of_acts (drop k acts)
take_drop acts zero = refl
take_drop [] (suc k) = refl
take_drop (item ∷ acts) (suc k) = ap (λ (ls : List Line). line_of item ∷ ls) (take_drop acts k)

take_all : (acts : List Act) (k : ℕ) → length acts ≤ k → lines_of_acts (take k acts) ≡ lines_of_acts acts
take_all [] zero le = refl
take_all (item ∷ acts) zero le = absurd (omega (arith, le))
take_all [] (suc k) le = refl
take_all (item ∷ acts) (suc k) le = ap (λ (ls : List Line). line_of item ∷ ls) (take_all acts k (omega (arith, le)))

module _ (d : Disks) (s : Sites) (manner : Manner) (acts : List Act) where
  -- The first so many of them were done, and a next one is done after each.
  pub record SoFar (k : ℕ) (from to : Stand d s) (told : Type 0) (old taken : List ℕ) : Type 0 where
    pub so : lines.SoFar d s manner from to told old taken
    pub are : lines_said d s so.done ≡ lines_of_acts (take k acts)

  pub none_yet : (from : Stand d s) (told : Type 0) (old : List ℕ) → SoFar 0 from from told old old
  none_yet from told old = record { so = none_so_far d s manner from told old; are = refl }

  module _ (k : ℕ) (from to : Stand d s) (told : Type 0) (old taken : List ℕ) (so : SoFar k from to told old taken) (item : Act) (below : k < length acts) (is : item ≡ get_or acts k item)
      (one : Did d s) (says : one.line ≡ line_of item) (does : Does d s manner to one) where
    one_are : lines_said d s (so.so.done ++ one ∷ []) ≡ lines_of_acts (take (k + 1) acts)
    one_are =
        lines_more d s so.so.done one ∙ ap (λ (ls : List Line). ls ++ one.line ∷ []) so.are ∙ ap (λ (l : Line). lines_of_acts (take k acts) ++ l ∷ []) (says ∙ ap line_of is)
        ∙ sym (map_more line_of acts k item below)

    pub one_more : (taken_new : List ℕ) → leads_on manner one.outcome ≡ true → (told → taken_new ≡ taken ++ one.text) → SoFar (k + 1) from one.to told old taken_new
    one_more taken_new leads all = record { so = more_so_far d s manner from to told old taken so.so one does taken_new leads all; are = one_are }

    pub one_ends : (taken_new : List ℕ) (now_rose rose : Type 0) (result : Outcome) → (now_rose → rose) → IsStoppedBy manner one.outcome one.text (sink_use told taken taken_new now_rose) result
        → ActsDone d s manner acts from one.to (sink_use told old taken_new rose) result
    one_ends taken_new now_rose rose result on stopped = record {
      done = so.so.done ++ one ∷ [];
      rest = lines_of_acts (drop (k + 1) acts);
      are = take_drop acts (k + 1) ∙ ap (λ (ls : List Line). ls ++ lines_of_acts (drop (k + 1) acts)) (sym one_are);
      runs = runs_all;
      leads = leads_more d s manner from to told old taken so.so one does;
      ends = ends_now;
      logs = λ seen shown. follows d s manner seen shown from (so.so.done ++ one ∷ []) _ _ _ _ (ap (λ (p : Stand d s). p.disk) (leads_more d s manner from to told old taken so.so one does)) runs_all ends_now;
    }
      where
        runs_all : AreDone d s manner from (so.so.done ++ one ∷ [])
        runs_all = runs_more d s manner from to told old taken so.so one does

        ends_now : LinesEnd d s manner (so.so.done ++ one ∷ []) (sink_use told old taken_new rose) (AllDone (lines_of_acts (drop (k + 1) acts))) result
        ends_now = ends_by d s manner from to told old taken so.so one does _ taken_new now_rose rose result on stopped

  pub all_done : (k : ℕ) (from to : Stand d s) (told : Type 0) (old taken : List ℕ) (rose : Type 0) → SoFar k from to told old taken → length acts ≤ k → ActsDone d s manner acts from to (sink_use told old taken rose) Done
  all_done k from to told old taken rose so whole = record {
    done = so.so.done;
    rest = [];
    are = sym (so.are ∙ take_all acts k whole) ∙ sym (append-nil (lines_said d s so.so.done));
    runs = so.so.runs;
    leads = so.so.leads;
    ends = ends_now;
    logs = λ seen shown. follows d s manner seen shown from so.so.done _ _ _ _ (ap (λ (p : Stand d s). p.disk) so.so.leads) so.so.runs ends_now;
  }
    where
      ends_now : LinesEnd d s manner so.so.done (sink_use told old taken rose) (AllDone []) Done
      ends_now = ends_silent d s manner from to told old taken so.so _ rose (refl, refl, refl)

-- what is so of all acts is so of one of them
pub may_one : (P : Act → Type 0) (acts : List Act) (k : ℕ) (item one : Act) → k < length acts → item ≡ get_or acts k item → one ≡ item → All P acts → P one
may_one P acts k item one below is same all = subst P (sym (same ∙ is)) (All-get_or P acts k item below all)

-- ---- a command alone

module _ (d : Disks) (s : Sites) (command : Command) (from : Stand d s) (one : Did d s) (says : one.line ≡ Do command) (does : Does d s Plan from one) (sink : SinkUse) (result : Outcome) (told : IsTold one.outcome one.text sink result) where
  one_ended : (b : Bool) → is_done result ≡ b → LinesEnd d s Plan (one ∷ []) sink (AllDone []) result
  one_ended true done = by_end Done [] (act_goes one.outcome result one.text sink told done, tt) (refl, refl, refl) (record {
    how = inl (done_is result done);
    said = λ tells. subst (λ (o : Outcome). IsSaid [] o (sink.before ++ (one.text ++ [])) sink.after sink.rose) (sym (done_is result done))
        (act_whole one.outcome result one.text sink told done tells ∙ ap (λ (t : List ℕ). sink.before ++ t) (sym (append-nil one.text)) ∙ sym (append-nil (sink.before ++ (one.text ++ []))));
  })
  one_ended false ends = by_line [] one refl tt
      (stopped_then sink.told sink.before sink.before sink.after [] sink.rose sink.rose (λ tells. sym (append-nil sink.before)) (λ rose. rose) Plan one.outcome result one.text (act_ends one.outcome result one.text sink told ends))

  pub one_act : (to : Stand d s) → one.to ≡ to → ActsDone d s Plan (act.Run command ∷ []) from to sink result
  one_act to led = record {
    done = one ∷ [];
    rest = [];
    are = ap (λ (l : Line). l ∷ []) (sym says);
    runs = (does, tt);
    leads = led;
    ends = one_ended (is_done result) refl;
    logs = λ seen shown. follows d s Plan seen shown from (one ∷ []) to.disk sink (AllDone []) result (ap (λ (p : Stand d s). p.disk) led) (does, tt) (one_ended (is_done result) refl);
  }

-- ---- where all are done

never_by_line : (o : Outcome) (rose : Type 0) → ((leads_on Plan o ≡ false) × (Done ≡ o)) ⊎ ((Done ≡ unless_told o) × rose) → ⊥
never_by_line o rose (inl ended) = let both : true ≡ false = ap is_done ended.1 ∙ ended.0 in absurd (cc both)
never_by_line o rose (inr untold) = let here : o ≡ Done = meant_done o Done rose refl (inr untold) in let lost : Done ≡ unless_told Done = untold.0 ∙ ap unless_told here in let both : true ≡ false = ap is_done lost in absurd (cc both)

module _ (d : Disks) (s : Sites) where
  by_done : (done : List (Did d s)) (rest : List Line) (sink : SinkUse) → LinesEnd d s Plan done sink (AllDone rest) Done → (rest ≡ []) × AllLead d s Plan done
  by_done done rest sink (by_end meant text lead after told) = (after.0, lead)
  by_done done rest sink (by_line before last is lead ends) = absurd (never_by_line last.outcome sink.rose ends.how)

  pub done_means_all : (o : Streams) → DoneMeansAll d s o
  done_means_all o acts from to old new result did is =
      let all = by_done did.done did.rest (written_from o old new) (subst (λ (r : Outcome). LinesEnd d s Plan did.done (written_from o old new) (AllDone did.rest) r) is did.ends) in
      (did.are ∙ ap (λ (ls : List Line). lines_said d s did.done ++ ls) all.0 ∙ append-nil (lines_said d s did.done), all.1)

  last_leads : (before : List (Did d s)) (last : Did d s) → AllLead d s Plan (before ++ last ∷ []) → leads_on Plan last.outcome ≡ true
  last_leads [] last lead = lead.0
  last_leads (x ∷ before) last lead = last_leads before last lead.1

  by_all : (done : List (Did d s)) (rest : List Line) (sink : SinkUse) (result : Outcome) → LinesEnd d s Plan done sink (AllDone rest) result → AllLead d s Plan done → (sink.rose → ⊥) → result ≡ Done
  by_all done rest sink result (by_end meant text lead after told) all quiet = elim told.how [ inl is ↦ is ∙ after.1 | inr untold ↦ absurd (quiet untold.1) ]
  by_all done rest sink result (by_line before last is lead ends) all quiet = elim ends.how [
    | inl ended ↦ absurd (let both : true ≡ false = sym (last_leads before last (subst (λ (ones : List (Did d s)). AllLead d s Plan ones) is all)) ∙ ended.0 in cc)
    | inr untold ↦ absurd (quiet untold.1)
  ]

  pub all_means_done : (o : Streams) → AllMeansDone d s o
  all_means_done o acts from to old new result did lead quiet = by_all did.done did.rest (written_from o old new) result did.ends lead quiet

  after_caused : (disk_rose site_rose sink_rose : Type 0) (o : Outcome) (text : List ℕ) (rest : List Line) → AllDone rest o text → IsCaused disk_rose site_rose ⊥ sink_rose o
  after_caused disk_rose site_rose sink_rose o text rest all = subst (λ (x : Outcome). IsCaused disk_rose site_rose ⊥ sink_rose x) (sym all.1) tt

  pub caused_by_acts : (sink : SinkUse) (manner : Manner) (acts : List Act) (from to : Stand d s) (result : Outcome) → ActsDone d s manner acts from to sink result
      → IsCaused (HasRisen (d.faults from.disk) (d.faults to.disk)) (HasRisen (s.faults from.site) (s.faults to.site)) ⊥ sink.rose result
  caused_by_acts sink manner acts from to result did =
      subst (λ (p : Stand d s). IsCaused (HasRisen (d.faults from.disk) (d.faults p.disk)) (HasRisen (s.faults from.site) (s.faults p.site)) ⊥ sink.rose result) did.leads
      (caused_end d s manner from did.done sink _ ⊥ result did.runs did.ends (λ r text all. after_caused _ _ sink.rose r text did.rest all))

  pub caused_acts : (o : Streams) → ActsAreCaused d s o
  caused_acts o manner acts from to old new result did = caused_by_acts (written_from o old new) manner acts from to result did
