-- How a script ends, from what its calls answered.
use Rattle.std.specs.Prelude.{◌≡◌, ◌+◌, ℕ, true, List, [], ◌∷◌, ◌++◌, length}
use Rattle.std.proofs.Common.{inl, inr, refl, sym, ap, subst, ◌∙◌}
use Rattle.ae_base.specs.declared.outcome.Outcome.{Outcome}
use Rattle.ae_base.specs.declared.outcome.Outcome.TheVariants.{Done, BadScript, SourceFault, Memory}
use Rattle.ae_lines.specs.Line.{IsLine}
use Rattle.ae_lines.specs.declared.line.Line.{Line}
use Rattle.ae_reader.specs.Reader.{IsNext, IsPart}
use Rattle.ae_telling.specs.Messages.{bad_line_text, input_fault_text, memory_text, message}
use Rattle.ae_telling.specs.Telling.{IsTold, IsToldOrMemory, sink_use}
use Rattle.ae_script.specs.Lines.{AreDone, Did, Does, LinesEnd, Stand, lines_said}
use Rattle.ae_script.specs.Manner.{leads_on}
use Rattle.ae_script.specs.Step.{IsStoppedBy}
use Rattle.ae_script.specs.Uses.{Disks, Sites, source_use}
use Rattle.ae_script.specs.declared.manner.Manner.{Manner}
use Rattle.ae_script.proofs.Lines as lines
use Rattle.ae_script.proofs.Lines.{ends_after, ends_by, ends_silent, leads_more, length_more, more_so_far, none_so_far, runs_more}
use Rattle.ae_script.proofs.Logged.{follows}
use Rattle.ae_script.specs.Ends.{HasBadNext, HasReadTo, ScriptDone, ScriptEnds, bad_line, memory, read, source}
use Rattle.ae_script.proofs.Reading.{read_more, read_none}

module _ (d : Disks) (s : Sites) (manner : Manner) where
  -- The lines so far, and those of the input that they are.
  pub record SoFar (from to : Stand d s) (script : List ℕ) (at count : ℕ) (rest : List ℕ) (source_told told : Type 0) (old taken : List ℕ) : Type 0 where
    pub so : lines.SoFar d s manner from to told old taken
    pub counted : length so.done ≡ count
    pub read : source_told → HasReadTo script (lines_said d s so.done) at rest

  pub none_yet : (from : Stand d s) (script rest : List ℕ) (at : ℕ) (source_told told : Type 0) (old : List ℕ) → at ≡ 0 → rest ≡ script → SoFar from from script at 0 rest source_told told old old
  none_yet from script rest at source_told told old begun whole = record { so = none_so_far d s manner from told old; counted = refl; read = λ fed. read_none script rest at begun whole }

  module _ (from to : Stand d s) (script : List ℕ) (at count : ℕ) (rest : List ℕ) (source_told told : Type 0) (old taken : List ℕ) (so : SoFar from to script at count rest source_told told old taken) where
    -- ---- an end after them

    module _ (left : List ℕ) (taken_new : List ℕ) (source_rose now_rose rose : Type 0) (on : now_rose → rose) (result : Outcome) where
      abbrev pub Ended : Type 0
      Ended = ScriptDone d s manner from to.disk to.site (source_use source_told script left source_rose) (sink_use told old taken_new rose) result

      abbrev Ends : Outcome → List ℕ → Type 0
      Ends = ScriptEnds (length so.so.done) at rest (source_use source_told script left source_rose)

      ended : LinesEnd d s manner so.so.done (sink_use told old taken_new rose) Ends result → Ended
      ended ends = record {
        done = so.so.done;
        at = at;
        rest = rest;
        read = so.read;
        runs = so.so.runs;
        disk_is = ap (λ (p : Stand d s). p.disk) so.so.leads;
        site_is = ap (λ (p : Stand d s). p.site) so.so.leads;
        ends = ends;
        logs = λ seen shown. follows d s manner seen shown from so.so.done _ _ _ _ (ap (λ (p : Stand d s). p.disk) so.so.leads) so.so.runs ends;
      }

      ended_by : (meant : Outcome) (text : List ℕ) → Ends meant text → IsTold meant text (sink_use told taken taken_new now_rose) result → Ended
      ended_by meant text is last = ended (ends_after d s manner from to told old taken so.so Ends taken_new now_rose rose meant result text on is last)

      pub memory_behind : IsTold Memory (message Memory) (sink_use told taken taken_new now_rose) result → Ended
      memory_behind last = ended_by Memory memory_text memory last

      pub source_behind : source_rose → (source_told → IsPart rest left) → IsTold SourceFault (message SourceFault) (sink_use told taken taken_new now_rose) result → Ended
      source_behind risen part last = ended_by SourceFault input_fault_text (source risen part) last

      pub bad_behind : (source_told → HasBadNext at rest) → IsToldOrMemory (BadScript (count + 1)) (sink_use told taken taken_new now_rose) result → Ended
      bad_behind bad (inr last) = memory_behind last
      bad_behind bad (inl last) = ended_by (BadScript (count + 1)) (bad_line_text (count + 1)) (subst (λ (n : ℕ). Ends (BadScript (n + 1)) (bad_line_text (n + 1))) so.counted (bad_line bad)) last

    pub read_behind : (left : List ℕ) (source_rose rose : Type 0) → (source_told → rest ≡ []) → ScriptDone d s manner from to.disk to.site (source_use source_told script left source_rose) (sink_use told old taken rose) Done
    read_behind left source_rose rose none = ended left taken source_rose rose rose (λ risen. risen) Done (ends_silent d s manner from to told old taken so.so _ rose (read none))

    -- ---- one line more

    module _ (one : Did d s) (does : Does d s manner to one) (at_new : ℕ) (rest_new text taken_new : List ℕ) (next : source_told → IsNext at at_new rest rest_new text) (is : source_told → IsLine text one.line) where
      read_one : (ones : List (Did d s)) → ones ≡ so.so.done ++ one ∷ [] → source_told → HasReadTo script (lines_said d s ones) at_new rest_new
      read_one ones same fed =
          subst (λ (says : List Line). HasReadTo script says at_new rest_new) (sym (lines.lines_more d s so.so.done one) ∙ ap (lines_said d s) (sym same))
          (read_more script rest rest_new text at at_new (lines_said d s so.so.done) one.line (so.read fed) (next fed) (is fed))

      pub one_more : leads_on manner one.outcome ≡ true → (told → taken_new ≡ taken ++ one.text) → SoFar from one.to script at_new (count + 1) rest_new source_told told old taken_new
      one_more leads all = record {
        so = more_so_far d s manner from to told old taken so.so one does taken_new leads all;
        counted = length_more so.so.done one ∙ ap (λ (n : ℕ). n + 1) so.counted;
        read = read_one (so.so.done ++ one ∷ []) refl;
      }

      pub one_ends : (left : List ℕ) (source_rose now_rose rose : Type 0) (result : Outcome) → (now_rose → rose) → IsStoppedBy manner one.outcome one.text (sink_use told taken taken_new now_rose) result
          → ScriptDone d s manner from one.to.disk one.to.site (source_use source_told script left source_rose) (sink_use told old taken_new rose) result
      one_ends left source_rose now_rose rose result on stopped = record {
        done = so.so.done ++ one ∷ [];
        at = at_new;
        rest = rest_new;
        read = read_one (so.so.done ++ one ∷ []) refl;
        runs = runs_all;
        disk_is = ap (λ (p : Stand d s). p.disk) (leads_more d s manner from to told old taken so.so one does);
        site_is = ap (λ (p : Stand d s). p.site) (leads_more d s manner from to told old taken so.so one does);
        ends = ends_now;
        logs = λ seen shown. follows d s manner seen shown from (so.so.done ++ one ∷ []) _ _ _ _ (ap (λ (p : Stand d s). p.disk) (leads_more d s manner from to told old taken so.so one does)) runs_all ends_now;
      }
        where
          runs_all : AreDone d s manner from (so.so.done ++ one ∷ [])
          runs_all = runs_more d s manner from to told old taken so.so one does

          ends_now : LinesEnd d s manner (so.so.done ++ one ∷ []) (sink_use told old taken_new rose) (ScriptEnds (length (so.so.done ++ one ∷ [])) at_new rest_new (source_use source_told script left source_rose)) result
          ends_now = ends_by d s manner from to told old taken so.so one does _ taken_new now_rose rose result on stopped
