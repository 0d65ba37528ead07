-- The causes of faults.
use Rattle.std.specs.Prelude.{◌≡◌, ◌⊎◌, ◌≤◌, ◌++◌, ℕ, Bool, List, [], ◌∷◌, Option}
use Rattle.std.proofs.Common.{inl, inr, refl, sym, ap, subst, ◌∙◌, arith}
use Rattle.ae_outside.proofs.Rising.{risen_later}
use Rattle.ae_base.specs.declared.outcome.Outcome.{Outcome}
use Rattle.ae_base.specs.declared.outcome.Outcome.TheVariants.{Done, RunFailed, Refused, BadWords, BadScript, DiskFault, SiteFault, SinkFault, SourceFault, Damaged, Memory}
use Rattle.ae_outside.specs.Causes.{HasRisen}
use Rattle.ae_outside.specs.declared.dir.Dir.{Dir}
use Rattle.ae_lines.specs.declared.line.Line.{Line}
use Rattle.ae_lines.specs.declared.line.Line.TheVariants.{Nothing, As, At, Do, Put, Fill, Remove}
use Rattle.ae_exec.specs.Endings as performed
use Rattle.ae_telling.specs.Messages.{message}
use Rattle.ae_telling.specs.Telling.{IsTold, IsToldOrMemory, SinkUse, unless_told}
use Rattle.ae_script.specs.Causes.{IsCaused}
use Rattle.ae_script.specs.Lines.{AreDone, Did, Does, DoesLine, EditDone, LinesEnd, Stand, by_end, by_line, disk_from, edit_fault, edit_memory, edited, last_stand, site_from}
use Rattle.ae_script.specs.Uses.{Disks, Sites, SiteUse}
use Rattle.ae_script.specs.declared.manner.Manner.{Manner}

module _ (d s i o d' s' i' o' : Type 0) (d_on : d → d') (s_on : s → s') (i_on : i → i') (o_on : o → o') where
  pub caused_on : (r : Outcome) → IsCaused d s i o r → IsCaused d' s' i' o' r
  caused_on DiskFault is = d_on is
  caused_on SiteFault is = s_on is
  caused_on SourceFault is = i_on is
  caused_on SinkFault is = o_on is
  caused_on Done is = tt
  caused_on RunFailed is = tt
  caused_on (Refused refusal) is = tt
  caused_on (BadWords place) is = tt
  caused_on (BadScript line) is = tt
  caused_on (Damaged file) is = tt
  caused_on Memory is = tt

module _ (d s i o : Type 0) where
  caused_untold : (r : Outcome) → o → IsCaused d s i o r → IsCaused d s i o (unless_told r)
  caused_untold DiskFault rose is = is
  caused_untold SiteFault rose is = is
  caused_untold SourceFault rose is = is
  caused_untold SinkFault rose is = rose
  caused_untold Done rose is = rose
  caused_untold RunFailed rose is = rose
  caused_untold (Refused refusal) rose is = rose
  caused_untold (BadWords place) rose is = rose
  caused_untold (BadScript line) rose is = rose
  caused_untold (Damaged file) rose is = tt
  caused_untold Memory rose is = tt

  pub caused_told : (meant result : Outcome) → IsCaused d s i o meant → (result ≡ meant) ⊎ ((result ≡ unless_told meant) × o) → IsCaused d s i o result
  caused_told meant result is how = elim how [
    | inl same ↦ subst (λ (r : Outcome). IsCaused d s i o r) (sym same) is
    | inr untold ↦ subst (λ (r : Outcome). IsCaused d s i o r) (sym untold.0) (caused_untold meant untold.1 is)
  ]

  pub caused_last : (meant result : Outcome) (text : List ℕ) (sink : SinkUse) → (sink.rose → o) → IsCaused d s i o meant → IsTold meant text sink result → IsCaused d s i o result
  caused_last meant result text sink on is last = caused_told meant result is (elim last.how [ inl same ↦ inl same | inr untold ↦ inr (untold.0, on untold.1) ])

  pub caused_either : (meant result : Outcome) (sink : SinkUse) → (sink.rose → o) → IsCaused d s i o meant → IsToldOrMemory meant sink result → IsCaused d s i o result
  caused_either meant result sink on is (inl last) = caused_last meant result (message meant) sink on is last
  caused_either meant result sink on is (inr last) = caused_last Memory result (message Memory) sink on tt last

-- a command that is performed
pub caused_command : {makes : Bool} (d s : Type 0) (r : Outcome) → performed.MayEnd makes d s r → IsCaused d s ⊥ ⊥ r
caused_command d s _ (performed.done is) = tt
caused_command d s _ (performed.run_failed is) = tt
caused_command d s _ (performed.refused refusal is) = tt
caused_command d s _ (performed.damaged name is) = tt
caused_command d s _ (performed.disk_fault rose) = rose
caused_command d s _ (performed.site_fault rose) = rose
caused_command d s _ performed.memory = tt

-- an edit, where the disk isn't called
caused_edit : (dir : Dir) (path : List ℕ) (bytes : Option (List ℕ)) (site : SiteUse) (d : Type 0) (r : Outcome) (text : List ℕ) → EditDone dir path bytes site r text → IsCaused d site.rose ⊥ ⊥ r
caused_edit dir path bytes site d _ _ (edited is) = tt
caused_edit dir path bytes site d _ _ (edit_fault rose only) = rose
caused_edit dir path bytes site d _ _ (edit_memory same) = tt

-- ---- lines

module _ (d : Disks) (s : Sites) (manner : Manner) where
  -- each has its cause in itself
  caused_pass : (disk site : Type 0) (r : Outcome) → r ≡ Done → IsCaused disk site ⊥ ⊥ r
  caused_pass disk site r is = subst (λ (o : Outcome). IsCaused disk site ⊥ ⊥ o) (sym is) tt

  abbrev Caused : Stand d s → Did d s → Type 0
  Caused from one = IsCaused (disk_from d s from one.to).rose (site_from d s from one.to).rose ⊥ ⊥ one.outcome

  caused_line : (line : Line) (from : Stand d s) (one : Did d s) → DoesLine d s manner line from one → Caused from one
  caused_line Nothing from one does = caused_pass _ _ one.outcome does.outcome
  caused_line (As user) from one does = caused_pass _ _ one.outcome does.outcome
  caused_line (At moment) from one does = caused_pass _ _ one.outcome does.outcome
  caused_line (Do command) from one does = caused_command _ _ one.outcome does.is.ends
  caused_line (Put dir path text) from one does = caused_edit dir path _ _ _ one.outcome one.text does.is
  caused_line (Fill dir path count byte) from one does = caused_edit dir path _ _ _ one.outcome one.text does.is
  caused_line (Remove dir path) from one does = caused_edit dir path _ _ _ one.outcome one.text does.is

  pub caused_did : (from : Stand d s) (one : Did d s) → Does d s manner from one → Caused from one
  caused_did from one does = caused_line one.line from one does.does

  -- the counts over lines
  pub disk_later : (from : Stand d s) (done : List (Did d s)) → AreDone d s manner from done → d.faults from.disk ≤ d.faults (last_stand d s from done).disk
  disk_later from [] are = omega arith
  disk_later from (one ∷ more) are = let first = are.0.disk_later in let rest = disk_later one.to more are.1 in omega (arith, first, rest)

  pub site_later : (from : Stand d s) (done : List (Did d s)) → AreDone d s manner from done → s.faults from.site ≤ s.faults (last_stand d s from done).site
  site_later from [] are = omega arith
  site_later from (one ∷ more) are = let first = are.0.site_later in let rest = site_later one.to more are.1 in omega (arith, first, rest)

  -- a line among them has its cause in them all
  caused_among : (from : Stand d s) (before : List (Did d s)) (last : Did d s) → AreDone d s manner from (before ++ last ∷ [])
      → IsCaused (HasRisen (d.faults from.disk) (d.faults last.to.disk)) (HasRisen (s.faults from.site) (s.faults last.to.site)) ⊥ ⊥ last.outcome
  caused_among from [] last are = caused_did from last are.0
  caused_among from (one ∷ before) last are =
      caused_on _ _ ⊥ ⊥ _ _ ⊥ ⊥ (risen_later (d.faults from.disk) (d.faults one.to.disk) (d.faults last.to.disk) are.0.disk_later) (risen_later (s.faults from.site) (s.faults one.to.site) (s.faults last.to.site) are.0.site_later)
      (λ none. none) (λ none. none) last.outcome (caused_among one.to before last are.1)

  last_is : (from : Stand d s) (before : List (Did d s)) (last : Did d s) → last_stand d s from (before ++ last ∷ []) ≡ last.to
  last_is from [] last = refl
  last_is from (one ∷ before) last = last_is one.to before last

  pub caused_by_last : (from : Stand d s) (done before : List (Did d s)) (last : Did d s) → done ≡ before ++ last ∷ [] → AreDone d s manner from done
      → IsCaused (disk_from d s from (last_stand d s from done)).rose (site_from d s from (last_stand d s from done)).rose ⊥ ⊥ last.outcome
  caused_by_last from done before last is are =
      subst (λ (to : Stand d s). IsCaused (HasRisen (d.faults from.disk) (d.faults to.disk)) (HasRisen (s.faults from.site) (s.faults to.site)) ⊥ ⊥ last.outcome) (sym there)
      (caused_among from before last (subst (λ (ones : List (Did d s)). AreDone d s manner from ones) is are))
    where
      there : last_stand d s from done ≡ last.to
      there = ap (last_stand d s from) is ∙ last_is from before last

  pub caused_end : (from : Stand d s) (done : List (Did d s)) (sink : SinkUse) (After : Outcome → List ℕ → Type 0) (input_rose : Type 0) (result : Outcome) → AreDone d s manner from done → LinesEnd d s manner done sink After result
      → ((o : Outcome) (text : List ℕ) → After o text → IsCaused (disk_from d s from (last_stand d s from done)).rose (site_from d s from (last_stand d s from done)).rose input_rose sink.rose o)
      → IsCaused (disk_from d s from (last_stand d s from done)).rose (site_from d s from (last_stand d s from done)).rose input_rose sink.rose result
  caused_end from done sink After input_rose result are (by_end meant text lead after told) causes = caused_told _ _ input_rose sink.rose meant result (causes meant text after) told.how
  caused_end from done sink After input_rose result are (by_line before last is lead ends) causes =
      caused_told _ _ input_rose sink.rose last.outcome result
      (caused_on _ _ ⊥ ⊥ _ _ input_rose sink.rose (λ rose. rose) (λ rose. rose) (λ none. absurd none) (λ none. absurd none) last.outcome (caused_by_last from done before last is are))
      (elim ends.how [ inl ended ↦ inl ended.1 | inr untold ↦ inr untold ])
