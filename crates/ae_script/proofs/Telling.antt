-- How what is told of a line is written in each manner.
use Rattle.std.specs.Prelude.{◌≡◌, ◌++◌, ℕ, Bool, true, false, List, [], Option, Some, None, IfSome, OnSome, if◌then◌else◌, ◌⊎◌}
use Rattle.std.proofs.Common.{inl, inr, refl, sym, ap, subst, ◌∙◌, append-nil}
use Rattle.ae_base.specs.declared.outcome.Outcome.{Outcome}
use Rattle.ae_base.specs.declared.outcome.Outcome.TheVariants.{Done, RunFailed, Refused, BadWords, BadScript, DiskFault, SiteFault, SinkFault, SourceFault, Damaged, Memory}
use Rattle.ae_telling.specs.Telling.{SinkUse, IsSaid, IsStopped, IsTold, unless_told}
use Rattle.ae_script.specs.Manner.{is_done, leads_on, line_text}
use Rattle.ae_script.specs.Step.{IsStoppedBy}
use Rattle.ae_script.specs.declared.manner.Manner.{Manner}
use Rattle.ae_script.specs.declared.manner.Manner.TheVariants.{Plan, Script, Generator}

module _ (meant : Outcome) (text : List ℕ) (sink : SinkUse) where
  -- in a script

  stopped_once : (o : Outcome) → IsStopped meant text sink o → IsStoppedBy Script meant text sink o
  stopped_once o stopped = record { how = stopped.how; said = stopped.said }

  stopped_some : (result : Option Outcome) → IfSome result (IsStopped meant text sink) → IfSome result (IsStoppedBy Script meant text sink)
  stopped_some None stopped = tt
  stopped_some (Some o) stopped = stopped_once o stopped

  pub stopped_script : (manner : Manner) (result : Option Outcome) → manner ≡ Script → IfSome result (IsStopped meant text sink) → IfSome result (IsStoppedBy manner meant (line_text manner meant text) sink)
  stopped_script manner result is stopped = subst (λ (m : Manner). IfSome result (IsStoppedBy m meant (line_text m meant text) sink)) (sym is) (stopped_some result stopped)

  -- of the generator's

  made_once : (o : Outcome) → is_done meant ≡ false → IsTold meant text sink o → IsStoppedBy Generator meant text sink o
  made_once o ends told = record { how = elim told.how [ inl is ↦ inl (ends, is) | inr untold ↦ inr untold ]; said = told.said }

  made_text : is_done meant ≡ false → line_text Generator meant text ≡ text
  made_text ends = ap (λ (b : Bool). if b then [] else text) ends

  made_some : (result : Option Outcome) → OnSome result (is_done meant ≡ false) → IfSome result (IsTold meant text sink) → IfSome result (IsStoppedBy Generator meant (line_text Generator meant text) sink)
  made_some None ends told = tt
  made_some (Some o) ends told = subst (λ (t : List ℕ). IsStoppedBy Generator meant t sink o) (sym (made_text ends)) (made_once o ends told)

  pub stopped_made : (manner : Manner) (result : Option Outcome) → manner ≡ Generator → OnSome result (is_done meant ≡ false) → IfSome result (IsTold meant text sink) → IfSome result (IsStoppedBy manner meant (line_text manner meant text) sink)
  stopped_made manner result is ends told = subst (λ (m : Manner). IfSome result (IsStoppedBy m meant (line_text m meant text) sink)) (sym is) (made_some result ends told)

-- ---- where the next line is done

pub whole_script : (manner : Manner) (meant : Outcome) (text old new : List ℕ) → manner ≡ Script → new ≡ old ++ text → new ≡ old ++ line_text manner meant text
whole_script manner meant text old new is all = all ∙ ap (λ (m : Manner). old ++ line_text m meant text) (sym is)

pub leads_script : (manner : Manner) (meant : Outcome) → manner ≡ Script → leads_on Script meant ≡ true → leads_on manner meant ≡ true
leads_script manner meant is goes = ap (λ (m : Manner). leads_on m meant) is ∙ goes

pub leads_made : (manner : Manner) (meant : Outcome) → manner ≡ Generator → is_done meant ≡ true → leads_on manner meant ≡ true
leads_made manner meant is done = ap (λ (m : Manner). leads_on m meant) is ∙ done

pub whole_made : (manner : Manner) (meant : Outcome) (text old new : List ℕ) → manner ≡ Generator → is_done meant ≡ true → new ≡ old → new ≡ old ++ line_text manner meant text
whole_made manner meant text old new is done same =
    same ∙ sym (append-nil old) ∙ ap (λ (t : List ℕ). old ++ t) (sym (ap (λ (m : Manner). line_text m meant text) is ∙ ap (λ (b : Bool). if b then [] else text) done))

-- ---- of an act

never_untold : (o : Outcome) → is_done (unless_told o) ≡ true → ⊥
never_untold Done is = absurd (let both : false ≡ true = is in cc)
never_untold RunFailed is = absurd (let both : false ≡ true = is in cc)
never_untold (Refused refusal) is = absurd (let both : false ≡ true = is in cc)
never_untold (BadWords place) is = absurd (let both : false ≡ true = is in cc)
never_untold (BadScript line) is = absurd (let both : false ≡ true = is in cc)
never_untold DiskFault is = absurd (let both : false ≡ true = is in cc)
never_untold SiteFault is = absurd (let both : false ≡ true = is in cc)
never_untold SinkFault is = absurd (let both : false ≡ true = is in cc)
never_untold SourceFault is = absurd (let both : false ≡ true = is in cc)
never_untold (Damaged file) is = absurd (let both : false ≡ true = is in cc)
never_untold Memory is = absurd (let both : false ≡ true = is in cc)

pub done_is : (o : Outcome) → is_done o ≡ true → o ≡ Done
done_is Done is = refl
done_is RunFailed is = absurd (let both : false ≡ true = is in cc)
done_is (Refused refusal) is = absurd (let both : false ≡ true = is in cc)
done_is (BadWords place) is = absurd (let both : false ≡ true = is in cc)
done_is (BadScript line) is = absurd (let both : false ≡ true = is in cc)
done_is DiskFault is = absurd (let both : false ≡ true = is in cc)
done_is SiteFault is = absurd (let both : false ≡ true = is in cc)
done_is SinkFault is = absurd (let both : false ≡ true = is in cc)
done_is SourceFault is = absurd (let both : false ≡ true = is in cc)
done_is (Damaged file) is = absurd (let both : false ≡ true = is in cc)
done_is Memory is = absurd (let both : false ≡ true = is in cc)

pub meant_done : (meant result : Outcome) (rose : Type 0) → is_done result ≡ true → (result ≡ meant) ⊎ ((result ≡ unless_told meant) × rose) → meant ≡ Done
meant_done meant result rose done (inl same) = sym same ∙ done_is result done
meant_done meant result rose done (inr untold) = absurd (never_untold meant (sym (ap is_done untold.0) ∙ done))

module _ (meant result : Outcome) (text : List ℕ) (sink : SinkUse) (told : IsTold meant text sink result) where
  pub act_goes : is_done result ≡ true → is_done meant ≡ true
  act_goes done = ap is_done (meant_done meant result sink.rose done told.how)

  pub act_whole : is_done result ≡ true → sink.told → sink.after ≡ sink.before ++ text
  act_whole done tells = subst (λ (o : Outcome). IsSaid text o sink.before sink.after sink.rose) (done_is result done) (told.said tells)

  pub act_ends : is_done result ≡ false → IsStoppedBy Plan meant text sink result
  act_ends ends = record { how = elim told.how [ inl is ↦ inl (sym (ap is_done is) ∙ ends, is) | inr untold ↦ inr untold ]; said = told.said }

pub leads_act : (manner : Manner) (meant : Outcome) → manner ≡ Plan → is_done meant ≡ true → leads_on manner meant ≡ true
leads_act manner meant is done = ap (λ (m : Manner). leads_on m meant) is ∙ done

pub whole_act : (manner : Manner) (meant : Outcome) (text old new : List ℕ) → manner ≡ Plan → new ≡ old ++ text → new ≡ old ++ line_text manner meant text
whole_act manner meant text old new is all = all ∙ ap (λ (m : Manner). old ++ line_text m meant text) (sym is)

act_some : (meant : Outcome) (text : List ℕ) (sink : SinkUse) (manner : Manner) (o : Outcome) → manner ≡ Plan → IsStoppedBy Plan meant text sink o → IsStoppedBy manner meant (line_text manner meant text) sink o
act_some meant text sink manner o is stopped = subst (λ (m : Manner). IsStoppedBy m meant (line_text m meant text) sink o) (sym is) stopped

pub stopped_act : (meant : Outcome) (text : List ℕ) (sink : SinkUse) (manner : Manner) (result : Option Outcome) → manner ≡ Plan → IfSome result (IsStoppedBy Plan meant text sink) → IfSome result (IsStoppedBy manner meant (line_text manner meant text) sink)
stopped_act meant text sink manner None is stopped = tt
stopped_act meant text sink manner (Some o) is stopped = act_some meant text sink manner o is stopped
