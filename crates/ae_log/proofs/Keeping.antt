-- Each event keeps the rules.
use Rattle.std.proofs.Common.{◌≡◌, ℕ, refl, Option, Some, None, true}
use Rattle.std.specs.Prelude.{IsSomeAnd}
use Rattle.ae_types.specs.declared.change.Change.{Change}
use Rattle.ae_types.specs.Observation.{Observation}
use Rattle.ae_types.specs.Found.{change_at, change_in}
use Rattle.ae_types.specs.Sound.{Sound, IsMoment}
use Rattle.ae_log.specs.declared.event.EventKind.{EventKind}
use Rattle.ae_log.specs.declared.event.EventKind.TheVariants as on
use Rattle.ae_log.specs.After.{after}
use Rattle.ae_log.specs.Applies.{AppliesTo, AppliesAlone, AppliesBy, comes_in, Suits, Fits, Names, NamesOne, NamesNone}
use Rattle.ae_log.specs.Laws.{KeepsRules, MayBeApplied}
use Rattle.ae_log.specs.Maker.{Maker, event_by, maker_of}
use Rattle.ae_log.proofs.Steps.{of_change}
use Rattle.ae_log.proofs.ProjectSteps.{out-of-phase}
use Rattle.ae_log.proofs.ChangeSteps.{awaits-is, developed-is, awaits_review-is, reviewed-is, awaits_integration-is, integrated-is}
use Rattle.ae_log.proofs.SoundProject.{sound-attributes, sound-add, sound-drop}
use Rattle.ae_log.proofs.SoundMaking.{sound-new, sound-undo, sound-settings}
use Rattle.ae_log.proofs.SoundQuiet.{sound-begin, sound-begin_undo, sound-put, sound-out, sound-run, sound-review_begin, sound-review_begin_undo, sound-review_pass, sound-review_pass_undo}
use Rattle.ae_log.proofs.SoundReturn.{ended, ended-fail, sound-end_undo, sound-fail, sound-integrate_fail}
use Rattle.ae_log.proofs.SoundIntegration.{sound-integrate_begin, sound-integrate_begin_undo}
use Rattle.ae_log.proofs.SoundEnd.{sound-end}
use Rattle.ae_log.proofs.SoundPass.{sound-pass}

-- an event of a change that is there
with-found : (o : Observation) (maker : Maker) (c : ℕ) (kind : EventKind) → IsSomeAnd (change_at o c) (λ (change : Change). (comes_in kind change.phase ≡ true) × Suits o change kind)
    → ((x : Change) → change_in o.changes c ≡ Some x → comes_in kind x.phase ≡ true → Suits o x kind → Sound (after o (of_change maker c kind))) → Sound (after o (of_change maker c kind))
with-found o maker c kind m this = go (change_at o c) refl m
  where
    go : (x : Option Change) → change_at o c ≡ x → IsSomeAnd x (λ (change : Change). (comes_in kind change.phase ≡ true) × Suits o change kind) → Sound (after o (of_change maker c kind))
    go (Some x) e n = this x e n.0 n.1
    go None e n = absurd n

keeps-by : (o : Observation) (maker : Maker) (c : Option ℕ) (kind : EventKind) → Sound o → IsMoment maker.when → AppliesBy o c kind → Sound (after o (event_by maker c kind))
keeps-by o maker None (on.Attributes b) s t m = sound-attributes o s b
keeps-by o maker None (on.RoleAdd role user) s t m = sound-add o s role user m
keeps-by o maker None (on.RoleDrop role user) s t m = sound-drop o s role user m
keeps-by o maker (Some c) (on.New b) s t m = sound-new o s maker c b t m.1
keeps-by o maker (Some c) on.NewUndo s t m = with-found o maker c on.NewUndo m (λ x e p _. sound-undo o s maker c x e p)
keeps-by o maker (Some c) (on.ChangeAttributes b) s t m = with-found o maker c (on.ChangeAttributes b) m (λ x e p _. sound-settings o s maker c b x e)
keeps-by o maker (Some c) on.Begin s t m = with-found o maker c on.Begin m (λ x e p _. sound-begin o s maker c t x e (awaits-is x.phase p))
keeps-by o maker (Some c) on.BeginUndo s t m = with-found o maker c on.BeginUndo m (λ x e p _. sound-begin_undo o s maker c t x e (developed-is x.phase p))
keeps-by o maker (Some c) (on.File path action usage origin) s t m = with-found o maker c (on.File path action usage origin) m (λ x e p few. sound-put o s maker c t x e path action usage origin (developed-is x.phase p) few)
keeps-by o maker (Some c) (on.Unfile path) s t m = with-found o maker c (on.Unfile path) m (λ x e p _. sound-out o s maker c t x e path (developed-is x.phase p))
keeps-by o maker (Some c) (on.Run r) s t m = with-found o maker c (on.Run r) m (λ x e p _. sound-run o s maker c t x e r)
keeps-by o maker (Some c) (on.End tree to places) s t m = with-found o maker c (on.End tree to places) m (λ x e p may. sound-end o s maker c t tree to places x e (developed-is x.phase p) may)
keeps-by o maker (Some c) on.EndUndo s t m = with-found o maker c on.EndUndo m (λ x e p _. sound-end_undo o s maker c t x e (ended x.phase p))
keeps-by o maker (Some c) on.ReviewBegin s t m = with-found o maker c on.ReviewBegin m (λ x e p _. sound-review_begin o s maker c t x e (awaits_review-is x.phase p))
keeps-by o maker (Some c) on.ReviewBeginUndo s t m = with-found o maker c on.ReviewBeginUndo m (λ x e p _. sound-review_begin_undo o s maker c t x e (reviewed-is x.phase p))
keeps-by o maker (Some c) on.Pass s t m = with-found o maker c on.Pass m (λ x e p _. sound-review_pass o s maker c t x e (reviewed-is x.phase p))
keeps-by o maker (Some c) on.PassUndo s t m = with-found o maker c on.PassUndo m (λ x e p _. sound-review_pass_undo o s maker c t x e (awaits_integration-is x.phase p))
keeps-by o maker (Some c) on.Fail s t m = with-found o maker c on.Fail m (λ x e p _. sound-fail o s maker c t x e (ended-fail x.phase p))
keeps-by o maker (Some c) on.IBegin s t m = with-found o maker c on.IBegin m (λ x e p may. sound-integrate_begin o s maker c t x e (awaits_integration-is x.phase p) may)
keeps-by o maker (Some c) on.IBeginUndo s t m = with-found o maker c on.IBeginUndo m (λ x e p _. sound-integrate_begin_undo o s maker c t x e (integrated-is x.phase p))
keeps-by o maker (Some c) on.IPass s t m = with-found o maker c on.IPass m (λ x e p _. sound-pass o s maker c t x e (integrated-is x.phase p))
keeps-by o maker (Some c) on.IFail s t m = with-found o maker c on.IFail m (λ x e p _. sound-integrate_fail o s maker c t x e (integrated-is x.phase p))
keeps-by o maker (Some c) (on.Project name b) s t m = absurd (out-of-phase o (on.Project name b) (change_at o c) (λ _. refl) m)
keeps-by o maker (Some c) (on.Attributes b) s t m = absurd (out-of-phase o (on.Attributes b) (change_at o c) (λ _. refl) m)
keeps-by o maker (Some c) (on.RoleAdd role user) s t m = absurd (out-of-phase o (on.RoleAdd role user) (change_at o c) (λ _. refl) m)
keeps-by o maker (Some c) (on.RoleDrop role user) s t m = absurd (out-of-phase o (on.RoleDrop role user) (change_at o c) (λ _. refl) m)
keeps-by o maker None kind s t m = absurd m

pub keeps : KeepsRules
keeps o event s m = keeps-by o (maker_of event) event.change event.what s m.moment m.comes

-- ---- an event that may come may be applied

weaker : (o : Observation) (kind : EventKind) (x : Option Change) → ((change : Change) → Suits o change kind → Fits change kind)
    → IsSomeAnd x (λ (change : Change). (comes_in kind change.phase ≡ true) × Suits o change kind) → IsSomeAnd x (λ (change : Change). (comes_in kind change.phase ≡ true) × Fits change kind)
weaker o kind (Some x) fits h = (h.0, fits x h.1)
weaker o kind None fits h = h

names-one : (o : Observation) (c : ℕ) (kind : EventKind) → AppliesTo o c kind → NamesOne o c kind
names-one o c (on.New b) m = m.1
names-one o c (on.End tree to places) m = weaker o (on.End tree to places) (change_at o c) (λ change may. may.fits) m
names-one o c kind m = weaker o kind (change_at o c) (λ change _. tt) m

names-none : (o : Observation) (kind : EventKind) → AppliesAlone o kind → NamesNone kind
names-none o (on.Attributes b) m = tt
names-none o (on.RoleAdd role user) m = tt
names-none o (on.RoleDrop role user) m = tt
names-none o kind m = absurd m

names-by : (o : Observation) (c : Option ℕ) (kind : EventKind) → AppliesBy o c kind → Names o c kind
names-by o (Some c) kind m = names-one o c kind m
names-by o None kind m = names-none o kind m

pub may-be-applied : MayBeApplied
may-be-applied o event s m = record { names = names-by o event.change event.what m.comes; sound = keeps o event s m }
