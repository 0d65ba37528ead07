-- How sending and planning end, from how their steps end.
use Rattle.std.specs.Prelude.{◌≡◌, ℕ, List, [], ◌∷◌, map, Option, Some, None, Result, Ok, Err, IfOk, IfErr}
use Rattle.std.specs.Option.{option_and_then, option_map_or}
use Rattle.std.specs.Global.{Vec}
use Rattle.std.proofs.Common.{refl, sym, ap, subst, ◌∙◌}
use Rattle.ae_base.specs.declared.outcome.Outcome.{Outcome}
use Rattle.ae_base.specs.declared.outcome.Outcome.TheVariants.{Memory}
use Rattle.ae_base.specs.declared.refusal.Refusal.{Refusal}
use Rattle.ae_base.specs.declared.want.Want.{Want}
use Rattle.ae_base.specs.declared.want.Want.TheVariants as want
use Rattle.ae_outside.specs.Image.{Image}
use Rattle.ae_vault.specs.Vault.{effective}
use Rattle.ae_types.specs.declared.version.VersionRef.{VersionRef}
use Rattle.ae_types.specs.Found.{change_at}
use Rattle.ae_types.specs.Observation.{Observation}
use Rattle.ae_exec.specs.Bytes.{bytes_at}
use Rattle.ae_exec.specs.Endings.{EndsAs, IsDamagedAt}
use Rattle.ae_exec.specs.Endings as ending
use Rattle.ae_exec.specs.Reading.{AreKept, IsLostAmong}
use Rattle.ae_exec.specs.Shown.{Shown}
use Rattle.ae_exec.proofs.Endings.{ends_for}
use Rattle.ae_exec.proofs.Upward.{SameBytes, are_kept, lost_among}
use Rattle.ae_bundle.specs.Bundled.{Bundled}
use Rattle.ae_bundle.specs.declared.bundle.Bundle.{Bundle}
use Rattle.ae_lines.specs.declared.act.Act.{Act}
use Rattle.ae_dist.specs.declared.rows.Row.{Row}
use Rattle.ae_dist.specs.declared.sending.Head.{Head}
use Rattle.ae_dist.specs.Answers.{Answers, DamagedSending, IsOpened, IsRefusedAt, Plans, RefusesPlan, RefusesSending, Sends, Stops, Writes, version}
use Rattle.ae_dist.specs.Plan.{refuses_numbers}
use Rattle.ae_dist.specs.Sending.{or_refuses, refuses_change, refuses_project, refuses_sending, sent_file, sent_rows, versions_of}
use Rattle.ae_dist.specs.Steps.{AreReadFrom, Finds, HasHead, IsFound, IsPlanned, IsSomePlan, IsSendable, IsTaken}

-- ---- the project

-- the project that was loaded is taken, or isn't
pub taken_from : (wanted : Want) (told : Type 0) (image : Image) (name : Option (List ℕ)) (loaded : Option Observation) (rose : Type 0) (result : Result Observation Outcome) → (told → Shown wanted image loaded) → IsTaken name loaded result
    → Answers (λ (o : Observation). told → IsOpened wanted image name o) (λ (refusal : Refusal). told → IsRefusedAt wanted image name refusal) (λ (damaged : List ℕ). told → IsDamagedAt wanted image damaged) rose result
taken_from wanted told image name loaded rose (Ok o) shown is = λ t. record { shown = subst (Shown wanted image) is.0 (shown t); named = is.1 }
taken_from wanted told image name loaded rose (Err why) shown is =
    ends_for why is (λ none. none) (λ refusal refused t. record { stands = loaded; shown = shown t; refused = refused }) (λ damaged none. absurd none) (λ none. absurd none) (λ none. none)

-- what refuses the project refuses all that is asked of it
refused_first : (o : Option Refusal) (next : Option Refusal) (r : Refusal) → o ≡ Some r → or_refuses o next ≡ Some r
refused_first o next r is = ap (λ (x : Option Refusal). or_refuses x next) is

-- and where it doesn't, what refuses the rest
refused_then : (o : Option Refusal) (next : Option Refusal) → o ≡ None → or_refuses o next ≡ next
refused_then o next is = ap (λ (x : Option Refusal). or_refuses x next) is

-- ---- planning

pub planned : (told : Type 0) (image : Image) (name : Option (List ℕ)) (o : Observation) (bundle : Bundle) (rose : Type 0) (result : Result (List Act) Outcome) → (told → IsOpened want.Nothing image name o) → IsPlanned o bundle result
    → Answers (λ (acts : List Act). told → Plans image name bundle acts) (λ (refusal : Refusal). told → RefusesPlan image name refusal) (λ (damaged : List ℕ). told → IsDamagedAt want.Nothing image damaged) rose result
planned told image name o bundle rose (Ok acts) opened is = λ t.
    let p = opened t in
    record { o = o; shown = p.shown; is = record { number = is.0; named = p.named; free = is.1; is = is.2 } }
planned told image name o bundle rose (Err why) opened is =
    ends_for why is (λ none. none)
    (λ refusal refused t. record { stands = Some o; shown = (opened t).shown; refused = refused_then (refuses_project name (Some o)) (refuses_numbers o) (opened t).named ∙ refused })
    (λ damaged none. absurd none) (λ none. absurd none) (λ none. none)

-- it is the plan of what was loaded
pub some_plan : (o : Observation) (bundle : Bundle) (result : Result (List Act) Outcome) → IsPlanned o bundle result → IfOk result (IsSomePlan bundle)
some_plan o bundle (Ok acts) is = record { o = o; number = is.0; free = is.1; is = is.2 }
some_plan o bundle (Err why) is = tt

pub plan_refused : (image : Image) (name : Option (List ℕ)) (refusal : Refusal) → IsRefusedAt want.Nothing image name refusal → RefusesPlan image name refusal
plan_refused image name refusal is = record { stands = is.stands; shown = is.shown; refused = refused_first (refuses_project name is.stands) (option_and_then refuses_numbers is.stands) refusal is.refused }

-- ---- sending

pub sending_refused : (image : Image) (name : Option (List ℕ)) (number : ℕ) (refusal : Refusal) → IsRefusedAt (want.One number) image name refusal → RefusesSending image name number refusal
sending_refused image name number refusal is = record {
  stands = is.stands;
  shown = is.shown;
  refused = refused_first (refuses_project name is.stands) (option_and_then (λ (o : Observation). refuses_change o (change_at o number)) is.stands) refusal is.refused;
}

-- the change of a project that stands, where it can be sent, or why it isn't
pub found_as : (told : Type 0) (image : Image) (name : Option (List ℕ)) (number : ℕ) (o : Observation) (rose : Type 0) (result : Result (Head × Vec Row) Outcome) → (told → IsOpened (want.One number) image name o) → IsSendable o number result
    → Finds told image name number rose result
found_as told image name number o rose (Ok found) opened is = λ t. record { o = o; opened = opened t; ready = is }
found_as told image name number o rose (Err why) opened is =
    ends_for why is (λ none. none)
    (λ refusal refused t. record { stands = Some o; shown = (opened t).shown; refused = refused_then (refuses_project name (Some o)) (refuses_change o (change_at o number)) (opened t).named ∙ refused })
    (λ damaged none. absurd none) (λ none. absurd none) (λ none. none)

-- nothing refuses the change of a project that was found
free_of : (image : Image) (name : Option (List ℕ)) (number : ℕ) (found : Head × Vec Row) (f : IsFound image name number found) → refuses_sending name number (Some f.o) ≡ None
free_of image name number found f =
    refused_then (refuses_project name (Some f.o)) (refuses_change f.o (change_at f.o number)) f.opened.named ∙ ap (refuses_change f.o) f.ready.there ∙ f.ready.free

-- files that have the same bytes of each version have the same of each row
file_same : (a b : Option Image) → SameBytes a b → (row : Row) → sent_file a row ≡ sent_file b row
file_same a b same row = λ i. record { path = row.path; action = row.action; usage = row.usage; bytes = go row.version i }
  where
    go : (v : Option VersionRef) → option_map_or (bytes_at a) v [] ≡ option_map_or (bytes_at b) v []
    go (Some v) = same v
    go None = refl

pub files_same : (a b : Option Image) → SameBytes a b → (rows : List Row) → map (sent_file a) rows ≡ map (sent_file b) rows
files_same a b same [] = refl
files_same a b same (row ∷ rows) = λ i. file_same a b same row i ∷ files_same a b same rows i

-- it is sent, or a version of it is lost
pub sent_as : (told : Type 0) (before after : Image) (name : Option (List ℕ)) (number : ℕ) (found : Head × Vec Row) (rose_then rose : Type 0) (result : Result Bundle Outcome)
    → (told → SameBytes (effective after) (effective before)) → (told → IsFound before name number found) → IfOk result (HasHead found.0) → IfOk result (λ bundle. told → AreReadFrom (effective after) found.1.items bundle.files)
    → IfErr result (Stops (λ (damaged : List ℕ). told → IsLostAmong after (versions_of found.1.items) damaged) rose_then) → (rose_then → rose)
    → Answers (λ (bundle : Bundle). told → Sends before name number bundle) (λ (refusal : Refusal). told → RefusesSending before name number refusal) (λ (damaged : List ℕ). told → DamagedSending before name number damaged) rose result
sent_as told before after name number found rose_then rose (Ok bundle) same was head read stops on = λ t.
    let f = was t in
    let got = read t in
    let rows = f.ready.rows in
    record {
      o = f.o;
      change = f.ready.change;
      shown = f.opened.shown;
      there = f.ready.there;
      free = free_of before name number found f;
      is = λ i. record {
        brief = (head.brief ∙ f.ready.head.brief) i;
        description = (head.description ∙ f.ready.head.description) i;
        cause = (head.cause ∙ f.ready.head.cause) i;
        files = (got.are ∙ ap (map (sent_file (effective after))) rows ∙ files_same (effective after) (effective before) (same t) (sent_rows f.o f.ready.change)) i;
      };
      kept = are_kept (effective after) (effective before) (same t) (versions_of (sent_rows f.o f.ready.change)) (subst (λ (r : List Row). AreKept (effective after) (versions_of r)) rows got.kept);
    }
sent_as told before after name number found rose_then rose (Err why) same was head read stops on =
    ends_for why stops (λ none. none) (λ refusal none. absurd none)
    (λ damaged lost t.
    let f = was t in
    let there : IsLostAmong before (versions_of found.1.items) damaged = lost_among after before (versions_of found.1.items) damaged (same t) (lost t) in
    version f.o f.ready.change f.opened.shown f.ready.there (free_of before name number found f) (subst (λ (r : List Row). IsLostAmong before (versions_of r) damaged) f.ready.rows there))
    on (λ none. none)

-- its text is written, or memory runs out
pub written_as : (told : Type 0) (image : Image) (name : Option (List ℕ)) (number : ℕ) (rose : Type 0) (bundle : Bundle) (result : Result (List ℕ) Outcome) → (told → Sends image name number bundle) → IfOk result (λ text. Bundled text bundle)
    → IfErr result (λ why. why ≡ Memory)
    → Answers (λ (text : List ℕ). told → Writes image name number text) (λ (refusal : Refusal). told → RefusesSending image name number refusal) (λ (damaged : List ℕ). told → DamagedSending image name number damaged) rose result
written_as told image name number rose bundle (Ok text) sends is fails = λ t. record { bundle = bundle; sent = sends t; is = is }
written_as told image name number rose bundle (Err why) sends is fails =
    subst (λ (o : Outcome). EndsAs ⊥ ⊥ (λ (refusal : Refusal). told → RefusesSending image name number refusal) (λ (damaged : List ℕ). told → DamagedSending image name number damaged) rose ⊥ o) (sym fails) ending.memory
