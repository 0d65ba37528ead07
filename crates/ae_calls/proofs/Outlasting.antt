-- What the first lines of a script came to is in each image from then on.
use Rattle.std.proofs.Common.{◌≡◌, inl, inr, ℕ, ◌≤◌, refl, sym, ◌∙◌, ap, subst, List, [], ◌∷◌, ◌++◌, arith}
use Rattle.std.proofs.lemmas.Bool.{cases_lt}
use Rattle.ae_exec.specs.Holding.{HoldsLegal}
use Rattle.ae_exec.proofs.Shown.{in-list, list-in}
use Rattle.ae_log.specs.Log.{Log, followed}
use Rattle.ae_log.specs.declared.event.Event.{Event}
use Rattle.ae_outside.specs.Image.{Image}
use Rattle.ae_outside.specs.State.{Continues}
use Rattle.ae_outside.specs.Time.{continues_refl, continues_then}
use Rattle.ae_script.specs.Follows.{IsLogged}
use Rattle.ae_script.specs.Lines.{AreDone, Did, Stand, last_stand}
use Rattle.ae_script.specs.Uses.{Disks, Sites, Streams}
use Rattle.ae_script.specs.declared.manner.Manner.{Manner}
use Rattle.ae_script.proofs.Logged.{follows_all, follows_one}
use Rattle.ae_calls.specs.Held.{AllHeld}
use Rattle.ae_calls.specs.Outlasting.{DoneLinesOutlast, GoesOnFrom, HasLog}
use Rattle.ae_calls.proofs.Onward.{StandsSo, after-so, left-so}

-- ---- lines, one after another

module _ (P : Log → Type 0) (stays : (log : Log) (events : List Event) → P log → P (followed log events)) (d : Disks) (s : Sites) (manner : Manner) (seen : d.told) (shown : s.told) where
  -- from a stand on it is so of each image
  record AreSo (from : Stand d s) (done : List (Did d s)) : Type 0 where
    time : Continues (d.state from.disk) (d.state (last_stand d s from done).disk)
    images : (u : ℕ) (image : Image) → (d.state from.disk).moment ≤ u → u ≤ (d.state (last_stand d s from done).disk).moment → (d.state (last_stand d s from done).disk).image_at u image → StandsSo P image

  lines-so : (from : Stand d s) (done : List (Did d s)) → AreDone d s manner from done → (held : List Log) (log : Log) → HoldsLegal (d.state from.disk) held log → AllHeld P held log → AreSo from done
  lines-so from [] are held log holds so = record { time = continues_refl (d.state from.disk); images = now }
    where
      now : (u : ℕ) (image : Image) → (d.state from.disk).moment ≤ u → u ≤ (d.state from.disk).moment → (d.state from.disk).image_at u image → StandsSo P image
      now u image since till at =
          let same : u ≡ (d.state from.disk).moment = omega (arith, since, till) in
          let one = holds.holds.holds.each image (subst (λ (n : ℕ). (d.state from.disk).image_at n image) same at) in
          record { log = one.0; legal = holds.all one.0 one.1; so = so.each one.0 one.1; stands = one.2 }
  lines-so from (one ∷ more) are held log holds so =
      let logged = follows_one d s manner seen shown from one one.to.disk refl are.0 held log holds in
      joined logged (lines-so one.to more are.1 logged.holds.logs logged.holds.read logged.holds.holds (after-so P stays d s manner from (one ∷ []) one.to.disk held log holds so logged))
    where
      joined : (logged : IsLogged d s manner from (one ∷ []) one.to.disk held log) → AreSo one.to more → AreSo from (one ∷ more)
      joined logged rest = record {
        time = continues_then (d.state from.disk) (d.state one.to.disk) (d.state (last_stand d s one.to more).disk) logged.time rest.time;
        images = λ u image since till at. elim (cases_lt u (d.state one.to.disk).moment) [
          | inl before ↦ left-so P stays d s manner from (one ∷ []) one.to.disk held log holds so logged u image since (omega (arith, before)) (rest.time.no_more u image (omega (arith, before)) at)
          | inr after ↦ rest.images u image after till at
        ];
      }

module _ (d : Disks) (s : Sites) (manner : Manner) where
  -- the lines of the first part, and those of the rest
  first-done : (from : Stand d s) (first rest : List (Did d s)) → AreDone d s manner from (first ++ rest) → AreDone d s manner from first
  first-done from [] rest are = tt
  first-done from (one ∷ first) rest are = (are.0, first-done one.to first rest are.1)

  rest-done : (from : Stand d s) (first rest : List (Did d s)) → AreDone d s manner from (first ++ rest) → AreDone d s manner (last_stand d s from first) rest
  rest-done from [] rest are = are
  rest-done from (one ∷ first) rest are = rest-done one.to first rest are.1

  last-of-both : (from : Stand d s) (first rest : List (Did d s)) → last_stand d s from (first ++ rest) ≡ last_stand d s (last_stand d s from first) rest
  last-of-both from [] rest = refl
  last-of-both from (one ∷ first) rest = last-of-both one.to first rest

-- ---- a log with events after it

followed-both : (log : Log) (events more : List Event) → followed (followed log events) more ≡ followed log (events ++ more)
followed-both log [] more = refl
followed-both log (event ∷ events) more = followed-both (event ∷ log) events more

goes-further : (logs : List Log) (log : Log) (events : List Event) → GoesOnFrom logs log → GoesOnFrom logs (followed log events)
goes-further logs log events goes = record {
  from = goes.from;
  among = goes.among;
  events = goes.events ++ events;
  is = ap (λ (l : Log). followed l events) goes.is ∙ followed-both goes.from goes.events events;
}

-- each of them goes on from itself
from-itself : (read : Log) (logs : List Log) → AllHeld (GoesOnFrom (read ∷ logs)) logs read
from-itself read logs = record {
  read = record { from = read; among = list-in (read ∷ logs) read (inl refl); events = []; is = refl };
  each = λ l there. record { from = l; among = list-in (read ∷ logs) l (inr (in-list logs l there)); events = []; is = refl };
}

-- ---- a script

pub done-lines-outlast : (d : Disks) (s : Sites) (i o : Streams) → DoneLinesOutlast d s i o
done-lines-outlast d s i o manner from disk site input left_input out taken result did seen shown first rest are lead held log holds = record { logged = logged; since = since }
  where
    both : AreDone d s manner from (first ++ rest)
    both = subst (λ (ones : List (Did d s)). AreDone d s manner from ones) are did.runs

    mid : Stand d s
    mid = last_stand d s from first

    logged : IsLogged d s manner from first mid.disk held log
    logged = follows_all d s manner seen shown from first mid.disk refl (first-done d s manner from first rest both) lead held log holds

    Goes : Log → Type 0
    Goes = GoesOnFrom (logged.holds.read ∷ logged.holds.logs)

    so : AreSo Goes (goes-further (logged.holds.read ∷ logged.holds.logs)) d s manner seen shown mid rest
    so =
        lines-so Goes (goes-further (logged.holds.read ∷ logged.holds.logs)) d s manner seen shown mid rest (rest-done d s manner from first rest both)
        logged.holds.logs logged.holds.read logged.holds.holds (from-itself logged.holds.read logged.holds.logs)

    end : (last_stand d s mid rest).disk ≡ disk
    end = ap (λ (to : Stand d s). to.disk) (sym (last-of-both d s manner from first rest)) ∙ ap (λ (ones : List (Did d s)). (last_stand d s from ones).disk) (sym are) ∙ did.disk_is

    found : (x : d.Disk) → (last_stand d s mid rest).disk ≡ x → (u : ℕ) (image : Image) → (d.state mid.disk).moment ≤ u → u ≤ (d.state x).moment → (d.state x).image_at u image → HasLog (logged.holds.read ∷ logged.holds.logs) image
    found x is u image since till at =
        let left = so.images u image since (subst (λ (y : d.Disk). u ≤ (d.state y).moment) (sym is) till) (subst (λ (y : d.Disk). (d.state y).image_at u image) (sym is) at) in
        record { log = left.log; goes_on = left.so; stands = left.stands }

    since : (u : ℕ) (image : Image) → (d.state mid.disk).moment ≤ u → u ≤ (d.state disk).moment → (d.state disk).image_at u image → HasLog (logged.holds.read ∷ logged.holds.logs) image
    since u image late till at = found disk end u image late till at
