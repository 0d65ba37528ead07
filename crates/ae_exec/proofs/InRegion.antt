-- The versions that the events of a command make fit the region.
use Rattle.std.specs.Prelude.{◌≡◌, ◌≤◌, ℕ, zero, suc, true, List, [], ◌∷◌, All, Option, Some, None, unwrap_or}
use Rattle.std.specs.Option.{option_map, option_and_then}
use Rattle.std.proofs.Common.{refl, sym, ap, subst, ◌∙◌, arith}
use Rattle.std.proofs.lemmas.List.Elements.{All-nil, All-cons}
use Rattle.std.proofs.lemmas.Option.{same_Some}
use Rattle.ae_base.specs.Limits.{most_units}
use Rattle.ae_base.specs.Rows.{Row, Rows}
use Rattle.ae_words.specs.declared.table.Function.{Function}
use Rattle.ae_log.specs.declared.event.EventKind.{EventKind}
use Rattle.ae_log.specs.declared.event.EventKind.TheVariants as on
use Rattle.ae_types.specs.Frozen.{present}
use Rattle.ae_types.specs.declared.change.Change.{Change}
use Rattle.ae_types.specs.Observation.{Observation}
use Rattle.ae_space.specs.declared.extent.Extent.{Extent}
use Rattle.ae_space.specs.Fit.{fit}
use Rattle.ae_space.proofs.Between.{region-is}
use Rattle.ae_space.proofs.Fitting.{finds-lowest, fit-zero}
use Rattle.ae_space.proofs.Tests.{free-units}
use Rattle.ae_places.specs.Placing.{IsShort, extents, places_of, units_of}
use Rattle.ae_machine.specs.Accepted.{RowsShort, ends_development}
use Rattle.ae_machine.specs.Call.{Given, Placing}
use Rattle.ae_machine.specs.Sight.{change_tree}
use Rattle.ae_machine.specs.Space.{placing}
use Rattle.ae_machine.specs.Verdict.{kinds_of, end_of_development}
use Rattle.ae_machine.proofs.EndPlaces.{read-short}
use Rattle.ae_machine.proofs.KindsMade.{kinds-all, function_making}
use Rattle.ae_machine.proofs.Lists.{members-all}
use Rattle.ae_exec.specs.Writing.{FitsRegion}

-- ---- the end of a development

fit-inside : (taken : List Extent) (count at : ℕ) → fit taken count ≡ Some at → at ≤ most_units
fit-inside taken zero at is = let first : 0 ≡ at = same_Some 0 at (sym (fit-zero taken) ∙ is) in omega (arith, first)
fit-inside taken (suc count) at is = let free = free-units taken (suc count) at (finds-lowest taken (suc count) at (omega arith) is).free in omega (arith, free.0, region-is)

abbrev Inside : ℕ → Type 0
Inside at = at ≤ most_units

-- places that are found lie in the region
places-inside : (bytes : List (List ℕ)) (taken : List Extent) (places : List ℕ) → places_of taken bytes ≡ Some places → All Inside places
places-inside [] taken places is = subst (All Inside) (same_Some [] places is) (All-nil Inside)
places-inside (first ∷ more) taken places is = go (fit taken (units_of first)) refl (λ at rest. places-inside more (record { at = at; units = units_of first } ∷ taken) rest) is
  where
    after-it : (at : ℕ) → fit taken (units_of first) ≡ Some at → ((rest : List ℕ) → places_of (record { at = at; units = units_of first } ∷ taken) more ≡ Some rest → All Inside rest) → (v : Option (List ℕ)) → places_of (record { at = at; units = units_of first } ∷ taken) more ≡ v
        → option_map (λ (rest : List ℕ). at ∷ rest) v ≡ Some places → All Inside places
    after-it at found each (Some rest) later same = subst (All Inside) (same_Some (at ∷ rest) places same) (All-cons Inside at rest (fit-inside taken (units_of first) at found) (each rest later))
    after-it at found each None later same = cc

    go : (v : Option ℕ) → fit taken (units_of first) ≡ v → ((at : ℕ) (rest : List ℕ) → places_of (record { at = at; units = units_of first } ∷ taken) more ≡ Some rest → All Inside rest)
        → option_and_then (λ (at : ℕ). option_map (λ (rest : List ℕ). at ∷ rest) (places_of (record { at = at; units = units_of first } ∷ taken) more)) v ≡ Some places → All Inside places
    go (Some at) found each same = after-it at found (each at) (places_of (record { at = at; units = units_of first } ∷ taken) more) refl same
    go None found each same = cc

placed-inside : (o : Observation) (tree : Rows) (v : Option (List ℕ)) → placing o tree ≡ v → All Inside (unwrap_or v [])
unfolding placing
placed-inside o tree (Some places) is = places-inside (present tree) (extents o) places is
placed-inside o tree None is = All-nil Inside

end-fits : (given : Given) → given.places ≡ placing → RowsShort given.view → (change : Change) → FitsRegion (end_of_development given change)
end-fits given is short change = (
  members-all (λ (row : Row). IsShort row.1) (change_tree given change) (read-short given.view short change.files),
  placed-inside given.call.stands (change_tree given change) (given.places given.call.stands (change_tree given change)) (ap (λ (p : Placing). p given.call.stands (change_tree given change)) (sym is)),
)

-- ---- each function

of-alone : (kind : EventKind) (f : Function) → function_making kind ≡ Some f → FitsRegion kind
of-alone (on.End tree to places) f maker = cc
of-alone _ f maker = tt

pub kinds-fit : (f : Function) (given : Given) → given.places ≡ placing → (ends_development f ≡ true → RowsShort given.view) → All FitsRegion (kinds_of f given)
kinds-fit f given is short = kinds-all FitsRegion f given (record {
  added = λ role user. tt;
  dropped = λ role user. tt;
  filed = λ path there file. tt;
  unfiled = λ path. tt;
  ran = λ makes change there run among. tt;
  ended = λ ends change there. end-fits given is (short (ap ends_development ends)) change;
  alone = λ kind maker only. of-alone kind f maker;
})
