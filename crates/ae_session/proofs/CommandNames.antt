-- What a command names: the path of a report, and the change of which a change set is asked for.
use Rattle.std.specs.Prelude.{◌&&◌, ◌||◌, not, nat_le, length, is_some}
use Rattle.std.specs.Option.{is_none}
use Rattle.std.proofs.Common.{◌≡◌, ◌∙◌, ℕ, true, false, List, [], ◌∷◌, None, refl, sym, ap, subst}
use Rattle.std.proofs.lemmas.Bool.{and_parts}
use Rattle.ae_words.specs.Formed.{IsFormed, are_plain, is_path_at_most}
use Rattle.ae_words.specs.Meaning.{has_plain, is_whole}
use Rattle.ae_words.specs.Spelling.{is_empty}
use Rattle.ae_words.specs.Table.{needs_attributes, needs_change, row}
use Rattle.ae_words.specs.declared.command.Command.{Command}
use Rattle.ae_words.proofs.Formed.{whole_plain}
use Rattle.ae_words.specs.declared.table.Function.TheVariants as function
use Rattle.ae_words.specs.declared.table.Row.{Row}
use Rattle.ae_words.specs.declared.table.Row.TheVariants as rows

-- one path
abbrev pub IsOnePath : List (List ℕ) → Type 0
IsOnePath paths = (path : List ℕ) × (paths ≡ path ∷ [])

one_path : (paths : List (List ℕ)) → is_path_at_most paths ≡ true → not (nat_le (length paths) 0) ≡ true → IsOnePath paths
one_path [] good some = absurd (let both : false ≡ true = some in cc)
one_path (p ∷ []) good some = (p, refl)
one_path (p ∷ q ∷ ps) good some = absurd (let both : false ≡ true = good in cc)

pub path_named : (c : Command) → IsFormed c → c.function ≡ function.Report → IsOnePath c.paths
path_named c formed reports = one_path c.paths good some
  where
    plain : are_plain rows.Report c ≡ true
    plain = subst (λ (r : Row). are_plain r c ≡ true) (ap row reports) formed.plain

    three : (is_none c.name && is_empty c.users && is_path_at_most c.paths && is_none c.listing) ≡ true
    three = (and_parts (is_none c.name && is_empty c.users && is_path_at_most c.paths && is_none c.listing) (is_empty c.numbers) plain).0

    two : (is_none c.name && is_empty c.users && is_path_at_most c.paths) ≡ true
    two = (and_parts (is_none c.name && is_empty c.users && is_path_at_most c.paths) (is_none c.listing) three).0

    good : is_path_at_most c.paths ≡ true
    good = (and_parts (is_none c.name && is_empty c.users) (is_path_at_most c.paths) two).1

    some : not (nat_le (length c.paths) 0) ≡ true
    some = subst (λ (r : Row). has_plain r c ≡ true) (ap row reports) (whole_plain c formed.whole)

-- the change of which a change set is asked for is named
pub change_named : (c : Command) → IsFormed c → c.function ≡ function.DistributionSend → c.change ≡ None → ⊥
unfolding is_whole
change_named c formed sends none = absurd (let both : false ≡ true = sym (ap is_some none) ∙ there in cc)
  where
    last : (not (needs_change (row c.function) c.listing) || is_some c.change) ≡ true
    last = (and_parts (has_plain (row c.function) c && (not (needs_attributes (row c.function)) || is_some c.attributes)) (not (needs_change (row c.function) c.listing) || is_some c.change) formed.whole).1

    there : is_some c.change ≡ true
    there = subst (λ (r : Row). (not (needs_change r c.listing) || is_some c.change) ≡ true) (ap row sends) last
