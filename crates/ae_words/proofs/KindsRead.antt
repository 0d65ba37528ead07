-- What options and the name give in a command that is read is of its kind.
use Rattle.std.proofs.Common.{◌≡◌, ℕ, true, not, nat_le, List, [], ◌∷◌, ◌++◌, Option, Some, None, Result, Ok, Err, refl, subst, length, is_some}
use Rattle.std.proofs.lemmas.Bool.{and_parts}
use Rattle.ae_base.specs.Names.{is_project_name}
use Rattle.ae_base.specs.Limits.{most_deltas}
use Rattle.ae_base.specs.Numbers.{change_number, delta_number}
use Rattle.ae_words.specs.Items.{Item, a_plain, a_flag, an_option, a_wrong, listing_named}
use Rattle.ae_words.specs.Meaning.{step, or_bad, may_come, with_plain, with_path, listed, numbered, next_number, with_flag, with_value, with_change, with_delta, blank}
use Rattle.ae_words.specs.Table.{row}
use Rattle.ae_words.specs.Formed.{first_change, last_change, AreKinds}
use Rattle.ae_words.specs.Grammar.{reads, then_read}
use Rattle.ae_words.specs.declared.command.Command.{Command}
use Rattle.ae_words.specs.declared.table.Function.{Function}
use Rattle.ae_words.specs.declared.table.Listing.{Listing}
use Rattle.ae_words.specs.declared.table.Setting.{Setting}
use Rattle.ae_words.specs.declared.table.Setting.TheVariants as setting
use Rattle.ae_words.specs.declared.table.Row.{Row}
use Rattle.ae_words.specs.declared.table.Row.TheVariants as rows
use Rattle.ae_words.proofs.Formed.{some_if, none_if, else_none, within, ok_some, ok_if}

along : (c d : Command) → c ≡ d → AreKinds c → AreKinds d
along c d e h = subst (λ (x : Command). AreKinds x) e h

-- ---- plain words

users_kinds : (c : Command) (us : List (List ℕ)) → AreKinds c → AreKinds (record c { users = us })
users_kinds c us h = record { project = h.project; change = h.change; attributes = h.attributes; delta = h.delta; name = h.name; reason = h.reason }

paths_kinds : (c : Command) (ps : List (List ℕ)) → AreKinds c → AreKinds (record c { paths = ps })
paths_kinds c ps h = record { project = h.project; change = h.change; attributes = h.attributes; delta = h.delta; name = h.name; reason = h.reason }

path_kinds : (c d : Command) (w : List ℕ) → with_path c w ≡ Some d → AreKinds c → AreKinds d
path_kinds c d w e h = along (record c { paths = c.paths ++ w ∷ [] }) d (some_if _ (record c { paths = c.paths ++ w ∷ [] }) d e).1 (paths_kinds c (c.paths ++ w ∷ []) h)

listed_kinds : (c d : Command) (o : Option Listing) → listed c o ≡ Some d → AreKinds c → AreKinds d
listed_kinds c d None e h = absurd cc
listed_kinds c d (Some l) e h =
    let same : record c { listing = Some l } ≡ d = cc in
    along (record c { listing = Some l }) d same (record { project = h.project; change = h.change; attributes = h.attributes; delta = h.delta; name = h.name; reason = h.reason })

numbered_kinds : (c d : Command) (o : Option ℕ) → numbered c o ≡ Some d → AreKinds c → AreKinds d
numbered_kinds c d None e h = absurd cc
numbered_kinds c d (Some n) e h =
    let same : record c { numbers = c.numbers ++ n ∷ [] } ≡ d = cc in
    along (record c { numbers = c.numbers ++ n ∷ [] }) d same (record { project = h.project; change = h.change; attributes = h.attributes; delta = h.delta; name = h.name; reason = h.reason })

plain_kinds : (r : Row) (c d : Command) (w : List ℕ) → with_plain r c w ≡ Some d → AreKinds c → AreKinds d
plain_kinds rows.NewProject c d w e h =
    let k = some_if _ (record c { name = Some w }) d e in
    along (record c { name = Some w }) d k.1 (record { project = h.project; change = h.change; attributes = h.attributes; delta = h.delta; name = (and_parts (not (is_some c.name)) (is_project_name w) k.0).1; reason = h.reason })
plain_kinds rows.Users c d w e h = along (record c { users = c.users ++ w ∷ [] }) d (some_if _ (record c { users = c.users ++ w ∷ [] }) d e).1 (users_kinds c (c.users ++ w ∷ []) h)
plain_kinds rows.Copy c d w e h = path_kinds c d w e h
plain_kinds rows.Paths c d w e h = path_kinds c d w e h
plain_kinds rows.NewTest c d w e h = path_kinds c d w (none_if _ (with_path c w) d e).1 h
plain_kinds rows.Report c d w e h = path_kinds c d w (else_none _ (with_path c w) d e).1 h
plain_kinds rows.Listing c d w e h = listed_kinds c d (listing_named w) (none_if _ (listed c (listing_named w)) d e).1 h
plain_kinds rows.Numbers c d w e h = numbered_kinds c d (next_number (length c.numbers) w) e h
plain_kinds _ c d w e h = absurd cc

-- ---- options

change_kinds : (c d : Command) (v : List ℕ) (o : Option ℕ) → change_number v ≡ o → with_change c o ≡ Some d → AreKinds c → AreKinds d
change_kinds c d v None n e h = absurd cc
change_kinds c d v (Some x) n e h =
    let same : record c { change = Some x } ≡ d = cc in
    along (record c { change = Some x }) d same (record { project = h.project; change = within 10 first_change last_change v x n; attributes = h.attributes; delta = h.delta; name = h.name; reason = h.reason })

delta_kinds : (c d : Command) (v : List ℕ) (o : Option ℕ) → delta_number v ≡ o → with_delta c o ≡ Some d → AreKinds c → AreKinds d
delta_kinds c d v None n e h = absurd cc
delta_kinds c d v (Some x) n e h =
    let same : record c { delta = Some x } ≡ d = cc in
    let low : nat_le x most_deltas ≡ true = (and_parts (nat_le 0 x) (nat_le x most_deltas) (within 10 0 most_deltas v x n)).1 in
    along (record c { delta = Some x }) d same (record { project = h.project; change = h.change; attributes = h.attributes; delta = low; name = h.name; reason = h.reason })

value_kinds : (o : Setting) (c d : Command) (v : List ℕ) → with_value o c v ≡ Some d → AreKinds c → AreKinds d
value_kinds setting.Project c d v e h =
    let k = some_if _ (record c { project = Some v }) d e in
    along (record c { project = Some v }) d k.1 (record { project = k.0; change = h.change; attributes = h.attributes; delta = h.delta; name = h.name; reason = h.reason })
value_kinds setting.File c d v e h =
    let k = some_if _ (record c { attributes = Some v }) d e in
    along (record c { attributes = Some v }) d k.1 (record { project = h.project; change = h.change; attributes = k.0; delta = h.delta; name = h.name; reason = h.reason })
value_kinds setting.Change c d v e h = change_kinds c d v (change_number v) refl e h
value_kinds setting.Delta c d v e h = delta_kinds c d v (delta_number v) refl e h
value_kinds setting.Reason c d v e h =
    let k = some_if _ (record c { reason = Some v }) d e in
    along (record c { reason = Some v }) d k.1 (record { project = h.project; change = h.change; attributes = h.attributes; delta = h.delta; name = h.name; reason = k.0 })
value_kinds _ c d v e h = absurd cc

flag_kinds : (o : Setting) (c : Command) → AreKinds c → AreKinds (with_flag o c)
flag_kinds setting.Overwriting c h = record { project = h.project; change = h.change; attributes = h.attributes; delta = h.delta; name = h.name; reason = h.reason }
flag_kinds _ c h = record { project = h.project; change = h.change; attributes = h.attributes; delta = h.delta; name = h.name; reason = h.reason }

-- ---- items

step_kinds : (l : Option Listing) (c d : Command) (i : Item) → step l c i ≡ Ok d → AreKinds c → AreKinds d
unfolding step
step_kinds l c d (a_plain at w) e h = plain_kinds (row c.function) c d w (ok_some at (with_plain (row c.function) c w) d e) h
step_kinds l c d (a_flag at o) e h =
    let k = ok_if (may_come l c o) at (Ok (with_flag o c)) d e in
    let same : with_flag o c ≡ d = cc in
    along (with_flag o c) d same (flag_kinds o c h)
step_kinds l c d (an_option at o v_at v) e h =
    let k = ok_if (may_come l c o) at (or_bad v_at (with_value o c v)) d e in
    value_kinds o c d v (ok_some v_at (with_value o c v) d k.1) h
step_kinds l c d (a_wrong at) e h = absurd cc

reads_kinds : (l : Option Listing) (c d : Command) (is : List Item) → reads l c is ≡ Ok d → AreKinds c → AreKinds d
unfolding reads
reads_kinds l c d [] e h = let same : c ≡ d = cc in along c d same h
reads_kinds l c d (i ∷ is) e h = one (step l c i) refl e (λ x f k. reads_kinds l x d is f k)
  where
    one : (r : Result Command ℕ) → step l c i ≡ r → then_read (λ x. reads l x is) r ≡ Ok d → ((x : Command) → reads l x is ≡ Ok d → AreKinds x → AreKinds d) → AreKinds d
    one (Err p) s f again = absurd cc
    one (Ok x) s f again = again x f (step_kinds l c x i s h)

pub read_kinds : (l : Option Listing) (f : Function) (c : Command) (is : List Item) → reads l (blank f) is ≡ Ok c → AreKinds c
unfolding blank
read_kinds l f c is e = reads_kinds l (blank f) c is e (record { project = refl; change = refl; attributes = refl; delta = refl; name = refl; reason = refl })
