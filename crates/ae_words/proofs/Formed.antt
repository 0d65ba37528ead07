-- Each command that is read is well formed.
use Rattle.std.proofs.Common.{◌≡◌, ◌⊎◌, inl, inr, ℕ, Bool, true, false, cond, not, ◌&&◌, ◌||◌, nat_le, List, [], ◌∷◌, ◌++◌, Option, Some, None, Result, Ok, Err, refl, sym, ap, subst, ◌∙◌, arith, length, is_some}
use Rattle.std.proofs.lemmas.Bool.Decides.{nat_tests}
use Rattle.std.proofs.lemmas.List.{length-append}
use Rattle.std.specs.List.{list_all}
use Rattle.std.specs.Option.{is_none}
use Rattle.std.proofs.lemmas.Bool.{not-true, and_parts, and_from}
use Rattle.ae_words.specs.Items.{Item, a_plain, a_flag, an_option, a_wrong, listing_named, listing}
use Rattle.ae_words.specs.Meaning.{most, last_start, most_digits, most_generated_changes, most_generated_files, step, or_bad, may_come, with_plain, with_name, with_user, with_path, with_one_path, with_test, with_listing, listed, numbered, next_number, with_flag, with_value, with_change, with_delta, is_free, blank, is_whole, has_plain}
use Rattle.ae_words.specs.Table.{row, allows, allows_change, may_take_change, needs_change, needs_attributes}
use Rattle.ae_words.specs.Formed.{has, AreKinds, AreOptions, are_plain, IsFormed, are_users, are_paths, are_tests, is_no_config, is_path_at_most, are_numbers}
use Rattle.ae_words.specs.Spelling.{is_empty}
use Rattle.ae_words.specs.Grammar.{reads, then_read}
use Rattle.ae_base.specs.Names.{is_user, is_path}
use Rattle.ae_base.specs.Numbers.{change_number, delta_number, number_within, number_from, in_range}
use Rattle.ae_words.specs.declared.command.Command.{Command}
use Rattle.ae_words.specs.declared.table.Function.{Function}
use Rattle.ae_words.specs.declared.table.Listing.{Listing}
use Rattle.ae_words.specs.declared.table.Setting.{Setting}
use Rattle.ae_words.specs.declared.table.Setting.TheVariants as setting
use Rattle.ae_words.specs.declared.table.Row.{Row}
use Rattle.ae_words.specs.declared.table.Row.TheVariants as rows

pub some_if : {A : Type 0} (b : Bool) (x y : A) → cond b (Some x) None ≡ Some y → (b ≡ true) × (x ≡ y)
some_if true x y e = (refl, cc)
some_if false x y e = absurd cc

pub none_if : {A : Type 0} (b : Bool) (o : Option A) (y : A) → cond b None o ≡ Some y → (b ≡ false) × (o ≡ Some y)
none_if true o y e = absurd cc
none_if false o y e = (refl, e)

pub else_none : {A : Type 0} (b : Bool) (o : Option A) (y : A) → cond b o None ≡ Some y → (b ≡ true) × (o ≡ Some y)
else_none true o y e = (refl, e)
else_none false o y e = absurd cc

-- ---- options are kept by plain words

data Makes (c : Command) : Command → Type 0 where
  to_name : (w : List ℕ) → Makes c (record c { name = Some w })
  to_users : (us : List (List ℕ)) → Makes c (record c { users = us })
  to_paths : (ps : List (List ℕ)) → Makes c (record c { paths = ps })
  to_listing : (l : Listing) → Makes c (record c { listing = Some l })
  to_numbers : (ns : List ℕ) → Makes c (record c { numbers = ns })

made_along : (c d e : Command) → Makes c d → d ≡ e → Makes c e
made_along c d e m s = subst (λ (x : Command). Makes c x) s m

path_makes : (c d : Command) (w : List ℕ) → with_path c w ≡ Some d → Makes c d
path_makes c d w e = made_along c (record c { paths = c.paths ++ w ∷ [] }) d (to_paths (c.paths ++ w ∷ [])) (some_if _ (record c { paths = c.paths ++ w ∷ [] }) d e).1

listed_makes : (c d : Command) (o : Option Listing) → listed c o ≡ Some d → Makes c d
listed_makes c d None e = absurd cc
listed_makes c d (Some l) e = made_along c (record c { listing = Some l }) d (to_listing l) cc

numbered_makes : (c d : Command) (o : Option ℕ) → numbered c o ≡ Some d → Makes c d
numbered_makes c d None e = absurd cc
numbered_makes c d (Some n) e = made_along c (record c { numbers = c.numbers ++ n ∷ [] }) d (to_numbers (c.numbers ++ n ∷ [])) cc

plain_makes : (r : Row) (c d : Command) (w : List ℕ) → with_plain r c w ≡ Some d → Makes c d
plain_makes rows.NewProject c d w e = made_along c (record c { name = Some w }) d (to_name w) (some_if _ (record c { name = Some w }) d e).1
plain_makes rows.Users c d w e = made_along c (record c { users = c.users ++ w ∷ [] }) d (to_users (c.users ++ w ∷ [])) (some_if _ (record c { users = c.users ++ w ∷ [] }) d e).1
plain_makes rows.Copy c d w e = path_makes c d w e
plain_makes rows.Paths c d w e = path_makes c d w e
plain_makes rows.NewTest c d w e = path_makes c d w (none_if _ (with_path c w) d e).1
plain_makes rows.Report c d w e = path_makes c d w (else_none _ (with_path c w) d e).1
plain_makes rows.Listing c d w e = listed_makes c d (listing_named w) (none_if _ (listed c (listing_named w)) d e).1
plain_makes rows.Numbers c d w e = numbered_makes c d (next_number (length c.numbers) w) e
plain_makes _ c d w e = absurd cc

options_kept : (l : Option Listing) (c d : Command) → Makes c d → AreOptions l c → AreOptions l d
options_kept l c _ (to_name w) h = h
options_kept l c _ _ h = h

function_kept : (c d : Command) → Makes c d → d.function ≡ c.function
function_kept c _ (to_name w) = refl
function_kept c _ _ = refl

-- ---- an option that may come is allowed

-- with the option `o` more, each option of the command is `o` or was there
abbrev Adds : Setting → Command → Command → Type 0
Adds o c d = ((p : Setting) → has d p ≡ true → (p ≡ o) ⊎ (has c p ≡ true)) × (d.function ≡ c.function)

allowed_more : (l : Option Listing) (c d : Command) (o : Setting) → allows c.function l o ≡ true → Adds o c d → ((p : Setting) → has c p ≡ true → allows c.function l p ≡ true)
    → (p : Setting) → has d p ≡ true → allows d.function l p ≡ true
allowed_more l c d o a adds h p there =
    let at : allows c.function l p ≡ true = elim (adds.0 p there) [ inl same ↦ rw same a | inr was ↦ h p was ] in
    subst (λ (f : Function). allows f l p ≡ true) (sym adds.1) at

flag_adds_at : (o p : Setting) (c : Command) → has (with_flag o c) p ≡ true → (p ≡ o) ⊎ (has c p ≡ true)
flag_adds_at setting.Overwriting setting.Overwriting c h = inl refl
flag_adds_at setting.Overwriting _ c h = inr h
flag_adds_at setting.Baseline setting.Baseline c h = inl refl
flag_adds_at setting.Baseline _ c h = inr h
flag_adds_at setting.Regression setting.Regression c h = inl refl
flag_adds_at setting.Regression _ c h = inr h
flag_adds_at _ p c h = inr h

-- the command without its options
abbrev bare : Command → Command
bare c = record c { project = None; change = None; attributes = None; delta = None; overwriting = false; baseline = false; regression = false; reason = None }

bare_function : (c d : Command) → bare d ≡ bare c → d.function ≡ c.function
bare_function c d same = ap (λ (x : Command). x.function) same

bare_listing : (c d : Command) → bare d ≡ bare c → d.listing ≡ c.listing
bare_listing c d same = ap (λ (x : Command). x.listing) same

plain_bare : (r : Row) (c : Command) → are_plain r (bare c) ≡ are_plain r c
plain_bare rows.NewProject c = refl
plain_bare _ c = refl

bare_plain : (r : Row) (c d : Command) → bare d ≡ bare c → are_plain r c ≡ true → are_plain r d ≡ true
bare_plain r c d same h = sym (plain_bare r d) ∙ ap (are_plain r) same ∙ plain_bare r c ∙ h

flag_bare : (o : Setting) (c : Command) → bare (with_flag o c) ≡ bare c
flag_bare setting.Overwriting c = refl
flag_bare _ c = refl

flag_adds : (o : Setting) (c : Command) → Adds o c (with_flag o c)
flag_adds o c = (λ p h. flag_adds_at o p c h, bare_function c (with_flag o c) (flag_bare o c))

data Sets (c : Command) : Setting → Command → Type 0 where
  to_project : (v : List ℕ) → Sets c setting.Project (record c { project = Some v })
  to_file : (v : List ℕ) → Sets c setting.File (record c { attributes = Some v })
  to_change : (n : ℕ) → Sets c setting.Change (record c { change = Some n })
  to_delta : (n : ℕ) → Sets c setting.Delta (record c { delta = Some n })
  to_reason : (v : List ℕ) → Sets c setting.Reason (record c { reason = Some v })

sets_along : (c d e : Command) (o : Setting) → Sets c o d → d ≡ e → Sets c o e
sets_along c d e o m s = subst (λ (x : Command). Sets c o x) s m

change_sets : (c d : Command) (o : Option ℕ) → with_change c o ≡ Some d → Sets c setting.Change d
change_sets c d None e = absurd cc
change_sets c d (Some n) e = sets_along c (record c { change = Some n }) d setting.Change (to_change n) cc

delta_sets : (c d : Command) (o : Option ℕ) → with_delta c o ≡ Some d → Sets c setting.Delta d
delta_sets c d None e = absurd cc
delta_sets c d (Some n) e = sets_along c (record c { delta = Some n }) d setting.Delta (to_delta n) cc

value_sets : (o : Setting) (c d : Command) (v : List ℕ) → with_value o c v ≡ Some d → Sets c o d
value_sets setting.Project c d v e = sets_along c (record c { project = Some v }) d setting.Project (to_project v) (some_if _ (record c { project = Some v }) d e).1
value_sets setting.File c d v e = sets_along c (record c { attributes = Some v }) d setting.File (to_file v) (some_if _ (record c { attributes = Some v }) d e).1
value_sets setting.Change c d v e = change_sets c d (change_number v) e
value_sets setting.Delta c d v e = delta_sets c d (delta_number v) e
value_sets setting.Reason c d v e = sets_along c (record c { reason = Some v }) d setting.Reason (to_reason v) (some_if _ (record c { reason = Some v }) d e).1
value_sets _ c d v e = absurd cc

sets_at : (o p : Setting) (c d : Command) → Sets c o d → has d p ≡ true → (p ≡ o) ⊎ (has c p ≡ true)
sets_at _ setting.Project c _ (to_project v) h = inl refl
sets_at _ _ c _ (to_project v) h = inr h
sets_at _ setting.File c _ (to_file v) h = inl refl
sets_at _ _ c _ (to_file v) h = inr h
sets_at _ setting.Change c _ (to_change n) h = inl refl
sets_at _ _ c _ (to_change n) h = inr h
sets_at _ setting.Delta c _ (to_delta n) h = inl refl
sets_at _ _ c _ (to_delta n) h = inr h
sets_at _ setting.Reason c _ (to_reason v) h = inl refl
sets_at _ _ c _ (to_reason v) h = inr h

sets_bare : (o : Setting) (c d : Command) → Sets c o d → bare d ≡ bare c
sets_bare _ c _ (to_project v) = refl
sets_bare _ c _ _ = refl

sets_flags : (o : Setting) (c d : Command) → Sets c o d → (c.baseline && c.regression) ≡ false → (d.baseline && d.regression) ≡ false
sets_flags _ c _ (to_project v) h = h
sets_flags _ c _ _ h = h

not_both : (b r : Bool) → not (b || r) ≡ true → (b ≡ false) × (r ≡ false)
not_both true r h = absurd cc
not_both false true h = absurd cc
not_both false false h = (refl, refl)

one_flag : (o : Setting) (c : Command) → is_free c o ≡ true → (c.baseline && c.regression) ≡ false → ((with_flag o c).baseline && (with_flag o c).regression) ≡ false
one_flag setting.Baseline c f h = (not_both c.baseline c.regression f).1
one_flag setting.Regression c f h = rw (not_both c.baseline c.regression f).0 refl
one_flag _ c f h = h

-- ---- plain words are good

swap_second : (a b x c d e : Bool) → (a && b && c && d && e) ≡ true → x ≡ true → (a && x && c && d && e) ≡ true
swap_second true true x c d e h k = rw k h
swap_second true false x c d e h k = absurd cc
swap_second false b x c d e h k = absurd cc

swap_third : (a b c x d e : Bool) → (a && b && c && d && e) ≡ true → x ≡ true → (a && b && x && d && e) ≡ true
swap_third true true true x d e h k = rw k h
swap_third true true false x d e h k = absurd cc
swap_third true false c x d e h k = absurd cc
swap_third false b c x d e h k = absurd cc

all_more : (p : List ℕ → Bool) (xs : List (List ℕ)) (x : List ℕ) → list_all p xs ≡ true → p x ≡ true → list_all p (xs ++ x ∷ []) ≡ true
all_more p [] x h k = rw k refl
all_more p (y ∷ ys) x h k = let hs = and_parts (p y) (list_all p ys) h in rw (hs.0, all_more p ys x hs.1 k) refl

few_more : (xs : List (List ℕ)) (x : List ℕ) → nat_le most (length xs) ≡ false → nat_le (length (xs ++ x ∷ [])) most ≡ true
few_more xs x h = rw (length-append xs (x ∷ [])) (grind (arith, nat_tests))

second : (a b c d e : Bool) → (a && b && c && d && e) ≡ true → b ≡ true
second true true c d e h = refl
second true false c d e h = absurd cc
second false b c d e h = absurd cc

pub third : (a b c d e : Bool) → (a && b && c && d && e) ≡ true → c ≡ true
third true true true d e h = refl
third true true false d e h = absurd cc
third true false c d e h = absurd cc
third false b c d e h = absurd cc

users_more : (us : List (List ℕ)) (w : List ℕ) → are_users us ≡ true → (not (nat_le most (length us)) && is_user w) ≡ true → are_users (us ++ w ∷ []) ≡ true
users_more us w h k =
    let a = and_parts (list_all is_user us) (nat_le (length us) most) h in
    let b = and_parts (not (nat_le most (length us))) (is_user w) k in
    rw (all_more is_user us w a.0 b.1, few_more us w (not-true (nat_le most (length us)) b.0)) refl

paths_more : (ps : List (List ℕ)) (w : List ℕ) → are_paths ps ≡ true → (not (nat_le most (length ps)) && is_path w) ≡ true → are_paths (ps ++ w ∷ []) ≡ true
paths_more ps w h k =
    let a = and_parts (list_all is_path ps) (nat_le (length ps) most) h in
    let b = and_parts (not (nat_le most (length ps))) (is_path w) k in
    rw (all_more is_path ps w a.0 b.1, few_more ps w (not-true (nat_le most (length ps)) b.0)) refl

tests_more : (ps : List (List ℕ)) (w : List ℕ) → are_tests ps ≡ true → is_no_config w ≡ true → (not (nat_le most (length ps)) && is_path w) ≡ true → are_tests (ps ++ w ∷ []) ≡ true
tests_more ps w h n k =
    let a = and_parts (list_all is_no_config ps) (are_paths ps) h in
    rw (all_more is_no_config ps w a.0 n, paths_more ps w a.1 k) refl

first_path : (ps : List (List ℕ)) (w : List ℕ) → is_empty ps ≡ true → is_path w ≡ true → is_path_at_most (ps ++ w ∷ []) ≡ true
first_path [] w e h = h
first_path (p ∷ ps) w e h = absurd cc

-- ---- numbers are in their ranges

range_of : (low high : ℕ) (o : Option ℕ) (n : ℕ) → in_range low high o ≡ Some n → (nat_le low n && nat_le n high) ≡ true
range_of low high None n e = absurd cc
range_of low high (Some m) n e =
    let h = some_if (nat_le low m && nat_le m high) m n e in
    subst (λ (x : ℕ). (nat_le low x && nat_le x high) ≡ true) h.1 h.0

pub within : (most low high : ℕ) (w : List ℕ) (n : ℕ) → number_within most low high w ≡ Some n → (nat_le low n && nat_le n high) ≡ true
within most low high [] n e = absurd cc
within most low high (b ∷ bs) n e = one (nat_le (length (b ∷ bs)) most) e
  where
    one : (t : Bool) → cond t (in_range low high (number_from 0 (b ∷ bs))) None ≡ Some n → (nat_le low n && nat_le n high) ≡ true
    one true e = range_of low high (number_from 0 (b ∷ bs)) n e
    one false e = absurd cc

numbers_more : (ns : List ℕ) (w : List ℕ) (n : ℕ) → are_numbers ns ≡ true → next_number (length ns) w ≡ Some n → are_numbers (ns ++ n ∷ []) ≡ true
numbers_more [] w n h e = (and_parts (nat_le 0 n) (nat_le n last_start) (within most_digits 0 last_start w n e)).1
numbers_more (s ∷ []) w n h e = let r = and_parts (nat_le 1 n) (nat_le n most_generated_changes) (within most_digits 1 most_generated_changes w n e) in rw (h, r.0, r.1) refl
numbers_more (s ∷ m ∷ []) w n h e = let r = and_parts (nat_le 1 n) (nat_le n most_generated_files) (within most_digits 1 most_generated_files w n e) in rw (h, r.0, r.1) refl
numbers_more (s ∷ m ∷ f ∷ []) w n h e = absurd cc
numbers_more (s ∷ m ∷ f ∷ x ∷ xs) w n h e = absurd cc

-- ---- plain words keep plain words good

named_plain : (c d : Command) (w : List ℕ) → with_name c w ≡ Some d → are_plain rows.NewProject c ≡ true → are_plain rows.NewProject d ≡ true
named_plain c d w e h = subst (λ (x : Command). are_plain rows.NewProject x ≡ true) (some_if _ (record c { name = Some w }) d e).1 h

users_plain : (c d : Command) (w : List ℕ) → with_user c w ≡ Some d → are_plain rows.Users c ≡ true → are_plain rows.Users d ≡ true
users_plain c d w e h =
    let made = some_if _ (record c { users = c.users ++ w ∷ [] }) d e in
    let good = users_more c.users w (second (is_none c.name) (are_users c.users) (is_empty c.paths) (is_none c.listing) (is_empty c.numbers) h) made.0 in
    subst (λ (x : Command). are_plain rows.Users x ≡ true) made.1
    (swap_second (is_none c.name) (are_users c.users) (are_users (c.users ++ w ∷ [])) (is_empty c.paths) (is_none c.listing) (is_empty c.numbers) h good)

paths_plain : (c d : Command) (w : List ℕ) → with_path c w ≡ Some d → are_plain rows.Paths c ≡ true → are_plain rows.Paths d ≡ true
paths_plain c d w e h =
    let made = some_if _ (record c { paths = c.paths ++ w ∷ [] }) d e in
    let good = paths_more c.paths w (third (is_none c.name) (is_empty c.users) (are_paths c.paths) (is_none c.listing) (is_empty c.numbers) h) made.0 in
    subst (λ (x : Command). are_plain rows.Paths x ≡ true) made.1
    (swap_third (is_none c.name) (is_empty c.users) (are_paths c.paths) (are_paths (c.paths ++ w ∷ [])) (is_none c.listing) (is_empty c.numbers) h good)

tests_plain : (c d : Command) (w : List ℕ) → with_test c w ≡ Some d → are_plain rows.NewTest c ≡ true → are_plain rows.NewTest d ≡ true
tests_plain c d w e h =
    let t = none_if _ (with_path c w) d e in
    let made = some_if _ (record c { paths = c.paths ++ w ∷ [] }) d t.1 in
    let good = tests_more c.paths w (third (is_none c.name) (is_empty c.users) (are_tests c.paths) (is_none c.listing) (is_empty c.numbers) h) (ap not t.0) made.0 in
    subst (λ (x : Command). are_plain rows.NewTest x ≡ true) made.1
    (swap_third (is_none c.name) (is_empty c.users) (are_tests c.paths) (are_tests (c.paths ++ w ∷ [])) (is_none c.listing) (is_empty c.numbers) h good)

one_path_plain : (c d : Command) (w : List ℕ) → with_one_path c w ≡ Some d → are_plain rows.Report c ≡ true → are_plain rows.Report d ≡ true
one_path_plain c d w e h =
    let t = else_none (is_empty c.paths) (with_path c w) d e in
    let made = some_if _ (record c { paths = c.paths ++ w ∷ [] }) d t.1 in
    let good = first_path c.paths w t.0 (and_parts (not (nat_le most (length c.paths))) (is_path w) made.0).1 in
    subst (λ (x : Command). are_plain rows.Report x ≡ true) made.1
    (swap_third (is_none c.name) (is_empty c.users) (is_path_at_most c.paths) (is_path_at_most (c.paths ++ w ∷ [])) (is_none c.listing) (is_empty c.numbers) h good)

listed_plain : (c d : Command) (o : Option Listing) → listed c o ≡ Some d → are_plain rows.Listing c ≡ true → are_plain rows.Listing d ≡ true
listed_plain c d None e h = absurd cc
listed_plain c d (Some l) e h = let made : record c { listing = Some l } ≡ d = cc in subst (λ (x : Command). are_plain rows.Listing x ≡ true) made h

numbered_plain : (c d : Command) (w : List ℕ) (o : Option ℕ) → next_number (length c.numbers) w ≡ o → numbered c o ≡ Some d → are_plain rows.Numbers c ≡ true → are_plain rows.Numbers d ≡ true
numbered_plain c d w None f e h = absurd cc
numbered_plain c d w (Some n) f e h =
    let made : record c { numbers = c.numbers ++ n ∷ [] } ≡ d = cc in
    let others = is_none c.name && is_empty c.users && is_empty c.paths && is_none c.listing in
    subst (λ (x : Command). are_plain rows.Numbers x ≡ true) made
    (and_from others (are_numbers (c.numbers ++ n ∷ [])) ((and_parts others (are_numbers c.numbers) h).0) (numbers_more c.numbers w n ((and_parts others (are_numbers c.numbers) h).1) f))

plain_plain : (r : Row) (c d : Command) (w : List ℕ) → with_plain r c w ≡ Some d → are_plain r c ≡ true → are_plain r d ≡ true
plain_plain rows.NewProject c d w e h = named_plain c d w e h
plain_plain rows.Users c d w e h = users_plain c d w e h
plain_plain rows.Copy c d w e h = paths_plain c d w e h
plain_plain rows.Paths c d w e h = paths_plain c d w e h
plain_plain rows.NewTest c d w e h = tests_plain c d w e h
plain_plain rows.Report c d w e h = one_path_plain c d w e h
plain_plain rows.Listing c d w e h = listed_plain c d (listing_named w) (none_if _ (listed c (listing_named w)) d e).1 h
plain_plain rows.Numbers c d w e h = numbered_plain c d w (next_number (length c.numbers) w) refl e h
plain_plain _ c d w e h = absurd cc

-- ---- what holds of the command so far

record IsSoFar (l : Option Listing) (c : Command) : Type 0 where
  options : AreOptions l c
  plain : are_plain (row c.function) c ≡ true

pub ok_some : (at : ℕ) (o : Option Command) (d : Command) → or_bad at o ≡ Ok d → o ≡ Some d
ok_some at None d e = absurd cc
ok_some at (Some c) d e = cc

pub ok_if : (b : Bool) (at : ℕ) (r : Result Command ℕ) (d : Command) → cond b r (Err at) ≡ Ok d → (b ≡ true) × (r ≡ Ok d)
ok_if true at r d e = (refl, e)
ok_if false at r d e = absurd cc

plain_so_far : (l : Option Listing) (c d : Command) (w : List ℕ) → with_plain (row c.function) c w ≡ Some d → IsSoFar l c → IsSoFar l d
plain_so_far l c d w e h =
    let m = plain_makes (row c.function) c d w e in
    record {
      options = options_kept l c d m h.options;
      plain = subst (λ (f : Function). are_plain (row f) d ≡ true) (sym (function_kept c d m)) (plain_plain (row c.function) c d w e h.plain);
    }

option_so_far : (l : Option Listing) (c d : Command) (o : Setting) → allows c.function l o ≡ true → Sets c o d → IsSoFar l c → IsSoFar l d
option_so_far l c d o a s h = record {
  options = (allowed_more l c d o a (λ p there. sets_at o p c d s there, bare_function c d (sets_bare o c d s)) h.options.0, sets_flags o c d s h.options.1);
  plain = subst (λ (f : Function). are_plain (row f) d ≡ true) (sym (bare_function c d (sets_bare o c d s))) (bare_plain (row c.function) c d (sets_bare o c d s) h.plain);
}

flag_so_far : (l : Option Listing) (c : Command) (o : Setting) → may_come l c o ≡ true → IsSoFar l c → IsSoFar l (with_flag o c)
flag_so_far l c o m h =
    let b = and_parts (allows c.function l o) (is_free c o) m in
    record {
      options = (allowed_more l c (with_flag o c) o b.0 (flag_adds o c) h.options.0, one_flag o c b.1 h.options.1);
      plain = subst (λ (f : Function). are_plain (row f) (with_flag o c) ≡ true) (sym (bare_function c (with_flag o c) (flag_bare o c))) (bare_plain (row c.function) c (with_flag o c) (flag_bare o c) h.plain);
    }

step_so_far : (l : Option Listing) (c d : Command) (i : Item) → step l c i ≡ Ok d → IsSoFar l c → IsSoFar l d
unfolding step
step_so_far l c d (a_plain at w) e h = plain_so_far l c d w (ok_some at (with_plain (row c.function) c w) d e) h
step_so_far l c d (a_flag at o) e h =
    let k = ok_if (may_come l c o) at (Ok (with_flag o c)) d e in
    let same : with_flag o c ≡ d = cc in
    subst (λ (x : Command). IsSoFar l x) same (flag_so_far l c o k.0 h)
step_so_far l c d (an_option at o v_at v) e h =
    let k = ok_if (may_come l c o) at (or_bad v_at (with_value o c v)) d e in
    let b = and_parts (allows c.function l o) (is_free c o) k.0 in
    option_so_far l c d o b.0 (value_sets o c d v (ok_some v_at (with_value o c v) d k.1)) h
step_so_far l c d (a_wrong at) e h = absurd cc

blank_plain : (r : Row) (f : Function) → are_plain r (blank f) ≡ true
unfolding blank
blank_plain rows.NewProject f = refl
blank_plain _ f = refl

blank_has_none : (f : Function) (o : Setting) → has (blank f) o ≡ true → ⊥
unfolding blank
blank_has_none f setting.Project h = cc
blank_has_none f _ h = cc

blank_so_far : (l : Option Listing) (f : Function) → IsSoFar l (blank f)
unfolding blank
blank_so_far l f = record { options = (λ o h. absurd (blank_has_none f o h), refl); plain = blank_plain (row f) f }

reads_so_far : (l : Option Listing) (c d : Command) (is : List Item) → reads l c is ≡ Ok d → IsSoFar l c → IsSoFar l d
unfolding reads
reads_so_far l c d [] e h = let same : c ≡ d = cc in subst (λ (x : Command). IsSoFar l x) same h
reads_so_far l c d (i ∷ is) e h = one (step l c i) refl e (λ x f k. reads_so_far l x d is f k)
  where
    one : (r : Result Command ℕ) → step l c i ≡ r → then_read (λ x. reads l x is) r ≡ Ok d → ((x : Command) → reads l x is ≡ Ok d → IsSoFar l x → IsSoFar l d) → IsSoFar l d
    one (Err p) s f again = absurd cc
    one (Ok x) s f again = again x f (step_so_far l c x i s h)

-- ---- the listing of the words is the command's

abbrev IsListing : Option Listing → Command → List Item → Type 0
IsListing l c is = row c.function ≡ rows.Listing → ((c.listing ≡ None) × (listing is ≡ l)) ⊎ ((x : Listing) × (c.listing ≡ Some x) × (l ≡ Some x))

listed_one : (c d : Command) (o : Option Listing) → listed c o ≡ Some d → (x : Listing) × (o ≡ Some x) × (d.listing ≡ Some x)
listed_one c d None e = absurd cc
listed_one c d (Some x) e = let made : record c { listing = Some x } ≡ d = cc in (x, refl, ap (λ (y : Command). y.listing) (sym made))

plain_listing : (l : Option Listing) (c d : Command) (at : ℕ) (w : List ℕ) (is : List Item) → with_listing c w ≡ Some d
    → ((c.listing ≡ None) × (listing (a_plain at w ∷ is) ≡ l)) ⊎ ((x : Listing) × (c.listing ≡ Some x) × (l ≡ Some x))
    → ((d.listing ≡ None) × (listing is ≡ l)) ⊎ ((x : Listing) × (d.listing ≡ Some x) × (l ≡ Some x))
plain_listing l c d at w is e (inl h) =
    let n = none_if (is_some c.listing) (listed c (listing_named w)) d e in
    let k = listed_one c d (listing_named w) n.1 in
    inr (k.0, k.2, sym h.1 ∙ k.1)
plain_listing l c d at w is e (inr h) =
    let n = none_if (is_some c.listing) (listed c (listing_named w)) d e in
    let there : is_some c.listing ≡ true = rw h.1 refl in
    absurd cc

as_before : (l : Option Listing) (c d : Command) (is : List Item) → bare d ≡ bare c → IsListing l c is → IsListing l d is
as_before l c d is same h r =
    let k = h (subst (λ (x : Function). row x ≡ rows.Listing) (bare_function c d same) r) in
    subst (λ (y : Option Listing). ((y ≡ None) × (listing is ≡ l)) ⊎ ((x : Listing) × (y ≡ Some x) × (l ≡ Some x))) (sym (bare_listing c d same)) k

step_listing : (l : Option Listing) (c d : Command) (i : Item) (is : List Item) → step l c i ≡ Ok d → IsListing l c (i ∷ is) → IsListing l d is
unfolding step
step_listing l c d (a_plain at w) is e h = λ (r : row d.function ≡ rows.Listing).
    let made = ok_some at (with_plain (row c.function) c w) d e in
    let same = function_kept c d (plain_makes (row c.function) c d w made) in
    let of_c : row c.function ≡ rows.Listing = subst (λ (x : Function). row x ≡ rows.Listing) same r in
    let as_listing : with_listing c w ≡ Some d = subst (λ (x : Row). with_plain x c w ≡ Some d) of_c made in
    plain_listing l c d at w is as_listing (h of_c)
step_listing l c d (a_flag at o) is e h =
    let k = ok_if (may_come l c o) at (Ok (with_flag o c)) d e in
    let same : with_flag o c ≡ d = cc in
    subst (λ (x : Command). IsListing l x is) same (as_before l c (with_flag o c) is (flag_bare o c) h)
step_listing l c d (an_option at o v_at v) is e h =
    let k = ok_if (may_come l c o) at (or_bad v_at (with_value o c v)) d e in
    let s = value_sets o c d v (ok_some v_at (with_value o c v) d k.1) in
    as_before l c d is (sets_bare o c d s) h
step_listing l c d (a_wrong at) is e h = absurd cc

reads_listing : (l : Option Listing) (c d : Command) (is : List Item) → reads l c is ≡ Ok d → IsListing l c is → IsListing l d []
unfolding reads
reads_listing l c d [] e h = let same : c ≡ d = cc in subst (λ (x : Command). IsListing l x []) same h
reads_listing l c d (i ∷ is) e h = one (step l c i) refl e (λ x f k. reads_listing l x d is f k)
  where
    one : (r : Result Command ℕ) → step l c i ≡ r → then_read (λ x. reads l x is) r ≡ Ok d → ((x : Command) → reads l x is ≡ Ok d → IsListing l x is → IsListing l d []) → IsListing l d []
    one (Err p) s f again = absurd cc
    one (Ok x) s f again = again x f (step_listing l c x i is s h)

step_function : (l : Option Listing) (c d : Command) (i : Item) → step l c i ≡ Ok d → d.function ≡ c.function
unfolding step
step_function l c d (a_plain at w) e = function_kept c d (plain_makes (row c.function) c d w (ok_some at (with_plain (row c.function) c w) d e))
step_function l c d (a_flag at o) e =
    let k = ok_if (may_come l c o) at (Ok (with_flag o c)) d e in
    let same : with_flag o c ≡ d = cc in
    subst (λ (x : Command). x.function ≡ c.function) same (bare_function c (with_flag o c) (flag_bare o c))
step_function l c d (an_option at o v_at v) e =
    let k = ok_if (may_come l c o) at (or_bad v_at (with_value o c v)) d e in
    bare_function c d (sets_bare o c d (value_sets o c d v (ok_some v_at (with_value o c v) d k.1)))
step_function l c d (a_wrong at) e = absurd cc

reads_function : (l : Option Listing) (c d : Command) (is : List Item) → reads l c is ≡ Ok d → d.function ≡ c.function
unfolding reads
reads_function l c d [] e = let same : c ≡ d = cc in ap (λ (x : Command). x.function) (sym same)
reads_function l c d (i ∷ is) e = one (step l c i) refl e (λ x f. reads_function l x d is f)
  where
    one : (r : Result Command ℕ) → step l c i ≡ r → then_read (λ x. reads l x is) r ≡ Ok d → ((x : Command) → reads l x is ≡ Ok d → d.function ≡ x.function) → d.function ≡ c.function
    one (Err p) s f again = absurd cc
    one (Ok x) s f again = again x f ∙ step_function l c x i s

pub function_read : (l : Option Listing) (f : Function) (c : Command) (is : List Item) → reads l (blank f) is ≡ Ok c → f ≡ c.function
unfolding blank
function_read l f c is e = sym (reads_function l (blank f) c is e)

allows_change_same : (r : Row) (l m : Option Listing) → (r ≡ rows.Listing → l ≡ m) → allows_change r l ≡ allows_change r m
allows_change_same rows.Listing l m h = ap may_take_change (h refl)
allows_change_same _ l m h = refl

allows_same : (f : Function) (l m : Option Listing) (o : Setting) → (row f ≡ rows.Listing → l ≡ m) → allows f l o ≡ allows f m o
allows_same f l m setting.Change h = allows_change_same (row f) l m h
allows_same f l m _ h = refl

pub whole_plain : (c : Command) → is_whole c ≡ true → has_plain (row c.function) c ≡ true
unfolding is_whole
whole_plain c h =
    (and_parts (has_plain (row c.function) c) (not (needs_attributes (row c.function)) || is_some c.attributes) ((and_parts (has_plain (row c.function) c && (not (needs_attributes (row c.function)) || is_some c.attributes)) (not (needs_change (row c.function) c.listing) || is_some c.change) h).0)).0

same_listing : (l : Option Listing) (c : Command) → IsListing l c [] → is_whole c ≡ true → row c.function ≡ rows.Listing → l ≡ c.listing
same_listing l c h whole r = one (h r)
  where
    there : is_some c.listing ≡ true
    there = subst (λ (x : Row). has_plain x c ≡ true) r (whole_plain c whole)

    one : ((c.listing ≡ None) × (None ≡ l)) ⊎ ((x : Listing) × (c.listing ≡ Some x) × (l ≡ Some x)) → l ≡ c.listing
    one (inl k) = let no : is_some c.listing ≡ false = rw k.0 refl in absurd (cc (there, no))
    one (inr k) = k.2 ∙ sym k.1

blank_listing : (l : Option Listing) (f : Function) (is : List Item) → listing is ≡ l → IsListing l (blank f) is
unfolding blank
blank_listing l f is e r = inl (refl, e)

pub formed : (f : Function) (c : Command) (is : List Item) → reads (listing is) (blank f) is ≡ Ok c → is_whole c ≡ true → AreKinds c → IsFormed c
formed f c is e whole kinds =
    let l = listing is in
    let so = reads_so_far l (blank f) c is e (blank_so_far l f) in
    let listed = same_listing l c (reads_listing l (blank f) c is e (blank_listing l f is refl)) whole in
    record {
      kinds = kinds;
      options = (λ o there. sym (allows_same c.function l c.listing o listed) ∙ so.options.0 o there, so.options.1);
      plain = so.plain;
      whole = whole;
    }
