-- Each act of a plan may be done, and builds and tests nothing.
use Rattle.std.specs.Prelude.{◌≡◌, ◌<◌, ◌≤◌, ◌+◌, ◌&&◌, ℕ, Bool, true, false, if◌then◌else◌, All, List, [], ◌∷◌, ◌++◌, Option, Some, None, Result, Ok, Err, IfOk, find, nat_le}
use Rattle.std.specs.List.{cons_option, filter_map}
use Rattle.std.proofs.Common.{zero, suc, refl, sym, subst, ◌∙◌, arith}
use Rattle.std.proofs.lemmas.Bool.{and_from, le-leb}
use Rattle.std.proofs.lemmas.List.Elements.{All-append, All-cons, All-nil}
use Rattle.std.proofs.lemmas.Option.{same_Some}
use Rattle.ae_base.specs.Names.{is_path, IsPath}
use Rattle.ae_base.specs.declared.outcome.Outcome.{Outcome}
use Rattle.ae_types.specs.Observation.{Observation}
use Rattle.ae_types.specs.Trees.{TreeRow, baseline_of}
use Rattle.ae_types.specs.Phases.{is_remove, is_test}
use Rattle.ae_log.specs.Settings.{upward}
use Rattle.ae_words.specs.Formed.{IsFormed, are_plain, has, is_change_number, is_no_config}
use Rattle.ae_words.specs.Meaning.{is_whole}
use Rattle.ae_words.specs.Table.{allows, row}
use Rattle.ae_words.proofs.Formed.{none_if, some_if}
use Rattle.ae_words.specs.declared.table.Function.{Function}
use Rattle.ae_words.specs.declared.table.Function.TheVariants as function
use Rattle.ae_words.specs.declared.table.Setting.{Setting}
use Rattle.ae_words.specs.declared.table.Setting.TheVariants as setting
use Rattle.ae_bundle.specs.declared.bundle.Bundle.{Bundle}
use Rattle.ae_bundle.specs.declared.bundle.BundleFile.{BundleFile}
use Rattle.ae_lines.specs.Acts.{MayBePlanned}
use Rattle.ae_lines.specs.declared.act.Act.{Act}
use Rattle.ae_lines.specs.declared.act.Act.TheVariants.{Put, Run}
use Rattle.ae_outside.specs.declared.dir.Dir.TheVariants.{Develop, Here}
use Rattle.ae_dist.specs.Plan.{adding, addition, attributes_path, attributes_text, begin, free_number, is_there, is_unused, new_change, on_path, plan_of, put, removal}
use Rattle.ae_dist.specs.Steps.{ArePaths, IsPlanned}
use Rattle.ae_dist.proofs.Upward.{all-numbers}

-- ---- the number

below : (numbers : List ℕ) (n count found : ℕ) → find (is_unused numbers) (upward n count) ≡ Some found → (n ≤ found) × (found < n + count)
below numbers n zero found is = absurd (let none : None ≡ Some found = is in cc)
below numbers n (suc count) found is = go (below numbers (n + 1) count found) (is_unused numbers n) is
  where
    go : (find (is_unused numbers) (upward (n + 1) count) ≡ Some found → (n + 1 ≤ found) × (found < n + 1 + count)) → (b : Bool) → (if b then Some n else find (is_unused numbers) (upward (n + 1) count)) ≡ Some found
        → (n ≤ found) × (found < n + suc count)
    go rest true same = let here : n ≡ found = same_Some n found same in (omega (arith, here), omega (arith, here))
    go rest false later = let within = rest later in (omega (arith, within.0), omega (arith, within.1))

number_fits : (o : Observation) (number : ℕ) → free_number o ≡ Some number → is_change_number number ≡ true
number_fits o number is =
    let within = below o.numbers 10 1990 number (all-numbers o.numbers ∙ is) in
    and_from (nat_le 10 number) (nat_le number 1999) (le-leb 10 number within.0) (le-leb number 1999 (omega (arith, within.1)))

-- ---- commands

whole_new_change : is_whole new_change ≡ true
unfolding is_whole
whole_new_change = refl

new_change_options : (o : Setting) → has new_change o ≡ true → allows function.NewChange None o ≡ true
new_change_options setting.File there = refl
new_change_options setting.Project there = absurd (let both : false ≡ true = there in cc)
new_change_options setting.Change there = absurd (let both : false ≡ true = there in cc)
new_change_options setting.Delta there = absurd (let both : false ≡ true = there in cc)
new_change_options setting.Overwriting there = absurd (let both : false ≡ true = there in cc)
new_change_options setting.Baseline there = absurd (let both : false ≡ true = there in cc)
new_change_options setting.Regression there = absurd (let both : false ≡ true = there in cc)
new_change_options setting.Reason there = absurd (let both : false ≡ true = there in cc)

new_change_formed : IsFormed new_change
new_change_formed = record {
  kinds = record { project = refl; change = refl; attributes = refl; delta = refl; name = refl; reason = refl };
  options = (new_change_options, refl);
  plain = refl;
  whole = whole_new_change;
}

module _ (number : ℕ) (fits : is_change_number number ≡ true) where
  whole_begin : is_whole (begin number) ≡ true
  unfolding is_whole
  whole_begin = refl

  begin_options : (o : Setting) → has (begin number) o ≡ true → allows function.DevelopBegin None o ≡ true
  begin_options setting.Change there = refl
  begin_options setting.Project there = absurd (let both : false ≡ true = there in cc)
  begin_options setting.File there = absurd (let both : false ≡ true = there in cc)
  begin_options setting.Delta there = absurd (let both : false ≡ true = there in cc)
  begin_options setting.Overwriting there = absurd (let both : false ≡ true = there in cc)
  begin_options setting.Baseline there = absurd (let both : false ≡ true = there in cc)
  begin_options setting.Regression there = absurd (let both : false ≡ true = there in cc)
  begin_options setting.Reason there = absurd (let both : false ≡ true = there in cc)

  begin_formed : IsFormed (begin number)
  begin_formed = record {
    kinds = record { project = refl; change = fits; attributes = refl; delta = refl; name = refl; reason = refl };
    options = (begin_options, refl);
    plain = refl;
    whole = whole_begin;
  }

  -- a command on one path, by a function that allows a change
  path_options : (f : Function) (path : List ℕ) → allows f None setting.Change ≡ true → (o : Setting) → has (on_path f number path) o ≡ true → allows f None o ≡ true
  path_options f path change setting.Change there = change
  path_options f path change setting.Project there = absurd (let both : false ≡ true = there in cc)
  path_options f path change setting.File there = absurd (let both : false ≡ true = there in cc)
  path_options f path change setting.Delta there = absurd (let both : false ≡ true = there in cc)
  path_options f path change setting.Overwriting there = absurd (let both : false ≡ true = there in cc)
  path_options f path change setting.Baseline there = absurd (let both : false ≡ true = there in cc)
  path_options f path change setting.Regression there = absurd (let both : false ≡ true = there in cc)
  path_options f path change setting.Reason there = absurd (let both : false ≡ true = there in cc)

  -- it may be done in a plan
  abbrev IsOnPath : Function → List ℕ → Type 0
  IsOnPath f path = MayBePlanned (Run (on_path f number path))

  module _ (path : List ℕ) (good : is_path path ≡ true) where
    whole_path : (f : Function) → is_whole (on_path f number path) ≡ true → are_plain (row f) (on_path f number path) ≡ true → allows f None setting.Change ≡ true → IsFormed (on_path f number path)
    whole_path f whole plain change = record {
      kinds = record { project = refl; change = fits; attributes = refl; delta = refl; name = refl; reason = refl };
      options = (path_options f path change, refl);
      plain = plain;
      whole = whole;
    }

    remove_whole : is_whole (on_path function.RemoveFile number path) ≡ true
    unfolding is_whole
    remove_whole = refl

    copy_whole : is_whole (on_path function.CopyFile number path) ≡ true
    unfolding is_whole
    copy_whole = refl

    file_whole : is_whole (on_path function.NewFile number path) ≡ true
    unfolding is_whole
    file_whole = refl

    test_whole : is_whole (on_path function.NewTest number path) ≡ true
    unfolding is_whole
    test_whole = refl

    removes : IsOnPath function.RemoveFile path
    removes = ((whole_path function.RemoveFile remove_whole (λ i. (((good i && true) && true) && true) && true) refl, refl), (λ is. let both : function.RemoveFile ≡ function.Build = is in cc), (λ is. let both : function.RemoveFile ≡ function.Test = is in cc))

    copies : IsOnPath function.CopyFile path
    copies = ((whole_path function.CopyFile copy_whole (λ i. (((good i && true) && true) && true) && true) refl, refl), (λ is. let both : function.CopyFile ≡ function.Build = is in cc), (λ is. let both : function.CopyFile ≡ function.Test = is in cc))

    files : IsOnPath function.NewFile path
    files = ((whole_path function.NewFile file_whole (λ i. (((good i && true) && true) && true) && true) refl, refl), (λ is. let both : function.NewFile ≡ function.Build = is in cc), (λ is. let both : function.NewFile ≡ function.Test = is in cc))

    tests : is_no_config path ≡ true → IsOnPath function.NewTest path
    tests other = ((whole_path function.NewTest test_whole (λ i. (((other i && true) && ((good i && true) && true)) && true) && true) refl, refl), (λ is. let both : function.NewTest ≡ function.Build = is in cc), (λ is. let both : function.NewTest ≡ function.Test = is in cc))

  -- ---- the acts of files

  adds : (there test other : Bool) (path : List ℕ) → is_path path ≡ true → is_no_config path ≡ other → IsOnPath (if there then function.CopyFile else if test && other then function.NewTest else function.NewFile) path
  adds true test other path good is = copies path good
  adds false true true path good is = tests path good is
  adds false true false path good is = files path good
  adds false false other path good is = files path good

  module _ (tree : List TreeRow) where
    removal_may : (file : BundleFile) → IsPath file.path → (act : Act) → removal tree number file ≡ Some act → MayBePlanned act
    removal_may file is_path_of act is =
        subst MayBePlanned (some_if (is_remove file.action && is_there tree file.path) (Run (on_path function.RemoveFile number file.path)) act is).1 (removes file.path is_path_of)

    addition_may : (file : BundleFile) → IsPath file.path → (act : Act) → addition tree number file ≡ Some act → MayBePlanned act
    addition_may file is_path_of act is =
        let made : Some (Run (on_path (adding tree file) number file.path)) ≡ Some act = (none_if (is_remove file.action) (Some (Run (on_path (adding tree file) number file.path))) act is).1 in
        subst MayBePlanned (same_Some (Run (on_path (adding tree file) number file.path)) act made) (adds (is_there tree file.path) (is_test file.usage) (is_no_config file.path) file.path is_path_of refl)

  put_may : (file : BundleFile) → IsPath file.path → (act : Act) → put number file ≡ Some act → MayBePlanned act
  put_may file is_path_of act is =
      let made : Some (Put (Develop number) file.path file.bytes) ≡ Some act = (none_if (is_remove file.action) (Some (Put (Develop number) file.path file.bytes)) act is).1 in
      subst MayBePlanned (same_Some (Put (Develop number) file.path file.bytes) act made) tt

-- ---- all acts

module _ (f : BundleFile → Option Act) (may : (file : BundleFile) → IsPath file.path → (act : Act) → f file ≡ Some act → MayBePlanned act) where
  each_may : (bundled : List BundleFile) → ArePaths bundled → All MayBePlanned (filter_map f bundled)
  each_may [] fit = All-nil MayBePlanned
  each_may (file ∷ bundled) fit = go (each_may bundled fit.1) (f file) refl
    where
      go : All MayBePlanned (filter_map f bundled) → (o : Option Act) → f file ≡ o → All MayBePlanned (cons_option o (filter_map f bundled))
      go rest (Some act) is = All-cons MayBePlanned act (filter_map f bundled) (may file fit.0 act is) rest
      go rest None is = rest

-- so is each of a plan for a number of a change
pub plan_formed : (tree : List TreeRow) (number : ℕ) (bundle : Bundle) → is_change_number number ≡ true → ArePaths bundle.files → All MayBePlanned (plan_of tree number bundle)
plan_formed tree number bundle good of_file =
    let removals : List Act = filter_map (removal tree number) bundle.files in
    let additions : List Act = filter_map (addition tree number) bundle.files in
    let puts : List Act = filter_map (put number) bundle.files in
    let begins : MayBePlanned (Run (begin number)) = ((begin_formed number good, refl), (λ is. let both : function.DevelopBegin ≡ function.Build = is in cc), (λ is. let both : function.DevelopBegin ≡ function.Test = is in cc)) in
    let makes : MayBePlanned (Run new_change) = ((new_change_formed, refl), (λ is. let both : function.NewChange ≡ function.Build = is in cc), (λ is. let both : function.NewChange ≡ function.Test = is in cc)) in
    All-cons MayBePlanned (Put Here attributes_path (attributes_text bundle)) (Run new_change ∷ Run (begin number) ∷ (removals ++ (additions ++ puts))) tt
    (All-cons MayBePlanned (Run new_change) (Run (begin number) ∷ (removals ++ (additions ++ puts))) makes
    (All-cons MayBePlanned (Run (begin number)) (removals ++ (additions ++ puts)) begins
    (All-append MayBePlanned removals (additions ++ puts) (each_may (removal tree number) (removal_may number good tree) bundle.files of_file)
    (All-append MayBePlanned additions puts (each_may (addition tree number) (addition_may number good tree) bundle.files of_file)
    (each_may (put number) (put_may number good) bundle.files of_file)))))

-- and of one that is answered
pub answer_formed : (o : Observation) (bundle : Bundle) (result : Result (List Act) Outcome) → IsPlanned o bundle result → ArePaths bundle.files → IfOk result (All MayBePlanned)
answer_formed o bundle (Ok acts) is paths = subst (All MayBePlanned) (sym is.2) (plan_formed (baseline_of o) is.0 bundle (number_fits o is.0 is.1) paths)
answer_formed o bundle (Err why) is paths = tt

pub first_formed : {E : Type 0} (bundle : Bundle) (result : Result (List Act) E) → IfOk result (λ acts. acts ≡ plan_of [] 10 bundle) → ArePaths bundle.files → IfOk result (All MayBePlanned)
first_formed bundle (Ok acts) is paths = subst (All MayBePlanned) (sym is) (plan_formed [] 10 bundle refl paths)
first_formed bundle (Err why) is paths = tt
