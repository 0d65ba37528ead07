-- Acts that come of the files of a change set, one of a file at most: what stands after all of them.
use Rattle.std.proofs.Common.{◌≡◌, ℕ, refl, sym, ◌∙◌, ap, subst, List, [], ◌∷◌, ◌++◌, Option, Some, None, Bool, true, false, cond}
use Rattle.std.specs.Prelude.{IfSome}
use Rattle.std.specs.List.{AllByRecursion, filter_map, cons_option, find}
use Rattle.std.specs.Option.{option_and_then, option_or}
use Rattle.std.specs.Str.{bytes_eq}
use Rattle.std.proofs.lemmas.Option.{IfSome_then}
use Rattle.ae_base.specs.Rows.{text_cmp}
use Rattle.ae_outside.specs.Trees.{Tree}
use Rattle.ae_types.specs.declared.change.ChangeFile.{ChangeFile}
use Rattle.ae_types.specs.Found.{file_path}
use Rattle.ae_types.specs.Ordered.{Above, Ascends}
use Rattle.ae_types.proofs.Keys.{by_text}
use Rattle.ae_types.proofs.Ordered.{at-above, none-some}
use Rattle.ae_received.specs.Edits.{Edit, edit_at}
use Rattle.ae_received.proofs.Touches.{Touched, none-found}

module _ {A : Type 0} (key : A → List ℕ) where
  -- the file of a path
  abbrev pub at_path : List ℕ → List A → Option A
  at_path q files = find (λ file. bytes_eq q (key file)) files

module _ {Point Step Act : Type 0} (led : Step → Point) (Runs : Point → Act → Step → Type 0) where
  -- steps that do these acts, each from where the one before it led
  abbrev pub AllRun : Point → List Act → List Step → Type 0
  AllRun from [] [] = Unit {0}
  AllRun from (act ∷ acts) (step ∷ steps) = Runs from act step × AllRun (led step) acts steps
  AllRun from [] (step ∷ steps) = ⊥
  AllRun from (act ∷ acts) [] = ⊥

  module _ (tree : Point → Tree) (Stands : Point → List ChangeFile → Type 0) where
    -- an act of this path led to where these rows stand
    pub record Leads (path : List ℕ) (edit : Option Edit) (lies : Option (Option (List ℕ))) (from : Point) (files : List ChangeFile) (step : Step) : Type 0 where
      pub next : List ChangeFile
      pub stands : Stands (led step) next
      pub touched : Touched path edit lies files next (tree from) (tree (led step))

    module _ {A : Type 0} (key : A → List ℕ) (act_of : A → Option Act) (edit_by : A → Option Edit) (lies_by : A → Option (Option (List ℕ))) where
      -- All acts of these files led there, and these acts and steps are left. What the rows and the directory have at a path is what
      -- the act of its file makes of it.
      pub record Passed (sent : List A) (from : Point) (files : List ChangeFile) (rest : List Act) (steps : List Step) : Type 0 where
        pub to : Point
        pub next : List ChangeFile
        pub left : List Step
        pub reaches : (stop : Point → List Step → Point) → ((p : Point) (step : Step) (more : List Step) → stop p (step ∷ more) ≡ stop (led step) more) → stop from steps ≡ stop to left
        pub runs : AllRun to rest left
        pub stands : Stands to next
        pub ascend : Ascends text_cmp file_path files → Ascends text_cmp file_path next
        pub found : (q : List ℕ) → edit_at next q ≡ option_or (option_and_then edit_by (at_path key q sent)) (edit_at files q)
        pub lying : (q : List ℕ) → IfSome (option_and_then lies_by (at_path key q sent)) (λ bytes. tree to q ≡ bytes)
        pub quiet : (q : List ℕ) → option_and_then act_of (at_path key q sent) ≡ None → tree to q ≡ tree from q

      -- one file before those
      module _ (file : A) (sent : List A) (above : Above text_cmp key (key file) sent) (from mid : Point) (files between : List ChangeFile) (rest : List Act) (steps more : List Step)
          (touched : Touched (key file) (edit_by file) (lies_by file) files between (tree from) (tree mid)) (still : act_of file ≡ None → (q : List ℕ) → tree mid q ≡ tree from q)
          (goes : (stop : Point → List Step → Point) → ((p : Point) (step : Step) (more : List Step) → stop p (step ∷ more) ≡ stop (led step) more) → stop from steps ≡ stop mid more)
          (after : Passed sent mid between rest more) where
        none-after : (q : List ℕ) → bytes_eq q (key file) ≡ true → at_path key q sent ≡ None
        none-after q is = at-above by_text key q sent (subst (λ p. Above text_cmp key p sent) (sym (by_text.same_is q (key file) is)) above)

        found-more : (q : List ℕ) (b : Bool) → bytes_eq q (key file) ≡ b → edit_at after.next q ≡ option_or (option_and_then edit_by (cond b (Some file) (at_path key q sent))) (edit_at files q)
        found-more q true is =
            after.found q ∙ ap (λ v. option_or (option_and_then edit_by v) (edit_at between q)) (none-after q is) ∙ touched.found q
            ∙ ap (λ b. cond b (option_or (edit_by file) (edit_at files q)) (edit_at files q)) is
        found-more q false is =
            after.found q ∙ ap (option_or (option_and_then edit_by (at_path key q sent))) (touched.found q ∙ ap (λ b. cond b (option_or (edit_by file) (edit_at files q)) (edit_at files q)) is)

        lying-more : (q : List ℕ) (b : Bool) → bytes_eq q (key file) ≡ b → IfSome (option_and_then lies_by (cond b (Some file) (at_path key q sent))) (λ bytes. tree after.to q ≡ bytes)
        lying-more q true is =
            IfSome_then (lies_by file) {P = λ bytes. tree mid (key file) ≡ bytes} {Q = λ bytes. tree after.to q ≡ bytes} touched.there
            (λ bytes there. after.quiet q (ap (option_and_then act_of) (none-after q is)) ∙ ap (tree mid) (by_text.same_is q (key file) is) ∙ there)
        lying-more q false is = after.lying q

        quiet-more : (q : List ℕ) (b : Bool) → bytes_eq q (key file) ≡ b → option_and_then act_of (cond b (Some file) (at_path key q sent)) ≡ None → tree after.to q ≡ tree from q
        quiet-more q true is none = after.quiet q (ap (option_and_then act_of) (none-after q is)) ∙ still none q
        quiet-more q false is none = after.quiet q none ∙ touched.others q is

        one-more : Passed (file ∷ sent) from files rest steps
        one-more = record {
          to = after.to;
          next = after.next;
          left = after.left;
          reaches = λ stop more_stops. goes stop more_stops ∙ after.reaches stop more_stops;
          runs = after.runs;
          stands = after.stands;
          ascend = λ up. after.ascend (touched.ascend up);
          found = λ q. found-more q (bytes_eq q (key file)) refl;
          lying = λ q. lying-more q (bytes_eq q (key file)) refl;
          quiet = λ q none. quiet-more q (bytes_eq q (key file)) refl none;
        }

      -- a file of which no act comes changes nothing
      nothing-touched : (file : A) (files : List ChangeFile) (old : Tree) → edit_by file ≡ None → lies_by file ≡ None → Touched (key file) (edit_by file) (lies_by file) files files old old
      nothing-touched file files old no_edit no_file = record {
        ascend = λ up. up;
        found = λ q. none-found (bytes_eq q (key file)) (edit_at files q) ∙ ap (λ e. cond (bytes_eq q (key file)) (option_or e (edit_at files q)) (edit_at files q)) (sym no_edit);
        others = λ q e. refl;
        there = subst (λ v. IfSome v (λ bytes. old (key file) ≡ bytes)) (sym no_file) tt;
      }

      module _ (Fits : A → Type 0) (none : (file : A) → act_of file ≡ None → (edit_by file ≡ None) × (lies_by file ≡ None))
          (one : (file : A) → Fits file → (from : Point) (files : List ChangeFile) → Stands from files → (act : Act) → act_of file ≡ Some act → (step : Step) → Runs from act step
          → Leads (key file) (edit_by file) (lies_by file) from files step) where
        abbrev Goes : List A → Type 0
        Goes sent = (from : Point) (files : List ChangeFile) → Stands from files → (rest : List Act) (steps : List Step) → AllRun from (filter_map act_of sent ++ rest) steps → Passed sent from files rest steps

        with-file : (file : A) (sent : List A) → Above text_cmp key (key file) sent → Fits file → Goes sent → (v : Option Act) → act_of file ≡ v
            → (from : Point) (files : List ChangeFile) → Stands from files → (rest : List Act) (steps : List Step) → AllRun from (cons_option v (filter_map act_of sent) ++ rest) steps → Passed (file ∷ sent) from files rest steps
        with-file file sent above fits goes None is from files stands rest steps runs =
            let why = none file is in
            one-more file sent above from from files files rest steps steps (nothing-touched file files (tree from) why.0 why.1) (λ no q. refl) (λ stop more_stops. refl) (goes from files stands rest steps runs)
        with-file file sent above fits goes (Some act) is from files stands rest [] runs = absurd runs
        with-file file sent above fits goes (Some act) is from files stands rest (step ∷ steps) runs =
            let first = one file fits from files stands act is step runs.0 in
            one-more file sent above from (led step) files first.next rest (step ∷ steps) steps first.touched (λ no. none-some act (sym no ∙ is)) (λ stop more_stops. more_stops from step steps)
            (goes (led step) first.next first.stands rest steps runs.1)

        pub passes : (sent : List A) → Ascends text_cmp key sent → AllByRecursion Fits sent → Goes sent
        passes [] up fits from files stands rest steps runs = record {
          to = from;
          next = files;
          left = steps;
          reaches = λ stop more_stops. refl;
          runs = runs;
          stands = stands;
          ascend = λ up. up;
          found = λ q. refl;
          lying = λ q. tt;
          quiet = λ q no. refl;
        }
        passes (file ∷ sent) up fits from files stands rest steps runs =
            with-file file sent up.0 fits.0 (passes sent up.1 fits.1) (act_of file) refl from files stands rest steps runs
