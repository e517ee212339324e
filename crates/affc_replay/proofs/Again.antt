-- A certificate that was made with a text is replayed to it.
use Rattle.std.proofs.Common.{◌≡◌, ℕ, zero, suc, ◌≤◌, Bool, true, false, true≢false, ◌&&◌, if◌then◌else◌, List, [], ◌∷◌, ◌++◌, length, get_or, map, Option, Some, None, refl, sym, ap, ap₂, subst, ◌∙◌, inl, inr, arith}
use Rattle.std.specs.Prelude.{slice_get}
use Rattle.std.specs.Cmp.Lexicographic.{pointwise}
use Rattle.std.proofs.lemmas.Option.{none-some, same_Some}
use Rattle.std.proofs.lemmas.Slice.Eq.{slice_eq-Decides}
use Rattle.affc_rows.specs.Forms.{Affine}
use Rattle.affc_ast.specs.declared.tree.ArrayId.{ArrayId}
use Rattle.affc_ast.specs.declared.tree.Program.{Program}
use Rattle.affc_ast.specs.Meaning.{arrays_of}
use Rattle.affc_grammar.specs.Limits.{limits_of}
use Rattle.affc_grammar.proofs.Texts.{one_tree}
use Rattle.affc_trace.specs.Law.{IsIn}
use Rattle.affc_trace.specs.Target.{numbers_in}
use Rattle.affc_trace.specs.declared.schedule.Schedule.{Schedule}
use Rattle.affc_trace.proofs.Once.{in_append}
use Rattle.affc_domain.specs.Affine.{form_of}
use Rattle.affc_domain.specs.Arrays.{declared_arrays}
use Rattle.affc_domain.specs.Ranges.{number_ranges}
use Rattle.affc_domain.proofs.Lists.{length_map, in_all}
use Rattle.affc_domain.proofs.RangeLemmas.{numbers_are}
use Rattle.affc_basis.specs.declared.fold.Fold.{Fold}
use Rattle.affc_basis.specs.FoldLists.{AreFoldsIn}
use Rattle.affc_basis.specs.Folds.{forms_of, fold_of}
use Rattle.affc_basis.specs.Listed.{Shape}
use Rattle.affc_basis.proofs.FoldsFound.{folds_are_found}
use Rattle.affc_foldloops.proofs.ReplaceLemmas.{fold_in}
use Rattle.affc_nest.specs.declared.nest.ArrayInfo.{ArrayInfo}
use Rattle.affc_nest.specs.declared.nest.Nest.{Nest}
use Rattle.affc_nest.specs.Laws.{HasNest}
use Rattle.affc_nest.specs.Nests.{nest_of}
use Rattle.affc_plain.proofs.Programs.{reads_plain}
use Rattle.affc_rewrite.specs.Rewrite.{same_form, are_units, is_whole, unless_whole, extent_forms, fold_at_work, folded_program, PrintAlike}
use Rattle.affc_rewrite.proofs.Whole.{forms_known}
use Rattle.affc_rewrite.proofs.Works.{printed_by_work}
use Rattle.affc_foldprint.specs.Laws.{FoldsWellNamed, FoldsCompile}
use Rattle.affc_foldprint.proofs.KnownArrays.{form_at}
use Rattle.affc_loopends.specs.declared.scanned.scanned.Scanned.{Scanned}
use Rattle.affc_loopends.specs.scanned.Scanned.{Scans}
use Rattle.affc_cprint.specs.Layout.{printed_text}
use Rattle.affc_split.specs.Budgets.{Account}
use Rattle.affc_folds.specs.Folding.{IsLeftWhole}
use Rattle.affc_schedtext.specs.declared.plan.Plan.{Plan}
use Rattle.affc_schedtext.specs.Answers.{PlanReads}
use Rattle.affc_accept.specs.Accepted.{IsAccepted}
use Rattle.affc_accept.specs.Bases.{identity}
use Rattle.affc_accept.proofs.OneShown.{Said, said_of, one_shown}
use Rattle.affc_accept.proofs.Same.{form_decides}
use Rattle.affc_certify.specs.Certified.{IsFoldShownOf, IsWholeFold, Shows}
use Rattle.affc_driver.specs.Accounts.{FoldsCertified}
use Rattle.affc_driver.specs.Made.{IsMadeOf}
use Rattle.affc_driver.specs.Reports.{report_text}
use Rattle.affc_driver.proofs.Compiled.{plan_scheduled}
use Rattle.affc_driver.proofs.Ranked.{reads_naming_arrays}
use Rattle.affc_replay.specs.Folds.{scalars_from, AreAll}
use Rattle.affc_replay.specs.Laws.{CertifiedIsReplayed, ReplaysTheSame}
use Rattle.affc_replay.specs.Replays.{ReplaysTo}
use Rattle.affc_replay.proofs.Decided.{reads_temporaries, decided, replays_to}
use Rattle.affc_replay.proofs.Plans.{one_schedule}
use Rattle.affc_replay.proofs.Valid.{scalar_fold, are_empty}

-- ---- Folds of the same rows and moduli

module _ (extents : List Affine) where
  alike_work : (f g : Fold) → f.basis.rows ≡ g.basis.rows → forms_of f.moduli ≡ forms_of g.moduli → PrintAlike (unless_whole extents (Some f)) (unless_whole extents (Some g))
  alike_work f g rows moduli = by (is_whole extents f) (is_whole extents g) (ap₂ (λ ms rs. pointwise same_form ms extents && are_units 0 rs) moduli rows)
    where
      by : (t u : Bool) → t ≡ u → PrintAlike (if t then None else Some f) (if u then None else Some g)
      by true true e = tt
      by true false e = absurd (true≢false e)
      by false true e = absurd (true≢false (sym e))
      by false false e = (rows, moduli)

  whole_work : (g : Fold) → is_whole extents g ≡ true → unless_whole extents (Some g) ≡ None
  whole_work g e = ap (λ t. if t then None else Some g) e

  -- of no dimensions each fold leaves the array whole
  no_dimensions : (g : Fold) → length g.basis.rows ≡ 0 → length extents ≡ 0 → unless_whole extents (Some g) ≡ None
  no_dimensions g rows none = whole_work g (by (forms_of g.moduli) extents g.basis.rows (length_map (λ m. m.form) g.moduli ∙ g.one_each ∙ rows) none rows)
    where
      by : (ms es rs : List Affine) → length ms ≡ 0 → length es ≡ 0 → length rs ≡ 0 → pointwise same_form ms es && are_units 0 rs ≡ true
      by [] [] [] a b c = refl
      by (m ∷ ms) es rs a b c = absurd (omega (arith, a))
      by [] (e ∷ es) rs a b c = absurd (omega (arith, b))
      by [] [] (r ∷ rs) a b c = absurd (omega (arith, c))

units_are : (n : ℕ) → n ≤ 4 → are_units 0 (identity n).rows ≡ true
units_are zero l = refl
units_are (suc zero) l = refl
units_are (suc (suc zero)) l = refl
units_are (suc (suc (suc zero))) l = refl
units_are (suc (suc (suc (suc zero)))) l = refl
units_are (suc (suc (suc (suc (suc n))))) l = absurd (omega (arith, l))

-- ---- What is shown of a program's folds

module _ (program : Program) where
  abbrev extents : ℕ → List Affine
  extents array = get_or (extent_forms program) array []

  abbrev first : ℕ
  first = numbers_in program.params

  -- the extents of an array as its nest has them
  extents_are : (array : ℕ) (info : ArrayInfo) → slice_get (nest_of program).arrays array ≡ Some info → info.extents ≡ extents array
  extents_are array info e =
      sym (entry (nest_of program).arrays array e)
      ∙ ap (λ es. get_or es array []) (forms_known (length (number_ranges program.params)) first (declared_arrays program) (sym (numbers_are program.params)))
    where
      entry : (as' : List ArrayInfo) (k : ℕ) → slice_get as' k ≡ Some info → get_or (map (λ (a : ArrayInfo). a.extents) as') k [] ≡ info.extents
      entry [] k e = absurd (none-some info e)
      entry (a ∷ as') zero e = ap (λ (a : ArrayInfo). a.extents) (same_Some a info e)
      entry (a ∷ as') (suc k) e = entry as' k e

  whole_is : (array : ℕ) (g : Fold) → IsWholeFold (nest_of program) array g → is_whole (extents array) g ≡ true
  whole_is array g w =
      let few = ((g.basis).square).few in
      let moduli : pointwise same_form (forms_of g.moduli) (extents array) ≡ true =
      (slice_eq-Decides form_decides (forms_of g.moduli) (extents array) (pointwise same_form (forms_of g.moduli) (extents array)) refl).1 (w.moduli ∙ extents_are array w.info w.declared) in
      let units : are_units 0 g.basis.rows ≡ true = ap (λ (s : Shape). are_units 0 s.rows) w.unit ∙ units_are (length g.basis.rows) few in
      ap₂ (λ a b. a && b) moduli units

  -- a fold has a row for each extent
  as_many : (folds : List (ArrayId × Fold)) → AreFoldsIn program folds → (array : ℕ) (fold : Fold) → fold_of folds array ≡ Some fold → length fold.basis.rows ≡ length (extents array)
  as_many folds are array fold e =
      let is = fold_in program folds are array fold e in
      is.rows ∙ sym (ap length (form_at first (arrays_of program.params) program.temps is.number array is.decl is.behind is.stands) ∙ length_map (form_of first 0) is.decl.extents)

  -- the fold of an array as it is shown, where it is shown with the same rows and moduli
  shown_alike : (array : ℕ) (o : Option Fold) (said g : Fold) → IsFoldShownOf (nest_of program) array o said → said.basis.rows ≡ g.basis.rows → forms_of said.moduli ≡ forms_of g.moduli
      → PrintAlike (unless_whole (extents array) o) (unless_whole (extents array) (Some g))
  shown_alike array None said g h rows moduli =
      let own : is_whole (extents array) g ≡ true = ap₂ (λ ms rs. pointwise same_form ms (extents array) && are_units 0 rs) (sym moduli) (sym rows) ∙ whole_is array said h in
      subst (PrintAlike None) (sym (whole_work (extents array) g own)) tt
  shown_alike array (Some f) said g h rows moduli = alike_work (extents array) f g (ap (λ (s : Shape). s.rows) h.basis ∙ rows) (ap forms_of h.moduli ∙ moduli)

  module _ (folds shown all : List (ArrayId × Fold)) (are : AreFoldsIn program folds) (full : AreAll (nest_of program) shown all) (all_in : AreFoldsIn program all) (none_left : ¬ (IsLeftWhole program all))
      (says : (array : ArrayId) (g : Fold) → IsIn (array, g) shown → (said : Fold) × IsFoldShownOf (nest_of program) array.0 (fold_of folds array.0) said × (said.basis.rows ≡ g.basis.rows) × (forms_of said.moduli ≡ forms_of g.moduli)) where
    no_rows : (array : ℕ) (o : Option Fold) → fold_of folds array ≡ o → length (extents array) ≡ 0 → unless_whole (extents array) o ≡ None
    no_rows array None e none = refl
    no_rows array (Some f) e none = no_dimensions (extents array) f (as_many folds are array f e ∙ none) none

    by : (array : ℕ) (w o : Option Fold) → fold_of all array ≡ w → fold_of folds array ≡ o → PrintAlike (unless_whole (extents array) o) (unless_whole (extents array) w)
    by array None None e f = tt
    by array None (Some fold) e f =
        let is = fold_in program folds are array fold f in
        absurd (none_left (record { number = is.number; decl = is.decl; stands = is.stands; unfolded = ap (fold_of all) (sym is.behind) ∙ e }))
    by array (Some g) o e f =
        let found = (folds_are_found program all array g all_in).0 e in
        elim (in_append shown full.scalars (found.0, g) (subst (IsIn (found.0, g)) full.both found.2)) [
          | inl i ↦ (
              let s = says found.0 g i in
              let here : IsFoldShownOf (nest_of program) array (fold_of folds array) s.0 = subst (λ n. IsFoldShownOf (nest_of program) n (fold_of folds n) s.0) found.1 s.1 in
              shown_alike array o s.0 g (subst (λ w. IsFoldShownOf (nest_of program) array w s.0) f here) s.2 s.3
              )
          | inr i ↦ (
              let rows : length g.basis.rows ≡ 0 = ap length (in_all (λ (x : ArrayId × Fold). x.1.basis.rows ≡ []) full.scalars (found.0, g) full.are_scalars.empty i) in
              let none : length (extents array) ≡ 0 = sym (as_many all all_in array g e) ∙ rows in
              subst (λ w. PrintAlike w (unless_whole (extents array) (Some g))) (sym (no_rows array o f none)) (subst (PrintAlike None) (sym (no_dimensions (extents array) g rows none)) tt)
              )
        ]

    pub same_printed : folded_program program folds ≡ folded_program program all
    same_printed = printed_by_work program folds all (λ array. by array (fold_of all array) (fold_of folds array) refl refl)

-- ---- What a certificate of a text is replayed to

module _ (named : FoldsWellNamed) (compiled : FoldsCompile) where
  pub certified_is_replayed : (Answers : List ℕ → ℕ → Type 0) → CertifiedIsReplayed Answers
  certified_is_replayed Answers source schedule left text report certificate f =
      let t = f.folds_with.folds_to in
      let program : Program = t.compiles.source in
      let reads = t.compiles.source_reads in
      let shown = f.certified.shown in
      let scalars = map scalar_fold (scalars_from 0 (nest_of program).arrays) in
      let all = shown ++ scalars in
      let full : AreAll (nest_of program) shown all = record { scalars = scalars; are_scalars = are_empty (scalars_from 0 (nest_of program).arrays); both = refl } in
      let has : HasNest program = record { plain = reads_plain source program reads t.plain; near = t.within.near } in
      let d = decided program t.plan certificate shown all has (reads_naming_arrays source program reads) (reads_temporaries source program reads t.plain) (plan_scheduled program (Some schedule) t.plan t.planned) f.certified.accepted full in
      let same = same_printed program t.folds shown all t.are_folds.in_program full d.fold_all.in_program d.fold_all.all (λ array g i. (g, f.certified.shows array g i, refl, refl)) in
      let told = report_text program all [] t.scanned.loose.items in
      let made : IsMadeOf program t.plan all [] text told = record {
        scanned = t.scanned;
        scans = subst (λ q. Scans q t.plan.schedule t.scanned) same t.scans;
        printed = t.printed ∙ ap printed_text t.loops;
        told = refl;
      } in
      (told, replays_to named compiled program t.plan schedule certificate text told t.planned (record { folds = all; decided = d; made = made }) source reads t.plain)

-- ---- What else it is replayed to

-- in a list of which the same is said, of some fold the same is said
said_in : (xs ys : List (ArrayId × Fold)) (y : ArrayId × Fold) → map said_of xs ≡ map said_of ys → IsIn y ys → (x : ArrayId × Fold) × IsIn x xs × (said_of x ≡ said_of y)
said_in xs [] y e i = absurd i
said_in [] (z ∷ ys) y e i = absurd (cc)
said_in (x ∷ xs) (z ∷ ys) y e (inl s) = let first : said_of x ≡ said_of z = cc in (x, inl refl, first ∙ ap said_of (sym s))
said_in (x ∷ xs) (z ∷ ys) y e (inr i) =
    let more : map said_of xs ≡ map said_of ys = cc in
    let r = said_in xs ys y more i in
    (r.0, inr r.1, r.2)

module _ (Answers : List ℕ → ℕ → Type 0) (source schedule : List ℕ) (left : Account) (text report certificate again told : List ℕ) (f : FoldsCertified Answers source (Some schedule) left text report certificate)
    (r : ReplaysTo source schedule certificate again told) where
  abbrev program : Program
  program = f.folds_with.folds_to.compiles.source

  one_source : r.compiles.source ≡ program
  one_source = one_tree limits_of source r.compiles.source program r.compiles.source_reads f.folds_with.folds_to.compiles.source_reads

  -- where the replay is of the same tree
  same_folds : (q : Program) → q ≡ program → AreAll (nest_of q) r.shown r.folds → AreFoldsIn q r.folds → ¬ (IsLeftWhole q r.folds) → map said_of f.certified.shown ≡ map said_of r.shown
      → folded_program program f.folds_with.folds_to.folds ≡ folded_program q r.folds
  same_folds q e full all_in none_left same =
      let t = f.folds_with.folds_to in
      same_printed program t.folds r.shown r.folds t.are_folds.in_program (subst (λ p. AreAll (nest_of p) r.shown r.folds) e full) (subst (λ p. AreFoldsIn p r.folds) e all_in) (subst (λ p. ¬ (IsLeftWhole p r.folds)) e none_left) (says same)
      ∙ ap (λ p. folded_program p r.folds) (sym e)
    where
      says : map said_of f.certified.shown ≡ map said_of r.shown → (array : ArrayId) (g : Fold) → IsIn (array, g) r.shown
          → (said : Fold) × IsFoldShownOf (nest_of program) array.0 (fold_of f.folds_with.folds_to.folds array.0) said × (said.basis.rows ≡ g.basis.rows) × (forms_of said.moduli ≡ forms_of g.moduli)
      says same array g i =
          let x = said_in f.certified.shown r.shown (array, g) same i in
          let shows = f.certified.shows x.0.0 x.0.1 x.1 in
          (x.0.1, subst (λ n. IsFoldShownOf (nest_of program) n (fold_of f.folds_with.folds_to.folds n) x.0.1) (ap (λ (s : Said). s.0) x.2) shows, ap (λ (s : Said). s.1) x.2, ap (λ (s : Said). s.2) x.2)

  one_plan : r.plan.schedule ≡ f.folds_with.folds_to.plan.schedule
  one_plan = one_schedule schedule program r.plan f.folds_with.folds_to.plan (subst (λ p. PlanReads schedule p r.plan) one_source r.planned) f.folds_with.folds_to.planned

  one_said : map said_of f.certified.shown ≡ map said_of r.shown
  one_said =
      one_shown (nest_of program) f.folds_with.folds_to.plan r.plan certificate f.certified.shown r.shown f.certified.accepted (subst (λ p. IsAccepted (nest_of p) r.plan certificate r.shown) one_source r.accepted)

  one_folded : folded_program program f.folds_with.folds_to.folds ≡ folded_program r.compiles.source r.folds
  one_folded = same_folds r.compiles.source one_source r.are_all r.fold_all.in_program r.fold_all.all one_said

pub replays_the_same : (Answers : List ℕ → ℕ → Type 0) → ReplaysTheSame Answers
replays_the_same Answers source schedule left text report certificate again told f r = record {
  one_program = one_folded Answers source schedule left text report certificate again told f r;
  one_order = sym (one_plan Answers source schedule left text report certificate again told f r);
  one_text = λ ends own its.
      let t = f.folds_with.folds_to in
      let same : ends (folded_program r.compiles.source r.folds) r.plan.schedule ≡ ends (folded_program t.compiles.source t.folds) t.plan.schedule =
      ap₂ ends (sym (one_folded Answers source schedule left text report certificate again told f r)) (one_plan Answers source schedule left text report certificate again told f r) in
      r.printed ∙ ap printed_text (r.loops ∙ ap (λ (s : Scanned). s.program) (its ∙ same ∙ sym own)) ∙ sym (t.printed ∙ ap printed_text t.loops);
}
