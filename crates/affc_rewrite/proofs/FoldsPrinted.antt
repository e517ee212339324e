-- The printed subscripts and extents are those of the folds.
use Rattle.std.proofs.Common.{◌≡◌, ℕ, zero, suc, ◌+◌, ◌<◌, ◌≤◌, ◌^◌, ℤ, Bool, IsTrue, true, false, if◌then◌else◌, List, [], ◌∷◌, ◌++◌, length, get_or, map, Option, Some, None, refl, sym, ap, subst, ◌∙◌, arith}
use Rattle.std.specs.Prelude.{slice_get}
use Rattle.std.proofs.lemmas.Bool.{eq-eqb}
use Rattle.std.proofs.lemmas.Option.{none-some, slice_get_within}
use Rattle.affc_rows.specs.Forms.{Affine, value, values_of}
use Rattle.affc_ast.specs.declared.tree.ArrayId.{ArrayId}
use Rattle.affc_ast.specs.declared.tree.Decl.{Decl}
use Rattle.affc_ast.specs.declared.tree.Instance.{Instance}
use Rattle.affc_ast.specs.declared.tree.Ix.{Ix}
use Rattle.affc_ast.specs.declared.tree.Program.{Program}
use Rattle.affc_ast.specs.Fits.{whole, within_ranges}
use Rattle.affc_ast.specs.Meaning.{arrays_of}
use Rattle.affc_ast.specs.Store.{Element}
use Rattle.affc_ast.specs.Trace.{Assignment, assignments, element, trace}
use Rattle.affc_ast.specs.Values.{is_within}
use Rattle.affc_trace.specs.declared.schedule.Schedule.{Schedule}
use Rattle.affc_trace.specs.Law.{IsIn}
use Rattle.affc_trace.specs.Laws.{IsInContext}
use Rattle.affc_trace.specs.Target.{numbers_in}
use Rattle.affc_trace.proofs.Members.{to_second}
use Rattle.affc_domain.specs.Accesses.{Access, accesses_of}
use Rattle.affc_domain.specs.Affine.{form_of}
use Rattle.affc_domain.specs.Arrays.{declared_arrays, extents_at}
use Rattle.affc_domain.specs.Plain.{IsPlain, all_plain, plain_decls}
use Rattle.affc_domain.specs.Ranges.{first_wide, number_ranges}
use Rattle.affc_domain.proofs.Lists.{length_map, in_all}
use Rattle.affc_domain.proofs.RangeLemmas.{numbers_are}
use Rattle.affc_safe.specs.Overflow.{AreReadable, NeverOverflows}
use Rattle.affc_safe.specs.Safe.{IsSafe}
use Rattle.affc_safe.proofs.PlainNear.{plain_never_overflows}
use Rattle.affc_loops.proofs.Sizes.{all_at}
use Rattle.affc_foldloops.proofs.FoldedLaws.{within_long, dimensions, safe_at, replaces_at}
use Rattle.affc_nest.proofs.AccessLemmas.{wholes_here, plain_append}
use Rattle.affc_basis.specs.declared.fold.Fold.{Fold}
use Rattle.affc_basis.specs.Bases.{AreWithin}
use Rattle.affc_basis.specs.FoldLists.{AreFoldsIn}
use Rattle.affc_basis.specs.Folds.{KeepsLimits, forms_of, fold_of, folded, folded_by, place}
use Rattle.affc_basis.specs.Moduli.{IsModulus, ArePositive, remainders}
use Rattle.affc_basis.proofs.FoldsFound.{folds_are_found}
use Rattle.affc_foldloops.specs.Placed.{Replaces, HasFoldedLoops}
use Rattle.affc_foldloops.specs.Refolds.{refolded, FoldsBy}
use Rattle.affc_foldloops.proofs.RefoldLemmas.{refolded_keeps_shape}
use Rattle.affc_foldloops.proofs.ReplaceLemmas.{behind_extents, accesses_read, fold_in}
use Rattle.affc_rewrite.specs.Laws.{PrintedFolds, FoldedProgramReplaces}
use Rattle.affc_rewrite.specs.Rewrite.{components_from, is_whole, unless_whole, at_work, subscripts_by, extent_forms, folded_subscripts, folded_temps, has_calls, KeepLimits}
use Rattle.affc_rewrite.specs.Sizes.{AllSides, IsRow}
use Rattle.affc_rewrite.proofs.Accesses.{access_touches, sides_of, extents_are, parameters_are, named}
use Rattle.affc_rewrite.proofs.PlaceComponents.{components_are}
use Rattle.affc_rewrite.proofs.PrintedForms.{columns_known}
use Rattle.affc_rewrite.proofs.WholeFolds.{own_place, own_extents}
use Rattle.affc_rewrite.proofs.FoldedTemps.{decls_sized, decls_extents}

-- ---- Folds

pub rows_of : (fold : Fold) (j : ℕ) (row : Affine) → slice_get fold.basis.rows j ≡ Some row → IsRow (length fold.basis.rows) row
rows_of fold j row e =
    let basis = fold.basis in
    record {
      columns = all_at (λ (f : Affine). length f.coefs ≡ length basis.rows) basis.rows j row (basis.square).columns e;
      bounded = all_at (λ (f : Affine). AreWithin 256 f.coefs) basis.rows j row basis.row_bounds e;
      no_constant = (basis.identity j (slice_get_within basis.rows j row e)).row row e;
    }

-- ---- The program

module _ (source : Program) (folds : List (ArrayId × Fold)) (p : List ℤ) (plain : IsPlain source) (thin : first_wide source ≡ None) (within : IsTrue (within_ranges source.params p))
    (safe : IsSafe source p) (are : AreFoldsIn source folds) (limits : KeepLimits source folds)
    (positive : (array : ℕ) (fold : Fold) → fold_of folds array ≡ Some fold → ArePositive p (forms_of fold.moduli)) where
  abbrev first : ℕ
  first = numbers_in source.params

  small : NeverOverflows source p
  small = plain_never_overflows source p plain thin within

  at_first : first ≡ length p
  at_first = numbers_are source.params ∙ sym (parameters_are source p plain within).count

  moduli_fit : (array : ℕ) (fold : Fold) → fold_of folds array ≡ Some fold → (j : ℕ) (b : Affine) → slice_get (forms_of fold.moduli) j ≡ Some b → IsModulus (length p) b
  moduli_fit array fold e j b f =
      let found = (folds_are_found source folds array fold are).0 e in
      let keeps : KeepsLimits first fold = in_all (λ (f : ArrayId × Fold). KeepsLimits first f.1) folds (found.0, fold) limits found.2 in
      subst (λ n. IsModulus n b) at_first (all_at (IsModulus first) (forms_of fold.moduli) j b keeps f)

  -- the elements of an access by the fold at work, and that its subscripts are read
  abbrev IsPrinted : (names : List ℤ) → Access → (work o : Option Fold) → Type 0
  IsPrinted names x work o =
      let es : List Ix = subscripts_by work first (length names) (get_or (extent_forms source) x.0.0 []) x.1 in
      (map (λ e. whole e names) es ≡ folded_by o p (map (λ e. whole e names) x.1)) × AreReadable es names

  inside : (b : Instance) (a : Assignment) (x : Access) → IsIn b (trace source p) → slice_get (assignments source) b.statement ≡ Some a → IsIn x (accesses_of a)
      → is_within (map (λ e. whole e (p ++ b.iterators)) x.1) (get_or (extents_at (declared_arrays source) p) x.0.0 []) ≡ true
  inside b a x i e j = safe.within b (element (p ++ b.iterators) x.0 x.1) i (access_touches source p b a x e j)

  extents_known : (array : ℕ) → map (λ f. value f p) (get_or (extent_forms source) array []) ≡ get_or (extents_at (declared_arrays source) p) array []
  extents_known array =
      extents_are first p (declared_arrays source) array (sym at_first)
      (subst (λ n. IsTrue (plain_decls n (declared_arrays source))) (sym (numbers_are source.params)) (plain_append (length (number_ranges source.params)) (arrays_of source.params) source.temps plain.arrays plain.temps))

  access_printed : (b : Instance) (a : Assignment) (x : Access) → IsIn b (trace source p) → slice_get (assignments source) b.statement ≡ Some a → IsIn x (accesses_of a)
      → IsPrinted (p ++ b.iterators) x (at_work (extent_forms source) folds x.0.0) (fold_of folds x.0.0)
  access_printed b a x i e j = by (fold_of folds x.0.0) refl
    where
      names : List ℤ
      names = p ++ b.iterators

      reads : AreReadable x.1 names
      reads = accesses_read a names (small.assignments b a i e) x j

      extents : List Affine
      extents = get_or (extent_forms source) x.0.0 []

      by : (o : Option Fold) → fold_of folds x.0.0 ≡ o → IsPrinted names x (unless_whole extents o) o
      by None f = (refl, reads)
      by (Some fold) f =
          let n = named source p b a x plain thin within i e j in
          let params = parameters_are source p plain within in
          let here = inside b a x i e j in
          let long : length (map (λ e. whole e names) x.1) ≡ length fold.basis.rows =
          within_long (map (λ e. whole e names) x.1) _ here ∙ dimensions source p x.0.0 fold (fold_in source folds are x.0.0 fold f) in
          let known : length (map (λ e. whole e names) x.1) ≡ length x.1 = length_map (λ e. whole e names) x.1 in
          let there : is_within (map (λ e. whole e names) x.1) (map (λ f. value f p) extents) ≡ true = ap (is_within (map (λ e. whole e names) x.1)) (extents_known x.0.0) ∙ here in
          by_whole (is_whole extents fold) refl (sym long) there (place_by fold f x.1 n.short n.near n.plain (sym long ∙ known) reads there)
        where
          -- an array that is left whole keeps its elements
          by_whole : (t : Bool) → is_whole extents fold ≡ t → length fold.basis.rows ≡ length (map (λ e. whole e names) x.1) → is_within (map (λ e. whole e names) x.1) (map (λ f. value f p) extents) ≡ true
              → IsPrinted names x (Some fold) (Some fold) → IsPrinted names x (if t then None else Some fold) (Some fold)
          by_whole true w long there placed =
              (own_place p (map (λ e. whole e names) x.1) extents fold (λ j row e. subst (λ n. IsRow n row) long (rows_of fold j row e)) long w there, reads)
          by_whole false w long there placed = placed

          place_by : (fold : Fold) → fold_of folds x.0.0 ≡ Some fold → (subs : List Ix) → length names ≤ 10 → AreWithin (2 ^ 31) names → IsTrue (all_plain (length names) subs)
              → length fold.basis.rows ≡ length subs → AreReadable subs names → is_within (map (λ e. whole e names) subs) (map (λ f. value f p) (get_or (extent_forms source) x.0.0 [])) ≡ true
              → IsPrinted names (x.0, subs) (Some fold) (Some fold)
          place_by fold f subs short near plain_subs long reads here =
              let n : ℕ = length names in
              let gs : List Affine = map (form_of n 0) subs in
              let params = parameters_are source p plain within in
              let sides : AllSides n gs = sides_of n subs plain_subs in
              let element : values_of gs names ≡ map (λ e. whole e names) subs = wholes_here n n names subs refl plain_subs in
              let count : length gs ≡ length subs = length_map (form_of n 0) subs in
              let same : length fold.basis.rows ≡ length gs = long ∙ sym count in
              let few : length fold.basis.rows ≤ 4 = ((fold.basis).square).few in
              let place =
              components_are p b.iterators gs first at_first params.few params.near short near sides (omega arith) (columns_known n gs sides) 0 fold.basis.rows (forms_of fold.moduli) (get_or (extent_forms source) x.0.0 []) subs []
              refl (sym element) long (length_map (λ m. m.form) fold.moduli ∙ fold.one_each) (λ k row e. subst (λ d. IsRow d row) same (rows_of fold k row e)) (moduli_fit x.0.0 fold f) (positive x.0.0 fold f)
              reads here in
              let components : List Ix = components_from first gs 0 fold.basis.rows (forms_of fold.moduli) (get_or (extent_forms source) x.0.0 []) subs in
              subst (λ t. let es : List Ix = if t then components else subs in (map (λ e. whole e names) es ≡ folded fold p (map (λ e. whole e names) subs)) × AreReadable es names)
              (sym (eq-eqb (length subs) (length fold.basis.rows) (sym long))) (place.0 ∙ ap (remainders p fold.basis.rows (forms_of fold.moduli)) element, place.1)

  -- an array whose number is past those of all temporaries has no fold
  no_further : (k : ℕ) → length source.temps ≤ k → at_work (extent_forms source) folds (length (arrays_of source.params) + k) ≡ None
  no_further k l = ap (unless_whole (get_or (extent_forms source) (length (arrays_of source.params) + k) [])) (by (fold_of folds (length (arrays_of source.params) + k)) refl)
    where
      by : (o : Option Fold) → fold_of folds (length (arrays_of source.params) + k) ≡ o → o ≡ None
      by None e = refl
      by (Some fold) e =
          let is = fold_in source folds are (length (arrays_of source.params) + k) fold e in
          let there : is.number < length source.temps = slice_get_within source.temps is.number is.decl is.stands in
          let here : length (arrays_of source.params) + k ≡ length (arrays_of source.params) + is.number = is.behind in
          absurd (omega arith)

  folds_by : FoldsBy (folded_subscripts source folds) (folded_temps source folds) source folds p
  folds_by =
      let params = parameters_are source p plain within in
      let given : List Decl = arrays_of source.params in
      record {
        places = λ b a x i e j. ap (λ zs. let y : Element = (x.0.0, zs) in y) (access_printed b a x i e j).0;
        reads = λ b a x i e j. (access_printed b a x i e j).1;
        sized =
            decls_sized p first at_first params.few params.near (extent_forms source) folds moduli_fit positive (length given) source.temps
            (λ d i. (small.extents d (to_second given source.temps d i), λ e j. safe.extents d e (to_second given source.temps d i) j));
        extents = λ k.
            decls_extents p first at_first params.few params.near (extent_forms source) folds moduli_fit positive (length given) source.temps no_further k
            ∙ own_extents p (get_or (extent_forms source) (length given + k) []) (fold_of folds (length given + k)) (get_or (extents_at source.temps p) k [])
            (sym (extents_known (length given + k) ∙ behind_extents given source.temps p k));
      }

pub printed_folds : PrintedFolds
printed_folds source folds p plain thin within safe are limits positive = folds_by source folds p plain thin within safe are limits positive

-- ---- Loops

entry_too : (rows moduli : List Affine) → length moduli ≡ length rows → (k : ℕ) (b : Affine) → slice_get moduli k ≡ Some b → (row : Affine) × (slice_get rows k ≡ Some row)
entry_too rows [] l k b e = absurd (none-some b e)
entry_too [] (c ∷ moduli) l k b e = absurd (omega arith)
entry_too (row ∷ rows) (c ∷ moduli) l zero b e = (row, refl)
entry_too (row ∷ rows) (c ∷ moduli) l (suc k) b e = entry_too rows moduli (omega arith) k b e

module _ (source : Program) (schedule : Schedule) (folds : List (ArrayId × Fold)) (has : HasFoldedLoops source schedule folds) (limits : KeepLimits source folds) where
  folds_at : (p : List ℤ) → IsInContext source p → FoldsBy (folded_subscripts source folds) (folded_temps source folds) source folds p
  folds_at p inside =
      printed_folds source folds p (has.loops).plain (has.loops).near inside.ranges (safe_at source schedule folds has p inside) has.folds_in limits
      (λ array fold e k b f.
      let row = entry_too fold.basis.rows (forms_of fold.moduli) (length_map (λ m. m.form) fold.moduli ∙ fold.one_each) k b f in
      (has.obeys p inside array fold e k row.0 b row.1 f).0)

-- no run looks at whether the text has the prelude
with_prelude : (b : Bool) (other source : Program) (place : Element → Element) (p : List ℤ) → Replaces other source place p → Replaces (record other { prelude = b }) source place p
with_prelude b other source place p r = record {
  stands = record { bare = (r.stands).bare; same_trace = (r.stands).same_trace; same_effects = (r.stands).same_effects };
  small = record { near = (r.small).near; extents = (r.small).extents; assignments = (r.small).assignments };
  extents = r.extents;
  within = r.within;
}

pub folded_program_replaces : FoldedProgramReplaces
folded_program_replaces source schedule folds has limits =
    let at = folded_subscripts source folds in
    let temps = folded_temps source folds in
    record {
      name = refl;
      params = refl;
      context = refl;
      same_rounds = ((refolded_keeps_shape at temps source).same_loops).same_rounds;
      replaces = λ p inside. with_prelude (has_calls (refolded at temps source)) (refolded at temps source) source (place folds p) p (replaces_at at temps source schedule folds has p inside (folds_at source schedule folds has limits p inside));
    }
