-- Folds that obey put the elements of a pair, such as those that are live together, at different places.
use Rattle.std.proofs.Common.{◌≡◌, ◌≢◌, ℕ, suc, ◌<◌, ℤ, List, [], ◌∷◌, length, map, refl, sym, ap, subst, ◌∙◌, arith, Option, Some, None}
use Rattle.affc_ast.specs.declared.tree.ArrayId.{ArrayId}
use Rattle.affc_ast.specs.declared.tree.Program.{Program}
use Rattle.affc_ast.specs.Store.{Element}
use Rattle.affc_ast.specs.Meaning.{arrays_of}
use Rattle.affc_trace.specs.declared.schedule.Schedule.{Schedule}
use Rattle.affc_trace.specs.Dataflow.{unshared, AreLive, LivePair, Admissible}
use Rattle.affc_trace.proofs.Composed.{compiles_source}
use Rattle.affc_basis.specs.declared.fold.Fold.{Fold}
use Rattle.affc_basis.specs.Folds.{forms_of, folded_by, IsAdmissible, Obeys, fold_of, place}
use Rattle.affc_basis.specs.Laws.{AreFoldsOf, RowsSeparate, PlacesMeetInTheLattice, ObeyingFoldSeparates, AdmissibleFoldsSeparate, LivePairsAreDifferent, PlacesAreAdmissible, FoldsKeepParameters, CompilesFolded, FoldedPremisesCompile}
use Rattle.affc_basis.proofs.Remainders.{in_lattice_of_equal, equal_of_in_lattice}
use Rattle.affc_basis.proofs.Separation.{rows_separate, separated}
use Rattle.affc_basis.proofs.Touched.{both_live}

pub rows_separate_law : RowsSeparate
rows_separate_law basis x y e f h = rows_separate basis.rows basis.inverse basis.square basis.identity x y e f h

pub places_meet_in_the_lattice : PlacesMeetInTheLattice
places_meet_in_the_lattice fold p x y positive same =
    (in_lattice_of_equal p fold.basis.rows (forms_of fold.moduli) x y positive same, equal_of_in_lattice p fold.basis.rows (forms_of fold.moduli) x y positive same)

length-map : {A B : Type 0} (f : A → B) (xs : List A) → length (map f xs) ≡ length xs
length-map f [] = refl
length-map f (x ∷ xs) = ap suc_of (length-map f xs)
  where
    suc_of : ℕ → ℕ
    suc_of n = suc n

-- ---- elements that are live together have the array's dimensions

pub live_pairs_are_different : LivePairsAreDifferent
live_pairs_are_different program schedule array n p dimensions x y live =
    let lengths = both_live program schedule array p (λ z. length z ≡ n) dimensions x y live in
    (λ e. live.distinct (ap (λ z. (array, z)) e), lengths.0, lengths.1)

-- ---- a fold that obeys

pub obeying_fold_separates : (pairs : List ℤ → List ℤ → List ℤ → Type 0) → ObeyingFoldSeparates pairs
obeying_fold_separates pairs fold p differ obeys =
    let separates : IsAdmissible (pairs p) fold p =
    separated (pairs p) p fold.basis.rows (forms_of fold.moduli) (length-map (λ m. m.form) fold.moduli ∙ fold.one_each) obeys
    fold.basis.inverse fold.basis.square fold.basis.identity differ in (
      separates,
      λ x y pair same.
          let q = differ x y pair in
          separates.apart x y pair (in_lattice_of_equal p fold.basis.rows (forms_of fold.moduli) x y separates.positive (q.1 ∙ sym q.2) same),
    )

-- so it obeys for pairs that are among these
pub obeys_for : (pairs fewer : List ℤ → List ℤ → Type 0) (fold : Fold) (p : List ℤ) → ((x y : List ℤ) → fewer x y → pairs x y) → Obeys pairs fold p → Obeys fewer fold p
obeys_for pairs fewer fold p among obeys k row b at at_b =
    let o = obeys k row b at at_b in
    (o.0, λ x y s. o.1 x y (record { pair = among x y s.pair; agrees = s.agrees }))

-- ---- places

pub admissible_folds_separate : (pairs : ℕ → List ℤ → List ℤ → List ℤ → Type 0) → AdmissibleFoldsSeparate pairs
admissible_folds_separate pairs folds p differ admissible array x y pair e = apart (fold_of folds array) refl (ap (λ z. z.1) e)
  where
    apart : (o : Option Fold) → fold_of folds array ≡ o → folded_by o p x ≡ folded_by o p y → ⊥
    apart None f same = differ array x y pair same
    apart (Some fold) f same =
        let each = admissible array fold f in
        let lengths = each.0 x y pair in
        each.1.apart x y pair (in_lattice_of_equal p fold.basis.rows (forms_of fold.moduli) x y each.1.positive (lengths.1 ∙ sym lengths.2) same)

-- where no two elements of a live pair of an array have one place, places are admissible
in_each_array : (program : Program) (schedule : Schedule) (p : List ℤ) (place : Element → Element)
    → ((array : ℕ) (x y : List ℤ) → LivePair program schedule array p x y → place (array, x) ≢ place (array, y)) → Admissible unshared program schedule p place
in_each_array program schedule p place apart x y live e =
    let one : y ≡ (x.0, y.1) = λ i. (sym live.one_array i, y.1) in
    apart x.0 x.1 y.1 (subst (AreLive program schedule p x) one live) (e ∙ ap place one)

pub places_are_admissible : PlacesAreAdmissible
places_are_admissible program schedule folds p proper here admissible =
    in_each_array program schedule p (place folds p) (admissible_folds_separate (LivePair program schedule) folds p
    (λ array x y live e. live.distinct (ap (λ z. (array, z)) e))
    (λ array fold e. (live_pairs_are_different program schedule array (length fold.basis.rows) p (proper.dimensions array fold e p here), admissible array fold e)))

own_place : (program : Program) (folds : List (ArrayId × Fold)) (p : List ℤ) → AreFoldsOf program folds → (x : Element) → x.0 < length (arrays_of program.params) → place folds p x ≡ x
own_place program folds p proper x h = by_fold (fold_of folds x.0) refl
  where
    by_fold : (o : Option Fold) → fold_of folds x.0 ≡ o → (x.0, folded_by o p x.1) ≡ x
    by_fold None e = refl
    by_fold (Some fold) e = let low = proper.temporary x.0 fold e in absurd (omega arith)

pub folds_keep_parameters : FoldsKeepParameters
folds_keep_parameters program folds p proper = record { in_buffer = λ x. refl; own = own_place program folds p proper; no_other = λ array h. h }

pub compiles_folded : (pairs : ℕ → List ℤ → List ℤ → List ℤ → Type 0) → CompilesFolded pairs
compiles_folded pairs printed source schedule folds plain name params context ends legal proper live obeys runs =
    compiles_source unshared printed source schedule (place folds) plain name params context ends legal
    (λ p here. places_are_admissible source schedule folds p proper here (λ array fold e.
    (obeying_fold_separates (LivePair source schedule array) fold p
    (live_pairs_are_different source schedule array (length fold.basis.rows) p (proper.dimensions array fold e p here))
    (obeys_for (pairs array p) (LivePair source schedule array p) fold p (live p here array) (obeys p here array fold e))).0))
    (λ p here. folds_keep_parameters source folds p proper) runs

pub folded_premises_compile : (pairs : ℕ → List ℤ → List ℤ → List ℤ → Type 0) → FoldedPremisesCompile pairs
folded_premises_compile pairs printed source schedule folds p =
    compiles_folded pairs printed source schedule folds p.plain p.name p.params p.context p.ends p.legal p.folds_of p.live p.obeys p.runs
