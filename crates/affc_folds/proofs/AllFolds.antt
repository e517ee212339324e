-- Where nothing is limited, each temporary has a fold along its basis, whose moduli are all marked as least.
use Rattle.std.proofs.Common.{◌≡◌, ℕ, zero, suc, ◌+◌, ◌^◌, ◌<◌, ◌≤◌, ℤ, pos, ◌≤ℤ◌, ◌<ℤ◌, Bool, true, false, if◌then◌else◌, List, [], ◌∷◌, ◌++◌, length, map, Option, Some, None, refl, sym, ap, subst, ◌∙◌, inl, inr, arith, lit≤}
use Rattle.std.specs.Prelude.{slice_get, nat_eq, unsigned_abs, ◌&&◌}
use Rattle.std.specs.List.{All, list_all}
use Rattle.std.proofs.lemmas.Bool.{eqb-true, cases_lt}
use Rattle.std.proofs.lemmas.Option.{none-some, same_Some}
use Rattle.std.proofs.lemmas.List.Elements.{All-head, All-tail}
use Rattle.affc_rows.specs.Forms.{Affine, value}
use Rattle.affc_system.specs.Boxes.{InBox}
use Rattle.affc_ast.specs.Fits.{within_ranges, meets}
use Rattle.affc_ast.specs.Meaning.{arrays_of}
use Rattle.affc_ast.specs.declared.tree.ArrayId.{ArrayId}
use Rattle.affc_ast.specs.declared.tree.Program.{Program}
use Rattle.affc_trace.specs.declared.schedule.Schedule.{Schedule}
use Rattle.affc_trace.specs.Dataflow.{LivePair, live_pairs}
use Rattle.affc_trace.specs.Laws.{IsInContext}
use Rattle.affc_trace.specs.Target.{numbers_in}
use Rattle.affc_trace.proofs.Members.{hold_both}
use Rattle.affc_split.specs.Budgets.{Account}
use Rattle.affc_split.proofs.maximum.Laters as later
use Rattle.affc_basis.specs.declared.basis.Basis.{Basis}
use Rattle.affc_basis.specs.declared.fold.Fold.{Fold}
use Rattle.affc_basis.specs.declared.fold.Mark.TheVariants.{Least, Bound}
use Rattle.affc_basis.specs.declared.fold.Modulus.{Modulus}
use Rattle.affc_basis.specs.Folds.{forms_of, Obeys}
use Rattle.affc_basis.specs.Listed.{Shape, shape_of, listing, IsBasis}
use Rattle.affc_basis.specs.Moduli.{IsModulus}
use Rattle.affc_basis.specs.Slices.{along, InSlice, IsGreatest, slice_of, greatest_along}
use Rattle.affc_basis.proofs.Greatest.{greatest_is_found}
use Rattle.affc_basis.proofs.ListedBases.{listed_bases}
use Rattle.affc_weigh.specs.declared.choice.Choice.{Choice}
use Rattle.affc_weigh.specs.declared.ratings.Rated.{Rated}
use Rattle.affc_weigh.specs.Choices.{is_marked, marked_by, are_known, is_known, known_by, top, IsFirstLeast, price_of}
use Rattle.affc_weigh.specs.Costs.{AreModuli}
use Rattle.affc_weigh.proofs.Tops.{at_number, by_number, from_mapped, beside}
use Rattle.affc_domain.specs.Ranges.{number_ranges}
use Rattle.affc_domain.proofs.Lists.{both_true}
use Rattle.affc_domain.proofs.RangeLemmas.{in_ranges, numbers_are}
use Rattle.affc_nest.specs.declared.nest.ArrayInfo.{ArrayInfo}
use Rattle.affc_nest.specs.Laws.{HasNest, StaysWithin}
use Rattle.affc_nest.specs.Nests.{nest_of}
use Rattle.affc_life.specs.Folding.{given_for, HasTrueMarks, IsFoldFor}
use Rattle.affc_life.proofs.ContextLemmas.{near_context}
use Rattle.affc_life.proofs.NestLemmas.{has_forms, is_temporary, arrays_in}
use Rattle.affc_life.proofs.BasisLemmas.{some_listed}
use Rattle.affc_moduli.proofs.Covers.{some_at}
use Rattle.affc_folds.specs.Folding.{HasBound, AreFoldsBelow}
use Rattle.affc_folds.specs.Laws.{AnswersModuli, StoredAnswers, FoldsExist}
use Rattle.affc_folds.specs.Tries.{IsTried, AreTried, IsFolded}
use Rattle.affc_folds.proofs.ListLemmas.{none_yet, one_more, all_made}
use Rattle.affc_folds.proofs.Needs.{moduli_from, as_many, row_marked, row_enough, row_fits, row_shown}
use Rattle.affc_folds.proofs.Spans.{extents_near, live_near}
use Rattle.affc_folds.proofs.TryLemmas.{are_moduli, one_tried, one_taken, given_folded}

-- ---- Lists

all_so : {A : Type 0} (test : A → Bool) (xs : List A) → ((k : ℕ) (x : A) → slice_get xs k ≡ Some x → test x ≡ true) → list_all test xs ≡ true
all_so test [] h = refl
all_so test (x ∷ xs) h = hold_both (test x) (list_all test xs) (h 0 x refl) (all_so test xs (λ k y e. h (suc k) y e))

-- ---- The first of the least

record First (rs : List Rated) : Type 0 where
  number : ℕ
  one : Rated
  is : IsFirstLeast (map (λ r. Some r) rs) number one

own : (r other : Rated) → Some (Some r) ≡ Some (Some other) → r ≡ other
own r other at = same_Some r other (same_Some (Some r) (Some other) at)

alone : (r : Rated) → First (r ∷ [])
alone r = record {
  number = 0;
  one = r;
  is = record { there = refl; least = least; first = λ j other h at. absurd (omega (arith, h)) };
}
  where
    least : (j : ℕ) (other : Rated) → slice_get (Some r ∷ []) j ≡ Some (Some other) → r.price.cost ≤ other.price.cost
    least zero other at = subst (λ (o : Rated). r.price.cost ≤ o.price.cost) (own r other at) (omega arith)
    least (suc j) other at = absurd (none-some (Some other) at)

-- one that costs less stands behind
later_first : (r : Rated) (rs : List Rated) (f : First rs) → f.one.price.cost < r.price.cost → First (r ∷ rs)
later_first r rs f less = record { number = suc f.number; one = f.one; is = record { there = f.is.there; least = least; first = first } }
  where
    least : (j : ℕ) (other : Rated) → slice_get (map (λ r. Some r) (r ∷ rs)) j ≡ Some (Some other) → f.one.price.cost ≤ other.price.cost
    least zero other at = subst (λ (o : Rated). f.one.price.cost ≤ o.price.cost) (own r other at) (omega (arith, less))
    least (suc j) other at = f.is.least j other at

    first : (j : ℕ) (other : Rated) → j < suc f.number → slice_get (map (λ r. Some r) (r ∷ rs)) j ≡ Some (Some other) → f.one.price.cost < other.price.cost
    first zero other h at = subst (λ (o : Rated). f.one.price.cost < o.price.cost) (own r other at) less
    first (suc j) other h at = f.is.first j other (omega (arith, h)) at

-- none does
now_first : (r : Rated) (rs : List Rated) (f : First rs) → r.price.cost ≤ f.one.price.cost → First (r ∷ rs)
now_first r rs f no_less = record { number = 0; one = r; is = record { there = refl; least = least; first = λ j other h at. absurd (omega (arith, h)) } }
  where
    least : (j : ℕ) (other : Rated) → slice_get (map (λ r. Some r) (r ∷ rs)) j ≡ Some (Some other) → r.price.cost ≤ other.price.cost
    least zero other at = subst (λ (o : Rated). r.price.cost ≤ o.price.cost) (own r other at) (omega arith)
    least (suc j) other at = let h = f.is.least j other at in omega (arith, h, no_less)

first_of : (r : Rated) (rs : List Rated) → First (r ∷ rs)
first_of r [] = alone r
first_of r (q ∷ qs) =
    let f = first_of q qs in
    elim (cases_lt f.one.price.cost r.price.cost) [
      | inl less ↦ later_first r (q ∷ qs) f less
      | inr no_less ↦ now_first r (q ∷ qs) f no_less
    ]

-- ---- A basis that is given

record Given (bases : List (ArrayId × Basis)) (dimensions : ℕ) (shape : Shape) : Type 0 where
  basis : Basis
  its_shape : shape_of basis ≡ shape
  rows : length basis.rows ≡ dimensions

given_basis : (bases : List (ArrayId × Basis)) (array dimensions : ℕ) (shape : Shape) → given_for bases array dimensions ≡ Some shape → Given bases dimensions shape
given_basis [] array dimensions shape e = absurd (none-some shape e)
given_basis (b ∷ bs) array dimensions shape e = by_tests (nat_eq b.0.0 array) (nat_eq (length b.1.rows) dimensions) refl e (given_basis bs array dimensions shape)
  where
    by_tests : (t u : Bool) → nat_eq (length b.1.rows) dimensions ≡ u → (if t && u then Some (shape_of b.1) else given_for bs array dimensions) ≡ Some shape
        → (given_for bs array dimensions ≡ Some shape → Given bs dimensions shape) → Given (b ∷ bs) dimensions shape
    by_tests true true long e more = record { basis = b.1; its_shape = same_Some (shape_of b.1) shape e; rows = eqb-true (length b.1.rows) dimensions long }
    by_tests true false long e more = let m = more e in record { basis = m.basis; its_shape = m.its_shape; rows = m.rows }
    by_tests false u long e more = let m = more e in record { basis = m.basis; its_shape = m.its_shape; rows = m.rows }

-- ---- Folds of one temporary

module _ (Answers : List ℕ → ℕ → Type 0) (answers : AnswersModuli Answers) (program : Program) (schedule : Schedule) (bases : List (ArrayId × Basis)) (has : HasNest program) (some : (p : List ℤ) × IsInContext program p)
    (stays : (p : List ℤ) → IsInContext program p → StaysWithin program p) where
  abbrev parameters : ℕ
  parameters = numbers_in program.params

  abbrev ranges : List (ℤ × ℤ)
  ranges = number_ranges program.params

  abbrev pairs : ℕ → List ℤ → List ℤ → List ℤ → Type 0
  pairs = LivePair program schedule

  -- whether p is in the context
  abbrev test : List ℤ → Bool
  test p = within_ranges program.params p && meets program.context p

  passes : (p : List ℤ) → IsInContext program p → test p ≡ true
  passes p here = hold_both (within_ranges program.params p) (meets program.context p) here.ranges here.context

  from : (p : List ℤ) → test p ≡ true → IsInContext program p
  from p e = let b = both_true (within_ranges program.params p) (meets program.context p) e in record { ranges = b.0; context = b.1 }

  within : (p : List ℤ) → IsInContext program p → InBox ranges p
  within p here = in_ranges program.params p here.ranges

  module _ (array : ℕ) (info : ArrayInfo) (there : slice_get (nest_of program).arrays array ≡ Some info) (temporary : length (arrays_of program.params) ≤ array) where
    abbrev dimensions : ℕ
    dimensions = length info.extents

    few : dimensions ≤ 4
    few = (has_forms program has.plain array info there).few

    greatest : (rows : List Affine) (p : List ℤ) (k : ℕ) (row : Affine) → (n : ℕ) × IsGreatest (pairs array p) rows k row n
    greatest rows p k row = (greatest_along row (slice_of (live_pairs program schedule p) array rows k), greatest_is_found program schedule array p rows k row)

    abbrev moduli : List Affine → List Modulus
    moduli rows = moduli_from (IsInContext program) ranges test within passes from some (pairs array) rows (greatest rows) parameters 0 rows

    -- live elements lie near along a row of a basis
    near : (p : List ℤ) → IsInContext program p → (row : Affine) → All (λ c. unsigned_abs c ≤ 256) row.coefs → length row.coefs ≤ 4 → (x y : List ℤ) → pairs array p x y → along row x y ≤ 2 ^ 53
    near p here =
        let context = near_context program has.plain in
        let long : length p ≡ length ranges = context.wide p here ∙ numbers_are program.params in
        live_near program schedule array info there has.plain p long (stays p here)
        (extents_near info.extents (length ranges) p (subst (λ n. n ≤ 4) (numbers_are program.params) context.few) (has_forms program has.plain array info there).forms (context.near p here))

    abbrev fold_along : Basis → Fold
    fold_along b = record {
      basis = b;
      moduli = moduli b.rows;
      one_each = as_many (IsInContext program) ranges test within passes from some (pairs array) b.rows (greatest b.rows) parameters 0 b.rows;
    }

    module _ (b : Basis) (rows : length b.rows ≡ dimensions) where
      row_of : (k : ℕ) (m : Modulus) → slice_get (moduli b.rows) k ≡ Some m → (row : Affine) × (slice_get b.rows k ≡ Some row)
      row_of k m at = beside (moduli b.rows) b.rows k m (sym (fold_along b).one_each) at

      fits : (k : ℕ) (m : Modulus) → slice_get (moduli b.rows) k ≡ Some m → IsModulus parameters m.form
      fits k m at =
          let r = row_of k m at in
          let width : length r.0.coefs ≡ length b.rows = at_number (λ f. length f.coefs ≡ length b.rows) b.rows k r.0 b.square.columns r.1 in
          let small = at_number (λ f. All (λ c. unsigned_abs c ≤ 256) f.coefs) b.rows k r.0 b.row_bounds r.1 in
          row_fits (IsInContext program) ranges test within passes from some (pairs array) b.rows (greatest b.rows) parameters k r.0 m r.1 at (2 ^ 53) (lit≤ tt)
          (λ p here x y live. near p here r.0 small (subst (λ n. n ≤ 4) (sym (width ∙ rows)) few) x y live)

      limited : All (IsModulus parameters) (forms_of (moduli b.rows))
      limited = by_number (IsModulus parameters) (forms_of (moduli b.rows)) (λ k f at. let m = from_mapped (λ (m : Modulus). m.form) (moduli b.rows) k f at in subst (IsModulus parameters) (sym m.2) (fits k m.0 m.1))

      obeys : (p : List ℤ) → IsInContext program p → Obeys (pairs array p) (fold_along b) p
      obeys p here k row f at at_f =
          let m = from_mapped (λ (m : Modulus). m.form) (moduli b.rows) k f at_f in
          subst (λ f. (pos 1 ≤ℤ value f p) × ((x y : List ℤ) → InSlice (pairs array p) b.rows k x y → pos (along row x y) <ℤ value f p)) (sym m.2)
          (row_enough (IsInContext program) ranges test within passes from some (pairs array) b.rows (greatest b.rows) parameters k row m.0 at m.1 p here)

      marks : HasTrueMarks (IsInContext program) (pairs array) (fold_along b)
      marks k row m at at_m = row_marked (IsInContext program) ranges test within passes from some (pairs array) b.rows (greatest b.rows) parameters k row m at at_m

      is_fold : IsFoldFor program pairs array (fold_along b)
      is_fold =
          let t = is_temporary program array info there temporary in
          record {
            in_program = record {
              number = t.number;
              decl = t.decl;
              stands = t.stands;
              behind = t.behind;
              rows = rows ∙ t.dimensions;
              moduli = by_number (λ f. length f.coefs ≡ parameters) (forms_of (moduli b.rows)) (λ k f at. (at_number (IsModulus parameters) (forms_of (moduli b.rows)) k f limited at).width);
            };
            limits = limited;
            obeys = obeys;
            marks = marks;
          }

      -- ---- Each modulus is marked

      shown : (k : ℕ) (m : Modulus) → slice_get (moduli b.rows) k ≡ Some m → (p : List ℤ) × (pair : Option (List ℤ × List ℤ)) × (m.mark ≡ Least p pair)
      shown k m at = let r = row_of k m at in row_shown (IsInContext program) ranges test within passes from some (pairs array) b.rows (greatest b.rows) parameters k r.0 m r.1 at

      none_bound : HasBound (fold_along b) → ⊥
      none_bound h = let s = shown h.number h.modulus h.there in other s.0 s.1 (sym s.2 ∙ h.marked)
        where
          other : (p : List ℤ) (pair : Option (List ℤ × List ℤ)) → Least p pair ≡ Bound → ⊥
          other p pair e = cc

      all_marked : list_all is_marked (moduli b.rows) ≡ true
      all_marked = all_so is_marked (moduli b.rows) (λ k m at. let s = shown k m at in ap marked_by s.2)

      all_known : are_known (moduli b.rows) ≡ true
      all_known = all_so is_known (moduli b.rows) (λ k m at. let s = shown k m at in ap (known_by m.form) s.2)

      -- ---- What it comes to

      tops_are : AreModuli (map top (moduli b.rows))
      tops_are = are_moduli program pairs array (fold_along b) has.plain some is_fold all_known

      abbrev rated : Rated
      rated = record { fold = fold_along b; price = record { values = map top (moduli b.rows); cost = (answers (map top (moduli b.rows)) tops_are).0 }; marked = true }

      is_rated : (budget : Account) → IsTried Answers program pairs budget array (shape_of b) (Some rated)
      is_rated budget =
          one_tried program pairs array (fold_along b) has.plain some is_fold Answers budget (shape_of b) refl (λ h. absurd (none_bound h)) (Some rated) tt all_known refl refl
          (answers (map top (moduli b.rows)) tops_are).1 (sym all_marked)

    -- ---- Along the basis that is given

    by_given : (shape : Shape) → given_for bases array dimensions ≡ Some shape → (folded : Fold × Choice) × ((budget : Account) → IsFolded Answers program pairs bases budget array folded)
    by_given shape e =
        let g = given_basis bases array dimensions shape e in
        let r = rated g.basis g.rows in
        let choice : Choice = record { cost = r.price.cost; number = 0; prices = [] } in (
          (r.fold, choice),
          λ budget. given_folded Answers program pairs array budget bases dimensions (shape_of g.basis) (Some r) (is_rated g.basis g.rows budget) g.rows (e ∙ ap (λ s. Some s) (sym g.its_shape)) r choice refl refl refl,
        )

    -- ---- Along the cheapest that is listed

    abbrev basis_of : (s : Shape) → IsBasis dimensions s → Basis
    basis_of s is = record { rows = s.rows; inverse = s.inverse; square = is.is_square; row_bounds = is.row_bounds; inverse_bounds = is.inverse_bounds; identity = is.identity }

    ratings : (shapes : List Shape) → All (IsBasis dimensions) shapes → List Rated
    ratings [] all = []
    ratings (s ∷ ss) all =
        let is = All-head (IsBasis dimensions) s ss all in
        rated (basis_of s is) is.dimensions_fit ∷ ratings ss (All-tail (IsBasis dimensions) s ss all)

    abbrev found : (shapes : List Shape) → All (IsBasis dimensions) shapes → List (Option Rated)
    found shapes all = map (λ r. Some r) (ratings shapes all)

    as_many_found : (shapes : List Shape) (all : All (IsBasis dimensions) shapes) → length (found shapes all) ≡ length shapes
    unfolding ratings
    as_many_found [] all = refl
    as_many_found (s ∷ ss) all = ap suc (as_many_found ss (All-tail (IsBasis dimensions) s ss all))

    are_tried : (budget : Account) (shapes : List Shape) (all : All (IsBasis dimensions) shapes) → AreTried Answers program pairs budget array shapes (found shapes all)
    unfolding ratings
    are_tried budget [] all j shape one at at_one = absurd (none-some shape at)
    are_tried budget (s ∷ ss) all zero shape one at at_one =
        let is = All-head (IsBasis dimensions) s ss all in
        subst (λ o. IsTried Answers program pairs budget array shape o) (same_Some _ one at_one)
        (subst (λ (t : Shape). IsTried Answers program pairs budget array t (Some (rated (basis_of s is) is.dimensions_fit))) (same_Some s shape at) (is_rated (basis_of s is) is.dimensions_fit budget))
    are_tried budget (s ∷ ss) all (suc j) shape one at at_one = are_tried budget ss (All-tail (IsBasis dimensions) s ss all) j shape one at at_one

    first_found : (rs : List Rated) → 0 < length (map (λ r. Some r) rs) → First rs
    first_found [] h = absurd (omega (arith, h))
    first_found (r ∷ rs) h = first_of r rs

    by_listed : given_for bases array dimensions ≡ None → (folded : Fold × Choice) × ((budget : Account) → IsFolded Answers program pairs bases budget array folded)
    by_listed e =
        let all = listed_bases dimensions in
        let many = as_many_found (listing dimensions) all in
        let f = first_found (ratings (listing dimensions) all) (subst (λ n. 0 < n) (sym many) (some_listed dimensions few)) in
        let choice : Choice = record { cost = f.one.price.cost; number = f.number; prices = map price_of (found (listing dimensions) all) } in (
          (f.one.fold, choice),
          λ budget.
              one_taken Answers program pairs array budget bases dimensions (found (listing dimensions) all) (are_tried budget (listing dimensions) all) many e (Some (f.one.fold, choice))
              (record { one = f.one; is_first = f.is; its_fold = refl; its_cost = refl; prices = refl }),
        )

    one_folded : (folded : Fold × Choice) × ((budget : Account) → IsFolded Answers program pairs bases budget array folded)
    one_folded = by_basis (given_for bases array dimensions) refl
      where
        by_basis : (o : Option Shape) → given_for bases array dimensions ≡ o → (folded : Fold × Choice) × ((budget : Account) → IsFolded Answers program pairs bases budget array folded)
        by_basis None e = by_listed e
        by_basis (Some shape) e = by_given shape e

  -- ---- All of them

  abbrev given : ℕ
  given = length (arrays_of program.params)

  abbrev id_of : ℕ → ArrayId
  id_of n = record { 0 = n }

  record Below (n : ℕ) : Type 0 where
    folds : List (ArrayId × Fold)
    choices : List (ArrayId × Choice)
    are : (budget : Account) → AreFoldsBelow Answers program pairs bases budget n folds choices

  all_below : (j : ℕ) → j ≤ length program.temps → Below (given + j)
  all_below zero h = record { folds = []; choices = []; are = λ budget. none_yet Answers program pairs bases budget (given + 0) (omega arith) }
  all_below (suc j) h = more (all_below j (omega (arith, h)))
    where
      under : given + j < length (nest_of program).arrays
      under = let e = arrays_in program in omega (arith, e, h)

      info : (info : ArrayInfo) × (slice_get (nest_of program).arrays (given + j) ≡ Some info)
      info = some_at (nest_of program).arrays (given + j) under

      one : (folded : Fold × Choice) × ((budget : Account) → IsFolded Answers program pairs bases budget (given + j) folded)
      one = one_folded (given + j) info.0 info.1 (omega arith)

      next : given + j + 1 ≡ given + suc j
      next = omega arith

      more : Below (given + j) → Below (given + suc j)
      more b = record {
        folds = b.folds ++ (id_of (given + j), one.0.0) ∷ [];
        choices = b.choices ++ (id_of (given + j), one.0.1) ∷ [];
        are = λ budget.
            subst (λ n. AreFoldsBelow Answers program pairs bases budget n (b.folds ++ (id_of (given + j), one.0.0) ∷ []) (b.choices ++ (id_of (given + j), one.0.1) ∷ [])) next
            (one_more Answers program pairs bases budget budget (later.same budget) (given + j) b.folds b.choices (b.are budget) (id_of (given + j)) one.0.0 one.0.1 (b.folds ++ (id_of (given + j), one.0.0) ∷ []) (b.choices ++ (id_of (given + j), one.0.1) ∷ []) refl refl refl (one.1 budget));
      }

pub folds_exist : (Answers : List ℕ → ℕ → Type 0) → FoldsExist Answers
folds_exist Answers program schedule bases has some stays answers =
    let all = all_below Answers answers program schedule bases has some stays (length program.temps) (omega arith) in (
      all.folds,
      (
        all.choices,
        λ budget. all_made Answers program (LivePair program schedule) bases budget (length (arrays_of program.params) + length program.temps) all.folds all.choices (all.are budget) refl,
      ),
    )

pub stored_answers : StoredAnswers
stored_answers stored moduli are = (stored moduli, refl)
