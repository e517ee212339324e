-- The examples hold.
use Rattle.std.proofs.Common.{◌≡◌, ℕ, zero, suc, ◌+◌, ℤ, pos, ◌+ℤ◌, ◌-ℤ◌, ◌*ℤ◌, ◌≤ℤ◌, ◌<ℤ◌, Bool, true, false, true≢false, if◌then◌else◌, List, [], ◌∷◌, ◌++◌, length, get_or, map, Some, None, Result, Ok, Err, refl, sym, ap, subst, ◌∙◌, inl, inr, arith}
use Rattle.std.specs.Prelude.{slice_get, nat_eq}
use Rattle.std.specs.Int.{int_rem_euclid}
use Rattle.std.proofs.lemmas.Bool.{eqb-true}
use Rattle.std.proofs.lemmas.Int.{ints}
use Rattle.std.proofs.lemmas.List.Elements.{All-nil}
use Rattle.std.proofs.lemmas.Option.{none-some, same_Some}
use denote.Hole.Carrier.{hidden}
use Rattle.affc_ast.specs.declared.tree.Ix.TheBlock.{shape-the_row-Ix-0, hidden-the_row-Ix-0}
use Rattle.affc_ast.specs.declared.tree.Val.TheBlock.{shape-the_row-Val-0, hidden-the_row-Val-0}
use Rattle.affc_ast.specs.declared.tree.Cond.TheBlock.{shape-the_row-Cond-0, hidden-the_row-Cond-0}
use Rattle.affc_ast.specs.declared.tree.Stmt.TheBlock.{shape-the_row-Stmt-0, hidden-the_row-Stmt-0}
use Rattle.affc_rows.specs.Forms.{dot, value}
use Rattle.affc_ast.specs.declared.tree.ArrayId.{ArrayId}
use Rattle.affc_ast.specs.declared.tree.Decl.{Decl}
use Rattle.affc_ast.specs.declared.tree.Ix.{Ix}
use Rattle.affc_ast.specs.declared.tree.Ix.TheVariants.{Add, Sub, Mod}
use Rattle.affc_ast.specs.Cause.{Cause}
use Rattle.affc_ast.specs.Store.{Element}
use Rattle.affc_ast.specs.Fits.{Fits, whole, whole_step}
use Rattle.affc_ast.specs.Trace.{Assignment, assignments, element}
use Rattle.affc_ast.proofs.Steps.{add_here, sub_here, mod_here}
use Rattle.affc_trace.specs.Examples.{blur, together, two, S0}
use Rattle.affc_trace.specs.Dataflow.{Legal, LivePair}
use Rattle.affc_trace.specs.Effects.{has_no_locals}
use Rattle.affc_trace.specs.Law.{Effect, IsIn}
use Rattle.affc_trace.specs.Laws.{IsInContext}
use Rattle.affc_trace.proofs.ExampleProofs.{blur_has_its_maps}
use Rattle.affc_trace.proofs.Found.{legal_has_no_violations}
use Rattle.affc_domain.specs.Accesses.{Access, accesses_of}
use Rattle.affc_domain.specs.Ranges.{number_ranges}
use Rattle.affc_safe.specs.Overflow.{AreReadable}
use Rattle.affc_safe.specs.Safe.{IsSafe, extents_hold, accesses_hold, loads_hold}
use Rattle.affc_safe.proofs.OverflowProofs.{blur_is_plain}
use Rattle.affc_safe.proofs.PlainNear.{plain_never_overflows}
use Rattle.affc_safe.proofs.Reasons.{reasons_are_found}
use Rattle.affc_safe.proofs.SafeLaws.{safe_runs}
use Rattle.affc_loops.specs.Between.{HoldTimes}
use Rattle.affc_loops.specs.Ends.{ends_of, AreSides, AreRowsOf, AreRowsOfEach}
use Rattle.affc_loops.specs.Loops.{Scheduled, scheduled, time_ranges}
use Rattle.affc_loops.proofs.RowLaws.{rows_hold_times}
use Rattle.affc_basis.specs.declared.fold.Fold.{Fold}
use Rattle.affc_basis.specs.Examples.{x0, number, onto, folds}
use Rattle.affc_basis.specs.Folds.{Obeys, fold_of, folded_by, place}
use Rattle.affc_basis.specs.Slices.{along, InSlice}
use Rattle.affc_basis.proofs.BlurContext.{in_context, by_context}
use Rattle.affc_basis.proofs.MarkExamples.{three_is_enough}
use Rattle.affc_basis.proofs.PremiseExamples.{lists_of_folds}
use Rattle.affc_foldloops.specs.Examples.{lit, most, AllAreMarked, by_three, three, maps, without_rows, BlurFolds, BlurCompiles, BlurIsReplaced, OthersDontStand, TwoAreTooFew, OtherPlaces, by_far, FarIsntRead, SizesOfTemporaries, ExtentsOfTemporaries}
use Rattle.affc_foldloops.specs.Placed.{Replaces, HasFoldedLoops}
use Rattle.affc_foldloops.specs.Refolds.{AtEachAccess, IsAtPlace, IsReadAt, AreSized, extents_by, HaveFoldedExtents, FoldsBy}
use Rattle.affc_foldloops.proofs.FoldedLaws.{refolded_between_compile}
use Rattle.affc_foldloops.proofs.Remainder.{remainder_is_read}
use Rattle.affc_foldloops.proofs.ReplaceLemmas.{accesses_read, refolded_replaces}

pub all_are_marked : AllAreMarked
unfolding shape-the_row-Ix-0 hidden-the_row-Ix-0 shape-the_row-Val-0 hidden-the_row-Val-0 shape-the_row-Stmt-0 hidden-the_row-Stmt-0 shape-the_row-Cond-0 hidden-the_row-Cond-0 hidden
all_are_marked = refl

-- ---- Places modulo 3

value_three : (p : List ℤ) → value (number 3) p ≡ pos 3
value_three [] = refl
value_three (x ∷ p) = by (dot [] p) refl
  where
    by : (z : ℤ) → z ≡ pos 0 → ((pos 0 *ℤ x) +ℤ z) +ℤ pos 3 ≡ pos 3
    by z e = omega (arith, ints, e)

once : (z : ℤ) → dot (pos 1 ∷ []) (z ∷ []) ≡ z
once z = omega (arith, ints)

remainder_of_three : (e : Ix) (names p : List ℤ) → whole (Mod e (lit 3)) names ≡ int_rem_euclid (dot (pos 1 ∷ []) (whole e names ∷ [])) (value (number 3) p)
remainder_of_three e names p =
    ap (λ f. (f names).value) (mod_here whole_step e (lit 3)) ∙ ap (λ z. int_rem_euclid z (pos 3)) (sym (once (whole e names))) ∙ ap (int_rem_euclid (dot (pos 1 ∷ []) (whole e names ∷ []))) (sym (value_three p))

at_three : (e : Ix) (names p : List ℤ) → IsAtPlace by_three (place folds p) names (record { 0 = 2 }, e ∷ [])
at_three e names p = ap (λ z. (2, z ∷ [])) (remainder_of_three e names p)

-- each access of the blur
by_access : (P : List ℤ → Access → Type 0) (names : List ℤ) (k : ℕ) (a : Assignment) (x : Access) → slice_get (assignments blur) k ≡ Some a → IsIn x (accesses_of a)
    → ((array : ArrayId) (subs : List Ix) → nat_eq array.0 2 ≡ false → P names (array, subs)) → ((e : Ix) → P names (record { 0 = 2 }, e ∷ [])) → P names x
unfolding shape-the_row-Ix-0 hidden-the_row-Ix-0 shape-the_row-Val-0 hidden-the_row-Val-0 shape-the_row-Stmt-0 hidden-the_row-Stmt-0 shape-the_row-Cond-0 hidden-the_row-Cond-0 hidden
by_access P names zero a x e j others its = first (subst (λ c. IsIn x (accesses_of c)) (sym (same_Some _ a e)) j)
  where
    first : IsIn x (accesses_of (get_or (assignments blur) 0 a)) → P names x
    first (inl q) = subst (P names) (sym q) (others _ _ refl)
    first (inr (inl q)) = subst (P names) (sym q) (its _)
    first (inr (inr n)) = absurd n
by_access P names (suc zero) a x e j others its = second (subst (λ c. IsIn x (accesses_of c)) (sym (same_Some _ a e)) j)
  where
    second : IsIn x (accesses_of (get_or (assignments blur) 1 a)) → P names x
    second (inl q) = subst (P names) (sym q) (its _)
    second (inr (inl q)) = subst (P names) (sym q) (its _)
    second (inr (inr (inl q))) = subst (P names) (sym q) (its _)
    second (inr (inr (inr (inl q)))) = subst (P names) (sym q) (others _ _ refl)
    second (inr (inr (inr (inr n)))) = absurd n
by_access P names (suc (suc k)) a x e j others its = absurd (none-some a e)

no_fold : (n : ℕ) → nat_eq n 2 ≡ false → fold_of folds n ≡ None
no_fold n f = by_test (nat_eq 2 n) refl
  where
    by_test : (t : Bool) → nat_eq 2 n ≡ t → (if t then Some (onto 3) else None) ≡ None
    by_test false g = refl
    by_test true g = absurd (true≢false (ap (λ m. nat_eq m 2) (eqb-true 2 n g) ∙ f))

-- arrays that aren't folded keep their elements
others_stay : (to : List Ix → List Ix) (p names : List ℤ) (array : ArrayId) (subs : List Ix) → nat_eq array.0 2 ≡ false
    → IsAtPlace (λ names array subs. if nat_eq array.0 2 then to subs else subs) (place folds p) names (array, subs)
others_stay to p names array subs e =
    ap (λ t. element names array (if t then to subs else subs)) e ∙ ap (λ o. (array.0, folded_by o p (element names array subs).1)) (sym (no_fold array.0 e))

blur_places : (p : List ℤ) → AtEachAccess blur p (IsAtPlace by_three (place folds p))
blur_places p b a x i e j =
    by_access (IsAtPlace by_three (place folds p)) (p ++ b.iterators) b.statement a x e j
    (λ array subs f. others_stay (map (λ e. Mod e (lit 3))) p (p ++ b.iterators) array subs f) (λ e. at_three e (p ++ b.iterators) p)

-- ---- What is read

three_read : (names : List ℤ) (subs : List Ix) → AreReadable subs names → AreReadable (map (λ e. Mod e (lit 3)) subs) names
three_read names [] r = tt
three_read names (e ∷ subs) r = ((remainder_is_read e (lit 3) names r.0 (λ node. refl) (omega (arith, ints))).0, three_read names subs r.1)

by_three_read : (names : List ℤ) (x : Access) → AreReadable x.1 names → IsReadAt by_three names x
by_three_read names x r = by (nat_eq x.0.0 2)
  where
    by : (t : Bool) → AreReadable (if t then map (λ e. Mod e (lit 3)) x.1 else x.1) names
    by true = three_read names x.1 r
    by false = r

blur_reads : (p : List ℤ) → IsInContext blur p → AtEachAccess blur p (IsReadAt by_three)
blur_reads p inside b a x i e j =
    let small = plain_never_overflows blur p blur_is_plain.0 blur_is_plain.1 inside.ranges in
    by_three_read (p ++ b.iterators) x (accesses_read a (p ++ b.iterators) (small.assignments b a i e) x j)

-- ---- Its temporaries

one_temporary : (p : List ℤ) → AreSized (three ∷ []) p
one_temporary p d (inl e) = subst (λ (d : Decl). AreReadable d.extents p × ((e : Ix) → IsIn e d.extents → pos 1 ≤ℤ whole e p)) (sym e) (((λ node. refl), tt), least)
  where
    least : (e : Ix) → IsIn e (lit 3 ∷ []) → pos 1 ≤ℤ whole e p
    least e (inl q) = subst (λ e. pos 1 ≤ℤ whole e p) (sym q) (omega (arith, ints))
    least e (inr n) = absurd n
one_temporary p d (inr n) = absurd n

further : (k : ℕ) → fold_of folds (2 + suc k) ≡ None
further k = by_test (nat_eq 2 (2 + suc k)) refl
  where
    not_two : (n : ℕ) → 2 ≡ 2 + suc n → ⊥
    not_two n e = omega arith

    by_test : (t : Bool) → nat_eq 2 (2 + suc k) ≡ t → (if t then Some (onto 3) else None) ≡ None
    by_test false g = refl
    by_test true g = absurd (not_two k (eqb-true 2 (2 + suc k) g))

blur_extents : (p : List ℤ) → HaveFoldedExtents (three ∷ []) blur folds p
unfolding shape-the_row-Ix-0 hidden-the_row-Ix-0 shape-the_row-Val-0 hidden-the_row-Val-0 shape-the_row-Stmt-0 hidden-the_row-Stmt-0 shape-the_row-Cond-0 hidden-the_row-Cond-0 hidden
blur_extents p zero = ap (λ z. z ∷ []) (sym (value_three p))
blur_extents p (suc k) = ap (λ o. extents_by o p []) (sym (further k))

pub blur_folds_by : (p : List ℤ) → IsInContext blur p → FoldsBy by_three (three ∷ []) blur folds p
blur_folds_by p inside = record { places = blur_places p; reads = blur_reads p inside; sized = one_temporary p; extents = blur_extents p }

-- ---- The blur

safe_at : (p : List ℤ) → extents_hold blur p ≡ true → accesses_hold blur p ≡ true → loads_hold blur p ≡ true → IsSafe blur p
safe_at p e f g = let r = reasons_are_found blur p in record { extents = r.0.1 e; within = r.1.1 f; written = r.2.1 g }

blur_is_safe : (p : List ℤ) → IsInContext blur p → IsSafe blur p
unfolding shape-the_row-Ix-0 hidden-the_row-Ix-0 shape-the_row-Val-0 hidden-the_row-Val-0 shape-the_row-Stmt-0 hidden-the_row-Stmt-0 shape-the_row-Cond-0 hidden-the_row-Cond-0 hidden
blur_is_safe = by_context (IsSafe blur) (safe_at (pos 1 ∷ []) refl refl refl) (safe_at (pos 2 ∷ []) refl refl refl) (safe_at (pos 3 ∷ []) refl refl refl) (safe_at (pos 4 ∷ []) refl refl refl)

blur_is_legal : (p : List ℤ) → IsInContext blur p → Legal blur together p
unfolding shape-the_row-Ix-0 hidden-the_row-Ix-0 shape-the_row-Val-0 hidden-the_row-Val-0 shape-the_row-Stmt-0 hidden-the_row-Stmt-0 shape-the_row-Cond-0 hidden-the_row-Cond-0 hidden
blur_is_legal = by_context (Legal blur together)
    ((legal_has_no_violations blur together (pos 1 ∷ [])).1 refl)
    ((legal_has_no_violations blur together (pos 2 ∷ [])).1 refl)
    ((legal_has_no_violations blur together (pos 3 ∷ [])).1 refl)
    ((legal_has_no_violations blur together (pos 4 ∷ [])).1 refl)

three_obeys : (p : List ℤ) → IsInContext blur p → (array : ℕ) (fold : Fold) → fold_of folds array ≡ Some fold → Obeys (LivePair blur together array p) fold p
three_obeys p inside array fold e = by_test (nat_eq 2 array) refl e
  where
    mine : Obeys (LivePair blur together 2 p) (onto 3) p
    mine zero row b f g =
        let enough = three_is_enough.0 p inside in
        subst (λ r. (pos 1 ≤ℤ value b p) × ((x y : List ℤ) → InSlice (LivePair blur together 2 p) (x0 ∷ []) 0 x y → pos (along r x y) <ℤ value b p)) (same_Some x0 row f)
        (subst (λ b. (pos 1 ≤ℤ value b p) × ((x y : List ℤ) → InSlice (LivePair blur together 2 p) (x0 ∷ []) 0 x y → pos (along x0 x y) <ℤ value b p)) (same_Some (number 3) b g) enough)
    mine (suc k) row b f g = absurd (none-some row f)

    by_test : (t : Bool) → nat_eq 2 array ≡ t → (if t then Some (onto 3) else None) ≡ Some fold → Obeys (LivePair blur together array p) fold p
    by_test true q f = subst (λ n. Obeys (LivePair blur together n p) fold p) (eqb-true 2 array q) (subst (λ f. Obeys (LivePair blur together 2 p) f p) (same_Some (onto 3) fold f) mine)
    by_test false q f = absurd (none-some fold f)

blur_has_loops : HasFoldedLoops blur together folds
blur_has_loops = record {
  loops = record { plain = blur_is_plain.0; near = blur_is_plain.1; scheduled = blur_has_its_maps.0; limits = refl };
  ends = λ p store fits. safe_runs blur p store blur_is_plain.0 blur_is_plain.1 fits (blur_is_safe p (record { ranges = Fits.ranges fits; context = Fits.context fits }));
  legal = blur_is_legal;
  folds_in = lists_of_folds.0;
  obeys = three_obeys;
}

pub blur_folds : BlurFolds
blur_folds = (blur_has_loops, blur_folds_by)

-- the ends of the ranges alone

no_sides : (column : ℕ) (ranges : List (ℤ × ℤ)) → AreSides column ranges ([], [])
no_sides column ranges = record { lower = All-nil _; upper = All-nil _; below = All-nil _; above = All-nil _ }

no_row : (p : List ℤ) (ranges : List (ℤ × ℤ)) (e : Scheduled) → length ranges ≡ 1 → AreRowsOf blur maps ranges p e (([], []) ∷ [])
no_row p ranges e one = record {
  one_each = sym one;
  are_sides = (no_sides (length p) (number_ranges blur.params ++ ranges), tt);
  hold = λ a i q. (All-nil _, All-nil _, tt);
}

no_rows : (p : List ℤ) (ranges : List (ℤ × ℤ)) (es : List Scheduled) → length ranges ≡ 1 → length es ≡ 2 → AreRowsOfEach blur maps ranges p es without_rows
no_rows p ranges [] one both = absurd (omega arith)
no_rows p ranges (e ∷ []) one both = absurd (omega arith)
no_rows p ranges (e ∷ f ∷ []) one both = (no_row p ranges e one, (no_row p ranges f one, tt))
no_rows p ranges (e ∷ f ∷ g ∷ es) one both = absurd (omega arith)

one_component : length (time_ranges (number_ranges blur.params) (scheduled blur maps)) ≡ 1
unfolding shape-the_row-Ix-0 hidden-the_row-Ix-0 shape-the_row-Val-0 hidden-the_row-Val-0 shape-the_row-Stmt-0 hidden-the_row-Stmt-0 shape-the_row-Cond-0 hidden-the_row-Cond-0 hidden
one_component = refl

two_statements : length (scheduled blur maps) ≡ 2
unfolding shape-the_row-Ix-0 hidden-the_row-Ix-0 shape-the_row-Val-0 hidden-the_row-Val-0 shape-the_row-Stmt-0 hidden-the_row-Stmt-0 shape-the_row-Cond-0 hidden-the_row-Cond-0 hidden
two_statements = refl

ends_hold : (p : List ℤ) → IsInContext blur p → HoldTimes blur maps (ends_of blur maps without_rows) p
ends_hold p inside =
    rows_hold_times blur 1 maps without_rows p (blur_has_loops.loops) inside.ranges
    (no_rows p (time_ranges (number_ranges blur.params) (scheduled blur maps)) (scheduled blur maps) one_component two_statements)

pub blur_compiles : BlurCompiles
blur_compiles = refolded_between_compile by_three (three ∷ []) blur 1 maps (ends_of blur maps without_rows) folds blur_has_loops blur_folds_by ends_hold

two_is_inside : IsInContext blur two
unfolding shape-the_row-Ix-0 hidden-the_row-Ix-0 shape-the_row-Val-0 hidden-the_row-Val-0 shape-the_row-Stmt-0 hidden-the_row-Stmt-0 shape-the_row-Cond-0 hidden-the_row-Cond-0 hidden
two_is_inside = in_context 2 refl

blur_is_bare : has_no_locals blur ≡ true
unfolding shape-the_row-Ix-0 hidden-the_row-Ix-0 shape-the_row-Val-0 hidden-the_row-Val-0 shape-the_row-Stmt-0 hidden-the_row-Stmt-0 shape-the_row-Cond-0 hidden-the_row-Cond-0 hidden
blur_is_bare = refl

pub blur_is_replaced : BlurIsReplaced
blur_is_replaced =
    let inside = two_is_inside in
    refolded_replaces by_three (three ∷ []) blur folds two blur_is_bare inside.ranges (plain_never_overflows blur two blur_is_plain.0 blur_is_plain.1 inside.ranges)
    (blur_is_safe two inside) lists_of_folds.0 (blur_folds_by two inside)

-- ---- What doesn't serve

abbrev IsOk : {A : Type 0} → Result A Cause → Type 0
IsOk (Ok x) = Unit {0}
IsOk (Err cause) = ⊥

-- what is stuck has no value
no_value : {A : Type 0} (cause : Cause) (x : A) → ◌≡◌ {A = Result A Cause} (Err cause) (Ok x) → ⊥
no_value cause x e = subst IsOk (sym e) tt

three_is_not_none : ◌≡◌ {A = ℤ} (pos 3) (pos 0) → ⊥
three_is_not_none e = omega (arith, ints)

four_is_not_three : ◌≡◌ {A = ℤ} (pos 4) (pos 3) → ⊥
four_is_not_three e = omega (arith, ints)

six_are_not_none : ◌≡◌ {A = ℕ} 0 6 → ⊥
six_are_not_none e = omega arith

one_is_not_none : ◌≡◌ {A = ℕ} 1 0 → ⊥
one_is_not_none e = omega arith

none_is_too_small : pos 1 ≤ℤ pos 0 → ⊥
none_is_too_small h = omega (arith, ints)

abbrev first_of_all : List ℤ → ℤ
first_of_all xs = get_or xs 0 (pos 0)

pub others_dont_stand : OthersDontStand
unfolding shape-the_row-Ix-0 hidden-the_row-Ix-0 shape-the_row-Val-0 hidden-the_row-Val-0 shape-the_row-Stmt-0 hidden-the_row-Stmt-0 shape-the_row-Cond-0 hidden-the_row-Cond-0 hidden
others_dont_stand = (
  λ h. true≢false (sym h.bare),
  λ h. six_are_not_none (ap length h.same_trace),
  λ h. three_is_not_none (ap (λ (e : Effect Element ℕ). first_of_all e.stores.1) (h.same_effects (S0 3) (inr (inr (inr (inl refl)))))),
)

pub two_are_too_few : TwoAreTooFew
unfolding shape-the_row-Ix-0 hidden-the_row-Ix-0 shape-the_row-Val-0 hidden-the_row-Val-0 shape-the_row-Stmt-0 hidden-the_row-Stmt-0 shape-the_row-Cond-0 hidden-the_row-Cond-0 hidden
two_are_too_few = (
  Replaces.within blur_is_replaced,
  λ h. true≢false (sym (h (S0 2) (2, pos 2 ∷ []) (inr (inr (inl refl))) (inr refl))),
)

pub other_places : OtherPlaces
unfolding shape-the_row-Ix-0 hidden-the_row-Ix-0 shape-the_row-Val-0 hidden-the_row-Val-0 shape-the_row-Stmt-0 hidden-the_row-Stmt-0 shape-the_row-Cond-0 hidden-the_row-Cond-0 hidden
other_places = λ h. three_is_not_none (sym (ap (λ (x : Element). first_of_all x.1) (h (S0 3) _ _ (inr (inr (inr (inl refl)))) refl (inr (inl refl)))))

there_and_back : (z m : ℤ) → (z +ℤ m) -ℤ m ≡ z
there_and_back z m = omega (arith, ints)

at_far : (e : Ix) (names p : List ℤ) → IsAtPlace by_far (place folds p) names (record { 0 = 2 }, e ∷ [])
at_far e names p =
    let same : whole (Sub (Add e most) most) names ≡ whole e names =
    ap (λ f. (f names).value) (sub_here whole_step (Add e most) most) ∙ ap (λ z. z -ℤ whole most names) (ap (λ f. (f names).value) (add_here whole_step e most)) ∙ there_and_back (whole e names) (whole most names) in
    ap (λ z. (2, z ∷ [])) (remainder_of_three (Sub (Add e most) most) names p ∙ ap (λ z. int_rem_euclid (dot (pos 1 ∷ []) (z ∷ [])) (value (number 3) p)) same)

pub far_isnt_read : FarIsntRead
unfolding shape-the_row-Ix-0 hidden-the_row-Ix-0 shape-the_row-Val-0 hidden-the_row-Val-0 shape-the_row-Stmt-0 hidden-the_row-Stmt-0 shape-the_row-Cond-0 hidden-the_row-Cond-0 hidden
far_isnt_read = (
  λ b a x i e j.
      by_access (IsAtPlace by_far (place folds two)) (two ++ b.iterators) b.statement a x e j
      (λ array subs f. others_stay (map (λ e. Mod (Sub (Add e most) most) (lit 3))) two (two ++ b.iterators) array subs f) (λ e. at_far e (two ++ b.iterators) two),
  λ h. no_value _ _ ((h (S0 1) _ _ (inr (inl refl)) refl (inr (inl refl))).0 0),
)

two_temporaries : AreSized (three ∷ three ∷ []) two
two_temporaries d (inl e) = one_temporary two d (inl e)
two_temporaries d (inr i) = one_temporary two d i

pub sizes_of_temporaries : SizesOfTemporaries
unfolding shape-the_row-Ix-0 hidden-the_row-Ix-0 shape-the_row-Val-0 hidden-the_row-Val-0 shape-the_row-Stmt-0 hidden-the_row-Stmt-0 shape-the_row-Cond-0 hidden-the_row-Cond-0 hidden
sizes_of_temporaries = (
  two_temporaries,
  λ h. none_is_too_small ((h _ (inr (inl refl))).1 _ (inr (inl refl))),
  λ h. no_value _ _ ((h _ (inr (inl refl))).0.1.0 0),
)

pub extents_of_temporaries : ExtentsOfTemporaries
unfolding shape-the_row-Ix-0 hidden-the_row-Ix-0 shape-the_row-Val-0 hidden-the_row-Val-0 shape-the_row-Stmt-0 hidden-the_row-Stmt-0 shape-the_row-Cond-0 hidden-the_row-Cond-0 hidden
extents_of_temporaries = (
  λ h. four_is_not_three (ap first_of_all (h 0)),
  λ k. refl,
  λ h. four_is_not_three (sym (ap first_of_all (h 0))),
  λ h. one_is_not_none (ap length (h 1)),
)
