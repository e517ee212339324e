-- What questions on extents and accesses decide.
use Rattle.std.proofs.Common.{◌≡◌, ℕ, zero, suc, ◌+◌, ◌<◌, ℤ, pos, negsuc, ◌≤ℤ◌, ◌<ℤ◌, Bool, true, false, IsTrue, List, [], ◌∷◌, ◌++◌, length, get_or, map, flat_map, replicate, Some, refl, sym, ap, subst, ◌∙◌, ◌⊎◌, inl, inr, arith, if◌then◌else◌}
use Rattle.std.specs.Prelude.{◌&&◌, ◌↔◌, int_le, int_lt, nat_le, slice_get}
use Rattle.std.proofs.lemmas.Int.{ints}
use Rattle.std.proofs.lemmas.Option.{none-some, same_Some, slice_get_within}
use Rattle.affc_rows.specs.Forms.{Affine, value, values_of}
use Rattle.affc_system.specs.Systems.{Rows, Meets, IsPoint}
use Rattle.affc_ast.specs.declared.tree.Decl.{Decl}
use Rattle.affc_ast.specs.declared.tree.Instance.{Instance}
use Rattle.affc_ast.specs.declared.tree.Ix.{Ix}
use Rattle.affc_ast.specs.declared.tree.Program.{Program}
use Rattle.affc_ast.specs.Fits.{whole}
use Rattle.affc_ast.specs.Meaning.{arrays_of}
use Rattle.affc_ast.specs.Store.{Element}
use Rattle.affc_ast.specs.Trace.{assignments, trace, events}
use Rattle.affc_ast.specs.Values.{is_within}
use Rattle.affc_trace.specs.Law.{IsIn}
use Rattle.affc_trace.specs.Laws.{IsInContext}
use Rattle.affc_trace.proofs.LastStores.{append_nil}
use Rattle.affc_trace.proofs.Members.{in_map, to_map, to_flat_map}
use Rattle.affc_trace.proofs.Once.{in_flat_map}
use Rattle.affc_trace.proofs.Runs.{length_append}
use Rattle.affc_domain.specs.Accesses as said
use Rattle.affc_domain.specs.Accesses.{accesses_of}
use Rattle.affc_domain.specs.Affine.{form_of}
use Rattle.affc_domain.specs.Arrays.{declared_arrays, extents_at}
use Rattle.affc_domain.specs.Plain.{is_plain, all_plain, plain_decls, IsPlain}
use Rattle.affc_domain.specs.Ranges.{number_ranges}
use Rattle.affc_domain.specs.Rounds.{loops_in}
use Rattle.affc_domain.proofs.FormLemmas.{form_width, number_value, number_width, dot_widened}
use Rattle.affc_domain.proofs.Lists.{both_true, true_both, le_true, true_le, lt_true, true_lt, to_mapped, place_of, stands_in, there_is}
use Rattle.affc_domain.proofs.PlainLemmas.{is_plain_affine, has_assignment}
use Rattle.affc_domain.proofs.RangeLemmas.{box_length, in_ranges}
use Rattle.affc_domain.proofs.TurnLemmas.{instances_turn}
use Rattle.affc_nest.specs.Domains.{gap_row, number_form, box_rows, test_rows}
use Rattle.affc_nest.specs.declared.nest.Access.{Access}
use Rattle.affc_nest.specs.declared.nest.ArrayInfo.{ArrayInfo}
use Rattle.affc_nest.specs.declared.nest.Entry.{Entry}
use Rattle.affc_nest.specs.declared.nest.Nest.{Nest}
use Rattle.affc_nest.specs.Nests.{array_of, access_form, nest_of}
use Rattle.affc_nest.specs.Questions.{with_row, extents_or_none, whole_context, extent_question, extent_questions, extents_of_access, low_question, widened, high_question, questions_of, entry_questions, bound_questions}
use Rattle.affc_nest.specs.Laws.{HasNest, IsEntry, element_at, NamesArrays, StaysWithin, NoneHasAPoint, QuestionsDecide, ExtentPoint, LiesOutside, AccessPoint}
use Rattle.affc_nest.proofs.AccessLemmas.{whole_here, accesses_are_events, extents_are_extents, plain_append}
use Rattle.affc_nest.proofs.DomainLemmas.{Met, to_all, from_all, met_append, met_both, no_gap_up}
use Rattle.affc_nest.proofs.EntryLemmas.{SiteOf, site_of, columns_are, entries_stand, points_are_instances, none_where_not_alive}
use Rattle.affc_nest.proofs.PointLemmas.{at_most, context_met, met_context}

-- ---- Lists

pub value_of_entry : (fs : List Affine) (j : ℕ) (f : Affine) (xs : List ℤ) → slice_get fs j ≡ Some f → slice_get (values_of fs xs) j ≡ Some (value f xs)
value_of_entry [] j f xs e = absurd (none-some f e)
value_of_entry (g ∷ fs) zero f xs e = ap (λ h. Some (value h xs)) (same_Some g f e)
value_of_entry (g ∷ fs) (suc j) f xs e = value_of_entry fs j f xs e

-- ---- Widths of forms

abbrev pub AllWide : ℕ → List Affine → Type 0
AllWide n [] = Unit {0}
AllWide n (f ∷ fs) = (length f.coefs ≡ n) × AllWide n fs

pub forms_wide : (n : ℕ) (es : List Ix) → AllWide n (map (form_of n 0) es)
forms_wide n [] = tt
forms_wide n (e ∷ es) = (form_width n 0 e ∙ no_more n, forms_wide n es)
  where
    no_more : (n : ℕ) → n + 0 ≡ n
    no_more n = omega arith

pub wide_at : (n : ℕ) (fs : List Affine) (j : ℕ) (f : Affine) → AllWide n fs → slice_get fs j ≡ Some f → length f.coefs ≡ n
wide_at n [] j f w e = absurd (none-some f e)
wide_at n (g ∷ fs) zero f w e = subst (λ (h : Affine). length h.coefs ≡ n) (same_Some g f e) w.0
wide_at n (g ∷ fs) (suc j) f w e = wide_at n fs j f w.1 e

pub arrays_wide : (m : ℕ) (ds : List Decl) (k : ℕ) → AllWide m (extents_or_none (slice_get (map (array_of m) ds) k))
arrays_wide m [] k = tt
arrays_wide m (d ∷ ds) zero = forms_wide m d.extents
arrays_wide m (d ∷ ds) (suc k) = arrays_wide m ds k

accesses_wide : (n : ℕ) (xs : List said.Access) (i : ℕ) (x : Access) → slice_get (map (access_form n) xs) i ≡ Some x → AllWide n x.subs
accesses_wide n [] i x e = absurd (none-some x e)
accesses_wide n (y ∷ xs) zero x e = subst (λ (z : Access). AllWide n z.subs) (same_Some _ x e) (forms_wide n y.1)
accesses_wide n (y ∷ xs) (suc i) x e = accesses_wide n xs i x e

pub subs_wide : (program : Program) (statement : ℕ) (e : Entry) (s : SiteOf program statement e) (i : ℕ) (x : Access) → slice_get e.accesses i ≡ Some x → AllWide e.domain.columns x.subs
subs_wide program statement e s i x h =
    subst (λ n. AllWide n x.subs) (sym (columns_are program statement e s))
    (accesses_wide (length (number_ranges program.params) + loops_in s.its_rounds) (accesses_of s.assignment) i x (sym (ap (λ (y : Entry). slice_get y.accesses i) s.is) ∙ h))

-- ---- The values of extents

values_at : (as' : List ArrayInfo) (k : ℕ) (p : List ℤ) → get_or (map (λ a. values_of a.extents p) as') k [] ≡ values_of (extents_or_none (slice_get as' k)) p
values_at [] k p = refl
values_at (a ∷ as') zero p = refl
values_at (a ∷ as') (suc k) p = values_at as' k p

pub extents_there : (program : Program) (p : List ℤ) (k : ℕ) → IsPlain program → length p ≡ length (number_ranges program.params)
    → get_or (extents_at (declared_arrays program) p) k [] ≡ values_of (extents_or_none (slice_get (nest_of program).arrays k)) p
extents_there program p k plain l = ap (λ (xs : List (List ℤ)). get_or xs k []) (sym (extents_are_extents program p plain l)) ∙ values_at (nest_of program).arrays k p

pub widened_is : (f : Affine) (p its : List ℤ) (n : ℕ) → length f.coefs ≡ length p → value (widened n f) (p ++ its) ≡ value f p
widened_is f p its n l = omega (arith, ints, dot_widened f.coefs p its n l)

widened_width : (f : Affine) (m n k : ℕ) → length f.coefs ≡ m → k ≡ m + n → length (widened n f).coefs ≡ k
widened_width f m n k l e = length_append f.coefs (replicate n (pos 0)) ∙ (let q = number_width n (pos 0) in omega (arith, l, e, q))

-- ---- A row more

one_more : (system : Rows) (row : Affine) (xs : List ℤ) → IsPoint (with_row system row) xs → IsPoint system xs × Meets xs row
one_more system row xs is =
    let b = met_both xs system.rows (row ∷ []) (from_all xs (system.rows ++ row ∷ []) is.meets) in
    (record { width = is.width; meets = to_all xs system.rows b.0 }, b.1.0)

with_more : (system : Rows) (row : Affine) (xs : List ℤ) → IsPoint system xs → Meets xs row → IsPoint (with_row system row) xs
with_more system row xs is m = record { width = is.width; meets = to_all xs (system.rows ++ row ∷ []) (met_append xs system.rows (row ∷ []) (from_all xs system.rows is.meets) (m, tt)) }

least : (a b : Affine) (xs : List ℤ) → length a.coefs ≡ length xs → length b.coefs ≡ length xs → value a xs ≤ℤ value b xs → Meets xs (gap_row a b 0)
least a b xs u w h = no_gap_up a b xs u w a b u w h

pub or_less : (x y : ℤ) → (y ≤ℤ x) ⊎ (x <ℤ y)
or_less x y = chosen (int_lt x y) refl
  where
    not_less : (x y : ℤ) → int_lt x y ≡ false → y ≤ℤ x
    not_less x y e = grind (arith, ints)

    chosen : (t : Bool) → int_lt x y ≡ t → (y ≤ℤ x) ⊎ (x <ℤ y)
    chosen true e = inr (true_lt x y e)
    chosen false e = inl (not_less x y e)

-- ---- Extents

-- a point of the context's rows is a p of the context
context_points : (program : Program) (p : List ℤ) → IsPlain program → IsPoint (whole_context (nest_of program)) p ↔ IsInContext program p
context_points program p plain = (
  λ is.
      let b = met_both p (box_rows m 0 params) (test_rows m 0 program.context) (from_all p (box_rows m 0 params ++ test_rows m 0 program.context) is.meets) in
      met_context program p [] plain is.width
      (subst (λ k. Met (p ++ []) (box_rows k 0 params)) (sym (no_more m)) (subst (λ q. Met q (box_rows m 0 params)) (sym (append_nil p)) b.0))
      (subst (λ q. Met q (test_rows m 0 program.context)) (sym (append_nil p)) b.1),
  λ inside.
      let c = context_met program p [] plain inside in
      let one : Met p (box_rows m 0 params) = subst (λ q. Met q (box_rows m 0 params)) (append_nil p) (subst (λ k. Met (p ++ []) (box_rows k 0 params)) (no_more m) c.0) in
      let two : Met p (test_rows m 0 program.context) = subst (λ q. Met q (test_rows m 0 program.context)) (append_nil p) c.1 in
      record { width = sym (box_length params p (in_ranges program.params p inside.ranges)); meets = to_all p (box_rows m 0 params ++ test_rows m 0 program.context) (met_append p (box_rows m 0 params) (test_rows m 0 program.context) one two) },
)
  where
    params : List (ℤ × ℤ)
    params = number_ranges program.params

    m : ℕ
    m = length (number_ranges program.params)

    no_more : (n : ℕ) → n + 0 ≡ n
    no_more n = omega arith

module _ (program : Program) (plain : IsPlain program) (p : List ℤ) (f : Affine) (w : length f.coefs ≡ length (number_ranges program.params)) where
  -- a point of the question on a form
  pub extent_says : IsPoint (extent_question (nest_of program) f) p → IsInContext program p × (value f p ≤ℤ pos 0)
  extent_says is =
      let m = length (number_ranges program.params) in
      let b = one_more (whole_context (nest_of program)) (gap_row f (number_form m (pos 0)) 0) p is in
      let l : length p ≡ m = b.0.width in (
        (context_points program p plain).0 b.0,
        subst (λ z. value f p ≤ℤ z) (number_value m (pos 0) p) (at_most f (number_form m (pos 0)) p (w ∙ sym l) (number_width m (pos 0) ∙ sym l) b.1),
      )

  pub says_extent : IsInContext program p → value f p ≤ℤ pos 0 → IsPoint (extent_question (nest_of program) f) p
  says_extent inside h =
      let m = length (number_ranges program.params) in
      let is = (context_points program p plain).1 inside in
      let l : length p ≡ m = is.width in
      with_more (whole_context (nest_of program)) (gap_row f (number_form m (pos 0)) 0) p is
      (least f (number_form m (pos 0)) p (w ∙ sym l) (number_width m (pos 0) ∙ sym l) (subst (λ z. value f p ≤ℤ z) (sym (number_value m (pos 0) p)) h))

pub extent_point : ExtentPoint
extent_point program p array dimension form has at is =
    let m = length (number_ranges program.params) in
    let w : length form.coefs ≡ m = wide_at m (extents_or_none (slice_get (nest_of program).arrays array)) dimension form (arrays_wide m (declared_arrays program) array) at in
    let s = extent_says program has.plain p form w is in
    let l : length p ≡ m = is.width in
    (s.0, (value form p, ap (λ (xs : List ℤ). slice_get xs dimension) (extents_there program p array has.plain l) ∙ value_of_entry (extents_or_none (slice_get (nest_of program).arrays array)) dimension form p at, s.1))

-- ---- Accesses

module _ (program : Program) (has : HasNest program) (p : List ℤ) (here : Instance) (e : Entry) (h : IsEntry program here.statement e) (alive : IsTrue e.alive)
    (sub extent : Affine) (u : length sub.coefs ≡ e.domain.columns) (v : length extent.coefs ≡ length (number_ranges program.params)) (l : length p ≡ length (number_ranges program.params)) where
  columns : e.domain.columns ≡ length (number_ranges program.params) + length e.loops
  columns = ((entries_stand program has).1 here.statement e h).columns

  pub low_says : IsPoint (low_question e.domain sub) (p ++ here.iterators) → IsPoint e.domain (p ++ here.iterators) × (value sub (p ++ here.iterators) ≤ℤ negsuc 0)
  low_says is =
      let names : List ℤ = p ++ here.iterators in
      let n = e.domain.columns in
      let b = one_more e.domain (gap_row sub (number_form n (negsuc 0)) 0) names is in
      let w : length names ≡ n = b.0.width in
      (b.0, subst (λ z. value sub names ≤ℤ z) (number_value n (negsuc 0) names) (at_most sub (number_form n (negsuc 0)) names (u ∙ sym w) (number_width n (negsuc 0) ∙ sym w) b.1))

  pub says_low : IsPoint e.domain (p ++ here.iterators) → value sub (p ++ here.iterators) ≤ℤ negsuc 0 → IsPoint (low_question e.domain sub) (p ++ here.iterators)
  says_low is k =
      let names : List ℤ = p ++ here.iterators in
      let n = e.domain.columns in
      let w : length names ≡ n = is.width in
      with_more e.domain (gap_row sub (number_form n (negsuc 0)) 0) names is
      (least sub (number_form n (negsuc 0)) names (u ∙ sym w) (number_width n (negsuc 0) ∙ sym w) (subst (λ z. value sub names ≤ℤ z) (sym (number_value n (negsuc 0) names)) k))

  pub high_says : IsPoint (high_question e.domain (length e.loops) sub extent) (p ++ here.iterators) → IsPoint e.domain (p ++ here.iterators) × (value extent p ≤ℤ value sub (p ++ here.iterators))
  high_says is =
      let names : List ℤ = p ++ here.iterators in
      let g : Affine = widened (length e.loops) extent in
      let b = one_more e.domain (gap_row g sub 0) names is in
      let w : length names ≡ e.domain.columns = b.0.width in
      let wg : length g.coefs ≡ length names = widened_width extent (length (number_ranges program.params)) (length e.loops) (length names) v (w ∙ columns) in
      (b.0, subst (λ z. z ≤ℤ value sub names) (widened_is extent p here.iterators (length e.loops) (v ∙ sym l)) (at_most g sub names wg (u ∙ sym w) b.1))

  pub says_high : IsPoint e.domain (p ++ here.iterators) → value extent p ≤ℤ value sub (p ++ here.iterators) → IsPoint (high_question e.domain (length e.loops) sub extent) (p ++ here.iterators)
  says_high is k =
      let names : List ℤ = p ++ here.iterators in
      let g : Affine = widened (length e.loops) extent in
      let w : length names ≡ e.domain.columns = is.width in
      let wg : length g.coefs ≡ length names = widened_width extent (length (number_ranges program.params)) (length e.loops) (length names) v (w ∙ columns) in
      with_more e.domain (gap_row g sub 0) names is
      (least g sub names wg (u ∙ sym w) (subst (λ z. z ≤ℤ value sub names) (sym (widened_is extent p here.iterators (length e.loops) (v ∙ sym l))) k))

pub access_point : AccessPoint
access_point program p here e access dimension x sub extent has h alive at sub_at extent_at' l is =
    let names : List ℤ = p ++ here.iterators in
    let m = length (number_ranges program.params) in
    let s = site_of program here.statement e h in
    let exts : List Affine = extents_of_access (nest_of program) x in
    let u : length sub.coefs ≡ e.domain.columns = wide_at e.domain.columns x.subs dimension sub (subs_wide program here.statement e s access x at) sub_at in
    let v : length extent.coefs ≡ m = wide_at m exts dimension extent (arrays_wide m (declared_arrays program) x.array.0) extent_at' in
    let found = says u v in
    let inside = (points_are_instances program p here e has h alive l).0 found.0 in
    record {
      context = inside.0;
      runs = inside.1;
      element = element_at names x;
      touched = ap (λ (ys : List Element). slice_get ys access) (sym (accesses_are_events program p here e has h found.0.width)) ∙ to_mapped (element_at names) e.accesses access x at;
      subscript = value sub names;
      is_subscript = value_of_entry x.subs dimension sub names sub_at;
      extent = value extent p;
      is_extent = ap (λ (xs : List ℤ). slice_get xs dimension) (extents_there program p x.array.0 has.plain l) ∙ value_of_entry exts dimension extent p extent_at';
      outside = found.1;
    }
  where
    says : length sub.coefs ≡ e.domain.columns → length extent.coefs ≡ length (number_ranges program.params)
        → IsPoint e.domain (p ++ here.iterators) × ((value sub (p ++ here.iterators) ≤ℤ negsuc 0) ⊎ (value extent p ≤ℤ value sub (p ++ here.iterators)))
    says u v = elim is [
      | inl low ↦ let r = low_says program has p here e h alive sub extent u v l low in (r.0, inl r.1)
      | inr high ↦ let r = high_says program has p here e h alive sub extent u v l high in (r.0, inr r.1)
    ]

-- ---- Both ways

one_plain : (seen : ℕ) (es : List Ix) (e : Ix) → IsTrue (all_plain seen es) → IsIn e es → IsTrue (is_plain seen e)
one_plain seen [] e h i = absurd i
one_plain seen (x ∷ es) e h (inl is) = subst (λ y. IsTrue (is_plain seen y)) (sym is) (both_true (is_plain seen x) (all_plain seen es) h).0
one_plain seen (x ∷ es) e h (inr i) = one_plain seen es e (both_true (is_plain seen x) (all_plain seen es) h).1 i

first_or_later : {A : Type 0} (P : A → Type 0) (x y : A) (xs : List A) → P x → (IsIn y xs → P y) → IsIn y (x ∷ xs) → P y
first_or_later P x y xs a b (inl is) = subst P (sym is) a
first_or_later P x y xs a b (inr j) = b j

decl_plain : (seen : ℕ) (ds : List Decl) (d : Decl) → IsTrue (plain_decls seen ds) → IsIn d ds → IsTrue (all_plain seen d.extents)
decl_plain seen [] d h i = absurd i
decl_plain seen (c ∷ ds) d h i =
    let a = both_true (nat_le (length c.extents) 4) _ h in
    let b = both_true (all_plain seen c.extents) (plain_decls seen ds) a.1 in
    first_or_later (λ (y : Decl). IsTrue (all_plain seen y.extents)) c d ds b.0 (decl_plain seen ds d b.1) i

-- the value of an extent's form
pub extent_value : (program : Program) (p : List ℤ) (d : Decl) (e : Ix) → IsPlain program → length p ≡ length (number_ranges program.params) → IsIn d (declared_arrays program) → IsIn e d.extents
    → value (form_of (length (number_ranges program.params)) 0 e) p ≡ whole e p
extent_value program p d e plain l i j =
    let m = length (number_ranges program.params) in
    let all = plain_append m (arrays_of program.params) program.temps plain.arrays plain.temps in
    whole_here m p e l (is_plain_affine m e (one_plain m d.extents e (decl_plain m (declared_arrays program) d all i) j))

pub narrow : (m : ℕ) (e : Ix) → length (form_of m 0 e).coefs ≡ m
narrow m e = let q : length (form_of m 0 e).coefs ≡ m + 0 = form_width m 0 e in omega arith

extent_asked : (program : Program) (d : Decl) (e : Ix) → IsIn d (declared_arrays program) → IsIn e d.extents
    → IsIn (extent_question (nest_of program) (form_of (length (number_ranges program.params)) 0 e)) (extent_questions (nest_of program))
extent_asked program d e i j =
    let m = length (number_ranges program.params) in
    let n : Nest = nest_of program in
    to_flat_map (λ (a : ArrayInfo). map (extent_question n) a.extents) n.arrays (array_of m d) (extent_question n (form_of m 0 e)) (to_map (array_of m) (declared_arrays program) d i)
    (to_map (extent_question n) (map (form_of m 0) d.extents) (form_of m 0 e) (to_map (form_of m 0) d.extents e j))

-- one dimension of an access
pub dimension_within : (xs ns : List ℤ) (j : ℕ) (x n : ℤ) → is_within xs ns ≡ true → slice_get xs j ≡ Some x → slice_get ns j ≡ Some n → (pos 0 ≤ℤ x) × (x <ℤ n)
dimension_within [] ns j x n w a b = absurd (none-some x a)
dimension_within (y ∷ xs) [] j x n w a b = absurd (none-some n b)
dimension_within (y ∷ xs) (k ∷ ns) zero x n w a b =
    let h = both_true (int_le (pos 0) y && int_lt y k) (is_within xs ns) w in
    let g = both_true (int_le (pos 0) y) (int_lt y k) h.0 in
    let e : y ≡ x = same_Some y x a in
    let f : k ≡ n = same_Some k n b in
    (subst (λ z. pos 0 ≤ℤ z) e (true_le (pos 0) y g.0), subst (λ z. z <ℤ n) e (subst (λ z. y <ℤ z) f (true_lt y k g.1)))
dimension_within (y ∷ xs) (k ∷ ns) (suc j) x n w a b = dimension_within xs ns j x n (both_true (int_le (pos 0) y && int_lt y k) (is_within xs ns) w).1 a b

not_outside : (program : Program) (p : List ℤ) (here : Instance) (access dimension : ℕ) → StaysWithin program p → LiesOutside program p here access dimension → ⊥
not_outside program p here access dimension stays o =
    let t = stays.accesses here o.element o.runs (stands_in (events program p here) access o.element o.touched) in
    let w = dimension_within o.element.1 (get_or (extents_at (declared_arrays program) p) o.element.0 []) dimension o.subscript o.extent t o.is_subscript o.is_extent in
    elim o.outside [ inl low ↦ below o.subscript w.0 low | inr high ↦ above o.subscript o.extent w.1 high ]
  where
    below : (x : ℤ) → pos 0 ≤ℤ x → x ≤ℤ negsuc 0 → ⊥
    below x h g = omega (arith, ints)

    above : (x n : ℤ) → x <ℤ n → n ≤ℤ x → ⊥
    above x n h g = omega (arith, ints)

-- which question of an access it is
record Asked (domain : Rows) (loops : ℕ) (subs extents : List Affine) (q : Rows) : Type 0 where
  dimension : ℕ
  sub : Affine
  sub_at : slice_get subs dimension ≡ Some sub
  extent : Affine
  is_extent : slice_get extents dimension ≡ Some extent
  side : (q ≡ low_question domain sub) ⊎ (q ≡ high_question domain loops sub extent)

asked : (domain : Rows) (loops : ℕ) (subs extents : List Affine) (q : Rows) → IsIn q (questions_of domain loops subs extents) → Asked domain loops subs extents q
asked domain loops [] extents q i = absurd i
asked domain loops (s ∷ subs) [] q i = absurd i
asked domain loops (s ∷ subs) (e ∷ extents) q (inl is) = record { dimension = 0; sub = s; sub_at = refl; extent = e; is_extent = refl; side = inl is }
asked domain loops (s ∷ subs) (e ∷ extents) q (inr (inl is)) = record { dimension = 0; sub = s; sub_at = refl; extent = e; is_extent = refl; side = inr is }
asked domain loops (s ∷ subs) (e ∷ extents) q (inr (inr i)) =
    let r = asked domain loops subs extents q i in
    record { dimension = suc r.dimension; sub = r.sub; sub_at = r.sub_at; extent = r.extent; is_extent = r.is_extent; side = r.side }

split_at : (m : ℕ) (xs : List ℤ) → m < suc (length xs) → (p : List ℤ) × (its : List ℤ) × (xs ≡ p ++ its) × (length p ≡ m)
split_at zero xs h = ([], xs, refl, refl)
split_at (suc m) [] h = absurd (omega arith)
split_at (suc m) (x ∷ xs) h = let r = split_at m xs (omega arith) in (x ∷ r.0, r.1, ap (λ ys. x ∷ ys) r.2, ap suc r.3)

-- a point of a question is one of p and the iterators
no_access_point : (program : Program) → HasNest program → ((p : List ℤ) → IsInContext program p → StaysWithin program p) → NoneHasAPoint (bound_questions (nest_of program))
no_access_point program has stays q i xs is =
    let n : Nest = nest_of program in
    let f = in_flat_map (entry_questions n) n.entries q i in
    let e : Entry = f.0 in
    let k = place_of n.entries e f.1 in
    chosen e k.0 k.1 e.alive refl f.2
  where
    both : (e : Entry) (k : ℕ) → IsEntry program k e → IsTrue e.alive → (p its : List ℤ) → xs ≡ p ++ its → length p ≡ length (number_ranges program.params)
        → (x : Access) → IsIn x e.accesses → Asked e.domain (length e.loops) x.subs (extents_of_access (nest_of program) x) q → ⊥
    both e k h alive p its split l x i a =
        let here : Instance = record { statement = k; iterators = its } in
        let at = place_of e.accesses x i in
        let is' : IsPoint q (p ++ its) = subst (IsPoint q) split is in
        let sides : IsPoint (low_question e.domain a.sub) (p ++ its) ⊎ IsPoint (high_question e.domain (length e.loops) a.sub a.extent) (p ++ its) =
        elim a.side [ inl s ↦ inl (subst (λ y. IsPoint y (p ++ its)) s is') | inr s ↦ inr (subst (λ y. IsPoint y (p ++ its)) s is') ] in
        let o = access_point program p here e at.0 a.dimension x a.sub a.extent has h alive at.1 a.sub_at a.is_extent l sides in
        not_outside program p here at.0 a.dimension (stays p o.context) o

    columns_of_it : (e : Entry) (x : Access) → Asked e.domain (length e.loops) x.subs (extents_of_access (nest_of program) x) q → q.columns ≡ e.domain.columns
    columns_of_it e x a = elim a.side [ inl s ↦ ap (λ (y : Rows). y.columns) s | inr s ↦ ap (λ (y : Rows). y.columns) s ]

    long_enough : (m k c w : ℕ) → w ≡ c → c ≡ m + k → m < suc w
    long_enough m k c w h g = omega (arith, h, g)

    chosen : (e : Entry) (k : ℕ) → IsEntry program k e → (t : Bool) → e.alive ≡ t → IsIn q (entry_questions (nest_of program) e) → ⊥
    chosen e k h true alive i =
        let n : Nest = nest_of program in
        let g : IsIn q (flat_map (λ (x : Access). questions_of e.domain (length e.loops) x.subs (extents_of_access n x)) e.accesses) =
        subst (λ t. IsIn q (if t then flat_map (λ (x : Access). questions_of e.domain (length e.loops) x.subs (extents_of_access n x)) e.accesses else [])) alive i in
        let f = in_flat_map (λ (x : Access). questions_of e.domain (length e.loops) x.subs (extents_of_access n x)) e.accesses q g in
        let a = asked e.domain (length e.loops) f.0.subs (extents_of_access n f.0) q f.2 in
        let c = ((entries_stand program has).1 k e h).columns in
        let s = split_at (length (number_ranges program.params)) xs (long_enough (length (number_ranges program.params)) (length e.loops) e.domain.columns (length xs) (is.width ∙ columns_of_it e f.0 a) c) in
        both e k h alive s.0 s.1 s.2 s.3 f.0 f.1 a
    chosen e k h false dead i =
        subst (λ t. IsIn q (if t then flat_map (λ (x : Access). questions_of e.domain (length e.loops) x.subs (extents_of_access (nest_of program) x)) e.accesses else [])) dead i

no_extent_point : (program : Program) → HasNest program → ((p : List ℤ) → IsInContext program p → StaysWithin program p) → NoneHasAPoint (extent_questions (nest_of program))
no_extent_point program has stays q i xs is =
    let n : Nest = nest_of program in
    let m = length (number_ranges program.params) in
    let f = in_flat_map (λ (a : ArrayInfo). map (extent_question n) a.extents) n.arrays q i in
    let d = in_map (array_of m) (declared_arrays program) f.0 f.1 in
    let g = in_map (extent_question n) f.0.extents q f.2 in
    let j : IsIn g.0 (map (form_of m 0) d.0.extents) = subst (λ (a : ArrayInfo). IsIn g.0 a.extents) d.2 g.1 in
    let e = in_map (form_of m 0) d.0.extents g.0 j in
    let same : q ≡ extent_question n (form_of m 0 e.0) = g.2 ∙ ap (extent_question n) e.2 in
    let s = extent_says program has.plain xs (form_of m 0 e.0) (narrow m e.0) (subst (λ y. IsPoint y xs) same is) in
    let l : length xs ≡ m = is.width ∙ ap (λ (y : Rows). y.columns) same in
    below (value (form_of m 0 e.0) xs) (whole e.0 xs) (extent_value program xs d.0 e.0 has.plain l d.1 e.1) s.1 ((stays xs s.0).extents d.0 e.0 d.1 e.1)
  where
    below : (x y : ℤ) → x ≡ y → x ≤ℤ pos 0 → pos 1 ≤ℤ y → ⊥
    below x y e h g = omega (arith, ints)

-- where no question of an access has a point, it lies within
all_within : (program : Program) (has : HasNest program) (p : List ℤ) (here : Instance) (e : Entry) (h : IsEntry program here.statement e) (alive : IsTrue e.alive)
    → length p ≡ length (number_ranges program.params) → IsPoint e.domain (p ++ here.iterators) → (subs extents : List Affine) → length subs ≡ length extents
    → AllWide e.domain.columns subs → AllWide (length (number_ranges program.params)) extents → NoneHasAPoint (questions_of e.domain (length e.loops) subs extents)
    → is_within (values_of subs (p ++ here.iterators)) (values_of extents p) ≡ true
all_within program has p here e h alive l is [] [] long u v none = refl
all_within program has p here e h alive l is [] (x ∷ extents) long u v none = absurd (omega arith)
all_within program has p here e h alive l is (s ∷ subs) [] long u v none = absurd (omega arith)
all_within program has p here e h alive l is (s ∷ subs) (x ∷ extents) long u v none =
    let names : List ℤ = p ++ here.iterators in
    let low : value s names <ℤ value s names ⊎ (pos 0 ≤ℤ value s names) = elim (or_less (negsuc 0) (value s names)) [
      | inl k ↦ absurd (none (low_question e.domain s) (inl refl) names (says_low program has p here e h alive s x u.0 v.0 l is k))
      | inr k ↦ inr (at_least (value s names) k)
    ] in
    let high : value s names <ℤ value x p = elim (or_less (value s names) (value x p)) [
      | inl k ↦ absurd (none (high_question e.domain (length e.loops) s x) (inr (inl refl)) names (says_high program has p here e h alive s x u.0 v.0 l is k))
      | inr k ↦ k
    ] in
    true_both (int_le (pos 0) (value s names) && int_lt (value s names) (value x p)) (is_within (values_of subs names) (values_of extents p))
    (true_both (int_le (pos 0) (value s names)) (int_lt (value s names) (value x p)) (le_true (pos 0) (value s names) (right (value s names) low)) (lt_true (value s names) (value x p) high))
    (all_within program has p here e h alive l is subs extents (omega (arith, long)) u.1 v.1 (λ q i. none q (inr (inr i))))
  where
    at_least : (z : ℤ) → negsuc 0 <ℤ z → pos 0 ≤ℤ z
    at_least z k = omega (arith, ints)

    right : (z : ℤ) → (z <ℤ z) ⊎ (pos 0 ≤ℤ z) → pos 0 ≤ℤ z
    right z (inl k) = absurd (never z k)
      where
        never : (z : ℤ) → z <ℤ z → ⊥
        never z k = omega (arith, ints)
    right z (inr k) = k

-- an access has as many subscripts as its array has extents
pub as_many : (program : Program) (k : ℕ) (e : Entry) → NamesArrays program → IsEntry program k e → (x : Access) → IsIn x e.accesses → length x.subs ≡ length (extents_of_access (nest_of program) x)
as_many program k e named h x i =
    let m = length (number_ranges program.params) in
    let s = site_of program k e h in
    let n = m + loops_in s.its_rounds in
    let j : IsIn x (map (access_form n) (accesses_of s.assignment)) = subst (λ (y : Entry). IsIn x y.accesses) s.is i in
    let y = in_map (access_form n) (accesses_of s.assignment) x j in
    let d = named s.assignment y.0 (stands_in (assignments program) k s.assignment s.assignment_at) y.1 in
    let array : extents_of_access (nest_of program) (access_form n y.0) ≡ map (form_of m 0) d.0.extents = ap extents_or_none (to_mapped (array_of m) (declared_arrays program) y.0.0.0 d.0 d.1) in
    subst (λ (z : Access). length z.subs ≡ length (extents_of_access (nest_of program) z)) (sym y.2)
    (mapped (form_of n 0) y.0.1 ∙ d.2 ∙ sym (mapped (form_of m 0) d.0.extents) ∙ ap length (sym array))
  where
    mapped : (f : Ix → Affine) (es : List Ix) → length (map f es) ≡ length es
    mapped f [] = refl
    mapped f (e ∷ es) = ap suc (mapped f es)

stays_within : (program : Program) → HasNest program → NamesArrays program → NoneHasAPoint (extent_questions (nest_of program)) → NoneHasAPoint (bound_questions (nest_of program))
    → (p : List ℤ) → IsInContext program p → StaysWithin program p
stays_within program has named none_e none_b p inside = record {
  extents = λ d e i j.
      let f : Affine = form_of m 0 e in
      elim (or_less (pos 0) (value f p)) [
        | inl k ↦ absurd (none_e (extent_question n f) (extent_asked program d e i j) p (says_extent program has.plain p f (narrow m e) inside k))
        | inr k ↦ at_least (value f p) (whole e p) (extent_value program p d e has.plain l i j) k
      ];
  accesses = λ b x i j.
      let t = (instances_turn program p b).0 i in
      let a = has_assignment program b.statement t.0 t.1 in
      let there = there_is n.entries b.statement (fewer (entries_stand program has).0 (slice_get_within (assignments program) b.statement a.0 a.1)) in
      by_entry b x i j there.0 there.1 there.0.alive refl;
}
  where
    n : Nest
    n = nest_of program

    m : ℕ
    m = length (number_ranges program.params)

    l : length p ≡ length (number_ranges program.params)
    l = sym (box_length (number_ranges program.params) p (in_ranges program.params p inside.ranges))

    fewer : {x y k : ℕ} → x ≡ y → k < y → k < x
    fewer e h = omega (arith, e, h)

    at_least : (x y : ℤ) → x ≡ y → pos 0 <ℤ x → pos 1 ≤ℤ y
    at_least x y e k = omega (arith, ints)

    by_entry : (b : Instance) (x : Element) → IsIn b (trace program p) → IsIn x (events program p b) → (e : Entry) → IsEntry program b.statement e → (t : Bool) → e.alive ≡ t
        → IsTrue (is_within x.1 (get_or (extents_at (declared_arrays program) p) x.0 []))
    by_entry b x i j e h true alive =
        let names : List ℤ = p ++ b.iterators in
        let is = (points_are_instances program p b e has h alive l).1 (inside, i) in
        let k : IsIn x (map (element_at names) e.accesses) = subst (IsIn x) (sym (accesses_are_events program p b e has h is.width)) j in
        let r = in_map (element_at names) e.accesses x k in
        let at = place_of e.accesses r.0 r.1 in
        let s = site_of program b.statement e h in
        let exts : List Affine = extents_of_access (nest_of program) r.0 in
        let none : NoneHasAPoint (questions_of e.domain (length e.loops) r.0.subs exts) = λ q g. none_b q (asked_there e b.statement h alive r.0 r.1 q g) in
        let w = all_within program has p b e h alive l is r.0.subs exts (as_many program b.statement e named h r.0 r.1) (subs_wide program b.statement e s at.0 r.0 at.1) (arrays_wide (length (number_ranges program.params)) (declared_arrays program) r.0.array.0) none in
        subst (λ (y : Element). IsTrue (is_within y.1 (get_or (extents_at (declared_arrays program) p) y.0 []))) (sym r.2)
        (ap (is_within (values_of r.0.subs names)) (extents_there program p r.0.array.0 has.plain l) ∙ w)
      where
        asked_there : (e : Entry) (k : ℕ) → IsEntry program k e → e.alive ≡ true → (y : Access) → IsIn y e.accesses → (q : Rows) → IsIn q (questions_of e.domain (length e.loops) y.subs (extents_of_access (nest_of program) y))
            → IsIn q (bound_questions (nest_of program))
        asked_there e k h alive y i q g =
            to_flat_map (entry_questions (nest_of program)) (nest_of program).entries e q (stands_in (nest_of program).entries k e h)
            (subst (λ t. IsIn q (if t then flat_map (λ (x : Access). questions_of e.domain (length e.loops) x.subs (extents_of_access (nest_of program) x)) e.accesses else [])) (sym alive)
            (to_flat_map (λ (x : Access). questions_of e.domain (length e.loops) x.subs (extents_of_access (nest_of program) x)) e.accesses y q i g))
    by_entry b x i j e h false dead = absurd ((none_where_not_alive program e b has h dead).1 p inside i)

pub questions_decide : QuestionsDecide
questions_decide program has named =
    (λ none. stays_within program has named none.0 none.1, λ stays. (no_extent_point program has stays, no_access_point program has stays))
