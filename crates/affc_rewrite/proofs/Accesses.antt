-- What is known of each access of an instance of a plain program that is safe.
use Rattle.std.proofs.Common.{◌≡◌, ℕ, zero, suc, ◌+◌, ◌^◌, ◌≤◌, ℤ, IsTrue, List, [], ◌∷◌, ◌++◌, length, get_or, map, Option, Some, None, refl, sym, ap, subst, ◌∙◌, ◌⊎◌, inl, inr, arith}
use Rattle.std.specs.Prelude.{slice_get, unsigned_abs, nat_le}
use Rattle.std.proofs.lemmas.List.Elements.{All-nil, All-cons}
use Rattle.affc_rows.specs.Forms.{value}
use Rattle.affc_ast.specs.declared.tree.Decl.{Decl}
use Rattle.affc_ast.specs.declared.tree.Instance.{Instance}
use Rattle.affc_ast.specs.declared.tree.Ix.{Ix}
use Rattle.affc_ast.specs.declared.tree.Op.{Op}
use Rattle.affc_ast.specs.declared.tree.Program.{Program}
use Rattle.affc_ast.specs.declared.tree.Val.{Val}
use Rattle.affc_ast.specs.declared.tree.Val.TheVariants as v
use Rattle.affc_ast.specs.declared.tree.Val.TheBlock.{more_of-Val, end_of-Val}
use Rattle.affc_ast.specs.Fits.{whole, within_ranges}
use Rattle.affc_ast.specs.Store.{Element}
use Rattle.affc_ast.specs.Trace.{Assignment, assignments, element, trace, own_load, loads_of_value, loaded_by, stored_by}
use Rattle.affc_trace.specs.Effects.{effect}
use Rattle.affc_trace.specs.Law.{IsIn}
use Rattle.affc_trace.specs.Orders.{Touches}
use Rattle.affc_trace.proofs.Members.{to_first, to_second}
use Rattle.affc_trace.proofs.Once.{in_append}
use Rattle.affc_trace.proofs.Runs.{length_append}
use Rattle.affc_system.specs.Boxes.{InBox}
use Rattle.affc_domain.specs.Accesses.{Access, accesses_in, own_access, accesses_of}
use Rattle.affc_domain.specs.Affine.{form_of}
use Rattle.affc_domain.specs.Arrays.{extents_at}
use Rattle.affc_domain.specs.Plain.{IsPlain, is_plain, all_plain, plain_decls}
use Rattle.affc_domain.specs.Ranges.{first_wide, number_ranges}
use Rattle.affc_domain.specs.Rounds.{loops_in}
use Rattle.affc_domain.proofs.CountLemmas.{iterators_of_loops}
use Rattle.affc_domain.proofs.Lists.{both_true}
use Rattle.affc_domain.proofs.PlainLemmas.{assignments_are_plain, few_loops, is_plain_affine}
use Rattle.affc_domain.proofs.RangeLemmas.{box_length, in_ranges}
use Rattle.affc_domain.proofs.TurnLemmas.{instances_turn}
use Rattle.affc_safe.proofs.PlainReads as safe
use Rattle.affc_safe.proofs.PlainReads.{box_near}
use Rattle.affc_nest.specs.Touches.{AllPlain}
use Rattle.affc_nest.proofs.AccessLemmas.{whole_here, plain_accesses}
use Rattle.affc_nest.proofs.RowLemmas.{plain_side}
use Rattle.affc_nest.specs.Sides.{IsSide}
use Rattle.affc_loops.proofs.Boxes.{encloses, sits, near_box}
use Rattle.affc_loops.proofs.Sizes.{params_within, box_within}
use Rattle.affc_basis.specs.Bases.{AreWithin}
use Rattle.affc_rewrite.specs.Sizes.{AllSides}

-- ---- An access is of an element that is touched

loaded_in : (e : Val) (names : List ℤ) (x : Access) → IsIn x (accesses_in e) → IsIn (element names x.0 x.1) (loads_of_value e names)
loaded_in (v.Load array subs) names x (inl i) = inl (ap (λ (y : Access). element names y.0 y.1) i)
loaded_in (v.Load array subs) names x (inr i) = absurd i
loaded_in (v.Const n) names x i = absurd i
loaded_in (v.Cast e) names x i = absurd i
loaded_in (v.Not' t (more_of-Val a end_of-Val)) names x i = loaded_in a names x i
loaded_in (v.Shift' left t (more_of-Val a end_of-Val) by) names x i = loaded_in a names x i
loaded_in (v.Bin' op t (more_of-Val a end_of-Val) u (more_of-Val b end_of-Val)) names x i = elim (in_append (accesses_in a) (accesses_in b) x i) [
  | inl j ↦ to_first (loads_of_value a names) (loads_of_value b names) (element names x.0 x.1) (loaded_in a names x j)
  | inr j ↦ to_second (loads_of_value a names) (loads_of_value b names) (element names x.0 x.1) (loaded_in b names x j)
]

own_in : (op : Option Op) (own x : Access) (names : List ℤ) (rest : List Element) → IsIn x (own_access op own) → IsIn (element names x.0 x.1) (own_load op (element names own.0 own.1) ++ rest)
own_in None own x names rest i = absurd i
own_in (Some op) own x names rest (inl e) = inl (ap (λ (y : Access). element names y.0 y.1) e)
own_in (Some op) own x names rest (inr i) = absurd i

stored_in : (own x : Access) (names : List ℤ) → IsIn x (own ∷ []) → element names x.0 x.1 ≡ element names own.0 own.1
stored_in own x names (inl e) = ap (λ (y : Access). element names y.0 y.1) e
stored_in own x names (inr i) = absurd i

touched_by : (a : Assignment) (names : List ℤ) (x : Access) → IsIn x (accesses_of a) → IsIn (element names x.0 x.1) (loaded_by (Some a) names) ⊎ (element names x.0 x.1 ≡ stored_by (Some a) names)
touched_by a names x i = elim (in_append (own_access a.op (a.array, a.subs)) (accesses_in a.value ++ (a.array, a.subs) ∷ []) x i) [
  | inl j ↦ inl (own_in a.op (a.array, a.subs) x names (loads_of_value a.value names) j)
  | inr j ↦ elim (in_append (accesses_in a.value) ((a.array, a.subs) ∷ []) x j) [
    | inl k ↦ inl (to_second (own_load a.op (element names a.array a.subs)) (loads_of_value a.value names) (element names x.0 x.1) (loaded_in a.value names x k))
    | inr k ↦ inr (stored_in (a.array, a.subs) x names k)
  ]
]

pub access_touches : (program : Program) (p : List ℤ) (b : Instance) (a : Assignment) (x : Access) → slice_get (assignments program) b.statement ≡ Some a → IsIn x (accesses_of a)
    → Touches (effect program p) b (element (p ++ b.iterators) x.0 x.1)
access_touches program p b a x e i =
    let names : List ℤ = p ++ b.iterators in
    subst (λ o. IsIn (element names x.0 x.1) (loaded_by o names) ⊎ (element names x.0 x.1 ≡ stored_by o names)) (sym e) (touched_by a names x i)

-- ---- Plain subscripts

plain_in : (n : ℕ) (xs : List Access) (x : Access) → AllPlain n xs → IsIn x xs → IsTrue (all_plain n x.1)
plain_in n [] x h i = absurd i
plain_in n (y ∷ xs) x h (inl e) = subst (λ (y : Access). IsTrue (all_plain n y.1)) (sym e) h.0
plain_in n (y ∷ xs) x h (inr i) = plain_in n xs x h.1 i

pub sides_of : (n : ℕ) (es : List Ix) → IsTrue (all_plain n es) → AllSides n (map (form_of n 0) es)
sides_of n [] h = tt
sides_of n (e ∷ es) h =
    let a = both_true (is_plain n e) (all_plain n es) h in
    let z : n + 0 ≡ n = omega arith in
    (subst (λ m. IsSide m (form_of n 0 e)) z (plain_side n 0 e a.0), sides_of n es a.1)

-- ---- Extents

values_plain : (n : ℕ) (p : List ℤ) (es : List Ix) → length p ≡ n → IsTrue (all_plain n es) → map (λ f. value f p) (map (form_of n 0) es) ≡ map (λ e. whole e p) es
values_plain n p [] l h = refl
values_plain n p (e ∷ es) l h =
    let a = both_true (is_plain n e) (all_plain n es) h in
    ap (λ z. z ∷ map (λ f. value f p) (map (form_of n 0) es)) (whole_here n p e l (is_plain_affine n e a.0)) ∙ ap (λ zs. whole e p ∷ zs) (values_plain n p es l a.1)

pub extents_are : (n : ℕ) (p : List ℤ) (ds : List Decl) (k : ℕ) → length p ≡ n → IsTrue (plain_decls n ds)
    → map (λ f. value f p) (get_or (map (λ (d : Decl). map (form_of n 0) d.extents) ds) k []) ≡ get_or (extents_at ds p) k []
extents_are n p [] k l h = refl
extents_are n p (d ∷ ds) zero l h = values_plain n p d.extents l (both_true (all_plain n d.extents) (plain_decls n ds) (both_true (nat_le (length d.extents) 4) _ h).1).0
extents_are n p (d ∷ ds) (suc k) l h = extents_are n p ds k l (both_true (all_plain n d.extents) (plain_decls n ds) (both_true (nat_le (length d.extents) 4) _ h).1).1

-- ---- The names at an instance

near_list : (xs : List ℤ) → safe.AreNear xs → AreWithin (2 ^ 31) xs
near_list [] h = All-nil (λ x. unsigned_abs x ≤ 2 ^ 31)
near_list (x ∷ xs) h = All-cons (λ x. unsigned_abs x ≤ 2 ^ 31) x xs h.0 (near_list xs h.1)

pub within_more : (xs : List ℤ) (m n : ℕ) → m ≤ n → AreWithin m xs → AreWithin n xs
within_more xs m n h w = λ i x l. let k : unsigned_abs (get_or xs i x) ≤ m = w i x l in omega arith

within_append : (xs ys : List ℤ) (most : ℕ) → AreWithin most xs → AreWithin most ys → AreWithin most (xs ++ ys)
within_append [] ys most h k = k
within_append (x ∷ xs) ys most h k = All-cons (λ x. unsigned_abs x ≤ most) x (xs ++ ys) (h 0 x (omega arith)) (within_append xs ys most (λ i y m. h (suc i) y (omega arith)) k)

-- the parameters
pub record Parameters (source : Program) (p : List ℤ) : Type 0 where
  pub count : length p ≡ length (number_ranges source.params)
  pub few : length p ≤ 4
  pub near : AreWithin (2 ^ 24) p

pub parameters_are : (source : Program) (p : List ℤ) → IsPlain source → IsTrue (within_ranges source.params p) → Parameters source p
parameters_are source p plain within =
    let ranges = number_ranges source.params in
    let box : InBox ranges p = in_ranges source.params p within in
    let l : length ranges ≡ length p = box_length ranges p box in
    let q : length ranges ≤ 4 = plain.few_numbers in
    record { count = sym l; few = omega arith; near = box_within ranges p (2 ^ 24) box (params_within ranges plain.ranges) }

pub record Named (source : Program) (p : List ℤ) (b : Instance) (x : Access) : Type 0 where
  pub short : length (p ++ b.iterators) ≤ 10
  pub near : AreWithin (2 ^ 31) (p ++ b.iterators)
  pub plain : IsTrue (all_plain (length (p ++ b.iterators)) x.1)

pub named : (source : Program) (p : List ℤ) (b : Instance) (a : Assignment) (x : Access) → IsPlain source → first_wide source ≡ None → IsTrue (within_ranges source.params p)
    → IsIn b (trace source p) → slice_get (assignments source) b.statement ≡ Some a → IsIn x (accesses_of a) → Named source p b x
named source p b a x plain thin within i e j =
    let ranges = number_ranges source.params in
    let m : ℕ = length ranges in
    let t = (instances_turn source p b).0 i in
    let params = parameters_are source p plain within in
    let there = assignments_are_plain source plain b.statement t.0 a t.1 e in
    let loops : 0 + loops_in t.0 ≤ 6 = few_loops m 0 0 t.0 (omega arith) there.0 in
    let long : length b.iterators ≡ loops_in t.0 = iterators_of_loops source p b t.0 i t.1 in
    let l : length p ≡ m = params.count in
    let f : length p ≤ 4 = params.few in
    let both : length (p ++ b.iterators) ≡ length p + length b.iterators = length_append p b.iterators in
    let same : m + (0 + loops_in t.0) ≡ length (p ++ b.iterators) = omega arith in
    let box = encloses source p plain thin within b i in
    let s = sits source b.statement box.0 box.1 in
    let own = near_box ranges s.around box.0 s.is_box in
    record {
      short = omega arith;
      near = within_append p b.iterators (2 ^ 31) (within_more p (2 ^ 24) (2 ^ 31) (omega arith) params.near) (near_list b.iterators (box_near box.0 b.iterators box.2 own.near));
      plain = subst (λ n. IsTrue (all_plain n x.1)) same (plain_in (m + (0 + loops_in t.0)) (accesses_of a) x (plain_accesses (m + (0 + loops_in t.0)) a there.1) j);
    }
