-- At each p of the context there is a store that fits.
use Rattle.std.proofs.Common.{◌≡◌, ℕ, zero, suc, ◌+◌, ◌<◌, ◌^◌, ℤ, pos, T, Bool, true, false, true≢false, cond, ◌&&◌, int_le, int_lt, IsTrue, List, [], ◌∷◌, ◌++◌, map, flat_map, Option, Some, Result, Ok, Err, refl, sym, ap, subst, ◌∙◌, ◌⊎◌, inl, inr, arith}
use Rattle.std.specs.Prelude.{slice_get, is_some}
use Rattle.std.specs.FinMap.Entries.{find-put, is_sorted, is_sorted-put}
use Rattle.affc_ast.specs.declared.tree.Decl.{Decl}
use Rattle.affc_ast.specs.declared.tree.Rel.TheVariants.{Less}
use Rattle.affc_ast.specs.Cause.{Cause}
use Rattle.affc_ast.specs.Fits.{has_element, lies_in}
use Rattle.affc_ast.specs.Meaning.{extents_of, arrays_of, turns_of}
use Rattle.affc_ast.specs.Store.{Element, Store, element_cmp, at, with_value}
use Rattle.affc_ast.specs.Trace.{count_from}
use Rattle.affc_ast.specs.Values.{is_within}
use Rattle.affc_trace.specs.Law.{IsIn}
use Rattle.affc_trace.specs.Dataflow.{same_element}
use Rattle.affc_trace.proofs.Members.{both_hold, hold_both, to_first, to_second, to_flat_map, in_map, to_map}
use Rattle.affc_trace.proofs.Once.{in_append, in_flat_map}
use Rattle.affc_trace.proofs.Runs.{element_cmp_total}
use Rattle.affc_trace.proofs.Targets.{same_element_decides}
use Rattle.affc_domain.proofs.TurnLemmas.{turn_goes_on, to_turn}
use Rattle.affc_safe.specs.Laws.{SomeStoreFits, NeverStuckIsSafe, SafeIsNeverStuck}
use Rattle.affc_safe.proofs.PlainNear.{plain_has_no_locals}
use Rattle.affc_safe.proofs.SafeLaws.{safe_runs}
use Rattle.affc_safe.proofs.EndedSafe.{ended_is_safe}

-- ---- the elements of an array

abbrev all_subscripts : List ℤ → List (List ℤ)
all_subscripts [] = [] ∷ []
all_subscripts (n ∷ ns) = flat_map (λ x. map (λ xs. x ∷ xs) (all_subscripts ns)) (count_from (turns_of Less (pos 0) n) (pos 0))

listed : (xs ns : List ℤ) → is_within xs ns ≡ true → IsIn xs (all_subscripts ns)
listed [] [] e = inl refl
listed [] (n ∷ ns) e = absurd (true≢false (sym e))
listed (x ∷ xs) [] e = absurd (true≢false (sym e))
listed (x ∷ xs) (n ∷ ns) e =
    let a = both_hold (int_le (pos 0) x && int_lt x n) (is_within xs ns) e in
    let b = both_hold (int_le (pos 0) x) (int_lt x n) a.0 in
    to_flat_map (λ x. map (λ xs. x ∷ xs) (all_subscripts ns)) (count_from (turns_of Less (pos 0) n) (pos 0)) x (x ∷ xs) (to_turn Less (pos 0) n x b.0 b.1)
    (to_map (λ xs. x ∷ xs) (all_subscripts ns) xs (listed xs ns a.1))

is_listed : (xs ns : List ℤ) → IsIn xs (all_subscripts ns) → is_within xs ns ≡ true
is_listed xs [] (inl e) = ap (λ l. is_within l []) e
is_listed xs [] (inr i) = absurd i
is_listed xs (n ∷ ns) i =
    let r = in_flat_map (λ x. map (λ xs. x ∷ xs) (all_subscripts ns)) (count_from (turns_of Less (pos 0) n) (pos 0)) xs i in
    let q = in_map (λ ys. r.0 ∷ ys) (all_subscripts ns) xs r.2 in
    let g = turn_goes_on Less (pos 0) n r.0 r.1 in
    ap (λ l. is_within l (n ∷ ns)) q.2 ∙ hold_both (int_le (pos 0) r.0 && int_lt r.0 n) (is_within q.0 ns) (hold_both (int_le (pos 0) r.0) (int_lt r.0 n) g.0 g.1) (is_listed q.0 ns q.1)

abbrev subscripts_in : Result (List ℤ) Cause → List (List ℤ)
subscripts_in (Ok ns) = all_subscripts ns
subscripts_in (Err cause) = []

lies_listed : (xs : List ℤ) (r : Result (List ℤ) Cause) → lies_in xs r ≡ true → IsIn xs (subscripts_in r)
lies_listed xs (Ok ns) e = listed xs ns e
lies_listed xs (Err cause) e = absurd (true≢false (sym e))

listed_lies : (xs : List ℤ) (r : Result (List ℤ) Cause) → IsIn xs (subscripts_in r) → lies_in xs r ≡ true
listed_lies xs (Ok ns) i = is_listed xs ns i
listed_lies xs (Err cause) i = absurd i

-- ---- those of arrays with numbers from k on

module _ (p : List ℤ) where
  abbrev elements_from : ℕ → List Decl → List Element
  elements_from k [] = []
  elements_from k (d ∷ ds) = map (λ xs. (k, xs)) (subscripts_in (extents_of k d.extents 0 p)) ++ elements_from (suc k) ds

  has_listed : (k j : ℕ) (ds : List Decl) (a : ℕ) (xs : List ℤ) → a ≡ k + j → has_element (slice_get ds j) (a, xs) p ≡ true → IsIn (a, xs) (elements_from k ds)
  has_listed k j [] a xs e h = absurd (true≢false (sym h))
  has_listed k zero (d ∷ ds) a xs e h =
      let n : a ≡ k = omega arith in
      to_first (map (λ xs. (k, xs)) (subscripts_in (extents_of k d.extents 0 p))) (elements_from (suc k) ds) (a, xs)
      (subst (λ m. IsIn {X = Element} (m, xs) (map (λ xs. (k, xs)) (subscripts_in (extents_of k d.extents 0 p)))) (sym n)
      (to_map (λ xs. (k, xs)) (subscripts_in (extents_of k d.extents 0 p)) xs (lies_listed xs (extents_of k d.extents 0 p) (ap (λ m. lies_in xs (extents_of m d.extents 0 p)) (sym n) ∙ h))))
  has_listed k (suc j) (d ∷ ds) a xs e h =
      to_second (map (λ xs. (k, xs)) (subscripts_in (extents_of k d.extents 0 p))) (elements_from (suc k) ds) (a, xs) (has_listed (suc k) j ds a xs (omega arith) h)

  listed_has : (k : ℕ) (ds : List Decl) (x : Element) → IsIn x (elements_from k ds) → (j : ℕ) × (x.0 ≡ k + j) × (has_element (slice_get ds j) x p ≡ true)
  listed_has k [] x i = absurd i
  listed_has k (d ∷ ds) x i = elim (in_append (map (λ xs. (k, xs)) (subscripts_in (extents_of k d.extents 0 p))) (elements_from (suc k) ds) x i) [
    | inl m ↦
        let q = in_map (λ xs. (k, xs)) (subscripts_in (extents_of k d.extents 0 p)) x m in
        let n : x.0 ≡ k = ap (λ y. y.0) q.2 in
        (0, omega arith, ap (λ (y : Element). lies_in y.1 (extents_of y.0 d.extents 0 p)) q.2 ∙ listed_lies q.0 (extents_of k d.extents 0 p) q.1)
    | inr m ↦
        let r = listed_has (suc k) ds x m in
        let n : x.0 ≡ suc k + r.0 = r.1 in
        (suc r.0, omega arith, r.2)
  ]

-- ---- a store with these elements

abbrev zeros_at : List Element → Store
zeros_at [] = []
zeros_at (x ∷ xs) = with_value (zeros_at xs) x 0

sorted : (xs : List Element) → T (is_sorted element_cmp (zeros_at xs))
sorted [] = tt
sorted (x ∷ xs) = is_sorted-put element_cmp element_cmp_total x 0 (zeros_at xs) (sorted xs)

holds_at : (x : Element) (xs : List Element) (y : Element) → at (zeros_at (x ∷ xs)) y ≡ cond (same_element y x) (Some 0) (at (zeros_at xs) y)
holds_at x xs y = find-put element_cmp element_cmp_total y x 0 (zeros_at xs)

some_here : (b : Bool) (o : Option ℕ) → b ≡ true → is_some (cond b (Some 0) o) ≡ true
some_here true o e = refl
some_here false o e = absurd (true≢false (sym e))

some_there : (b : Bool) (o : Option ℕ) → is_some o ≡ true → is_some (cond b (Some 0) o) ≡ true
some_there true o e = refl
some_there false o e = e

from_some : (b : Bool) (o : Option ℕ) → is_some (cond b (Some 0) o) ≡ true → (b ≡ true) ⊎ (is_some o ≡ true)
from_some true o e = inl refl
from_some false o e = inr e

has_value : (xs : List Element) (y : Element) → IsIn y xs → is_some (at (zeros_at xs) y) ≡ true
has_value [] y i = absurd i
has_value (x ∷ xs) y (inl e) = ap is_some (holds_at x xs y) ∙ some_here (same_element y x) (at (zeros_at xs) y) ((same_element_decides y x).1 e)
has_value (x ∷ xs) y (inr i) = ap is_some (holds_at x xs y) ∙ some_there (same_element y x) (at (zeros_at xs) y) (has_value xs y i)

value_has : (xs : List Element) (y : Element) → is_some (at (zeros_at xs) y) ≡ true → IsIn y xs
value_has [] y e = absurd (true≢false (sym e))
value_has (x ∷ xs) y e = elim (from_some (same_element y x) (at (zeros_at xs) y) (ap is_some (sym (holds_at x xs y)) ∙ e)) [
  | inl b ↦ inl ((same_element_decides y x).0 b)
  | inr o ↦ inr (value_has xs y o)
]

small : (xs : List Element) (y : Element) (v : ℕ) → at (zeros_at xs) y ≡ Some v → v < 2 ^ 64
small [] y v e = cc
small (x ∷ xs) y v e = of_two (same_element y x) (sym (holds_at x xs y) ∙ e) (small xs y v)
  where
    of_two : (b : Bool) → cond b (Some 0) (at (zeros_at xs) y) ≡ Some v → (at (zeros_at xs) y ≡ Some v → v < 2 ^ 64) → v < 2 ^ 64
    of_two true q h = let z : 0 ≡ v = cc in omega arith
    of_two false q h = h q

same_bools : (a b : Bool) → (a ≡ true → b ≡ true) → (b ≡ true → a ≡ true) → a ≡ b
same_bools true true f g = refl
same_bools true false f g = sym (f refl)
same_bools false true f g = g refl
same_bools false false f g = refl

pub some_store_fits : SomeStoreFits
some_store_fits program p inside =
    let ds : List Decl = arrays_of program.params in
    let xs : List Element = elements_from p 0 ds in (
      zeros_at xs,
      record {
        ranges = inside.ranges;
        context = inside.context;
        ordered = is_true (is_sorted element_cmp (zeros_at xs)) (sorted xs);
        exactly = λ x. same_bools (is_some (at (zeros_at xs) x)) (has_element (slice_get ds x.0) x p)
            (λ e. let r = listed_has p 0 ds x (value_has xs x e) in let n : r.0 ≡ x.0 = (let q : x.0 ≡ 0 + r.0 = r.1 in omega arith) in ap (λ j. has_element (slice_get ds j) x p) (sym n) ∙ r.2)
            (λ e. has_value xs x (has_listed p 0 x.0 ds x.0 x.1 (omega arith) e));
        values = small xs;
      },
    )
  where
    is_true : (b : Bool) → T b → IsTrue b
    is_true true h = refl
    is_true false h = absurd h

pub never_stuck_is_safe : NeverStuckIsSafe
never_stuck_is_safe program p plain inside never =
    let s = some_store_fits program p inside in
    let e = never s.0 s.1 in
    ended_is_safe program p s.0 e.0 plain s.1 e.1

pub safe_is_never_stuck : SafeIsNeverStuck
safe_is_never_stuck program p plain thin inside = (
  λ safe store fits. safe_runs program p store plain thin fits safe,
  λ never. never_stuck_is_safe program p (plain_has_no_locals program plain) inside never,
)
