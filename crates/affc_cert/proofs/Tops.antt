-- Verdicts on parts, place by place.
use Rattle.affc_cert.specs.Refusals.{each, each_by, first}
use Rattle.affc_certvalue.specs.declared.verdict.Verdict.{Verdict}
use Rattle.serde_json.specs.Data.{Data}
use Rattle.serde_json.specs.View.{view, items_view}
use Rattle.serde_json.specs.declared.value.Value.{Value}
use Rattle.std.proofs.Common.{◌≡◌, ℕ, zero, suc, ◌+◌, ◌<◌, ◌≤◌, List, [], ◌∷◌, ◌++◌, length, get_or, take, drop, Bool, true, false, Some, None, refl, sym, ap, ap₂, ◌∙◌, arith, add-one, append_assoc, append-nil}

each_more_by_one : (judge : Data → Verdict) (vs : List Value) (i : ℕ) (d : Value) → i < length vs
    → each judge (items_view (take (suc i) vs)) ≡ each judge (items_view (take i vs)) ++ judge (view (get_or vs i d)) ∷ []
each_more_by_one judge [] i d h = absurd (omega arith)
each_more_by_one judge (v ∷ vs) zero d h = refl
each_more_by_one judge (v ∷ vs) (suc i) d h = ap (λ xs. judge (view v) ∷ xs) (each_more_by_one judge vs i d (omega arith))

pub each_more : (judge : Data → Verdict) (vs : List Value) (i : ℕ) (d : Value) → i < length vs
    → each judge (items_view (take (i + 1) vs)) ≡ each judge (items_view (take i vs)) ++ judge (view (get_or vs i d)) ∷ []
each_more judge vs i d h = ap (λ k. each judge (items_view (take k vs))) (add-one i) ∙ each_more_by_one judge vs i d h

pub ruleset each_steps = (each_more, add-one)

first_more_by_one : (test : Verdict → Bool) (vs : List Verdict) (i k : ℕ) (d : Verdict) → i < length vs → test (get_or vs i d) ≡ false → first test k (drop i vs) ≡ first test (k + 1) (drop (suc i) vs)
first_more_by_one test [] i k d h e = absurd (omega arith)
first_more_by_one test (v ∷ vs) zero k d h e = rw e refl
first_more_by_one test (v ∷ vs) (suc i) k d h e = first_more_by_one test vs i k d (omega arith) e

pub first_more : (test : Verdict → Bool) (vs : List Verdict) (i k : ℕ) (d : Verdict) → i < length vs → test (get_or vs i d) ≡ false → first test k (drop i vs) ≡ first test (k + 1) (drop (i + 1) vs)
first_more test vs i k d h e = first_more_by_one test vs i k d h e ∙ ap (λ j. first test (k + 1) (drop j vs)) (sym (add-one i))

pub first_here : (test : Verdict → Bool) (vs : List Verdict) (i k : ℕ) (d : Verdict) → i < length vs → test (get_or vs i d) ≡ true → first test k (drop i vs) ≡ Some k
first_here test [] i k d h e = absurd (omega arith)
first_here test (v ∷ vs) zero k d h e = rw e refl
first_here test (v ∷ vs) (suc i) k d h e = first_here test vs i k d (omega arith) e

pub first_none : (test : Verdict → Bool) (vs : List Verdict) (i k : ℕ) → length vs ≤ i → first test k (drop i vs) ≡ None
first_none test [] zero k h = refl
first_none test [] (suc i) k h = refl
first_none test (v ∷ vs) zero k h = absurd (omega arith)
first_none test (v ∷ vs) (suc i) k h = first_none test vs i k (omega arith)

pub ruleset first_steps = (first_more, first_here, first_none)

pub each_kept : (judge : Data → Verdict) (vs : List Value) (i : ℕ) (d : Value) (old now new : List Verdict) (x : Verdict) → i < length vs
    → now ≡ old ++ each judge (items_view (take i vs)) → new ≡ now ++ x ∷ [] → x ≡ judge (view (get_or vs i d)) → new ≡ old ++ each judge (items_view (take (i + 1) vs))
each_kept judge vs i d old now new x h e f g =
    f ∙ ap₂ (λ xs y. xs ++ y ∷ []) e g ∙ append_assoc old (each judge (items_view (take i vs))) (judge (view (get_or vs i d)) ∷ []) ∙ ap (λ xs. old ++ xs) (sym (each_more judge vs i d h))

pub ruleset more_steps = (append_assoc, append-nil)

-- ---- Each by what has its place in a list

none_by : {A : Type 0} (judge : A → Data → Verdict) (xs : List A) → each_by judge xs (items_view []) ≡ []
none_by judge [] = refl
none_by judge (x ∷ xs) = refl

pub zip_over : {A : Type 0} (judge : A → Data → Verdict) (xs : List A) (vs : List Value) (i : ℕ) → i ≡ length vs → each_by judge (drop i xs) (items_view (drop i vs)) ≡ []
zip_over judge xs [] zero h = none_by judge xs
zip_over judge xs [] (suc i) h = absurd (omega arith)
zip_over judge xs (v ∷ vs) zero h = absurd (omega arith)
zip_over judge [] (v ∷ vs) (suc i) h = refl
zip_over judge (x ∷ xs) (v ∷ vs) (suc i) h = zip_over judge xs vs i (omega arith)

pub zip_done : {A : Type 0} (judge : A → Data → Verdict) (xs : List A) (vs : List Value) (i : ℕ) → length xs ≤ i → each_by judge (drop i xs) (items_view (drop i vs)) ≡ []
zip_done judge [] vs zero h = refl
zip_done judge [] vs (suc i) h = refl
zip_done judge (x ∷ xs) vs zero h = absurd (omega arith)
zip_done judge (x ∷ xs) [] (suc i) h = none_by judge (drop i xs)
zip_done judge (x ∷ xs) (v ∷ vs) (suc i) h = zip_done judge xs vs i (omega arith)

pub zip_end : (now none all : List Verdict) → none ≡ [] → now ++ none ≡ all → now ≡ all
zip_end now none all e same = sym (append-nil now) ∙ ap (λ ys. now ++ ys) (sym e) ∙ same

pub ruleset zip_steps = (zip_over, zip_done, zip_end, append-nil)
