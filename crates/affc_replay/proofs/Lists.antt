-- Lists of numbers and of folds.
use Rattle.std.proofs.Common.{◌≡◌, ℕ, suc, ◌+◌, Bool, true, false, if◌then◌else◌, List, [], ◌∷◌, ◌++◌, length, map, Some, refl, sym, ap, subst, ◌∙◌, inl, inr, arith}
use Rattle.std.specs.Prelude.{slice_get}
use Rattle.std.specs.List.{All}
use Rattle.std.proofs.lemmas.List.Elements.{All-nil}
use Rattle.affc_trace.specs.Law.{IsIn}
use Rattle.affc_trace.specs.Orders.{AreDistinct}
use Rattle.affc_trace.proofs.Once.{in_append}

pub all_nil : {A : Type 0} (P : A → Type 0) (xs : List A) → xs ≡ [] → All P xs
all_nil P xs e = subst (All P) (sym e) (All-nil P)

pub slice_behind : {A : Type 0} (xs ys : List A) (k : ℕ) (x : A) → slice_get ys k ≡ Some x → slice_get (xs ++ ys) (length xs + k) ≡ Some x
slice_behind [] ys k x e = ap (slice_get ys) (let n : 0 + k ≡ k = omega arith in n) ∙ e
slice_behind (z ∷ xs) ys k x e = ap (slice_get (z ∷ (xs ++ ys))) (let n : suc (length xs) + k ≡ suc (length xs + k) = omega arith in n) ∙ slice_behind xs ys k x e

-- ---- Different numbers

pub distinct_both : {A : Type 0} (xs ys : List A) → AreDistinct xs → AreDistinct ys → ((x : A) → IsIn x xs → IsIn x ys → ⊥) → AreDistinct (xs ++ ys)
distinct_both [] ys d e apart = e
distinct_both (x ∷ xs) ys d e apart = (
  λ i. elim (in_append xs ys x i) [ inl j ↦ d.0 j | inr j ↦ apart x (inl refl) j ],
  distinct_both xs ys d.1 e (λ z i j. apart z (inr i) j),
)

-- one more in front, if a test holds
pub choice_distinct : (t : Bool) (n : ℕ) (ns : List ℕ) → ¬ (IsIn n ns) → AreDistinct ns → AreDistinct ((if t then n ∷ [] else []) ++ ns)
choice_distinct true n ns fresh d = (fresh, d)
choice_distinct false n ns fresh d = d

pub choice_map : {A B : Type 0} (f : A → B) (t : Bool) (x : A) → map f (if t then x ∷ [] else []) ≡ (if t then f x ∷ [] else [])
choice_map f true x = refl
choice_map f false x = refl

pub in_choice_there : {A : Type 0} (t : Bool) (x : A) (xs : List A) → t ≡ true → IsIn x ((if t then x ∷ [] else []) ++ xs)
in_choice_there true x xs e = inl refl
in_choice_there false x xs e = absurd (cc)
