-- What a load of the trace loads.
use Rattle.std.proofs.Common.{◌≡◌, ℕ, zero, suc, ◌+◌, ◌-◌, ◌<◌, List, [], ◌∷◌, ◌++◌, length, map, Some, sym, ap, ◌∙◌, arith}
use Rattle.std.specs.Prelude.{slice_get}
use Rattle.std.proofs.lemmas.Option.{same_Some}
use Rattle.affc_ast.specs.Store.{Element}
use Rattle.affc_trace.proofs.Runs.{length_append}
use Rattle.affc_domain.proofs.Lists.{length_map}
use Rattle.affc_nest.specs.declared.nest.Access.{Access}

load_at : (f : Access → Element) (xs : List Access) (ys : List Element) (z : Element) (k : ℕ) (x : Access) → map f xs ≡ ys ++ z ∷ [] → slice_get xs k ≡ Some x → k < length ys → slice_get ys k ≡ Some (f x)
load_at f [] ys z k x e g h = absurd (cc)
load_at f (a ∷ xs) [] z k x e g h = absurd (omega (arith, h))
load_at f (a ∷ xs) (y ∷ ys) z zero x e g h = ap Some (sym (heads (f a) y (map f xs) (ys ++ z ∷ []) e) ∙ ap f (same_Some a x g))
  where
    heads : (x y : Element) (xs ys : List Element) → x ∷ xs ≡ y ∷ ys → x ≡ y
    heads x y xs ys e = cc
load_at f (a ∷ xs) (y ∷ ys) z (suc k) x e g h = load_at f xs ys z k x (tails (f a) y (map f xs) (ys ++ z ∷ []) e) g (omega (arith, h))
  where
    tails : (x y : Element) (xs ys : List Element) → x ∷ xs ≡ y ∷ ys → xs ≡ ys
    tails x y xs ys e = cc

-- what a load of the trace loads, where its last access is the store
pub load_there : (f : Access → Element) (xs : List Access) (ys : List Element) (z : Element) (k : ℕ) (x : Access) → map f xs ≡ ys ++ z ∷ [] → slice_get xs k ≡ Some x → k < length xs - 1 → slice_get ys k ≡ Some (f x)
load_there f xs ys z k x e g h = load_at f xs ys z k x e g (below k (length xs) (length ys) h (sym (length_map f xs) ∙ ap length e ∙ length_append ys (z ∷ [])))
  where
    below : (k a b : ℕ) → k < a - 1 → a ≡ b + 1 → k < b
    below k a b h e = omega (arith, h, e)
