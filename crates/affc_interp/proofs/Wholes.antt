-- What operators in a row make of the value below them.
use Rattle.std.proofs.Common.{◌≡◌, ℤ, Bool, false, ◌&&◌, List, [], ◌∷◌, ◌++◌, Some, None, refl, ap, ◌∙◌}
use Rattle.affc_ast.specs.declared.tree.Ix.{Ix}
use Rattle.affc_ast.specs.Fits.{Whole, is_divisor, whole_of}
use Rattle.affc_interp.specs.declared.step.Join.{Join}
use Rattle.affc_interp.specs.declared.step.Join.TheVariants.{Sum, Difference, Product, Least, Greatest, Remainder}
use Rattle.affc_interp.specs.declared.step.Step.{Step}
use Rattle.affc_interp.specs.declared.step.Step.TheVariants.{Opposite, Floor, Ceiling, Joined}
use Rattle.affc_interp.specs.Steps.{number, whole_joined, whole_made, all_made}
use Rattle.affc_interp.specs.Wholes.{IsRead}

-- one operator more below the others
pub one_below : (ss : List Step) (s : Step) (names : List ℤ) (w : Whole) → all_made (ss ++ s ∷ []) names w ≡ all_made ss names (whole_made s names w)
one_below [] s names w = refl
one_below (t ∷ ss) s names w = ap (whole_made t names) (one_below ss s names w)

without_first : (x y : Bool) → x ≡ false → (x && y) ≡ false
without_first x y e = ap (λ b. b && y) e

joined_undefined : (j : Join) (v w : Whole) → v.defined ≡ false → (whole_joined j v w).defined ≡ false
joined_undefined Sum v w e = without_first v.defined w.defined e
joined_undefined Difference v w e = without_first v.defined w.defined e
joined_undefined Product v w e = without_first v.defined w.defined e
joined_undefined Least v w e = without_first v.defined w.defined e
joined_undefined Greatest v w e = without_first v.defined w.defined e
joined_undefined Remainder v w e = without_first (v.defined && w.defined) (is_divisor w.value) (without_first v.defined w.defined e)

made_undefined : (s : Step) (names : List ℤ) (w : Whole) → w.defined ≡ false → (whole_made s names w).defined ≡ false
made_undefined Opposite names w e = e
made_undefined (Floor n) names w e = without_first w.defined _ e
made_undefined (Ceiling n) names w e = without_first w.defined _ e
made_undefined (Joined j b) names w e = joined_undefined j w (whole_of b.now names) e

-- where the value below has none, none of them has
pub all_undefined : (ss : List Step) (names : List ℤ) (w : Whole) → w.defined ≡ false → (all_made ss names w).defined ≡ false
all_undefined [] names w e = e
all_undefined (s ∷ ss) names w e = made_undefined s names (all_made ss names w) (all_undefined ss names w e)

pub number_of : (z : ℤ) (w : Whole) → IsRead (Some z) w → w ≡ number z
number_of z w r = λ i. record { value = r.1 i; defined = r.0 i }

-- one operator more taken off
module _ (ss rest : List Step) (s : Step) (e : Ix) (names : List ℤ) (x : ℤ) (is : whole_of e names ≡ all_made ss names (number x)) (taken : ss ≡ rest ++ s ∷ []) where
  pub taken_off : whole_of e names ≡ all_made rest names (whole_made s names (number x))
  taken_off = is ∙ ap (λ l. all_made l names (number x)) taken ∙ one_below rest s names (number x)

  pub goes_on : (y : ℤ) → IsRead (Some y) (whole_made s names (number x)) → whole_of e names ≡ all_made rest names (number y)
  goes_on y r = taken_off ∙ ap (all_made rest names) (number_of y (whole_made s names (number x)) r)

  pub stuck : IsRead None (whole_made s names (number x)) → IsRead None (whole_of e names)
  stuck r = ap (λ w. w.defined) taken_off ∙ all_undefined rest names (whole_made s names (number x)) r

pub ended : (ss : List Step) (e : Ix) (names : List ℤ) (x : ℤ) → whole_of e names ≡ all_made ss names (number x) → ss ≡ [] → IsRead (Some x) (whole_of e names)
ended ss e names x is none = let w = is ∙ ap (λ l. all_made l names (number x)) none in (ap (λ w. w.defined) w, ap (λ w. w.value) w)
