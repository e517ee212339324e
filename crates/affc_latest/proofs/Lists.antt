-- Lists that are taken in two parts.
use Rattle.std.proofs.Common.{◌≡◌, List, [], ◌∷◌, ◌++◌, subst}
use Rattle.affc_sched.specs.Touched.{Each}

pub each_first : {A : Type 0} (P : A → Type 0) (whole xs ys : List A) → whole ≡ xs ++ ys → Each P whole → Each P xs
each_first {A} P whole xs ys is h = front xs (subst (Each P) is h)
  where
    front : (zs : List A) → Each P (zs ++ ys) → Each P zs
    front [] h = tt
    front (z ∷ zs) h = (h.0, front zs h.1)

pub each_second : {A : Type 0} (P : A → Type 0) (whole xs ys : List A) → whole ≡ xs ++ ys → Each P whole → Each P ys
each_second {A} P whole xs ys is h = back xs (subst (Each P) is h)
  where
    back : (zs : List A) → Each P (zs ++ ys) → Each P ys
    back [] h = h
    back (z ∷ zs) h = back zs h.1
