-- The first elements of lists, and what results hold.
use Rattle.std.proofs.Common.{◌≡◌, ℕ, ◌+◌, ◌<◌, List, [], ◌∷◌, ◌++◌, length, take, get_or, subst}
use Rattle.std.specs.List.{All}
use Rattle.std.specs.Prelude.{Result, Ok, Err, IfOk, IfErr}
use Rattle.std.proofs.lemmas.List.{take_more}
use Rattle.std.proofs.lemmas.List.Elements.{All-nil, All-cons, All-head, All-tail}

front : {X : Type 0} (P : X → Type 0) (xs : List X) (y : X) → All P (xs ++ y ∷ []) → All P xs
front P [] y h = All-nil P
front P (x ∷ xs) y h = All-cons P x xs (All-head P x (xs ++ y ∷ []) h) (front P xs y (All-tail P x (xs ++ y ∷ []) h))

last : {X : Type 0} (P : X → Type 0) (xs : List X) (y : X) → All P (xs ++ y ∷ []) → P y
last P [] y h = All-head P y [] h
last P (x ∷ xs) y h = last P xs y (All-tail P x (xs ++ y ∷ []) h)

pub into_front : {X : Type 0} (P : X → Type 0) (xs ys : List X) (y : X) → ys ≡ xs ++ y ∷ [] → All P ys → All P xs
into_front P xs ys y e h = front P xs y (subst (All P) e h)

pub into_last : {X : Type 0} (P : X → Type 0) (xs ys : List X) (y : X) → ys ≡ xs ++ y ∷ [] → All P ys → P y
into_last P xs ys y e h = last P xs y (subst (All P) e h)

-- what holds of the first elements and one more holds of each
pub take_front : {X : Type 0} (P : X → Type 0) (xs : List X) (i : ℕ) (d : X) → i < length xs → All P (take (i + 1) xs) → All P (take i xs)
take_front P xs i d h a = into_front P (take i xs) (take (i + 1) xs) (get_or xs i d) (take_more xs i d h) a

pub take_last : {X : Type 0} (P : X → Type 0) (xs : List X) (i : ℕ) (d : X) → i < length xs → All P (take (i + 1) xs) → P (get_or xs i d)
take_last P xs i d h a = into_last P (take i xs) (take (i + 1) xs) (get_or xs i d) (take_more xs i d h) a

-- another fact of the value in a result
pub on_value : {T E : Type 0} (r : Result T E) (P Q : T → Type 0) → ((x : T) → P x → Q x) → IfOk r P → IfOk r Q
on_value (Ok x) P Q f h = f x h
on_value (Err e) P Q f h = tt

pub on_fault : {T E : Type 0} (r : Result T E) (P Q : E → Type 0) → ((x : E) → P x → Q x) → IfErr r P → IfErr r Q
on_fault (Ok x) P Q f h = tt
on_fault (Err e) P Q f h = f e h
