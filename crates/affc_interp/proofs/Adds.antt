-- What the arrays hold once one more is there.
use Rattle.std.proofs.Common.{◌≡◌, ℕ, zero, suc, ◌+◌, ℤ, List, [], ◌∷◌, ◌++◌, length, map, Option, Some, None, refl, sym, ap, ◌∙◌, arith, append_assoc}
use Rattle.std.specs.Prelude.{slice_get}
use Rattle.affc_ast.specs.Store.{Element}
use Rattle.affc_interp.specs.declared.memory.Buffer.{Buffer}
use Rattle.affc_interp.specs.Layout.{size_of, subscripts_of, elements_of, extents_in, cells_in, with_cells, store_held, given_cells, given_to, AreLengths, AreWhole, Held, held_in}
use Rattle.affc_interp.proofs.Places.{length_subscripts}
use Rattle.affc_interp.proofs.Order.{as_many}

pub nothing_more : {A : Type 0} (xs : List A) → xs ++ [] ≡ xs
nothing_more [] = refl
nothing_more (x ∷ xs) = ap (λ l. x ∷ l) (nothing_more xs)

pub both_stores : (xs ys : List Element) (cs ds : List (Option ℕ)) → length cs ≡ length xs → with_cells (xs ++ ys) (cs ++ ds) ≡ with_cells xs cs ++ with_cells ys ds
both_stores [] ys [] ds e = refl
both_stores [] ys (c ∷ cs) ds e = absurd (omega arith)
both_stores (x ∷ xs) ys [] ds e = absurd (omega arith)
both_stores (x ∷ xs) ys (None ∷ cs) ds e = both_stores xs ys cs ds (omega arith)
both_stores (x ∷ xs) ys (Some v ∷ cs) ds e = ap (λ l. (x, v) ∷ l) (both_stores xs ys cs ds (omega arith))

pub none_given : (a : ℕ) (xss : List (List ℤ)) → given_to a xss [] ≡ []
none_given a [] = refl
none_given a (xs ∷ xss) = refl

given_is : (a : ℕ) (xss : List (List ℤ)) (vs : List ℕ) → with_cells (map (λ xs. (a, xs)) xss) (given_cells (length xss) vs) ≡ given_to a xss vs
given_is a [] vs = refl
given_is a (xs ∷ xss) [] = given_is a xss [] ∙ none_given a xss
given_is a (xs ∷ xss) (v ∷ vs) = ap (λ l. ((a, xs), v) ∷ l) (given_is a xss vs)

pub length_given : (n : ℕ) (vs : List ℕ) → length (given_cells n vs) ≡ n
length_given zero vs = refl
length_given (suc n) [] = ap suc (length_given n [])
length_given (suc n) (v ∷ vs) = ap suc (length_given n vs)

given_next : (n : ℕ) (vs : List ℕ) → given_cells (suc n) vs ≡ given_cells n vs ++ slice_get vs n ∷ []
given_next zero [] = refl
given_next zero (v ∷ vs) = refl
given_next (suc n) [] = ap (λ l. None ∷ l) (given_next n [])
given_next (suc n) (v ∷ vs) = ap (λ l. Some v ∷ l) (given_next n vs)

-- one cell more
pub given_push : (n : ℕ) (vs : List ℕ) → given_cells (n + 1) vs ≡ given_cells n vs ++ slice_get vs n ∷ []
given_push n vs = let e : n + 1 ≡ suc n = omega arith in ap (λ m. given_cells m vs) e ∙ given_next n vs

elements_push : (i : ℕ) (es : List (List ℤ)) (ns : List ℤ) → elements_of i (es ++ ns ∷ []) ≡ elements_of i es ++ map (λ xs. (i + length es, xs)) (subscripts_of ns)
elements_push i [] ns = let e : i ≡ i + 0 = omega arith in nothing_more (map (λ xs. (i, xs)) (subscripts_of ns)) ∙ ap (λ n. map (λ xs. (n, xs)) (subscripts_of ns)) e
elements_push i (m ∷ es) ns =
    let e : suc i + length es ≡ i + suc (length es) = omega arith in
    ap (λ l. map (λ xs. (i, xs)) (subscripts_of m) ++ l) (elements_push (suc i) es ns ∙ ap (λ n. elements_of (suc i) es ++ map (λ xs. (n, xs)) (subscripts_of ns)) e)
    ∙ sym (append_assoc (map (λ xs. (i, xs)) (subscripts_of m)) (elements_of (suc i) es) (map (λ xs. (i + suc (length es), xs)) (subscripts_of ns)))

cells_push : (bs : List Buffer) (b : Buffer) → cells_in (bs ++ b ∷ []) ≡ cells_in bs ++ b.cells.items
cells_push [] b = nothing_more b.cells.items
cells_push (c ∷ bs) b = ap (λ l. c.cells.items ++ l) (cells_push bs b) ∙ sym (append_assoc c.cells.items (cells_in bs) b.cells.items)

pub extents_push : (bs : List Buffer) (b : Buffer) → extents_in (bs ++ b ∷ []) ≡ extents_in bs ++ b.extents.items ∷ []
extents_push [] b = refl
extents_push (c ∷ bs) b = ap (λ l. c.extents.items ∷ l) (extents_push bs b)

whole_push : (bs : List Buffer) (b : Buffer) → AreWhole bs → AreLengths b.extents.items → length b.cells.items ≡ size_of b.extents.items → AreWhole (bs ++ b ∷ [])
whole_push [] b w l e = (l, e, tt)
whole_push (c ∷ bs) b w l e = (w.0, w.1, whole_push bs b w.2 l e)

pub whole_added : (bs : List Buffer) (b : Buffer) (vs : List ℕ) → AreWhole bs → AreLengths b.extents.items → b.cells.items ≡ given_cells (size_of b.extents.items) vs → AreWhole (bs ++ b ∷ [])
whole_added bs b vs w l e = whole_push bs b w l (ap length e ∙ length_given (size_of b.extents.items) vs)

store_push : (bs : List Buffer) (b : Buffer) (vs : List ℕ) → AreWhole bs → b.cells.items ≡ given_cells (size_of b.extents.items) vs → store_held (bs ++ b ∷ []) ≡ store_held bs ++ given_to (length (extents_in bs)) (subscripts_of b.extents.items) vs
store_push bs b vs w e =
    let ns : List ℤ = b.extents.items in
    let a : ℕ = length (extents_in bs) in
    (λ i. with_cells ((ap (elements_of 0) (extents_push bs b) ∙ elements_push 0 (extents_in bs) ns) i) (cells_push bs b i))
    ∙ both_stores (elements_of 0 (extents_in bs)) (map (λ xs. (0 + a, xs)) (subscripts_of ns)) (cells_in bs) b.cells.items (as_many 0 bs w)
    ∙ (let z : 0 + a ≡ a = omega arith in
    let cs : b.cells.items ≡ given_cells (length (subscripts_of ns)) vs = e ∙ ap (λ n. given_cells n vs) (sym (length_subscripts ns)) in
    λ i. store_held bs ++ with_cells (map (λ xs. (z i, xs)) (subscripts_of ns)) (cs i))
    ∙ ap (λ l. store_held bs ++ l) (given_is a (subscripts_of ns) vs)

pub store_added : (bs : List Buffer) (b : Buffer) (vs : List ℕ) (seen : Held) → held_in bs ≡ seen → AreWhole bs → b.cells.items ≡ given_cells (size_of b.extents.items) vs
    → store_held (bs ++ b ∷ []) ≡ seen.store ++ given_to (length seen.extents) (subscripts_of b.extents.items) vs
store_added bs b vs seen view w e = store_push bs b vs w e ∙ ap (λ h. h.store ++ given_to (length h.extents) (subscripts_of b.extents.items) vs) view
