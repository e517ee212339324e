-- What the arrays hold once a cell is set.
use Rattle.std.proofs.Common.{◌≡◌, ℕ, zero, suc, ◌+◌, ◌<◌, ℤ, Bool, true, false, if◌then◌else◌, List, [], ◌∷◌, ◌++◌, length, get_or, set, ◌-◌, Option, Some, None, refl, sym, ap, subst, ◌∙◌, arith}
use Rattle.std.proofs.lemmas.List.{length-map, length-set, set-append_left, set-append_right, get_or_default}
use Rattle.std.specs.FinMap.Entries.{put}
use Rattle.affc_ast.specs.Store.{element_cmp, with_value}
use Rattle.affc_ast.specs.Values.{is_within}
use Rattle.affc_interp.specs.declared.memory.Buffer.{Buffer}
use Rattle.affc_interp.specs.Layout.{size_of, offset_of, extents_in, elements_of, cells_in, store_held, with_cells, AreLengths, AreWhole, Held, held_in}
use Rattle.affc_interp.proofs.Cells.{put_cell}
use Rattle.affc_interp.proofs.Places.{row, row_below, base}
use Rattle.affc_interp.proofs.Order.{elements_in_order, as_many, base_below, element_is}
use Rattle.affc_interp.proofs.Loads.{place_in}

-- the same array with one cell set
pub record IsSet (old new : Buffer) (k v : ℕ) : Type 0 where
  pub extents : new.extents.items ≡ old.extents.items
  pub cells : new.cells.items ≡ set old.cells.items k (Some v)

pub extents_after : (bs : List Buffer) (a k v : ℕ) (b : Buffer) → a < length bs → IsSet (get_or bs a b) b k v → extents_in (set bs a b) ≡ extents_in bs
extents_after [] a k v b h s = absurd (omega arith)
extents_after (c ∷ bs) zero k v b h s = ap (λ ns. ns ∷ extents_in bs) s.extents
extents_after (c ∷ bs) (suc a) k v b h s = ap (λ l. c.extents.items ∷ l) (extents_after bs a k v b (omega arith) s)

pub whole_after : (bs : List Buffer) (a k v : ℕ) (b : Buffer) → a < length bs → IsSet (get_or bs a b) b k v → AreWhole bs → AreWhole (set bs a b)
whole_after [] a k v b h s w = absurd (omega arith)
whole_after (c ∷ bs) zero k v b h s w = (subst AreLengths (sym s.extents) w.0, ap length s.cells ∙ length-set c.cells.items k (Some v) ∙ w.1 ∙ sym (ap size_of s.extents), w.2)
whole_after (c ∷ bs) (suc a) k v b h s w = (w.0, w.1, whole_after bs a k v b (omega arith) s w.2)

cells_after : (bs : List Buffer) (a k v : ℕ) (b : Buffer) → a < length bs → k < size_of (get_or (extents_in bs) a []) → IsSet (get_or bs a b) b k v → AreWhole bs → cells_in (set bs a b) ≡ set (cells_in bs) (base a (extents_in bs) + k) (Some v)
cells_after [] a k v b h below s w = absurd (omega arith)
cells_after (c ∷ bs) zero k v b h below s w =
    let size = w.1 in
    let inside : k < length c.cells.items = omega arith in
    let z : k ≡ 0 + k = omega arith in
    ap (λ l. l ++ cells_in bs) s.cells ∙ sym (set-append_left c.cells.items (cells_in bs) k (Some v) inside) ∙ ap (λ n. set (c.cells.items ++ cells_in bs) n (Some v)) z
cells_after (c ∷ bs) (suc a) k v b h below s w =
    let size = w.1 in
    let n : ℕ = base a (extents_in bs) + k in
    let at : (size_of c.extents.items + base a (extents_in bs)) + k - length c.cells.items ≡ n = omega arith in
    ap (λ l. c.cells.items ++ l) (cells_after bs a k v b (omega arith) below s w.2)
    ∙ sym (set-append_right c.cells.items (cells_in bs) (length c.cells.items) ((size_of c.extents.items + base a (extents_in bs)) + k) (Some v) refl (omega arith) ∙ ap (λ m. c.cells.items ++ set (cells_in bs) m (Some v)) at)

abbrev is_there : Option ℕ → Bool
is_there (Some k) = true
is_there None = false

abbrev there_or : ℕ → Option ℕ → ℕ
there_or d (Some k) = k
there_or d None = d

-- where a place is, the element lies within its array, and the place is its number
within_at : (t : Bool) (r k : ℕ) → Some k ≡ (if t then Some r else None) → (t ≡ true) × (k ≡ r)
within_at true r k e = (refl, ap (there_or 0) e)
within_at false r k e = cc

pub store_after : (bs : List Buffer) (a k v : ℕ) (xs : List ℤ) (b : Buffer) → a < length bs → AreWhole bs → Some k ≡ offset_of (extents_in bs) a xs → IsSet (get_or bs a b) b k v → store_held (set bs a b) ≡ with_value (store_held bs) (a, xs) v
store_after bs a k v xs b h w e s =
    let ns : List ℤ = get_or (extents_in bs) a [] in
    let p = within_at (is_within xs ns) (row xs ns) k (e ∙ place_in bs a xs w) in
    let many : a < length (extents_in bs) = omega (arith, length-map bs (λ (b : Buffer). b.extents.items)) in
    let below : row xs ns < size_of ns = row_below xs ns p.0 in
    let small : k < size_of ns = omega arith in
    let n : ℕ = base a (extents_in bs) + k in
    let is_n : n ≡ base a (extents_in bs) + row xs ns = ap (λ m. base a (extents_in bs) + m) p.1 in
    (λ i. with_cells (elements_of 0 (extents_after bs a k v b h s i)) (cells_after bs a k v b h small s w i))
    ∙ sym (put_cell (0, []) (elements_of 0 (extents_in bs)) (cells_in bs) n v (elements_in_order 0 (extents_in bs)) (as_many 0 bs w) (base_below 0 a k (extents_in bs) many small))
    ∙ ap (λ x. put element_cmp x v (store_held bs)) (ap (λ m. get_or (elements_of 0 (extents_in bs)) m (0, [])) is_n ∙ element_is a xs (extents_in bs) many p.0)

pub is_set : (bs : List Buffer) (a k v : ℕ) (old b : Buffer) → a < length bs → old ≡ get_or bs a old → b.extents.items ≡ old.extents.items → b.cells.items ≡ set old.cells.items k (Some v) → IsSet (get_or bs a b) b k v
is_set bs a k v old b h value e1 e2 =
    let same : get_or bs a b ≡ old = get_or_default bs a b old h ∙ sym value in
    record { extents = e1 ∙ ap (λ o. o.extents.items) (sym same); cells = e2 ∙ ap (λ o. set o.cells.items k (Some v)) (sym same) }

many_in : (bs : List Buffer) (a : ℕ) (seen : Held) → held_in bs ≡ seen → a < length seen.extents → a < length bs
many_in bs a seen view h = let e : length (extents_in bs) ≡ length seen.extents = ap (λ s. length s.extents) view in omega (arith, length-map bs (λ (b : Buffer). b.extents.items))

pub wrote_whole : (bs : List Buffer) (a k v : ℕ) (old b : Buffer) (seen : Held) → held_in bs ≡ seen → AreWhole bs → a < length seen.extents → old ≡ get_or bs a old → b.extents.items ≡ old.extents.items → b.cells.items ≡ set old.cells.items k (Some v) → AreWhole (set bs a b)
wrote_whole bs a k v old b seen view w h value e1 e2 = let m = many_in bs a seen view h in whole_after bs a k v b m (is_set bs a k v old b m value e1 e2) w

pub wrote_extents : (bs : List Buffer) (a k v : ℕ) (old b : Buffer) (seen : Held) → held_in bs ≡ seen → AreWhole bs → a < length seen.extents → old ≡ get_or bs a old → b.extents.items ≡ old.extents.items → b.cells.items ≡ set old.cells.items k (Some v) → extents_in (set bs a b) ≡ seen.extents
wrote_extents bs a k v old b seen view w h value e1 e2 = let m = many_in bs a seen view h in extents_after bs a k v b m (is_set bs a k v old b m value e1 e2) ∙ ap (λ s. s.extents) view

pub wrote_store : (bs : List Buffer) (a k v : ℕ) (old b : Buffer) (seen : Held) → held_in bs ≡ seen → AreWhole bs → a < length seen.extents → old ≡ get_or bs a old → b.extents.items ≡ old.extents.items → b.cells.items ≡ set old.cells.items k (Some v)
    → (xs : List ℤ) → Some k ≡ offset_of seen.extents a xs → store_held (set bs a b) ≡ with_value seen.store (a, xs) v
wrote_store bs a k v old b seen view w h value e1 e2 xs e =
    let m = many_in bs a seen view h in
    let e' : Some k ≡ offset_of (extents_in bs) a xs = e ∙ ap (λ s. offset_of s.extents a xs) (sym view) in
    store_after bs a k v xs b m w e' (is_set bs a k v old b m value e1 e2) ∙ ap (λ s. with_value s.store (a, xs) v) view
