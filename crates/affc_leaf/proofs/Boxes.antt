-- The rows of a box hold in it.
use Rattle.std.proofs.Common.{◌≡◌, ◌↔◌, ℕ, zero, suc, ◌+◌, ◌-◌, ◌*◌, List, [], ◌∷◌, ◌++◌, length, replicate, map, ℤ, pos, negsuc, ◌+ℤ◌, ◌*ℤ◌, ◌≤ℤ◌, neg_ℤ, refl, sym, ap, subst, ◌∙◌, arith, append_assoc}
use Rattle.std.proofs.lemmas.Int.{ints}
use Rattle.std.proofs.lemmas.List.{get_or_append_left, length-append}
use Rattle.std.proofs.lemmas.List.Elements.{All-nil, All-cons, All-head, All-tail, All-append}
use Rattle.std.specs.List.{All}
use Rattle.affc_rows.specs.Forms.{Affine, dot}
use Rattle.affc_rows.proofs.IntLemmas.{one-mul, neg-mul}
use Rattle.affc_system.specs.Systems.{Rows, IsRow, IsPoint, Meets}
use Rattle.affc_system.specs.Boxes.{InBox}
use Rattle.affc_system.specs.Pairs.{WithinReach}
use Rattle.affc_system.proofs.SystemLemmas.{point_of_more_rows, point_of_fewer_rows}
use Rattle.affc_farkas.specs.Proofs.{ValidProof}
use Rattle.affc_farkas.specs.declared.proof.Proof.{Proof}
use Rattle.affc_farkas.proofs.Sound.{sound_system}
use Rattle.affc_simplex.specs.declared.bounds.Bound.{Bound}
use Rattle.affc_leaf.specs.Boxed.{unit, box_rows, with_box}
use Rattle.affc_leaf.specs.Points.{IsLeastPoint}
use Rattle.affc_leaf.specs.Parts.{Placed, IsEmpty, box_bounds}
use Rattle.affc_leaf.proofs.Corners.{negated_unit}
use Rattle.affc_leaf.proofs.Whole.{whole_placed}

zeros : (m : ℕ) (xs : List ℤ) → dot (replicate m (pos 0)) xs ≡ pos 0
zeros zero xs = refl
zeros (suc m) [] = refl
zeros (suc m) (x ∷ xs) = let e = zeros m xs in omega (arith, ints)

plus_nothing : (a b : ℤ) → b ≡ pos 0 → a +ℤ b ≡ a
plus_nothing a b e = omega (arith, ints)

nothing_plus : (y a b : ℤ) → b ≡ a → (pos 0 *ℤ y) +ℤ b ≡ a
nothing_plus y a b e = omega (arith, ints)

-- the product of a column's coefficient alone
dot-unit : (a : ℤ) (front : List ℤ) (m : ℕ) (z : ℤ) (zs : List ℤ) → dot (replicate (length front) (pos 0) ++ a ∷ replicate m (pos 0)) (front ++ z ∷ zs) ≡ a *ℤ z
dot-unit a [] m z zs = plus_nothing _ _ (zeros m zs)
dot-unit a (y ∷ front) m z zs = nothing_plus y _ _ (dot-unit a front m z zs)

low_holds : (v z low : ℤ) → v ≡ z → low ≤ℤ z → pos 0 ≤ℤ (v +ℤ neg_ℤ low)
low_holds v z low e h = omega (arith, ints)

high_holds : (v z high : ℤ) → v ≡ neg_ℤ z → z ≤ℤ high → pos 0 ≤ℤ (v +ℤ high)
high_holds v z high e h = omega (arith, ints)

-- the value of a column's row, and of the negated one
column_value : (front : List ℤ) (m : ℕ) (z : ℤ) (zs : List ℤ) → dot (unit (length front) m) (front ++ z ∷ zs) ≡ z
column_value front m z zs = dot-unit (pos 1) front m z zs ∙ one-mul z

negated_value : (front : List ℤ) (m : ℕ) (z : ℤ) (zs : List ℤ) → dot (map neg_ℤ (unit (length front) m)) (front ++ z ∷ zs) ≡ neg_ℤ z
negated_value front m z zs =
    ap (λ cs. dot cs (front ++ z ∷ zs)) (negated_unit (length front) m) ∙ dot-unit (negsuc 0) front m z zs ∙ neg-mul (pos 1) z ∙ ap neg_ℤ (one-mul z)

next_column : (front : List ℤ) (z : ℤ) → length (front ++ z ∷ []) ≡ suc (length front)
next_column front z = let e = length-append front (z ∷ []) in omega arith

box_meets : (columns : ℕ) (front : List ℤ) (rs : List (ℤ × ℤ)) (zs : List ℤ) → InBox rs zs → All (Meets (front ++ zs)) (box_rows columns (length front) rs)
box_meets columns front [] zs h = All-nil (Meets (front ++ zs))
box_meets columns front (r ∷ rs) [] h = absurd h
box_meets columns front (r ∷ rs) (z ∷ zs) h =
    let j = length front in
    let m = columns - (j + 1) in
    let point = front ++ z ∷ zs in
    let low : Affine = record { coefs = unit j m; constant = neg_ℤ r.0 } in
    let high : Affine = record { coefs = map neg_ℤ (unit j m); constant = r.1 } in
    let rest : All (Meets point) (box_rows columns (suc j) rs) =
    subst (λ n. All (Meets point) (box_rows columns n rs)) (next_column front z)
    (subst (λ w. All (Meets w) (box_rows columns (length (front ++ z ∷ [])) rs)) (append_assoc front (z ∷ []) zs) (box_meets columns (front ++ z ∷ []) rs zs h.2)) in
    All-cons (Meets point) low (high ∷ box_rows columns (suc j) rs) (low_holds _ z r.0 (column_value front m z zs) h.0)
    (All-cons (Meets point) high (box_rows columns (suc j) rs) (high_holds _ z r.1 (negated_value front m z zs) h.1) rest)

low_from : (v z low : ℤ) → v ≡ z → pos 0 ≤ℤ (v +ℤ neg_ℤ low) → low ≤ℤ z
low_from v z low e h = omega (arith, ints)

high_from : (v z high : ℤ) → v ≡ neg_ℤ z → pos 0 ≤ℤ (v +ℤ high) → z ≤ℤ high
high_from v z high e h = omega (arith, ints)

-- and a point at which they hold lies in it
meets_box : (columns : ℕ) (front : List ℤ) (rs : List (ℤ × ℤ)) (zs : List ℤ) → length rs ≡ length zs → All (Meets (front ++ zs)) (box_rows columns (length front) rs) → InBox rs zs
meets_box columns front [] [] e h = tt
meets_box columns front [] (z ∷ zs) e h = absurd (omega arith)
meets_box columns front (r ∷ rs) [] e h = absurd (omega arith)
meets_box columns front (r ∷ rs) (z ∷ zs) e h =
    let j = length front in
    let m = columns - (j + 1) in
    let point = front ++ z ∷ zs in
    let low : Affine = record { coefs = unit j m; constant = neg_ℤ r.0 } in
    let high : Affine = record { coefs = map neg_ℤ (unit j m); constant = r.1 } in
    let more = box_rows columns (suc j) rs in
    let after : All (Meets point) (high ∷ more) = All-tail (Meets point) low (high ∷ more) h in
    let rest : All (Meets ((front ++ z ∷ []) ++ zs)) (box_rows columns (length (front ++ z ∷ [])) rs) =
    subst (λ w. All (Meets w) (box_rows columns (length (front ++ z ∷ [])) rs)) (sym (append_assoc front (z ∷ []) zs))
    (subst (λ n. All (Meets point) (box_rows columns n rs)) (sym (next_column front z)) (All-tail (Meets point) high more after)) in (
      low_from _ z r.0 (column_value front m z zs) (All-head (Meets point) low (high ∷ more) h),
      high_from _ z r.1 (negated_value front m z zs) (All-head (Meets point) high more after),
      meets_box columns (front ++ z ∷ []) rs zs (omega arith) rest,
    )

-- the points of the system with the rows of the box are those of the system in the box
pub box_rows_are_the_box : (system : Rows) (rs : List (ℤ × ℤ)) (x : List ℤ) → length rs ≡ system.columns → IsPoint (with_box system rs) x ↔ (IsPoint system x × InBox rs x)
box_rows_are_the_box system rs x w = (
  λ p. let parts = point_of_fewer_rows system (box_rows system.columns 0 rs) x p in (parts.0, meets_box system.columns [] rs x (w ∙ sym p.width) parts.1),
  λ p. point_of_more_rows system (box_rows system.columns 0 rs) x p.0 (box_meets system.columns [] rs x p.1),
)

-- a valid proof of the whole box says that the system has no point in it
pub none_in_box : (system : Rows) (rs : List (ℤ × ℤ)) (p : Proof) → length rs ≡ system.columns → All WithinReach rs → All (IsRow system.columns) system.rows
    → ValidProof (with_box system rs) p → (x : List ℤ) → InBox rs x → IsPoint system x → ⊥
none_in_box system rs p w h fit v x inside k =
    sound_system (with_box system rs) p (whole_placed system rs w h fit).fit v x
    (point_of_more_rows system (box_rows system.columns 0 rs) x k (box_meets system.columns [] rs x inside))

-- the least point with the rows of the box is that of the system
pub boxed_least : (system : Rows) (rs : List (ℤ × ℤ)) (x : List ℤ) → IsLeastPoint (with_box system rs) rs x → IsLeastPoint system rs x
boxed_least system rs x a = record {
  inside = a.inside;
  meets = record {
    width = a.meets.width;
    meets = λ k d l. subst (λ (r : Affine). Meets x r) (get_or_append_left system.rows (box_rows system.columns 0 rs) d k l)
        (a.meets.meets k d (let e = length-append system.rows (box_rows system.columns 0 rs) in omega arith));
  };
  least = λ z p q. a.least z p (record {
    width = q.width;
    meets = All-append (Meets z) system.rows (box_rows system.columns 0 rs) q.meets (box_meets system.columns [] rs z p);
  });
}

-- the proof of the whole box with its rows
pub boxed_valid : (system : Rows) (rs : List (ℤ × ℤ)) (bs : List Bound) (n : ℕ) (p : Proof) → length rs ≡ system.columns → All WithinReach rs → All (IsRow system.columns) system.rows
    → bs ≡ box_bounds (length system.rows) rs → n ≡ length system.rows + 2 * system.columns → IsEmpty (with_box system rs) bs n p → ValidProof (with_box system rs) p
boxed_valid system rs bs n p w h fit e k a =
    let q = whole_placed system rs w h fit in
    a.valid (with_box system rs).rows (subst (λ m. Placed (with_box system rs) (with_box system rs).rows m bs) (sym k)
    (subst (λ b. Placed (with_box system rs) (with_box system rs).rows (length system.rows + 2 * system.columns) b) (sym e) (record {
      count = q.count;
      fit = q.fit;
      longer = omega arith;
      own = λ i l. refl;
      bounded = q.bounded;
    })))
