-- A row more that leaves no point leaves none to the rows among which it stands.
use Rattle.std.proofs.Common.{◌≡◌, ℕ, ◌<◌, ℤ, List, [], ◌∷◌, ◌++◌, length, take, get_or, sym, subst}
use Rattle.std.specs.List.{All}
use Rattle.std.proofs.lemmas.List.Elements.{All-nil, All-cons, All-head, All-tail, All-append, All-take, All-get_or}
use Rattle.affc_rows.specs.Forms.{Affine}
use Rattle.affc_system.specs.Boxes.{InBox}
use Rattle.affc_system.specs.Systems.{Rows, IsPoint, Meets}
use Rattle.affc_split.specs.maximum.Regions.{InRegion}
use Rattle.affc_split.specs.declared.maximum.region.Region.{Region}

all_first : {X : Type 0} (P : X → Type 0) (xs ys : List X) → All P (xs ++ ys) → All P xs
all_first P [] ys h = All-nil P
all_first P (x ∷ xs) ys h = All-cons P x xs (All-head P x (xs ++ ys) h) (all_first P xs ys (All-tail P x (xs ++ ys) h))

all_second : {X : Type 0} (P : X → Type 0) (xs ys : List X) → All P (xs ++ ys) → All P ys
all_second P [] ys h = h
all_second P (x ∷ xs) ys h = all_second P xs ys (All-tail P x (xs ++ ys) h)

pub none_left : (region : Region) (ranges : List (ℤ × ℤ)) (old : Rows) (rows : List Affine) (i : ℕ) (row : Affine)
    → region.system ≡ record old { rows = old.rows ++ take i rows } → region.ranges ≡ ranges → i < length rows → row ≡ get_or rows i row
    → ((z : List ℤ) → InRegion region z → Meets z row → ⊥) → (z : List ℤ) → InBox ranges z → IsPoint (record old { rows = old.rows ++ rows }) z → ⊥
none_left region ranges old rows i row s r below is out z inside point =
    let behind : All (Meets z) rows = all_second (Meets z) old.rows rows point.meets in
    let before : IsPoint (record old { rows = old.rows ++ take i rows }) z = record {
      width = point.width;
      meets = All-append (Meets z) old.rows (take i rows) (all_first (Meets z) old.rows rows point.meets) (All-take (Meets z) i rows behind);
    } in
    out z (record { meets = subst (λ (t : Rows). IsPoint t z) (sym s) before; inside = subst (λ b. InBox b z) (sym r) inside })
    (subst (Meets z) (sym is) (All-get_or (Meets z) rows i row below behind))
