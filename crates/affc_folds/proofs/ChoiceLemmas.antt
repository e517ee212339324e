-- The systems of products, by the choices of their factors.
use Rattle.std.proofs.Common.{◌≡◌, ◌≢◌, ℕ, ◌+◌, ◌-◌, ◌*◌, ◌≤◌, ◌<◌, ℤ, List, [], ◌∷◌, ◌++◌, length, take, drop, map, flat_map, get_or, append_assoc, refl, sym, ap, ap₂, subst, ◌∙◌, arith, length-append}
use Rattle.std.specs.List.{All, AllByRecursion as Each}
use Rattle.std.proofs.lemmas.List.{map-append, take_all}
use Rattle.std.proofs.lemmas.List.Elements.{All-nil, All-cons, All-head, All-tail}
use Rattle.affc_rows.specs.Forms.{Affine}
use Rattle.affc_system.specs.Boxes.{InBox}
use Rattle.affc_system.specs.Systems.{Rows, IsPoint, Meets}
use Rattle.affc_system.specs.declared.pairs.PairSystem.{PairSystem}
use Rattle.affc_split.specs.declared.maximum.region.Region.{Region}
use Rattle.affc_conflicts.specs.Conditions.{IsConflict}
use Rattle.affc_products.specs.Products.{choices}
use Rattle.affc_products.proofs.ChoiceLemmas.{tallest_within}
use Rattle.affc_life.specs.declared.clash.ClashProduct.{ClashProduct}
use Rattle.affc_life.specs.Products.{systems_in}
use Rattle.affc_life.proofs.LimitLemmas.{all_first, all_second}
use Rattle.affc_life.proofs.KeptLemmas.{alternatives_there}
use Rattle.affc_folds.specs.Systems.{IsVoid, IsOver, KeepsRoom, chosen_system, choices_behind}

-- ---- Lists

all_mapped : {X Y : Type 0} (P : Y → Type 0) (f : X → Y) (xs : List X) → ((x : X) → P (f x)) → All P (map f xs)
all_mapped P f [] h = All-nil P
all_mapped P f (x ∷ xs) h = All-cons P (f x) (map f xs) (h x) (all_mapped P f xs h)

-- the first of a list and those behind it, as a match gives them
pub first_rest : {X : Type 0} (xs : List X) (x y : X) → 1 ≤ length xs → x ≡ get_or xs 0 x → y ≡ x → xs ≡ y ∷ take (length xs - 1) (drop 1 xs)
first_rest [] x y l a b = absurd (omega (arith, l))
first_rest (z ∷ xs) x y l a b = ap₂ (λ u us. u ∷ us) (sym (b ∙ a)) (sym (take_all (length (z ∷ xs) - 1) xs (omega arith)))

-- ---- The systems behind some rows

abbrev with_more : PairSystem → List Affine → List Affine → PairSystem
with_more base rows more = record base { system = record base.system { rows = rows ++ more } }

-- those of one alternative, and those of the others
maps_behind : (base : PairSystem) (rows u : List Affine) (cs : List (List Affine)) → map (with_more base rows) (map (λ v. u ++ v) cs) ≡ map (with_more base (rows ++ u)) cs
maps_behind base rows u [] = refl
maps_behind base rows u (c ∷ cs) = ap₂ (λ s ss. s ∷ ss) (ap (λ rs. record base { system = record base.system { rows = rs } }) (sym (append_assoc rows u c))) (maps_behind base rows u cs)

pub choices_more : (base : PairSystem) (rows : List Affine) (alternatives : List (List Affine)) (u : List Affine) (others : List (List Affine)) (later : List (List (List Affine))) → alternatives ≡ u ∷ others
    → choices_behind base rows (alternatives ∷ later) ≡ choices_behind base (rows ++ u) later ++ choices_behind base rows (others ∷ later)
choices_more base rows alternatives u others later e =
    ap (λ us. choices_behind base rows (us ∷ later)) e
    ∙ map-append (with_more base rows) (map (λ v. u ++ v) (choices later)) (choices (others ∷ later))
    ∙ ap (λ ss. ss ++ choices_behind base rows (others ∷ later)) (maps_behind base rows u (choices later))

-- the region's system is the one that is chosen
pub the_system : (base : PairSystem) (region : Region) → IsOver base region → region.system ≡ (chosen_system base region).system
the_system base region over k = record { columns = over.columns k; rows = region.system.rows }

-- where the rows have no point in the box, none of them has one
pub void_behind : (base : PairSystem) (rows : List Affine) (factors : List (List (List Affine))) → ((z : List ℤ) → InBox base.ranges z → IsPoint (record base.system { rows = rows }) z → ⊥)
    → All IsVoid (choices_behind base rows factors)
void_behind base rows factors none = all_mapped IsVoid (with_more base rows) (choices factors) (λ more z inside point. none z inside (record { width = point.width; meets = all_first (Meets z) rows more point.meets }))

pub void_over : (base : PairSystem) (region : Region) (rows : List Affine) (factors : List (List (List Affine))) → IsOver base region
    → ((z : List ℤ) → InBox region.ranges z → IsPoint (record region.system { rows = region.system.rows ++ rows }) z → ⊥) → All IsVoid (choices_behind base (region.system.rows ++ rows) factors)
void_over base region rows factors over none =
    void_behind base (region.system.rows ++ rows) factors (λ z inside point. none z (subst (λ b. InBox b z) (sym over.ranges) inside) (record { width = point.width ∙ sym over.columns; meets = point.meets }))

-- ---- How long a walk through them is

abbrev pub weight : List (List (List Affine)) → ℕ
weight [] = 0
weight (f ∷ fs) = weight fs + length f + 3

pub weight_is : (fs : List (List (List Affine))) (f : List (List Affine)) (rest : List (List (List Affine))) → fs ≡ f ∷ rest → weight rest + 2 + length f < weight fs
weight_is fs f rest e = omega (arith, ap weight e)

-- ---- Room

no_maps : (us : List (List Affine)) → flat_map (λ u. map (λ v. u ++ v) []) us ≡ []
no_maps [] = refl
no_maps (u ∷ us) = no_maps us

module _ (context : Rows) (ranges : List (ℤ × ℤ)) (extents : List Affine) where
  rooms : (base : PairSystem) (rows : List Affine) (cs : List (List Affine)) → All (IsConflict context ranges extents) (map (with_more base rows) cs) → Each (λ v. length rows + length v ≤ 1024) cs
  rooms base rows [] h = tt
  rooms base rows (c ∷ cs) h = (
    within (length rows) (length c) (length (rows ++ c)) (length context.rows) (length extents) (length-append rows c) (All-head (IsConflict context ranges extents) (with_more base rows c) (map (with_more base rows) cs) h).room,
    rooms base rows cs (All-tail (IsConflict context ranges extents) (with_more base rows c) (map (with_more base rows) cs) h),
  )
    where
      within : (a b n m e : ℕ) → n ≡ a + b → n + m + 2 * e ≤ 1024 → a + b ≤ 1024
      within a b n m e h k = omega (arith, h, k)

  some_of : (base : PairSystem) (rows : List Affine) (cs : List (List Affine)) → cs ≢ [] → All (IsConflict context ranges extents) (map (with_more base rows) cs) → (c : List Affine) × IsConflict context ranges extents (with_more base rows c)
  some_of base rows [] n h = absurd (n refl)
  some_of base rows (c ∷ cs) n h = (c, All-head (IsConflict context ranges extents) (with_more base rows c) (map (with_more base rows) cs) h)

  keeps_room : (p : ClashProduct) → All (IsConflict context ranges extents) (systems_in p) → KeepsRoom p
  keeps_room p h =
      let one = some_of p.base p.base.system.rows (choices p.factors) p.some h in
      record {
        width = one.1.boxed.width;
        near = one.1.boxed.within;
        room = tallest_within p.factors (length p.base.system.rows) 1024 (alternatives_there p.factors p.some) (rooms p.base p.base.system.rows (choices p.factors) h);
      }

  pub all_keep_room : (ps : List ClashProduct) → All (IsConflict context ranges extents) (flat_map systems_in ps) → All KeepsRoom ps
  all_keep_room [] h = All-nil KeepsRoom
  all_keep_room (p ∷ ps) h =
      All-cons KeepsRoom p ps (keeps_room p (all_first (IsConflict context ranges extents) (systems_in p) (flat_map systems_in ps) h))
      (all_keep_room ps (all_second (IsConflict context ranges extents) (systems_in p) (flat_map systems_in ps) h))
