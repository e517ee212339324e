-- The systems of a group of two factors.
use Rattle.std.proofs.Common.{◌≡◌, ◌≤◌, List, [], ◌∷◌, ◌++◌, length, map, flat_map, refl, sym, ap, ◌∙◌, arith, length-append, Bool, true, Vec, subst}
use Rattle.std.specs.List.{All}
use Rattle.std.proofs.lemmas.List.{map-append}
use Rattle.std.proofs.lemmas.List.Elements.{All-nil, All-head, All-tail, All-append, All-map, All-weaker}
use Rattle.affc_rows.specs.Forms.{Affine}
use Rattle.affc_system.specs.Systems.{Rows, IsRow}
use Rattle.affc_trace.proofs.Targets.{map_map}
use Rattle.affc_nest.specs.Domains.{with_rows}
use Rattle.affc_order.specs.Placed.{IsOrder}
use Rattle.affc_products.specs.Parts.{IsWithin}
use Rattle.affc_products.specs.Groups.{group_systems}
use Rattle.affc_products.specs.declared.group.Group.{Group}
use Rattle.affc_products.proofs.ProductLemmas.{choices_of_two}
use Rattle.std.specs.Prelude.{nat_eq}
use Rattle.std.proofs.lemmas.Bool.{eqb-true}
use Rattle.affc_domain.proofs.Lists.{length_map}
use Rattle.affc_trace.specs.declared.schedule.Schedule.{Schedule}
use Rattle.affc_nest.specs.declared.nest.Access.{Access}
use Rattle.affc_nest.specs.declared.nest.Entry.{Entry}
use Rattle.affc_nest.specs.declared.nest.Nest.{Nest}
use Rattle.affc_order.specs.Systems.{pair_columns, rows_in, source_systems, turned_systems}
use Rattle.affc_sched.specs.Questions.{pair_rows, question, pair_questions}
use Rattle.affc_sched.proofs.PairLemmas.{systems_made}

-- the pair's system with the rows of each of the earlier orders behind, and then of each of the later ones
abbrev with_orders : Rows → (earlier later : List (List Affine)) → List Rows
with_orders pair earlier later = flat_map (λ o. map (λ u. with_rows pair (o ++ u)) later) earlier

-- ---- Which they are

all_orders : (pair : Rows) (earlier later : List (List Affine)) → map (with_rows pair) (flat_map (λ u. map (λ v. u ++ v) later) earlier) ≡ with_orders pair earlier later
all_orders pair [] later = refl
all_orders pair (o ∷ os) later =
    map-append (with_rows pair) (map (λ v. o ++ v) later) (flat_map (λ u. map (λ v. u ++ v) later) os)
    ∙ ap (λ ss. ss ++ map (with_rows pair) (flat_map (λ u. map (λ v. u ++ v) later) os)) (map_map (λ v. o ++ v) (with_rows pair) later)
    ∙ ap (λ ss. map (λ u. with_rows pair (o ++ u)) later ++ ss) (all_orders pair os later)

-- a group of these rows, with the rows of these orders as its factors
pub with_factors : (pair : Rows) (earlier later : List (List Affine)) (g : Group) → g ≡ record { columns = pair.columns; front = pair.rows; factors = earlier ∷ later ∷ [] } → group_systems g ≡ with_orders pair earlier later
with_factors pair earlier later g e = ap group_systems e ∙ ap (map (with_rows pair)) (choices_of_two earlier later) ∙ all_orders pair earlier later

-- ---- That they keep the limits

one_within : (pair : Rows) (u v : List Affine) → pair.columns ≤ 128 → length pair.rows ≤ 900 → All (IsRow pair.columns) pair.rows → IsOrder pair.columns u → IsOrder pair.columns v → IsWithin (with_rows pair (u ++ v))
one_within pair u v c few fit h g = record {
  columns = c;
  few = omega (arith, few, h.few, g.few, length-append pair.rows (u ++ v), length-append u v);
  rows = All-append (IsRow pair.columns) pair.rows (u ++ v) fit (All-append (IsRow pair.columns) u v h.fit g.fit);
}

module _ (pair : Rows) (c : pair.columns ≤ 128) (few : length pair.rows ≤ 900) (fit : All (IsRow pair.columns) pair.rows) where
  later_within : (u : List Affine) → IsOrder pair.columns u → (later : List (List Affine)) → All (IsOrder pair.columns) later → All IsWithin (map (λ v. with_rows pair (u ++ v)) later)
  later_within u h later g = All-map IsWithin (λ v. with_rows pair (u ++ v)) later (All-weaker (IsOrder pair.columns) (λ v. IsWithin (with_rows pair (u ++ v))) (λ v k. one_within pair u v c few fit h k) later g)

  all_within : (earlier later : List (List Affine)) → All (IsOrder pair.columns) earlier → All (IsOrder pair.columns) later → All IsWithin (with_orders pair earlier later)
  all_within [] later h g = All-nil IsWithin
  all_within (o ∷ os) later h g =
      All-append IsWithin (map (λ u. with_rows pair (o ++ u)) later) (with_orders pair os later) (later_within o (All-head (IsOrder pair.columns) o os h) later g) (all_within os later (All-tail (IsOrder pair.columns) o os h) g)

pub group_within : (pair : Rows) (earlier later : List (List Affine)) (g : Group) → g ≡ record { columns = pair.columns; front = pair.rows; factors = earlier ∷ later ∷ [] }
    → pair.columns ≤ 128 → length pair.rows ≤ 900 → All (IsRow pair.columns) pair.rows → All (IsOrder pair.columns) earlier → All (IsOrder pair.columns) later → All IsWithin (group_systems g)
group_within pair earlier later g e c few fit h k = subst (All IsWithin) (sym (with_factors pair earlier later g e)) (all_within pair c few fit earlier later h k)

-- ---- The questions of two accesses

none_of : {X : Type 0} (xs : List X) → length xs ≡ 0 → xs ≡ []
none_of [] e = refl
none_of (x ∷ xs) e = absurd (omega (arith, e))

pub no_items : {X Z : Type 0} (v : Vec X Z) (t : Bool) → t ≡ nat_eq v.len 0 → t ≡ true → v.items ≡ []
no_items v t e f = none_of v.items (omega (arith, v.ok, eqb-true v.len 0 (sym e ∙ f)))

none_mapped : {X Y : Type 0} (f : X → Y) (xs : List X) → map f xs ≡ [] → xs ≡ []
none_mapped f xs e = none_of xs (sym (length_map f xs) ∙ ap length e)

none_behind : {A B C : Type 0} (f : A → B → C) (xs : List A) → flat_map (λ x. map (f x) []) xs ≡ []
none_behind f [] = refl
none_behind f (x ∷ xs) = none_behind f xs

module _ (nest : Nest) (schedule : Schedule) (a b : Entry) (x y : Access) where
  -- no order of the target
  pub none_later : (later : List (List Affine)) → later ≡ [] → later ≡ map rows_in (turned_systems nest a.part b.part schedule) → pair_questions nest a b schedule x y ≡ []
  none_later later e s =
      ap (λ us. flat_map (λ o. map (question nest a b (pair_rows nest a b x y) o) us) (source_systems nest a.part b.part)) (none_mapped rows_in (turned_systems nest a.part b.part schedule) (sym s ∙ e))
      ∙ none_behind (question nest a b (pair_rows nest a b x y)) (source_systems nest a.part b.part)

  pub all_in_group : (pair : Rows) (earlier later : List (List Affine)) (g : Group) → pair ≡ record { columns = pair_columns nest a.part b.part; rows = pair_rows nest a b x y }
      → earlier ≡ map rows_in (source_systems nest a.part b.part) → later ≡ map rows_in (turned_systems nest a.part b.part schedule)
      → g ≡ record { columns = pair.columns; front = pair.rows; factors = earlier ∷ later ∷ [] } → group_systems g ≡ map (λ q. q.system) (pair_questions nest a b schedule x y)
  all_in_group pair earlier later g p s t e =
      with_factors pair earlier later g e ∙ ap (λ us. with_orders pair earlier us) t ∙ ap (λ os. with_orders pair os (map rows_in (turned_systems nest a.part b.part schedule))) s
      ∙ systems_made nest schedule a b x y pair p
