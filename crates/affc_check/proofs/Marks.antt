-- What the items of a mark show.
use Rattle.std.proofs.Common.{◌≡◌, ℕ, zero, suc, ◌≤◌, ℤ, pos, negsuc, ◌≤ℤ◌, ◌<ℤ◌, Bool, true, false, if◌then◌else◌, List, [], ◌∷◌, length, take, slice_index_or, Option, Some, None, refl, sym, ◌∙◌, inl, inr, arith}
use Rattle.std.specs.Prelude.{nat_eq, slice_get}
use Rattle.std.specs.List.{Contains}
use Rattle.std.specs.Cmp.Lexicographic.{slice_cmp}
use Rattle.std.specs.FinMap.{int_cmp-IsAntisymmetric, slice_cmp-IsAntisymmetric}
use Rattle.std.specs.Ordering.{is_eq, int_cmp}
use Rattle.std.specs.declared.cmp.Ordering.{Ordering}
use Rattle.std.specs.declared.cmp.Ordering.TheVariants as ordering
use Rattle.std.proofs.lemmas.Int.{ints}
use Rattle.std.proofs.lemmas.Option.{same_Some, slice_get_within}
use Rattle.affc_rows.specs.Forms.{Affine, HaveColumns, value, values_of}
use Rattle.affc_system.specs.Systems.{IsPoint, HasNoPoint}
use Rattle.affc_system.specs.ElementPairs.{IsPairOf}
use Rattle.affc_system.specs.declared.pairs.PairSystem.{PairSystem}
use Rattle.affc_ast.specs.declared.tree.Rel.TheVariants.{Equal}
use Rattle.affc_trace.proofs.Members.{both_hold}
use Rattle.affc_domain.proofs.FormLemmas.{number_value, number_width}
use Rattle.affc_basis.specs.Folds.{IsEnough, IsLeastMark}
use Rattle.affc_basis.specs.Moduli.{IsModulus}
use Rattle.affc_basis.specs.Slices.{along}
use Rattle.affc_nest.specs.Domains.{compare_rows, number_form}
use Rattle.affc_nest.specs.Nests.{nowhere}
use Rattle.affc_nest.specs.declared.nest.Nest.{Nest}
use Rattle.affc_nest.proofs.DomainLemmas.{from_all, rows_say}
use Rattle.affc_conflicts.specs.Conditions.{InContext}
use Rattle.affc_conflicts.specs.Laws.{IsOver}
use Rattle.affc_conflicts.specs.Questions.{greater_question, shown_system}
use Rattle.affc_conflicts.proofs.Marks.{is_highest, pair_is_shown}
use Rattle.affc_conflicts.proofs.Turned.{mark_turned}
use Rattle.affc_check.specs.list.Items.{Shown, numbered, is_point_at, is_behind, nothing, farthest, pair_in, pair_item, elements_at, pair_of}
use Rattle.affc_check.proofs.Sound.{Holds}

pub nothing_shown : IsPoint (nowhere 0) [] → ⊥
nothing_shown is = let m = from_all [] (nowhere 0).rows is.meets in absurd (below m.0)
  where
    below : pos 0 ≤ℤ negsuc 0 → ⊥
    below h = omega (arith, ints, h)

tied : (o : Ordering) → is_eq o ≡ true → o ≡ ordering.Equal
tied ordering.Less e = cc
tied ordering.Equal e = refl
tied ordering.Greater e = cc

same_numbers : (xs ys : List ℤ) → is_eq (slice_cmp int_cmp xs ys) ≡ true → xs ≡ ys
same_numbers xs ys e = slice_cmp-IsAntisymmetric int_cmp-IsAntisymmetric xs ys (tied (slice_cmp int_cmp xs ys) e)

pub contained : (systems : List PairSystem) (z : ℤ) (s : PairSystem) → numbered systems z ≡ Some s → Contains systems s
contained systems (pos n) s e = let h = slice_get_within systems n s e in (n, h, stands systems n s e)
  where
    stands : (xs : List PairSystem) (n : ℕ) (s : PairSystem) → slice_get xs n ≡ Some s → slice_index_or xs n s ≡ s
    stands [] n s e = absurd (cc)
    stands (x ∷ xs) zero s e = same_Some x s e
    stands (x ∷ xs) (suc n) s e = stands xs n s e
contained systems (negsuc n) s e = absurd (cc)

module _ (nest : Nest) (systems : List PairSystem) (rows : List Affine) (over : (s : PairSystem) → Contains systems s → IsOver nest.context.columns (length rows) s) (wide : HaveColumns (length rows) rows)
    (k : ℕ) (row modulus : Affine) (at : slice_get rows k ≡ Some row) (limits : IsModulus nest.context.columns modulus)
    (enough : IsEnough (InContext nest.context nest.params) (IsPairOf systems) rows k row modulus)
    (p : List ℤ) (here : InContext nest.context nest.params p) (none : HasNoPoint (greater_question nest.context nest.params modulus p)) where
  abbrev Marked : Option (List ℤ × List ℤ) → Type 0
  Marked pair = IsLeastMark (InContext nest.context nest.params) (IsPairOf systems) rows k row modulus p pair

  -- ---- No pair

  without : IsPoint (record { columns = nest.context.columns; rows = compare_rows Equal modulus (number_form nest.context.columns (pos 1)) }) p → Marked None
  without is =
      let one : Affine = number_form nest.context.columns (pos 1) in
      let said = rows_say modulus one p (limits.width ∙ sym is.width) (number_width nest.context.columns (pos 1) ∙ sym is.width) Equal (from_all p (compare_rows Equal modulus one) is.meets) in
      let v : value modulus p ≡ pos 1 = between (value modulus p) (value one p) (number_value nest.context.columns (pos 1) p) said.0 said.1 in
      record {
        in_context = here;
        highest = is_highest nest.context nest.params modulus p limits.width none;
        greatest = 0;
        is_greatest = record { most = λ x y s. below (along row x y) (value modulus p) v ((enough p here).1 x y s); attained = inl refl };
        value_there = v;
        attains = refl;
      }
    where
      between : (v o : ℤ) → o ≡ pos 1 → v ≤ℤ o → o ≤ℤ v → v ≡ pos 1
      between v o e h g = omega (arith, ints)

      below : (n : ℕ) (v : ℤ) → v ≡ pos 1 → pos n <ℤ v → n ≤ 0
      below n v e h = omega (arith, ints)

  -- ---- A pair

  module _ (point : List ℤ) (s : PairSystem) (there : Contains systems s) (front : take nest.context.columns point ≡ p) where
    swapped : (pair : List ℤ × List ℤ) → Marked (Some pair) → Marked (Some (pair.1, pair.0))
    swapped pair m = mark_turned nest.context nest.params systems rows k row modulus p pair m

    far : (behind : Bool)
        → Holds (if behind then Shown (shown_system rows k row modulus s s.y.items s.x.items) point else Shown (shown_system rows k row modulus s s.x.items s.y.items) point)
        → Marked (if behind then Some (values_of s.x.items point, values_of s.y.items point) else Some (values_of s.y.items point, values_of s.x.items point))
    far true is = pair_is_shown nest.context nest.params systems rows k row modulus p s point there (over s there) wide at limits.width enough here none front (inr is)
    far false is =
        swapped (values_of s.x.items point, values_of s.y.items point)
        (pair_is_shown nest.context nest.params systems rows k row modulus p s point there (over s there) wide at limits.width enough here none front (inl is))

  with_system : (point : List ℤ) (o : Option PairSystem) → ((s : PairSystem) → o ≡ Some s → Contains systems s) → Holds (pair_in nest rows k row modulus p point o) → Marked (elements_at row point o)
  with_system point None there is = absurd (nothing_shown is)
  with_system point (Some s) there is = by_test (is_point_at nest.context.columns p point s) refl is
    where
      by_test : (t : Bool) → is_point_at nest.context.columns p point s ≡ t → Holds (if t then farthest nest rows k row modulus s point else nothing nest rows k row modulus) → Marked (elements_at row point (Some s))
      by_test true e is =
          let both = both_hold (nat_eq (length point) s.system.columns) (is_eq (slice_cmp int_cmp (take nest.context.columns point) p)) e in
          far point s (there s refl) (same_numbers (take nest.context.columns point) p both.1) (is_behind row s point) is
      by_test false e is = absurd (nothing_shown is)

  pub mark_shown : (o : Option (ℤ × List ℤ)) → Holds (pair_item nest rows k row modulus systems p o) → Marked (pair_of systems row o)
  mark_shown None is = without is
  mark_shown (Some pair) is = with_system pair.1 (numbered systems pair.0) (contained systems pair.0) is
