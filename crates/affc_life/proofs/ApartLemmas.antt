-- What the rows of a clash system say of a point: two elements differ, and both orders hold.
use Rattle.std.proofs.Common.{◌≡◌, ◌≢◌, ℤ, pos, ◌+ℤ◌, ◌≤ℤ◌, Bool, true, false, IsTrue, List, [], ◌∷◌, ◌++◌, length, flat_map, refl, sym, subst, ◌⊎◌, inl, inr, arith}
use Rattle.std.specs.Prelude.{int_lt}
use Rattle.std.proofs.lemmas.Int.{ints}
use Rattle.affc_rows.specs.Forms.{Affine, value, values_of, HaveColumns}
use Rattle.affc_system.specs.Systems.{Rows, Met}
use Rattle.affc_ast.specs.declared.tree.Rel.TheVariants.{Less, Greater, Equal}
use Rattle.affc_trace.specs.Law.{IsIn}
use Rattle.affc_trace.proofs.Members.{to_flat_map}
use Rattle.affc_trace.proofs.Once.{in_flat_map}
use Rattle.affc_domain.proofs.ColumnLemmas.{first_columns, later_columns, cons_is}
use Rattle.affc_nest.specs.Domains.{compare_rows}
use Rattle.affc_nest.proofs.DomainLemmas.{met_append, met_both, rows_say, say_rows, from_all}
use Rattle.affc_order.proofs.LexLemmas.{equal_met}
use Rattle.affc_life.specs.Clashes.{apart_rows, differing, between_rows}

heads : (x y : ℤ) (xs ys : List ℤ) → x ∷ xs ≡ y ∷ ys → x ≡ y
heads x y xs ys e = cc

tails : (x y : ℤ) (xs ys : List ℤ) → x ∷ xs ≡ y ∷ ys → xs ≡ ys
tails x y xs ys e = cc

-- one of two numbers is less, or they are equal
three : (u v : ℤ) → ((u +ℤ pos 1) ≤ℤ v) ⊎ (((v +ℤ pos 1) ≤ℤ u) ⊎ (u ≡ v))
three u v = by_first (int_lt u v) refl
  where
    less : (u v : ℤ) → int_lt u v ≡ true → (u +ℤ pos 1) ≤ℤ v
    less u v e = grind (arith, ints)

    same : (u v : ℤ) → int_lt u v ≡ false → int_lt v u ≡ false → u ≡ v
    same u v e f = grind (arith, ints)

    by_second : (t : Bool) → int_lt v u ≡ t → int_lt u v ≡ false → ((u +ℤ pos 1) ≤ℤ v) ⊎ (((v +ℤ pos 1) ≤ℤ u) ⊎ (u ≡ v))
    by_second true e f = inr (inl (less v u e))
    by_second false e f = inr (inr (same u v f e))

    by_first : (t : Bool) → int_lt u v ≡ t → ((u +ℤ pos 1) ≤ℤ v) ⊎ (((v +ℤ pos 1) ≤ℤ u) ⊎ (u ≡ v))
    by_first true e = inl (less u v e)
    by_first false e = by_second (int_lt v u) refl e

not_same : (u v : ℤ) → (u +ℤ pos 1) ≤ℤ v → u ≡ v → ⊥
not_same u v h e = omega (arith, ints)

-- all rows of one of these lists are met
abbrev pub MeetsOne : List ℤ → List (List Affine) → Type 0
MeetsOne zs lists = (rows : List Affine) × IsIn rows lists × Met zs rows

module _ (zs : List ℤ) where
  apart_says : (fs gs rows o : List Affine) → HaveColumns (length zs) fs → HaveColumns (length zs) gs → IsIn o (apart_rows fs gs rows) → Met zs o → Met zs rows × (values_of fs zs ≢ values_of gs zs)
  apart_says [] gs rows o h k i m = absurd i
  apart_says (f ∷ fs) [] rows o h k i m = absurd i
  apart_says (f ∷ fs) (g ∷ gs) rows o h k (inl e) m =
      let b = met_both zs rows (compare_rows Less f g) (subst (Met zs) e m) in (
        b.0,
        λ q. not_same (value f zs) (value g zs) (rows_say f g zs (first_columns (length zs) f fs h) (first_columns (length zs) g gs k) Less b.1) (heads (value f zs) (value g zs) (values_of fs zs) (values_of gs zs) q),
      )
  apart_says (f ∷ fs) (g ∷ gs) rows o h k (inr (inl e)) m =
      let b = met_both zs rows (compare_rows Greater f g) (subst (Met zs) e m) in (
        b.0,
        λ q. not_same (value g zs) (value f zs) (rows_say f g zs (first_columns (length zs) f fs h) (first_columns (length zs) g gs k) Greater b.1) (sym (heads (value f zs) (value g zs) (values_of fs zs) (values_of gs zs) q)),
      )
  apart_says (f ∷ fs) (g ∷ gs) rows o h k (inr (inr i)) m =
      let r = apart_says fs gs (rows ++ compare_rows Equal f g) o (later_columns (length zs) f fs h) (later_columns (length zs) g gs k) i m in
      ((met_both zs rows (compare_rows Equal f g) r.0).0, λ q. r.1 (tails (value f zs) (value g zs) (values_of fs zs) (values_of gs zs) q))

  says_apart : (fs gs rows : List Affine) → HaveColumns (length zs) fs → HaveColumns (length zs) gs → length fs ≡ length gs → Met zs rows → values_of fs zs ≢ values_of gs zs → MeetsOne zs (apart_rows fs gs rows)
  says_apart [] [] rows h k e m d = absurd (d refl)
  says_apart [] (g ∷ gs) rows h k e m d = absurd (omega arith)
  says_apart (f ∷ fs) [] rows h k e m d = absurd (omega arith)
  says_apart (f ∷ fs) (g ∷ gs) rows h k e m d =
      let u = first_columns (length zs) f fs h in
      let v = first_columns (length zs) g gs k in
      elim (three (value f zs) (value g zs)) [
        | inl l ↦ (rows ++ compare_rows Less f g, inl refl, met_append zs rows (compare_rows Less f g) m (say_rows f g zs u v Less l))
        | inr o ↦ elim o [
          | inl l ↦ (rows ++ compare_rows Greater f g, inr (inl refl), met_append zs rows (compare_rows Greater f g) m (say_rows f g zs u v Greater l))
          | inr q ↦ (
              let r = says_apart fs gs (rows ++ compare_rows Equal f g) (later_columns (length zs) f fs h) (later_columns (length zs) g gs k) (omega (arith, e))
              (met_append zs rows (compare_rows Equal f g) m (from_all zs (compare_rows Equal f g) (equal_met zs f g u v q)))
              (λ c. d (cons_is (value f zs) (value g zs) (values_of fs zs) (values_of gs zs) q c)) in
              (r.0, inr (inr r.1), r.2)
              )
        ]
      ]

  differing_says : (differ : Bool) (fs gs rows o : List Affine) → HaveColumns (length zs) fs → HaveColumns (length zs) gs → IsIn o (differing differ fs gs rows) → Met zs o
      → Met zs rows × (IsTrue differ → values_of fs zs ≢ values_of gs zs)
  differing_says true fs gs rows o h k i m = let r = apart_says fs gs rows o h k i m in (r.0, λ t. r.1)
  differing_says false fs gs rows o h k (inl e) m = (subst (Met zs) e m, λ t. absurd (cc))
  differing_says false fs gs rows o h k (inr i) m = absurd i

  says_differing : (differ : Bool) (fs gs rows : List Affine) → HaveColumns (length zs) fs → HaveColumns (length zs) gs → length fs ≡ length gs → Met zs rows → (IsTrue differ → values_of fs zs ≢ values_of gs zs)
      → MeetsOne zs (differing differ fs gs rows)
  says_differing true fs gs rows h k e m d = says_apart fs gs rows h k e m (d refl)
  says_differing false fs gs rows h k e m d = (rows, inl refl, m)

  -- what a list of rows between two orders says
  pub record Between (differ : Bool) (rows : List Affine) (first second : List Rows) (fs gs : List Affine) : Type 0 where
    pub front : Met zs rows
    pub after : Rows
    pub after_in : IsIn after first
    pub after_met : Met zs after.rows
    pub before : Rows
    pub before_in : IsIn before second
    pub before_met : Met zs before.rows
    pub apart : IsTrue differ → values_of fs zs ≢ values_of gs zs

  pub between_says : (differ : Bool) (rows : List Affine) (first second : List Rows) (fs gs o : List Affine) → HaveColumns (length zs) fs → HaveColumns (length zs) gs
      → IsIn o (between_rows differ rows first second fs gs) → Met zs o → Between differ rows first second fs gs
  between_says differ rows first second fs gs o h k i m =
      let a = in_flat_map (λ (o : Rows). flat_map (λ (u : Rows). differing differ fs gs (rows ++ (o.rows ++ u.rows))) second) first o i in
      let b = in_flat_map (λ (u : Rows). differing differ fs gs (rows ++ (a.0.rows ++ u.rows))) second o a.2 in
      let r = differing_says differ fs gs (rows ++ (a.0.rows ++ b.0.rows)) o h k b.2 m in
      let c = met_both zs rows (a.0.rows ++ b.0.rows) r.0 in
      let d = met_both zs a.0.rows b.0.rows c.1 in
      record { front = c.0; after = a.0; after_in = a.1; after_met = d.0; before = b.0; before_in = b.1; before_met = d.1; apart = r.1 }

  pub says_between : (differ : Bool) (rows : List Affine) (first second : List Rows) (fs gs : List Affine) → HaveColumns (length zs) fs → HaveColumns (length zs) gs → length fs ≡ length gs
      → Between differ rows first second fs gs → MeetsOne zs (between_rows differ rows first second fs gs)
  says_between differ rows first second fs gs h k e b =
      let both : List Affine = b.after.rows ++ b.before.rows in
      let r = says_differing differ fs gs (rows ++ both) h k e (met_append zs rows both b.front (met_append zs b.after.rows b.before.rows b.after_met b.before_met)) b.apart in (
        r.0,
        to_flat_map (λ (o : Rows). flat_map (λ (u : Rows). differing differ fs gs (rows ++ (o.rows ++ u.rows))) second) first b.after r.0 b.after_in
            (to_flat_map (λ (u : Rows). differing differ fs gs (rows ++ (b.after.rows ++ u.rows))) second b.before r.0 b.before_in r.1),
        r.2,
      )
