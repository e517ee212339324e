-- The systems of a comparison at a point.
use Rattle.std.proofs.Common.{◌≡◌, ℕ, zero, suc, ℤ, pos, ◌+ℤ◌, ◌≤ℤ◌, Bool, true, false, IsTrue, if◌then◌else◌, List, [], ◌∷◌, ◌++◌, length, refl, ap, subst, inl, inr, arith}
use Rattle.std.specs.List.{All}
use Rattle.std.proofs.lemmas.Int.{ints}
use Rattle.std.proofs.lemmas.List.Elements.{All-nil, All-append}
use Rattle.affc_rows.specs.Forms.{Affine, value, values_of, HaveColumns}
use Rattle.affc_system.specs.Systems.{Rows, Meets, IsPoint}
use Rattle.affc_system.proofs.SystemLemmas.{point_of_fewer_rows}
use Rattle.affc_ast.specs.declared.tree.Rel.TheVariants.{Less, Equal}
use Rattle.affc_trace.specs.Law.{IsIn}
use Rattle.affc_domain.specs.Loops.{IsBefore}
use Rattle.affc_domain.proofs.ColumnLemmas.{first_columns, later_columns}
use Rattle.affc_nest.specs.Domains.{compare_rows}
use Rattle.affc_nest.proofs.DomainLemmas.{to_all, from_all, rows_say, say_rows}
use Rattle.affc_order.specs.Laws.{IsPointOfOne}
use Rattle.affc_order.specs.Systems.{lex_systems}

-- each system is over the columns
pub lex_columns : (columns n : ℕ) (fs gs rows : List Affine) (tie : Bool) (s : Rows) → IsIn s (lex_systems columns n fs gs rows tie) → s.columns ≡ columns
lex_columns columns zero fs gs rows tie s i = at_tie tie i
  where
    at_tie : (t : Bool) → IsIn s (if t then record { columns = columns; rows = rows } ∷ [] else []) → s.columns ≡ columns
    at_tie true (inl e) = ap (λ (r : Rows). r.columns) e
    at_tie true (inr b) = absurd b
    at_tie false b = absurd b
lex_columns columns (suc n) [] gs rows tie s i = absurd i
lex_columns columns (suc n) (f ∷ fs) [] rows tie s i = absurd i
lex_columns columns (suc n) (f ∷ fs) (g ∷ gs) rows tie s (inl e) = ap (λ (r : Rows). r.columns) e
lex_columns columns (suc n) (f ∷ fs) (g ∷ gs) rows tie s (inr i) = lex_columns columns n fs gs (rows ++ compare_rows Equal f g) tie s i

module _ (xs : List ℤ) where
  -- ---- Rows

  pub both_met : (rows more : List Affine) → All (Meets xs) rows → All (Meets xs) more → All (Meets xs) (rows ++ more)
  both_met rows more m n = All-append (Meets xs) rows more m n

  pub met_both : (rows more : List Affine) → All (Meets xs) (rows ++ more) → All (Meets xs) rows × All (Meets xs) more
  met_both rows more m = let r = point_of_fewer_rows (record { columns = length xs; rows = rows }) more xs (record { width = refl; meets = m }) in (r.0.meets, r.1)

  one_value : (u v : ℤ) → (u ≤ℤ v) × (v ≤ℤ u) → u ≡ v
  one_value u v q = omega (arith, ints, q.0, q.1)

  two_ways : (u v : ℤ) → u ≡ v → (u ≤ℤ v) × (v ≤ℤ u)
  two_ways u v q = (omega (arith, ints), omega (arith, ints))

  module _ (f g : Affine) (u : length f.coefs ≡ length xs) (v : length g.coefs ≡ length xs) where
    pub equal_met : value f xs ≡ value g xs → All (Meets xs) (compare_rows Equal f g)
    equal_met e = to_all xs (compare_rows Equal f g) (say_rows f g xs u v Equal (two_ways (value f xs) (value g xs) e))

    pub met_equal : All (Meets xs) (compare_rows Equal f g) → value f xs ≡ value g xs
    met_equal m = one_value (value f xs) (value g xs) (rows_say f g xs u v Equal (from_all xs (compare_rows Equal f g) m))

    less_met : (value f xs +ℤ pos 1) ≤ℤ value g xs → All (Meets xs) (compare_rows Less f g)
    less_met e = to_all xs (compare_rows Less f g) (say_rows f g xs u v Less e)

    met_less : All (Meets xs) (compare_rows Less f g) → (value f xs +ℤ pos 1) ≤ℤ value g xs
    met_less m = rows_say f g xs u v Less (from_all xs (compare_rows Less f g) m)

  -- ---- A point of one of the systems

  -- one system more
  in_more : (s : Rows) (systems : List Rows) → IsPointOfOne systems xs → IsPointOfOne (s ∷ systems) xs
  in_more s systems h = record { system = h.system; there = inr h.there; meets = h.meets }

  pub lex_says : (n : ℕ) (fs gs rows : List Affine) (tie : Bool) → HaveColumns (length xs) fs → HaveColumns (length xs) gs
      → IsPointOfOne (lex_systems (length xs) n fs gs rows tie) xs → All (Meets xs) rows × IsBefore n (values_of fs xs) (values_of gs xs) (IsTrue tie)
  lex_says zero fs gs rows tie h k o = at_tie tie o.system o.there o.meets
    where
      at_tie : (t : Bool) (s : Rows) → IsIn s (if t then record { columns = length xs; rows = rows } ∷ [] else []) → IsPoint s xs → All (Meets xs) rows × IsTrue t
      at_tie true s (inl e) m = (subst (λ (r : Rows). All (Meets xs) r.rows) e m.meets, refl)
      at_tie true s (inr b) m = absurd b
      at_tie false s b m = absurd b
  lex_says (suc n) [] gs rows tie h k o = absurd o.there
  lex_says (suc n) (f ∷ fs) [] rows tie h k o = absurd o.there
  lex_says (suc n) (f ∷ fs) (g ∷ gs) rows tie h k o =
      first_or_later o.system o.there o.meets (lex_says n fs gs (rows ++ compare_rows Equal f g) tie (later_columns (length xs) f fs h) (later_columns (length xs) g gs k))
    where
      first_or_later : (s : Rows) → IsIn s (lex_systems (length xs) (suc n) (f ∷ fs) (g ∷ gs) rows tie) → IsPoint s xs
          → (IsPointOfOne (lex_systems (length xs) n fs gs (rows ++ compare_rows Equal f g) tie) xs → All (Meets xs) (rows ++ compare_rows Equal f g) × IsBefore n (values_of fs xs) (values_of gs xs) (IsTrue tie))
          → All (Meets xs) rows × IsBefore (suc n) (values_of (f ∷ fs) xs) (values_of (g ∷ gs) xs) (IsTrue tie)
      first_or_later s (inl e) m rest =
          let b = met_both rows (compare_rows Less f g) (subst (λ (r : Rows). All (Meets xs) r.rows) e m.meets) in
          (b.0, inl (met_less f g (first_columns (length xs) f fs h) (first_columns (length xs) g gs k) b.1))
      first_or_later s (inr i) m rest =
          let r = rest (record { system = s; there = i; meets = m }) in
          let b = met_both rows (compare_rows Equal f g) r.0 in
          (b.0, inr (met_equal f g (first_columns (length xs) f fs h) (first_columns (length xs) g gs k) b.1, r.1))

  pub says_lex : (n : ℕ) (fs gs rows : List Affine) (tie : Bool) → HaveColumns (length xs) fs → HaveColumns (length xs) gs
      → All (Meets xs) rows → IsBefore n (values_of fs xs) (values_of gs xs) (IsTrue tie) → IsPointOfOne (lex_systems (length xs) n fs gs rows tie) xs
  says_lex zero fs gs rows tie h k m t = at_tie tie t
    where
      at_tie : (t : Bool) → IsTrue t → IsPointOfOne (if t then record { columns = length xs; rows = rows } ∷ [] else []) xs
      at_tie true q = record { system = record { columns = length xs; rows = rows }; there = inl refl; meets = record { width = refl; meets = m } }
      at_tie false q = absurd (cc)
  says_lex (suc n) [] gs rows tie h k m t = absurd t
  says_lex (suc n) (f ∷ fs) [] rows tie h k m t = absurd t
  says_lex (suc n) (f ∷ fs) (g ∷ gs) rows tie h k m (inl l) = record {
    system = record { columns = length xs; rows = rows ++ compare_rows Less f g };
    there = inl refl;
    meets = record { width = refl; meets = both_met rows (compare_rows Less f g) m (less_met f g (first_columns (length xs) f fs h) (first_columns (length xs) g gs k) l) };
  }
  says_lex (suc n) (f ∷ fs) (g ∷ gs) rows tie h k m (inr q) =
      in_more (record { columns = length xs; rows = rows ++ compare_rows Less f g }) (lex_systems (length xs) n fs gs (rows ++ compare_rows Equal f g) tie)
      (says_lex n fs gs (rows ++ compare_rows Equal f g) tie (later_columns (length xs) f fs h) (later_columns (length xs) g gs k)
      (both_met rows (compare_rows Equal f g) m (equal_met f g (first_columns (length xs) f fs h) (first_columns (length xs) g gs k) q.0)) q.1)

  -- rows alone don't matter where there are none
  pub lex_is_before : (n : ℕ) (fs gs : List Affine) (tie : Bool) → HaveColumns (length xs) fs → HaveColumns (length xs) gs
      → IsPointOfOne (lex_systems (length xs) n fs gs [] tie) xs → IsBefore n (values_of fs xs) (values_of gs xs) (IsTrue tie)
  lex_is_before n fs gs tie h k o = (lex_says n fs gs [] tie h k o).1

  pub before_is_lex : (n : ℕ) (fs gs : List Affine) (tie : Bool) → HaveColumns (length xs) fs → HaveColumns (length xs) gs
      → IsBefore n (values_of fs xs) (values_of gs xs) (IsTrue tie) → IsPointOfOne (lex_systems (length xs) n fs gs [] tie) xs
  before_is_lex n fs gs tie h k b = says_lex n fs gs [] tie h k (All-nil (Meets xs)) b
