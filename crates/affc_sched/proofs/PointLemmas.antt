-- A point of two instances: what spread rows and equal forms say there.
use Rattle.std.proofs.Common.{◌≡◌, ℕ, ◌+◌, ℤ, pos, ◌≤ℤ◌, List, [], ◌∷◌, ◌++◌, length, map, take, drop, refl, sym, ap, subst, ◌∙◌, arith}
use Rattle.std.specs.List.{All}
use Rattle.std.proofs.lemmas.List.{take-append-drop, length-take-le, length-drop, take_all}
use Rattle.std.proofs.lemmas.List.Elements.{All-nil, All-cons, All-head, All-tail}
use Rattle.affc_rows.specs.Forms.{Affine, value, values_of, HaveColumns}
use Rattle.affc_rows.proofs.SizeLemmas.{spread_width}
use Rattle.affc_system.specs.Systems.{Meets}
use Rattle.affc_ast.specs.declared.tree.Rel.TheVariants.{Equal}
use Rattle.affc_domain.proofs.ColumnLemmas.{no_columns, more_columns, first_columns, later_columns, cons_is}
use Rattle.affc_nest.specs.Domains.{compare_rows}
use Rattle.affc_order.specs.Spread.{spread}
use Rattle.affc_order.proofs.LexLemmas.{both_met, met_both, equal_met, met_equal}
use Rattle.affc_order.proofs.SpreadLemmas.{spread_value}
use Rattle.affc_sched.specs.Questions.{equal_rows}

-- ---- Spread forms

module _ (p ks xs ns : List ℤ) (m k n : ℕ) (u : m ≡ length p) (v : k ≡ length ks) where
  abbrev zs : List ℤ
  zs = p ++ (ks ++ (xs ++ ns))

  pub spread_met : (rows : List Affine) → HaveColumns (length p + length xs) rows → All (Meets (p ++ xs)) rows → All (Meets zs) (map (spread m k n) rows)
  spread_met [] w a = All-nil (Meets zs)
  spread_met (r ∷ rows) w a =
      All-cons (Meets zs) (spread m k n r) (map (spread m k n) rows)
      (subst (λ z. pos 0 ≤ℤ z) (sym (spread_value p ks xs ns m k n r u v (first_columns (length p + length xs) r rows w))) (All-head (Meets (p ++ xs)) r rows a))
      (spread_met rows (later_columns (length p + length xs) r rows w) (All-tail (Meets (p ++ xs)) r rows a))

  pub met_spread : (rows : List Affine) → HaveColumns (length p + length xs) rows → All (Meets zs) (map (spread m k n) rows) → All (Meets (p ++ xs)) rows
  met_spread [] w a = All-nil (Meets (p ++ xs))
  met_spread (r ∷ rows) w a =
      All-cons (Meets (p ++ xs)) r rows
      (subst (λ z. pos 0 ≤ℤ z) (spread_value p ks xs ns m k n r u v (first_columns (length p + length xs) r rows w)) (All-head (Meets zs) (spread m k n r) (map (spread m k n) rows) a))
      (met_spread rows (later_columns (length p + length xs) r rows w) (All-tail (Meets zs) (spread m k n r) (map (spread m k n) rows) a))

  pub spread_values : (fs : List Affine) → HaveColumns (length p + length xs) fs → values_of (map (spread m k n) fs) zs ≡ values_of fs (p ++ xs)
  spread_values [] w = refl
  spread_values (f ∷ fs) w =
      cons_is (value (spread m k n f) zs) (value f (p ++ xs)) (values_of (map (spread m k n) fs) zs) (values_of fs (p ++ xs))
      (spread_value p ks xs ns m k n f u v (first_columns (length p + length xs) f fs w)) (spread_values fs (later_columns (length p + length xs) f fs w))

pub all_spread : (m k l n : ℕ) (fs : List Affine) → HaveColumns (m + l) fs → HaveColumns (((m + k) + l) + n) (map (spread m k n) fs)
all_spread m k l n [] w = no_columns (((m + k) + l) + n)
all_spread m k l n (f ∷ fs) w =
    more_columns (((m + k) + l) + n) (spread m k n f) (map (spread m k n) fs) (spread_width m k l n f (first_columns (m + l) f fs w)) (all_spread m k l n fs (later_columns (m + l) f fs w))

-- ---- Equal forms

module _ (zs : List ℤ) where
  pub equal_values : (fs gs : List Affine) → HaveColumns (length zs) fs → HaveColumns (length zs) gs → length fs ≡ length gs → All (Meets zs) (equal_rows fs gs) → values_of fs zs ≡ values_of gs zs
  equal_values [] [] h k e m = refl
  equal_values [] (g ∷ gs) h k e m = absurd (omega arith)
  equal_values (f ∷ fs) [] h k e m = absurd (omega arith)
  equal_values (f ∷ fs) (g ∷ gs) h k e m =
      let b = met_both zs (compare_rows Equal f g) (equal_rows fs gs) m in
      cons_is (value f zs) (value g zs) (values_of fs zs) (values_of gs zs) (met_equal zs f g (first_columns (length zs) f fs h) (first_columns (length zs) g gs k) b.0)
      (equal_values fs gs (later_columns (length zs) f fs h) (later_columns (length zs) g gs k) (omega (arith, e)) b.1)

  pub values_equal : (fs gs : List Affine) → HaveColumns (length zs) fs → HaveColumns (length zs) gs → values_of fs zs ≡ values_of gs zs → All (Meets zs) (equal_rows fs gs)
  values_equal [] gs h k e = All-nil (Meets zs)
  values_equal (f ∷ fs) [] h k e = All-nil (Meets zs)
  values_equal (f ∷ fs) (g ∷ gs) h k e =
      both_met zs (compare_rows Equal f g) (equal_rows fs gs)
      (equal_met zs f g (first_columns (length zs) f fs h) (first_columns (length zs) g gs k) (cc))
      (values_equal fs gs (later_columns (length zs) f fs h) (later_columns (length zs) g gs k) (cc))

-- ---- The numbers of a point, by how many there are

module _ (m k l : ℕ) (point : List ℤ) (w : length point ≡ (m + k) + l) where
  abbrev pub front : List ℤ
  front = take m point

  abbrev pub middle : List ℤ
  middle = take k (drop m point)

  abbrev pub end : List ℤ
  end = take l (drop k (drop m point))

  pub front_long : length front ≡ m
  front_long = length-take-le m point (omega (arith, w))

  pub middle_long : length middle ≡ k
  middle_long = length-take-le k (drop m point) (let d = length-drop m point in omega (arith, w, d))

  pub end_long : length end ≡ l
  end_long = length-take-le l (drop k (drop m point)) (let d = length-drop m point in let e = length-drop k (drop m point) in omega (arith, w, d, e))

  pub front_middle_end : front ++ (middle ++ end) ≡ point
  front_middle_end =
      ap (λ ys. front ++ (middle ++ ys)) (take_all l (drop k (drop m point)) (let d = length-drop m point in let e = length-drop k (drop m point) in omega (arith, w, d, e)))
      ∙ ap (λ ys. front ++ ys) (take-append-drop k (drop m point)) ∙ take-append-drop m point
