-- The ranges of quotients have their ends in order.
use Rattle.std.proofs.Common.{◌≡◌, ℕ, suc, ◌+◌, ◌^◌, ◌≤◌, ℤ, pos, ◌≤ℤ◌, true, false, List, [], ◌∷◌, ◌++◌, length, map, refl, sym, ap, subst, ◌∙◌, inl, inr, arith}
use Rattle.std.specs.List.{All}
use Rattle.std.proofs.lemmas.List.Elements.{All-nil, All-cons, All-head, All-tail, All-append}
use Rattle.affc_rows.specs.Forms.{Affine, value, magnitude}
use Rattle.affc_system.specs.Boxes.{IsCorner, corner}
use Rattle.affc_system.specs.Pairs.{WithinReach}
use Rattle.affc_ast.specs.Index.{floor_of}
use Rattle.affc_trace.proofs.Runs.{length_append}
use Rattle.affc_nest.specs.declared.divisions.Division.{Division}
use Rattle.affc_nest.specs.Divisions.{quotient_range}
use Rattle.affc_quast.specs.Leaves.{path_ranges}
use Rattle.affc_quast.specs.Paths.{IsNear}
use Rattle.affc_quast.specs.SeenLeaves.{division_seen}
use Rattle.affc_quast.proofs.NearLemmas.{has_value}
use Rattle.affc_nest.proofs.DivisionLemmas.{held_near}
use Rattle.affc_life.specs.Asked.{IsLight, AreDivisions}

pub range_near : (ranges : List (ℤ × ℤ)) (f : Affine) (by : ℤ) → WithinReach (quotient_range ranges f by)
range_near ranges f by = record { low = held_near (2 ^ 60) (floor_of (value f (corner false f.coefs ranges)) by); high = held_near (2 ^ 60) (floor_of (value f (corner true f.coefs ranges)) by) }

pub more_near : (ranges more : List (ℤ × ℤ)) (r : ℤ × ℤ) (f : Affine) (by : ℤ) → r ≡ quotient_range ranges f by → more ≡ ranges ++ r ∷ [] → All WithinReach ranges → All WithinReach more
more_near ranges more r f by e m h =
    subst (All WithinReach) (sym m) (All-append WithinReach ranges (r ∷ []) h (All-cons WithinReach r [] (subst WithinReach (sym e) (range_near ranges f by)) (All-nil WithinReach)))

-- ---- Corners

corner_near : (rs : List (ℤ × ℤ)) (xs : List ℤ) → All WithinReach rs → IsCorner rs xs → All IsNear xs
corner_near [] [] h c = All-nil IsNear
corner_near [] (x ∷ xs) h c = absurd c
corner_near (r ∷ rs) [] h c = absurd c
corner_near (r ∷ rs) (x ∷ xs) h c =
    let w = All-head WithinReach r rs h in
    All-cons IsNear x xs (elim c.0 [ inl e ↦ subst IsNear (sym e) w.low | inr e ↦ subst IsNear (sym e) w.high ]) (corner_near rs xs (All-tail WithinReach r rs h) c.1)

corner_long : (rs : List (ℤ × ℤ)) (xs : List ℤ) → IsCorner rs xs → length xs ≡ length rs
corner_long [] [] c = refl
corner_long [] (x ∷ xs) c = absurd c
corner_long (r ∷ rs) [] c = absurd c
corner_long (r ∷ rs) (x ∷ xs) c = ap suc (corner_long rs xs c.1)

-- at each corner a light form has a value within the range of the code's numbers
pub corner_fits : (ranges : List (ℤ × ℤ)) (f : Affine) (xs : List ℤ) → IsLight (length ranges) f → All WithinReach ranges → length ranges ≤ 500 → IsCorner ranges xs → magnitude f xs ≤ 2 ^ 126
corner_fits ranges f xs light near few at =
    let long = corner_long ranges xs at in
    (has_value f xs (light.width ∙ sym long) (record { coefs_fit = light.coefs_fit; constant_fits = light.constant_fits }) (corner_near ranges xs near at) (fewer (length xs) (length ranges) long few)).fits
  where
    fewer : (m n : ℕ) → m ≡ n → n ≤ 500 → m ≤ 528
    fewer m n e h = omega (arith, e, h)

-- ---- What the code makes

-- the first of the divisions
pub first_light : (ranges : List (ℤ × ℤ)) (divisions rest : List Division) (d : Division) → divisions ≡ d ∷ rest → AreDivisions (length ranges) (map division_seen divisions) → IsLight (length ranges) d.form × (pos 1 ≤ℤ d.by)
first_light ranges divisions rest d is h = let first = subst (λ ds. AreDivisions (length ranges) (map division_seen ds)) is h in (first.0, first.1)

-- one division more
module _ (ranges more : List (ℤ × ℤ)) (divisions rest : List Division) (d : Division) (is : divisions ≡ d ∷ rest) (r : ℤ × ℤ) (range : r ≡ quotient_range ranges d.form d.by) (grown : more ≡ ranges ++ r ∷ []) where
  longer : length more ≡ suc (length ranges)
  longer = ap length grown ∙ length_append ranges (r ∷ []) ∙ one (length ranges)
    where
      one : (n : ℕ) → n + 1 ≡ suc n
      one n = omega arith

  pub quotient_asks : AreDivisions (length ranges) (map division_seen divisions) → AreDivisions (length more) (map division_seen rest)
  quotient_asks h = subst (λ n. AreDivisions n (map division_seen rest)) (sym longer) (subst (λ ds. AreDivisions (length ranges) (map division_seen ds)) is h).2

  pub quotient_near : All WithinReach ranges → All WithinReach more
  quotient_near h = more_near ranges more r d.form d.by range grown h

  pub quotient_few : length ranges + length divisions ≤ 500 → length more + length rest ≤ 500
  quotient_few h = sum (length ranges) (length more) (length divisions) (length rest) longer (ap length is) h
    where
      sum : (a b c e : ℕ) → b ≡ suc a → c ≡ suc e → a + c ≤ 500 → b + e ≤ 500
      sum a b c e f g h = omega (arith, f, g, h)

  pub quotient_made : (new : List (ℤ × ℤ)) → new ≡ path_ranges more (map division_seen rest) → new ≡ path_ranges ranges (map division_seen divisions)
  quotient_made new e =
      e ∙ ap (λ rs. path_ranges rs (map division_seen rest)) (grown ∙ ap (λ q. ranges ++ q ∷ []) range) ∙ ap (λ ds. path_ranges ranges (map division_seen ds)) (sym is)
