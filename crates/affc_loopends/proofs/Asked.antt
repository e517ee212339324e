-- What elimination says of a question.
use Rattle.std.proofs.Common.{◌≡◌, ℕ, suc, ◌+◌, ◌^◌, ◌<◌, ◌≤◌, List, [], ◌∷◌, ◌++◌, length, map, get_or, ℤ, pos, negsuc, ◌+ℤ◌, ◌-ℤ◌, ◌≤ℤ◌, neg_ℤ, refl, sym, ap, subst, ◌∙◌, inl, inr, arith}
use Rattle.std.specs.Prelude.{◌⊎◌, unsigned_abs, remove, Some}
use Rattle.std.specs.List.{All, Contains}
use Rattle.std.proofs.lemmas.List.Edits.{length-remove}
use Rattle.std.proofs.lemmas.Int.{ints}
use Rattle.std.proofs.lemmas.List.{length-map}
use Rattle.std.proofs.lemmas.List.Elements.{All-nil, All-cons, All-append, All-weaker, All-head, All-tail, All-contains_itself}
use Rattle.affc_rows.specs.Forms.{Affine, dot, value}
use Rattle.affc_rows.specs.Vocabulary.{opposite, HasOpposite}
use Rattle.affc_rows.proofs.VocabularyLemmas.{within_opposite}
use Rattle.affc_system.specs.Systems.{Rows, Meets, IsRow}
use Rattle.affc_farkas.specs.Eliminations.{IsElimination}
use Rattle.affc_farkas.specs.Rational.{RationalPoint, scaled_value}
use Rattle.affc_farkas.specs.declared.pair.Pair.{Pair}
use Rattle.affc_eliminate.specs.project.Projections.{AreProjected, IsProjection, IsTooWide}
use Rattle.affc_eliminate.specs.declared.project.projection.Projected.{Projected}
use Rattle.affc_domain.proofs.Lists.{neg_size}
use Rattle.affc_loops.proofs.RowEnds.{dot_opposite}
use Rattle.affc_loopends.specs.declared.bounds.Answer.TheVariants.{Implied}
use Rattle.affc_loopends.specs.Steps.{IsAnswer}
use Rattle.affc_loopends.specs.Sizes.{IsPrintable}
use Rattle.affc_loopends.specs.Whys.{below_zero, question, AreOfOneEnd, IsQuestion, IsMade, IsWide}
use Rattle.affc_loopends.proofs.Chosen.{again, removed, one_more, of_end_all}
use Rattle.affc_loopends.proofs.Instances.{whole_value}

-- ---- Negations

below_value : (row : Affine) (x : List ℤ) → value (below_zero row) x ≡ (negsuc 0 -ℤ value row x)
below_value row x = step (dot (map neg_ℤ row.coefs) x) (dot row.coefs x) row.constant (dot_opposite row.coefs x)
  where
    step : (u v k : ℤ) → u ≡ neg_ℤ v → u +ℤ (negsuc 0 -ℤ k) ≡ negsuc 0 -ℤ (v +ℤ k)
    step u v k e = omega (arith, ints)

either : (z : ℤ) → (pos 0 ≤ℤ z) ⊎ (pos 0 ≤ℤ (negsuc 0 -ℤ z))
either (pos n) = inl (omega (arith, ints))
either (negsuc n) = inr (omega (arith, ints))

turned : (k : ℤ) → neg_ℤ k -ℤ pos 1 ≡ negsuc 0 -ℤ k
turned k = omega (arith, ints)

-- the opposite less 1 is the row below 0
pub below_is : (row o made : Affine) → o ≡ opposite row → made ≡ record o { constant = o.constant -ℤ pos 1 } → made ≡ below_zero row
below_is row o made e f =
    f
    ∙ ap (λ (g : Affine). let r : Affine = record { coefs = g.coefs; constant = g.constant -ℤ pos 1 } in r) e
    ∙ ap (λ (z : ℤ). let r : Affine = record { coefs = map neg_ℤ row.coefs; constant = z } in r) (turned row.constant)

-- ---- Answers

pub apart : (columns : ℕ) (rows : List Affine) (made : List Pair) (projected : List Affine) → AreProjected columns rows 0 made projected → All (Meets []) projected → RationalPoint columns rows
apart columns rows made projected h met = ((h.same_points [] refl).0 met).point

pub implied : (columns : ℕ) (others : List Affine) (row : Affine) (made : List Pair) (projected : List Affine) → AreProjected columns (others ++ below_zero row ∷ []) 0 made projected → (All (Meets []) projected → ⊥)
    → (whole : List ℤ) → length whole ≡ columns → All (Meets whole) others → Meets whole row
implied columns others row made projected h none whole l met = elim (either (value row whole)) [
  | inl holds ↦ holds
  | inr below ↦ absurd (none ((h.same_points [] refl).1 (record {
    point = record {
      x = whole;
      d = pos 1;
      width = l;
      divisor = omega (arith, ints);
      meets = All-append (λ r. pos 0 ≤ℤ scaled_value r whole (pos 1)) others (below_zero row ∷ [])
          (All-weaker (Meets whole) (λ r. pos 0 ≤ℤ scaled_value r whole (pos 1)) (λ r m. subst (λ z. pos 0 ≤ℤ z) (sym (whole_value r whole)) m) others met)
          (All-cons (λ r. pos 0 ≤ℤ scaled_value r whole (pos 1)) (below_zero row) []
          (subst (λ z. pos 0 ≤ℤ z) (sym (whole_value (below_zero row) whole ∙ below_value row whole)) below) (All-nil (λ r. pos 0 ≤ℤ scaled_value r whole (pos 1))));
    };
    begins = λ j lt. absurd (omega arith);
  })))
]

-- ---- Sizes

pub negated_fits : (cs : List ℤ) → All (λ c. unsigned_abs c ≤ 2 ^ 40) cs → All (λ c. unsigned_abs c ≤ 2 ^ 40) (map neg_ℤ cs)
negated_fits [] h = All-nil (λ c. unsigned_abs c ≤ 2 ^ 40)
negated_fits (c ∷ cs) h =
    All-cons (λ z. unsigned_abs z ≤ 2 ^ 40) (neg_ℤ c) (map neg_ℤ cs) (subst (λ n. n ≤ 2 ^ 40) (sym (neg_size c)) (All-head (λ z. unsigned_abs z ≤ 2 ^ 40) c cs h)) (negated_fits cs (All-tail (λ z. unsigned_abs z ≤ 2 ^ 40) c cs h))

less_one : (z : ℤ) → unsigned_abs z ≤ 2 ^ 59 → unsigned_abs (negsuc 0 -ℤ z) ≤ 2 ^ 60
less_one (pos n) h = grind (arith, ints)
less_one (negsuc n) h = grind (arith, ints)

-- the opposite of such a row is made, and 1 is taken from it
pub printable_opposite : (columns : ℕ) (row : Affine) → IsPrintable columns row → HasOpposite row
printable_opposite columns row p = within_opposite (2 ^ 40) (2 ^ 59) row (omega arith) (omega arith) p.coefs_fit p.constant_fits

pub opposite_small : (columns : ℕ) (row o : Affine) → IsPrintable columns row → o ≡ opposite row → unsigned_abs o.constant ≤ 2 ^ 126
opposite_small columns row o p e = more (unsigned_abs o.constant) (unsigned_abs row.constant) (ap (λ (f : Affine). unsigned_abs f.constant) e ∙ neg_size row.constant) p.constant_fits
  where
    more : (n m : ℕ) → n ≡ m → m ≤ 2 ^ 59 → n ≤ 2 ^ 126
    more n m g h = omega (arith, g, h)

pub below_row : (columns : ℕ) (row made : Affine) → IsPrintable columns row → made ≡ below_zero row → IsRow columns made
below_row columns row made p e = subst (IsRow columns) (sym e) (record {
  width = length-map row.coefs neg_ℤ ∙ p.width;
  fits = record { coefs_fit = negated_fits row.coefs p.coefs_fit; constant_fits = less_one row.constant p.constant_fits };
})

-- ---- What the code is told

pub projected_of : (columns : ℕ) (others : List Affine) (row : Affine) (asked : Rows) (p q : Projected) → asked ≡ question columns others row → p ≡ q → IsProjection asked.columns asked.rows 0 p → IsProjection columns (others ++ below_zero row ∷ []) 0 q
projected_of columns others row asked p q e f h = subst (λ (s : Rows). IsProjection s.columns s.rows 0 q) e (subst (λ r. IsProjection asked.columns asked.rows 0 r) f h)

pub implied_all : (columns : ℕ) (rows others : List Affine) (place : ℕ) (row : Affine) → place < length rows → others ≡ remove rows place → row ≡ get_or rows place row → IsAnswer columns others row Implied
    → (whole : List ℤ) → length whole ≡ columns → All (Meets whole) (remove rows place) → All (Meets whole) rows
implied_all columns rows others place row lt e f h whole l m = again (Meets whole) rows place row lt m (subst (Meets whole) f (h whole l (subst (All (Meets whole)) (sym e) m)))

module _ (system : Rows) (column columns : ℕ) (rows others : List Affine) (place : ℕ) (row : Affine) (asked : Rows) (nine : length rows ≡ 9) (lt : place < length rows) (e : others ≡ remove rows place) (f : row ≡ get_or rows place row)
    (width : columns ≡ suc column) (ends : AreOfOneEnd system column rows) (is : asked ≡ question columns others row) where
  is_question : IsQuestion system column asked
  is_question = record {
    others = others;
    row = row;
    is = is ∙ ap (λ n. question n others row) width;
    eight = ap length e ∙ one_less (length (remove rows place)) (length rows) (length-remove rows place lt) nine;
    of_one_end = of_end_all system column rows (others ++ row ∷ []) ends (one_more (Contains rows) others row
        (subst (All (Contains rows)) (sym e) (removed (Contains rows) rows place row lt (All-contains_itself rows)).0) (place, lt, sym f));
  }
    where
      one_less : (n m : ℕ) → n + 1 ≡ m → m ≡ 9 → n ≡ 8
      one_less n m h g = omega arith

  pub made_question : (made : List Pair) → IsElimination columns (others ++ below_zero row ∷ []) made → length made ≡ 4096 → IsMade system column (Some asked) made
  made_question made h l = (is_question, subst (λ (s : Rows). IsElimination s.columns s.rows made) (sym is) h, l)

  pub wide_question : (made : List Pair) (next : Pair) → IsTooWide columns (others ++ below_zero row ∷ []) made next → IsWide system column (Some asked) made next
  wide_question made next h = (is_question, subst (λ (s : Rows). IsTooWide s.columns s.rows made next) (sym is) h)
