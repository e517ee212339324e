-- Each listed basis is a basis.
use Rattle.std.proofs.Common.{◌≡◌, ℕ, zero, suc, ◌+◌, ◌≤◌, ℤ, pos, negsuc, List, [], ◌∷◌, length, Some, get_or, map, ◌<◌, ◌++◌, refl, sym, ap, subst, ◌∙◌, lit≤, arith}
use Rattle.std.specs.Prelude.{slice_get, unsigned_abs, take}
use Rattle.std.proofs.lemmas.List.{map-append, take_more, take_all}
use Rattle.std.proofs.lemmas.Option.{same_Some, slice_get_within}
use Rattle.std.specs.List.{All}
use Rattle.std.proofs.lemmas.List.Elements.{All-nil, All-cons, All-get_or}
use Rattle.affc_rows.specs.Forms.{Affine, HaveColumns, columns_of, composed_form}
use Rattle.affc_trace.specs.Inverses.{zeros, unit_row, column}
use Rattle.affc_trace.proofs.Recovers.{length-unit_row}
use Rattle.affc_basis.specs.declared.basis.Basis.{Basis}
use Rattle.affc_basis.specs.Bases.{AreWithin, HaveCoefsWithin, IsFirstBroken}
use Rattle.affc_basis.specs.Listed.{Shape, shape_of, shapes_of, linear, square, order, of_two, of_three, listing, IsBasis, ListedAreBases}

-- ---- Forms that are looked at one after another

-- over so many columns, within 256, without a constant
abbrev pub AreSmall : List ℤ → Type 0
AreSmall [] = Unit {0}
AreSmall (c ∷ cs) = (unsigned_abs c ≤ 256) × AreSmall cs

abbrev pub AreLinear : ℕ → List Affine → Type 0
AreLinear n [] = Unit {0}
AreLinear n (f ∷ fs) = (length f.coefs ≡ n) × AreSmall f.coefs × (f.constant ≡ pos 0) × AreLinear n fs

-- the forms, with the rows put in, are the columns from j on
abbrev pub GiveColumns : List Affine → List Affine → ℕ → Type 0
GiveColumns [] rows j = Unit {0}
GiveColumns (g ∷ gs) rows j = (composed_form g rows ≡ column (columns_of rows) j) × GiveColumns gs rows (suc j)

small_within : (cs : List ℤ) → AreSmall cs → AreWithin 256 cs
small_within [] h = All-nil (λ c. unsigned_abs c ≤ 256)
small_within (c ∷ cs) h = All-cons (λ c. unsigned_abs c ≤ 256) c cs h.0 (small_within cs h.1)

have_columns : (n : ℕ) (fs : List Affine) → AreLinear n fs → HaveColumns n fs
have_columns n [] h = All-nil (λ g. length g.coefs ≡ n)
have_columns n (f ∷ fs) h = All-cons (λ g. length g.coefs ≡ n) f fs h.0 (have_columns n fs h.3)

have_coefs : (n : ℕ) (fs : List Affine) → AreLinear n fs → HaveCoefsWithin 256 fs
have_coefs n [] h = All-nil (λ g. AreWithin 256 g.coefs)
have_coefs n (f ∷ fs) h = All-cons (λ g. AreWithin 256 g.coefs) f fs (small_within f.coefs h.1) (have_coefs n fs h.3)

no_constant : (n k : ℕ) (fs : List Affine) (f : Affine) → AreLinear n fs → slice_get fs k ≡ Some f → f.constant ≡ pos 0
no_constant n k [] f h e = absurd (omega (arith, slice_get_within [] k f e))
no_constant n zero (g ∷ gs) f h e = subst (λ v. v.constant ≡ pos 0) (same_Some g f e) h.2
no_constant n (suc k) (g ∷ gs) f h e = no_constant n k gs f h.3 e

gives_column : (k j : ℕ) (gs rows : List Affine) (g : Affine) → GiveColumns gs rows j → slice_get gs k ≡ Some g → composed_form g rows ≡ column (columns_of rows) (j + k)
gives_column k j [] rows g h e = absurd (omega (arith, slice_get_within [] k g e))
gives_column zero j (f ∷ fs) rows g h e =
    let at : j ≡ j + 0 = omega arith in
    subst (λ v. composed_form v rows ≡ column (columns_of rows) (j + 0)) (same_Some f g e) (h.0 ∙ ap (column (columns_of rows)) at)
gives_column (suc k) j (f ∷ fs) rows g h e =
    let at : suc j + k ≡ j + suc k = omega arith in
    gives_column k (suc j) fs rows g h.1 e ∙ ap (column (columns_of rows)) at

made : (n : ℕ) (rows inverse : List Affine) → length rows ≡ n → length inverse ≡ n → n ≤ 4 → AreLinear n rows → AreLinear n inverse → GiveColumns inverse rows 0
    → IsBasis n (record { rows = rows; inverse = inverse })
made n rows inverse e f few h k product = record {
  dimensions_fit = e;
  is_square = record {
    columns = subst (λ m. HaveColumns m rows) (sym e) (have_columns n rows h);
    inverse_columns = subst (λ m. HaveColumns m inverse) (sym e) (have_columns n inverse k);
    one_each = f ∙ sym e;
    few = subst (λ m. m ≤ 4) (sym e) few;
  };
  row_bounds = have_coefs n rows h;
  inverse_bounds = have_coefs n inverse k;
  identity = λ i l. record {
    row = λ r a. no_constant n i rows r h a;
    inverse_row = λ g a. no_constant n i inverse g k a;
    product = λ g a. gives_column i 0 inverse rows g product a;
  };
}

-- ---- The table

square_of : (a b c d : ℤ) (e f g h : ℤ) → AreSmall (a ∷ b ∷ []) → AreSmall (c ∷ d ∷ []) → AreSmall (e ∷ f ∷ []) → AreSmall (g ∷ h ∷ [])
    → GiveColumns (square a b c d e f g h).inverse (square a b c d e f g h).rows 0 → IsBasis 2 (square a b c d e f g h)
square_of a b c d e f g h i j k l product =
    made 2 (square a b c d e f g h).rows (square a b c d e f g h).inverse refl refl (lit≤ tt) (refl, i, refl, (refl, j, refl, tt)) (refl, k, refl, (refl, l, refl, tt)) product

zeros_small : (n : ℕ) → AreSmall (zeros n)
zeros_small zero = tt
zeros_small (suc n) = (lit≤ tt, zeros_small n)

unit_small : (n j : ℕ) → AreSmall (unit_row n j)
unit_small zero j = tt
unit_small (suc n) zero = (lit≤ tt, zeros_small n)
unit_small (suc n) (suc j) = (lit≤ tt, unit_small n j)

columns_linear : (i j k : ℕ) → AreLinear 3 (column 3 i ∷ column 3 j ∷ column 3 k ∷ [])
columns_linear i j k = (length-unit_row 3 i, unit_small 3 i, refl, (length-unit_row 3 j, unit_small 3 j, refl, (length-unit_row 3 k, unit_small 3 k, refl, tt)))

order_of : (i j k : ℕ) (l m n : ℕ) → GiveColumns (order i j k l m n).inverse (order i j k l m n).rows 0 → IsBasis 3 (order i j k l m n)
order_of i j k l m n product = made 3 (order i j k l m n).rows (order i j k l m n).inverse refl refl (lit≤ tt) (columns_linear i j k) (columns_linear l m n) product

abbrev AreBases : ℕ → List Shape → Type 0
AreBases n [] = Unit {0}
AreBases n (s ∷ ss) = IsBasis n s × AreBases n ss

all_bases : (n : ℕ) (ss : List Shape) → AreBases n ss → All (IsBasis n) ss
all_bases n [] h = All-nil (IsBasis n)
all_bases n (s ∷ ss) h = All-cons (IsBasis n) s ss h.0 (all_bases n ss h.1)

two_bases : AreBases 2 of_two
two_bases = (
  square_of (pos 1) (pos 0) (pos 0) (pos 1) (pos 1) (pos 0) (pos 0) (pos 1) (lit≤ tt, (lit≤ tt, tt)) (lit≤ tt, (lit≤ tt, tt)) (lit≤ tt, (lit≤ tt, tt)) (lit≤ tt, (lit≤ tt, tt)) (refl, (refl, tt)),
  (
    square_of (pos 0) (pos 1) (pos 1) (pos 0) (pos 0) (pos 1) (pos 1) (pos 0) (lit≤ tt, (lit≤ tt, tt)) (lit≤ tt, (lit≤ tt, tt)) (lit≤ tt, (lit≤ tt, tt)) (lit≤ tt, (lit≤ tt, tt)) (refl, (refl, tt)),
    (
      square_of (pos 1) (pos 1) (pos 0) (pos 1) (pos 1) (negsuc 0) (pos 0) (pos 1) (lit≤ tt, (lit≤ tt, tt)) (lit≤ tt, (lit≤ tt, tt)) (lit≤ tt, (lit≤ tt, tt)) (lit≤ tt, (lit≤ tt, tt)) (refl, (refl, tt)),
      (
        square_of (pos 1) (negsuc 0) (pos 0) (pos 1) (pos 1) (pos 1) (pos 0) (pos 1) (lit≤ tt, (lit≤ tt, tt)) (lit≤ tt, (lit≤ tt, tt)) (lit≤ tt, (lit≤ tt, tt)) (lit≤ tt, (lit≤ tt, tt)) (refl, (refl, tt)),
        (
          square_of (pos 1) (pos 2) (pos 0) (pos 1) (pos 1) (negsuc 1) (pos 0) (pos 1) (lit≤ tt, (lit≤ tt, tt)) (lit≤ tt, (lit≤ tt, tt)) (lit≤ tt, (lit≤ tt, tt)) (lit≤ tt, (lit≤ tt, tt)) (refl, (refl, tt)),
          (
            square_of (pos 1) (negsuc 1) (pos 0) (pos 1) (pos 1) (pos 2) (pos 0) (pos 1) (lit≤ tt, (lit≤ tt, tt)) (lit≤ tt, (lit≤ tt, tt)) (lit≤ tt, (lit≤ tt, tt)) (lit≤ tt, (lit≤ tt, tt)) (refl, (refl, tt)),
            (
              square_of (pos 2) (pos 1) (pos 1) (pos 0) (pos 0) (pos 1) (pos 1) (negsuc 1) (lit≤ tt, (lit≤ tt, tt)) (lit≤ tt, (lit≤ tt, tt)) (lit≤ tt, (lit≤ tt, tt)) (lit≤ tt, (lit≤ tt, tt)) (refl, (refl, tt)),
              (
                square_of (pos 2) (negsuc 0) (pos 1) (pos 0) (pos 0) (pos 1) (negsuc 0) (pos 2) (lit≤ tt, (lit≤ tt, tt)) (lit≤ tt, (lit≤ tt, tt)) (lit≤ tt, (lit≤ tt, tt)) (lit≤ tt, (lit≤ tt, tt)) (refl, (refl, tt)),
                tt,
              ),
            ),
          ),
        ),
      ),
    ),
  ),
)

three_bases : AreBases 3 of_three
three_bases = (
  order_of 0 1 2 0 1 2 (refl, (refl, (refl, tt))),
  (
    order_of 0 2 1 0 2 1 (refl, (refl, (refl, tt))),
    (
      order_of 1 0 2 1 0 2 (refl, (refl, (refl, tt))),
      (
        order_of 1 2 0 2 0 1 (refl, (refl, (refl, tt))),
        (
          order_of 2 0 1 1 2 0 (refl, (refl, (refl, tt))),
          (
            order_of 2 1 0 2 1 0 (refl, (refl, (refl, tt))),
            tt,
          ),
        ),
      ),
    ),
  ),
)

four_columns : AreLinear 4 (column 4 0 ∷ column 4 1 ∷ column 4 2 ∷ column 4 3 ∷ [])
four_columns = (refl, unit_small 4 0, refl, (refl, unit_small 4 1, refl, (refl, unit_small 4 2, refl, (refl, unit_small 4 3, refl, tt))))

pub listed_bases : ListedAreBases
listed_bases zero = all_bases 0 (listing 0) (made 0 [] [] refl refl (lit≤ tt) tt tt tt, tt)
listed_bases (suc zero) = all_bases 1 (listing 1) (made 1 (column 1 0 ∷ []) (column 1 0 ∷ []) refl refl (lit≤ tt) (refl, unit_small 1 0, refl, tt) (refl, unit_small 1 0, refl, tt) (refl, tt), tt)
listed_bases (suc (suc zero)) = all_bases 2 of_two two_bases
listed_bases (suc (suc (suc zero))) = all_bases 3 of_three three_bases
listed_bases (suc (suc (suc (suc zero)))) =
    all_bases 4 (listing 4)
    (made 4 (column 4 0 ∷ column 4 1 ∷ column 4 2 ∷ column 4 3 ∷ []) (column 4 0 ∷ column 4 1 ∷ column 4 2 ∷ column 4 3 ∷ []) refl refl (lit≤ tt) four_columns four_columns (refl, (refl, (refl, (refl, tt)))), tt)
listed_bases (suc (suc (suc (suc (suc n))))) = All-nil (IsBasis (suc (suc (suc (suc (suc n))))))

-- ---- How the list is made

abbrev shape_of_lists : List (List ℤ) → List (List ℤ) → Shape
shape_of_lists rows inverse = record { rows = map linear rows; inverse = map linear inverse }

pub not_broken : (n : ℕ) (rs is : List (List ℤ)) (rows inverse : List Affine) (k : ℕ) → IsBasis n (shape_of_lists rs is) → rows ≡ map linear rs → inverse ≡ map linear is → IsFirstBroken rows inverse k → ⊥
not_broken n rs is rows inverse k h e f b =
    let there : IsFirstBroken (map linear rs) (map linear is) k = subst (λ v. IsFirstBroken (map linear rs) v k) f (subst (λ v. IsFirstBroken v inverse k) e b) in
    there.broken (h.identity k there.within)

length-shapes_of : (rs is : List (List (List ℤ))) → length is ≡ length rs → length (shapes_of rs is) ≡ length rs
length-shapes_of [] is e = refl
length-shapes_of (r ∷ rs) [] e = absurd (omega arith)
length-shapes_of (r ∷ rs) (i ∷ is) e = ap suc (length-shapes_of rs is (omega arith))

shapes-at : (rs is : List (List (List ℤ))) (k : ℕ) (r i : List (List ℤ)) (s : Shape) → k < length rs → length is ≡ length rs → get_or (shapes_of rs is) k s ≡ shape_of_lists (get_or rs k r) (get_or is k i)
shapes-at [] is k r i s h e = absurd (omega arith)
shapes-at (a ∷ rs) [] k r i s h e = absurd (omega arith)
shapes-at (a ∷ rs) (b ∷ is) zero r i s h e = refl
shapes-at (a ∷ rs) (b ∷ is) (suc k) r i s h e = shapes-at rs is k r i s (omega arith) (omega arith)

-- the shape at one place is a basis
pub shape_at : (n : ℕ) (rs is : List (List (List ℤ))) (k : ℕ) (r i : List (List ℤ)) → k < length rs → length is ≡ length rs → All (IsBasis n) (shapes_of rs is)
    → r ≡ get_or rs k r → i ≡ get_or is k i → IsBasis n (shape_of_lists r i)
shape_at n rs is k r i h e all at_r at_i =
    let within : k < length (shapes_of rs is) = subst (λ m. k < m) (sym (length-shapes_of rs is e)) h in
    let there = shapes-at rs is k r i (shape_of_lists r i) h e in
    subst (λ v. IsBasis n (shape_of_lists v i)) (sym at_r) (subst (λ v. IsBasis n (shape_of_lists (get_or rs k r) v)) (sym at_i)
    (subst (IsBasis n) there (All-get_or (IsBasis n) (shapes_of rs is) k (shape_of_lists r i) within all)))

-- one basis more
pub one_shape_more : (rs is : List (List (List ℤ))) (k : ℕ) (r i : List (List ℤ)) (b : Basis) (bs : List Basis) → k < length rs → length is ≡ length rs
    → r ≡ get_or rs k r → i ≡ get_or is k i → shape_of b ≡ shape_of_lists r i → map shape_of bs ≡ take k (shapes_of rs is) → map shape_of (bs ++ b ∷ []) ≡ take (k + 1) (shapes_of rs is)
one_shape_more rs is k r i b bs h e at_r at_i made before =
    let within : k < length (shapes_of rs is) = subst (λ m. k < m) (sym (length-shapes_of rs is e)) h in
    let there : get_or (shapes_of rs is) k (shape_of b) ≡ shape_of b =
    shapes-at rs is k r i (shape_of b) h e ∙ ap (λ v. shape_of_lists v (get_or is k i)) (sym at_r) ∙ ap (shape_of_lists r) (sym at_i) ∙ sym made in
    map-append shape_of bs (b ∷ []) ∙ ap (λ l. l ++ shape_of b ∷ []) before ∙ ap (λ v. take k (shapes_of rs is) ++ v ∷ []) (sym there) ∙ sym (take_more (shapes_of rs is) k (shape_of b) within)

-- all of them
pub all_shapes : (rs is : List (List (List ℤ))) (k : ℕ) → length rs ≤ k → length is ≡ length rs → take k (shapes_of rs is) ≡ shapes_of rs is
all_shapes rs is k h e = take_all k (shapes_of rs is) (subst (λ m. m ≤ k) (sym (length-shapes_of rs is e)) h)
