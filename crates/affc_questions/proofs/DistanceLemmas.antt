-- Distances along a row, as the code makes them.
use Rattle.std.proofs.Common.{◌≡◌, ℕ, suc, ◌+◌, ◌*◌, ◌^◌, ◌≤◌, ℤ, pos, negsuc, ◌+ℤ◌, List, [], ◌∷◌, ◌++◌, length, take, refl, sym, ap, subst, ◌∙◌, inl, inr, arith}
use Rattle.std.specs.Prelude.{unsigned_abs}
use Rattle.std.specs.List.{All}
use Rattle.std.proofs.lemmas.List.Elements.{All-nil, All-cons, All-head, All-tail, All-append, All-take, All-weaker}
use Rattle.affc_rows.specs.Forms.{Affine, dot, constants_of, composed, mixed_form}
use Rattle.affc_rows.specs.Sizes.{IsWithin}
use Rattle.affc_rows.proofs.IntLemmas.{abs-add}
use Rattle.affc_rows.proofs.SizeLemmas.{IsBelow, composed_below, constant_below}
use Rattle.affc_rows.proofs.ValueLemmas.{length-composed}
use Rattle.affc_system.proofs.SystemLemmas.{rows_of}
use Rattle.affc_system.specs.Pairs.{IsSubscript}
use Rattle.affc_system.specs.Systems.{Rows, IsRow}
use Rattle.affc_system.specs.declared.pairs.PairSystem.{PairSystem}
use Rattle.affc_ast.specs.declared.tree.Rel.TheVariants.{Equal}
use Rattle.affc_trace.specs.Law.{IsIn}
use Rattle.affc_basis.specs.Bases.{AreWithin}
use Rattle.affc_basis.specs.Moduli.{IsModulus}
use Rattle.affc_nest.specs.Domains.{gap_row, compare_rows, number_form, box_rows}
use Rattle.affc_nest.specs.Asked.{IsNest}
use Rattle.affc_nest.specs.declared.nest.Nest.{Nest}
use Rattle.affc_nest.proofs.QuestionProofs.{nest_near}
use Rattle.affc_order.specs.Placed.{AreImages}
use Rattle.affc_order.specs.Posed.{form_at}
use Rattle.affc_conflicts.specs.Questions.{differences, distance, agree_rows, over_columns}
use Rattle.affc_conflicts.proofs.Distances.{length-differences}
use Rattle.affc_questions.specs.Asked.{AreElements, IsAlong, IsModulusOver}
use Rattle.affc_nest.specs.Wide.{IsWide}
use Rattle.affc_questions.specs.Sizes.{IsMild}
use Rattle.affc_questions.specs.Tails.{shown_tail}
use Rattle.affc_questions.proofs.SizeLemmas.{subscripts_within, number_mild, gap_row_fits, less_one_mild, mild_wide, mild_row, modulus_mild, box_fit}

abbrev pub plain : Affine → Affine
plain row = record row { constant = pos 0 }

-- ---- Differences of subscripts

pub differences_within : (n : ℕ) (xs ys : List Affine) → All (IsSubscript n) xs → All (IsSubscript n) ys → All (IsWithin n (2 ^ 25) (2 ^ 25)) (differences xs ys)
differences_within n [] ys h g = All-nil (IsWithin n (2 ^ 25) (2 ^ 25))
differences_within n (x ∷ xs) [] h g = All-nil (IsWithin n (2 ^ 25) (2 ^ 25))
differences_within n (x ∷ xs) (y ∷ ys) h g =
    All-cons (IsWithin n (2 ^ 25) (2 ^ 25)) (mixed_form (pos 1) x (negsuc 0) y) (differences xs ys) (subscripts_within n x y (All-head (IsSubscript n) x xs h) (All-head (IsSubscript n) y ys g))
    (differences_within n xs ys (All-tail (IsSubscript n) x xs h) (All-tail (IsSubscript n) y ys g))

-- ---- Distances

module _ (columns : ℕ) (row : Affine) (xs ys : List Affine) (a : AreElements columns row xs ys) where
  pub its_images : AreImages columns (differences xs ys)
  its_images = record { few = less (length (differences xs ys)) (length xs) (length-differences xs ys a.each) a.few; rows = rows_of columns (2 ^ 25) (2 ^ 25) (differences xs ys) (omega arith) (omega arith) (differences_within columns xs ys a.first a.second) }
    where
      less : (d n : ℕ) → d ≡ n → n ≤ 4 → d ≤ 10
      less d n e h = omega (arith, e, h)

  pub its_row : IsRow (length (differences xs ys)) (plain row)
  its_row = record {
    width = a.width ∙ sym (length-differences xs ys a.each);
    fits = record { coefs_fit = All-weaker (λ c. unsigned_abs c ≤ 256) (λ c. unsigned_abs c ≤ 2 ^ 40) (λ c h. more (unsigned_abs c) h) row.coefs a.small; constant_fits = omega arith };
  }
    where
      more : (n : ℕ) → n ≤ 256 → n ≤ 2 ^ 40
      more n h = omega (arith, h)

  pub distance_is : form_at columns (differences xs ys) (plain row) ≡ distance row xs ys
  distance_is = over xs ys a.some a.each a.first a.second
    where
      over : (xs ys : List Affine) → 1 ≤ length xs → length ys ≡ length xs → All (IsSubscript columns) xs → All (IsSubscript columns) ys → form_at columns (differences xs ys) (plain row) ≡ distance row xs ys
      over [] ys s e h g = absurd (omega (arith, s))
      over (x ∷ xs) [] s e h g = absurd (omega (arith, e))
      over (x ∷ xs) (y ∷ ys) s e h g =
          ap (λ n. form_at n (differences (x ∷ xs) (y ∷ ys)) (plain row)) (sym (subscripts_within columns x y (All-head (IsSubscript columns) x xs h) (All-head (IsSubscript columns) y ys g)).width)

  below : All (IsBelow (2 ^ 25)) (differences xs ys)
  below =
      All-weaker (IsWithin columns (2 ^ 25) (2 ^ 25)) (IsBelow (2 ^ 25)) (λ f w. record { coefs_fit = w.coefs_fit; constant_fits = w.constant_fits }) (differences xs ys)
      (differences_within columns xs ys a.first a.second)

  pub distance_mild : IsMild columns (distance row xs ys)
  distance_mild = subst (IsMild columns) distance_is (record {
    width = length-composed row.coefs (differences xs ys) 0 columns;
    coefs_fit = All-weaker (λ c. unsigned_abs c ≤ length row.coefs * (256 * 2 ^ 25)) (λ c. unsigned_abs c ≤ 2 ^ 38) (λ c h. coef (unsigned_abs c) (length row.coefs) (length xs) a.width a.few h) (composed row.coefs (differences xs ys) 0 columns)
        (composed_below 256 (2 ^ 25) row.coefs (differences xs ys) a.small below 0 columns);
    constant_fits = constant (unsigned_abs (dot row.coefs (constants_of (differences xs ys)) +ℤ pos 0)) (unsigned_abs (dot row.coefs (constants_of (differences xs ys)))) (length row.coefs) (length xs) (abs-add (dot row.coefs (constants_of (differences xs ys))) (pos 0))
        (constant_below 256 (2 ^ 25) row.coefs (differences xs ys) a.small below) a.width a.few;
  })
    where
      coef : (c m n : ℕ) → m ≡ n → n ≤ 4 → c ≤ m * (256 * 2 ^ 25) → c ≤ 2 ^ 38
      coef c m n e h g = omega (arith, e, h, g)

      constant : (z d m n : ℕ) → z ≤ d + 0 → d ≤ m * (256 * 2 ^ 25) → m ≡ n → n ≤ 4 → z ≤ 2 ^ 58
      constant z d m n i g e h = omega (arith, i, g, e, h)

  pub distance_wide : IsWide columns (distance row xs ys)
  distance_wide = mild_wide columns (distance row xs ys) distance_mild

  -- as the code makes it
  pub images_made : (now made none : List Affine) → now ≡ made → made ≡ none ++ differences xs ys → none ≡ [] → now ≡ differences xs ys
  images_made now made none e f g = e ∙ (f ∙ ap (λ zs. zs ++ differences xs ys) g)

  pub images_fit : (images : List Affine) → images ≡ differences xs ys → AreImages columns images
  images_fit images e = subst (AreImages columns) (sym e) its_images

  pub row_fits : (images : List Affine) (f : Affine) → images ≡ differences xs ys → f ≡ plain row → IsRow (length images) f
  row_fits images f e g = subst (λ (zs : List Affine). IsRow (length zs) f) (sym e) (subst (IsRow (length (differences xs ys))) (sym g) its_row)

  pub distance_made : (images : List Affine) (f made : Affine) → images ≡ differences xs ys → f ≡ plain row → made ≡ form_at columns images f → made ≡ distance row xs ys
  distance_made images f made e g h = h ∙ (ap (λ zs. form_at columns zs f) e ∙ (ap (form_at columns (differences xs ys)) g ∙ distance_is))

  pub distance_row : IsRow columns (distance row xs ys)
  distance_row = mild_row columns (distance row xs ys) distance_mild

-- ---- Along the rows of a basis

in_all : {A : Type 0} (P : A → Type 0) (x : A) (xs : List A) → IsIn x xs → All P xs → P x
in_all P x [] i h = absurd i
in_all P x (y ∷ ys) (inl e) h = subst P (sym e) (All-head P y ys h)
in_all P x (y ∷ ys) (inr i) h = in_all P x ys i (All-tail P y ys h)

module _ (rows : List Affine) (row modulus : Affine) (s : PairSystem) (along : IsAlong rows row modulus s) where
  some_rows : 1 ≤ length rows
  some_rows = there rows along.there
    where
      there : (rs : List Affine) → IsIn row rs → 1 ≤ length rs
      there [] i = absurd i
      there (r ∷ rs) i = omega arith

  elements_of : (r : Affine) → length r.coefs ≡ length rows → AreWithin 256 r.coefs → AreElements s.system.columns r s.x.items s.y.items
  elements_of r w b = record {
    some = subst (λ n. 1 ≤ n) (sym along.first) some_rows;
    few = subst (λ n. n ≤ 4) (sym along.first) along.basis.few;
    each = along.second ∙ sym along.first;
    width = w ∙ sym along.first;
    small = b;
    first = s.x_fits;
    second = s.y_fits;
  }

  pub row_elements : AreElements s.system.columns row s.x.items s.y.items
  row_elements = elements_of row (in_all (λ r. length r.coefs ≡ length rows) row rows along.there along.basis.square) (in_all (λ r. AreWithin 256 r.coefs) row rows along.there along.basis.small)

  pub turned_elements : AreElements s.system.columns row s.y.items s.x.items
  turned_elements = record {
    some = subst (λ n. 1 ≤ n) (sym along.second) some_rows;
    few = subst (λ n. n ≤ 4) (sym along.second) along.basis.few;
    each = along.first ∙ sym along.second;
    width = row_elements.width ∙ (along.first ∙ sym along.second);
    small = row_elements.small;
    first = s.y_fits;
    second = s.x_fits;
  }

  pub straight_at : (xs ys : List Affine) → xs ≡ s.x.items → ys ≡ s.y.items → AreElements s.system.columns row xs ys
  straight_at xs ys e f = subst (λ zs. AreElements s.system.columns row zs ys) (sym e) (subst (AreElements s.system.columns row s.x.items) (sym f) row_elements)

  pub turned_at : (xs ys : List Affine) → xs ≡ s.x.items → ys ≡ s.y.items → AreElements s.system.columns row ys xs
  turned_at xs ys e f = subst (AreElements s.system.columns row ys) (sym e) (subst (λ zs. AreElements s.system.columns row zs s.x.items) (sym f) turned_elements)

  pub all_elements : All (λ r. AreElements s.system.columns r s.x.items s.y.items) rows
  all_elements = over rows along.basis.square along.basis.small
    where
      over : (rs : List Affine) → All (λ r. length r.coefs ≡ length rows) rs → All (λ r. AreWithin 256 r.coefs) rs → All (λ r. AreElements s.system.columns r s.x.items s.y.items) rs
      over [] h g = All-nil (λ r. AreElements s.system.columns r s.x.items s.y.items)
      over (r ∷ rs) h g =
          All-cons (λ r. AreElements s.system.columns r s.x.items s.y.items) r rs (elements_of r (All-head (λ r. length r.coefs ≡ length rows) r rs h) (All-head (λ r. AreWithin 256 r.coefs) r rs g))
          (over rs (All-tail (λ r. length r.coefs ≡ length rows) r rs h) (All-tail (λ r. AreWithin 256 r.coefs) r rs g))

-- ---- What is shown keeps the limits of rows

pub equal_fit : (n : ℕ) (a b : Affine) → IsMild n a → IsMild n b → All (IsRow n) (compare_rows Equal a b)
equal_fit n a b s t = All-cons (IsRow n) (gap_row b a 0) (gap_row a b 0 ∷ []) (gap_row_fits n b a 0 t s (omega arith)) (All-cons (IsRow n) (gap_row a b 0) [] (gap_row_fits n a b 0 s t (omega arith)) (All-nil (IsRow n)))

agree_fit : (s : PairSystem) (rows : List Affine) → All (λ r. AreElements s.system.columns r s.x.items s.y.items) rows → All (IsRow s.system.columns) (agree_rows s rows)
agree_fit s [] h = All-nil (IsRow s.system.columns)
agree_fit s (r ∷ rs) h =
    All-append (IsRow s.system.columns) (compare_rows Equal (distance r s.x.items s.y.items) (number_form s.system.columns (pos 0))) (agree_rows s rs)
    (equal_fit s.system.columns (distance r s.x.items s.y.items) (number_form s.system.columns (pos 0)) (distance_mild s.system.columns r s.x.items s.y.items (All-head (λ r. AreElements s.system.columns r s.x.items s.y.items) r rs h)) (number_mild s.system.columns (pos 0) (omega arith)))
    (agree_fit s rs (All-tail (λ r. AreElements s.system.columns r s.x.items s.y.items) r rs h))

-- over so many columns
pub fit_at : (n k : ℕ) (rows : List Affine) (s : Rows) → k ≡ n → s ≡ record { columns = k; rows = rows } → All (IsRow n) rows → All (IsRow s.columns) s.rows
fit_at n k rows s q e fit = subst (λ (t : Rows). All (IsRow t.columns) t.rows) (sym e) (subst (λ j. All (IsRow j) rows) (sym q) fit)

-- what is shown of a mark
pub shown_tail_fits : (rows : List Affine) (k : ℕ) (row modulus : Affine) (s : PairSystem) (xs ys : List Affine) → All (λ r. AreElements s.system.columns r s.x.items s.y.items) rows
    → AreElements s.system.columns row xs ys → IsModulusOver s.system.columns modulus → All (IsRow s.system.columns) (shown_tail rows k row modulus s xs ys)
shown_tail_fits rows k row modulus s xs ys all e m =
    let n = s.system.columns in
    let apart = distance row xs ys in
    let one = number_form n (pos 1) in
    let less = mixed_form (pos 1) (over_columns n modulus) (negsuc 0) one in
    let apart_mild : IsMild n apart = distance_mild n row xs ys e in
    let one_mild : IsMild n one = number_mild n (pos 1) (omega arith) in
    All-append (IsRow n) (agree_rows s (take k rows)) (compare_rows Equal apart less ++ gap_row one apart 0 ∷ []) (agree_fit s (take k rows) (All-take (λ r. AreElements n r s.x.items s.y.items) k rows all))
    (All-append (IsRow n) (compare_rows Equal apart less) (gap_row one apart 0 ∷ []) (equal_fit n apart less apart_mild (less_one_mild n modulus m))
    (All-cons (IsRow n) (gap_row one apart 0) [] (gap_row_fits n one apart 0 one_mild apart_mild (omega arith)) (All-nil (IsRow n))))

-- where a modulus is 1
pub one_rows_fit : (n k : ℕ) (b one : Affine) (none out : List Affine) (s : Rows) → IsModulus n b → k ≡ n → one ≡ number_form k (pos 1) → none ≡ [] → out ≡ none ++ compare_rows Equal b one → s ≡ record { columns = k; rows = out } → All (IsRow s.columns) s.rows
one_rows_fit n k b one none out s m q o e f h =
    let one_mild : IsMild n one = subst (IsMild n) (sym (o ∙ ap (λ j. number_form j (pos 1)) q)) (number_mild n (pos 1) (omega arith)) in
    fit_at n k out s q h (subst (All (IsRow n)) (sym (f ∙ ap (λ zs. zs ++ compare_rows Equal b one) e)) (equal_fit n b one (modulus_mild n b m) one_mild))

-- the context
pub context_fit : (nest : Nest) → IsNest nest → (columns : ℕ) (ranges : List (ℤ × ℤ)) (none box own out : List Affine) → columns ≡ nest.context.columns → ranges ≡ nest.params → none ≡ [] → box ≡ none ++ box_rows columns 0 ranges → out ≡ box ++ own
    → All (IsRow nest.context.columns) own → All (IsRow nest.context.columns) out
context_fit nest n columns ranges none box own out c r e b f fit =
    let n' = nest.context.columns in
    let is : box ≡ box_rows n' 0 nest.params = b ∙ (ap (λ zs. zs ++ box_rows columns 0 ranges) e ∙ (ap (λ k. box_rows k 0 ranges) c ∙ ap (box_rows n' 0) r)) in
    subst (All (IsRow n')) (sym (f ∙ ap (λ zs. zs ++ own) is)) (All-append (IsRow n') (box_rows n' 0 nest.params) own (box_fit n' 0 nest.params (nest_near nest n)) fit)
