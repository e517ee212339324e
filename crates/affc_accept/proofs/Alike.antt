-- Certificates that say the same are accepted alike.
use Rattle.std.proofs.Common.{◌≡◌, ℕ, suc, ℤ, pos, ◌-ℤ◌, List, [], ◌∷◌, ◌++◌, length, map, Option, Some, None, refl, sym, ap, ap₂, subst, ◌∙◌, inl, inr, arith}
use Rattle.std.specs.Prelude.{slice_get, neg_ℤ, flat_map}
use Rattle.std.proofs.lemmas.Int.{ints}
use Rattle.std.proofs.lemmas.Option.{slice_get_within}
use Rattle.affc_rows.specs.Forms.{Affine}
use Rattle.affc_system.specs.Systems.{Rows, IsRow}
use Rattle.affc_farkas.specs.declared.proof.Proof.{Proof, Leaf, Cut', Split'}
use Rattle.affc_farkas.specs.Depths.{StandAtNode}
use Rattle.affc_farkas.specs.Proofs.{IsLeaf, IsCut, low_row, high_row, IsValid}
use Rattle.affc_ast.specs.declared.tree.ArrayId.{ArrayId}
use Rattle.affc_trace.specs.declared.schedule.Schedule.{Schedule}
use Rattle.affc_trace.specs.Law.{IsIn}
use Rattle.affc_basis.specs.declared.basis.Basis.{Basis}
use Rattle.affc_basis.specs.Listed.{Shape, shape_of}
use Rattle.affc_nest.specs.declared.nest.Nest.{Nest}
use Rattle.affc_quast.specs.Trees.{Tree}
use Rattle.affc_certvalue.specs.proof.Proofs.{steps_of}
use Rattle.affc_certvalue.specs.fold.Entries.{FoldEntry, coefs_of, entry_of}
use Rattle.affc_certvalue.specs.declared.fold.fold.CertFold.{CertFold}
use Rattle.affc_certvalue.specs.declared.fold.fold.CertModulus.{CertModulus}
use Rattle.affc_check.specs.list.Certs.{modulus_said, IsFoldSaid, AreFoldsSaid}
use Rattle.affc_check.specs.list.Items.{Item, Question, Shown, FoldShown, fold_items}
use Rattle.affc_check.specs.Valid.{IsProved, AreValid}
use Rattle.affc_check.proofs.list.FoldLemmas.{same_fold}
use Rattle.affc_life.specs.Folding.{given_for}
use Rattle.affc_life.specs.Clashes.{clash_of, clashes}
use Rattle.affc_accept.specs.Bases.{identity, IsWhole, HasBasis, KeepsBasis}

-- ---- Forms without constants

forms_same : (fs gs : List Affine) → ((k : ℕ) (f : Affine) → slice_get fs k ≡ Some f → f.constant ≡ pos 0) → ((k : ℕ) (g : Affine) → slice_get gs k ≡ Some g → g.constant ≡ pos 0) → coefs_of fs ≡ coefs_of gs → fs ≡ gs
forms_same [] [] h k e = refl
forms_same [] (g ∷ gs) h k e = absurd (cc)
forms_same (f ∷ fs) [] h k e = absurd (cc)
forms_same (f ∷ fs) (g ∷ gs) h k e =
    let coefs : f.coefs ≡ g.coefs = cc in
    let more : coefs_of fs ≡ coefs_of gs = cc in
    ap₂ (λ x xs. x ∷ xs) (ap₂ (λ cs z. record { coefs = cs; constant = z }) coefs (h 0 f refl ∙ sym (k 0 g refl))) (forms_same fs gs (λ j x at. h (suc j) x at) (λ j x at. k (suc j) x at) more)

-- ---- Folds

module _ (f g : CertFold) (same : entry_of f ≡ entry_of g) where
  pub same_array : f.array.0 ≡ g.array.0
  same_array = ap (λ (e : FoldEntry). e.array) same

  pub same_moduli : f.moduli ≡ g.moduli
  same_moduli = ap (λ (e : FoldEntry). e.moduli) same

  no_row : (c : CertFold) (k : ℕ) (r : Affine) → slice_get c.basis.rows k ≡ Some r → r.constant ≡ pos 0
  no_row c k r e = (c.basis.identity k (slice_get_within c.basis.rows k r e)).row r e

  no_inverse : (c : CertFold) (k : ℕ) (r : Affine) → slice_get c.basis.inverse k ≡ Some r → r.constant ≡ pos 0
  no_inverse c k r e = let there = slice_get_within c.basis.inverse k r e in (c.basis.identity k (omega (arith, there, c.basis.square.one_each))).inverse_row r e

  pub same_rows : f.basis.rows ≡ g.basis.rows
  same_rows = forms_same f.basis.rows g.basis.rows (no_row f) (no_row g) (ap (λ (e : FoldEntry). e.rows) same)

  same_inverse : f.basis.inverse ≡ g.basis.inverse
  same_inverse = forms_same f.basis.inverse g.basis.inverse (no_inverse f) (no_inverse g) (ap (λ (e : FoldEntry). e.inverse) same)

  pub same_shape : shape_of f.basis ≡ shape_of g.basis
  same_shape = ap₂ (λ rows inverse. record { rows = rows; inverse = inverse }) same_rows same_inverse

  -- what the first keeps, the second does
  whole_alike : (nest : Nest) → IsWhole nest f → IsWhole nest g
  whole_alike nest w = record {
    info = w.info;
    declared = subst (λ n. slice_get nest.arrays n ≡ Some w.info) same_array w.declared;
    unit = sym same_shape ∙ w.unit ∙ ap (λ (rows : List Affine). identity (length rows)) same_rows;
    moduli = subst (λ ms. map (λ (m : CertModulus). m.form) ms ≡ w.info.extents) same_moduli w.moduli;
  }

  has_alike : (nest : Nest) (given : Option Shape) → HasBasis given nest f → HasBasis given nest g
  has_alike nest None h = tt
  has_alike nest (Some shape) (inl e) = inl (sym same_shape ∙ e)
  has_alike nest (Some shape) (inr w) = inr (whole_alike nest w)

  pub keeps_alike : (nest : Nest) (bases : List (ArrayId × Basis)) → KeepsBasis nest bases f → KeepsBasis nest bases g
  keeps_alike nest bases h =
      subst (λ n. HasBasis (given_for bases n (length g.basis.rows)) nest g) same_array
      (subst (λ (rows : List Affine). HasBasis (given_for bases f.array.0 (length rows)) nest g) same_rows (has_alike nest (given_for bases f.array.0 (length f.basis.rows)) h))

  pub said_alike : (nest : Nest) (schedule : Schedule) (trees : List Tree) (s : FoldShown) → IsFoldSaid nest schedule trees f s → IsFoldSaid nest schedule trees g s
  said_alike nest schedule trees s h = record {
    array = h.array ∙ same_array;
    rows = h.rows ∙ same_rows;
    moduli = h.moduli ∙ ap (map modulus_said) same_moduli;
    systems = subst (λ n. map clash_of s.systems ≡ clashes nest trees schedule n) same_array h.systems;
  }

-- in a list that says the same, some fold says the same
pub like_in : (cs ds : List CertFold) (d : CertFold) → map entry_of cs ≡ map entry_of ds → IsIn d ds → (c : CertFold) × IsIn c cs × (entry_of c ≡ entry_of d)
like_in cs [] d e i = absurd i
like_in [] (x ∷ ds) d e i = absurd (cc)
like_in (c ∷ cs) (x ∷ ds) d e (inl s) =
    let first : entry_of c ≡ entry_of x = cc in
    (c, inl refl, first ∙ ap entry_of (sym s))
like_in (c ∷ cs) (x ∷ ds) d e (inr i) =
    let more : map entry_of cs ≡ map entry_of ds = cc in
    let r = like_in cs ds d more i in
    (r.0, inr r.1, r.2)

-- folds that say the same have the same items
pub folds_alike : (nest : Nest) (schedule : Schedule) (trees : List Tree) (cs ds : List CertFold) (fs gs : List FoldShown) → map entry_of cs ≡ map entry_of ds → AreFoldsSaid nest schedule trees cs fs → AreFoldsSaid nest schedule trees ds gs
    → flat_map (fold_items nest) fs ≡ flat_map (fold_items nest) gs
folds_alike nest schedule trees [] [] [] [] e h k = refl
folds_alike nest schedule trees [] [] (f ∷ fs) gs e h k = absurd h
folds_alike nest schedule trees [] [] [] (g ∷ gs) e h k = absurd k
folds_alike nest schedule trees [] (d ∷ ds) fs gs e h k = absurd (cc)
folds_alike nest schedule trees (c ∷ cs) [] fs gs e h k = absurd (cc)
folds_alike nest schedule trees (c ∷ cs) (d ∷ ds) [] gs e h k = absurd h
folds_alike nest schedule trees (c ∷ cs) (d ∷ ds) (f ∷ fs) [] e h k = absurd k
folds_alike nest schedule trees (c ∷ cs) (d ∷ ds) (f ∷ fs) (g ∷ gs) e h k =
    let first : entry_of c ≡ entry_of d = cc in
    let more : map entry_of cs ≡ map entry_of ds = cc in
    ap₂ (λ xs ys. xs ++ ys) (same_fold nest schedule trees d f g (said_alike c d first nest schedule trees f h.0) k.0) (folds_alike nest schedule trees cs ds fs gs more h.1 k.1)

-- ---- Proofs

-- the rows of a split are those of its coefficients, at so much less
low_alike : (f g : Affine) (a b : ℤ) → f.coefs ≡ g.coefs → a -ℤ f.constant ≡ b -ℤ g.constant → low_row f a ≡ low_row g b
low_alike f g a b e h = ap₂ (λ cs z. record { coefs = map neg_ℤ cs; constant = z }) e h

high_alike : (f g : Affine) (a b : ℤ) → f.coefs ≡ g.coefs → a -ℤ f.constant ≡ b -ℤ g.constant → high_row f a ≡ high_row g b
high_alike f g a b e h = ap₂ (λ cs z. record { coefs = cs; constant = z }) e (omega (arith, ints, h))

valid_alike : (columns : ℕ) (p q : Proof) (rows : List Affine) → steps_of p ≡ steps_of q → IsValid columns p rows → IsValid columns q rows
valid_alike columns (Leaf by) (Leaf cy) rows e v = subst (IsLeaf columns rows) (let s : by ≡ cy = cc in s) v
valid_alike columns (Leaf by) (Cut' cy h sow q rest) rows e v = absurd (cc)
valid_alike columns (Leaf by) (Split' form at p low q high) rows e v = absurd (cc)
valid_alike columns (Cut' by g row p rest) (Leaf cy) rows e v = absurd (cc)
valid_alike columns (Cut' by g row p rest) (Split' form at o low q high) rows e v = absurd (cc)
valid_alike columns (Cut' by g row p rest) (Cut' cy h sow q best) rows e v =
    let mine : by ≡ cy = cc in
    let divisor : g ≡ h = cc in
    let cut : row ≡ sow = cc in
    let more : steps_of rest ≡ steps_of best = cc in (
      subst (λ x. IsCut columns rows x h sow) mine (subst (λ x. IsCut columns rows by x sow) divisor (subst (IsCut columns rows by g) cut v.0)),
      subst (λ x. IsValid columns best (rows ++ x ∷ [])) cut (valid_alike columns rest best (rows ++ row ∷ []) more v.1),
    )
valid_alike columns (Split' form at p low q high) (Leaf cy) rows e v = absurd (cc)
valid_alike columns (Split' form at p low q high) (Cut' cy h sow o rest) rows e v = absurd (cc)
valid_alike columns (Split' form at p low q high) (Split' gorm bt r mow s migh) rows e v =
    let coefs : form.coefs ≡ gorm.coefs = cc in
    let place : at -ℤ form.constant ≡ bt -ℤ gorm.constant = cc in
    let first : steps_of low ≡ steps_of mow = cc in
    let second : steps_of high ≡ steps_of migh = cc in
    let l = low_alike form gorm at bt coefs place in
    let h = high_alike form gorm at bt coefs place in (
      subst (IsRow columns) l v.0,
      subst (IsRow columns) h v.1,
      subst (λ x. IsValid columns mow (rows ++ x ∷ [])) l (valid_alike columns low mow (rows ++ low_row form at ∷ []) first v.2),
      subst (λ x. IsValid columns migh (rows ++ x ∷ [])) h (valid_alike columns high migh (rows ++ high_row form at ∷ []) second v.3),
    )

stand_alike : (above : List Affine) (p q : Proof) (rows : List Affine) → steps_of p ≡ steps_of q → StandAtNode above p rows → StandAtNode above q rows
stand_alike above (Leaf by) (Leaf cy) rows e v = v
stand_alike above (Leaf by) (Cut' cy h sow q rest) rows e v = absurd (cc)
stand_alike above (Leaf by) (Split' form at p low q high) rows e v = absurd (cc)
stand_alike above (Cut' by g row p rest) (Leaf cy) rows e v = absurd (cc)
stand_alike above (Cut' by g row p rest) (Split' form at o low q high) rows e v = absurd (cc)
stand_alike above (Cut' by g row p rest) (Cut' cy h sow q best) rows e (inl here) = inl here
stand_alike above (Cut' by g row p rest) (Cut' cy h sow q best) rows e (inr v) =
    let cut : row ≡ sow = cc in
    let more : steps_of rest ≡ steps_of best = cc in
    inr (subst (λ x. StandAtNode (above ++ x ∷ []) best rows) cut (stand_alike (above ++ row ∷ []) rest best rows more v))
stand_alike above (Split' form at p low q high) (Leaf cy) rows e v = absurd (cc)
stand_alike above (Split' form at p low q high) (Cut' cy h sow o rest) rows e v = absurd (cc)
stand_alike above (Split' form at p low q high) (Split' gorm bt r mow s migh) rows e (inl here) = inl here
stand_alike above (Split' form at p low q high) (Split' gorm bt r mow s migh) rows e (inr (inl v)) =
    let coefs : form.coefs ≡ gorm.coefs = cc in
    let place : at -ℤ form.constant ≡ bt -ℤ gorm.constant = cc in
    let first : steps_of low ≡ steps_of mow = cc in
    inr (inl (subst (λ x. StandAtNode (above ++ x ∷ []) mow rows) (low_alike form gorm at bt coefs place) (stand_alike (above ++ low_row form at ∷ []) low mow rows first v)))
stand_alike above (Split' form at p low q high) (Split' gorm bt r mow s migh) rows e (inr (inr v)) =
    let coefs : form.coefs ≡ gorm.coefs = cc in
    let place : at -ℤ form.constant ≡ bt -ℤ gorm.constant = cc in
    let second : steps_of high ≡ steps_of migh = cc in
    inr (inr (subst (λ x. StandAtNode (above ++ x ∷ []) migh rows) (high_alike form gorm at bt coefs place) (stand_alike (above ++ high_row form at ∷ []) high migh rows second v)))

proved_alike : (question : Rows) (p q : Proof) → steps_of p ≡ steps_of q → IsProved question p → IsProved question q
proved_alike question p q e h = record {
  columns = h.columns;
  rows = h.rows;
  valid = valid_alike question.columns p q question.rows e h.valid;
  few = λ rows s. h.few rows (stand_alike question.rows q p rows (sym e) s);
}

-- items are valid by proofs with the same steps
pub items_valid_alike : (is : List Item) (ps qs : List Proof) → map steps_of ps ≡ map steps_of qs → AreValid is ps → AreValid is qs
items_valid_alike [] ps qs e v = tt
items_valid_alike (Shown system point ∷ is) ps qs e v = (v.0, items_valid_alike is ps qs e v.1)
items_valid_alike (Question system ∷ is) [] qs e v = absurd v
items_valid_alike (Question system ∷ is) (p ∷ ps) [] e v = absurd (cc)
items_valid_alike (Question system ∷ is) (p ∷ ps) (q ∷ qs) e v =
    let first : steps_of p ≡ steps_of q = cc in
    let more : map steps_of ps ≡ map steps_of qs = cc in
    (proved_alike system p q first v.0, items_valid_alike is ps qs more v.1)
