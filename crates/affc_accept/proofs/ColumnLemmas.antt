-- Columns that are exchanged and exchanged back.
use Rattle.std.proofs.Common.{◌≡◌, ℕ, Bool, true, false, ◌==◌, zero, suc, ◌+◌, ◌≤◌, List, [], ◌∷◌, ◌++◌, length, map, take, drop, refl, sym, ap, ap₂, subst, ◌∙◌, inl, inr, arith}
use Rattle.std.specs.Prelude.{◌⊎◌, max, unsigned_abs, Some}
use Rattle.std.specs.List.{All, AllZip}
use Rattle.std.proofs.lemmas.List.{take-append-drop, length-append, length-map}
use Rattle.std.proofs.lemmas.Bool.{eqb-true, eqb-false}
use Rattle.std.proofs.lemmas.List.Elements.{All-nil, All-cons, All-head, All-tail, All-append, All-map}
use Rattle.affc_rows.specs.Forms.{Affine, HaveColumns}
use Rattle.affc_quast.specs.Limits.{Shaped, Bounds, FitsForm, FitsTree, widest}
use Rattle.affc_quast.specs.Trees.{Tree, Test, Div, Source, Input, depth_of}
use Rattle.affc_cert.specs.tree.Within.{NamesStores, IsTreeWithin}
use Rattle.affc_cert.specs.declared.tree.layout.Load.{Load}
use Rattle.affc_cert.specs.declared.tree.layout.Store.{Store}
use Rattle.affc_accept.specs.Columns.{exchanged, form_exchanged, tree_exchanged, iterators_of, trees_in_text, trees_from_text, ColumnsComeBack}

-- ---- Fronts

front_taken : {A : Type 0} (n : ℕ) (xs ys : List A) → length xs ≡ n → take n (xs ++ ys) ≡ xs
front_taken zero [] ys e = refl
front_taken (suc n) [] ys e = absurd (omega (arith, e))
front_taken zero (x ∷ xs) ys e = absurd (omega (arith, e))
front_taken (suc n) (x ∷ xs) ys e = ap (λ l. x ∷ l) (front_taken n xs ys (omega (arith, e)))

front_dropped : {A : Type 0} (n : ℕ) (xs ys : List A) → length xs ≡ n → drop n (xs ++ ys) ≡ ys
front_dropped zero [] ys e = refl
front_dropped (suc n) [] ys e = absurd (omega (arith, e))
front_dropped zero (x ∷ xs) ys e = absurd (omega (arith, e))
front_dropped (suc n) (x ∷ xs) ys e = front_dropped n xs ys (omega (arith, e))

taken_long : {A : Type 0} (n : ℕ) (xs : List A) → n ≤ length xs → length (take n xs) ≡ n
taken_long zero xs l = refl
taken_long (suc n) [] l = absurd (omega (arith, l))
taken_long (suc n) (x ∷ xs) l = ap suc (taken_long n xs (omega (arith, l)))

dropped_long : {A : Type 0} (n m : ℕ) (xs : List A) → n + m ≤ length xs → m ≤ length (drop n xs)
dropped_long zero m xs l = omega (arith, l)
dropped_long (suc n) m [] l = absurd (omega (arith, l))
dropped_long (suc n) m (x ∷ xs) l = dropped_long n m xs (omega (arith, l))

-- ---- Lists

all_by : {A : Type 0} (P Q : A → Type 0) → ((x : A) → P x → Q x) → (xs : List A) → All P xs → All Q xs
all_by P Q f xs h = λ k d l. f _ (h k d l)

-- two lists in the other order
blocks : {A : Type 0} (a b : ℕ) (as' bs rest : List A) → length as' ≡ a → length bs ≡ b → exchanged a b (as' ++ (bs ++ rest)) ≡ bs ++ (as' ++ rest)
blocks a b as' bs rest e f =
    let r : drop a (as' ++ (bs ++ rest)) ≡ bs ++ rest = front_dropped a as' (bs ++ rest) e in
    ap (λ ys. take b ys ++ (take a (as' ++ (bs ++ rest)) ++ drop b ys)) r
    ∙ ap₂ (λ us vs. us ++ vs) (front_taken b bs rest f) (ap₂ (λ us vs. us ++ vs) (front_taken a as' (bs ++ rest) e) (front_dropped b bs rest f))

-- there are so many of the first, and so many of the second
abbrev HasBoth : {A : Type 0} → (a b : ℕ) → List A → Type 0
HasBoth a b xs = a + b ≤ length xs

list_back : {A : Type 0} (a b : ℕ) (xs : List A) → HasBoth a b xs → exchanged b a (exchanged a b xs) ≡ xs
list_back a b xs l =
    let rest = drop a xs in
    blocks b a (take b rest) (take a xs) (drop b rest) (taken_long b rest (dropped_long a b xs l)) (taken_long a xs (omega (arith, l)))
    ∙ ap (λ ys. take a xs ++ ys) (take-append-drop b rest)
    ∙ take-append-drop a xs

none_behind : {A : Type 0} (a : ℕ) (xs : List A) → exchanged a 0 xs ≡ xs
none_behind a xs = take-append-drop a xs

none_before : {A : Type 0} (a : ℕ) (xs : List A) → exchanged 0 a xs ≡ xs
none_before a xs = take-append-drop a xs

same_long : {A : Type 0} (a b : ℕ) (xs : List A) → length (exchanged a b xs) ≡ length xs
same_long a b xs =
    let rest = drop a xs in
    let two = length-append (take b rest) (take a xs ++ drop b rest) in
    let three = length-append (take a xs) (drop b rest) in
    let four = sym (length-append (take b rest) (drop b rest)) ∙ ap length (take-append-drop b rest) in
    let five = sym (length-append (take a xs) rest) ∙ ap length (take-append-drop a xs) in
    omega (arith, two, three, four, five)

all_taken : {A : Type 0} (P : A → Type 0) (n : ℕ) (xs : List A) → All P xs → All P (take n xs)
all_taken P zero xs h = All-nil P
all_taken P (suc n) [] h = All-nil P
all_taken P (suc n) (x ∷ xs) h = All-cons P x (take n xs) (All-head P x xs h) (all_taken P n xs (All-tail P x xs h))

all_dropped : {A : Type 0} (P : A → Type 0) (n : ℕ) (xs : List A) → All P xs → All P (drop n xs)
all_dropped P zero xs h = h
all_dropped P (suc n) [] h = All-nil P
all_dropped P (suc n) (x ∷ xs) h = all_dropped P n xs (All-tail P x xs h)

all_exchanged : {A : Type 0} (P : A → Type 0) (a b : ℕ) (xs : List A) → All P xs → All P (exchanged a b xs)
all_exchanged P a b xs h =
    let rest = all_dropped P a xs h in
    All-append P (take b (drop a xs)) (take a xs ++ drop b (drop a xs)) (all_taken P b (drop a xs) rest)
    (All-append P (take a xs) (drop b (drop a xs)) (all_taken P a xs h) (all_dropped P b (drop a xs) rest))

-- both are there, or one of them is empty
abbrev AreThere : (a b n : ℕ) → Type 0
AreThere a b n = (a ≡ 0) ⊎ ((b ≡ 0) ⊎ (a + b ≤ n))

list_as_before : {A : Type 0} (a b n : ℕ) (xs : List A) → AreThere a b n → n ≤ length xs → exchanged b a (exchanged a b xs) ≡ xs
list_as_before a b n xs h l = elim h [
  | inl e ↦ subst (λ k. exchanged b k (exchanged k b xs) ≡ xs) (sym e) (none_behind b (exchanged 0 b xs) ∙ none_before b xs)
  | inr h ↦ elim h [
    | inl e ↦ subst (λ k. exchanged k a (exchanged a k xs) ≡ xs) (sym e) (none_before a (exchanged a 0 xs) ∙ none_behind a xs)
    | inr g ↦ list_back a b xs (omega (arith, g, l))
  ]
]

-- ---- Trees

module _ (a b n : ℕ) (there : AreThere a b n) where
  form_as_before : (columns : ℕ) (f : Affine) → n ≤ columns → length f.coefs ≡ columns → form_exchanged b a (form_exchanged a b f) ≡ f
  form_as_before columns f l e = ap (λ cs. record f { coefs = cs }) (list_as_before a b n f.coefs there (subst (λ m. n ≤ m) (sym e) l))

  forms_as_before : (columns : ℕ) (fs : List Affine) → n ≤ columns → HaveColumns columns fs → map (form_exchanged b a) (map (form_exchanged a b) fs) ≡ fs
  forms_as_before columns [] l h = refl
  forms_as_before columns (f ∷ fs) l h =
      ap₂ (λ g gs. g ∷ gs) (form_as_before columns f l (All-head (λ (g : Affine). length g.coefs ≡ columns) f fs h))
      (forms_as_before columns fs l (All-tail (λ (g : Affine). length g.coefs ≡ columns) f fs h))

  pub tree_as_before : (columns : ℕ) (t : Tree) → n ≤ columns → Shaped columns t → tree_exchanged b a (tree_exchanged a b t) ≡ t
  tree_as_before columns (Test f on off) l h = λ i. Test (form_as_before columns f l h.0 i) (tree_as_before columns on l h.1 i) (tree_as_before columns off l h.2 i)
  tree_as_before columns (Div f by rest) l h = λ i. Div (form_as_before columns f l h.0 i) by (tree_as_before (suc columns) rest (omega (arith, l)) h.2 i)
  tree_as_before columns (Source s fs) l h = ap (Source s) (forms_as_before columns fs l h)
  tree_as_before columns Input l h = refl

module _ (a b : ℕ) where
  pub shaped_too : (columns : ℕ) (t : Tree) → Shaped columns t → Shaped columns (tree_exchanged a b t)
  shaped_too columns (Test f on off) h = (same_long a b f.coefs ∙ h.0, shaped_too columns on h.1, shaped_too columns off h.2)
  shaped_too columns (Div f by rest) h = (same_long a b f.coefs ∙ h.0, h.1, shaped_too (suc columns) rest h.2)
  shaped_too columns (Source s fs) h =
      All-map (λ (g : Affine). length g.coefs ≡ columns) (form_exchanged a b) fs
      (all_by (λ (g : Affine). length g.coefs ≡ columns) (λ (g : Affine). length (exchanged a b g.coefs) ≡ columns) (λ g e. same_long a b g.coefs ∙ e) fs h)
  shaped_too columns Input h = tt

  pub shaped_before : (columns : ℕ) (t : Tree) → Shaped columns (tree_exchanged a b t) → Shaped columns t
  shaped_before columns (Test f on off) h = (sym (same_long a b f.coefs) ∙ h.0, shaped_before columns on h.1, shaped_before columns off h.2)
  shaped_before columns (Div f by rest) h = (sym (same_long a b f.coefs) ∙ h.0, h.1, shaped_before (suc columns) rest h.2)
  shaped_before columns (Source s fs) h = forms_before columns fs h
    where
      forms_before : (n : ℕ) (gs : List Affine) → HaveColumns n (map (form_exchanged a b) gs) → HaveColumns n gs
      forms_before n [] k = All-nil (λ (g : Affine). length g.coefs ≡ n)
      forms_before n (g ∷ gs) k =
          All-cons (λ (g : Affine). length g.coefs ≡ n) g gs
          (sym (same_long a b g.coefs) ∙ All-head (λ (g : Affine). length g.coefs ≡ n) (form_exchanged a b g) (map (form_exchanged a b) gs) k)
          (forms_before n gs (All-tail (λ (g : Affine). length g.coefs ≡ n) (form_exchanged a b g) (map (form_exchanged a b) gs) k))
  shaped_before columns Input h = tt

  form_fits : (bounds : Bounds) (f : Affine) → FitsForm bounds f → FitsForm bounds (form_exchanged a b f)
  form_fits bounds f h = record { coefs_fit = all_exchanged (λ c. unsigned_abs c ≤ bounds.coefs) a b f.coefs h.coefs_fit; constant_fits = h.constant_fits }

  pub fits_too : (bounds : Bounds) (t : Tree) → FitsTree bounds t → FitsTree bounds (tree_exchanged a b t)
  fits_too bounds (Test f on off) h = (form_fits bounds f h.0, fits_too bounds on h.1, fits_too bounds off h.2)
  fits_too bounds (Div f by rest) h = (form_fits bounds f h.0, h.1, fits_too bounds rest h.2)
  fits_too bounds (Source s fs) h =
      All-map (FitsForm bounds) (form_exchanged a b) fs (all_by (FitsForm bounds) (λ (g : Affine). FitsForm bounds (form_exchanged a b g)) (form_fits bounds) fs h)
  fits_too bounds Input h = tt

  pub depth_same : (t : Tree) → depth_of (tree_exchanged a b t) ≡ depth_of t
  depth_same (Test f on off) = ap₂ (λ n m. suc (max n m)) (depth_same on) (depth_same off)
  depth_same (Div f by rest) = ap suc (depth_same rest)
  depth_same (Source s fs) = refl
  depth_same Input = refl

  pub named_too : (stores : List Store) (t : Tree) → NamesStores stores t → NamesStores stores (tree_exchanged a b t)
  named_too stores (Test f on off) h = (named_too stores on h.0, named_too stores off h.1)
  named_too stores (Div f by rest) h = named_too stores rest h
  named_too stores (Source s fs) h = (h.0, h.1 ∙ ap Some (sym (length-map fs (form_exchanged a b))))
  named_too stores Input h = tt

  within_too : (l : Load) (t : Tree) → IsTreeWithin l t → IsTreeWithin l (tree_exchanged a b t)
  within_too l t w = record {
    shaped = shaped_too l.columns t w.shaped;
    fits = fits_too widest t w.fits;
    short = subst (λ n. n ≤ 400) (sym (depth_same t)) w.short;
    named = named_too l.stores t w.named;
  }

-- ---- All trees

module _ (p : ℕ) where
  iterators_there : (l : Load) → AreThere (iterators_of p l) p l.columns
  iterators_there l = by (iterators_of p l == 0) refl
    where
      by : (t : Bool) → (iterators_of p l == 0) ≡ t → AreThere (iterators_of p l) p l.columns
      by true e = inl (eqb-true (iterators_of p l) 0 e)
      by false e = let some = eqb-false (iterators_of p l) 0 e in inr (inr (omega (arith, some)))

  parameters_there : (l : Load) → AreThere p (iterators_of p l) l.columns
  parameters_there l = elim (iterators_there l) [
    | inl e ↦ inr (inl e)
    | inr h ↦ elim h [ inl e ↦ inl e | inr g ↦ inr (inr (omega (arith, g))) ]
  ]

  -- what is taken from a text stands so in it
  pub back_in_text : (loads : List Load) (trees : List Tree) → AllZip IsTreeWithin loads trees → trees_in_text p loads (trees_from_text p loads trees) ≡ trees
  back_in_text [] trees h = refl
  back_in_text (l ∷ loads) [] h = refl
  back_in_text (l ∷ loads) (t ∷ trees) h =
      ap₂ (λ u us. u ∷ us) (tree_as_before (iterators_of p l) p l.columns (iterators_there l) l.columns t (omega arith) h.0.shaped) (back_in_text loads trees h.1)

  -- what stands in a text is taken from it
  pub from_text_back : (loads : List Load) (trees : List Tree) → AllZip IsTreeWithin loads (trees_in_text p loads trees) → trees_from_text p loads (trees_in_text p loads trees) ≡ trees
  from_text_back [] trees h = refl
  from_text_back (l ∷ loads) [] h = refl
  from_text_back (l ∷ loads) (t ∷ trees) h =
      ap₂ (λ u us. u ∷ us) (tree_as_before p (iterators_of p l) l.columns (parameters_there l) l.columns t (omega arith) (shaped_before p (iterators_of p l) l.columns t h.0.shaped)) (from_text_back loads trees h.1)

  -- within the same limits
  pub from_text_within : (loads : List Load) (trees : List Tree) → AllZip IsTreeWithin loads trees → AllZip IsTreeWithin loads (trees_from_text p loads trees)
  from_text_within [] trees h = h
  from_text_within (l ∷ loads) [] h = absurd h
  from_text_within (l ∷ loads) (t ∷ trees) h = (within_too (iterators_of p l) p l t h.0, from_text_within loads trees h.1)

  pub in_text_within : (loads : List Load) (trees : List Tree) → AllZip IsTreeWithin loads (trees_in_text p loads trees) → AllZip IsTreeWithin loads trees
  in_text_within loads trees h = subst (AllZip IsTreeWithin loads) (from_text_back loads trees h) (from_text_within loads (trees_in_text p loads trees) h)

  within_in_text : (loads : List Load) (trees : List Tree) → AllZip IsTreeWithin loads trees → AllZip IsTreeWithin loads (trees_in_text p loads trees)
  within_in_text [] trees h = h
  within_in_text (l ∷ loads) [] h = absurd h
  within_in_text (l ∷ loads) (t ∷ trees) h = (within_too p (iterators_of p l) l t h.0, within_in_text loads trees h.1)

  pub both_back : (loads : List Load) (trees : List Tree) → AllZip IsTreeWithin loads trees
      → (trees_in_text p loads (trees_from_text p loads trees) ≡ trees) × (trees_from_text p loads (trees_in_text p loads trees) ≡ trees)
  both_back loads trees h = (back_in_text loads trees h, from_text_back loads trees (within_in_text loads trees h))

pub columns_come_back : ColumnsComeBack
columns_come_back layout c w =
    let h = both_back layout.parameters layout.loads c.trees w.trees in
    (ap (λ ts. record c { trees = ts }) h.0, ap (λ ts. record c { trees = ts }) h.1)
