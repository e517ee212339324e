-- The leaf of a tree at a point is that whose rows are met with the right quotients.
use Rattle.std.proofs.Common.{◌≡◌, ℕ, zero, suc, ◌+◌, ◌-◌, ◌≤◌, ℤ, pos, negsuc, ◌+ℤ◌, ◌*ℤ◌, ◌≤ℤ◌, Bool, true, false, if◌then◌else◌, List, [], ◌∷◌, ◌++◌, length, map, replicate, Some, None, refl, sym, ap, subst, ◌∙◌, inl, inr, arith}
use Rattle.std.specs.Prelude.{int_le}
use Rattle.std.proofs.lemmas.Int.{ints}
use Rattle.std.proofs.lemmas.List.{length-replicate}
use Rattle.affc_rows.specs.Forms.{Affine, value, dot, values_of, HaveColumns}
use Rattle.affc_rows.proofs.ValueLemmas.{length-mixed}
use Rattle.affc_ast.specs.declared.tree.Rel.TheVariants.{Less}
use Rattle.affc_ast.specs.Index.{floor_of}
use Rattle.affc_trace.specs.Law.{IsIn}
use Rattle.affc_trace.proofs.Once.{in_append}
use Rattle.affc_trace.proofs.Members.{to_first, to_second, in_map, to_map}
use Rattle.affc_trace.proofs.Runs.{length_append}
use Rattle.affc_trace.proofs.EndedReads.{append_assoc}
use Rattle.affc_trace.proofs.LastStores.{append_nil}
use Rattle.affc_domain.proofs.Lists.{length_push}
use Rattle.affc_domain.proofs.ColumnLemmas.{no_columns, more_columns, first_columns, later_columns, cons_is}
use Rattle.affc_nest.specs.Domains.{gap_row, number_form}
use Rattle.affc_nest.specs.Questions.{widened}
use Rattle.affc_domain.proofs.FormLemmas.{number_value, number_width, dot_zeros}
use Rattle.affc_system.specs.Systems.{Met}
use Rattle.affc_nest.proofs.DomainLemmas.{met_append, met_both, rows_say, say_rows}
use Rattle.affc_quast.specs.Limits.{Shaped}
use Rattle.affc_quast.specs.Laws.{Leads, LeafIsReached, LeafIsNamed}
use Rattle.affc_quast.specs.Trees.{Tree, Test, Div, Source, Input, named_at, instance_at, quotients_at}
use Rattle.affc_order.specs.Posed.{Posed}
use Rattle.affc_nest.specs.Divisions.{multiple, division_rows}
use Rattle.affc_nest.proofs.DivisionLemmas.{floor_is, one_quotient, multiple_width, met_division, division_met}
use Rattle.affc_quast.specs.Leaves.{padded, negated, Leaf, behind, divided, leaves_of}

-- ---- Forms over more columns

padded_dot : (cs : List ℤ) (n : ℕ) (xs : List ℤ) → dot (cs ++ replicate n (pos 0)) xs ≡ dot cs xs
padded_dot [] n xs = dot_zeros n xs
padded_dot (c ∷ cs) n [] = refl
padded_dot (c ∷ cs) n (x ∷ xs) = ap (λ z. (c *ℤ x) +ℤ z) (padded_dot cs n xs)

pub padded_value : (columns : ℕ) (f : Affine) (xs : List ℤ) → value (padded columns f) xs ≡ value f xs
padded_value columns f xs = ap (λ z. z +ℤ f.constant) (padded_dot f.coefs (columns - length f.coefs) xs)

padded_length : (cs : List ℤ) (n : ℕ) → length (cs ++ replicate n (pos 0)) ≡ length cs + n
padded_length cs n = length_append cs (replicate n (pos 0)) ∙ ap (λ k. length cs + k) (length-replicate n (pos 0))

pub padded_width : (columns : ℕ) (f : Affine) → length f.coefs ≤ columns → length (padded columns f).coefs ≡ columns
padded_width columns f h = omega (arith, padded_length f.coefs (columns - length f.coefs))

short_dot : (cs xs ys : List ℤ) → length cs ≤ length xs → dot cs (xs ++ ys) ≡ dot cs xs
short_dot [] xs ys h = refl
short_dot (c ∷ cs) [] ys h = absurd (omega arith)
short_dot (c ∷ cs) (x ∷ xs) ys h = ap (λ z. (c *ℤ x) +ℤ z) (short_dot cs xs ys (omega (arith, h)))

pub short_value : (f : Affine) (xs ys : List ℤ) → length f.coefs ≤ length xs → value f (xs ++ ys) ≡ value f xs
short_value f xs ys h = ap (λ z. z +ℤ f.constant) (short_dot f.coefs xs ys h)

-- each row has at most so many columns
abbrev pub Narrow : ℕ → List Affine → Type 0
Narrow n [] = Unit {0}
Narrow n (r ∷ rs) = (length r.coefs ≤ n) × Narrow n rs

short : (k m n : ℕ) → k ≡ m → m ≤ n → k ≤ n
short k m n e l = omega (arith, e, l)

pub narrow_columns : (m n : ℕ) (rows : List Affine) → m ≤ n → HaveColumns m rows → Narrow n rows
narrow_columns m n [] l h = tt
narrow_columns m n (r ∷ rs) l h = (short (length r.coefs) m n (first_columns m r rs h) l, narrow_columns m n rs l (later_columns m r rs h))

pub padded_values : (n : ℕ) (fs : List Affine) (xs : List ℤ) → values_of (map (padded n) fs) xs ≡ values_of fs xs
padded_values n [] xs = refl
padded_values n (f ∷ fs) xs = cons_is (value (padded n f) xs) (value f xs) (values_of (map (padded n) fs) xs) (values_of fs xs) (padded_value n f xs) (padded_values n fs xs)

pub padded_columns : (m n : ℕ) (fs : List Affine) → m ≤ n → HaveColumns m fs → HaveColumns n (map (padded n) fs)
padded_columns m n [] l h = no_columns n
padded_columns m n (f ∷ fs) l h = more_columns n (padded n f) (map (padded n) fs) (padded_width n f (short (length f.coefs) m n (first_columns m f fs h) l)) (padded_columns m n fs l (later_columns m f fs h))

pub short_values : (m : ℕ) (fs : List Affine) (xs ys : List ℤ) → m ≤ length xs → HaveColumns m fs → values_of fs (xs ++ ys) ≡ values_of fs xs
short_values m [] xs ys l h = refl
short_values m (f ∷ fs) xs ys l h =
    cons_is (value f (xs ++ ys)) (value f xs) (values_of fs (xs ++ ys)) (values_of fs xs) (short_value f xs ys (short (length f.coefs) m (length xs) (first_columns m f fs h) l))
    (short_values m fs xs ys l (later_columns m f fs h))

pub narrow_append : (n : ℕ) (rows more : List Affine) → Narrow n rows → Narrow n more → Narrow n (rows ++ more)
narrow_append n [] more h g = g
narrow_append n (r ∷ rs) more h g = (h.0, narrow_append n rs more h.1 g)

pub met_longer : (rows : List Affine) (xs ys : List ℤ) → Narrow (length xs) rows → Met xs rows → Met (xs ++ ys) rows
met_longer [] xs ys h m = tt
met_longer (r ∷ rs) xs ys h m = (subst (λ z. pos 0 ≤ℤ z) (sym (short_value r xs ys h.0)) m.0, met_longer rs xs ys h.1 m.1)

pub longer_met : (rows : List Affine) (xs ys : List ℤ) → Narrow (length xs) rows → Met (xs ++ ys) rows → Met xs rows
longer_met [] xs ys h m = tt
longer_met (r ∷ rs) xs ys h m = (subst (λ z. pos 0 ≤ℤ z) (short_value r xs ys h.0) m.0, longer_met rs xs ys h.1 m.1)

pub met_padded : (columns : ℕ) (rows : List Affine) (xs : List ℤ) → Met xs rows → Met xs (map (padded columns) rows)
met_padded columns [] xs m = tt
met_padded columns (r ∷ rs) xs m = (subst (λ z. pos 0 ≤ℤ z) (sym (padded_value columns r xs)) m.0, met_padded columns rs xs m.1)

pub padded_met : (columns : ℕ) (rows : List Affine) (xs : List ℤ) → Met xs (map (padded columns) rows) → Met xs rows
padded_met columns [] xs m = tt
padded_met columns (r ∷ rs) xs m = (subst (λ z. pos 0 ≤ℤ z) (padded_value columns r xs) m.0, padded_met columns rs xs m.1)

-- ---- Tests

pub negated_width : (f : Affine) → length (negated f).coefs ≡ length f.coefs
negated_width f = length-mixed (pos 1) (replicate (length f.coefs) (pos 0)) (negsuc 0) f.coefs (number_width (length f.coefs) (pos 0)) ∙ number_width (length f.coefs) (pos 0)

module _ (f : Affine) (xs : List ℤ) (w : length f.coefs ≡ length xs) where
  abbrev none : Affine
  none = number_form (length f.coefs) (pos 0)

  none_width : length none.coefs ≡ length xs
  none_width = number_width (length f.coefs) (pos 0) ∙ w

  pub negated_says : pos 0 ≤ℤ value (negated f) xs → int_le (pos 0) (value f xs) ≡ false
  negated_says h = below (value f xs) (value none xs) (rows_say f none xs w none_width Less (h, tt)) (number_value (length f.coefs) (pos 0) xs)
    where
      below : (y z : ℤ) → (y +ℤ pos 1) ≤ℤ z → z ≡ pos 0 → int_le (pos 0) y ≡ false
      below y z h e = grind (arith, ints)

  pub says_negated : int_le (pos 0) (value f xs) ≡ false → pos 0 ≤ℤ value (negated f) xs
  says_negated h = (say_rows f none xs w none_width Less (below (value f xs) (value none xs) h (number_value (length f.coefs) (pos 0) xs))).0
    where
      below : (y z : ℤ) → int_le (pos 0) y ≡ false → z ≡ pos 0 → (y +ℤ pos 1) ≤ℤ z
      below y z h e = grind (arith, ints)

-- ---- Leaves

gap_width : (n k : ℕ) (a b : Affine) → length a.coefs ≡ n → length b.coefs ≡ n → length (gap_row a b k).coefs ≤ n
gap_width n k a b u v = most (length-mixed (pos 1) b.coefs (negsuc 0) a.coefs (v ∙ sym u) ∙ v)
  where
    most : {c : ℕ} → c ≡ n → c ≤ n
    most e = omega (arith, e)

pub division_narrow : (n : ℕ) (f : Affine) (by : ℤ) → length f.coefs ≡ n → Narrow (suc n) (division_rows n f by)
division_narrow n f by e =
    let g : length (widened 1 f).coefs ≡ suc n = length_append f.coefs (pos 0 ∷ []) ∙ one (length f.coefs) e in
    (gap_width (suc n) 0 (multiple n by (pos 0)) (widened 1 f) (multiple_width n by (pos 0)) g, (gap_width (suc n) 1 (widened 1 f) (multiple n by by) g (multiple_width n by by), tt))
  where
    one : (m : ℕ) → m ≡ n → m + 1 ≡ suc n
    one m e = omega (arith, e)

pub narrow_more : (m n : ℕ) (rows : List Affine) → m ≤ n → Narrow m rows → Narrow n rows
narrow_more m n [] l h = tt
narrow_more m n (r ∷ rs) l h = (omega (arith, l, h.0), narrow_more m n rs l h.1)

-- a leaf has the columns above it and more, and its rows and forms are over these
pub record LeafOver (columns : ℕ) (l : Leaf) : Type 0 where
  pub more : columns ≤ l.columns
  pub narrow : Narrow l.columns l.rows
  pub named : (a : Posed) → l.named ≡ Some a → HaveColumns l.columns a.iterators

pub leaf_over : (columns : ℕ) (tree : Tree) (l : Leaf) → Shaped columns tree → IsIn l (leaves_of columns tree) → LeafOver columns l
leaf_over columns (Test f on off) l h i = elim (in_append _ _ l i) [
  | inl j ↦ (let r = in_map (behind (f ∷ [])) (leaves_of columns on) l j in let o = leaf_over columns on r.0 h.1 r.1 in
      subst (LeafOver columns) (sym r.2) (record { more = o.more; narrow = (wide _ _ _ h.0 o.more, o.narrow); named = o.named }))
  | inr j ↦ (let r = in_map (behind (negated f ∷ [])) (leaves_of columns off) l j in let o = leaf_over columns off r.0 h.2 r.1 in
      subst (LeafOver columns) (sym r.2) (record { more = o.more; narrow = (wide _ _ _ (negated_width f ∙ h.0) o.more, o.narrow); named = o.named }))
]
  where
    wide : (a b c : ℕ) → a ≡ b → b ≤ c → a ≤ c
    wide a b c e h = omega arith
leaf_over columns (Div f by rest) l h i =
    let r = in_map (divided columns f by) (leaves_of (suc columns) rest) l i in
    let o = leaf_over (suc columns) rest r.0 h.2 r.1 in
    subst (LeafOver columns) (sym r.2) (record {
      more = less _ _ o.more;
      narrow = narrow_append _ (division_rows columns f by) (r.0).rows (narrow_more (suc columns) _ (division_rows columns f by) o.more (division_narrow columns f by h.0)) o.narrow;
      named = o.named;
    })
  where
    less : (a b : ℕ) → suc a ≤ b → a ≤ b
    less a b h = omega arith
leaf_over columns (Source s forms) l h (inl e) = subst (LeafOver columns) (sym e) (record { more = omega arith; narrow = tt; named = λ a q. subst (λ a. HaveColumns columns a.iterators) (same _ _ q) h })
  where
    same : (a b : Posed) → Some a ≡ Some b → a ≡ b
    same a b e = cc
leaf_over columns (Source s forms) l h (inr i) = absurd i
leaf_over columns Input l h (inl e) = subst (LeafOver columns) (sym e) (record { more = omega arith; narrow = tt; named = λ a q. absurd (cc) })
leaf_over columns Input l h (inr i) = absurd i

none_more : (xs qs : List ℤ) → length (xs ++ qs) ≡ length xs → qs ≡ []
none_more [] [] w = refl
none_more [] (q ∷ qs) w = absurd (omega (arith, w))
none_more (x ∷ xs) qs w = none_more xs qs (omega (arith, w))

-- which instance a leaf's rows lead to, by which quotients
abbrev Ends : (tree : Tree) (xs qs : List ℤ) → List ℤ → Leaf → Type 0
Ends tree xs qs zs l = length zs ≡ l.columns → Met zs l.rows → (qs ≡ quotients_at tree xs) × (named_at tree xs ≡ instance_at l.named zs)

ends : (tree : Tree) (xs qs : List ℤ) (l : Leaf) → Shaped (length xs) tree → IsIn l (leaves_of (length xs) tree) → Ends tree xs qs (xs ++ qs) l
ends (Test f on off) xs qs l h i = elim (in_append _ _ l i) [
  | inl j ↦ (let r = in_map (behind (f ∷ [])) (leaves_of (length xs) on) l j in
      subst (Ends (Test f on off) xs qs (xs ++ qs)) (sym r.2) (λ e m.
      let a = above (value f xs) (subst (λ z. pos 0 ≤ℤ z) (short_value f xs qs (omega (arith, h.0))) m.0) in
      let d = ends on xs qs r.0 h.1 r.1 e m.1 in
      (d.0 ∙ sym (ap (λ t. if t then quotients_at on xs else quotients_at off xs) a), ap (λ t. if t then named_at on xs else named_at off xs) a ∙ d.1)))
  | inr j ↦ (let r = in_map (behind (negated f ∷ [])) (leaves_of (length xs) off) l j in
      subst (Ends (Test f on off) xs qs (xs ++ qs)) (sym r.2) (λ e m.
      let a = negated_says f xs h.0 (subst (λ z. pos 0 ≤ℤ z) (short_value (negated f) xs qs (omega (arith, negated_width f, h.0))) m.0) in
      let d = ends off xs qs r.0 h.2 r.1 e m.1 in
      (d.0 ∙ sym (ap (λ t. if t then quotients_at on xs else quotients_at off xs) a), ap (λ t. if t then named_at on xs else named_at off xs) a ∙ d.1)))
]
  where
    above : (z : ℤ) → pos 0 ≤ℤ z → int_le (pos 0) z ≡ true
    above z h = grind (arith, ints)
ends (Div f (pos zero) rest) xs qs l h i = absurd (omega (arith, ints, h.1))
ends (Div f (negsuc k) rest) xs qs l h i = absurd (omega (arith, ints, h.1))
ends (Div f (pos (suc k)) rest) xs [] l h i =
    let r = in_map (divided (length xs) f (pos (suc k))) (leaves_of (suc (length xs)) rest) l i in
    let o = leaf_over (suc (length xs)) rest r.0 h.2 r.1 in
    subst (Ends (Div f (pos (suc k)) rest) xs [] (xs ++ [])) (sym r.2) (λ e m. absurd (omega (arith, o.more, e, length_append xs [])))
ends (Div f (pos (suc k)) rest) xs (q ∷ qs) l h i =
    let ys = xs ++ q ∷ [] in
    let r = in_map (divided (length xs) f (pos (suc k))) (leaves_of (suc (length xs)) rest) l i in
    let same : ys ++ qs ≡ xs ++ q ∷ qs = append_assoc xs (q ∷ []) qs in
    let wide : suc (length xs) ≡ length ys = sym (length_push xs q) in
    subst (Ends (Div f (pos (suc k)) rest) xs (q ∷ qs) (xs ++ q ∷ qs)) (sym r.2) (subst (λ zs. Ends (Div f (pos (suc k)) rest) xs (q ∷ qs) zs (divided (length xs) f (pos (suc k)) r.0)) same (λ e m.
    let b = met_both (ys ++ qs) (division_rows (length xs) f (pos (suc k))) (r.0).rows m in
    let d : Met ys (division_rows (length xs) f (pos (suc k))) = longer_met (division_rows (length xs) f (pos (suc k))) ys qs (subst (λ n. Narrow n (division_rows (length xs) f (pos (suc k)))) wide (division_narrow (length xs) f (pos (suc k)) h.0)) b.0 in
    let is : q ≡ floor_of (value f xs) (pos (suc k)) = one_quotient k (value f xs) q (met_division xs q f k h.0 d) in
    let z = ends rest ys qs r.0 (subst (λ n. Shaped n rest) wide h.2) (subst (λ n. IsIn r.0 (leaves_of n rest)) wide r.1) e b.1 in
    (ap (λ us. q ∷ us) z.0 ∙ ap (λ u. u ∷ quotients_at rest (xs ++ u ∷ [])) is, ap (λ u. named_at rest (xs ++ u ∷ [])) (sym is) ∙ z.1)))
ends (Source s forms) xs qs l h (inl e) = subst (Ends (Source s forms) xs qs (xs ++ qs)) (sym e) (λ w m. (
  none_more xs qs w,
  ap (λ zs. Some (record { statement = s; iterators = values_of forms zs })) (sym (append_nil xs) ∙ ap (λ us. xs ++ us) (sym (none_more xs qs w))),
))
ends (Source s forms) xs qs l h (inr i) = absurd i
ends Input xs qs l h (inl e) = subst (Ends Input xs qs (xs ++ qs)) (sym e) (λ w m. (none_more xs qs w, refl))
ends Input xs qs l h (inr i) = absurd i

pub leaf_is_named : LeafIsNamed
leaf_is_named tree xs qs l h i = ends tree xs qs l h i

reached : (tree : Tree) (xs : List ℤ) → Shaped (length xs) tree → (leaf : Leaf) × Leads tree xs leaf
reached (Test f on off) xs h = by_test (int_le (pos 0) (value f xs)) refl (reached on xs h.1) (reached off xs h.2)
  where
    above : (z : ℤ) → int_le (pos 0) z ≡ true → pos 0 ≤ℤ z
    above z e = grind (arith, ints)

    by_test : (t : Bool) → int_le (pos 0) (value f xs) ≡ t → (leaf : Leaf) × Leads on xs leaf → (leaf : Leaf) × Leads off xs leaf → (leaf : Leaf) × Leads (Test f on off) xs leaf
    by_test true e r o =
        let same : quotients_at on xs ≡ quotients_at (Test f on off) xs = ap (λ t. if t then quotients_at on xs else quotients_at off xs) (sym e) in (
          behind (f ∷ []) r.0,
          record {
            of_tree = to_first (map (behind (f ∷ [])) (leaves_of (length xs) on)) (map (behind (negated f ∷ [])) (leaves_of (length xs) off)) (behind (f ∷ []) r.0) (to_map (behind (f ∷ [])) (leaves_of (length xs) on) r.0 (r.1).of_tree);
            width = subst (λ qs. length (xs ++ qs) ≡ (r.0).columns) same (r.1).width;
            meets = subst (λ qs. Met (xs ++ qs) (f ∷ (r.0).rows)) same (subst (λ z. pos 0 ≤ℤ z) (sym (short_value f xs (quotients_at on xs) (omega (arith, h.0)))) (above (value f xs) e), (r.1).meets);
          },
        )
    by_test false e o r =
        let same : quotients_at off xs ≡ quotients_at (Test f on off) xs = ap (λ t. if t then quotients_at on xs else quotients_at off xs) (sym e) in (
          behind (negated f ∷ []) r.0,
          record {
            of_tree = to_second (map (behind (f ∷ [])) (leaves_of (length xs) on)) (map (behind (negated f ∷ [])) (leaves_of (length xs) off)) (behind (negated f ∷ []) r.0) (to_map (behind (negated f ∷ [])) (leaves_of (length xs) off) r.0 (r.1).of_tree);
            width = subst (λ qs. length (xs ++ qs) ≡ (r.0).columns) same (r.1).width;
            meets = subst (λ qs. Met (xs ++ qs) (negated f ∷ (r.0).rows)) same (subst (λ z. pos 0 ≤ℤ z) (sym (short_value (negated f) xs (quotients_at off xs) (omega (arith, negated_width f, h.0)))) (says_negated f xs h.0 e), (r.1).meets);
          },
        )
reached (Div f (pos zero) rest) xs h = absurd (omega (arith, ints, h.1))
reached (Div f (negsuc k) rest) xs h = absurd (omega (arith, ints, h.1))
reached (Div f (pos (suc k)) rest) xs h =
    let q = floor_of (value f xs) (pos (suc k)) in
    let ys = xs ++ q ∷ [] in
    let wide : suc (length xs) ≡ length ys = sym (length_push xs q) in
    let r = reached rest ys (subst (λ n. Shaped n rest) wide h.2) in
    let qs = quotients_at rest ys in
    let same : ys ++ qs ≡ xs ++ q ∷ qs = append_assoc xs (q ∷ []) qs in (
      divided (length xs) f (pos (suc k)) r.0,
      record {
        of_tree = to_map (divided (length xs) f (pos (suc k))) (leaves_of (suc (length xs)) rest) r.0 (subst (λ n. IsIn r.0 (leaves_of n rest)) (sym wide) (r.1).of_tree);
        width = ap length (sym same) ∙ (r.1).width;
        meets = subst (λ zs. Met zs (division_rows (length xs) f (pos (suc k)) ++ (r.0).rows)) same
            (met_append (ys ++ qs) (division_rows (length xs) f (pos (suc k))) (r.0).rows
            (met_longer (division_rows (length xs) f (pos (suc k))) ys qs (subst (λ n. Narrow n (division_rows (length xs) f (pos (suc k)))) wide (division_narrow (length xs) f (pos (suc k)) h.0))
            (division_met xs q f k h.0 (floor_is k (value f xs)))) (r.1).meets);
      },
    )
reached (Source s forms) xs h = (record { columns = length xs; rows = []; divisions = []; named = Some (record { part = s; iterators = forms }) }, record { of_tree = inl refl; width = ap length (append_nil xs); meets = tt })
reached Input xs h = (record { columns = length xs; rows = []; divisions = []; named = None }, record { of_tree = inl refl; width = ap length (append_nil xs); meets = tt })

pub leaf_is_reached : LeafIsReached
leaf_is_reached tree xs h = reached tree xs h
