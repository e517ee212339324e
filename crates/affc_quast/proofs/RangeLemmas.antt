-- The ranges of a leaf's columns hold its points.
use Rattle.std.proofs.Common.{◌≡◌, ℕ, zero, suc, ◌+◌, ◌^◌, ◌≤◌, ℤ, pos, negsuc, ◌≤ℤ◌, true, false, if◌then◌else◌, List, [], ◌∷◌, ◌++◌, length, refl, sym, ap, subst, ◌∙◌, inl, inr, arith}
use Rattle.std.specs.Prelude.{int_le, unsigned_abs}
use Rattle.std.specs.List.{All}
use Rattle.std.proofs.lemmas.Int.{ints}
use Rattle.std.proofs.lemmas.List.Elements.{All-nil, All-cons, All-head, All-tail, All-append}
use Rattle.affc_rows.specs.Forms.{Affine, value}
use Rattle.affc_system.specs.Boxes.{InBox, corner}
use Rattle.affc_system.specs.Systems.{Met}
use Rattle.affc_system.specs.Pairs.{WithinReach}
use Rattle.affc_ast.specs.Index.{floor_of}
use Rattle.affc_trace.specs.Law.{IsIn}
use Rattle.affc_trace.proofs.Once.{in_append}
use Rattle.affc_trace.proofs.Members.{in_map}
use Rattle.affc_trace.proofs.Runs.{length_append}
use Rattle.affc_trace.proofs.EndedReads.{append_assoc}
use Rattle.affc_domain.proofs.RangeLemmas.{box_push, box_length}
use Rattle.affc_domain.proofs.Lists.{length_push}
use Rattle.affc_nest.proofs.DomainLemmas.{met_both}
use Rattle.affc_quast.specs.Laws.{LeavesAreOver, LeafIsBoxed, RangesOfLeaf}
use Rattle.affc_quast.specs.Limits.{Shaped}
use Rattle.affc_quast.specs.Paths.{IsNear}
use Rattle.affc_quast.specs.Trees.{Tree, Test, Div, Source, Input, quotients_at}
use Rattle.affc_nest.specs.Divisions.{division_rows, quotient_range}
use Rattle.affc_nest.proofs.DivisionLemmas.{held_near, divisions_are_quotients, quotients_keep_ranges}
use Rattle.affc_quast.specs.Leaves.{negated, Leaf, behind, divided, leaves_of, path_ranges}
use Rattle.affc_quast.proofs.LeafLemmas.{Narrow, division_narrow, negated_width, negated_says, short_value, longer_met, leaf_over}

-- ---- Boxes

pub all_append : (rs ss : List (ℤ × ℤ)) → All WithinReach rs → All WithinReach ss → All WithinReach (rs ++ ss)
all_append rs ss h g = All-append WithinReach rs ss h g

pub ranges_append : (rs ss : List (ℤ × ℤ)) → length (rs ++ ss) ≡ length rs + length ss
ranges_append [] ss = omega arith
ranges_append (r ∷ rs) ss = omega (arith, ranges_append rs ss)

pub path_ranges_long : (ranges : List (ℤ × ℤ)) (ds : List (Affine × ℤ)) → length (path_ranges ranges ds) ≡ length ranges + length ds
path_ranges_long ranges [] = omega arith
path_ranges_long ranges (d ∷ ds) = omega (arith, path_ranges_long (ranges ++ quotient_range ranges d.0 d.1 ∷ []) ds, ranges_append ranges (quotient_range ranges d.0 d.1 ∷ []))

pub path_ranges_near : (ranges : List (ℤ × ℤ)) (ds : List (Affine × ℤ)) → All WithinReach ranges → All WithinReach (path_ranges ranges ds)
path_ranges_near ranges [] h = h
path_ranges_near ranges (d ∷ ds) h =
    path_ranges_near (ranges ++ quotient_range ranges d.0 d.1 ∷ []) ds (all_append ranges (quotient_range ranges d.0 d.1 ∷ []) h
    (All-cons WithinReach (quotient_range ranges d.0 d.1) [] (record { low = held_near (2 ^ 60) (floor_of (value d.0 (corner false (d.0).coefs ranges)) d.1); high = held_near (2 ^ 60) (floor_of (value d.0 (corner true (d.0).coefs ranges)) d.1) }) (All-nil WithinReach)))

pub leaf_count : (columns : ℕ) (tree : Tree) (l : Leaf) → IsIn l (leaves_of columns tree) → l.columns ≡ columns + length l.divisions
leaf_count columns (Test f on off) l i = elim (in_append _ _ l i) [
  | inl j ↦ (let r = in_map (behind (f ∷ [])) (leaves_of columns on) l j in subst (λ l. l.columns ≡ columns + length l.divisions) (sym r.2) (leaf_count columns on r.0 r.1))
  | inr j ↦ (let r = in_map (behind (negated f ∷ [])) (leaves_of columns off) l j in subst (λ l. l.columns ≡ columns + length l.divisions) (sym r.2) (leaf_count columns off r.0 r.1))
]
leaf_count columns (Div f by rest) l i =
    let r = in_map (divided columns f by) (leaves_of (suc columns) rest) l i in
    subst (λ l. l.columns ≡ columns + length l.divisions) (sym r.2) (one _ _ (leaf_count (suc columns) rest r.0 r.1))
  where
    one : (a b : ℕ) → a ≡ suc columns + b → a ≡ columns + suc b
    one a b h = omega (arith, h)
leaf_count columns (Source s forms) l (inl e) = subst (λ l. l.columns ≡ columns + length l.divisions) (sym e) (omega arith)
leaf_count columns (Source s forms) l (inr i) = absurd i
leaf_count columns Input l (inl e) = subst (λ l. l.columns ≡ columns + length l.divisions) (sym e) (omega arith)
leaf_count columns Input l (inr i) = absurd i

-- where a leaf's rows are met, its ranges hold the point
abbrev Holds : List ℤ → List (ℤ × ℤ) → Leaf → Type 0
Holds zs ranges l = length zs ≡ l.columns → Met zs l.rows → InBox (path_ranges ranges l.divisions) zs

leaf_held : (tree : Tree) (xs qs : List ℤ) (ranges : List (ℤ × ℤ)) (l : Leaf) → Shaped (length xs) tree → IsIn l (leaves_of (length xs) tree) → InBox ranges xs → All IsNear (quotients_at tree xs) → Holds (xs ++ qs) ranges l
leaf_held (Test f on off) xs qs ranges l h i b n = elim (in_append _ _ l i) [
  | inl j ↦ (let r = in_map (behind (f ∷ [])) (leaves_of (length xs) on) l j in
      subst (Holds (xs ++ qs) ranges) (sym r.2) (λ e m.
      leaf_held on xs qs ranges r.0 h.1 r.1 b (subst (λ t. All IsNear (if t then quotients_at on xs else quotients_at off xs)) (above (value f xs) (subst (λ z. pos 0 ≤ℤ z) (short_value f xs qs (omega (arith, h.0))) m.0)) n) e m.1))
  | inr j ↦ (let r = in_map (behind (negated f ∷ [])) (leaves_of (length xs) off) l j in
      subst (Holds (xs ++ qs) ranges) (sym r.2) (λ e m.
      leaf_held off xs qs ranges r.0 h.2 r.1 b (subst (λ t. All IsNear (if t then quotients_at on xs else quotients_at off xs)) (negated_says f xs h.0 (subst (λ z. pos 0 ≤ℤ z) (short_value (negated f) xs qs (omega (arith, negated_width f, h.0))) m.0)) n) e m.1))
]
  where
    above : (z : ℤ) → pos 0 ≤ℤ z → int_le (pos 0) z ≡ true
    above z h = grind (arith, ints)
leaf_held (Div f (pos zero) rest) xs qs ranges l h i b n = absurd (omega (arith, ints, h.1))
leaf_held (Div f (negsuc k) rest) xs qs ranges l h i b n = absurd (omega (arith, ints, h.1))
leaf_held (Div f (pos (suc k)) rest) xs [] ranges l h i b n =
    let r = in_map (divided (length xs) f (pos (suc k))) (leaves_of (suc (length xs)) rest) l i in
    let o = leaf_over (suc (length xs)) rest r.0 h.2 r.1 in
    subst (Holds (xs ++ []) ranges) (sym r.2) (λ e m. absurd (omega (arith, o.more, e, length_append xs [])))
leaf_held (Div f (pos (suc k)) rest) xs (q ∷ qs) ranges l h i b n =
    let ys = xs ++ q ∷ [] in
    let r = in_map (divided (length xs) f (pos (suc k))) (leaves_of (suc (length xs)) rest) l i in
    let same : ys ++ qs ≡ xs ++ q ∷ qs = append_assoc xs (q ∷ []) qs in
    let wide : suc (length xs) ≡ length ys = sym (length_push xs q) in
    subst (Holds (xs ++ q ∷ qs) ranges) (sym r.2) (subst (λ zs. Holds zs ranges (divided (length xs) f (pos (suc k)) r.0)) same (λ e m.
    let c = met_both (ys ++ qs) (division_rows (length xs) f (pos (suc k))) (r.0).rows m in
    let d : Met ys (division_rows (length xs) f (pos (suc k))) = longer_met (division_rows (length xs) f (pos (suc k))) ys qs (subst (λ n. Narrow n (division_rows (length xs) f (pos (suc k)))) wide (division_narrow (length xs) f (pos (suc k)) h.0)) c.0 in
    let by : ℤ = pos (suc k) in
    let first : ℤ = floor_of (value f xs) by in
    let is : q ≡ first = (divisions_are_quotients f by q xs h.0 h.1).0 d in
    let long : length f.coefs ≡ length ranges = h.0 ∙ sym (box_length ranges xs b) in
    let range = quotient_range ranges f by in
    let keeps = quotients_keep_ranges ranges f by xs long h.1 b (All-head IsNear first (quotients_at rest (xs ++ first ∷ [])) n) in
    leaf_held rest ys qs (ranges ++ range ∷ []) r.0 (subst (λ n. Shaped n rest) wide h.2) (subst (λ n. IsIn r.0 (leaves_of n rest)) wide r.1)
    (box_push ranges xs range q b (subst (λ z. range.0 ≤ℤ z) (sym is) keeps.0) (subst (λ z. z ≤ℤ range.1) (sym is) keeps.1))
    (subst (λ z. All IsNear (quotients_at rest (xs ++ z ∷ []))) (sym is) (All-tail IsNear first (quotients_at rest (xs ++ first ∷ [])) n)) e c.1))
leaf_held (Source s forms) xs qs ranges l h (inl e) b n = subst (Holds (xs ++ qs) ranges) (sym e) (λ w m. subst (InBox ranges) (sym (none_more xs qs w)) b)
  where
    none_more : (xs qs : List ℤ) → length (xs ++ qs) ≡ length xs → xs ++ qs ≡ xs
    none_more [] [] w = refl
    none_more [] (q ∷ qs) w = absurd (omega (arith, w))
    none_more (x ∷ xs) qs w = ap (λ zs. x ∷ zs) (none_more xs qs (omega (arith, w)))
leaf_held (Source s forms) xs qs ranges l h (inr i) b n = absurd i
leaf_held Input xs qs ranges l h (inl e) b n = subst (Holds (xs ++ qs) ranges) (sym e) (λ w m. subst (InBox ranges) (sym (none_more xs qs w)) b)
  where
    none_more : (xs qs : List ℤ) → length (xs ++ qs) ≡ length xs → xs ++ qs ≡ xs
    none_more [] [] w = refl
    none_more [] (q ∷ qs) w = absurd (omega (arith, w))
    none_more (x ∷ xs) qs w = ap (λ zs. x ∷ zs) (none_more xs qs (omega (arith, w)))
leaf_held Input xs qs ranges l h (inr i) b n = absurd i

pub leaf_box : (tree : Tree) (xs qs : List ℤ) (ranges : List (ℤ × ℤ)) (l : Leaf) → Shaped (length xs) tree → IsIn l (leaves_of (length xs) tree) → InBox ranges xs → All (λ q. unsigned_abs q ≤ 2 ^ 60) (quotients_at tree xs)
    → length (xs ++ qs) ≡ l.columns → Met (xs ++ qs) l.rows → InBox (path_ranges ranges l.divisions) (xs ++ qs)
leaf_box tree xs qs ranges l h i b n e m = leaf_held tree xs qs ranges l h i b n e m

-- ---- Laws

pub leaf_is_boxed : LeafIsBoxed
leaf_is_boxed tree xs qs ranges l h i b n e m = leaf_box tree xs qs ranges l h i b n e m

pub ranges_of_leaf : RangesOfLeaf
ranges_of_leaf ranges l = record { each = path_ranges_long ranges l.divisions; near = path_ranges_near ranges l.divisions }

all_narrow : (n : ℕ) (rows : List Affine) → Narrow n rows → All (λ r. length r.coefs ≤ n) rows
all_narrow n [] h = All-nil (λ r. length r.coefs ≤ n)
all_narrow n (r ∷ rows) h = All-cons (λ r. length r.coefs ≤ n) r rows h.0 (all_narrow n rows h.1)

pub leaves_are_over : LeavesAreOver
leaves_are_over columns tree l h i =
    let o = leaf_over columns tree l h i in
    record { width = leaf_count columns tree l i; rows = all_narrow l.columns l.rows o.narrow; named = o.named }
