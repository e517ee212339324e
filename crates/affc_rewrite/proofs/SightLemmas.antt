-- Folded subscripts hold only names in sight.
use Rattle.std.proofs.Common.{◌≡◌, ℕ, zero, suc, ◌+◌, ◌-◌, ◌<◌, ◌≤◌, ℤ, pos, negsuc, Bool, true, false, ◌&&◌, IsTrue, if◌then◌else◌, List, [], ◌∷◌, ◌++◌, length, get_or, take, drop, map, min, Option, Some, None, refl, sym, ap, subst, ◌∙◌, inl, inr, arith, length-take, length-drop}
use Rattle.std.specs.Prelude.{slice_get, nat_eq, nat_le}
use Rattle.std.proofs.lemmas.Bool.{lt-ltb, leb-true}
use Rattle.affc_rows.specs.Forms.{Affine, composed_form}
use Rattle.affc_ast.specs.declared.tree.ArrayId.{ArrayId}
use Rattle.affc_ast.specs.declared.tree.Ix.{Ix}
use Rattle.affc_ast.specs.declared.tree.Ix.TheVariants.{Lit, Neg, Add, Sub, Mod}
use Rattle.affc_ast.specs.declared.tree.Program.{Program}
use Rattle.affc_ast.specs.declared.tree.Stmt.{Stmt}
use Rattle.affc_ast.specs.declared.tree.Stmt.TheVariants as s
use Rattle.affc_ast.specs.declared.tree.Stmt.TheBlock.{Row_of-Stmt, more_of-Stmt, end_of-Stmt}
use Rattle.affc_ast.specs.declared.tree.Val.{Val}
use Rattle.affc_ast.specs.declared.tree.Val.TheVariants as v
use Rattle.affc_ast.specs.declared.tree.Val.TheBlock.{more_of-Val, end_of-Val}
use Rattle.affc_ast.specs.Recursion.{by_stmt, by_each}
use Rattle.affc_ast.specs.Trace.{Assignment, assignments_step, joined}
use Rattle.affc_ast.proofs.Steps.{neg_here, add_here, sub_here, mul_here, mod_here, not_here, bin_here, shift_here, for_here, if_here, block_here, row_of, unrolled}
use Rattle.affc_trace.specs.Law.{IsIn}
use Rattle.affc_trace.specs.Target.{numbers_in}
use Rattle.affc_trace.proofs.Once.{in_append}
use Rattle.affc_domain.specs.Affine.{sees_step, sees, form_of}
use Rattle.affc_domain.specs.Plain.{is_plain, all_plain, plain_value}
use Rattle.affc_domain.proofs.FormLemmas.{form_width}
use Rattle.affc_domain.proofs.Lists.{both_true, true_both}
use Rattle.affc_domain.proofs.RangeLemmas.{numbers_are}
use Rattle.affc_loops.specs.Trees.{name_at, times, Term, and_more, sum_of, terms_from}
use Rattle.affc_basis.specs.declared.fold.Fold.{Fold}
use Rattle.affc_basis.specs.FoldLists.{AreFoldsIn}
use Rattle.affc_basis.specs.Folds.{forms_of}
use Rattle.affc_loops.proofs.Sizes.{all_at}
use Rattle.affc_foldloops.specs.Refolds.{Subscripts, refold_value, refold_step, each_under}
use Rattle.affc_foldloops.proofs.RefoldLemmas.{flat_is}
use Rattle.affc_foldloops.proofs.ReplaceLemmas.{fold_in}
use Rattle.affc_rewrite.specs.Rewrite.{is_one, is_unit, same_form, printed, component, components_from, at_work, subscripts_by, extent_forms, folded_subscripts}
use Rattle.affc_rewrite.specs.Sight.{all_see, value_sees_step, value_sees, IsInSight, FoldedInSight}
use Rattle.affc_rewrite.specs.Sizes.{all_under, accesses_step}
use Rattle.affc_rewrite.proofs.PlainBodies.{body_plain}
use Rattle.affc_rewrite.proofs.PrintedForms.{row_width}
use Rattle.affc_rewrite.proofs.WholeFolds.{works}

-- ---- A form as an expression

module _ (n : ℕ) where
  both : (a b : Ix) → IsTrue (sees n a) → IsTrue (sees n b) → sees n a && sees n b ≡ true
  both a b h g = true_both (sees n a) (sees n b) h g

  add_sees : (a b : Ix) → IsTrue (sees n a) → IsTrue (sees n b) → IsTrue (sees n (Add a b))
  add_sees a b h g = add_here (sees_step n) a b ∙ both a b h g

  sub_sees : (a b : Ix) → IsTrue (sees n a) → IsTrue (sees n b) → IsTrue (sees n (Sub a b))
  sub_sees a b h g = sub_here (sees_step n) a b ∙ both a b h g

  mod_sees : (a b : Ix) → IsTrue (sees n a) → IsTrue (sees n b) → IsTrue (sees n (Mod a b))
  mod_sees a b h g = mod_here (sees_step n) a b ∙ both a b h g

  name_sees : (x : ℕ) → x < n → IsTrue (sees n (name_at x))
  name_sees x l = lt-ltb x n l

  times_sees : (m x : ℕ) → x < n → IsTrue (sees n (times m x))
  times_sees zero x l = name_sees x l
  times_sees (suc m) x l = mul_here (sees_step n) (Lit (pos (suc (suc m)))) (name_at x) ∙ name_sees x l

  -- all names of the terms are in sight
  abbrev AllSeen : List Term → Type 0
  AllSeen [] = Unit {0}
  AllSeen ((c, x) ∷ ts) = (x < n) × AllSeen ts

  more_sees : (ts : List Term) (e : Ix) (c : ℤ) → IsTrue (sees n e) → AllSeen ts → IsTrue (sees n (and_more e ts c))
  more_sees [] e (pos zero) h t = h
  more_sees [] e (pos (suc k)) h t = add_sees e (Lit (pos (suc k))) h refl
  more_sees [] e (negsuc k) h t = sub_sees e (Lit (pos (suc k))) h refl
  more_sees ((pos zero, x) ∷ ts) e c h t = more_sees ts e c h t.1
  more_sees ((pos (suc m), x) ∷ ts) e c h t = more_sees ts (Add e (times m x)) c (add_sees e (times m x) h (times_sees m x t.0)) t.1
  more_sees ((negsuc m, x) ∷ ts) e c h t = more_sees ts (Sub e (times m x)) c (sub_sees e (times m x) h (times_sees m x t.0)) t.1

  sum_sees : (ts : List Term) (c : ℤ) → AllSeen ts → IsTrue (sees n (sum_of ts c))
  sum_sees [] (pos k) t = refl
  sum_sees [] (negsuc k) t = neg_here (sees_step n) (Lit (pos (suc k)))
  sum_sees ((pos zero, x) ∷ ts) c t = sum_sees ts c t.1
  sum_sees ((pos (suc m), x) ∷ ts) c t = more_sees ts (times m x) c (times_sees m x t.0) t.1
  sum_sees ((negsuc m, x) ∷ ts) c t = more_sees ts (Neg (times m x)) c (neg_here (sees_step n) (times m x) ∙ times_sees m x t.0) t.1

  terms_seen : (cs : List ℤ) (from : ℕ) → from + length cs ≤ n → AllSeen (terms_from from cs)
  terms_seen [] from l = tt
  terms_seen (c ∷ cs) from l = (omega arith, terms_seen cs (suc from) (omega arith))

  seen_append : (ts us : List Term) → AllSeen ts → AllSeen us → AllSeen (ts ++ us)
  seen_append [] us h g = g
  seen_append ((c, x) ∷ ts) us h g = (h.0, seen_append ts us h.1 g)

  printed_sees : (first : ℕ) (f : Affine) → first ≤ n → length f.coefs ≤ n → IsTrue (sees n (printed first f))
  printed_sees first f l w =
      let dropped : length (drop first f.coefs) ≡ length f.coefs - first = length-drop first f.coefs in
      let taken : length (take first f.coefs) ≡ min first (length f.coefs) = length-take first f.coefs in
      sum_sees (terms_from first (drop first f.coefs) ++ terms_from 0 (take first f.coefs)) f.constant
      (seen_append (terms_from first (drop first f.coefs)) (terms_from 0 (take first f.coefs)) (terms_seen (drop first f.coefs) first (omega arith)) (terms_seen (take first f.coefs) 0 (omega arith)))

  plain_sees : (e : Ix) → IsTrue (is_plain n e) → IsTrue (sees n e)
  plain_sees e h = (both_true (sees n e) _ h).0

  all_plain_see : (es : List Ix) → IsTrue (all_plain n es) → IsTrue (all_see n es)
  all_plain_see [] h = refl
  all_plain_see (e ∷ es) h = let a = both_true (is_plain n e) (all_plain n es) h in true_both (sees n e) (all_see n es) (plain_sees e a.0) (all_plain_see es a.1)

  -- ---- Components

  component_sees : (first : ℕ) (gs : List Affine) (k : ℕ) (row b extent : Affine) (own : Ix) → first ≤ n → length b.coefs ≤ n → length (composed_form row gs).coefs ≤ n → IsTrue (sees n own)
      → IsTrue (sees n (component first gs k row b extent own))
  component_sees first gs k row b extent own l w g h = by (is_one b) (is_unit k row && same_form b extent)
    where
      by : (t u : Bool) → IsTrue (sees n (if t then Lit (pos 0) else (if u then own else Mod (printed first (composed_form row gs)) (printed first b))))
      by true u = refl
      by false true = h
      by false false = mod_sees (printed first (composed_form row gs)) (printed first b) (printed_sees first (composed_form row gs) l g) (printed_sees first b l w)

  components_see : (first : ℕ) (gs : List Affine) (k : ℕ) (rows moduli extents : List Affine) (own : List Ix) → first ≤ n → ((j : ℕ) (b : Affine) → slice_get moduli j ≡ Some b → length b.coefs ≤ n)
      → ((row : Affine) → length (composed_form row gs).coefs ≤ n) → IsTrue (all_see n own) → IsTrue (all_see n (components_from first gs k rows moduli extents own))
  components_see first gs k [] moduli extents own l w g h = refl
  components_see first gs k (row ∷ rows) [] extents own l w g h = refl
  components_see first gs k (row ∷ rows) (b ∷ moduli) [] own l w g h = refl
  components_see first gs k (row ∷ rows) (b ∷ moduli) (extent ∷ extents) [] l w g h = refl
  components_see first gs k (row ∷ rows) (b ∷ moduli) (extent ∷ extents) (e ∷ own) l w g h =
      let a = both_true (sees n e) (all_see n own) h in
      true_both (sees n (component first gs k row b extent e)) (all_see n (components_from first gs (suc k) rows moduli extents own))
      (component_sees first gs k row b extent e l (w 0 b refl) (g row) a.0) (components_see first gs (suc k) rows moduli extents own l (λ j c f. w (suc j) c f) g a.1)

  widths : (es : List Ix) (row : Affine) → length (composed_form row (map (form_of n 0) es)).coefs ≤ n
  widths [] row = let w : length (composed_form row []).coefs ≡ 0 = row_width row [] in omega arith
  widths (e ∷ es) row =
      let w : length (composed_form row (map (form_of n 0) (e ∷ es))).coefs ≡ length (form_of n 0 e).coefs = row_width row (map (form_of n 0) (e ∷ es)) in
      let f : length (form_of n 0 e).coefs ≡ n + 0 = form_width n 0 e in
      omega arith

module _ (source : Program) (folds : List (ArrayId × Fold)) (are : AreFoldsIn source folds) where
  abbrev first : ℕ
  first = numbers_in source.params

  abbrev at : Subscripts
  at = folded_subscripts source folds

  at_sees : (n : ℕ) (array : ArrayId) (subs : List Ix) → first ≤ n → IsTrue (all_plain n subs) → IsTrue (all_see n (at n array subs))
  at_sees n array subs l h = by (at_work (extent_forms source) folds array.0) refl
    where
      extents : List Affine
      extents = get_or (extent_forms source) array.0 []

      by : (o : Option Fold) → at_work (extent_forms source) folds array.0 ≡ o → IsTrue (all_see n (subscripts_by o first n extents subs))
      by None e = all_plain_see n subs h
      by (Some fold) e = by_count (nat_eq (length subs) (length fold.basis.rows))
        where
          by_count : (t : Bool) → IsTrue (all_see n (if t then components_from first (map (form_of n 0) subs) 0 fold.basis.rows (forms_of fold.moduli) extents subs else subs))
          by_count false = all_plain_see n subs h
          by_count true =
              components_see n first (map (form_of n 0) subs) 0 fold.basis.rows (forms_of fold.moduli) extents subs l
              (λ j b f.
              let w : length b.coefs ≡ first = all_at (λ (g : Affine). length g.coefs ≡ first) (forms_of fold.moduli) j b (fold_in source folds are array.0 fold (works (extent_forms source) folds array.0 fold e)).moduli f in
              omega arith)
              (λ row. widths n subs row) (all_plain_see n subs h)

  value_at_sees : (n : ℕ) (e : Val) → first ≤ n → plain_value e n ≡ true → value_sees n (refold_value at n e) ≡ true
  value_at_sees n (v.Load array subs) l h = at_sees n array subs l h
  value_at_sees n (v.Const k) l h = refl
  value_at_sees n (v.Cast e) l h = plain_sees n e h
  value_at_sees n (v.Not' t (more_of-Val a end_of-Val)) l h = not_here (value_sees_step n) (refold_value at n a) ∙ value_at_sees n a l h
  value_at_sees n (v.Shift' left t (more_of-Val a end_of-Val) by) l h = shift_here (value_sees_step n) left (refold_value at n a) by ∙ value_at_sees n a l h
  value_at_sees n (v.Bin' op t (more_of-Val a end_of-Val) u (more_of-Val b end_of-Val)) l h =
      let q = both_true (plain_value a n) (plain_value b n) h in
      bin_here (value_sees_step n) op (refold_value at n a) (refold_value at n b) ∙ true_both (value_sees n (refold_value at n a)) (value_sees n (refold_value at n b)) (value_at_sees n a l q.0) (value_at_sees n b l q.1)

  abbrev joined_under : List (ℕ → Stmt) → ℕ → List Assignment
  joined_under fs n = joined (map (by_stmt assignments_step) (each_under fs n))

  mutual
    stmt_sees : (x : Stmt) (n : ℕ) (a : Assignment) → first ≤ n → n ≤ 16 → by_stmt accesses_step x n ≡ true → IsIn a (by_stmt assignments_step (by_stmt (refold_step at) x n)) → IsInSight a
    stmt_sees (s.For' iter low rel high shape body) n a l few h i =
        let q = both_true (nat_le (n + 1) 16) (all_under (by_each accesses_step body) (n + 1)) h in
        let next : n + 1 ≡ suc n = omega arith in
        let less : n + 1 ≤ 16 = leb-true (n + 1) 16 q.0 in
        row_sees body (suc n) a (omega arith) (omega arith) (subst (λ m. all_under (by_each accesses_step body) m ≡ true) next q.1)
        (subst (IsIn a) (for_here assignments_step iter low rel high (each_under (by_each (refold_step at) body) (suc n))) i)
    stmt_sees (s.If' cond shape body shape' other) n a l few h i =
        let q = both_true (all_under (by_each accesses_step body) n) (all_under (by_each accesses_step other) n) h in
        elim (in_append (joined_under (by_each (refold_step at) body) n) (joined_under (by_each (refold_step at) other) n) a
        (subst (IsIn a) (if_here assignments_step cond (each_under (by_each (refold_step at) body) n) (each_under (by_each (refold_step at) other) n)) i)) [
          | inl j ↦ row_sees body n a l few q.0 j
          | inr j ↦ row_sees other n a l few q.1 j
        ]
    stmt_sees (s.Assign op array subs value) n a l few h (inl e) =
        let q = both_true (all_plain n subs) (plain_value value n) h in
        subst IsInSight (sym e) (record { names = n; few = few; subs = at_sees n array subs l q.0; value = value_at_sees n value l q.1 })
    stmt_sees (s.Assign op array subs value) n a l few h (inr i) = absurd i
    stmt_sees (s.Block' locals shape body) n a l few h i =
        let q = both_true (nat_le (n + length locals) 16) (all_under (by_each accesses_step body) (n + length locals)) h in
        let less : n + length locals ≤ 16 = leb-true (n + length locals) 16 q.0 in
        row_sees body (n + length locals) a (omega arith) less q.1 (subst (IsIn a) (block_here assignments_step locals (each_under (by_each (refold_step at) body) (n + length locals))) i)

    row_sees : {m : _} (body : Row_of-Stmt m) (n : ℕ) (a : Assignment) → first ≤ n → n ≤ 16 → all_under (by_each accesses_step body) n ≡ true → IsIn a (joined_under (by_each (refold_step at) body) n) → IsInSight a
    row_sees end_of-Stmt n a l few h i = absurd i
    row_sees (more_of-Stmt x rest) n a l few h i =
        let q = both_true (by_stmt accesses_step x n) (all_under (by_each accesses_step rest) n) h in
        elim (in_append (by_stmt assignments_step (by_stmt (refold_step at) x n)) (joined_under (by_each (refold_step at) rest) n) a i) [
          | inl j ↦ stmt_sees x n a l few q.0 j
          | inr j ↦ row_sees rest n a l few q.1 j
        ]

pub folded_in_sight : FoldedInSight
folded_in_sight source folds a plain are i =
    let at : Subscripts = folded_subscripts source folds in
    let n : ℕ = numbers_in source.params in
    let count = numbers_are source.params in
    let few = plain.few_numbers in
    row_sees source folds are (row_of source.body) n a (omega arith) (omega (arith, count, few)) (ap (λ fs. all_under fs n) (sym (unrolled accesses_step source.body)) ∙ body_plain source n plain count)
    (subst (IsIn a)
    (ap (λ fs. joined (map (by_stmt assignments_step) (each_under fs n))) (unrolled (refold_step at) source.body))
    (subst (IsIn a) (flat_is (by_stmt assignments_step) (each_under (map (by_stmt (refold_step at)) source.body) n)) i))
