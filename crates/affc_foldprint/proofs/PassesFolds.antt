-- With folds a program's expressions are plain, and it has as few statements, accesses and dimensions.
use Rattle.std.proofs.Common.{◌≡◌, ℕ, suc, ◌+◌, ◌^◌, ◌≤◌, Bool, true, true≢false, ◌&&◌, nat_lt, List, [], ◌∷◌, length, get_or, map, Option, Some, None, refl, sym, ap, subst, ◌∙◌, arith}
use Rattle.std.specs.Prelude.{nat_le, unsigned_abs, slice_get}
use Rattle.std.specs.List.{list_all}
use Rattle.std.proofs.lemmas.Bool.{and_parts, and_from, ltb-true, le-leb}
use Rattle.affc_rows.specs.Forms.{Affine}
use Rattle.affc_ast.specs.declared.tree.ArrayId.{ArrayId}
use Rattle.affc_ast.specs.declared.tree.Decl.{Decl}
use Rattle.affc_ast.specs.declared.tree.Ix.{Ix}
use Rattle.affc_ast.specs.declared.tree.Op.{Op}
use Rattle.affc_ast.specs.declared.tree.Ix.TheVariants.{Mod}
use Rattle.affc_ast.specs.declared.tree.Program.{Program}
use Rattle.affc_ast.specs.declared.tree.Stmt.{Stmt}
use Rattle.affc_ast.specs.declared.tree.Stmt.TheVariants as s
use Rattle.affc_ast.specs.declared.tree.Stmt.TheOpen as layer
use Rattle.affc_ast.specs.declared.tree.Stmt.TheOpen.{Stmt-F}
use Rattle.affc_ast.specs.declared.tree.Stmt.TheBlock.{Row_of-Stmt, more_of-Stmt, end_of-Stmt}
use Rattle.affc_ast.specs.declared.tree.Val.{Val}
use Rattle.affc_ast.specs.declared.tree.Val.TheVariants as v
use Rattle.affc_ast.specs.declared.tree.Val.TheBlock.{more_of-Val, end_of-Val}
use Rattle.affc_ast.specs.Meaning.{arrays_of}
use Rattle.affc_ast.specs.Fits.{all_true}
use Rattle.affc_ast.specs.Pieces.{comparisons_of}
use Rattle.affc_ast.specs.Recursion.{by_stmt, by_each}
use Rattle.affc_ast.proofs.Steps.{mod_here, not_here, bin_here, shift_here, for_here, if_here, block_here, row_of, unrolled}
use Rattle.affc_trace.specs.Target.{numbers_in}
use Rattle.affc_domain.specs.Plain as domain
use Rattle.affc_domain.specs.Plain.{IsPlain, all_plain, plain_value, plain_cond, is_upward, all_of, plain_step}
use Rattle.affc_domain.specs.Accesses.{accesses_of}
use Rattle.affc_domain.specs.Ranges.{number_ranges}
use Rattle.affc_domain.proofs.Lists.{both_true, length_map}
use Rattle.affc_cprint.specs.Forms.{form, form_step, compare_passes, cond_passes, value_step, value_passes, param_passes, decl_passes, stmt_step, stmt_passes, program_passes}
use Rattle.affc_cprint.proofs.ReadBackValues.{Each}
use Rattle.affc_wellnamed.specs.Plain.{is_plain}
use Rattle.affc_wellnamed.specs.Work as works
use Rattle.affc_wellnamed.specs.Work.{load_step, loads, one_work, no_work, stmts_behind, is_bounded, param_fits, has_few, fits_step, stmt_fits, program_fits}
use Rattle.affc_wellnamed.specs.Known.{number_count}
use Rattle.affc_wellnamed.specs.Shape.{plus}
use Rattle.affc_domain.proofs.RangeLemmas.{numbers_are}
use Rattle.affc_loopprint.proofs.Sums.{SumCases, sums_plain, narrow_has}
use Rattle.affc_basis.specs.declared.fold.Fold.{Fold}
use Rattle.affc_basis.specs.FoldLists.{AreFoldsIn}
use Rattle.affc_basis.specs.Folds.{forms_of}
use Rattle.affc_foldloops.specs.Refolds.{Subscripts, refold_value, refold_step, each_under}
use Rattle.affc_rewrite.specs.Rewrite.{printed, at_work, decl_by, decls_from, extent_forms, fold_at_work, folded_subscripts, folded_program, KeepLimits}
use Rattle.affc_rewrite.specs.Sizes.{IsPrintable}
use Rattle.affc_rewrite.proofs.Foldings.{few_rows}
use Rattle.affc_foldprint.proofs.Components.{at_have, moduli_are}

-- what holds of every kind of sum holds of a printed form
pub printed_has : (P : Ix → Type 0) (names n first : ℕ) (f : Affine) → SumCases P names → IsPrintable n f → n ≤ names → first ≤ n → P (printed first f)
printed_has P names n first f cases is l m =
    let w = is.width in
    let k = is.constant in
    narrow_has P names cases first first f (λ i y j. let c : unsigned_abs (get_or f.coefs i y) ≤ 2 ^ 30 = is.coefs i y j in omega (arith, c)) (omega (arith, k)) (omega (arith, l, m)) (omega (arith, w, l, m))

-- ---- Plain expressions

four : (a b c d : Bool) → a && b ≡ true → c && d ≡ true → (a && c) && (b && d) ≡ true
four a b c d h k =
    let p = and_parts a b h in
    let q = and_parts c d k in
    and_from _ _ (and_from _ _ p.0 q.0) (and_from _ _ p.1 q.1)

pub remainder_plain : (a b : Ix) → is_plain a ≡ true → is_plain b ≡ true → is_plain (Mod a b) ≡ true
remainder_plain a b h k = ap (λ f. f.affine && f.small) (mod_here form_step a b) ∙ four (form a).affine (form a).small (form b).affine (form b).small h k

abbrev PlainEach : List Ix → Type 0
PlainEach es = Each (λ e. is_plain e ≡ true) es

to_each : (es : List Ix) → list_all is_plain es ≡ true → PlainEach es
to_each [] h = tt
to_each (e ∷ es) h = let p = and_parts (is_plain e) (list_all is_plain es) h in (p.0, to_each es p.1)

from_each : (es : List Ix) → PlainEach es → list_all is_plain es ≡ true
from_each [] h = refl
from_each (e ∷ es) h = and_from _ _ h.0 (from_each es h.1)

module _ (source : Program) (folds : List (ArrayId × Fold)) (plain : IsPlain source) (are : AreFoldsIn source folds) (limits : KeepLimits source folds) where
  abbrev fresh : Subscripts
  fresh = folded_subscripts source folds

  abbrev numbers : ℕ
  numbers = length (number_ranges source.params)

  abbrev first : ℕ
  first = numbers_in source.params

  printed_plain : (n : ℕ) (f : Affine) → IsPrintable n f → first ≤ n → is_plain (printed first f) ≡ true
  printed_plain n f is l = printed_has (λ e. is_plain e ≡ true) n n first f (sums_plain n) is (omega arith) l

  access_plain : (n : ℕ) (array : ArrayId) (subs : List Ix) → n ≤ 16 → first ≤ n → all_plain n subs ≡ true → list_all is_plain subs ≡ true → list_all is_plain (fresh n array subs) ≡ true
  access_plain n array subs short l h k =
      from_each (fresh n array subs)
      (at_have source folds plain are limits (λ e. is_plain e ≡ true) n array subs short h (to_each subs k) refl
      (λ f b r. remainder_plain (printed first f) (printed first b) (printed_plain n f r.row l) (printed_plain first b r.modulus (omega arith))))

  fold_value_plain : (n : ℕ) (e : Val) → n ≤ 16 → first ≤ n → plain_value e n ≡ true → value_passes is_plain e ≡ true → value_passes is_plain (refold_value fresh n e) ≡ true
  fold_value_plain n (v.Load array subs) short l h k = access_plain n array subs short l h k
  fold_value_plain n (v.Const c) short l h k = refl
  fold_value_plain n (v.Cast e) short l h k = k
  fold_value_plain n (v.Not' s (more_of-Val a end_of-Val)) short l h k = not_here (value_step is_plain) (refold_value fresh n a) ∙ fold_value_plain n a short l h k
  fold_value_plain n (v.Shift' left s (more_of-Val a end_of-Val) by) short l h k = shift_here (value_step is_plain) left (refold_value fresh n a) by ∙ fold_value_plain n a short l h k
  fold_value_plain n (v.Bin' op s (more_of-Val a end_of-Val) t (more_of-Val b end_of-Val)) short l h k =
      let p = both_true (plain_value a n) (plain_value b n) h in
      let q = and_parts (value_passes is_plain a) (value_passes is_plain b) k in
      bin_here (value_step is_plain) op (refold_value fresh n a) (refold_value fresh n b) ∙ and_from _ _ (fold_value_plain n a short l p.0 q.0) (fold_value_plain n b short l p.1 q.1)

  abbrev passes : Stmt-F Bool → Bool
  passes = stmt_step is_plain

  abbrev all : List Bool → Bool
  all bs = list_all (λ b. b) bs

  names_few : (n k : ℕ) → n ≡ numbers + k → k ≤ 6 → (n ≤ 16) × (first ≤ n)
  names_few n k e l = let few = plain.few_numbers in let q = numbers_are source.params in (omega (arith, e, l, few), omega (arith, e, q))

  mutual
    stmt_plain : (x : Stmt) (n k c : ℕ) → n ≡ numbers + k → k ≤ 6 → by_stmt (plain_step numbers) x k c ≡ true → by_stmt passes x ≡ true → by_stmt passes (by_stmt (refold_step fresh) x n) ≡ true
    stmt_plain (s.For' iter low rel high shape body) n k c e l g h =
        let d = both_true (nat_lt k 6) _ g in
        let u = both_true (is_upward rel) _ d.1 in
        let a = both_true (domain.is_plain (numbers + k) low) _ u.1 in
        let b = both_true (domain.is_plain (numbers + k) high) _ a.1 in
        let less = ltb-true k 6 d.0 in
        let p = and_parts (is_plain low) _ h in
        let q = and_parts (is_plain high) (all (by_each passes body)) p.1 in
        for_here passes iter low rel high (each_under (by_each (refold_step fresh) body) (suc n))
        ∙ and_from _ _ p.0 (and_from _ _ q.0 (row_plain body (suc n) (suc k) c (omega (arith, e)) (omega (arith, less)) b.1 q.1))
    stmt_plain (s.If' cond shape body shape' other) n k c e l g h =
        let d = c + comparisons_of cond in
        let a = both_true (plain_cond (numbers + k) cond) _ g in
        let b = both_true (all_of (by_each (plain_step numbers) body) k d) (all_of (by_each (plain_step numbers) other) k d) a.1 in
        let p = and_parts (cond_passes is_plain cond) _ h in
        let q = and_parts (all (by_each passes body)) (all (by_each passes other)) p.1 in
        if_here passes cond (each_under (by_each (refold_step fresh) body) n) (each_under (by_each (refold_step fresh) other) n)
        ∙ and_from _ _ p.0 (and_from _ _ (row_plain body n k d e l b.0 q.0) (row_plain other n k d e l b.1 q.1))
    stmt_plain (s.Assign op array subs value) n k c e l g h =
        let d = both_true (nat_le c 32) _ g in
        let a = both_true (nat_le (length (accesses_of (record { op = op; array = array; subs = subs; value = value }))) 16) _ d.1 in
        let b = both_true (all_plain (numbers + k) subs) (plain_value value (numbers + k)) a.1 in
        let p = and_parts (list_all is_plain subs) (value_passes is_plain value) h in
        let w = names_few n k e l in
        and_from _ _ (access_plain n array subs w.0 w.1 (ap (λ m. all_plain m subs) e ∙ b.0) p.0) (fold_value_plain n value w.0 w.1 (ap (plain_value value) e ∙ b.1) p.1)
    stmt_plain (s.Block' [] shape body) n k c e l g h = block_here passes [] (each_under (by_each (refold_step fresh) body) (n + 0)) ∙ row_plain body (n + 0) k c (omega (arith, e)) l g h
    stmt_plain (s.Block' (local ∷ locals) shape body) n k c e l g h = absurd (true≢false (sym g))

    row_plain : {m : _} (body : Row_of-Stmt m) (n k c : ℕ) → n ≡ numbers + k → k ≤ 6 → all_of (by_each (plain_step numbers) body) k c ≡ true → all (by_each passes body) ≡ true
        → all (map (by_stmt passes) (each_under (by_each (refold_step fresh) body) n)) ≡ true
    row_plain end_of-Stmt n k c e l g h = refl
    row_plain (more_of-Stmt x rest) n k c e l g h =
        let p = both_true (by_stmt (plain_step numbers) x k c) (all_of (by_each (plain_step numbers) rest) k c) g in
        let q = and_parts (by_stmt passes x) (all (by_each passes rest)) h in
        and_from _ _ (stmt_plain x n k c e l p.0 q.0) (row_plain rest n k c e l p.1 q.1)

  -- ---- Temporaries

  moduli_plain : (bs : List Affine) → ((j : ℕ) (b : Affine) → slice_get bs j ≡ Some b → IsPrintable first b) → list_all is_plain (map (printed first) bs) ≡ true
  moduli_plain [] h = refl
  moduli_plain (b ∷ bs) h = and_from _ _ (printed_plain first b (h 0 b refl) (omega arith)) (moduli_plain bs (λ j c e. h (suc j) c e))

  decl_plain : (array : ℕ) (d : Decl) → decl_passes is_plain d ≡ true → (o : Option Fold) → fold_at_work source folds array ≡ o → decl_passes is_plain (decl_by o first d) ≡ true
  decl_plain array d h None e = h
  decl_plain array d h (Some fold) e = moduli_plain (forms_of fold.moduli) (moduli_are source folds plain are limits array fold e)

  decls_plain : (array : ℕ) (ds : List Decl) → list_all (decl_passes is_plain) ds ≡ true → list_all (decl_passes is_plain) (decls_from first (extent_forms source) folds array ds) ≡ true
  decls_plain array [] h = refl
  decls_plain array (d ∷ ds) h =
      let p = and_parts (decl_passes is_plain d) (list_all (decl_passes is_plain) ds) h in
      and_from _ _ (decl_plain array d p.0 (fold_at_work source folds array) refl) (decls_plain (suc array) ds p.1)

  ids : (body : List Stmt) → all (map (by_stmt passes) body) ≡ list_all (stmt_passes is_plain) body
  ids [] = refl
  ids (x ∷ body) = ap (λ b. stmt_passes is_plain x && b) (ids body)

  body_plain : list_all (stmt_passes is_plain) source.body ≡ true → list_all (stmt_passes is_plain) (folded_program source folds).body ≡ true
  body_plain h =
      let q = numbers_are source.params in
      sym (ids (folded_program source folds).body)
      ∙ ap (λ fs. all (map (by_stmt passes) (each_under fs first))) (unrolled (refold_step fresh) source.body)
      ∙ row_plain (row_of source.body) first 0 0 (omega (arith, q)) (omega arith) (subst (λ fs. all_of fs 0 0 ≡ true) (unrolled (plain_step numbers) source.body) plain.body)
      (ap all (sym (unrolled passes source.body)) ∙ ids source.body ∙ h)

  pub folded_passes : program_passes is_plain source ≡ true → program_passes is_plain (folded_program source folds) ≡ true
  folded_passes h =
      let p = and_parts ((list_all (compare_passes is_plain) source.context && list_all (param_passes is_plain) source.params) && list_all (decl_passes is_plain) source.temps) _ h in
      let q = and_parts (list_all (compare_passes is_plain) source.context && list_all (param_passes is_plain) source.params) (list_all (decl_passes is_plain) source.temps) p.0 in
      and_from _ _ (and_from _ _ q.0 (decls_plain (length (arrays_of source.params)) source.temps q.1)) (body_plain p.1)

-- ---- Work

module _ (at : Subscripts) where
  fold_loads : (n : ℕ) (e : Val) → loads (refold_value at n e) ≡ loads e
  fold_loads n (v.Load array subs) = refl
  fold_loads n (v.Const c) = refl
  fold_loads n (v.Cast e) = refl
  fold_loads n (v.Not' s (more_of-Val a end_of-Val)) = not_here load_step (refold_value at n a) ∙ fold_loads n a
  fold_loads n (v.Bin' op s (more_of-Val a end_of-Val) t (more_of-Val b end_of-Val)) =
      bin_here load_step op (refold_value at n a) (refold_value at n b) ∙ ap (λ z. plus z (loads (refold_value at n b))) (fold_loads n a) ∙ ap (plus (loads a)) (fold_loads n b)
  fold_loads n (v.Shift' left s (more_of-Val a end_of-Val) by) = shift_here load_step left (refold_value at n a) by ∙ fold_loads n a

  -- what is counted or tested of a statement, where it is the same of its assignments
  module _ {A : Type 0} (f : Stmt-F A → A)
      (assigns : (op : Option Op) (array : ArrayId) (subs : List Ix) (value : Val) (n : ℕ) → f (layer.Assign op array (at n array subs) (refold_value at n value)) ≡ f (layer.Assign op array subs value)) where
    mutual
      stmt_same : (x : Stmt) (n : ℕ) → by_stmt f (by_stmt (refold_step at) x n) ≡ by_stmt f x
      stmt_same (s.For' iter low rel high shape body) n =
          for_here f iter low rel high (each_under (by_each (refold_step at) body) (suc n)) ∙ ap (λ l. f (layer.For iter low rel high l)) (row_same body (suc n))
      stmt_same (s.If' cond shape body shape' other) n =
          if_here f cond (each_under (by_each (refold_step at) body) n) (each_under (by_each (refold_step at) other) n)
          ∙ ap (λ l. f (layer.If cond l (map (by_stmt f) (each_under (by_each (refold_step at) other) n)))) (row_same body n) ∙ ap (λ l. f (layer.If cond (by_each f body) l)) (row_same other n)
      stmt_same (s.Assign op array subs value) n = assigns op array subs value n
      stmt_same (s.Block' locals shape body) n =
          block_here f locals (each_under (by_each (refold_step at) body) (n + length locals)) ∙ ap (λ l. f (layer.Block locals l)) (row_same body (n + length locals))

      row_same : {m : _} (body : Row_of-Stmt m) (n : ℕ) → map (by_stmt f) (each_under (by_each (refold_step at) body) n) ≡ by_each f body
      row_same end_of-Stmt n = refl
      row_same (more_of-Stmt x rest) n = ap (λ y. y ∷ map (by_stmt f) (each_under (by_each (refold_step at) rest) n)) (stmt_same x n) ∙ ap (λ l. by_stmt f x ∷ l) (row_same rest n)

    body_same : (body : List Stmt) (n : ℕ) → map (by_stmt f) (each_under (map (by_stmt (refold_step at)) body) n) ≡ map (by_stmt f) body
    body_same body n = ap (λ fs. map (by_stmt f) (each_under fs n)) (unrolled (refold_step at) body) ∙ row_same (row_of body) n ∙ sym (unrolled f body)

decl_few : (parameters : ℕ) (d : Decl) → has_few d ≡ true → (o : Option Fold) → has_few (decl_by o parameters d) ≡ true
decl_few parameters d h None = h
decl_few parameters d h (Some fold) =
    let a = length_map (printed parameters) (forms_of fold.moduli) in
    let b : length (forms_of fold.moduli) ≡ length fold.moduli = length_map (λ m. m.form) fold.moduli in
    let c = fold.one_each in
    let few = few_rows fold in
    le-leb (length (map (printed parameters) (forms_of fold.moduli))) 4 (omega (arith, a, b, c, few))

decls_few : (parameters : ℕ) (extents : List (List Affine)) (folds : List (ArrayId × Fold)) (array : ℕ) (ds : List Decl) → list_all has_few ds ≡ true → list_all has_few (decls_from parameters extents folds array ds) ≡ true
decls_few parameters extents folds array [] h = refl
decls_few parameters extents folds array (d ∷ ds) h =
    let p = and_parts (has_few d) (list_all has_few ds) h in
    and_from _ _ (decl_few parameters d p.0 (at_work extents folds array)) (decls_few parameters extents folds (suc array) ds p.1)

pub folded_fits : (source : Program) (folds : List (ArrayId × Fold)) → program_fits source ≡ true → program_fits (folded_program source folds) ≡ true
folded_fits source folds h =
    let p = and_parts (nat_le (number_count source.params) 4 && nat_le (length source.context) 16) _ h in
    let q = and_parts (list_all param_fits source.params && list_all has_few source.temps) (is_bounded (stmts_behind no_work source.body) && all_true (map stmt_fits source.body)) p.1 in
    let t = and_parts (is_bounded (stmts_behind no_work source.body)) (all_true (map stmt_fits source.body)) q.1 in
    let fresh = folded_subscripts source folds in
    let first = numbers_in source.params in
    let r = and_parts (list_all param_fits source.params) (list_all has_few source.temps) q.0 in
    and_from _ _ p.0
    (and_from _ _ (and_from _ _ r.0 (decls_few (numbers_in source.params) (extent_forms source) folds (length (arrays_of source.params)) source.temps r.1))
    (and_from (is_bounded (stmts_behind no_work (folded_program source folds).body)) _
    (ap (λ ws. is_bounded (works.all_behind no_work ws)) (body_same fresh works.stmt_step (λ op array subs value n. ap (one_work op) (fold_loads fresh n value)) source.body first) ∙ t.0)
    (ap all_true (body_same fresh fits_step (λ op array subs value n. refl) source.body first) ∙ t.1)))
