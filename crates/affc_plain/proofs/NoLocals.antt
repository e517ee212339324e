-- A plain program has no locals.
use Rattle.std.proofs.Common.{◌≡◌, ℕ, suc, ◌+◌, true, List, [], ◌∷◌, length, map, refl}
use Rattle.std.specs.Prelude.{nat_lt}
use Rattle.std.proofs.lemmas.Bool.{false≢true}
use Rattle.affc_ast.specs.declared.tree.Stmt.{Stmt}
use Rattle.affc_ast.specs.declared.tree.Stmt.TheVariants as s
use Rattle.affc_ast.specs.declared.tree.Stmt.TheBlock.{Row_of-Stmt, more_of-Stmt, end_of-Stmt}
use Rattle.affc_ast.specs.Pieces.{comparisons_of}
use Rattle.affc_ast.specs.Recursion.{by_stmt, by_each}
use Rattle.affc_trace.specs.Effects.{all_true, plain_step as bare_step}
use Rattle.affc_trace.proofs.Members.{both_hold, hold_both}
use Rattle.affc_domain.specs.Plain.{is_plain, plain_cond, is_upward, all_of, plain_step}
use Rattle.affc_domain.specs.Ranges.{number_ranges}
use Rattle.affc_plain.specs.Laws.{PlainHasNoLocals}

module _ (m : ℕ) where
  mutual
    one_bare : (x : Stmt) (k c : ℕ) → by_stmt (plain_step m) x k c ≡ true → by_stmt bare_step x ≡ true
    one_bare (s.For' iter low rel high shape body) k c h =
        let a = both_hold (nat_lt k 6) _ h in
        let b = both_hold (is_upward rel) _ a.1 in
        let d = both_hold (is_plain (m + k) low) _ b.1 in
        each_bare body (suc k) c (both_hold (is_plain (m + k) high) _ d.1).1
    one_bare (s.If' cond shape body shape' other) k c h =
        let a = both_hold (plain_cond (m + k) cond) _ h in
        let n = c + comparisons_of cond in
        let b = both_hold (all_of (by_each (plain_step m) body) k n) (all_of (by_each (plain_step m) other) k n) a.1 in
        hold_both (all_true (by_each bare_step body)) (all_true (by_each bare_step other)) (each_bare body k n b.0) (each_bare other k n b.1)
    one_bare (s.Assign op array subs value) k c h = refl
    one_bare (s.Block' [] shape body) k c h = each_bare body k c h
    one_bare (s.Block' (l ∷ ls) shape body) k c h = absurd (false≢true h)

    each_bare : {n : _} (body : Row_of-Stmt n) (k c : ℕ) → all_of (by_each (plain_step m) body) k c ≡ true → all_true (by_each bare_step body) ≡ true
    each_bare end_of-Stmt k c h = refl
    each_bare (more_of-Stmt x rest) k c h =
        let a = both_hold (by_stmt (plain_step m) x k c) _ h in
        hold_both (by_stmt bare_step x) (all_true (by_each bare_step rest)) (one_bare x k c a.0) (each_bare rest k c a.1)

  all_bare : (xs : List Stmt) → all_of (map (by_stmt (plain_step m)) xs) 0 0 ≡ true → all_true (map (by_stmt bare_step) xs) ≡ true
  all_bare [] h = refl
  all_bare (x ∷ xs) h =
      let a = both_hold (by_stmt (plain_step m) x 0 0) _ h in
      hold_both (by_stmt bare_step x) (all_true (map (by_stmt bare_step) xs)) (one_bare x 0 0 a.0) (all_bare xs a.1)

pub plain_has_no_locals : PlainHasNoLocals
plain_has_no_locals program p = all_bare (length (number_ranges program.params)) program.body p.body
