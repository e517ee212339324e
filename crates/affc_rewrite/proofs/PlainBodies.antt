-- All accesses of a plain body are plain over the names that are in sight.
use Rattle.std.proofs.Common.{◌≡◌, ℕ, suc, ◌+◌, ◌<◌, ◌≤◌, true, true≢false, ◌&&◌, nat_lt, [], ◌∷◌, length, map, refl, sym, ap, subst, ◌∙◌, arith}
use Rattle.std.specs.Prelude.{nat_le}
use Rattle.std.proofs.lemmas.Bool.{ltb-true, le-leb}
use Rattle.affc_ast.specs.declared.tree.Program.{Program}
use Rattle.affc_ast.specs.declared.tree.Stmt.{Stmt}
use Rattle.affc_ast.specs.declared.tree.Stmt.TheVariants as s
use Rattle.affc_ast.specs.declared.tree.Stmt.TheBlock.{Row_of-Stmt, more_of-Stmt, end_of-Stmt}
use Rattle.affc_ast.specs.Pieces.{comparisons_of}
use Rattle.affc_ast.specs.Recursion.{by_stmt, by_each}
use Rattle.affc_ast.proofs.Steps.{row_of, unrolled}
use Rattle.affc_domain.specs.Accesses.{accesses_of}
use Rattle.affc_domain.specs.Plain.{IsPlain, is_plain, all_plain, plain_value, plain_cond, is_upward, all_of, plain_step}
use Rattle.affc_domain.specs.Ranges.{number_ranges}
use Rattle.affc_domain.proofs.Lists.{both_true, true_both}
use Rattle.affc_rewrite.specs.Sizes.{all_under, accesses_step}

module _ (m : ℕ) (few : m ≤ 4) where
  mutual
    stmt_plain : (x : Stmt) (k c : ℕ) → k ≤ 6 → by_stmt (plain_step m) x k c ≡ true → by_stmt accesses_step x (m + k) ≡ true
    stmt_plain (s.For' iter low rel high shape body) k c l g =
        let d = both_true (nat_lt k 6) _ g in
        let u = both_true (is_upward rel) _ d.1 in
        let a = both_true (is_plain (m + k) low) _ u.1 in
        let b = both_true (is_plain (m + k) high) _ a.1 in
        let less : k < 6 = ltb-true k 6 d.0 in
        let next : m + suc k ≡ (m + k) + 1 = omega arith in
        true_both (nat_le ((m + k) + 1) 16) (all_under (by_each accesses_step body) ((m + k) + 1)) (le-leb ((m + k) + 1) 16 (omega arith))
        (subst (λ n. all_under (by_each accesses_step body) n ≡ true) next (row_plain body (suc k) c (omega arith) b.1))
    stmt_plain (s.If' cond shape body shape' other) k c l g =
        let b = both_true (all_of (by_each (plain_step m) body) k (c + comparisons_of cond)) _ (both_true (plain_cond (m + k) cond) _ g).1 in
        true_both (all_under (by_each accesses_step body) (m + k)) (all_under (by_each accesses_step other) (m + k)) (row_plain body k (c + comparisons_of cond) l b.0) (row_plain other k (c + comparisons_of cond) l b.1)
    stmt_plain (s.Assign op array subs value) k c l g =
        let h = both_true (nat_le c 32) _ g in
        (both_true (nat_le (length (accesses_of (record { op = op; array = array; subs = subs; value = value }))) 16) (all_plain (m + k) subs && plain_value value (m + k)) h.1).1
    stmt_plain (s.Block' [] shape body) k c l g =
        let same : m + k ≡ (m + k) + 0 = omega arith in
        true_both (nat_le ((m + k) + 0) 16) (all_under (by_each accesses_step body) ((m + k) + 0)) (le-leb ((m + k) + 0) 16 (omega arith))
        (subst (λ n. all_under (by_each accesses_step body) n ≡ true) same (row_plain body k c l g))
    stmt_plain (s.Block' (local ∷ locals) shape body) k c l g = absurd (true≢false (sym g))

    row_plain : {n : _} (body : Row_of-Stmt n) (k c : ℕ) → k ≤ 6 → all_of (by_each (plain_step m) body) k c ≡ true → all_under (by_each accesses_step body) (m + k) ≡ true
    row_plain end_of-Stmt k c l g = refl
    row_plain (more_of-Stmt x rest) k c l g =
        let a = both_true (by_stmt (plain_step m) x k c) (all_of (by_each (plain_step m) rest) k c) g in
        true_both (by_stmt accesses_step x (m + k)) (all_under (by_each accesses_step rest) (m + k)) (stmt_plain x k c l a.0) (row_plain rest k c l a.1)

pub body_plain : (program : Program) (m : ℕ) → IsPlain program → m ≡ length (number_ranges program.params) → all_under (map (by_stmt accesses_step) program.body) m ≡ true
body_plain program m plain e =
    let n : ℕ = length (number_ranges program.params) in
    let z : n + 0 ≡ m = omega arith in
    ap (λ fs. all_under fs m) (unrolled accesses_step program.body)
    ∙ ap (all_under (by_each accesses_step (row_of program.body))) (sym z)
    ∙ row_plain n plain.few_numbers (row_of program.body) 0 0 (omega arith) (subst (λ fs. all_of fs 0 0 ≡ true) (unrolled (plain_step n) program.body) plain.body)
