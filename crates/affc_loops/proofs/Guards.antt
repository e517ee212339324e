-- What stands round a statement as tests in one list, and what plain programs give of it.
use Rattle.std.proofs.Common.{◌≡◌, ℕ, suc, ◌+◌, ℤ, Bool, true, ◌&&◌, IsTrue, List, [], ◌∷◌, length, refl, sym, ap, ◌∙◌, arith}
use Rattle.std.specs.Prelude.{nat_lt}
use Rattle.affc_ast.specs.declared.tree.Cond.{Cond}
use Rattle.affc_ast.specs.declared.tree.Cond.TheVariants as d
use Rattle.affc_ast.specs.declared.tree.Cond.TheBlock.{Row_of-Cond, more_of-Cond, end_of-Cond}
use Rattle.affc_ast.specs.declared.tree.Cond.TheOpen as layer
use Rattle.affc_ast.specs.declared.tree.Cond.TheOpen.{Cond-F}
use Rattle.affc_ast.specs.declared.tree.Ix.{Ix}
use Rattle.affc_ast.specs.declared.tree.Rel.TheVariants.{LessEqual}
use Rattle.affc_ast.specs.Fits.{all_true, is_true_at}
use Rattle.affc_ast.specs.Pieces.{comparisons_of}
use Rattle.affc_ast.specs.Recursion.{by_cond, by_entries}
use Rattle.affc_domain.specs.Affine.{sees}
use Rattle.affc_domain.specs.Plain.{is_plain, is_upward, plain_cond_step, plain_cond}
use Rattle.affc_domain.specs.Rounds.{Round, Loop, Test, loops_in}
use Rattle.affc_domain.proofs.Lists.{both_true, true_both}
use Rattle.affc_domain.proofs.PlainLemmas.{plain_rounds}
use Rattle.affc_loops.specs.Loops.{loop_names}
use Rattle.affc_loops.specs.Trees.{name_at, moved, moved_cond}

abbrev pub guard_tests : (first more : ℕ) → (from : ℕ) → List Round → List Cond
guard_tests first more from [] = []
guard_tests first more from (Loop iter low rel high ∷ rs) =
    d.Compare LessEqual (moved first more low) (name_at from) ∷ d.Compare rel (name_at from) (moved first more high) ∷ guard_tests first more (suc from) rs
guard_tests first more from (Test cond ∷ rs) = moved_cond first more cond ∷ guard_tests first more from rs

abbrev pub all_true_at : List Cond → (names : List ℤ) → Bool
all_true_at [] names = true
all_true_at (c ∷ cs) names = is_true_at c names && all_true_at cs names

abbrev pub sees_cond_step : ℕ → Cond-F Bool → Bool
sees_cond_step n (layer.Compare rel left right) = sees n left && sees n right
sees_cond_step n (layer.All bs) = all_true bs
sees_cond_step n (layer.Any bs) = all_true bs
sees_cond_step n (layer.Divides value by so) = sees n value

-- all its expressions hold only the first names
abbrev pub sees_cond : ℕ → Cond → Bool
sees_cond n cond = by_cond (sees_cond_step n) cond

-- bounds and conditions hold only the names outside, and a loop goes on below a bound or up to it
abbrev pub see_outwards : ℕ → List Round → Bool
see_outwards n [] = true
see_outwards n (Loop iter low rel high ∷ rs) = sees n low && (sees n high && (is_upward rel && see_outwards (suc n) rs))
see_outwards n (Test cond ∷ rs) = sees_cond n cond && see_outwards n rs

module _ (n : ℕ) where
  plain_sees : (e : Ix) → IsTrue (is_plain n e) → sees n e ≡ true
  plain_sees e h = (both_true (sees n e) _ h).0

  mutual
    plain_cond_sees : (x : Cond) → IsTrue (plain_cond n x) → sees_cond n x ≡ true
    plain_cond_sees (d.Compare rel left right) h =
        let b = both_true (is_plain n left) (is_plain n right) h in
        true_both (sees n left) (sees n right) (plain_sees left b.0) (plain_sees right b.1)
    plain_cond_sees (d.All' shape entries) h = plain_entries_see entries h
    plain_cond_sees (d.Any' shape entries) h = plain_entries_see entries h
    plain_cond_sees (d.Divides value by so) h = plain_sees value (both_true (is_plain n value) _ h).0

    plain_entries_see : {m : _} (entries : Row_of-Cond m) → IsTrue (all_true (by_entries (plain_cond_step n) entries)) → all_true (by_entries (sees_cond_step n) entries) ≡ true
    plain_entries_see end_of-Cond h = refl
    plain_entries_see (more_of-Cond x rest) h =
        let b = both_true (plain_cond n x) (all_true (by_entries (plain_cond_step n) rest)) h in
        true_both (sees_cond n x) (all_true (by_entries (sees_cond_step n) rest)) (plain_cond_sees x b.0) (plain_entries_see rest b.1)

pub plain_outwards : (params loops comparisons : ℕ) (rs : List Round) → IsTrue (plain_rounds params loops comparisons rs) → see_outwards (params + loops) rs ≡ true
plain_outwards params loops comparisons [] h = refl
plain_outwards params loops comparisons (Loop iter low rel high ∷ rs) h =
    let a = both_true (nat_lt loops 6) _ h in
    let b = both_true (is_upward rel) _ a.1 in
    let c = both_true (is_plain (params + loops) low) _ b.1 in
    let d = both_true (is_plain (params + loops) high) (plain_rounds params (suc loops) comparisons rs) c.1 in
    let next : params + suc loops ≡ suc (params + loops) = omega arith in
    true_both (sees (params + loops) low) _ (plain_sees (params + loops) low c.0)
    (true_both (sees (params + loops) high) _ (plain_sees (params + loops) high d.0)
    (true_both (is_upward rel) _ b.0 (ap (λ n. see_outwards n rs) (sym next) ∙ plain_outwards params (suc loops) comparisons rs d.1)))
plain_outwards params loops comparisons (Test cond ∷ rs) h =
    let a = both_true (plain_cond (params + loops) cond) (plain_rounds params loops (comparisons + comparisons_of cond) rs) h in
    true_both (sees_cond (params + loops) cond) _ (plain_cond_sees (params + loops) cond a.0) (plain_outwards params loops (comparisons + comparisons_of cond) rs a.1)

-- as many names as loops
pub names_count : (rs : List Round) → length (loop_names rs) ≡ loops_in rs
names_count [] = refl
names_count (Loop iter low rel high ∷ rs) = ap suc (names_count rs)
names_count (Test cond ∷ rs) = names_count rs
