-- What is plain holds only names with small numbers.
use Rattle.std.proofs.Common.{◌≡◌, ℕ, suc, ◌+◌, ◌<◌, ◌≤◌, true, ◌&&◌, IsTrue, nat_lt, List, [], ◌∷◌, length, refl, arith}
use Rattle.std.proofs.lemmas.Bool.{ltb-true, lt-ltb}
use Rattle.affc_ast.specs.declared.tree.Cond.{Cond}
use Rattle.affc_ast.specs.declared.tree.Cond.TheVariants as d
use Rattle.affc_ast.specs.declared.tree.Cond.TheBlock.{Row_of-Cond, more_of-Cond, end_of-Cond}
use Rattle.affc_ast.specs.declared.tree.Ix.{Ix}
use Rattle.affc_ast.specs.declared.tree.Ix.TheVariants as c
use Rattle.affc_ast.specs.declared.tree.Ix.TheBlock.{more_of-Ix, end_of-Ix}
use Rattle.affc_ast.specs.declared.tree.Val.{Val}
use Rattle.affc_ast.specs.declared.tree.Val.TheVariants as v
use Rattle.affc_ast.specs.declared.tree.Val.TheBlock.{more_of-Val, end_of-Val}
use Rattle.affc_ast.specs.Fits.{all_true}
use Rattle.affc_ast.specs.Pieces.{comparisons_of}
use Rattle.affc_ast.specs.Recursion.{by_entries}
use Rattle.affc_ast.specs.Trace.{Assignment}
use Rattle.affc_domain.specs.Accesses.{accesses_of}
use Rattle.affc_domain.specs.Affine.{sees}
use Rattle.affc_domain.specs.Plain.{is_plain, all_plain, plain_cond_step, plain_cond, plain_value, plain_assignment, is_upward}
use Rattle.affc_domain.specs.Rounds.{Round, Loop, Test}
use Rattle.affc_domain.proofs.Lists.{both_true, true_both}
use Rattle.affc_domain.proofs.PlainLemmas.{plain_rounds}
use Rattle.std.specs.Prelude.{nat_le}
use Rattle.affc_scan.specs.InSight.{in_sight, all_in_sight, cond_sight_step, cond_in_sight, value_in_sight, rounds_in_sight, IsInSight}

module _ (m n : ℕ) (fewer : m ≤ n) where
  both : (a b : Ix) → (sees m a ≡ true → sees n a ≡ true) → (sees m b ≡ true → sees n b ≡ true) → sees m a && sees m b ≡ true → sees n a && sees n b ≡ true
  both a b f g h = let q = both_true (sees m a) (sees m b) h in true_both (sees n a) (sees n b) (f q.0) (g q.1)

  pub sees_more : (e : Ix) → sees m e ≡ true → sees n e ≡ true
  sees_more (c.Lit k) h = refl
  sees_more (c.Name x) h = let l : x.0 < m = ltb-true x.0 m h in lt-ltb x.0 n (omega arith)
  sees_more (c.Neg' s (more_of-Ix a end_of-Ix)) h = sees_more a h
  sees_more (c.Floord' s (more_of-Ix a end_of-Ix) k) h = sees_more a h
  sees_more (c.Ceild' s (more_of-Ix a end_of-Ix) k) h = sees_more a h
  sees_more (c.Add' s (more_of-Ix a end_of-Ix) t (more_of-Ix b end_of-Ix)) h = both a b (sees_more a) (sees_more b) h
  sees_more (c.Sub' s (more_of-Ix a end_of-Ix) t (more_of-Ix b end_of-Ix)) h = both a b (sees_more a) (sees_more b) h
  sees_more (c.Mul' s (more_of-Ix a end_of-Ix) t (more_of-Ix b end_of-Ix)) h = both a b (sees_more a) (sees_more b) h
  sees_more (c.Min' s (more_of-Ix a end_of-Ix) t (more_of-Ix b end_of-Ix)) h = both a b (sees_more a) (sees_more b) h
  sees_more (c.Max' s (more_of-Ix a end_of-Ix) t (more_of-Ix b end_of-Ix)) h = both a b (sees_more a) (sees_more b) h
  sees_more (c.Mod' s (more_of-Ix a end_of-Ix) t (more_of-Ix b end_of-Ix)) h = both a b (sees_more a) (sees_more b) h

module _ (n : ℕ) (few : n ≤ 1024) where
  plain_sight : (e : Ix) → IsTrue (is_plain n e) → in_sight e ≡ true
  plain_sight e h = sees_more n 1024 few e (both_true (sees n e) _ h).0

  all_plain_sight : (es : List Ix) → IsTrue (all_plain n es) → all_in_sight es ≡ true
  all_plain_sight [] h = refl
  all_plain_sight (e ∷ es) h = let a = both_true (is_plain n e) (all_plain n es) h in true_both (in_sight e) (all_in_sight es) (plain_sight e a.0) (all_plain_sight es a.1)

  mutual
    plain_cond_sight : (x : Cond) → IsTrue (plain_cond n x) → cond_in_sight x ≡ true
    plain_cond_sight (d.Compare rel left right) h =
        let b = both_true (is_plain n left) (is_plain n right) h in true_both (in_sight left) (in_sight right) (plain_sight left b.0) (plain_sight right b.1)
    plain_cond_sight (d.All' shape entries) h = plain_entries_sight entries h
    plain_cond_sight (d.Any' shape entries) h = plain_entries_sight entries h
    plain_cond_sight (d.Divides value by so) h = plain_sight value (both_true (is_plain n value) _ h).0

    plain_entries_sight : {k : _} (entries : Row_of-Cond k) → IsTrue (all_true (by_entries (plain_cond_step n) entries)) → all_true (by_entries cond_sight_step entries) ≡ true
    plain_entries_sight end_of-Cond h = refl
    plain_entries_sight (more_of-Cond x rest) h =
        let b = both_true (plain_cond n x) (all_true (by_entries (plain_cond_step n) rest)) h in
        true_both (cond_in_sight x) (all_true (by_entries cond_sight_step rest)) (plain_cond_sight x b.0) (plain_entries_sight rest b.1)

  plain_value_sight : (e : Val) → IsTrue (plain_value e n) → value_in_sight e ≡ true
  plain_value_sight (v.Load array subs) h = all_plain_sight subs h
  plain_value_sight (v.Const k) h = refl
  plain_value_sight (v.Cast e) h = plain_sight e h
  plain_value_sight (v.Not' s (more_of-Val a end_of-Val)) h = plain_value_sight a h
  plain_value_sight (v.Shift' left s (more_of-Val a end_of-Val) by) h = plain_value_sight a h
  plain_value_sight (v.Bin' op s (more_of-Val a end_of-Val) t (more_of-Val b end_of-Val)) h =
      let q = both_true (plain_value a n) (plain_value b n) h in true_both (value_in_sight a) (value_in_sight b) (plain_value_sight a q.0) (plain_value_sight b q.1)

  pub assignment_sight : (a : Assignment) → IsTrue (plain_assignment n a) → IsInSight a
  assignment_sight a h =
      let q = both_true (nat_le (length (accesses_of a)) 16) _ h in
      let r = both_true (all_plain n a.subs) (plain_value a.value n) q.1 in
      record { subs = all_plain_sight a.subs r.0; value = plain_value_sight a.value r.1 }

pub rounds_sight : (params loops comparisons : ℕ) (rs : List Round) → params ≤ 4 → loops ≤ 6 → IsTrue (plain_rounds params loops comparisons rs) → rounds_in_sight rs ≡ true
rounds_sight params loops comparisons [] few l h = refl
rounds_sight params loops comparisons (Loop iter low rel high ∷ rs) few l h =
    let a = both_true (nat_lt loops 6) _ h in
    let b = both_true (is_upward rel) _ a.1 in
    let d = both_true (is_plain (params + loops) low) _ b.1 in
    let e = both_true (is_plain (params + loops) high) (plain_rounds params (suc loops) comparisons rs) d.1 in
    let less : loops < 6 = ltb-true loops 6 a.0 in
    let n : params + loops ≤ 1024 = omega arith in
    true_both (in_sight low && in_sight high) (rounds_in_sight rs) (true_both (in_sight low) (in_sight high) (plain_sight (params + loops) n low d.0) (plain_sight (params + loops) n high e.0))
    (rounds_sight params (suc loops) comparisons rs few (omega arith) e.1)
rounds_sight params loops comparisons (Test cond ∷ rs) few l h =
    let a = both_true (plain_cond (params + loops) cond) (plain_rounds params loops (comparisons + comparisons_of cond) rs) h in
    let n : params + loops ≤ 1024 = omega arith in
    true_both (cond_in_sight cond) (rounds_in_sight rs) (plain_cond_sight (params + loops) n cond a.0) (rounds_sight params loops (comparisons + comparisons_of cond) rs few l a.1)
