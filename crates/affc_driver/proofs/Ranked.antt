-- Each access of a program that a text gives names an array, and has its subscripts.
use Rattle.std.proofs.Common.{◌≡◌, ℕ, zero, suc, true, true≢false, List, [], ◌∷◌, ◌++◌, length, map, Option, Some, None, refl, sym, subst, inl, inr}
use Rattle.std.specs.Prelude.{slice_get}
use Rattle.std.proofs.lemmas.Bool.{eqb-true}
use Rattle.affc_ast.specs.declared.tree.Decl.{Decl}
use Rattle.affc_ast.specs.declared.tree.Op.{Op}
use Rattle.affc_ast.specs.declared.tree.Val.{Val}
use Rattle.affc_ast.specs.declared.tree.Val.TheVariants as v
use Rattle.affc_ast.specs.declared.tree.Val.TheBlock.{more_of-Val, end_of-Val}
use Rattle.affc_ast.specs.Ranks.{rank_of, ranks, is_rank, has_rank, ranks_step, is_ranked}
use Rattle.affc_ast.specs.Recursion.{by_val}
use Rattle.affc_ast.specs.Trace.{Assignment, assignments}
use Rattle.affc_grammar.specs.Limits.{limits_of}
use Rattle.affc_grammar.proofs.Counts.{reads_ranked}
use Rattle.affc_trace.specs.Law.{IsIn}
use Rattle.affc_trace.proofs.Members.{both_hold}
use Rattle.affc_trace.proofs.Once.{in_append}
use Rattle.affc_domain.specs.Accesses.{Access, accesses_in, own_access, accesses_of}
use Rattle.affc_domain.specs.Arrays.{declared_arrays}
use Rattle.affc_safe.proofs.Reasons.{from_all}
use Rattle.affc_driver.specs.Laws.{ReadsNamingArrays}

-- the access is of an array of this rank
abbrev Ranked : List ℕ → Access → Type 0
Ranked rs x = has_rank rs x.0 (length x.1) ≡ true

in_value : (rs : List ℕ) (e : Val) (x : Access) → by_val (ranks_step rs) e ≡ true → IsIn x (accesses_in e) → Ranked rs x
in_value rs (v.Load array subs) x h (inl i) = subst (Ranked rs) (sym i) h
in_value rs (v.Load array subs) x h (inr i) = absurd i
in_value rs (v.Const n) x h i = absurd i
in_value rs (v.Cast e) x h i = absurd i
in_value rs (v.Not' s (more_of-Val a end_of-Val)) x h i = in_value rs a x h i
in_value rs (v.Shift' left s (more_of-Val a end_of-Val) by) x h i = in_value rs a x h i
in_value rs (v.Bin' op s (more_of-Val a end_of-Val) t (more_of-Val b end_of-Val)) x h i =
    let both = both_hold (by_val (ranks_step rs) a) (by_val (ranks_step rs) b) h in
    elim (in_append (accesses_in a) (accesses_in b) x i) [ inl j ↦ in_value rs a x both.0 j | inr j ↦ in_value rs b x both.1 j ]

in_one : (rs : List ℕ) (stored x : Access) → Ranked rs stored → IsIn x (stored ∷ []) → Ranked rs x
in_one rs stored x h (inl i) = subst (Ranked rs) (sym i) h
in_one rs stored x h (inr i) = absurd i

in_own : (rs : List ℕ) (op : Option Op) (stored x : Access) → Ranked rs stored → IsIn x (own_access op stored) → Ranked rs x
in_own rs None stored x h i = absurd i
in_own rs (Some op) stored x h i = in_one rs stored x h i

in_assignment : (rs : List ℕ) (a : Assignment) (x : Access) → is_ranked rs a ≡ true → IsIn x (accesses_of a) → Ranked rs x
in_assignment rs a x h i =
    let stored : Access = (a.array, a.subs) in
    let both = both_hold (has_rank rs a.array (length a.subs)) (by_val (ranks_step rs) a.value) h in
    elim (in_append (own_access a.op stored) (accesses_in a.value ++ stored ∷ []) x i) [
      | inl j ↦ in_own rs a.op stored x both.0 j
      | inr j ↦ elim (in_append (accesses_in a.value) (stored ∷ []) x j) [
        | inl k ↦ in_value rs a.value x both.1 k
        | inr k ↦ in_one rs stored x both.0 k
      ]
    ]

-- an array that has a rank is declared
declared : (ds : List Decl) (array n : ℕ) → is_rank (slice_get (map rank_of ds) array) n ≡ true → (d : Decl) × (slice_get ds array ≡ Some d) × (n ≡ length d.extents)
declared [] array n h = absurd (true≢false (sym h))
declared (d ∷ ds) zero n h = (d, refl, sym (eqb-true (rank_of d) n h))
declared (d ∷ ds) (suc array) n h = declared ds array n h

pub reads_naming_arrays : ReadsNamingArrays
reads_naming_arrays text program reads a x i j =
    let ranked = reads_ranked limits_of text program reads in
    declared (declared_arrays program) x.0.0 (length x.1) (in_assignment (ranks program) a x (from_all (is_ranked (ranks program)) (assignments program) ranked a i) j)
