-- A plain program's bounds, conditions and assignments are read at near iterators.
use Rattle.std.proofs.Common.{◌≡◌, ℕ, suc, ◌+◌, ◌<◌, ◌≤◌, ℤ, true, ◌&&◌, IsTrue, List, [], ◌∷◌, ◌++◌, length, Some, sym, ap, subst, inl, inr, arith}
use Rattle.std.specs.Prelude.{slice_get, nat_lt}
use Rattle.std.proofs.lemmas.Bool.{ltb-true}
use Rattle.affc_ast.specs.declared.tree.Instance.{Instance}
use Rattle.affc_ast.specs.declared.tree.Program.{Program}
use Rattle.affc_ast.specs.Pieces.{comparisons_of}
use Rattle.affc_ast.specs.Trace.{Assignment, assignments, trace, element}
use Rattle.affc_system.specs.Boxes.{InBox}
use Rattle.affc_trace.specs.Law.{IsIn}
use Rattle.affc_trace.specs.Effects.{effect_by}
use Rattle.affc_trace.proofs.Runs.{length_append}
use Rattle.affc_domain.specs.Arrays.{declared_arrays, extents_at}
use Rattle.affc_domain.specs.Plain.{is_plain, is_upward, plain_cond}
use Rattle.affc_domain.specs.Ranges.{is_near}
use Rattle.affc_domain.specs.Rounds.{Round, Loop, Test, rounds, turns}
use Rattle.affc_domain.proofs.Lists.{both_true}
use Rattle.affc_domain.proofs.PlainLemmas.{plain_rounds}
use Rattle.affc_domain.proofs.TurnLemmas.{instances_turn}
use Rattle.affc_safe.specs.Overflow.{near_ranges, NeverOverflows}
use Rattle.affc_safe.specs.Safe.{KeepsWithin}
use Rattle.affc_safe.proofs.Along.{ReadAlong}
use Rattle.affc_safe.proofs.PlainReads.{Near, near_push, near_between, plain_reads, plain_cond_reads}
use Rattle.affc_safe.proofs.Walk.{own_and}
use Rattle.affc_loops.proofs.PrintedRuns.{Kept}

pub plain_along : (params loops comparisons : ℕ) (rs : List Round) (box : List (ℤ × ℤ)) (names xs : List ℤ) → params ≤ 4 → IsTrue (plain_rounds params loops comparisons rs)
    → params + loops ≡ length names → Near names → InBox box xs → IsTrue (near_ranges box) → ReadAlong rs names xs
plain_along params loops comparisons [] box names xs few h l near b n = tt
plain_along params loops comparisons (Loop iter low rel high ∷ rs) box names [] few h l near b n = tt
plain_along params loops comparisons (Loop iter low rel high ∷ rs) [] names (x ∷ xs) few h l near b n = absurd b
plain_along params loops comparisons (Loop iter low rel high ∷ rs) (r ∷ box) names (x ∷ xs) few h l near b n =
    let a = both_true (nat_lt loops 6) _ h in
    let c = both_true (is_upward rel) _ a.1 in
    let d = both_true (is_plain (params + loops) low) _ c.1 in
    let e = both_true (is_plain (params + loops) high) (plain_rounds params (suc loops) comparisons rs) d.1 in
    let t = both_true (is_near r.0 && is_near r.1) (near_ranges box) n in
    let less : loops < 6 = ltb-true loops 6 a.0 in
    let pushed : length (names ++ x ∷ []) ≡ length names + 1 = length_append names (x ∷ []) in
    let room : length names < 16 = omega arith in
    let next : params + suc loops ≡ length (names ++ x ∷ []) = omega arith in (
      (0, plain_reads (params + loops) names low l near d.0 0),
      (0, plain_reads (params + loops) names high l near e.0 0),
      λ f g.
          plain_along params (suc loops) comparisons rs box (names ++ x ∷ []) xs few e.1 next
          (near_push names x near room (near_between r.0 r.1 x b.0 b.1 t.0)) b.2 t.1,
    )
plain_along params loops comparisons (Test cond ∷ rs) box names xs few h l near b n =
    let a = both_true (plain_cond (params + loops) cond) (plain_rounds params loops (comparisons + comparisons_of cond) rs) h in
    ((0, plain_cond_reads (params + loops) names cond l near a.0 0), λ e. plain_along params loops (comparisons + comparisons_of cond) rs box names xs few a.1 l near b n)

-- where its iterators turn, an assignment is an instance's
pub kept_at : (source : Program) (p : List ℤ) → NeverOverflows source p → KeepsWithin source p
    → (k : ℕ) (rs : List Round) (a : Assignment) → slice_get (rounds source) k ≡ Some rs → slice_get (assignments source) k ≡ Some a → (xs : List ℤ) → turns rs p xs ≡ true
    → Kept a (p ++ xs) (extents_at (declared_arrays source) p)
kept_at source p small within k rs a e f xs t =
    let b : Instance = record { statement = k; iterators = xs } in
    let i : IsIn b (trace source p) = (instances_turn source p b).1 (rs, e, t) in
    record {
      reads = small.assignments b a i f;
      loads = λ x j. within b x i (inl (subst (λ o. IsIn x (effect_by o (p ++ xs)).loads) (sym f) (own_and a.op (element (p ++ xs) a.array a.subs) _ x j)));
      store = within b (element (p ++ xs) a.array a.subs) i (inr (ap (λ o. (effect_by o (p ++ xs)).stores) (sym f)));
    }
