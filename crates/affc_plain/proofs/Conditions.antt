-- The tree of a condition whose texts are fine is plain, and has as many comparisons and remainders as its draft.
use Rattle.std.proofs.Common.{◌≡◌, ℕ, ◌+◌, Bool, true, false, List, [], ◌∷◌, ◌++◌, map, Ok, refl, sym, ap, ◌∙◌, arith}
use Rattle.std.specs.Prelude.{◌&&◌, nat_lt, nat_le, int_le, pos}
use Rattle.std.proofs.lemmas.Bool.Decides.{nat_tests}
use Rattle.std.proofs.lemmas.Int.{ints}
use Rattle.std.proofs.lemmas.List.{map-append}
use Rattle.affc_ast.specs.declared.tree.Cond.{Cond}
use Rattle.affc_ast.specs.Fits.{all_true}
use Rattle.affc_ast.specs.Pieces.{added, comparisons_step, comparisons_of}
use Rattle.affc_ast.specs.Recursion.{by_cond}
use Rattle.affc_ast.proofs.Steps.{all_here, any_here}
use Rattle.affc_grammar.specs.Draft.{CondsDraft, no_conds, and_cond, CondDraft, comparison, divisible, all_of, any_of}
use Rattle.affc_grammar.specs.Names.{Scope, ix_tree, conds_tree, cond_tree}
use Rattle.affc_grammar.specs.Limits.{conds_texts, cond_texts, conds_past, cond_past, conds_count, cond_count}
use Rattle.affc_trace.proofs.Members.{both_hold, hold_both}
use Rattle.affc_domain.specs.Plain.{is_plain, plain_cond_step, plain_cond}
use Rattle.affc_plain.proofs.Lists.{no_append}
use Rattle.affc_plain.proofs.Forms.{HasNoCalls, then_ok, not_placed}
use Rattle.affc_plain.proofs.Small.{HasNumbers}
use Rattle.affc_plain.proofs.Expressions.{AllFine, fine_parts, ok_of, ix_plain}

-- no calls, and remainders by at least 1
abbrev mutual
  pub AreBareConds : CondsDraft → Type 0
  AreBareConds no_conds = Unit {0}
  AreBareConds (and_cond cs c) = AreBareConds cs × IsBareCond c

  pub IsBareCond : CondDraft → Type 0
  IsBareCond (comparison c) = HasNoCalls c.left × HasNoCalls c.right
  IsBareCond (divisible a by_at by so) = HasNoCalls a × (nat_le 1 by ≡ true)
  IsBareCond (all_of cs) = AreBareConds cs
  IsBareCond (any_of cs) = AreBareConds cs

all_append : (as' bs : List Bool) → all_true as' ≡ true → all_true bs ≡ true → all_true (as' ++ bs) ≡ true
all_append [] bs h k = k
all_append (a ∷ as') bs h k = let p = both_hold a (all_true as') h in hold_both a (all_true (as' ++ bs)) p.0 (all_append as' bs p.1 k)

module _ (scope : Scope) (n : ℕ) (numbers : HasNumbers scope n) where
  divides_plain : (by by_at : ℕ) → nat_le 1 by ≡ true → nat_lt 65536 by ≡ false → (int_le (pos 1) (pos by) && int_le (pos by) (pos 65536)) ≡ true
  divides_plain by by_at h k = hold_both (int_le (pos 1) (pos by)) (int_le (pos by) (pos 65536)) (grind (arith, ints, nat_tests)) (grind (arith, ints, nat_tests))

  mutual
    pub conds_plain : (cs : CondsDraft) (xs : List Cond) → conds_tree scope cs ≡ Ok xs → AllFine (conds_texts cs) → AreBareConds cs → conds_past 65536 cs ≡ [] → all_true (map (by_cond (plain_cond_step n)) xs) ≡ true
    conds_plain no_conds xs t f b l = ap (λ ys. all_true (map (by_cond (plain_cond_step n)) ys)) (sym (ok_of t))
    conds_plain (and_cond cs c) xs t f b l =
        let r = then_ok (conds_tree scope cs) _ xs t in
        let q = then_ok (cond_tree scope c) _ xs r.2 in
        let g = fine_parts (conds_texts cs) (cond_texts c) f in
        let p = no_append (conds_past 65536 cs) (cond_past 65536 c) l in
        ap (λ ys. all_true (map (by_cond (plain_cond_step n)) ys)) (sym (ok_of q.2))
        ∙ ap all_true (map-append (by_cond (plain_cond_step n)) r.0 (q.0 ∷ []))
        ∙ all_append (map (by_cond (plain_cond_step n)) r.0) (plain_cond n q.0 ∷ []) (conds_plain cs r.0 r.1 g.0 b.0 p.0) (hold_both (plain_cond n q.0) true (cond_plain c q.0 q.1 g.1 b.1 p.1) refl)

    pub cond_plain : (c : CondDraft) (x : Cond) → cond_tree scope c ≡ Ok x → AllFine (cond_texts c) → IsBareCond c → cond_past 65536 c ≡ [] → plain_cond n x ≡ true
    cond_plain (comparison c) x t f b l =
        let r = then_ok (ix_tree scope c.left) _ x t in
        let q = then_ok (ix_tree scope c.right) _ x r.2 in
        ap (plain_cond n) (sym (ok_of q.2)) ∙ hold_both (is_plain n r.0) (is_plain n q.0) (ix_plain scope n numbers c.left r.0 r.1 f.0) (ix_plain scope n numbers c.right q.0 q.1 f.1.0)
    cond_plain (divisible a by_at by so) x t f b l =
        let r = then_ok (ix_tree scope a) _ x t in
        ap (plain_cond n) (sym (ok_of r.2))
        ∙ hold_both (is_plain n r.0) (int_le (pos 1) (pos by) && int_le (pos by) (pos 65536)) (ix_plain scope n numbers a r.0 r.1 f.0) (divides_plain by by_at b.1 (not_placed (nat_lt 65536 by) by_at l))
    cond_plain (all_of cs) x t f b l =
        let r = then_ok (conds_tree scope cs) _ x t in
        ap (plain_cond n) (sym (ok_of r.2)) ∙ all_here (plain_cond_step n) r.0 ∙ conds_plain cs r.0 r.1 f b l
    cond_plain (any_of cs) x t f b l =
        let r = then_ok (conds_tree scope cs) _ x t in
        ap (plain_cond n) (sym (ok_of r.2)) ∙ any_here (plain_cond_step n) r.0 ∙ conds_plain cs r.0 r.1 f b l

-- ---- How many there are

added-end : (ns : List ℕ) (n : ℕ) → added (ns ++ n ∷ []) ≡ added ns + n
added-end [] n = omega arith
added-end (m ∷ ns) n = let h = added-end ns n in omega (arith, h)

mutual
  conds_counted : (scope : Scope) (cs : CondsDraft) (xs : List Cond) → conds_tree scope cs ≡ Ok xs → added (map comparisons_of xs) ≡ conds_count cs
  conds_counted scope no_conds xs t = ap (λ ys. added (map comparisons_of ys)) (sym (ok_of t))
  conds_counted scope (and_cond cs c) xs t =
      let r = then_ok (conds_tree scope cs) _ xs t in
      let q = then_ok (cond_tree scope c) _ xs r.2 in
      ap (λ ys. added (map comparisons_of ys)) (sym (ok_of q.2))
      ∙ ap added (map-append comparisons_of r.0 (q.0 ∷ []))
      ∙ added-end (map comparisons_of r.0) (comparisons_of q.0)
      ∙ ap (λ k. k + comparisons_of q.0) (conds_counted scope cs r.0 r.1)
      ∙ ap (λ k. conds_count cs + k) (cond_counted scope c q.0 q.1)

  pub cond_counted : (scope : Scope) (c : CondDraft) (x : Cond) → cond_tree scope c ≡ Ok x → comparisons_of x ≡ cond_count c
  cond_counted scope (comparison c) x t =
      let r = then_ok (ix_tree scope c.left) _ x t in
      let q = then_ok (ix_tree scope c.right) _ x r.2 in
      ap comparisons_of (sym (ok_of q.2))
  cond_counted scope (divisible a by_at by so) x t =
      let r = then_ok (ix_tree scope a) _ x t in
      ap comparisons_of (sym (ok_of r.2))
  cond_counted scope (all_of cs) x t =
      let r = then_ok (conds_tree scope cs) _ x t in
      ap comparisons_of (sym (ok_of r.2)) ∙ all_here comparisons_step r.0 ∙ conds_counted scope cs r.0 r.1
  cond_counted scope (any_of cs) x t =
      let r = then_ok (conds_tree scope cs) _ x t in
      ap comparisons_of (sym (ok_of r.2)) ∙ any_here comparisons_step r.0 ∙ conds_counted scope cs r.0 r.1
