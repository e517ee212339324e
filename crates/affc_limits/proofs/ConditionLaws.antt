-- Conditions, counted one after another.
use Rattle.std.proofs.Common.{◌≡◌, ℕ, ◌+◌, ◌*◌, Bool, true, false, List, [], ◌∷◌, ◌++◌, map, fold, refl, sym, ap, ◌∙◌, arith}
use Rattle.std.specs.Prelude.{min}
use Rattle.affc_ast.specs.Pieces.{Counts, multiplied, added}
use Rattle.affc_ast.proofs.CapLemmas.{sums, products}
use Rattle.affc_grammar.specs.Draft as d
use Rattle.affc_grammar.specs.Limits.{conds_count, cond_count, conds_pieces, cond_pieces}
use Rattle.affc_syntax.specs.declared.draft.draft.CondDraft as code
use Rattle.affc_syntax.specs.declared.draft.draft.CondDraft.TheVariants as k
use Rattle.affc_syntax.proofs.draft.Outs.{cond-All, cond-Any}
use Rattle.affc_syntax.specs.draft.Drafts.{cond, conds_of, conds_after}
use Rattle.affc_limits.specs.Conditions.{counted, counted_each, none, with_cond}

-- ---- One condition more

multiplied_more : (f : Counts → ℕ) (ns : List Counts) (n : Counts) → multiplied (map f (ns ++ n ∷ [])) ≡ multiplied (map f ns) * f n
multiplied_more f [] n = once (f n)
  where
    once : (k : ℕ) → k * 1 ≡ 1 * k
    once k = omega arith
multiplied_more f (m ∷ ns) n = ap (λ k. f m * k) (multiplied_more f ns n) ∙ assoc (f m) (multiplied (map f ns)) (f n)
  where
    assoc : (a b c : ℕ) → a * (b * c) ≡ (a * b) * c
    assoc a b c = grind arith

added_more : (f : Counts → ℕ) (ns : List Counts) (n : Counts) → added (map f (ns ++ n ∷ [])) ≡ added (map f ns) + f n
added_more f [] n = alone (f n)
  where
    alone : (k : ℕ) → k + 0 ≡ 0 + k
    alone k = omega arith
added_more f (m ∷ ns) n = ap (λ k. f m + k) (added_more f ns n) ∙ assoc (f m) (added (map f ns)) (f n)
  where
    assoc : (a b c : ℕ) → a + (b + c) ≡ (a + b) + c
    assoc a b c = omega arith

one_factor : (f : Counts → ℕ) (ns : List Counts) (n : Counts) → min 17 (min 17 (multiplied (map f ns)) * min 17 (f n)) ≡ min 17 (multiplied (map f (ns ++ n ∷ [])))
one_factor f ns n = sym (products 17 (multiplied (map f ns)) (f n)) ∙ ap (min 17) (sym (multiplied_more f ns n))

one_part : (f : Counts → ℕ) (ns : List Counts) (n : Counts) → min 17 (min 17 (added (map f ns)) + min 17 (f n)) ≡ min 17 (added (map f (ns ++ n ∷ [])))
one_part f ns n = sym (sums 17 (added (map f ns)) (f n)) ∙ ap (min 17) (sym (added_more f ns n))

one_more : (all : Bool) (cs : d.CondsDraft) (c : d.CondDraft) → with_cond all (counted_each all cs) c ≡ counted_each all (d.and_cond cs c)
one_more true cs c = λ i. record {
  comparisons = sym (sums 33 (conds_count cs) (cond_count c)) i;
  plain = one_factor (λ n. n.plain) (conds_pieces cs) (cond_pieces c) i;
  denied = one_part (λ n. n.denied) (conds_pieces cs) (cond_pieces c) i;
}
one_more false cs c = λ i. record {
  comparisons = sym (sums 33 (conds_count cs) (cond_count c)) i;
  plain = one_part (λ n. n.plain) (conds_pieces cs) (cond_pieces c) i;
  denied = one_factor (λ n. n.denied) (conds_pieces cs) (cond_pieces c) i;
}

counted_after : (all : Bool) (cs : d.CondsDraft) (xs : List d.CondDraft) → fold (with_cond all) (counted_each all cs) xs ≡ counted_each all (conds_after cs xs)
counted_after all cs [] = refl
counted_after all cs (x ∷ xs) = ap (λ u. fold (with_cond all) u xs) (one_more all cs x) ∙ counted_after all (d.and_cond cs x) xs

none_is : (all : Bool) → none all ≡ counted_each all d.no_conds
none_is true = refl
none_is false = refl

pub counted_all : (all : Bool) (xs : List d.CondDraft) → fold (with_cond all) (none all) xs ≡ counted_each all (conds_of xs)
counted_all all xs = ap (λ u. fold (with_cond all) u xs) (none_is all) ∙ counted_after all d.no_conds xs

-- ---- Each kind of condition

pub of_all : (x : code.CondDraft) (cs : List code.CondDraft) → x ≡ k.All cs → counted_each true (conds_of (map cond cs)) ≡ counted (cond x)
of_all x cs is = ap counted (sym (cond-All cs)) ∙ ap (λ y. counted (cond y)) (sym is)

pub of_any : (x : code.CondDraft) (cs : List code.CondDraft) → x ≡ k.Any cs → counted_each false (conds_of (map cond cs)) ≡ counted (cond x)
of_any x cs is = ap counted (sym (cond-Any cs)) ∙ ap (λ y. counted (cond y)) (sym is)
