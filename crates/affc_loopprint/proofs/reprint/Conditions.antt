-- What is printed of a condition has at most twice the tokens of a text that reads as it, and at most three times its brackets.
use Rattle.std.proofs.Common.{◌≡◌, ℕ, ◌+◌, ◌*◌, ◌≤◌, pos, Bool, true, false, max, List, [], ◌∷◌, ◌++◌, length, map, codes, Ok, refl, sym, ap, subst, ◌∙◌, arith, length-append}
use Rattle.affc_lex.specs.Bytes.{decimal}
use Rattle.affc_ast.specs.declared.tree.Cond.{Cond}
use Rattle.affc_ast.specs.declared.tree.Cond.TheVariants as tree
use Rattle.affc_ast.specs.declared.tree.Rel.{Rel}
use Rattle.affc_ast.proofs.Steps.{all_here, any_here}
use Rattle.affc_grammar.specs.Grammar as g
use Rattle.affc_grammar.specs.Grammar.{Symbol, number, mark, rel_mark, zero_mark, IxText, TermText, CondText, AllText, PrimText, ix_symbols, term_symbols, cond_symbols, all_symbols, prim_symbols}
use Rattle.affc_grammar.specs.Draft as draft
use Rattle.affc_grammar.specs.Draft.{CondsDraft, CondDraft, and_conds, alone, conjuncts, disjuncts, ix_draft, term_draft, cond_draft, all_draft, prim_draft}
use Rattle.affc_grammar.specs.Names.{Scope, ix_tree, conds_tree, cond_tree}
use Rattle.affc_cprint.specs.Places.{divides}
use Rattle.affc_cprint.specs.declared.brackets.Place.TheVariants.{RightOfSum}
use Rattle.affc_cprint.proofs.Sees.{ok_of, both_ok, then_is}
use Rattle.affc_cprint.proofs.ReadBackConditions.{conds_split, conds_join}
use Rattle.affc_wellnamed.specs.declared.shape.Extent.{Extent}
use Rattle.affc_wellnamed.specs.declared.shape.CondExtent.{CondExtent}
use Rattle.affc_wellnamed.specs.Shape.{nothing, beside, and_tokens, bracketed, placed, ix_extent, whole, beside_mark, entries_behind, joined_extent, remainder_extent, cond_step, cond_extent}
use Rattle.affc_wellnamed.proofs.ShapeParts.{round}
use Rattle.affc_loopprint.proofs.reprint.Rows.{Lies, IsInRow, lies_none, lies_more, lies_joined, lies_within, number_lies, mark_lies, rel_lies, Under, under_more, under_both, under_tokens}
use Rattle.affc_loopprint.proofs.reprint.Expressions.{WholeFits, whole_read, term_read}

-- ---- Conditions that are joined

-- their tokens beside the mark with one more for each, and the most brackets of one
abbrev pub joined_tokens : (all : Bool) → List CondExtent → ℕ
joined_tokens all [] = 0
joined_tokens all (c ∷ cs) = (beside_mark all c).tokens + 1 + joined_tokens all cs

abbrev pub joined_deep : (all : Bool) → List CondExtent → ℕ
joined_deep all [] = 0
joined_deep all (c ∷ cs) = max (beside_mark all c).depth (joined_deep all cs)

tokens_both : (all : Bool) (cs ds : List CondExtent) → joined_tokens all (cs ++ ds) ≡ joined_tokens all cs + joined_tokens all ds
tokens_both all [] ds = omega arith
tokens_both all (c ∷ cs) ds = let r = tokens_both all cs ds in omega (arith, r)

deep_both : (all : Bool) (cs ds : List CondExtent) → joined_deep all (cs ++ ds) ≡ max (joined_deep all cs) (joined_deep all ds)
deep_both all [] ds = omega arith
deep_both all (c ∷ cs) ds = let r = deep_both all cs ds in omega (arith, r)

entries_within : (all : Bool) (a : Extent) (t d : ℕ) (cs : List CondExtent) → Under 0 t d a → Under (length cs) (t + joined_tokens all cs) (max d (joined_deep all cs)) (entries_behind all a cs)
entries_within all a t d [] u = under_more 0 t d _ _ _ a (omega arith) (omega arith) u
entries_within all a t d (c ∷ cs) u =
    let b = beside_mark all c in
    let one : Under 0 b.tokens b.depth b = record { few = omega arith; shallow = omega arith } in
    let next = entries_within all (beside a b) (t + b.tokens) (max d b.depth) cs (under_both 0 t d 0 b.tokens b.depth a b u one) in
    under_more (length cs) (t + b.tokens + joined_tokens all cs) (max (max d b.depth) (joined_deep all cs)) _ _ _ (entries_behind all a (c ∷ cs)) (omega arith) (omega arith) next

-- of all together, of which there is at least one
pub joined_within : (all : Bool) (cs : List CondExtent) → 1 ≤ length cs → Under 1 (joined_tokens all cs) (joined_deep all cs) (joined_extent all cs).extent
joined_within all [] h = absurd (omega (arith, h))
joined_within all (c ∷ cs) h =
    let all_behind = entries_behind all nothing (c ∷ cs) in
    let u = entries_within all nothing 0 0 (c ∷ cs) (record { few = omega arith; shallow = omega arith }) in
    let v = under_tokens (length cs) (length (c ∷ cs)) _ _ all_behind u in
    under_more (length (c ∷ cs)) (0 + joined_tokens all (c ∷ cs) + length cs) (max 0 (joined_deep all (c ∷ cs))) _ _ _ (and_tokens (length cs) all_behind) (omega arith) (omega arith) v

-- ---- Tokens in a row, and bounds on what is printed for them

pub record CondFits (ss : List Symbol) (e : Extent) : Type 0 where
  pub deep : ℕ
  pub lies : Lies deep ss
  pub few : e.tokens + 3 ≤ 2 * length ss
  pub shallow : e.depth ≤ 3 * deep + 1

-- of conditions beside a mark
record EntriesFit (all : Bool) (ss : List Symbol) (cs : List CondExtent) : Type 0 where
  deep : ℕ
  lies : Lies deep ss
  few : joined_tokens all cs + 2 ≤ 2 * length ss
  shallow : joined_deep all cs ≤ 3 * deep + 1
  some : 1 ≤ length cs

one_fits : (all : Bool) (ss : List Symbol) (c : CondExtent) → CondFits ss (beside_mark all c) → EntriesFit all ss (c ∷ [])
one_fits all ss c f = let a = f.few in let b = f.shallow in record { deep = f.deep; lies = f.lies; few = omega (arith, a); shallow = omega (arith, b); some = omega arith }

both_fit : (all : Bool) (xs : List Symbol) (s : Symbol) (ys : List Symbol) (cs ds : List CondExtent) → IsInRow s → EntriesFit all xs cs → EntriesFit all ys ds → EntriesFit all (xs ++ s ∷ ys) (cs ++ ds)
both_fit all xs s ys cs ds h p q =
    let l = length-append xs (s ∷ ys) in
    let t = tokens_both all cs ds in let d = deep_both all cs ds in let n = length-append cs ds in
    let f = p.few in let k = q.few in let i = p.shallow in let j = q.shallow in let m = p.some in
    record { deep = max p.deep q.deep; lies = lies_joined p.deep q.deep xs s ys h p.lies q.lies; few = omega (arith, l, t, f, k); shallow = omega (arith, d, i, j); some = omega (arith, n, m) }

joined_fits : (all : Bool) (ss : List Symbol) (cs : List CondExtent) → EntriesFit all ss cs → CondFits ss (joined_extent all cs).extent
joined_fits all ss cs f =
    let u = joined_within all cs f.some in
    let a = u.few in let b = u.shallow in let c = f.few in let d = f.shallow in
    record { deep = f.deep; lies = f.lies; few = omega (arith, a, c); shallow = omega (arith, b, d) }

abbrev in_brackets : List Symbol → List Symbol
in_brackets ss = mark (codes "(") ∷ (ss ++ mark (codes ")") ∷ [])

entries_enclosed : (all : Bool) (ss : List Symbol) (cs : List CondExtent) → EntriesFit all ss cs → EntriesFit all (in_brackets ss) cs
entries_enclosed all ss cs f =
    let l = length-append ss (mark (codes ")") ∷ []) in
    let a = f.few in let b = f.shallow in
    record { deep = f.deep + 1; lies = lies_within f.deep (mark (codes "(")) (mark (codes ")")) ss round f.lies; few = omega (arith, l, a); shallow = omega (arith, b); some = f.some }

cond_enclosed : (ss : List Symbol) (e : Extent) → CondFits ss e → CondFits (in_brackets ss) (bracketed e)
cond_enclosed ss e f =
    let l = length-append ss (mark (codes ")") ∷ []) in
    let a = f.few in let b = f.shallow in
    record { deep = f.deep + 1; lies = lies_within f.deep (mark (codes "(")) (mark (codes ")")) ss round f.lies; few = omega (arith, l, a); shallow = omega (arith, b) }

sides_fit : (xs : List Symbol) (s : Symbol) (ys : List Symbol) (a b : Extent) → IsInRow s → WholeFits xs a → WholeFits ys b → CondFits (xs ++ s ∷ ys) (and_tokens 1 (beside a b))
sides_fit xs s ys a b h p q =
    let l = length-append xs (s ∷ ys) in
    let u = under_tokens 1 2 _ _ _ (under_both 1 _ _ 1 _ _ a b p.within q.within) in
    let f = u.few in let d = u.shallow in
    record { deep = max p.deep q.deep; lies = lies_joined p.deep q.deep xs s ys h p.lies q.lies; few = omega (arith, l, f); shallow = omega (arith, d) }

zero_lies : (so : Bool) → IsInRow (mark (zero_mark so))
zero_lies true = mark_lies _ refl refl refl
zero_lies false = mark_lies _ refl refl refl

abbrev remainder_end : g.Digits → Bool → List Symbol
remainder_end by so = number by ∷ mark (zero_mark so) ∷ number (codes "0") ∷ []

remainder_fits : (b : Bool) (ss : List Symbol) (by : g.Digits) (so : Bool) (deep : ℕ) (a : Extent) → Lies deep ss → Under 0 (2 * length ss) (3 * deep + 1) a → CondFits (ss ++ mark (codes "%") ∷ remainder_end by so) (remainder_extent b a).extent
remainder_fits b ss by so deep a lies u =
    let l = length-append ss (mark (codes "%") ∷ remainder_end by so) in
    let end = lies_more 0 (number by) _ (number_lies by) (lies_more 0 (mark (zero_mark so)) _ (zero_lies so) (lies_more 0 (number (codes "0")) [] (number_lies (codes "0")) lies_none)) in
    let v = most b in
    let f = v.few in let d = v.shallow in
    record { deep = max deep 0; lies = lies_joined deep 0 ss (mark (codes "%")) (remainder_end by so) (mark_lies _ refl refl refl) lies end; few = omega (arith, l, f); shallow = omega (arith, d) }
  where
    most : (c : Bool) → Under 0 (2 * length ss + 4) (3 * deep + 1) (remainder_extent c a).extent
    most true = under_tokens 4 0 _ _ a u
    most false = record { few = omega arith; shallow = omega arith }

-- ---- The conditions that a text reads as

module _ (prelude : Bool) (scope : Scope) where
  abbrev extent : Cond → CondExtent
  extent = cond_extent prelude

  -- whatever the conditions of a draft are read as, they fit
  abbrev Fit : (all : Bool) → List Symbol → CondsDraft → Type 0
  Fit all ss ds = (xs : List Cond) → conds_tree scope ds ≡ Ok xs → EntriesFit all ss (map extent xs)

  map_both : (xs ys : List Cond) → map extent (xs ++ ys) ≡ map extent xs ++ map extent ys
  map_both [] ys = refl
  map_both (x ∷ xs) ys = ap (λ l. extent x ∷ l) (map_both xs ys)

  both_read : (all : Bool) (xs : List Symbol) (s : Symbol) (ys : List Symbol) (cs ds : CondsDraft) → IsInRow s → Fit all xs cs → Fit all ys ds → Fit all (xs ++ s ∷ ys) (and_conds cs ds)
  both_read all xs s ys cs ds h f k zs e =
      let p = conds_split scope cs ds zs e in
      let same : p.0 ++ p.1 ≡ zs = ok_of (sym (conds_join scope cs ds p.0 p.1 p.2 p.3) ∙ e) in
      subst (λ l. EntriesFit all (xs ++ s ∷ ys) (map extent l)) same
      (subst (EntriesFit all (xs ++ s ∷ ys)) (sym (map_both p.0 p.1)) (both_fit all xs s ys (map extent p.0) (map extent p.1) h (f p.0 p.2) (k p.1 p.3)))

  -- one that isn't joined by the same
  alone_read : (all : Bool) (ss : List Symbol) (d : CondDraft) → ((x : Cond) → cond_tree scope d ≡ Ok x → CondFits ss (beside_mark all (extent x))) → Fit all ss (alone d)
  alone_read all ss d f xs e = let p = both_ok (cond_tree scope d) _ xs e in subst (λ l. EntriesFit all ss (map extent l)) (ok_of p.2) (one_fits all ss (extent p.0) (f p.0 p.1))

  all_is : (xs : List Cond) → extent (tree.All xs) ≡ joined_extent true (map extent xs)
  all_is xs = all_here (cond_step prelude) xs

  any_is : (xs : List Cond) → extent (tree.Any xs) ≡ joined_extent false (map extent xs)
  any_is xs = any_here (cond_step prelude) xs

  -- what is joined by "&&" has no brackets beside "||"
  all_bare : (cs : List CondExtent) → beside_mark false (joined_extent true cs) ≡ (joined_extent true cs).extent
  all_bare [] = refl
  all_bare (c ∷ cs) = refl

  all_in_any : (ss : List Symbol) (cs : CondsDraft) → Fit true ss cs → Fit false ss (alone (draft.all_of cs))
  all_in_any ss cs f = alone_read false ss (draft.all_of cs) (λ x e.
      let p = both_ok (conds_tree scope cs) _ x e in
      subst (λ y. CondFits ss (beside_mark false (extent y))) (ok_of p.2)
      (subst (λ z. CondFits ss (beside_mark false z)) (sym (all_is p.0)) (subst (CondFits ss) (sym (all_bare (map extent p.0))) (joined_fits true ss (map extent p.0) (f p.0 p.1)))))

  -- what is joined by "||" has brackets beside "&&"
  any_enclosed : (ss : List Symbol) (cs : List CondExtent) → EntriesFit false ss cs → CondFits (in_brackets ss) (beside_mark true (joined_extent false cs))
  any_enclosed ss [] f = let s = f.some in absurd (omega (arith, s))
  any_enclosed ss (c ∷ cs) f = cond_enclosed ss (joined_extent false (c ∷ cs)).extent (joined_fits false ss (c ∷ cs) f)

  any_in_all : (ss : List Symbol) (cs : CondsDraft) → Fit false ss cs → Fit true (in_brackets ss) (alone (draft.any_of cs))
  any_in_all ss cs f = alone_read true (in_brackets ss) (draft.any_of cs) (λ x e.
      let p = both_ok (conds_tree scope cs) _ x e in
      subst (λ y. CondFits (in_brackets ss) (beside_mark true (extent y))) (ok_of p.2)
      (subst (λ z. CondFits (in_brackets ss) (beside_mark true z)) (sym (any_is p.0)) (any_enclosed ss (map extent p.0) (f p.0 p.1))))

  compared_read : (at : ℕ) (a : IxText prelude) (rel : Rel) (b : IxText prelude) (x : Cond)
      → cond_tree scope (draft.comparison (record { rel = rel; left = ix_draft at a; right = ix_draft (at + length (ix_symbols a) + 1) b })) ≡ Ok x → (all : Bool) → CondFits (ix_symbols a ++ mark (rel_mark rel) ∷ ix_symbols b) (beside_mark all (extent x))
  compared_read at a rel b x e all =
      let next = at + length (ix_symbols a) + 1 in
      let p = both_ok (ix_tree scope (ix_draft at a)) _ x e in
      let q = both_ok (ix_tree scope (ix_draft next b)) _ x p.2 in
      subst (λ y. CondFits (ix_symbols a ++ mark (rel_mark rel) ∷ ix_symbols b) (beside_mark all (extent y))) (ok_of q.2)
      (sides_fit (ix_symbols a) (mark (rel_mark rel)) (ix_symbols b) (whole prelude p.0) (whole prelude q.0) (rel_lies rel) (whole_read prelude scope at a p.0 p.1) (whole_read prelude scope next b q.0 q.1))

  remainder_bare : (all b : Bool) (a : Extent) → beside_mark all (remainder_extent b a) ≡ (remainder_extent b a).extent
  remainder_bare all true a = refl
  remainder_bare all false a = refl

  divisible_read : (at : ℕ) (t : TermText prelude) (by : g.Digits) (so : Bool) (x : Cond) → cond_tree scope (draft.divisible (term_draft at t) (at + length (term_symbols t) + 1) (decimal by) so) ≡ Ok x
      → (all : Bool) → CondFits (term_symbols t ++ mark (codes "%") ∷ remainder_end by so) (beside_mark all (extent x))
  divisible_read at t by so x e all =
      let p = both_ok (ix_tree scope (term_draft at t)) _ x e in
      let f = term_read prelude scope at t p.0 p.1 in
      let so_long = divides true (pos (decimal by)) in
      let a = placed RightOfSum (ix_extent prelude p.0) in
      subst (λ y. CondFits (term_symbols t ++ mark (codes "%") ∷ remainder_end by so) (beside_mark all (extent y))) (ok_of p.2)
      (subst (CondFits (term_symbols t ++ mark (codes "%") ∷ remainder_end by so)) (sym (remainder_bare all so_long a)) (remainder_fits so_long (term_symbols t) by so f.deep a f.lies f.summand))

  and_lies : IsInRow (mark (codes "&&"))
  and_lies = mark_lies _ refl refl refl

  or_lies : IsInRow (mark (codes "||"))
  or_lies = mark_lies _ refl refl refl

  mutual
    disjuncts_read : (at : ℕ) (c : CondText prelude true) → Fit false (cond_symbols c) (disjuncts (cond_draft at c))
    disjuncts_read at (g.all_of a) xs e = all_disjuncts_read at a xs e
    disjuncts_read at (g.or_all on c a) xs e =
        let next = at + length (cond_symbols c) + 1 in
        both_read false (cond_symbols c) (mark (codes "||")) (all_symbols a) (disjuncts (cond_draft at c)) (disjuncts (all_draft next a)) or_lies (λ ys k. disjuncts_read at c ys k) (λ ys k. all_disjuncts_read next a ys k) xs e

    all_disjuncts_read : (at : ℕ) (a : AllText prelude true) → Fit false (all_symbols a) (disjuncts (all_draft at a))
    all_disjuncts_read at (g.prim q) xs e = prim_disjuncts_read at q xs e
    all_disjuncts_read at (g.and_prim a q) xs e =
        let next = at + length (all_symbols a) + 1 in
        let left = conjuncts (all_draft at a) in
        let right = conjuncts (prim_draft next q) in
        all_in_any (all_symbols a ++ mark (codes "&&") ∷ prim_symbols q) (and_conds left right)
        (both_read true (all_symbols a) (mark (codes "&&")) (prim_symbols q) left right and_lies (λ ys k. conjuncts_read at a ys k) (λ ys k. prim_conjuncts_read next q ys k)) xs e

    conjuncts_read : (at : ℕ) (a : AllText prelude true) → Fit true (all_symbols a) (conjuncts (all_draft at a))
    conjuncts_read at (g.prim q) xs e = prim_conjuncts_read at q xs e
    conjuncts_read at (g.and_prim a q) xs e =
        let next = at + length (all_symbols a) + 1 in
        both_read true (all_symbols a) (mark (codes "&&")) (prim_symbols q) (conjuncts (all_draft at a)) (conjuncts (prim_draft next q)) and_lies (λ ys k. conjuncts_read at a ys k) (λ ys k. prim_conjuncts_read next q ys k) xs e

    prim_disjuncts_read : (at : ℕ) (q : PrimText prelude true) → Fit false (prim_symbols q) (disjuncts (prim_draft at q))
    prim_disjuncts_read at (g.enclosed c) xs e = entries_enclosed false (cond_symbols c) (map extent xs) (disjuncts_read (at + 1) c xs e)
    prim_disjuncts_read at (g.compared a rel on b) xs e = alone_read false _ (prim_draft {wide = true} at (g.compared a rel on b)) (λ x k. compared_read at a rel b x k false) xs e
    prim_disjuncts_read at (g.divisible on t by some so) xs e = alone_read false _ (prim_draft {wide = true} at (g.divisible on t by some so)) (λ x k. divisible_read at t by so x k false) xs e

    prim_conjuncts_read : (at : ℕ) (q : PrimText prelude true) → Fit true (prim_symbols q) (conjuncts (prim_draft at q))
    prim_conjuncts_read at (g.enclosed (g.all_of a)) xs e = entries_enclosed true (all_symbols a) (map extent xs) (conjuncts_read (at + 1) a xs e)
    prim_conjuncts_read at (g.enclosed (g.or_all on c a)) xs e =
        let next = at + 1 + length (cond_symbols c) + 1 in
        let left = disjuncts (cond_draft (at + 1) c) in
        let right = disjuncts (all_draft next a) in
        any_in_all (cond_symbols c ++ mark (codes "||") ∷ all_symbols a) (and_conds left right)
        (both_read false (cond_symbols c) (mark (codes "||")) (all_symbols a) left right or_lies (λ ys k. disjuncts_read (at + 1) c ys k) (λ ys k. all_disjuncts_read next a ys k)) xs e
    prim_conjuncts_read at (g.compared a rel on b) xs e = alone_read true _ (prim_draft {wide = true} at (g.compared a rel on b)) (λ x k. compared_read at a rel b x k true) xs e
    prim_conjuncts_read at (g.divisible on t by some so) xs e = alone_read true _ (prim_draft {wide = true} at (g.divisible on t by some so)) (λ x k. divisible_read at t by so x k true) xs e

  -- ---- A condition by itself

  one_whole : (ss : List Symbol) (c : CondExtent) → beside_mark false c ≡ c.extent → EntriesFit false ss (c ∷ []) → CondFits ss c.extent
  one_whole ss c same f =
      let a = f.few in let b = f.shallow in
      let all : CondFits ss (beside_mark false c) = record { deep = f.deep; lies = f.lies; few = omega (arith, a); shallow = omega (arith, b) } in
      subst (CondFits ss) same all

  alone_is : (d : CondDraft) (x : Cond) → cond_tree scope d ≡ Ok x → conds_tree scope (alone d) ≡ Ok (x ∷ [])
  alone_is d x e = then_is (cond_tree scope d) _ x _ e refl

  whole_of : (ss : List Symbol) (d : CondDraft) → Fit false ss (disjuncts d) → (x : Cond) → cond_tree scope d ≡ Ok x → CondFits ss (extent x).extent
  whole_of ss (draft.comparison c) f x e =
      let p = both_ok (ix_tree scope c.left) _ x e in
      let q = both_ok (ix_tree scope c.right) _ x p.2 in
      one_whole ss (extent x) (subst (λ y. beside_mark false (extent y) ≡ (extent y).extent) (ok_of q.2) refl) (f (x ∷ []) (alone_is (draft.comparison c) x e))
  whole_of ss (draft.divisible a by_at by so) f x e =
      let p = both_ok (ix_tree scope a) _ x e in
      one_whole ss (extent x) (subst (λ y. beside_mark false (extent y) ≡ (extent y).extent) (ok_of p.2) (remainder_bare false (divides true (pos by)) (placed RightOfSum (ix_extent prelude p.0)))) (f (x ∷ []) (alone_is (draft.divisible a by_at by so) x e))
  whole_of ss (draft.all_of cs) f x e =
      let p = both_ok (conds_tree scope cs) _ x e in
      one_whole ss (extent x) (subst (λ y. beside_mark false (extent y) ≡ (extent y).extent) (ok_of p.2) (subst (λ z. beside_mark false z ≡ z.extent) (sym (all_is p.0)) (all_bare (map extent p.0)))) (f (x ∷ []) (alone_is (draft.all_of cs) x e))
  whole_of ss (draft.any_of cs) f x e =
      let p = both_ok (conds_tree scope cs) _ x e in
      subst (λ y. CondFits ss (extent y).extent) (ok_of p.2) (subst (λ z. CondFits ss z.extent) (sym (any_is p.0)) (joined_fits false ss (map extent p.0) (f p.0 p.1)))

  pub cond_read : (at : ℕ) (c : CondText prelude true) (x : Cond) → cond_tree scope (cond_draft at c) ≡ Ok x → CondFits (cond_symbols c) (extent x).extent
  cond_read at c x e = whole_of (cond_symbols c) (cond_draft at c) (disjuncts_read at c) x e
