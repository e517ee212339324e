-- Subscripts, conditions and values: what is printed has at most twice the tokens of a text that reads so, and at most three times its brackets.
use Rattle.std.proofs.Common.{◌≡◌, ℕ, suc, ◌+◌, ◌*◌, ◌≤◌, Bool, false, nat_lt, max, List, [], ◌∷◌, ◌++◌, length, codes, Ok, refl, sym, ap, subst, ◌∙◌, arith, append_assoc, length-append}
use Rattle.std.proofs.lemmas.List.{append-nil}
use Rattle.std.proofs.lemmas.Bool.{le-ltb, eqb-true, false≢true}
use Rattle.affc_lex.specs.Bytes.{decimal}
use Rattle.affc_lex.specs.Pieces.{leading_digits}
use Rattle.affc_ast.specs.declared.tree.Ix.{Ix}
use Rattle.affc_ast.specs.declared.tree.Op.{Op}
use Rattle.affc_ast.specs.declared.tree.Op.TheVariants as op
use Rattle.affc_ast.specs.declared.tree.Compare.{Compare}
use Rattle.affc_ast.specs.declared.tree.Val.{Val}
use Rattle.affc_ast.specs.declared.tree.Val.TheVariants as val
use Rattle.affc_grammar.specs.Grammar as g
use Rattle.affc_grammar.specs.Grammar.{Symbol, word, number, mark, rel_mark, op_mark, shift_mark, level_of, IxText, DimsText, CondText, AllText, PrimText, ValueText, ix_symbols, dim_symbols, dims_symbols, cond_symbols, all_symbols, prim_symbols, value_symbols}
use Rattle.affc_grammar.specs.Draft.{ix_draft, dims_draft, conjuncts, cond_draft, all_draft, prim_draft, comparisons_of, comparisons_in, value_draft}
use Rattle.affc_grammar.specs.Names.{Scope, each, ix_tree, compare_tree, value_tree, array_named}
use Rattle.affc_cprint.specs.declared.brackets.Level.TheVariants as level
use Rattle.affc_cprint.specs.Levels.{number_of, op_left, op_right}
use Rattle.affc_wellnamed.specs.declared.shape.Extent.{Extent}
use Rattle.affc_wellnamed.specs.declared.shape.ValExtent.{ValExtent}
use Rattle.affc_wellnamed.specs.Shape.{beside, and_tokens, bracketed, bracketed_if, whole, dims_behind, compare_extent, compares_behind, at_level, binary, val_step, val_extent}
use Rattle.affc_cprint.proofs.Sees.{ok_of, both_ok}
use Rattle.affc_cprint.proofs.ReadBackValues.{each_split, one_ok, comparisons_append, not_here, bin_here, shift_here}
use Rattle.affc_wellnamed.proofs.ShapeParts.{round, square}
use Rattle.affc_loopprint.proofs.reprint.Rows.{Lies, IsInRow, lies_none, lies_more, lies_both, lies_joined, lies_within, word_lies, number_lies, mark_lies, rel_lies, op_lies, shift_lies, Under, under_more, under_both, under_tokens, under_brackets, under_brackets_if}
use Rattle.affc_loopprint.proofs.reprint.Expressions.{WholeFits, whole_read}

-- tokens in a row, and a bound on what is printed for them
pub record RowFits (ss : List Symbol) (e : Extent) : Type 0 where
  pub deep : ℕ
  pub lies : Lies deep ss
  pub within : Under 0 (2 * length ss) (3 * deep) e

pub row_both : (xs ys : List Symbol) (a b : Extent) → RowFits xs a → RowFits ys b → RowFits (xs ++ ys) (beside a b)
row_both xs ys a b p q =
    let l = length-append xs ys in
    record {
      deep = max p.deep q.deep;
      lies = lies_both p.deep q.deep xs ys p.lies q.lies;
      within = under_more 0 (2 * length xs + 2 * length ys) (max (3 * p.deep) (3 * q.deep)) _ _ _ (beside a b) (omega (arith, l)) (omega arith) (under_both 0 _ _ 0 _ _ a b p.within q.within);
    }

pub row_joined : (xs : List Symbol) (s : Symbol) (ys : List Symbol) (a b : Extent) → IsInRow s → RowFits xs a → RowFits ys b → RowFits (xs ++ s ∷ ys) (and_tokens 1 (beside a b))
row_joined xs s ys a b h p q =
    let l = length-append xs (s ∷ ys) in
    record {
      deep = max p.deep q.deep;
      lies = lies_joined p.deep q.deep xs s ys h p.lies q.lies;
      within = under_more 0 (2 * length xs + 2 * length ys + 1) (max (3 * p.deep) (3 * q.deep)) _ _ _ (and_tokens 1 (beside a b)) (omega (arith, l)) (omega arith)
          (under_tokens 1 0 _ _ _ (under_both 0 _ _ 0 _ _ a b p.within q.within));
    }

pub row_more : (s : Symbol) (ss : List Symbol) (e : Extent) → IsInRow s → RowFits ss e → RowFits (s ∷ ss) (and_tokens 1 e)
row_more s ss e h p = record {
  deep = p.deep;
  lies = lies_more p.deep s ss h p.lies;
  within = under_more 0 (2 * length ss + 1) (3 * p.deep) _ _ _ (and_tokens 1 e) (omega arith) (omega arith) (under_tokens 1 0 _ _ _ p.within);
}

-- as many tokens as are printed, without brackets
pub row_plain : (ss : List Symbol) (n : ℕ) → Lies 0 ss → n ≤ 2 * length ss → RowFits ss (record { tokens = n; depth = 0 })
row_plain ss n k h = record { deep = 0; lies = k; within = record { few = omega (arith, h); shallow = omega arith } }

-- ---- Subscripts and extents

pub dim_fits : (ss : List Symbol) (e : Extent) → WholeFits ss e → RowFits (mark (codes "[") ∷ (ss ++ mark (codes "]") ∷ [])) (bracketed e)
dim_fits ss e f =
    let l = length-append ss (mark (codes "]") ∷ []) in
    record {
      deep = f.deep + 1;
      lies = lies_within f.deep (mark (codes "[")) (mark (codes "]")) ss square f.lies;
      within = under_more 1 (2 * length ss + 2) (3 * f.deep + 1 + 1) _ _ _ (bracketed e) (omega (arith, l)) (omega arith) (under_brackets 1 (2 * length ss) (3 * f.deep + 1) e f.within);
    }

pub behind_last : (prelude : Bool) (a : Extent) (xs : List Ix) (x : Ix) → dims_behind prelude a (xs ++ x ∷ []) ≡ beside (dims_behind prelude a xs) (bracketed (whole prelude x))
behind_last prelude a [] x = refl
behind_last prelude a (y ∷ xs) x = behind_last prelude (beside a (bracketed (whole prelude y))) xs x

module _ (prelude : Bool) (scope : Scope) where
  -- behind tokens that stand before them
  pub dims_read : (front : List Symbol) (a : Extent) → RowFits front a → (at : ℕ) (ds : DimsText prelude) (xs : List Ix) → each (ix_tree scope) (dims_draft at ds) ≡ Ok xs → RowFits (front ++ dims_symbols ds) (dims_behind prelude a xs)
  dims_read front a f at g.no_dims xs h = subst (λ l. RowFits l (dims_behind prelude a xs)) (sym (append-nil front)) (subst (λ z. RowFits front (dims_behind prelude a z)) (ok_of h) f)
  dims_read front a f at (g.and_dim ds e) xs h =
      let p = each_split (ix_tree scope) (dims_draft at ds) (ix_draft (at + length (dims_symbols ds) + 1) e ∷ []) xs h in
      let q = one_ok (ix_tree scope) (ix_draft (at + length (dims_symbols ds) + 1) e) p.back p.back_ok in
      let before = dims_read front a f at ds p.front p.front_ok in
      let one = dim_fits (ix_symbols e) (whole prelude q.0) (whole_read prelude scope (at + length (dims_symbols ds) + 1) e q.0 q.1) in
      let same : dims_behind prelude a xs ≡ beside (dims_behind prelude a p.front) (bracketed (whole prelude q.0)) =
      ap (dims_behind prelude a) (p.all ∙ ap (λ l. p.front ++ l) q.2) ∙ behind_last prelude a p.front q.0 in
      subst (RowFits (front ++ (dims_symbols ds ++ dim_symbols e))) (sym same)
      (subst (λ l. RowFits l (beside (dims_behind prelude a p.front) (bracketed (whole prelude q.0)))) (append_assoc front (dims_symbols ds) (dim_symbols e))
      (row_both (front ++ dims_symbols ds) (dim_symbols e) (dims_behind prelude a p.front) (bracketed (whole prelude q.0)) before one))

-- ---- Conditions

-- the tokens of some comparisons with one more for each, and the most brackets of one
abbrev pub all_tokens : (prelude : Bool) → List Compare → ℕ
all_tokens prelude [] = 0
all_tokens prelude (c ∷ cs) = (compare_extent prelude c).tokens + 1 + all_tokens prelude cs

abbrev pub all_deep : (prelude : Bool) → List Compare → ℕ
all_deep prelude [] = 0
all_deep prelude (c ∷ cs) = max (compare_extent prelude c).depth (all_deep prelude cs)

pub tokens_both : (prelude : Bool) (xs ys : List Compare) → all_tokens prelude (xs ++ ys) ≡ all_tokens prelude xs + all_tokens prelude ys
tokens_both prelude [] ys = omega arith
tokens_both prelude (x ∷ xs) ys = let r = tokens_both prelude xs ys in omega (arith, r)

pub deep_both : (prelude : Bool) (xs ys : List Compare) → all_deep prelude (xs ++ ys) ≡ max (all_deep prelude xs) (all_deep prelude ys)
deep_both prelude [] ys = omega arith
deep_both prelude (x ∷ xs) ys = let r = deep_both prelude xs ys in omega (arith, r)

pub compares_within : (prelude : Bool) (a : Extent) (t d : ℕ) (cs : List Compare) → Under 0 t d a → Under 0 (t + all_tokens prelude cs) (max d (all_deep prelude cs)) (compares_behind prelude a cs)
compares_within prelude a t d [] u = under_more 0 t d _ _ _ a (omega arith) (omega arith) u
compares_within prelude a t d (c ∷ cs) u =
    let e = compare_extent prelude c in
    let one : Under 0 e.tokens e.depth e = record { few = omega arith; shallow = omega arith } in
    let next = under_tokens 1 0 _ _ _ (under_both 0 t d 0 e.tokens e.depth a e u one) in
    under_more 0 (t + e.tokens + 1 + all_tokens prelude cs) (max (max d e.depth) (all_deep prelude cs)) _ _ _ (compares_behind prelude a (c ∷ cs)) (omega arith) (omega arith)
    (compares_within prelude (and_tokens 1 (beside a e)) (t + e.tokens + 1) (max d e.depth) cs next)

-- of all together
pub conds_within : (prelude : Bool) (c : Compare) (cs : List Compare) → Under 1 (all_tokens prelude (c ∷ cs)) (all_deep prelude (c ∷ cs)) (compares_behind prelude (compare_extent prelude c) cs)
conds_within prelude c cs =
    let e = compare_extent prelude c in
    let one : Under 0 e.tokens e.depth e = record { few = omega arith; shallow = omega arith } in
    under_more 0 (e.tokens + all_tokens prelude cs) (max e.depth (all_deep prelude cs)) _ _ _ (compares_behind prelude e cs) (omega arith) (omega arith) (compares_within prelude e e.tokens e.depth cs one)

pub record CondsFit (prelude : Bool) (ss : List Symbol) (cs : List Compare) : Type 0 where
  pub deep : ℕ
  pub lies : Lies deep ss
  pub few : all_tokens prelude cs + 2 ≤ 2 * length ss
  pub shallow : all_deep prelude cs ≤ 3 * deep + 1
  pub some : 1 ≤ length cs

-- the comparisons of a `context` line
module _ (prelude : Bool) (scope : Scope) where
  compared_fits : (xs : List Symbol) (s : Symbol) (ys : List Symbol) (c : Compare) → IsInRow s → WholeFits xs (whole prelude c.left) → WholeFits ys (whole prelude c.right) → CondsFit prelude (xs ++ s ∷ ys) (c ∷ [])
  compared_fits xs s ys c h p q =
      let l = length-append xs (s ∷ ys) in
      let u = under_tokens 1 2 _ _ _ (under_both 1 _ _ 1 _ _ (whole prelude c.left) (whole prelude c.right) p.within q.within) in
      let a = u.few in let b = u.shallow in
      record { deep = max p.deep q.deep; lies = lies_joined p.deep q.deep xs s ys h p.lies q.lies; few = omega (arith, l, a); shallow = omega (arith, b); some = omega arith }

  mutual
    pub conds_read : (at : ℕ) (c : CondText prelude false) (ys : List Compare) → each (compare_tree scope) (comparisons_in (cond_draft at c)) ≡ Ok ys → CondsFit prelude (cond_symbols c) ys
    conds_read at (g.all_of a) ys h = tests_read at a ys h
    conds_read at (g.or_all on c a) ys h = absurd (false≢true on)

    tests_read : (at : ℕ) (a : AllText prelude false) (ys : List Compare) → each (compare_tree scope) (comparisons_in (all_draft at a)) ≡ Ok ys → CondsFit prelude (all_symbols a) ys
    tests_read at (g.prim q) ys h = test_read at q ys h
    tests_read at (g.and_prim a q) ys h =
        let next = at + length (all_symbols a) + 1 in
        let left = conjuncts (all_draft at a) in
        let right = conjuncts (prim_draft next q) in
        let p = each_split (compare_tree scope) (comparisons_of left) (comparisons_of right) ys (sym (ap (each (compare_tree scope)) (comparisons_append left right)) ∙ h) in
        let b = tests_read at a p.front p.front_ok in
        let c = test_read next q p.back p.back_ok in
        let l = length-append (all_symbols a) (mark (codes "&&") ∷ prim_symbols q) in
        let t = tokens_both prelude p.front p.back in let d = deep_both prelude p.front p.back in let n = length-append p.front p.back in
        let f = b.few in let k = c.few in let i = b.shallow in let j = c.shallow in let s = b.some in
        subst (CondsFit prelude (all_symbols a ++ mark (codes "&&") ∷ prim_symbols q)) (sym p.all) (record {
          deep = max b.deep c.deep;
          lies = lies_joined b.deep c.deep (all_symbols a) (mark (codes "&&")) (prim_symbols q) (mark_lies _ refl refl refl) b.lies c.lies;
          few = omega (arith, l, t, f, k);
          shallow = omega (arith, d, i, j);
          some = omega (arith, n, s);
        })

    test_read : (at : ℕ) (q : PrimText prelude false) (ys : List Compare) → each (compare_tree scope) (comparisons_in (prim_draft at q)) ≡ Ok ys → CondsFit prelude (prim_symbols q) ys
    test_read at (g.enclosed c) ys h =
        let a = conds_read (at + 1) c ys h in
        let l = length-append (cond_symbols c) (mark (codes ")") ∷ []) in
        let f = a.few in let i = a.shallow in
        record { deep = a.deep + 1; lies = lies_within a.deep (mark (codes "(")) (mark (codes ")")) (cond_symbols c) round a.lies; few = omega (arith, l, f); shallow = omega (arith, i); some = a.some }
    test_read at (g.compared a rel on b) ys h =
        let next = at + length (ix_symbols a) + 1 in
        let o = one_ok (compare_tree scope) (record { rel = rel; left = ix_draft at a; right = ix_draft next b }) ys h in
        let p = both_ok (ix_tree scope (ix_draft at a)) _ o.0 o.1 in
        let q = both_ok (ix_tree scope (ix_draft next b)) _ o.0 p.2 in
        let c : Compare = record { rel = rel; left = p.0; right = q.0 } in
        subst (CondsFit prelude (ix_symbols a ++ mark (rel_mark rel) ∷ ix_symbols b)) (sym (o.2 ∙ ap (λ z. z ∷ []) (sym (ok_of q.2))))
        (compared_fits (ix_symbols a) (mark (rel_mark rel)) (ix_symbols b) c (rel_lies rel) (whole_read prelude scope at a p.0 p.1) (whole_read prelude scope next b q.0 q.1))
    test_read at (g.divisible on t by some so) ys h = absurd (false≢true on)

-- ---- Values

-- a value, by itself and with brackets where it binds looser than a level of at least `n`
pub record ValFits (n : ℕ) (ss : List Symbol) (v : ValExtent) : Type 0 where
  pub deep : ℕ
  pub lies : Lies deep ss
  pub within : Under 0 (2 * length ss) (3 * deep) v.extent
  pub at_places : (k : ℕ) → n ≤ k → Under 0 (2 * length ss) (3 * deep) (bracketed_if (nat_lt k v.level) v.extent)

-- one that binds as tightly as the level
level_fits : (n : ℕ) (ss : List Symbol) (v : ValExtent) → v.level ≤ n → RowFits ss v.extent → ValFits n ss v
level_fits n ss v h f = record {
  deep = f.deep;
  lies = f.lies;
  within = f.within;
  at_places = λ k le. subst (λ b. Under 0 (2 * length ss) (3 * f.deep) (bracketed_if b v.extent)) (sym (le-ltb k v.level (omega (arith, h, le)))) f.within;
}

-- at a level that is loose enough
at_place : (n : ℕ) (ss : List Symbol) (v : ValExtent) (k : ℕ) → n ≤ k → ValFits n ss v → RowFits ss (bracketed_if (nat_lt k v.level) v.extent)
at_place n ss v k le f = record { deep = f.deep; lies = f.lies; within = f.at_places k le }

operand_fits : (n : ℕ) (ss : List Symbol) (v : ValExtent) → ValFits n ss v → ValFits (suc n) ss v
operand_fits n ss v f = record { deep = f.deep; lies = f.lies; within = f.within; at_places = λ k le. f.at_places k (omega (arith, le)) }

parens_fits : (ss : List Symbol) (v : ValExtent) → ValFits 6 ss v → ValFits 0 (mark (codes "(") ∷ (ss ++ mark (codes ")") ∷ [])) v
parens_fits ss v f =
    let l = length-append ss (mark (codes ")") ∷ []) in
    record {
      deep = f.deep + 1;
      lies = lies_within f.deep (mark (codes "(")) (mark (codes ")")) ss round f.lies;
      within = under_more 0 (2 * length ss) (3 * f.deep) _ _ _ v.extent (omega (arith, l)) (omega arith) f.within;
      at_places = λ k le. under_more 0 (2 * length ss + 2) (3 * f.deep + 1) _ _ _ (bracketed_if (nat_lt k v.level) v.extent) (omega (arith, l)) (omega arith)
          (under_brackets_if (nat_lt k v.level) 0 (2 * length ss) (3 * f.deep) v.extent f.within);
    }

cast_fits : (ss : List Symbol) (e : Extent) → WholeFits ss e → RowFits (mark (codes "(") ∷ word (codes "uint64_t") ∷ mark (codes ")") ∷ mark (codes "(") ∷ (ss ++ mark (codes ")") ∷ [])) (and_tokens 3 (bracketed e))
cast_fits ss e f =
    let l = length-append ss (mark (codes ")") ∷ []) in
    let front = lies_within 0 (mark (codes "(")) (mark (codes ")")) (word (codes "uint64_t") ∷ []) round (lies_more 0 (word (codes "uint64_t")) [] (word_lies (codes "uint64_t")) lies_none) in
    record {
      deep = max (0 + 1) (f.deep + 1);
      lies = lies_both (0 + 1) (f.deep + 1) (mark (codes "(") ∷ word (codes "uint64_t") ∷ mark (codes ")") ∷ []) _ front (lies_within f.deep (mark (codes "(")) (mark (codes ")")) ss round f.lies);
      within = under_more 1 (2 * length ss + 2 + 3) (3 * f.deep + 1 + 1) _ _ _ (and_tokens 3 (bracketed e)) (omega (arith, l)) (omega arith) (under_tokens 3 1 _ _ _ (under_brackets 1 (2 * length ss) (3 * f.deep + 1) e f.within));
    }

shift_fits : (ss : List Symbol) (left : Bool) (by : g.Digits) (e : Extent) → RowFits ss e → RowFits (ss ++ mark (shift_mark left) ∷ number by ∷ []) (and_tokens 2 e)
shift_fits ss left by e f =
    let l = length-append ss (mark (shift_mark left) ∷ number by ∷ []) in
    record {
      deep = max f.deep 0;
      lies = lies_joined f.deep 0 ss (mark (shift_mark left)) (number by ∷ []) (shift_lies left) f.lies (lies_more 0 (number by) [] (number_lies by) lies_none);
      within = under_more 0 (2 * length ss + 2) (3 * f.deep) _ _ _ (and_tokens 2 e) (omega (arith, l)) (omega arith) (under_tokens 2 0 _ _ _ f.within);
    }

left_level : (o : Op) → number_of (op_left o) ≡ level_of o
left_level op.Mul = refl
left_level op.Add = refl
left_level op.Sub = refl
left_level op.And = refl
left_level op.Xor = refl
left_level op.Or = refl

right_level : (o : Op) → number_of (op_right o) + 1 ≡ level_of o
right_level op.Mul = refl
right_level op.Add = refl
right_level op.Sub = refl
right_level op.And = refl
right_level op.Xor = refl
right_level op.Or = refl

binary_fits : (n : ℕ) (o : Op) (xs ys : List Symbol) (a b : ValExtent) → level_of o ≡ suc n → ValFits (suc n) xs a → ValFits n ys b → ValFits (suc n) (xs ++ mark (op_mark o) ∷ ys) (binary o a b)
binary_fits n o xs ys a b e p q =
    let l = left_level o in
    let r = right_level o in
    level_fits (suc n) (xs ++ mark (op_mark o) ∷ ys) (binary o a b) (omega (arith, e))
    (row_joined xs (mark (op_mark o)) ys (at_level (op_left o) a) (at_level (op_right o) b) (op_lies o)
    (at_place (suc n) xs a (number_of (op_left o)) (omega (arith, e, l)) p) (at_place n ys b (number_of (op_right o)) (omega (arith, e, r)) q))

module _ (prelude : Bool) (scope : Scope) where
  value_at : {n : ℕ} (ss : List Symbol) (x y : Val) (v : ValExtent) → x ≡ y → val_extent prelude x ≡ v → ValFits n ss v → ValFits n ss (val_extent prelude y)
  value_at {n = n} ss x y v p q f = subst (λ z. ValFits n ss (val_extent prelude z)) p (subst (ValFits n ss) (sym q) f)

  pub value_read : {n : ℕ} (at : ℕ) (v : ValueText prelude n) (x : Val) → value_tree scope (value_draft at v) ≡ Ok x → ValFits n (value_symbols v) (val_extent prelude x)
  value_read at (g.complement v) x h =
      let p = both_ok (value_tree scope (value_draft (at + 1) v)) _ x h in
      value_at _ (val.Not p.0) x _ (ok_of p.2) (not_here (val_step prelude) p.0)
      (level_fits 0 _ _ (omega arith) (row_more (mark (codes "~")) (value_symbols v) _ (mark_lies _ refl refl refl) (at_place 0 (value_symbols v) _ 0 (omega arith) (value_read (at + 1) v p.0 p.1))))
  value_read at (g.load array subs) x h =
      let p = both_ok (array_named scope at array false (length (dims_draft (at + 1) subs))) _ x h in
      let q = both_ok (each (ix_tree scope) (dims_draft (at + 1) subs)) _ x p.2 in
      value_at _ (val.Load p.0 q.0) x _ (ok_of q.2) refl
      (level_fits 0 _ _ (omega arith) (dims_read prelude scope (word array ∷ []) (record { tokens = 1; depth = 0 }) (row_plain (word array ∷ []) 1 (lies_more 0 (word array) [] (word_lies array) lies_none) (omega arith)) (at + 1) subs q.0 q.1))
  value_read at (g.constant bytes) x h =
      value_at _ (val.Const (decimal (leading_digits bytes))) x _ (ok_of h) refl
      (level_fits 0 _ _ (omega arith) (row_plain _ 1 (lies_more 0 _ [] (record { separator = refl; bracket = record { opening = refl; closing = refl } }) lies_none) (omega arith)))
  value_read at (g.parens v) x h = parens_fits (value_symbols v) _ (value_read (at + 1) v x h)
  value_read at (g.cast e) x h =
      let p = both_ok (ix_tree scope (ix_draft (at + 4) e)) _ x h in
      value_at _ (val.Cast p.0) x _ (ok_of p.2) refl (level_fits 0 _ _ (omega arith) (cast_fits (ix_symbols e) (whole prelude p.0) (whole_read prelude scope (at + 4) e p.0 p.1)))
  value_read at (g.operand {n = n} v) x h = operand_fits n _ _ (value_read at v x h)
  value_read at (g.binary {n = n} a o l b) x h =
      let next = at + length (value_symbols a) + 1 in
      let p = both_ok (value_tree scope (value_draft at a)) _ x h in
      let q = both_ok (value_tree scope (value_draft next b)) _ x p.2 in
      value_at _ (val.Bin o p.0 q.0) x _ (ok_of q.2) (bin_here (val_step prelude) o p.0 q.0)
      (binary_fits n o (value_symbols a) (value_symbols b) _ _ (eqb-true (level_of o) (suc n) l) (value_read at a p.0 p.1) (value_read next b q.0 q.1))
  value_read at (g.shift v left by l) x h =
      let p = both_ok (value_tree scope (value_draft at v)) _ x h in
      value_at _ (val.Shift left p.0 (decimal by)) x _ (ok_of p.2) (shift_here (val_step prelude) left p.0 (decimal by))
      (level_fits 3 _ _ (omega arith) (shift_fits (value_symbols v) left by _ (at_place 3 (value_symbols v) _ 3 (omega arith) (value_read at v p.0 p.1))))

  -- by itself
  pub value_fits : (at : ℕ) (v : ValueText prelude 6) (x : Val) → value_tree scope (value_draft at v) ≡ Ok x → RowFits (value_symbols v) (at_level level.Or (val_extent prelude x))
  value_fits at v x h = at_place 6 (value_symbols v) _ 6 (omega arith) (value_read at v x h)
