-- Subscripts, conditions of `context` lines and values that are read are printed as ones that are read so, and whose tokens a text can have.
use Rattle.std.proofs.Common.{◌≡◌, ℕ, ◌+◌, ◌^◌, ◌<◌, ◌≤◌, Bool, true, false, List, [], ◌∷◌, ◌++◌, length, codes, Option, Some, None, is_some, Ok, IsTrue, refl, sym, ap, subst, ◌∙◌, arith, append_assoc}
use Rattle.std.proofs.lemmas.List.{append-nil}
use Rattle.std.proofs.lemmas.Bool.{and_parts, and_from, leb-true, le-leb}
use Rattle.std.specs.Fmt.{decimal as digits_of}
use Rattle.affc_lex.specs.Bytes.{same, decimal as value_of}
use Rattle.affc_lex.specs.Pieces.{is_word, is_value, is_small, leading_digits}
use denote.Hole.Carrier.{hidden}
use Rattle.affc_ast.specs.declared.tree.Ix.{Ix}
use Rattle.affc_ast.specs.declared.tree.Compare.{Compare}
use Rattle.affc_ast.specs.declared.tree.Op.{Op}
use Rattle.affc_ast.specs.declared.tree.Op.TheVariants.{Add, Sub, Mul, And, Or, Xor}
use Rattle.affc_ast.specs.declared.tree.Val.{Val}
use Rattle.affc_ast.specs.declared.tree.Val.TheVariants as val
use Rattle.affc_ast.specs.declared.tree.Val.TheBlock.{shape-the_row-Val-0, hidden-the_row-Val-0}
use Rattle.affc_ast.specs.declared.tree.Val.TheOpen as layer
use Rattle.affc_ast.specs.declared.tree.Val.TheOpen.{Val-F}
use Rattle.affc_ast.specs.Joined.{is_ordered}
use Rattle.affc_ast.specs.Recursion.{by_val}
use Rattle.affc_grammar.specs.Grammar.{Name, Digits, word, number as number_symbol, mark, op_mark, shift_mark, rel_mark, is_shift, DimsText, no_dims, and_dim, CondText, all_of, or_all, AllText, prim, and_prim, PrimText, enclosed, compared, divisible, ValueText, complement, load, constant, parens, cast, operand, binary, shift, ix_symbols, dims_symbols, dim_symbols, cond_symbols, all_symbols, prim_symbols, value_symbols}
use Rattle.affc_grammar.specs.Draft.{CondsDraft, no_conds, and_cond, ix_draft, dims_draft, and_conds, conjuncts, cond_draft, all_draft, prim_draft, comparison_in, comparisons_of, comparisons_in, value_draft}
use Rattle.affc_grammar.specs.Names.{Scope, Checked, each, array_named, ix_tree, compare_tree, value_tree}
use Rattle.affc_grammar.specs.Printed.{Names, array_name, ix_text, and_dims, dims_text, test_by, test_text, and_tests, ValueWritten, primary_written, times_written, plus_written, shift_written, and_written, xor_written, or_written, binary_written, shift_by, value_step, holding}
use Rattle.affc_cprint.proofs.Numbers.{value_of-decimal, shift_of}
use Rattle.affc_cprint.proofs.Places.{some_held}
use Rattle.affc_cprint.proofs.Spelled.{AllHave, AllStand, have_parts, stand_both, IsName, IsNumeral, symbol_of_name, symbol_of_numeral, decimal_is_numeral, decimal_is_constant, leading_of_decimal, small_value}
use Rattle.affc_cprint.proofs.Sees.{ok_of, both_ok, then_is, Sees, array_back}
use Rattle.affc_cprint.proofs.ReadBack.{in_parentheses, word_of_symbol, IsBack, ix_back}

-- ---- Lists

abbrev pub Each : {A : Type 0} → (A → Type 0) → List A → Type 0
Each P [] = Unit {0}
Each P (x ∷ xs) = P x × Each P xs

pub each_append : {A : Type 0} (P : A → Type 0) (xs ys : List A) → Each P xs → Each P ys → Each P (xs ++ ys)
each_append P [] ys p q = q
each_append P (x ∷ xs) ys p q = (p.0, each_append P xs ys p.1 q)

pub record SplitOk {A B : Type 0} (f : A → Checked B) (xs ys : List A) (zs : List B) : Type 0 where
  pub front : List B
  pub back : List B
  pub front_ok : each f xs ≡ Ok front
  pub back_ok : each f ys ≡ Ok back
  pub all : zs ≡ front ++ back

pub each_split : {A B : Type 0} (f : A → Checked B) (xs ys : List A) (zs : List B) → each f (xs ++ ys) ≡ Ok zs → SplitOk f xs ys zs
each_split f [] ys zs e = record { front = []; back = zs; front_ok = refl; back_ok = e; all = refl }
each_split f (x ∷ xs) ys zs e =
    let p = both_ok (f x) _ zs e in
    let q = both_ok (each f (xs ++ ys)) _ zs p.2 in
    let r = each_split f xs ys q.0 q.1 in
    record { front = p.0 ∷ r.front; back = r.back; front_ok = then_is (f x) _ p.0 _ p.1 (then_is (each f xs) _ r.front _ r.front_ok refl); back_ok = r.back_ok; all = sym (ok_of q.2) ∙ ap (λ l. p.0 ∷ l) r.all }

pub each_join : {A B : Type 0} (f : A → Checked B) (xs ys : List A) (us vs : List B) → each f xs ≡ Ok us → each f ys ≡ Ok vs → each f (xs ++ ys) ≡ Ok (us ++ vs)
each_join f [] ys us vs p q = q ∙ ap (λ l. Ok (l ++ vs)) (ok_of p)
each_join f (x ∷ xs) ys us vs p q =
    let a = both_ok (f x) _ us p in
    let b = both_ok (each f xs) _ us a.2 in
    then_is (f x) _ a.0 _ a.1 (then_is (each f (xs ++ ys)) _ (b.0 ++ vs) _ (each_join f xs ys b.0 vs b.1 q) (ap (λ l. Ok (l ++ vs)) (ok_of b.2)))

pub one_ok : {A B : Type 0} (f : A → Checked B) (x : A) (ys : List B) → each f (x ∷ []) ≡ Ok ys → (y : B) × (f x ≡ Ok y) × (ys ≡ y ∷ [])
one_ok f x ys e = let p = both_ok (f x) _ ys e in (p.0, p.1, sym (ok_of p.2))

pub each_one : {A B : Type 0} (f : A → Checked B) (x : A) (y : B) → f x ≡ Ok y → each f (x ∷ []) ≡ Ok (y ∷ [])
each_one f x y e = then_is (f x) _ y _ e refl

pub each_length : {A B : Type 0} (f : A → Checked B) (xs : List A) (ys : List B) → each f xs ≡ Ok ys → length xs ≡ length ys
each_length f [] ys e = ap length (ok_of e)
each_length f (x ∷ xs) ys e =
    let p = both_ok (f x) _ ys e in
    let q = both_ok (each f xs) _ ys p.2 in
    let n = each_length f xs q.0 q.1 in
    let m = ap length (ok_of q.2) in
    omega (arith, n, m)

-- the comparisons of conditions one behind the other
pub comparisons_append : (cs ds : CondsDraft) → comparisons_of (and_conds cs ds) ≡ comparisons_of cs ++ comparisons_of ds
comparisons_append cs no_conds = sym (append-nil (comparisons_of cs))
comparisons_append cs (and_cond ds d) = ap (λ l. l ++ comparison_in d) (comparisons_append cs ds) ∙ append_assoc (comparisons_of cs) (comparisons_of ds) (comparison_in d)

module _ (prelude : Bool) (scope : Scope) (names : Names) (sees : Sees scope names) where
  abbrev pub AreBack : List Ix → Type 0
  AreBack xs = Each (IsBack prelude scope names sees) xs

  -- ---- Subscripts and extents

  pub dims_back : (c : DimsText prelude) → AllHave (dims_symbols c) → (at : ℕ) (xs : List Ix) → each (ix_tree scope) (dims_draft at c) ≡ Ok xs → AreBack xs
  dims_back no_dims have at xs e = subst AreBack (ok_of e) tt
  dims_back (and_dim ds a) have at xs e =
      let s = have_parts (dims_symbols ds) (dim_symbols a) have in
      let p = each_split (ix_tree scope) (dims_draft at ds) (ix_draft _ a ∷ []) xs e in
      let q = one_ok (ix_tree scope) (ix_draft _ a) p.back p.back_ok in
      subst AreBack (sym (p.all ∙ ap (λ l. p.front ++ l) q.2))
      (each_append (IsBack prelude scope names sees) p.front (q.0 ∷ []) (dims_back ds s.0 at p.front p.front_ok) (ix_back prelude scope names sees a (have_parts (ix_symbols a) (mark (codes "]") ∷ []) s.1).0 _ q.0 q.1, tt))

  -- what is printed for subscripts
  pub record DimsBack (ds : DimsText prelude) (xs : List Ix) : Type 0 where
    pub reads : (at : ℕ) → each (ix_tree scope) (dims_draft at ds) ≡ Ok xs
    pub stands : AllStand (dims_symbols ds)

  dims_from : (ds : DimsText prelude) (ys xs : List Ix) → DimsBack ds ys → AreBack xs → DimsBack (and_dims prelude names ds xs) (ys ++ xs)
  dims_from ds ys [] d b = record { reads = λ at. d.reads at ∙ ap (λ l. Ok l) (sym (append-nil ys)); stands = d.stands }
  dims_from ds ys (x ∷ xs) d b =
      let more : DimsBack (and_dim ds (ix_text prelude names x)) (ys ++ x ∷ []) = record {
        reads = λ at.
            let next = at + length (dims_symbols ds) + 1 in
            each_join (ix_tree scope) (dims_draft at ds) (ix_draft next (ix_text prelude names x) ∷ []) ys (x ∷ []) (d.reads at) (each_one (ix_tree scope) (ix_draft next (ix_text prelude names x)) x (b.0.whole next));
        stands = stand_both (dims_symbols ds) (dim_symbols (ix_text prelude names x)) d.stands (stand_both (ix_symbols (ix_text prelude names x)) (mark (codes "]") ∷ []) b.0.whole_stands refl);
      } in
      subst (DimsBack (and_dims prelude names (and_dim ds (ix_text prelude names x)) xs)) (append_assoc ys (x ∷ []) xs) (dims_from (and_dim ds (ix_text prelude names x)) (ys ++ x ∷ []) xs more b.1)

  pub dims_again : (xs : List Ix) → AreBack xs → DimsBack (dims_text prelude names xs) xs
  dims_again xs b = dims_from no_dims [] xs (record { reads = λ at. refl; stands = refl }) b

  -- ---- Conditions of `context` lines

  abbrev pub IsCompareBack : Compare → Type 0
  IsCompareBack c = IsBack prelude scope names sees c.left × IsBack prelude scope names sees c.right × (is_ordered c.rel ≡ true)

  abbrev pub AreComparesBack : List Compare → Type 0
  AreComparesBack cs = Each IsCompareBack cs

  mutual
    pub tests_back : (c : CondText prelude false) → AllHave (cond_symbols c) → (at : ℕ) (xs : List Compare) → each (compare_tree scope) (comparisons_in (cond_draft at c)) ≡ Ok xs → AreComparesBack xs
    tests_back (all_of a) have at xs e = all_tests_back a have at xs e
    tests_back (or_all on c a) have at xs e = absurd (cc)

    all_tests_back : (c : AllText prelude false) → AllHave (all_symbols c) → (at : ℕ) (xs : List Compare) → each (compare_tree scope) (comparisons_in (all_draft at c)) ≡ Ok xs → AreComparesBack xs
    all_tests_back (prim q) have at xs e = test_back q have at xs e
    all_tests_back (and_prim a q) have at xs e =
        let s = have_parts (all_symbols a) (mark (codes "&&") ∷ prim_symbols q) have in
        let next = at + length (all_symbols a) + 1 in
        let p = each_split (compare_tree scope) (comparisons_in (all_draft at a)) (comparisons_in (prim_draft next q)) xs (ap (each (compare_tree scope)) (sym (comparisons_append (conjuncts (all_draft at a)) (conjuncts (prim_draft next q)))) ∙ e) in
        subst AreComparesBack (sym p.all) (each_append IsCompareBack p.front p.back (all_tests_back a s.0 at p.front p.front_ok) (test_back q s.1 next p.back p.back_ok))

    test_back : (c : PrimText prelude false) → AllHave (prim_symbols c) → (at : ℕ) (xs : List Compare) → each (compare_tree scope) (comparisons_in (prim_draft at c)) ≡ Ok xs → AreComparesBack xs
    test_back (enclosed c) have at xs e = tests_back c (have_parts (cond_symbols c) (mark (codes ")") ∷ []) have).0 (at + 1) xs e
    test_back (compared a rel on b) have at xs e =
        let s = have_parts (ix_symbols a) (mark (rel_mark rel) ∷ ix_symbols b) have in
        let next = at + length (ix_symbols a) + 1 in
        let o = one_ok (compare_tree scope) (record { rel = rel; left = ix_draft at a; right = ix_draft next b }) xs e in
        let p = both_ok (ix_tree scope (ix_draft at a)) _ o.0 o.1 in
        let q = both_ok (ix_tree scope (ix_draft next b)) _ o.0 p.2 in
        let here : IsCompareBack (record { rel = rel; left = p.0; right = q.0 }) = (ix_back prelude scope names sees a s.0 at p.0 p.1, ix_back prelude scope names sees b s.1 next q.0 q.1, on) in
        subst AreComparesBack (sym o.2) (subst IsCompareBack (ok_of q.2) here, tt)
    test_back (divisible on t by some so) have at xs e = absurd (cc)

-- what is printed for the conditions of a `context` line
pub record TestsBack (scope : Scope) (t : AllText true false) (xs : List Compare) : Type 0 where
  pub reads : (at : ℕ) → each (compare_tree scope) (comparisons_in (all_draft at t)) ≡ Ok xs
  pub stands : AllStand (all_symbols t)

module _ (scope : Scope) (names : Names) (sees : Sees scope names) where
  one_test : (c : Compare) → IsCompareBack true scope names sees c → TestsBack scope (prim (test_text names c)) (c ∷ [])
  one_test c b = of_held (holding (is_ordered c.rel)) (some_held (is_ordered c.rel) b.2)
    where
      of_held : (o : Option (IsTrue (is_ordered c.rel))) → is_some o ≡ true → TestsBack scope (prim (test_by names c o)) (c ∷ [])
      of_held (Some h) s = record {
        reads = λ at.
            let next = at + length (ix_symbols (ix_text true names c.left)) + 1 in
            each_one (compare_tree scope) (record { rel = c.rel; left = ix_draft at (ix_text true names c.left); right = ix_draft next (ix_text true names c.right) }) c
            (then_is (ix_tree scope (ix_draft at (ix_text true names c.left))) _ c.left _ (b.0.whole at) (then_is (ix_tree scope (ix_draft next (ix_text true names c.right))) _ c.right _ (b.1.whole next) refl));
        stands = stand_both (ix_symbols (ix_text true names c.left)) (mark (rel_mark c.rel) ∷ ix_symbols (ix_text true names c.right)) b.0.whole_stands b.1.whole_stands;
      }
      of_held None s = absurd (cc)

  tests_from : (t : AllText true false) (ys xs : List Compare) → TestsBack scope t ys → AreComparesBack true scope names sees xs → TestsBack scope (and_tests names t xs) (ys ++ xs)
  tests_from t ys [] d b = record { reads = λ at. d.reads at ∙ ap (λ l. Ok l) (sym (append-nil ys)); stands = d.stands }
  tests_from t ys (x ∷ xs) d b =
      let one = one_test x b.0 in
      let more : TestsBack scope (and_prim t (test_text names x)) (ys ++ x ∷ []) = record {
        reads = λ at.
            let next = at + length (all_symbols t) + 1 in
            ap (each (compare_tree scope)) (comparisons_append (conjuncts (all_draft at t)) (conjuncts (prim_draft next (test_text names x))))
            ∙ each_join (compare_tree scope) (comparisons_in (all_draft at t)) (comparisons_in (prim_draft next (test_text names x))) ys (x ∷ []) (d.reads at) (one.reads next);
        stands = stand_both (all_symbols t) (mark (codes "&&") ∷ prim_symbols (test_text names x)) d.stands one.stands;
      } in
      subst (TestsBack scope (and_tests names (and_prim t (test_text names x)) xs)) (append_assoc ys (x ∷ []) xs) (tests_from (and_prim t (test_text names x)) (ys ++ x ∷ []) xs more b.1)

  pub tests_again : (x : Compare) (xs : List Compare) → AreComparesBack true scope names sees (x ∷ xs) → TestsBack scope (and_tests names (prim (test_text names x)) xs) (x ∷ xs)
  tests_again x xs b = tests_from (prim (test_text names x)) (x ∷ []) xs (one_test x b.0) b.1

-- ---- Values

pub not_here : {A : Type 0} (f : Val-F A → A) (a : Val) → by_val f (val.Not a) ≡ f (layer.Not (by_val f a))
unfolding shape-the_row-Val-0 hidden-the_row-Val-0 hidden
not_here f a = refl

pub bin_here : {A : Type 0} (f : Val-F A → A) (op : Op) (a b : Val) → by_val f (val.Bin op a b) ≡ f (layer.Bin op (by_val f a) (by_val f b))
unfolding shape-the_row-Val-0 hidden-the_row-Val-0 hidden
bin_here f op a b = refl

pub shift_here : {A : Type 0} (f : Val-F A → A) (left : Bool) (a : Val) (by : ℕ) → by_val f (val.Shift left a by) ≡ f (layer.Shift left (by_val f a) by)
unfolding shape-the_row-Val-0 hidden-the_row-Val-0 hidden
shift_here f left a by = refl

-- what is written at a level
pub record ReadsValue {prelude : Bool} {n : ℕ} (scope : Scope) (t : ValueText prelude n) (v : Val) : Type 0 where
  pub reads : (at : ℕ) → value_tree scope (value_draft at t) ≡ Ok v
  pub stands : AllStand (value_symbols t)

-- what is written for the value reads as it, at every level
pub record ValueBack {prelude : Bool} (scope : Scope) (w : ValueWritten prelude) (v : Val) : Type 0 where
  pub level_0 : ReadsValue scope w.level_0 v
  pub level_1 : ReadsValue scope w.level_1 v
  pub level_2 : ReadsValue scope w.level_2 v
  pub level_3 : ReadsValue scope w.level_3 v
  pub level_4 : ReadsValue scope w.level_4 v
  pub level_5 : ReadsValue scope w.level_5 v
  pub level_6 : ReadsValue scope w.level_6 v

module _ {prelude : Bool} (scope : Scope) where
  up : {n : ℕ} (t : ValueText prelude n) (v : Val) → ReadsValue scope t v → ReadsValue scope (operand t) v
  up t v r = record { reads = r.reads; stands = r.stands }

  inside : (t : ValueText prelude 6) (v : Val) → ReadsValue scope t v → ReadsValue scope (parens t) v
  inside t v r = record { reads = λ at. r.reads (at + 1); stands = in_parentheses (value_symbols t) r.stands }

  pub primary_back : (t : ValueText prelude 0) (v : Val) → ReadsValue scope t v → ValueBack scope (primary_written t) v
  primary_back t v r =
      let r1 = up t v r in let r2 = up _ v r1 in let r3 = up _ v r2 in let r4 = up _ v r3 in let r5 = up _ v r4 in let r6 = up _ v r5 in
      record { level_0 = r; level_1 = r1; level_2 = r2; level_3 = r3; level_4 = r4; level_5 = r5; level_6 = r6 }

  times_back : (t : ValueText prelude 1) (v : Val) → ReadsValue scope t v → ValueBack scope (times_written t) v
  times_back t v r =
      let r2 = up t v r in let r3 = up _ v r2 in let r4 = up _ v r3 in let r5 = up _ v r4 in let r6 = up _ v r5 in
      record { level_0 = inside _ v r6; level_1 = r; level_2 = up _ v r; level_3 = up _ v (up _ v r); level_4 = up _ v (up _ v (up _ v r)); level_5 = up _ v (up _ v (up _ v (up _ v r))); level_6 = up _ v (up _ v (up _ v (up _ v (up _ v r)))) }

  plus_back : (t : ValueText prelude 2) (v : Val) → ReadsValue scope t v → ValueBack scope (plus_written t) v
  plus_back t v r =
      let r3 = up t v r in let r4 = up _ v r3 in let r5 = up _ v r4 in let r6 = up _ v r5 in
      let l0 = inside _ v r6 in
      record { level_0 = l0; level_1 = up _ v l0; level_2 = r; level_3 = r3; level_4 = r4; level_5 = r5; level_6 = r6 }

  pub shift_back : (t : ValueText prelude 3) (v : Val) → ReadsValue scope t v → ValueBack scope (shift_written t) v
  shift_back t v r =
      let r4 = up t v r in let r5 = up _ v r4 in let r6 = up _ v r5 in
      let l0 = inside _ v r6 in let l1 = up _ v l0 in
      record { level_0 = l0; level_1 = l1; level_2 = up _ v l1; level_3 = r; level_4 = r4; level_5 = r5; level_6 = r6 }

  and_back : (t : ValueText prelude 4) (v : Val) → ReadsValue scope t v → ValueBack scope (and_written t) v
  and_back t v r =
      let r5 = up t v r in let r6 = up _ v r5 in
      let l0 = inside _ v r6 in let l1 = up _ v l0 in let l2 = up _ v l1 in
      record { level_0 = l0; level_1 = l1; level_2 = l2; level_3 = up _ v l2; level_4 = r; level_5 = r5; level_6 = r6 }

  xor_back : (t : ValueText prelude 5) (v : Val) → ReadsValue scope t v → ValueBack scope (xor_written t) v
  xor_back t v r =
      let r6 = up t v r in
      let l0 = inside _ v r6 in let l1 = up _ v l0 in let l2 = up _ v l1 in let l3 = up _ v l2 in
      record { level_0 = l0; level_1 = l1; level_2 = l2; level_3 = l3; level_4 = up _ v l3; level_5 = r; level_6 = r6 }

  or_back : (t : ValueText prelude 6) (v : Val) → ReadsValue scope t v → ValueBack scope (or_written t) v
  or_back t v r =
      let l0 = inside t v r in let l1 = up _ v l0 in let l2 = up _ v l1 in let l3 = up _ v l2 in let l4 = up _ v l3 in
      record { level_0 = l0; level_1 = l1; level_2 = l2; level_3 = l3; level_4 = l4; level_5 = up _ v l4; level_6 = r }

  binary_reads : {n : ℕ} (op : Op) (h : IsTrue (_)) (a : ValueText prelude (_)) (b : ValueText prelude n) (x y : Val) → ReadsValue scope a x → ReadsValue scope b y → ReadsValue scope (binary a op h b) (val.Bin op x y)
  binary_reads op h a b x y ra rb = record {
    reads = λ at. then_is _ _ x _ (ra.reads at) (then_is _ _ y _ (rb.reads _) refl);
    stands = stand_both (value_symbols a) (mark (op_mark op) ∷ value_symbols b) ra.stands rb.stands;
  }

  pub both_back : (op : Op) (a b : ValueWritten prelude) (x y : Val) → ValueBack scope a x → ValueBack scope b y → ValueBack scope (binary_written op a b) (val.Bin op x y)
  both_back Mul a b x y p q = times_back _ _ (binary_reads Mul refl a.level_1 b.level_0 x y p.level_1 q.level_0)
  both_back Add a b x y p q = plus_back _ _ (binary_reads Add refl a.level_2 b.level_1 x y p.level_2 q.level_1)
  both_back Sub a b x y p q = plus_back _ _ (binary_reads Sub refl a.level_2 b.level_1 x y p.level_2 q.level_1)
  both_back And a b x y p q = and_back _ _ (binary_reads And refl a.level_4 b.level_3 x y p.level_4 q.level_3)
  both_back Xor a b x y p q = xor_back _ _ (binary_reads Xor refl a.level_5 b.level_4 x y p.level_5 q.level_4)
  both_back Or a b x y p q = or_back _ _ (binary_reads Or refl a.level_6 b.level_5 x y p.level_6 q.level_5)

  pub shift_reads : (left : Bool) (n : ℕ) → n ≤ 63 → (a : ValueText prelude 3) (x : Val) → ReadsValue scope a x → ReadsValue scope (shift_by left a (digits_of n) (holding (is_shift (digits_of n)))) (val.Shift left x n)
  shift_reads left n most a x r =
      let small : n < 2 ^ 64 = omega (arith, most) in
      of_held (digits_of n) (value_of-decimal n small) (decimal_is_numeral n small) (holding (is_shift (digits_of n))) (some_held (is_shift (digits_of n)) (shift_of n small ∙ le-leb n 63 most))
    where
      of_held : (ds : Digits) → value_of ds ≡ n → IsNumeral ds → (o : Option (IsTrue (is_shift ds))) → is_some o ≡ true → ReadsValue scope (shift_by left a ds o) (val.Shift left x n)
      of_held ds same numeral (Some d) s = record {
        reads = λ at. then_is _ _ x _ (r.reads at) (ap (λ m. Ok (val.Shift left x m)) same);
        stands = stand_both (value_symbols a) (mark (shift_mark left) ∷ number_symbol ds ∷ []) r.stands (symbol_of_numeral ds [] numeral refl);
      }
      of_held ds same numeral None s = absurd (cc)

module _ (prelude : Bool) (scope : Scope) (names : Names) (sees : Sees scope names) where
  abbrev pub IsValueBack : Val → Type 0
  IsValueBack v = ValueBack scope (by_val (value_step prelude names) v) v

  load_back : (w : Name) (subs : DimsText prelude) (have : AllHave (word w ∷ dims_symbols subs)) (at : ℕ) (v : Val) → value_tree scope (value_draft at (load w subs)) ≡ Ok v → IsValueBack v
  load_back w subs have at v h =
      let s = word_of_symbol w (dims_symbols subs) have in
      let p = both_ok (array_named scope at w false (length (dims_draft (at + 1) subs))) _ v h in
      let q = both_ok (each (ix_tree scope) (dims_draft (at + 1) subs)) _ v p.2 in
      let b = array_back scope names sees at w false (length (dims_draft (at + 1) subs)) p.0 p.1 in
      let d = dims_again prelude scope names sees q.0 (dims_back prelude scope names sees subs s.1 (at + 1) q.0 q.1) in
      let good : IsName (array_name names p.0) = record { is = ap is_word b.same_name ∙ s.0; other = ap (same (codes "static")) b.same_name ∙ b.other } in
      let count : (k : ℕ) → length (dims_draft k (dims_text prelude names q.0)) ≡ length (dims_draft (at + 1) subs) = λ k. each_length (ix_tree scope) _ q.0 (d.reads k) ∙ sym (each_length (ix_tree scope) _ q.0 q.1) in
      subst IsValueBack (ok_of q.2) (primary_back scope (load (array_name names p.0) (dims_text prelude names q.0)) (val.Load p.0 q.0) (record {
        reads = λ k. then_is (array_named scope k (array_name names p.0) false (length (dims_draft (k + 1) (dims_text prelude names q.0)))) _ p.0 _
            (ap (λ n. array_named scope k n false (length (dims_draft (k + 1) (dims_text prelude names q.0)))) b.same_name ∙ ap (array_named scope k w false) (count (k + 1)) ∙ b.again k)
            (then_is (each (ix_tree scope) (dims_draft (k + 1) (dims_text prelude names q.0))) _ q.0 _ (d.reads (k + 1)) refl);
        stands = symbol_of_name (array_name names p.0) (dims_symbols (dims_text prelude names q.0)) good d.stands;
      }))

  pub constant_back : (n : ℕ) → n < 2 ^ 64 → IsValueBack (val.Const n)
  constant_back n small =
      let c = decimal_is_constant n small in
      primary_back scope (constant (digits_of n ++ codes "ULL")) (val.Const n) (record {
        reads = λ k. ap (λ m. Ok (val.Const m)) (ap value_of (leading_of_decimal n small) ∙ value_of-decimal n small);
        stands = and_from _ _ (and_from _ _ (and_from _ _ c.is c.small) refl) refl;
      })

  pub value_back : {n : ℕ} (c : ValueText prelude n) → AllHave (value_symbols c) → (at : ℕ) (v : Val) → value_tree scope (value_draft at c) ≡ Ok v → IsValueBack v
  value_back (complement a) have at v h =
      let p = both_ok (value_tree scope (value_draft (at + 1) a)) _ v h in
      let b = value_back a have (at + 1) p.0 p.1 in
      subst IsValueBack (ok_of p.2) (subst (λ w. ValueBack scope w (val.Not p.0)) (sym (not_here (value_step prelude names) p.0))
      (primary_back scope (complement (by_val (value_step prelude names) p.0).level_0) (val.Not p.0) (record { reads = λ k. then_is _ _ p.0 _ (b.level_0.reads (k + 1)) refl; stands = b.level_0.stands })))
  value_back (load w subs) have at v h = load_back w subs have at v h
  value_back (constant bytes) have at v h =
      let p = and_parts _ true have in
      subst IsValueBack (ok_of h) (constant_back (value_of (leading_digits bytes)) (small_value (leading_digits bytes) (and_parts (is_value bytes) (is_small (leading_digits bytes)) p.0).1))
  value_back (parens a) have at v h = value_back a (have_parts (value_symbols a) (mark (codes ")") ∷ []) have).0 (at + 1) v h
  value_back (cast a) have at v h =
      let p = both_ok (ix_tree scope (ix_draft (at + 4) a)) _ v h in
      let b = ix_back prelude scope names sees a (have_parts (ix_symbols a) (mark (codes ")") ∷ []) have).0 (at + 4) p.0 p.1 in
      subst IsValueBack (ok_of p.2) (primary_back scope (cast (ix_text prelude names p.0)) (val.Cast p.0) (record {
        reads = λ k. then_is _ _ p.0 _ (b.whole (k + 4)) refl;
        stands = stand_both (ix_symbols (ix_text prelude names p.0)) (mark (codes ")") ∷ []) b.whole_stands refl;
      }))
  value_back (operand a) have at v h = value_back a have at v h
  value_back (binary a op level b) have at v h =
      let s = have_parts (value_symbols a) (mark (op_mark op) ∷ value_symbols b) have in
      let p = both_ok (value_tree scope (value_draft at a)) _ v h in
      let q = both_ok (value_tree scope (value_draft _ b)) _ v p.2 in
      subst IsValueBack (ok_of q.2) (subst (λ w. ValueBack scope w (val.Bin op p.0 q.0)) (sym (bin_here (value_step prelude names) op p.0 q.0))
      (both_back scope op (by_val (value_step prelude names) p.0) (by_val (value_step prelude names) q.0) p.0 q.0 (value_back a s.0 at p.0 p.1) (value_back b s.1 _ q.0 q.1)))
  value_back (shift a left by most) have at v h =
      let s = have_parts (value_symbols a) (mark (shift_mark left) ∷ number_symbol by ∷ []) have in
      let p = both_ok (value_tree scope (value_draft at a)) _ v h in
      let b = value_back a s.0 at p.0 p.1 in
      subst IsValueBack (ok_of p.2) (subst (λ w. ValueBack scope w (val.Shift left p.0 (value_of by))) (sym (shift_here (value_step prelude names) left p.0 (value_of by)))
      (shift_back scope _ (val.Shift left p.0 (value_of by)) (shift_reads scope left (value_of by) (leb-true (value_of by) 63 most) (by_val (value_step prelude names) p.0).level_3 p.0 b.level_3)))
