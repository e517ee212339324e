-- What a text of the grammar reads as is known: expressions, values and statements.
use Rattle.std.proofs.Common.{◌≡◌, ℕ, zero, suc, ◌+◌, ◌^◌, ◌<◌, ◌≤◌, ◌&&◌, ◌==◌, nat_le, nat_lt, Bool, true, false, not, List, [], ◌∷◌, ◌++◌, length, map, Option, Some, None, Ok, pos, int_le, IsTrue, refl, sym, ap, subst, ◌∙◌, arith, codes, slice_get}
use Rattle.std.proofs.lemmas.Bool.{and_parts, and_from, false≢true, lt-ltb, le-leb}
use Rattle.std.proofs.lemmas.List.{length-map}
use Rattle.affc_lex.specs.Bytes.{decimal as value_of}
use Rattle.affc_lex.specs.Pieces.{is_value, is_small, leading_digits}
use Rattle.affc_ast.specs.declared.tree.NameId.{NameId}
use Rattle.affc_ast.specs.declared.tree.ArrayId.{ArrayId}
use Rattle.affc_ast.specs.declared.tree.Compare.{Compare}
use Rattle.affc_ast.specs.declared.tree.Cond.{Cond}
use Rattle.affc_ast.specs.declared.tree.Cond.TheVariants as tree
use Rattle.affc_ast.specs.Joined.{is_ordered}
use Rattle.affc_ast.specs.declared.tree.Ix.{Ix}
use Rattle.affc_ast.specs.declared.tree.Ix.TheVariants as ix
use Rattle.affc_ast.specs.declared.tree.Ix.TheOpen.{Ix-F}
use Rattle.affc_ast.specs.declared.tree.Val.{Val}
use Rattle.affc_ast.specs.declared.tree.Val.TheOpen.{Val-F}
use Rattle.affc_grammar.specs.declared.fault.NameWhy.TheVariants.{Reserved, Const, Kind}
use Rattle.affc_grammar.specs.Grammar.{Name, Choice, minimum, maximum, remainder, Rounding, down, up, number as number_symbol, mark, choice_name, rounding_name, op_mark, shift_mark, rel_mark, IxText, term, plus, minus, TermText, factor, times, FactorText, atom, negated, AtomText, literal, name, grouped, chosen, divided, DimsText, no_dims, and_dim, CondText, all_of, or_all, AllText, prim, and_prim, PrimText, enclosed, compared, divisible, zero_mark, ValueText, complement, load, constant, parens, cast, operand, binary, shift, ix_symbols, term_symbols, factor_symbols, atom_symbols, dims_symbols, dim_symbols, cond_symbols, all_symbols, prim_symbols, value_symbols}
use Rattle.affc_grammar.specs.Draft as draft
use Rattle.affc_grammar.specs.Draft.{CondsDraft, CondDraft, ix_draft, term_draft, factor_draft, atom_draft, dims_draft, and_conds, conjuncts, disjuncts, cond_draft, all_draft, prim_draft, comparisons_in, value_draft}
use Rattle.affc_grammar.specs.Names.{Scope, Thing, function, number, array, first_reason, is_refused_word, is_input, why_number, why_array, number_id, array_id, thing_of, number_named, array_named, each, choice_tree, rounding_tree, ix_tree, compare_tree, conds_tree, cond_tree, value_tree, Checked}
use Rattle.affc_grammar.specs.Printed.{Names}
use Rattle.affc_wellnamed.specs.Known as spec
use Rattle.affc_wellnamed.specs.Known.{Known, and_iterator, and_locals, is_new, is_divisor, ix_known, ixs_known, compare_known, compares_known, CondKnown, is_joined_by, each_known, joined_known, cond_seen, cond_known, takes, value_known}
use Rattle.affc_ast.proofs.Steps.{neg_here, add_here, sub_here, mul_here, min_here, max_here, mod_here, floord_here, ceild_here, all_here, any_here, not_here, bin_here, shift_here}
use Rattle.affc_cprint.proofs.Spelled.{AllHave, have_parts, small_value}
use Rattle.affc_cprint.proofs.Sees.{ok_of, both_ok, then_is, allowed_ok, first_none}
use Rattle.affc_cprint.proofs.ReadBack.{word_of_symbol, number_of_symbol}
use Rattle.affc_cprint.proofs.ReadBackValues.{each_split, one_ok, each_length, comparisons_append}
use Rattle.affc_cprint.proofs.ReadBackConditions.{conds_split, conds_join, conjuncts_tree, disjuncts_tree, all_step, is_all, any_step, is_any, conjunct_part, disjunct_part, two_parts}
use Rattle.affc_wellnamed.proofs.Knows.{Knows}
use Rattle.affc_wellnamed.proofs.Joints.{all_is, any_is}

-- ---- Names that are looked up

within : {A : Type 0} (xs : List A) (i : ℕ) (y : A) → slice_get xs i ≡ Some y → i < length xs
within [] i y e = absurd (cc)
within (z ∷ xs) zero y e = omega arith
within (z ∷ xs) (suc i) y e = let h = within xs i y e in omega (arith, h)

not_none : (b : Bool) → first_reason ((b, Reserved) ∷ (true, Kind) ∷ []) ≡ None → ⊥
not_none true h = cc
not_none false h = cc

module _ (known : Known) (scope : Scope) (names : Names) (k : Knows known scope names) where
  number_seen : (at : ℕ) (w : Name) (id : NameId) → number_named scope at w ≡ Ok id → nat_lt id.0 known.numbers ≡ true
  number_seen at w id e =
      let p = allowed_ok (why_number scope w (thing_of scope w)) at (Ok (number_id (thing_of scope w))) id e in
      of (thing_of scope w) refl p.0 p.1
    where
      of : (t : Option Thing) → thing_of scope w ≡ t → why_number scope w t ≡ None → ◌≡◌ {A = Checked NameId} (Ok (number_id t)) (Ok id) → nat_lt id.0 known.numbers ≡ true
      of None q e f = absurd (cc)
      of (Some function) q e f = absurd (not_none (is_refused_word scope false w) e)
      of (Some (number n it)) q e f =
          let below = within names.numbers n w (k.sees.numbers w n it q) in
          let count = k.numbers in
          let same : n ≡ id.0 = ap (λ (i : NameId). i.0) (ok_of f) in
          lt-ltb id.0 known.numbers (omega (arith, below, count, same))
      of (Some (array n role d)) q e f = absurd (not_none (is_refused_word scope false w) e)

  pub array_seen : (at : ℕ) (w : Name) (is_store : Bool) (count : ℕ) (id : ArrayId) → array_named scope at w is_store count ≡ Ok id → takes is_store count (slice_get known.arrays id.0) ≡ true
  array_seen at w is_store count id e =
      let p = allowed_ok (why_array scope w is_store count (thing_of scope w)) at (Ok (array_id (thing_of scope w))) id e in
      of (thing_of scope w) refl p.0 p.1
    where
      not_off : (b : Bool) → not b ≡ false → b ≡ true
      not_off true h = refl
      not_off false h = absurd (false≢true (sym h))

      of : (t : Option Thing) → thing_of scope w ≡ t → why_array scope w is_store count t ≡ None → ◌≡◌ {A = Checked ArrayId} (Ok (array_id t)) (Ok id) → takes is_store count (slice_get known.arrays id.0) ≡ true
      of None q e f = absurd (cc)
      of (Some function) q e f = absurd (not_none (is_refused_word scope false w) e)
      of (Some (number n it)) q e f = absurd (not_none (is_refused_word scope it w) e)
      of (Some (array n role d)) q e f =
          let r = first_none (is_refused_word scope false w) Reserved ((is_store && is_input role, Const) ∷ (not (d == count), Kind) ∷ []) e in
          let s = first_none (is_store && is_input role) Const ((not (d == count), Kind) ∷ []) r.1 in
          let t = first_none (not (d == count)) Kind [] s.1 in
          let o = k.array_of w n role d q in
          let same : n ≡ id.0 = ap (λ (i : ArrayId). i.0) (ok_of f) in
          ap (takes is_store count) (ap (slice_get known.arrays) (sym same) ∙ o.is_there)
          ∙ and_from (not (is_store && is_input o.decl.role)) (length o.decl.extents == count) (ap (λ r. not (is_store && is_input r)) o.its_role ∙ ap not s.0) (ap (λ m. m == count) o.dimensions ∙ not_off (d == count) t.0)

-- ---- Expressions

module _ (prelude : Bool) (known : Known) (scope : Scope) (names : Names) (k : Knows known scope names) (calls : IsTrue prelude → known.prelude ≡ true) where
  abbrev IsKnown : Ix → Type 0
  IsKnown e = ix_known known e ≡ true

  abbrev step : Ix-F Bool → Bool
  step = spec.ix_step known

  add_known : (x y e : Ix) → ix.Add x y ≡ e → IsKnown x → IsKnown y → IsKnown e
  add_known x y e is p q = subst IsKnown is (add_here step x y ∙ and_from (ix_known known x) (ix_known known y) p q)

  sub_known : (x y e : Ix) → ix.Sub x y ≡ e → IsKnown x → IsKnown y → IsKnown e
  sub_known x y e is p q = subst IsKnown is (sub_here step x y ∙ and_from (ix_known known x) (ix_known known y) p q)

  mul_known : (x y e : Ix) → ix.Mul x y ≡ e → IsKnown x → IsKnown y → IsKnown e
  mul_known x y e is p q = subst IsKnown is (mul_here step x y ∙ and_from (ix_known known x) (ix_known known y) p q)

  call_known : (b : Bool) → IsTrue prelude → b ≡ true → (known.prelude && b) ≡ true
  call_known b on h = and_from known.prelude b (calls on) h

  choice_known : IsTrue prelude → (f : Choice) (x y e : Ix) → choice_tree f x y ≡ e → IsKnown x → IsKnown y → IsKnown e
  choice_known on minimum x y e is p q = subst IsKnown is (min_here step x y ∙ call_known _ on (and_from (ix_known known x) (ix_known known y) p q))
  choice_known on maximum x y e is p q = subst IsKnown is (max_here step x y ∙ call_known _ on (and_from (ix_known known x) (ix_known known y) p q))
  choice_known on remainder x y e is p q = subst IsKnown is (mod_here step x y ∙ call_known _ on (and_from (ix_known known x) (ix_known known y) p q))

  rounding_known : IsTrue prelude → (f : Rounding) (n : ℕ) → n < 2 ^ 64 → nat_le 1 n ≡ true → (x e : Ix) → rounding_tree f x (pos n) ≡ e → IsKnown x → IsKnown e
  rounding_known on f n small some x e is p = of f is
    where
      by : is_divisor (pos n) ≡ true
      by = and_from (int_le (pos 1) (pos n)) (nat_lt n (2 ^ 64)) some (lt-ltb n (2 ^ 64) small)

      of : (f : Rounding) → rounding_tree f x (pos n) ≡ e → IsKnown e
      of down is = subst IsKnown is (floord_here step x (pos n) ∙ call_known _ on (and_from (is_divisor (pos n)) (ix_known known x) by p))
      of up is = subst IsKnown is (ceild_here step x (pos n) ∙ call_known _ on (and_from (is_divisor (pos n)) (ix_known known x) by p))

  mutual
    pub ix_from : (c : IxText prelude) → AllHave (ix_symbols c) → (at : ℕ) (e : Ix) → ix_tree scope (ix_draft at c) ≡ Ok e → IsKnown e
    ix_from (term a) have at e h = term_from a have at e h
    ix_from (plus a b) have at e h =
        let s = have_parts (ix_symbols a) (mark (codes "+") ∷ term_symbols b) have in
        let p = both_ok (ix_tree scope (ix_draft at a)) _ e h in
        let q = both_ok (ix_tree scope (term_draft _ b)) _ e p.2 in
        add_known p.0 q.0 e (ok_of q.2) (ix_from a s.0 at p.0 p.1) (term_from b s.1 _ q.0 q.1)
    ix_from (minus a b) have at e h =
        let s = have_parts (ix_symbols a) (mark (codes "-") ∷ term_symbols b) have in
        let p = both_ok (ix_tree scope (ix_draft at a)) _ e h in
        let q = both_ok (ix_tree scope (term_draft _ b)) _ e p.2 in
        sub_known p.0 q.0 e (ok_of q.2) (ix_from a s.0 at p.0 p.1) (term_from b s.1 _ q.0 q.1)

    pub term_from : (c : TermText prelude) → AllHave (term_symbols c) → (at : ℕ) (e : Ix) → ix_tree scope (term_draft at c) ≡ Ok e → IsKnown e
    term_from (factor a) have at e h = factor_from a have at e h
    term_from (times a b) have at e h =
        let s = have_parts (term_symbols a) (mark (codes "*") ∷ factor_symbols b) have in
        let p = both_ok (ix_tree scope (term_draft at a)) _ e h in
        let q = both_ok (ix_tree scope (factor_draft _ b)) _ e p.2 in
        mul_known p.0 q.0 e (ok_of q.2) (term_from a s.0 at p.0 p.1) (factor_from b s.1 _ q.0 q.1)

    factor_from : (c : FactorText prelude) → AllHave (factor_symbols c) → (at : ℕ) (e : Ix) → ix_tree scope (factor_draft at c) ≡ Ok e → IsKnown e
    factor_from (atom a) have at e h = atom_from a have at e h
    factor_from (negated a) have at e h =
        let p = both_ok (ix_tree scope (atom_draft (at + 1) a)) _ e h in
        subst IsKnown (ok_of p.2) (neg_here step p.0 ∙ atom_from a have (at + 1) p.0 p.1)

    atom_from : (c : AtomText prelude) → AllHave (atom_symbols c) → (at : ℕ) (e : Ix) → ix_tree scope (atom_draft at c) ≡ Ok e → IsKnown e
    atom_from (literal digits) have at e h =
        let n = value_of digits in
        subst IsKnown (ok_of h) (and_from (int_le (pos 0) (pos n)) (nat_lt n (2 ^ 64)) (le-leb 0 n (omega arith)) (lt-ltb n (2 ^ 64) (number_of_symbol digits [] have).0))
    atom_from (name w) have at e h =
        let p = both_ok (number_named scope at w) _ e h in
        subst IsKnown (ok_of p.2) (number_seen known scope names k at w p.0 p.1)
    atom_from (grouped a) have at e h = ix_from a (have_parts (ix_symbols a) (mark (codes ")") ∷ []) have).0 (at + 1) e h
    atom_from (chosen on f a b) have at e h =
        let r = word_of_symbol (choice_name f) (mark (codes "(") ∷ (ix_symbols a ++ mark (codes ",") ∷ (ix_symbols b ++ mark (codes ")") ∷ []))) have in
        let s = have_parts (ix_symbols a) (mark (codes ",") ∷ (ix_symbols b ++ mark (codes ")") ∷ [])) r.1 in
        let t = have_parts (ix_symbols b) (mark (codes ")") ∷ []) s.1 in
        let p = both_ok (ix_tree scope (ix_draft (at + 2) a)) _ e h in
        let q = both_ok (ix_tree scope (ix_draft _ b)) _ e p.2 in
        choice_known on f p.0 q.0 e (ok_of q.2) (ix_from a s.0 (at + 2) p.0 p.1) (ix_from b t.0 _ q.0 q.1)
    atom_from (divided on f a by some) have at e h =
        let r = word_of_symbol (rounding_name f) (mark (codes "(") ∷ (ix_symbols a ++ mark (codes ",") ∷ number_symbol by ∷ mark (codes ")") ∷ [])) have in
        let s = have_parts (ix_symbols a) (mark (codes ",") ∷ number_symbol by ∷ mark (codes ")") ∷ []) r.1 in
        let p = both_ok (ix_tree scope (ix_draft (at + 2) a)) _ e h in
        rounding_known on f (value_of by) (number_of_symbol by (mark (codes ")") ∷ []) s.1).0 some p.0 e (ok_of p.2) (ix_from a s.0 (at + 2) p.0 p.1)

  -- ---- Subscripts, extents, and conditions of `context` lines

  ixs_both : (xs ys : List Ix) → ixs_known known xs ≡ true → ixs_known known ys ≡ true → ixs_known known (xs ++ ys) ≡ true
  ixs_both [] ys p q = q
  ixs_both (x ∷ xs) ys p q = let r = and_parts (ix_known known x) (ixs_known known xs) p in and_from (ix_known known x) (ixs_known known (xs ++ ys)) r.0 (ixs_both xs ys r.1 q)

  one_known : (x : Ix) → IsKnown x → ixs_known known (x ∷ []) ≡ true
  one_known x h = and_from (ix_known known x) true h refl

  pub dims_from : (c : DimsText prelude) → AllHave (dims_symbols c) → (at : ℕ) (xs : List Ix) → each (ix_tree scope) (dims_draft at c) ≡ Ok xs → ixs_known known xs ≡ true
  dims_from no_dims have at xs e = subst (λ l. ixs_known known l ≡ true) (ok_of e) refl
  dims_from (and_dim ds a) have at xs e =
      let s = have_parts (dims_symbols ds) (dim_symbols a) have in
      let p = each_split (ix_tree scope) (dims_draft at ds) (ix_draft _ a ∷ []) xs e in
      let q = one_ok (ix_tree scope) (ix_draft _ a) p.back p.back_ok in
      subst (λ l. ixs_known known l ≡ true) (sym (p.all ∙ ap (λ l. p.front ++ l) q.2))
      (ixs_both p.front (q.0 ∷ []) (dims_from ds s.0 at p.front p.front_ok) (one_known q.0 (ix_from a (have_parts (ix_symbols a) (mark (codes "]") ∷ []) s.1).0 _ q.0 q.1)))

  pub compares_both : (xs ys : List Compare) → compares_known known xs ≡ true → compares_known known ys ≡ true → compares_known known (xs ++ ys) ≡ true
  compares_both [] ys p q = q
  compares_both (x ∷ xs) ys p q =
      let r = and_parts (compare_known known x) (compares_known known xs) p in
      and_from (compare_known known x) (compares_known known (xs ++ ys)) r.0 (compares_both xs ys r.1 q)

  mutual
    pub tests_from : (c : CondText prelude false) → AllHave (cond_symbols c) → (at : ℕ) (xs : List Compare) → each (compare_tree scope) (comparisons_in (cond_draft at c)) ≡ Ok xs → compares_known known xs ≡ true
    tests_from (all_of a) have at xs e = all_tests_from a have at xs e
    tests_from (or_all on c a) have at xs e = absurd (cc)

    all_tests_from : (c : AllText prelude false) → AllHave (all_symbols c) → (at : ℕ) (xs : List Compare) → each (compare_tree scope) (comparisons_in (all_draft at c)) ≡ Ok xs → compares_known known xs ≡ true
    all_tests_from (prim q) have at xs e = test_from q have at xs e
    all_tests_from (and_prim a q) have at xs e =
        let s = have_parts (all_symbols a) (mark (codes "&&") ∷ prim_symbols q) have in
        let next = at + length (all_symbols a) + 1 in
        let p = each_split (compare_tree scope) (comparisons_in (all_draft at a)) (comparisons_in (prim_draft next q)) xs (ap (each (compare_tree scope)) (sym (comparisons_append (conjuncts (all_draft at a)) (conjuncts (prim_draft next q)))) ∙ e) in
        subst (λ l. compares_known known l ≡ true) (sym p.all) (compares_both p.front p.back (all_tests_from a s.0 at p.front p.front_ok) (test_from q s.1 next p.back p.back_ok))

    test_from : (c : PrimText prelude false) → AllHave (prim_symbols c) → (at : ℕ) (xs : List Compare) → each (compare_tree scope) (comparisons_in (prim_draft at c)) ≡ Ok xs → compares_known known xs ≡ true
    test_from (enclosed c) have at xs e = tests_from c (have_parts (cond_symbols c) (mark (codes ")") ∷ []) have).0 (at + 1) xs e
    test_from (compared a rel on b) have at xs e =
        let s = have_parts (ix_symbols a) (mark (rel_mark rel) ∷ ix_symbols b) have in
        let next = at + length (ix_symbols a) + 1 in
        let o = one_ok (compare_tree scope) (record { rel = rel; left = ix_draft at a; right = ix_draft next b }) xs e in
        let p = both_ok (ix_tree scope (ix_draft at a)) _ o.0 o.1 in
        let q = both_ok (ix_tree scope (ix_draft next b)) _ o.0 p.2 in
        let sides : (ix_known known p.0 && ix_known known q.0) ≡ true = and_from (ix_known known p.0) (ix_known known q.0) (ix_from a s.0 at p.0 p.1) (ix_from b s.1 next q.0 q.1) in
        let here : compare_known known o.0 ≡ true = subst (λ (c : Compare). compare_known known c ≡ true) (ok_of q.2) (and_from (is_ordered rel) (ix_known known p.0 && ix_known known q.0) on sides) in
        subst (λ l. compares_known known l ≡ true) (sym o.2) (and_from (compare_known known o.0) true here refl)
    test_from (divisible on t by some so) have at xs e = absurd (cc)

  -- ---- Conditions

  abbrev seen : Cond → CondKnown
  seen x = cond_seen known x

  -- conditions that a draft joins
  abbrev Joined : (all : Bool) → CondsDraft → Type 0
  Joined all cs = (xs : List Cond) × (conds_tree scope cs ≡ Ok xs) × (1 ≤ length xs) × (each_known all (map seen xs) ≡ true)

  -- the condition of a draft is known, and so are those that it joins, by each of the two marks
  record Heard (d : CondDraft) (x : Cond) : Type 0 where
    is_known : cond_known known x ≡ true
    conjunction : Joined true (conjuncts d)
    disjunction : Joined false (disjuncts d)

  each_both : (all : Bool) (xs ys : List Cond) → each_known all (map seen xs) ≡ true → each_known all (map seen ys) ≡ true → each_known all (map seen (xs ++ ys)) ≡ true
  each_both all [] ys p q = q
  each_both all (x ∷ xs) ys p q =
      let r = and_parts (not (is_joined_by all (seen x)) && (seen x).is_known) (each_known all (map seen xs)) p in
      and_from (not (is_joined_by all (seen x)) && (seen x).is_known) (each_known all (map seen (xs ++ ys))) r.0 (each_both all xs ys r.1 q)

  one_each : (all : Bool) (x : Cond) → is_joined_by all (seen x) ≡ false → cond_known known x ≡ true → each_known all (map seen (x ∷ [])) ≡ true
  one_each all x apart h = and_from (not (is_joined_by all (seen x)) && (seen x).is_known) true (and_from (not (is_joined_by all (seen x))) (seen x).is_known (ap not apart) h) refl

  joined_is : (all : Bool) (xs : List Cond) → 2 ≤ length xs → each_known all (map seen xs) ≡ true → joined_known all (map seen xs) ≡ true
  joined_is all xs some h =
      let l = length-map xs seen in
      and_from (nat_le 2 (length (map seen xs))) (each_known all (map seen xs)) (le-leb 2 (length (map seen xs)) (omega (arith, l, some))) h

  heard_alone : (d : CondDraft) (x : Cond) → cond_tree scope d ≡ Ok x → is_all x ≡ false → is_any x ≡ false → cond_known known x ≡ true → Heard d x
  heard_alone d x e all any h = record {
    is_known = h;
    conjunction = (x ∷ [], conjunct_part scope d x e all, omega arith, one_each true x (all_is known x ∙ all) h);
    disjunction = (x ∷ [], disjunct_part scope d x e any, omega arith, one_each false x (any_is known x ∙ any) h);
  }

  heard_all : (cs : CondsDraft) (x : Cond) → cond_tree scope (draft.all_of cs) ≡ Ok x → (xs : List Cond) → conds_tree scope cs ≡ Ok xs → 2 ≤ length xs → each_known true (map seen xs) ≡ true → Heard (draft.all_of cs) x
  heard_all cs x e xs f some h =
      let is : tree.All xs ≡ x = ok_of (sym (then_is (conds_tree scope cs) _ xs _ f refl) ∙ e) in
      let known_so : cond_known known x ≡ true = subst (λ y. cond_known known y ≡ true) is (ap (λ (s : CondKnown). s.is_known) (all_here (spec.cond_step known) xs) ∙ joined_is true xs some h) in
      let apart : is_any x ≡ false = ap is_any (sym is) ∙ all_here any_step xs in
      record { is_known = known_so; conjunction = (xs, f, omega (arith, some), h); disjunction = (x ∷ [], disjunct_part scope (draft.all_of cs) x e apart, omega arith, one_each false x (any_is known x ∙ apart) known_so) }

  heard_any : (cs : CondsDraft) (x : Cond) → cond_tree scope (draft.any_of cs) ≡ Ok x → (xs : List Cond) → conds_tree scope cs ≡ Ok xs → 2 ≤ length xs → each_known false (map seen xs) ≡ true → Heard (draft.any_of cs) x
  heard_any cs x e xs f some h =
      let is : tree.Any xs ≡ x = ok_of (sym (then_is (conds_tree scope cs) _ xs _ f refl) ∙ e) in
      let known_so : cond_known known x ≡ true = subst (λ y. cond_known known y ≡ true) is (ap (λ (s : CondKnown). s.is_known) (any_here (spec.cond_step known) xs) ∙ joined_is false xs some h) in
      let apart : is_all x ≡ false = ap is_all (sym is) ∙ any_here all_step xs in
      record { is_known = known_so; conjunction = (x ∷ [], conjunct_part scope (draft.any_of cs) x e apart, omega arith, one_each true x (all_is known x ∙ apart) known_so); disjunction = (xs, f, omega (arith, some), h) }

  mutual
    cond_heard : (c : CondText prelude true) → AllHave (cond_symbols c) → (at : ℕ) (x : Cond) → cond_tree scope (cond_draft at c) ≡ Ok x → Heard (cond_draft at c) x
    cond_heard (all_of a) have at x e = all_heard a have at x e
    cond_heard (or_all on c a) have at x e =
        let h = have_parts (cond_symbols c) (mark (codes "||") ∷ all_symbols a) have in
        let next = at + length (cond_symbols c) + 1 in
        let left = disjuncts (cond_draft at c) in
        let right = disjuncts (all_draft next a) in
        let p = both_ok (conds_tree scope (and_conds left right)) _ x e in
        let s = conds_split scope left right p.0 p.1 in
        let l = disjuncts_tree scope (cond_draft at c) s.0 s.2 in
        let r = disjuncts_tree scope (all_draft next a) s.1 s.3 in
        let u = (cond_heard c h.0 at l.0 l.1).disjunction in
        let v = (all_heard a h.1 next r.0 r.1).disjunction in
        heard_any (and_conds left right) x e (u.0 ++ v.0) (conds_join scope left right u.0 v.0 u.1 v.1) (two_parts prelude scope names u.0 v.0 u.2 v.2) (each_both false u.0 v.0 u.3 v.3)

    all_heard : (c : AllText prelude true) → AllHave (all_symbols c) → (at : ℕ) (x : Cond) → cond_tree scope (all_draft at c) ≡ Ok x → Heard (all_draft at c) x
    all_heard (prim q) have at x e = prim_heard q have at x e
    all_heard (and_prim a q) have at x e =
        let h = have_parts (all_symbols a) (mark (codes "&&") ∷ prim_symbols q) have in
        let next = at + length (all_symbols a) + 1 in
        let left = conjuncts (all_draft at a) in
        let right = conjuncts (prim_draft next q) in
        let p = both_ok (conds_tree scope (and_conds left right)) _ x e in
        let s = conds_split scope left right p.0 p.1 in
        let l = conjuncts_tree scope (all_draft at a) s.0 s.2 in
        let r = conjuncts_tree scope (prim_draft next q) s.1 s.3 in
        let u = (all_heard a h.0 at l.0 l.1).conjunction in
        let v = (prim_heard q h.1 next r.0 r.1).conjunction in
        heard_all (and_conds left right) x e (u.0 ++ v.0) (conds_join scope left right u.0 v.0 u.1 v.1) (two_parts prelude scope names u.0 v.0 u.2 v.2) (each_both true u.0 v.0 u.3 v.3)

    prim_heard : (c : PrimText prelude true) → AllHave (prim_symbols c) → (at : ℕ) (x : Cond) → cond_tree scope (prim_draft at c) ≡ Ok x → Heard (prim_draft at c) x
    prim_heard (enclosed c) have at x e = cond_heard c (have_parts (cond_symbols c) (mark (codes ")") ∷ []) have).0 (at + 1) x e
    prim_heard (compared a rel on b) have at x e =
        let s = have_parts (ix_symbols a) (mark (rel_mark rel) ∷ ix_symbols b) have in
        let next = at + length (ix_symbols a) + 1 in
        let p = both_ok (ix_tree scope (ix_draft at a)) _ x e in
        let q = both_ok (ix_tree scope (ix_draft next b)) _ x p.2 in
        let is : tree.Compare rel p.0 q.0 ≡ x = ok_of q.2 in
        heard_alone (prim_draft {wide = true} at (compared a rel on b)) x e (ap is_all (sym is)) (ap is_any (sym is))
        (subst (λ y. cond_known known y ≡ true) is (and_from (ix_known known p.0) (ix_known known q.0) (ix_from a s.0 at p.0 p.1) (ix_from b s.1 next q.0 q.1)))
    prim_heard (divisible on t by some so) have at x e =
        let s = have_parts (term_symbols t) (mark (codes "%") ∷ number_symbol by ∷ mark (zero_mark so) ∷ number_symbol (codes "0") ∷ []) have in
        let n = number_of_symbol by (mark (zero_mark so) ∷ number_symbol (codes "0") ∷ []) s.1 in
        let p = both_ok (ix_tree scope (term_draft at t)) _ x e in
        let is : tree.Divides p.0 (pos (value_of by)) so ≡ x = ok_of p.2 in
        let divisor : is_divisor (pos (value_of by)) ≡ true = and_from (int_le (pos 1) (pos (value_of by))) (nat_lt (value_of by) (2 ^ 64)) some (lt-ltb (value_of by) (2 ^ 64) n.0) in
        heard_alone (prim_draft {wide = true} at (divisible on t by some so)) x e (ap is_all (sym is)) (ap is_any (sym is))
        (subst (λ y. cond_known known y ≡ true) is (and_from (is_divisor (pos (value_of by))) (ix_known known p.0) divisor (term_from t s.0 at p.0 p.1)))

  pub cond_from : (c : CondText prelude true) → AllHave (cond_symbols c) → (at : ℕ) (x : Cond) → cond_tree scope (cond_draft at c) ≡ Ok x → cond_known known x ≡ true
  cond_from c have at x e = (cond_heard c have at x e).is_known

  -- ---- Values

  abbrev IsValueKnown : Val → Type 0
  IsValueKnown v = value_known known v ≡ true

  abbrev step_v : Val-F Bool → Bool
  step_v = spec.value_step known

  pub value_from : {n : ℕ} (c : ValueText prelude n) → AllHave (value_symbols c) → (at : ℕ) (v : Val) → value_tree scope (value_draft at c) ≡ Ok v → IsValueKnown v
  value_from (complement a) have at v h =
      let p = both_ok (value_tree scope (value_draft (at + 1) a)) _ v h in
      subst IsValueKnown (ok_of p.2) (not_here step_v p.0 ∙ value_from a have (at + 1) p.0 p.1)
  value_from (load w subs) have at v h =
      let s = word_of_symbol w (dims_symbols subs) have in
      let p = both_ok (array_named scope at w false (length (dims_draft (at + 1) subs))) _ v h in
      let q = both_ok (each (ix_tree scope) (dims_draft (at + 1) subs)) _ v p.2 in
      let count : length (dims_draft (at + 1) subs) ≡ length q.0 = each_length (ix_tree scope) (dims_draft (at + 1) subs) q.0 q.1 in
      subst IsValueKnown (ok_of q.2) (and_from (takes false (length q.0) (slice_get known.arrays p.0.0)) (ixs_known known q.0)
      (ap (λ n. takes false n (slice_get known.arrays p.0.0)) (sym count) ∙ array_seen known scope names k at w false (length (dims_draft (at + 1) subs)) p.0 p.1) (dims_from subs s.1 (at + 1) q.0 q.1))
  value_from (constant bytes) have at v h =
      let p = and_parts _ true have in
      let n = value_of (leading_digits bytes) in
      subst IsValueKnown (ok_of h) (lt-ltb n (2 ^ 64) (small_value (leading_digits bytes) (and_parts (is_value bytes) (is_small (leading_digits bytes)) p.0).1))
  value_from (parens a) have at v h = value_from a (have_parts (value_symbols a) (mark (codes ")") ∷ []) have).0 (at + 1) v h
  value_from (cast a) have at v h =
      let p = both_ok (ix_tree scope (ix_draft (at + 4) a)) _ v h in
      subst IsValueKnown (ok_of p.2) (ix_from a (have_parts (ix_symbols a) (mark (codes ")") ∷ []) have).0 (at + 4) p.0 p.1)
  value_from (operand a) have at v h = value_from a have at v h
  value_from (binary a op level b) have at v h =
      let s = have_parts (value_symbols a) (mark (op_mark op) ∷ value_symbols b) have in
      let p = both_ok (value_tree scope (value_draft at a)) _ v h in
      let q = both_ok (value_tree scope (value_draft _ b)) _ v p.2 in
      subst IsValueKnown (ok_of q.2) (bin_here step_v op p.0 q.0 ∙ and_from (value_known known p.0) (value_known known q.0) (value_from a s.0 at p.0 p.1) (value_from b s.1 _ q.0 q.1))
  value_from (shift a left by most) have at v h =
      let s = have_parts (value_symbols a) (mark (shift_mark left) ∷ number_symbol by ∷ []) have in
      let p = both_ok (value_tree scope (value_draft at a)) _ v h in
      subst IsValueKnown (ok_of p.2) (shift_here step_v left p.0 (value_of by) ∙ and_from (nat_le (value_of by) 63) (value_known known p.0) most (value_from a s.0 at p.0 p.1))
