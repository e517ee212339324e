-- What is known of a tree is printed as a text that reads as it, and whose tokens a text can have: expressions, values and statements.
use Rattle.std.proofs.Common.{◌≡◌, ◌⊎◌, inl, inr, ℕ, ◌+◌, ◌^◌, ◌<◌, ◌≤◌, ◌&&◌, ◌||◌, ◌==◌, nat_le, nat_lt, Bool, true, false, not, List, [], ◌∷◌, ◌++◌, length, map, Option, Some, None, Ok, ℤ, pos, negsuc, int_le, IsTrue, refl, sym, ap, subst, ◌∙◌, arith, append_assoc, codes, slice_get, length-append}
use Rattle.std.specs.List.{list_any}
use Rattle.std.proofs.lemmas.Bool.{and_parts, false≢true, ltb-true, leb-true}
use Rattle.std.proofs.lemmas.List.Folds.{list_any-append}
use Rattle.std.proofs.lemmas.List.{append-nil, length-map}
use Rattle.affc_lex.specs.Bytes.{same}
use Rattle.affc_lex.specs.Pieces.{is_word}
use Rattle.affc_ast.specs.declared.tree.NameId.{NameId}
use Rattle.affc_ast.specs.declared.tree.ArrayId.{ArrayId}
use Rattle.affc_ast.specs.declared.tree.Op.{Op}
use Rattle.affc_ast.specs.declared.tree.Rel.{Rel}
use Rattle.affc_ast.specs.declared.tree.Rel.TheVariants.{Less, LessEqual, Greater, GreaterEqual, Equal, NotEqual}
use Rattle.affc_ast.specs.declared.tree.Role.{Role}
use Rattle.affc_ast.specs.declared.tree.Decl.{Decl}
use Rattle.affc_ast.specs.declared.tree.Compare.{Compare}
use Rattle.affc_ast.specs.declared.tree.Cond.{Cond}
use Rattle.affc_ast.specs.declared.tree.Cond.TheVariants as cond
use Rattle.affc_ast.specs.declared.tree.Local.{Local}
use Rattle.affc_ast.specs.declared.tree.Ix.{Ix}
use Rattle.affc_ast.specs.declared.tree.Ix.TheVariants as ix
use Rattle.affc_ast.specs.declared.tree.Ix.TheOpen.{Ix-F}
use Rattle.affc_ast.specs.declared.tree.Val.{Val}
use Rattle.affc_ast.specs.declared.tree.Val.TheVariants as val
use Rattle.affc_ast.specs.declared.tree.Val.TheOpen.{Val-F}
use Rattle.affc_ast.specs.declared.tree.Stmt.{Stmt}
use Rattle.affc_ast.specs.declared.tree.Stmt.TheVariants as stmt
use Rattle.affc_ast.specs.Joined.{is_ordered}
use Rattle.affc_ast.specs.Recursion.{by_val}
use Rattle.affc_grammar.specs.Grammar.{Name, minimum, maximum, remainder, down, up, mark, complement, load, cast, ix_symbols, dims_symbols}
use Rattle.affc_grammar.specs.declared.fault.NameWhy.TheVariants.{Reserved, Const, Kind}
use Rattle.affc_grammar.specs.Draft.{dims_draft, bound_rel}
use Rattle.affc_grammar.specs.Names.{Scope, first_reason, is_input, why_number, why_array, number_id, array_id, allowed, with_number, why_declared, number_named, array_named, each, ix_tree}
use Rattle.affc_grammar.specs.Printed.{Names, number_name, array_name, and_number, ix_text, dims_text, value_step}
use Rattle.affc_cprint.specs.Statements.{with_locals}
use Rattle.affc_cprint.specs.Forms.{is_none}
use Rattle.affc_wellnamed.specs.Known as spec
use Rattle.affc_wellnamed.specs.Known.{Known, and_iterator, and_locals, is_new, is_numeral, is_divisor, ix_known, ixs_known, compare_known, compares_known, CondKnown, each_known, joined_known, cond_seen, cond_known, takes, value_known, is_bound, local_known, locals_known, for_known, block_known, stmt_known, stmts_known}
use Rattle.affc_ast.proofs.Steps.{neg_here, add_here, sub_here, mul_here, min_here, max_here, mod_here, floord_here, ceild_here, all_here, any_here, for_here, if_here, block_here, not_here, bin_here, shift_here}
use Rattle.affc_cprint.proofs.Spelled.{off, stand_both, IsName, symbol_of_name}
use Rattle.affc_cprint.proofs.Sees.{then_is, not_static}
use Rattle.affc_cprint.proofs.ReadBack.{IsBack, add_back, sub_back, mul_back, neg_back, lit_back, name_back, choice_back, rounding_back}
use Rattle.affc_cprint.proofs.ReadBackValues.{Each, each_length, AreBack, AreComparesBack, dims_again, IsValueBack, ValueBack, primary_back, shift_back, both_back, shift_reads, constant_back}
use Rattle.affc_cprint.proofs.ReadBackConditions.{IsCondBack, IsConjunct, IsDisjunct, all_again, any_again, compare_again, divides_again}
use Rattle.affc_cprint.proofs.ReadBackStatements.{LocalsBack, StmtBack, scope_after, declared_name, for_again, if_again, block_again, assign_again}
use Rattle.affc_cprint.proofs.Products.{none_is}
use Rattle.affc_wellnamed.proofs.Knows.{NumberAt, ArrayAt, Knows, new_is, knows_number}
use Rattle.affc_wellnamed.proofs.Induction.{IxCases, every_ix, ValCases, every_val, CondCases, every_cond, every_stmt}
use Rattle.affc_wellnamed.proofs.Joints.{all_is, any_is}

-- ---- Numbers

numeral_is : (n : ℤ) → is_numeral n ≡ true → (m : ℕ) × (n ≡ pos m) × (m < 2 ^ 64)
numeral_is (pos m) h = let p = and_parts (int_le (pos 0) (pos m)) (nat_lt m (2 ^ 64)) h in (m, refl, ltb-true m (2 ^ 64) p.1)
numeral_is (negsuc m) h = absurd (false≢true h)

divisor_is : (n : ℤ) → is_divisor n ≡ true → (m : ℕ) × (n ≡ pos m) × (m < 2 ^ 64) × (nat_le 1 m ≡ true)
divisor_is (pos m) h = let p = and_parts (int_le (pos 1) (pos m)) (nat_lt m (2 ^ 64)) h in (m, refl, ltb-true m (2 ^ 64) p.1, p.0)
divisor_is (negsuc m) h = absurd (false≢true h)

-- ---- Names that are looked up

number_found : (scope : Scope) (w : Name) (id : ℕ) → NumberAt scope w id → (at : ℕ) → number_named scope at w ≡ Ok (record { 0 = id })
number_found scope w id n at =
    ap (λ t. allowed (why_number scope w t) at (Ok (number_id t))) n.found ∙ ap (λ b. allowed (first_reason ((b, Reserved) ∷ [])) at (Ok (record { 0 = id }))) n.free

array_found : (scope : Scope) (w : Name) (id : ℕ) (role : Role) (n : ℕ) → ArrayAt scope w id role n → (is_store : Bool) (count : ℕ) → (is_store && is_input role) ≡ false → (n == count) ≡ true → (at : ℕ) → array_named scope at w is_store count ≡ Ok (record { 0 = id })
array_found scope w id role n a is_store count kept long at =
    ap (λ t. allowed (why_array scope w is_store count t) at (Ok (array_id t))) a.found
    ∙ ap (λ b. allowed (first_reason ((b, Reserved) ∷ (is_store && is_input role, Const) ∷ (not (n == count), Kind) ∷ [])) at (Ok (record { 0 = id }))) a.free
    ∙ ap (λ b. allowed (first_reason ((b, Const) ∷ (not (n == count), Kind) ∷ [])) at (Ok (record { 0 = id }))) kept
    ∙ ap (λ b. allowed (first_reason ((not b, Kind) ∷ [])) at (Ok (record { 0 = id }))) long

takes_is : (is_store : Bool) (count : ℕ) (o : Option Decl) → takes is_store count o ≡ true → (d : Decl) × (o ≡ Some d) × ((is_store && is_input d.role) ≡ false) × ((length d.extents == count) ≡ true)
takes_is is_store count None h = absurd (false≢true h)
takes_is is_store count (Some d) h = let p = and_parts (not (is_store && is_input d.role)) (length d.extents == count) h in (d, refl, off (is_store && is_input d.role) p.0, p.1)

-- ---- Expressions and values

module _ (prelude : Bool) (known : Known) (scope : Scope) (names : Names) (k : Knows known scope names) (calls : known.prelude ≡ true → IsTrue prelude) where
  abbrev Speaks : Ix → Type 0
  Speaks e = ix_known known e ≡ true → IsBack prelude scope names k.sees e

  abbrev step : Ix-F Bool → Bool
  step = spec.ix_step known

  name_speaks : (id : NameId) → Speaks (ix.Name id)
  name_speaks id h =
      let count = k.numbers in
      let below = ltb-true id.0 known.numbers h in
      let n = k.number_at id.0 (omega (arith, below, count)) in
      name_back prelude scope names k.sees id (number_name names id) 0 (ix.Name id) (number_found scope (number_name names id) id.0 n 0) n.word refl

  ix_cases : IxCases Speaks
  ix_cases = record {
    lit = λ n h. let p = numeral_is n h in subst (λ z. IsBack prelude scope names k.sees (ix.Lit z)) (sym p.1) (lit_back prelude scope names k.sees p.0 (ix.Lit (pos p.0)) p.2 refl);
    name = name_speaks;
    neg = λ a f h. neg_back prelude scope names k.sees a (ix.Neg a) refl (f (sym (neg_here step a) ∙ h));
    add = λ a b f g h. let p = and_parts (ix_known known a) (ix_known known b) (sym (add_here step a b) ∙ h) in add_back prelude scope names k.sees a b (ix.Add a b) refl (f p.0) (g p.1);
    sub = λ a b f g h. let p = and_parts (ix_known known a) (ix_known known b) (sym (sub_here step a b) ∙ h) in sub_back prelude scope names k.sees a b (ix.Sub a b) refl (f p.0) (g p.1);
    mul = λ a b f g h. let p = and_parts (ix_known known a) (ix_known known b) (sym (mul_here step a b) ∙ h) in mul_back prelude scope names k.sees a b (ix.Mul a b) refl (f p.0) (g p.1);
    min = λ a b f g h.
        let q = and_parts known.prelude (ix_known known a && ix_known known b) (sym (min_here step a b) ∙ h) in
        let p = and_parts (ix_known known a) (ix_known known b) q.1 in choice_back prelude scope names k.sees (calls q.0) minimum a b (ix.Min a b) refl (f p.0) (g p.1);
    max = λ a b f g h.
        let q = and_parts known.prelude (ix_known known a && ix_known known b) (sym (max_here step a b) ∙ h) in
        let p = and_parts (ix_known known a) (ix_known known b) q.1 in choice_back prelude scope names k.sees (calls q.0) maximum a b (ix.Max a b) refl (f p.0) (g p.1);
    remainder = λ a b f g h.
        let q = and_parts known.prelude (ix_known known a && ix_known known b) (sym (mod_here step a b) ∙ h) in
        let p = and_parts (ix_known known a) (ix_known known b) q.1 in choice_back prelude scope names k.sees (calls q.0) remainder a b (ix.Mod a b) refl (f p.0) (g p.1);
    floord = λ a by f h.
        let q = and_parts known.prelude (is_divisor by && ix_known known a) (sym (floord_here step a by) ∙ h) in
        let p = and_parts (is_divisor by) (ix_known known a) q.1 in
        let d = divisor_is by p.0 in
        subst (λ z. IsBack prelude scope names k.sees (ix.Floord a z)) (sym d.1) (rounding_back prelude scope names k.sees (calls q.0) down d.0 d.2 d.3 a (ix.Floord a (pos d.0)) refl (f p.1));
    ceild = λ a by f h.
        let q = and_parts known.prelude (is_divisor by && ix_known known a) (sym (ceild_here step a by) ∙ h) in
        let p = and_parts (is_divisor by) (ix_known known a) q.1 in
        let d = divisor_is by p.0 in
        subst (λ z. IsBack prelude scope names k.sees (ix.Ceild a z)) (sym d.1) (rounding_back prelude scope names k.sees (calls q.0) up d.0 d.2 d.3 a (ix.Ceild a (pos d.0)) refl (f p.1));
  }

  pub ix_speaks : (e : Ix) → Speaks e
  ix_speaks e = every_ix Speaks ix_cases e

  pub ixs_speak : (es : List Ix) → ixs_known known es ≡ true → AreBack prelude scope names k.sees es
  ixs_speak [] h = tt
  ixs_speak (e ∷ es) h = let p = and_parts (ix_known known e) (ixs_known known es) h in (ix_speaks e p.0, ixs_speak es p.1)

  pub compares_speak : (cs : List Compare) → compares_known known cs ≡ true → AreComparesBack prelude scope names k.sees cs
  compares_speak [] h = tt
  compares_speak (c ∷ cs) h =
      let p = and_parts (compare_known known c) (compares_known known cs) h in
      let r = and_parts (is_ordered c.rel) (ix_known known c.left && ix_known known c.right) p.0 in
      let q = and_parts (ix_known known c.left) (ix_known known c.right) r.1 in
      ((ix_speaks c.left q.0, ix_speaks c.right q.1, r.0), compares_speak cs p.1)

  -- ---- Conditions

  abbrev Claims : Cond → Type 0
  Claims x = cond_known known x ≡ true → IsCondBack prelude scope names x

  conjuncts_speak : (cs : List Cond) → Each Claims cs → each_known true (map (cond_seen known) cs) ≡ true → Each (IsConjunct prelude scope names) cs
  conjuncts_speak [] f h = tt
  conjuncts_speak (c ∷ cs) f h =
      let p = and_parts (not (cond_seen known c).is_all && cond_known known c) (each_known true (map (cond_seen known) cs)) h in
      let q = and_parts (not (cond_seen known c).is_all) (cond_known known c) p.0 in
      ((f.0 q.1, sym (all_is known c) ∙ off (cond_seen known c).is_all q.0), conjuncts_speak cs f.1 p.1)

  disjuncts_speak : (cs : List Cond) → Each Claims cs → each_known false (map (cond_seen known) cs) ≡ true → Each (IsDisjunct prelude scope names) cs
  disjuncts_speak [] f h = tt
  disjuncts_speak (c ∷ cs) f h =
      let p = and_parts (not (cond_seen known c).is_any && cond_known known c) (each_known false (map (cond_seen known) cs)) h in
      let q = and_parts (not (cond_seen known c).is_any) (cond_known known c) p.0 in
      ((f.0 q.1, sym (any_is known c) ∙ off (cond_seen known c).is_any q.0), disjuncts_speak cs f.1 p.1)

  are_two : (cs : List Cond) → nat_le 2 (length (map (cond_seen known) cs)) ≡ true → 2 ≤ length cs
  are_two cs h =
      let l = length-map cs (cond_seen known) in
      let two = leb-true 2 (length (map (cond_seen known) cs)) h in
      omega (arith, l, two)

  all_speaks : (cs : List Cond) → Each Claims cs → Claims (cond.All cs)
  all_speaks cs f h =
      let joined : joined_known true (map (cond_seen known) cs) ≡ true = ap (λ (s : CondKnown). s.is_known) (sym (all_here (spec.cond_step known) cs)) ∙ h in
      let p = and_parts (nat_le 2 (length (map (cond_seen known) cs))) (each_known true (map (cond_seen known) cs)) joined in
      all_again prelude scope names cs (are_two cs p.0) (conjuncts_speak cs f p.1)

  any_speaks : (cs : List Cond) → Each Claims cs → Claims (cond.Any cs)
  any_speaks cs f h =
      let joined : joined_known false (map (cond_seen known) cs) ≡ true = ap (λ (s : CondKnown). s.is_known) (sym (any_here (spec.cond_step known) cs)) ∙ h in
      let p = and_parts (nat_le 2 (length (map (cond_seen known) cs))) (each_known false (map (cond_seen known) cs)) joined in
      any_again prelude scope names cs (are_two cs p.0) (disjuncts_speak cs f p.1)

  divides_speaks : (value : Ix) (by : ℤ) (so : Bool) → Claims (cond.Divides value by so)
  divides_speaks value by so h =
      let p = and_parts (is_divisor by) (ix_known known value) h in
      let d = divisor_is by p.0 in
      subst (λ z. IsCondBack prelude scope names (cond.Divides value z so)) (sym d.1) (divides_again prelude scope names k.sees value d.0 so d.2 d.3 (ix_speaks value p.1))

  cond_cases : CondCases Claims
  cond_cases = record {
    compare = λ rel left right h. let p = and_parts (ix_known known left) (ix_known known right) h in compare_again prelude scope names k.sees rel left right (ix_speaks left p.0) (ix_speaks right p.1);
    all = all_speaks;
    any = any_speaks;
    divides = divides_speaks;
  }

  cond_speaks : (x : Cond) → Claims x
  cond_speaks x = every_cond Claims cond_cases x

  abbrev Tells : Val → Type 0
  Tells v = value_known known v ≡ true → IsValueBack prelude scope names k.sees v

  abbrev step_v : Val-F Bool → Bool
  step_v = spec.value_step known

  load_tells : (id : ArrayId) (subs : List Ix) → Tells (val.Load id subs)
  load_tells id subs h =
      let p = and_parts (takes false (length subs) (slice_get known.arrays id.0)) (ixs_known known subs) h in
      let t = takes_is false (length subs) (slice_get known.arrays id.0) p.0 in
      let a = k.array_at id.0 t.0 t.1 in
      let w = array_name names id in
      let d = dims_again prelude scope names k.sees subs (ixs_speak subs p.1) in
      let count : (j : ℕ) → length (dims_draft j (dims_text prelude names subs)) ≡ length subs = λ j. each_length (ix_tree scope) _ subs (d.reads j) in
      primary_back scope (load w (dims_text prelude names subs)) (val.Load id subs) (record {
        reads = λ j. then_is (array_named scope j w false (length (dims_draft (j + 1) (dims_text prelude names subs)))) _ id _
            (ap (array_named scope j w false) (count (j + 1)) ∙ array_found scope w id.0 t.0.role (length t.0.extents) a false (length subs) t.2 t.3 j)
            (then_is (each (ix_tree scope) (dims_draft (j + 1) (dims_text prelude names subs))) _ subs _ (d.reads (j + 1)) refl);
        stands = symbol_of_name w (dims_symbols (dims_text prelude names subs)) (record { is = a.word; other = not_static scope false w a.free }) d.stands;
      })

  val_cases : ValCases Tells
  val_cases = record {
    load = load_tells;
    const = λ n h. constant_back prelude scope names k.sees n (ltb-true n (2 ^ 64) h);
    cast = λ e h.
        let b = ix_speaks e h in
        primary_back scope (cast (ix_text prelude names e)) (val.Cast e) (record {
          reads = λ j. then_is _ _ e _ (b.whole (j + 4)) refl;
          stands = stand_both (ix_symbols (ix_text prelude names e)) (mark (codes ")") ∷ []) b.whole_stands refl;
        });
    not = λ a f h.
        let b = f (sym (not_here step_v a) ∙ h) in
        subst (λ w. ValueBack scope w (val.Not a)) (sym (not_here (value_step prelude names) a))
        (primary_back scope (complement (by_val (value_step prelude names) a).level_0) (val.Not a) (record { reads = λ j. then_is _ _ a _ (b.level_0.reads (j + 1)) refl; stands = b.level_0.stands }));
    bin = λ op a b f g h.
        let p = and_parts (value_known known a) (value_known known b) (sym (bin_here step_v op a b) ∙ h) in
        subst (λ w. ValueBack scope w (val.Bin op a b)) (sym (bin_here (value_step prelude names) op a b))
        (both_back scope op (by_val (value_step prelude names) a) (by_val (value_step prelude names) b) a b (f p.0) (g p.1));
    shift = λ left a by f h.
        let p = and_parts (nat_le by 63) (value_known known a) (sym (shift_here step_v left a by) ∙ h) in
        let b = f p.1 in
        subst (λ w. ValueBack scope w (val.Shift left a by)) (sym (shift_here (value_step prelude names) left a by))
        (shift_back scope _ (val.Shift left a by) (shift_reads scope left by (leb-true by 63 p.0) (by_val (value_step prelude names) a).level_3 a b.level_3));
  }

  pub value_tells : (v : Val) → Tells v
  value_tells v = every_val Tells val_cases v

-- ---- Locals

pub name_declared : (scope : Scope) (it : Bool) (w : Name) → (is_word w ≡ true) × (why_declared scope it w ≡ None) → IsName w
name_declared scope it w p = declared_name scope it w p.1 p.0

pub any_end : (xs : List Local) (l : Local) (v : Name) (b : Bool) → (list_any (λ x. same x.name v) (xs ++ l ∷ []) || b) ≡ (same l.name v || (list_any (λ x. same x.name v) xs || b))
any_end xs l v b = ap (λ z. z || b) (list_any-append (λ x. same x.name v) xs (l ∷ [])) ∙ of (list_any (λ x. same x.name v) xs) (same l.name v) b
  where
    of : (a c d : Bool) → ((a || (c || false)) || d) ≡ (c || (a || d))
    of true true d = refl
    of true false d = refl
    of false true d = refl
    of false false d = refl

pub knows_none : (known : Known) (scope : Scope) (names : Names) → Knows known scope names → Knows (and_locals known []) scope names
knows_none known scope names k =
    let n = k.numbers in
    record { sees = k.sees; taken = k.taken; numbers = omega (arith, n); arrays = k.arrays; number_at = k.number_at; array_at = k.array_at; array_of = k.array_of }

record LocalsSpoken (prelude : Bool) (known : Known) (before : List Local) (scope : Scope) (names : Names) (ls : List Local) : Type 0 where
  back : LocalsBack prelude scope names ls
  behind : Knows (and_locals known (before ++ ls)) (scope_after scope ls) (with_locals names ls)

locals_speak : (prelude : Bool) (known : Known) (calls : known.prelude ≡ true → IsTrue prelude) (before : List Local) (scope : Scope) (names : Names) → Knows (and_locals known before) scope names → scope.has_prelude ≡ known.prelude
    → (ls : List Local) → locals_known known before ls ≡ true → LocalsSpoken prelude known before scope names ls
locals_speak prelude known calls before scope names k on [] h = record { back = tt; behind = subst (λ xs. Knows (and_locals known xs) scope names) (sym (append-nil before)) k }
locals_speak prelude known calls before scope names k on (l ∷ ls) h =
    let p = and_parts (local_known (and_locals known before) l) (locals_known known (before ++ l ∷ []) ls) h in
    let q = and_parts (is_new (and_locals known before) false l.name) (ix_known (and_locals known before) l.value) p.0 in
    let n = new_is (and_locals known before) scope names k on false l.name q.0 in
    let long = length-append before (l ∷ []) in
    let next = knows_number (and_locals known before) (and_locals known (before ++ l ∷ [])) scope names k l.name false n.0 n.1 (λ v. any_end before l v (known.is_taken v)) (omega (arith, long)) refl in
    let more = locals_speak prelude known calls (before ++ l ∷ []) (with_number false scope l.name) (and_number names l.name) next on ls p.1 in
    record {
      back = (n.1, name_declared scope false l.name n, ix_speaks prelude (and_locals known before) scope names k calls l.value q.1, more.back);
      behind = subst (λ xs. Knows (and_locals known xs) (scope_after scope (l ∷ ls)) (with_locals names (l ∷ ls))) (append_assoc before (l ∷ []) ls) more.behind;
    }

-- ---- Statements

bound_is : (rel : Rel) → is_bound rel ≡ true → (strict : Bool) × (rel ≡ bound_rel strict)
bound_is Less h = (true, refl)
bound_is LessEqual h = (false, refl)
bound_is Greater h = absurd (false≢true h)
bound_is GreaterEqual h = absurd (false≢true h)
bound_is Equal h = absurd (false≢true h)
bound_is NotEqual h = absurd (false≢true h)

pub some_is : {A : Type 0} (xs : List A) → not (is_none xs) ≡ true → xs ≡ [] → ⊥
some_is [] h e = false≢true h
some_is (x ∷ xs) h e = cc

after_prelude : (scope : Scope) (ls : List Local) → (scope_after scope ls).has_prelude ≡ scope.has_prelude
after_prelude scope [] = refl
after_prelude scope (l ∷ ls) = after_prelude (with_number false scope l.name) ls

module _ (prelude : Bool) where
  abbrev Says : Stmt → Type 0
  Says s = (known : Known) (scope : Scope) (names : Names) → Knows known scope names → known.prelude ≡ prelude → scope.has_prelude ≡ prelude → stmt_known s known ≡ true → StmtBack prelude scope names s

  pub each_says : (known : Known) (scope : Scope) (names : Names) → Knows known scope names → known.prelude ≡ prelude → scope.has_prelude ≡ prelude → (body : List Stmt) → Each Says body → stmts_known known body ≡ true → Each (StmtBack prelude scope names) body
  each_says known scope names k p q [] f h = tt
  each_says known scope names k p q (s ∷ body) f h =
      let r = and_parts (stmt_known s known) (stmts_known known body) h in
      (f.0 known scope names k p q r.0, each_says known scope names k p q body f.1 r.1)

  calls_on : (known : Known) → known.prelude ≡ prelude → known.prelude ≡ true → IsTrue prelude
  calls_on known p h = sym p ∙ h

  loop_says : (iter : Name) (low : Ix) (rel : Rel) (high : Ix) (body : List Stmt) → Each Says body → Says (stmt.For iter low rel high body)
  loop_says iter low rel high body f known scope names k p q h =
      let whole : (for_known known iter low rel high && stmts_known (and_iterator known iter) body) ≡ true = ap (λ (g : Known → Bool). g known) (sym (for_here spec.stmt_step iter low rel high body)) ∙ h in
      let r = and_parts (for_known known iter low rel high) (stmts_known (and_iterator known iter) body) whole in
      let s = and_parts (is_new known true iter) (is_bound rel && (ix_known known low && ix_known known high)) r.0 in
      let t = and_parts (is_bound rel) (ix_known known low && ix_known known high) s.1 in
      let u = and_parts (ix_known known low) (ix_known known high) t.1 in
      let n = new_is known scope names k (q ∙ sym p) true iter s.0 in
      let b = bound_is rel t.0 in
      let next = knows_number known (and_iterator known iter) scope names k iter true n.0 n.1 (λ v. refl) refl refl in
      for_again prelude scope names iter low rel high body b.0 n.1 (name_declared scope true iter n) (ix_speaks prelude known scope names k (calls_on known p) low u.0) (ix_speaks prelude known scope names k (calls_on known p) high u.1) b.1
      (each_says (and_iterator known iter) (with_number true scope iter) (and_number names iter) next p q body f r.1)

  test_says : (x : Cond) (body other : List Stmt) → Each Says body → Each Says other → Says (stmt.If x body other)
  test_says x body other f g known scope names k p q h =
      let whole : (cond_known known x && (stmts_known known body && stmts_known known other)) ≡ true = ap (λ (w : Known → Bool). w known) (sym (if_here spec.stmt_step x body other)) ∙ h in
      let r = and_parts (cond_known known x) (stmts_known known body && stmts_known known other) whole in
      let s = and_parts (stmts_known known body) (stmts_known known other) r.1 in
      if_again prelude scope names x body other (cond_speaks prelude known scope names k (calls_on known p) x r.0) (each_says known scope names k p q body f s.0) (each_says known scope names k p q other g s.1)

  assign_says : (op : Option Op) (id : ArrayId) (subs : List Ix) (v : Val) → Says (stmt.Assign op id subs v)
  assign_says op id subs v known scope names k p q h =
      let r = and_parts (takes true (length subs) (slice_get known.arrays id.0)) (ixs_known known subs && value_known known v) h in
      let s = and_parts (ixs_known known subs) (value_known known v) r.1 in
      let t = takes_is true (length subs) (slice_get known.arrays id.0) r.0 in
      let a = k.array_at id.0 t.0 t.1 in
      let w = array_name names id in
      assign_again prelude scope names k.sees op id subs v w (length subs) refl (record { is = a.word; other = not_static scope false w a.free }) (array_found scope w id.0 t.0.role (length t.0.extents) a true (length subs) t.2 t.3) refl
      (dims_again prelude scope names k.sees subs (ixs_speak prelude known scope names k (calls_on known p) subs s.0)) (value_tells prelude known scope names k (calls_on known p) v s.1).level_6

  block_says : (ls : List Local) (body : List Stmt) → Each Says body → Says (stmt.Block ls body)
  block_says ls body f known scope names k p q h =
      let whole : (block_known known ls && stmts_known (and_locals known ls) body) ≡ true = ap (λ (g : Known → Bool). g known) (sym (block_here spec.stmt_step ls body)) ∙ h in
      let r = and_parts (block_known known ls) (stmts_known (and_locals known ls) body) whole in
      let s = and_parts (known.prelude || is_none ls) (locals_known known [] ls) r.0 in
      let l = locals_speak prelude known (calls_on known p) [] scope names (knows_none known scope names k) (q ∙ sym p) ls s.1 in
      block_again prelude scope names ls body l.back (allowed_here known.prelude p s.0)
      (each_says (and_locals known ls) (scope_after scope ls) (with_locals names ls) l.behind p (after_prelude scope ls ∙ q) body f r.1)
    where
      allowed_here : (b : Bool) → b ≡ prelude → (b || is_none ls) ≡ true → (ls ≡ []) ⊎ (prelude ≡ true)
      allowed_here true e h = inr (sym e)
      allowed_here false e h = inl (none_is ls h)

  pub stmt_says : (s : Stmt) → Says s
  stmt_says s = every_stmt Says (record { loop = loop_says; test = test_says; assign = assign_says; block = block_says }) s

  pub stmts_say : (known : Known) (scope : Scope) (names : Names) → Knows known scope names → known.prelude ≡ prelude → scope.has_prelude ≡ prelude → (body : List Stmt) → stmts_known known body ≡ true → Each (StmtBack prelude scope names) body
  stmts_say known scope names k p q body h = each_says known scope names k p q body (all body) h
    where
      all : (xs : List Stmt) → Each Says xs
      all [] = tt
      all (x ∷ xs) = (stmt_says x, all xs)
