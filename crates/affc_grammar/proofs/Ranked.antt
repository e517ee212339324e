-- A text that keeps the rules on names gives each access as many subscripts as its array has dimensions.
use Rattle.std.proofs.Common.{◌≡◌, ℕ, zero, suc, Bool, true, false, not, ◌&&◌, ◌==◌, List, [], ◌∷◌, ◌++◌, length, map, Option, Some, None, Ok, count_by, refl, sym, ap, subst, ◌∙◌, append_assoc, length-append, arith}
use Rattle.std.specs.Prelude.{if◌then◌else◌, slice_get, flat_map}
use Rattle.std.specs.List.{list_all, find}
use Rattle.std.proofs.lemmas.Bool.{and_from}
use Rattle.std.proofs.lemmas.List.{append-nil}
use Rattle.std.proofs.lemmas.List.Sums.{sum_by-cons}
use Rattle.std.proofs.lemmas.List.Concat.{flat_map-append}
use Rattle.std.proofs.lemmas.List.Folds.{list_all-append}
use Rattle.affc_lex.specs.Bytes.{same}
use Rattle.affc_ast.specs.declared.tree.ArrayId.{ArrayId}
use Rattle.affc_ast.specs.declared.tree.Decl.{Decl}
use Rattle.affc_ast.specs.declared.tree.Local.{Local}
use Rattle.affc_ast.specs.declared.tree.Param.{Param}
use Rattle.affc_ast.specs.declared.tree.Role.{Role}
use Rattle.affc_ast.specs.declared.tree.Stmt.{Stmt}
use Rattle.affc_ast.specs.declared.tree.Val.{Val}
use Rattle.affc_ast.specs.Meaning.{arrays_of}
use Rattle.affc_ast.specs.Ranks.{rank_of, is_rank, has_rank, ranks_step, is_ranked}
use Rattle.affc_ast.specs.Recursion.{by_val, by_stmt}
use Rattle.affc_ast.specs.Trace.{Assignment, assignments_step, joined}
use Rattle.affc_grammar.specs.declared.fault.NameWhy.TheVariants.{Reserved, Const, Kind}
use Rattle.affc_grammar.specs.Grammar.{Name}
use Rattle.affc_grammar.specs.Draft.{ValueDraft, load, constant, cast, complement, binary, shift, LocalDraft, StmtsDraft, no_stmts, and_stmt, StmtDraft, for_loop, if_cond, assign, block, DeclDraft, ParamDraft, number_param, array_param, PragmaDraft}
use Rattle.affc_grammar.specs.Names.{Thing, function, number, array, Visible, Scope, thing_of, is_number_thing, is_array_thing, with_thing, with_number, with_array, is_refused_word, is_input, first_reason, why_array, why_declared, Checked, allowed, each, array_id, array_named, number_tree, range_of, ix_tree, cond_tree, value_tree, locals_tree, head_tree, stmts_tree, stmt_tree, with_params, decl_tree, param_tree, params_tree, temps_tree}
use Rattle.affc_grammar.proofs.Steps.{ok_of, then_is, allowed_is, not_here, bin_here, shift_here, for_here, if_here, block_here}

-- ---- What is visible

-- the arrays that are visible have these numbers of dimensions
pub record Knows (scope : Scope) (ranks : List ℕ) : Type 0 where
  pub count : count_by is_array_thing scope.visible ≡ length ranks
  pub found : (w : Name) (id : ℕ) (role : Role) (n : ℕ) → thing_of scope w ≡ Some (array id role n) → slice_get ranks id ≡ Some n

-- a new thing is found by its name, and each other name finds what it found
pub thing_with : (scope : Scope) (w v : Name) (thing : Thing) → (t : Bool) → same w v ≡ t → thing_of (with_thing scope w thing) v ≡ (if t then Some thing else thing_of scope v)
thing_with scope w v thing t e = ap (λ b. shown (if b then Some (record { name = w; thing = thing }) else find (λ x. same x.name v) scope.visible)) e ∙ by t
  where
    shown : Option Visible → Option Thing
    shown o = elim o [ None ↦ None | Some x ↦ Some x.thing ]

    by : (t : Bool) → shown (if t then Some (record { name = w; thing = thing }) else find (λ x. same x.name v) scope.visible) ≡ (if t then Some thing else thing_of scope v)
    by true = refl
    by false = refl

number_is_array : (k id : ℕ) (it : Bool) (role : Role) (n : ℕ) → ◌≡◌ {A = Option Thing} (Some (number k it)) (Some (array id role n)) → ⊥
number_is_array k id it role n e = cc

pub function_is_array : (id : ℕ) (role : Role) (n : ℕ) → ◌≡◌ {A = Option Thing} (Some function) (Some (array id role n)) → ⊥
function_is_array id role n e = cc

pub knows_number : (scope : Scope) (ranks : List ℕ) (it : Bool) (w : Name) → Knows scope ranks → Knows (with_number it scope w) ranks
knows_number scope ranks it w h = record {
  count = omega (arith, h.count, sum_by-cons (λ (v : Visible). if is_array_thing v then 1 else 0) (record { name = w; thing = new }) scope.visible);
  found = λ v id role n e. by (same w v) v refl id role n e;
}
  where
    new : Thing
    new = number (count_by is_number_thing scope.visible) it

    by : (t : Bool) (v : Name) → same w v ≡ t → (id : ℕ) (role : Role) (n : ℕ) → thing_of (with_number it scope w) v ≡ Some (array id role n) → slice_get ranks id ≡ Some n
    by true v q id role n e = absurd (number_is_array _ id it role n (sym (thing_with scope w v new true q) ∙ e))
    by false v q id role n e = h.found v id role n (sym (thing_with scope w v new false q) ∙ e)

get_front : (xs ys : List ℕ) (i n : ℕ) → slice_get xs i ≡ Some n → slice_get (xs ++ ys) i ≡ Some n
get_front [] ys zero n e = absurd (cc)
get_front [] ys (suc i) n e = absurd (cc)
get_front (x ∷ xs) ys zero n e = e
get_front (x ∷ xs) ys (suc i) n e = get_front xs ys i n e

get_last : (xs : List ℕ) (n : ℕ) → slice_get (xs ++ n ∷ []) (length xs) ≡ Some n
get_last [] n = refl
get_last (x ∷ xs) n = get_last xs n

pub knows_array : (scope : Scope) (ranks : List ℕ) (w : Name) (role : Role) (n : ℕ) → Knows scope ranks → Knows (with_array scope w role n) (ranks ++ n ∷ [])
knows_array scope ranks w role n h = record {
  count = omega (arith, h.count, length-append ranks (n ∷ []), sum_by-cons (λ (v : Visible). if is_array_thing v then 1 else 0) (record { name = w; thing = new }) scope.visible);
  found = λ v id role' m e. by (same w v) v refl id role' m e;
}
  where
    new : Thing
    new = array (count_by is_array_thing scope.visible) role n

    by : (t : Bool) (v : Name) → same w v ≡ t → (id : ℕ) (role' : Role) (m : ℕ) → thing_of (with_array scope w role n) v ≡ Some (array id role' m) → slice_get (ranks ++ n ∷ []) id ≡ Some m
    by true v q id role' m e =
        let here : ◌≡◌ {A = Option Thing} (Some new) (Some (array id role' m)) = sym (thing_with scope w v new true q) ∙ e in
        let number : count_by is_array_thing scope.visible ≡ id = cc in
        let dimensions : n ≡ m = cc in
        ap (slice_get (ranks ++ n ∷ [])) (sym number ∙ h.count) ∙ get_last ranks n ∙ ap Some dimensions
    by false v q id role' m e = get_front ranks (n ∷ []) id m (h.found v id role' m (sym (thing_with scope w v new false q) ∙ e))

-- ---- Accesses

kind_refused : (b : Bool) → first_reason ((b, Reserved) ∷ (true, Kind) ∷ []) ≡ None → ⊥
kind_refused true e = cc
kind_refused false e = cc

as_many : (a b : Bool) (n count : ℕ) → first_reason ((a, Reserved) ∷ (b, Const) ∷ (not (n == count), Kind) ∷ []) ≡ None → (n == count) ≡ true
as_many true b n count e = absurd (cc)
as_many false true n count e = absurd (cc)
as_many false false n count e = by (n == count) e
  where
    by : (t : Bool) → first_reason ((not t, Kind) ∷ []) ≡ None → t ≡ true
    by true e = refl
    by false e = absurd (cc)

named_rank : (scope : Scope) (ranks : List ℕ) → Knows scope ranks → (at : ℕ) (w : Name) (is_store : Bool) (count : ℕ) (id : ArrayId) → array_named scope at w is_store count ≡ Ok id → has_rank ranks id count ≡ true
named_rank scope ranks h at w is_store count id e = by (thing_of scope w) refl e
  where
    by : (o : Option Thing) → thing_of scope w ≡ o → allowed (why_array scope w is_store count o) at (Ok (array_id o)) ≡ Ok id → has_rank ranks id count ≡ true
    by None q e = absurd (cc)
    by (Some function) q e = absurd (kind_refused _ (allowed_is _ at _ id e).0)
    by (Some (number k it)) q e = absurd (kind_refused _ (allowed_is _ at _ id e).0)
    by (Some (array k role n)) q e =
        let p = allowed_is (why_array scope w is_store count (Some (array k role n))) at (Ok (record { 0 = k })) id e in
        ap (λ (a : ArrayId). has_rank ranks a count) (sym (ok_of p.1)) ∙ ap (λ o. is_rank o count) (h.found w k role n q)
        ∙ as_many (is_refused_word scope false w) (is_store && is_input role) n count p.0

each_length : {A B : Type 0} (f : A → Checked B) (as' : List A) (bs : List B) → each f as' ≡ Ok bs → length as' ≡ length bs
each_length f [] bs e = ap length (ok_of e)
each_length f (a ∷ as') bs e =
    let p = then_is (f a) _ bs e in
    let q = then_is (each f as') _ bs p.2 in
    ap suc (each_length f as' q.0 q.1) ∙ ap length (ok_of q.2)

module _ (ranks : List ℕ) where
  value_ranked : (scope : Scope) → Knows scope ranks → (c : ValueDraft) (x : Val) → value_tree scope c ≡ Ok x → by_val (ranks_step ranks) x ≡ true
  value_ranked scope h (load at w subs) x e =
      let p = then_is (array_named scope at w false (length subs)) _ x e in
      let q = then_is (each (ix_tree scope) subs) _ x p.2 in
      subst (λ (y : Val). by_val (ranks_step ranks) y ≡ true) (ok_of q.2)
      (ap (has_rank ranks p.0) (sym (each_length (ix_tree scope) subs q.0 q.1)) ∙ named_rank scope ranks h at w false (length subs) p.0 p.1)
  value_ranked scope h (constant n) x e = subst (λ (y : Val). by_val (ranks_step ranks) y ≡ true) (ok_of e) refl
  value_ranked scope h (cast a) x e = let p = then_is (ix_tree scope a) _ x e in subst (λ (y : Val). by_val (ranks_step ranks) y ≡ true) (ok_of p.2) refl
  value_ranked scope h (complement v) x e =
      let p = then_is (value_tree scope v) _ x e in
      subst (λ (y : Val). by_val (ranks_step ranks) y ≡ true) (ok_of p.2) (not_here (ranks_step ranks) p.0 ∙ value_ranked scope h v p.0 p.1)
  value_ranked scope h (binary op v w) x e =
      let p = then_is (value_tree scope v) _ x e in
      let q = then_is (value_tree scope w) _ x p.2 in
      subst (λ (y : Val). by_val (ranks_step ranks) y ≡ true) (ok_of q.2)
      (bin_here (ranks_step ranks) op p.0 q.0 ∙ and_from _ _ (value_ranked scope h v p.0 p.1) (value_ranked scope h w q.0 q.1))
  value_ranked scope h (shift left v by) x e =
      let p = then_is (value_tree scope v) _ x e in
      subst (λ (y : Val). by_val (ranks_step ranks) y ≡ true) (ok_of p.2) (shift_here (ranks_step ranks) left p.0 by ∙ value_ranked scope h v p.0 p.1)

  locals_known : (scope : Scope) → Knows scope ranks → (cs : List LocalDraft) (r : List Local × Scope) → locals_tree scope cs ≡ Ok r → Knows r.1 ranks
  locals_known scope h [] r e = subst (λ (z : List Local × Scope). Knows z.1 ranks) (ok_of e) h
  locals_known scope h (c ∷ cs) r e =
      let a = allowed_is (why_declared scope false c.name) c.at _ r e in
      let p = then_is (ix_tree scope c.value) _ r a.1 in
      let q = then_is (locals_tree (with_number false scope c.name) cs) _ r p.2 in
      subst (λ (z : List Local × Scope). Knows z.1 ranks) (ok_of q.2) (locals_known (with_number false scope c.name) (knows_number scope ranks false c.name h) cs q.0 q.1)

  abbrev AreRanked : List Assignment → Type 0
  AreRanked as' = list_all (is_ranked ranks) as' ≡ true

  joined_is : (xs : List Stmt) → joined (map (by_stmt assignments_step) xs) ≡ flat_map (by_stmt assignments_step) xs
  joined_is [] = refl
  joined_is (x ∷ xs) = ap (λ l. by_stmt assignments_step x ++ l) (joined_is xs)

  more_ranked : (xs : List Stmt) (x : Stmt) → AreRanked (flat_map (by_stmt assignments_step) xs) → AreRanked (by_stmt assignments_step x) → AreRanked (flat_map (by_stmt assignments_step) (xs ++ x ∷ []))
  more_ranked xs x h k =
      ap (list_all (is_ranked ranks)) (flat_map-append (by_stmt assignments_step) xs (x ∷ [])) ∙ list_all-append (is_ranked ranks) (flat_map (by_stmt assignments_step) xs) (by_stmt assignments_step x ++ [])
      ∙ and_from _ _ h (list_all-append (is_ranked ranks) (by_stmt assignments_step x) [] ∙ and_from _ _ k refl)

  mutual
    pub stmts_ranked : (scope : Scope) → Knows scope ranks → (cs : StmtsDraft) (xs : List Stmt) → stmts_tree scope cs ≡ Ok xs → AreRanked (flat_map (by_stmt assignments_step) xs)
    stmts_ranked scope h no_stmts xs e = subst (λ (l : List Stmt). AreRanked (flat_map (by_stmt assignments_step) l)) (ok_of e) refl
    stmts_ranked scope h (and_stmt cs c) xs e =
        let p = then_is (stmts_tree scope cs) _ xs e in
        let q = then_is (stmt_tree scope c) _ xs p.2 in
        subst (λ (l : List Stmt). AreRanked (flat_map (by_stmt assignments_step) l)) (ok_of q.2) (more_ranked p.0 q.0 (stmts_ranked scope h cs p.0 p.1) (stmt_ranked scope h c q.0 q.1))

    stmt_ranked : (scope : Scope) → Knows scope ranks → (c : StmtDraft) (x : Stmt) → stmt_tree scope c ≡ Ok x → AreRanked (by_stmt assignments_step x)
    stmt_ranked scope h (for_loop d body) x e =
        let p = then_is (head_tree scope d) _ x e in
        let q = then_is (stmts_tree (with_number true scope d.iterator.name) body) _ x p.2 in
        subst (λ (y : Stmt). AreRanked (by_stmt assignments_step y)) (ok_of q.2)
        (ap (list_all (is_ranked ranks)) (for_here assignments_step d.iterator.name p.0.0 d.rel p.0.1 q.0 ∙ joined_is q.0)
        ∙ stmts_ranked (with_number true scope d.iterator.name) (knows_number scope ranks true d.iterator.name h) body q.0 q.1)
    stmt_ranked scope h (if_cond at c body other) x e =
        let p = then_is (cond_tree scope c) _ x e in
        let q = then_is (stmts_tree scope body) _ x p.2 in
        let r = then_is (stmts_tree scope other) _ x q.2 in
        subst (λ (y : Stmt). AreRanked (by_stmt assignments_step y)) (ok_of r.2)
        (ap (list_all (is_ranked ranks)) (if_here assignments_step p.0 q.0 r.0 ∙ (λ i. joined_is q.0 i ++ joined_is r.0 i))
        ∙ list_all-append (is_ranked ranks) (flat_map (by_stmt assignments_step) q.0) (flat_map (by_stmt assignments_step) r.0)
        ∙ and_from _ _ (stmts_ranked scope h body q.0 q.1) (stmts_ranked scope h other r.0 r.1))
    stmt_ranked scope h (assign w subs op v) x e =
        let p = then_is (array_named scope w.at w.name true (length subs)) _ x e in
        let q = then_is (each (ix_tree scope) subs) _ x p.2 in
        let r = then_is (value_tree scope v) _ x q.2 in
        subst (λ (y : Stmt). AreRanked (by_stmt assignments_step y)) (ok_of r.2)
        (and_from _ _ (and_from _ _ (ap (has_rank ranks p.0) (sym (each_length (ix_tree scope) subs q.0 q.1)) ∙ named_rank scope ranks h w.at w.name true (length subs) p.0 p.1) (value_ranked scope h v r.0 r.1)) refl)
    stmt_ranked scope h (block cs body) x e =
        let p = then_is (locals_tree scope cs) _ x e in
        let q = then_is (stmts_tree p.0.1 body) _ x p.2 in
        subst (λ (y : Stmt). AreRanked (by_stmt assignments_step y)) (ok_of q.2)
        (ap (list_all (is_ranked ranks)) (block_here assignments_step p.0.0 q.0 ∙ joined_is q.0) ∙ stmts_ranked p.0.1 (locals_known scope h cs p.0 p.1) body q.0 q.1)

-- ---- Declarations

decl_rank : (scope : Scope) (c : DeclDraft) (x : Decl) → decl_tree scope c ≡ Ok x → length c.extents ≡ rank_of x
decl_rank scope c x e =
    let a = allowed_is (why_declared scope false c.word.name) c.word.at _ x e in
    let p = then_is (each (ix_tree scope) c.extents) _ x a.1 in
    each_length (ix_tree scope) c.extents p.0 p.1 ∙ ap rank_of (ok_of p.2)

one_behind : (ranks ns : List ℕ) (m n : ℕ) → m ≡ n → (ranks ++ m ∷ []) ++ ns ≡ ranks ++ (n ∷ ns)
one_behind ranks ns m n e = append_assoc ranks (m ∷ []) ns ∙ ap (λ k. ranks ++ (k ∷ ns)) e

pub params_known : (scope : Scope) (ranks : List ℕ) → Knows scope ranks → (ps : List PragmaDraft) (cs : List ParamDraft) (xs : List Param) → params_tree scope ps cs ≡ Ok xs
    → Knows (with_params scope cs) (ranks ++ map rank_of (arrays_of xs))
params_known scope ranks h ps [] xs e = subst (λ (l : List Param). Knows scope (ranks ++ map rank_of (arrays_of l))) (ok_of e) (subst (Knows scope) (sym (append-nil ranks)) h)
params_known scope ranks h ps (number_param w ∷ cs) xs e =
    let p = then_is (param_tree scope ps (number_param w)) _ xs e in
    let q = then_is (params_tree (with_number false scope w.name) ps cs) _ xs p.2 in
    let a = allowed_is (why_declared scope false w.name) w.at _ p.0 p.1 in
    let rest = params_known (with_number false scope w.name) ranks (knows_number scope ranks false w.name h) ps cs q.0 q.1 in
    subst (λ (l : List Param). Knows (with_params (with_number false scope w.name) cs) (ranks ++ map rank_of (arrays_of l))) (ok_of q.2) (by (range_of w.name ps) p.0 a.1 q.0 rest)
  where
    by : (o : _) (x : Param) → number_tree w.at w.name o ≡ Ok x → (others : List Param) → Knows (with_params (with_number false scope w.name) cs) (ranks ++ map rank_of (arrays_of others))
        → Knows (with_params (with_number false scope w.name) cs) (ranks ++ map rank_of (arrays_of (x ∷ others)))
    by None x e others k = absurd (cc)
    by (Some r) x e others k = subst (λ (y : Param). Knows (with_params (with_number false scope w.name) cs) (ranks ++ map rank_of (arrays_of (y ∷ others)))) (ok_of e) k
params_known scope ranks h ps (array_param d ∷ cs) xs e =
    let p = then_is (param_tree scope ps (array_param d)) _ xs e in
    let inner = with_array scope d.word.name d.role (length d.extents) in
    let q = then_is (params_tree inner ps cs) _ xs p.2 in
    let a = then_is (decl_tree scope d) _ p.0 p.1 in
    let rest = params_known inner (ranks ++ length d.extents ∷ []) (knows_array scope ranks d.word.name d.role (length d.extents) h) ps cs q.0 q.1 in
    subst (λ (l : List Param). Knows (with_params inner cs) (ranks ++ map rank_of (arrays_of l))) (ok_of q.2)
    (subst (λ (x : Param). Knows (with_params inner cs) (ranks ++ map rank_of (arrays_of (x ∷ q.0)))) (ok_of a.2)
    (subst (Knows (with_params inner cs)) (one_behind ranks (map rank_of (arrays_of q.0)) (length d.extents) (rank_of a.0) (decl_rank scope d a.0 a.1)) rest))

pub temps_known : (scope : Scope) (ranks : List ℕ) → Knows scope ranks → (cs : List DeclDraft) (r : List Decl × Scope) → temps_tree scope cs ≡ Ok r → Knows r.1 (ranks ++ map rank_of r.0)
temps_known scope ranks h [] r e = subst (λ (z : List Decl × Scope). Knows z.1 (ranks ++ map rank_of z.0)) (ok_of e) (subst (Knows scope) (sym (append-nil ranks)) h)
temps_known scope ranks h (d ∷ cs) r e =
    let p = then_is (decl_tree scope d) _ r e in
    let inner = with_array scope d.word.name d.role (length d.extents) in
    let q = then_is (temps_tree inner cs) _ r p.2 in
    let rest = temps_known inner (ranks ++ length d.extents ∷ []) (knows_array scope ranks d.word.name d.role (length d.extents) h) cs q.0 q.1 in
    subst (λ (z : List Decl × Scope). Knows z.1 (ranks ++ map rank_of z.0)) (ok_of q.2)
    (subst (Knows q.0.1) (one_behind ranks (map rank_of q.0.0) (length d.extents) (rank_of p.0) (decl_rank scope d p.0 p.1)) rest)
