-- A program with other subscripts keeps its shape, and its assignments do the same at places.
use Rattle.std.proofs.Common.{◌≡◌, ℕ, suc, ◌+◌, ℤ, ◌&&◌, List, [], ◌∷◌, ◌++◌, length, map, flat_map, Option, Some, None, refl, sym, ap, ◌∙◌, inl}
use Rattle.std.specs.Prelude.{nat_le}
use Rattle.affc_ast.specs.declared.tree.ArrayId.{ArrayId}
use Rattle.affc_ast.specs.declared.tree.Ix.{Ix}
use Rattle.affc_ast.specs.declared.tree.Op.{Op}
use Rattle.affc_ast.specs.declared.tree.Stmt.{Stmt}
use Rattle.affc_ast.specs.declared.tree.Stmt.TheVariants as s
use Rattle.affc_ast.specs.declared.tree.Stmt.TheBlock.{Row_of-Stmt, more_of-Stmt, end_of-Stmt}
use Rattle.affc_ast.specs.declared.tree.Stmt.TheOpen as layer
use Rattle.affc_ast.specs.declared.tree.Stmt.TheOpen.{Stmt-F}
use Rattle.affc_ast.specs.declared.tree.Val.{Val}
use Rattle.affc_ast.specs.declared.tree.Val.TheVariants as v
use Rattle.affc_ast.specs.declared.tree.Val.TheBlock.{more_of-Val, end_of-Val}
use Rattle.affc_ast.specs.Recursion.{by_stmt, by_each}
use Rattle.affc_ast.specs.Store.{Element}
use Rattle.affc_ast.specs.Trace.{Assignment, element, joined, loads_step, loads_of_value, own_load, walk_step, in_walk_order}
use Rattle.affc_ast.specs.Values.{operate, complement, shifted}
use Rattle.affc_ast.proofs.Steps.{for_here, if_here, block_here, not_here, bin_here, shift_here, row_of, unrolled}
use Rattle.affc_trace.specs.Effects.{Taking, taking_step, taking, then_taking, taken, combining, plain_step, all_true}
use Rattle.affc_trace.specs.Law.{IsIn}
use Rattle.affc_trace.specs.Target.{numbers_in}
use Rattle.affc_trace.proofs.LastStores.{map_append}
use Rattle.affc_trace.proofs.Members.{to_first, to_second}
use Rattle.affc_domain.specs.Accesses.{Access, accesses_in, own_access, accesses_of}
use Rattle.affc_domain.specs.Ranges.{number_ranges}
use Rattle.affc_domain.specs.Rounds.{rounds_step}
use Rattle.affc_safe.specs.Overflow.{near_step, near_ranges, all_near}
use Rattle.affc_foldloops.specs.Laws.{RefoldedKeepsShape, RefoldedEffect}
use Rattle.affc_foldloops.specs.Refolds.{Subscripts, refold_value, each_under, refold_step, IsAtPlace}

-- ---- Steps that don't look at subscripts and values

module _ {A : Type 0} (at : Subscripts) (f : Stmt-F A → A)
    (blind : (op : Option Op) (array : ArrayId) (subs subs' : List Ix) (e e' : Val) → f (layer.Assign op array subs e) ≡ f (layer.Assign op array subs' e')) where
  mutual
    pub stmt_same : (x : Stmt) (n : ℕ) → by_stmt f (by_stmt (refold_step at) x n) ≡ by_stmt f x
    stmt_same (s.For' iter low rel high shape body) n =
        for_here f iter low rel high (each_under (by_each (refold_step at) body) (suc n)) ∙ ap (λ l. f (layer.For iter low rel high l)) (row_same body (suc n))
    stmt_same (s.If' cond shape body shape' other) n =
        let second : List Stmt = each_under (by_each (refold_step at) other) n in
        if_here f cond (each_under (by_each (refold_step at) body) n) second
        ∙ ap (λ l. f (layer.If cond l (map (by_stmt f) second))) (row_same body n)
        ∙ ap (λ l. f (layer.If cond (by_each f body) l)) (row_same other n)
    stmt_same (s.Assign op array subs value) n = blind op array (at n array subs) subs (refold_value at n value) value
    stmt_same (s.Block' locals shape body) n =
        block_here f locals (each_under (by_each (refold_step at) body) (n + length locals)) ∙ ap (λ l. f (layer.Block locals l)) (row_same body (n + length locals))

    row_same : {m : _} (body : Row_of-Stmt m) (n : ℕ) → map (by_stmt f) (each_under (by_each (refold_step at) body) n) ≡ by_each f body
    row_same end_of-Stmt n = refl
    row_same (more_of-Stmt x rest) n =
        ap (λ y. y ∷ map (by_stmt f) (each_under (by_each (refold_step at) rest) n)) (stmt_same x n) ∙ ap (λ l. by_stmt f x ∷ l) (row_same rest n)

  list_same : (body : List Stmt) (n : ℕ) → map (by_stmt f) (each_under (map (by_stmt (refold_step at)) body) n) ≡ map (by_stmt f) body
  list_same body n = ap (λ fs. map (by_stmt f) (each_under fs n)) (unrolled (refold_step at) body) ∙ row_same (row_of body) n ∙ sym (unrolled f body)

pub flat_is : {A B : Type 0} (g : A → List B) (xs : List A) → flat_map g xs ≡ joined (map g xs)
flat_is g [] = refl
flat_is g (x ∷ xs) = ap (λ l. g x ++ l) (flat_is g xs)

pub refolded_keeps_shape : RefoldedKeepsShape
refolded_keeps_shape at temps program =
    let n : ℕ = numbers_in program.params in
    let ranges = number_ranges program.params in
    let new : List Stmt = each_under (map (by_stmt (refold_step at)) program.body) n in
    record {
      same_loops = record {
        same_rounds = flat_is (by_stmt rounds_step) new ∙ ap joined (list_same at rounds_step (λ op array subs subs' e e'. refl) program.body n) ∙ sym (flat_is (by_stmt rounds_step) program.body);
        same_ranges = refl;
      };
      same_trace = λ p. ap (λ ws. in_walk_order ws 0 []) (list_same at (walk_step p) (λ op array subs subs' e e'. refl) program.body n);
      same_locals = ap all_true (list_same at plain_step (λ op array subs subs' e e'. refl) program.body n);
      same_near = ap (λ fs. nat_le (length ranges) 16 && (near_ranges ranges && all_near fs ranges)) (list_same at near_step (λ op array subs subs' e e'. refl) program.body n);
    }

-- ---- Effects

module _ (at : Subscripts) (names : List ℤ) (place : Element → Element) where
  abbrev new : Val → Val
  new = refold_value at (length names)

  loads_placed : (e : Val) → ((x : Access) → IsIn x (accesses_in e) → IsAtPlace at place names x) → loads_of_value (new e) names ≡ map place (loads_of_value e names)
  loads_placed (v.Load array subs) h = ap (λ y. y ∷ []) (h (array, subs) (inl refl))
  loads_placed (v.Const k) h = refl
  loads_placed (v.Cast e) h = refl
  loads_placed (v.Not' t (more_of-Val a end_of-Val)) h = ap (λ f. f names) (not_here loads_step (new a)) ∙ loads_placed a h
  loads_placed (v.Bin' op t (more_of-Val a end_of-Val) t' (more_of-Val b end_of-Val)) h =
      ap (λ f. f names) (bin_here loads_step op (new a) (new b))
      ∙ ap (λ l. l ++ loads_of_value (new b) names) (loads_placed a (λ x i. h x (to_first (accesses_in a) (accesses_in b) x i)))
      ∙ ap (λ l. map place (loads_of_value a names) ++ l) (loads_placed b (λ x i. h x (to_second (accesses_in a) (accesses_in b) x i)))
      ∙ sym (map_append place (loads_of_value a names) (loads_of_value b names))
  loads_placed (v.Shift' left t (more_of-Val a end_of-Val) by) h = ap (λ f. f names) (shift_here loads_step left (new a) by) ∙ loads_placed a h

  same_taking : (e : Val) → taking (new e) names ≡ taking e names
  same_taking (v.Load array subs) = refl
  same_taking (v.Const k) = refl
  same_taking (v.Cast e) = refl
  same_taking (v.Not' t (more_of-Val a end_of-Val)) = ap (λ f. f names) (not_here taking_step (new a)) ∙ ap {B = Taking} (λ g vs. taken complement (g vs)) (same_taking a)
  same_taking (v.Bin' op t (more_of-Val a end_of-Val) t' (more_of-Val b end_of-Val)) =
      ap (λ f. f names) (bin_here taking_step op (new a) (new b))
      ∙ ap {B = Taking} (λ g vs. then_taking (operate op) (g vs) (taking (new b) names)) (same_taking a)
      ∙ ap {B = Taking} (λ g vs. then_taking (operate op) (taking a names vs) g) (same_taking b)
  same_taking (v.Shift' left t (more_of-Val a end_of-Val) by) =
      ap (λ f. f names) (shift_here taking_step left (new a) by) ∙ ap {B = Taking} (λ g vs. taken (λ x. shifted left x by) (g vs)) (same_taking a)

  own_placed : (op : Option Op) (x : Element) → own_load op (place x) ≡ map place (own_load op x)
  own_placed None x = refl
  own_placed (Some op) x = refl

-- the accesses of an assignment are those of its value and the one that it stores
pub of_value : (a : Assignment) (x : Access) → IsIn x (accesses_in a.value) → IsIn x (accesses_of a)
of_value a x i =
    let mine : Access = (a.array, a.subs) in
    to_second (own_access a.op mine) (accesses_in a.value ++ mine ∷ []) x (to_first (accesses_in a.value) (mine ∷ []) x i)

pub of_store : (a : Assignment) → IsIn (a.array, a.subs) (accesses_of a)
of_store a =
    let mine : Access = (a.array, a.subs) in
    to_second (own_access a.op mine) (accesses_in a.value ++ mine ∷ []) mine (to_second (accesses_in a.value) (mine ∷ []) mine (inl refl))

pub refolded_effect : RefoldedEffect
refolded_effect at a names place h =
    let subs = at (length names) a.array a.subs in
    let value = new at names place a.value in
    let stores : element names a.array subs ≡ place (element names a.array a.subs) = h (a.array, a.subs) (of_store a) in
    let behind = loads_placed at names place a.value (λ x i. h x (of_value a x i)) in
    let loads : own_load a.op (element names a.array subs) ++ loads_of_value value names ≡ map place (own_load a.op (element names a.array a.subs) ++ loads_of_value a.value names) =
    ap (λ x. own_load a.op x ++ loads_of_value value names) stores
    ∙ ap (λ l. l ++ loads_of_value value names) (own_placed at names place a.op (element names a.array a.subs))
    ∙ ap (λ l. map place (own_load a.op (element names a.array a.subs)) ++ l) behind
    ∙ sym (map_append place (own_load a.op (element names a.array a.subs)) (loads_of_value a.value names)) in
    let values = ap {B = List ℕ → ℕ} (λ g vs. combining a.op g vs) (same_taking at names place a.value) in
    λ i. record { loads = loads i; stores = stores i; value = values i }
