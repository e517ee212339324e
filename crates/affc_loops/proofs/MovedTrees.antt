-- Where more names stand in sight, the moved expression gives what the source's gives.
use Rattle.std.proofs.Common.{◌≡◌, ℕ, zero, suc, ◌+◌, ◌-◌, ◌<◌, ◌≤◌, ℤ, pos, ◌+ℤ◌, ◌-ℤ◌, ◌*ℤ◌, neg_ℤ, Bool, true, false, nat_lt, if◌then◌else◌, Some, List, [], ◌∷◌, ◌++◌, length, get_or, map, refl, sym, ap, ◌∙◌, arith}
use Rattle.std.proofs.lemmas.Bool.{ltb-true, ltb-false}
use Rattle.std.specs.Int.{int_max, int_min}
use Rattle.affc_ast.specs.declared.tree.Ix.{Ix}
use Rattle.affc_ast.specs.declared.tree.Ix.TheVariants as c
use Rattle.affc_ast.specs.declared.tree.Ix.TheBlock.{more_of-Ix, end_of-Ix}
use Rattle.affc_ast.specs.declared.tree.Val.{Val}
use Rattle.affc_ast.specs.declared.tree.Val.TheVariants as v
use Rattle.affc_ast.specs.declared.tree.Val.TheBlock.{more_of-Val, end_of-Val}
use Rattle.affc_ast.specs.Fits.{whole_step, whole}
use Rattle.affc_ast.specs.Index.{floor_of, ceiling_of, remainder_of}
use Rattle.affc_ast.specs.Store.{Element}
use Rattle.affc_ast.specs.Trace.{loads_step, loads_of_value, element, Assignment, own_load}
use Rattle.affc_ast.specs.Values.{operate, complement, shifted, converted}
use Rattle.affc_trace.specs.Effects.{Taking, taking_step, taking, then_taking, taken, combining, effect_by}
use Rattle.affc_loops.specs.Trees.{moved_name, moved, moved_value}
use Rattle.affc_ast.proofs.Steps.{neg_here, floord_here, ceild_here, add_here, sub_here, mul_here, min_here, max_here, mod_here, not_here, bin_here, shift_here}

-- ---- names

get_behind : (front rest : List ℤ) (k : ℕ) → get_or (front ++ rest) (length front + k) (pos 0) ≡ get_or rest k (pos 0)
get_behind [] rest k = let e : 0 + k ≡ k = omega arith in ap (λ i. get_or rest i (pos 0)) e
get_behind (x ∷ front) rest k = let e : suc (length front) + k ≡ suc (length front + k) = omega arith in ap (λ i. get_or (x ∷ (front ++ rest)) i (pos 0)) e ∙ get_behind front rest k

pub get_front : (front rest : List ℤ) (k : ℕ) → k < length front → get_or (front ++ rest) k (pos 0) ≡ get_or front k (pos 0)
get_front [] rest k h = absurd (omega arith)
get_front (x ∷ front) rest zero h = refl
get_front (x ∷ front) rest (suc k) h = get_front front rest k (omega arith)

moved_case : (b : Bool) (p t rest : List ℤ) (x : ℕ) → nat_lt x (length p) ≡ b → get_or (p ++ (t ++ rest)) (if b then x else x + length t) (pos 0) ≡ get_or (p ++ rest) x (pos 0)
moved_case true p t rest x e =
    let h : x < length p = ltb-true x (length p) e in
    get_front p (t ++ rest) x h ∙ sym (get_front p rest x h)
moved_case false p t rest x e =
    let h : length p ≤ x = ltb-false x (length p) e in
    let k : ℕ = x - length p in
    let in_new : x + length t ≡ length p + (length t + k) = omega arith in
    let in_old : x ≡ length p + k = omega arith in
    ap (λ i. get_or (p ++ (t ++ rest)) i (pos 0)) in_new
    ∙ get_behind p (t ++ rest) (length t + k)
    ∙ get_behind t rest k
    ∙ sym (get_behind p rest k)
    ∙ ap (λ i. get_or (p ++ rest) i (pos 0)) (sym in_old)

pub moved_name_is : (p t rest : List ℤ) (x : ℕ) → get_or (p ++ (t ++ rest)) (moved_name (length p) (length t) x) (pos 0) ≡ get_or (p ++ rest) x (pos 0)
moved_name_is p t rest x = moved_case (nat_lt x (length p)) p t rest x refl

module _ (p t rest : List ℤ) where
  abbrev new : List ℤ
  new = p ++ (t ++ rest)

  abbrev old : List ℤ
  old = p ++ rest

  abbrev to_new : Ix → Ix
  to_new = moved (length p) (length t)

  both : (f : ℤ → ℤ → ℤ) (x x' y y' z z' : ℤ) → z ≡ f x y → z' ≡ f x' y' → x ≡ x' → y ≡ y' → z ≡ z'
  both f x x' y y' z z' a b e g = a ∙ ap (λ u. f u y) e ∙ ap (f x') g ∙ sym b

  pub moved_is : (e : Ix) → whole (to_new e) new ≡ whole e old
  moved_is (c.Lit n) = refl
  moved_is (c.Name x) = moved_name_is p t rest x.0
  moved_is (c.Neg' s (more_of-Ix a end_of-Ix)) = ap (λ w. (w new).value) (neg_here whole_step (to_new a)) ∙ ap neg_ℤ (moved_is a)
  moved_is (c.Floord' s (more_of-Ix a end_of-Ix) n) = ap (λ w. (w new).value) (floord_here whole_step (to_new a) n) ∙ ap (λ x. floor_of x n) (moved_is a)
  moved_is (c.Ceild' s (more_of-Ix a end_of-Ix) n) = ap (λ w. (w new).value) (ceild_here whole_step (to_new a) n) ∙ ap (λ x. ceiling_of x n) (moved_is a)
  moved_is (c.Add' s (more_of-Ix a end_of-Ix) t' (more_of-Ix b end_of-Ix)) =
      both ◌+ℤ◌ (whole (to_new a) new) (whole a old) (whole (to_new b) new) (whole b old) _ _ (ap (λ w. (w new).value) (add_here whole_step (to_new a) (to_new b))) refl (moved_is a) (moved_is b)
  moved_is (c.Sub' s (more_of-Ix a end_of-Ix) t' (more_of-Ix b end_of-Ix)) =
      both ◌-ℤ◌ (whole (to_new a) new) (whole a old) (whole (to_new b) new) (whole b old) _ _ (ap (λ w. (w new).value) (sub_here whole_step (to_new a) (to_new b))) refl (moved_is a) (moved_is b)
  moved_is (c.Mul' s (more_of-Ix a end_of-Ix) t' (more_of-Ix b end_of-Ix)) =
      both ◌*ℤ◌ (whole (to_new a) new) (whole a old) (whole (to_new b) new) (whole b old) _ _ (ap (λ w. (w new).value) (mul_here whole_step (to_new a) (to_new b))) refl (moved_is a) (moved_is b)
  moved_is (c.Min' s (more_of-Ix a end_of-Ix) t' (more_of-Ix b end_of-Ix)) =
      both int_min (whole (to_new a) new) (whole a old) (whole (to_new b) new) (whole b old) _ _ (ap (λ w. (w new).value) (min_here whole_step (to_new a) (to_new b))) refl (moved_is a) (moved_is b)
  moved_is (c.Max' s (more_of-Ix a end_of-Ix) t' (more_of-Ix b end_of-Ix)) =
      both int_max (whole (to_new a) new) (whole a old) (whole (to_new b) new) (whole b old) _ _ (ap (λ w. (w new).value) (max_here whole_step (to_new a) (to_new b))) refl (moved_is a) (moved_is b)
  moved_is (c.Mod' s (more_of-Ix a end_of-Ix) t' (more_of-Ix b end_of-Ix)) =
      both remainder_of (whole (to_new a) new) (whole a old) (whole (to_new b) new) (whole b old) _ _ (ap (λ w. (w new).value) (mod_here whole_step (to_new a) (to_new b))) refl (moved_is a) (moved_is b)

  pub moved_are : (es : List Ix) → map (λ e. whole e new) (map to_new es) ≡ map (λ e. whole e old) es
  moved_are [] = refl
  moved_are (e ∷ es) = ap (λ x. x ∷ map (λ e. whole e new) (map to_new es)) (moved_is e) ∙ ap (λ l. whole e old ∷ l) (moved_are es)

  abbrev to_new_value : Val → Val
  to_new_value = moved_value (length p) (length t)

  pub moved_loads : (e : Val) → loads_of_value (to_new_value e) new ≡ loads_of_value e old
  moved_loads (v.Load array subs) = ap (λ l. (array.0, l) ∷ []) (moved_are subs)
  moved_loads (v.Const n) = refl
  moved_loads (v.Cast e) = refl
  moved_loads (v.Not' s (more_of-Val a end_of-Val)) = ap (λ f. f new) (not_here loads_step (to_new_value a)) ∙ moved_loads a
  moved_loads (v.Bin' op s (more_of-Val a end_of-Val) t' (more_of-Val b end_of-Val)) =
      ap (λ f. f new) (bin_here loads_step op (to_new_value a) (to_new_value b))
      ∙ ap (λ l. l ++ loads_of_value (to_new_value b) new) (moved_loads a)
      ∙ ap (λ l. loads_of_value a old ++ l) (moved_loads b)
  moved_loads (v.Shift' left s (more_of-Val a end_of-Val) by) = ap (λ f. f new) (shift_here loads_step left (to_new_value a) by) ∙ moved_loads a

  pub moved_taking : (e : Val) → taking (to_new_value e) new ≡ taking e old
  moved_taking (v.Load array subs) = refl
  moved_taking (v.Const n) = refl
  moved_taking (v.Cast e) = ap {B = Taking} (λ x vs. (converted x, vs)) (moved_is e)
  moved_taking (v.Not' s (more_of-Val a end_of-Val)) = ap (λ f. f new) (not_here taking_step (to_new_value a)) ∙ ap {B = Taking} (λ g vs. taken complement (g vs)) (moved_taking a)
  moved_taking (v.Bin' op s (more_of-Val a end_of-Val) t' (more_of-Val b end_of-Val)) =
      ap (λ f. f new) (bin_here taking_step op (to_new_value a) (to_new_value b))
      ∙ ap {B = Taking} (λ g vs. then_taking (operate op) (g vs) (taking (to_new_value b) new)) (moved_taking a)
      ∙ ap {B = Taking} (λ g vs. then_taking (operate op) (taking a old vs) g) (moved_taking b)
  moved_taking (v.Shift' left s (more_of-Val a end_of-Val) by) =
      ap (λ f. f new) (shift_here taking_step left (to_new_value a) by) ∙ ap {B = Taking} (λ g vs. taken (λ x. shifted left x by) (g vs)) (moved_taking a)

  abbrev moved_assignment : Assignment → Assignment
  moved_assignment a = record { op = a.op; array = a.array; subs = map to_new a.subs; value = to_new_value a.value }

  pub moved_effect : (a : Assignment) → effect_by (Some (moved_assignment a)) new ≡ effect_by (Some a) old
  moved_effect a =
      let stores = ap (λ l. (a.array.0, l)) (moved_are a.subs) in
      let loads = ap (λ (l : List Element). own_load a.op (element new a.array (map to_new a.subs)) ++ l) (moved_loads a.value) ∙ ap (λ x. own_load a.op x ++ loads_of_value a.value old) stores in
      let values = ap {B = List ℕ → ℕ} (λ g vs. combining a.op g vs) (moved_taking a.value) in
      λ i. record { loads = loads i; stores = stores i; value = values i }
