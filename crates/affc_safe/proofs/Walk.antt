-- A run that never overflows and keeps within the extents is stuck, if at all, for want of a value.
use Rattle.std.proofs.Common.{◌≡◌, ℕ, ◌+◌, ◌^◌, ◌<◌, ◌≤◌, ℤ, pos, ◌+ℤ◌, ◌≤ℤ◌, T, Bool, true, false, true≢false, ◌&&◌, if◌then◌else◌, int_lt, IsTrue, List, [], ◌∷◌, ◌++◌, length, get_or, map, flat_map, Option, Some, None, Result, Ok, Err, refl, sym, ap, subst, ◌∙◌, ◌⊎◌, inl, inr, arith}
use Rattle.std.specs.Prelude.{unsigned_abs, slice_get, ◌||◌, nat_lt, nat_le}
use Rattle.std.proofs.lemmas.Bool.{ltb-true, leb-true}
use Rattle.std.proofs.lemmas.Int.{ints}
use Rattle.affc_rows.specs.Forms.{value}
use Rattle.affc_rows.proofs.IntLemmas.{abs-add}
use Rattle.affc_system.specs.Boxes.{InBox}
use Rattle.affc_ast.specs.declared.tree.ArrayId.{ArrayId}
use Rattle.affc_ast.specs.declared.tree.Instance.{Instance}
use Rattle.affc_ast.specs.declared.tree.Ix.{Ix}
use Rattle.affc_ast.specs.declared.tree.Op.{Op}
use Rattle.affc_ast.specs.declared.tree.Program.{Program}
use Rattle.affc_ast.specs.declared.tree.Rel.{Rel}
use Rattle.affc_ast.specs.declared.tree.Stmt.{Stmt}
use Rattle.affc_ast.specs.declared.tree.Stmt.TheVariants as s
use Rattle.affc_ast.specs.declared.tree.Stmt.TheBlock.{Row_of-Stmt, more_of-Stmt, end_of-Stmt}
use Rattle.affc_ast.specs.declared.tree.Val.{Val}
use Rattle.affc_ast.specs.declared.tree.Val.TheVariants as v
use Rattle.affc_ast.specs.declared.tree.Val.TheBlock.{more_of-Val, end_of-Val}
use Rattle.affc_ast.specs.Cause.{Cause, OutOfBounds, ◌>>=◌}
use Rattle.affc_ast.specs.Conditions.{nodes_of_cond, condition}
use Rattle.affc_ast.specs.Fits.{whole, is_true_at, within_ranges}
use Rattle.affc_ast.specs.Index.{index_value, index_values, nodes_of_ix}
use Rattle.affc_ast.specs.Meaning.{State, Ended, Position, reading, begun, write, turns_of, in_order, with_iterator, inside, past, past_all, own_value, assigned, stmt_step, denotation_of}
use Rattle.affc_ast.specs.Recursion.{by_stmt, by_each}
use Rattle.affc_ast.specs.Store.{Element, Store, at}
use Rattle.affc_ast.specs.Trace.{count_from, Assignment, assignments_step, walk_step, in_walk_order, assigns_of, loads_of_value, own_load, element}
use Rattle.affc_ast.specs.Values.{Scope, Sight, deeper, is_within, touch, held, load, value_of, operate, complement, shifted, converted}
use Rattle.affc_ast.proofs.Steps.{row_of, unrolled, flat_unrolled}
use Rattle.affc_trace.specs.Law.{IsIn, Effect}
use Rattle.affc_trace.specs.Laws.{IsUnwritten}
use Rattle.affc_trace.specs.Effects.{effect_by, all_true, plain_step}
use Rattle.affc_trace.proofs.EndedReads.{append_assoc}
use Rattle.affc_trace.proofs.Members.{both_hold, to_first, to_second, to_flat_map}
use Rattle.affc_trace.proofs.Runs.{PartsAt, parts_left, parts_right, part_count, parts_count, walk_count, walks_count, both_true}
use Rattle.affc_trace.proofs.TraceEffects.{effect_in}
use Rattle.affc_domain.specs.Plain.{is_plain, plain_cond}
use Rattle.affc_domain.specs.Ranges.{is_near, number_ranges, range_of}
use Rattle.affc_safe.specs.Overflow.{near_or_never, all_near, near_step, near_ranges, keeps_near, AreReadable, ReadsValue, ReadsAssignment}
use Rattle.affc_domain.proofs.Lists.{true_le}
use Rattle.affc_domain.proofs.PlainLemmas.{is_plain_affine}
use Rattle.affc_domain.proofs.RangeLemmas.{box_length, box_push, in_range, in_ranges}
use Rattle.affc_domain.proofs.TurnLemmas.{turn_goes_on}
use Rattle.affc_safe.proofs.PlainReads.{Near, box_near, near_push, near_between, small_is_int64, plain_reads, plain_cond_reads}
use Rattle.affc_safe.proofs.Wants.{Wants, wants_ended, wants_then, wants_reading, wants_if, wants_turns, bind_to}

-- ---- results that are there, or for which a value is wanting

unfoldable pub Wanting : {A : Type 0} → Result A Cause → Type 0
Wanting (Ok x) = Unit {0}
Wanting (Err cause) = IsUnwritten cause

pub wanting_bind : {A B : Type 0} (r : Result A Cause) (f : A → Result B Cause) → Wanting r → ((x : A) → r ≡ Ok x → Wanting (f x)) → Wanting (r >>= f)
unfolding Wanting
wanting_bind (Ok x) f w h = h x refl
wanting_bind (Err cause) f w h = w

pub wanting_after : {A B : Type 0} (r : Result A Cause) (x : A) (f : A → Result B Cause) → r ≡ Ok x → Wanting (f x) → Wanting (r >>= f)
wanting_after r x f e w = subst (λ q. Wanting (q >>= f)) (sym e) w

from_store : (h : Instance) (n : ℕ) (o : Option ℕ) → Wanting (held h n o)
unfolding Wanting
from_store h n None = tt
from_store h n (Some u) = tt

pub is_ok : {A : Type 0} (x : A) → Wanting (Ok x)
unfolding Wanting
is_ok x = tt

pub touched : (scope : Scope) (here : Instance) (access : ℕ) (array : ArrayId) (xs : List ℤ) → is_within xs (get_or scope.extents array.0 []) ≡ true → touch scope here access array xs ≡ Ok (array.0, xs)
touched scope here access array xs e = ap (λ b. if b then Ok (array.0, xs) else Err (OutOfBounds here access)) e

pub load_wants : (scope : Scope) (store : Store) (here : Instance) (access : ℕ) (array : ArrayId) (xs : List ℤ) → is_within xs (get_or scope.extents array.0 []) ≡ true → Wanting (load scope store here access array xs)
load_wants scope store here access array xs e =
    wanting_after (touch scope here access array xs) (array.0, xs) (λ x. held here access (at store x)) (touched scope here access array xs e) (from_store here access (at store (array.0, xs)))

-- each of these elements lies within its array's extents
abbrev pub AllWithin : List (List ℤ) → List Element → Type 0
AllWithin extents xs = (x : Element) → IsIn x xs → is_within x.1 (get_or extents x.0 []) ≡ true

all_readable : (names : List ℤ) (es : List Ix) → AreReadable es names → (node : ℕ) → index_values es node names ≡ Ok (map (λ e. whole e names) es)
all_readable names [] r node = refl
all_readable names (e ∷ es) r node =
    bind_to (index_value e node names) (whole e names) _ _ (r.0 node)
    (bind_to (index_values es (node + nodes_of_ix e) names) (map (λ e. whole e names) es) _ _ (all_readable names es r.1 (node + nodes_of_ix e)) refl)

read_wants : (e : Val) (s : Sight) → ReadsValue e s.scope.names → AllWithin s.scope.extents (loads_of_value e s.scope.names) → Wanting ((value_of e).value s)
read_wants (v.Load array subs) s r w =
    wanting_after (index_values subs (s.node + 1) s.scope.names) (map (λ e. whole e s.scope.names) subs) (load s.scope s.store s.here s.access array)
    (all_readable s.scope.names subs r (s.node + 1)) (load_wants s.scope s.store s.here s.access array _ (w (element s.scope.names array subs) (inl refl)))
read_wants (v.Const k) s r w = is_ok k
read_wants (v.Cast i) s r w =
    wanting_after (index_value i (s.node + 1) s.scope.names) (whole i s.scope.names) (λ x. Ok (converted x)) (r (s.node + 1)) (is_ok _)
read_wants (v.Not' t (more_of-Val a end_of-Val)) s r w =
    wanting_bind ((value_of a).value (deeper s)) (λ x. Ok (complement x)) (read_wants a (deeper s) r w) (λ y i. is_ok _)
read_wants (v.Shift' left t (more_of-Val a end_of-Val) by) s r w =
    wanting_bind ((value_of a).value (deeper s)) (λ x. Ok (shifted left x by)) (read_wants a (deeper s) r w) (λ y i. is_ok _)
read_wants (v.Bin' op t (more_of-Val a end_of-Val) t' (more_of-Val b end_of-Val)) s r w =
    wanting_bind ((value_of a).value (deeper s)) _ (read_wants a (deeper s) r.0 (λ x i. w x (to_first (loads_of_value a s.scope.names) (loads_of_value b s.scope.names) x i))) (λ x i.
    wanting_bind ((value_of b).value (record s { node = s.node + 1 + (value_of a).nodes; access = s.access + (value_of a).loads })) (λ y. Ok (operate op x y))
    (read_wants b (record s { node = s.node + 1 + (value_of a).nodes; access = s.access + (value_of a).loads }) r.1 (λ x i. w x (to_second (loads_of_value a s.scope.names) (loads_of_value b s.scope.names) x i))) (λ y j. is_ok _))

pub own_wants : (op : Option Op) (scope : Scope) (store : Store) (here : Instance) (array : ArrayId) (xs : List ℤ) → is_within xs (get_or scope.extents array.0 []) ≡ true → Wanting (own_value op scope store here array xs)
own_wants None scope store here array xs e = is_ok 0
own_wants (Some op) scope store here array xs e = load_wants scope store here 0 array xs e

pub done_or_wants : (op : Option Op) (array : ArrayId) (subs : List Ix) (e : Val) (node : ℕ) (scope : Scope) (store : Store) (here : Instance)
    → AreReadable subs scope.names → ReadsValue e scope.names
    → AllWithin scope.extents (loads_of_value e scope.names) → is_within (map (λ e. whole e scope.names) subs) (get_or scope.extents array.0 []) ≡ true
    → Wanting (assigned op array subs e node scope store here)
done_or_wants op array subs e node scope store here h k w o =
    wanting_after (index_values subs (node + 1) scope.names) (map (λ e. whole e scope.names) subs) _ (all_readable scope.names subs h (node + 1))
    (wanting_bind (own_value op scope store here array (map (λ e. whole e scope.names) subs)) _ (own_wants op scope store here array _ o) (λ u i.
    wanting_bind ((value_of e).value _) _ (read_wants e _ k w) (λ x j.
    wanting_after (touch scope here _ array (map (λ e. whole e scope.names) subs)) (array.0, map (λ e. whole e scope.names) subs) _ (touched scope here _ array _ o) (is_ok _))))

pub assign_case : (r : Result (Element × ℕ) Cause) (t : State) → Wanting r → Wants (reading r (begun t) (λ stored. Ended (write stored.0 stored.1 (begun t))))
unfolding Wanting Wants
assign_case (Ok stored) t w = tt
assign_case (Err cause) t w = w

pub own_and : (op : Option Op) (x : Element) (xs : List Element) (y : Element) → IsIn y xs → IsIn y (own_load op x ++ xs)
own_and None x xs y i = i
own_and (Some op) x xs y i = inr i

-- ---- the interval rule at a turn

-- the names that are in sight lie in these ranges, and are near
pub record Sits (ranges : List (ℤ × ℤ)) (names : List ℤ) : Type 0 where
  pub box : InBox ranges names
  pub near : Near names

pub params_sit : (program : Program) (p : List ℤ) → IsTrue (keeps_near program) → IsTrue (within_ranges program.params p) → Sits (number_ranges program.params) p
params_sit program p near within =
    let ranges = number_ranges program.params in
    let few = both_hold (nat_le (length ranges) 16) _ near in
    let small = both_hold (near_ranges ranges) _ few.1 in
    let box : InBox ranges p = in_ranges program.params p within in
    let long : length ranges ≡ length p = box_length ranges p box in
    let least : length ranges ≤ 16 = leb-true (length ranges) 16 few.0 in
    record { box = box; near = record { few = omega arith; each = box_near ranges p box small.0 } }

entered : (r : ℤ × ℤ) (inside : Bool) (x : ℤ) → IsTrue (near_or_never r inside) → r.0 ≤ℤ x → x ≤ℤ r.1 → IsTrue (is_near r.0 && is_near r.1) × IsTrue inside
entered r inside x h l u = chosen (int_lt r.1 r.0) refl h
  where
    not_less : (a b : ℤ) → int_lt b a ≡ true → a ≤ℤ x → x ≤ℤ b → ⊥
    not_less a b e p q = grind (arith, ints)

    chosen : (t : Bool) → int_lt r.1 r.0 ≡ t → IsTrue (t || ((is_near r.0 && is_near r.1) && inside)) → IsTrue (is_near r.0 && is_near r.1) × IsTrue inside
    chosen true e h = absurd (not_less r.0 r.1 e l u)
    chosen false e h = both_hold (is_near r.0 && is_near r.1) inside h

pub step_fits : (y : ℤ) → unsigned_abs y ≤ 2 ^ 31 → unsigned_abs (y +ℤ pos 1) < 2 ^ 63
step_fits y h = let a : unsigned_abs (y +ℤ pos 1) ≤ unsigned_abs y + unsigned_abs (pos 1) = abs-add y (pos 1) in omega (arith, ints)

-- a turn of a loop: its iterator is near, and what is inside keeps near where the names are those with it
pub record Turned (ranges : List (ℤ × ℤ)) (r : ℤ × ℤ) (names : List ℤ) (y : ℤ) (inside : Bool) : Type 0 where
  pub near : unsigned_abs y ≤ 2 ^ 31
  pub sits : Sits (ranges ++ r ∷ []) (names ++ y ∷ [])
  pub inside_near : IsTrue inside

pub turned : (ranges : List (ℤ × ℤ)) (names : List ℤ) (low : Ix) (rel : Rel) (high : Ix) (y : ℤ) (inside : Bool) → Sits ranges names → IsTrue (nat_lt (length ranges) 16)
    → IsTrue (is_plain (length ranges) low) → IsTrue (is_plain (length ranges) high) → IsTrue (near_or_never (range_of ranges low rel high) inside)
    → IsIn y (count_from (turns_of rel (whole low names) (whole high names)) (whole low names)) → Turned ranges (range_of ranges low rel high) names y inside
turned ranges names low rel high y inside sits f l h q i =
    let r = range_of ranges low rel high in
    let g = turn_goes_on rel (whole low names) (whole high names) y i in
    let b = in_range ranges names low rel high y sits.box (is_plain_affine (length ranges) low l) (is_plain_affine (length ranges) high h) (true_le (whole low names) y g.0) g.1 in
    let e = entered r inside y q b.0 b.1 in
    let near : unsigned_abs y ≤ 2 ^ 31 = near_between r.0 r.1 y b.0 b.1 e.0 in
    let few : length ranges < 16 = ltb-true (length ranges) 16 f in
    let long : length ranges ≡ length names = box_length ranges names sits.box in
    record {
      near = near;
      sits = record { box = box_push ranges names r y sits.box b.0 b.1; near = near_push names y sits.near (omega arith) near };
      inside_near = e.1;
    }

pub to_if : (b : Bool) (a : Instance) (is js : List Instance) → b ≡ true → IsIn a is → IsIn a (if b then is else js)
to_if true a is js e i = i
to_if false a is js e i = absurd (true≢false (sym e))

pub to_else : (b : Bool) (a : Instance) (is js : List Instance) → b ≡ false → IsIn a js → IsIn a (if b then is else js)
to_else true a is js e i = absurd (true≢false e)
to_else false a is js e i = i

-- ---- the walk

module _ (all : List Assignment) (p : List ℤ) (extents : List (List ℤ)) where
  abbrev pub EffectKeeps : Effect Element ℕ → Type 0
  EffectKeeps e = (x : Element) → IsIn x e.loads ⊎ (x ≡ e.stores) → is_within x.1 (get_or extents x.0 []) ≡ true

  -- its assignment is read
  abbrev pub IsReadAt : Instance → Type 0
  IsReadAt b = (a : Assignment) → slice_get all b.statement ≡ Some a → ReadsAssignment a (p ++ b.iterators)

  abbrev pub Keep : List Instance → Type 0
  Keep is = (b : Instance) → IsIn b is → EffectKeeps (effect_in all p b) × IsReadAt b

  mutual
    unfolding PartsAt

    stmt_wants : (x : Stmt) (k : ℕ) (ts : List ℤ) (ranges : List (ℤ × ℤ)) → T (by_stmt plain_step x) → IsTrue (by_stmt near_step x ranges) → PartsAt all k (by_stmt assignments_step x)
        → Keep ((by_stmt (walk_step p) x).instances k ts)
        → (place : Position) (scope : Scope) (t : State) → Sits ranges scope.names → scope.names ≡ p ++ ts → scope.extents ≡ extents → Wants ((denotation_of x).run place scope t)
    stmt_wants (s.For' iter low rel high shape body) k ts ranges bare small parts keep place scope t sits n x =
        let f = both_hold (nat_lt (length ranges) 16) _ small in
        let a = both_hold (is_plain (length ranges) low) _ f.1 in
        let c = both_hold (is_plain (length ranges) high) _ a.1 in
        let r : ℤ × ℤ = range_of ranges low rel high in
        let l : length ranges ≡ length scope.names = box_length ranges scope.names sits.box in
        wants_reading (index_value low (place.node + 1) scope.names) (whole low scope.names) t _ (plain_reads (length ranges) scope.names low l sits.near a.0 (place.node + 1))
        (wants_reading (index_value high (place.node + 1 + nodes_of_ix low) scope.names) (whole high scope.names) t _ (plain_reads (length ranges) scope.names high l sits.near c.0 (place.node + 1 + nodes_of_ix low))
        (wants_turns (turns_of rel (whole low scope.names) (whole high scope.names)) place.node (whole low scope.names) _ t
        (λ y i. small_is_int64 (y +ℤ pos 1) (step_fits y (turned ranges scope.names low rel high y (all_near (by_each near_step body) (ranges ++ r ∷ [])) sits f.0 a.0 c.0 c.1 i).near))
        (λ y u i.
        let turn = turned ranges scope.names low rel high y (all_near (by_each near_step body) (ranges ++ r ∷ [])) sits f.0 a.0 c.0 c.1 i in
        row_wants body k (ts ++ y ∷ []) (ranges ++ r ∷ []) bare turn.inside_near parts
        (λ b j. keep b (to_flat_map (λ z. in_walk_order (by_each (walk_step p) body) k (ts ++ z ∷ [])) (count_from (turns_of rel (whole low (p ++ ts)) (whole high (p ++ ts))) (whole low (p ++ ts))) y b
        (subst (λ m. IsIn y (count_from (turns_of rel (whole low m) (whole high m)) (whole low m))) n i) j))
        (inside place (1 + nodes_of_ix low + nodes_of_ix high)) (with_iterator scope y) u turn.sits (ap (λ m. m ++ y ∷ []) n ∙ append_assoc p ts (y ∷ [])) x)))
    stmt_wants (s.If' cond shape body shape' other) k ts ranges bare small parts keep place scope t sits n x =
        let both = both_true (all_true (by_each plain_step body)) (all_true (by_each plain_step other)) bare in
        let a = both_hold (plain_cond (length ranges) cond) _ small in
        let q = both_hold (all_near (by_each near_step body) ranges) (all_near (by_each near_step other) ranges) a.1 in
        let l : length ranges ≡ length scope.names = box_length ranges scope.names sits.box in
        let first : List Assignment = flat_map (λ a. a) (by_each assignments_step body) in
        let second : List Assignment = flat_map (λ a. a) (by_each assignments_step other) in
        let more : ℕ = k + assigns_of (by_each (walk_step p) body) in
        let right : PartsAt all more second = subst (λ m. PartsAt all (k + m) second) (sym (walks_count p body ∙ parts_count body)) (parts_right all k first second parts) in
        let here : is_true_at cond (p ++ ts) ≡ is_true_at cond scope.names = ap (is_true_at cond) (sym n) in
        wants_reading (condition cond (place.node + 1) scope.names) (is_true_at cond scope.names) t _ (plain_cond_reads (length ranges) scope.names cond l sits.near a.0 (place.node + 1))
        (wants_if (is_true_at cond scope.names) _ _
        (λ e.
        row_wants body k ts ranges both.0 q.0 (parts_left all k first second parts) (λ b j. keep b (to_if (is_true_at cond (p ++ ts)) b _ _ (here ∙ e) j))
        (inside place (1 + nodes_of_cond cond)) scope t sits n x)
        (λ e.
        row_wants other more ts ranges both.1 q.1 right (λ b j. keep b (to_else (is_true_at cond (p ++ ts)) b _ _ (here ∙ e) j))
        (past_all (by_each stmt_step body) (inside place (1 + nodes_of_cond cond))) scope t sits n x))
    stmt_wants (s.Assign op array subs value) k ts ranges bare small parts keep place scope t sits n x =
        let a : Assignment = record { op = op; array = array; subs = subs; value = value } in
        let z : k + 0 ≡ k = omega arith in
        let found : slice_get all k ≡ Some a = ap (slice_get all) (sym z) ∙ parts 0 a refl in
        let mine : EffectKeeps (effect_by (slice_get all k) (p ++ ts)) = (keep (record { statement = k; iterators = ts }) (inl refl)).0 in
        let read : ReadsAssignment a scope.names = subst (ReadsAssignment a) (sym n) ((keep (record { statement = k; iterators = ts }) (inl refl)).1 a found) in
        let here : EffectKeeps (effect_by (Some a) scope.names) = subst (λ m. EffectKeeps (effect_by (Some a) m)) (sym n) (subst (λ o. EffectKeeps (effect_by o (p ++ ts))) found mine) in
        let loads : AllWithin scope.extents (loads_of_value value scope.names) =
        subst (λ es. AllWithin es (loads_of_value value scope.names)) (sym x) (λ y i. here y (inl (own_and op (element scope.names array subs) (loads_of_value value scope.names) y i))) in
        let store : is_within (map (λ e. whole e scope.names) subs) (get_or scope.extents array.0 []) ≡ true =
        ap (λ es. is_within (map (λ e. whole e scope.names) subs) (get_or es array.0 [])) x ∙ here (element scope.names array subs) (inr refl) in
        assign_case _ t (done_or_wants op array subs value place.node scope t.store _ read.subs read.value loads store)
    stmt_wants (s.Block' [] shape body) k ts ranges bare small parts keep place scope t sits n x = row_wants body k ts ranges bare small parts keep _ scope t sits n x
    stmt_wants (s.Block' (l ∷ ls) shape body) k ts ranges bare small parts keep place scope t sits n x = absurd bare

    row_wants : {m : _} (body : Row_of-Stmt m) (k : ℕ) (ts : List ℤ) (ranges : List (ℤ × ℤ)) → T (all_true (by_each plain_step body)) → IsTrue (all_near (by_each near_step body) ranges)
        → PartsAt all k (flat_map (λ a. a) (by_each assignments_step body)) → Keep (in_walk_order (by_each (walk_step p) body) k ts)
        → (place : Position) (scope : Scope) (t : State) → Sits ranges scope.names → scope.names ≡ p ++ ts → scope.extents ≡ extents → Wants (in_order (by_each stmt_step body) place scope t)
    row_wants end_of-Stmt k ts ranges bare small parts keep place scope t sits n x = wants_ended t
    row_wants (more_of-Stmt first rest) k ts ranges bare small parts keep place scope t sits n x =
        let both = both_true (by_stmt plain_step first) (all_true (by_each plain_step rest)) bare in
        let q = both_hold (by_stmt near_step first ranges) (all_near (by_each near_step rest) ranges) small in
        let others : List Assignment = flat_map (λ a. a) (by_each assignments_step rest) in
        let right : PartsAt all (k + (by_stmt (walk_step p) first).assigns) others =
        subst (λ m. PartsAt all (k + m) others) (sym (walk_count p first ∙ part_count first)) (parts_right all k (by_stmt assignments_step first) others parts) in
        wants_then ((denotation_of first).run place scope t) _
        (stmt_wants first k ts ranges both.0 q.0 (parts_left all k _ others parts) (λ b j. keep b (to_first _ _ b j)) place scope t sits n x)
        (λ u. row_wants rest (k + (by_stmt (walk_step p) first).assigns) ts ranges both.1 q.1 right (λ b j. keep b (to_second ((by_stmt (walk_step p) first).instances k ts) _ b j)) (past (denotation_of first) place) scope u sits n x)

  pub list_wants : (body : List Stmt) (k : ℕ) (ts : List ℤ) (ranges : List (ℤ × ℤ)) → T (all_true (map (by_stmt plain_step) body)) → IsTrue (all_near (map (by_stmt near_step) body) ranges)
      → PartsAt all k (flat_map (by_stmt assignments_step) body) → Keep (in_walk_order (map (by_stmt (walk_step p)) body) k ts)
      → (place : Position) (scope : Scope) (t : State) → Sits ranges scope.names → scope.names ≡ p ++ ts → scope.extents ≡ extents → Wants (in_order (map denotation_of body) place scope t)
  list_wants body k ts ranges bare near parts keep place scope t sits n x =
      subst (λ ps. Wants (in_order ps place scope t)) (sym (unrolled stmt_step body))
      (row_wants (row_of body) k ts ranges (subst (λ bs. T (all_true bs)) (unrolled plain_step body) bare) (subst (λ fs. IsTrue (all_near fs ranges)) (unrolled near_step body) near)
      (subst (PartsAt all k) (flat_unrolled assignments_step body) parts) (subst (λ ws. Keep (in_walk_order ws k ts)) (unrolled (walk_step p) body) keep) place scope t sits n x)
