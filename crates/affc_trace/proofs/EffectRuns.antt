-- A run against the effects of a program: what it has stored where it ends, and that an effect finds no value where it is stuck for want of one.
use Rattle.std.proofs.Common.{◌≡◌, ℕ, zero, suc, ◌+◌, ℤ, pos, ◌+ℤ◌, T, Bool, true, false, if◌then◌else◌, cond, int_lt, List, [], ◌∷◌, ◌++◌, length, Option, Some, None, Result, Ok, Err, map, flat_map, refl, sym, ap, subst, ◌∙◌, inl, inr}
use Rattle.std.specs.Ordering.{eq_by_cmp}
use Rattle.std.specs.FinMap.Entries.{find-put, is_sorted, is_sorted-put}
use Rattle.affc_ast.specs.declared.tree.Instance.{Instance}
use Rattle.affc_ast.specs.declared.tree.Op.{Op}
use Rattle.affc_ast.specs.declared.tree.ArrayId.{ArrayId}
use Rattle.affc_ast.specs.declared.tree.Cond.{Cond}
use Rattle.affc_ast.specs.declared.tree.Cond.TheVariants as d
use Rattle.affc_ast.specs.declared.tree.Cond.TheBlock.{Row_of-Cond, more_of-Cond, end_of-Cond}
use Rattle.affc_ast.specs.declared.tree.Decl.{Decl}
use Rattle.affc_ast.specs.declared.tree.Local.{Local}
use Rattle.affc_ast.specs.declared.tree.Ix.{Ix}
use Rattle.affc_ast.specs.declared.tree.Val.{Val}
use Rattle.affc_ast.specs.declared.tree.Program.{Program}
use Rattle.affc_ast.specs.declared.tree.Stmt.{Stmt}
use Rattle.affc_ast.specs.declared.tree.Stmt.TheVariants as s
use Rattle.affc_ast.specs.declared.tree.Stmt.TheBlock.{Row_of-Stmt, more_of-Stmt, end_of-Stmt}
use Rattle.affc_ast.specs.Store.{Element, Store, at, element_cmp}
use Rattle.affc_ast.specs.Cause.{Cause, Extent, Overflow, OutOfBounds, Unwritten, ◌>>=◌}
use Rattle.affc_ast.specs.Conditions.{all_read, some_read, reading_step, condition}
use Rattle.affc_ast.specs.Index.{in_int64, index_value, index_values, nodes_of_ix}
use Rattle.affc_ast.specs.Values.{Scope, load, touch, value_of}
use Rattle.affc_ast.specs.Meaning.{State, Outcome, Ended, Stuck, Position, then_do, reading, begun, write, past, in_order, with_iterator, with_local, inside, past_all, turns_of, turns, with_locals, assigned, stmt_step, denotation_of, extents_of, all_extents, arrays_of, meaning}
use Rattle.affc_ast.specs.Fits.{whole}
use Rattle.affc_ast.specs.Trace.{count_from, loads_of_value, element}
use Rattle.affc_ast.specs.Recursion.{by_entries, by_stmt, by_each}
use Rattle.affc_trace.specs.Law.{Effect, or_else, and_then, last_at, held, all_held, both_of, stores_of}
use Rattle.affc_trace.specs.Dataflow.{same_element}
use Rattle.affc_trace.specs.Effects.{effect_by, with_all, each_of, effects_step, effects}
use Rattle.affc_trace.proofs.LastStores.{append_nil, get, IsSome}
use Rattle.affc_ast.proofs.ConditionReadings.{condition_is_true}
use Rattle.affc_trace.proofs.EndedReads.{append_assoc, ok_if, is_whole, are_whole, assigns}
use Rattle.affc_trace.proofs.Runs.{stores_append, stores_one, all_held_same, last_at_push, one_entry, element_cmp_total}
use Rattle.affc_trace.proofs.Unwritten.{IsOther, Fine, fine_bind, fine_if, bind_err, not_err, not_fine, both_right, load_none, none_append, append_none, index_fine, indices_fine, value_unwritten}

assigned_unwritten : (op : Option Op) (array : ArrayId) (subs : List Ix) (e : Val) (node : ℕ) (scope : Scope) (store : Store) (here : Instance) (i : Instance) (a : ℕ)
    → assigned op array subs e node scope store here ≡ Err (Unwritten i a)
    → all_held (at store) (effect_by (Some (record { op = op; array = array; subs = subs; value = e })) scope.names).loads ≡ None
assigned_unwritten None array subs e node scope store here i a h =
    elim (bind_err (index_values subs (node + 1) scope.names) _ _ h) [
      | inl q ↦ not_fine (index_values subs (node + 1) scope.names) i a (indices_fine subs scope.names _) q
      | inr q ↦ elim (bind_err ((value_of e).value _) _ _ q.2) [
        | inl r ↦ value_unwritten e _ i a r
        | inr r ↦ elim (bind_err (touch scope here _ array q.0) _ _ r.2) [
          | inl u ↦ not_fine (touch scope here _ array q.0) i a (fine_if _ _ (OutOfBounds here _) tt) u
          | inr u ↦ not_err _ _ u.2
        ]
      ]
    ]
assigned_unwritten (Some op) array subs e node scope store here i a h =
    elim (bind_err (index_values subs (node + 1) scope.names) _ _ h) [
      | inl q ↦ not_fine (index_values subs (node + 1) scope.names) i a (indices_fine subs scope.names _) q
      | inr q ↦ elim (bind_err (load scope store here 0 array q.0) _ _ q.2) [
        | inl o ↦ ap (λ o. both_of o (all_held (at store) (loads_of_value e scope.names)))
            (ap (λ l. at store (array.0, l)) (are_whole subs scope.names _ q.0 q.1) ∙ load_none scope store here 0 array q.0 i a o)
        | inr o ↦ elim (bind_err ((value_of e).value _) _ _ o.2) [
          | inl r ↦ ap (both_of (at store (element scope.names array subs))) (value_unwritten e _ i a r) ∙ both_right _
          | inr r ↦ elim (bind_err (touch scope here _ array q.0) _ _ r.2) [
            | inl u ↦ not_fine (touch scope here _ array q.0) i a (fine_if _ _ (OutOfBounds here _) tt) u
            | inr u ↦ not_err _ _ u.2
          ]
        ]
      ]
    ]

fine_either : (t : Bool) (r s : Result Bool Cause) → Fine r → Fine s → Fine (if t then r else s)
fine_either true r s f g = f
fine_either false r s f g = g

module _ (names : List ℤ) where
  mutual
    condition_fine : (x : Cond) (node : ℕ) → Fine (condition x node names)
    condition_fine (d.Compare rel left right) node =
        fine_bind (index_value left (node + 1) names) _ (index_fine left names _) (λ x.
        fine_bind (index_value right (node + 1 + nodes_of_ix left) names) _ (index_fine right names _) (λ y. tt))
    condition_fine (d.All' shape entries) node = all_entries_fine entries (node + 1)
    condition_fine (d.Any' shape entries) node = some_entry_fine entries (node + 1)
    condition_fine (d.Divides value by so) node = fine_bind (index_value value (node + 1) names) _ (index_fine value names _) (λ x. tt)

    all_entries_fine : {n : _} (entries : Row_of-Cond n) (node : ℕ) → Fine (all_read (by_entries reading_step entries) node names)
    all_entries_fine end_of-Cond node = tt
    all_entries_fine (more_of-Cond x rest) node = fine_bind (condition x node names) _ (condition_fine x node) (λ b. fine_either b _ (Ok false) (all_entries_fine rest _) tt)

    some_entry_fine : {n : _} (entries : Row_of-Cond n) (node : ℕ) → Fine (some_read (by_entries reading_step entries) node names)
    some_entry_fine end_of-Cond node = tt
    some_entry_fine (more_of-Cond x rest) node = fine_bind (condition x node names) _ (condition_fine x node) (λ b. fine_either b (Ok true) _ tt (some_entry_fine rest _))

reading_bind : {A B : Type 0} (r : Result A Cause) (f : A → Result B Cause) (t : State) (next : B → Outcome) → reading (r >>= f) t next ≡ reading r t (λ x. reading (f x) t next)
reading_bind (Ok x) f t next = refl
reading_bind (Err cause) f t next = refl

module _ (start : Element → Option ℕ) where
  unfoldable pub Agrees : State → Type 0
  Agrees t = (x : Element) → at t.store x ≡ held same_element start t.written x

  pub record Does (t : State) (is : List (Effect Element ℕ)) (t' : State) : Type 0 where
    pub new : List (Element × ℕ)
    pub run : stores_of same_element start t.written is ≡ Some new
    pub written : t'.written ≡ t.written ++ new
    pub agrees : Agrees t'
    pub sorted : T (is_sorted element_cmp t.store) → T (is_sorted element_cmp t'.store)

  -- how a part of a run stands to these effects
  unfoldable pub Ran : State → List (Effect Element ℕ) → Outcome → Type 0
  Ran t is (Ended t') = Does t is t'
  Ran t is (Stuck (Unwritten i a) n) = stores_of same_element start t.written is ≡ None
  Ran t is (Stuck (Extent a) n) = Unit {0}
  Ran t is (Stuck (Overflow m) n) = Unit {0}
  Ran t is (Stuck (OutOfBounds i a) n) = Unit {0}

  does_nothing : (t : State) → Agrees t → Does t [] t
  does_nothing t a = record { new = []; run = refl; written = sym (append_nil t.written); agrees = a; sorted = λ h. h }

  ran_nothing : (t : State) → Agrees t → Ran t [] (Ended t)
  unfolding Ran
  ran_nothing t a = does_nothing t a

  ran_after : (t t' : State) (is js : List (Effect Element ℕ)) → Does t is t' → (o : Outcome) → Ran t' js o → Ran t (is ++ js) o
  unfolding Ran
  ran_after t t' is js a (Ended t'') b = record {
    new = a.new ++ b.new;
    run = stores_append same_element start t.written a.new is js b.new a.run
        (subst (λ w. stores_of same_element start w js ≡ Some b.new) a.written b.run);
    written = b.written ∙ ap (λ w. w ++ b.new) a.written ∙ append_assoc t.written a.new b.new;
    agrees = b.agrees;
    sorted = λ h. b.sorted (a.sorted h);
  }
  ran_after t t' is js a (Stuck (Unwritten i x) n) b =
      append_none same_element start t.written a.new is js a.run (subst (λ w. stores_of same_element start w js ≡ None) a.written b)
  ran_after t t' is js a (Stuck (Extent x) n) b = tt
  ran_after t t' is js a (Stuck (Overflow x) n) b = tt
  ran_after t t' is js a (Stuck (OutOfBounds i x) n) b = tt

  ran_then : (t : State) (is js : List (Effect Element ℕ)) (f : State → Outcome) (o : Outcome) → Ran t is o → ((t' : State) → Agrees t' → Ran t' js (f t')) → Ran t (is ++ js) (then_do o f)
  unfolding Ran
  ran_then t is js f (Ended t') r h = ran_after t t' is js r (f t') (h t' r.agrees)
  ran_then t is js f (Stuck (Unwritten i x) n) r h = none_append same_element start is js t.written r
  ran_then t is js f (Stuck (Extent x) n) r h = tt
  ran_then t is js f (Stuck (Overflow x) n) r h = tt
  ran_then t is js f (Stuck (OutOfBounds i x) n) r h = tt

  ran_reading : {A : Type 0} (t u : State) (is : List (Effect Element ℕ)) (f : A → Outcome) (r : Result A Cause) → Fine r → ((x : A) → r ≡ Ok x → Ran t is (f x)) → Ran t is (reading r u f)
  unfolding Ran
  ran_reading t u is f (Ok x) fine h = h x refl
  ran_reading t u is f (Err (Unwritten i x)) fine h = absurd fine
  ran_reading t u is f (Err (Extent x)) fine h = tt
  ran_reading t u is f (Err (Overflow x)) fine h = tt
  ran_reading t u is f (Err (OutOfBounds i x)) fine h = tt

  ran_at : (t : State) (is js : List (Effect Element ℕ)) (o : Outcome) → is ≡ js → Ran t is o → Ran t js o
  ran_at t is js o e r = subst (λ l. Ran t l o) e r

  ran_step : (t : State) (is : List (Effect Element ℕ)) (o : Outcome) → Ran (begun t) is o → Ran t is o
  unfolding Ran
  ran_step t is (Ended t') d = record { new = d.new; run = d.run; written = d.written; agrees = d.agrees; sorted = d.sorted }
  ran_step t is (Stuck (Unwritten i x) n) d = d
  ran_step t is (Stuck (Extent x) n) d = tt
  ran_step t is (Stuck (Overflow x) n) d = tt
  ran_step t is (Stuck (OutOfBounds i x) n) d = tt

  ran_turns : (count node : ℕ) (x : ℤ) (body : ℤ → State → Outcome) (f : ℤ → List (Effect Element ℕ)) (t : State)
      → ((y : ℤ) (u : State) → Agrees u → Ran u (f y) (body y u)) → Agrees t → Ran t (flat_map f (count_from count x)) (turns node count x body t)
  unfolding Agrees
  ran_turns zero node x body f t h a = ran_nothing t a
  ran_turns (suc n) node x body f t h a =
      ran_then t (f x) (flat_map f (count_from n (x +ℤ pos 1))) _ (body x (begun t)) (ran_step t (f x) _ (h x (begun t) a)) (λ t' a'.
      ran_reading t' t' (flat_map f (count_from n (x +ℤ pos 1))) _ (in_int64 node (x +ℤ pos 1)) (fine_if _ _ (Overflow node) tt) (λ y e.
      subst (λ z. Ran t' (flat_map f (count_from n (x +ℤ pos 1))) (turns node n z body t')) (ok_if _ _ _ _ e)
      (ran_turns n node (x +ℤ pos 1) body f t' h a')))

  ran_locals : (ls : List Local) (node : ℕ) (scope : Scope) (t : State) (next : Scope → Outcome) (k : List ℤ → List (Effect Element ℕ))
      → ((inner : Scope) → Ran t (k inner.names) (next inner)) → Ran t (k (with_all ls scope.names)) (reading (with_locals ls node scope) t next)
  ran_locals [] node scope t next k h = h scope
  ran_locals (l ∷ ls) node scope t next k h =
      subst (Ran t (k (with_all (l ∷ ls) scope.names))) (sym (reading_bind (index_value l.value node scope.names) _ t next))
      (ran_reading t t _ _ (index_value l.value node scope.names) (index_fine l.value scope.names node) (λ x e.
      subst (λ z. Ran t (k (with_all ls (scope.names ++ z ∷ []))) (reading (with_locals ls (node + nodes_of_ix l.value) (with_local scope x)) t next)) (sym (is_whole l.value scope.names node x e))
      (ran_locals ls (node + nodes_of_ix l.value) (with_local scope x) t next k h)))

  written_cases : (b : Bool) (v : ℕ) (o l s : Option ℕ) → o ≡ or_else l s → cond b (Some v) o ≡ or_else (or_else (if b then Some v else None) l) s
  written_cases true v o l s e = refl
  written_cases false v o l s e = e

  agrees_write : (t : State) (x : Element) (v : ℕ) → Agrees t → Agrees (write x v t)
  unfolding Agrees
  agrees_write t x v a y =
      find-put element_cmp element_cmp_total y x v t.store
      ∙ written_cases (eq_by_cmp element_cmp y x) v (at t.store y) (last_at same_element y t.written) (start y) (a y)
      ∙ ap (λ o. or_else o (start y)) (sym (last_at_push same_element y t.written (x, v)))

  none_one : (w : List (Element × ℕ)) (d : Effect Element ℕ) → all_held (held same_element start w) d.loads ≡ None → stores_of same_element start w (d ∷ []) ≡ None
  none_one w d e =
      ap (λ o. and_then o (λ vs. let e : Element × ℕ = (d.stores, d.value vs) in
      and_then (stores_of same_element start (w ++ e ∷ []) []) (λ es. Some (e ∷ es)))) e

  ran_assign : (op : Option Op) (array : ArrayId) (subs : List Ix) (e : Val) (node : ℕ) (scope : Scope) (here : Instance) (t : State) → Agrees t
      → (r : Result (Element × ℕ) Cause) → assigned op array subs e node scope t.store here ≡ r
      → Ran t (effect_by (Some (record { op = op; array = array; subs = subs; value = e })) scope.names ∷ []) (reading r (begun t) (λ stored. Ended (write stored.0 stored.1 (begun t))))
  unfolding Agrees Ran
  ran_assign op array subs e node scope here t g (Ok stored) k =
      let d : Effect Element ℕ = effect_by (Some (record { op = op; array = array; subs = subs; value = e })) scope.names in
      let h = assigns op array subs e node scope t.store here stored k in
      record {
        new = stored ∷ [];
        run = stores_one same_element start t.written d h.0 (sym (all_held_same (at t.store) (held same_element start t.written) g d.loads) ∙ h.1)
            ∙ ap (λ x. one_entry x (d.value h.0)) h.2 ∙ ap (one_entry stored.0) h.3;
        written = refl;
        agrees = agrees_write (begun t) stored.0 stored.1 g;
        sorted = λ s. is_sorted-put element_cmp element_cmp_total stored.0 stored.1 t.store s;
      }
  ran_assign op array subs e node scope here t g (Err (Unwritten i x)) k =
      let d : Effect Element ℕ = effect_by (Some (record { op = op; array = array; subs = subs; value = e })) scope.names in
      none_one t.written d (sym (all_held_same (at t.store) (held same_element start t.written) g d.loads) ∙ assigned_unwritten op array subs e node scope t.store here i x k)
  ran_assign op array subs e node scope here t g (Err (Extent x)) k = tt
  ran_assign op array subs e node scope here t g (Err (Overflow x)) k = tt
  ran_assign op array subs e node scope here t g (Err (OutOfBounds i x)) k = tt

  ran_if : (b : Bool) (t : State) (is js : List (Effect Element ℕ)) (o u : Outcome) → Ran t is o → Ran t js u → Ran t (if b then is else js) (if b then o else u)
  ran_if true t is js o u r s = r
  ran_if false t is js o u r s = s

  mutual
    pub stmt_ran : (x : Stmt) (place : Position) (scope : Scope) (t : State) → Agrees t → Ran t (by_stmt effects_step x scope.names) ((denotation_of x).run place scope t)
    stmt_ran (s.For' iter low rel high shape body) place scope t a =
        let f : ℤ → List (Effect Element ℕ) = λ x. each_of (by_each effects_step body) (scope.names ++ x ∷ []) in
        ran_reading t t _ _ (index_value low (place.node + 1) scope.names) (index_fine low scope.names _) (λ first e.
        ran_reading t t _ _ (index_value high (place.node + 1 + nodes_of_ix low) scope.names) (index_fine high scope.names _) (λ last k.
        ran_at t (flat_map f (count_from (turns_of rel first last) first)) _ _
        (ap (λ z. flat_map f (count_from (turns_of rel first z) first)) (sym (is_whole high scope.names _ last k))
        ∙ ap (λ y. flat_map f (count_from (turns_of rel y (whole high scope.names)) y)) (sym (is_whole low scope.names _ first e)))
        (ran_turns (turns_of rel first last) place.node first _ f t (λ y u g. body_ran body (inside place _) (with_iterator scope y) u g) a)))
    stmt_ran (s.If' cond shape body shape' other) place scope t a =
        let is = each_of (by_each effects_step body) scope.names in
        let js = each_of (by_each effects_step other) scope.names in
        ran_reading t t _ _ (condition cond (place.node + 1) scope.names) (condition_fine scope.names cond _) (λ b e.
        ran_at t (if b then is else js) _ _ (ap (λ c. if c then is else js) (sym (condition_is_true cond scope.names _ b e)))
        (ran_if b t is js _ _ (body_ran body (inside place _) scope t a) (body_ran other (past_all (by_each stmt_step body) (inside place _)) scope t a)))
    stmt_ran (s.Assign op array subs value) place scope t a =
        ran_assign op array subs value place.node scope _ t a _ refl
    stmt_ran (s.Block' locals shape body) place scope t a =
        ran_locals locals (place.node + 1) scope t _ (each_of (by_each effects_step body)) (λ inner. body_ran body (inside place _) inner t a)

    pub body_ran : {n : _} (body : Row_of-Stmt n) (place : Position) (scope : Scope) (t : State) → Agrees t
        → Ran t (each_of (by_each effects_step body) scope.names) (in_order (by_each stmt_step body) place scope t)
    body_ran end_of-Stmt place scope t a = ran_nothing t a
    body_ran (more_of-Stmt x rest) place scope t a =
        ran_then t (by_stmt effects_step x scope.names) (each_of (by_each effects_step rest) scope.names) _ ((denotation_of x).run place scope t)
        (stmt_ran x place scope t a) (λ t' a'. body_ran rest (past (denotation_of x) place) scope t' a')

  stmts_ran : (body : List Stmt) (place : Position) (scope : Scope) (t : State) → Agrees t
      → Ran t (each_of (map (by_stmt effects_step) body) scope.names) (in_order (map denotation_of body) place scope t)
  stmts_ran [] place scope t a = ran_nothing t a
  stmts_ran (x ∷ rest) place scope t a =
      ran_then t (by_stmt effects_step x scope.names) (each_of (map (by_stmt effects_step) rest) scope.names) _ ((denotation_of x).run place scope t)
      (stmt_ran x place scope t a) (λ t' a'. stmts_ran rest (past (denotation_of x) place) scope t' a')

extents_fine : (es : List Ix) (array node : ℕ) (names : List ℤ) → Fine (extents_of array es node names)
extents_fine [] array node names = tt
extents_fine (e ∷ es) array node names =
    fine_bind (index_value e node names) _ (index_fine e names node) (λ n.
    fine_bind _ _ (fine_else (int_lt n (pos 1)) array _ (extents_fine es array _ names)) (λ ns. tt))
  where
    fine_else : (t : Bool) (array : ℕ) (r : Result (List ℤ) Cause) → Fine r → Fine (if t then Err (Extent array) else r)
    fine_else true array r f = tt
    fine_else false array r f = f

all_fine : (ds : List Decl) (array node : ℕ) (names : List ℤ) → Fine (all_extents array ds node names)
all_fine [] array node names = tt
all_fine (d ∷ ds) array node names =
    fine_bind (extents_of array d.extents node names) _ (extents_fine d.extents array node names) (λ n.
    fine_bind (all_extents (array + 1) ds _ names) _ (all_fine ds (array + 1) _ names) (λ ns. tt))

-- a program's run against its effects
pub run_of_effects : (program : Program) (p : List ℤ) (store : Store)
    → Ran (at store) (record { store = store; written = []; steps = 0 }) (effects program p) (meaning program p store)
unfolding Agrees
run_of_effects program p store =
    let start : State = record { store = store; written = []; steps = 0 } in
    ran_reading (at store) start start _ _ (all_extents 0 (arrays_of program.params) 0 p) (all_fine (arrays_of program.params) 0 0 p) (λ given e.
    ran_reading (at store) start start _ _ (all_extents (length (arrays_of program.params)) program.temps _ p) (all_fine program.temps _ _ p) (λ own k.
    stmts_ran (at store) program.body _ _ start (λ x. refl)))

-- where no other cause stops it, a program whose effects find their values ends, and has stored what they store
pub ends : (program : Program) (p : List ℤ) (store : Store) (es : List (Element × ℕ))
    → stores_of same_element (at store) [] (effects program p) ≡ Some es
    → ((cause : Cause) (n : ℕ) → meaning program p store ≡ Stuck cause n → ¬ (IsOther cause))
    → (t : State) × (meaning program p store ≡ Ended t) × (t.written ≡ es)
unfolding Ran
ends program p store es e h = ended (meaning program p store) refl (run_of_effects program p store)
  where
    ended : (o : Outcome) → meaning program p store ≡ o → Ran (at store) (record { store = store; written = []; steps = 0 }) (effects program p) o
        → (t : State) × (meaning program p store ≡ Ended t) × (t.written ≡ es)
    ended (Ended t) k r = (t, k, r.written ∙ ap (get []) (sym r.run ∙ e))
    ended (Stuck (Unwritten i x) n) k r = absurd (subst IsSome (sym e ∙ r) tt)
    ended (Stuck (Extent x) n) k r = absurd (h _ n k tt)
    ended (Stuck (Overflow x) n) k r = absurd (h _ n k tt)
    ended (Stuck (OutOfBounds i x) n) k r = absurd (h _ n k tt)
