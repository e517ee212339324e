-- A run goes along its instances to the first fault.
use Rattle.std.proofs.Common.{◌≡◌, ℕ, ◌+◌, ℤ, pos, ◌+ℤ◌, T, if◌then◌else◌, IsTrue, List, [], ◌∷◌, ◌++◌, length, map, flat_map, Some, refl, sym, ap, subst, ◌∙◌, inl, arith}
use Rattle.std.specs.Prelude.{slice_get, nat_lt}
use Rattle.affc_ast.specs.declared.tree.Instance.{Instance}
use Rattle.affc_ast.specs.declared.tree.Stmt.{Stmt}
use Rattle.affc_ast.specs.declared.tree.Stmt.TheVariants as s
use Rattle.affc_ast.specs.declared.tree.Stmt.TheBlock.{Row_of-Stmt, more_of-Stmt, end_of-Stmt}
use Rattle.affc_ast.specs.Conditions.{nodes_of_cond, condition}
use Rattle.affc_ast.specs.Fits.{whole, is_true_at}
use Rattle.affc_ast.specs.Index.{index_value, nodes_of_ix}
use Rattle.affc_ast.specs.Meaning.{State, Outcome, Position, assigns_in, turns_of, in_order, with_iterator, inside, past, past_all, assigned, stmt_step, denotation_of}
use Rattle.affc_ast.specs.Recursion.{by_stmt, by_each}
use Rattle.affc_ast.specs.Store.{Element}
use Rattle.affc_ast.specs.Trace.{count_from, Assignment, assignments_step, walk_step, in_walk_order, assigns_of}
use Rattle.affc_ast.specs.Values.{Scope}
use Rattle.affc_ast.proofs.Steps.{row_of, unrolled, flat_unrolled}
use Rattle.affc_trace.specs.Law.{IsIn, Effect}
use Rattle.affc_trace.specs.Effects.{effect_by, all_true, plain_step}
use Rattle.affc_trace.proofs.EndedReads.{append_assoc}
use Rattle.affc_trace.proofs.Members.{both_hold, to_first, to_second, to_flat_map}
use Rattle.affc_trace.proofs.Runs.{PartsAt, parts_left, parts_right, part_count, parts_count, walk_count, walks_count, both_true}
use Rattle.affc_trace.proofs.TraceEffects.{effect_in}
use Rattle.affc_domain.specs.Plain.{is_plain, plain_cond}
use Rattle.affc_domain.specs.Ranges.{range_of}
use Rattle.affc_domain.proofs.RangeLemmas.{box_length}
use Rattle.affc_safe.specs.Overflow.{all_near, near_step, ReadsAssignment}
use Rattle.affc_safe.proofs.PlainReads.{small_is_int64, plain_reads, plain_cond_reads}
use Rattle.affc_safe.proofs.Walk.{Sits, turned, step_fits, to_if, to_else}
use Rattle.affc_floor.specs.Faults.{fault_of}
use Rattle.affc_floor.proofs.Says.{Says, says_assigned, stored_is}
use Rattle.affc_floor.proofs.Goes.{holds, Goes, goes_nothing, goes_then, goes_reading, goes_if, goes_turns, goes_assign}

module _ (all : List Assignment) (p : List ℤ) (extents : List (List ℤ)) where
  abbrev its : Instance → Effect Element ℕ
  its = effect_in all p

  -- each of these instances is read
  abbrev pub AreReadAt : List Instance → Type 0
  AreReadAt is = (b : Instance) → IsIn b is → (a : Assignment) → slice_get all b.statement ≡ Some a → ReadsAssignment a (p ++ b.iterators)

  same_list : (t : State) (is js : List Instance) (o : Outcome) → is ≡ js → Goes extents (effect_in all p) t is o → Goes extents (effect_in all p) t js o
  same_list t is js o e g = subst (λ l. Goes extents (effect_in all p) t l o) e g

  mutual
    unfolding PartsAt

    stmt_goes : (x : Stmt) (k : ℕ) (ts : List ℤ) (ranges : List (ℤ × ℤ)) → T (by_stmt plain_step x) → IsTrue (by_stmt near_step x ranges) → PartsAt all k (by_stmt assignments_step x)
        → AreReadAt ((by_stmt (walk_step p) x).instances k ts)
        → (place : Position) (scope : Scope) (t : State) → Sits ranges scope.names → scope.names ≡ p ++ ts → scope.iterators ≡ ts → scope.extents ≡ extents → place.statement ≡ k
        → Goes extents (effect_in all p) t ((by_stmt (walk_step p) x).instances k ts) ((denotation_of x).run place scope t)
    stmt_goes (s.For' iter low rel high shape body) k ts ranges bare small parts read place scope t sits n m x q =
        let f = both_hold (nat_lt (length ranges) 16) _ small in
        let a = both_hold (is_plain (length ranges) low) _ f.1 in
        let c = both_hold (is_plain (length ranges) high) _ a.1 in
        let r : ℤ × ℤ = range_of ranges low rel high in
        let l : length ranges ≡ length scope.names = box_length ranges scope.names sits.box in
        let each : ℤ → List Instance = λ z. in_walk_order (by_each (walk_step p) body) k (ts ++ z ∷ []) in
        let values : List ℤ → List ℤ = λ names. count_from (turns_of rel (whole low names) (whole high names)) (whole low names) in
        same_list t (flat_map each (values scope.names)) _ _ (ap (λ names. flat_map each (values names)) n)
        (goes_reading extents (effect_in all p) (index_value low (place.node + 1) scope.names) (whole low scope.names) t t _ _ (plain_reads (length ranges) scope.names low l sits.near a.0 (place.node + 1))
        (goes_reading extents (effect_in all p) (index_value high (place.node + 1 + nodes_of_ix low) scope.names) (whole high scope.names) t t _ _ (plain_reads (length ranges) scope.names high l sits.near c.0 (place.node + 1 + nodes_of_ix low))
        (goes_turns extents (effect_in all p) (turns_of rel (whole low scope.names) (whole high scope.names)) place.node (whole low scope.names) _ each t
        (λ y i. small_is_int64 (y +ℤ pos 1) (step_fits y (turned ranges scope.names low rel high y (all_near (by_each near_step body) (ranges ++ r ∷ [])) sits f.0 a.0 c.0 c.1 i).near))
        (λ y u i.
        let turn = turned ranges scope.names low rel high y (all_near (by_each near_step body) (ranges ++ r ∷ [])) sits f.0 a.0 c.0 c.1 i in
        row_goes body k (ts ++ y ∷ []) (ranges ++ r ∷ []) bare turn.inside_near parts
        (λ b j. read b (to_flat_map each (values (p ++ ts)) y b (subst (λ names. IsIn y (values names)) n i) j))
        (inside place (1 + nodes_of_ix low + nodes_of_ix high)) (with_iterator scope y) u turn.sits (ap (λ l. l ++ y ∷ []) n ∙ append_assoc p ts (y ∷ [])) (ap (λ l. l ++ y ∷ []) m) x q))))
    stmt_goes (s.If' cond shape body shape' other) k ts ranges bare small parts read place scope t sits n m x q =
        let both = both_true (all_true (by_each plain_step body)) (all_true (by_each plain_step other)) bare in
        let a = both_hold (plain_cond (length ranges) cond) _ small in
        let u = both_hold (all_near (by_each near_step body) ranges) (all_near (by_each near_step other) ranges) a.1 in
        let l : length ranges ≡ length scope.names = box_length ranges scope.names sits.box in
        let first : List Assignment = flat_map (λ a. a) (by_each assignments_step body) in
        let second : List Assignment = flat_map (λ a. a) (by_each assignments_step other) in
        let more : ℕ = k + assigns_of (by_each (walk_step p) body) in
        let right : PartsAt all more second = subst (λ c. PartsAt all (k + c) second) (sym (walks_count p body ∙ parts_count body)) (parts_right all k first second parts) in
        let within : List Instance = in_walk_order (by_each (walk_step p) body) k ts in
        let others : List Instance = in_walk_order (by_each (walk_step p) other) more ts in
        let here : is_true_at cond (p ++ ts) ≡ is_true_at cond scope.names = ap (is_true_at cond) (sym n) in
        let next : place.statement + assigns_in (by_each stmt_step body) ≡ more =
        ap (λ c. c + assigns_in (by_each stmt_step body)) q ∙ ap (λ c. k + c) (sym (walks_count p body)) in
        same_list t (if is_true_at cond scope.names then within else others) _ _ (ap (λ b. if b then within else others) (sym here))
        (goes_reading extents (effect_in all p) (condition cond (place.node + 1) scope.names) (is_true_at cond scope.names) t t _ _ (plain_cond_reads (length ranges) scope.names cond l sits.near a.0 (place.node + 1))
        (goes_if extents (effect_in all p) (is_true_at cond scope.names) t within others _ _
        (λ e.
        row_goes body k ts ranges both.0 u.0 (parts_left all k first second parts) (λ b j. read b (to_if (is_true_at cond (p ++ ts)) b within others (here ∙ e) j))
        (inside place (1 + nodes_of_cond cond)) scope t sits n m x q)
        (λ e.
        row_goes other more ts ranges both.1 u.1 right (λ b j. read b (to_else (is_true_at cond (p ++ ts)) b within others (here ∙ e) j))
        (past_all (by_each stmt_step body) (inside place (1 + nodes_of_cond cond))) scope t sits n m x next)))
    stmt_goes (s.Assign op array subs value) k ts ranges bare small parts read place scope t sits n m x q =
        let a : Assignment = record { op = op; array = array; subs = subs; value = value } in
        let z : k + 0 ≡ k = omega arith in
        let found : slice_get all k ≡ Some a = ap (slice_get all) (sym z) ∙ parts 0 a refl in
        let b : Instance = record { statement = k; iterators = ts } in
        let here : Instance = record { statement = place.statement; iterators = scope.iterators } in
        let same : here ≡ b = λ i. record { statement = q i; iterators = m i } in
        let does : effect_by (Some a) scope.names ≡ effect_in all p b = ap (effect_by (Some a)) n ∙ ap (λ o. effect_by o (p ++ ts)) (sym found) in
        let its_reads : ReadsAssignment a scope.names = subst (ReadsAssignment a) (sym n) (read b (inl refl) a found) in
        goes_assign extents (effect_in all p) t b (assigned op array subs value place.node scope t.store here)
        (subst (λ c. Says (fault_of extents (holds t) c (effect_in all p b)) (assigned op array subs value place.node scope t.store here)) same
        (subst (λ d. Says (fault_of extents (holds t) here d) (assigned op array subs value place.node scope t.store here)) does
        (says_assigned extents t.store op array subs value place.node scope here x its_reads.subs its_reads.value)))
        (λ stored e. stored_is extents t.store op array subs value place.node scope here stored its_reads.subs e ∙ ap (λ (d : Effect Element ℕ). d.stores) does)
    stmt_goes (s.Block' [] shape body) k ts ranges bare small parts read place scope t sits n m x q = row_goes body k ts ranges bare small parts read _ scope t sits n m x q
    stmt_goes (s.Block' (l ∷ ls) shape body) k ts ranges bare small parts read place scope t sits n m x q = absurd bare

    row_goes : {j : _} (body : Row_of-Stmt j) (k : ℕ) (ts : List ℤ) (ranges : List (ℤ × ℤ)) → T (all_true (by_each plain_step body)) → IsTrue (all_near (by_each near_step body) ranges)
        → PartsAt all k (flat_map (λ a. a) (by_each assignments_step body)) → AreReadAt (in_walk_order (by_each (walk_step p) body) k ts)
        → (place : Position) (scope : Scope) (t : State) → Sits ranges scope.names → scope.names ≡ p ++ ts → scope.iterators ≡ ts → scope.extents ≡ extents → place.statement ≡ k
        → Goes extents (effect_in all p) t (in_walk_order (by_each (walk_step p) body) k ts) (in_order (by_each stmt_step body) place scope t)
    row_goes end_of-Stmt k ts ranges bare small parts read place scope t sits n m x q = goes_nothing extents (effect_in all p) t
    row_goes (more_of-Stmt first rest) k ts ranges bare small parts read place scope t sits n m x q =
        let both = both_true (by_stmt plain_step first) (all_true (by_each plain_step rest)) bare in
        let u = both_hold (by_stmt near_step first ranges) (all_near (by_each near_step rest) ranges) small in
        let others : List Assignment = flat_map (λ a. a) (by_each assignments_step rest) in
        let right : PartsAt all (k + (by_stmt (walk_step p) first).assigns) others =
        subst (λ c. PartsAt all (k + c) others) (sym (walk_count p first ∙ part_count first)) (parts_right all k (by_stmt assignments_step first) others parts) in
        let next : place.statement + (denotation_of first).assigns ≡ k + (by_stmt (walk_step p) first).assigns =
        ap (λ c. c + (denotation_of first).assigns) q ∙ ap (λ c. k + c) (sym (walk_count p first)) in
        goes_then extents (effect_in all p) t ((by_stmt (walk_step p) first).instances k ts) _ ((denotation_of first).run place scope t) _
        (stmt_goes first k ts ranges both.0 u.0 (parts_left all k _ others parts) (λ b j. read b (to_first _ _ b j)) place scope t sits n m x q)
        (λ v. row_goes rest (k + (by_stmt (walk_step p) first).assigns) ts ranges both.1 u.1 right (λ b j. read b (to_second ((by_stmt (walk_step p) first).instances k ts) _ b j)) (past (denotation_of first) place) scope v sits n m x next)

  pub list_goes : (body : List Stmt) (k : ℕ) (ts : List ℤ) (ranges : List (ℤ × ℤ)) → T (all_true (map (by_stmt plain_step) body)) → IsTrue (all_near (map (by_stmt near_step) body) ranges)
      → PartsAt all k (flat_map (by_stmt assignments_step) body) → AreReadAt (in_walk_order (map (by_stmt (walk_step p)) body) k ts)
      → (place : Position) (scope : Scope) (t : State) → Sits ranges scope.names → scope.names ≡ p ++ ts → scope.iterators ≡ ts → scope.extents ≡ extents → place.statement ≡ k
      → Goes extents (effect_in all p) t (in_walk_order (map (by_stmt (walk_step p)) body) k ts) (in_order (map denotation_of body) place scope t)
  list_goes body k ts ranges bare near parts read place scope t sits n m x q =
      subst (λ ps. Goes extents (effect_in all p) t (in_walk_order (map (by_stmt (walk_step p)) body) k ts) (in_order ps place scope t)) (sym (unrolled stmt_step body))
      (same_list t (in_walk_order (by_each (walk_step p) (row_of body)) k ts) (in_walk_order (map (by_stmt (walk_step p)) body) k ts) _ (ap (λ ws. in_walk_order ws k ts) (sym (unrolled (walk_step p) body)))
      (row_goes (row_of body) k ts ranges (subst (λ bs. T (all_true bs)) (unrolled plain_step body) bare) (subst (λ fs. IsTrue (all_near fs ranges)) (unrolled near_step body) near)
      (subst (PartsAt all k) (flat_unrolled assignments_step body) parts) (subst (λ ws. AreReadAt (in_walk_order ws k ts)) (unrolled (walk_step p) body) read) place scope t sits n m x q))
