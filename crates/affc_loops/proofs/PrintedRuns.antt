-- The printed program is stuck, if at all, for want of a value, where the source reads and keeps within its arrays.
use Rattle.std.proofs.Common.{◌≡◌, ℕ, zero, suc, ◌+◌, ◌^◌, ◌<◌, ℤ, pos, negsuc, ◌+ℤ◌, ◌≤ℤ◌, true, ◌&&◌, List, [], ◌∷◌, ◌++◌, length, get_or, map, Option, Some, Ok, refl, sym, ap, subst, ◌∙◌, inl, inr, arith}
use Rattle.std.specs.Prelude.{slice_get, unsigned_abs}
use Rattle.std.specs.List.{All}
use Rattle.std.proofs.lemmas.Int.{ints}
use Rattle.affc_rows.specs.Forms.{values_of, magnitude, HaveColumns}
use Rattle.affc_ast.specs.declared.tree.Compare.{Compare}
use Rattle.affc_ast.specs.declared.tree.Cond.{Cond}
use Rattle.affc_ast.specs.declared.tree.Instance.{Instance}
use Rattle.affc_ast.specs.declared.tree.Local.{Local}
use Rattle.affc_ast.specs.declared.tree.Ix.{Ix}
use Rattle.affc_ast.specs.declared.tree.Program.{Program}
use Rattle.affc_ast.specs.declared.tree.Rel.TheVariants.{LessEqual}
use Rattle.affc_ast.specs.declared.tree.Stmt.{Stmt}
use Rattle.affc_ast.specs.declared.tree.Stmt.TheVariants.{If, Block}
use Rattle.affc_ast.specs.Conditions.{condition}
use Rattle.affc_ast.specs.Fits.{whole, holds, all_hold, is_true_at}
use Rattle.affc_ast.specs.Index.{index_value, nodes_of_ix}
use Rattle.affc_ast.specs.Meaning.{State, Outcome, Position, turns_of, in_order, past, with_iterator, with_locals, stmt_step, denotation_of, assigned}
use Rattle.affc_ast.specs.Store.{Store}
use Rattle.affc_ast.specs.Trace.{Assignment, assignments, trace, loads_of_value}
use Rattle.affc_ast.specs.Values.{Scope, is_within}
use Rattle.affc_ast.proofs.Steps.{for_here, if_here, block_here}
use Rattle.affc_system.specs.Boxes.{InBox}
use Rattle.affc_trace.specs.declared.schedule.TimeMap.{TimeMap}
use Rattle.affc_trace.specs.declared.schedule.Schedule.TheVariants.{Time}
use Rattle.affc_trace.specs.Law.{IsIn}
use Rattle.affc_trace.specs.Target.{IsScheduleOf, numbers_in, time_of}
use Rattle.affc_trace.proofs.EndedReads.{append_assoc}
use Rattle.affc_trace.proofs.LastStores.{append_nil, push_append}
use Rattle.affc_trace.proofs.Members.{in_map}
use Rattle.affc_trace.proofs.Runs.{length_append}
use Rattle.affc_domain.specs.Rounds.{Round, Loop, Test, rounds, turns}
use Rattle.affc_domain.proofs.Lists.{both_true, true_both}
use Rattle.affc_domain.proofs.ColumnLemmas.{values_long}
use Rattle.affc_safe.specs.Overflow.{AreReadable, ReadsValue, ReadsAssignment}
use Rattle.affc_safe.proofs.Along.{ReadAlong}
use Rattle.affc_safe.proofs.PlainReads.{small_is_int64}
use Rattle.affc_safe.proofs.Walk.{AllWithin, Wanting, assign_case, done_or_wants}
use Rattle.affc_safe.proofs.Wants.{Wants, wants_ended, wants_then, wants_reading, wants_if, wants_turns, IsReadableCond}
use Rattle.affc_loops.specs.Limits.{IsSmall}
use Rattle.affc_loops.specs.Loops.{Scheduled, scheduled_from, loop_names, locals_of, box_tests, time_tests, guarded, as_condition, all_of, if_any, moved_assign, block_of, time_name}
use Rattle.affc_loops.specs.Between.{LiesBetween, RunWithin, loops_between, body_between}
use Rattle.affc_loops.specs.Trees.{name_at, moved, moved_cond, moved_value}
use Rattle.affc_loops.proofs.Boxed.{Encloses, Small, box_length}
use Rattle.affc_loops.proofs.Does.{Fine, parts, fine}
use Rattle.affc_loops.proofs.AllOf.{all_of_true, ReadableConds, all_of_reads}
use Rattle.affc_loops.proofs.Guards.{guard_tests, all_true_at, see_outwards}
use Rattle.affc_loops.proofs.MovedReads.{all_readable_move, value_moves}
use Rattle.affc_loops.proofs.MovedTrees.{moved_are, moved_loads}
use Rattle.affc_loops.proofs.Scheduled.{is_scheduled_at}
use Rattle.affc_loops.proofs.PointsOrder.{in_numbers}
use Rattle.affc_loops.proofs.Tests.{guards_hold}
use Rattle.affc_loops.proofs.TestReads.{Inner, locals_read, box_reads, true_box, times_read, guards_read}

-- ---- statements

abbrev pub run_all : List Stmt → Position → Scope → State → Outcome
run_all body = in_order (map denotation_of body)

-- under a condition that can be read
test_wants : (cond : Cond) (body : List Stmt) (scope : Scope) → IsReadableCond cond scope.names
    → (is_true_at cond scope.names ≡ true → (here : Position) (t : State) → Wants (run_all body here scope t)) → (here : Position) (t : State) → Wants (run_all (If cond body [] ∷ []) here scope t)
test_wants cond body scope r h here t =
    subst (λ built. Wants (in_order (built ∷ []) here scope t)) (sym (if_here stmt_step cond body []))
    (wants_then _ _
    (wants_reading (condition cond (here.node + 1) scope.names) (is_true_at cond scope.names) t _ (r (here.node + 1))
    (wants_if (is_true_at cond scope.names) _ _ (λ e. h e _ t) (λ e. wants_ended t)))
    (λ u. wants_ended u))

-- under comparisons
if_wants : (conds : List Compare) (body : List Stmt) (scope : Scope) → ReadableConds (map as_condition conds) scope.names
    → (all_hold conds scope.names ≡ true → (here : Position) (t : State) → Wants (run_all body here scope t)) → (here : Position) (t : State) → Wants (run_all (if_any conds body) here scope t)
if_wants [] body scope r h here t = h refl here t
if_wants (c ∷ cs) body scope r h here t = test_wants (all_of c cs) body scope (all_of_reads c cs scope.names r) (λ e. h (sym (all_of_true c cs scope.names) ∙ e)) here t

-- under guards whose tests can be read
guarded_wants : (first more from : ℕ) (gs : List Round) (body : List Stmt) (scope : Scope) → ReadableConds (guard_tests first more from gs) scope.names
    → (all_true_at (guard_tests first more from gs) scope.names ≡ true → (here : Position) (t : State) → Wants (run_all body here scope t)) → (here : Position) (t : State) → Wants (run_all (guarded first more from gs body) here scope t)
guarded_wants first more from [] body scope r h here t = h refl here t
guarded_wants first more from (Loop iter low rel high ∷ gs) body scope r h here t =
    let c : Compare = record { rel = LessEqual; left = moved first more low; right = name_at from } in
    let d : Compare = record { rel = rel; left = name_at from; right = moved first more high } in
    if_wants (c ∷ d ∷ []) (guarded first more (suc from) gs body) scope (r.0, λ e. ((r.1 e).0, λ f. tt)) (λ held.
    let a = both_true (holds c scope.names) (holds d scope.names && true) held in
    let b = both_true (holds d scope.names) true a.1 in
    guarded_wants first more (suc from) gs body scope ((r.1 a.0).1 b.0) (λ rest. h (true_both (holds c scope.names) _ a.0 (true_both (holds d scope.names) _ b.0 rest)))) here t
guarded_wants first more from (Test cond ∷ gs) body scope r h here t =
    let moved_one : Cond = moved_cond first more cond in
    test_wants moved_one (guarded first more from gs body) scope r.0 (λ held.
    guarded_wants first more from gs body scope (r.1 held) (λ rest. h (true_both (is_true_at moved_one scope.names) _ held rest))) here t

block_wants : (locals : List Local) (body : List Stmt) (here : Position) (scope : Scope) (names : List ℤ) (t : State) → ((node : ℕ) → (i : Scope) × (with_locals locals node scope ≡ Ok i) × Inner scope i names)
    → ((i : Scope) → i.names ≡ names → i.extents ≡ scope.extents → (here : Position) (t : State) → Wants (run_all body here i t)) → Wants ((denotation_of (Block locals body)).run here scope t)
block_wants locals body here scope names t r h =
    let l = r (here.node + 1) in
    subst (λ built. Wants (built.run here scope t)) (sym (block_here stmt_step locals body))
    (wants_reading (with_locals locals (here.node + 1) scope) l.0 t _ l.1 (h l.0 (l.2).its_names (l.2).its_extents _ t))

all_want : (body : List Stmt) (scope : Scope) → ((x : Stmt) → IsIn x body → (here : Position) (t : State) → Wants ((denotation_of x).run here scope t)) → (here : Position) (t : State) → Wants (run_all body here scope t)
all_want [] scope h here t = wants_ended t
all_want (x ∷ body) scope h here t =
    wants_then ((denotation_of x).run here scope t) _ (h x (inl refl) here t) (λ u. all_want body scope (λ y i. h y (inr i)) (past (denotation_of x) here) u)

-- ---- loops

int_end : (r0 r1 y : ℤ) → unsigned_abs r0 < 2 ^ 62 → unsigned_abs r1 < 2 ^ 62 → r0 ≤ℤ y → y ≤ℤ r1 → unsigned_abs (y +ℤ pos 1) < 2 ^ 63
int_end r0 (pos m) (pos n) a b l h = omega (arith, ints)
int_end r0 (negsuc m) (pos n) a b l h = absurd (omega (arith, ints))
int_end (pos m) r1 (negsuc n) a b l h = absurd (omega (arith, ints))
int_end (negsuc m) r1 (negsuc zero) a b l h = omega (arith, ints)
int_end (negsuc m) r1 (negsuc (suc n)) a b l h = omega (arith, ints)

-- at each time that the loops run through, all of which lie in the ranges
loops_want : (ranges : List (ℤ × ℤ)) (ends : List (Ix × Ix)) (component : ℕ) (body : List Stmt) (names : List ℤ) (extents : List (List ℤ)) → All IsSmall ranges → RunWithin ranges ends names
    → ((t : List ℤ) (scope : Scope) → InBox ranges t → scope.names ≡ names ++ t → scope.extents ≡ extents → (here : Position) (u : State) → Wants (run_all body here scope u))
    → (scope : Scope) → scope.names ≡ names → scope.extents ≡ extents → (here : Position) (u : State) → Wants (run_all (loops_between ends component body) here scope u)
loops_want [] [] component body names extents s w h scope n e here u = h [] scope tt (n ∙ sym (append_nil names)) e here u
loops_want [] (d ∷ ds) component body names extents s w h scope n e here u = absurd w
loops_want (r ∷ rs) [] component body names extents s w h scope n e here u = absurd w
loops_want (r ∷ rs) (d ∷ ds) component body names extents s w h scope n e here u =
    let small : IsSmall r = s 0 r (omega arith) in
    let inner : List Stmt = loops_between ds (suc component) body in
    let low : ℤ = whole d.0 names in
    let high : ℤ = whole d.1 names in
    subst (λ built. Wants (in_order (built ∷ []) here scope u)) (sym (for_here stmt_step (time_name component) d.0 LessEqual d.1 inner))
    (wants_then _ _
    (wants_reading (index_value d.0 (here.node + 1) scope.names) low u _ (ap (index_value d.0 (here.node + 1)) n ∙ w.0 (here.node + 1))
    (wants_reading (index_value d.1 (here.node + 1 + nodes_of_ix d.0) scope.names) high u _ (ap (index_value d.1 (here.node + 1 + nodes_of_ix d.0)) n ∙ w.1 _)
    (wants_turns (turns_of LessEqual low high) here.node low _ u
    (λ y i.
    let b = in_numbers low high y i in
    let c = w.2 y b.0 b.1 in
    small_is_int64 (y +ℤ pos 1) (int_end r.0 r.1 y small.0 small.1 c.0 c.1))
    (λ y v i.
    let b = in_numbers low high y i in
    let c = w.2 y b.0 b.1 in
    loops_want rs ds (suc component) body (names ++ y ∷ []) extents (λ k x m. s (suc k) x (omega arith)) c.2
    (λ t inside' q m g here' v'. h (y ∷ t) inside' (c.0, c.1, q) (m ∙ push_append names y t) g here' v')
    (with_iterator scope y) (ap (λ l. l ++ y ∷ []) n) e _ v))))
    (λ v. wants_ended v))

-- ---- a block

-- the assignment is read, and its elements lie within their arrays
pub record Kept (a : Assignment) (names : List ℤ) (extents : List (List ℤ)) : Type 0 where
  pub reads : ReadsAssignment a names
  pub loads : AllWithin extents (loads_of_value a.value names)
  pub store : is_within (map (λ e. whole e names) a.subs) (get_or extents a.array.0 []) ≡ true

-- the moved assignment is done, or a value is wanting
moved_wants : (p t rest : List ℤ) (a : Assignment) (extents : List (List ℤ)) → Kept a (p ++ rest) extents → (scope : Scope) → scope.names ≡ p ++ (t ++ rest) → scope.extents ≡ extents
    → (node : ℕ) (store : Store) (here : Instance) → Wanting (assigned a.op a.array (map (moved (length p) (length t)) a.subs) (moved_value (length p) (length t) a.value) node scope store here)
moved_wants p t rest a extents kept scope n x node store here =
    let subs = map (moved (length p) (length t)) a.subs in
    let value = moved_value (length p) (length t) a.value in
    let its_reads : ReadsAssignment a (p ++ rest) = kept.reads in
    done_or_wants a.op a.array subs value node scope store here
    (subst (AreReadable subs) (sym n) (all_readable_move p t rest a.subs its_reads.subs))
    (subst (ReadsValue value) (sym n) (value_moves p t rest a.value its_reads.value))
    (subst (λ ns. AllWithin scope.extents (loads_of_value value ns)) (sym n) (subst (λ es. AllWithin es (loads_of_value value (p ++ (t ++ rest)))) (sym x) (subst (AllWithin extents) (sym (moved_loads p t rest a.value)) kept.loads)))
    (ap (λ ns. is_within (map (λ e. whole e ns) subs) (get_or scope.extents a.array.0 [])) n
    ∙ ap (λ zs. is_within zs (get_or scope.extents a.array.0 [])) (moved_are p t rest a.subs)
    ∙ ap (λ es. is_within (map (λ e. whole e (p ++ rest)) a.subs) (get_or es a.array.0 [])) x
    ∙ kept.store)

-- what a block reads, where the source reads its bounds and conditions in the box, and its assignment where they let it run
scheduled_wants : (p t : List ℤ) (e : Scheduled) (extents : List (List ℤ)) → Fine p (length t) e
    → ((xs : List ℤ) → InBox e.ranges xs → ReadAlong e.around p xs) → ((xs : List ℤ) → turns e.around p xs ≡ true → Kept e.assignment (p ++ xs) extents)
    → All IsSmall e.ranges → length e.ranges ≡ length (loop_names e.around)
    → ((xs : List ℤ) → InBox e.ranges xs → All (λ f. magnitude f (p ++ xs) < 2 ^ 63) e.times.forms) → All (λ g. magnitude g (p ++ t) < 2 ^ 63) e.times.inverse
    → (scope : Scope) → scope.names ≡ p ++ t → scope.extents ≡ extents → (here : Position) (u : State) → Wants ((denotation_of (block_of (length p) (length t) e)).run here scope u)
scheduled_wants p t e extents fine along kept ranges_small one_each times_small inverse_small scope n x here u =
    let xs : List ℤ = values_of e.times.inverse (p ++ t) in
    let names : List ℤ = p ++ (t ++ xs) in
    let from : ℕ = length p + length t in
    let at : from ≡ length (p ++ t) = sym (length_append p t) in
    let at_nil : from ≡ length (p ++ (t ++ [])) = at ∙ ap (λ m. length (p ++ m)) (sym (append_nil t)) in
    let inner : List Stmt = moved_assign (length p) (length t) e.assignment ∷ [] in
    let third : List Stmt = guarded (length p) (length t) from e.around inner in
    let second : List Stmt = if_any (time_tests (length p) from (length p) e.times.forms) third in
    let first : List Stmt = if_any (box_tests from e.ranges) second in
    let loops_are : length (loop_names e.around) ≡ length xs = fine.names ∙ sym (values_long e.times.inverse (p ++ t)) in
    let wide : HaveColumns (length p + length xs) e.times.forms = subst (λ m. HaveColumns (length p + m) e.times.forms) (sym (values_long e.times.inverse (p ++ t))) fine.wide in
    let outwards : see_outwards (length (p ++ [])) e.around ≡ true = subst (λ m. see_outwards (length m) e.around ≡ true) (sym (append_nil p)) fine.outwards in
    let guards_are : all_true_at (guard_tests (length p) (length t) from e.around) names ≡ turns e.around p xs =
    guards_hold p t e.around [] xs from at_nil outwards loops_are ∙ ap (λ m. turns e.around m xs) (append_nil p) in
    block_wants (locals_of (length p) (loop_names e.around) e.times.inverse) first here scope names u
    (λ node. locals_read p t [] (loop_names e.around) e.times.inverse (length p) refl fine.names fine.inverse_wide inverse_small node scope (n ∙ ap (λ m. p ++ m) (sym (append_nil t))))
    (λ i m k.
    if_wants (box_tests from e.ranges) second i (subst (ReadableConds (map as_condition (box_tests from e.ranges))) (sym m) (box_reads from e.ranges names ranges_small)) (λ boxed.
    let inside_box : InBox e.ranges xs =
    true_box (p ++ t) xs e.ranges from at (sym loops_are ∙ sym one_each) (ap (all_hold (box_tests from e.ranges)) (append_assoc p t xs) ∙ ap (all_hold (box_tests from e.ranges)) (sym m) ∙ boxed) in
    let guards_reads : ReadableConds (guard_tests (length p) (length t) from e.around) names =
    guards_read p t e.around [] xs from at_nil outwards loops_are (subst (λ m. ReadAlong e.around m xs) (sym (append_nil p)) (along xs inside_box)) in
    if_wants (time_tests (length p) from (length p) e.times.forms) third i
    (subst (ReadableConds (map as_condition (time_tests (length p) from (length p) e.times.forms))) (sym m)
    (subst (λ q. ReadableConds (map as_condition (time_tests (length p) q (length p) e.times.forms)) names) (sym at) (times_read p t xs e.times.forms (length p) wide (times_small xs inside_box)))) (λ timed.
    guarded_wants (length p) (length t) from e.around inner i (subst (ReadableConds (guard_tests (length p) (length t) from e.around)) (sym m) guards_reads) (λ run here u.
    let runs : turns e.around p xs ≡ true = sym guards_are ∙ ap (all_true_at (guard_tests (length p) (length t) from e.around)) (sym m) ∙ run in
    wants_then _ _
    (assign_case _ u (moved_wants p t xs e.assignment extents (kept xs runs) i m (k ∙ x) here.node u.store _))
    (λ v. wants_ended v)))))

-- ---- the program

module _ (source : Program) (n : ℕ) (maps : List TimeMap) (ranges : List (ℤ × ℤ)) (ends : List (Ix × Ix)) (boxes : List (Option (List (ℤ × ℤ)))) (p : List ℤ)
    (schedule : IsScheduleOf source (Time n maps)) (numbers : length p ≡ numbers_in source.params) (components : length ends ≡ n) (as_many : length ends ≡ length ranges)
    (outwards : (k : ℕ) (gs : List Round) → slice_get (rounds source) k ≡ Some gs → see_outwards (length p) gs ≡ true)
    (encloses : Encloses source boxes p) (hold : (a : Instance) → IsIn a (trace source p) → LiesBetween ends p (time_of maps p a)) (run : RunWithin ranges ends p) (small : Small source maps boxes ranges p) (extents : List (List ℤ))
    (along : (k : ℕ) (rs : List Round) (box : List (ℤ × ℤ)) → slice_get (rounds source) k ≡ Some rs → slice_get boxes k ≡ Some (Some box) → (xs : List ℤ) → InBox box xs → ReadAlong rs p xs)
    (kept : (k : ℕ) (rs : List Round) (a : Assignment) → slice_get (rounds source) k ≡ Some rs → slice_get (assignments source) k ≡ Some a → (xs : List ℤ) → turns rs p xs ≡ true → Kept a (p ++ xs) extents)
  where
    abbrev all : List Scheduled
    all = scheduled_from 0 (rounds source) (assignments source) maps boxes

    block_at : (e : Scheduled) → IsIn e all → (t : List ℤ) → InBox ranges t → (scope : Scope) → scope.names ≡ p ++ t → scope.extents ≡ extents → (here : Position) (u : State)
        → Wants ((denotation_of (block_of (length p) (length ends) e)).run here scope u)
    block_at e i t b scope m x here u =
        let l : length t ≡ length ends = box_length ranges t b ∙ sym as_many in
        let h = parts source n maps ends boxes p schedule numbers components outwards encloses hold e i in
        let f = fine source n maps ends boxes p schedule numbers components outwards encloses hold e h in
        let k = is_scheduled_at 0 (rounds source) (assignments source) maps boxes e i in
        let fine_here : Fine p (length t) e = subst (λ q. Fine p q e) (sym l) f in
        subst (λ q. Wants ((denotation_of (block_of (length p) q e)).run here scope u)) l
        (scheduled_wants p t e extents fine_here (along k.at e.around e.ranges k.its_guards k.its_ranges) (kept e.statement e.around e.assignment h.its_guards h.its_assignment)
        (small.boxes_small k.at e.ranges k.its_ranges) (small.one_each k.at e.ranges e.around k.its_ranges k.its_guards)
        (small.times_small k.at e.ranges e.times k.its_ranges k.its_times) (small.inverse_small k.at e.ranges e.times k.its_ranges k.its_times t b) scope m x here u)

    each_wants : (es : List Scheduled) → ((e : Scheduled) → IsIn e es → (t : List ℤ) → InBox ranges t → (scope : Scope) → scope.names ≡ p ++ t → scope.extents ≡ extents → (here : Position) (u : State)
        → Wants ((denotation_of (block_of (length p) (length ends) e)).run here scope u))
        → (scope : Scope) → scope.names ≡ p → scope.extents ≡ extents → (here : Position) (u : State) → Wants (run_all (body_between (length p) ends es) here scope u)
    each_wants [] h scope m x here u = wants_ended u
    each_wants (e ∷ es) h scope m x here u =
        loops_want ranges ends 0 (map (block_of (length p) (length ends)) (e ∷ es)) p extents small.ranges_small run (λ t scope b m x here u.
        all_want (map (block_of (length p) (length ends)) (e ∷ es)) scope (λ s i here u.
        let q = in_map (block_of (length p) (length ends)) (e ∷ es) s i in
        subst (λ s. Wants ((denotation_of s).run here scope u)) (sym q.2) (h q.0 q.1 t b scope m x here u)) here u) scope m x here u

    -- the statements of the printed program
    pub body_wants : (scope : Scope) → scope.names ≡ p → scope.extents ≡ extents → (here : Position) (u : State) → Wants (run_all (body_between (numbers_in source.params) ends all) here scope u)
    body_wants scope m x here u = subst (λ q. Wants (run_all (body_between q ends all) here scope u)) numbers (each_wants all block_at scope m x here u)
