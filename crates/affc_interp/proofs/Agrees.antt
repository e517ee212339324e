-- A run with so many steps is the meaning, cut where the steps are used up.
use Rattle.std.proofs.Common.{◌≡◌, ℕ, zero, suc, ◌+◌, ◌<◌, ◌≤◌, ℤ, pos, ◌+ℤ◌, Bool, true, false, if◌then◌else◌, List, [], ◌∷◌, map, Result, Ok, Err, refl, sym, ap, ◌∙◌, arith}
use Rattle.std.specs.Prelude.{nat_lt, nat_le, sum_by}
use Rattle.std.proofs.lemmas.List.Sums.{sum_by-cons}
use borrow.Author.Tests.{ltb-true, ltb-false, leb-true, leb-false, le-leb, lt-leb}
use Rattle.affc_ast.specs.declared.tree.Stmt.{Stmt}
use Rattle.affc_ast.specs.declared.tree.Stmt.TheVariants as s
use Rattle.affc_ast.specs.declared.tree.Stmt.TheBlock.{Row_of-Stmt, more_of-Stmt, end_of-Stmt}
use Rattle.affc_ast.specs.Cause.{Cause}
use Rattle.affc_ast.specs.Conditions.{nodes_of_cond, condition}
use Rattle.affc_ast.specs.Index.{index_value, in_int64, nodes_of_ix}
use Rattle.affc_ast.specs.Meaning.{State, Outcome, Ended, Stuck, then_do, reading, begun, write, Position, Denotation, nodes_in, assigns_in, past, past_all, inside, in_order, with_iterator, turns_of, turns, assigned, with_locals, nodes_of_locals, stmt_step, denotation_of}
use Rattle.affc_ast.specs.Recursion.{by_each}
use Rattle.affc_ast.specs.Store.{Element, Store, with_value}
use Rattle.affc_ast.specs.Values.{Scope}
use Rattle.affc_interp.specs.Budget.{StuckBy, OutOfSteps, Run, after, stuck_or, step, Exec, beyond, beyond_all, all_of, turns_within, exec_step, exec_of}
use Rattle.affc_interp.specs.Runs.{steps_of, within_limit}

-- ---- Outcomes

past_limit : (n limit : ℕ) → limit < n → nat_le n limit ≡ false
past_limit n limit h = lt-leb n limit h

grown : (o : Outcome) (f : State → Outcome) (n : ℕ) → n ≤ steps_of o → ((s : State) → s.steps ≤ steps_of (f s)) → n ≤ steps_of (then_do o f)
grown (Ended s) f n h grows = let k = grows s in omega arith
grown (Stuck c m) f n h grows = h

read_grows : {A : Type 0} (r : Result A Cause) (s : State) (f : A → Outcome) → ((x : A) → s.steps ≤ steps_of (f x)) → s.steps ≤ steps_of (reading r s f)
read_grows (Ok x) s f h = h x
read_grows (Err c) s f h = omega arith

too_far : (limit : ℕ) (o : Outcome) → limit < steps_of o → within_limit limit o ≡ Err OutOfSteps
too_far limit (Ended s) h = let e : nat_le s.steps limit ≡ false = past_limit s.steps limit h in ap (λ (t : Bool). if t then Ok (s.store, s.steps) else Err OutOfSteps) e
too_far limit (Stuck c n) h = let e : nat_le n limit ≡ false = past_limit n limit h in ap (λ (t : Bool). if t then Err (StuckBy c) else Err OutOfSteps) e

then_same : (limit : ℕ) (o : Outcome) (f : State → Outcome) (g : Store → ℕ → Run) → ((s : State) → s.steps ≤ steps_of (f s)) → ((s : State) → s.steps ≤ limit → within_limit limit (f s) ≡ g s.store s.steps)
    → within_limit limit (then_do o f) ≡ after (within_limit limit o) g
then_same limit (Ended s) f g grows same =
    elim (nat_le s.steps limit) as (λ (t : Bool). nat_le s.steps limit ≡ t → within_limit limit (f s) ≡ after (if t then Ok (s.store, s.steps) else Err OutOfSteps) g) [
      | true ↦ λ e. same s (leb-true s.steps limit e)
      | false ↦ λ e. let k = grows s in let far : limit < s.steps = leb-false s.steps limit e in too_far limit (f s) (omega arith)
    ] refl
then_same limit (Stuck c n) f g grows same = elim (nat_le n limit) as (λ (t : Bool). (if t then Err (StuckBy c) else Err OutOfSteps) ≡ after (if t then Err (StuckBy c) else Err OutOfSteps) g) [ true ↦ refl | false ↦ refl ]

pub read_same : {A : Type 0} (limit : ℕ) (r : Result A Cause) (s : State) (f : A → Outcome) (g : A → Run) → s.steps ≤ limit → ((x : A) → within_limit limit (f x) ≡ g x) → within_limit limit (reading r s f) ≡ stuck_or r g
read_same limit (Ok x) s f g h same = same x
read_same limit (Err c) s f g h same = ap (λ (t : Bool). if t then Err (StuckBy c) else Err OutOfSteps) (le-leb s.steps limit h)

step_same : (limit n : ℕ) (o : Outcome) (g : ℕ → Run) → n + 1 ≤ steps_of o → (n + 1 ≤ limit → within_limit limit o ≡ g (n + 1)) → within_limit limit o ≡ step limit n g
step_same limit n o g grows same =
    elim (nat_lt n limit) as (λ (t : Bool). nat_lt n limit ≡ t → within_limit limit o ≡ (if t then g (n + 1) else Err OutOfSteps)) [
      | true ↦ λ e. let lt : n < limit = ltb-true n limit e in same (omega arith)
      | false ↦ λ e. let le : limit ≤ n = ltb-false n limit e in too_far limit o (omega arith)
    ] refl

-- ---- Parts

pub record Agrees (p : Denotation) (q : Exec) : Type 0 where
  pub nodes : q.nodes ≡ p.nodes
  pub assigns : q.assigns ≡ p.assigns
  pub grows : (here : Position) (scope : Scope) (state : State) → state.steps ≤ steps_of (p.run here scope state)
  pub same : (limit : ℕ) (here : Position) (scope : Scope) (state : State) → state.steps ≤ limit → within_limit limit (p.run here scope state) ≡ q.run limit here scope state.store state.steps

abbrev pub AllAgree : List Denotation → List Exec → Type 0
AllAgree [] [] = Unit {0}
AllAgree (p ∷ ps) (q ∷ qs) = Agrees p q × AllAgree ps qs
AllAgree _ _ = ⊥

pub all_nodes : (ps : List Denotation) (qs : List Exec) → AllAgree ps qs → sum_by (λ q. q.nodes) qs ≡ nodes_in ps
all_nodes [] [] h = refl
all_nodes [] (q ∷ qs) h = absurd h
all_nodes (p ∷ ps) [] h = absurd h
all_nodes (p ∷ ps) (q ∷ qs) h = sum_by-cons (λ q. q.nodes) q qs ∙ (λ i. h.0.nodes i + all_nodes ps qs h.1 i) ∙ sym (sum_by-cons (λ p. p.nodes) p ps)

pub all_assigns : (ps : List Denotation) (qs : List Exec) → AllAgree ps qs → sum_by (λ q. q.assigns) qs ≡ assigns_in ps
all_assigns [] [] h = refl
all_assigns [] (q ∷ qs) h = absurd h
all_assigns (p ∷ ps) [] h = absurd h
all_assigns (p ∷ ps) (q ∷ qs) h = sum_by-cons (λ q. q.assigns) q qs ∙ (λ i. h.0.assigns i + all_assigns ps qs h.1 i) ∙ sym (sum_by-cons (λ p. p.assigns) p ps)

all_grow : (ps : List Denotation) (qs : List Exec) → AllAgree ps qs → (here : Position) (scope : Scope) (state : State) → state.steps ≤ steps_of (in_order ps here scope state)
all_grow [] qs h here scope state = omega arith
all_grow (p ∷ ps) [] h here scope state = absurd h
all_grow (p ∷ ps) (q ∷ qs) h here scope state = grown (p.run here scope state) (in_order ps (past p here) scope) state.steps (h.0.grows here scope state) (all_grow ps qs h.1 (past p here) scope)

pub all_same : (ps : List Denotation) (qs : List Exec) → AllAgree ps qs → (limit : ℕ) (here : Position) (scope : Scope) (state : State) → state.steps ≤ limit
    → within_limit limit (in_order ps here scope state) ≡ all_of limit qs here scope state.store state.steps
all_same [] [] h limit here scope state le = ap (λ (t : Bool). if t then Ok (state.store, state.steps) else Err OutOfSteps) (le-leb state.steps limit le)
all_same [] (q ∷ qs) h limit here scope state le = absurd h
all_same (p ∷ ps) [] h limit here scope state le = absurd h
all_same (p ∷ ps) (q ∷ qs) h limit here scope state le =
    let next : beyond q here ≡ past p here = λ i. record { node = here.node + h.0.nodes i; statement = here.statement + h.0.assigns i } in
    then_same limit (p.run here scope state) (in_order ps (past p here) scope) (all_of limit qs (past p here) scope) (all_grow ps qs h.1 (past p here) scope) (all_same ps qs h.1 limit (past p here) scope)
    ∙ (λ i. after (h.0.same limit here scope state le i) (all_of limit qs (sym next i) scope))

-- ---- Loops

turns_grow : (node count : ℕ) (x : ℤ) (body : ℤ → State → Outcome) → ((y : ℤ) (s : State) → s.steps ≤ steps_of (body y s)) → (s : State) → s.steps ≤ steps_of (turns node count x body s)
turns_grow node zero x body grows s = omega arith
turns_grow node (suc count) x body grows s =
    let b = grows x (begun s) in
    grown (body x (begun s)) (λ t. reading (in_int64 node (x +ℤ pos 1)) t (λ next. turns node count next body t)) s.steps (omega arith)
    (λ t. read_grows (in_int64 node (x +ℤ pos 1)) t (λ next. turns node count next body t) (λ next. turns_grow node count next body grows t))

turns_same : (limit node count : ℕ) (x : ℤ) (body : ℤ → State → Outcome) (within : ℤ → Store → ℕ → Run) → ((y : ℤ) (s : State) → s.steps ≤ steps_of (body y s))
    → ((y : ℤ) (s : State) → s.steps ≤ limit → within_limit limit (body y s) ≡ within y s.store s.steps) → (s : State) → s.steps ≤ limit
    → within_limit limit (turns node count x body s) ≡ turns_within limit node count x within s.store s.steps
turns_same limit node zero x body within grows same s le = ap (λ (t : Bool). if t then Ok (s.store, s.steps) else Err OutOfSteps) (le-leb s.steps limit le)
turns_same limit node (suc count) x body within grows same s le =
    let rest : State → Outcome = λ t. reading (in_int64 node (x +ℤ pos 1)) t (λ next. turns node count next body t) in
    let rest_grows : (t : State) → t.steps ≤ steps_of (rest t) = λ t. read_grows (in_int64 node (x +ℤ pos 1)) t (λ next. turns node count next body t) (λ next. turns_grow node count next body grows t) in
    step_same limit s.steps (then_do (body x (begun s)) rest) (λ n. after (within x s.store n) (λ left m. stuck_or (in_int64 node (x +ℤ pos 1)) (λ next. turns_within limit node count next within left m))) (grown (body x (begun s)) rest (s.steps + 1) (grows x (begun s)) rest_grows)
    (λ le'.
    then_same limit (body x (begun s)) rest (λ left m. stuck_or (in_int64 node (x +ℤ pos 1)) (λ next. turns_within limit node count next within left m)) rest_grows
    (λ t h. read_same limit (in_int64 node (x +ℤ pos 1)) t (λ next. turns node count next body t) (λ next. turns_within limit node count next within t.store t.steps) h (λ next. turns_same limit node count next body within grows same t h))
    ∙ ap (λ r. after r (λ left m. stuck_or (in_int64 node (x +ℤ pos 1)) (λ next. turns_within limit node count next within left m))) (same x (begun s) le'))

-- ---- Statements

chosen_grows : (t : Bool) (state : State) (o u : Outcome) → state.steps ≤ steps_of o → state.steps ≤ steps_of u → state.steps ≤ steps_of (if t then o else u)
chosen_grows true state o u h k = h
chosen_grows false state o u h k = k

chosen_same : (limit : ℕ) (t : Bool) (o u : Outcome) (r q : Run) → within_limit limit o ≡ r → within_limit limit u ≡ q → within_limit limit (if t then o else u) ≡ (if t then r else q)
chosen_same limit true o u r q same other = same
chosen_same limit false o u r q same other = other

assign_grows : (r : Result (Element × ℕ) Cause) (state : State) → state.steps ≤ steps_of (reading r (begun state) (λ stored. Ended (write stored.0 stored.1 (begun state))))
assign_grows (Ok x) state = omega arith
assign_grows (Err c) state = omega arith

assign_more : (r : Result (Element × ℕ) Cause) (state : State) → state.steps + 1 ≤ steps_of (reading r (begun state) (λ stored. Ended (write stored.0 stored.1 (begun state))))
assign_more (Ok x) state = omega arith
assign_more (Err c) state = omega arith

assign_same : (limit : ℕ) (r : Result (Element × ℕ) Cause) (state : State)
    → within_limit limit (reading r (begun state) (λ stored. Ended (write stored.0 stored.1 (begun state)))) ≡ step limit state.steps (λ n. stuck_or r (λ stored. Ok (with_value state.store stored.0 stored.1, n)))
assign_same limit r state =
    step_same limit state.steps (reading r (begun state) (λ stored. Ended (write stored.0 stored.1 (begun state)))) (λ n. stuck_or r (λ stored. Ok (with_value state.store stored.0 stored.1, n))) (assign_more r state)
    (λ le. read_same limit r (begun state) (λ stored. Ended (write stored.0 stored.1 (begun state))) (λ stored. Ok (with_value state.store stored.0 stored.1, state.steps + 1)) le
    (λ x. ap (λ (t : Bool). if t then Ok (with_value state.store x.0 x.1, state.steps + 1) else Err OutOfSteps) (le-leb (state.steps + 1) limit le)))

mutual
  pub agrees : (stmt : Stmt) → Agrees (denotation_of stmt) (exec_of stmt)
  agrees (s.For' iter low rel high shape body) =
      let ps : List Denotation = by_each stmt_step body in
      let qs : List Exec = by_each exec_step body in
      let h : AllAgree ps qs = agree_each body in
      let head : ℕ = 1 + nodes_of_ix low + nodes_of_ix high in
      record {
        nodes = ap (λ n. head + n) (all_nodes ps qs h);
        assigns = all_assigns ps qs h;
        grows = λ here scope state.
            read_grows (index_value low (here.node + 1) scope.names) state _ (λ first.
            read_grows (index_value high (here.node + 1 + nodes_of_ix low) scope.names) state _ (λ last.
            turns_grow here.node (turns_of rel first last) first (λ x. in_order ps (inside here head) (with_iterator scope x)) (λ y s. all_grow ps qs h (inside here head) (with_iterator scope y) s) state));
        same = λ limit here scope state le.
            read_same limit (index_value low (here.node + 1) scope.names) state _ _ le (λ first.
            read_same limit (index_value high (here.node + 1 + nodes_of_ix low) scope.names) state _ _ le (λ last.
            turns_same limit here.node (turns_of rel first last) first (λ x. in_order ps (inside here head) (with_iterator scope x)) (λ x. all_of limit qs (inside here head) (with_iterator scope x))
            (λ y s. all_grow ps qs h (inside here head) (with_iterator scope y) s) (λ y s l. all_same ps qs h limit (inside here head) (with_iterator scope y) s l) state le));
      }
  agrees (s.If' cond shape body shape' other) =
      let ps : List Denotation = by_each stmt_step body in
      let qs : List Exec = by_each exec_step body in
      let ps' : List Denotation = by_each stmt_step other in
      let qs' : List Exec = by_each exec_step other in
      let h : AllAgree ps qs = agree_each body in
      let h' : AllAgree ps' qs' = agree_each other in
      let head : ℕ = 1 + nodes_of_cond cond in
      record {
        nodes = λ i. head + all_nodes ps qs h i + all_nodes ps' qs' h' i;
        assigns = λ i. all_assigns ps qs h i + all_assigns ps' qs' h' i;
        grows = λ here scope state.
            read_grows (condition cond (here.node + 1) scope.names) state _ (λ t.
            chosen_grows t state (in_order ps (inside here head) scope state) (in_order ps' (past_all ps (inside here head)) scope state)
            (all_grow ps qs h (inside here head) scope state) (all_grow ps' qs' h' (past_all ps (inside here head)) scope state));
        same = λ limit here scope state le.
            let behind : beyond_all qs (inside here head) ≡ past_all ps (inside here head) = λ i. record { node = here.node + head + all_nodes ps qs h i; statement = here.statement + all_assigns ps qs h i } in
            read_same limit (condition cond (here.node + 1) scope.names) state _ _ le (λ t.
            chosen_same limit t (in_order ps (inside here head) scope state) (in_order ps' (past_all ps (inside here head)) scope state) _ _ (all_same ps qs h limit (inside here head) scope state le)
            (all_same ps' qs' h' limit (past_all ps (inside here head)) scope state le ∙ (λ i. all_of limit qs' (sym behind i) scope state.store state.steps)));
      }
  agrees (s.Assign op array subs value) = record {
    nodes = refl;
    assigns = refl;
    grows = λ here scope state. assign_grows (assigned op array subs value here.node scope state.store (record { statement = here.statement; iterators = scope.iterators })) state;
    same = λ limit here scope state le. assign_same limit (assigned op array subs value here.node scope state.store (record { statement = here.statement; iterators = scope.iterators })) state;
  }
  agrees (s.Block' locals shape body) =
      let ps : List Denotation = by_each stmt_step body in
      let qs : List Exec = by_each exec_step body in
      let h : AllAgree ps qs = agree_each body in
      let head : ℕ = 1 + nodes_of_locals locals in
      record {
        nodes = ap (λ n. head + n) (all_nodes ps qs h);
        assigns = all_assigns ps qs h;
        grows = λ here scope state. read_grows (with_locals locals (here.node + 1) scope) state _ (λ inner. all_grow ps qs h (inside here head) inner state);
        same = λ limit here scope state le. read_same limit (with_locals locals (here.node + 1) scope) state _ _ le (λ inner. all_same ps qs h limit (inside here head) inner state le);
      }

  pub agree_each : {n : _} (body : Row_of-Stmt n) → AllAgree (by_each stmt_step body) (by_each exec_step body)
  agree_each end_of-Stmt = tt
  agree_each (more_of-Stmt x rest) = (agrees x, agree_each rest)

pub all_agree : (body : List Stmt) → AllAgree (map denotation_of body) (map exec_of body)
all_agree [] = tt
all_agree (x ∷ xs) = (agrees x, all_agree xs)

pub runs_cut : (limit : ℕ) (body : List Stmt) (here : Position) (scope : Scope) (store : Store) → within_limit limit (in_order (map denotation_of body) here scope (record { store = store; written = []; steps = 0 })) ≡ all_of limit (map exec_of body) here scope store 0
runs_cut limit body here scope store = all_same (map denotation_of body) (map exec_of body) (all_agree body) limit here scope (record { store = store; written = []; steps = 0 }) (omega arith)

pub run_nodes : (body : List Stmt) → sum_by (λ q. q.nodes) (map exec_of body) ≡ nodes_in (map denotation_of body)
run_nodes body = all_nodes (map denotation_of body) (map exec_of body) (all_agree body)

pub run_assigns : (body : List Stmt) → sum_by (λ q. q.assigns) (map exec_of body) ≡ assigns_in (map denotation_of body)
run_assigns body = all_assigns (map denotation_of body) (map exec_of body) (all_agree body)
