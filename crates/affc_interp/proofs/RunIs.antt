-- A run within a number of steps, by what its machine does.
use Rattle.std.proofs.Common.{◌≡◌, ℕ, suc, ◌+◌, ℤ, List, [], ◌∷◌, ◌++◌, length, length-append, map, Option, Ok, Err, refl, sym, ap, subst, ◌∙◌, arith}
use Rattle.std.specs.Prelude.{MatchOption, sum_by}
use Rattle.affc_ast.specs.declared.tree.Decl.{Decl}
use Rattle.affc_ast.specs.declared.tree.Param.{Param}
use Rattle.affc_ast.specs.declared.tree.Stmt.{Stmt}
use Rattle.affc_ast.specs.Index.{nodes_of_ix}
use Rattle.affc_ast.proofs.Readings.{bind_ok, same_ok}
use Rattle.affc_interp.specs.Layout.{Held, start_of, subscripts_of}
use Rattle.affc_interp.proofs.Adds.{nothing_more, none_given}
use Rattle.affc_ast.specs.declared.tree.Instance.{Instance}
use Rattle.affc_interp.specs.declared.fault.Halt.{Halt}
use Rattle.affc_interp.specs.declared.fault.Halt.TheVariants as halt
use Rattle.affc_interp.specs.declared.machine.Machine.{Machine}
use Rattle.affc_interp.specs.declared.run.RunFault.{RunFault}
use Rattle.affc_ast.specs.declared.tree.Program.{Program}
use Rattle.affc_ast.specs.Meaning.{State, arrays_of, extents_of, all_extents, denotation_of, meaning}
use Rattle.affc_ast.specs.Store.{Store}
use Rattle.affc_interp.specs.Budget.{Run, Stop, stuck_or, all_of, exec_of}
use Rattle.affc_interp.specs.Machines.{Finishes, Halts, scope_of, position}
use Rattle.affc_ast.specs.Counted.{array_count, temps_node, body_node}
use Rattle.affc_interp.specs.Runs.{within_limit, start}
use Rattle.affc_interp.specs.Arrays.{StopsAs, AllDeclared}
use Rattle.affc_interp.specs.Begun.{Begins, with_extents, SaysSo, Answers, halt_of, stop_of}
use Rattle.affc_interp.proofs.Moves.{each_is}
use Rattle.affc_interp.proofs.Agrees.{read_same, all_same, all_agree}

pub run_is : (limit : ℕ) (program : Program) (p : List ℤ) (store : Store) → within_limit limit (meaning program p store)
    ≡ stuck_or (all_extents 0 (arrays_of program.params) 0 p) (λ given. stuck_or (all_extents (length (arrays_of program.params)) program.temps (temps_node program) p) (λ own. all_of limit (map exec_of program.body) (position (body_node program) 0) (record { names = p; iterators = []; extents = given ++ own }) store 0))
run_is limit program p store =
    let state : State = record { store = store; written = []; steps = 0 } in
    read_same limit (all_extents 0 (arrays_of program.params) 0 p) state _ _ (omega arith) (λ given.
    read_same limit (all_extents (length (arrays_of program.params)) program.temps (temps_node program) p) state _ _ (omega arith) (λ own.
    all_same (map denotation_of program.body) (map exec_of program.body) (all_agree program.body) limit (position (body_node program) 0) (record { names = p; iterators = []; extents = given ++ own }) state (omega arith)))

module _ (limit : ℕ) (program : Program) (p : List ℤ) (values : List (List ℕ)) where
  abbrev outcome : Run
  outcome = within_limit limit (meaning program p (start program p values))

  abbrev body_run : List (List ℤ) → List (List ℤ) → Run
  body_run given own = all_of limit (map exec_of program.body) (position (body_node program) 0) (record { names = p; iterators = []; extents = given ++ own }) (start program p values) 0

  outcome_is : outcome ≡ with_extents program p body_run
  outcome_is = run_is limit program p (start program p values)

  -- what the machine runs from here on
  abbrev machine_run : Machine → ℕ → Run
  machine_run m node = all_of m.limit (map exec_of program.body) (position node 0) (scope_of m) m.memory.store m.steps

  from_machine : (m : Machine) (node : ℕ) → Begins (Ok (m, node)) program p values limit → outcome ≡ machine_run m node
  from_machine m node b =
      outcome_is
      ∙ ap (λ r. stuck_or r (λ given. stuck_or (all_extents (length (arrays_of program.params)) program.temps (temps_node program) p) (λ own. body_run given own))) b.2
      ∙ ap (λ r. stuck_or r (λ own. body_run b.0 own)) b.3
      ∙ (let st : start program p values ≡ m.memory.store = ap (λ es. start_of 0 es values) (each_is 0 (arrays_of program.params) 0 p b.0 b.2) ∙ sym b.5 in
      λ i. all_of (sym b.7 i) (map exec_of program.body) (position (sym b.8 i) 0) (sym b.4 i) (st i) (sym b.6 i))

  sliced : (m : Machine) (node : ℕ) (slice : List Stmt) → slice ≡ program.body → Begins (Ok (m, node)) program p values limit → outcome ≡ all_of m.limit (map exec_of slice) (position node 0) (scope_of m) m.memory.store m.steps
  sliced m node slice e b = from_machine m node b ∙ ap (λ l. all_of m.limit (map exec_of l) (position node 0) (scope_of m) m.memory.store m.steps) (sym e)

  pub ended : (m left : Machine) (node : ℕ) (slice : List Stmt) → slice ≡ program.body → Begins (Ok (m, node)) program p values limit
      → Finishes (Ok tt) m left (all_of m.limit (map exec_of slice) (position node 0) (scope_of m) m.memory.store m.steps) → Answers (Ok left.memory.store) outcome
  ended m left node slice e b run = (left.steps, sliced m node slice e b ∙ run.0)

  says : (f : RunFault) (s : Option Stop) → stop_of f ≡ s → MatchOption s (Unit {0}) (λ stop. outcome ≡ Err stop) → Answers (Err f) outcome
  says f s e h = subst (λ (o : Option Stop). MatchOption o (Unit {0}) (λ stop. outcome ≡ Err stop)) (sym e) h

  halted : (left : Machine) (h : Halt) (r : Run) → outcome ≡ r → Halts left h r → MatchOption (halt_of left.here h) (Unit {0}) (λ stop. outcome ≡ Err stop)
  halted left (halt.Fault f) r e q = e ∙ q
  halted left halt.Steps r e q = e ∙ q
  halted left halt.Memory r e q = tt

  pub stopped : (m left : Machine) (node : ℕ) (h : Halt) (f : RunFault) (slice : List Stmt) → slice ≡ program.body → Begins (Ok (m, node)) program p values limit
      → Halts left h (all_of m.limit (map exec_of slice) (position node 0) (scope_of m) m.memory.store m.steps) → SaysSo h left.here f → Answers (Err f) outcome
  stopped m left node h f slice e b q s = says f (halt_of left.here h) s (halted left h _ (sliced m node slice e b) q)

  unbegun_as : (h : Halt) (here : Instance) → Begins (Err h) program p values limit → MatchOption (halt_of here h) (Unit {0}) (λ stop. outcome ≡ Err stop)
  unbegun_as (halt.Fault f) here b = outcome_is ∙ b here body_run
  unbegun_as halt.Steps here b = absurd b
  unbegun_as halt.Memory here b = tt

  pub unbegun : (h : Halt) (here : Instance) (f : RunFault) → Begins (Err h) program p values limit → SaysSo h here f → Answers (Err f) outcome
  unbegun h here f b s = says f (halt_of here h) s (unbegun_as h here b)

  -- the reasons why there is no machine
  pub no_params : (h : Halt) → StopsAs h (all_extents 0 (arrays_of program.params) 0 p) → Begins (Err h) program p values limit
  no_params (halt.Fault f) q = λ here body. ap (λ r. stuck_or r (λ given. stuck_or (all_extents (length (arrays_of program.params)) program.temps (temps_node program) p) (λ own. body given own))) (q here)
  no_params halt.Steps q = q
  no_params halt.Memory q = tt

  pub no_temps : (h : Halt) (given : List (List ℤ)) (a n : ℕ) → all_extents 0 (arrays_of program.params) 0 p ≡ Ok given → a ≡ length (arrays_of program.params) → n ≡ temps_node program → StopsAs h (all_extents a program.temps n p) → Begins (Err h) program p values limit
  no_temps (halt.Fault f) given a n e ea en q = λ here body.
      ap (λ r. stuck_or r (λ given. stuck_or (all_extents (length (arrays_of program.params)) program.temps (temps_node program) p) (λ own. body given own))) e
      ∙ (λ i. stuck_or (all_extents (sym ea i) program.temps (sym en i) p) (λ own. body given own)) ∙ ap (λ r. stuck_or r (λ own. body given own)) (q here)
  no_temps halt.Steps given a n e ea en q = q
  no_temps halt.Memory given a n e ea en q = tt

as_many_extents : (a : ℕ) (ds : List Decl) (node : ℕ) (names : List ℤ) (es : List (List ℤ)) → all_extents a ds node names ≡ Ok es → length es ≡ length ds
as_many_extents a [] node names es e = ap length (sym (same_ok [] es e))
as_many_extents a (d ∷ ds) node names es e =
    let p = bind_ok (extents_of a d.extents node names) _ es e in
    let q = bind_ok (all_extents (a + 1) ds (node + sum_by nodes_of_ix d.extents) names) _ es p.2 in
    ap length (sym (same_ok (p.0 ∷ q.0) es q.2)) ∙ ap suc (as_many_extents (a + 1) ds (node + sum_by nodes_of_ix d.extents) names q.0 q.1)

-- as many arrays as the program has
pub arrays_there : (program : Program) (p : List ℤ) (values : List (List ℕ)) (limit : ℕ) (m : Machine) (node : ℕ) → Begins (Ok (m, node)) program p values limit → length m.memory.extents ≡ array_count program
arrays_there program p values limit m node b =
    ap (λ s. length s.extents) b.4 ∙ length-append b.0 b.1 ∙ (λ i. as_many_extents 0 (arrays_of program.params) 0 p b.0 b.2 i + as_many_extents (length (arrays_of program.params)) program.temps (temps_node program) p b.1 b.3 i)

nothing_started : (k : ℕ) (es : List (List ℤ)) → start_of k es [] ≡ []
nothing_started k [] = refl
nothing_started k (ns ∷ es) = (λ i. none_given k (subscripts_of ns) i ++ start_of (suc k) es []) ∙ nothing_started (suc k) es

pub begins_ok : (program : Program) (p : List ℤ) (values : List (List ℕ)) (limit : ℕ) (params : List Param) (temps : List Decl) (n1 n2 : List ℤ) (arrays : List (List ℕ)) (a t node : ℕ) (m0 m1 m2 : Held) (m : Machine)
    → params ≡ program.params → temps ≡ program.temps → n1 ≡ p → n2 ≡ p → arrays ≡ values → a ≡ length (arrays_of params) → t ≡ temps_node program → node ≡ body_node program → m0 ≡ record { extents = []; store = [] }
    → AllDeclared (Ok tt) m0 m1 arrays (all_extents 0 (arrays_of params) 0 n1) → AllDeclared (Ok tt) m1 m2 [] (all_extents a temps t n2)
    → scope_of m ≡ record { names = p; iterators = []; extents = m2.extents } → m.memory.store ≡ m2.store → m.steps ≡ 0 → m.limit ≡ limit → Begins (Ok (m, node)) program p values limit
begins_ok program p values limit params temps n1 n2 arrays a t node m0 m1 m2 m ep et en1 en2 ev ea ett en e0 d1 d2 scope store steps lim = (
  d1.0,
  d2.0,
  (λ i. all_extents 0 (arrays_of (sym ep i)) 0 (sym en1 i)) ∙ d1.1,
  (λ i. all_extents (sym (ea ∙ ap (λ l. length (arrays_of l)) ep) i) (sym et i) (sym ett i) (sym en2 i)) ∙ d2.1,
  scope ∙ ap (λ e. record { names = p; iterators = []; extents = e }) (d2.2 ∙ ap (λ l. l ++ d2.0) (d1.2 ∙ ap (λ h. h.extents ++ d1.0) e0)),
  store ∙ d2.3 ∙ ap (λ l. m1.store ++ l) (nothing_started (length m1.extents) d2.0) ∙ nothing_more m1.store ∙ d1.3 ∙ ap (λ h. h.store ++ start_of (length h.extents) d1.0 arrays) e0 ∙ ap (λ v. start_of 0 d1.0 v) ev,
  steps,
  lim,
  en,
)
