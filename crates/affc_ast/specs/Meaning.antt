-- What a program does.
use Rattle.std.specs.Prelude.{ℕ, zero, suc, ◌+◌, ℤ, pos, negsuc, ◌+ℤ◌, ◌-ℤ◌, int_lt, if◌then◌else◌, List, [], ◌∷◌, ◌++◌, length, Option, Some, None, Result, Ok, Err, map, sum_by}
use Rattle.affc_ast.specs.declared.tree.ArrayId.{ArrayId}
use Rattle.affc_ast.specs.declared.tree.Decl.{Decl}
use Rattle.affc_ast.specs.declared.tree.Instance.{Instance}
use Rattle.affc_ast.specs.declared.tree.Ix.{Ix}
use Rattle.affc_ast.specs.declared.tree.Local.{Local}
use Rattle.affc_ast.specs.declared.tree.Op.{Op}
use Rattle.affc_ast.specs.declared.tree.Param.{Param}
use Rattle.affc_ast.specs.declared.tree.Param.TheVariants.{Number, Array}
use Rattle.affc_ast.specs.declared.tree.Program.{Program}
use Rattle.affc_ast.specs.declared.tree.Rel.{Rel}
use Rattle.affc_ast.specs.declared.tree.Rel.TheVariants.{Less, LessEqual}
use Rattle.affc_ast.specs.declared.tree.Stmt.{Stmt}
use Rattle.affc_ast.specs.declared.tree.Stmt.TheOpen.{Stmt-F, For, If, Assign, Block}
use Rattle.affc_ast.specs.declared.tree.Val.{Val}
use Rattle.affc_ast.specs.Cause.{Cause, Extent, ◌>>=◌}
use Rattle.affc_ast.specs.Conditions.{nodes_of_cond, condition}
use Rattle.affc_ast.specs.Index.{nodes_of_ix, index_value, index_values, in_int64, nodes_of_compare}
use Rattle.affc_ast.specs.Values.{Scope, operate, value_of, touch, load}
use Rattle.affc_ast.specs.Recursion.{by_stmt}
use Rattle.affc_ast.specs.Store.{Element, Store, with_value}

-- ---- Outcomes

-- what a run has done so far: what the arrays hold, its stores in order, each as an element and a value, and how
-- many turns of loops and assignments it has begun
pub record State : Type 0 where
  pub store : Store
  pub written : List (Element × ℕ)
  pub steps : ℕ

pub data Outcome : Type 0 where
  Ended : State → Outcome
  Stuck : Cause → (steps : ℕ) → Outcome

-- does first the one and then, from where it has ended, the other
abbrev pub then_do : Outcome → (State → Outcome) → Outcome
then_do (Ended state) next = next state
then_do (Stuck cause steps) next = Stuck cause steps

-- goes on with what was read
abbrev pub reading : {A : Type 0} → Result A Cause → State → (A → Outcome) → Outcome
reading (Ok x) state next = next x
reading (Err cause) state next = Stuck cause state.steps

abbrev pub begun : State → State
begun s = record s { steps = s.steps + 1 }

abbrev pub write : Element → ℕ → State → State
write x v s = record s { store = with_value s.store x v; written = s.written ++ (x, v) ∷ [] }

-- ---- Statements

-- the numbers of the next node and of the next assignment
pub record Position : Type 0 where
  pub node : ℕ
  pub statement : ℕ

-- a statement: how many nodes and assignments it has, and what it does where it stands
pub record Denotation : Type 0 where
  pub nodes : ℕ
  pub assigns : ℕ
  pub run : Position → Scope → State → Outcome

abbrev pub nodes_in : List Denotation → ℕ
nodes_in ps = sum_by (λ p. p.nodes) ps

abbrev pub assigns_in : List Denotation → ℕ
assigns_in ps = sum_by (λ p. p.assigns) ps

-- the position after a statement
abbrev pub past : Denotation → Position → Position
past p here = record { node = here.node + p.nodes; statement = here.statement + p.assigns }

-- the position after several statements
abbrev pub past_all : List Denotation → Position → Position
past_all ps here = record { node = here.node + nodes_in ps; statement = here.statement + assigns_in ps }

-- the position after the first nodes of a statement
abbrev pub inside : Position → (nodes : ℕ) → Position
inside here nodes = record here { node = here.node + nodes }

-- one statement after another
abbrev pub in_order : List Denotation → Position → Scope → State → Outcome
in_order [] here scope state = Ended state
in_order (p ∷ ps) here scope state = then_do (p.run here scope state) (in_order ps (past p here) scope)

-- with one more local in sight
abbrev pub with_local : Scope → ℤ → Scope
with_local scope x = record scope { names = scope.names ++ x ∷ [] }

-- with one more iterator in sight
abbrev pub with_iterator : Scope → ℤ → Scope
with_iterator scope x = record scope { names = scope.names ++ x ∷ []; iterators = scope.iterators ++ x ∷ [] }

-- ---- Loops

abbrev pub at_least_zero : ℤ → ℕ
at_least_zero (pos n) = n
at_least_zero (negsuc n) = 0

-- How many turns a loop from `low` with the step 1 makes, as long as the iterator is less than `high`, or at
-- most `high`. A `for` has no other relation.
abbrev pub turns_of : Rel → (low high : ℤ) → ℕ
turns_of Less low high = at_least_zero (high -ℤ low)
turns_of LessEqual low high = at_least_zero (high +ℤ pos 1 -ℤ low)
turns_of _ low high = 0

-- This many turns, the first with this value of the iterator. After each turn the iterator is stepped, and the
-- result has to be an `int64_t` (6.8.5.3; 6.5).
abbrev pub turns : (node : ℕ) → (count : ℕ) → ℤ → (body : ℤ → State → Outcome) → State → Outcome
turns node zero x body state = Ended state
turns node (suc count) x body state =
    then_do (body x (begun state)) (λ after.
    reading (in_int64 node (x +ℤ pos 1)) after (λ next.
    turns node count next body after))

-- ---- Assignments

abbrev pub own_loads : Option Op → ℕ
own_loads None = 0
own_loads (Some op) = 1

-- `A[..] op= e` loads its own element, as its first access, before `e` is read
abbrev pub own_value : Option Op → Scope → Store → Instance → ArrayId → List ℤ → Result ℕ Cause
own_value None scope store here array subscripts = Ok 0
own_value (Some op) scope store here array subscripts = load scope store here 0 array subscripts

-- the value that is stored (6.5.16)
abbrev pub combined : Option Op → (own : ℕ) → ℕ → ℕ
combined None own v = v
combined (Some op) own v = operate op own v

-- what an assignment stores, and where: its subscripts are read from the left, then its value, and then the element is stored
abbrev pub assigned : Option Op → ArrayId → List Ix → Val → (node : ℕ) → Scope → Store → Instance → Result (Element × ℕ) Cause
assigned op array subs e node scope store here = do
  xs ← index_values subs (node + 1) scope.names
  own ← own_value op scope store here array xs
  v ← (value_of e).value (record { node = node + 1 + sum_by nodes_of_ix subs; access = own_loads op; scope = scope; store = store; here = here })
  x ← touch scope here (own_loads op + (value_of e).loads) array xs
  Ok (x, combined op own v)

-- ---- Blocks

abbrev pub nodes_of_locals : List Local → ℕ
nodes_of_locals ls = sum_by (λ l. nodes_of_ix l.value) ls

-- the values of a block's locals, each with those before it in sight
abbrev pub with_locals : List Local → (node : ℕ) → Scope → Result Scope Cause
with_locals [] node scope = Ok scope
with_locals (l ∷ ls) node scope =
    index_value l.value node scope.names >>= (λ x. with_locals ls (node + nodes_of_ix l.value) (with_local scope x))

-- ---- What each statement does, once what each statement in its body does is known

abbrev pub stmt_step : Stmt-F Denotation → Denotation
-- The lower bound is read once (6.8.5.3). The upper bound is read before each turn: it holds the same names with
-- the same values each time, so it is what it was before the first turn, and the number of turns is known then.
stmt_step (For iter low rel high body) =
    let head = 1 + nodes_of_ix low + nodes_of_ix high in
    record {
      nodes = head + nodes_in body;
      assigns = assigns_in body;
      run = λ here scope state.
          reading (index_value low (here.node + 1) scope.names) state (λ first.
          reading (index_value high (here.node + 1 + nodes_of_ix low) scope.names) state (λ last.
          turns here.node (turns_of rel first last) first (λ x. in_order body (inside here head) (with_iterator scope x)) state));
    }
-- (6.8.4.1)
stmt_step (If cond body other) =
    let head = 1 + nodes_of_cond cond in
    record {
      nodes = head + nodes_in body + nodes_in other;
      assigns = assigns_in body + assigns_in other;
      run = λ here scope state.
          reading (condition cond (here.node + 1) scope.names) state (λ holds.
          if holds then in_order body (inside here head) scope state else in_order other (past_all body (inside here head)) scope state);
    }
stmt_step (Assign op array subs e) =
    record {
      nodes = 1 + sum_by nodes_of_ix subs + (value_of e).nodes;
      assigns = 1;
      run = λ here scope state.
          let instance : Instance = record { statement = here.statement; iterators = scope.iterators } in
          reading (assigned op array subs e here.node scope state.store instance) (begun state) (λ stored.
          Ended (write stored.0 stored.1 (begun state)));
    }
stmt_step (Block locals body) =
    let head = 1 + nodes_of_locals locals in
    record {
      nodes = head + nodes_in body;
      assigns = assigns_in body;
      run = λ here scope state.
          reading (with_locals locals (here.node + 1) scope) state (λ inner.
          in_order body (inside here head) inner state);
    }

abbrev pub denotation_of : Stmt → Denotation
denotation_of = by_stmt stmt_step

-- ---- Programs

-- the array parameters, in order
abbrev pub arrays_of : List Param → List Decl
arrays_of [] = []
arrays_of (Number name low high ∷ ps) = arrays_of ps
arrays_of (Array decl ∷ ps) = decl ∷ arrays_of ps

abbrev pub nodes_of_decls : List Decl → ℕ
nodes_of_decls ds = sum_by (λ d. sum_by nodes_of_ix d.extents) ds

-- an array's extents in order, up to the first that is below 1 (6.7.6.2)
abbrev pub extents_of : (array : ℕ) → List Ix → (node : ℕ) → (names : List ℤ) → Result (List ℤ) Cause
extents_of array [] node names = Ok []
extents_of array (e ∷ es) node names = do
  n ← index_value e node names
  ns ← if int_lt n (pos 1) then Err (Extent array) else extents_of array es (node + nodes_of_ix e) names
  Ok (n ∷ ns)

-- those of each array, in order of declaration
abbrev pub all_extents : (array : ℕ) → List Decl → (node : ℕ) → (names : List ℤ) → Result (List (List ℤ)) Cause
all_extents array [] node names = Ok []
all_extents array (d ∷ ds) node names = do
  ns ← extents_of array d.extents node names
  rest ← all_extents (array + 1) ds (node + sum_by nodes_of_ix d.extents) names
  Ok (ns ∷ rest)

-- A run with these values of the parameters, from what the arrays hold. Nodes are numbered in the extents of the
-- array parameters, the context, the extents of the temporaries and the body, in this order. The context has
-- nodes and isn't read by a run.
abbrev pub meaning : Program → (p : List ℤ) → Store → Outcome
meaning program p store =
    let arrays = arrays_of program.params in
    let start : State = record { store = store; written = []; steps = 0 } in
    let temps = nodes_of_decls arrays + sum_by nodes_of_compare program.context in
    let body = temps + nodes_of_decls program.temps in
    reading (all_extents 0 arrays 0 p) start (λ given.
    reading (all_extents (length arrays) program.temps temps p) start (λ own.
    in_order (map denotation_of program.body) (record { node = body; statement = 0 }) (record { names = p; iterators = []; extents = given ++ own }) start))
