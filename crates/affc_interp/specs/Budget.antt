-- A run that takes no more than so many steps: what its parts do, for the clauses of the parts.
--
-- It says what the meaning says, without the list of stores, and stops where the steps are used up.
use Rattle.std.specs.Prelude.{ℕ, zero, suc, ◌+◌, ℤ, pos, ◌+ℤ◌, nat_lt, if◌then◌else◌, ◌&&◌, Bool, true, List, [], ◌∷◌, Option, Result, Ok, Err, sum_by}
use Rattle.affc_ast.specs.declared.tree.ArrayId.{ArrayId}
use Rattle.affc_ast.specs.declared.tree.Cond.{Cond}
use Rattle.affc_ast.specs.declared.tree.Instance.{Instance}
use Rattle.affc_ast.specs.declared.tree.Ix.{Ix}
use Rattle.affc_ast.specs.declared.tree.Local.{Local}
use Rattle.affc_ast.specs.declared.tree.Op.{Op}
use Rattle.affc_ast.specs.declared.tree.Rel.{Rel}
use Rattle.affc_ast.specs.declared.tree.Stmt.{Stmt}
use Rattle.affc_ast.specs.declared.tree.Stmt.TheOpen.{Stmt-F, For, If, Assign, Block}
use Rattle.affc_ast.specs.declared.tree.Val.{Val}
use Rattle.affc_ast.specs.Cause.{Cause}
use Rattle.affc_ast.specs.Conditions.{nodes_of_cond, condition}
use Rattle.affc_ast.specs.Index.{nodes_of_ix, index_value, in_int64}
use Rattle.affc_ast.specs.Meaning.{Position, turns_of, assigned, nodes_of_locals, with_iterator, with_locals, inside}
use Rattle.affc_ast.specs.Recursion.{by_stmt}
use Rattle.affc_ast.specs.Store.{Store, with_value}
use Rattle.affc_ast.specs.Values.{Scope, value_of}

-- why a run stops before its end
pub data Stop : Type 0 where
  StuckBy : Cause → Stop
  OutOfSteps : Stop

-- what the arrays hold, and how many steps were begun
abbrev pub Run : Type 0
Run = Result (Store × ℕ) Stop

abbrev pub after : Run → (Store → ℕ → Run) → Run
after (Ok s) next = next s.0 s.1
after (Err stop) next = Err stop

abbrev pub stuck_or : {A : Type 0} → Result A Cause → (A → Run) → Run
stuck_or (Ok x) next = next x
stuck_or (Err cause) next = Err (StuckBy cause)

-- begins one more step, if there is one left
abbrev pub step : (limit steps : ℕ) → (ℕ → Run) → Run
step limit steps next = if nat_lt steps limit then next (steps + 1) else Err OutOfSteps

-- a statement: its nodes and assignments, whether each assignment is to one of so many arrays, and what it does
pub record Exec : Type 0 where
  pub nodes : ℕ
  pub assigns : ℕ
  pub within : (arrays : ℕ) → Bool
  pub run : (limit : ℕ) → Position → Scope → Store → (steps : ℕ) → Run

abbrev pub all_within : List Exec → (arrays : ℕ) → Bool
all_within [] n = true
all_within (p ∷ ps) n = p.within n && all_within ps n

abbrev pub nodes_among : List Exec → ℕ
nodes_among ps = sum_by (λ p. p.nodes) ps

abbrev pub assigns_among : List Exec → ℕ
assigns_among ps = sum_by (λ p. p.assigns) ps

abbrev pub beyond : Exec → Position → Position
beyond p here = record { node = here.node + p.nodes; statement = here.statement + p.assigns }

abbrev pub beyond_all : List Exec → Position → Position
beyond_all ps here = record { node = here.node + nodes_among ps; statement = here.statement + assigns_among ps }

abbrev pub all_of : (limit : ℕ) → List Exec → Position → Scope → Store → ℕ → Run
all_of limit [] here scope store steps = Ok (store, steps)
all_of limit (p ∷ ps) here scope store steps = after (p.run limit here scope store steps) (all_of limit ps (beyond p here) scope)

abbrev pub turns_within : (limit node count : ℕ) → ℤ → (body : ℤ → Store → ℕ → Run) → Store → ℕ → Run
turns_within limit node zero x body store steps = Ok (store, steps)
turns_within limit node (suc count) x body store steps =
    step limit steps (λ n.
    after (body x store n) (λ left m.
    stuck_or (in_int64 node (x +ℤ pos 1)) (λ next.
    turns_within limit node count next body left m)))

abbrev pub assign_within : (limit : ℕ) → Option Op → ArrayId → List Ix → Val → Position → Scope → Store → ℕ → Run
assign_within limit op array subs e here scope store steps =
    let instance : Instance = record { statement = here.statement; iterators = scope.iterators } in
    step limit steps (λ n.
    stuck_or (assigned op array subs e here.node scope store instance) (λ stored.
    Ok (with_value store stored.0 stored.1, n)))

-- one turn: its step, the body, and the iterator's step
abbrev pub once : (limit node : ℕ) → ℤ → (body : ℤ → Store → ℕ → Run) → Store → ℕ → Run
once limit node x body store steps =
    step limit steps (λ n.
    after (body x store n) (λ left m.
    stuck_or (in_int64 node (x +ℤ pos 1)) (λ next. Ok (left, m))))

abbrev pub for_run : Ix → Rel → Ix → List Exec → (limit : ℕ) → Position → Scope → Store → ℕ → Run
for_run low rel high body limit here scope store steps =
    stuck_or (index_value low (here.node + 1) scope.names) (λ first.
    stuck_or (index_value high (here.node + 1 + nodes_of_ix low) scope.names) (λ last.
    turns_within limit here.node (turns_of rel first last) first (λ x. all_of limit body (inside here (1 + nodes_of_ix low + nodes_of_ix high)) (with_iterator scope x)) store steps))

abbrev pub if_run : Cond → (body other : List Exec) → (limit : ℕ) → Position → Scope → Store → ℕ → Run
if_run cond body other limit here scope store steps =
    let inner = inside here (1 + nodes_of_cond cond) in
    stuck_or (condition cond (here.node + 1) scope.names) (λ holds.
    if holds then all_of limit body inner scope store steps else all_of limit other (beyond_all body inner) scope store steps)

abbrev pub block_run : List Local → List Exec → (limit : ℕ) → Position → Scope → Store → ℕ → Run
block_run locals body limit here scope store steps =
    stuck_or (with_locals locals (here.node + 1) scope) (λ inner.
    all_of limit body (inside here (1 + nodes_of_locals locals)) inner store steps)

abbrev pub exec_step : Stmt-F Exec → Exec
exec_step (For iter low rel high body) = record {
  nodes = 1 + nodes_of_ix low + nodes_of_ix high + nodes_among body;
  assigns = assigns_among body;
  within = all_within body;
  run = for_run low rel high body;
}
exec_step (If cond body other) = record {
  nodes = 1 + nodes_of_cond cond + nodes_among body + nodes_among other;
  assigns = assigns_among body + assigns_among other;
  within = λ n. all_within body n && all_within other n;
  run = if_run cond body other;
}
exec_step (Assign op array subs e) = record {
  nodes = 1 + sum_by nodes_of_ix subs + (value_of e).nodes;
  assigns = 1;
  within = λ n. nat_lt array.0 n;
  run = λ limit. assign_within limit op array subs e;
}
exec_step (Block locals body) = record {
  nodes = 1 + nodes_of_locals locals + nodes_among body;
  assigns = assigns_among body;
  within = all_within body;
  run = block_run locals body;
}

abbrev pub exec_of : Stmt → Exec
exec_of = by_stmt exec_step
