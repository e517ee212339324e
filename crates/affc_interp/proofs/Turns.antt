-- A loop's turns, in the machine that makes them.
use Rattle.std.proofs.Common.{◌≡◌, ℕ, ◌+◌, ◌-◌, ◌<◌, ℤ, pos, ◌+ℤ◌, true, List, Ok, sym, ap, ◌∙◌}
use Rattle.affc_ast.specs.declared.tree.Stmt.{Stmt}
use Rattle.affc_ast.specs.Index.{is_int64}
use Rattle.affc_ast.specs.Store.{Store}
use Rattle.affc_interp.specs.declared.fault.Halt.{Halt}
use Rattle.affc_interp.specs.declared.fault.Halt.TheVariants as halt
use Rattle.affc_interp.specs.declared.machine.Machine.{Machine}
use Rattle.affc_interp.specs.Budget.{Run, after, once, turns_within}
use Rattle.affc_interp.specs.Machines.{Finishes, Halts, scope_of, turn_of}
use Rattle.affc_interp.proofs.Loops.{turn_and_rest, next_one}

-- after k turns of a loop that began in m0 it goes on in m1
abbrev pub GoesOn : (node inner statement count : ℕ) → ℤ → List Stmt → Machine → (k : ℕ) → Machine → Type 0
GoesOn node inner statement count first body m0 k m1 =
    (is_int64 (first +ℤ pos k) ≡ true) × (scope_of m1 ≡ scope_of m0) × (m1.limit ≡ m0.limit)
    × (turns_within m0.limit node count first (turn_of m0.limit body inner statement (scope_of m0)) m0.memory.store m0.steps
    ≡ turns_within m0.limit node (count - k) (first +ℤ pos k) (turn_of m0.limit body inner statement (scope_of m0)) m1.memory.store m1.steps)

module _ (node inner statement count k : ℕ) (first x : ℤ) (body : List Stmt) (m0 m1 : Machine) (less : k < count) (is : x ≡ first +ℤ pos k) (inv : GoesOn node inner statement count first body m0 k m1) where
  abbrev turned : Run
  turned = once m1.limit node x (turn_of m1.limit body inner statement (scope_of m1)) m1.memory.store m1.steps

  split : turns_within m0.limit node count first (turn_of m0.limit body inner statement (scope_of m0)) m0.memory.store m0.steps ≡ after turned (turns_within m0.limit node (count - (k + 1)) (first +ℤ pos (k + 1)) (turn_of m0.limit body inner statement (scope_of m0)))
  split =
      inv.3 ∙ turn_and_rest m0.limit node (turn_of m0.limit body inner statement (scope_of m0)) count k (first +ℤ pos k) m1.memory.store m1.steps less
      ∙ (λ i. after (once (sym inv.2 i) node (sym is i) (turn_of (sym inv.2 i) body inner statement (sym inv.1 i)) m1.memory.store m1.steps) (turns_within m0.limit node (count - (k + 1)) (next_one first k i) (turn_of m0.limit body inner statement (scope_of m0))))

  pub goes_on : (m2 : Machine) → Finishes (Ok tt) m1 m2 turned → is_int64 (x +ℤ pos 1) ≡ true → GoesOn node inner statement count first body m0 (k + 1) m2
  goes_on m2 run next = (
    ap is_int64 (sym (next_one first k) ∙ ap (λ z. z +ℤ pos 1) (sym is)) ∙ next,
    run.1 ∙ inv.1,
    run.2 ∙ inv.2,
    split ∙ ap (λ r. after r (turns_within m0.limit node (count - (k + 1)) (first +ℤ pos (k + 1)) (turn_of m0.limit body inner statement (scope_of m0)))) run.0,
  )

  stops_too : (m2 : Machine) (h : Halt) (r t : Run) (g : Store → ℕ → Run) → t ≡ after r g → Halts m2 h r → Halts m2 h t
  stops_too m2 (halt.Fault f) r t g e q = e ∙ ap (λ s. after s g) q
  stops_too m2 halt.Steps r t g e q = e ∙ ap (λ s. after s g) q
  stops_too m2 halt.Memory r t g e q = tt

  pub stops : (m2 : Machine) (h : Halt) → Halts m2 h turned → Halts m2 h (turns_within m0.limit node count first (turn_of m0.limit body inner statement (scope_of m0)) m0.memory.store m0.steps)
  stops m2 h q = stops_too m2 h turned _ (turns_within m0.limit node (count - (k + 1)) (first +ℤ pos (k + 1)) (turn_of m0.limit body inner statement (scope_of m0))) split q
