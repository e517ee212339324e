-- Statements in two parts.
use Rattle.std.proofs.Common.{◌≡◌, ℕ, ◌+◌, ◌≤◌, true, List, [], ◌∷◌, ◌++◌, length, map, Result, Ok, Err, refl, sym, ap, ◌∙◌, arith}
use Rattle.std.proofs.lemmas.Bool.{and_parts, and_from}
use Rattle.std.proofs.lemmas.List.Sums.{sum_by-cons}
use Rattle.affc_ast.specs.declared.tree.Stmt.{Stmt}
use Rattle.affc_ast.specs.Store.{Store}
use Rattle.affc_ast.specs.Values.{Scope}
use Rattle.affc_interp.specs.declared.fault.Halt.{Halt}
use Rattle.affc_interp.specs.declared.fault.Halt.TheVariants as halt
use Rattle.affc_interp.specs.declared.machine.Machine.{Machine}
use Rattle.affc_interp.specs.Budget.{Exec, Run, after, exec_of, all_of, all_within, nodes_among, assigns_among}
use Rattle.affc_interp.specs.Machines.{Finishes, Halts, scope_of, position}
use Rattle.affc_interp.proofs.LoadCounts.{some_nodes}

nodes_both : (ps qs : List Exec) → nodes_among (ps ++ qs) ≡ nodes_among ps + nodes_among qs
nodes_both [] qs = omega arith
nodes_both (p ∷ ps) qs = let h = nodes_both ps qs in omega (arith, h, sum_by-cons (λ (x : Exec). x.nodes) p (ps ++ qs), sum_by-cons (λ (x : Exec). x.nodes) p ps)

assigns_both : (ps qs : List Exec) → assigns_among (ps ++ qs) ≡ assigns_among ps + assigns_among qs
assigns_both [] qs = omega arith
assigns_both (p ∷ ps) qs = let h = assigns_both ps qs in omega (arith, h, sum_by-cons (λ (x : Exec). x.assigns) p (ps ++ qs), sum_by-cons (λ (x : Exec). x.assigns) p ps)

within_both : (ps qs : List Exec) (n : ℕ) → all_within (ps ++ qs) n ≡ true → (all_within ps n ≡ true) × (all_within qs n ≡ true)
within_both [] qs n h = (refl, h)
within_both (p ∷ ps) qs n h =
    let a = and_parts (p.within n) (all_within (ps ++ qs) n) h in
    let b = within_both ps qs n a.1 in
    (and_from (p.within n) (all_within ps n) a.0 b.0, b.1)

after_after : (r : Run) (f g : Store → ℕ → Run) (h : Store → ℕ → Run) → ((store : Store) (steps : ℕ) → f store steps ≡ after (g store steps) h) → after r f ≡ after (after r g) h
after_after (Ok s) f g h e = e s.0 s.1
after_after (Err stop) f g h e = refl

all_both : (limit : ℕ) (ps qs : List Exec) (node statement : ℕ) (scope : Scope) (store : Store) (steps : ℕ)
    → all_of limit (ps ++ qs) (position node statement) scope store steps
    ≡ after (all_of limit ps (position node statement) scope store steps) (all_of limit qs (position (node + nodes_among ps) (statement + assigns_among ps)) scope)
all_both limit [] qs node statement scope store steps =
    let n : node ≡ node + 0 = omega arith in
    let a : statement ≡ statement + 0 = omega arith in
    λ i. all_of limit qs (position (n i) (a i)) scope store steps
all_both limit (p ∷ ps) qs node statement scope store steps =
    let n : node + p.nodes + nodes_among ps ≡ node + nodes_among (p ∷ ps) = let h = sum_by-cons (λ (x : Exec). x.nodes) p ps in omega (arith, h) in
    let a : statement + p.assigns + assigns_among ps ≡ statement + assigns_among (p ∷ ps) = let h = sum_by-cons (λ (x : Exec). x.assigns) p ps in omega (arith, h) in
    after_after (p.run limit (position node statement) scope store steps) (all_of limit (ps ++ qs) (position (node + p.nodes) (statement + p.assigns)) scope)
    (all_of limit ps (position (node + p.nodes) (statement + p.assigns)) scope) (all_of limit qs (position (node + nodes_among (p ∷ ps)) (statement + assigns_among (p ∷ ps))) scope)
    (λ left m. all_both limit ps qs (node + p.nodes) (statement + p.assigns) scope left m
    ∙ (λ i. after (all_of limit ps (position (node + p.nodes) (statement + p.assigns)) scope left m) (all_of limit qs (position (n i) (a i)) scope)))

some_among : (xs : List Stmt) → 1 ≤ length xs → 1 ≤ nodes_among (map exec_of xs)
some_among [] h = absurd (omega arith)
some_among (x ∷ xs) h = let s = some_nodes x in let e = sum_by-cons (λ (p : Exec). p.nodes) (exec_of x) (map exec_of xs) in omega (arith, s, e)

map_both : (xs ys : List Stmt) → map exec_of (xs ++ ys) ≡ map exec_of xs ++ map exec_of ys
map_both [] ys = refl
map_both (x ∷ xs) ys = ap (λ l. exec_of x ∷ l) (map_both xs ys)

-- a body whose first statements are these, and the others those
pub record Halves (body first others : List Stmt) (n : ℕ) : Type 0 where
  pub nodes : nodes_among (map exec_of body) ≡ nodes_among (map exec_of first) + nodes_among (map exec_of others)
  pub assigns : assigns_among (map exec_of body) ≡ assigns_among (map exec_of first) + assigns_among (map exec_of others)
  pub some : 1 ≤ nodes_among (map exec_of first)
  pub some_other : 1 ≤ nodes_among (map exec_of others)
  pub first_within : all_within (map exec_of body) n ≡ true → all_within (map exec_of first) n ≡ true
  pub others_within : all_within (map exec_of body) n ≡ true → all_within (map exec_of others) n ≡ true
  pub run : (limit node statement : ℕ) (scope : Scope) (store : Store) (steps : ℕ)
      → all_of limit (map exec_of body) (position node statement) scope store steps
      ≡ after (all_of limit (map exec_of first) (position node statement) scope store steps)
      (all_of limit (map exec_of others) (position (node + nodes_among (map exec_of first)) (statement + assigns_among (map exec_of first))) scope)

pub halves : (body first others : List Stmt) (n : ℕ) → body ≡ first ++ others → 1 ≤ length first → 1 ≤ length others → Halves body first others n
halves body first others n is f o =
    let e : map exec_of body ≡ map exec_of first ++ map exec_of others = ap (map exec_of) is ∙ map_both first others in
    let within = λ (h : all_within (map exec_of body) n ≡ true). within_both (map exec_of first) (map exec_of others) n (ap (λ l. all_within l n) (sym e) ∙ h) in
    record {
      nodes = ap nodes_among e ∙ nodes_both (map exec_of first) (map exec_of others);
      assigns = ap assigns_among e ∙ assigns_both (map exec_of first) (map exec_of others);
      some = some_among first f;
      some_other = some_among others o;
      first_within = λ h. (within h).0;
      others_within = λ h. (within h).1;
      run = λ limit node statement scope store steps. ap (λ l. all_of limit l (position node statement) scope store steps) e ∙ all_both limit (map exec_of first) (map exec_of others) node statement scope store steps;
    }

pub stops_after : (m : Machine) (h : Halt) (r t : Run) (g : Store → ℕ → Run) → t ≡ after r g → Halts m h r → Halts m h t
stops_after m (halt.Fault f) r t g e q = e ∙ ap (λ s. after s g) q
stops_after m halt.Steps r t g e q = e ∙ ap (λ s. after s g) q
stops_after m halt.Memory r t g e q = tt

same_run : (h : Result (Unit {0}) Halt) (m0 m1 m2 : Machine) (s t : Run) → t ≡ s → scope_of m1 ≡ scope_of m0 → m1.limit ≡ m0.limit → Finishes h m1 m2 s → Finishes h m0 m2 t
same_run (Ok u) m0 m1 m2 s t e sc li f = (e ∙ f.0, f.1 ∙ sc, f.2 ∙ li)
same_run (Err (halt.Fault q)) m0 m1 m2 s t e sc li f = e ∙ f
same_run (Err halt.Steps) m0 m1 m2 s t e sc li f = e ∙ f
same_run (Err halt.Memory) m0 m1 m2 s t e sc li f = tt

-- one run, and then another where it has ended
pub goes_on_after : (h : Result (Unit {0}) Halt) (m0 m1 m2 : Machine) (r t : Run) (others : List Exec) (node statement : ℕ)
    → t ≡ after r (all_of m0.limit others (position node statement) (scope_of m0)) → Finishes (Ok tt) m0 m1 r
    → Finishes h m1 m2 (all_of m1.limit others (position node statement) (scope_of m1) m1.memory.store m1.steps) → Finishes h m0 m2 t
goes_on_after h m0 m1 m2 r t others node statement e one rest =
    same_run h m0 m1 m2 _ t
    (e ∙ ap (λ s. after s (all_of m0.limit others (position node statement) (scope_of m0))) one.0
    ∙ (λ i. all_of (sym one.2 i) others (position node statement) (sym one.1 i) m1.memory.store m1.steps)) one.1 one.2 rest
