-- Each assignment with what stands round it, as a walk over statements comes to it.
use Rattle.std.specs.Prelude.{ℕ, suc, ◌+◌, List, [], ◌∷◌, ◌++◌, map}
use Rattle.affc_ast.specs.declared.tree.Program.{Program}
use Rattle.affc_ast.specs.declared.tree.Stmt.TheOpen.{Stmt-F, For, If, Assign, Block}
use Rattle.affc_ast.specs.Denials.{denied}
use Rattle.affc_ast.specs.Recursion.{by_stmt}
use Rattle.affc_ast.specs.Trace.{Assignment}
use Rattle.affc_domain.specs.Rounds.{Round, Loop, Test}
use Rattle.affc_nest.specs.declared.sites.Site.{Site}
use Rattle.affc_nest.specs.Frames.{all_seen}

-- what stands round an assignment, the numbers of its loops, and the assignment
pub record Place : Type 0 where
  pub around : List Round
  pub loops : List ℕ
  pub assignment : Assignment

abbrev pub place : Site → Place
place s = record { around = all_seen s.frames.items; loops = s.loops.items; assignment = record { op = s.op; array = s.array; subs = s.subs.now; value = s.value.now } }

abbrev pub places : List Site → List Place
places = map place

-- a statement: how many loops it has, and its assignments, where this stands round it, its loops are these and its first loop has this number
pub record Walked : Type 0 where
  pub loops : ℕ
  pub places : (around : List Round) → (numbers : List ℕ) → (first : ℕ) → List Place

abbrev pub loops_of : List Walked → ℕ
loops_of [] = 0
loops_of (w ∷ ws) = w.loops + loops_of ws

abbrev pub in_turn : List Walked → (around : List Round) → (numbers : List ℕ) → (first : ℕ) → List Place
in_turn [] around numbers first = []
in_turn (w ∷ ws) around numbers first = w.places around numbers first ++ in_turn ws around numbers (first + w.loops)

abbrev pub walked_step : Stmt-F Walked → Walked
walked_step (For iter low rel high body) = record {
  loops = suc (loops_of body);
  places = λ around numbers first. in_turn body (around ++ Loop iter low rel high ∷ []) (numbers ++ first ∷ []) (suc first);
}
walked_step (If cond body other) = record {
  loops = loops_of body + loops_of other;
  places = λ around numbers first.
      in_turn body (around ++ Test cond ∷ []) numbers first ++ in_turn other (around ++ Test (denied cond) ∷ []) numbers (first + loops_of body);
}
walked_step (Assign op array subs value) = record {
  loops = 0;
  places = λ around numbers first. record { around = around; loops = numbers; assignment = record { op = op; array = array; subs = subs; value = value } } ∷ [];
}
walked_step (Block locals body) = record { loops = loops_of body; places = in_turn body }

-- a program's assignments, as a walk over its statements comes to them
abbrev pub places_of : Program → List Place
places_of program = in_turn (map (by_stmt walked_step) program.body) [] [] 0

abbrev pub all_around : List Place → List (List Round)
all_around = map (λ p. p.around)

abbrev pub all_numbers : List Place → List (List ℕ)
all_numbers = map (λ p. p.loops)

abbrev pub all_assigned : List Place → List Assignment
all_assigned = map (λ p. p.assignment)
