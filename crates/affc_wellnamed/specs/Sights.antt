-- What the code's chain of names in sight stands for.
use Rattle.std.specs.Prelude.{ℕ, ◌+◌, Bool, ◌||◌, List, ◌++◌, length}
use Rattle.std.specs.List.{list_any}
use Rattle.affc_lex.specs.Bytes.{same}
use Rattle.affc_ast.specs.declared.tree.Decl.{Decl}
use Rattle.affc_grammar.specs.Grammar.{Name}
use Rattle.affc_wellnamed.specs.declared.sight.Sight.{Sight, Outside, Iterator', Locals'}
use Rattle.affc_wellnamed.specs.Known.{Known, param_name, param_arrays}

abbrev pub taken_in : Sight → Name → Bool
taken_in (Outside function params temps numbers) w = same function.now w || (list_any (λ q. same (param_name q) w) params.now || list_any (λ d. same d.name w) temps.now)
taken_in (Iterator' iterator p outer) w = same iterator.now w || taken_in outer w
taken_in (Locals' locals p outer) w = list_any (λ l. same l.name w) locals.now || taken_in outer w

-- how many numbers are in sight
abbrev pub numbers_in : Sight → ℕ
numbers_in (Outside function params temps numbers) = numbers
numbers_in (Iterator' iterator p outer) = numbers_in outer + 1
numbers_in (Locals' locals p outer) = numbers_in outer + length locals.now

abbrev pub arrays_in : Sight → List Decl
arrays_in (Outside function params temps numbers) = param_arrays params.now ++ temps.now
arrays_in (Iterator' iterator p outer) = arrays_in outer
arrays_in (Locals' locals p outer) = arrays_in outer

abbrev pub known_in : (prelude : Bool) → Sight → Known
known_in prelude sight = record { prelude = prelude; is_taken = taken_in sight; numbers = numbers_in sight; arrays = arrays_in sight }
