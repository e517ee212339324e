-- What stands round a statement, as the code holds it.
use Rattle.std.specs.Prelude.{ℕ, suc, Bool, true, false, ◌&&◌, List, [], ◌∷◌, map}
use Rattle.affc_ast.specs.declared.tree.Compare.{Compare}
use Rattle.affc_ast.specs.declared.tree.Cond.{Cond}
use Rattle.affc_ast.specs.declared.tree.Rel.{Rel}
use Rattle.affc_ast.specs.Denials.{opposite, denied}
use Rattle.affc_ast.specs.Joined.{tests_of}
use Rattle.affc_ast.specs.Trace.{joined}
use Rattle.affc_domain.specs.Plain.{is_plain, plain_cond}
use Rattle.affc_domain.specs.Rounds.{Round, Loop, Test}
use Rattle.affc_nest.specs.declared.frames.Frame.{Frame}
use Rattle.affc_nest.specs.declared.frames.Frame.TheVariants as frame

-- a condition, or else its denial
abbrev pub denied_if : (is_denied : Bool) → Cond → Cond
denied_if false cond = cond
denied_if true cond = denied cond

abbrev pub opposite_if : (is_denied : Bool) → Rel → Rel
opposite_if false rel = rel
opposite_if true rel = opposite rel

-- the comparisons that are joined in these, or in their denials
abbrev pub tests_of_each : (is_denied : Bool) → List Cond → List Compare
tests_of_each is_denied cs = joined (map tests_of (map (denied_if is_denied) cs))

abbrev pub seen : Frame → Round
seen (frame.Loop iter low rel high) = Loop iter.now low.now rel high.now
seen (frame.Test cond is_denied) = Test (denied_if is_denied cond.now)

abbrev pub all_seen : List Frame → List Round
all_seen = map seen

-- all bounds and conditions are plain, where so many names are in sight outside
abbrev pub plain_at : (names : ℕ) → List Round → Bool
plain_at names [] = true
plain_at names (Loop iter low rel high ∷ rs) = is_plain names low && (is_plain names high && plain_at (suc names) rs)
plain_at names (Test cond ∷ rs) = plain_cond names cond && plain_at names rs
