-- The interval rule: a range for each iterator, from those of the parameters and of the outer loops. Conditions aren't
-- looked at, and neither is what stands in a loop that is never entered.
use Rattle.std.specs.Prelude.{ℕ, suc, ◌^◌, ℤ, pos, ◌-ℤ◌, int_lt, nat_le, nat_abs, Bool, true, false, not, ◌&&◌, if◌then◌else◌, List, [], ◌∷◌, ◌++◌, length, Option, Some, None}
use Rattle.affc_rows.specs.Forms.{value}
use Rattle.affc_system.specs.Boxes.{InBox, corner}
use Rattle.affc_ast.specs.declared.tree.Ix.{Ix}
use Rattle.affc_ast.specs.declared.tree.Param.{Param}
use Rattle.affc_ast.specs.declared.tree.Param.TheVariants.{Number, Array}
use Rattle.affc_ast.specs.declared.tree.Program.{Program}
use Rattle.affc_ast.specs.declared.tree.Rel.{Rel}
use Rattle.affc_ast.specs.declared.tree.Rel.TheVariants.{Less}
use Rattle.affc_domain.specs.Affine.{form_of}
use Rattle.affc_domain.specs.Rounds.{Round, Loop, Test, rounds}

-- the declared ranges of the number parameters, in order of declaration
abbrev pub number_ranges : List Param → List (ℤ × ℤ)
number_ranges [] = []
number_ranges (Number name low high ∷ ps) = (low, high) ∷ number_ranges ps
number_ranges (Array decl ∷ ps) = number_ranges ps

-- the iterators' ranges, from outer to inner; or that some loop is never entered; or the first loop whose range passes
-- 2^31, counted from the outermost
pub data Ranges : Type 0 where
  Within : (ranges : List (ℤ × ℤ)) → Ranges
  Never : Ranges
  Wide : (loop : ℕ) → Ranges

abbrev pub outermost : ℤ × ℤ → Ranges → Ranges
outermost r (Within rs) = Within (r ∷ rs)
outermost r Never = Never
outermost r (Wide n) = Wide (suc n)

abbrev pub is_near : ℤ → Bool
is_near z = nat_le (nat_abs z) (2 ^ 31)

abbrev pub last_of : Rel → (high : ℤ) → ℤ
last_of Less high = high -ℤ pos 1
last_of _ high = high

-- from the least value of the lower bound to the greatest of the upper one, less 1 for `<`
abbrev pub range_of : (outer : List (ℤ × ℤ)) → (low : Ix) → Rel → (high : Ix) → ℤ × ℤ
range_of outer low rel high =
    let l = form_of (length outer) 0 low in
    let h = form_of (length outer) 0 high in
    (value l (corner false l.coefs outer), last_of rel (value h (corner true h.coefs outer)))

-- a loop with this range, round what has these
abbrev pub entered : ℤ × ℤ → Ranges → Ranges
entered r inside = if int_lt r.1 r.0 then Never else (if not (is_near r.0 && is_near r.1) then Wide 0 else outermost r inside)

abbrev pub ranges_of : (outer : List (ℤ × ℤ)) → List Round → Ranges
ranges_of outer [] = Within []
ranges_of outer (Loop iter low rel high ∷ rs) = let r = range_of outer low rel high in entered r (ranges_of (outer ++ r ∷ []) rs)
ranges_of outer (Test cond ∷ rs) = ranges_of outer rs

-- what the rule says of an instance's iterators
abbrev pub AreWithin : Ranges → (iterators : List ℤ) → Type 0
AreWithin (Within rs) xs = InBox rs xs
AreWithin Never xs = ⊥
AreWithin (Wide n) xs = Unit {0}

-- the first statement with a loop whose range passes, and the loop, counted from the outermost
abbrev pub first_wide_of : (outer : List (ℤ × ℤ)) → (statement : ℕ) → List (List Round) → Option (ℕ × ℕ)
first_wide_of outer statement [] = None
first_wide_of outer statement (rs ∷ rss) = wide_or statement (ranges_of outer rs) (first_wide_of outer (suc statement) rss)
  where
    wide_or : ℕ → Ranges → Option (ℕ × ℕ) → Option (ℕ × ℕ)
    wide_or statement (Wide loop) others = Some (statement, loop)
    wide_or statement _ others = others

abbrev pub first_wide : Program → Option (ℕ × ℕ)
first_wide program = first_wide_of (number_ranges program.params) 0 (rounds program)
