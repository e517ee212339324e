-- Sizes within which places are printed, and what the code holds.
use Rattle.std.specs.Prelude.{◌≡◌, ℕ, ◌+◌, ◌^◌, ◌≤◌, pos, unsigned_abs, Bool, true, ◌&&◌, nat_le, List, [], ◌∷◌, length, map}
use Rattle.std.specs.List.{All}
use Rattle.affc_rows.specs.Forms.{Affine}
use Rattle.affc_ast.specs.declared.tree.ArrayId.{ArrayId}
use Rattle.affc_ast.specs.declared.tree.Stmt.TheOpen.{Stmt-F, For, If, Assign, Block}
use Rattle.affc_domain.specs.Plain.{all_plain, plain_value}
use Rattle.affc_nest.specs.Sides.{IsSide}
use Rattle.affc_basis.specs.declared.fold.Fold.{Fold}
use Rattle.affc_basis.specs.Bases.{AreWithin}
use Rattle.affc_basis.specs.Folds.{KeepsLimits}
use Rattle.affc_foldloops.specs.Refolds.{Subscripts}
use Rattle.affc_rewrite.specs.declared.components.Access.{Access}
use Rattle.affc_rewrite.specs.declared.subscripts.Folding.{Folding}
use Rattle.affc_rewrite.specs.Rewrite.{subscripts_at}

-- ---- Forms

-- each is over so many names
abbrev pub AllSides : ℕ → List Affine → Type 0
AllSides n [] = Unit {0}
AllSides n (g ∷ gs) = IsSide n g × AllSides n gs

-- a row of a basis over so many dimensions
pub record IsRow (dimensions : ℕ) (row : Affine) : Type 0 where
  pub columns : length row.coefs ≡ dimensions
  pub bounded : AreWithin 256 row.coefs
  pub no_constant : row.constant ≡ pos 0

-- a form over so many names, at most 16, with coefficients up to 2^30 and a constant up to 2^55
pub record IsPrintable (names : ℕ) (f : Affine) : Type 0 where
  pub width : length f.coefs ≡ names
  pub few : names ≤ 16
  pub coefs : AreWithin (2 ^ 30) f.coefs
  pub constant : unsigned_abs f.constant ≤ 2 ^ 55

-- ---- An access

-- its subscripts, at least one and at most four, over at most 16 names, of which at most four are the parameters
pub record IsAccess (a : Access) : Type 0 where
  pub sides : AllSides a.names a.forms.now
  pub some : 1 ≤ length a.forms.now
  pub few : length a.forms.now ≤ 4
  pub parameters : a.parameters ≤ 4
  pub behind : a.parameters ≤ a.names
  pub short : a.names ≤ 16

-- ---- A program's folds

-- they are within their limits, over so many parameters
pub record IsFolding (f : Folding) : Type 0 where
  pub limits : All (λ (g : ArrayId × Fold). KeepsLimits f.parameters g.1) f.folds.now
  pub few : f.parameters ≤ 4

-- and at most 16 names are in sight, of which the parameters are the first
pub record IsWalk (f : Folding) (names : ℕ) : Type 0 where
  pub folding : IsFolding f
  pub behind : f.parameters ≤ names
  pub short : names ≤ 16

-- the subscripts of its arrays
abbrev pub at : Folding → Subscripts
at f = subscripts_at f.parameters (map (λ a. a.extents) f.arrays.now) f.folds.now

-- ---- Statements over so many names in sight

abbrev pub all_under : List (ℕ → Bool) → (names : ℕ) → Bool
all_under [] names = true
all_under (f ∷ fs) names = f names && all_under fs names

-- all accesses are plain, and at most 16 names are in sight
abbrev pub accesses_step : Stmt-F (ℕ → Bool) → (names : ℕ) → Bool
accesses_step (For iter low rel high body) names = nat_le (names + 1) 16 && all_under body (names + 1)
accesses_step (If cond body other) names = all_under body names && all_under other names
accesses_step (Assign op array subs value) names = all_plain names subs && plain_value value names
accesses_step (Block locals body) names = nat_le (names + length locals) 16 && all_under body (names + length locals)
