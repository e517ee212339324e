-- The rows of the domain of a part that can have instances are differences of small sides.
use Rattle.std.proofs.Common.{ℕ, ◌+◌, ◌^◌, ◌≤◌, IsTrue, arith}
use Rattle.std.specs.Prelude.{unsigned_abs}
use Rattle.std.specs.List.{All}
use Rattle.affc_rows.specs.Forms.{Affine}
use Rattle.affc_rows.proofs.SizeLemmas.{Below, within_raised, gap_within}
use Rattle.affc_ast.specs.declared.tree.Program.{Program}
use Rattle.affc_nest.specs.declared.nest.Entry.{Entry}
use Rattle.affc_nest.specs.Domains.{gap_row}
use Rattle.affc_nest.specs.Laws.{HasNest, IsEntry}
use Rattle.affc_nest.specs.Sides.{IsSide}
use Rattle.affc_life.proofs.DomainLemmas.{domain_rows_are}

pub record IsTight (f : Affine) : Type 0 where
  pub coefs_fit : Below (2 ^ 17) f.coefs
  pub constant_fits : unsigned_abs f.constant ≤ 2 ^ 34

gap_tight : (n : ℕ) (a b : Affine) (k : ℕ) → IsSide n a → IsSide n b → k ≤ 1 → IsTight (gap_row a b k)
gap_tight n a b k s t h =
    let w = within_raised n (2 ^ 16 + 2 ^ 16) ((2 ^ 32 + 2 ^ 32) + 1) (2 ^ 17) (2 ^ 34) (gap_row a b k) (omega arith) (omega arith) (gap_within n (2 ^ 16) (2 ^ 32) k a b s t h) in
    record { coefs_fit = w.coefs_fit; constant_fits = w.constant_fits }

pub domain_tight : (program : Program) (has : HasNest program) (part : ℕ) (e : Entry) → IsEntry program part e → IsTrue e.alive → All IsTight e.domain.rows
domain_tight program has part e h alive = domain_rows_are IsTight gap_tight program has part e h alive
