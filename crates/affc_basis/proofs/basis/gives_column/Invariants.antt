use Rattle.std.proofs.Common.{◌≡◌, ℕ, ◌<◌, nat_eq, Some}
use Rattle.affc_rows.specs.Forms.{dot}
use Rattle.affc_basis.specs.Bases.{entries_of, identity_entry}
use Rattle.affc_basis.proofs.basis.gives_column.Given as goal

abbrev pub invariant-loop-j : goal.invariant-loop-j
invariant-loop-j l = (i : ℕ) → i < l.j → dot l.form.coefs (entries_of (Some i) l.rows) ≡ identity_entry (nat_eq i l.k)
