-- What the code of questions keeps.
use Rattle.std.proofs.Common.{◌≡◌, ℕ, ◌+◌, ◌≤◌, IsTrue, List, ◌++◌, length, drop, sym, ap, subst, arith}
use Rattle.std.proofs.lemmas.List.{length-drop}
use Rattle.affc_rows.specs.Forms.{Affine}
use Rattle.affc_system.specs.Systems.{Rows}
use Rattle.affc_trace.specs.Law.{IsIn}
use Rattle.affc_trace.proofs.EndedReads.{append_assoc}
use Rattle.affc_nest.specs.Asked.{IsNest}
use Rattle.affc_nest.specs.Domains.{with_rows}
use Rattle.affc_nest.specs.declared.nest.Entry.{Entry}
use Rattle.affc_nest.specs.declared.nest.Nest.{Nest}
use Rattle.affc_nest.specs.Sides.{IsSide}
use Rattle.affc_order.specs.Spread.{spread}
use Rattle.affc_order.proofs.CodeLemmas.{spread_side}
use Rattle.affc_sched.specs.Questions.{context_count}
use Rattle.affc_sched.proofs.LegalLemmas.{entry_at}
use Rattle.affc_sched.proofs.WidthLemmas.{context_rows_first}

-- ---- Spread rows

pub added_twice : (s : Rows) (xs ys : List Affine) → with_rows (with_rows s xs) ys ≡ with_rows s (xs ++ ys)
added_twice s xs ys = ap (λ zs. record s { rows = zs }) (append_assoc s.rows xs ys)

-- ---- Sides

pub side_first : (m outer inner columns : ℕ) (f f' : Affine) → IsSide (m + outer) f → f' ≡ spread m 0 inner f → columns ≡ (m + outer) + inner → IsSide columns f'
side_first m outer inner columns f f' h e c = subst (IsSide columns) (sym e) (spread_side m 0 outer inner columns f h (omega (arith, c)))

pub side_second : (m outer inner columns : ℕ) (g g' : Affine) → IsSide (m + inner) g → g' ≡ spread m outer 0 g → columns ≡ (m + outer) + inner → IsSide columns g'
side_second m outer inner columns g g' h e c = subst (IsSide columns) (sym e) (spread_side m outer inner 0 columns g h (omega (arith, c)))

-- ---- A domain's own rows

pub enough_rows : (nest : Nest) (n : IsNest nest) (e : Entry) → IsIn e nest.entries → IsTrue e.alive → context_count nest ≤ length e.domain.rows
enough_rows nest n e i alive =
    subst (λ (x : Nest). context_count x ≤ length e.domain.rows) (sym n.is)
    (context_rows_first n.program n.has e.part e (entry_at n.program n.has e (subst (λ (x : Nest). IsIn e x.entries) n.is i)) alive)

pub fewer : (k : ℕ) (rows own : List Affine) → own ≡ drop k rows → length rows ≤ 134 → length own ≤ 134
fewer k rows own e h = let l = length-drop k rows in let r : length own ≡ length (drop k rows) = ap length e in omega (arith, h, l, r)
