use Rattle.std.proofs.Common.{◌≡◌, ℕ, ◌≤◌, ◌<◌, length, get_or, sym, subst, arith, rules}
use Rattle.std.specs.List.{All, Contains}
use Rattle.std.proofs.lemmas.Bool.Decides.{nat_tests}
use Rattle.std.proofs.lemmas.List.Elements.{All-weaker, Contains-get_or}
use Rattle.affc_rows.specs.Forms.{Affine, HaveColumns}
use Rattle.affc_system.specs.Systems.{IsRow}
use Rattle.affc_eliminate.specs.declared.kept.Kept.{Kept}
use Rattle.affc_eliminate.specs.project.States.{AreInputs, IsContradiction, IsDone}
use Rattle.affc_eliminate.proofs.project.Contradictions.{nothing}
use Rattle.affc_eliminate.proofs.project.Ends.{IsRun, run_start, run_more, run_over, run_few, run_end, run_widths, no_items}
use Rattle.affc_eliminate.proofs.project.elimination.eliminated.Goals as goal

pub columns-init : goal.columns-init
columns-init g c =
    let rows = c.args.system.now.rows in
    let columns = c.args.system.now.columns in
    let keep = c.args.keep in
    let left = c.in-Ok-columns_from.left.items in
    let live = c.in-Ok.live.items in
    let same = c.rows.ensures.rows in
    let widths : HaveColumns columns c.rows.result.now = All-weaker (IsRow columns) (λ (f : Affine). length f.coefs ≡ columns) (λ f h. h.width) c.rows.result.now c.rows.ensures.fit in
    subst (λ ms. IsRun columns rows keep left ms live) (sym c.new.ensures.items)
    (run_start columns rows keep left live (subst (λ rs. length rs ≤ 1024) same c.rows.ensures.few) (subst (HaveColumns columns) same widths) (subst (λ rs. AreInputs rs live) same c.in-Ok.ensures)
    (subst (λ n. All (λ k. (keep ≤ k) × (k < n)) left) c.columns-2.ensures.value c.in-Ok-columns_from.ensures.inside)
    (subst (λ n. (j : ℕ) → keep ≤ j → j < n → Contains left j) c.columns-2.ensures.value c.in-Ok-columns_from.ensures.all))

pub fewest-place-requires-clause-columns : goal.fewest-place-requires-clause-columns
fewest-place-requires-clause-columns g c =
    subst (All (λ n. All (λ (k : Kept). n < length k.row.coefs) c.as_slice-in-columns.result.now)) (sym c.as_slice-in-columns-2.ensures.value)
    (subst (λ ks. All (λ n. All (λ (k : Kept). n < length k.row.coefs) ks) c.columns.left.items) (sym c.as_slice-in-columns.ensures.value)
    (run_widths c.args.system.now.columns c.args.system.now.rows c.args.keep c.columns.left.items c.columns.work.made.items c.columns.work.live.items c.columns.invariant))

pub columns-preserved : goal.columns-preserved
columns-preserved g c =
    run_more c.args.system.now.columns c.args.system.now.rows c.args.keep c.columns.left.items c.remove-column.new.self.items c.fewest-place.result c.remove-column.result c.columns.work.made.items
    c.columns.work.live.items c.in-Ok-advance.next (subst (λ ns. c.fewest-place.result < length ns) c.as_slice-in-columns-2.ensures.value c.fewest-place.ensures) c.remove-column.ensures.value c.remove-column.ensures.items
    c.columns.invariant c.in-Ok-advance.ensures.ok

pub returns-clause-ok : goal.returns-clause-ok
returns-clause-ok g c =
    let zero : length c.columns.left.items ≡ 0 = first_of (search rules, grind (arith, nat_tests), omega (arith, c.columns.left.ok, c.columns-test.ensures)) in
    run_end c.args.system.now.columns c.args.system.now.rows c.args.keep c.columns.left.items c.columns.work.made.items c.columns.work.live.items (no_items c.columns.left.items zero) c.columns.invariant

pub advance-requires-clause-few : goal.advance-requires-clause-few
advance-requires-clause-few g c =
    run_few c.args.system.now.columns c.args.system.now.rows c.args.keep c.columns.left.items c.columns.work.made.items c.columns.work.live.items c.columns.invariant
    (subst (All (λ (k : Kept). IsContradiction k.row → ⊥)) c.as_slice.ensures.value c.in_default-contradiction.ensures.none)

pub returns-in-Some-clause-ok : goal.returns-in-Some-clause-ok
returns-in-Some-clause-ok g c =
    let columns = c.args.system.now.columns in
    let rows = c.args.system.now.rows in
    let live = c.columns.work.live.items in
    let place = c.in-Some.place in
    let last = c.in-Ok-alone.last in
    let some : (place < length live) × ((d : Kept) → IsContradiction (get_or live place d).row) =
    subst (λ ks. (place < length ks) × ((d : Kept) → IsContradiction (get_or ks place d).row)) c.as_slice.ensures.value c.in-Some.ensures.some in
    subst (λ ms. IsDone columns rows c.args.keep ms last.live.items) (sym c.in-Ok-alone.ensures.made)
    (run_over columns rows c.args.keep c.columns.left.items c.columns.work.made.items live last.live.items (get_or live place nothing) c.columns.invariant
    (Contains-get_or live place nothing some.0) (some.1 nothing) (c.in-Ok-alone.ensures.live nothing))
