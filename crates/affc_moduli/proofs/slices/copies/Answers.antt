use Rattle.std.proofs.Common.{◌≡◌, ◌∙◌, ◌+◌, ◌∷◌, ◌++◌, [], sym, ap, subst, refl, length, arith}
use Rattle.std.specs.Prelude.{slice_get, Some}
use Rattle.std.proofs.lemmas.List.{length-append}
use Rattle.std.proofs.lemmas.Option.{slice_get_read}
use Rattle.affc_moduli.specs.Slices.{AreParallel, IsCopy}
use Rattle.affc_moduli.proofs.Parallel.{one_more}
use Rattle.affc_moduli.proofs.slices.copies.Goals as goal

pub loop-system-preserved : goal.loop-system-preserved
loop-system-preserved c =
    let pairs = c.args.pairs.now in
    let i = c.loop-system.system-index in
    let made = c.loop-system.regions.items in
    let region = c.in_ok-region.region in
    let e = c.in_ok-push.ensures.items in
    let here : slice_get pairs i ≡ Some c.system-item.result = slice_get_read pairs (length pairs) i c.system-item.result refl (omega arith) c.system-item.is in
    let at : slice_get pairs (length made) ≡ Some c.system-item.result = ap (slice_get pairs) c.loop-system.invariant.count ∙ here in
    let copy : IsCopy c.system-item.result region = record { system = c.in_ok-region.ensures.system; ranges = c.in_ok-region.ensures.ranges } in
    let count = c.loop-system.invariant.count in
    let grown : length (made ++ region ∷ []) ≡ i + 1 = let l = length-append made (region ∷ []) in omega arith in
    record {
      count = ap length e ∙ grown;
      copies = subst (λ ys. AreParallel IsCopy pairs ys) (sym e) (one_more IsCopy pairs made c.system-item.result region at copy c.loop-system.invariant.copies);
    }
