use Rattle.std.proofs.Common.{◌≡◌, ◌++◌, drop}
use Rattle.std.specs.Ordering.{int_cmp}
use Rattle.std.specs.Cmp.Lexicographic.{slice_cmp}
use Rattle.affc_rows.specs.Forms.{values_of}
use Rattle.affc_compare.proofs.time.compare.Given as goal

abbrev pub invariant-loop-i : goal.invariant-loop-i
invariant-loop-i l =
    slice_cmp int_cmp (values_of (drop l.i l.first) (l.p ++ l.iterators)) (values_of (drop l.i l.second) (l.p ++ l.others))
    ≡ slice_cmp int_cmp (values_of l.first (l.p ++ l.iterators)) (values_of l.second (l.p ++ l.others))
