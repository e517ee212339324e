-- How far apart elements of an array that are live together lie at most.
use Rattle.std.proofs.Common.{◌≡◌, ℕ, ◌*◌, ◌^◌, ◌≤◌, ℤ, pos, ◌+ℤ◌, ◌-ℤ◌, ◌≤ℤ◌, ◌<ℤ◌, true, List, [], ◌∷◌, length, get_or, sym, ap, subst, ◌∙◌, inl, inr, arith}
use Rattle.std.specs.Prelude.{unsigned_abs, int_le, int_lt, ◌&&◌, slice_get, Some}
use Rattle.std.specs.List.{All}
use Rattle.std.proofs.lemmas.Int.{ints}
use Rattle.std.proofs.lemmas.List.Elements.{All-nil, All-cons, All-head, All-tail}
use Rattle.affc_rows.specs.Forms.{Affine, dot, value, values_of}
use Rattle.affc_rows.proofs.IntLemmas.{abs-add}
use Rattle.affc_rows.proofs.SizeLemmas.{Below, dot_within}
use Rattle.affc_system.specs.Pairs.{IsSubscript}
use Rattle.affc_ast.specs.declared.tree.Instance.{Instance}
use Rattle.affc_ast.specs.declared.tree.Program.{Program}
use Rattle.affc_ast.specs.Trace.{trace, loads_of, store_of}
use Rattle.affc_ast.specs.Values.{is_within}
use Rattle.affc_trace.specs.declared.schedule.Schedule.{Schedule}
use Rattle.affc_trace.specs.Dataflow.{LivePair}
use Rattle.affc_trace.specs.Effects.{effect}
use Rattle.affc_trace.specs.Law.{IsIn}
use Rattle.affc_trace.specs.Orders.{Touches}
use Rattle.affc_trace.proofs.Members.{to_first, to_second}
use Rattle.affc_basis.specs.Slices.{along, minus}
use Rattle.affc_basis.proofs.Touched.{both_live}
use Rattle.affc_domain.specs.Arrays.{declared_arrays, extents_at}
use Rattle.affc_domain.specs.Plain.{IsPlain}
use Rattle.affc_domain.specs.Ranges.{number_ranges}
use Rattle.affc_domain.proofs.Lists.{both_true, true_le, true_lt}
use Rattle.affc_nest.specs.declared.nest.ArrayInfo.{ArrayInfo}
use Rattle.affc_nest.specs.Laws.{StaysWithin}
use Rattle.affc_nest.specs.Nests.{nest_of}
use Rattle.affc_nest.specs.Questions.{extents_or_none}
use Rattle.affc_nest.proofs.QuestionLemmas.{extents_there}

-- ---- Extents

-- an extent of parameters within 2^24
extent_near : (f : Affine) (n : ℕ) (p : List ℤ) → n ≤ 4 → IsSubscript n f → Below (2 ^ 24) p → unsigned_abs (value f p) ≤ 2 ^ 43
extent_near f n p few s near =
    total (dot f.coefs p) f.constant (dot_within 65536 (2 ^ 24) 4 f.coefs p s.coefs_fit near (subst (λ m. m ≤ 4) (sym s.width) few)) s.constant_fits
  where
    total : (a c : ℤ) → unsigned_abs a ≤ 4 * (65536 * 2 ^ 24) → unsigned_abs c ≤ 16777216 → unsigned_abs (a +ℤ c) ≤ 2 ^ 43
    total a c h k = omega (arith, abs-add a c)

pub extents_near : (fs : List Affine) (n : ℕ) (p : List ℤ) → n ≤ 4 → All (IsSubscript n) fs → Below (2 ^ 24) p → Below (2 ^ 43) (values_of fs p)
extents_near [] n p few s near = All-nil (λ v. unsigned_abs v ≤ 2 ^ 43)
extents_near (f ∷ fs) n p few s near =
    All-cons (λ v. unsigned_abs v ≤ 2 ^ 43) (value f p) (values_of fs p) (extent_near f n p few (All-head (IsSubscript n) f fs s) near) (extents_near fs n p few (All-tail (IsSubscript n) f fs s) near)

-- ---- Elements

-- two subscripts within one extent
between : (x y e : ℤ) → pos 0 ≤ℤ x → x <ℤ e → pos 0 ≤ℤ y → y <ℤ e → unsigned_abs e ≤ 2 ^ 43 → unsigned_abs (x -ℤ y) ≤ 2 ^ 43
between x y e a b c d h = omega (arith, ints)

minus_near : (x y extents : List ℤ) → is_within x extents ≡ true → is_within y extents ≡ true → Below (2 ^ 43) extents → Below (2 ^ 43) (minus x y)
minus_near [] y extents h g near = All-nil (λ v. unsigned_abs v ≤ 2 ^ 43)
minus_near (x ∷ xs) [] extents h g near = All-nil (λ v. unsigned_abs v ≤ 2 ^ 43)
minus_near (x ∷ xs) (y ∷ ys) [] h g near = absurd (cc)
minus_near (x ∷ xs) (y ∷ ys) (e ∷ es) h g near =
    let a = both_true (int_le (pos 0) x && int_lt x e) (is_within xs es) h in
    let b = both_true (int_le (pos 0) y && int_lt y e) (is_within ys es) g in
    let c = both_true (int_le (pos 0) x) (int_lt x e) a.0 in
    let d = both_true (int_le (pos 0) y) (int_lt y e) b.0 in
    All-cons (λ v. unsigned_abs v ≤ 2 ^ 43) (x -ℤ y) (minus xs ys)
    (between x y e (true_le (pos 0) x c.0) (true_lt x e c.1) (true_le (pos 0) y d.0) (true_lt y e d.1) (All-head (λ v. unsigned_abs v ≤ 2 ^ 43) e es near))
    (minus_near xs ys es a.1 b.1 (All-tail (λ v. unsigned_abs v ≤ 2 ^ 43) e es near))

along_near : (row : Affine) (x y extents : List ℤ) → Below 256 row.coefs → length row.coefs ≤ 4 → is_within x extents ≡ true → is_within y extents ≡ true → Below (2 ^ 43) extents → along row x y ≤ 2 ^ 53
along_near row x y extents small few h g near =
    through (along row x y) (dot_within 256 (2 ^ 43) 4 row.coefs (minus x y) small (minus_near x y extents h g near) few)
  where
    through : (d : ℕ) → d ≤ 4 * (256 * 2 ^ 43) → d ≤ 2 ^ 53
    through d h = omega (arith, h)

-- ---- Live pairs

module _ (program : Program) (schedule : Schedule) (array : ℕ) (info : ArrayInfo) (there : slice_get (nest_of program).arrays array ≡ Some info) (plain : IsPlain program) (p : List ℤ) (l : length p ≡ length (number_ranges program.params))
    (stays : StaysWithin program p) where
  abbrev extents : List ℤ
  extents = values_of info.extents p

  are_extents : get_or (extents_at (declared_arrays program) p) array [] ≡ extents
  are_extents = extents_there program p array plain l ∙ ap (λ o. values_of (extents_or_none o) p) there

  touched : (b : Instance) (x : List ℤ) → IsIn b (trace program p) → Touches (effect program p) b (array, x) → is_within x extents ≡ true
  touched b x runs touches =
      subst (λ es. is_within x es ≡ true) are_extents
      (stays.accesses b (array, x) runs (elim touches [
        | inl i ↦ to_first (loads_of program p b) (store_of program p b ∷ []) (array, x) i
        | inr e ↦ to_second (loads_of program p b) (store_of program p b ∷ []) (array, x) (inl e)
      ]))

  pub live_near : Below (2 ^ 43) extents → (row : Affine) → Below 256 row.coefs → length row.coefs ≤ 4 → (x y : List ℤ) → LivePair program schedule array p x y → along row x y ≤ 2 ^ 53
  live_near near row small few x y live =
      let both = both_live program schedule array p (λ x. is_within x extents ≡ true) touched x y live in
      along_near row x y extents small few both.0 both.1 near
