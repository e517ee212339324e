-- Forms whose differences keep the limits of a system's rows, where they are made of trees that the search gives.
use Rattle.std.proofs.Common.{ℕ, zero, suc, ◌+◌, ◌*◌, ◌^◌, ◌≤◌, ◌+ℤ◌, List, [], ◌∷◌, ◌++◌, length, get_or, pos, refl, sym, subst, arith}
use Rattle.std.specs.Prelude.{unsigned_abs}
use Rattle.std.specs.List.{All}
use Rattle.std.proofs.lemmas.List.Elements.{All-nil, All-cons, All-head, All-tail, All-append, All-weaker}
use Rattle.affc_rows.specs.Forms.{Affine, dot, column_of, constants_of, composed}
use Rattle.affc_rows.specs.Sizes.{IsWithin}
use Rattle.affc_rows.proofs.IntLemmas.{abs-add}
use Rattle.affc_rows.proofs.SizeLemmas.{IsBelow, dot_within, entry_below, constants_below, within_raised, all_raised, gap_within}
use Rattle.affc_rows.proofs.ValueLemmas.{length-composed}
use Rattle.affc_system.specs.Systems.{FitsRow}
use Rattle.affc_system.proofs.SystemLemmas.{row_of}
use Rattle.affc_trace.specs.declared.schedule.Schedule.{Schedule}
use Rattle.affc_trace.specs.declared.schedule.Schedule.TheVariants.{Source, Time}
use Rattle.affc_trace.specs.Inverses.{columns_from}
use Rattle.affc_nest.specs.declared.nest.Nest.{Nest}
use Rattle.affc_nest.specs.Domains.{gap_row}
use Rattle.affc_order.specs.Asked.{IsScheduled}
use Rattle.affc_order.specs.Placed.{IsPlaced}
use Rattle.affc_order.specs.Posed.{Posed, form_at}
use Rattle.affc_order.proofs.CodeLemmas.{columns_sides, is_nest}
use Rattle.affc_order.proofs.DepthLemmas.{timed}
use Rattle.affc_order.proofs.PlacedLemmas.{are_images, are_slight_over, times_are}
use Rattle.affc_life.proofs.LightLemmas.{all_map}
use Rattle.affc_life.proofs.RowLemmas.{Compared}

-- ---- Differences

abbrev pub IsMild : (columns : ℕ) → Affine → Type 0
IsMild columns = IsWithin columns (2 ^ 39) (2 ^ 58)

pub gap_mild : (n : ℕ) (f g : Affine) (k : ℕ) → IsMild n f → IsMild n g → k ≤ 1 → FitsRow (gap_row f g k)
gap_mild n f g k s t h = (row_of n (2 ^ 39 + 2 ^ 39) ((2 ^ 58 + 2 ^ 58) + 1) (gap_row f g k) (omega arith) (omega arith) (gap_within n (2 ^ 39) (2 ^ 58) k f g s t h)).fits

-- ---- Forms of trees, and columns

-- within the limits of the forms of such a tree
abbrev pub IsNarrow : (columns : ℕ) → Affine → Type 0
IsNarrow columns = IsWithin columns (2 ^ 20) (2 ^ 40)

pub narrow_mild : (n : ℕ) (f : Affine) → IsNarrow n f → IsMild n f
narrow_mild n f w = within_raised n (2 ^ 20) (2 ^ 40) (2 ^ 39) (2 ^ 58) f (omega arith) (omega arith) w

pub columns_narrow : (columns first n : ℕ) → All (IsNarrow columns) (columns_from columns first n)
columns_narrow columns first n = all_raised columns (2 ^ 16) (2 ^ 32) (2 ^ 20) (2 ^ 40) (columns_from columns first n) (omega arith) (omega arith) (columns_sides columns first n)

-- ---- Times at such forms

column_narrow : (n j : ℕ) (gs : List Affine) → All (IsNarrow n) gs → All (λ d. unsigned_abs d ≤ 2 ^ 20) (column_of j gs)
column_narrow n j [] h = All-nil (λ d. unsigned_abs d ≤ 2 ^ 20)
column_narrow n j (g ∷ gs) h =
    All-cons (λ d. unsigned_abs d ≤ 2 ^ 20) (get_or g.coefs j (pos 0)) (column_of j gs) (entry_below (2 ^ 20) g.coefs j (All-head (IsNarrow n) g gs h).coefs_fit) (column_narrow n j gs (All-tail (IsNarrow n) g gs h))

narrow_below : (n : ℕ) (g : Affine) → IsNarrow n g → IsBelow (2 ^ 40) g
narrow_below n g w =
    let r = within_raised n (2 ^ 20) (2 ^ 40) (2 ^ 40) (2 ^ 40) g (omega arith) (omega arith) w in
    record { coefs_fit = r.coefs_fit; constant_fits = r.constant_fits }

module _ (columns : ℕ) (images : List Affine) (few : length images ≤ 10) (fit : All (IsNarrow columns) images) (f : Affine) (slight : IsWithin (length images) 256 (2 ^ 30) f) where
  few_coefs : length f.coefs ≤ 10
  few_coefs = subst (λ k. k ≤ 10) (sym slight.width) few

  composed_mild : (j n : ℕ) → All (λ c. unsigned_abs c ≤ 2 ^ 39) (composed f.coefs images j n)
  composed_mild j zero = All-nil (λ c. unsigned_abs c ≤ 2 ^ 39)
  composed_mild j (suc n) =
      All-cons (λ c. unsigned_abs c ≤ 2 ^ 39) (dot f.coefs (column_of j images)) (composed f.coefs images (suc j) n)
      (more (unsigned_abs (dot f.coefs (column_of j images))) (dot_within 256 (2 ^ 20) 10 f.coefs (column_of j images) slight.coefs_fit (column_narrow columns j images fit) few_coefs)) (composed_mild (suc j) n)
    where
      more : (a : ℕ) → a ≤ 10 * (256 * 2 ^ 20) → a ≤ 2 ^ 39
      more a h = omega (arith, h)

  image_mild : IsMild columns (form_at columns images f)
  image_mild = record {
    width = length-composed f.coefs images 0 columns;
    coefs_fit = composed_mild 0 columns;
    constant_fits = sum (unsigned_abs (dot f.coefs (constants_of images) +ℤ f.constant)) (unsigned_abs (dot f.coefs (constants_of images))) (unsigned_abs f.constant) (abs-add (dot f.coefs (constants_of images)) f.constant)
        (dot_within 256 (2 ^ 40) 10 f.coefs (constants_of images) slight.coefs_fit (constants_below (2 ^ 40) images (All-weaker (IsNarrow columns) (IsBelow (2 ^ 40)) (narrow_below columns) images fit)) few_coefs) slight.constant_fits;
  }
    where
      sum : (a d k : ℕ) → a ≤ d + k → d ≤ 10 * (256 * 2 ^ 40) → k ≤ 2 ^ 30 → a ≤ 2 ^ 58
      sum a d k e h g = omega (arith, e, h, g)

-- ---- What orders compare

pub compared_mild : (nest : Nest) (schedule : Schedule) (q : IsScheduled nest schedule) (columns : ℕ) (a : Posed) → IsPlaced nest columns a → All (IsNarrow columns) a.iterators → Compared (IsMild columns) nest columns schedule a
compared_mild nest Source q columns a placed fit = All-weaker (IsNarrow columns) (IsMild columns) (narrow_mild columns) a.iterators fit
compared_mild nest (Time components maps) q columns a placed fit =
    let n = is_nest nest (Time components maps) q in
    let has = (timed nest (Time components maps) q components maps refl a.part placed.part).has in
    let images : List Affine = columns_from columns 0 (length nest.params) ++ a.iterators in
    let few : length images ≤ 10 = (are_images nest n maps columns a placed has).few in
    let narrow : All (IsNarrow columns) images = All-append (IsNarrow columns) (columns_from columns 0 (length nest.params)) a.iterators (columns_narrow columns 0 (length nest.params)) fit in
    subst (All (IsMild columns)) (sym (times_are nest n maps columns a placed has))
    (all_map (IsWithin (length images) 256 (2 ^ 30)) (IsMild columns) (form_at columns images) (λ f s. image_mild columns images few narrow f s) has.time_map.forms (are_slight_over nest n maps columns a placed has))
