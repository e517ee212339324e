-- Numbers of the loops keep within `int64_t` by the limits of schedules and of the interval rule.
use Rattle.std.proofs.Common.{◌≡◌, ℕ, zero, suc, ◌+◌, ◌*◌, ◌^◌, ◌≤◌, ℤ, pos, negsuc, ◌+ℤ◌, ◌*ℤ◌, ◌≤ℤ◌, ◌&&◌, IsTrue, List, [], ◌∷◌, ◌++◌, length, get_or, Some, None, refl, sym, ap, subst, ◌∙◌, arith}
use Rattle.std.specs.Prelude.{slice_get, unsigned_abs, int_le, nat_abs, nat_le}
use Rattle.std.specs.List.{All}
use Rattle.std.proofs.Math.Nat.{mul-le-mul_left, mul-le-mul_right}
use Rattle.std.proofs.lemmas.Bool.{leb-true}
use Rattle.std.proofs.lemmas.Int.{ints, unsigned_abs-mul}
use Rattle.std.proofs.lemmas.List.Elements.{All-cons}
use Rattle.std.proofs.lemmas.Option.{none-some, same_Some}
use Rattle.affc_rows.specs.Forms.{Affine, dot, dot_magnitude, value, magnitude, values_of, columns_of, HaveColumns}
use Rattle.affc_rows.proofs.IntLemmas.{abs-add}
use Rattle.affc_ast.specs.declared.tree.Program.{Program}
use Rattle.affc_ast.specs.Trace.{assignments}
use Rattle.affc_system.specs.Boxes.{InBox}
use Rattle.affc_trace.specs.declared.schedule.TimeMap.{TimeMap}
use Rattle.affc_trace.specs.declared.schedule.Schedule.TheVariants.{Time}
use Rattle.affc_trace.specs.Law.{IsIn}
use Rattle.affc_trace.specs.Target.{numbers_in, IsScheduleOf, are_slight, all_slight, maps_within}
use Rattle.affc_trace.proofs.Runs.{length_append}
use Rattle.affc_domain.specs.Plain.{IsPlain, plain_range, plain_ranges}
use Rattle.affc_domain.specs.Ranges.{is_near, first_wide, number_ranges}
use Rattle.affc_domain.specs.Rounds.{rounds, loops_in}
use Rattle.affc_domain.proofs.Lists.{both_true}
use Rattle.affc_domain.proofs.PlainLemmas.{rounds_are_plain, few_loops}
use Rattle.affc_domain.proofs.RangeLemmas.{numbers_are}
use Rattle.affc_domain.proofs.FormLemmas.{slight_coefs}
use Rattle.affc_safe.specs.Overflow.{near_ranges}
use Rattle.affc_loops.specs.Laws.{IsTime, AreTimeRanges}
use Rattle.affc_loops.specs.Limits.{IsSlight}
use Rattle.affc_loops.specs.Loops.{Scheduled, boxes, scheduled, loop_names, time_ranges}
use Rattle.affc_loops.proofs.Boxed.{Small, box_length}
use Rattle.affc_loops.proofs.Boxes.{Sits, sits, IsNearBox, near_box, params_ordered}
use Rattle.affc_loops.proofs.Guards.{names_count}
use Rattle.affc_loops.proofs.Scheduled.{is_scheduled_at, shape_of}
use Rattle.affc_loops.proofs.TimeRanges.{Spans, are_ranges}

-- ---- Limits as facts

-- both ends are within this magnitude
abbrev pub Within : ℕ → ℤ × ℤ → Type 0
Within most range = (unsigned_abs range.0 ≤ most) × (unsigned_abs range.1 ≤ most)

pub slight_forms : (fs : List Affine) → IsTrue (all_slight fs) → All IsSlight fs
slight_forms [] h = λ i x l. absurd (omega arith)
slight_forms (f ∷ fs) h =
    let a = both_true (nat_le (nat_abs f.constant) (2 ^ 30) && are_slight f.coefs) (all_slight fs) h in
    let b = both_true (nat_le (nat_abs f.constant) (2 ^ 30)) (are_slight f.coefs) a.0 in
    All-cons IsSlight f fs (slight_coefs f.coefs b.1, leb-true (nat_abs f.constant) (2 ^ 30) b.0) (slight_forms fs a.1)

pub record MapWithin (m : TimeMap) : Type 0 where
  pub forms : All IsSlight m.forms
  pub inverse : All IsSlight m.inverse

pub map_within : (ms : List TimeMap) (k : ℕ) (m : TimeMap) → IsTrue (maps_within ms) → slice_get ms k ≡ Some m → MapWithin m
map_within [] k m h e = absurd (none-some m e)
map_within (x ∷ ms) zero m h e =
    let a = both_true (all_slight x.forms && all_slight x.inverse) (maps_within ms) h in
    let b = both_true (all_slight x.forms) (all_slight x.inverse) a.0 in
    subst MapWithin (same_Some x m e) (record { forms = slight_forms x.forms b.0; inverse = slight_forms x.inverse b.1 })
map_within (x ∷ ms) (suc k) m h e = map_within ms k m (both_true (all_slight x.forms && all_slight x.inverse) (maps_within ms) h).1 e

pub near_within : (rs : List (ℤ × ℤ)) → IsTrue (near_ranges rs) → All (Within (2 ^ 31)) rs
near_within [] h = λ i x l. absurd (omega arith)
near_within (r ∷ rs) h =
    let a = both_true (is_near r.0 && is_near r.1) (near_ranges rs) h in
    let b = both_true (is_near r.0) (is_near r.1) a.0 in
    All-cons (Within (2 ^ 31)) r rs (leb-true (nat_abs r.0) (2 ^ 31) b.0, leb-true (nat_abs r.1) (2 ^ 31) b.1) (near_within rs a.1)

pub params_within : (rs : List (ℤ × ℤ)) → IsTrue (plain_ranges rs) → All (Within (2 ^ 24)) rs
params_within [] h = λ i x l. absurd (omega arith)
params_within (r ∷ rs) h =
    let a = both_true (plain_range r) (plain_ranges rs) h in
    let b = both_true (int_le r.0 r.1) _ a.0 in
    let d = both_true (nat_le (nat_abs r.0) (2 ^ 24)) (nat_le (nat_abs r.1) (2 ^ 24)) b.1 in
    All-cons (Within (2 ^ 24)) r rs (leb-true (nat_abs r.0) (2 ^ 24) d.0, leb-true (nat_abs r.1) (2 ^ 24) d.1) (params_within rs a.1)

-- ---- Sums of products

-- so many times
abbrev pub many : ℕ → ℕ → ℕ
many zero k = 0
many (suc n) k = k + many n k

pub many_more : (m n k : ℕ) → m ≤ n → many m k ≤ many n k
many_more zero n k h = omega arith
many_more (suc m) zero k h = absurd (omega arith)
many_more (suc m) (suc n) k h = let r : many m k ≤ many n k = many_more m n k (omega arith) in omega arith

abbrev AllWithin : ℕ → List ℤ → Type 0
AllWithin most xs = All (λ x. unsigned_abs x ≤ most) xs

pub product_below : (a b c d : ℕ) → a ≤ c → b ≤ d → a * b ≤ c * d
product_below a b c d h k =
    let p : a * b ≤ a * d = mul-le-mul_left a k in
    let q : a * d ≤ c * d = mul-le-mul_right d h in
    omega (arith, p, q)

dot_below : (cs xs : List ℤ) (c x : ℕ) → AllWithin c cs → AllWithin x xs → dot_magnitude cs xs ≤ many (length xs) (c * x)
dot_below [] xs c x h k = omega arith
dot_below (a ∷ cs) [] c x h k = omega arith
dot_below (a ∷ cs) (y ∷ xs) c x h k =
    let first : unsigned_abs a * unsigned_abs y ≤ c * x = product_below (unsigned_abs a) (unsigned_abs y) c x (h 0 a (omega arith)) (k 0 y (omega arith)) in
    let rest : dot_magnitude cs xs ≤ many (length xs) (c * x) = dot_below cs xs c x (λ i z m. h (suc i) z (omega arith)) (λ i z m. k (suc i) z (omega arith)) in
    omega arith

between : (low high x : ℤ) (most : ℕ) → low ≤ℤ x → x ≤ℤ high → unsigned_abs low ≤ most → unsigned_abs high ≤ most → unsigned_abs x ≤ most
between low (pos m) (pos n) most l h a b = omega (arith, ints)
between low (negsuc m) (pos n) most l h a b = absurd (omega (arith, ints))
between (pos m) high (negsuc n) most l h a b = absurd (omega (arith, ints))
between (negsuc m) high (negsuc n) most l h a b = omega (arith, ints)

pub box_within : (rs : List (ℤ × ℤ)) (xs : List ℤ) (most : ℕ) → InBox rs xs → All (Within most) rs → AllWithin most xs
box_within [] [] most b w = λ i x m. absurd (omega arith)
box_within [] (x ∷ xs) most b w = absurd b
box_within (r ∷ rs) [] most b w = absurd b
box_within (r ∷ rs) (x ∷ xs) most b w =
    let ends : Within most r = w 0 r (omega arith) in
    All-cons (λ x. unsigned_abs x ≤ most) x xs (between r.0 r.1 x most b.0 b.1 ends.0 ends.1) (box_within rs xs most b.2 (λ i y m. w (suc i) y (omega arith)))

within_more : (xs : List ℤ) (m n : ℕ) → m ≤ n → AllWithin m xs → AllWithin n xs
within_more xs m n h w = λ i x l. let k : unsigned_abs (get_or xs i x) ≤ m = w i x l in omega arith

within_append : (xs ys : List ℤ) (most : ℕ) → AllWithin most xs → AllWithin most ys → AllWithin most (xs ++ ys)
within_append [] ys most h k = k
within_append (x ∷ xs) ys most h k = All-cons (λ x. unsigned_abs x ≤ most) x (xs ++ ys) (h 0 x (omega arith)) (within_append xs ys most (λ i y m. h (suc i) y (omega arith)) k)

-- a slight form at so many numbers
pub slight_below : (f : Affine) (xs : List ℤ) (n most : ℕ) → IsSlight f → AllWithin most xs → length xs ≤ n → magnitude f xs ≤ many n (256 * most) + 2 ^ 30
slight_below f xs n most s w l =
    let d : dot_magnitude f.coefs xs ≤ many (length xs) (256 * most) = dot_below f.coefs xs 256 most s.0 w in
    let e : many (length xs) (256 * most) ≤ many n (256 * most) = many_more (length xs) n (256 * most) l in
    let c : unsigned_abs f.constant ≤ 2 ^ 30 = s.1 in
    omega arith

value_below : (cs xs : List ℤ) → unsigned_abs (dot cs xs) ≤ dot_magnitude cs xs
value_below [] xs = omega (arith, ints)
value_below (c ∷ cs) [] = omega (arith, ints)
value_below (c ∷ cs) (x ∷ xs) =
    let a : unsigned_abs ((c *ℤ x) +ℤ dot cs xs) ≤ unsigned_abs (c *ℤ x) + unsigned_abs (dot cs xs) = abs-add (c *ℤ x) (dot cs xs) in
    let p : unsigned_abs (c *ℤ x) ≡ unsigned_abs c * unsigned_abs x = unsigned_abs-mul c x in
    let r : unsigned_abs (dot cs xs) ≤ dot_magnitude cs xs = value_below cs xs in
    omega arith

pub value_within : (f : Affine) (xs : List ℤ) → unsigned_abs (value f xs) ≤ magnitude f xs
value_within f xs =
    let a : unsigned_abs (dot f.coefs xs +ℤ f.constant) ≤ unsigned_abs (dot f.coefs xs) + unsigned_abs f.constant = abs-add (dot f.coefs xs) f.constant in
    let r : unsigned_abs (dot f.coefs xs) ≤ dot_magnitude f.coefs xs = value_below f.coefs xs in
    omega arith

-- the greatest magnitude of a time: ten columns, each within 2^31
abbrev pub time_most : ℕ
time_most = many 10 (256 * 2 ^ 31) + 2 ^ 30

values_at : (fs : List Affine) (q : List ℤ) (j : ℕ) (x : ℤ) → slice_get (values_of fs q) j ≡ Some x → (f : Affine) × (slice_get fs j ≡ Some f) × (value f q ≡ x)
values_at [] q j x e = absurd (none-some x e)
values_at (f ∷ fs) q zero x e = (f, refl, same_Some (value f q) x e)
values_at (f ∷ fs) q (suc j) x e = values_at fs q j x e

pub all_at : {A : Type 0} (P : A → Type 0) (xs : List A) (j : ℕ) (x : A) → All P xs → slice_get xs j ≡ Some x → P x
all_at P [] j x a e = absurd (none-some x e)
all_at P (y ∷ xs) zero x a e = subst P (same_Some y x e) (a 0 y (omega arith))
all_at P (y ∷ xs) (suc j) x a e = all_at P xs j x (λ i z m. a (suc i) z (omega arith)) e

pub all_from : {A : Type 0} (P : A → Type 0) (xs : List A) → ((j : ℕ) (x : A) → slice_get xs j ≡ Some x → P x) → All P xs
all_from P [] h = λ i x m. absurd (omega arith)
all_from P (y ∷ xs) h = All-cons P y xs (h zero y refl) (all_from P xs (λ j x e. h (suc j) x e))

-- ---- The sizes of a program's loops

module _ (source : Program) (n : ℕ) (maps : List TimeMap) (plain : IsPlain source) (near : first_wide source ≡ None) (schedule : IsScheduleOf source (Time n maps)) (few : n ≤ 12)
    (slight : IsTrue (maps_within maps)) where
  abbrev params : List (ℤ × ℤ)
  params = number_ranges source.params

  abbrev all : List Scheduled
  all = scheduled source maps

  abbrev ranges : List (ℤ × ℤ)
  ranges = time_ranges params all

  -- a statement's box, over the loops round it
  near_at : (k : ℕ) (box : List (ℤ × ℤ)) (s : Sits source k box) → IsNearBox s.around box
  near_at k box s = near_box params s.around box s.is_box

  few_at : (k : ℕ) (box : List (ℤ × ℤ)) (s : Sits source k box) → length box ≤ 6
  few_at k box s =
      let b = near_at k box s in
      let l : length box ≡ loops_in s.around = b.long in
      let f : 0 + loops_in s.around ≤ 6 = few_loops (length params) 0 0 s.around (omega arith) (rounds_are_plain source plain k s.around s.its_rounds) in
      omega arith

  pub spans : (e : Scheduled) → IsIn e all → Spans params n e
  spans e i =
      let h = is_scheduled_at 0 (rounds source) (assignments source) maps (boxes source) e i in
      let s = sits source h.at e.ranges h.its_ranges in
      let b = near_at h.at e.ranges s in
      let shape = shape_of source n maps schedule h.at s.around e.times s.its_rounds h.its_times in
      let c : columns_of e.times.forms ≡ numbers_in source.params + length (loop_names s.around) = shape.columns in
      let l : length e.ranges ≡ loops_in s.around = b.long in
      let q : length (loop_names s.around) ≡ loops_in s.around = names_count s.around in
      let m : numbers_in source.params ≡ length params = numbers_are source.params in
      let w : length (params ++ e.ranges) ≡ length params + length e.ranges = length_append params e.ranges in
      let same : columns_of e.times.forms ≡ length (params ++ e.ranges) = omega arith in
      record { components = shape.components; columns = subst (λ u. HaveColumns u e.times.forms) same e.times.shaped; ordered = b.ordered }

  pub times_are : AreTimeRanges params all ranges
  times_are = are_ranges params n (params_ordered params plain.ranges) all spans

  point_within : (p xs : List ℤ) (k : ℕ) (box : List (ℤ × ℤ)) → Sits source k box → InBox params p → InBox box xs → AllWithin (2 ^ 31) (p ++ xs) × (length (p ++ xs) ≤ 10)
  point_within p xs k box s b c =
      let lp : length p ≡ length params = box_length params p b in
      let lx : length xs ≡ length box = box_length box xs c in
      let fp : length params ≤ 4 = plain.few_numbers in
      let fx : length box ≤ 6 = few_at k box s in
      let la : length (p ++ xs) ≡ length p + length xs = length_append p xs in
      let own = near_at k box s in
      (within_append p xs (2 ^ 31) (within_more p (2 ^ 24) (2 ^ 31) (omega arith) (box_within params p (2 ^ 24) b (params_within params plain.ranges))) (box_within box xs (2 ^ 31) c (near_within box own.near)), omega arith)

  times_below : (k : ℕ) (box : List (ℤ × ℤ)) (m : TimeMap) → slice_get (boxes source) k ≡ Some (Some box) → slice_get maps k ≡ Some m → (p xs : List ℤ) → InBox params p → InBox box xs
      → All (λ f. magnitude f (p ++ xs) ≤ time_most) m.forms
  times_below k box m e f p xs b c =
      let w = point_within p xs k box (sits source k box e) b c in
      let s = (map_within maps k m slight f).forms in
      λ i g l. slight_below (get_or m.forms i g) (p ++ xs) 10 (2 ^ 31) (s i g l) w.0 w.1

  time_small : (component : ℕ) (x : ℤ) → IsTime params all component x → unsigned_abs x ≤ time_most
  time_small component x v =
      let h = is_scheduled_at 0 (rounds source) (assignments source) maps (boxes source) v.0 v.1 in
      let at = values_at (v.0).times.forms (v.2 ++ v.3) component x v.6 in
      let m : magnitude at.0 (v.2 ++ v.3) ≤ time_most =
      all_at (λ f. magnitude f (v.2 ++ v.3) ≤ time_most) (v.0).times.forms component at.0 (times_below h.at (v.0).ranges (v.0).times h.its_ranges h.its_times v.2 v.3 v.4 v.5) at.1 in
      let a : unsigned_abs (value at.0 (v.2 ++ v.3)) ≤ magnitude at.0 (v.2 ++ v.3) = value_within at.0 (v.2 ++ v.3) in
      let q : unsigned_abs (value at.0 (v.2 ++ v.3)) ≡ unsigned_abs x = ap unsigned_abs at.2 in
      omega arith

  pub ranges_within : All (Within time_most) ranges
  ranges_within = all_from (Within time_most) ranges (λ j r e. (time_small j r.0 (times_are.least j r e), time_small j r.1 (times_are.greatest j r e)))

  pub is_small : length ranges ≡ n → (p : List ℤ) → InBox params p → Small source maps (boxes source) ranges p
  is_small long p b = record {
    ranges_small = λ i r l. let w : Within time_most (get_or ranges i r) = ranges_within i r l in (omega (arith, w.0), omega (arith, w.1));
    boxes_small = λ k box e i r l.
        let own = near_at k box (sits source k box e) in
        let w : Within (2 ^ 31) (get_or box i r) = near_within box own.near i r l in
        (omega (arith, w.0), omega (arith, w.1));
    one_each = λ k box rs e f.
        let s = sits source k box e in
        let own = near_at k box s in
        own.long ∙ ap loops_in (same_Some s.around rs (sym s.its_rounds ∙ f)) ∙ sym (names_count rs);
    times_small = λ k box m e f xs c i g l. let w : magnitude (get_or m.forms i g) (p ++ xs) ≤ time_most = times_below k box m e f p xs b c i g l in omega arith;
    inverse_small = λ k box m e f t c i g l.
        let lt : length t ≡ length ranges = box_length ranges t c in
        let lp : length p ≡ length params = box_length params p b in
        let fp : length params ≤ 4 = plain.few_numbers in
        let la : length (p ++ t) ≡ length p + length t = length_append p t in
        let w : AllWithin time_most (p ++ t) =
        within_append p t time_most (within_more p (2 ^ 24) time_most (omega arith) (box_within params p (2 ^ 24) b (params_within params plain.ranges))) (box_within ranges t time_most c ranges_within) in
        let s = (map_within maps k m slight f).inverse i g l in
        let d : magnitude (get_or m.inverse i g) (p ++ t) ≤ many 16 (256 * time_most) + 2 ^ 30 = slight_below (get_or m.inverse i g) (p ++ t) 16 time_most s w (omega arith) in
        omega arith;
  }
