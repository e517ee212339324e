-- The ranges of times hold the times at all points of the boxes, and both ends of each are such times.
use Rattle.std.proofs.Common.{◌≡◌, ℕ, zero, suc, ℤ, ◌≤ℤ◌, Bool, true, false, List, [], ◌∷◌, ◌++◌, length, map, Some, refl, sym, ap, subst, ◌∙◌, ◌⊎◌, inl, inr, arith}
use Rattle.std.specs.Prelude.{slice_get}
use Rattle.std.specs.Int.{int_max, int_min}
use Rattle.std.proofs.lemmas.Int.{ints}
use Rattle.std.proofs.lemmas.List.Elements.{All-cons}
use Rattle.std.proofs.lemmas.Option.{none-some, same_Some}
use Rattle.affc_rows.specs.Forms.{Affine, values_of, HaveColumns}
use Rattle.affc_system.specs.Boxes.{IsBox, IsRange, InBox, corner}
use Rattle.affc_system.proofs.BoxLemmas.{corner_in_box, corner_is_corner, value_least, value_greatest}
use Rattle.affc_trace.specs.Law.{IsIn}
use Rattle.affc_domain.proofs.RangeLemmas.{box_append}
use Rattle.affc_loops.specs.Laws.{IsTime, AreTimeRanges}
use Rattle.affc_loops.specs.Loops.{Scheduled, times_of, time_ranges}
use Rattle.affc_loops.specs.Spans.{span, hull, hulls}

-- ---- Boxes side by side

-- a point of both in two parts
pub record Parts (rs ss : List (ℤ × ℤ)) (zs : List ℤ) : Type 0 where
  pub first : List ℤ
  pub second : List ℤ
  pub is : zs ≡ first ++ second
  pub in_first : InBox rs first
  pub in_second : InBox ss second

pub box_parts : (rs ss : List (ℤ × ℤ)) (zs : List ℤ) → InBox (rs ++ ss) zs → Parts rs ss zs
box_parts [] ss zs b = record { first = []; second = zs; is = refl; in_first = tt; in_second = b }
box_parts (r ∷ rs) ss [] b = absurd b
box_parts (r ∷ rs) ss (z ∷ zs) b =
    let h = box_parts rs ss zs b.2 in
    record { first = z ∷ h.first; second = h.second; is = ap (λ l. z ∷ l) h.is; in_first = (b.0, b.1, h.in_first); in_second = h.in_second }

pub ordered_append : (rs ss : List (ℤ × ℤ)) → IsBox rs → IsBox ss → IsBox (rs ++ ss)
ordered_append [] ss b c = c
ordered_append (r ∷ rs) ss b c = All-cons IsRange r (rs ++ ss) (b 0 r (omega arith)) (ordered_append rs ss (λ i x l. b (suc i) x (omega arith)) c)

-- ---- Spans

spans_hold : (box : List (ℤ × ℤ)) (fs : List Affine) (xs : List ℤ) → HaveColumns (length box) fs → InBox box xs → InBox (map (span box) fs) (values_of fs xs)
spans_hold box [] xs h b = tt
spans_hold box (f ∷ fs) xs h b =
    let wide : length f.coefs ≡ length box = h 0 f (omega arith) in
    (value_least f box xs wide b, value_greatest f box xs wide b, spans_hold box fs xs (λ i g l. h (suc i) g (omega arith)) b)

-- an end of a span is the value at a corner
pub record AtPoint (box : List (ℤ × ℤ)) (fs : List Affine) (component : ℕ) (x : ℤ) : Type 0 where
  pub point : List ℤ
  pub in_box : InBox box point
  pub is : slice_get (values_of fs point) component ≡ Some x

span_ends : (box : List (ℤ × ℤ)) (fs : List Affine) → HaveColumns (length box) fs → IsBox box → (component : ℕ) (r : ℤ × ℤ) → slice_get (map (span box) fs) component ≡ Some r
    → AtPoint box fs component r.0 × AtPoint box fs component r.1
span_ends box [] h b component r e = absurd (none-some r e)
span_ends box (f ∷ fs) h b zero r e =
    let wide : length f.coefs ≡ length box = h 0 f (omega arith) in
    let same : span box f ≡ r = same_Some (span box f) r e in
    let at = λ (g : Bool). corner_in_box box (corner g f.coefs box) b (corner_is_corner g f.coefs box wide) in (
      record { point = corner false f.coefs box; in_box = at false; is = ap (λ (s : ℤ × ℤ). Some s.0) same },
      record { point = corner true f.coefs box; in_box = at true; is = ap (λ (s : ℤ × ℤ). Some s.1) same },
    )
span_ends box (f ∷ fs) h b (suc k) r e =
    let t = span_ends box fs (λ i g l. h (suc i) g (omega arith)) b k r e in (
      record { point = (t.0).point; in_box = (t.0).in_box; is = (t.0).is },
      record { point = (t.1).point; in_box = (t.1).in_box; is = (t.1).is },
    )

-- ---- Hulls

pub min_below : (a b x : ℤ) → a ≤ℤ x → int_min a b ≤ℤ x
min_below a b x h = first_of (omega (arith, ints), grind (arith, ints, h))

pub min_below_too : (a b x : ℤ) → b ≤ℤ x → int_min a b ≤ℤ x
min_below_too a b x h = first_of (omega (arith, ints), grind (arith, ints, h))

pub max_above : (a b x : ℤ) → x ≤ℤ a → x ≤ℤ int_max a b
max_above a b x h = first_of (omega (arith, ints), grind (arith, ints, h))

pub max_above_too : (a b x : ℤ) → x ≤ℤ b → x ≤ℤ int_max a b
max_above_too a b x h = first_of (omega (arith, ints), grind (arith, ints, h))

min_either : (a b : ℤ) → (int_min a b ≡ a) ⊎ (int_min a b ≡ b)
min_either a b = grind (arith, ints)

max_either : (a b : ℤ) → (int_max a b ≡ a) ⊎ (int_max a b ≡ b)
max_either a b = grind (arith, ints)

first_in_hulls : (rs ss : List (ℤ × ℤ)) (t : List ℤ) → length rs ≡ length ss → InBox rs t → InBox (hulls rs ss) t
first_in_hulls [] ss [] l b = tt
first_in_hulls [] ss (x ∷ t) l b = absurd b
first_in_hulls (r ∷ rs) [] t l b = absurd (omega arith)
first_in_hulls (r ∷ rs) (s ∷ ss) [] l b = absurd b
first_in_hulls (r ∷ rs) (s ∷ ss) (x ∷ t) l b = (min_below r.0 s.0 x b.0, max_above r.1 s.1 x b.1, first_in_hulls rs ss t (omega arith) b.2)

second_in_hulls : (rs ss : List (ℤ × ℤ)) (t : List ℤ) → length rs ≡ length ss → InBox ss t → InBox (hulls rs ss) t
second_in_hulls [] [] [] l b = tt
second_in_hulls [] [] (x ∷ t) l b = absurd b
second_in_hulls [] (s ∷ ss) t l b = absurd (omega arith)
second_in_hulls (r ∷ rs) [] t l b = absurd (omega arith)
second_in_hulls (r ∷ rs) (s ∷ ss) [] l b = absurd b
second_in_hulls (r ∷ rs) (s ∷ ss) (x ∷ t) l b = (min_below_too r.0 s.0 x b.0, max_above_too r.1 s.1 x b.1, second_in_hulls rs ss t (omega arith) b.2)

hulls_long : (rs ss : List (ℤ × ℤ)) → length rs ≡ length ss → length (hulls rs ss) ≡ length rs
hulls_long [] ss l = refl
hulls_long (r ∷ rs) [] l = absurd (omega arith)
hulls_long (r ∷ rs) (s ∷ ss) l = ap suc (hulls_long rs ss (omega arith))

-- an end of a hull is an end of one of both
record Ends (rs ss : List (ℤ × ℤ)) (component : ℕ) (r : ℤ × ℤ) : Type 0 where
  one : ℤ × ℤ
  other : ℤ × ℤ
  its_one : slice_get rs component ≡ Some one
  its_other : slice_get ss component ≡ Some other
  least : (r.0 ≡ one.0) ⊎ (r.0 ≡ other.0)
  greatest : (r.1 ≡ one.1) ⊎ (r.1 ≡ other.1)

of_either : {a b c : ℤ} → (a ≡ b) ⊎ (a ≡ c) → (x : ℤ) → a ≡ x → (x ≡ b) ⊎ (x ≡ c)
of_either (inl e) x q = inl (sym q ∙ e)
of_either (inr e) x q = inr (sym q ∙ e)

hull_ends : (rs ss : List (ℤ × ℤ)) (component : ℕ) (r : ℤ × ℤ) → slice_get (hulls rs ss) component ≡ Some r → Ends rs ss component r
hull_ends [] ss k r e = absurd (none-some r e)
hull_ends (a ∷ rs) [] k r e = absurd (none-some r e)
hull_ends (a ∷ rs) (b ∷ ss) zero r e =
    let same : hull a b ≡ r = same_Some (hull a b) r e in
    record {
      one = a;
      other = b;
      its_one = refl;
      its_other = refl;
      least = of_either (min_either a.0 b.0) r.0 (ap (λ (s : ℤ × ℤ). s.0) same);
      greatest = of_either (max_either a.1 b.1) r.1 (ap (λ (s : ℤ × ℤ). s.1) same);
    }
hull_ends (a ∷ rs) (b ∷ ss) (suc k) r e =
    let h = hull_ends rs ss k r e in record { one = h.one; other = h.other; its_one = h.its_one; its_other = h.its_other; least = h.least; greatest = h.greatest }

-- ---- The ranges of scheduled statements

map_long : (box : List (ℤ × ℤ)) (fs : List Affine) → length (map (span box) fs) ≡ length fs
map_long box [] = refl
map_long box (f ∷ fs) = ap suc (map_long box fs)

-- what the ranges take of a statement
pub record Spans (params : List (ℤ × ℤ)) (n : ℕ) (e : Scheduled) : Type 0 where
  pub components : length e.times.forms ≡ n
  pub columns : HaveColumns (length (params ++ e.ranges)) e.times.forms
  pub ordered : IsBox e.ranges

module _ (params : List (ℤ × ℤ)) (n : ℕ) (params_ordered : IsBox params) where
  abbrev AllSpan : List Scheduled → Type 0
  AllSpan es = (e : Scheduled) → IsIn e es → Spans params n e

  pub here_long : (e : Scheduled) → Spans params n e → length (times_of params e) ≡ n
  here_long e s = map_long (params ++ e.ranges) e.times.forms ∙ s.components

  pub ranges_long : (e : Scheduled) (es : List Scheduled) → AllSpan (e ∷ es) → length (time_ranges params (e ∷ es)) ≡ n
  ranges_long e [] s = here_long e (s e (inl refl))
  ranges_long e (f ∷ es) s =
      let a : length (times_of params e) ≡ n = here_long e (s e (inl refl)) in
      let b : length (time_ranges params (f ∷ es)) ≡ n = ranges_long f es (λ g i. s g (inr i)) in
      hulls_long (times_of params e) (time_ranges params (f ∷ es)) (a ∙ sym b) ∙ a

  as_long : (e f : Scheduled) (es : List Scheduled) → AllSpan (e ∷ f ∷ es) → length (times_of params e) ≡ length (time_ranges params (f ∷ es))
  as_long e f es s = here_long e (s e (inl refl)) ∙ sym (ranges_long f es (λ g i. s g (inr i)))

  pub here_holds : (e : Scheduled) → Spans params n e → (p xs : List ℤ) → InBox params p → InBox e.ranges xs → InBox (times_of params e) (values_of e.times.forms (p ++ xs))
  here_holds e s p xs b c = spans_hold (params ++ e.ranges) e.times.forms (p ++ xs) s.columns (box_append params e.ranges p xs b c)

  holds : (es : List Scheduled) → AllSpan es → (e : Scheduled) → IsIn e es → (p xs : List ℤ) → InBox params p → InBox e.ranges xs → InBox (time_ranges params es) (values_of e.times.forms (p ++ xs))
  holds [] s e i p xs b c = absurd i
  holds (f ∷ []) s e (inl q) p xs b c = subst (λ (g : Scheduled). InBox (times_of params g) (values_of e.times.forms (p ++ xs))) q (here_holds e (s e (inl q)) p xs b c)
  holds (f ∷ []) s e (inr i) p xs b c = absurd i
  holds (f ∷ g ∷ es) s e (inl q) p xs b c =
      first_in_hulls (times_of params f) (time_ranges params (g ∷ es)) _ (as_long f g es s)
      (subst (λ (h : Scheduled). InBox (times_of params h) (values_of e.times.forms (p ++ xs))) q (here_holds e (s e (inl q)) p xs b c))
  holds (f ∷ g ∷ es) s e (inr i) p xs b c =
      second_in_hulls (times_of params f) (time_ranges params (g ∷ es)) _ (as_long f g es s) (holds (g ∷ es) (λ h j. s h (inr j)) e i p xs b c)

  at_time : (es : List Scheduled) (e : Scheduled) → IsIn e es → (component : ℕ) (x : ℤ) → AtPoint (params ++ e.ranges) e.times.forms component x → IsTime params es component x
  at_time es e i component x a =
      let h = box_parts params e.ranges a.point a.in_box in
      (e, i, h.first, h.second, h.in_first, h.in_second, ap (λ q. slice_get (values_of e.times.forms q) component) (sym h.is) ∙ a.is)

  here_ends : (es : List Scheduled) (e : Scheduled) → IsIn e es → Spans params n e → (component : ℕ) (r : ℤ × ℤ) → slice_get (times_of params e) component ≡ Some r → IsTime params es component r.0 × IsTime params es component r.1
  here_ends es e i s component r q =
      let t = span_ends (params ++ e.ranges) e.times.forms s.columns (ordered_append params e.ranges params_ordered s.ordered) component r q in
      (at_time es e i component r.0 t.0, at_time es e i component r.1 t.1)

  -- a time of some of the statements
  of_more : (f : Scheduled) (es : List Scheduled) (component : ℕ) (x : ℤ) → IsTime params es component x → IsTime params (f ∷ es) component x
  of_more f es component x t = (t.0, inr t.1, t.2, t.3, t.4, t.5, t.6)

  either_time : (es : List Scheduled) (component : ℕ) (x a b : ℤ) → (x ≡ a) ⊎ (x ≡ b) → IsTime params es component a → IsTime params es component b → IsTime params es component x
  either_time es component x a b (inl e) s t = subst (IsTime params es component) (sym e) s
  either_time es component x a b (inr e) s t = subst (IsTime params es component) (sym e) t

  ends : (es : List Scheduled) → AllSpan es → (component : ℕ) (r : ℤ × ℤ) → slice_get (time_ranges params es) component ≡ Some r → IsTime params es component r.0 × IsTime params es component r.1
  ends [] s component r q = absurd (none-some r q)
  ends (e ∷ []) s component r q = here_ends (e ∷ []) e (inl refl) (s e (inl refl)) component r q
  ends (e ∷ f ∷ es) s component r q =
      let all = e ∷ f ∷ es in
      let h = hull_ends (times_of params e) (time_ranges params (f ∷ es)) component r q in
      let a = here_ends all e (inl refl) (s e (inl refl)) component h.one h.its_one in
      let b = ends (f ∷ es) (λ g i. s g (inr i)) component h.other h.its_other in (
        either_time all component r.0 h.one.0 h.other.0 h.least a.0 (of_more e (f ∷ es) component h.other.0 b.0),
        either_time all component r.1 h.one.1 h.other.1 h.greatest a.1 (of_more e (f ∷ es) component h.other.1 b.1),
      )

  pub are_ranges : (es : List Scheduled) → AllSpan es → AreTimeRanges params es (time_ranges params es)
  are_ranges es s = record { hold = λ e i p xs. holds es s e i p xs; least = λ c r q. (ends es s c r q).0; greatest = λ c r q. (ends es s c r q).1 }
