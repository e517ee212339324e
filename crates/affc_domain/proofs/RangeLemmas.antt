-- Iterators lie within the ranges of the interval rule.
use Rattle.std.proofs.Common.{◌≡◌, ℕ, suc, ◌+◌, ℤ, ◌≤ℤ◌, ◌<ℤ◌, Bool, true, false, true≢false, IsTrue, if◌then◌else◌, List, [], ◌∷◌, ◌++◌, length, refl, sym, ap, ◌∙◌, subst, arith}
use Rattle.std.specs.Prelude.{int_le, int_lt, not, ◌&&◌}
use Rattle.std.proofs.lemmas.Int.{ints}
use Rattle.std.proofs.lemmas.Option.{same_Some}
use Rattle.affc_rows.specs.Forms.{value}
use Rattle.affc_system.specs.Boxes.{InBox, corner}
use Rattle.affc_system.proofs.BoxLemmas.{value_least, value_greatest}
use Rattle.affc_ast.specs.declared.tree.Compare.{Compare}
use Rattle.affc_ast.specs.declared.tree.Ix.{Ix}
use Rattle.affc_ast.specs.declared.tree.Param.{Param}
use Rattle.affc_ast.specs.declared.tree.Param.TheVariants.{Number, Array}
use Rattle.affc_ast.specs.declared.tree.Rel.{Rel}
use Rattle.affc_ast.specs.declared.tree.Rel.TheVariants.{Less, LessEqual, Greater, GreaterEqual, Equal, NotEqual}
use Rattle.affc_ast.specs.Fits.{whole, whole_of, within_ranges, meets, holds, all_hold, is_true_at}
use Rattle.affc_trace.specs.Target.{numbers_in}
use Rattle.affc_trace.proofs.LastStores.{append_nil}
use Rattle.affc_domain.specs.Affine.{form_of, is_affine}
use Rattle.affc_ast.specs.Pieces.{comparisons_of}
use Rattle.affc_domain.specs.Laws.{IteratorsKeepRanges}
use Rattle.affc_domain.specs.Ranges.{number_ranges, Ranges, Within, Never, Wide, outermost, is_near, last_of, range_of, entered, ranges_of, AreWithin}
use Rattle.affc_domain.specs.Rounds.{Round, Loop, Test, goes_on, turns}
use Rattle.affc_domain.proofs.FormLemmas.{form_width, value_of_form}
use Rattle.affc_domain.proofs.Lists.{both_true, true_both, true_le, true_lt}
use Rattle.affc_domain.proofs.PlainLemmas.{plain_rounds, is_plain_affine, rounds_are_plain}
use Rattle.affc_domain.proofs.TurnLemmas.{instances_turn}

-- ---- Points of boxes

pub box_length : (rs : List (ℤ × ℤ)) (xs : List ℤ) → InBox rs xs → length rs ≡ length xs
box_length [] [] b = refl
box_length [] (x ∷ xs) b = absurd b
box_length (r ∷ rs) [] b = absurd b
box_length (r ∷ rs) (x ∷ xs) b = ap suc (box_length rs xs b.2)

-- side by side
pub box_append : (rs ss : List (ℤ × ℤ)) (xs ys : List ℤ) → InBox rs xs → InBox ss ys → InBox (rs ++ ss) (xs ++ ys)
box_append [] ss [] ys b c = c
box_append [] ss (x ∷ xs) ys b c = absurd b
box_append (r ∷ rs) ss [] ys b c = absurd b
box_append (r ∷ rs) ss (x ∷ xs) ys b c = (b.0, b.1, box_append rs ss xs ys b.2 c)

pub box_push : (rs : List (ℤ × ℤ)) (xs : List ℤ) (r : ℤ × ℤ) (x : ℤ) → InBox rs xs → r.0 ≤ℤ x → x ≤ℤ r.1 → InBox (rs ++ r ∷ []) (xs ++ x ∷ [])
box_push rs xs r x b l h = box_append rs (r ∷ []) xs (x ∷ []) b (l, h, tt)

-- ---- Values of the parameters

pub numbers_are : (ps : List Param) → numbers_in ps ≡ length (number_ranges ps)
numbers_are [] = refl
numbers_are (Number name low high ∷ ps) = ap suc (numbers_are ps)
numbers_are (Array decl ∷ ps) = numbers_are ps

-- within the declared ranges they are in the box of these
pub in_ranges : (ps : List Param) (p : List ℤ) → IsTrue (within_ranges ps p) → InBox (number_ranges ps) p
in_ranges [] [] h = tt
in_ranges [] (x ∷ p) h = absurd (cc)
in_ranges (Number name low high ∷ ps) [] h = absurd (cc)
in_ranges (Number name low high ∷ ps) (x ∷ p) h =
    let a = both_true (int_le low x && int_le x high) (within_ranges ps p) h in
    let b = both_true (int_le low x) (int_le x high) a.0 in
    (true_le low x b.0, true_le x high b.1, in_ranges ps p a.1)
in_ranges (Array decl ∷ ps) xs h = in_ranges ps xs h

-- what the context asks holds
pub context_holds : (cs : List Compare) (p : List ℤ) → IsTrue (meets cs p) → IsTrue (all_hold cs p)
context_holds [] p h = refl
context_holds (c ∷ cs) p h =
    let a = both_true ((whole_of c.left p).defined && (whole_of c.right p).defined && holds c p) (meets cs p) h in
    let b = both_true ((whole_of c.left p).defined && (whole_of c.right p).defined) (holds c p) a.0 in
    true_both (holds c p) (all_hold cs p) b.1 (context_holds cs p a.1)

-- ---- The range of a loop

pub value_here : (rs : List (ℤ × ℤ)) (xs : List ℤ) (e : Ix) → InBox rs xs → IsTrue (is_affine e) → value (form_of (length rs) 0 e) xs ≡ whole e xs
value_here rs xs e b f =
    ap (λ n. value (form_of n 0 e) xs) (box_length rs xs b) ∙ ap (λ ys. value (form_of (length xs) 0 e) ys) (sym (append_nil xs)) ∙ value_of_form xs [] e f

last_under : (rel : Rel) (x high most : ℤ) → goes_on rel x high ≡ true → high ≤ℤ most → x ≤ℤ last_of rel most
last_under Less x high most u h = let l : x <ℤ high = true_lt x high u in omega (arith, ints)
last_under LessEqual x high most u h = let l : x ≤ℤ high = true_le x high u in omega (arith, ints)
last_under Greater x high most u h = absurd (true≢false (sym u))
last_under GreaterEqual x high most u h = absurd (true≢false (sym u))
last_under Equal x high most u h = absurd (true≢false (sym u))
last_under NotEqual x high most u h = absurd (true≢false (sym u))

pub in_range : (rs : List (ℤ × ℤ)) (names : List ℤ) (low : Ix) (rel : Rel) (high : Ix) (x : ℤ) → InBox rs names → IsTrue (is_affine low) → IsTrue (is_affine high)
    → whole low names ≤ℤ x → goes_on rel x (whole high names) ≡ true → ((range_of rs low rel high).0 ≤ℤ x) × (x ≤ℤ (range_of rs low rel high).1)
in_range rs names low rel high x b f g l u =
    let fl = form_of (length rs) 0 low in
    let fh = form_of (length rs) 0 high in
    let wl : length fl.coefs ≡ length rs = form_width (length rs) 0 low ∙ omega arith in
    let wh : length fh.coefs ≡ length rs = form_width (length rs) 0 high ∙ omega arith in
    let least = value_least fl rs names wl b in
    let most = value_greatest fh rs names wh b in (
      through _ _ _ _ least (value_here rs names low b f) l,
      last_under rel x (whole high names) _ u (subst (λ z. z ≤ℤ value fh (corner true fh.coefs rs)) (value_here rs names high b g) most),
    )
  where
    through : (a v w x : ℤ) → a ≤ℤ v → v ≡ w → w ≤ℤ x → a ≤ℤ x
    through a v w x p q r = omega (arith, ints)

entered_within : (r : ℤ × ℤ) (inside : Ranges) (x : ℤ) (xs : List ℤ) → r.0 ≤ℤ x → x ≤ℤ r.1 → AreWithin inside xs → AreWithin (entered r inside) (x ∷ xs)
entered_within r inside x xs l h w = chosen (int_lt r.1 r.0) refl (not (is_near r.0 && is_near r.1))
  where
    out : (inside : Ranges) → AreWithin inside xs → AreWithin (outermost r inside) (x ∷ xs)
    out (Within rs) w = (l, h, w)
    out Never w = w
    out (Wide n) w = tt

    not_less : (a b : ℤ) → int_lt b a ≡ true → a ≤ℤ x → x ≤ℤ b → ⊥
    not_less a b e p q = let g : b <ℤ a = true_lt b a e in absurd (omega (arith, ints))

    chosen : (t : Bool) → int_lt r.1 r.0 ≡ t → (u : Bool) → AreWithin (if t then Never else (if u then Wide 0 else outermost r inside)) (x ∷ xs)
    chosen true e u = absurd (not_less r.0 r.1 e l h)
    chosen false e true = tt
    chosen false e false = out inside w

-- ---- The ranges of all

pub turns_within : (params loops comparisons : ℕ) (rs : List Round) (ranges : List (ℤ × ℤ)) (names xs : List ℤ)
    → IsTrue (plain_rounds params loops comparisons rs) → InBox ranges names → IsTrue (turns rs names xs) → AreWithin (ranges_of ranges rs) xs
turns_within params loops comparisons [] ranges names [] a b t = tt
turns_within params loops comparisons [] ranges names (x ∷ xs) a b t = absurd (true≢false (sym t))
turns_within params loops comparisons (Loop iter low rel high ∷ rs) ranges names [] a b t = absurd (true≢false (sym t))
turns_within params loops comparisons (Loop iter low rel high ∷ rs) ranges names (x ∷ xs) a b t =
    let r = range_of ranges low rel high in
    let a1 = both_true _ _ a in
    let a2 = both_true _ _ a1.1 in
    let a3 = both_true _ _ a2.1 in
    let a4 = both_true _ _ a3.1 in
    let t1 = both_true (int_le (whole low names) x) _ t in
    let t2 = both_true (goes_on rel x (whole high names)) (turns rs (names ++ x ∷ []) xs) t1.1 in
    let h = in_range ranges names low rel high x b (is_plain_affine (params + loops) low a3.0) (is_plain_affine (params + loops) high a4.0) (true_le (whole low names) x t1.0) t2.0 in
    entered_within r (ranges_of (ranges ++ r ∷ []) rs) x xs h.0 h.1
    (turns_within params (suc loops) comparisons rs (ranges ++ r ∷ []) (names ++ x ∷ []) xs a4.1 (box_push ranges names r x b h.0 h.1) t2.1)
turns_within params loops comparisons (Test cond ∷ rs) ranges names xs a b t =
    turns_within params loops (comparisons + comparisons_of cond) rs ranges names xs (both_true _ _ a).1 b (both_true (is_true_at cond names) _ t).1

pub iterators_keep_ranges : IteratorsKeepRanges
iterators_keep_ranges program p b rs plain within i at =
    let t = (instances_turn program p b).0 i in
    let same : t.0 ≡ rs = same_Some t.0 rs (sym t.1 ∙ at) in
    turns_within (length (number_ranges program.params)) 0 0 rs (number_ranges program.params) p b.iterators (rounds_are_plain program plain b.statement rs at) (in_ranges program.params p within)
    (subst (λ q. IsTrue (turns q p b.iterators)) same t.2)
