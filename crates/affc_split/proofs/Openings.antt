-- The boxes that are opened in the search of parts.
use Rattle.std.proofs.Common.{◌≡◌, ◌≢◌, ℕ, zero, suc, ◌+◌, ◌<◌, ◌≤◌, List, [], ◌∷◌, ◌++◌, length, slice_index_or, ℤ, pos, ◌+ℤ◌, ◌≤ℤ◌, ◌<ℤ◌, sym, subst, ◌∙◌, arith, inl, inr}
use Rattle.std.specs.Prelude.{IfOk}
use Rattle.std.proofs.Common.{Result, Ok, Err, Vec, Box, Global}
use Rattle.affc_split.specs.declared.budget.Stop.{Stop}
use Rattle.std.specs.List.{All}
use Rattle.std.proofs.lemmas.Int.{ints}
use Rattle.std.proofs.lemmas.List.{length-append}
use Rattle.std.proofs.lemmas.List.Elements.{All-nil, All-cons, All-head, All-tail, All-append, All-weaker}
use Rattle.affc_system.specs.Systems.{Rows}
use Rattle.affc_system.specs.Boxes.{IsRange, IsBox, InBox}
use Rattle.affc_system.specs.Order.{LexLe}
use Rattle.affc_farkas.specs.declared.proof.Proof.{Proof, Leaf, Cut', Split'}
use Rattle.affc_simplex.specs.declared.bounds.Bound.{Bound}
use Rattle.affc_split.specs.declared.search.Answer.{Answer}
use Rattle.affc_split.specs.declared.search.Answer.TheVariants as answer
use Rattle.affc_split.specs.declared.search.Found.{Found}
use Rattle.affc_split.specs.declared.search.Found.TheVariants.{Empty, Point}
use Rattle.affc_split.specs.Budgets.{Account, IsUnit}
use Rattle.affc_leaf.specs.Points.{IsLeastPoint}
use Rattle.affc_split.specs.Answers.{IfPoint}
use Rattle.affc_leaf.specs.Bounds.{IsBound, Inside, FirstFree, lowered, raised, bound_at, ranges_of}
use Rattle.affc_leaf.specs.Parts.{NoneIn}
use Rattle.affc_split.specs.Search.{IsFound}
use Rattle.affc_split.specs.Openings.{nodes, IsPart, AreDistinct, IsUpTo, Opened}
use Rattle.affc_split.specs.Searches.{AreFewer, AreFewerFor, Searched, HasNodes}
use Rattle.affc_leaf.proofs.Halves.{in_half, from_lower, from_upper, halves_before}

abbrev Ranges : Type 0
Ranges = List (ℤ × ℤ)

pub some_nodes : (p : Proof) → 0 < nodes p
some_nodes (Leaf by) = omega arith
some_nodes (Cut' by g row p rest) = omega arith
some_nodes (Split' form at p low q high) = omega arith

-- ---- parts of a box

-- two parts of a box without a common point
pub record AreParts (low high whole : Ranges) : Type 0 where
  pub low_in : IsPart low whole
  pub high_in : IsPart high whole
  pub apart : (x : List ℤ) → InBox low x → InBox high x → ⊥
  pub some_low : IsBox low
  pub some_high : IsBox high

some_point : (rs : Ranges) → IsBox rs → (x : List ℤ) × InBox rs x
some_point [] h = ([], tt)
some_point (r ∷ rs) h =
    let rest = some_point rs (All-tail IsRange r rs h) in
    let first : r.0 ≤ℤ r.0 = omega (arith, ints) in
    (r.0 ∷ rest.0, (first, All-head IsRange r rs h, rest.1))

lt_le : (a b : ℤ) → a <ℤ b → a ≤ℤ b
lt_le a b h = omega (arith, ints)

above_le : (a b : ℤ) → a <ℤ b → (a +ℤ pos 1) ≤ℤ b
above_le a b h = omega (arith, ints)

never_both : (a b : ℤ) → a ≤ℤ b → (b +ℤ pos 1) ≤ℤ a → ⊥
never_both a b h k = omega (arith, ints)

halves_apart : (bs : List Bound) (j : ℕ) (at : ℤ) (r s : ℕ) (x : List ℤ) → j < length bs → Inside (lowered bs j at r) x → Inside (raised bs j at s) x → ⊥
halves_apart [] j at r s x h p q = absurd (omega arith)
halves_apart (b ∷ bs) zero at r s [] h p q = absurd p
halves_apart (b ∷ bs) zero at r s (x ∷ xs) h p q = never_both x at p.1 q.0
halves_apart (b ∷ bs) (suc j) at r s [] h p q = absurd p
halves_apart (b ∷ bs) (suc j) at r s (x ∷ xs) h p q = halves_apart bs j at r s xs (omega arith) p.2 q.2

ordered : (bs : List Bound) → All IsBound bs → IsBox (ranges_of bs)
ordered [] h = All-nil IsRange
ordered (b ∷ bs) h = let first = All-head IsBound b bs h in All-cons IsRange (b.low, b.high) (ranges_of bs) first.ordered (ordered bs (All-tail IsBound b bs h))

ordered_low : (bs : List Bound) (j : ℕ) (at : ℤ) (r : ℕ) → IsBox (ranges_of bs) → j < length bs → (bound_at bs j).low ≤ℤ at → IsBox (ranges_of (lowered bs j at r))
ordered_low [] j at r h there l = absurd (omega arith)
ordered_low (b ∷ bs) zero at r h there l = All-cons IsRange (b.low, at) (ranges_of bs) l (All-tail IsRange (b.low, b.high) (ranges_of bs) h)
ordered_low (b ∷ bs) (suc j) at r h there l =
    All-cons IsRange (b.low, b.high) (ranges_of (lowered bs j at r)) (All-head IsRange (b.low, b.high) (ranges_of bs) h)
    (ordered_low bs j at r (All-tail IsRange (b.low, b.high) (ranges_of bs) h) (omega arith) l)

ordered_high : (bs : List Bound) (j : ℕ) (at : ℤ) (r : ℕ) → IsBox (ranges_of bs) → j < length bs → at <ℤ (bound_at bs j).high → IsBox (ranges_of (raised bs j at r))
ordered_high [] j at r h there l = absurd (omega arith)
ordered_high (b ∷ bs) zero at r h there l = All-cons IsRange (at +ℤ pos 1, b.high) (ranges_of bs) (above_le at b.high l) (All-tail IsRange (b.low, b.high) (ranges_of bs) h)
ordered_high (b ∷ bs) (suc j) at r h there l =
    All-cons IsRange (b.low, b.high) (ranges_of (raised bs j at r)) (All-head IsRange (b.low, b.high) (ranges_of bs) h)
    (ordered_high bs j at r (All-tail IsRange (b.low, b.high) (ranges_of bs) h) (omega arith) l)

pub halves_parts : (bs : List Bound) (j : ℕ) (at : ℤ) (r s : ℕ) → All IsBound bs → j < length bs → (bound_at bs j).low ≤ℤ at → at <ℤ (bound_at bs j).high
    → AreParts (ranges_of (lowered bs j at r)) (ranges_of (raised bs j at s)) (ranges_of bs)
halves_parts bs j at r s b h l u = record {
  low_in = λ x p. from_lower bs j at r x h (lt_le _ _ u) p;
  high_in = λ x p. from_upper bs j at s x h l p;
  apart = λ x p q. halves_apart bs j at r s x h p q;
  some_low = ordered_low bs j at r (ordered bs b) h l;
  some_high = ordered_high bs j at s (ordered bs b) h u;
}

-- the parts in the other order
pub turned : (low high whole : Ranges) → AreParts low high whole → AreParts high low whole
turned low high whole p = record {
  low_in = p.high_in;
  high_in = p.low_in;
  apart = λ x a b. p.apart x b a;
  some_low = p.some_high;
  some_high = p.some_low;
}

-- ---- different boxes

abbrev IsProper : Ranges → Ranges → Type 0
IsProper whole b = (x : List ℤ) × InBox whole x × (InBox b x → ⊥)

-- a box within one part lacks a point of the whole
proper_in : (low high whole b : Ranges) → AreParts low high whole → IsPart b low → IsProper whole b
proper_in low high whole b p h =
    let x = some_point high p.some_high in
    (x.0, p.high_in x.0 x.1, λ q. p.apart x.0 (h x.0 q) x.1)

differ : (low high whole a b : Ranges) → AreParts low high whole → IsBox a → IsPart a low → IsPart b high → b ≢ a
differ low high whole a b p s h k e =
    let x = some_point a s in
    p.apart x.0 (h x.0 x.1) (k x.0 (subst (λ c. InBox c x.0) (sym e) x.1))

differ_whole : (whole b : Ranges) → IsProper whole b → b ≢ whole
differ_whole whole b p e = p.2 (subst (λ c. InBox c p.0) (sym e) p.1)

append_distinct : (cs bs : List Ranges) → AreDistinct cs → AreDistinct bs → All (λ a. All (λ b. b ≢ a) bs) cs → AreDistinct (cs ++ bs)
append_distinct [] bs p q c = q
append_distinct (a ∷ cs) bs p q c = (
  All-append (λ z. z ≢ a) cs bs p.0 (All-head (λ a. All (λ b. b ≢ a) bs) a cs c),
  append_distinct cs bs p.1 q (All-tail (λ a. All (λ b. b ≢ a) bs) a cs c),
)

all_differ : (low high whole : Ranges) (cs bs : List Ranges) → AreParts low high whole → All IsBox cs → All (λ b. IsPart b low) cs → All (λ b. IsPart b high) bs → All (λ a. All (λ b. b ≢ a) bs) cs
all_differ low high whole cs bs p s h k = λ i d l. All-weaker (λ b. IsPart b high) (λ b. b ≢ slice_index_or cs i d) (λ b q. differ low high whole (slice_index_or cs i d) b p (s i d l) (h i d l) q) bs k

itself : (b : Ranges) → IsPart b b
itself b x h = h

-- ---- what is opened

pub none_fewer : (f : Found) → AreFewer 0 f []
none_fewer (Empty p) = some_nodes p.value
none_fewer (Point x) = All-nil (IsUpTo x.items)

-- a leaf of a half that is opened
pub leaf_opened : (half : Ranges) (a b : Account) (f : Found) → IsUnit a b → Searched 1 half a b (AreFewer 0 f)
leaf_opened half a b f u = record {
  others = [];
  distinct = tt;
  ordered = All-nil IsBox;
  parts = All-nil (λ b. IsPart b half);
  proper = All-nil (IsProper half);
  counted = λ l e. u l e;
  suit = none_fewer f;
}

later : (a m b n : ℕ) → m ≡ a + 1 → b ≡ m + (0 + n) → b ≡ a + (1 + n)
later a m b n e f = omega arith

-- a box that is opened and then searched
pub half_opened : (half : Ranges) (a m b : Account) (Suit : List Ranges → Type 0) → m.limit ≡ a.limit → IsUnit a m → Searched 0 half m b Suit → Searched 1 half a b Suit
half_opened half a m b Suit same u s = record {
  others = s.others;
  distinct = s.distinct;
  ordered = s.ordered;
  parts = s.parts;
  proper = s.proper;
  counted = λ l e. later a.spent m.spent b.spent (length s.others) (u l e) (s.counted l (same ∙ e));
  suit = s.suit;
}

pub nothing_opened : (whole : Ranges) (a : Account) (Suit : List Ranges → Type 0) → Suit [] → Searched 0 whole a a Suit
nothing_opened whole a Suit n = record {
  others = [];
  distinct = tt;
  ordered = All-nil IsBox;
  parts = All-nil (λ b. IsPart b whole);
  proper = All-nil (IsProper whole);
  counted = λ l e. omega arith;
  suit = n;
}

-- within a part, as a search of the whole
wider : (low high whole : Ranges) (bs : List Ranges) → AreParts low high whole → All (λ b. IsPart b low) bs → All (λ b. IsPart b whole) bs × All (IsProper whole) bs
wider low high whole bs p h = (
  All-weaker (λ b. IsPart b low) (λ b. IsPart b whole) (λ b q x k. p.low_in x (q x k)) bs h,
  All-weaker (λ b. IsPart b low) (IsProper whole) (λ b q. proper_in low high whole b p q) bs h,
)

more_room : (c k m p q n : ℕ) → m + c < p → k + p < (n + 1) + m → q ≡ n → k + c < q
more_room c k m p q n a b e = omega arith

room_zero : (p n : ℕ) → p ≤ n → 0 + p < (n + 1) + 0
room_zero p n h = omega arith

pub room_joined : (l p : ℕ) → (l + 1) + p < (((l + p) + 1) + 1) + 0
room_joined l p = omega arith

-- the search of one part alone
one_part : (part other whole : Ranges) (a b : Account) (f g : Found) (s : Searched 0 part a b (AreFewer 0 f)) → AreParts part other whole → AreFewer 0 g s.others → Searched 0 whole a b (AreFewer 0 g)
one_part part other whole a b f g s p n =
    let w = wider part other whole s.others p s.parts in
    record {
      others = s.others;
      distinct = s.distinct;
      ordered = s.ordered;
      parts = w.0;
      proper = w.1;
      counted = s.counted;
      suit = n;
    }

pub one_point : (part other whole : Ranges) (a b : Account) (f g : Found) → AreParts part other whole → g ≡ f → Searched 0 part a b (AreFewer 0 f) → Searched 0 whole a b (AreFewer 0 g)
one_point part other whole a b f g p e s = one_part part other whole a b f g s p (subst (λ h. AreFewer 0 h s.others) (sym e) s.suit)

-- more nodes bear more boxes
pub roomier : (own k m : ℕ) (part : Ranges) (a b : Account) (p : Box Proof Global) (g : Found) (n : ℕ) → k + nodes p.value < n + 1 + m → HasNodes n g → Searched own part a b (AreFewer m (Empty p)) → Searched own part a b (AreFewer k g)
roomier own k m part a b p (Point x) n l e s = absurd e
roomier own k m part a b p (Empty q) n l e s = record {
  others = s.others;
  distinct = s.distinct;
  ordered = s.ordered;
  parts = s.parts;
  proper = s.proper;
  counted = s.counted;
  suit = more_room (length s.others) k m (nodes p.value) (nodes q.value) n s.suit l e;
}

-- the proof that is joined bears the boxes of one of its sides, and as many more as the other side has nodes
pub one_proof : (part other whole : Ranges) (a b : Account) (p : Box Proof Global) (n : ℕ) (r : Result Found Stop) → AreParts part other whole → nodes p.value ≤ n → IfOk r (HasNodes n)
    → Searched 0 part a b (AreFewer 0 (Empty p)) → IfOk r (λ g. Searched 0 whole a b (AreFewer 0 g))
one_proof part other whole a b p n (Err e) q l h s = tt
one_proof part other whole a b p n (Ok g) q l h s =
    let t = roomier 0 0 0 part a b p g n (room_zero _ _ l) h s in
    one_part part other whole a b g g t q t.suit

pub point_opened : (half : Ranges) (a b : Account) (m : ℕ) (x : Vec ℤ Global) (g : Found) → g ≡ Point x → Searched 1 half a b (AreFewer 0 (Point x)) → Searched 1 half a b (AreFewer m g)
point_opened half a b m x g e s = subst (λ h. Searched 1 half a b (AreFewer m h)) (sym e) (record {
  others = s.others;
  distinct = s.distinct;
  ordered = s.ordered;
  parts = s.parts;
  proper = s.proper;
  counted = s.counted;
  suit = s.suit;
})

first_distinct : (low : Ranges) (bs : List Ranges) → All (IsProper low) bs → AreDistinct bs → AreDistinct (low ∷ bs)
first_distinct low bs p d = (All-weaker (IsProper low) (λ b. b ≢ low) (λ b q. differ_whole low b q) bs p, d)

-- the search of the lower half alone, in which the point is
pub low_part : (low high whole : Ranges) (a b : Account) (x : Vec ℤ Global) (g : Found) → AreParts low high whole → g ≡ Point x → Searched 1 low a b (AreFewer 0 (Point x)) → InBox low x.items → Searched 0 whole a b (AreFewer 0 g)
low_part low high whole a b x g p e s h =
    let parts = All-cons (λ c. IsPart c low) low s.others (itself low) s.parts in
    let w = wider low high whole (low ∷ s.others) p parts in
    subst (λ f. Searched 0 whole a b (AreFewer 0 f)) (sym e) (record {
      others = low ∷ s.others;
      distinct = first_distinct low s.others s.proper s.distinct;
      ordered = All-cons IsBox low s.others p.some_low s.ordered;
      parts = w.0;
      proper = w.1;
      counted = λ l e. let h = s.counted l e in omega (arith, h);
      suit = All-cons (IsUpTo x.items) low s.others (inl h) s.suit;
    })

both_counted : (a m b n k : ℕ) → m ≡ a + (1 + n) → b ≡ m + (1 + k) → b ≡ a + (0 + ((1 + n) + (1 + k)))
both_counted a m b n k e f = omega arith

both_fewer : (n k p q : ℕ) → 0 + n < p → (p + 1) + k < q → 0 + ((1 + n) + (1 + k)) < q
both_fewer n k p q e f = omega arith

all_before : (low : Ranges) (x : List ℤ) (bs : List Ranges) → ((z : List ℤ) → InBox low z → LexLe z x) → All (λ b. IsPart b low) bs → All (IsUpTo x) bs
all_before low x bs h k = All-weaker (λ b. IsPart b low) (IsUpTo x) (λ b q. inr (λ z i. h z (q z i))) bs k

-- what is behind the lower half, by what is found
abbrev IsAfter : Ranges → Ranges → Found → Type 0
IsAfter low high (Empty p) = Unit {0}
IsAfter low high (Point x) = InBox high x.items × ((z : List ℤ) → InBox low z → LexLe z x.items)

length_both : (low high : Ranges) (cs bs : List Ranges) → (1 + length cs) + (1 + length bs) ≡ length ((low ∷ cs) ++ (high ∷ bs))
length_both low high cs bs = let e = length-append (low ∷ cs) (high ∷ bs) in omega (arith, e)

both_needed : (low high : Ranges) (cs bs : List Ranges) (p : Proof) (f : Found) → 0 + length cs < nodes p → All (λ b. IsPart b low) cs → IsAfter low high f → AreFewer (nodes p + 1) f bs
    → AreFewer 0 f ((low ∷ cs) ++ (high ∷ bs))
both_needed low high cs bs p (Empty q) n h a k = subst (λ m. 0 + m < nodes q.value) (length_both low high cs bs) (both_fewer (length cs) (length bs) (nodes p) (nodes q.value) n k)
both_needed low high cs bs p (Point x) n h a k =
    All-append (IsUpTo x.items) (low ∷ cs) (high ∷ bs)
    (all_before low x.items (low ∷ cs) a.1 (All-cons (λ c. IsPart c low) low cs (itself low) h))
    (All-cons (IsUpTo x.items) high bs (inl a.0) k)

-- the search of the lower half and then of the upper one
both_parts : (low high whole : Ranges) (a m b : Account) (p : Box Proof Global) (f : Found) → AreParts low high whole → m.limit ≡ a.limit
    → Searched 1 low a m (AreFewer 0 (Empty p)) → Searched 1 high m b (AreFewer (nodes p.value + 1) f) → IsAfter low high f → Searched 0 whole a b (AreFewer 0 f)
both_parts low high whole a m b p f parts same s t after =
    let lows = low ∷ s.others in
    let highs = high ∷ t.others in
    let low_parts = All-cons (λ c. IsPart c low) low s.others (itself low) s.parts in
    let high_parts = All-cons (λ c. IsPart c high) high t.others (itself high) t.parts in
    let low_ordered = All-cons IsBox low s.others parts.some_low s.ordered in
    let v = wider low high whole lows parts low_parts in
    let w = wider high low whole highs (turned low high whole parts) high_parts in
    record {
      others = lows ++ highs;
      distinct = append_distinct lows highs (first_distinct low s.others s.proper s.distinct) (first_distinct high t.others t.proper t.distinct)
          (all_differ low high whole lows highs parts low_ordered low_parts high_parts);
      ordered = All-append IsBox lows highs low_ordered (All-cons IsBox high t.others parts.some_high t.ordered);
      parts = All-append (λ c. IsPart c whole) lows highs v.0 w.0;
      proper = All-append (IsProper whole) lows highs v.1 w.1;
      counted = λ l e. subst (λ n. b.spent ≡ a.spent + (0 + n)) (length_both low high s.others t.others)
          (both_counted a.spent m.spent b.spent (length s.others) (length t.others) (s.counted l e) (t.counted l (same ∙ e)));
      suit = both_needed low high s.others t.others p.value f s.suit s.parts after t.suit;
    }

after_low : (system : Rows) (bs : List Bound) (j : ℕ) (at : ℤ) (r n : ℕ) (f : Found) → FirstFree bs j → NoneIn system (lowered bs j at r) → IsFound system bs n f
    → IsAfter (ranges_of (lowered bs j at r)) (ranges_of (raised bs j at r)) f
after_low system bs j at r n (Empty p) free none a = tt
after_low system bs j at r n (Point x) free none a =
    let above : Inside (raised bs j at r) x.items = elim (in_half bs j at r r x.items free.there a.inside) [ inl l ↦ absurd (none x.items l a.meets) | inr u ↦ u ] in
    (above, λ z p. halves_before bs j at r r z x.items free p above)

-- both halves of a box
pub halves_searched : (system : Rows) (bs : List Bound) (j : ℕ) (at : ℤ) (r n : ℕ) (a m b : Account) (p : Box Proof Global) (f : Result Found Stop) → All IsBound bs → FirstFree bs j
    → (bound_at bs j).low ≤ℤ at → at <ℤ (bound_at bs j).high → m.limit ≡ a.limit → NoneIn system (lowered bs j at r) → IfOk f (IsFound system bs n)
    → Searched 1 (ranges_of (lowered bs j at r)) a m (AreFewer 0 (Empty p)) → IfOk f (λ g. Searched 1 (ranges_of (raised bs j at r)) m b (AreFewer (nodes p.value + 1) g))
    → IfOk f (λ g. Searched 0 (ranges_of bs) a b (AreFewer 0 g))
halves_searched system bs j at r n a m b p (Err e) bounds free l u same none answer s t = tt
halves_searched system bs j at r n a m b p (Ok g) bounds free l u same none answer s t =
    both_parts (ranges_of (lowered bs j at r)) (ranges_of (raised bs j at r)) (ranges_of bs) a m b p g (halves_parts bs j at r r bounds free.there l u) same s t
    (after_low system bs j at r n g free none answer)

pub second_side : (l r : ℕ) → r ≤ (l + r) + 1
second_side l r = omega arith

-- ---- answers

bare : (n p : ℕ) → 0 + n < p → n < p
bare n p h = omega arith

pub empty_answer : (whole part : Ranges) (a b : Account) (p : Box Proof Global) (q : Proof) (f : Found) → part ≡ whole → f ≡ Empty p → q ≡ p.value
    → Searched 0 part a b (AreFewer 0 f) → Searched 0 whole a b (AreFewerFor (answer.Empty q))
empty_answer whole part a b p q f w e same s =
    let t = subst (λ g. Searched 0 whole a b (AreFewer 0 g)) e (subst (λ v. Searched 0 v a b (AreFewer 0 f)) w s) in
    record {
      others = t.others;
      distinct = t.distinct;
      ordered = t.ordered;
      parts = t.parts;
      proper = t.proper;
      counted = t.counted;
      suit = subst (λ r. length t.others < nodes r) (sym same) (bare (length t.others) (nodes p.value) t.suit);
    }

pub point_answer : (whole part : Ranges) (a b : Account) (x : Vec ℤ Global) (f : Found) → part ≡ whole → f ≡ Point x
    → Searched 0 part a b (AreFewer 0 f) → Searched 0 whole a b (AreFewerFor (answer.Point x))
point_answer whole part a b x f w e s =
    let t = subst (λ g. Searched 0 whole a b (AreFewer 0 g)) e (subst (λ v. Searched 0 v a b (AreFewer 0 f)) w s) in
    record {
      others = t.others;
      distinct = t.distinct;
      ordered = t.ordered;
      parts = t.parts;
      proper = t.proper;
      counted = t.counted;
      suit = t.suit;
    }

pub none_fewer_for : (g : Answer) → AreFewerFor g []
none_fewer_for (answer.Empty q) = some_nodes q
none_fewer_for (answer.Point x) = All-nil (IsUpTo x.items)

-- the whole box counts for itself
pub whole_opened : (system : Rows) (whole : Ranges) (a b : Account) (r : Result Answer Stop) → IfOk r (λ g. IfPoint g (IsLeastPoint system whole))
    → IfOk r (λ g. Searched 1 whole a b (AreFewerFor g)) → IfOk r (Opened whole a b)
whole_opened system whole a b (Err e) h s = tt
whole_opened system whole a b (Ok (answer.Empty p)) h s = record {
  others = s.others;
  distinct = first_distinct whole s.others s.proper s.distinct;
  ordered = s.ordered;
  parts = s.parts;
  counted = λ l e. let c = s.counted l e in omega (arith, c);
  needed = let n = s.suit in omega (arith, n);
}
whole_opened system whole a b (Ok (answer.Point x)) h s = record {
  others = s.others;
  distinct = first_distinct whole s.others s.proper s.distinct;
  ordered = s.ordered;
  parts = s.parts;
  counted = λ l e. let c = s.counted l e in omega (arith, c);
  needed = All-cons (IsUpTo x.items) whole s.others (inl h.inside) s.suit;
}
