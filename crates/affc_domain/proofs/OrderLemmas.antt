-- One instance is earlier than another exactly where it comes before it by their shared loops and then the text.
use Rattle.std.proofs.Common.{◌≡◌, ℕ, zero, suc, ◌+◌, ◌<◌, ◌≤◌, ℤ, pos, ◌+ℤ◌, ◌≤ℤ◌, Bool, true, false, if◌then◌else◌, List, [], ◌∷◌, ◌++◌, length, map, flat_map, sum_by, Some, refl, sym, ap, subst, ◌∙◌, ◌⊎◌, inl, inr, arith}
use Rattle.std.specs.Prelude.{slice_get, nat_eq}
use Rattle.std.proofs.lemmas.Int.{ints}
use Rattle.std.proofs.lemmas.List.Sums.{sum_by-cons}
use Rattle.std.proofs.lemmas.Option.{slice_get_within}
use Rattle.affc_ast.specs.declared.tree.Instance.{Instance}
use Rattle.affc_ast.specs.declared.tree.Stmt.{Stmt}
use Rattle.affc_ast.specs.declared.tree.Stmt.TheVariants as s
use Rattle.affc_ast.specs.declared.tree.Stmt.TheBlock.{Row_of-Stmt, more_of-Stmt, end_of-Stmt}
use Rattle.affc_ast.specs.declared.tree.Program.{Program}
use Rattle.affc_ast.specs.Fits.{whole, is_true_at}
use Rattle.affc_ast.specs.Meaning.{turns_of}
use Rattle.affc_ast.specs.Trace.{count_from, Walk, walk_step, in_walk_order, assigns_of, trace}
use Rattle.affc_ast.specs.Recursion.{by_stmt, by_each}
use Rattle.affc_ast.proofs.Steps.{row_of, unrolled}
use Rattle.affc_trace.specs.Law.{IsIn}
use Rattle.affc_trace.specs.Orders.{Earlier}
use Rattle.affc_trace.proofs.Earliers.{earlier_append, earlier_across, earlier_first, earlier_second}
use Rattle.affc_trace.proofs.Legality.{earlier_is_in, later_is_in}
use Rattle.affc_trace.proofs.Runs.{slice_left, slice_right, length_append}
use Rattle.affc_trace.proofs.Once.{in_append, in_flat_map}
use Rattle.affc_trace.proofs.Members.{to_flat_map}
use Rattle.affc_trace.proofs.LastStores.{append_nil}
use Rattle.affc_trace.proofs.EndedReads.{append_assoc}
use Rattle.affc_domain.specs.Laws.{OrderOfTheText}
use Rattle.affc_domain.specs.Loops.{Numbered, all_loops, in_text_order, numbered_step, loop_numbers, shared, IsBefore}
use Rattle.affc_domain.proofs.Lists.{to_mapped, length_map}
use Rattle.affc_domain.proofs.StartLemmas.{StartIn, shared_none, shared_same, starts, row_starts}
use Rattle.affc_domain.proofs.TurnLemmas.{in_if}

-- ---- Lists

both_in : {I : Type 0} (xs : List I) (a b : I) → Earlier xs a b → IsIn a xs × IsIn b xs
both_in xs a b e = (earlier_is_in xs a b e, later_is_in xs a b e)

-- in the turns of a loop
pub from_turns : {I : Type 0} (f : ℤ → List I) (n : ℕ) (first : ℤ) (a b : I) → Earlier (flat_map f (count_from n first)) a b
    → (x : ℤ) × (y : ℤ) × IsIn a (f x) × IsIn b (f y) × (((x +ℤ pos 1) ≤ℤ y) ⊎ ((x ≡ y) × Earlier (f x) a b))
from_turns f zero first a b e = absurd e
from_turns f (suc n) first a b e = elim (earlier_append (f first) (flat_map f (count_from n (first +ℤ pos 1))) a b e) [
  | inl h ↦ let r = both_in (f first) a b h in (first, first, r.0, r.1, inr (refl, h))
  | inr q ↦ elim q [
    | inl h ↦ let r = in_flat_map f (count_from n (first +ℤ pos 1)) b h.1 in (first, r.0, h.0, r.2, inl (at_least n (first +ℤ pos 1) r.0 r.1))
    | inr h ↦ from_turns f n (first +ℤ pos 1) a b h
  ]
]
  where
    at_least : (n : ℕ) (x y : ℤ) → IsIn y (count_from n x) → x ≤ℤ y
    at_least zero x y i = absurd i
    at_least (suc n) x y (inl e) = omega (arith, ints)
    at_least (suc n) x y (inr i) = let h : (x +ℤ pos 1) ≤ℤ y = at_least n (x +ℤ pos 1) y i in omega (arith, ints)

at_least' : (n : ℕ) (x y : ℤ) → IsIn y (count_from n x) → x ≤ℤ y
at_least' zero x y i = absurd i
at_least' (suc n) x y (inl e) = omega (arith, ints)
at_least' (suc n) x y (inr i) = let h : (x +ℤ pos 1) ≤ℤ y = at_least' n (x +ℤ pos 1) y i in omega (arith, ints)

pub to_turns_less : {I : Type 0} (f : ℤ → List I) (n : ℕ) (first : ℤ) (a b : I) (x y : ℤ) → IsIn x (count_from n first) → IsIn y (count_from n first) → IsIn a (f x) → IsIn b (f y)
    → (x +ℤ pos 1) ≤ℤ y → Earlier (flat_map f (count_from n first)) a b
to_turns_less f zero first a b x y i j u v h = absurd i
to_turns_less f (suc n) first a b x y (inl e) (inl g) u v h = absurd (omega (arith, ints))
to_turns_less {I} f (suc n) first a b x y (inl e) (inr j) u v h =
    earlier_across (f first) (flat_map f (count_from n (first +ℤ pos 1))) a b (subst (λ z. IsIn a (f z)) e u) (to_flat_map f (count_from n (first +ℤ pos 1)) y b j v)
to_turns_less f (suc n) first a b x y (inr i) (inl g) u v h = let l = at_least' n (first +ℤ pos 1) x i in absurd (omega (arith, ints))
to_turns_less f (suc n) first a b x y (inr i) (inr j) u v h = earlier_second (f first) (flat_map f (count_from n (first +ℤ pos 1))) a b (to_turns_less f n (first +ℤ pos 1) a b x y i j u v h)

pub to_turns_same : {I : Type 0} (f : ℤ → List I) (n : ℕ) (first : ℤ) (a b : I) (x : ℤ) → IsIn x (count_from n first) → Earlier (f x) a b → Earlier (flat_map f (count_from n first)) a b
to_turns_same f zero first a b x i e = absurd i
to_turns_same f (suc n) first a b x (inl g) e = earlier_first (f first) (flat_map f (count_from n (first +ℤ pos 1))) a b (subst (λ z. Earlier (f z) a b) g e)
to_turns_same f (suc n) first a b x (inr i) e = earlier_second (f first) (flat_map f (count_from n (first +ℤ pos 1))) a b (to_turns_same f n (first +ℤ pos 1) a b x i e)

-- ---- Instances by the loops round them

-- an instance, by its place among the assignments and its iterators behind ts
record Placed (numbers : List (List ℕ)) (k : ℕ) (ts : List ℤ) (b : Instance) : Type 0 where
  number : ℕ
  is : b.statement ≡ k + number
  loops : List ℕ
  at : slice_get numbers number ≡ Some loops
  iterators : List ℤ
  go_on : b.iterators ≡ ts ++ iterators
  long : length loops ≡ length iterators

-- the first by shared loops, and then by the text
record Compared (numbers : List (List ℕ)) (k : ℕ) (ts : List ℤ) (a b : Instance) : Type 0 where
  first : Placed numbers k ts a
  second : Placed numbers k ts b
  before : IsBefore (shared first.loops second.loops) first.iterators second.iterators (first.number < second.number)

abbrev under_loop : (l : ℕ) (numbers : List (List ℕ)) (k : ℕ) (ts : List ℤ) (b : Instance) (x : ℤ) → Placed numbers k (ts ++ x ∷ []) b → Placed (map (λ ls. l ∷ ls) numbers) k ts b
under_loop l numbers k ts b x d = record {
  number = d.number;
  is = d.is;
  loops = l ∷ d.loops;
  at = to_mapped (λ q. l ∷ q) numbers d.number d.loops d.at;
  iterators = x ∷ d.iterators;
  go_on = d.go_on ∙ append_assoc ts (x ∷ []) d.iterators;
  long = ap suc d.long;
}

abbrev placed_first : (xs ys : List (List ℕ)) (k : ℕ) (ts : List ℤ) (b : Instance) → Placed xs k ts b → Placed (xs ++ ys) k ts b
placed_first xs ys k ts b d = record { number = d.number; is = d.is; loops = d.loops; at = slice_left xs ys d.number d.loops d.at; iterators = d.iterators; go_on = d.go_on; long = d.long }

abbrev placed_second : (xs ys : List (List ℕ)) (n k : ℕ) (ts : List ℤ) (b : Instance) → length xs ≡ n → Placed ys (k + n) ts b → Placed (xs ++ ys) k ts b
placed_second xs ys n k ts b e d =
    let is : b.statement ≡ (k + n) + d.number = d.is in
    record { number = length xs + d.number; is = omega arith; loops = d.loops; at = slice_right xs ys d.number ∙ d.at; iterators = d.iterators; go_on = d.go_on; long = d.long }

module _ (p : List ℤ) where
  mutual
    counts : (x : Stmt) (first : ℕ) → length ((by_stmt numbered_step x).numbers first) ≡ (by_stmt (walk_step p) x).assigns
    counts (s.For' iter low rel high shape body) first = length_map (λ ls. first ∷ ls) (in_text_order (by_each numbered_step body) (suc first)) ∙ row_counts body (suc first)
    counts (s.If' cond shape body shape2 other) first =
        length_append (in_text_order (by_each numbered_step body) first) (in_text_order (by_each numbered_step other) (first + all_loops (by_each numbered_step body)))
        ∙ ap (λ u. u + length (in_text_order (by_each numbered_step other) (first + all_loops (by_each numbered_step body)))) (row_counts body first)
        ∙ ap (λ u. assigns_of (by_each (walk_step p) body) + u) (row_counts other (first + all_loops (by_each numbered_step body)))
    counts (s.Assign op array subs value) first = refl
    counts (s.Block' locals shape body) first = row_counts body first

    row_counts : {n : _} (body : Row_of-Stmt n) (first : ℕ) → length (in_text_order (by_each numbered_step body) first) ≡ sum_by (λ w. w.assigns) (by_each (walk_step p) body)
    row_counts end_of-Stmt first = refl
    row_counts (more_of-Stmt x rest) first =
        length_append ((by_stmt numbered_step x).numbers first) (in_text_order (by_each numbered_step rest) (first + (by_stmt numbered_step x).loops))
        ∙ ap (λ u. u + length (in_text_order (by_each numbered_step rest) (first + (by_stmt numbered_step x).loops))) (counts x first)
        ∙ ap (λ u. (by_stmt (walk_step p) x).assigns + u) (row_counts rest (first + (by_stmt numbered_step x).loops))
        ∙ sym (sum_by-cons (λ w. w.assigns) (by_stmt (walk_step p) x) (by_each (walk_step p) rest))

-- ---- Placements are unique

same_listed : (a b : List ℕ) → Some a ≡ Some b → a ≡ b
same_listed a b e = cc

cancel : (ts us vs : List ℤ) → ts ++ us ≡ ts ++ vs → us ≡ vs
cancel [] us vs e = e
cancel (t ∷ ts) us vs e = cancel ts us vs (ap tail_of e)
  where
    tail_of : List ℤ → List ℤ
    tail_of [] = []
    tail_of (x ∷ xs) = xs

abbrev Before : (la lb : List ℕ) (xs ys : List ℤ) (m n : ℕ) → Type 0
Before la lb xs ys m n = IsBefore (shared la lb) xs ys (m < n)

moved : (numbers : List (List ℕ)) (k : ℕ) (ts : List ℤ) (a b : Instance) (d d' : Placed numbers k ts a) (e e' : Placed numbers k ts b)
    → Before d.loops e.loops d.iterators e.iterators d.number e.number → Before d'.loops e'.loops d'.iterators e'.iterators d'.number e'.number
moved numbers k ts a b d d' e e' h =
    let na : d.number ≡ d'.number = same_number a d d' in
    let nb : e.number ≡ e'.number = same_number b e e' in
    let la : d.loops ≡ d'.loops = same_loops a d d' in
    let lb : e.loops ≡ e'.loops = same_loops b e e' in
    let ia : d.iterators ≡ d'.iterators = cancel ts d.iterators d'.iterators (sym d.go_on ∙ d'.go_on) in
    let ib : e.iterators ≡ e'.iterators = cancel ts e.iterators e'.iterators (sym e.go_on ∙ e'.go_on) in
    subst (λ z. Before d'.loops e'.loops d'.iterators e'.iterators d'.number z) nb
    (subst (λ z. Before d'.loops e'.loops d'.iterators e'.iterators z e.number) na
    (subst (λ z. Before d'.loops e'.loops d'.iterators z d.number e.number) ib
    (subst (λ z. Before d'.loops e'.loops z e.iterators d.number e.number) ia
    (subst (λ z. Before d'.loops z d.iterators e.iterators d.number e.number) lb
    (subst (λ z. Before z e.loops d.iterators e.iterators d.number e.number) la h)))))
  where
    same_number : (c : Instance) (d d' : Placed numbers k ts c) → d.number ≡ d'.number
    same_number c d d' = let i : c.statement ≡ k + d.number = d.is in let j : c.statement ≡ k + d'.number = d'.is in omega arith

    same_loops : (c : Instance) (d d' : Placed numbers k ts c) → d.loops ≡ d'.loops
    same_loops c d d' = same_listed d.loops d'.loops (sym d.at ∙ ap (slice_get numbers) (same_number c d d') ∙ d'.at)

pub before_tie : (n : ℕ) (xs ys : List ℤ) (S T : Type 0) → (S → T) → IsBefore n xs ys S → IsBefore n xs ys T
before_tie zero xs ys S T f h = f h
before_tie (suc n) [] ys S T f h = h
before_tie (suc n) (x ∷ xs) [] S T f h = h
before_tie (suc n) (x ∷ xs) (y ∷ ys) S T f (inl h) = inl h
before_tie (suc n) (x ∷ xs) (y ∷ ys) S T f (inr h) = inr (h.0, before_tie n xs ys S T f h.1)

-- under one loop
loop_before : (l : ℕ) (la lb : List ℕ) (x y : ℤ) (xs ys : List ℤ) (m n : ℕ) → ((x +ℤ pos 1) ≤ℤ y) ⊎ ((x ≡ y) × Before la lb xs ys m n) → Before (l ∷ la) (l ∷ lb) (x ∷ xs) (y ∷ ys) m n
loop_before l la lb x y xs ys m n h = subst (λ z. IsBefore z (x ∷ xs) (y ∷ ys) (m < n)) (sym (shared_same l la lb)) h

before_loop : (l : ℕ) (la lb : List ℕ) (x y : ℤ) (xs ys : List ℤ) (m n : ℕ) → Before (l ∷ la) (l ∷ lb) (x ∷ xs) (y ∷ ys) m n → ((x +ℤ pos 1) ≤ℤ y) ⊎ ((x ≡ y) × Before la lb xs ys m n)
before_loop l la lb x y xs ys m n h = subst (λ z. IsBefore z (x ∷ xs) (y ∷ ys) (m < n)) (shared_same l la lb) h

-- in two statements one after the other
tie_before : (la lb : List ℕ) (xs ys : List ℤ) (m n : ℕ) → shared la lb ≡ 0 → m < n → Before la lb xs ys m n
tie_before la lb xs ys m n e h = subst (λ z. IsBefore z xs ys (m < n)) (sym e) h

before_tied : (la lb : List ℕ) (xs ys : List ℤ) (m n : ℕ) → shared la lb ≡ 0 → Before la lb xs ys m n → m < n
before_tied la lb xs ys m n e h = subst (λ z. IsBefore z xs ys (m < n)) e h

if_earlier : (t : Bool) (is js : List Instance) (a b : Instance) → Earlier (if t then is else js) a b → Earlier is a b ⊎ Earlier js a b
if_earlier true is js a b h = inl h
if_earlier false is js a b h = inr h

earlier_if : (t : Bool) (is js : List Instance) (a b : Instance) → IsIn a (if t then is else js) → IsIn b (if t then is else js) → (IsIn a is → IsIn b is → Earlier is a b) → (IsIn a js → IsIn b js → Earlier js a b)
    → Earlier (if t then is else js) a b
earlier_if true is js a b i j f g = f i j
earlier_if false is js a b i j f g = g i j

alone_first : (n : ℕ) (ls : List ℕ) → slice_get ([] ∷ []) n ≡ Some ls → n ≡ 0
alone_first zero ls e = refl
alone_first (suc n) ls e = absurd (cc)

alone_shared : (n : ℕ) (ls ms : List ℕ) → slice_get ([] ∷ []) n ≡ Some ls → shared ls ms ≡ 0
alone_shared zero ls ms e = ap (λ z. shared z ms) (sym (same_listed [] ls e))
alone_shared (suc n) ls ms e = absurd (cc)

no_less : (m n : ℕ) → m ≡ 0 → n ≡ 0 → m < n → ⊥
no_less m n e f h = absurd (omega arith)

beyond : (k m n : ℕ) → k + m < n → n < k → ⊥
beyond k m n h g = absurd (omega arith)

more_less : (k m n : ℕ) → m < n → k + m < k + n
more_less k m n h = omega arith

less_more : (k m n : ℕ) → k + m < k + n → m < n
less_more k m n h = omega arith

module _ (p : List ℤ) where
  mutual
    place : (x : Stmt) (first k : ℕ) (ts : List ℤ) (b : Instance) → IsIn b ((by_stmt (walk_step p) x).instances k ts) → Placed ((by_stmt numbered_step x).numbers first) k ts b
    place (s.For' iter low rel high shape body) first k ts b i =
        let r = in_flat_map (λ y. in_walk_order (by_each (walk_step p) body) k (ts ++ y ∷ [])) _ b i in
        under_loop first (in_text_order (by_each numbered_step body) (suc first)) k ts b r.0 (row_place body (suc first) k (ts ++ r.0 ∷ []) b r.2)
    place (s.If' cond shape body shape2 other) first k ts b i = elim (in_if p (is_true_at cond (p ++ ts)) b (in_walk_order (by_each (walk_step p) body) k ts) _ i) [
      | inl h ↦ placed_first (in_text_order (by_each numbered_step body) first) _ k ts b (row_place body first k ts b h.1)
      | inr h ↦ placed_second (in_text_order (by_each numbered_step body) first) _ (assigns_of (by_each (walk_step p) body)) k ts b (row_counts p body first)
          (row_place other (first + all_loops (by_each numbered_step body)) (k + assigns_of (by_each (walk_step p) body)) ts b h.1)
    ]
    place (s.Assign op array subs value) first k ts b (inl e) = record { number = 0; is = ap (λ u. u.statement) e ∙ omega arith; loops = []; at = refl; iterators = []; go_on = ap (λ u. u.iterators) e ∙ sym (append_nil ts); long = refl }
    place (s.Assign op array subs value) first k ts b (inr i) = absurd i
    place (s.Block' locals shape body) first k ts b i = row_place body first k ts b i

    row_place : {n : _} (body : Row_of-Stmt n) (first k : ℕ) (ts : List ℤ) (b : Instance) → IsIn b (in_walk_order (by_each (walk_step p) body) k ts) → Placed (in_text_order (by_each numbered_step body) first) k ts b
    row_place end_of-Stmt first k ts b i = absurd i
    row_place (more_of-Stmt x rest) first k ts b i = elim (in_append ((by_stmt (walk_step p) x).instances k ts) _ b i) [
      | inl j ↦ placed_first ((by_stmt numbered_step x).numbers first) _ k ts b (place x first k ts b j)
      | inr j ↦ placed_second ((by_stmt numbered_step x).numbers first) _ (by_stmt (walk_step p) x).assigns k ts b (counts p x first) (row_place rest (first + (by_stmt numbered_step x).loops) (k + (by_stmt (walk_step p) x).assigns) ts b j)
    ]

  -- a first part and what comes after it
  module _ (x : Stmt) (first k : ℕ) (ts : List ℤ) (after : List (List ℕ)) (n : ℕ) (begins : (i : ℕ) (ls : List ℕ) → slice_get after i ≡ Some ls → StartIn (first + (by_stmt numbered_step x).loops) n ls) where
    over_seam : (a b : Instance) (d : Placed ((by_stmt numbered_step x).numbers first) k ts a) (e : Placed after (k + (by_stmt (walk_step p) x).assigns) ts b)
        → (shared d.loops e.loops ≡ 0) × (shared e.loops d.loops ≡ 0) × (d.number < length ((by_stmt numbered_step x).numbers first))
    over_seam a b d e =
        let h = shared_none first (by_stmt numbered_step x).loops n d.loops e.loops (starts x first d.number d.loops d.at) (begins e.number e.loops e.at) in
        (h.0, h.1, slice_get_within ((by_stmt numbered_step x).numbers first) d.number d.loops d.at)

  mutual
    ordered : (x : Stmt) (first k : ℕ) (ts : List ℤ) (a b : Instance) (d : Placed ((by_stmt numbered_step x).numbers first) k ts a) (e : Placed ((by_stmt numbered_step x).numbers first) k ts b)
        → Earlier ((by_stmt (walk_step p) x).instances k ts) a b → Before d.loops e.loops d.iterators e.iterators d.number e.number
    ordered (s.For' iter low rel high shape body) first k ts a b d e h =
        let f = λ (y : ℤ). in_walk_order (by_each (walk_step p) body) k (ts ++ y ∷ []) in
        let r = from_turns f _ (whole low (p ++ ts)) a b h in
        let numbers = in_text_order (by_each numbered_step body) (suc first) in
        let da = row_place body (suc first) k (ts ++ r.0 ∷ []) a r.2 in
        let db = row_place body (suc first) k (ts ++ r.1 ∷ []) b r.3 in
        moved (map (λ ls. first ∷ ls) numbers) k ts a b (under_loop first numbers k ts a r.0 da) d (under_loop first numbers k ts b r.1 db) e
        (loop_before first da.loops db.loops r.0 r.1 da.iterators db.iterators da.number db.number (elim r.4 [
          | inl l ↦ inl l
          | inr q ↦ inr (
            q.0,
            subst (λ y. (pb : Placed numbers k (ts ++ y ∷ []) b) → Before da.loops pb.loops da.iterators pb.iterators da.number pb.number) q.0
                (λ pb. row_ordered body (suc first) k (ts ++ r.0 ∷ []) a b da pb q.1) db,
          )
        ]))
    ordered (s.If' cond shape body shape2 other) first k ts a b d e h =
        let n = assigns_of (by_each (walk_step p) body) in
        let first' = first + all_loops (by_each numbered_step body) in
        let us = in_text_order (by_each numbered_step body) first in
        let vs = in_text_order (by_each numbered_step other) first' in
        let ws = in_walk_order (by_each (walk_step p) body) k ts in
        let zs = in_walk_order (by_each (walk_step p) other) (k + n) ts in
        elim (if_earlier (is_true_at cond (p ++ ts)) ws zs a b h) [
          | inl g ↦
              let i = both_in ws a b g in
              let da = row_place body first k ts a i.0 in
              let db = row_place body first k ts b i.1 in
              moved (us ++ vs) k ts a b (placed_first us vs k ts a da) d (placed_first us vs k ts b db) e (row_ordered body first k ts a b da db g)
          | inr g ↦
              let i = both_in zs a b g in
              let da = row_place other first' (k + n) ts a i.0 in
              let db = row_place other first' (k + n) ts b i.1 in
              moved (us ++ vs) k ts a b (placed_second us vs n k ts a (row_counts p body first) da) d (placed_second us vs n k ts b (row_counts p body first) db) e
              (before_tie (shared da.loops db.loops) da.iterators db.iterators (da.number < db.number) (length us + da.number < length us + db.number) (more_less (length us) da.number db.number)
              (row_ordered other first' (k + n) ts a b da db g))
        ]
    ordered (s.Assign op array subs value) first k ts a b d e (inl h) = absurd h.1
    ordered (s.Assign op array subs value) first k ts a b d e (inr h) = absurd h
    ordered (s.Block' locals shape body) first k ts a b d e h = row_ordered body first k ts a b d e h

    row_ordered : {n : _} (body : Row_of-Stmt n) (first k : ℕ) (ts : List ℤ) (a b : Instance) (d : Placed (in_text_order (by_each numbered_step body) first) k ts a) (e : Placed (in_text_order (by_each numbered_step body) first) k ts b)
        → Earlier (in_walk_order (by_each (walk_step p) body) k ts) a b → Before d.loops e.loops d.iterators e.iterators d.number e.number
    row_ordered end_of-Stmt first k ts a b d e h = absurd h
    row_ordered (more_of-Stmt x rest) first k ts a b d e h =
        let ws = (by_stmt (walk_step p) x).instances k ts in
        let k' = k + (by_stmt (walk_step p) x).assigns in
        let first' = first + (by_stmt numbered_step x).loops in
        let us = (by_stmt numbered_step x).numbers first in
        let vs = in_text_order (by_each numbered_step rest) first' in
        elim (earlier_append ws (in_walk_order (by_each (walk_step p) rest) k' ts) a b h) [
          | inl g ↦ let i = both_in ws a b g in
              let da = place x first k ts a i.0 in
              let db = place x first k ts b i.1 in
              moved (us ++ vs) k ts a b (placed_first us vs k ts a da) d (placed_first us vs k ts b db) e (ordered x first k ts a b da db g)
          | inr q ↦ elim q [
            | inl g ↦
                let da = place x first k ts a g.0 in
                let db = row_place rest first' k' ts b g.1 in
                let o = over_seam x first k ts vs _ (row_starts rest first') a b da db in
                moved (us ++ vs) k ts a b (placed_first us vs k ts a da) d (placed_second us vs (by_stmt (walk_step p) x).assigns k ts b (counts p x first) db) e
                (tie_before da.loops db.loops da.iterators db.iterators da.number (length us + db.number) o.0 (omega (arith, o.2)))
            | inr g ↦
                let i = both_in (in_walk_order (by_each (walk_step p) rest) k' ts) a b g in
                let da = row_place rest first' k' ts a i.0 in
                let db = row_place rest first' k' ts b i.1 in
                moved (us ++ vs) k ts a b (placed_second us vs (by_stmt (walk_step p) x).assigns k ts a (counts p x first) da) d (placed_second us vs (by_stmt (walk_step p) x).assigns k ts b (counts p x first) db) e
                (before_tie (shared da.loops db.loops) da.iterators db.iterators (da.number < db.number) (length us + da.number < length us + db.number) (more_less (length us) da.number db.number)
                (row_ordered rest first' k' ts a b da db g))
          ]
        ]

  -- what a loop's instances have
  first_turn : (l : ℕ) (numbers : List (List ℕ)) (k : ℕ) (ts : List ℤ) (b : Instance) (x : ℤ) (d : Placed numbers k (ts ++ x ∷ []) b) → Placed (map (λ ls. l ∷ ls) numbers) k ts b
  first_turn l numbers k ts b x d = under_loop l numbers k ts b x d

  mutual
    earlier : (x : Stmt) (first k : ℕ) (ts : List ℤ) (a b : Instance) (d : Placed ((by_stmt numbered_step x).numbers first) k ts a) (e : Placed ((by_stmt numbered_step x).numbers first) k ts b)
        → IsIn a ((by_stmt (walk_step p) x).instances k ts) → IsIn b ((by_stmt (walk_step p) x).instances k ts)
        → Before d.loops e.loops d.iterators e.iterators d.number e.number → Earlier ((by_stmt (walk_step p) x).instances k ts) a b
    earlier (s.For' iter low rel high shape body) first k ts a b d e i j h =
        let f = λ (y : ℤ). in_walk_order (by_each (walk_step p) body) k (ts ++ y ∷ []) in
        let n = turns_of rel (whole low (p ++ ts)) (whole high (p ++ ts)) in
        let ra = in_flat_map f _ a i in
        let rb = in_flat_map f _ b j in
        let numbers = in_text_order (by_each numbered_step body) (suc first) in
        let da = row_place body (suc first) k (ts ++ ra.0 ∷ []) a ra.2 in
        let db = row_place body (suc first) k (ts ++ rb.0 ∷ []) b rb.2 in
        let g = before_loop first da.loops db.loops ra.0 rb.0 da.iterators db.iterators da.number db.number
        (moved (map (λ ls. first ∷ ls) numbers) k ts a b d (under_loop first numbers k ts a ra.0 da) e (under_loop first numbers k ts b rb.0 db) h) in
        elim g [
          | inl l ↦ to_turns_less f n (whole low (p ++ ts)) a b ra.0 rb.0 ra.1 rb.1 ra.2 rb.2 l
          | inr q ↦ to_turns_same f n (whole low (p ++ ts)) a b ra.0 ra.1
              (subst (λ y. (pb : Placed numbers k (ts ++ y ∷ []) b) → IsIn b (f y) → Before da.loops pb.loops da.iterators pb.iterators da.number pb.number → Earlier (f ra.0) a b) q.0
              (λ pb u v. row_earlier body (suc first) k (ts ++ ra.0 ∷ []) a b da pb ra.2 u v) db rb.2 q.1)
        ]
    earlier (s.If' cond shape body shape2 other) first k ts a b d e i j h =
        let n = assigns_of (by_each (walk_step p) body) in
        let first' = first + all_loops (by_each numbered_step body) in
        let us = in_text_order (by_each numbered_step body) first in
        let vs = in_text_order (by_each numbered_step other) first' in
        let ws = in_walk_order (by_each (walk_step p) body) k ts in
        let zs = in_walk_order (by_each (walk_step p) other) (k + n) ts in
        earlier_if (is_true_at cond (p ++ ts)) ws zs a b i j
        (λ u v.
        let da = row_place body first k ts a u in
        let db = row_place body first k ts b v in
        row_earlier body first k ts a b da db u v (moved (us ++ vs) k ts a b d (placed_first us vs k ts a da) e (placed_first us vs k ts b db) h))
        (λ u v.
        let da = row_place other first' (k + n) ts a u in
        let db = row_place other first' (k + n) ts b v in
        row_earlier other first' (k + n) ts a b da db u v
        (before_tie (shared da.loops db.loops) da.iterators db.iterators (length us + da.number < length us + db.number) (da.number < db.number) (less_more (length us) da.number db.number)
        (moved (us ++ vs) k ts a b d (placed_second us vs n k ts a (row_counts p body first) da) e (placed_second us vs n k ts b (row_counts p body first) db) h)))
    earlier (s.Assign op array subs value) first k ts a b d e i j h =
        let n : d.number ≡ 0 = alone_first d.number d.loops d.at in
        let m : e.number ≡ 0 = alone_first e.number e.loops e.at in
        absurd (no_less d.number e.number n m (before_tied d.loops e.loops d.iterators e.iterators d.number e.number (alone_shared d.number d.loops e.loops d.at) h))
    earlier (s.Block' locals shape body) first k ts a b d e i j h = row_earlier body first k ts a b d e i j h

    row_earlier : {n : _} (body : Row_of-Stmt n) (first k : ℕ) (ts : List ℤ) (a b : Instance) (d : Placed (in_text_order (by_each numbered_step body) first) k ts a) (e : Placed (in_text_order (by_each numbered_step body) first) k ts b)
        → IsIn a (in_walk_order (by_each (walk_step p) body) k ts) → IsIn b (in_walk_order (by_each (walk_step p) body) k ts)
        → Before d.loops e.loops d.iterators e.iterators d.number e.number → Earlier (in_walk_order (by_each (walk_step p) body) k ts) a b
    row_earlier end_of-Stmt first k ts a b d e i j h = absurd i
    row_earlier (more_of-Stmt x rest) first k ts a b d e i j h =
        let ws = (by_stmt (walk_step p) x).instances k ts in
        let k' = k + (by_stmt (walk_step p) x).assigns in
        let first' = first + (by_stmt numbered_step x).loops in
        let us = (by_stmt numbered_step x).numbers first in
        let vs = in_text_order (by_each numbered_step rest) first' in
        let zs = in_walk_order (by_each (walk_step p) rest) k' ts in
        elim (in_append ws zs a i) [
          | inl u ↦ elim (in_append ws zs b j) [
            | inl v ↦
                let da = place x first k ts a u in
                let db = place x first k ts b v in
                earlier_first ws zs a b (earlier x first k ts a b da db u v (moved (us ++ vs) k ts a b d (placed_first us vs k ts a da) e (placed_first us vs k ts b db) h))
            | inr v ↦ earlier_across ws zs a b u v
          ]
          | inr u ↦ elim (in_append ws zs b j) [
            | inl v ↦
                let da = row_place rest first' k' ts a u in
                let db = place x first k ts b v in
                let o = over_seam x first k ts vs _ (row_starts rest first') b a db da in
                let t = before_tied da.loops db.loops da.iterators db.iterators (length us + da.number) db.number o.1
                (moved (us ++ vs) k ts a b d (placed_second us vs (by_stmt (walk_step p) x).assigns k ts a (counts p x first) da) e (placed_first us vs k ts b db) h) in
                absurd (beyond (length us) da.number db.number t o.2)
            | inr v ↦
                let da = row_place rest first' k' ts a u in
                let db = row_place rest first' k' ts b v in
                earlier_second ws zs a b (row_earlier rest first' k' ts a b da db u v
                (before_tie (shared da.loops db.loops) da.iterators db.iterators (length us + da.number < length us + db.number) (da.number < db.number) (less_more (length us) da.number db.number)
                (moved (us ++ vs) k ts a b d (placed_second us vs (by_stmt (walk_step p) x).assigns k ts a (counts p x first) da) e (placed_second us vs (by_stmt (walk_step p) x).assigns k ts b (counts p x first) db) h)))
          ]
        ]

-- ---- Programs

-- from the row of a program's statements to their list
module _ (p : List ℤ) (body : List Stmt) (first k : ℕ) (ts : List ℤ) where
  list_place : (b : Instance) → IsIn b (in_walk_order (map (by_stmt (walk_step p)) body) k ts) → Placed (in_text_order (map (by_stmt numbered_step) body) first) k ts b
  list_place b i =
      subst (λ ns. Placed (in_text_order ns first) k ts b) (sym (unrolled numbered_step body))
      (row_place p (row_of body) first k ts b (subst (λ ws. IsIn b (in_walk_order ws k ts)) (unrolled (walk_step p) body) i))

  module _ (a b : Instance) where
    abbrev Ordered : List Numbered → List Walk → Type 0
    Ordered ns ws = (d : Placed (in_text_order ns first) k ts a) (e : Placed (in_text_order ns first) k ts b)
        → Earlier (in_walk_order ws k ts) a b → Before d.loops e.loops d.iterators e.iterators d.number e.number

    list_ordered : Ordered (map (by_stmt numbered_step) body) (map (by_stmt (walk_step p)) body)
    list_ordered =
        subst (λ ns. Ordered ns (map (by_stmt (walk_step p)) body)) (sym (unrolled numbered_step body))
        (subst (Ordered (by_each numbered_step (row_of body))) (sym (unrolled (walk_step p) body)) (row_ordered p (row_of body) first k ts a b))

    abbrev Stand : List Numbered → List Walk → Type 0
    Stand ns ws = (d : Placed (in_text_order ns first) k ts a) (e : Placed (in_text_order ns first) k ts b)
        → IsIn a (in_walk_order ws k ts) → IsIn b (in_walk_order ws k ts)
        → Before d.loops e.loops d.iterators e.iterators d.number e.number → Earlier (in_walk_order ws k ts) a b

    list_earlier : Stand (map (by_stmt numbered_step) body) (map (by_stmt (walk_step p)) body)
    list_earlier =
        subst (λ ns. Stand ns (map (by_stmt (walk_step p)) body)) (sym (unrolled numbered_step body))
        (subst (Stand (by_each numbered_step (row_of body))) (sym (unrolled (walk_step p) body)) (row_earlier p (row_of body) first k ts a b))

pub has_loops : (program : Program) (p : List ℤ) (b : Instance) → IsIn b (trace program p) → (ls : List ℕ) × (slice_get (loop_numbers program) b.statement ≡ Some ls)
has_loops program p b i =
    let d = list_place p program.body 0 0 [] b i in
    let n : b.statement ≡ d.number = d.is ∙ omega arith in
    (d.loops, ap (slice_get (loop_numbers program)) n ∙ d.at)

pub one_each : (program : Program) (p : List ℤ) (b : Instance) (ls : List ℕ) → IsIn b (trace program p) → slice_get (loop_numbers program) b.statement ≡ Some ls → length ls ≡ length b.iterators
one_each program p b ls i e =
    let d = list_place p program.body 0 0 [] b i in
    let n : b.statement ≡ d.number = d.is ∙ omega arith in
    let l : ls ≡ d.loops = same_listed ls d.loops (sym e ∙ ap (slice_get (loop_numbers program)) n ∙ d.at) in
    ap length l ∙ d.long ∙ ap length (sym d.go_on)

abbrev whole_place : (program : Program) (b : Instance) (ls : List ℕ) → slice_get (loop_numbers program) b.statement ≡ Some ls → length ls ≡ length b.iterators → Placed (loop_numbers program) 0 [] b
whole_place program b ls e l = record { number = b.statement; is = omega arith; loops = ls; at = e; iterators = b.iterators; go_on = refl; long = l }

pub earlier_is_before : (program : Program) (p : List ℤ) (a b : Instance) (ls ms : List ℕ) → slice_get (loop_numbers program) a.statement ≡ Some ls → slice_get (loop_numbers program) b.statement ≡ Some ms
    → IsIn a (trace program p) → IsIn b (trace program p) → Earlier (trace program p) a b → IsBefore (shared ls ms) a.iterators b.iterators (a.statement < b.statement)
earlier_is_before program p a b ls ms e g i j h =
    list_ordered p program.body 0 0 [] a b (whole_place program a ls e (one_each program p a ls i e)) (whole_place program b ms g (one_each program p b ms j g)) h

pub before_is_earlier : (program : Program) (p : List ℤ) (a b : Instance) (ls ms : List ℕ) → slice_get (loop_numbers program) a.statement ≡ Some ls → slice_get (loop_numbers program) b.statement ≡ Some ms
    → IsIn a (trace program p) → IsIn b (trace program p) → IsBefore (shared ls ms) a.iterators b.iterators (a.statement < b.statement) → Earlier (trace program p) a b
before_is_earlier program p a b ls ms e g i j h =
    list_earlier p program.body 0 0 [] a b (whole_place program a ls e (one_each program p a ls i e)) (whole_place program b ms g (one_each program p b ms j g)) i j h

pub shared_left : (ls ms : List ℕ) → shared ls ms ≤ length ls
shared_left [] ms = omega arith
shared_left (l ∷ ls) [] = omega arith
shared_left (l ∷ ls) (m ∷ ms) = chosen (shared_left ls ms) (nat_eq l m)
  where
    chosen : shared ls ms ≤ length ls → (t : Bool) → (if t then suc (shared ls ms) else 0) ≤ length (l ∷ ls)
    chosen h true = omega arith
    chosen h false = omega arith

pub shared_right : (ls ms : List ℕ) → shared ls ms ≤ length ms
shared_right [] ms = omega arith
shared_right (l ∷ ls) [] = omega arith
shared_right (l ∷ ls) (m ∷ ms) = chosen (shared_right ls ms) (nat_eq l m)
  where
    chosen : shared ls ms ≤ length ms → (t : Bool) → (if t then suc (shared ls ms) else 0) ≤ length (m ∷ ms)
    chosen h true = omega arith
    chosen h false = omega arith

pub order_of_the_text : OrderOfTheText
order_of_the_text program p a b ls ms i j e g = (earlier_is_before program p a b ls ms e g i j, before_is_earlier program p a b ls ms e g i j)
