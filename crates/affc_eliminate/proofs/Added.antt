-- The rows that pairs add.
use Rattle.std.proofs.Common.{◌≡◌, ℕ, ◌+◌, ◌<◌, ◌≤◌, List, [], ◌∷◌, ◌++◌, length, get_or, pos, sym, ap, subst, ◌∙◌, inl, inr, arith}
use Rattle.std.specs.List.{All, Contains}
use Rattle.std.proofs.lemmas.Bool.{cases_eq}
use Rattle.std.proofs.lemmas.List.{length_push, length-map, get_or-map, get_or_default}
use Rattle.std.proofs.lemmas.List.Elements.{All-nil, All-push, All-weaker, All-contains, Contains-append_left, Contains-push, Contains-push_cases}
use Rattle.affc_rows.specs.Forms.{Affine, HaveColumns}
use Rattle.affc_farkas.specs.Multiples.{entry_of, multiple_sum}
use Rattle.affc_farkas.specs.declared.pair.Pair.{Pair}
use Rattle.affc_eliminate.specs.Mixtures.{forms_of, AreSumsOf, IsMixture}
use Rattle.affc_eliminate.specs.Steps.{AreNumbered, AddEach, none, more}
use Rattle.affc_eliminate.specs.Works.{IsAt, pair_of}
use Rattle.affc_eliminate.specs.declared.kept.Kept.{Kept}
use Rattle.affc_eliminate.proofs.Exactness.{combination_flat}
use Rattle.affc_eliminate.proofs.Sums.{mixture_is_sum}

-- ---- Forms of rows

pub contains_form : (rows : List Kept) (k : Kept) → Contains rows k → Contains (forms_of rows) k.row
contains_form rows k c = (
  c.0,
  subst (λ n. c.0 < n) (sym (length-map rows (λ (q : Kept). q.row))) c.1,
  get_or-map (λ (q : Kept). q.row) rows c.0 k k.row c.1 ∙ ap (λ (q : Kept). q.row) c.2,
)

-- what holds of all forms holds of the form of each row
pub each_form : (P : Affine → Type 0) (rows : List Kept) (k : Kept) → All P (forms_of rows) → Contains rows k → P k.row
each_form P rows k h c = All-contains P (forms_of rows) k.row h (contains_form rows k c)

-- ---- Places and numbers

pub place_by_number : (rows : List Kept) (a b : ℕ) (f g : Kept) → AreNumbered rows → IsAt rows a f → IsAt rows b g → f.number ≡ g.number → a ≡ b
place_by_number rows a b f g h fa gb e = elim (cases_eq a b) [
  | inl same ↦ same
  | inr ne ↦
      let x = ap (λ (q : Kept). q.number) fa.1 in
      let y = ap (λ (q : Kept). q.number) (get_or_default rows b f g gb.0 ∙ gb.1) in
      absurd (h a b f fa.0 gb.0 ne (x ∙ e ∙ sym y))
]

pub same_at : (rows : List Kept) (a b : ℕ) (f g : Kept) → IsAt rows a f → IsAt rows b g → a ≡ b → f ≡ g
same_at rows a b f g fa gb e = sym fa.1 ∙ ap (λ i. get_or rows i f) e ∙ get_or_default rows b f g gb.0 ∙ gb.1

pub same_by_number : (rows : List Kept) (f g : Kept) → AreNumbered rows → Contains rows f → Contains rows g → f.number ≡ g.number → f ≡ g
same_by_number rows f g h cf cg e = same_at rows cf.0 cg.0 f g (cf.1, cf.2) (cg.1, cg.2) (place_by_number rows cf.0 cg.0 f g h (cf.1, cf.2) (cg.1, cg.2) e)

pub contains_at : (rows : List Kept) (a : ℕ) (f : Kept) → IsAt rows a f → Contains rows f
contains_at rows a f h = (a, h.0, h.1)

-- ---- The added rows

pub added_all : (rows : List Kept) (column free : ℕ) (P : Kept → Type 0)
    → ((first second new : Kept) → Contains rows first → Contains rows second → IsMixture column first second new → P new)
    → {made : List Pair} {added : List Kept} → AddEach rows column free made added → All P added
added_all rows column free P f none = All-nil P
added_all rows column free P f (more made added p first second new t n m e) = All-push P added new (added_all rows column free P f t) (f first second new n.first_in n.second_in m)

one_later : (free m n k : ℕ) → n ≡ m + 1 → k < free + m → k < free + n
one_later free m n k e h = omega arith

last_number : (free m n k : ℕ) → n ≡ m + 1 → k ≡ free + m → (free ≤ k) × (k < free + n)
last_number free m n k e h = (omega arith, omega arith)

pub added_numbers : (rows : List Kept) (column free : ℕ) {made : List Pair} {added : List Kept} → AddEach rows column free made added → All (λ k. (free ≤ k.number) × (k.number < free + length made)) added
added_numbers rows column free none = All-nil (λ k. (free ≤ k.number) × (k.number < free + 0))
added_numbers rows column free (more made added p first second new t n m e) =
    let l = length_push made p in
    All-push (λ k. (free ≤ k.number) × (k.number < free + length (made ++ p ∷ []))) added new
    (All-weaker (λ k. (free ≤ k.number) × (k.number < free + length made)) (λ k. (free ≤ k.number) × (k.number < free + length (made ++ p ∷ [])))
    (λ k h. (h.0, one_later free (length made) (length (made ++ p ∷ [])) k.number l h.1)) added (added_numbers rows column free t))
    (last_number free (length made) (length (made ++ p ∷ [])) new.number l e)

-- the row that a pair adds
pub record IsRowOfPair (rows : List Kept) (column : ℕ) (added : List Kept) (p : Pair) : Type 0 where
  pub first : Kept
  pub second : Kept
  pub new : Kept
  pub first_in : Contains rows first
  pub second_in : Contains rows second
  pub names : p ≡ pair_of column first second
  pub new_in : Contains added new
  pub mixture : IsMixture column first second new

still_row : (rows : List Kept) (column : ℕ) (added : List Kept) (k : Kept) (p : Pair) → IsRowOfPair rows column added p → IsRowOfPair rows column (added ++ k ∷ []) p
still_row rows column added k p h = record {
  first = h.first;
  second = h.second;
  new = h.new;
  first_in = h.first_in;
  second_in = h.second_in;
  names = h.names;
  new_in = Contains-append_left added (k ∷ []) h.new h.new_in;
  mixture = h.mixture;
}

nothing_in : {X : Type 0} (x : X) → Contains [] x → ⊥
nothing_in x c = let h = c.1 in absurd (omega arith)

pub row_of_pair : (rows : List Kept) (column free : ℕ) (q : Pair) {made : List Pair} {added : List Kept} → AddEach rows column free made added → Contains made q → IsRowOfPair rows column added q
row_of_pair rows column free q none c = absurd (nothing_in q c)
row_of_pair rows column free q (more made added p first second new t n m e) c = elim (Contains-push_cases made p q c) [
  | inl before ↦ still_row rows column added new q (row_of_pair rows column free q t before)
  | inr is ↦ record {
    first = first;
    second = second;
    new = new;
    first_in = n.first_in;
    second_in = n.second_in;
    names = sym is ∙ n.names;
    new_in = Contains-push added new;
    mixture = m;
  }
]

-- the row of the pair of two rows is their mixture
pub mixture_of_pair : (rows : List Kept) (column : ℕ) (added : List Kept) (f g : Kept) → AreNumbered rows → Contains rows f → Contains rows g → IsRowOfPair rows column added (pair_of column f g)
    → (n : Kept) × Contains added n × IsMixture column f g n
mixture_of_pair rows column added f g h cf cg r =
    let ef : r.first ≡ f = same_by_number rows r.first f h r.first_in cf (sym (ap (λ (p : Pair). p.first) r.names)) in
    let eg : r.second ≡ g = same_by_number rows r.second g h r.second_in cg (sym (ap (λ (p : Pair). p.second) r.names)) in
    (r.new, r.new_in, subst (λ a. IsMixture column a g r.new) ef (subst (λ b. IsMixture column r.first b r.new) eg r.mixture))

-- ---- What the added rows are

pub added_width : (rows : List Kept) (column free n : ℕ) {made : List Pair} {added : List Kept} → AddEach rows column free made added → HaveColumns n (forms_of rows) → All (λ k. length k.row.coefs ≡ n) added
added_width rows column free n t w = added_all rows column free (λ k. length k.row.coefs ≡ n) (λ first second new cf cs m. m.rows.width ∙ each_form (λ f. length f.coefs ≡ n) rows first w cf) t

le_of_lt : (a b : ℕ) → a < b → a ≤ b
le_of_lt a b h = omega arith

pub added_zero : (rows : List Kept) (column free n : ℕ) {made : List Pair} {added : List Kept} → AddEach rows column free made added → HaveColumns n (forms_of rows) → column < n → All (λ k. entry_of k.row column ≡ pos 0) added
added_zero rows column free n t w lt = added_all rows column free (λ k. entry_of k.row column ≡ pos 0)
    (λ first second new cf cs m. combination_flat column first.row second.row new.row (subst (λ z. column ≤ z) (sym (each_form (λ f. length f.coefs ≡ n) rows first w cf)) (le_of_lt column n lt)) m.rows) t

pub added_sums : (rows : List Kept) (column free columns : ℕ) (base : List Affine) {made : List Pair} {added : List Kept} → AddEach rows column free made added → AreSumsOf columns base rows
    → All (λ k. All (λ p. p.0 < 1024) k.from) added → AreSumsOf columns base added
added_sums rows column free columns base {made} {added} t s named =
    let h = added_all rows column free (λ k. All (λ p. p.0 < 1024) k.from → k.row ≡ multiple_sum columns base k.from)
    (λ first second new cf cs m n.
    mixture_is_sum columns column base first second new s.widths
    (All-contains (λ k. k.row ≡ multiple_sum columns base k.from) rows first s.sums cf) (All-contains (λ k. k.row ≡ multiple_sum columns base k.from) rows second s.sums cs)
    (All-contains (λ k. All (λ p. p.0 < 1024) k.from) rows first s.named cf) (All-contains (λ k. All (λ p. p.0 < 1024) k.from) rows second s.named cs) n m) t in
    record { few = s.few; widths = s.widths; sums = λ i d lt. h i d lt (named i d lt); named = named }
